-- A 0 behind the last value changes no value. Assumes nothing.
use Prim.Native.Nat.{ℕ, zero, suc}
use mathlib.Core.Path.{◌≡◌, refl}
use mathlib.Core.List.{List, [], ◌∷◌, ◌++◌}
use lib.ListN.{get_or}

-- what is not there is 0 too
pub zero-behind : (l : List ℕ) (place : ℕ) → get_or (l ++ 0 ∷ []) place 0 ≡ get_or l place 0
zero-behind [] zero = refl
zero-behind [] (suc n) = refl
zero-behind (x ∷ l) zero = refl
zero-behind (x ∷ l) (suc n) = zero-behind l n
