-- Laws of Bools, and tests that are computed for both of them. Assumes nothing.
use Prim.Native.Nat.{ℕ, zero, suc}
use mathlib.Core.Path.{◌≡◌, refl, sym, ap, ◌∙◌}
use mathlib.Core.List.{List, [], ◌∷◌}
use mathlib.Core.Bool.{Bool, true, false, not, ◌&&◌, beq, false≢true}
use lib.ListN.{get_or}
use lib.Dec.{eqb}
use borrow.Author.Tests.{eqb-true}
use Rattle.frame.proofs.Laws.{and_split}

-- both
pub both : (a b : Bool) → a ≡ true → b ≡ true → (a && b) ≡ true
both true b e f = f
both false b e f = e

-- a test that passes holds
pub holds : (b : Bool) → not b ≡ false → b ≡ true
holds true e = refl
holds false e = sym e

-- with false, both are false
pub and-false : (b : Bool) → (b && false) ≡ false
and-false true = refl
and-false false = refl

-- equal Bools
pub beq_same : (a b : Bool) → beq a b ≡ true → a ≡ b
beq_same true true e = refl
beq_same true false e = absurd (false≢true e)
beq_same false true e = absurd (false≢true e)
beq_same false false e = refl

-- things that a list gives back by their numbers are equal where their numbers are
pub by_number : {A : Type 0} (things : List A) (none : A) (number : A → ℕ) → ((a : A) → get_or things (number a) none ≡ a)
    → (a b : A) → eqb (number a) (number b) ≡ true → a ≡ b
by_number things none number back a b e = sym (back a) ∙ ap (λ (n : ℕ). get_or things n none) (eqb-true (number a) (number b) e) ∙ back b

-- ---- tests of everything

-- each of a list of tests
abbrev pub each : List Bool → Bool
each [] = true
each (b ∷ bs) = b && each bs

-- what they show of one
pub nth : (bs : List Bool) (k : ℕ) → each bs ≡ true → get_or bs k true ≡ true
nth [] k t = refl
nth (b ∷ bs) zero t = (and_split b (each bs) t).0
nth (b ∷ bs) (suc k) t = nth bs k (and_split b (each bs) t).1

-- of both Bools
abbrev pub both_bools : (Bool → Bool) → Bool
both_bools q = each (q true ∷ q false ∷ [])

-- of one
pub at-bool : (q : Bool → Bool) → both_bools q ≡ true → (b : Bool) → q b ≡ true
at-bool q t true = nth (q true ∷ q false ∷ []) 0 t
at-bool q t false = nth (q true ∷ q false ∷ []) 1 t
