-- How long a frame of each kind is. Assumes nothing.
use Rattle.std.specs.Prelude.{ℕ, List, [], ◌∷◌}

-- the bytes of a frame, from kind 0, which is none, to kind 9
abbrev pub totals : List ℕ
totals = 0 ∷ 21 ∷ 11 ∷ 15 ∷ 12 ∷ 11 ∷ 11 ∷ 11 ∷ 31 ∷ 12 ∷ []
