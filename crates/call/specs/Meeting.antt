-- Which row of a list is met, whatever the rows are. Assumes nothing.
use Rattle.std.specs.Prelude.{List, [], ◌∷◌, Bool, true, cond, not, ◌&&◌, Option, Some, None}

-- the first row of a list for which all that it asks holds, where there is one
abbrev pub first_met : {Row : Type 0} → List (Row × Bool) → Option Row
first_met [] = None
first_met (row ∷ rows) = cond row.1 (Some row.0) (first_met rows)

-- no row of a list is met
abbrev pub none_met : {Row : Type 0} → List (Row × Bool) → Bool
none_met [] = true
none_met (row ∷ rows) = not row.1 && none_met rows

-- one row at most is met, so the order of the rows does not matter
abbrev pub one_met : {Row : Type 0} → List (Row × Bool) → Bool
one_met [] = true
one_met (row ∷ rows) = cond row.1 (none_met rows) (one_met rows)
