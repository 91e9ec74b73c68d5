-- The code finds the row that is met, and no event meets two. Assumes nothing.
use mathlib.Core.Path.{◌≡◌, refl, sym, ap, ◌∙◌}
use mathlib.Core.List.{List, [], ◌∷◌}
use mathlib.Core.Bool.{Bool, true}
use lib.ListN.{get_or}
use lib.Dec.{eqb}
use Rattle.std.specs.Prelude.{Option, Some, None}
use Rattle.call.specs.Meeting.{first_met, one_met}
use Rattle.call.proofs.Laws.{by_number}
use Rattle.group_record.specs.declared.states.State.{State}
use Rattle.group_rows.specs.Rows.{row_number, rows_ask, row_in}
use Rattle.group_rows.specs.Found.{found_at}
use Rattle.group_rows.specs.declared.Row.{Row}
use Rattle.group_rows.specs.declared.Row.TheVariants.{G1, G2, G3, G4, G5, G6, G7, G8, G9, G10, G11}
use Rattle.group_rows.specs.declared.causes.Cause.{Cause}
use Rattle.group_rows.specs.declared.causes.Facts.{Facts}
use Rattle.group_rows.proofs.Everywhere.{everywhere, anywhere}

-- the rows in the order of their numbers
abbrev rows : List (Option Row)
rows = None ∷ Some G1 ∷ Some G2 ∷ Some G3 ∷ Some G4 ∷ Some G5 ∷ Some G6 ∷ Some G7 ∷ Some G8 ∷ Some G9 ∷ Some G10 ∷ Some G11 ∷ []

-- a row is found by its number
row_back : (r : Option Row) → get_or rows (row_number r) None ≡ r
row_back None = refl
row_back (Some G1) = refl
row_back (Some G2) = refl
row_back (Some G3) = refl
row_back (Some G4) = refl
row_back (Some G5) = refl
row_back (Some G6) = refl
row_back (Some G7) = refl
row_back (Some G8) = refl
row_back (Some G9) = refl
row_back (Some G10) = refl
row_back (Some G11) = refl

-- rows with the same number are the same
pub same_row : (a b : Option Row) → eqb (row_number a) (row_number b) ≡ true → a ≡ b
same_row = by_number rows None row_number row_back

-- the row found is the row met
abbrev finds : State → Cause → Facts → Bool
finds f c x = eqb (row_number (found_at f c x)) (row_number (first_met (rows_ask f c x)))

-- everywhere
pub found-is-met : (f : State) (c : Cause) (x : Facts) → found_at f c x ≡ row_in f c x
unfolding row_in
found-is-met f c x = same_row (found_at f c x) (first_met (rows_ask f c x)) (anywhere finds refl f c x)

-- what is computed of the row found, everywhere, holds of the row met, anywhere
pub each_row : (q : State → Cause → Option Row → Bool) → everywhere (λ f c x. q f c (found_at f c x)) ≡ true
    → (f : State) (c : Cause) (x : Facts) → q f c (row_in f c x) ≡ true
each_row q t f c x = ap (q f c) (sym (found-is-met f c x)) ∙ anywhere (λ f c x. q f c (found_at f c x)) t f c x

-- one row at most is met, everywhere
pub rows_apart : (f : State) (c : Cause) (x : Facts) → one_met (rows_ask f c x) ≡ true
rows_apart = anywhere (λ f c x. one_met (rows_ask f c x)) refl
