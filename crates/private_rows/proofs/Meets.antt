-- The code finds the row that is met, and no event meets two; the expiry of a timer that does not run meets none. Assumes nothing.
use mathlib.Core.Path.{◌≡◌, refl, sym, ap, ◌∙◌}
use mathlib.Core.List.{List, [], ◌∷◌}
use mathlib.Core.Bool.{Bool, true, false, ◌||◌, true≢false}
use lib.ListN.{get_or}
use lib.Dec.{eqb}
use Rattle.std.specs.Prelude.{Option, Some, None}
use Rattle.call.specs.Meeting.{first_met, one_met}
use Rattle.call.specs.declared.PrivateTimer.{PrivateTimer}
use Rattle.call.proofs.Laws.{by_number}
use Rattle.private_record.specs.declared.states.Phase.{Phase}
use Rattle.private_rows.specs.Causes.{private_timer_cause}
use Rattle.private_rows.specs.Asking.{runs}
use Rattle.private_rows.specs.Rows.{row_number, row_in, rows_ask}
use Rattle.private_rows.specs.Found.{found_at}
use Rattle.private_rows.specs.declared.Row.{Row}
use Rattle.private_rows.specs.declared.Row.TheVariants.{R1, R2, R3, R4, R5, R6, R7, R8, R9, R10, R11, R12, R13, R14, R15, R16, R17, R18, R19, R20, R21, R22, R23, R24, R25, R26, R27, R28, R29}
use Rattle.private_rows.specs.declared.causes.Cause.{Cause}
use Rattle.private_rows.specs.declared.causes.Facts.{Facts}
use Rattle.private_rows.proofs.Everywhere.{every_phase, at-phase, every_timer, at-timer, everywhere, anywhere}

-- the rows in the order of their numbers
abbrev rows : List (Option Row)
rows = None ∷ Some R1 ∷ Some R2 ∷ Some R3 ∷ Some R4 ∷ Some R5 ∷ Some R6 ∷ Some R7 ∷ Some R8 ∷ Some R9 ∷ Some R10 ∷ Some R11 ∷ Some R12 ∷ Some R13 ∷ Some R14 ∷ Some R15 ∷ Some R16 ∷ Some R17 ∷ Some R18 ∷ Some R19 ∷ Some R20 ∷ Some R21 ∷ Some R22 ∷ Some R23 ∷ Some R24 ∷ Some R25 ∷ Some R26 ∷ Some R27 ∷ Some R28 ∷ Some R29 ∷ []

-- a row is found by its number
row_back : (r : Option Row) → get_or rows (row_number r) None ≡ r
row_back None = refl
row_back (Some R1) = refl
row_back (Some R2) = refl
row_back (Some R3) = refl
row_back (Some R4) = refl
row_back (Some R5) = refl
row_back (Some R6) = refl
row_back (Some R7) = refl
row_back (Some R8) = refl
row_back (Some R9) = refl
row_back (Some R10) = refl
row_back (Some R11) = refl
row_back (Some R12) = refl
row_back (Some R13) = refl
row_back (Some R14) = refl
row_back (Some R15) = refl
row_back (Some R16) = refl
row_back (Some R17) = refl
row_back (Some R18) = refl
row_back (Some R19) = refl
row_back (Some R20) = refl
row_back (Some R21) = refl
row_back (Some R22) = refl
row_back (Some R23) = refl
row_back (Some R24) = refl
row_back (Some R25) = refl
row_back (Some R26) = refl
row_back (Some R27) = refl
row_back (Some R28) = refl
row_back (Some R29) = refl

-- rows with the same number are the same
pub same_row : (a b : Option Row) → eqb (row_number a) (row_number b) ≡ true → a ≡ b
same_row = by_number rows None row_number row_back

-- the row found is the row met
abbrev finds : Phase → Cause → Facts → Bool
finds f c x = eqb (row_number (found_at f c x)) (row_number (first_met (rows_ask f c x)))

-- everywhere
pub found-is-met : (f : Phase) (c : Cause) (x : Facts) → found_at f c x ≡ row_in f c x
unfolding row_in
found-is-met f c x = same_row (found_at f c x) (first_met (rows_ask f c x)) (anywhere finds (λ x. refl) f c x)

-- what is computed of the row found, everywhere, holds of the row met, anywhere
pub each_row : (q : Phase → Cause → Option Row → Bool) → ((x : Facts) → everywhere (λ f c x. q f c (found_at f c x)) x ≡ true)
    → (f : Phase) (c : Cause) (x : Facts) → q f c (row_in f c x) ≡ true
each_row q t f c x = ap (q f c) (sym (found-is-met f c x)) ∙ anywhere (λ f c x. q f c (found_at f c x)) t f c x

-- ---- the expiry of a timer that does not run

-- in any phase, whatever the facts are
quiet-test : (x : Facts) → every_phase (λ f. every_timer (λ t. runs t f || eqb (row_number (found_at f (private_timer_cause t) x)) 0)) ≡ true
quiet-test x = refl

-- the expiry of a timer that does not run meets no row
pub quiet-expiry : (t : PrivateTimer) (f : Phase) (x : Facts) → runs t f ≡ false → row_in f (private_timer_cause t) x ≡ None
quiet-expiry t f x h =
    let row = found_at f (private_timer_cause t) x in
    let e = at-timer (λ t. runs t f || eqb (row_number (found_at f (private_timer_cause t) x)) 0)
    (at-phase (λ f. every_timer (λ t. runs t f || eqb (row_number (found_at f (private_timer_cause t) x)) 0)) (quiet-test x) f) t in
    sym (found-is-met f (private_timer_cause t) x) ∙ same_row row None (other (runs t f) (eqb (row_number row) 0) h e)
  where
    other : (a b : Bool) → a ≡ false → (a || b) ≡ true → b ≡ true
    other true b h e = absurd (true≢false h)
    other false b h e = e

-- one row at most is met, everywhere
pub rows_apart : (f : Phase) (c : Cause) (x : Facts) → one_met (rows_ask f c x) ≡ true
rows_apart = anywhere (λ f c x. one_met (rows_ask f c x)) (λ x. refl)
