-- Which row an event meets: the rows G1 to G11, each with all that it asks, in the words of Asking.antt. Assumes nothing.
use Rattle.std.specs.Prelude.{ℕ, List, [], ◌∷◌, Bool, not, ◌&&◌, ◌||◌, Option, Some, None}
use Rattle.call.specs.Meeting.{first_met}
use Rattle.call.specs.Announced.{announced_of}
use Rattle.call.specs.declared.Settings.{Settings}
use Rattle.call.specs.declared.GroupTimer.{GroupTimer}
use Rattle.call.specs.declared.Event.{Event}
use Rattle.group_record.specs.declared.states.State.{State}
use Rattle.group_record.specs.declared.states.GroupRecord.{GroupRecord}
use Rattle.group_rows.specs.Causes.{same_cause, cause_of, facts_of}
use Rattle.group_rows.specs.Asking.{in_state, expires, announced}
use Rattle.group_rows.specs.declared.Row.{Row}
use Rattle.group_rows.specs.declared.Row.TheVariants.{G1, G2, G3, G4, G5, G6, G7, G8, G9, G10, G11}
use Rattle.group_rows.specs.declared.causes.Cause.{Cause}
use Rattle.group_rows.specs.declared.causes.Facts.{Facts}

-- the table of the rows: what each asks, of the state f, the cause c and the facts x
abbrev pub rows_ask : State → Cause → Facts → List (Row × Bool)
rows_ask f c x =
    (G1, in_state 1 f && same_cause c Cause.UserStarts)
    ∷ (G2, in_state 3 f && expires GroupTimer.Tfg2 f c)
    ∷ (G3, in_state 1 f && (announced c && x.acknowledgement))
    ∷ (G4, in_state 1 f && (announced c && not x.acknowledgement))
    ∷ (G5, in_state 5 f && same_cause c Cause.UserAccepts)
    ∷ (G6, in_state 4 f && same_cause c Cause.UserAccepts)
    ∷ (G7, (in_state 4 f || in_state 5 f) && (same_cause c Cause.UserRejects || expires GroupTimer.Tfg4 f c))
    ∷ (G8, in_state 3 f && (same_cause c Cause.UserLeaves || expires GroupTimer.Tfg6 f c))
    ∷ (G9, in_state 3 f && (same_cause c Cause.UserRaises && x.better_rank))
    ∷ (G10, in_state 3 f && (announced c && (not x.same && x.better)))
    ∷ (G11, in_state 3 f && (announced c && x.same))
    ∷ []

-- ---- the row that an event meets

-- the row that is met in a state: the first for which all that it asks holds; None where there is none
unfoldable pub row_in : State → Cause → Facts → Option Row
row_in state c x = first_met (rows_ask state c x)

-- the row that an event meets from a record
abbrev pub row_of : Settings → GroupRecord → Event → Option Row
row_of s g e = row_in g.state (cause_of s e) (facts_of s g.call (announced_of s e).call)

-- ---- the rows by number

-- the rows by their numbers, 0 where none is met
abbrev pub row_number : Option Row → ℕ
row_number None = 0
row_number (Some G1) = 1
row_number (Some G2) = 2
row_number (Some G3) = 3
row_number (Some G4) = 4
row_number (Some G5) = 5
row_number (Some G6) = 6
row_number (Some G7) = 7
row_number (Some G8) = 8
row_number (Some G9) = 9
row_number (Some G10) = 10
row_number (Some G11) = 11
