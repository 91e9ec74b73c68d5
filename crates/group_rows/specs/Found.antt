-- Nobody has to believe this file: it says how the row is found from the cause first, and `found-is-met` shows that it is the row of
-- Rows.antt. Assumes nothing.
use Rattle.std.specs.Prelude.{cond, ◌&&◌, ◌||◌, Option, Some, None}
use Rattle.std.specs.Bool.{then_some}
use Rattle.group_record.specs.declared.states.State.{State}
use Rattle.group_rows.specs.Asking.{in_state}
use Rattle.group_rows.specs.declared.Row.{Row}
use Rattle.group_rows.specs.declared.Row.TheVariants.{G1, G2, G3, G4, G5, G6, G7, G8, G9, G10, G11}
use Rattle.group_rows.specs.declared.causes.Cause.{Cause}
use Rattle.group_rows.specs.declared.causes.Facts.{Facts}

-- the row of an announcement of the own group
abbrev pub announced_row : State → Facts → Option Row
announced_row f x =
    cond (in_state 1 f) (Some (cond x.acknowledgement G3 G4)) (cond (in_state 3 f) (cond x.same (Some G11) (then_some x.better G10)) None)

-- the row by the cause
abbrev pub found_at : State → Cause → Facts → Option Row
found_at f Cause.UserStarts x = then_some (in_state 1 f) G1
found_at f Cause.UserAccepts x = cond (in_state 5 f) (Some G5) (then_some (in_state 4 f) G6)
found_at f Cause.UserRejects x = then_some (in_state 4 f || in_state 5 f) G7
found_at f Cause.UserLeaves x = then_some (in_state 3 f) G8
found_at f Cause.UserRaises x = then_some (in_state 3 f && x.better_rank) G9
found_at f Cause.Tfg2Expires x = then_some (in_state 3 f) G2
found_at f Cause.Tfg4Expires x = then_some (in_state 4 f || in_state 5 f) G7
found_at f Cause.Tfg6Expires x = then_some (in_state 3 f) G8
found_at f Cause.AnnouncementHeard x = announced_row f x
found_at f Cause.Other x = None
