-- Nobody has to believe this file: it says how the row is found from the cause first, and `found-is-met` shows that it is the row of
-- Rows.antt. Assumes nothing.
use Rattle.std.specs.Prelude.{cond, not, ◌&&◌, ◌||◌, Option, Some, None}
use Rattle.std.specs.Bool.{then_some}
use Rattle.call.specs.declared.PrivateTimer.{PrivateTimer}
use Rattle.private_record.specs.declared.states.Phase.{Phase}
use Rattle.private_rows.specs.Asking.{in_state, runs}
use Rattle.private_rows.specs.declared.Row.{Row}
use Rattle.private_rows.specs.declared.Row.TheVariants.{R1, R2, R3, R4, R5, R6, R7, R8, R9, R10, R11, R12, R13, R14, R15, R16, R17, R18, R19, R20, R21, R22, R23, R24, R25, R26, R27, R28, R29}
use Rattle.private_rows.specs.declared.causes.Cause.{Cause}
use Rattle.private_rows.specs.declared.causes.Facts.{Facts}

-- the row of a setup request that counts, is not the same, and is heard in P0 or P1
abbrev pub setup_row : Facts → Row
setup_row x = cond (not x.media_verdict) R19 (cond x.manual R22 (cond x.trusted R20 R21))

-- the row by the cause
abbrev pub found_at : Phase → Cause → Facts → Option Row
found_at f Cause.UserStarts x = then_some (in_state 0 f || in_state 1 f) R1
found_at f Cause.UserEnds x = cond (in_state 2 f) (Some R8) (then_some (in_state 4 f) R9)
found_at f Cause.UserAccepts x = then_some (in_state 5 f && runs PrivateTimer.Tfp2 f) (cond x.trusted R23 R24)
found_at f Cause.UserRejects x = then_some (in_state 5 f && runs PrivateTimer.Tfp2 f) R25
found_at f Cause.Tfp1Expires x = then_some (runs PrivateTimer.Tfp1 f) (cond x.under R2 R3)
found_at f Cause.Tfp2Expires x = then_some (runs PrivateTimer.Tfp2 f) (cond (in_state 2 f) R7 R26)
found_at f Cause.Tfp3Expires x = then_some (runs PrivateTimer.Tfp3 f) (cond x.under R10 R11)
found_at f Cause.Tfp4Expires x = then_some (runs PrivateTimer.Tfp4 f) (cond x.under R16 R17)
found_at f Cause.Tfp5Expires x = then_some (runs PrivateTimer.Tfp5 f) R15
found_at f Cause.Tfp7Expires x = then_some (runs PrivateTimer.Tfp7 f) R28
found_at f Cause.SetupHeard x = then_some (not x.same) (cond (in_state 0 f || in_state 1 f) (setup_row x) R27)
found_at f Cause.RingingHeard x = then_some (runs PrivateTimer.Tfp1 f && x.same) R4
found_at f Cause.AcceptHeard x =
    cond (in_state 2 f) (then_some (x.same && x.media_verdict) R5) (then_some (in_state 4 f && (x.same && x.own_caller)) R29)
found_at f Cause.RejectHeard x = then_some (in_state 2 f && x.same) R6
found_at f Cause.ReleaseHeard x =
    cond (in_state 1 f) (then_some x.same R14) (then_some ((in_state 3 f || (in_state 4 f || in_state 5 f)) && x.same) R13)
found_at f Cause.ReleaseAckHeard x = then_some (in_state 3 f && x.same) R12
found_at f Cause.AcceptAckHeard x = then_some (runs PrivateTimer.Tfp4 f && x.same) R18
found_at f Cause.Other x = None
