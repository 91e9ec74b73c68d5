-- The words in which the rows R1 to R29 ask, of the phase f, the cause c and the facts x. Assumes nothing.
use Rattle.std.specs.Prelude.{ℕ, Bool, not, ◌&&◌, ◌||◌, eqb}
use Rattle.call.specs.declared.PrivateTimer.{PrivateTimer}
use Rattle.private_record.specs.Phases.{state_number, has, state_of, running_of}
use Rattle.private_record.specs.declared.states.Phase.{Phase}
use Rattle.private_rows.specs.Causes.{private_timer_cause, same_cause}
use Rattle.private_rows.specs.declared.causes.Cause.{Cause}
use Rattle.private_rows.specs.declared.causes.Facts.{Facts}

-- the state has this number
abbrev pub in_state : ℕ → Phase → Bool
in_state n f = eqb (state_number (state_of f)) n

-- a timer runs
abbrev pub runs : PrivateTimer → Phase → Bool
runs t f = has (running_of f) t

-- a timer that runs expires; the expiry of any other meets no row
abbrev pub expires : PrivateTimer → Phase → Cause → Bool
expires t f c = same_cause c (private_timer_cause t) && runs t f

-- a setup request that counts is heard in P0 or P1, and is not the same: the case of R19 to R22
abbrev pub new_request : Phase → Cause → Facts → Bool
new_request f c x = (in_state 0 f || in_state 1 f) && (same_cause c Cause.SetupHeard && not x.same)

-- a message of this kind is heard, and it is the same
abbrev pub same : Cause → Cause → Facts → Bool
same kind c x = same_cause c kind && x.same
