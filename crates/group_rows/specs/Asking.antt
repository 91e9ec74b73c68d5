-- The words in which the rows G1 to G11 ask, of the state and the cause c. Assumes nothing.
use Rattle.std.specs.Prelude.{ℕ, Bool, ◌&&◌, eqb}
use Rattle.call.specs.declared.GroupTimer.{GroupTimer}
use Rattle.group_record.specs.States.{state_number, has, running_of}
use Rattle.group_record.specs.declared.states.State.{State}
use Rattle.group_rows.specs.Causes.{group_timer_cause, same_cause}
use Rattle.group_rows.specs.declared.causes.Cause.{Cause}

-- the state has this number
abbrev pub in_state : ℕ → State → Bool
in_state n state = eqb (state_number state) n

-- a timer runs
abbrev pub runs : GroupTimer → State → Bool
runs t state = has (running_of state) t

-- a timer that runs expires; the expiry of any other meets no row
abbrev pub expires : GroupTimer → State → Cause → Bool
expires t state c = same_cause c (group_timer_cause t) && runs t state

-- an announcement that counts is heard
abbrev pub announced : Cause → Bool
announced c = same_cause c Cause.AnnouncementHeard
