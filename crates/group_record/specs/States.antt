-- The states of a group call, and the timers that run in each. Assumes nothing.
use Rattle.std.specs.Prelude.{ℕ, Bool, true, false, ◌&&◌}
use Rattle.std.specs.Bool.{beq}
use Rattle.call.specs.declared.GroupTimer.{GroupTimer}
use Rattle.group_record.specs.declared.states.State.{State}
use Rattle.group_record.specs.declared.states.Timers.{Timers}

-- the states by their numbers
abbrev pub state_number : State → ℕ
state_number State.S1 = 1
state_number State.S3 = 3
state_number State.S4 = 4
state_number State.S5 = 5

-- ---- sets of timers

-- whether a timer is in a set
abbrev pub has : Timers → GroupTimer → Bool
has w GroupTimer.Tfg2 = w.tfg2
has w GroupTimer.Tfg4 = w.tfg4
has w GroupTimer.Tfg6 = w.tfg6

-- the set of the timers that pass a test
abbrev pub set_of : (GroupTimer → Bool) → Timers
set_of q = record { tfg2 = q GroupTimer.Tfg2; tfg4 = q GroupTimer.Tfg4; tfg6 = q GroupTimer.Tfg6 }

-- the same timers are in two sets
abbrev pub same_timers : Timers → Timers → Bool
same_timers a b = beq a.tfg2 b.tfg2 && (beq a.tfg4 b.tfg4 && beq a.tfg6 b.tfg6)

-- no timer
abbrev pub no_timer : Timers
no_timer = record { tfg2 = false; tfg4 = false; tfg6 = false }

-- TFG2 alone
abbrev pub tfg2 : Timers
tfg2 = record { tfg2 = true; tfg4 = false; tfg6 = false }

-- TFG4 alone
abbrev pub tfg4 : Timers
tfg4 = record { tfg2 = false; tfg4 = true; tfg6 = false }

-- TFG6 alone
abbrev pub tfg6 : Timers
tfg6 = record { tfg2 = false; tfg4 = false; tfg6 = true }

-- TFG2 and TFG6, both
abbrev pub tfg2_and6 : Timers
tfg2_and6 = record { tfg2 = true; tfg4 = false; tfg6 = true }

-- ---- the table of the states

-- the timers that run: in S1 none, in S3 both TFG2 and TFG6, in S4 and S5 TFG4
abbrev pub running_of : State → Timers
running_of State.S1 = no_timer
running_of State.S3 = tfg2_and6
running_of State.S4 = tfg4
running_of State.S5 = tfg4
