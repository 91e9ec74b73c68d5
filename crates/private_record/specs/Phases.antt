-- The states of a private call, and its phases: a state with its running timers. Assumes nothing.
use Rattle.std.specs.Prelude.{ℕ, Bool, true, false, cond, ◌&&◌}
use Rattle.std.specs.Bool.{beq}
use Rattle.call.specs.declared.Counters.{Counters}
use Rattle.call.specs.declared.PrivateTimer.{PrivateTimer}
use Rattle.private_record.specs.declared.states.State.{State}
use Rattle.private_record.specs.declared.states.Timers.{Timers}
use Rattle.private_record.specs.declared.states.Phase.{Phase}
use Rattle.private_record.specs.declared.states.PrivateRecord.{PrivateRecord}

-- the states by their numbers
abbrev pub state_number : State → ℕ
state_number State.P0 = 0
state_number State.P1 = 1
state_number State.P2 = 2
state_number State.P3 = 3
state_number State.P4 = 4
state_number State.P5 = 5

-- ---- sets of timers

-- whether a timer is in a set
abbrev pub has : Timers → PrivateTimer → Bool
has w PrivateTimer.Tfp1 = w.tfp1
has w PrivateTimer.Tfp2 = w.tfp2
has w PrivateTimer.Tfp3 = w.tfp3
has w PrivateTimer.Tfp4 = w.tfp4
has w PrivateTimer.Tfp5 = w.tfp5
has w PrivateTimer.Tfp7 = w.tfp7

-- the set of the timers that pass a test
abbrev pub set_of : (PrivateTimer → Bool) → Timers
set_of q =
    record {
      tfp1 = q PrivateTimer.Tfp1;
      tfp2 = q PrivateTimer.Tfp2;
      tfp3 = q PrivateTimer.Tfp3;
      tfp4 = q PrivateTimer.Tfp4;
      tfp5 = q PrivateTimer.Tfp5;
      tfp7 = q PrivateTimer.Tfp7;
    }

-- the same timers are in two sets
abbrev pub same_timers : Timers → Timers → Bool
same_timers a b =
    beq a.tfp1 b.tfp1
    && (beq a.tfp2 b.tfp2
    && (beq a.tfp3 b.tfp3
    && (beq a.tfp4 b.tfp4 && (beq a.tfp5 b.tfp5 && beq a.tfp7 b.tfp7))))

-- no timer
abbrev pub no_timer : Timers
no_timer = record { tfp1 = false; tfp2 = false; tfp3 = false; tfp4 = false; tfp5 = false; tfp7 = false }

-- TFP1 alone
abbrev pub tfp1 : Timers
tfp1 = record { tfp1 = true; tfp2 = false; tfp3 = false; tfp4 = false; tfp5 = false; tfp7 = false }

-- TFP2 alone
abbrev pub tfp2 : Timers
tfp2 = record { tfp1 = false; tfp2 = true; tfp3 = false; tfp4 = false; tfp5 = false; tfp7 = false }

-- TFP3 alone
abbrev pub tfp3 : Timers
tfp3 = record { tfp1 = false; tfp2 = false; tfp3 = true; tfp4 = false; tfp5 = false; tfp7 = false }

-- TFP4 alone
abbrev pub tfp4 : Timers
tfp4 = record { tfp1 = false; tfp2 = false; tfp3 = false; tfp4 = true; tfp5 = false; tfp7 = false }

-- TFP5 alone
abbrev pub tfp5 : Timers
tfp5 = record { tfp1 = false; tfp2 = false; tfp3 = false; tfp4 = false; tfp5 = true; tfp7 = false }

-- TFP7 alone
abbrev pub tfp7 : Timers
tfp7 = record { tfp1 = false; tfp2 = false; tfp3 = false; tfp4 = false; tfp5 = false; tfp7 = true }

-- ---- the table of phases

-- the state of a phase
abbrev pub state_of : Phase → State
state_of Phase.P0 = State.P0
state_of Phase.P1 = State.P1
state_of Phase.P2Tfp1 = State.P2
state_of Phase.P2Tfp2 = State.P2
state_of Phase.P3 = State.P3
state_of Phase.P4 = State.P4
state_of Phase.P5Tfp2 = State.P5
state_of Phase.P5Tfp4 = State.P5

-- what runs in it
abbrev pub running_of : Phase → Timers
running_of Phase.P0 = no_timer
running_of Phase.P1 = tfp7
running_of Phase.P2Tfp1 = tfp1
running_of Phase.P2Tfp2 = tfp2
running_of Phase.P3 = tfp3
running_of Phase.P4 = tfp5
running_of Phase.P5Tfp2 = tfp2
running_of Phase.P5Tfp4 = tfp4

-- the counter that counts in it, of the counters or of their limits; 0 where none does
abbrev pub count_of : Phase → Counters → ℕ
count_of Phase.P0 c = 0
count_of Phase.P1 c = 0
count_of Phase.P2Tfp1 c = c.cfp1
count_of Phase.P2Tfp2 c = 0
count_of Phase.P3 c = c.cfp3
count_of Phase.P4 c = 0
count_of Phase.P5Tfp2 c = 0
count_of Phase.P5Tfp4 c = c.cfp4

-- the phase of a state where these timers run: TFP1 tells the two of P2 apart, and TFP2 the two of P5
abbrev pub phase_in : State → Timers → Phase
phase_in State.P0 w = Phase.P0
phase_in State.P1 w = Phase.P1
phase_in State.P2 w = cond w.tfp1 Phase.P2Tfp1 Phase.P2Tfp2
phase_in State.P3 w = Phase.P3
phase_in State.P4 w = Phase.P4
phase_in State.P5 w = cond w.tfp2 Phase.P5Tfp2 Phase.P5Tfp4

-- the phase of a record
abbrev pub phase_of : PrivateRecord → Phase
phase_of p = phase_in p.state p.running
