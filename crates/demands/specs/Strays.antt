-- What meets no row, and what is refused: steps that change nothing. Assumes nothing.
use Rattle.std.specs.Prelude.{List, [], ◌∷◌, true, false, ℕ, replicate}
use Rattle.frame.specs.Range.{private_type}
use Rattle.frame.specs.declared.Message.{Message}
use Rattle.frame.specs.declared.Message.TheVariants.{SetupRequest, Ringing, Accept, Reject, Release, AcceptAck, Announcement, GroupAccept}
use Rattle.call.specs.Settings.{no_counters}
use Rattle.call.specs.declared.Settings.{Settings}
use Rattle.call.specs.declared.PrivateTimer.{PrivateTimer}
use Rattle.call.specs.declared.Timer.{Timer}
use Rattle.call.specs.declared.GroupTimer.{GroupTimer}
use Rattle.call.specs.declared.PrivateAction.{PrivateAction}
use Rattle.call.specs.declared.GroupAction.{GroupAction}
use Rattle.call.specs.declared.Action.{Action}
use Rattle.call.specs.declared.Event.{Event}
use Rattle.call.specs.declared.Input.{Input}
use Rattle.private_record.specs.Phases.{running_of}
use Rattle.private_record.specs.Formed.{no_call, cleared_record}
use Rattle.private_record.specs.declared.states.State.{State}
use Rattle.private_record.specs.declared.states.Timers.{Timers}
use Rattle.private_record.specs.declared.states.Phase.{Phase}
use Rattle.private_record.specs.declared.states.PrivateRecord.{PrivateRecord}
use Rattle.demands.specs.Machines.{Machine, IsRefused, IsDiscarded, private_machine}
use Rattle.demands.specs.Played.{crew_with, crew, secure, outdated, outgoing, ours, theirs, taken, cfp1_at, cfp4_at, stored, input, hears, hears_in_vain, request, does, starts, expires}

-- ---- what meets no row

-- what is stored and what happens to no avail, of a call machine
abbrev pub Stray : Machine → Type 0
Stray M = M.Stored × Input

-- under these settings each is discarded, with no buffer at all
abbrev pub AllStray : (M : Machine) → Settings → List (Stray M) → Type 0
AllStray M s [] = Unit {0}
AllStray M s (x ∷ xs) = IsDiscarded M s x.0 x.1 [] × AllStray M s xs

-- a good announcement of group 3
abbrev pub announced : Message
announced =
    Announcement
    (record {
      identifier = 16;
      group = 3;
      call_type = 2;
      refresh = 30;
      originator = 7;
      start = 1000;
      last_change = 1000;
      last_changer = 7;
    }) 1

-- a request from one user to another
abbrev pub request_between : ℕ → ℕ → Message
request_between caller callee =
    SetupRequest (record { identifier = 0x1235; caller = caller; callee = callee }) (record { commencement = 0; call_type = private_type; pck_id = 0 })

-- of the private call machine
unfoldable pub strays : List (Stray private_machine)
strays =
    (stored Phase.P2Tfp1 (cfp1_at 1) ours, input (Event.Action (Action.Group GroupAction.Leave)) true true)
    ∷ (stored Phase.P4 no_counters ours, input (Event.Expiry (Timer.Group GroupTimer.Tfg2)) true true)
    ∷ (stored Phase.P4 no_counters ours, hears announced)
    ∷ (cleared_record, hears (GroupAccept (record { identifier = 16; sender = 9; call_type = 2; group = 3 })))
    ∷ (cleared_record, hears (request_between 9 8))
    ∷ (cleared_record, hears (request_between 7 7))
    ∷ (stored Phase.P2Tfp2 no_counters ours, hears_in_vain (Accept ours.parties))
    ∷ (stored Phase.P2Tfp2 no_counters ours, hears (Ringing ours.parties))
    ∷ (stored Phase.P5Tfp2 no_counters theirs, hears (AcceptAck theirs.parties))
    ∷ (stored Phase.P4 no_counters theirs, hears (Accept theirs.parties))
    ∷ (stored Phase.P5Tfp4 (cfp4_at 1) (taken 0 0), hears (request 0 0))
    ∷ (stored Phase.P0 no_counters (taken 0 secure), hears (request 0 secure))
    ∷ (stored Phase.P4 no_counters ours, hears (Release (taken 0 0).parties))
    ∷ []

-- ---- what is refused

-- of a call machine: number, settings, record, input and the length of the buffer
abbrev pub Refusal : Machine → Type 0
Refusal M = ℕ × Settings × M.Stored × Input × ℕ

-- each is refused so
abbrev pub AllRefused : (M : Machine) → List (Refusal M) → Type 0
AllRefused M [] = Unit {0}
AllRefused M (x ∷ xs) = IsRefused M x.0 x.1 x.2 x.3 (replicate x.4 0) × AllRefused M xs

-- our call in a state with any timers
abbrev pub running : State → Timers → PrivateRecord
running state timers = record { state = state; running = timers; counters = no_counters; call = ours }

-- of the private call machine
unfoldable pub refusals : List (Refusal private_machine)
refusals =
    (5, crew, stored Phase.P4 no_counters ours, hears (Reject theirs.parties 5), 63)
    ∷ (5, crew, cleared_record, hears (GroupAccept (record { identifier = 0; sender = 9; call_type = 2; group = 3 })), 0)
    ∷ (5, crew, cleared_record, hears (request 0 outdated), 63)
    ∷ (5, crew, cleared_record, hears (request 0 0x0fff_ffff), 63)
    ∷ (6, crew, stored Phase.P2Tfp1 (cfp1_at 1) ours, expires PrivateTimer.Tfp1, 42)
    ∷ (7, crew_with false 0, stored Phase.P2Tfp1 (cfp1_at 17) ours, starts 0x1234 0, 0)
    ∷ (8, crew, stored Phase.P4 no_counters ours, starts 0 0, 0)
    ∷ (8, crew, stored Phase.P1 no_counters ours, starts 0x1234 0, 0)
    ∷ (8, crew, cleared_record, starts 0x1235 outdated, 63)
    ∷ (9, crew, stored Phase.P2Tfp1 (cfp1_at 4) ours, starts 0 0, 0)
    ∷ (9, crew_with false 16, stored Phase.P2Tfp1 (cfp1_at 17) ours, starts 0 0, 0)
    ∷ (9, crew, stored Phase.P2Tfp1 (cfp1_at 1) theirs, starts 0x1235 0, 63)
    ∷ (9, crew, stored Phase.P4 (cfp4_at 1) ours, does PrivateAction.End, 63)
    ∷ (9, crew, stored Phase.P4 no_counters (outgoing 0x1234 outdated), does PrivateAction.End, 63)
    ∷ (9, crew, stored Phase.P1 no_counters no_call, expires PrivateTimer.Tfp7, 63)
    ∷ (9, crew, running State.P2 (record { tfp1 = true; tfp2 = true; tfp3 = false; tfp4 = false; tfp5 = false; tfp7 = false }), expires PrivateTimer.Tfp2, 63)
    ∷ (9, crew, running State.P4 (running_of Phase.P1), expires PrivateTimer.Tfp7, 63)
    ∷ []
