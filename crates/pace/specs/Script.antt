-- Who plays a script, and what each of its bytes stands for. Assumes nothing.
use Rattle.std.specs.Prelude.{ℕ, List, [], ◌∷◌, Bool, true, false, not, cond, ◌||◌, eqb}
use Rattle.frame.specs.declared.Acceptance.{Acceptance}
use Rattle.frame.specs.declared.GroupCall.{GroupCall}
use Rattle.frame.specs.declared.Media.{Media}
use Rattle.frame.specs.declared.Message.TheVariants.{SetupRequest, Ringing, Accept, Reject, Release, ReleaseAck, AcceptAck, Announcement, GroupAccept}
use Rattle.frame.specs.declared.Parties.{Parties}
use Rattle.frame.specs.declared.Setup.{Setup}
use Rattle.call.specs.declared.Settings.{Settings}
use Rattle.call.specs.declared.PrivateTimer.{PrivateTimer}
use Rattle.call.specs.declared.GroupTimer.{GroupTimer}
use Rattle.call.specs.declared.Timer.{Timer}
use Rattle.call.specs.declared.PrivateStart.{PrivateStart}
use Rattle.call.specs.declared.PrivateAction.{PrivateAction}
use Rattle.call.specs.declared.GroupStart.{GroupStart}
use Rattle.call.specs.declared.GroupRaise.{GroupRaise}
use Rattle.call.specs.declared.GroupAction.{GroupAction}
use Rattle.call.specs.declared.Action.{Action}
use Rattle.call.specs.declared.Event.{Event}
use Rattle.call.specs.declared.Input.{Input}

-- ---- who plays

-- user 7 of group 3, who is asked before a group call is joined, every limit 3
abbrev pub player : Settings
player = record { own_user = 7; own_group = 3; restrict = false; acknowledgement = true; limits = record { cfp1 = 3; cfp3 = 3; cfp4 = 3 } }

-- ---- what is said

-- the call that user 7 makes to user 9
abbrev pub ours : Parties
ours = record { identifier = 0x1234; caller = 7; callee = 9 }

-- a call that user 9 makes to user 7
abbrev pub theirs : ℕ → Parties
theirs identifier = record { identifier = identifier; caller = 9; callee = 7 }

-- what user 7 names who starts the private call
abbrev pub our_start : PrivateStart
our_start = record { identifier = 0x1234; callee = 9; commencement = 0; pck_id = 0 }

-- what the request of user 9 says besides: manual commencement, no PCK-ID
abbrev pub their_setup : Setup
their_setup = record { commencement = 1; call_type = 4; pck_id = 0 }

-- what user 7 names who starts the group call: basic, at the time 1000, with confirm
abbrev pub group_start : GroupStart
group_start = record { identifier = 16; call_type = 1; refresh = 30; confirm = 1; now = 1000 }

-- a call of user 9, unchanged since its start
abbrev pub announced : ℕ → ℕ → ℕ → ℕ → GroupCall
announced identifier group type start =
    record { identifier = identifier; group = group; call_type = type; refresh = 30; originator = 9; start = start; last_change = start; last_changer = 9 }

-- what user 7 raises it to: emergency, at the time 1200
abbrev pub group_raise : GroupRaise
group_raise = record { call_type = 2; now = 1200 }

-- the accept of user 9
abbrev pub accepted : Acceptance
accepted = record { identifier = 16; sender = 9; call_type = 2; group = 3 }

-- ---- what happens

-- a user action on a private call
abbrev pub acts : PrivateAction → Event
acts action = Event.Action (Action.Private action)

-- a user action on a group call
abbrev pub acts_in_group : GroupAction → Event
acts_in_group action = Event.Action (Action.Group action)

-- a call of user 9 is announced, with confirm
abbrev pub announces : ℕ → ℕ → ℕ → ℕ → Event
announces identifier group type start = Event.Message (Announcement (announced identifier group type start) 1)

-- the event with a number in a list, another where there is none
abbrev pub event_with : Event → List (ℕ × Event) → ℕ → Event
event_with other [] byte = other
event_with other (event ∷ events) byte = cond (eqb byte event.0) event.1 (event_with other events byte)

-- what a byte stands for to the private machine; any that is not in the list is a reject in another call
abbrev pub private_event : ℕ → Event
private_event =
    event_with (Event.Message (Reject (theirs 0x0999) 2))
    (
    (0, acts (PrivateAction.Start our_start))
    ∷ (1, Event.Message (Ringing ours))
    ∷ (2, Event.Message (Accept ours))
    ∷ (3, acts PrivateAction.End)
    ∷ (4, Event.Message (ReleaseAck ours))
    ∷ (5, Event.Expiry (Timer.Private PrivateTimer.Tfp7))
    ∷ (6, Event.Message (SetupRequest (theirs 0x4321) their_setup))
    ∷ (7, acts PrivateAction.Accept)
    ∷ (8, Event.Message (AcceptAck (theirs 0x4321)))
    ∷ (9, Event.Message (Release (theirs 0x4321)))
    ∷ (10, Event.Expiry (Timer.Private PrivateTimer.Tfp1))
    ∷ []
    )

-- what a byte stands for to the group machine; any that is not in the list is an announcement to another group
abbrev pub group_event : ℕ → Event
group_event =
    event_with (announces 17 4 2 1100)
    (
    (0, acts_in_group (GroupAction.Start group_start))
    ∷ (1, Event.Expiry (Timer.Group GroupTimer.Tfg2))
    ∷ (2, announces 17 3 2 1100)
    ∷ (3, announces 18 3 1 2000)
    ∷ (4, acts_in_group (GroupAction.Raise group_raise))
    ∷ (5, acts_in_group GroupAction.Leave)
    ∷ (6, acts_in_group GroupAction.Accept)
    ∷ (7, acts_in_group GroupAction.Reject)
    ∷ (8, Event.Expiry (Timer.Group GroupTimer.Tfg4))
    ∷ (9, Event.Message (GroupAccept accepted))
    ∷ []
    )

-- the media beside it: 6 at the bytes 2 and 3, else 5
abbrev pub media_by : ℕ → Media
media_by byte = record { number = cond (eqb byte 2 || eqb byte 3) 6 5 }

-- what a step takes in: media can be set up, and the signature is good
abbrev pub input_with : Event → Media → Input
input_with event media = record { event = event; media = media; verdicts = record { media = true; signature = true } }

-- what a step of the private machine takes in by a byte
abbrev pub private_input : ℕ → Input
private_input byte = input_with (private_event byte) (media_by byte)

-- what a step of the group machine takes in by a byte
abbrev pub group_input : ℕ → Input
group_input byte = input_with (group_event byte) (media_by byte)

-- ---- what is counted

-- a step met a row: its number is not 0
abbrev pub meets_row : ℕ → Bool
meets_row row = not (eqb row 0)

-- 1 for a step that met a row, 0 for any other
abbrev pub row_met : ℕ → ℕ
row_met row = cond (eqb row 0) 0 1
