-- Group calls that are played: who plays, what is stored, and what happens. Assumes nothing.
use Rattle.std.specs.Prelude.{true, false, ℕ}
use Rattle.frame.specs.declared.Media.{Media}
use Rattle.frame.specs.declared.GroupCall.{GroupCall}
use Rattle.frame.specs.declared.Message.TheVariants.{Announcement}
use Rattle.call.specs.declared.Settings.{Settings}
use Rattle.call.specs.declared.GroupTimer.{GroupTimer}
use Rattle.call.specs.declared.Timer.{Timer}
use Rattle.call.specs.declared.GroupAction.{GroupAction}
use Rattle.call.specs.declared.Action.{Action}
use Rattle.call.specs.declared.Event.{Event}
use Rattle.call.specs.declared.Input.{Input}
use Rattle.group_record.specs.States.{running_of}
use Rattle.group_record.specs.declared.states.State.{State}
use Rattle.group_record.specs.declared.states.GroupRecord.{GroupRecord}
use Rattle.demands.specs.Played.{five, six}

-- user 7 of group 3, who is asked before a call is joined
abbrev pub asked_crew : Settings
asked_crew = record { own_user = 7; own_group = 3; restrict = false; acknowledgement = true; limits = record { cfp1 = 3; cfp3 = 3; cfp4 = 3 } }

-- a call of this group: identifier, type, who made it and changed it last, start, last change
abbrev pub call_in : ℕ → ℕ → ℕ → ℕ → ℕ → ℕ → GroupCall
call_in group identifier type user start change =
    record {
      identifier = identifier;
      group = group;
      call_type = type;
      refresh = 30;
      originator = user;
      start = start;
      last_change = change;
      last_changer = user;
    }

-- call 16 that user 7 made at 1000, by its type
abbrev pub mine : ℕ → GroupCall
mine type = call_in 3 16 type 7 1000 1000

-- call 17 that user 9 made at 2000, by its type
abbrev pub heard : ℕ → GroupCall
heard type = call_in 3 17 type 9 2000 2000

-- call 16 that user 7 made at 1000, its type changed by somebody at a time
abbrev pub changed : ℕ → ℕ → ℕ → GroupCall
changed type change changer =
    record {
      identifier = 16;
      group = 3;
      call_type = type;
      refresh = 30;
      originator = 7;
      start = 1000;
      last_change = change;
      last_changer = changer;
    }

-- a record in a state, with the timers that run there
abbrev pub in_call : State → GroupCall → Media → GroupRecord
in_call state call media = record { state = state; running = running_of state; call = call; media = media }

-- call 16 goes on, with media 5
abbrev pub goes_on : GroupCall → GroupRecord
goes_on call = in_call State.S3 call five

-- an announcement is heard, with media 6, by its confirm
abbrev pub announces : GroupCall → ℕ → Input
announces call confirm = record { event = Event.Message (Announcement call confirm); media = six; verdicts = record { media = false; signature = false } }

-- the user of a group call does something, with media 5 beside it
abbrev pub does_in_group : GroupAction → Input
does_in_group a = record { event = Event.Action (Action.Group a); media = five; verdicts = record { media = false; signature = false } }

-- the user starts call 16 of a type at 1000, with this refresh and confirm
abbrev pub starts_group : ℕ → ℕ → ℕ → Input
starts_group type refresh confirm =
    does_in_group (GroupAction.Start (record { identifier = 16; call_type = type; refresh = refresh; confirm = confirm; now = 1000 }))

-- the user raises the call to a type at a time
abbrev pub raises : ℕ → ℕ → Input
raises type now = does_in_group (GroupAction.Raise (record { call_type = type; now = now }))

-- a group timer runs out
abbrev pub group_expires : GroupTimer → Input
group_expires t = record { event = Event.Expiry (Timer.Group t); media = six; verdicts = record { media = true; signature = false } }
