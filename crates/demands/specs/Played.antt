-- Who plays, what is stored, and what happens, for steps that are computed. Assumes nothing.
use Rattle.std.specs.Prelude.{Bool, true, false, ℕ}
use Rattle.frame.specs.Range.{private_type}
use Rattle.frame.specs.declared.Media.{Media}
use Rattle.frame.specs.declared.Message.{Message}
use Rattle.frame.specs.declared.Message.TheVariants.{SetupRequest}
use Rattle.call.specs.declared.Counters.{Counters}
use Rattle.call.specs.declared.Settings.{Settings}
use Rattle.call.specs.declared.PrivateTimer.{PrivateTimer}
use Rattle.call.specs.declared.Timer.{Timer}
use Rattle.call.specs.declared.PrivateAction.{PrivateAction}
use Rattle.call.specs.declared.Action.{Action}
use Rattle.call.specs.declared.Event.{Event}
use Rattle.call.specs.declared.Input.{Input}
use Rattle.private_record.specs.Phases.{state_of, running_of}
use Rattle.private_record.specs.declared.states.Phase.{Phase}
use Rattle.private_record.specs.declared.states.PrivateCall.{PrivateCall}
use Rattle.private_record.specs.declared.states.PrivateRecord.{PrivateRecord}

-- ---- who plays

-- user 7 of group 3, by whether reasons are kept back and by one limit for every counter
abbrev pub crew_with : Bool → ℕ → Settings
crew_with restrict limit =
    record { own_user = 7; own_group = 3; restrict = restrict; acknowledgement = false; limits = record { cfp1 = limit; cfp3 = limit; cfp4 = limit } }

-- who tells reasons, every limit 3
abbrev pub crew : Settings
crew = crew_with false 3

-- who keeps reasons back
abbrev pub restricted_crew : Settings
restricted_crew = crew_with true 3

-- ---- what is stored

-- media 5, what the cab offers
abbrev pub five : Media
five = record { number = 5 }

-- media 6, what it hears
abbrev pub six : Media
six = record { number = 6 }

-- a PCK-ID of a private call's key
abbrev pub secure : ℕ
secure = 0x1000_0001

-- the same with 0011 on top, the purpose that was asked for before
abbrev pub outdated : ℕ
outdated = 0x3000_0001

-- a call that user 7 makes to user 9, by its identifier and PCK-ID
abbrev pub outgoing : ℕ → ℕ → PrivateCall
outgoing n pck = record { parties = record { identifier = n; caller = 7; callee = 9 }; commencement = 0; media = five; pck_id = pck }

-- call 1234 (hexadecimal) from 7 to 9, no security
abbrev pub ours : PrivateCall
ours = outgoing 0x1234 0

-- the same with media 6 in the place of 5
abbrev pub answered : PrivateCall
answered = record { parties = record { identifier = 0x1234; caller = 7; callee = 9 }; commencement = 0; media = six; pck_id = 0 }

-- call 1234 (hexadecimal) from 9 to 7
abbrev pub theirs : PrivateCall
theirs = record { parties = record { identifier = 0x1234; caller = 9; callee = 7 }; commencement = 0; media = five; pck_id = 0 }

-- call 1235 (hexadecimal) from 9 to 7 as its request had it
abbrev pub taken : ℕ → ℕ → PrivateCall
taken commencement pck = record { parties = record { identifier = 0x1235; caller = 9; callee = 7 }; commencement = commencement; media = six; pck_id = pck }

-- where CFP1 counts
abbrev pub cfp1_at : ℕ → Counters
cfp1_at n = record { cfp1 = n; cfp3 = 0; cfp4 = 0 }

-- where CFP3 counts
abbrev pub cfp3_at : ℕ → Counters
cfp3_at n = record { cfp1 = 0; cfp3 = n; cfp4 = 0 }

-- where CFP4 counts
abbrev pub cfp4_at : ℕ → Counters
cfp4_at n = record { cfp1 = 0; cfp3 = 0; cfp4 = n }

-- a record in a phase
abbrev pub stored : Phase → Counters → PrivateCall → PrivateRecord
stored f counters call = record { state = state_of f; running = running_of f; counters = counters; call = call }

-- ---- what happens

-- an input by its event, media 6 beside it, and whether media can be set up and the signature is good
abbrev pub input : Event → Bool → Bool → Input
input event possible good = record { event = event; media = six; verdicts = record { media = possible; signature = good } }

-- a message is heard; media can be set up, and no signature is good
abbrev pub hears : Message → Input
hears m = input (Event.Message m) true false

-- a message is heard; media cannot be set up
abbrev pub hears_in_vain : Message → Input
hears_in_vain m = input (Event.Message m) false false

-- a message is heard, and its signature is good
abbrev pub hears_signed : Message → Input
hears_signed m = input (Event.Message m) true true

-- a request of call 1235 (hexadecimal) from 9 to 7
abbrev pub request : ℕ → ℕ → Message
request commencement pck =
    SetupRequest (record { identifier = 0x1235; caller = 9; callee = 7 }) (record { commencement = commencement; call_type = private_type; pck_id = pck })

-- the user does something, and no signature is good
abbrev pub does : PrivateAction → Input
does a = input (Event.Action (Action.Private a)) true false

-- the user accepts, and the signature is good
abbrev pub accepts_signed : Input
accepts_signed = input (Event.Action (Action.Private PrivateAction.Accept)) true true

-- the user starts a call to 9, automatic, media 5, by its identifier and PCK-ID
abbrev pub starts : ℕ → ℕ → Input
starts n pck =
    record {
      event = Event.Action (Action.Private (PrivateAction.Start (record { identifier = n; callee = 9; commencement = 0; pck_id = pck })));
      media = five;
      verdicts = record { media = false; signature = false };
    }

-- a timer runs out
abbrev pub expires : PrivateTimer → Input
expires t = input (Event.Expiry (Timer.Private t)) true false
