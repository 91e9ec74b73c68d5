-- What carrying out a row gives, by the rules for all rows. Assumes nothing.
use Rattle.std.specs.Prelude.{ℕ, ◌+◌, Bool, cond, not, ◌&&◌, ◌||◌, eqb, ltb, Option, Some, None}
use Rattle.frame.specs.declared.Media.{Media}
use Rattle.frame.specs.declared.Parties.{Parties}
use Rattle.frame.specs.declared.Message.TheVariants.{Ringing, Accept, Reject, Release, ReleaseAck, AcceptAck}
use Rattle.call.specs.Settings.{restricted}
use Rattle.call.specs.Request.{as_message, request_of}
unfoldable pub use Rattle.call.specs.Timing.{stopped_of, running_after}
use Rattle.call.specs.declared.Counters.{Counters}
use Rattle.call.specs.declared.Settings.{Settings}
use Rattle.call.specs.declared.PrivateTimer.{PrivateTimer}
use Rattle.call.specs.declared.Timer.{Timer}
use Rattle.call.specs.declared.Event.{Event}
use Rattle.call.specs.declared.Input.{Input}
use Rattle.call.specs.declared.Request.{Request}
use Rattle.frame.specs.declared.Message.{Message}
use Rattle.call.specs.declared.timers.TimerSets.{TimerSets}
use Rattle.private_record.specs.Phases.{state_number, has, set_of, no_timer, tfp1, tfp2, tfp3, tfp4, tfp5, tfp7}
use Rattle.private_record.specs.Formed.{no_call, call_request}
use Rattle.private_record.specs.declared.states.State.{State}
use Rattle.private_record.specs.declared.states.Timers.{Timers}
use Rattle.private_record.specs.declared.states.PrivateCall.{PrivateCall}
use Rattle.private_record.specs.declared.states.PrivateRecord.{PrivateRecord}
use Rattle.private_rows.specs.declared.Row.{Row}
use Rattle.private_call.specs.Effects.{effect_of}
use Rattle.private_call.specs.declared.effects.Hold.{Hold}
use Rattle.private_call.specs.declared.effects.Reason.{Reason}
use Rattle.private_call.specs.declared.effects.Say.{Say}
use Rattle.private_call.specs.declared.effects.Effect.{Effect}
use Rattle.stepping.specs.declared.Carried.{Carried}
use Rattle.private_call.specs.declared.carrying.CounterFacts.{CounterFacts}

-- ---- the timers

-- a private timer that just ran out
abbrev pub private_timer_out : PrivateTimer → Timers
private_timer_out PrivateTimer.Tfp1 = tfp1
private_timer_out PrivateTimer.Tfp2 = tfp2
private_timer_out PrivateTimer.Tfp3 = tfp3
private_timer_out PrivateTimer.Tfp4 = tfp4
private_timer_out PrivateTimer.Tfp5 = tfp5
private_timer_out PrivateTimer.Tfp7 = tfp7

-- of either machine
abbrev pub timer_out : Timer → Timers
timer_out (Timer.Private t) = private_timer_out t
timer_out (Timer.Group t) = no_timer

-- the timer that just ran out; other events have none
abbrev pub ran_out_by : Event → Timers
ran_out_by (Event.Action a) = no_timer
ran_out_by (Event.Expiry t) = timer_out t
ran_out_by (Event.Message m) = no_timer

-- the state changes
abbrev pub changes : State → State → Bool
changes state to = not (eqb (state_number state) (state_number to))

-- entering P1 starts TFP7, beside what the row starts
unfoldable pub started_of : State → State → Timers → Timers
started_of state to start =
    record {
      tfp1 = start.tfp1;
      tfp2 = start.tfp2;
      tfp3 = start.tfp3;
      tfp4 = start.tfp4;
      tfp5 = start.tfp5;
      tfp7 = start.tfp7 || (changes state to && eqb (state_number to) 1);
    }

-- ---- the counters

-- one more, up to the limit
abbrev pub one_more : ℕ → ℕ → ℕ
one_more limit counter = cond (ltb counter limit) (counter + 1) counter

-- a counter whose timer does not run is 0; where its timer is started it is 1, or one more where the row says something again
abbrev pub counter_after : CounterFacts → ℕ
counter_after x = cond x.runs (cond x.started (cond x.again (one_more x.limit x.was) 1) x.was) 0

-- the three
unfoldable pub counters_after : Timers → Timers → Bool → Counters → Counters → Counters
counters_after running started again limits counters =
    record {
      cfp1 = counter_after (record { runs = running.tfp1; started = started.tfp1; again = again; limit = limits.cfp1; was = counters.cfp1 });
      cfp3 = counter_after (record { runs = running.tfp3; started = started.tfp3; again = again; limit = limits.cfp3; was = counters.cfp3 });
      cfp4 = counter_after (record { runs = running.tfp4; started = started.tfp4; again = again; limit = limits.cfp4; was = counters.cfp4 });
    }

-- ---- the call

-- the call of a setup request, with its media
abbrev pub call_of : Request → Media → PrivateCall
call_of r media = record { parties = r.parties; commencement = r.setup.commencement; media = media; pck_id = r.setup.pck_id }

-- a call with other media
abbrev pub with_media : PrivateCall → Media → PrivateCall
with_media stored media =
    record { parties = stored.parties; commencement = stored.commencement; media = media; pck_id = stored.pck_id }

-- what the record holds
abbrev pub held_of : Hold → PrivateCall → Request → Media → PrivateCall
held_of Hold.Keep stored r media = stored
held_of Hold.Request stored r media = call_of r media
held_of Hold.Media stored r media = with_media stored media
held_of Hold.Clear stored r media = no_call

-- ---- the message

-- the reasons of a reject by their numbers
abbrev pub reason_number : Reason → ℕ
reason_number Reason.Reject = 0
reason_number Reason.MediaFailure = 1
reason_number Reason.Busy = 2
reason_number Reason.SecurityFailure = 3
reason_number Reason.Failed = 4

-- the reason, or FAILED where reasons are kept back
abbrev pub reason_or : Settings → Reason → ℕ
reason_or s reason = cond (restricted s) (reason_number Reason.Failed) (reason_number reason)

-- the message has the fields of the call held afterwards; only where another call is refused, those of the request
abbrev pub sent_of : Settings → Option Say → PrivateCall → Parties → Option Message
sent_of s None call other = None
sent_of s (Some Say.SetupRequest) call other = Some (as_message (call_request call))
sent_of s (Some Say.Ringing) call other = Some (Ringing call.parties)
sent_of s (Some Say.Accept) call other = Some (Accept call.parties)
sent_of s (Some Say.Release) call other = Some (Release call.parties)
sent_of s (Some Say.ReleaseAck) call other = Some (ReleaseAck call.parties)
sent_of s (Some Say.AcceptAck) call other = Some (AcceptAck call.parties)
sent_of s (Some (Say.Reject reason)) call other = Some (Reject call.parties (reason_or s reason))
sent_of s (Some Say.RejectOther) call other = Some (Reject other (reason_or s Reason.Busy))

-- ---- the whole

-- the timers that a row starts in a state
abbrev pub started_by : State → Effect → Timers
started_by state x = started_of state x.to x.start

-- what the rules ask of the timers where some run, one ran out, and a row is carried out
abbrev pub timers_by : State → Timers → Timers → Effect → TimerSets Timers
timers_by state was out x =
    record { was_running = was; ran_out = out; stop_asked = x.stop; started = started_by state x; state_changes = changes state x.to }

-- the timers that it stops
abbrev pub stopped_by : State → Timers → Timers → Effect → Timers
stopped_by state was out x = stopped_of has set_of (timers_by state was out x)

-- the timers that run afterwards
abbrev pub running_by : State → Timers → Timers → Effect → Timers
running_by state was out x = running_after has set_of (timers_by state was out x)

-- the next record
abbrev pub next_by : Settings → PrivateRecord → Timers → Request → Media → Effect → PrivateRecord
next_by s p out r media x =
    record {
      state = x.to;
      running = running_by p.state p.running out x;
      counters = counters_after (running_by p.state p.running out x) (started_by p.state x) x.again s.limits p.counters;
      call = held_of x.hold p.call r media;
    }

-- the next record, what stops, what starts, what is sent
abbrev pub carried_by : Settings → PrivateRecord → Timers → Request → Media → Effect → Carried PrivateRecord Timers
carried_by s p out r media x =
    record {
      next = next_by s p out r media x;
      stop = stopped_by p.state p.running out x;
      start = started_by p.state x;
      sent = sent_of s x.say (held_of x.hold p.call r media) r.parties;
    }

-- what carrying out a row gives
unfoldable pub carry_out : Settings → PrivateRecord → Input → Option Row → Carried PrivateRecord Timers
carry_out s p i row =
    carried_by s p (ran_out_by i.event) (request_of s i.event) i.media (effect_of row p.state)
