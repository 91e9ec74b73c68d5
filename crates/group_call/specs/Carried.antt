-- What carrying out a row gives, by the rules for all rows. Assumes nothing.
use Rattle.std.specs.Prelude.{ℕ, Bool, cond, not, eqb, ltb, Option, Some, None}
use Rattle.frame.specs.Media.{no_media}
use Rattle.frame.specs.Frame.{no_group_call}
use Rattle.frame.specs.declared.Media.{Media}
use Rattle.frame.specs.declared.GroupCall.{GroupCall}
use Rattle.frame.specs.declared.Acceptance.{Acceptance}
use Rattle.frame.specs.declared.Message.{Message}
use Rattle.frame.specs.declared.Message.TheVariants.{Announcement, GroupAccept}
unfoldable pub use Rattle.call.specs.Timing.{stopped_of, running_after}
use Rattle.call.specs.Announced.{announced_of}
use Rattle.call.specs.declared.Settings.{Settings}
use Rattle.call.specs.declared.GroupTimer.{GroupTimer}
use Rattle.call.specs.declared.Timer.{Timer}
use Rattle.call.specs.declared.Event.{Event}
use Rattle.call.specs.declared.Input.{Input}
use Rattle.call.specs.declared.timers.TimerSets.{TimerSets}
use Rattle.call.specs.declared.Announced.{Announced}
use Rattle.stepping.specs.declared.Carried.{Carried}
use Rattle.group_record.specs.States.{state_number, has, set_of, no_timer, tfg2, tfg4, tfg6}
use Rattle.group_record.specs.declared.states.State.{State}
use Rattle.group_record.specs.declared.states.Timers.{Timers}
use Rattle.group_record.specs.declared.states.GroupRecord.{GroupRecord}
use Rattle.group_rows.specs.declared.Row.{Row}
use Rattle.group_call.specs.Effects.{effect_of}
use Rattle.group_call.specs.declared.effects.Hold.{Hold}
use Rattle.group_call.specs.declared.effects.Say.{Say}
use Rattle.group_call.specs.declared.effects.Effect.{Effect}

-- ---- the timers

-- a group timer that just ran out
abbrev pub group_timer_out : GroupTimer → Timers
group_timer_out GroupTimer.Tfg2 = tfg2
group_timer_out GroupTimer.Tfg4 = tfg4
group_timer_out GroupTimer.Tfg6 = tfg6

-- of either machine
abbrev pub timer_out : Timer → Timers
timer_out (Timer.Private t) = no_timer
timer_out (Timer.Group t) = group_timer_out t

-- the timer that just ran out; other events have none
abbrev pub ran_out_by : Event → Timers
ran_out_by (Event.Action a) = no_timer
ran_out_by (Event.Expiry t) = timer_out t
ran_out_by (Event.Message m) = no_timer

-- the state changes
abbrev pub changes : State → State → Bool
changes state to = not (eqb (state_number state) (state_number to))

-- ---- the call

-- the last change is later than the stored one
abbrev pub is_later : GroupCall → GroupCall → Bool
is_later brought stored = ltb stored.last_change brought.last_change

-- the stored call with the type, the time of the last change and the changer of another, and nothing else of it
abbrev pub changed_by : GroupCall → GroupCall → GroupCall
changed_by stored brought =
    record {
      identifier = stored.identifier;
      group = stored.group;
      call_type = brought.call_type;
      refresh = stored.refresh;
      originator = stored.originator;
      start = stored.start;
      last_change = brought.last_change;
      last_changer = brought.last_changer;
    }

-- the stored call, changed where the change is later
abbrev pub later_change : GroupCall → GroupCall → GroupCall
later_change stored brought = cond (is_later brought stored) (changed_by stored brought) stored

-- what the record holds, all but the media
abbrev pub held_of : Hold → GroupCall → GroupCall → GroupCall
held_of Hold.Keep stored brought = stored
held_of Hold.Announced stored brought = brought
held_of Hold.Change stored brought = changed_by stored brought
held_of Hold.LaterChange stored brought = later_change stored brought
held_of Hold.Clear stored brought = no_group_call

-- its media: a change leaves it alone
abbrev pub media_held : Hold → Media → Media → Media
media_held Hold.Keep stored brought = stored
media_held Hold.Announced stored brought = brought
media_held Hold.Change stored brought = stored
media_held Hold.LaterChange stored brought = stored
media_held Hold.Clear stored brought = no_media

-- ---- the message

-- the accept of a call: the sender is own
abbrev pub acceptance : Settings → GroupCall → Acceptance
acceptance s c = record { identifier = c.identifier; sender = s.own_user; call_type = c.call_type; group = c.group }

-- the message has the fields of the call held afterwards; the first announcement has the user's confirm, any other confirm 0
abbrev pub sent_of : Settings → Option Say → GroupCall → ℕ → Option Message
sent_of s None call confirm = None
sent_of s (Some Say.FirstAnnouncement) call confirm = Some (Announcement call confirm)
sent_of s (Some Say.Announcement) call confirm = Some (Announcement call 0)
sent_of s (Some Say.Accept) call confirm = Some (GroupAccept (acceptance s call))

-- ---- the whole

-- what the rules ask of the timers where some run, one ran out, and a row is carried out
abbrev pub timers_by : State → Timers → Timers → Effect → TimerSets Timers
timers_by state was out x =
    record { was_running = was; ran_out = out; stop_asked = x.stop; started = x.start; state_changes = changes state x.to }

-- the timers that it stops
abbrev pub stopped_by : State → Timers → Timers → Effect → Timers
stopped_by state was out x = stopped_of has set_of (timers_by state was out x)

-- the timers that run afterwards
abbrev pub running_by : State → Timers → Timers → Effect → Timers
running_by state was out x = running_after has set_of (timers_by state was out x)

-- the next record, what stops, what starts, what is sent
abbrev pub carried_by : Settings → GroupRecord → Timers → Announced → Media → Effect → Carried GroupRecord Timers
carried_by s g out a media x =
    record {
      next = record {
        state = x.to;
        running = running_by g.state g.running out x;
        call = held_of x.hold g.call a.call;
        media = media_held x.hold g.media media;
      };
      stop = stopped_by g.state g.running out x;
      start = x.start;
      sent = sent_of s x.say (held_of x.hold g.call a.call) a.confirm;
    }

-- what carrying out a row gives
unfoldable pub carry_out : Settings → GroupRecord → Input → Option Row → Carried GroupRecord Timers
carry_out s g i row =
    carried_by s g (ran_out_by i.event) (announced_of s i.event) i.media
    (effect_of row g.state (eqb (announced_of s i.event).confirm 1))
