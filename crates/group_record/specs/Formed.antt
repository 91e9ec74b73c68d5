-- The well-formed group records. Assumes nothing.
use Rattle.std.specs.Prelude.{Bool, cond, ◌&&◌, eqb}
use Rattle.frame.specs.Media.{no_media, media_none}
use Rattle.frame.specs.Frame.{in_range, no_group_call}
use Rattle.frame.specs.declared.Media.{Media}
use Rattle.frame.specs.declared.GroupCall.{GroupCall}
use Rattle.frame.specs.declared.Message.TheVariants.{Announcement}
use Rattle.call.specs.declared.Settings.{Settings}
use Rattle.group_record.specs.States.{state_number, no_timer, same_timers, running_of}
use Rattle.group_record.specs.declared.states.State.{State}
use Rattle.group_record.specs.declared.states.GroupRecord.{GroupRecord}

-- the cleared record
abbrev pub cleared_record : GroupRecord
cleared_record = record { state = State.S1; running = no_timer; call = no_group_call; media = no_media }

-- all nine fields are 0
abbrev pub call_none : GroupCall → Media → Bool
call_none c media =
    eqb c.identifier 0
    && (eqb c.group 0
    && (eqb c.call_type 0
    && (eqb c.refresh 0
    && (eqb c.originator 0
    && (eqb c.start 0 && (eqb c.last_change 0 && (eqb c.last_changer 0 && media_none media)))))))

-- all nine fields are in range, each with the range that it has in an announcement, and the group is own
abbrev pub call_held : Settings → GroupCall → Media → Bool
call_held s c media = in_range (Announcement c 0) media && eqb c.group s.own_group

-- in S1 there is no call, elsewhere there is one
abbrev pub call_good : Settings → State → GroupCall → Media → Bool
call_good s state c media = cond (eqb (state_number state) 1) (call_none c media) (call_held s c media)

-- a record is well formed under the settings
unfoldable pub is_well_formed : Settings → GroupRecord → Bool
is_well_formed s g = same_timers g.running (running_of g.state) && call_good s g.state g.call g.media
