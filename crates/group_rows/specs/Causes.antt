-- What happens to a group call, and what a row may ask besides. Assumes nothing.
use Rattle.std.specs.Prelude.{ℕ, Bool, cond, eqb, ltb}
use Rattle.frame.specs.declared.GroupCall.{GroupCall}
use Rattle.frame.specs.declared.Message.{Message}
use Rattle.frame.specs.declared.Message.TheVariants.{SetupRequest, Ringing, Accept, Reject, Release, ReleaseAck, AcceptAck, Announcement, GroupAccept}
use Rattle.call.specs.declared.Settings.{Settings}
use Rattle.call.specs.declared.GroupTimer.{GroupTimer}
use Rattle.call.specs.declared.Timer.{Timer}
use Rattle.call.specs.declared.GroupAction.{GroupAction}
use Rattle.call.specs.declared.Action.{Action}
use Rattle.call.specs.declared.Event.{Event}
use Rattle.group_order.specs.Order.{rank_of, is_better}
use Rattle.group_rows.specs.declared.causes.Cause.{Cause}
use Rattle.group_rows.specs.declared.causes.Facts.{Facts}

-- ---- what happens

-- what the user does
abbrev pub group_action_cause : GroupAction → Cause
group_action_cause (GroupAction.Start x) = Cause.UserStarts
group_action_cause GroupAction.Accept = Cause.UserAccepts
group_action_cause GroupAction.Reject = Cause.UserRejects
group_action_cause GroupAction.Leave = Cause.UserLeaves
group_action_cause (GroupAction.Raise x) = Cause.UserRaises

-- a private action meets no row here
abbrev pub action_cause : Action → Cause
action_cause (Action.Private a) = Cause.Other
action_cause (Action.Group a) = group_action_cause a

-- which timer expires
abbrev pub group_timer_cause : GroupTimer → Cause
group_timer_cause GroupTimer.Tfg2 = Cause.Tfg2Expires
group_timer_cause GroupTimer.Tfg4 = Cause.Tfg4Expires
group_timer_cause GroupTimer.Tfg6 = Cause.Tfg6Expires

-- a private timer meets no row here
abbrev pub timer_cause : Timer → Cause
timer_cause (Timer.Private t) = Cause.Other
timer_cause (Timer.Group t) = group_timer_cause t

-- an announcement counts only if its group is own
abbrev pub announcement_cause : ℕ → GroupCall → Cause
announcement_cause own call = cond (eqb call.group own) Cause.AnnouncementHeard Cause.Other

-- what is heard; the kinds 01 to 07 meet no row here, and neither does 09
abbrev pub message_cause : ℕ → Message → Cause
message_cause own (SetupRequest p s) = Cause.Other
message_cause own (Ringing p) = Cause.Other
message_cause own (Accept p) = Cause.Other
message_cause own (Reject p reason) = Cause.Other
message_cause own (Release p) = Cause.Other
message_cause own (ReleaseAck p) = Cause.Other
message_cause own (AcceptAck p) = Cause.Other
message_cause own (Announcement call confirm) = announcement_cause own call
message_cause own (GroupAccept a) = Cause.Other

-- what happens
abbrev pub cause_of : Settings → Event → Cause
cause_of s (Event.Action a) = action_cause a
cause_of s (Event.Expiry t) = timer_cause t
cause_of s (Event.Message m) = message_cause s.own_group m

-- ---- what a row may ask besides

-- same: the identifier is the stored one
abbrev pub same_identifier : GroupCall → GroupCall → Bool
same_identifier brought stored = eqb brought.identifier stored.identifier

-- the type has a better rank than the stored one
abbrev pub ranks_better : GroupCall → GroupCall → Bool
ranks_better brought stored = ltb (rank_of brought.call_type) (rank_of stored.call_type)

-- what the rows ask, of the stored call and of the one that the event brings
abbrev pub facts_of : Settings → GroupCall → GroupCall → Facts
facts_of s stored brought =
    record {
      acknowledgement = s.acknowledgement;
      same = same_identifier brought stored;
      better = is_better brought stored;
      better_rank = ranks_better brought stored;
    }

-- ---- causes told apart

-- the causes by numbers, to tell them apart
abbrev pub cause_number : Cause → ℕ
cause_number Cause.UserStarts = 0
cause_number Cause.UserAccepts = 1
cause_number Cause.UserRejects = 2
cause_number Cause.UserLeaves = 3
cause_number Cause.UserRaises = 4
cause_number Cause.Tfg2Expires = 5
cause_number Cause.Tfg4Expires = 6
cause_number Cause.Tfg6Expires = 7
cause_number Cause.AnnouncementHeard = 8
cause_number Cause.Other = 9

-- two causes are the same
abbrev pub same_cause : Cause → Cause → Bool
same_cause c d = eqb (cause_number c) (cause_number d)
