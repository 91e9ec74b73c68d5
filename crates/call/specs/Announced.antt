-- The announcement that an event brings. Assumes nothing.
use Rattle.frame.specs.Frame.{no_group_call}
use Rattle.frame.specs.declared.GroupCall.{GroupCall}
use Rattle.frame.specs.declared.Message.{Message}
use Rattle.frame.specs.declared.Message.TheVariants.{SetupRequest, Ringing, Accept, Reject, Release, ReleaseAck, AcceptAck, Announcement, GroupAccept}
use Rattle.call.specs.declared.Settings.{Settings}
use Rattle.call.specs.declared.GroupStart.{GroupStart}
use Rattle.call.specs.declared.GroupRaise.{GroupRaise}
use Rattle.call.specs.declared.GroupAction.{GroupAction}
use Rattle.call.specs.declared.Action.{Action}
use Rattle.call.specs.declared.Event.{Event}
use Rattle.call.specs.declared.Announced.{Announced}

-- no announcement
abbrev pub no_announcement : Announced
no_announcement = record { call = no_group_call; confirm = 0 }

-- the group call that the user's start makes: group, originator and last changer are own, both times are now
abbrev pub started_group_call : Settings → GroupStart → GroupCall
started_group_call s x =
    record {
      identifier = x.identifier;
      group = s.own_group;
      call_type = x.call_type;
      refresh = x.refresh;
      originator = s.own_user;
      start = x.now;
      last_change = x.now;
      last_changer = s.own_user;
    }

-- what a raise changes: the type is the one named, the time of the last change is now, and own made it
abbrev pub raised_to : Settings → GroupRaise → GroupCall
raised_to s x =
    record {
      identifier = 0;
      group = 0;
      call_type = x.call_type;
      refresh = 0;
      originator = 0;
      start = 0;
      last_change = x.now;
      last_changer = s.own_user;
    }

-- of the group actions: what a start announces, with the user's confirm, and what a raise changes
abbrev pub group_action_announced : Settings → GroupAction → Announced
group_action_announced s (GroupAction.Start x) = record { call = started_group_call s x; confirm = x.confirm }
group_action_announced s GroupAction.Accept = no_announcement
group_action_announced s GroupAction.Reject = no_announcement
group_action_announced s GroupAction.Leave = no_announcement
group_action_announced s (GroupAction.Raise x) = record { call = raised_to s x; confirm = 0 }

-- of both machines
abbrev pub action_announced : Settings → Action → Announced
action_announced s (Action.Private a) = no_announcement
action_announced s (Action.Group a) = group_action_announced s a

-- of the messages, kind 08 is one
abbrev pub message_announced : Message → Announced
message_announced (SetupRequest p s) = no_announcement
message_announced (Ringing p) = no_announcement
message_announced (Accept p) = no_announcement
message_announced (Reject p reason) = no_announcement
message_announced (Release p) = no_announcement
message_announced (ReleaseAck p) = no_announcement
message_announced (AcceptAck p) = no_announcement
message_announced (Announcement call confirm) = record { call = call; confirm = confirm }
message_announced (GroupAccept a) = no_announcement

-- the announcement that an event brings
abbrev pub announced_of : Settings → Event → Announced
announced_of s (Event.Action a) = action_announced s a
announced_of s (Event.Expiry t) = no_announcement
announced_of s (Event.Message m) = message_announced m
