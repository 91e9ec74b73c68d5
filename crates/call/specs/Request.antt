-- The setup request that an event brings. Assumes nothing.
use Rattle.std.specs.Prelude.{ℕ}
use Rattle.frame.specs.Range.{private_type}
use Rattle.frame.specs.declared.Parties.{Parties}
use Rattle.frame.specs.declared.Message.{Message}
use Rattle.frame.specs.declared.Message.TheVariants.{SetupRequest, Ringing, Accept, Reject, Release, ReleaseAck, AcceptAck, Announcement, GroupAccept}
use Rattle.call.specs.declared.Settings.{Settings}
use Rattle.call.specs.declared.PrivateStart.{PrivateStart}
use Rattle.call.specs.declared.PrivateAction.{PrivateAction}
use Rattle.call.specs.declared.Action.{Action}
use Rattle.call.specs.declared.Event.{Event}
use Rattle.call.specs.declared.Request.{Request}

-- the parties where there is no call
abbrev pub no_parties : Parties
no_parties = record { identifier = 0; caller = 0; callee = 0 }

-- no setup request
abbrev pub no_request : Request
no_request = record { parties = no_parties; setup = record { commencement = 0; call_type = 0; pck_id = 0 } }

-- a setup request as a message
abbrev pub as_message : Request → Message
as_message r = SetupRequest r.parties r.setup

-- the setup request of a private call
abbrev pub private_request : Parties → ℕ → ℕ → Request
private_request parties commencement pck =
    record { parties = parties; setup = record { commencement = commencement; call_type = private_type; pck_id = pck } }

-- the one that the user's start makes: the caller is own
abbrev pub start_request : Settings → PrivateStart → Request
start_request s x =
    private_request (record { identifier = x.identifier; caller = s.own_user; callee = x.callee }) x.commencement x.pck_id

-- of the user actions, the start of a private call brings one
abbrev pub private_action_request : Settings → PrivateAction → Request
private_action_request s (PrivateAction.Start x) = start_request s x
private_action_request s PrivateAction.End = no_request
private_action_request s PrivateAction.Accept = no_request
private_action_request s PrivateAction.Reject = no_request

-- of both machines
abbrev pub action_request : Settings → Action → Request
action_request s (Action.Private a) = private_action_request s a
action_request s (Action.Group a) = no_request

-- of the messages, kind 01 is one
abbrev pub message_request : Message → Request
message_request (SetupRequest p s) = record { parties = p; setup = s }
message_request (Ringing p) = no_request
message_request (Accept p) = no_request
message_request (Reject p reason) = no_request
message_request (Release p) = no_request
message_request (ReleaseAck p) = no_request
message_request (AcceptAck p) = no_request
message_request (Announcement call confirm) = no_request
message_request (GroupAccept a) = no_request

-- the setup request that an event brings: the one received, or the one that the user's start makes
abbrev pub request_of : Settings → Event → Request
request_of s (Event.Action a) = action_request s a
request_of s (Event.Expiry t) = no_request
request_of s (Event.Message m) = message_request m
