-- What happens to a private call, and what a row may ask besides. Assumes nothing.
use Rattle.std.specs.Prelude.{ℕ, Bool, false, cond, not, ◌&&◌, ◌||◌, eqb, ltb}
use Rattle.frame.specs.declared.Parties.{Parties}
use Rattle.frame.specs.declared.Message.{Message}
use Rattle.frame.specs.declared.Message.TheVariants.{SetupRequest, Ringing, Accept, Reject, Release, ReleaseAck, AcceptAck, Announcement, GroupAccept}
use Rattle.call.specs.Request.{request_of}
use Rattle.call.specs.declared.Counters.{Counters}
use Rattle.call.specs.declared.Settings.{Settings}
use Rattle.call.specs.declared.Verdicts.{Verdicts}
use Rattle.call.specs.declared.PrivateTimer.{PrivateTimer}
use Rattle.call.specs.declared.Timer.{Timer}
use Rattle.call.specs.declared.PrivateAction.{PrivateAction}
use Rattle.call.specs.declared.Action.{Action}
use Rattle.call.specs.declared.Event.{Event}
use Rattle.call.specs.declared.Input.{Input}
use Rattle.call.specs.declared.Request.{Request}
use Rattle.private_record.specs.Phases.{count_of}
use Rattle.private_record.specs.declared.states.Phase.{Phase}
use Rattle.private_record.specs.declared.states.PrivateCall.{PrivateCall}
use Rattle.private_rows.specs.declared.causes.Cause.{Cause}
use Rattle.private_rows.specs.declared.causes.Facts.{Facts}

-- ---- what happens

-- what the user does
abbrev pub private_action_cause : PrivateAction → Cause
private_action_cause (PrivateAction.Start x) = Cause.UserStarts
private_action_cause PrivateAction.End = Cause.UserEnds
private_action_cause PrivateAction.Accept = Cause.UserAccepts
private_action_cause PrivateAction.Reject = Cause.UserRejects

-- a group action meets no row here
abbrev pub action_cause : Action → Cause
action_cause (Action.Private a) = private_action_cause a
action_cause (Action.Group a) = Cause.Other

-- which timer expires
abbrev pub private_timer_cause : PrivateTimer → Cause
private_timer_cause PrivateTimer.Tfp1 = Cause.Tfp1Expires
private_timer_cause PrivateTimer.Tfp2 = Cause.Tfp2Expires
private_timer_cause PrivateTimer.Tfp3 = Cause.Tfp3Expires
private_timer_cause PrivateTimer.Tfp4 = Cause.Tfp4Expires
private_timer_cause PrivateTimer.Tfp5 = Cause.Tfp5Expires
private_timer_cause PrivateTimer.Tfp7 = Cause.Tfp7Expires

-- a group timer meets no row here
abbrev pub timer_cause : Timer → Cause
timer_cause (Timer.Private t) = private_timer_cause t
timer_cause (Timer.Group t) = Cause.Other

-- kind 01 counts only if the callee is own and the caller is not
abbrev pub setup_cause : ℕ → Parties → Cause
setup_cause own p = cond (eqb p.callee own && not (eqb p.caller own)) Cause.SetupHeard Cause.Other

-- what is heard; kinds 08 and 09 meet no row here
abbrev pub message_cause : ℕ → Message → Cause
message_cause own (SetupRequest p s) = setup_cause own p
message_cause own (Ringing p) = Cause.RingingHeard
message_cause own (Accept p) = Cause.AcceptHeard
message_cause own (Reject p reason) = Cause.RejectHeard
message_cause own (Release p) = Cause.ReleaseHeard
message_cause own (ReleaseAck p) = Cause.ReleaseAckHeard
message_cause own (AcceptAck p) = Cause.AcceptAckHeard
message_cause own (Announcement call confirm) = Cause.Other
message_cause own (GroupAccept a) = Cause.Other

-- what happens
abbrev pub cause_of : Settings → Event → Cause
cause_of s (Event.Action a) = action_cause a
cause_of s (Event.Expiry t) = timer_cause t
cause_of s (Event.Message m) = message_cause s.own_user m

-- ---- what a row may ask besides

-- same, for kind 01 and for a fresh identifier: the identifier is the stored one
abbrev pub same_identifier : Parties → Parties → Bool
same_identifier p stored = eqb p.identifier stored.identifier

-- same, for the kinds 02 to 07: today the identifier alone, too
abbrev pub same_call : Parties → Parties → Bool
same_call p stored = eqb p.identifier stored.identifier

-- which of the two a message is asked
abbrev pub message_same : Message → Parties → Bool
message_same (SetupRequest p s) stored = same_identifier p stored
message_same (Ringing p) stored = same_call p stored
message_same (Accept p) stored = same_call p stored
message_same (Reject p reason) stored = same_call p stored
message_same (Release p) stored = same_call p stored
message_same (ReleaseAck p) stored = same_call p stored
message_same (AcceptAck p) stored = same_call p stored
message_same (Announcement call confirm) stored = false
message_same (GroupAccept a) stored = false

-- an event is a message that is the same
abbrev pub same_of : Event → Parties → Bool
same_of (Event.Action a) stored = false
same_of (Event.Expiry t) stored = false
same_of (Event.Message m) stored = message_same m stored

-- the PCK-ID that the signature is asked for: with a message that of its setup request, else the stored one
abbrev pub pck_asked : Event → Request → ℕ → ℕ
pck_asked (Event.Action a) r stored = stored
pck_asked (Event.Expiry t) r stored = stored
pck_asked (Event.Message m) r stored = r.setup.pck_id

-- there is no security, or the signature is good
abbrev pub trusted : ℕ → Verdicts → Bool
trusted pck v = eqb pck 0 || v.signature

-- what the rows ask: whether the message is the same, whether the host says that media can be set up, whether the request is manual,
-- whether it is trusted, whether the stored caller is own, whether the counter that counts is under its limit
abbrev pub facts_of : Settings → Phase → Counters → PrivateCall → Input → Facts
facts_of s f counters call i =
    record {
      same = same_of i.event call.parties;
      media_verdict = i.verdicts.media;
      manual = eqb (request_of s i.event).setup.commencement 1;
      trusted = trusted (pck_asked i.event (request_of s i.event) call.pck_id) i.verdicts;
      own_caller = eqb call.parties.caller s.own_user;
      under = ltb (count_of f counters) (count_of f s.limits);
    }

-- ---- causes told apart

-- the causes by numbers, to tell them apart
abbrev pub cause_number : Cause → ℕ
cause_number Cause.UserStarts = 0
cause_number Cause.UserEnds = 1
cause_number Cause.UserAccepts = 2
cause_number Cause.UserRejects = 3
cause_number Cause.Tfp1Expires = 4
cause_number Cause.Tfp2Expires = 5
cause_number Cause.Tfp3Expires = 6
cause_number Cause.Tfp4Expires = 7
cause_number Cause.Tfp5Expires = 8
cause_number Cause.Tfp7Expires = 9
cause_number Cause.SetupHeard = 10
cause_number Cause.RingingHeard = 11
cause_number Cause.AcceptHeard = 12
cause_number Cause.RejectHeard = 13
cause_number Cause.ReleaseHeard = 14
cause_number Cause.ReleaseAckHeard = 15
cause_number Cause.AcceptAckHeard = 16
cause_number Cause.Other = 17

-- two causes are the same
abbrev pub same_cause : Cause → Cause → Bool
same_cause c d = eqb (cause_number c) (cause_number d)
