-- What an event that is not refused brings: its timer, its setup request, its media. Assumes nothing.
use Prim.Native.Nat.{ℕ}
use mathlib.Core.Path.{◌≡◌, refl, sym, ◌∙◌}
use mathlib.Core.Bool.{Bool, true, false, cond, not, ◌&&◌, ◌||◌, false≢true}
use lib.Dec.{eqb}
use borrow.Author.Tests.{eq-eqb, not-true}
use Rattle.frame.specs.Media.{media_good}
use Rattle.frame.specs.Frame.{in_range}
use Rattle.frame.specs.declared.Media.{Media}
use Rattle.frame.specs.declared.Parties.{Parties}
use Rattle.frame.specs.declared.Message.TheVariants.{SetupRequest, Ringing, Accept, Reject, Release, ReleaseAck, AcceptAck, Announcement, GroupAccept}
use Rattle.frame.proofs.Laws.{and_split}
use Rattle.call.specs.Request.{as_message, start_request, request_of}
use Rattle.call.specs.declared.Settings.{Settings}
use Rattle.call.specs.declared.PrivateTimer.{PrivateTimer}
use Rattle.call.specs.declared.Timer.{Timer}
use Rattle.call.specs.declared.PrivateAction.{PrivateAction}
use Rattle.call.specs.declared.Action.{Action}
use Rattle.call.specs.declared.Event.{Event}
use Rattle.call.specs.declared.Request.{Request}
use Rattle.stepping.specs.Numbers.{heard_good, arguments_good}
use Rattle.private_record.specs.Phases.{no_timer, tfp1, tfp2, tfp3, tfp4, tfp5, tfp7}
use Rattle.private_record.specs.declared.states.Timers.{Timers}
use Rattle.private_rows.specs.Causes.{setup_cause, cause_of, same_cause}
use Rattle.private_rows.specs.declared.causes.Cause.{Cause}
use Rattle.private_call.specs.Carried.{ran_out_by}

-- ---- the timer that ran out

-- the timer that a cause says ran out
abbrev pub out_of : Cause → Timers
out_of Cause.UserStarts = no_timer
out_of Cause.UserEnds = no_timer
out_of Cause.UserAccepts = no_timer
out_of Cause.UserRejects = no_timer
out_of Cause.Tfp1Expires = tfp1
out_of Cause.Tfp2Expires = tfp2
out_of Cause.Tfp3Expires = tfp3
out_of Cause.Tfp4Expires = tfp4
out_of Cause.Tfp5Expires = tfp5
out_of Cause.Tfp7Expires = tfp7
out_of Cause.SetupHeard = no_timer
out_of Cause.RingingHeard = no_timer
out_of Cause.AcceptHeard = no_timer
out_of Cause.RejectHeard = no_timer
out_of Cause.ReleaseHeard = no_timer
out_of Cause.ReleaseAckHeard = no_timer
out_of Cause.AcceptAckHeard = no_timer
out_of Cause.Other = no_timer

-- a setup request lets no timer run out, whether it counts or not
setup-out : (own : ℕ) (p : Parties) → no_timer ≡ out_of (setup_cause own p)
setup-out own p = go (eqb p.callee own && not (eqb p.caller own))
  where
    go : (b : Bool) → no_timer ≡ out_of (cond b Cause.SetupHeard Cause.Other)
    go true = refl
    go false = refl

-- the cause says which timer ran out
pub ran-out-of : (s : Settings) (e : Event) → ran_out_by e ≡ out_of (cause_of s e)
ran-out-of s (Event.Action (Action.Private (PrivateAction.Start x))) = refl
ran-out-of s (Event.Action (Action.Private PrivateAction.End)) = refl
ran-out-of s (Event.Action (Action.Private PrivateAction.Accept)) = refl
ran-out-of s (Event.Action (Action.Private PrivateAction.Reject)) = refl
ran-out-of s (Event.Action (Action.Group a)) = refl
ran-out-of s (Event.Expiry (Timer.Private PrivateTimer.Tfp1)) = refl
ran-out-of s (Event.Expiry (Timer.Private PrivateTimer.Tfp2)) = refl
ran-out-of s (Event.Expiry (Timer.Private PrivateTimer.Tfp3)) = refl
ran-out-of s (Event.Expiry (Timer.Private PrivateTimer.Tfp4)) = refl
ran-out-of s (Event.Expiry (Timer.Private PrivateTimer.Tfp5)) = refl
ran-out-of s (Event.Expiry (Timer.Private PrivateTimer.Tfp7)) = refl
ran-out-of s (Event.Expiry (Timer.Group t)) = refl
ran-out-of s (Event.Message (SetupRequest p x)) = setup-out s.own_user p
ran-out-of s (Event.Message (Ringing p)) = refl
ran-out-of s (Event.Message (Accept p)) = refl
ran-out-of s (Event.Message (Reject p reason)) = refl
ran-out-of s (Event.Message (Release p)) = refl
ran-out-of s (Event.Message (ReleaseAck p)) = refl
ran-out-of s (Event.Message (AcceptAck p)) = refl
ran-out-of s (Event.Message (Announcement call confirm)) = refl
ran-out-of s (Event.Message (GroupAccept a)) = refl

-- ---- the setup request and the media

-- a cause that brings a setup request
abbrev pub brings_call : Cause → Bool
brings_call c = same_cause c Cause.UserStarts || same_cause c Cause.SetupHeard

-- a cause that brings media for the stored call
abbrev pub brings_media : Cause → Bool
brings_media c = same_cause c Cause.AcceptHeard

-- a setup request in range, whose caller is own (mine) and whose callee is not, or the other way round
pub record New (own : ℕ) (mine : Bool) (r : Request) (media : Media) : Type 0 where
  pub ranged : in_range (as_message r) media ≡ true
  pub caller : eqb r.parties.caller own ≡ mine
  pub callee : eqb r.parties.callee own ≡ not mine

-- what a cause brings: a setup request, or media for the stored call
pub record Brings (own : ℕ) (c : Cause) (r : Request) (media : Media) : Type 0 where
  pub call : brings_call c ≡ true → New own (same_cause c Cause.UserStarts) r media
  pub its_media : brings_media c ≡ true → media_good media ≡ true

-- neither
neither : {own : ℕ} {c : Cause} {r : Request} {media : Media} → brings_call c ≡ false → brings_media c ≡ false → Brings own c r media
neither x y = record { call = λ z. absurd (false≢true (sym x ∙ z)); its_media = λ z. absurd (false≢true (sym y ∙ z)) }

-- the user's start
start-brings : (own : ℕ) (r : Request) (media : Media) → r.parties.caller ≡ own
    → (in_range (as_message r) media && not (eqb r.parties.callee own)) ≡ true → Brings own Cause.UserStarts r media
start-brings own r media o e =
    let b = and_split (in_range (as_message r) media) _ e in
    record { call = λ z. record { ranged = b.0; caller = eq-eqb _ _ o; callee = not-true _ b.1 }; its_media = λ z. absurd (false≢true z) }

-- a setup request that counts, or that does not
setup-brings : (own : ℕ) (r : Request) (media : Media) → in_range (as_message r) media ≡ true → Brings own (setup_cause own r.parties) r media
setup-brings own r media e = go (eqb r.parties.callee own && not (eqb r.parties.caller own)) refl
  where
    go : (b : Bool) → (eqb r.parties.callee own && not (eqb r.parties.caller own)) ≡ b → Brings own (cond b Cause.SetupHeard Cause.Other) r media
    go true h =
        let b = and_split (eqb r.parties.callee own) _ h in
        record { call = λ z. record { ranged = e; caller = not-true _ b.1; callee = b.0 }; its_media = λ z. absurd (false≢true z) }
    go false h = neither refl refl

-- an accept brings media in range
accept-brings : (own : ℕ) (p : Parties) (r : Request) (media : Media) → in_range (Accept p) media ≡ true → Brings own Cause.AcceptHeard r media
unfolding in_range
accept-brings own p r media e = record { call = λ z. absurd (false≢true z); its_media = λ z. (and_split (media_good media) _ e).0 }

-- an event that is not refused brings what its cause says
pub brings : (s : Settings) (e : Event) (media : Media) → heard_good e media ≡ true → arguments_good s e media ≡ true
    → Brings s.own_user (cause_of s e) (request_of s e) media
brings s (Event.Action (Action.Private (PrivateAction.Start x))) media g a = start-brings s.own_user (start_request s x) media refl a
brings s (Event.Action (Action.Private PrivateAction.End)) media g a = neither refl refl
brings s (Event.Action (Action.Private PrivateAction.Accept)) media g a = neither refl refl
brings s (Event.Action (Action.Private PrivateAction.Reject)) media g a = neither refl refl
brings s (Event.Action (Action.Group x)) media g a = neither refl refl
brings s (Event.Expiry (Timer.Private PrivateTimer.Tfp1)) media g a = neither refl refl
brings s (Event.Expiry (Timer.Private PrivateTimer.Tfp2)) media g a = neither refl refl
brings s (Event.Expiry (Timer.Private PrivateTimer.Tfp3)) media g a = neither refl refl
brings s (Event.Expiry (Timer.Private PrivateTimer.Tfp4)) media g a = neither refl refl
brings s (Event.Expiry (Timer.Private PrivateTimer.Tfp5)) media g a = neither refl refl
brings s (Event.Expiry (Timer.Private PrivateTimer.Tfp7)) media g a = neither refl refl
brings s (Event.Expiry (Timer.Group t)) media g a = neither refl refl
brings s (Event.Message (SetupRequest p x)) media g a = setup-brings s.own_user (record { parties = p; setup = x }) media g
brings s (Event.Message (Ringing p)) media g a = neither refl refl
brings s (Event.Message (Accept p)) media g a = accept-brings s.own_user p _ media g
brings s (Event.Message (Reject p reason)) media g a = neither refl refl
brings s (Event.Message (Release p)) media g a = neither refl refl
brings s (Event.Message (ReleaseAck p)) media g a = neither refl refl
brings s (Event.Message (AcceptAck p)) media g a = neither refl refl
brings s (Event.Message (Announcement call confirm)) media g a = neither refl refl
brings s (Event.Message (GroupAccept x)) media g a = neither refl refl
