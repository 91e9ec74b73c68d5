-- What an event that is not refused brings: its timer, its announcement, its change. Assumes nothing.
use Prim.Native.Nat.{ℕ}
use mathlib.Core.Path.{◌≡◌, refl, sym, ◌∙◌}
use mathlib.Core.Bool.{Bool, true, false, cond, ◌||◌, false≢true}
use lib.Dec.{eqb}
use borrow.Author.Tests.{eq-eqb}
use Rattle.frame.specs.Digits.{four}
use Rattle.frame.specs.Range.{never_zero, time_good, type_good}
use Rattle.frame.specs.Frame.{in_range}
use Rattle.frame.specs.declared.Media.{Media}
use Rattle.frame.specs.declared.GroupCall.{GroupCall}
use Rattle.frame.specs.declared.Message.TheVariants.{SetupRequest, Ringing, Accept, Reject, Release, ReleaseAck, AcceptAck, Announcement, GroupAccept}
use Rattle.frame.proofs.Laws.{and_split}
use Rattle.call.specs.Settings.{settings_good}
use Rattle.call.specs.Announced.{announced_of}
use Rattle.call.specs.declared.Settings.{Settings}
use Rattle.call.specs.declared.GroupTimer.{GroupTimer}
use Rattle.call.specs.declared.Timer.{Timer}
use Rattle.call.specs.declared.GroupAction.{GroupAction}
use Rattle.call.specs.declared.Action.{Action}
use Rattle.call.specs.declared.Event.{Event}
use Rattle.call.specs.declared.Announced.{Announced}
use Rattle.stepping.specs.Numbers.{heard_good, arguments_good}
use Rattle.group_record.specs.States.{no_timer, tfg2, tfg4, tfg6}
use Rattle.group_record.specs.declared.states.Timers.{Timers}
use Rattle.group_rows.specs.Causes.{announcement_cause, cause_of, same_cause}
use Rattle.group_rows.specs.declared.causes.Cause.{Cause}
use Rattle.group_call.specs.Carried.{ran_out_by}
use Rattle.group_call.proofs.Holding.{ranged}

-- ---- the timer that ran out

-- the timer that a cause says ran out
abbrev pub out_of : Cause → Timers
out_of Cause.UserStarts = no_timer
out_of Cause.UserAccepts = no_timer
out_of Cause.UserRejects = no_timer
out_of Cause.UserLeaves = no_timer
out_of Cause.UserRaises = no_timer
out_of Cause.Tfg2Expires = tfg2
out_of Cause.Tfg4Expires = tfg4
out_of Cause.Tfg6Expires = tfg6
out_of Cause.AnnouncementHeard = no_timer
out_of Cause.Other = no_timer

-- an announcement lets no timer run out, whether it counts or not
heard-out : (own : ℕ) (call : GroupCall) → no_timer ≡ out_of (announcement_cause own call)
heard-out own call = go (eqb call.group own)
  where
    go : (b : Bool) → no_timer ≡ out_of (cond b Cause.AnnouncementHeard Cause.Other)
    go true = refl
    go false = refl

-- the cause says which timer ran out
pub ran-out-of : (s : Settings) (e : Event) → ran_out_by e ≡ out_of (cause_of s e)
ran-out-of s (Event.Action (Action.Private a)) = refl
ran-out-of s (Event.Action (Action.Group (GroupAction.Start x))) = refl
ran-out-of s (Event.Action (Action.Group GroupAction.Accept)) = refl
ran-out-of s (Event.Action (Action.Group GroupAction.Reject)) = refl
ran-out-of s (Event.Action (Action.Group GroupAction.Leave)) = refl
ran-out-of s (Event.Action (Action.Group (GroupAction.Raise x))) = refl
ran-out-of s (Event.Expiry (Timer.Private t)) = refl
ran-out-of s (Event.Expiry (Timer.Group GroupTimer.Tfg2)) = refl
ran-out-of s (Event.Expiry (Timer.Group GroupTimer.Tfg4)) = refl
ran-out-of s (Event.Expiry (Timer.Group GroupTimer.Tfg6)) = refl
ran-out-of s (Event.Message (SetupRequest p x)) = refl
ran-out-of s (Event.Message (Ringing p)) = refl
ran-out-of s (Event.Message (Accept p)) = refl
ran-out-of s (Event.Message (Reject p reason)) = refl
ran-out-of s (Event.Message (Release p)) = refl
ran-out-of s (Event.Message (ReleaseAck p)) = refl
ran-out-of s (Event.Message (AcceptAck p)) = refl
ran-out-of s (Event.Message (Announcement call confirm)) = heard-out s.own_group call
ran-out-of s (Event.Message (GroupAccept a)) = refl

-- ---- the announcement and the change

-- a cause that brings a call
abbrev pub brings_call : Cause → Bool
brings_call c = same_cause c Cause.UserStarts || same_cause c Cause.AnnouncementHeard

-- a cause that brings a change of the stored call
abbrev pub brings_change : Cause → Bool
brings_change c = same_cause c Cause.UserRaises || same_cause c Cause.AnnouncementHeard

-- a call of the own group, with its media and its confirm in range
pub record New (own : ℕ) (a : Announced) (media : Media) : Type 0 where
  pub in_ranges : in_range (Announcement a.call a.confirm) media ≡ true
  pub in_own_group : eqb a.call.group own ≡ true

-- the type, the time of the last change and the changer are in range
pub record Changes (c : GroupCall) : Type 0 where
  pub type : type_good 8 c.call_type ≡ true
  pub change : time_good c.last_change ≡ true
  pub changer : never_zero four c.last_changer ≡ true

-- what a cause brings: a call, or a change of the stored one
pub record Brings (own : ℕ) (c : Cause) (a : Announced) (media : Media) : Type 0 where
  pub call : brings_call c ≡ true → New own a media
  pub change : brings_change c ≡ true → Changes a.call

-- neither
neither : {own : ℕ} {c : Cause} {a : Announced} {media : Media} → brings_call c ≡ false → brings_change c ≡ false → Brings own c a media
neither x y = record { call = λ z. absurd (false≢true (sym x ∙ z)); change = λ z. absurd (false≢true (sym y ∙ z)) }

-- the changes of an announcement in range
changes-of : (c : GroupCall) (confirm : ℕ) (media : Media) → in_range (Announcement c confirm) media ≡ true → Changes c
changes-of c confirm media e = let r = ranged c confirm media e in record { type = r.type; change = r.change; changer = r.changer }

-- an announcement that counts, or that does not
heard-brings : (own : ℕ) (call : GroupCall) (confirm : ℕ) (media : Media) → in_range (Announcement call confirm) media ≡ true
    → Brings own (announcement_cause own call) (record { call = call; confirm = confirm }) media
heard-brings own call confirm media e = go (eqb call.group own) refl
  where
    go : (b : Bool) → eqb call.group own ≡ b → Brings own (cond b Cause.AnnouncementHeard Cause.Other) (record { call = call; confirm = confirm }) media
    go true h = record { call = λ z. record { in_ranges = e; in_own_group = h }; change = λ z. changes-of call confirm media e }
    go false h = neither refl refl

-- the own user of good settings
pub own-good : (s : Settings) → settings_good s ≡ true → never_zero four s.own_user ≡ true
unfolding settings_good
own-good s e = (and_split (never_zero four s.own_user) _ e).0

-- an event that is not refused brings what its cause says
pub brings : (s : Settings) (e : Event) (media : Media) → settings_good s ≡ true → heard_good e media ≡ true → arguments_good s e media ≡ true
    → Brings s.own_group (cause_of s e) (announced_of s e) media
brings s (Event.Action (Action.Private x)) media o g a = neither refl refl
brings s (Event.Action (Action.Group (GroupAction.Start x))) media o g a =
    record { call = λ z. record { in_ranges = a; in_own_group = eq-eqb s.own_group s.own_group refl }; change = λ z. absurd (false≢true z) }
brings s (Event.Action (Action.Group GroupAction.Accept)) media o g a = neither refl refl
brings s (Event.Action (Action.Group GroupAction.Reject)) media o g a = neither refl refl
brings s (Event.Action (Action.Group GroupAction.Leave)) media o g a = neither refl refl
brings s (Event.Action (Action.Group (GroupAction.Raise x))) media o g a =
    let h = and_split (type_good 8 x.call_type) _ a in
    record { call = λ z. absurd (false≢true z); change = λ z. record { type = h.0; change = h.1; changer = own-good s o } }
brings s (Event.Expiry (Timer.Private t)) media o g a = neither refl refl
brings s (Event.Expiry (Timer.Group GroupTimer.Tfg2)) media o g a = neither refl refl
brings s (Event.Expiry (Timer.Group GroupTimer.Tfg4)) media o g a = neither refl refl
brings s (Event.Expiry (Timer.Group GroupTimer.Tfg6)) media o g a = neither refl refl
brings s (Event.Message (SetupRequest p x)) media o g a = neither refl refl
brings s (Event.Message (Ringing p)) media o g a = neither refl refl
brings s (Event.Message (Accept p)) media o g a = neither refl refl
brings s (Event.Message (Reject p reason)) media o g a = neither refl refl
brings s (Event.Message (Release p)) media o g a = neither refl refl
brings s (Event.Message (ReleaseAck p)) media o g a = neither refl refl
brings s (Event.Message (AcceptAck p)) media o g a = neither refl refl
brings s (Event.Message (Announcement call confirm)) media o g a = heard-brings s.own_group call confirm media g
brings s (Event.Message (GroupAccept x)) media o g a = neither refl refl
