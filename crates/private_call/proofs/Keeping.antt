-- Carrying out the row that is met keeps a record well formed, and what it sends is in range. Assumes nothing.
use mathlib.Core.Path.{◌≡◌, refl}
use mathlib.Core.Bool.{Bool, true, false, cond, false≢true}
use borrow.Author.Tests.{not-true}
use Rattle.std.specs.Prelude.{Option, Some, None}
use Rattle.frame.specs.Digits.{four}
use Rattle.frame.specs.Range.{never_zero, reason_good}
use Rattle.frame.specs.Frame.{parties_good, in_range}
use Rattle.frame.specs.declared.Media.{Media}
use Rattle.frame.specs.declared.Parties.{Parties}
use Rattle.frame.proofs.Laws.{and_split}
use Rattle.call.specs.Settings.{restricted, limits_good, settings_good}
use Rattle.call.specs.Request.{request_of}
use Rattle.call.specs.declared.Settings.{Settings}
use Rattle.call.specs.declared.Input.{Input}
use Rattle.call.specs.declared.Request.{Request}
use Rattle.call.proofs.Laws.{both}
use Rattle.stepping.proofs.Stepping.{Taken, SentGood}
use Rattle.private_record.specs.Phases.{state_of, running_of, phase_of}
use Rattle.private_record.specs.Formed.{running_good, fields_good, call_good, is_well_formed}
use Rattle.private_record.specs.declared.states.State.{State}
use Rattle.private_record.specs.declared.states.Timers.{Timers}
use Rattle.private_record.specs.declared.states.Phase.{Phase}
use Rattle.private_record.specs.declared.states.PrivateCall.{PrivateCall}
use Rattle.private_record.specs.declared.states.PrivateRecord.{PrivateRecord}
use Rattle.private_record.proofs.WellFormed.{Fit, fit}
use Rattle.private_rows.specs.Causes.{cause_of, facts_of}
use Rattle.private_rows.specs.Rows.{row_of}
use Rattle.private_rows.specs.declared.Row.{Row}
use Rattle.private_rows.specs.declared.causes.Cause.{Cause}
use Rattle.private_call.specs.Effects.{effect_of}
use Rattle.private_call.specs.Carried.{ran_out_by, timers_by, running_by, call_of, held_of, reason_number, reason_or, sent_of, carry_out}
use Rattle.private_call.specs.declared.effects.Hold.{Hold}
use Rattle.private_call.specs.declared.effects.Reason.{Reason}
use Rattle.private_call.specs.declared.effects.Say.{Say}
use Rattle.private_call.specs.declared.effects.Effect.{Effect}
use Rattle.private_call.proofs.Brought.{out_of, ran-out-of, Brings, brings, brings_call}
use Rattle.private_call.proofs.Settling.{may_hold, holds_one, may_say, Sound, rows-sound}
use Rattle.private_call.proofs.Counting.{counters-keep}
use Rattle.private_call.proofs.Holding.{ranged, split, fields, held-good, one-held}

-- ---- what is sent

-- every reason is one, whether it is kept back or not
reason-good : (s : Settings) (reason : Reason) → reason_good (reason_or s reason) ≡ true
reason-good s reason = go (restricted s) reason
  where
    go : (b : Bool) (reason : Reason) → reason_good (cond b (reason_number Reason.Failed) (reason_number reason)) ≡ true
    go true reason = refl
    go false Reason.Reject = refl
    go false Reason.MediaFailure = refl
    go false Reason.Busy = refl
    go false Reason.SecurityFailure = refl
    go false Reason.Failed = refl

-- what is said of a call in range is in range, and so is what is said of a setup request that is brought
said-good : (s : Settings) (c : Cause) (to : State) (hold : Hold) (say : Option Say) (call : PrivateCall) (other : Parties)
    → may_say c to hold say ≡ true → (holds_one to hold ≡ true → fields_good call ≡ true) → (brings_call c ≡ true → parties_good other ≡ true)
    → SentGood (sent_of s say call other) call.media
unfolding in_range
said-good s c to hold None call other m k b = tt
said-good s c to hold (Some Say.SetupRequest) call other m k b = k m
said-good s c to hold (Some Say.Ringing) call other m k b = (ranged call (k m)).parties
said-good s c to hold (Some Say.Accept) call other m k b = let r = ranged call (k m) in both _ _ r.its_media r.parties
said-good s c to hold (Some Say.Release) call other m k b = (ranged call (k m)).parties
said-good s c to hold (Some Say.ReleaseAck) call other m k b = (ranged call (k m)).parties
said-good s c to hold (Some Say.AcceptAck) call other m k b = (ranged call (k m)).parties
said-good s c to hold (Some (Say.Reject reason)) call other m k b = both (parties_good call.parties) _ (ranged call (k m)).parties (reason-good s reason)
said-good s c to hold (Some Say.RejectOther) call other m k b = both (parties_good other) _ (b m) (reason-good s Reason.Busy)

-- the call held is in range where it is one
held_one : (s : Settings) (state to : State) (hold : Hold) (c : Cause) (call : PrivateCall) (r : Request) (media : Media) → may_hold c state to hold ≡ true
    → Brings s.own_user c r media → call_good s to (held_of hold call r media) ≡ true → holds_one to hold ≡ true → fields_good (held_of hold call r media) ≡ true
held_one s state to Hold.Keep c call r media m b g h = one-held s to call (not-true _ h) g
held_one s state to Hold.Request c call r media m b g h = fields (call_of r media) (split r media (b.call (and_split (brings_call c) _ m).0).ranged)
held_one s state to Hold.Media c call r media m b g h = one-held s to (held_of Hold.Media call r media) (not-true _ h) g
held_one s state to Hold.Clear c call r media m b g h = absurd (false≢true h)

-- ---- the row that is met, carried out

-- what is sound of a phase is so of a record in that phase
timers-at : {f : Phase} {c : Cause} (row : Option Row) {state : State} {was out : Timers} → state ≡ state_of f → was ≡ running_of f → out ≡ out_of c
    → Sound f c row → running_good (effect_of row state).to (running_by state was out (effect_of row state)) ≡ true
timers-at row a b d x = rw (a, b, d) x.timers

-- its call
call_at : {f : Phase} {c : Cause} (row : Option Row) {state : State} → state ≡ state_of f → Sound f c row
    → may_hold c state (effect_of row state).to (effect_of row state).hold ≡ true
call_at row a x = rw a x.call

-- its message
message-at : {f : Phase} {c : Cause} (row : Option Row) {state : State} → state ≡ state_of f → Sound f c row
    → may_say c (effect_of row state).to (effect_of row state).hold (effect_of row state).say ≡ true
message-at row a x = rw a x.message

-- the limits of good settings
pub limits-good : (s : Settings) → settings_good s ≡ true → limits_good s.limits ≡ true
unfolding settings_good
limits-good s e = (and_split (never_zero four s.own_group) _ (and_split (never_zero four s.own_user) _ e).1).1

module _ (s : Settings) (p : PrivateRecord) (i : Input) (t : Taken s (is_well_formed s p) i) where
  -- what the row that is met does
  abbrev effect : Effect
  effect = effect_of (row_of s p i) p.state

  -- it is sound
  sound : Sound (phase_of p) (cause_of s i.event) (row_of s p i)
  sound = rows-sound (phase_of p) (cause_of s i.event) (facts_of s (phase_of p) p.counters p.call i)

  -- the record is fit
  fits : Fit s p
  fits = fit s p t.formed

  -- what the event brings
  brought : Brings s.own_user (cause_of s i.event) (request_of s i.event) i.media
  brought = brings s i.event i.media t.message t.arguments

  -- the call held afterwards is good
  next-call : call_good s effect.to (held_of effect.hold p.call (request_of s i.event) i.media) ≡ true
  next-call =
      held-good s p.state effect.to effect.hold (cause_of s i.event) p.call (request_of s i.event) i.media
      (call_at (row_of s p i) fits.state sound) fits.call brought

  -- the next record is well formed
  pub carried-well-formed : is_well_formed s (carry_out s p i (row_of s p i)).next ≡ true
  unfolding is_well_formed carry_out
  carried-well-formed =
      both (running_good effect.to (running_by p.state p.running (ran_out_by i.event) effect)) _
      (timers-at (row_of s p i) fits.state fits.running (ran-out-of s i.event) sound)
      (both _ _
      (counters-keep (timers_by p.state p.running (ran_out_by i.event) effect) effect.again s.limits p.counters
      (limits-good s t.settings) fits.counters) next-call)

  -- the parties of the setup request are in range
  other-good : brings_call (cause_of s i.event) ≡ true → parties_good (request_of s i.event).parties ≡ true
  other-good h = (split (request_of s i.event) i.media (brought.call h).ranged).parties

  -- what is sent is in range
  pub carried-sends-good : SentGood (carry_out s p i (row_of s p i)).sent (carry_out s p i (row_of s p i)).next.call.media
  unfolding carry_out
  carried-sends-good =
      said-good s (cause_of s i.event) effect.to effect.hold effect.say
      (held_of effect.hold p.call (request_of s i.event) i.media) (request_of s i.event).parties
      (message-at (row_of s p i) fits.state sound)
      (held_one s p.state effect.to effect.hold (cause_of s i.event) p.call (request_of s i.event) i.media
      (call_at (row_of s p i) fits.state sound) brought next-call) other-good
