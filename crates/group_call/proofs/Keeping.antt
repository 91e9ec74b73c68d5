-- Carrying out the row that is met keeps a record well formed, and what it sends is in range. Assumes nothing.
use mathlib.Core.Path.{◌≡◌, refl, sym, ap, ◌∙◌}
use mathlib.Core.Bool.{Bool, true, false, cond, not, ◌&&◌, beq, false≢true}
use lib.Dec.{eqb}
use borrow.Author.Tests.{not-true}
use Rattle.std.specs.Prelude.{Option, Some, None}
use Rattle.frame.specs.Digits.{four}
use Rattle.frame.specs.Range.{never_zero}
use Rattle.frame.specs.Frame.{in_range}
use Rattle.frame.specs.declared.Media.{Media}
use Rattle.frame.specs.declared.GroupCall.{GroupCall}
use Rattle.frame.specs.declared.Message.TheVariants.{Announcement}
use Rattle.frame.proofs.Laws.{and_split}
use Rattle.call.specs.Announced.{announced_of}
use Rattle.call.specs.declared.Settings.{Settings}
use Rattle.call.specs.declared.GroupTimer.{GroupTimer}
use Rattle.call.specs.declared.Input.{Input}
use Rattle.call.specs.declared.Announced.{Announced}
use Rattle.call.proofs.Laws.{both, beq_same}
use Rattle.stepping.proofs.Stepping.{Taken, SentGood}
use Rattle.group_record.specs.States.{has, set_of, same_timers, running_of}
use Rattle.group_record.specs.Formed.{call_none, call_held, call_good, is_well_formed}
use Rattle.group_record.specs.declared.states.State.{State}
use Rattle.group_record.specs.declared.states.Timers.{Timers}
use Rattle.group_record.specs.declared.states.GroupRecord.{GroupRecord}
use Rattle.group_rows.specs.Causes.{cause_of, facts_of}
use Rattle.group_rows.specs.Rows.{row_of}
use Rattle.group_rows.specs.declared.Row.{Row}
use Rattle.group_rows.specs.declared.causes.Cause.{Cause}
use Rattle.group_call.specs.Effects.{effect_of}
use Rattle.group_call.specs.Carried.{is_later, ran_out_by, running_by, changed_by, held_of, media_held, sent_of, carry_out}
use Rattle.group_call.specs.declared.effects.Hold.{Hold}
use Rattle.group_call.specs.declared.effects.Say.{Say}
use Rattle.group_call.specs.declared.effects.Effect.{Effect}
use Rattle.group_call.proofs.Holding.{ranged, announces, accepts, changes-good}
use Rattle.group_call.proofs.Brought.{out_of, ran-out-of, brings_call, brings_change, New, Brings, brings, own-good}
use Rattle.group_call.proofs.Settling.{start_stop, may_hold, may_say, Sound, rows-sound}

-- ---- a well-formed record

-- sets with the same timers are equal
pub same-timers : (a b : Timers) → same_timers a b ≡ true → a ≡ b
same-timers a b e =
    let p = and_split (beq a.tfg2 b.tfg2) _ e in
    let q = and_split (beq a.tfg4 b.tfg4) (beq a.tfg6 b.tfg6) p.1 in
    λ i. record {
      tfg2 = beq_same a.tfg2 b.tfg2 p.0 i;
      tfg4 = beq_same a.tfg4 b.tfg4 q.0 i;
      tfg6 = beq_same a.tfg6 b.tfg6 q.1 i;
    }

-- a timer is in the set of those that pass a test exactly if it passes
pub has-set : (q : GroupTimer → Bool) (t : GroupTimer) → has (set_of q) t ≡ q t
has-set q GroupTimer.Tfg2 = refl
has-set q GroupTimer.Tfg4 = refl
has-set q GroupTimer.Tfg6 = refl

-- what is known of it
pub record Fit (s : Settings) (g : GroupRecord) : Type 0 where
  pub running : g.running ≡ running_of g.state
  pub call : call_good s g.state g.call g.media ≡ true

-- a well-formed record is fit
pub fit : (s : Settings) (g : GroupRecord) → is_well_formed s g ≡ true → Fit s g
unfolding is_well_formed
fit s g e =
    let a = and_split (same_timers g.running (running_of g.state)) _ e in
    record { running = same-timers g.running (running_of g.state) a.0; call = a.1 }

-- outside S1 there is a call
one-held : (s : Settings) (state : State) (c : GroupCall) (media : Media) → start_stop state ≡ false → call_good s state c media ≡ true → call_held s c media ≡ true
one-held s state c media p g = sym (ap (λ (b : Bool). cond b (call_none c media) (call_held s c media)) p) ∙ g

-- a call of the own group is good outside S1
held-outside : (s : Settings) (state : State) (c : GroupCall) (media : Media) → start_stop state ≡ false → call_held s c media ≡ true → call_good s state c media ≡ true
held-outside s state c media p h = ap (λ (b : Bool). cond b (call_none c media) (call_held s c media)) p ∙ h

-- ---- the call held

-- a call that is brought is good
new-held : (s : Settings) (a : Announced) (media : Media) → New s.own_group a media → call_held s a.call media ≡ true
new-held s a media n =
    let r = ranged a.call a.confirm media n.in_ranges in
    both (in_range (Announcement a.call 0) media) _
    (announces a.call 0 media (record { identifier = r.identifier; group = r.group; type = r.type; refresh = r.refresh; originator = r.originator; start = r.start; change = r.change; changer = r.changer; confirms = refl; its_media = r.its_media }))
    n.in_own_group

-- a change that is brought keeps a call good
change-held : (s : Settings) (c : Cause) (stored : GroupCall) (own : Media) (a : Announced) (media : Media) → Brings s.own_group c a media
    → brings_change c ≡ true → call_held s stored own ≡ true → call_held s (changed_by stored a.call) own ≡ true
change-held s c stored own a media b m h =
    let k = and_split (in_range (Announcement stored 0) own) _ h in
    let x = b.change m in
    both (in_range (Announcement (changed_by stored a.call) 0) own) _
    (announces (changed_by stored a.call) 0 own (changes-good stored a.call 0 own (ranged stored 0 own k.0) x.type x.change x.changer)) k.1

-- what may be held is good
held-good : (s : Settings) (state to : State) (hold : Hold) (c : Cause) (stored : GroupCall) (own : Media) (a : Announced) (media : Media)
    → may_hold c state to hold ≡ true → call_good s state stored own ≡ true → Brings s.own_group c a media
    → call_good s to (held_of hold stored a.call) (media_held hold own media) ≡ true
held-good s state to Hold.Keep c stored own a media m g b =
    sym (ap (λ (z : Bool). cond z (call_none stored own) (call_held s stored own)) (beq_same (start_stop state) (start_stop to) m)) ∙ g
held-good s state to Hold.Announced c stored own a media m g b =
    let h = and_split (brings_call c) _ m in held-outside s to a.call media (not-true _ h.1) (new-held s a media (b.call h.0))
held-good s state to Hold.Change c stored own a media m g b =
    let h = and_split (brings_change c) _ m in
    let k = and_split (not (start_stop state)) _ h.1 in
    held-outside s to (changed_by stored a.call) own (not-true _ k.1)
    (change-held s c stored own a media b h.0 (one-held s state stored own (not-true _ k.0) g))
held-good s state to Hold.LaterChange c stored own a media m g b = go (is_later a.call stored)
  where
    h : (brings_change c ≡ true) × ((not (start_stop state) && not (start_stop to)) ≡ true)
    h = and_split (brings_change c) _ m

    k : (not (start_stop state) ≡ true) × (not (start_stop to) ≡ true)
    k = and_split (not (start_stop state)) _ h.1

    there : call_held s stored own ≡ true
    there = one-held s state stored own (not-true _ k.0) g

    go : (z : Bool) → call_good s to (cond z (changed_by stored a.call) stored) own ≡ true
    go true = held-outside s to (changed_by stored a.call) own (not-true _ k.1) (change-held s c stored own a media b h.0 there)
    go false = held-outside s to stored own (not-true _ k.1) there
held-good s state to Hold.Clear c stored own a media m g b = ap (λ (z : Bool). cond z true (call_held s (held_of Hold.Clear stored a.call) (media_held Hold.Clear own media))) m

-- ---- what is sent

-- what is said of a call held is in range, and so is the first announcement of a call that is brought
said-good : (s : Settings) (state to : State) (hold : Hold) (say : Option Say) (c : Cause) (stored : GroupCall) (own : Media) (a : Announced) (media : Media)
    → never_zero four s.own_user ≡ true → may_say c to hold say ≡ true → Brings s.own_group c a media
    → call_good s to (held_of hold stored a.call) (media_held hold own media) ≡ true
    → SentGood (sent_of s say (held_of hold stored a.call) a.confirm) (media_held hold own media)
said-good s state to hold None c stored own a media o m b g = tt
said-good s state to Hold.Announced (Some Say.FirstAnnouncement) c stored own a media o m b g = (b.call m).in_ranges
said-good s state to Hold.Keep (Some Say.FirstAnnouncement) c stored own a media o m b g = absurd (false≢true m)
said-good s state to Hold.Change (Some Say.FirstAnnouncement) c stored own a media o m b g = absurd (false≢true m)
said-good s state to Hold.LaterChange (Some Say.FirstAnnouncement) c stored own a media o m b g = absurd (false≢true m)
said-good s state to Hold.Clear (Some Say.FirstAnnouncement) c stored own a media o m b g = absurd (false≢true m)
said-good s state to hold (Some Say.Announcement) c stored own a media o m b g =
    (and_split (in_range (Announcement (held_of hold stored a.call) 0) (media_held hold own media)) _
    (one-held s to (held_of hold stored a.call) (media_held hold own media) (not-true _ m) g)).0
said-good s state to hold (Some Say.Accept) c stored own a media o m b g =
    let call = held_of hold stored a.call in
    let h = and_split (in_range (Announcement call 0) (media_held hold own media)) _ (one-held s to call (media_held hold own media) (not-true _ m) g) in
    accepts s call 0 (media_held hold own media) (media_held hold own media) o (ranged call 0 (media_held hold own media) h.0)

-- ---- the row that is met, carried out

-- what is sound of a state is so of a record in that state
timers-at : {f : State} {c : Cause} {confirm : Bool} (row : Option Row) {was out : Timers} → was ≡ running_of f → out ≡ out_of c → Sound f c confirm row
    → same_timers (running_by f was out (effect_of row f confirm)) (running_of (effect_of row f confirm).to) ≡ true
timers-at row a b x = rw (a, b) x.timers

module _ (s : Settings) (g : GroupRecord) (i : Input) (t : Taken s (is_well_formed s g) i) where
  -- the row that is met
  abbrev row : Option Row
  row = row_of s g i.event

  -- whether the announcement asks for confirm
  abbrev confirm : Bool
  confirm = eqb (announced_of s i.event).confirm 1

  -- what the row does
  abbrev effect : Effect
  effect = effect_of row g.state confirm

  -- it is sound
  sound : Sound g.state (cause_of s i.event) confirm row
  sound = rows-sound g.state (cause_of s i.event) (facts_of s g.call (announced_of s i.event).call) confirm

  -- what the event brings
  brought : Brings s.own_group (cause_of s i.event) (announced_of s i.event) i.media
  brought = brings s i.event i.media t.settings t.message t.arguments

  -- the call held afterwards is good
  next-call : call_good s effect.to (held_of effect.hold g.call (announced_of s i.event).call) (media_held effect.hold g.media i.media) ≡ true
  next-call =
      held-good s g.state effect.to effect.hold (cause_of s i.event) g.call g.media (announced_of s i.event) i.media
      sound.call (fit s g t.formed).call brought

  -- the next record is well formed
  pub carried-well-formed : is_well_formed s (carry_out s g i row).next ≡ true
  unfolding is_well_formed carry_out
  carried-well-formed =
      both (same_timers (running_by g.state g.running (ran_out_by i.event) effect) (running_of effect.to)) _
      (timers-at row (fit s g t.formed).running (ran-out-of s i.event) sound) next-call

  -- what is sent is in range
  pub carried-sends-good : SentGood (carry_out s g i row).sent (carry_out s g i row).next.media
  unfolding carry_out
  carried-sends-good =
      said-good s g.state effect.to effect.hold effect.say (cause_of s i.event) g.call g.media (announced_of s i.event) i.media
      (own-good s t.settings) sound.message brought next-call
