-- From every well-formed record of the private call machine some input is heeded, and it never stands still. Assumes nothing.
use Rattle.std.specs.Prelude.{Some, Option}
use mathlib.Core.Path.{◌≡◌, refl, sym, ap, ◌∙◌, subst}
use mathlib.Core.Bool.{Bool, true, false, cond, true≢false}
use Prim.Native.Nat.{ℕ, ◌≤◌}
use native.Mathlib.Omega.{arith}
use lib.Dec.{eqb}
use borrow.Author.Tests.{eq-eqb, ne_eqb, eqb-true}
use Rattle.frame.specs.Digits.{two, four}
use Rattle.frame.specs.Range.{never_zero}
use Rattle.frame.specs.Frame.{parties_good, setup_good, in_range}
use Rattle.frame.specs.declared.Message.TheVariants.{Release}
use Rattle.frame.proofs.Laws.{and_split}
use Rattle.call.specs.Settings.{settings_good}
use Rattle.call.specs.declared.Settings.{Settings}
use Rattle.call.specs.declared.PrivateTimer.{PrivateTimer}
use Rattle.call.specs.declared.PrivateAction.{PrivateAction}
use Rattle.call.specs.declared.Input.{Input}
use Rattle.stepping.specs.Numbers.{heard_good, arguments_good}
use Rattle.stepping.proofs.Stepping.{Taken}
use Rattle.private_record.specs.Phases.{state_of, phase_of}
use Rattle.private_record.specs.Formed.{is_well_formed}
use Rattle.private_record.specs.declared.states.State.{State}
use Rattle.private_record.specs.declared.states.Phase.{Phase}
use Rattle.private_record.specs.declared.states.PrivateRecord.{PrivateRecord}
use Rattle.private_record.proofs.WellFormed.{fit}
use Rattle.private_rows.specs.Causes.{cause_of, facts_of}
use Rattle.private_rows.specs.Rows.{row_number, row_in, row_of}
use Rattle.private_rows.specs.Found.{found_at}
use Rattle.private_rows.specs.declared.Row.{Row}
use Rattle.private_rows.specs.declared.Row.TheVariants.{R1, R8, R9, R13, R25, R28}
use Rattle.private_rows.proofs.Meets.{found-is-met}
use Rattle.private_call.specs.Effects.{effect_of}
use Rattle.private_call.specs.Carried.{changes, carry_out}
use Rattle.private_call.specs.Step.{identifier_taken}
use Rattle.stepping.specs.Answer.{Answer}
use Rattle.private_call.proofs.Steps.{answer-of-row, answer-told}
use Rattle.private_call.proofs.Settling.{start_stop}
use Rattle.private_call.proofs.Holding.{ranged, one-held}
use Rattle.demands.specs.Machines.{private_machine}
use Rattle.demands.specs.Played.{hears, does, expires}
use Rattle.demands.specs.Consequences.{IsHeeded, Heeds, NeverStill}
use Rattle.demands.proofs.Machines.{private-keeps-well-formed}
use Rattle.demands.proofs.Reflects.{true-reflects}
use Rattle.demands.proofs.ExactlyWhen.{taken-reflects}
use Rattle.demands.proofs.Consequences.{private-rows-hold, heeded-by-row, never-still}
use Rattle.private_record.specs.declared.states.Timers.{Timers}

-- ---- what is heeded

-- the row that an input meets from a record, if the record is in this phase
abbrev row_found : Settings → PrivateRecord → Input → Phase → Option Row
row_found s p i f = found_at f (cause_of s i.event) (facts_of s f p.counters p.call i)

-- an input that is not refused and meets a row to another state is heeded
heeded : (s : Settings) (p : PrivateRecord) (i : Input) (f : Phase) (row : Option Row) → Taken s (is_well_formed s p) i → phase_of p ≡ f → row_found s p i f ≡ row
    → identifier_taken s p i.event row ≡ false → 1 ≤ row_number row → changes (state_of f) (effect_of row (state_of f)).to ≡ true → IsHeeded private_machine s p i
unfolding carry_out
heeded s p i f row t q r n h c =
    let state = (fit s p t.formed).state ∙ ap state_of q in
    let met : row_of s p i ≡ row =
    (λ j. row_in (q j) (cause_of s i.event) (facts_of s (q j) p.counters p.call i)) ∙ sym (found-is-met f _ _) ∙ r in
    let number = ap row_number met in
    heeded-by-row private_machine private-rows-hold s p i
    (record {
      settings = t.settings;
      formed = t.formed;
      message = t.message;
      arguments = t.arguments;
      row = true-reflects (taken-reflects s p i) (ap (identifier_taken s p i.event) met ∙ n);
    }) (answer-told s p i).0 (subst (λ (k : ℕ). 1 ≤ k) (sym ((answer-told s p i).1 ∙ number)) h)
    (ap (λ (x : Answer PrivateRecord Timers). changes p.state x.next.state) (answer-of-row s p i (λ e. let z = sym number ∙ e in omega (arith, z, h)))
    ∙ (λ j. changes (state j) (effect_of (met j) (state j)).to) ∙ c)

-- ---- a start that is not refused

-- a number from 1 to 2 that is not this one
abbrev other : ℕ → ℕ
other n = cond (eqb n 1) 2 1

-- it is not
other_differs : (n : ℕ) → eqb (other n) n ≡ false
other_differs n = go (eqb n 1) refl
  where
    go : (b : Bool) → eqb n 1 ≡ b → eqb (cond b 2 1) n ≡ false
    go true t = let e = eqb-true n 1 t in ne_eqb 2 n (λ z. omega (arith, e, z))
    go false t = ne_eqb 1 n (λ z. true≢false (sym (eq-eqb n 1 (sym z)) ∙ t))

-- and it is in range
other-good : (n : ℕ) → (never_zero two (other n) ≡ true) × (never_zero four (other n) ≡ true)
other-good n = go (eqb n 1)
  where
    go : (b : Bool) → (never_zero two (cond b 2 1) ≡ true) × (never_zero four (cond b 2 1) ≡ true)
    go true = (refl, refl)
    go false = (refl, refl)

-- the user starts a call with an identifier that is not the stored one, to a user who is not own
abbrev starts_another : Settings → PrivateRecord → Input
starts_another s p =
    does (PrivateAction.Start (record { identifier = other p.call.parties.identifier; callee = other s.own_user; commencement = 0; pck_id = 0 }))

-- its arguments are good
start-good : (s : Settings) (p : PrivateRecord) → settings_good s ≡ true → arguments_good s (starts_another s p).event (starts_another s p).media ≡ true
unfolding settings_good in_range parties_good setup_good
start-good s p g =
    rw ((other-good p.call.parties.identifier).0, (and_split (never_zero four s.own_user) _ g).0, (other-good s.own_user).1, other_differs s.own_user)

-- ---- a RELEASE that is not refused

-- of the stored call
abbrev releases : PrivateRecord → Input
releases p = hears (Release p.call.parties)

-- outside P0 its fields are in range
release-good : (s : Settings) (p : PrivateRecord) → is_well_formed s p ≡ true → start_stop p.state ≡ false
    → heard_good (releases p).event (releases p).media ≡ true
unfolding in_range
release-good s p w e = (ranged p.call (one-held s p.state p.call e (fit s p w).call)).parties

-- ---- in each phase

module _ (s : Settings) (p : PrivateRecord) (g : settings_good s ≡ true) (w : is_well_formed s p ≡ true) where
  -- some input is heeded
  abbrev SomeHeeded : Type 0
  SomeHeeded = (i : Input) × IsHeeded private_machine s p i

  -- this input is, where its fields and arguments are good and it meets this row
  by_row : (i : Input) (f : Phase) (row : Option Row) → heard_good i.event i.media ≡ true → arguments_good s i.event i.media ≡ true → phase_of p ≡ f
      → row_found s p i f ≡ row → identifier_taken s p i.event row ≡ false → 1 ≤ row_number row → changes (state_of f) (effect_of row (state_of f)).to ≡ true
      → SomeHeeded
  by_row i f row h a q r n k c = (i, heeded s p i f row (record { settings = g; formed = w; message = h; arguments = a }) q r n k c)

  -- a RELEASE meets R13
  released : (f : Phase) → phase_of p ≡ f → start_stop (state_of f) ≡ false → row_found s p (releases p) f ≡ (Some R13) → changes (state_of f) State.P1 ≡ true → SomeHeeded
  released f q e r c =
      by_row (releases p) f (Some R13) (release-good s p w (ap start_stop ((fit s p w).state ∙ ap state_of q) ∙ e)) refl q r refl (omega arith) c

  -- in P0 the user's start is heeded, in P1 the expiry of TFP7, in P2 and P4 the user's end, in P5 the user's reject until the user accepts, elsewhere a RELEASE
  in-phase : (f : Phase) → phase_of p ≡ f → SomeHeeded
  in-phase Phase.P0 q =
      by_row (starts_another s p) Phase.P0 (Some R1) refl (start-good s p g) q refl (other_differs p.call.parties.identifier) (omega arith) refl
  in-phase Phase.P1 q = by_row (expires PrivateTimer.Tfp7) Phase.P1 (Some R28) refl refl q refl refl (omega arith) refl
  in-phase Phase.P2Tfp1 q = by_row (does PrivateAction.End) Phase.P2Tfp1 (Some R8) refl refl q refl refl (omega arith) refl
  in-phase Phase.P2Tfp2 q = by_row (does PrivateAction.End) Phase.P2Tfp2 (Some R8) refl refl q refl refl (omega arith) refl
  in-phase Phase.P3 q = released Phase.P3 q refl (rw (eq-eqb p.call.parties.identifier p.call.parties.identifier refl)) refl
  in-phase Phase.P4 q = by_row (does PrivateAction.End) Phase.P4 (Some R9) refl refl q refl refl (omega arith) refl
  in-phase Phase.P5Tfp2 q = by_row (does PrivateAction.Reject) Phase.P5Tfp2 (Some R25) refl refl q refl refl (omega arith) refl
  in-phase Phase.P5Tfp4 q = released Phase.P5Tfp4 q refl (rw (eq-eqb p.call.parties.identifier p.call.parties.identifier refl)) refl

-- ---- the theorems

-- from every well-formed record some input is heeded
pub private-heeds : Heeds private_machine
private-heeds s p g w = in-phase s p g w (phase_of p) refl

-- after any steps some input is heeded
pub private-never-still : NeverStill private_machine
private-never-still = never-still private_machine private-keeps-well-formed private-heeds
