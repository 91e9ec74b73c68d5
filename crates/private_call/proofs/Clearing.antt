-- The cleared record is well formed, R28 clears the record, and TFP7 meets it. Assumes nothing.
use Prim.Native.Nat.{ℕ}
use mathlib.Core.Path.{◌≡◌, refl, ap, ◌∙◌, subst}
use mathlib.Core.List.{List}
use mathlib.Core.Bool.{true, false}
use native.Mathlib.Omega.{arith}
use lib.Dec.{eqb}
use Rattle.std.specs.Prelude.{Option, Some}
use Rattle.frame.specs.declared.Media.{Media}
use Rattle.call.specs.Timing.{stopped_of, running_after}
use Rattle.call.specs.Settings.{settings_good}
use Rattle.call.specs.declared.Settings.{Settings}
use Rattle.call.specs.declared.Verdicts.{Verdicts}
use Rattle.call.specs.declared.PrivateTimer.{PrivateTimer}
use Rattle.call.specs.declared.Input.{Input}
use Rattle.private_record.specs.Phases.{tfp7, no_timer, running_of, phase_in, phase_of}
use Rattle.private_record.specs.Formed.{no_call, cleared_record, is_well_formed}
use Rattle.private_record.specs.declared.states.State.{State}
use Rattle.private_record.specs.declared.states.Timers.{Timers}
use Rattle.private_record.specs.declared.states.Phase.{Phase}
use Rattle.private_record.specs.declared.states.PrivateRecord.{PrivateRecord}
use Rattle.private_record.proofs.WellFormed.{fit}
use Rattle.private_rows.specs.Causes.{facts_of}
use Rattle.private_rows.specs.Rows.{row_number, row_in}
use Rattle.private_rows.specs.declared.Row.{Row}
use Rattle.private_rows.specs.declared.Row.TheVariants.{R28}
use Rattle.private_rows.specs.declared.causes.Cause.{Cause}
use Rattle.private_rows.specs.declared.causes.Facts.{Facts}
use Rattle.private_call.specs.Effects.{effect_of}
use Rattle.private_call.specs.Carried.{started_of, counters_after, started_by, stopped_by, running_by, carry_out}
use Rattle.private_call.specs.Step.{step_of}
use Rattle.private_call.specs.Running.{expiry}
use Rattle.stepping.specs.Answer.{Answer}
use Rattle.private_call.proofs.Keeping.{carried-well-formed}
use Rattle.private_call.proofs.Steps.{tests-passed, step-passed}
use Rattle.private_call.proofs.MarkedSteps.{carries, next-done, row-met, expiry-taken}

-- under all settings
pub cleared-well-formed : (s : Settings) → is_well_formed s cleared_record ≡ true
unfolding is_well_formed
cleared-well-formed s = refl

-- ---- R28

-- in a well-formed record no timer runs after R28, since it enters P0
runs_none : (s : Settings) (p : PrivateRecord) (i : Input) → is_well_formed s (carry_out s p i (Some R28)).next ≡ true → (carry_out s p i (Some R28)).next.running ≡ no_timer
unfolding carry_out
runs_none s p i w = (fit s (carry_out s p i (Some R28)).next w).running

-- so what it leaves is the cleared record
leaves-cleared : (s : Settings) (p : PrivateRecord) (i : Input) → is_well_formed s (carry_out s p i (Some R28)).next ≡ true → (carry_out s p i (Some R28)).next ≡ cleared_record
unfolding carry_out counters_after
leaves-cleared s p i w =
    let t = runs_none s p i w in
    λ j. record {
      state = State.P0;
      running = t j;
      counters = counters_after (t j) (started_by p.state (effect_of (Some R28) p.state)) false s.limits p.counters;
      call = no_call;
    }

-- a step that tells it leaves the cleared record
pub row-28-clears : (s : Settings) (p : PrivateRecord) (i : Input) (out : List ℕ) → (step_of s p i out).row ≡ 28 → (step_of s p i out).next ≡ cleared_record
row-28-clears s p i out told =
    let (e, met) = row-met s p i out (Some R28) (λ z. let w : ⊥ = omega (arith, z) in w) told in
    let w = carried-well-formed s p i (tests-passed s p i (step-passed s p i out e).0).0 in
    next-done s p i out e
    ∙ ((λ j. (carry_out s p i (met j)).next) ∙ leaves-cleared s p i (subst (λ (row : Option Row). is_well_formed s (carry_out s p i row).next ≡ true) met w))

-- ---- TFP7

-- the expiry of TFP7 in P1 meets R28
ignoring-ends : (x : Facts) → row_in Phase.P1 Cause.Tfp7Expires x ≡ Some R28
unfolding row_in
ignoring-ends x = refl

-- R28 leaves no timer running, and stops and starts none
no-timers : {state : State} {was : Timers} → state ≡ State.P1 → was ≡ tfp7 → let x = effect_of (Some R28) state in
    (running_by state was tfp7 x ≡ no_timer) × (stopped_by state was tfp7 x ≡ no_timer) × (started_by state x ≡ no_timer)
unfolding started_of stopped_of running_after
no-timers a b = rw (a, b) (refl, refl, refl)

-- a step that cleared the record, and did nothing else
abbrev pub cleared : Answer PrivateRecord Timers
cleared = record { number = 0; row = 28; next = cleared_record; stop = no_timer; start = no_timer; length = 0 }

-- the expiry of TFP7 in P1 clears the record, touches no timer and sends nothing
pub clears : (s : Settings) (p : PrivateRecord) (media : Media) (v : Verdicts) (out : List ℕ) → settings_good s ≡ true → is_well_formed s p ≡ true
    → p.state ≡ State.P1 → step_of s p (expiry PrivateTimer.Tfp7 media v) out ≡ cleared
unfolding carry_out counters_after
clears s p media v out g w e =
    let i = expiry PrivateTimer.Tfp7 media v in
    let phase : phase_of p ≡ Phase.P1 = ap (λ (state : State). phase_in state p.running) e in
    let running : p.running ≡ tfp7 = (fit s p w).running ∙ ap running_of phase in
    let t = no-timers e running in
    let r = (λ j. row_in (phase j) Cause.Tfp7Expires (facts_of s (phase j) p.counters p.call i)) ∙ ignoring-ends (facts_of s Phase.P1 p.counters p.call i) in
    carries s p i out (Some R28) (expiry-taken s p PrivateTimer.Tfp7 media v g w (ap (λ (row : Option Row). eqb (row_number row) 1) r)) r refl
    ∙ (λ j. record {
      number = 0;
      row = 28;
      next = record { state = State.P0; running = t.0 j; counters = counters_after (t.0 j) (t.2 j) false s.limits p.counters; call = no_call };
      stop = t.1 j;
      start = t.2 j;
      length = 0;
    })
