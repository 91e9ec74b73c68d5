-- Where no row is met nothing changes. Assumes nothing.
use Prim.Native.Nat.{ℕ}
use mathlib.Core.Path.{◌≡◌, refl, sym, ap, ◌∙◌, subst}
use mathlib.Core.Bool.{Bool, true, false, not}
use borrow.Author.Tests.{eqb-true, eq-eqb}
use Rattle.std.specs.Prelude.{None}
use Rattle.frame.proofs.Laws.{and_split}
use Rattle.call.specs.Timing.{stopped_of, running_after, timer_facts}
use Rattle.call.specs.declared.Counters.{Counters}
use Rattle.call.specs.declared.Settings.{Settings}
use Rattle.call.specs.declared.PrivateTimer.{PrivateTimer}
use Rattle.call.specs.declared.Input.{Input}
use Rattle.call.proofs.Timing.{stops-none, runs-on-one}
use Rattle.private_record.specs.Phases.{state_number, has, no_timer, running_of, phase_of}
use Rattle.private_record.specs.Formed.{counter_good, counters_good}
use Rattle.private_record.specs.declared.states.State.{State}
use Rattle.private_record.specs.declared.states.Timers.{Timers}
use Rattle.private_record.specs.declared.states.Phase.{Phase}
use Rattle.private_record.specs.declared.states.PrivateRecord.{PrivateRecord}
use Rattle.private_record.proofs.WellFormed.{same-timers, Fit}
use Rattle.private_rows.specs.Causes.{cause_of, facts_of}
use Rattle.private_rows.specs.Rows.{row_of}
use Rattle.private_rows.specs.declared.causes.Cause.{Cause}
use Rattle.private_call.specs.Effects.{effect_of}
use Rattle.private_call.specs.Carried.{ran_out_by, changes, started_of, counter_after, counters_after, started_by, timers_by, stopped_by, running_by, carry_out}
use Rattle.stepping.specs.declared.Carried.{Carried}
use Rattle.private_call.proofs.Brought.{out_of, ran-out-of}
use Rattle.private_call.proofs.Settling.{less, Sound, rows-sound}

-- nothing carried out
abbrev pub nothing : PrivateRecord → Carried PrivateRecord Timers
nothing p = record { next = p; stop = no_timer; start = no_timer; sent = None }

-- a counter in its range whose timer is not started is the same afterwards
counter-same : (runs again : Bool) (limit n : ℕ) → counter_good runs limit n ≡ true
    → counter_after (record { runs = runs; started = false; again = again; limit = limit; was = n }) ≡ n
counter-same true again limit n g = refl
counter-same false again limit n g = sym (eqb-true n 0 g)

-- so are the three
counters-same : (running : Timers) (again : Bool) (limits counters : Counters) → counters_good running limits counters ≡ true
    → counters_after running no_timer again limits counters ≡ counters
unfolding counters_after
counters-same w again limits n g =
    let a = and_split (counter_good w.tfp1 limits.cfp1 n.cfp1) _ g in
    let b = and_split (counter_good w.tfp3 limits.cfp3 n.cfp3) (counter_good w.tfp4 limits.cfp4 n.cfp4) a.1 in
    λ i. record {
      cfp1 = counter-same w.tfp1 again limits.cfp1 n.cfp1 a.0 i;
      cfp3 = counter-same w.tfp3 again limits.cfp3 n.cfp3 b.0 i;
      cfp4 = counter-same w.tfp4 again limits.cfp4 n.cfp4 b.1 i;
    }

-- a state that stays does not change
unchanged : (state : State) → changes state state ≡ false
unchanged state = ap not (eq-eqb (state_number state) (state_number state) refl)

-- a discard starts nothing
starts-nothing : (state : State) → started_by state (effect_of None state) ≡ no_timer
unfolding started_of
starts-nothing state = rw (unchanged state)

-- and stops nothing
stops-nothing : (state : State) (was out : Timers) → stopped_by state was out (effect_of None state) ≡ no_timer
unfolding stopped_of
stops-nothing state was out =
    let x = timer_facts has (timers_by state was out (effect_of None state)) in
    let same = unchanged state in
    λ i. record {
      tfp1 = stops-none (x PrivateTimer.Tfp1) refl same i;
      tfp2 = stops-none (x PrivateTimer.Tfp2) refl same i;
      tfp3 = stops-none (x PrivateTimer.Tfp3) refl same i;
      tfp4 = stops-none (x PrivateTimer.Tfp4) refl same i;
      tfp5 = stops-none (x PrivateTimer.Tfp5) refl same i;
      tfp7 = stops-none (x PrivateTimer.Tfp7) refl same i;
    }

-- so what runs afterwards is what ran and did not run out
runs_on : (state : State) (was out : Timers) → running_by state was out (effect_of None state) ≡ less was out
unfolding running_after
runs_on state was out =
    let x = timer_facts has (timers_by state was out (effect_of None state)) in
    let same = unchanged state in
    let none = starts-nothing state in
    λ i. record {
      tfp1 = runs-on-one (x PrivateTimer.Tfp1) (λ j. (none j).tfp1) refl same i;
      tfp2 = runs-on-one (x PrivateTimer.Tfp2) (λ j. (none j).tfp2) refl same i;
      tfp3 = runs-on-one (x PrivateTimer.Tfp3) (λ j. (none j).tfp3) refl same i;
      tfp4 = runs-on-one (x PrivateTimer.Tfp4) (λ j. (none j).tfp4) refl same i;
      tfp5 = runs-on-one (x PrivateTimer.Tfp5) (λ j. (none j).tfp5) refl same i;
      tfp7 = runs-on-one (x PrivateTimer.Tfp7) (λ j. (none j).tfp7) refl same i;
    }

-- in the phase of a fit record, that is what ran
quiet_at : {f : Phase} {c : Cause} {was out : Timers} → was ≡ running_of f → out ≡ out_of c → Sound f c None → less was out ≡ was
quiet_at {f} {c} a b x = rw (a, b) (same-timers (less (running_of f) (out_of c)) (running_of f) x.discard)

-- nothing is carried out
pub carried-nothing : (s : Settings) (p : PrivateRecord) (i : Input) → Fit s p → row_of s p i ≡ None → carry_out s p i (row_of s p i) ≡ nothing p
unfolding carry_out
carried-nothing s p i f e =
    let out = ran_out_by i.event in
    let x = rows-sound (phase_of p) (cause_of s i.event) (facts_of s (phase_of p) p.counters p.call i) in
    let quiet = quiet_at f.running (ran-out-of s i.event) (subst (Sound (phase_of p) (cause_of s i.event)) e x) in
    let stops = stops-nothing p.state p.running out in
    let starts = starts-nothing p.state in
    let runs = runs_on p.state p.running out ∙ quiet in
    let counts = (λ j. counters_after (runs j) (starts j) false s.limits p.counters) ∙ counters-same p.running false s.limits p.counters f.counters in
    ap (carry_out s p i) e ∙ (λ j. record {
      next = record { state = p.state; running = runs j; counters = counts j; call = p.call };
      stop = stops j;
      start = starts j;
      sent = None;
    })
