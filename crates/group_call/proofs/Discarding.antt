-- Where no row is met nothing changes. Assumes nothing.
use mathlib.Core.Path.{◌≡◌, refl, ap, ◌∙◌, subst}
use mathlib.Core.Bool.{Bool, false, not}
use lib.Dec.{eqb}
use borrow.Author.Tests.{eq-eqb}
use Rattle.std.specs.Prelude.{None}
use Rattle.call.specs.Timing.{timer_facts, stopped_of, running_after}
use Rattle.call.specs.Announced.{announced_of}
use Rattle.call.specs.declared.Settings.{Settings}
use Rattle.call.specs.declared.GroupTimer.{GroupTimer}
use Rattle.call.specs.declared.Input.{Input}
use Rattle.call.proofs.Timing.{stops-none, runs-on-one}
use Rattle.stepping.specs.declared.Carried.{Carried}
use Rattle.group_record.specs.States.{state_number, has, no_timer, running_of}
use Rattle.group_record.specs.declared.states.State.{State}
use Rattle.group_record.specs.declared.states.Timers.{Timers}
use Rattle.group_record.specs.declared.states.GroupRecord.{GroupRecord}
use Rattle.group_rows.specs.Causes.{cause_of, facts_of}
use Rattle.group_rows.specs.Rows.{row_of}
use Rattle.group_rows.specs.declared.causes.Cause.{Cause}
use Rattle.group_call.specs.Effects.{effect_of}
use Rattle.group_call.specs.Carried.{ran_out_by, changes, timers_by, stopped_by, running_by, carry_out}
use Rattle.group_call.proofs.Brought.{out_of, ran-out-of}
use Rattle.group_call.proofs.Settling.{less, Sound, rows-sound}
use Rattle.group_call.proofs.Keeping.{same-timers, Fit}

-- nothing carried out
abbrev pub nothing : GroupRecord → Carried GroupRecord Timers
nothing g = record { next = g; stop = no_timer; start = no_timer; sent = None }

-- a state that stays does not change
unchanged : (state : State) → changes state state ≡ false
unchanged state = ap not (eq-eqb (state_number state) (state_number state) refl)

-- a discard stops nothing
stops-nothing : (state : State) (confirm : Bool) (was out : Timers) → stopped_by state was out (effect_of None state confirm) ≡ no_timer
unfolding stopped_of
stops-nothing state confirm was out =
    let x = timer_facts has (timers_by state was out (effect_of None state confirm)) in
    let same = unchanged state in
    λ i. record {
      tfg2 = stops-none (x GroupTimer.Tfg2) refl same i;
      tfg4 = stops-none (x GroupTimer.Tfg4) refl same i;
      tfg6 = stops-none (x GroupTimer.Tfg6) refl same i;
    }

-- so what runs afterwards is what ran and did not run out
runs_on : (state : State) (confirm : Bool) (was out : Timers) → running_by state was out (effect_of None state confirm) ≡ less was out
unfolding running_after
runs_on state confirm was out =
    let x = timer_facts has (timers_by state was out (effect_of None state confirm)) in
    let same = unchanged state in
    λ i. record {
      tfg2 = runs-on-one (x GroupTimer.Tfg2) refl refl same i;
      tfg4 = runs-on-one (x GroupTimer.Tfg4) refl refl same i;
      tfg6 = runs-on-one (x GroupTimer.Tfg6) refl refl same i;
    }

-- in a fit record, that is what ran
quiet_at : {f : State} {c : Cause} {confirm : Bool} {was out : Timers} → was ≡ running_of f → out ≡ out_of c → Sound f c confirm None → less was out ≡ was
quiet_at {f} {c} a b x = rw (a, b) (same-timers (less (running_of f) (out_of c)) (running_of f) x.discard)

-- nothing is carried out
pub carried-nothing : (s : Settings) (g : GroupRecord) (i : Input) → Fit s g → row_of s g i.event ≡ None → carry_out s g i (row_of s g i.event) ≡ nothing g
unfolding carry_out
carried-nothing s g i f e =
    let out = ran_out_by i.event in
    let confirm = eqb (announced_of s i.event).confirm 1 in
    let x = rows-sound g.state (cause_of s i.event) (facts_of s g.call (announced_of s i.event).call) confirm in
    let quiet = quiet_at f.running (ran-out-of s i.event) (subst (Sound g.state (cause_of s i.event) confirm) e x) in
    let stops = stops-nothing g.state confirm g.running out in
    let runs = runs_on g.state confirm g.running out ∙ quiet in
    ap (carry_out s g i) e ∙ (λ j. record {
      next = record { state = g.state; running = runs j; call = g.call; media = g.media };
      stop = stops j;
      start = no_timer;
      sent = None;
    })
