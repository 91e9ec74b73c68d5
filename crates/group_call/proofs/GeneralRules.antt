-- The rules that hold for all rows, of the answer of a step that is not refused. Assumes nothing.
use Prim.Native.Nat.{ℕ}
use mathlib.Core.Path.{◌≡◌, sym, ◌∙◌, subst}
use mathlib.Core.List.{List}
use mathlib.Core.Bool.{true, false, not, ◌&&◌, ◌||◌}
use lib.Dec.{eqb}
use Rattle.call.specs.Timing.{is_stopped, runs_after, timer_facts, stopped_of, running_after}
use Rattle.call.specs.Announced.{announced_of}
use Rattle.call.specs.declared.Settings.{Settings}
use Rattle.call.specs.declared.GroupTimer.{GroupTimer}
use Rattle.call.specs.declared.Input.{Input}
use Rattle.call.specs.declared.timers.TimerSets.{TimerSets}
use Rattle.call.proofs.Timing.{change-stops-one, spares-one}
use Rattle.stepping.specs.Answer.{Answer}
use Rattle.group_record.specs.States.{has, set_of}
use Rattle.group_record.specs.declared.states.Timers.{Timers}
use Rattle.group_record.specs.declared.states.GroupRecord.{GroupRecord}
use Rattle.group_rows.specs.Rows.{row_of}
use Rattle.group_call.specs.Effects.{effect_of}
use Rattle.group_call.specs.Carried.{ran_out_by, changes, timers_by, carry_out}
use Rattle.group_call.specs.Step.{done_of, step_number, step_of}
use Rattle.group_call.specs.declared.effects.Effect.{Effect}
use Rattle.group_call.proofs.Keeping.{has-set}
use Rattle.group_call.proofs.Steps.{step-done}

-- whether a timer is stopped
stopped-one : (x : TimerSets Timers) (t : GroupTimer) → has (stopped_of has set_of x) t ≡ is_stopped (timer_facts has x t)
unfolding stopped_of
stopped-one x = has-set (λ t. is_stopped (timer_facts has x t))

-- whether a timer runs afterwards
running-one : (x : TimerSets Timers) (t : GroupTimer) → has (running_after has set_of x) t ≡ runs_after (timer_facts has x t)
unfolding running_after
running-one x = has-set (λ t. runs_after (timer_facts has x t))

module _ (s : Settings) (g : GroupRecord) (i : Input) where
  -- what the row that is met does
  abbrev effect : Effect
  effect = effect_of (row_of s g i.event) g.state (eqb (announced_of s i.event).confirm 1)

  -- what the rules ask of the timers
  abbrev sets : TimerSets Timers
  sets = timers_by g.state g.running (ran_out_by i.event) effect

  -- what runs afterwards is what was started, and what ran and was neither stopped nor ran out
  agree : (t : GroupTimer) → has (done_of s g i).next.running t
      ≡ (has (done_of s g i).start t || (has g.running t && (not (has (done_of s g i).stop t) && not (has (ran_out_by i.event) t))))
  unfolding carry_out
  agree t =
      running-one sets t
      ∙ sym (λ j. has sets.started t || (has g.running t && (not (stopped-one sets t j) && not (has (ran_out_by i.event) t))))

  -- leaving a state stops each timer that runs there, if the row does not start it anew
  change-stops : (t : GroupTimer) → changes g.state (done_of s g i).next.state ≡ true → has g.running t ≡ true
      → has (done_of s g i).start t ≡ false → has (ran_out_by i.event) t ≡ false → has (done_of s g i).stop t ≡ true
  unfolding carry_out
  change-stops t a b c d =
      stopped-one sets t ∙ change-stops-one (timer_facts has sets t) a b c d

  -- no step stops the timer whose expiry it is about
  spares-ran-out : (t : GroupTimer) → has (ran_out_by i.event) t ≡ true → has (done_of s g i).stop t ≡ false
  unfolding carry_out
  spares-ran-out t e =
      stopped-one sets t ∙ spares-one (timer_facts has sets t) e

  -- what runs afterwards is what was started, and what ran and was neither stopped nor ran out
  pub timers-agree : (out : List ℕ) → step_number s g i out ≡ 0 → (t : GroupTimer) → has (step_of s g i out).next.running t
      ≡ (has (step_of s g i out).start t || (has g.running t && (not (has (step_of s g i out).stop t) && not (has (ran_out_by i.event) t))))
  timers-agree out e t =
      subst (λ (r : Answer GroupRecord Timers). has r.next.running t ≡ (has r.start t || (has g.running t && (not (has r.stop t) && not (has (ran_out_by i.event) t)))))
      (sym (step-done s g i out e).0) (agree t)

  -- leaving a state stops each timer that runs there, if the row does not start it anew
  pub step-change-stops : (out : List ℕ) → step_number s g i out ≡ 0 → (t : GroupTimer) → changes g.state (step_of s g i out).next.state ≡ true
      → has g.running t ≡ true → has (step_of s g i out).start t ≡ false → has (ran_out_by i.event) t ≡ false → has (step_of s g i out).stop t ≡ true
  step-change-stops out e t =
      subst (λ (r : Answer GroupRecord Timers). changes g.state r.next.state ≡ true → has g.running t ≡ true → has r.start t ≡ false
      → has (ran_out_by i.event) t ≡ false → has r.stop t ≡ true) (sym (step-done s g i out e).0) (change-stops t)

  -- no step stops the timer whose expiry it is about
  pub step-spares-ran-out : (out : List ℕ) → step_number s g i out ≡ 0 → (t : GroupTimer) → has (ran_out_by i.event) t ≡ true → has (step_of s g i out).stop t ≡ false
  step-spares-ran-out out e t =
      subst (λ (r : Answer GroupRecord Timers). has (ran_out_by i.event) t ≡ true → has r.stop t ≡ false) (sym (step-done s g i out e).0) (spares-ran-out t)
