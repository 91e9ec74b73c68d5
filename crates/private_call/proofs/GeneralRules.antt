-- The rules that hold for all rows, in the order in which they are told. Assumes nothing.
use Prim.Native.Nat.{ℕ}
use mathlib.Core.Path.{◌≡◌, sym, ◌∙◌, subst}
use mathlib.Core.List.{List}
use mathlib.Core.Bool.{true, false, not, ◌&&◌, ◌||◌}
use lib.Dec.{eqb}
use Rattle.std.proofs.Math.Bool.{or-true}
use Rattle.std.specs.Prelude.{Option}
use Rattle.call.specs.Timing.{is_stopped, runs_after, stopped_of, running_after, timer_facts}
use Rattle.call.specs.declared.Settings.{Settings}
use Rattle.call.specs.declared.PrivateTimer.{PrivateTimer}
use Rattle.call.specs.declared.Input.{Input}
use Rattle.call.proofs.Timing.{change-stops-one, spares-one}
use Rattle.private_record.specs.Phases.{state_number, has, set_of}
use Rattle.private_record.specs.declared.states.PrivateRecord.{PrivateRecord}
use Rattle.private_record.proofs.WellFormed.{has-set}
use Rattle.private_rows.specs.Rows.{row_of}
use Rattle.private_rows.specs.declared.Row.{Row}
use Rattle.private_call.specs.Effects.{effect_of}
use Rattle.private_call.specs.Carried.{ran_out_by, changes, started_of, counters_after, timers_by, carry_out}
use Rattle.private_call.specs.Step.{step_number, step_of}
use Rattle.private_call.specs.NoReply.{Counter, cfp1, cfp3, cfp4, count_in, timer_of}
use Rattle.private_call.specs.declared.effects.Effect.{Effect}
use Rattle.call.specs.declared.timers.TimerSets.{TimerSets}
use Rattle.stepping.specs.Answer.{Answer}
use Rattle.private_call.proofs.Steps.{step-done}
use Rattle.private_record.specs.declared.states.Timers.{Timers}

-- whether a timer is stopped
stopped-one : (x : TimerSets Timers) (t : PrivateTimer) → has (stopped_of has set_of x) t ≡ is_stopped (timer_facts has x t)
unfolding stopped_of
stopped-one x = has-set (λ t. is_stopped (timer_facts has x t))

-- whether a timer runs afterwards
running-one : (x : TimerSets Timers) (t : PrivateTimer) → has (running_after has set_of x) t ≡ runs_after (timer_facts has x t)
unfolding running_after
running-one x = has-set (λ t. runs_after (timer_facts has x t))

module _ (s : Settings) (p : PrivateRecord) (i : Input) (row : Option Row) where
  -- what the row does
  abbrev effect : Effect
  effect = effect_of row p.state

  -- what the rules ask of the timers
  abbrev sets : TimerSets Timers
  sets = timers_by p.state p.running (ran_out_by i.event) effect

  -- what runs afterwards is what was started, and what ran and was neither stopped nor ran out
  agree : (t : PrivateTimer) → has (carry_out s p i row).next.running t
      ≡ (has (carry_out s p i row).start t || (has p.running t && (not (has (carry_out s p i row).stop t) && not (has (ran_out_by i.event) t))))
  unfolding carry_out
  agree t =
      running-one sets t
      ∙ sym (λ j. has sets.started t || (has p.running t && (not (stopped-one sets t j) && not (has (ran_out_by i.event) t))))

  -- leaving a state stops each timer that runs there, if the row does not start it anew
  change-stops : (t : PrivateTimer) → changes p.state (carry_out s p i row).next.state ≡ true → has p.running t ≡ true
      → has (carry_out s p i row).start t ≡ false → has (ran_out_by i.event) t ≡ false → has (carry_out s p i row).stop t ≡ true
  unfolding carry_out
  change-stops t a b c d =
      stopped-one sets t ∙ change-stops-one (timer_facts has sets t) a b c d

  -- no step stops the timer whose expiry it is about
  ran-out-never-stopped : (t : PrivateTimer) → has (ran_out_by i.event) t ≡ true → has (carry_out s p i row).stop t ≡ false
  unfolding carry_out
  ran-out-never-stopped t e =
      stopped-one sets t ∙ spares-one (timer_facts has sets t) e

  -- a counter without a running timer is 0
  counter-rests : (k : Counter) → has (carry_out s p i row).next.running (timer_of k) ≡ false → count_in k (carry_out s p i row).next.counters ≡ 0
  unfolding carry_out counters_after
  counter-rests cfp1 e = rw e
  counter-rests cfp3 e = rw e
  counter-rests cfp4 e = rw e

  -- whoever comes to P1 starts TFP7
  entering-starts : changes p.state (carry_out s p i row).next.state ≡ true → eqb (state_number (carry_out s p i row).next.state) 1 ≡ true
      → has (carry_out s p i row).start PrivateTimer.Tfp7 ≡ true
  unfolding carry_out started_of
  entering-starts a b = rw (a, b) (or-true effect.start.tfp7)

-- ---- the same of the answer of a step that is not refused

module _ (s : Settings) (p : PrivateRecord) (i : Input) (out : List ℕ) (e : step_number s p i out ≡ 0) where
  -- what runs afterwards is what was started, and what ran and was neither stopped nor ran out
  pub timers-agree : (t : PrivateTimer) → has (step_of s p i out).next.running t
      ≡ (has (step_of s p i out).start t || (has p.running t && (not (has (step_of s p i out).stop t) && not (has (ran_out_by i.event) t))))
  timers-agree t =
      subst (λ (r : Answer PrivateRecord Timers). has r.next.running t ≡ (has r.start t || (has p.running t && (not (has r.stop t) && not (has (ran_out_by i.event) t)))))
      (sym (step-done s p i out e)) (agree s p i (row_of s p i) t)

  -- leaving a state stops each timer that runs there, if the row does not start it anew
  pub step-change-stops : (t : PrivateTimer) → changes p.state (step_of s p i out).next.state ≡ true → has p.running t ≡ true
      → has (step_of s p i out).start t ≡ false → has (ran_out_by i.event) t ≡ false → has (step_of s p i out).stop t ≡ true
  step-change-stops t =
      subst (λ (r : Answer PrivateRecord Timers). changes p.state r.next.state ≡ true → has p.running t ≡ true → has r.start t ≡ false
      → has (ran_out_by i.event) t ≡ false → has r.stop t ≡ true) (sym (step-done s p i out e)) (change-stops s p i (row_of s p i) t)

  -- no step stops the timer whose expiry it is about
  pub step-spares-ran-out : (t : PrivateTimer) → has (ran_out_by i.event) t ≡ true → has (step_of s p i out).stop t ≡ false
  step-spares-ran-out t =
      subst (λ (r : Answer PrivateRecord Timers). has (ran_out_by i.event) t ≡ true → has r.stop t ≡ false) (sym (step-done s p i out e)) (ran-out-never-stopped s p i (row_of s p i) t)

  -- a counter without a running timer is 0
  pub step-counter-rests : (k : Counter) → has (step_of s p i out).next.running (timer_of k) ≡ false → count_in k (step_of s p i out).next.counters ≡ 0
  step-counter-rests k =
      subst (λ (r : Answer PrivateRecord Timers). has r.next.running (timer_of k) ≡ false → count_in k r.next.counters ≡ 0) (sym (step-done s p i out e))
      (counter-rests s p i (row_of s p i) k)

  -- whoever comes to P1 starts TFP7
  pub step-entering-starts : changes p.state (step_of s p i out).next.state ≡ true → eqb (state_number (step_of s p i out).next.state) 1 ≡ true
      → has (step_of s p i out).start PrivateTimer.Tfp7 ≡ true
  step-entering-starts =
      subst (λ (r : Answer PrivateRecord Timers). changes p.state r.next.state ≡ true → eqb (state_number r.next.state) 1 ≡ true → has r.start PrivateTimer.Tfp7 ≡ true)
      (sym (step-done s p i out e)) (entering-starts s p i (row_of s p i))
