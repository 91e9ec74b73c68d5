-- What a well-formed record is: a phase, with the timers of its table, its counters and its call. Assumes nothing.
use mathlib.Core.Path.{◌≡◌, refl}
use mathlib.Core.Bool.{Bool, true, false, cond, beq}
use Rattle.frame.proofs.Laws.{and_split}
use Rattle.call.specs.declared.Settings.{Settings}
use Rattle.call.specs.declared.PrivateTimer.{PrivateTimer}
use Rattle.call.proofs.Laws.{beq_same}
use Rattle.private_record.specs.Phases.{has, set_of, same_timers, state_of, running_of, phase_in, phase_of}
use Rattle.private_record.specs.Formed.{running_good, counters_good, call_good, is_well_formed}
use Rattle.private_record.specs.declared.states.State.{State}
use Rattle.private_record.specs.declared.states.Phase.{Phase}
use Rattle.private_record.specs.declared.states.Timers.{Timers}
use Rattle.private_record.specs.declared.states.PrivateRecord.{PrivateRecord}

-- sets with the same timers are equal
pub same-timers : (a b : Timers) → same_timers a b ≡ true → a ≡ b
same-timers a b e =
    let p1 = and_split (beq a.tfp1 b.tfp1) _ e in
    let p2 = and_split (beq a.tfp2 b.tfp2) _ p1.1 in
    let p3 = and_split (beq a.tfp3 b.tfp3) _ p2.1 in
    let p4 = and_split (beq a.tfp4 b.tfp4) _ p3.1 in
    let p5 = and_split (beq a.tfp5 b.tfp5) (beq a.tfp7 b.tfp7) p4.1 in
    λ i. record {
      tfp1 = beq_same a.tfp1 b.tfp1 p1.0 i;
      tfp2 = beq_same a.tfp2 b.tfp2 p2.0 i;
      tfp3 = beq_same a.tfp3 b.tfp3 p3.0 i;
      tfp4 = beq_same a.tfp4 b.tfp4 p4.0 i;
      tfp5 = beq_same a.tfp5 b.tfp5 p5.0 i;
      tfp7 = beq_same a.tfp7 b.tfp7 p5.1 i;
    }

-- a timer is in the set of those that pass a test exactly if it passes
pub has-set : (q : PrivateTimer → Bool) (t : PrivateTimer) → has (set_of q) t ≡ q t
has-set q PrivateTimer.Tfp1 = refl
has-set q PrivateTimer.Tfp2 = refl
has-set q PrivateTimer.Tfp3 = refl
has-set q PrivateTimer.Tfp4 = refl
has-set q PrivateTimer.Tfp5 = refl
has-set q PrivateTimer.Tfp7 = refl

-- the state of the phase is the record's
state-back : (state : State) (w : Timers) → state ≡ state_of (phase_in state w)
state-back State.P0 w = refl
state-back State.P1 w = refl
state-back State.P2 w = go w.tfp1
  where
    go : (b : Bool) → State.P2 ≡ state_of (cond b Phase.P2Tfp1 Phase.P2Tfp2)
    go true = refl
    go false = refl
state-back State.P3 w = refl
state-back State.P4 w = refl
state-back State.P5 w = go w.tfp2
  where
    go : (b : Bool) → State.P5 ≡ state_of (cond b Phase.P5Tfp2 Phase.P5Tfp4)
    go true = refl
    go false = refl

-- what is known of a well-formed record
pub record Fit (s : Settings) (p : PrivateRecord) : Type 0 where
  pub state : p.state ≡ state_of (phase_of p)
  pub running : p.running ≡ running_of (phase_of p)
  pub counters : counters_good p.running s.limits p.counters ≡ true
  pub call : call_good s p.state p.call ≡ true

-- a well-formed record is fit
pub fit : (s : Settings) (p : PrivateRecord) → is_well_formed s p ≡ true → Fit s p
unfolding is_well_formed
fit s p e =
    let a = and_split (running_good p.state p.running) _ e in
    let b = and_split (counters_good p.running s.limits p.counters) (call_good s p.state p.call) a.1 in
    record {
      state = state-back p.state p.running;
      running = same-timers p.running (running_of (phase_of p)) a.0;
      counters = b.0;
      call = b.1;
    }
