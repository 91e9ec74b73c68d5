-- What the three counters share, over the counter: it stays in its range. Assumes nothing.
use Prim.Native.Nat.{ℕ, ◌+◌, ◌≤◌, ◌<◌}
use mathlib.Core.Path.{◌≡◌, refl}
use mathlib.Core.Bool.{Bool, true, false, cond, not, ◌&&◌, ◌||◌}
use native.Mathlib.Omega.{arith}
use lib.Dec.{leb, ltb}
use borrow.Author.Tests.{le-leb, ltb-true, ltb-false, eqb-true}
use Rattle.frame.specs.Range.{within}
use Rattle.frame.proofs.Laws.{and_split, within-split}
use Rattle.call.specs.Timing.{stopped_of, running_after}
use Rattle.call.specs.Settings.{limit_good, limits_good}
use Rattle.call.specs.declared.Counters.{Counters}
use Rattle.call.proofs.Laws.{both}
use Rattle.private_record.specs.Phases.{has, set_of}
use Rattle.private_record.specs.declared.states.Timers.{Timers}
use Rattle.private_record.specs.Formed.{counter_good, counters_good}
use Rattle.private_call.specs.Carried.{one_more, counter_after, counters_after}
use Rattle.call.specs.declared.timers.TimerSets.{TimerSets}

-- between its ends
inside : (low n high : ℕ) → low ≤ n → n ≤ high → within low n high ≡ true
inside low n high l h = both (leb low n) (leb n high) (le-leb low n l) (le-leb n high h)

-- one more, up to the limit, is still within
more-inside : (limit n : ℕ) → 1 ≤ limit → n ≤ limit → within 1 (one_more limit n) limit ≡ true
more-inside limit n l h = go (ltb n limit) refl
  where
    go : (b : Bool) → ltb n limit ≡ b → within 1 (cond b (n + 1) n) limit ≡ true
    go true e = let k : n < limit = ltb-true n limit e in inside 1 (n + 1) limit (omega arith) (omega arith)
    go false e = let k : limit ≤ n = ltb-false n limit e in inside 1 n limit (omega arith) h

-- a counter that is in its range is at most its limit
at_most : (was : Bool) (limit n : ℕ) → counter_good was limit n ≡ true → n ≤ limit
at_most true limit n e = (within-split 1 n limit e).1
at_most false limit n e = let z : n ≡ 0 = eqb-true n 0 e in omega arith

-- a counter stays in its range, whatever runs, stops, runs out and starts
pub counter-keeps : (was stop out started again : Bool) (limit n : ℕ) → 1 ≤ limit → counter_good was limit n ≡ true
    → let runs = started || (was && (not stop && not out)) in
    counter_good runs limit (counter_after (record { runs = runs; started = started; again = again; limit = limit; was = n })) ≡ true
counter-keeps was stop out true true limit n l g = more-inside limit n l (at_most was limit n g)
counter-keeps was stop out true false limit n l g = inside 1 1 limit (omega arith) l
counter-keeps true true out false again limit n l g = refl
counter-keeps true false true false again limit n l g = refl
counter-keeps true false false false again limit n l g = g
counter-keeps false stop out false again limit n l g = refl

-- the limits are not 0
pub least : (limit : ℕ) → limit_good limit ≡ true → 1 ≤ limit
least limit e = (within-split 1 limit 16 e).0

-- so the three of them stay in their ranges
pub counters-keep : (x : TimerSets Timers) (again : Bool) (limits counters : Counters) → limits_good limits ≡ true → counters_good x.was_running limits counters ≡ true
    → counters_good (running_after has set_of x) limits (counters_after (running_after has set_of x) x.started again limits counters) ≡ true
unfolding stopped_of running_after counters_after
counters-keep x again limits counters l g =
    let was = x.was_running in
    let out = x.ran_out in
    let stop = stopped_of has set_of x in
    let started = x.started in
    let l1 = and_split (limit_good limits.cfp1) _ l in
    let l3 = and_split (limit_good limits.cfp3) (limit_good limits.cfp4) l1.1 in
    let g1 = and_split (counter_good was.tfp1 limits.cfp1 counters.cfp1) _ g in
    let g3 = and_split (counter_good was.tfp3 limits.cfp3 counters.cfp3) (counter_good was.tfp4 limits.cfp4 counters.cfp4) g1.1 in
    both _ _ (counter-keeps was.tfp1 stop.tfp1 out.tfp1 started.tfp1 again limits.cfp1 counters.cfp1 (least _ l1.0) g1.0)
    (both _ _ (counter-keeps was.tfp3 stop.tfp3 out.tfp3 started.tfp3 again limits.cfp3 counters.cfp3 (least _ l3.0) g3.0)
    (counter-keeps was.tfp4 stop.tfp4 out.tfp4 started.tfp4 again limits.cfp4 counters.cfp4 (least _ l3.1) g3.1))
