-- One turn more, and the end. Assumes nothing.
use Rattle.std.proofs.Common.{◌≡◌, ◌≤◌, Bool, true, false, refl, ap, ◌∙◌, arith, cond, not, slice_index_or}
use mir.Val.{bool_byte}
use lib.Dec.{eqb}
use Rattle.pace.proofs.Turns.{begun, further, all-played}
use Rattle.pace.proofs.play.Goals as goal

-- what is added for a step
added : (b : Bool) → bool_byte (not b) ≡ cond b 0 1
added true = refl
added false = refl

-- is 1 at most
added-at-most : (b : Bool) → bool_byte b ≤ 1
added-at-most true = omega arith
added-at-most false = omega arith

pub loop-at-init : goal.loop-at-init
loop-at-init g c = begun g.P.Player.play c.args.script.now c.args.out.now c.first-stored.result c.first-stored.ensures

pub overflow_add-met : goal.overflow_add-met
overflow_add-met g c = omega (arith, c.loop-at.invariant.0, added-at-most c.step.result)

pub loop-at-preserved : goal.loop-at-preserved
loop-at-preserved g c =
    let at = c.loop-at.at in
    let row = g.P.Player.play.row c.loop-at.stored (slice_index_or c.args.script.now at 0) c.loop-at.out in
    further g.P.Player.play c.args.script.now c.args.out.now c.loop-at.out c.loop-at.stored c.loop-at.met at c.loop-at.invariant c.loop-at-test.true
    row c.step.new.self c.step.new.out refl c.step.ensures.next c.step.ensures.out_after
    (bool_byte c.step.result) (ap bool_byte c.step.ensures.meets ∙ added (eqb row 0)) (added-at-most c.step.result) (omega arith)

pub returns-clause-value : goal.returns-clause-value
returns-clause-value g c =
    (all-played g.P.Player.play c.args.script.now c.args.out.now c.loop-at.out c.loop-at.stored c.loop-at.met c.loop-at.at c.loop-at.invariant c.loop-at-test.false).0

pub returns-clause-out_after : goal.returns-clause-out_after
returns-clause-out_after g c =
    (all-played g.P.Player.play c.args.script.now c.args.out.now c.loop-at.out c.loop-at.stored c.loop-at.met c.loop-at.at c.loop-at.invariant c.loop-at-test.false).1
