-- Each turn is a step of the machine. Assumes nothing.
use Rattle.pace.proofs.Turns.{SoFar}
use Rattle.pace.proofs.play.Given as goal

abbrev pub invariant-loop-at : goal.invariant-loop-at
invariant-loop-at g l = SoFar g.P.Player.play l.script l.fn.out l.out l.stored l.met l.at
