-- What is written and the answer to what is left make the answer. Assumes nothing.
use Rattle.log_answer.proofs.Answering.{SoFar}
use Rattle.log_answer.proofs.answers.put_answers.Given as goal

abbrev pub invariant-loop-line : goal.invariant-loop-line
invariant-loop-line l =
    (goal.iterator-loop-line).can_next l.line-iterator × (goal.iterator-loop-line).is_finite l.line-iterator
    × SoFar l.log l.fn.out l.out l.written l.line-iterator.0.now
