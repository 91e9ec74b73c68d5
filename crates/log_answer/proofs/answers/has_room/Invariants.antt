-- What the room has lost is what the answers so far need. Assumes nothing.
use Rattle.std.proofs.Common.{◌≡◌, ◌+◌, length}
use Rattle.log_answer.specs.Answer.{answer_of}
use Rattle.log_answer.proofs.answers.has_room.Given as goal

abbrev pub invariant-loop-line : goal.invariant-loop-line
invariant-loop-line l =
    (goal.iterator-loop-line).can_next l.line-iterator × (goal.iterator-loop-line).is_finite l.line-iterator
    × (length (answer_of l.log) + l.left ≡ l.room + length (answer_of l.line-iterator.0.now))
