-- What the room has lost is what the answers so far need. Assumes nothing.
use Rattle.std.proofs.Common.{length, arith, sym, ap, le-leb}
use Rattle.std.proofs.lemmas.Bool.{lt-leb}
use Rattle.log_answer.specs.Answer.{answer_of}
use Rattle.log_answer.proofs.LineByLine.{answer-within}
use Rattle.log_answer.proofs.Answering.{answer-lengths, answer-no-lines}
use Rattle.log_answer.proofs.answers.has_room.Goals as goal

pub returns-then-log-room : goal.returns-then-log-room
returns-then-log-room c =
    sym (le-leb (length (answer_of c.args.log.now)) c.args.room (omega (arith, answer-within c.args.log.now)))

pub returns-in_default : goal.returns-in_default
returns-in_default c =
    let more = answer-lengths c.loop-line.line-iterator.0.now c.in-Some.line.now c.next.new.self.0.now c.in-Some.ensures.steps in
    sym (lt-leb (length (answer_of c.args.log.now)) c.args.room (omega (arith, more, c.answer_length.ensures, c.in_default.ensures)))

pub loop-line-preserved : goal.loop-line-preserved
loop-line-preserved c =
    let more = answer-lengths c.loop-line.line-iterator.0.now c.in-Some.line.now c.next.new.self.0.now c.in-Some.ensures.steps in
    (tt, tt, omega (arith, more, c.answer_length.ensures, c.in-Some-checked_sub.ensures))

pub returns : goal.returns
returns c =
    let over = ap length (answer-no-lines c.loop-line.line-iterator.0.now c.in-None.ensures.steps.0) in
    sym (le-leb (length (answer_of c.args.log.now)) c.args.room (omega (arith, over)))
