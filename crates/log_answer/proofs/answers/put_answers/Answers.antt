-- What is written and the answer to what is left make the answer. Assumes nothing.
use Rattle.log_answer.proofs.Answering.{room-part, further, all-answered}
use Rattle.log_answer.proofs.answers.put_answers.Goals as goal

pub answer_line-written-requires : goal.answer_line-written-requires
answer_line-written-requires c =
    room-part c.args.log.now c.args.out.now c.loop-line.out c.loop-line.written c.loop-line.line-iterator.0.now c.in-Some.line.now c.next.new.self.0.now
    c.loop-line.invariant.2 c.in-Some.ensures.steps c.requires

pub loop-line-preserved : goal.loop-line-preserved
loop-line-preserved c = (
  tt,
  tt,
  further c.args.log.now c.args.out.now c.loop-line.out c.loop-line.written c.loop-line.line-iterator.0.now c.in-Some.line.now c.next.new.self.0.now
      c.loop-line.invariant.2 c.in-Some.ensures.steps c.requires
      c.answer_line-written.new.out c.answer_line-written.result c.answer_line-written.ensures.value c.answer_line-written.ensures.out_after,
)

pub returns-clause-value : goal.returns-clause-value
returns-clause-value c =
    (all-answered c.args.log.now c.args.out.now c.loop-line.out c.loop-line.written c.loop-line.line-iterator.0.now c.loop-line.invariant.2 c.in-None.ensures.steps.0).0

pub returns-clause-out_after : goal.returns-clause-out_after
returns-clause-out_after c =
    (all-answered c.args.log.now c.args.out.now c.loop-line.out c.loop-line.written c.loop-line.line-iterator.0.now c.loop-line.invariant.2 c.in-None.ensures.steps.0).1
