-- What is left is cut behind its first line. Assumes nothing.
use Rattle.std.proofs.Common.{arith, rules, tests, ap, length}
use Rattle.log_lines.proofs.Lines.{lines-cut, lines-none}
use Rattle.log_answer.proofs.lines.LinesIterator.next.Goals as goal

pub returns-then-is_empty-clause-steps : goal.returns-then-is_empty-clause-steps
returns-then-is_empty-clause-steps c =
    let none = lines-none c.args.self.now.0.now (search (rules, tests)) in
    (none, none)

pub returns-clause-steps : goal.returns-clause-steps
returns-clause-steps c =
    rw (c.split_at.ensures.front, c.split_at.ensures.back) (lines-cut c.args.self.now.0.now c.first_line_length.result (search (rules, tests)) c.first_line_length.ensures.value)

pub returns-clause-goes : goal.returns-clause-goes
returns-clause-goes c =
    let cut = lines-cut c.args.self.now.0.now c.first_line_length.result (search (rules, tests)) c.first_line_length.ensures.value in
    record { on = λ f. (tt, tt, rw (c.split_at.ensures.back) (omega (arith, ap length cut))); keeps = tt; rests = λ f. tt }
