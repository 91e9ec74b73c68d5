-- The number of a line is a decimal digit. Assumes nothing.
use Rattle.std.proofs.Common.{arith}
use Rattle.reader.proofs.LineNumbers.{line-number-at-most}
use Rattle.log_answer.proofs.answers.answer_line.Goals as goal

pub overflow_add-refusal : goal.overflow_add-refusal
overflow_add-refusal c = omega (arith, line-number-at-most c.args.line.now)
