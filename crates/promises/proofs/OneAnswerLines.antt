-- No contract of the functions of lines and logs leaves a choice: nothing is asked, two results that it allows are one, and so is what was lent, at exit. Assumes nothing.
use mathlib.Core.Path.{refl}
use contract.Lifetimes as Lifetimes
use denote.RattleType.{RattleType}
use denote.Param.Laws.{Laws}
use Rattle.frame.proofs.Frame.in_range.Reads as in-range
use Rattle.frame.proofs.range.Range.has.Reads as range-has
use Rattle.frame.proofs.Media.is_none.Reads as media-is-none
use Rattle.frame.proofs.kind.Kind.digits.Reads as kind-digits
use Rattle.frame.proofs.Message.kind.Reads as message-kind
use Rattle.frame.proofs.refusal.Refusal.number_of.Reads as number-of
use Rattle.frame.proofs.Refusals.{same-answer}
use Rattle.reader.proofs.check_line.Reads as check-line
use Rattle.reader.proofs.read_line.Reads as read-line
use Rattle.writer.proofs.Told.{same-told}
use Rattle.writer.proofs.write_line.Reads as write-line
use Rattle.log_lines.proofs.first_line_length.Reads as first-line-length
use Rattle.log_answer.proofs.answer_log.Reads as answer-log
use Rattle.promises.specs.OneAnswer.{OneAnswer}
use Rattle.promises.proofs.OneAnswer.{same, result-alone}
use Rattle.promises.proofs.Known.{same-kind, same-reading}

-- whether a frame is in range
pub in-range-one : (κs : Lifetimes.Lfts 0) → OneAnswer (in-range.Asked κs) (in-range.Learnt κs) (λ r. r) (λ t. tt {0})
in-range-one κs = result-alone (λ a. tt) (λ a r q s t x y. same x y)

-- whether a value is in a range
pub range-has-one : (κs : Lifetimes.Lfts 0) → OneAnswer (range-has.Asked κs) (range-has.Learnt κs) (λ r. r) (λ t. tt {0})
range-has-one κs = result-alone (λ a. tt) (λ a r q s t x y. same x y)

-- whether there is no media
pub media-is-none-one : (κs : Lifetimes.Lfts 0) → OneAnswer (media-is-none.Asked κs) (media-is-none.Learnt κs) (λ r. r) (λ t. tt {0})
media-is-none-one κs = result-alone (λ a. tt) (λ a r q s t x y. same x y)

-- the kind of a message
pub message-kind-one : (κs : Lifetimes.Lfts 0) → OneAnswer (message-kind.Asked κs) (message-kind.Learnt κs) (λ r. r) (λ t. tt {0})
message-kind-one κs = result-alone (λ a. tt) (λ a r q s t x y. same-kind r q (same x y))

-- how many digits a line of a kind has
pub kind-digits-one : (κs : Lifetimes.Lfts 0) → OneAnswer (kind-digits.Asked κs) (kind-digits.Learnt κs) (λ r. r) (λ t. tt {0})
kind-digits-one κs = result-alone (λ a. tt) (λ a r q s t x y. same x y)

-- the number of an answer, of whatever type: what is lent has the lifetimes of the type behind its own
pub number-of-one : (A : RattleType) (laws : Laws A) (κ : Lifetimes.Lfts 1) → let κs : Lifetimes.Lfts 2 = (κ.0, (A.lives, tt)) in OneAnswer (number-of.Asked A laws κs) (number-of.Learnt A laws κs) (λ r. r) (λ t. tt {0})
number-of-one A laws κ = record { asks_nothing = λ a b c. c; one_result = λ a r q s t x y. same x y; one_exit = λ a r q s t x y. refl }

-- whether a line is readable, or why it is refused
pub check-line-one : (κs : Lifetimes.Lfts 1) → OneAnswer (check-line.Asked κs) (check-line.Learnt κs) (λ r. r) (λ t. tt {0})
check-line-one κs = result-alone (λ a. tt) (λ a r q s t x y. same-answer r q (same x y))

-- the frame of a line, or why it is refused
pub read-line-one : (κs : Lifetimes.Lfts 1) → OneAnswer (read-line.Asked κs) (read-line.Learnt κs) (λ r. r) (λ t. tt {0})
read-line-one κs = result-alone (λ a. tt) (λ a r q s t x y. same-reading r q (same x y))

-- the length of a written line or why it is refused, and the buffer
pub write-line-one : (κs : Lifetimes.Lfts 1) → OneAnswer (write-line.Asked κs) (write-line.Learnt κs) (λ r. r) (λ t. t.1.0.now)
write-line-one κs = record { asks_nothing = λ a. tt; one_result = λ a r q s t x y. same-told r q (same x.0 y.0); one_exit = λ a r q s t x y. same x.1.0 y.1.0 }

-- the length of a log's first line
pub first-line-length-one : (κs : Lifetimes.Lfts 1) → OneAnswer (first-line-length.Asked κs) (first-line-length.Learnt κs) (λ r. r) (λ t. tt {0})
first-line-length-one κs = result-alone (λ a. tt) (λ a r q s t x y. same x.0 y.0)

-- the length of a log's answer or that there is no room for it, and the buffer
pub answer-log-one : (κs : Lifetimes.Lfts 2) → OneAnswer (answer-log.Asked κs) (answer-log.Learnt κs) (λ r. r) (λ t. t.1.0.now)
answer-log-one κs = record { asks_nothing = λ a. tt; one_result = λ a r q s t x y. same-told r q (same x.0 y.0); one_exit = λ a r q s t x y. same x.1.0 y.1.0 }
