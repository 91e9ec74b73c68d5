-- No contract of the entries for C leaves a choice: nothing is asked, two results that it allows are one, and so is what was lent, at exit. Assumes nothing.
use contract.Lifetimes as Lifetimes
use Rattle.panel.proofs.panel_line_check.Reads as panel-line-check
use Rattle.panel.proofs.panel_choose.Reads as panel-choose
use Rattle.panel.proofs.panel_choose_number.Reads as panel-choose-number
use Rattle.pace.proofs.pace_private_steps.Reads as pace-private-steps
use Rattle.pace.proofs.pace_group_steps.Reads as pace-group-steps
use Rattle.trial.proofs.trial_value.Reads as trial-value
use Rattle.trial.proofs.trial_write_line.Reads as trial-write-line
use Rattle.trial.proofs.trial_answer_log.Reads as trial-answer-log
use Rattle.promises.specs.OneAnswer.{OneAnswer}
use Rattle.promises.proofs.OneAnswer.{same, result-alone}

-- the number of a line, for C
pub panel-line-check-one : (κs : Lifetimes.Lfts 1) → OneAnswer (panel-line-check.Asked κs) (panel-line-check.Learnt κs) (λ r. r) (λ t. tt {0})
panel-line-check-one κs = result-alone (λ a. tt) (λ a r q s t x y. same x y)

-- which of two lines is chosen, for C
pub panel-choose-one : (κs : Lifetimes.Lfts 2) → OneAnswer (panel-choose.Asked κs) (panel-choose.Learnt κs) (λ r. r) (λ t. tt {0})
panel-choose-one κs = result-alone (λ a. tt) (λ a r q s t x y. same x y)

-- the number of the chooser's question, for C
pub panel-choose-number-one : (κs : Lifetimes.Lfts 2) → OneAnswer (panel-choose-number.Asked κs) (panel-choose-number.Learnt κs) (λ r. r) (λ t. tt {0})
panel-choose-number-one κs = result-alone (λ a. tt) (λ a r q s t x y. same x y)

-- a value of what a line reads as, for C
pub trial-value-one : (κs : Lifetimes.Lfts 1) → OneAnswer (trial-value.Asked κs) (trial-value.Learnt κs) (λ r. r) (λ t. tt {0})
trial-value-one κs = result-alone (λ a. tt) (λ a r q s t x y. same x y)

-- the number of values that are written as a line, and the buffer, for C
pub trial-write-line-one : (κs : Lifetimes.Lfts 2) → OneAnswer (trial-write-line.Asked κs) (trial-write-line.Learnt κs) (λ r. r) (λ t. t.1.0.now)
trial-write-line-one κs = record { asks_nothing = λ a. tt; one_result = λ a r q s t x y. same x.0 y.0; one_exit = λ a r q s t x y. same x.1 y.1 }

-- the length of a log's answer, and the buffer, for C
pub trial-answer-log-one : (κs : Lifetimes.Lfts 2) → OneAnswer (trial-answer-log.Asked κs) (trial-answer-log.Learnt κs) (λ r. r) (λ t. t.1.0.now)
trial-answer-log-one κs = record { asks_nothing = λ a. tt; one_result = λ a r q s t x y. same x.0 y.0; one_exit = λ a r q s t x y. same x.1 y.1 }

-- the steps of a script, by the private machine
pub pace-private-steps-one : (κs : Lifetimes.Lfts 2) → OneAnswer (pace-private-steps.Asked κs) (pace-private-steps.Learnt κs) (λ r. r) (λ t. t.1.0.now)
pace-private-steps-one κs = record { asks_nothing = λ a. tt; one_result = λ a r q s t x y. same x.0 y.0; one_exit = λ a r q s t x y. same x.1 y.1 }

-- and by the group machine
pub pace-group-steps-one : (κs : Lifetimes.Lfts 2) → OneAnswer (pace-group-steps.Asked κs) (pace-group-steps.Learnt κs) (λ r. r) (λ t. t.1.0.now)
pace-group-steps-one κs = record { asks_nothing = λ a. tt; one_result = λ a r q s t x y. same x.0 y.0; one_exit = λ a r q s t x y. same x.1 y.1 }
