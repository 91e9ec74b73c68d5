-- No contract of the functions of the machines leaves a choice: nothing is asked, two results that it allows are one, and so is what was lent, at exit. Assumes nothing.
use mathlib.Core.Path.{refl}
use contract.Lifetimes as Lifetimes
use denote.RattleType.{RattleType}
use denote.Param.Laws.{Laws, IsCopy}
use mir.Syntax.{Dict}
use Rattle.std.specs.declared.clone.Clone as Clone
use Rattle.frame.proofs.Refusals.{same-answer}
use Rattle.writer.proofs.Told.{same-told}
use Rattle.call.specs.declared.timers.TimerSet as TimerSet
use Rattle.call.specs.declared.timers.SetByRule as SetByRule
use Rattle.call.proofs.request_of.Reads as request-of
use Rattle.call.proofs.announced_of.Reads as announced-of
use Rattle.call.proofs.Request.private.Reads as request-private
use Rattle.call.proofs.Settings.restricted.Reads as settings-restricted
use Rattle.call.proofs.timers.TimerFacts.is_stopped.Reads as timer-is-stopped
use Rattle.call.proofs.timers.TimerFacts.runs_after.Reads as timer-runs-after
use Rattle.call.proofs.timers.TimerFacts.is_taken_by.Reads as timer-is-taken-by
use Rattle.call.proofs.timers.TimerSets.of.Reads as timer-sets-of
use Rattle.call.proofs.timers.TimerSets.stopped.Reads as timer-sets-stopped
use Rattle.call.proofs.timers.TimerSets.running_after.Reads as timer-sets-running-after
use Rattle.stepping.proofs.Given as Given
use Rattle.stepping.proofs.number_before_row.Reads as number-before-row
use Rattle.stepping.proofs.write_sent.Reads as write-sent
use Rattle.private_record.specs.Phases as Phases
use Rattle.private_record.proofs.well_formed.Reads as well-formed
use Rattle.private_record.proofs.states.PrivateRecord.cleared.Reads as private-cleared
use Rattle.private_record.proofs.states.PrivateRecord.phase.Reads as private-phase
use Rattle.private_rows.specs.Rows as PrivateRows
use Rattle.private_rows.proofs.Row.number.Reads as private-row-number
use Rattle.private_rows.proofs.row_of.Reads as row_of
use Rattle.private_call.proofs.step.Reads as step
use Rattle.private_call.proofs.done.Reads as private-done
use Rattle.group_order.proofs.rank.Reads as rank
use Rattle.group_order.proofs.better.Reads as better
use Rattle.group_record.specs.States as GroupStates
use Rattle.group_record.proofs.well_formed.Reads as group-well-formed
use Rattle.group_record.proofs.states.GroupRecord.cleared.Reads as group-cleared
use Rattle.group_rows.specs.Rows as GroupRows
use Rattle.group_rows.proofs.Row.number.Reads as group-row-number
use Rattle.group_rows.proofs.row_of.Reads as group-row-of
use Rattle.group_call.proofs.step.Reads as group-step
use Rattle.group_call.proofs.done.Reads as group-done
use Rattle.chooser.specs.Choice.{place}
use Rattle.chooser.proofs.choice.Reads as choice
use Rattle.chooser.proofs.choose_number.Reads as choose-number
use Rattle.chooser.proofs.choose.Reads as choose
use Rattle.promises.specs.OneAnswer.{OneAnswer}
use Rattle.promises.proofs.OneAnswer.{same, result-alone}
use Rattle.promises.proofs.Known.{same-choice, private_row_with, private-row-with, group_row_with, group-row-with}

-- the setup request that an event brings
pub request-of-one : (κs : Lifetimes.Lfts 0) → OneAnswer (request-of.Asked κs) (request-of.Learnt κs) (λ r. r) (λ t. tt {0})
request-of-one κs = result-alone (λ a. tt) (λ a r q s t x y. same x y)

-- the announcement that an event brings
pub announced-of-one : (κs : Lifetimes.Lfts 0) → OneAnswer (announced-of.Asked κs) (announced-of.Learnt κs) (λ r. r) (λ t. tt {0})
announced-of-one κs = result-alone (λ a. tt) (λ a r q s t x y. same x y)

-- the setup request of a private call
pub request-private-one : (κs : Lifetimes.Lfts 0) → OneAnswer (request-private.Asked κs) (request-private.Learnt κs) (λ r. r) (λ t. tt {0})
request-private-one κs = result-alone (λ a. tt) (λ a r q s t x y. same x y)

-- whether reasons are kept back
pub settings-restricted-one : (κs : Lifetimes.Lfts 0) → OneAnswer (settings-restricted.Asked κs) (settings-restricted.Learnt κs) (λ r. r) (λ t. tt {0})
settings-restricted-one κs = result-alone (λ a. tt) (λ a r q s t x y. same x y)

-- whether a timer is stopped
pub timer-is-stopped-one : (κs : Lifetimes.Lfts 0) → OneAnswer (timer-is-stopped.Asked κs) (timer-is-stopped.Learnt κs) (λ r. r) (λ t. tt {0})
timer-is-stopped-one κs = result-alone (λ a. tt) (λ a r q s t x y. same x y)

-- whether a timer runs afterwards
pub timer-runs-after-one : (κs : Lifetimes.Lfts 0) → OneAnswer (timer-runs-after.Asked κs) (timer-runs-after.Learnt κs) (λ r. r) (λ t. tt {0})
timer-runs-after-one κs = result-alone (λ a. tt) (λ a r q s t x y. same x y)

-- whether a rule takes a timer
pub timer-is-taken-by-one : (κs : Lifetimes.Lfts 0) → OneAnswer (timer-is-taken-by.Asked κs) (timer-is-taken-by.Learnt κs) (λ r. r) (λ t. tt {0})
timer-is-taken-by-one κs = result-alone (λ a. tt) (λ a r q s t x y. same x y)

-- of the timers of whatever machine: a set's laws and those of a timer, and what their types say of themselves; each type has its own lifetimes
module _ (Set Timer : RattleType) (laws : Laws Set) (timer_laws : Laws Timer) (copied : IsCopy Set) (timer_copied : IsCopy Timer) (by_rule : SetByRule.Ghosts Set.Denot Timer.Denot) (by_rule_dict : Dict) (has : TimerSet.Ghosts Set.Denot Timer.Denot) (has_dict : Dict) (cloned : Clone.Ghosts Set.Denot) (cloned_dict : Dict) (timer_cloned : Clone.Ghosts Timer.Denot) (timer_cloned_dict : Dict) where
  -- what the rules ask of one timer
  pub timer-sets-of-one : let κs : Lifetimes.Lfts 2 = (Set.lives, (Timer.lives, tt)) in OneAnswer (timer-sets-of.Asked Set Timer laws timer_laws copied timer_copied has has_dict cloned cloned_dict timer_cloned timer_cloned_dict κs) (timer-sets-of.Learnt Set Timer laws timer_laws copied timer_copied has has_dict cloned cloned_dict timer_cloned timer_cloned_dict κs) (λ r. r) (λ t. tt {0})
  timer-sets-of-one = record { asks_nothing = λ a. (λ b c. c, λ b c. c); one_result = λ a r q s t x y. same x y; one_exit = λ a r q s t x y. refl }

  -- what stops
  pub timer-sets-stopped-one : let κs : Lifetimes.Lfts 2 = (Set.lives, (Timer.lives, tt)) in OneAnswer (timer-sets-stopped.Asked Set Timer laws timer_laws copied timer_copied by_rule by_rule_dict has has_dict cloned cloned_dict timer_cloned timer_cloned_dict κs) (timer-sets-stopped.Learnt Set Timer laws timer_laws copied timer_copied by_rule by_rule_dict has has_dict cloned cloned_dict timer_cloned timer_cloned_dict κs) (λ r. r) (λ t. tt {0})
  timer-sets-stopped-one = record { asks_nothing = λ a. (λ b c. c, λ b c. c); one_result = λ a r q s t x y. same x y; one_exit = λ a r q s t x y. refl }

  -- what runs afterwards
  pub timer-sets-running-after-one : let κs : Lifetimes.Lfts 2 = (Set.lives, (Timer.lives, tt)) in OneAnswer (timer-sets-running-after.Asked Set Timer laws timer_laws copied timer_copied by_rule by_rule_dict has has_dict cloned cloned_dict timer_cloned timer_cloned_dict κs) (timer-sets-running-after.Learnt Set Timer laws timer_laws copied timer_copied by_rule by_rule_dict has has_dict cloned cloned_dict timer_cloned timer_cloned_dict κs) (λ r. r) (λ t. tt {0})
  timer-sets-running-after-one = record { asks_nothing = λ a. (λ b c. c, λ b c. c); one_result = λ a r q s t x y. same x y; one_exit = λ a r q s t x y. refl }

-- what a step gives before it looks for a row
pub number-before-row-one : (κs : Lifetimes.Lfts 0) → OneAnswer (number-before-row.Asked κs) (number-before-row.Learnt κs) (λ r. r) (λ t. tt {0})
number-before-row-one κs = result-alone (λ a. tt) (λ a r q s t x y. same-answer r q (same x y))

-- the length of what a step sends or why it is refused, and the buffer
pub write-sent-one : (κs : Lifetimes.Lfts 1) → OneAnswer (write-sent.Asked κs) (write-sent.Learnt κs) (λ r. r) (λ t. t.1.1.0.now)
write-sent-one κs = record { asks_nothing = λ a. tt; one_result = λ a r q s t x y. same-told r q (same x.0 y.0); one_exit = λ a r q s t x y. same x.1 y.1 }

-- whether a record is well formed
pub well-formed-one : (κs : Lifetimes.Lfts 0) → OneAnswer (well-formed.Asked κs) (well-formed.Learnt κs) (λ r. r) (λ t. tt {0})
well-formed-one κs = result-alone (λ a. tt) (λ a r q s t x y. same x y)

-- the cleared record
pub private-cleared-one : (κs : Lifetimes.Lfts 0) → OneAnswer (private-cleared.Asked κs) (private-cleared.Learnt κs) (λ r. r) (λ t. tt {0})
private-cleared-one κs = result-alone (λ a. tt) (λ a r q s t x y. same x y)

-- the phase of a record
pub private-phase-one : (κs : Lifetimes.Lfts 0) → OneAnswer (private-phase.Asked κs) (private-phase.Learnt κs) (λ r. r) (λ t. tt {0})
private-phase-one κs = result-alone (λ a. tt) (λ a r q s t x y. same x y)

-- the number of a row
pub private-row-number-one : (κs : Lifetimes.Lfts 0) → OneAnswer (private-row-number.Asked κs) (private-row-number.Learnt κs) (λ r. r) (λ t. tt {0})
private-row-number-one κs = result-alone (λ a. tt) (λ a r q s t x y. same x y)

-- the row that an event meets
pub row-of-one : (κs : Lifetimes.Lfts 0) → OneAnswer (row_of.Asked κs) (row_of.Learnt κs) (λ r. r) (λ t. tt {0})
row-of-one κs = result-alone (λ a. tt) (λ a r q s t x y. same x y)

-- the answer of a step or why it is refused, and the buffer
pub step-one : (κs : Lifetimes.Lfts 1) → OneAnswer (step.Asked κs) (step.Learnt κs) (λ r. r) (λ t. t.1.1.1.0.now)
step-one κs = record { asks_nothing = λ a. tt; one_result = λ a r q s t x y. Given.same-answer PrivateRows.row_number private_row_with private-row-with Phases.no_timer a.1.0 r q (same x.0 y.0); one_exit = λ a r q s t x y. same x.1 y.1 }

-- what a step did, by its answer
pub private-done-one : (κs : Lifetimes.Lfts 0) → OneAnswer (private-done.Asked κs) (private-done.Learnt κs) (λ r. r) (λ t. tt {0})
private-done-one κs = result-alone (λ a. tt) (λ a r q s t x y. same x y)

-- the same of the group machine
pub group-done-one : (κs : Lifetimes.Lfts 0) → OneAnswer (group-done.Asked κs) (group-done.Learnt κs) (λ r. r) (λ t. tt {0})
group-done-one κs = result-alone (λ a. tt) (λ a r q s t x y. same x y)

-- the rank of a type
pub rank-one : (κs : Lifetimes.Lfts 0) → OneAnswer (rank.Asked κs) (rank.Learnt κs) (λ r. r) (λ t. tt {0})
rank-one κs = result-alone (λ a. tt) (λ a r q s t x y. same x y)

-- whether a call is better
pub better-one : (κs : Lifetimes.Lfts 0) → OneAnswer (better.Asked κs) (better.Learnt κs) (λ r. r) (λ t. tt {0})
better-one κs = result-alone (λ a. tt) (λ a r q s t x y. same x y)

-- which of two lines is chosen
pub choice-one : (κs : Lifetimes.Lfts 2) → OneAnswer (choice.Asked κs) (choice.Learnt κs) (λ r. r) (λ t. tt {0})
choice-one κs = result-alone (λ a. tt) (λ a r q s t x y. same-choice r q (same x y))

-- whether one can choose, or why not
pub choose-number-one : (κs : Lifetimes.Lfts 2) → OneAnswer (choose-number.Asked κs) (choose-number.Learnt κs) (λ r. r) (λ t. tt {0})
choose-number-one κs = result-alone (λ a. tt) (λ a r q s t x y. same-answer r q (same x y))

-- the place and the bytes of the line chosen
pub choose_one : (κs : Lifetimes.Lfts 1) → OneAnswer (choose.Asked κs) (choose.Learnt κs) place (λ t. tt {0})
choose_one κs = result-alone (λ a. tt) (λ a r q s t x y. same x y)

-- whether a group record is well formed
pub group-well-formed-one : (κs : Lifetimes.Lfts 0) → OneAnswer (group-well-formed.Asked κs) (group-well-formed.Learnt κs) (λ r. r) (λ t. tt {0})
group-well-formed-one κs = result-alone (λ a. tt) (λ a r q s t x y. same x y)

-- the cleared group record
pub group-cleared-one : (κs : Lifetimes.Lfts 0) → OneAnswer (group-cleared.Asked κs) (group-cleared.Learnt κs) (λ r. r) (λ t. tt {0})
group-cleared-one κs = result-alone (λ a. tt) (λ a r q s t x y. same x y)

-- the number of a row of the group machine
pub group-row-number-one : (κs : Lifetimes.Lfts 0) → OneAnswer (group-row-number.Asked κs) (group-row-number.Learnt κs) (λ r. r) (λ t. tt {0})
group-row-number-one κs = result-alone (λ a. tt) (λ a r q s t x y. same x y)

-- the group row that an event meets
pub group-row-of-one : (κs : Lifetimes.Lfts 0) → OneAnswer (group-row-of.Asked κs) (group-row-of.Learnt κs) (λ r. r) (λ t. tt {0})
group-row-of-one κs = result-alone (λ a. tt) (λ a r q s t x y. same x y)

-- the answer of a step of the group call machine or why it is refused, and the buffer
pub group-step-one : (κs : Lifetimes.Lfts 1) → OneAnswer (group-step.Asked κs) (group-step.Learnt κs) (λ r. r) (λ t. t.1.1.1.0.now)
group-step-one κs = record { asks_nothing = λ a. tt; one_result = λ a r q s t x y. Given.same-answer GroupRows.row_number group_row_with group-row-with GroupStates.no_timer a.1.0 r q (same x.0 y.0); one_exit = λ a r q s t x y. same x.1 y.1 }
