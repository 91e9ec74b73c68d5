-- What is asked of the steps of every call machine, proved of the group call machine. Assumes nothing.
use Rattle.std.specs.Prelude.{Option, Some}
use Prim.Native.Nat.{ℕ, ◌≤◌}
use mathlib.Core.Path.{◌≡◌, sym, ap, ◌∙◌, subst}
use mathlib.Core.Bool.{not}
use lib.Dec.{ltb, eqb}
use borrow.Author.Tests.{eq-eqb, ltb-false, le-ltb, not-true}
use Rattle.call.specs.Announced.{announced_of}
use Rattle.call.specs.declared.Settings.{Settings}
use Rattle.call.specs.declared.Input.{Input}
use Rattle.frame.specs.declared.Message.{Message}
use Rattle.stepping.proofs.Stepping.{SentGood}
use Rattle.group_record.specs.declared.states.GroupRecord.{GroupRecord}
use Rattle.group_rows.specs.Rows.{row_number, row_of}
use Rattle.group_rows.specs.declared.Row.TheVariants.{G9}
use Rattle.group_rows.proofs.Meets.{same_row}
use Rattle.group_call.specs.Carried.{is_later}
use Rattle.group_call.specs.Step.{change_too_early, done_of, step_number}
use Rattle.stepping.specs.Answer.{Answer}
use Rattle.group_call.proofs.Keeping.{carried-sends-good}
use Rattle.group_call.proofs.Steps.{number-told, step-number, step-answers, step-done, step-refused, row-0-keeps, keeps-well-formed}
use Rattle.group_call.proofs.Clearing.{rows-7-and-8-clear}
use Rattle.group_call.proofs.GeneralRules.{timers-agree, step-change-stops, step-spares-ran-out}
use Rattle.demands.specs.Machines.{CarriesOut, KeepsWellFormed, SendsGood, Clears, TimersAgree, ChangeStops, SparesRanOut, ChangeNotLater, group_machine}
use Rattle.demands.specs.ExactlyWhen.{StepExactlyWhen}
use Rattle.demands.specs.NothingChanges.{StepNothingChanges}
use Rattle.demands.proofs.Reflects.{Reflects, and-reflects}
use Rattle.demands.proofs.ExactlyWhen.{machine-exactly-when}
use Rattle.demands.proofs.NothingChanges.{machine-nothing-changes}
use Rattle.group_record.specs.declared.states.Timers.{Timers}

-- it carries out the row that is met
pub group-carries-out : CarriesOut group_machine
group-carries-out s g i out e = let d = step-answers s g i out (sym (number-told s g i out) ∙ e) in (d.0, d.1)

-- its records stay well formed
pub group-keeps-well-formed : KeepsWellFormed group_machine
group-keeps-well-formed = keeps-well-formed

-- what it sends is in range
pub group-sends-good : SendsGood group_machine
group-sends-good s g i t m e =
    subst (λ (x : Option Message). SentGood x (done_of s g i).next.media) e
    (carried-sends-good s g i (record { settings = t.settings; formed = t.formed; message = t.message; arguments = t.arguments }))

-- G7 and G8 clear its record
pub group-clears : Clears group_machine
group-clears = rows-7-and-8-clear

-- its timers agree
pub group-timers-agree : TimersAgree group_machine
group-timers-agree s g i out e = timers-agree s g i out (sym (number-told s g i out) ∙ e)

-- leaving a state stops its timers
pub group-change-stops : ChangeStops group_machine
group-change-stops s g i out e = step-change-stops s g i out (sym (number-told s g i out) ∙ e)

-- what just ran out is not stopped
pub group-spares-ran-out : SparesRanOut group_machine
group-spares-ran-out s g i out e = step-spares-ran-out s g i out (sym (number-told s g i out) ∙ e)

-- ---- the numbers

-- the row is G9
ninth-reflects : (s : Settings) (g : GroupRecord) (i : Input) → Reflects (eqb (row_number (row_of s g i.event)) 9) (row_of s g i.event ≡ (Some G9))
ninth-reflects s g i = (same_row (row_of s g i.event) (Some G9), λ e. eq-eqb (row_number (row_of s g i.event)) 9 (ap row_number e))

-- not above
not-above : (m n : ℕ) → Reflects (not (ltb m n)) (n ≤ m)
not-above m n = (λ e. ltb-false m n (not-true _ e), λ h. ap not (le-ltb m n h))

-- 8 of G9
pub early-reflects : (s : Settings) (g : GroupRecord) (i : Input) → Reflects (change_too_early s g i.event (row_of s g i.event)) (ChangeNotLater s g i)
early-reflects s g i =
    and-reflects (eqb (row_number (row_of s g i.event)) 9) (not (is_later (announced_of s i.event).call g.call)) (ninth-reflects s g i)
    (not-above g.call.last_change (announced_of s i.event).call.last_change)

-- a step: 7, then 9, then 5 or 8, and 6 last
pub group-step-exactly-when : StepExactlyWhen group_machine
group-step-exactly-when =
    machine-exactly-when group_machine (λ s g i. change_too_early s g i.event (row_of s g i.event)) early-reflects
    (λ s g i out. number-told s g i out ∙ step-number s g i out)

-- ---- nothing changes

-- a refusal changes nothing, nor does a discard
pub group-step-nothing-changes : StepNothingChanges group_machine
group-step-nothing-changes =
    machine-nothing-changes group_machine
    (λ s g i out f. let k = step-refused s g i out (λ z. f (number-told s g i out ∙ z)) in (step_number s g i out, (k.0, k.1)))
    (λ s g i out e. let k = row-0-keeps s g i out e in (step_number s g i out, (k.0, k.1)))
    (λ s g i out e. let d = step-done s g i out (sym (number-told s g i out) ∙ e) in (ap (λ (x : Answer GroupRecord Timers). x.length) d.0, d.1))
