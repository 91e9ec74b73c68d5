-- What is asked of the steps of every call machine, proved of the private one. Assumes nothing.
use Rattle.std.specs.Prelude.{Option}
use mathlib.Core.Path.{sym, ◌∙◌, subst}
use Rattle.frame.specs.declared.Message.{Message}
use Rattle.stepping.proofs.Stepping.{SentGood}
use Rattle.private_call.specs.Step.{done_of}
use Rattle.private_call.proofs.Keeping.{carried-sends-good}
use Rattle.private_call.proofs.Steps.{number-told, step-answers, keeps-well-formed}
use Rattle.private_call.proofs.MarkedSteps.{line-done}
use Rattle.private_call.proofs.Clearing.{row-28-clears}
use Rattle.private_call.proofs.GeneralRules.{timers-agree, step-change-stops, step-spares-ran-out}
use Rattle.demands.specs.Machines.{CarriesOut, KeepsWellFormed, SendsGood, Clears, TimersAgree, ChangeStops, SparesRanOut, private_machine}

-- it carries out the row that is met
pub private-carries-out : CarriesOut private_machine
private-carries-out s p i out e =
    let z = sym (number-told s p i out) ∙ e in ((step-answers s p i out z), (line-done s p i out z).1)

-- its records stay well formed
pub private-keeps-well-formed : KeepsWellFormed private_machine
private-keeps-well-formed = keeps-well-formed

-- what it sends is in range
pub private-sends-good : SendsGood private_machine
private-sends-good s p i t m e =
    subst (λ (x : Option Message). SentGood x (done_of s p i).next.call.media) e
    (carried-sends-good s p i (record { settings = t.settings; formed = t.formed; message = t.message; arguments = t.arguments }))

-- R28 clears its record
pub private-clears : Clears private_machine
private-clears = row-28-clears

-- its timers agree
pub private-timers-agree : TimersAgree private_machine
private-timers-agree s p i out e = timers-agree s p i out (sym (number-told s p i out) ∙ e)

-- leaving a state stops its timers
pub private-change-stops : ChangeStops private_machine
private-change-stops s p i out e = step-change-stops s p i out (sym (number-told s p i out) ∙ e)

-- what just ran out is not stopped
pub private-spares-ran-out : SparesRanOut private_machine
private-spares-ran-out s p i out e = step-spares-ran-out s p i out (sym (number-told s p i out) ∙ e)
