-- Steps one after the other, and what is sent on the way. Assumes nothing.
use Rattle.std.specs.Prelude.{ℕ, List, [], ◌∷◌, cond, take, eqb}
use Rattle.frame.specs.declared.Media.{Media}
use Rattle.call.specs.declared.Settings.{Settings}
use Rattle.call.specs.declared.Verdicts.{Verdicts}
use Rattle.call.specs.declared.PrivateTimer.{PrivateTimer}
use Rattle.call.specs.declared.Timer.{Timer}
use Rattle.call.specs.declared.PrivateAction.{PrivateAction}
use Rattle.call.specs.declared.Action.{Action}
use Rattle.call.specs.declared.Event.{Event}
use Rattle.call.specs.declared.Input.{Input}
use Rattle.private_record.specs.declared.states.PrivateRecord.{PrivateRecord}
use Rattle.private_call.specs.Step.{step_of, step_buffer}
use Rattle.stepping.specs.Answer.{Answer}
use Rattle.private_record.specs.declared.states.Timers.{Timers}

-- the expiry of a timer, with any media and verdicts beside it
abbrev pub expiry : PrivateTimer → Media → Verdicts → Input
expiry t media v = record { event = Event.Expiry (Timer.Private t); media = media; verdicts = v }

-- the user's accept, with any media and verdicts beside it
abbrev pub user_accepts : Media → Verdicts → Input
user_accepts media v = record { event = Event.Action (Action.Private PrivateAction.Accept); media = media; verdicts = v }

-- the record after the steps of some inputs, each with its lent buffer
abbrev pub run_private : Settings → PrivateRecord → List (Input × List ℕ) → PrivateRecord
run_private s p [] = p
run_private s p (x ∷ inputs) = run_private s (step_of s p x.0 x.1).next inputs

-- their answers, each with the buffer as it is left
abbrev pub trace_private : Settings → PrivateRecord → List (Input × List ℕ) → List (Answer PrivateRecord Timers × List ℕ)
trace_private s p [] = []
trace_private s p (x ∷ inputs) =
    (step_of s p x.0 x.1, step_buffer s p x.0 x.1) ∷ trace_private s (step_of s p x.0 x.1).next inputs

-- the lines at the front of the buffers
abbrev pub front_lines : List (Answer PrivateRecord Timers × List ℕ) → List (List ℕ)
front_lines [] = []
front_lines (x ∷ trace) = cond (eqb x.0.length 0) (front_lines trace) (take x.0.length x.1 ∷ front_lines trace)

-- the lines that are sent
abbrev pub sent_private : Settings → PrivateRecord → List (Input × List ℕ) → List (List ℕ)
sent_private s p inputs = front_lines (trace_private s p inputs)
