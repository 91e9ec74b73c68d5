-- A refusal changes nothing, for every public function that writes into a lent buffer. Assumes nothing.
use Rattle.std.specs.Prelude.{Option}
use mathlib.Core.Path.{◌≡◌, refl, sym, ◌∙◌}
use mathlib.Core.List.{List}
use Prim.Native.Nat.{ℕ}
use borrow.Author.Tests.{eq-eqb, ne_eqb}
use Rattle.frame.specs.Layout.{line_of}
use Rattle.frame.specs.declared.Media.{Media}
use Rattle.frame.specs.declared.Message.{Message}
use Rattle.reader.specs.Line.{line_number, read_line}
use Rattle.writer.specs.Lent.{told, lent_after}
use Rattle.writer.specs.Writing.{write_number, written_of, buffer_of}
use Rattle.log_answer.specs.Answer.{answer_of, answer_number, answer_told, answer_buffer}
use Rattle.call.specs.declared.Settings.{Settings}
use Rattle.call.specs.declared.Input.{Input}
use Rattle.stepping.specs.Sending.{line_sent, send_number, send_told, send_buffer}
use Rattle.private_call.specs.Step.{step_number}
use Rattle.private_call.proofs.Steps.{number-told, step-refused, row-0-keeps}
use Rattle.private_call.proofs.MarkedSteps.{line-done}
use Rattle.chooser.proofs.Chosen.{chosen-refused}
use Rattle.demands.specs.Machines.{Machine, line_to_send, IsRefused, private_machine}
use Rattle.demands.specs.NothingChanges.{Done, NothingChanges, ReadNothingChanges, ChooseNothingChanges, ChoosesNone, StepKept, StepNothingChanges}

-- ---- a text written into a lent buffer

-- whatever the number and the text are
lent-nothing-changes : (n : ℕ) (text lent : List ℕ) → NothingChanges text (told n text) lent (lent_after n text lent)
lent-nothing-changes n text lent = (λ f. (rw (ne_eqb _ _ f), rw (ne_eqb _ _ f)), λ e. (rw (eq-eqb _ _ e), rw (eq-eqb _ _ e)))

-- the writer of a line
pub write-nothing-changes : (m : Message) (media : Media) (out : List ℕ) → NothingChanges (line_of m media) (written_of m media out) out (buffer_of m media out)
unfolding written_of buffer_of
write-nothing-changes m media out = lent-nothing-changes (write_number m media out) (line_of m media) out

-- the answer to a log
pub answer-nothing-changes : (log out : List ℕ) → NothingChanges (answer_of log) (answer_told log out) out (answer_buffer log out)
unfolding answer_told answer_buffer
answer-nothing-changes log out = lent-nothing-changes (answer_number log out) (answer_of log) out

-- what a step sends
pub write-sent-nothing-changes : (sent : Option Message) (media : Media) (out : List ℕ)
    → NothingChanges (line_sent sent media) (send_told sent media out) out (send_buffer sent media out)
write-sent-nothing-changes sent media out = lent-nothing-changes (send_number sent media out) (line_sent sent media) out

-- ---- what is lent to be read

-- the reader
pub read-nothing-changes : ReadNothingChanges
unfolding read_line
read-nothing-changes l f = rw (ne_eqb (line_number l) 0 f) refl

-- the chooser
pub choose-nothing-changes : ChooseNothingChanges
choose-nothing-changes first second f =
    let neither = (chosen-refused first.now second.now).1 f in rw (neither) refl

-- its choice
pub chooses_none : ChoosesNone
chooses_none = chosen-refused

-- ---- a step

-- a step that is refused with some number
abbrev pub Refusing : (M : Machine) → Settings → M.Stored → Input → List ℕ → Type 0
Refusing M s p i out = (n : ℕ) × IsRefused M n s p i out

-- a machine that refuses where its number is not 0, and where its row is 0, and otherwise writes its line
pub machine-nothing-changes : (M : Machine)
    → ((s : Settings) (p : M.Stored) (i : Input) (out : List ℕ) → ((M.step s p i out).number ≡ 0 → ⊥) → Refusing M s p i out)
    → ((s : Settings) (p : M.Stored) (i : Input) (out : List ℕ) → (M.step s p i out).row ≡ 0 → Refusing M s p i out)
    → ((s : Settings) (p : M.Stored) (i : Input) (out : List ℕ) → (M.step s p i out).number ≡ 0
    → Done (line_to_send M s p i) (M.step s p i out).length out (M.buffer s p i out)) → StepNothingChanges M
machine-nothing-changes M numbered rowless done s p i out = (λ f. kept (numbered s p i out f), λ e. kept (rowless s p i out e), done s p i out)
  where
    kept : Refusing M s p i out → StepKept M p (M.step s p i out) out (M.buffer s p i out)
    kept k =
        let e = k.1.0 in (λ j. (e j).next, λ j. (e j).row, λ j. (e j).stop, λ j. (e j).start, (λ j. (e j).length, k.1.1))

-- the private call machine
pub step-nothing-changes : StepNothingChanges private_machine
step-nothing-changes =
    machine-nothing-changes private_machine
    (λ s p i out f. let k = step-refused s p i out (λ z. f (number-told s p i out ∙ z)) in (step_number s p i out, (k.0, k.1)))
    (λ s p i out e. let k = row-0-keeps s p i out e in (step_number s p i out, (k.0, k.1)))
    (λ s p i out e. line-done s p i out (sym (number-told s p i out) ∙ e))
