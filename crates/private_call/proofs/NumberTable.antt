-- The number of a step is the first of a table: 7, 9, 5, 8, 6. Assumes nothing.
use Prim.Native.Nat.{ℕ, ◌≤◌}
use mathlib.Core.Path.{◌≡◌, ◌∙◌}
use mathlib.Core.List.{List}
use lib.ListN.{length}
use Rattle.frame.specs.Number.{first_given}
use Rattle.frame.specs.Layout.{longest_line}
use Rattle.call.specs.declared.Settings.{Settings}
use Rattle.call.specs.declared.Input.{Input}
use Rattle.stepping.proofs.Stepping.{table_tests, number-of-table, number-with-room, number-of-tests}
use Rattle.private_record.specs.Formed.{is_well_formed}
use Rattle.private_record.specs.declared.states.PrivateRecord.{PrivateRecord}
use Rattle.private_rows.specs.Rows.{row_of}
use Rattle.private_call.specs.Step.{identifier_taken, number_before_sending, done_of, step_line, step_number}
use Rattle.private_call.proofs.Steps.{number-in-parts, sends-good}

module _ (s : Settings) (p : PrivateRecord) (i : Input) (out : List ℕ) where
  -- the number of a step is the first of the table that is given: the writer's 5 never shows
  pub step-number : step_number s p i out ≡ first_given (table_tests s (is_well_formed s p) i (identifier_taken s p i.event (row_of s p i)) (step_line s p i) out)
  step-number =
      number-in-parts s p i out
      ∙ number-of-table s (is_well_formed s p) i (identifier_taken s p i.event (row_of s p i)) (done_of s p i).sent (done_of s p i).next.call.media
      (sends-good s p i) out

  -- a step that passed the tests goes where the buffer has room for its line
  pub step-goes : number_before_sending s p i ≡ 0 → length (step_line s p i) ≤ length out → step_number s p i out ≡ 0
  step-goes e h =
      number-in-parts s p i out
      ∙ number-with-room s (is_well_formed s p) i (identifier_taken s p i.event (row_of s p i)) (done_of s p i).sent (done_of s p i).next.call.media
      (sends-good s p i) out e h

  -- with room for the longest line 6 never comes up: the number is that of the tests
  pub longest-has-room : longest_line ≤ length out → step_number s p i out ≡ number_before_sending s p i
  longest-has-room h =
      number-in-parts s p i out
      ∙ number-of-tests s (is_well_formed s p) i (identifier_taken s p i.event (row_of s p i)) (done_of s p i).sent (done_of s p i).next.call.media
      (sends-good s p i) out h
