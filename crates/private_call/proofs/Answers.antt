-- The cases of a step: refused by a test, refused by R1, refused by the writer, carried out. Assumes nothing.
use Prim.Native.Nat.{ℕ}
use mathlib.Core.Path.{◌≡◌, sym, ap, ◌∙◌}
use mathlib.Core.List.{List}
use mathlib.Core.Bool.{Bool, true, false, cond}
use lib.Dec.{eqb}
use borrow.Author.Tests.{eq-eqb}
use Rattle.std.specs.Prelude.{Some, None}
use Rattle.std.proofs.lemmas.Option.{none-some}
use Rattle.writer.specs.Lent.{lent_after}
use Rattle.call.specs.declared.Settings.{Settings}
use Rattle.call.specs.declared.Input.{Input}
use Rattle.stepping.specs.Numbers.{number_before_row}
use Rattle.stepping.specs.Sending.{send_number, send_told, send_buffer}
use Rattle.stepping.proofs.Answers as answers
use Rattle.private_record.specs.Formed.{is_well_formed}
use Rattle.private_record.specs.declared.states.PrivateRecord.{PrivateRecord}
use Rattle.private_rows.specs.Rows.{row_number, row_of}
use Rattle.private_rows.specs.declared.Row.{Row}
use Rattle.private_rows.proofs.Meets.{same_row}
use Rattle.private_call.specs.Step.{identifier_taken, done_of, step_line, refused_of, moved_of, answer_met, step_of, step_buffer}
use Rattle.stepping.specs.Answer.{Answer}
use Rattle.private_call.proofs.Steps.{number-in-parts, buffer_lent, answer-of-row}
use Rattle.private_record.specs.declared.states.Timers.{Timers}

module _ (s : Settings) (p : PrivateRecord) (i : Input) (out : List ℕ) where
  -- the number before a row is looked for
  abbrev before : ℕ
  before = number_before_row s (is_well_formed s p) i

  -- the 8 of R1
  abbrev taken : Bool
  taken = identifier_taken s p i.event (row_of s p i)

  -- the writer's number
  abbrev writers : ℕ
  writers = send_number (done_of s p i).sent (done_of s p i).next.call.media out

  -- what the writer leaves
  abbrev left : List ℕ
  left = send_buffer (done_of s p i).sent (done_of s p i).next.call.media out

  -- an answer and a buffer are those of the step
  abbrev pub Answers : Answer PrivateRecord Timers → List ℕ → Type 0
  Answers r after = (r ≡ step_of s p i out) × (after ≡ step_buffer s p i out)

  -- what the number, the row's answer and its line give is the step's
  as_step : {r : Answer PrivateRecord Timers} {after : List ℕ} → answers.Answers s (is_well_formed s p) i taken (done_of s p i).sent (done_of s p i).next.call.media out (λ n. refused_of n p) (answer_met s p i) r after → Answers r after
  unfolding step_of
  as_step x =
      let n = sym (number-in-parts s p i out) in (
        x.0 ∙ ap (λ (n : ℕ). cond (eqb n 0) (answer_met s p i) (refused_of n p)) n,
        x.1 ∙ ap (λ (n : ℕ). lent_after n (step_line s p i) out) n ∙ sym (buffer_lent s p i out),
      )

  -- refused before a row is looked for
  pub refused-first : (before ≡ 0 → ⊥) → Answers (refused_of before p) out
  refused-first f =
      as_step (answers.refused-first s (is_well_formed s p) i taken (done_of s p i).sent (done_of s p i).next.call.media out (λ n. refused_of n p) (answer_met s p i) f)

  -- refused by R1
  pub refused-by-row : before ≡ 0 → taken ≡ true → Answers (refused_of 8 p) out
  refused-by-row e t =
      as_step (answers.refused-by-row s (is_well_formed s p) i taken (done_of s p i).sent (done_of s p i).next.call.media out (λ n. refused_of n p) (answer_met s p i) e t)

  -- refused by the writer
  pub refused-sending : before ≡ 0 → taken ≡ false → (writers ≡ 0 → ⊥) → Answers (refused_of writers p) left
  refused-sending e t f =
      as_step (answers.refused-sending s (is_well_formed s p) i taken (done_of s p i).sent (done_of s p i).next.call.media out (λ n. refused_of n p) (answer_met s p i) e t f)

  -- carried out, with the length that the writer tells
  pub carried-out : {row : Row} → before ≡ 0 → row_of s p i ≡ Some row → taken ≡ false → writers ≡ 0
      → Answers (moved_of (row_of s p i) (done_of s p i) (send_told (done_of s p i).sent (done_of s p i).next.call.media out).length) left
  carried-out {row} e m t w =
      let r = as_step (answers.carried-out s (is_well_formed s p) i taken (done_of s p i).sent (done_of s p i).next.call.media out (λ n. refused_of n p) (answer_met s p i) e t w) in
      let n : row_number (row_of s p i) ≡ 0 → ⊥ = λ z. none-some row (sym (same_row (row_of s p i) None (eq-eqb (row_number (row_of s p i)) 0 z)) ∙ m) in
      (ap (moved_of (row_of s p i) (done_of s p i)) (answers.told-length (done_of s p i).sent (done_of s p i).next.call.media out w) ∙ sym (answer-of-row s p i n) ∙ r.0, r.1)
