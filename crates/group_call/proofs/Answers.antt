-- The cases of a step: refused by a test, met by no row, refused by G9, refused by the writer, carried out. Assumes nothing.
use Prim.Native.Nat.{ℕ}
use mathlib.Core.Path.{◌≡◌, sym, ap, ◌∙◌}
use mathlib.Core.List.{List}
use mathlib.Core.Bool.{Bool, true, false}
use borrow.Author.Tests.{eq-eqb}
use Rattle.std.specs.Prelude.{Some, None, Result, Err}
use Rattle.std.specs.Result.{IsErrAnd}
use Rattle.std.proofs.lemmas.Option.{none-some}
use Rattle.std.proofs.lemmas.Result.{err_from_is_err_and}
use Rattle.frame.specs.Refusal.{refusal_number}
use Rattle.frame.specs.declared.refusal.Refusal.{Refusal}
use Rattle.call.specs.declared.Settings.{Settings}
use Rattle.call.specs.declared.Input.{Input}
use Rattle.stepping.specs.Numbers.{number_before_row}
use Rattle.stepping.specs.Sending.{send_number, send_told, send_buffer}
use Rattle.stepping.specs.Answer.{Answer}
use Rattle.stepping.proofs.Answers as answers
use Rattle.group_record.specs.Formed.{is_well_formed}
use Rattle.group_record.specs.declared.states.Timers.{Timers}
use Rattle.group_record.specs.declared.states.GroupRecord.{GroupRecord}
use Rattle.group_rows.specs.Rows.{row_number, row_of}
use Rattle.group_rows.specs.declared.Row.{Row}
use Rattle.group_rows.proofs.Meets.{same_row}
use Rattle.group_call.specs.Step.{change_too_early, done_of, refused_of, moved_of, answer_met, step_of, step_buffer}
use Rattle.group_call.proofs.Steps.{buffer_lent, answer-of-row}

-- no row has the number 0
row-above-zero : (row : Row) → row_number (Some row) ≡ 0 → ⊥
row-above-zero row e = none-some row (sym (same_row (Some row) None (eq-eqb (row_number (Some row)) 0 e)))

-- what a `?` hands up is the refusal that it met
pub handed-up : {A : Type 0} (r : Result A Refusal) (refusal : Refusal) → IsErrAnd r (λ e. e ≡ refusal) → r ≡ Err refusal
handed-up r refusal e = let p = err_from_is_err_and r e in p.1 ∙ ap (λ (x : Refusal). Err x) p.2

module _ (s : Settings) (g : GroupRecord) (i : Input) (out : List ℕ) where
  -- the number before a row is looked for
  abbrev before : ℕ
  before = number_before_row s (is_well_formed s g) i

  -- the 8 of G9
  abbrev early : Bool
  early = change_too_early s g i.event (row_of s g i.event)

  -- the writer's number
  abbrev writers : ℕ
  writers = send_number (done_of s g i).sent (done_of s g i).next.media out

  -- what the writer leaves
  abbrev left : List ℕ
  left = send_buffer (done_of s g i).sent (done_of s g i).next.media out

  -- an answer and a buffer are those of the step
  abbrev pub Answers : Answer GroupRecord Timers → List ℕ → Type 0
  Answers r after = (r ≡ step_of s g i out) × (after ≡ step_buffer s g i out)

  -- what the number, the row's answer and its line give is the step's
  as_step : {r : Answer GroupRecord Timers} {after : List ℕ} → answers.Answers s (is_well_formed s g) i early (done_of s g i).sent (done_of s g i).next.media out (λ n. refused_of n g) (answer_met s g i) r after → Answers r after
  unfolding step_of
  as_step x = (x.0, x.1 ∙ sym (buffer_lent s g i out))

  -- refused before a row is looked for
  pub refused-first : (before ≡ 0 → ⊥) → Answers (refused_of before g) out
  refused-first f =
      as_step (answers.refused-first s (is_well_formed s g) i early (done_of s g i).sent (done_of s g i).next.media out (λ n. refused_of n g) (answer_met s g i) f)

  -- the same by the refusal that has the number
  pub first-refusal : (refusal : Refusal) → refusal_number refusal ≡ before → Answers (refused_of (refusal_number refusal) g) out
  first-refusal refusal n = rw n (refused-first (λ z. answers.refusal-given refusal (n ∙ z)))

  -- refused by G9
  pub refused-by-row : before ≡ 0 → early ≡ true → Answers (refused_of 8 g) out
  refused-by-row e t =
      as_step (answers.refused-by-row s (is_well_formed s g) i early (done_of s g i).sent (done_of s g i).next.media out (λ n. refused_of n g) (answer_met s g i) e t)

  -- refused by the writer
  pub refused-sending : before ≡ 0 → early ≡ false → (writers ≡ 0 → ⊥) → Answers (refused_of writers g) left
  refused-sending e t f =
      as_step (answers.refused-sending s (is_well_formed s g) i early (done_of s g i).sent (done_of s g i).next.media out (λ n. refused_of n g) (answer_met s g i) e t f)

  -- the same by the refusal that has the number
  pub sending-refusal : before ≡ 0 → early ≡ false → (refusal : Refusal) → refusal_number refusal ≡ writers → Answers (refused_of (refusal_number refusal) g) left
  sending-refusal e t refusal n = rw n (refused-sending e t (λ z. answers.refusal-given refusal (n ∙ z)))

  -- carried out, with the length that the writer tells
  pub carried-out : before ≡ 0 → (row : Row) → Some row ≡ row_of s g i.event → early ≡ false → writers ≡ 0
      → Answers (moved_of (row_of s g i.event) (done_of s g i) (send_told (done_of s g i).sent (done_of s g i).next.media out).length) left
  carried-out e row met t w =
      let r = as_step (answers.carried-out s (is_well_formed s g) i early (done_of s g i).sent (done_of s g i).next.media out (λ n. refused_of n g) (answer_met s g i) e t w) in
      (ap (moved_of (row_of s g i.event) (done_of s g i)) (answers.told-length (done_of s g i).sent (done_of s g i).next.media out w) ∙ sym (answer-of-row s g i (λ z. row-above-zero row (ap row_number met ∙ z))) ∙ r.0, r.1)
