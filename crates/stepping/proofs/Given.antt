-- A step's answer is known by what it tells, where a row is known by its number. Assumes nothing.
use mathlib.Core.Path.{◌≡◌, refl, sym, ap, ◌∙◌}
use Prim.Native.Nat.{ℕ}
use Rattle.std.specs.Prelude.{Option, None, Result, Ok, Err}
use Rattle.frame.specs.Refusal.{refusal_number, number_of}
use Rattle.frame.specs.declared.refusal.Refusal.{Refusal}
use Rattle.frame.proofs.Refusals.{answer_with, refused-with}
use Rattle.stepping.specs.Answer.{Answer, answer_by, done_by}
use Rattle.stepping.specs.declared.Stepped.{Stepped}

-- what a step tells is its number and what it did, where no row has the number 0
pub told-by-done : {Row Stored Timers : Type 0} (row_number : Option Row → ℕ) (none : Timers) (stored : Stored) (a : Result (Stepped Row Stored Timers) Refusal) → row_number None ≡ 0
    → let d = done_by none stored a in answer_by row_number none stored a
    ≡ record { number = number_of a; row = row_number d.row; next = d.next; stop = d.stop; start = d.start; length = d.length }
told-by-done row_number none stored (Ok done) e = refl
told-by-done row_number none stored (Err refusal) e =
    λ j. record { number = refusal_number refusal; row = sym e j; next = stored; stop = none; start = none; length = 0 }

module _ {Row Stored Timers : Type 0} (row_number : Option Row → ℕ) (row_with : ℕ → Option Row) (back : (row : Option Row) → row_with (row_number row) ≡ row) (none : Timers) (stored : Stored) where
  -- the answer that tells this
  abbrev answer_telling : Answer Stored Timers → Result (Stepped Row Stored Timers) Refusal
  answer_telling told =
      answer_with
      (record { row = row_with told.row; next = told.next; stop = told.stop; start = told.start; length = told.length })
      told.number

  -- an answer is the one that tells what it tells
  answer-telling : (a : Result (Stepped Row Stored Timers) Refusal) → answer_telling (answer_by row_number none stored a) ≡ a
  answer-telling (Ok x) = λ j. Ok (record { row = back x.row j; next = x.next; stop = x.stop; start = x.start; length = x.length })
  answer-telling (Err r) = refused-with _ r

  -- two answers that tell the same are one
  pub same-answer : (a b : Result (Stepped Row Stored Timers) Refusal) → answer_by row_number none stored a ≡ answer_by row_number none stored b → a ≡ b
  same-answer a b e = sym (answer-telling a) ∙ ap answer_telling e ∙ answer-telling b
