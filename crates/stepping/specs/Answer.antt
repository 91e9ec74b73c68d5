-- What a step of either machine tells, in numbers. Assumes nothing.
use Rattle.std.specs.Prelude.{ℕ, Option, None, Result, Ok, Err}
use Rattle.frame.specs.Refusal.{refusal_number}
use Rattle.frame.specs.declared.refusal.Refusal.{Refusal}
use Rattle.stepping.specs.declared.Stepped.{Stepped}

-- the answer of a step
pub record Answer (Stored Timers : Type 0) : Type 0 where
  -- its number
  pub number : ℕ
  -- the row that was carried out, 0 where none was
  pub row : ℕ
  -- the next record
  pub next : Stored
  -- the timers to stop
  pub stop : Timers
  -- the timers to start then
  pub start : Timers
  -- the length of the line to send
  pub length : ℕ

-- a refusal, by its number: the record as it was, row 0, no timer, length 0
abbrev pub refused_with : {Stored Timers : Type 0} → Timers → Stored → ℕ → Answer Stored Timers
refused_with none stored number = record { number = number; row = 0; next = stored; stop = none; start = none; length = 0 }

-- what a step from a stored record tells: the row by its number; where it is refused, the record is the stored one
abbrev pub answer_by : {Row Stored Timers : Type 0} → (Option Row → ℕ) → Timers → Stored → Result (Stepped Row Stored Timers) Refusal → Answer Stored Timers
answer_by row_number none stored (Ok done) =
    record { number = 0; row = row_number done.row; next = done.next; stop = done.stop; start = done.start; length = done.length }
answer_by row_number none stored (Err refusal) = refused_with none stored (refusal_number refusal)

-- what a step does that does nothing: the record as it was, no row, no timer, length 0
abbrev pub nothing_done : {Row Stored Timers : Type 0} → Timers → Stored → Stepped Row Stored Timers
nothing_done none stored = record { row = None; next = stored; stop = none; start = none; length = 0 }

-- what a step from a stored record did, by its answer; where it is refused, nothing
abbrev pub done_by : {Row Stored Timers : Type 0} → Timers → Stored → Result (Stepped Row Stored Timers) Refusal → Stepped Row Stored Timers
done_by none stored (Ok done) = done
done_by none stored (Err refusal) = nothing_done none stored
