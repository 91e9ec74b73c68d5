-- A step of the private call machine: its number, its answer, and the buffer to its last byte. Assumes nothing.
use Rattle.std.specs.Prelude.{ℕ, List, Bool, cond, ◌&&◌, length, eqb, Option, Result}
use Rattle.frame.specs.declared.refusal.Refusal.{Refusal}
use Rattle.writer.specs.Lent.{lent_after}
use Rattle.call.specs.Request.{request_of}
use Rattle.call.specs.declared.Settings.{Settings}
use Rattle.call.specs.declared.Event.{Event}
use Rattle.call.specs.declared.Input.{Input}
use Rattle.stepping.specs.Numbers.{number_of_tests, number_sending}
use Rattle.stepping.specs.Sending.{line_sent}
use Rattle.stepping.specs.Answer.{Answer, refused_with, answer_by}
use Rattle.stepping.specs.declared.Carried.{Carried}
use Rattle.stepping.specs.declared.Stepped.{Stepped}
use Rattle.private_record.specs.Phases.{no_timer}
use Rattle.private_record.specs.Formed.{is_well_formed}
use Rattle.private_record.specs.declared.states.Timers.{Timers}
use Rattle.private_record.specs.declared.states.PrivateRecord.{PrivateRecord}
use Rattle.private_rows.specs.Causes.{same_identifier}
use Rattle.private_rows.specs.Rows.{row_number, row_of}
use Rattle.private_rows.specs.declared.Row.{Row}
use Rattle.private_call.specs.Carried.{carry_out}

-- ---- the number of a step that meets a row

-- 8 at R1: the row is R1, and the identifier that the user names is the stored one
abbrev pub identifier_taken : Settings → PrivateRecord → Event → Option Row → Bool
identifier_taken s p e row = eqb (row_number row) 1 && same_identifier (request_of s e).parties p.call.parties

-- the number of the tests before anything is sent, in their order: 7, 9, then 5 or 8, then the 8 of R1
abbrev pub tests_with : Option Row → Settings → PrivateRecord → Input → ℕ
tests_with row s p i = number_of_tests s (is_well_formed s p) i (identifier_taken s p i.event row)

-- the line that the row sends, no bytes where it sends nothing: with the media of the next record
abbrev pub line_with : Option Row → Settings → PrivateRecord → Input → List ℕ
line_with row s p i = line_sent (carry_out s p i row).sent (carry_out s p i row).next.call.media

-- the number of a step that meets this row: that of a test, else the writer's of what is sent
abbrev pub number_with : Option Row → Settings → PrivateRecord → Input → List ℕ → ℕ
number_with row s p i out = number_sending (tests_with row s p i) (carry_out s p i row).sent (carry_out s p i row).next.call.media out

-- ---- the answer

-- a refusal: the record as it was, row 0, no timer, length 0
abbrev pub refused_of : ℕ → PrivateRecord → Answer PrivateRecord Timers
refused_of number p = refused_with no_timer p number

-- a discard is what a refusal is, with number 0
abbrev pub discarded : PrivateRecord → Answer PrivateRecord Timers
discarded p = refused_of 0 p

-- what is carried out, with the length of the line written
abbrev pub moved_of : Option Row → Carried PrivateRecord Timers → ℕ → Answer PrivateRecord Timers
moved_of row d n = record { number = 0; row = row_number row; next = d.next; stop = d.stop; start = d.start; length = n }

-- what the answer of a step from this record tells
abbrev pub answer_told : PrivateRecord → Result (Stepped Row PrivateRecord Timers) Refusal → Answer PrivateRecord Timers
answer_told = answer_by row_number no_timer

-- what a row that is not refused answers: row 0 changes nothing, any other row is carried out
abbrev pub answer_with : Option Row → Settings → PrivateRecord → Input → Answer PrivateRecord Timers
answer_with row s p i = cond (eqb (row_number row) 0) (discarded p) (moved_of row (carry_out s p i row) (length (line_with row s p i)))

-- the answer of a step that meets this row: the row's, or a refusal with the number
abbrev pub step_with : Option Row → Settings → PrivateRecord → Input → List ℕ → Answer PrivateRecord Timers
step_with row s p i out =
    cond (eqb (number_with row s p i out) 0) (answer_with row s p i) (refused_of (number_with row s p i out) p)

-- the buffer after it: row 0 changes no byte; any other row has its line at the front, unless it is refused
abbrev pub buffer_with : Option Row → Settings → PrivateRecord → Input → List ℕ → List ℕ
buffer_with row s p i out = cond (eqb (row_number row) 0) out (lent_after (number_with row s p i out) (line_with row s p i) out)

-- ---- a step, by the row that is met

-- what carrying it out gives
abbrev pub done_of : Settings → PrivateRecord → Input → Carried PrivateRecord Timers
done_of s p i = carry_out s p i (row_of s p i)

-- the line that it sends
abbrev pub step_line : Settings → PrivateRecord → Input → List ℕ
step_line s p i = line_with (row_of s p i) s p i

-- the number before anything is sent
abbrev pub number_before_sending : Settings → PrivateRecord → Input → ℕ
number_before_sending s p i = tests_with (row_of s p i) s p i

-- the number
abbrev pub step_number : Settings → PrivateRecord → Input → List ℕ → ℕ
step_number s p i out = number_with (row_of s p i) s p i out

-- the answer where it is 0
abbrev pub answer_met : Settings → PrivateRecord → Input → Answer PrivateRecord Timers
answer_met s p i = answer_with (row_of s p i) s p i

-- the answer
unfoldable pub step_of : Settings → PrivateRecord → Input → List ℕ → Answer PrivateRecord Timers
step_of s p i out = step_with (row_of s p i) s p i out

-- the buffer
unfoldable pub step_buffer : Settings → PrivateRecord → Input → List ℕ → List ℕ
step_buffer s p i out = buffer_with (row_of s p i) s p i out
