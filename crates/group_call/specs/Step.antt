-- A step of the group call machine: its number, its answer, and the buffer to its last byte. Assumes nothing.
use Rattle.std.specs.Prelude.{ℕ, List, Bool, cond, not, ◌&&◌, length, eqb, Option, Result}
use Rattle.frame.specs.declared.refusal.Refusal.{Refusal}
use Rattle.writer.specs.Lent.{lent_after}
use Rattle.call.specs.Announced.{announced_of}
use Rattle.call.specs.declared.Settings.{Settings}
use Rattle.call.specs.declared.Event.{Event}
use Rattle.call.specs.declared.Input.{Input}
use Rattle.stepping.specs.Numbers.{number_of_tests, number_sending}
use Rattle.stepping.specs.Sending.{line_sent}
use Rattle.stepping.specs.Answer.{Answer, refused_with, answer_by}
use Rattle.stepping.specs.declared.Carried.{Carried}
use Rattle.stepping.specs.declared.Stepped.{Stepped}
use Rattle.group_record.specs.States.{no_timer}
use Rattle.group_record.specs.Formed.{is_well_formed}
use Rattle.group_record.specs.declared.states.Timers.{Timers}
use Rattle.group_record.specs.declared.states.GroupRecord.{GroupRecord}
use Rattle.group_rows.specs.Rows.{row_number, row_of}
use Rattle.group_rows.specs.declared.Row.{Row}
use Rattle.group_call.specs.Carried.{is_later, carry_out}

-- ---- the number of a step that meets a row

-- 8 at G9: the row is G9, and now is not later than the stored change
abbrev pub change_too_early : Settings → GroupRecord → Event → Option Row → Bool
change_too_early s g e row = eqb (row_number row) 9 && not (is_later (announced_of s e).call g.call)

-- the number of the tests before anything is sent, in their order: 7, 9, then 5 or 8, then the 8 of G9
abbrev pub tests_with : Option Row → Settings → GroupRecord → Input → ℕ
tests_with row s g i = number_of_tests s (is_well_formed s g) i (change_too_early s g i.event row)

-- the line that the row sends, no bytes where it sends nothing: with the media of the next record
abbrev pub line_with : Option Row → Settings → GroupRecord → Input → List ℕ
line_with row s g i = line_sent (carry_out s g i row).sent (carry_out s g i row).next.media

-- the number of a step that meets this row: that of a test, else the writer's of what is sent
abbrev pub number_with : Option Row → Settings → GroupRecord → Input → List ℕ → ℕ
number_with row s g i out = number_sending (tests_with row s g i) (carry_out s g i row).sent (carry_out s g i row).next.media out

-- ---- the answer

-- what a step from a stored record tells, in numbers
abbrev pub answer_told : GroupRecord → Result (Stepped Row GroupRecord Timers) Refusal → Answer GroupRecord Timers
answer_told = answer_by row_number no_timer

-- a refusal: the record as it was, row 0, no timer, length 0
abbrev pub refused_of : ℕ → GroupRecord → Answer GroupRecord Timers
refused_of number g = refused_with no_timer g number

-- a discard is what a refusal is, with number 0
abbrev pub discarded : GroupRecord → Answer GroupRecord Timers
discarded g = refused_of 0 g

-- what is carried out, with the length of the line written
abbrev pub moved_of : Option Row → Carried GroupRecord Timers → ℕ → Answer GroupRecord Timers
moved_of row d n = record { number = 0; row = row_number row; next = d.next; stop = d.stop; start = d.start; length = n }

-- what a row that is not refused answers: row 0 changes nothing, any other row is carried out
abbrev pub answer_with : Option Row → Settings → GroupRecord → Input → Answer GroupRecord Timers
answer_with row s g i = cond (eqb (row_number row) 0) (discarded g) (moved_of row (carry_out s g i row) (length (line_with row s g i)))

-- the answer of a step that meets this row: the row's, or a refusal with the number
abbrev pub step_with : Option Row → Settings → GroupRecord → Input → List ℕ → Answer GroupRecord Timers
step_with row s g i out =
    cond (eqb (number_with row s g i out) 0) (answer_with row s g i) (refused_of (number_with row s g i out) g)

-- the buffer after it: row 0 changes no byte; any other row has its line at the front, unless it is refused
abbrev pub buffer_with : Option Row → Settings → GroupRecord → Input → List ℕ → List ℕ
buffer_with row s g i out = cond (eqb (row_number row) 0) out (lent_after (number_with row s g i out) (line_with row s g i) out)

-- ---- a step, by the row that is met

-- what carrying it out gives
abbrev pub done_of : Settings → GroupRecord → Input → Carried GroupRecord Timers
done_of s g i = carry_out s g i (row_of s g i.event)

-- the line that it sends
abbrev pub step_line : Settings → GroupRecord → Input → List ℕ
step_line s g i = line_with (row_of s g i.event) s g i

-- the number before anything is sent
abbrev pub number_before_sending : Settings → GroupRecord → Input → ℕ
number_before_sending s g i = tests_with (row_of s g i.event) s g i

-- the number
abbrev pub step_number : Settings → GroupRecord → Input → List ℕ → ℕ
step_number s g i out = number_with (row_of s g i.event) s g i out

-- the answer where it is 0
abbrev pub answer_met : Settings → GroupRecord → Input → Answer GroupRecord Timers
answer_met s g i = answer_with (row_of s g i.event) s g i

-- the answer
unfoldable pub step_of : Settings → GroupRecord → Input → List ℕ → Answer GroupRecord Timers
step_of s g i out = step_with (row_of s g i.event) s g i out

-- the buffer
unfoldable pub step_buffer : Settings → GroupRecord → Input → List ℕ → List ℕ
step_buffer s g i out = buffer_with (row_of s g i.event) s g i out
