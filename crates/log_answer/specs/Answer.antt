-- The answer to a log of lines, and its place in a lent buffer. Assumes nothing.
use Rattle.std.specs.Prelude.{ℕ, ◌+◌, ◌≡◌, List, [], ◌∷◌, map, cond, length, ltb, eqb}
use Rattle.frame.specs.Number.{first_given}
use Rattle.reader.specs.Line.{line_number}
use Rattle.writer.specs.Lent.{Written, told, lent_after}
use Rattle.log_lines.specs.Lines.{lines_of, joined}

-- `!`
abbrev pub mark : ℕ
mark = 0x21

-- the decimal digit of a number below ten: every number of a line is
abbrev pub decimal : ℕ → ℕ
decimal n = 0x30 + n

-- what a line that is refused with a number is answered: `!`, the number, a line end
abbrev pub refusal_line : ℕ → List ℕ
refusal_line n = mark ∷ decimal n ∷ 0x0a ∷ []

-- the answer to a line: the line itself where it is readable
unfoldable pub answer_to : List ℕ → List ℕ
answer_to line = cond (eqb (line_number line) 0) line (refusal_line (line_number line))

-- the answers to lines, one after the other
abbrev pub answers_to : List (List ℕ) → List ℕ
answers_to lines = joined (map answer_to lines)

-- the answer to a log: the answers to its lines
unfoldable pub answer_of : List ℕ → List ℕ
answer_of log = answers_to (lines_of log)

-- every line is readable
abbrev pub AllReadable : List (List ℕ) → Type 0
AllReadable [] = Unit {0}
AllReadable (l ∷ lines) = (line_number l ≡ 0) × AllReadable lines

-- ---- into a lent buffer

-- 6: the buffer has no room for the answer
unfoldable pub answer_number : List ℕ → List ℕ → ℕ
answer_number log out = first_given ((6, ltb (length out) (length (answer_of log))) ∷ [])

-- the number, and the answer's length where it is 0
unfoldable pub answer_told : List ℕ → List ℕ → Written
answer_told log out = told (answer_number log out) (answer_of log)

-- the buffer with the answer at its front, or as it was
unfoldable pub answer_buffer : List ℕ → List ℕ → List ℕ
answer_buffer log out = lent_after (answer_number log out) (answer_of log) out
