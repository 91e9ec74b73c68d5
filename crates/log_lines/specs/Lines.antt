-- A log as lines: each ends with its 0A, and what stands behind the last 0A is one line more. Assumes nothing.
use Rattle.std.specs.Prelude.{ℕ, ◌≤◌, ◌≡◌, Bool, true, false, not, cond, ◌&&◌, ◌||◌, length, take, eqb}
use mathlib.Core.List.{List, [], ◌∷◌, flatten}

-- the byte that ends a line
abbrev pub is_end : ℕ → Bool
is_end x = eqb x 0x0a

-- ---- the lines of a log

-- a byte that ends no line, put at the front of what follows it
abbrev pub ahead : ℕ → List (List ℕ) → List (List ℕ)
ahead x [] = (x ∷ []) ∷ []
ahead x (l ∷ lines) = (x ∷ l) ∷ lines

-- the lines, in order
unfoldable pub lines_of : List ℕ → List (List ℕ)
lines_of [] = []
lines_of (x ∷ log) = cond (is_end x) ((x ∷ []) ∷ lines_of log) (ahead x (lines_of log))

-- lines one after the other, as a log again
abbrev pub joined : List (List ℕ) → List ℕ
joined lines = flatten lines

-- ---- the first of them

-- the first line, with its end; everything where no line ends
unfoldable pub first_line : List ℕ → List ℕ
first_line [] = []
first_line (x ∷ log) = x ∷ cond (is_end x) [] (first_line log)

-- what stands behind the first line
unfoldable pub after_first : List ℕ → List ℕ
after_first [] = []
after_first (x ∷ log) = cond (is_end x) log (after_first log)

-- ---- what makes lines the lines of a log

-- an ended line: its last byte is 0A, and no other byte is
abbrev pub ended_line : List ℕ → Bool
ended_line [] = false
ended_line (x ∷ []) = is_end x
ended_line (x ∷ y ∷ line) = not (is_end x) && ended_line (y ∷ line)

-- an unended piece: one byte or more, and no byte is 0A
abbrev pub unended_piece : List ℕ → Bool
unended_piece [] = false
unended_piece (x ∷ []) = not (is_end x)
unended_piece (x ∷ y ∷ piece) = not (is_end x) && unended_piece (y ∷ piece)

-- all are ended lines, but the last may be an unended piece
abbrev pub cut_at_ends : List (List ℕ) → Bool
cut_at_ends [] = true
cut_at_ends (l ∷ []) = ended_line l || unended_piece l
cut_at_ends (l ∷ next ∷ lines) = ended_line l && cut_at_ends (next ∷ lines)

-- a log without an unended piece: it is empty, or its last byte is 0A
abbrev pub ends_with_end : List ℕ → Bool
ends_with_end [] = true
ends_with_end (x ∷ []) = is_end x
ends_with_end (x ∷ y ∷ log) = ends_with_end (y ∷ log)

-- ---- where a log or a buffer is cut

-- bytes can be cut behind the first n; the second part follows from the first, and a caller who cuts there is asked for both
abbrev pub CutPlace : ℕ → List ℕ → Type 0
CutPlace n l = (n ≤ length l) × (n ≡ length (take n l))
