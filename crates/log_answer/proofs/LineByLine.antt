-- The answer to a log: line by line, three times as long as the log at most, and none to an empty log. Assumes nothing.
use mathlib.Core.Path.{◌≡◌, refl, sym, ap, ap₂, ◌∙◌}
use mathlib.Core.List.{List, [], ◌∷◌, flatten, map}
use mathlib.Core.Bool.{Bool, true, false, not, cond, false≢true}
use Prim.Native.Nat.{ℕ, suc, ◌*◌, ◌-◌, ◌≤◌}
use native.Mathlib.Omega.{arith}
use lib.Dec.{eqb}
use lib.ListN.{length, get_or, length-append}
use borrow.Author.Tests.{eq-eqb, ne_eqb, not-true}
use Rattle.frame.specs.Layout.{line_of}
use Rattle.frame.specs.declared.Media.{Media}
use Rattle.frame.specs.declared.Message.{Message}
use Rattle.frame.proofs.Laws.{and_split, or_right}
use Rattle.reader.specs.Line.{unended, reading, read_line, line_number}
use Rattle.reader.proofs.LineNumbers.{unended-number, read_number}
use Rattle.reader.proofs.OnlyLine.{line-is-the-only-one}
use Rattle.log_lines.specs.Lines.{is_end, lines_of, joined, unended_piece, cut_at_ends}
use Rattle.log_lines.proofs.Lines.{lines-joined, lines-cut-at-ends, cut-first}
use Rattle.log_answer.specs.Answer.{refusal_line, answer_to, answers_to, answer_of, AllReadable}

-- ---- a line

-- a readable line comes back
pub answer-readable : (line : List ℕ) → line_number line ≡ 0 → answer_to line ≡ line
unfolding answer_to
answer-readable line e = rw (eq-eqb _ _ e)

-- and it is the line that the writer writes for what the reader reads
pub answer-written : (line : List ℕ) (m : Message) (media : Media) → read_line line ≡ reading m media → answer_to line ≡ line_of m media
answer-written line m media e = answer-readable line (read_number line m media e) ∙ (line-is-the-only-one line m media e).0

-- any other gives its number
pub answer-refused : (line : List ℕ) → (line_number line ≡ 0 → ⊥) → answer_to line ≡ refusal_line (line_number line)
unfolding answer_to
answer-refused line f = rw (ne_eqb _ _ f)

-- an unended piece does not end
piece-unended : (piece : List ℕ) → unended_piece piece ≡ true → unended piece ≡ true
piece-unended piece h = or_right (eqb (length piece) 0) (ap not (last piece h))
  where
    last : (l : List ℕ) → unended_piece l ≡ true → is_end (get_or l (length l - 1) 0) ≡ false
    last [] e = absurd (false≢true e)
    last (x ∷ []) e = not-true _ e
    last (x ∷ y ∷ l) e =
        let k : suc (suc (length l)) - 1 ≡ suc (length l) = omega arith in
        let j : suc (length l) - 1 ≡ length l = omega arith in
        let rest = last (y ∷ l) (and_split (not (is_end x)) (unended_piece (y ∷ l)) e).1 in
        ap (λ (n : ℕ). is_end (get_or (x ∷ y ∷ l) n 0)) k ∙ ap (λ (n : ℕ). is_end (get_or (y ∷ l) n 0)) (sym j) ∙ rest

-- so it gives 1
pub answer-unended : (piece : List ℕ) → unended_piece piece ≡ true → answer_to piece ≡ refusal_line 1
answer-unended piece h =
    let e = unended-number piece (piece-unended piece h) in
    answer-refused piece (λ z. let w : ⊥ = omega arith in absurd w) ∙ ap refusal_line e

-- an answer is at most three times as long as its line
line-answer-within : (line : List ℕ) → 1 ≤ length line → length (answer_to line) ≤ 3 * length line
unfolding answer_to
line-answer-within line h = go (eqb (line_number line) 0)
  where
    go : (b : Bool) → length (cond b line (refusal_line (line_number line))) ≤ 3 * length line
    go true = omega arith
    go false = omega arith

-- ---- a log

-- no log, no answer
pub answer-none : answer_of [] ≡ []
unfolding answer_of lines_of flatten
answer-none = refl

-- the answers to lines are at most three times as long as the lines
answers-within : (lines : List (List ℕ)) → cut_at_ends lines ≡ true → length (answers_to lines) ≤ 3 * length (joined lines)
unfolding flatten
answers-within [] h = omega arith
answers-within (l ∷ lines) h =
    let p = cut-first l lines h in
    let first = line-answer-within l p.0 in
    let others = answers-within lines p.1 in
    rw (length-append (answer_to l) (answers_to lines), length-append l (joined lines)) (omega (arith, first, others))

-- the answer is at most three times as long as the log
pub answer-within : (log : List ℕ) → length (answer_of log) ≤ 3 * length log
unfolding answer_of
answer-within log = rw (lines-joined log) at (answers-within (lines_of log) (lines-cut-at-ends log))

-- readable lines are their own answers
answers-readable : (lines : List (List ℕ)) → AllReadable lines → map answer_to lines ≡ lines
answers-readable [] h = refl
answers-readable (l ∷ lines) h = ap₂ (λ (x : List ℕ) (rest : List (List ℕ)). x ∷ rest) (answer-readable l h.0) (answers-readable lines h.1)

-- a log whose lines are all readable comes back as it is
pub answer-all-readable : (log : List ℕ) → AllReadable (lines_of log) → answer_of log ≡ log
unfolding answer_of
answer-all-readable log h = ap joined (answers-readable (lines_of log) h) ∙ lines-joined log
