-- A log in parts, and an answer as a log: its lines answer the log's lines one for one. Assumes nothing.
use mathlib.Core.Path.{◌≡◌, refl, sym, ap, ap₂, ◌∙◌}
use mathlib.Core.Logic.{◌↔◌}
use mathlib.Core.List.{List, [], ◌∷◌, ◌++◌, append_assoc, append-nil, flatten, map}
use mathlib.Core.Bool.{Bool, true, false, not, cond, ◌&&◌}
use Prim.Native.Nat.{ℕ, zero, suc, ◌+◌, ◌<◌, ◌≤◌}
use native.Mathlib.Omega.{arith}
use lib.Dec.{eqb}
use lib.ListN.{length, get_or, replicate}
use borrow.Author.Tests.{eq-eqb, ne_eqb, eqb-true}
use Rattle.reader.specs.Line.{line_number}
use Rattle.reader.proofs.LineNumbers.{lone-end-number, readable-bytes}
use Rattle.log_lines.specs.Lines.{is_end, ahead, lines_of, joined, ended_line, unended_piece, cut_at_ends, ends_with_end}
use Rattle.log_lines.proofs.Lines.{lines-first, ended-cut, unended-alone, lines-are-the-only-ones}
use Rattle.log_answer.specs.Answer.{refusal_line, answer_to, answers_to, answer_of}
use Rattle.log_answer.proofs.LineByLine.{answer-none, answer-unended}

-- ---- a log that is cut behind a line end

-- a log that ends with a line end, ahead of another: the lines of the one, then the lines of the other
pub lines-parts : (first rest : List ℕ) → ends_with_end first ≡ true → lines_of (first ++ rest) ≡ lines_of first ++ lines_of rest
unfolding lines_of
lines-parts [] rest h = refl
lines-parts (x ∷ []) rest h = rw h
lines-parts (x ∷ y ∷ first) rest h = go (is_end x) (lines-parts (y ∷ first) rest h)
  where
    -- a byte ahead of the first of some lines is ahead of the first of more
    ahead_more : (lines more : List (List ℕ)) (l : List ℕ) (others : List (List ℕ)) → lines ≡ l ∷ others → ahead x (lines ++ more) ≡ ahead x lines ++ more
    ahead_more lines more l others e = rw e

    go : (b : Bool) → lines_of (y ∷ first ++ rest) ≡ lines_of (y ∷ first) ++ lines_of rest
        → cond b ((x ∷ []) ∷ lines_of (y ∷ first ++ rest)) (ahead x (lines_of (y ∷ first ++ rest))) ≡ cond b ((x ∷ []) ∷ lines_of (y ∷ first)) (ahead x (lines_of (y ∷ first))) ++ lines_of rest
    go true e = ap (λ (lines : List (List ℕ)). (x ∷ []) ∷ lines) e
    go false e = ap (ahead x) e ∙ ahead_more (lines_of (y ∷ first)) (lines_of rest) _ _ (lines-first (y ∷ first) (omega arith))

-- the answers to lines, then the answers to more
answers-parts : (lines more : List (List ℕ)) → answers_to (lines ++ more) ≡ answers_to lines ++ answers_to more
unfolding flatten
answers-parts [] more = refl
answers-parts (l ∷ lines) more =
    ap (λ (s : List ℕ). answer_to l ++ s) (answers-parts lines more)
    ∙ sym (append_assoc (answer_to l) (answers_to lines) (answers_to more))

-- so the parts of a log may be answered one by one
pub answer-parts : (first rest : List ℕ) → ends_with_end first ≡ true → answer_of (first ++ rest) ≡ answer_of first ++ answer_of rest
unfolding answer_of
answer-parts first rest h =
    ap answers_to (lines-parts first rest h) ∙ answers-parts (lines_of first) (lines_of rest)

-- and an unended piece at the end of a log gives 1
pub answer-tail : (first piece : List ℕ) → ends_with_end first ≡ true → unended_piece piece ≡ true → answer_of (first ++ piece) ≡ answer_of first ++ refusal_line 1
unfolding answer_of flatten
answer-tail first piece h u =
    answer-parts first piece h
    ∙ ap (λ (s : List ℕ). answer_of first ++ s) (ap answers_to (unended-alone piece u) ∙ append-nil (answer_to piece) ∙ answer-unended piece u)

-- a 0A alone gives 3
answer-line-end : answer_of (0x0a ∷ []) ≡ refusal_line 3
unfolding answer_of lines_of answer_to flatten
answer-line-end = rw lone-end-number

-- so a log of 0A alone gives 3 at each: an answer can be three times as long as its log
pub answer-line-ends : (n : ℕ) → answer_of (replicate n 0x0a) ≡ joined (replicate n (refusal_line 3))
unfolding lines_of flatten
answer-line-ends zero = answer-none
answer-line-ends (suc n) = answer-parts (0x0a ∷ []) (replicate n 0x0a) refl ∙ ap₂ ◌++◌ answer-line-end (answer-line-ends n)

-- ---- the lines of an answer

-- bytes of which the last is 0A and no other make an ended line
ended-by-bytes : (l : List ℕ) → 1 ≤ length l → ((i : ℕ) → i < length l → (get_or l i 0 ≡ 10) ↔ (suc i ≡ length l)) → ended_line l ≡ true
ended-by-bytes [] h f = absurd (omega arith)
ended-by-bytes (x ∷ []) h f = eq-eqb x 10 ((f 0 (omega arith)).1 refl)
ended-by-bytes (x ∷ y ∷ l) h f =
    let first : is_end x ≡ false = ne_eqb x 10 (λ e. let z = (f 0 (omega arith)).0 e in let w : ⊥ = omega arith in absurd w) in
    let rest = ended-by-bytes (y ∷ l) (omega arith) (λ i k. (λ e. let z = (f (suc i) (omega arith)).0 e in omega arith, λ e. (f (suc i) (omega arith)).1 (omega arith))) in
    ap₂ ◌&&◌ (ap not first) rest

-- a readable line is ended
pub readable-ended : (l : List ℕ) → line_number l ≡ 0 → ended_line l ≡ true
readable-ended l e = let b = readable-bytes l e in ended-by-bytes l b.0 b.1

-- every answer is an ended line
answer-ended : (l : List ℕ) → ended_line (answer_to l) ≡ true
unfolding answer_to
answer-ended l = go (eqb (line_number l) 0) refl
  where
    go : (b : Bool) → eqb (line_number l) 0 ≡ b → ended_line (cond b l (refusal_line (line_number l))) ≡ true
    go true e = readable-ended l (eqb-true _ _ e)
    go false e = rw (ne_eqb (0x30 + line_number l) 10 (λ z. let w : ⊥ = omega arith in absurd w))

-- so answers are cut at their ends
answers-cut : (lines : List (List ℕ)) → cut_at_ends (map answer_to lines) ≡ true
answers-cut [] = refl
answers-cut (l ∷ lines) = ended-cut (answer_to l) (answer-ended l) (map answer_to lines) (answers-cut lines)

-- and the lines of an answer are the answers to the lines: the n-th answers the n-th
pub answer-lines : (log : List ℕ) → lines_of (answer_of log) ≡ map answer_to (lines_of log)
unfolding answer_of
answer-lines log = lines-are-the-only-ones (map answer_to (lines_of log)) (answers-cut (lines_of log))
