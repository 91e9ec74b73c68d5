-- A log that is being answered: what one line more adds, and what stands in the buffer so far. Assumes nothing.
use mathlib.Core.Path.{◌≡◌, sym, ap, ◌∙◌}
use mathlib.Core.List.{List, [], ◌∷◌, ◌++◌, append_assoc, append-nil, flatten}
use Prim.Native.Nat.{ℕ, ◌+◌, ◌-◌, ◌≤◌}
use native.Mathlib.Omega.{arith}
use lib.ListN.{length, take, drop, length-append, length-drop, drop_of_length-le}
use lib.Seq.{drop-drop, take_all, take_at, drop_at}
use borrow.Rule.Slice.PartMut.{put_mid}
use Rattle.writer.specs.Lent.{at_front}
use Rattle.log_lines.specs.Lines.{lines_of}
use Rattle.log_answer.specs.Answer.{answer_to, answers_to, answer_of}

-- the answer to a log: that to its first line, then that to the rest
pub answer-first : (log line rest : List ℕ) → lines_of log ≡ line ∷ lines_of rest → answer_of log ≡ answer_to line ++ answer_of rest
unfolding answer_of flatten
answer-first log line rest e = ap answers_to e

-- and so their lengths
pub answer-lengths : (log line rest : List ℕ) → lines_of log ≡ line ∷ lines_of rest → length (answer_of log) ≡ length (answer_to line) + length (answer_of rest)
answer-lengths log line rest e = ap length (answer-first log line rest e) ∙ length-append (answer_to line) (answer_of rest)

-- a log without lines has no answer
pub answer-no-lines : (log : List ℕ) → lines_of log ≡ [] → answer_of log ≡ []
unfolding answer_of flatten
answer-no-lines log e = ap answers_to e

-- the first w bytes of a buffer answer a log but for the rest, and behind them the buffer is as it was lent
abbrev pub SoFar : List ℕ → List ℕ → List ℕ → ℕ → List ℕ → Type 0
SoFar log lent out w rest =
    (w ≤ length out) × (length out ≡ length lent) × (done : List ℕ) × (w ≡ length done) × (out ≡ done ++ drop w lent) × (done ++ answer_of rest ≡ answer_of log)

-- ---- one line more

module _ (log lent out : List ℕ) (w : ℕ) (rest line after : List ℕ) (far : SoFar log lent out w rest) (next : lines_of rest ≡ line ∷ lines_of after)
    (fits : length (answer_of log) ≤ length lent) where
  -- what is written so far
  abbrev done : List ℕ
  done = far.2

  -- from w on the buffer is as it was lent
  as_lent : drop w out ≡ drop w lent
  as_lent = ap (drop w) far.4 ∙ drop_at done (drop w lent) w (sym far.3)

  -- and so is the part that the code lends on
  part : take (length out - w) (drop w out) ≡ drop w lent
  part = take_all (length out - w) (drop w out) (simp length-drop (omega arith)) ∙ as_lent

  -- there is room for its answer
  room-left : w + length (answer_to line) ≤ length lent
  room-left =
      let all = sym (length-append done (answer_of rest)) ∙ ap length far.5 in
      omega (arith, all, far.3, answer-lengths rest line after next)

  -- in the part from w on
  pub room-part : length (answer_to line) ≤ length (take (length out - w) (drop w out))
  room-part = rw part (omega (arith, room-left, length-drop w lent))

  -- once it is written, the buffer answers the log but for what follows the line
  pub further : (last : List ℕ) (m : ℕ) → m ≡ length (answer_to line) → last ≡ at_front (answer_to line) (take (length out - w) (drop w out))
      → SoFar log lent (put_mid w (length out - w) out last) (w + m) after
  further last m e f =
      let answer = answer_to line in
      let none : drop (length out - w) (drop w out) ≡ [] = drop_of_length-le (drop w out) {i = length out - w} (simp length-drop (omega arith)) in
      let front : take w out ≡ done = ap (take w) far.4 ∙ take_at done (drop w lent) w (sym far.3) in
      let long : w + m ≡ length (done ++ answer) = omega (arith, far.3, e, length-append done answer) in
      let put : put_mid w (length out - w) out last ≡ (done ++ answer) ++ drop (w + m) lent =
      rw (f, part, none, front, append-nil, append_assoc, drop-drop, e) in
      let same : length (put_mid w (length out - w) out last) ≡ length lent =
      ap length put ∙ length-append (done ++ answer) (drop (w + m) lent) ∙ omega (arith, long, length-drop (w + m) lent, room-left, e) in (
        omega (arith, same, room-left, e),
        same,
        done ++ answer,
        long,
        put,
        append_assoc done answer (answer_of after) ∙ ap (λ (s : List ℕ). done ++ s) (sym (answer-first rest line after next)) ∙ far.5,
      )

-- where no lines are left the whole answer is written
pub all-answered : (log lent out : List ℕ) (w : ℕ) (rest : List ℕ) → SoFar log lent out w rest → lines_of rest ≡ []
    → (w ≡ length (answer_of log)) × (out ≡ at_front (answer_of log) lent)
all-answered log lent out w rest far over =
    let whole : far.2 ≡ answer_of log =
    sym (append-nil far.2) ∙ ap (λ (s : List ℕ). far.2 ++ s) (sym (answer-no-lines rest over)) ∙ far.5 in
    let long : w ≡ length (answer_of log) = far.3 ∙ ap length whole in
    (long, rw (sym whole, sym far.3) far.4)
