-- What `answer_log` gives without room and with room, and how much room always suffices. Assumes nothing.
use mathlib.Core.Path.{◌≡◌, refl, ap, ◌∙◌}
use mathlib.Core.List.{List}
use mathlib.Core.Bool.{true, false}
use Prim.Native.Nat.{ℕ, ◌+◌, ◌*◌, ◌≤◌, zero-le}
use native.Mathlib.Omega.{arith}
use lib.Dec.{leb}
use lib.ListN.{length, drop, length-append}
use borrow.Author.Tests.{leb-true, leb-false, lt-ltb, le-ltb}
use Rattle.writer.specs.Lent.{at_front}
use Rattle.writer.specs.Lent.{Written}
use Rattle.log_lines.specs.Lines.{CutPlace}
use Rattle.log_lines.proofs.Lines.{cut-place}
use Rattle.log_answer.specs.Answer.{answer_of, answer_number, answer_told, answer_buffer}
use Rattle.log_answer.proofs.LineByLine.{answer-within}

-- what is told, what the buffer holds, and that it can be cut behind so many bytes
abbrev pub Gives : List ℕ → List ℕ → Written → List ℕ → Type 0
Gives log lent result out = (result ≡ answer_told log lent) × ((out ≡ answer_buffer log lent) × CutPlace result.length out)

-- without room the number is 6, and the buffer is as it was lent
pub no_room : (log lent : List ℕ) → leb (length (answer_of log)) (length lent) ≡ false → Gives log lent (record { number = 6; length = 0 }) lent
unfolding answer_number answer_told answer_buffer
no_room log lent e =
    let short = lt-ltb (length lent) (length (answer_of log)) (leb-false (length (answer_of log)) (length lent) e) in
    (rw short, (rw short, (zero-le, refl)))

-- with room the answer stands at the front
pub room : (log lent out : List ℕ) (n : ℕ) → leb (length (answer_of log)) (length lent) ≡ true → n ≡ length (answer_of log) → out ≡ at_front (answer_of log) lent
    → Gives log lent (record { number = 0; length = n }) out
unfolding answer_number answer_told answer_buffer
room log lent out n e long wrote =
    let enough = le-ltb (length lent) (length (answer_of log)) (leb-true (length (answer_of log)) (length lent) e) in
    let same : length out ≡ length (answer_of log) + length (drop (length (answer_of log)) lent) = ap length wrote ∙ length-append (answer_of log) (drop (length (answer_of log)) lent) in
    (rw (enough, long), (rw enough wrote, cut-place n out (omega (arith, same))))

-- three times the log's bytes are room for whatever answer
pub answer-fits : (log out : List ℕ) → 3 * length log ≤ length out → answer_number log out ≡ 0
unfolding answer_number
answer-fits log out h = let enough = le-ltb (length out) (length (answer_of log)) (omega (arith, answer-within log)) in rw enough
