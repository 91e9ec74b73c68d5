-- A refusal changes nothing, and what is not refused changes only what it says. Assumes nothing.
use Rattle.std.specs.Prelude.{◌≡◌, ◌↔◌, List, [], ℕ, length}
use Rattle.std.specs.Borrow.{Bor}
use Rattle.reader.specs.Line.{line_number, read_line, refusal}
use Rattle.writer.specs.Lent.{at_front}
use Rattle.writer.specs.Lent.{Written}
use Rattle.call.specs.declared.Settings.{Settings}
use Rattle.call.specs.declared.Input.{Input}
use Rattle.chooser.specs.Choice.{choice_of, choice_number, place_of}
use Rattle.demands.specs.Machines.{Machine, line_to_send}
use Rattle.stepping.specs.Answer.{Answer}

-- ---- a text written into a lent buffer

-- a number was told: then length 0 is told too, and every byte of the buffer is what it was
abbrev pub Kept : ℕ → List ℕ → List ℕ → Type 0
Kept told lent after = (told ≡ 0) × (after ≡ lent)

-- no number was told: then the text's length is, and the text stands at the front with the bytes behind it as they were
abbrev pub Done : List ℕ → ℕ → List ℕ → List ℕ → Type 0
Done text told lent after = (told ≡ length text) × (after ≡ at_front text lent)

-- writing a text into a lent buffer: a number that is not 0 changes nothing, and 0 writes the text and nothing else
abbrev pub NothingChanges : List ℕ → Written → List ℕ → List ℕ → Type 0
NothingChanges text result lent after =
    (((result.number ≡ 0) → ⊥) → Kept result.length lent after) × (result.number ≡ 0 → Done text result.length lent after)

-- ---- what is lent to be read

-- the reader: to a line with a number it answers that number, and neither message nor media
abbrev pub ReadNothingChanges : Type 0
ReadNothingChanges = (l : List ℕ) → (line_number l ≡ 0 → ⊥) → read_line l ≡ refusal (line_number l)

-- the chooser: where its question has a number, it hands back no bytes, where the first line begins
abbrev pub ChooseNothingChanges : Type 0
ChooseNothingChanges =
    (first second : Bor (List ℕ)) → (choice_number first.now second.now ≡ 0 → ⊥)
    → place_of (choice_of first.now second.now) first second ≡ (first.ref_ptr, [])

-- it chooses neither line exactly where its question has a number
abbrev pub ChoosesNone : Type 0
ChoosesNone = (first second : List ℕ) → (choice_of first second ≡ 0) ↔ (choice_number first second ≡ 0 → ⊥)

-- ---- a step of a call machine

-- nothing was done: the record is the stored one, there is no row, no timer to stop or to start and no line, and every byte of the buffer is what it was
abbrev pub StepKept : (M : Machine) → M.Stored → Answer M.Stored M.Timers → List ℕ → List ℕ → Type 0
StepKept M stored result lent after =
    (result.next ≡ stored) × (result.row ≡ 0) × (result.stop ≡ M.no_timer) × (result.start ≡ M.no_timer) × Kept result.length lent after

-- an answer, and the buffer after it: a number that is not 0 changes nothing, nor does row 0; and number 0 writes the line and nothing else
abbrev pub StepKeeps : (M : Machine) → Settings → M.Stored → Input → List ℕ → Answer M.Stored M.Timers → List ℕ → Type 0
StepKeeps M s p i lent answer after =
    (((answer.number ≡ 0) → ⊥) → StepKept M p answer lent after) × (answer.row ≡ 0 → StepKept M p answer lent after)
    × (answer.number ≡ 0 → Done (line_to_send M s p i) answer.length lent after)

-- so does every step
abbrev pub StepNothingChanges : Machine → Type 0
StepNothingChanges M =
    (s : Settings) (p : M.Stored) (i : Input) (out : List ℕ) → StepKeeps M s p i out (M.step s p i out) (M.buffer s p i out)
