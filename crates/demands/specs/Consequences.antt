-- What follows where every step gives what the numbered rows say: the rows there are, no standstill, and answers that vary. Assumes nothing.
use Rattle.std.specs.Prelude.{◌≡◌, List, [], ◌∷◌, true, ℕ, ◌≤◌, length}
use Rattle.frame.specs.Layout.{longest_line}
use Rattle.call.specs.Settings.{settings_good}
use Rattle.call.specs.declared.Settings.{Settings}
use Rattle.call.specs.declared.Input.{Input}
use Rattle.demands.specs.Machines.{Machine}

-- ---- the rows there are

-- R29 is the last of the private rows
abbrev pub last_private_row : ℕ
last_private_row = 29

-- G11 is the last of the group rows
abbrev pub last_group_row : ℕ
last_group_row = 11

-- no step tells a row above the last of the list; this shuts out a build with a row of its own
abbrev pub KnownRows : Machine → ℕ → Type 0
KnownRows M last = (s : Settings) (p : M.Stored) (i : Input) (out : List ℕ) → (M.step s p i out).row ≤ last

-- there is a step that tells this row, with number 0, from good settings and a well-formed record
abbrev pub RowTold : Machine → ℕ → Type 0
RowTold M row =
    (s : Settings) × (p : M.Stored) × (i : Input) × (out : List ℕ) × (settings_good s ≡ true) × (M.is_well_formed s p ≡ true)
    × ((M.step s p i out).number ≡ 0) × ((M.step s p i out).row ≡ row)

-- every row of the list is told by some step; this shuts out a build that leaves a row out
abbrev pub EveryRowTold : Machine → ℕ → Type 0
EveryRowTold M last = (row : ℕ) → 1 ≤ row → row ≤ last → RowTold M row

-- ---- no standstill

-- an input is heeded: with every buffer that has room for the longest line it is not refused, it meets a row, and the state changes
abbrev pub IsHeeded : (M : Machine) → Settings → M.Stored → Input → Type 0
IsHeeded M s p i =
    (out : List ℕ) → longest_line ≤ length out → let result = M.step s p i out in
    (result.number ≡ 0) × (1 ≤ result.row) × (M.changes p result.next ≡ true)

-- from good settings and every well-formed record some input is heeded; this shuts out a build that discards every event, or refuses every one
abbrev pub Heeds : Machine → Type 0
Heeds M = (s : Settings) (p : M.Stored) → settings_good s ≡ true → M.is_well_formed s p ≡ true → (i : Input) × IsHeeded M s p i

-- the record after the steps of some inputs, each with its lent buffer
abbrev pub record_after : (M : Machine) → Settings → M.Stored → List (Input × List ℕ) → M.Stored
record_after M s p [] = p
record_after M s p (x ∷ inputs) = record_after M s (M.step s p x.0 x.1).next inputs

-- after any steps, refused or not, some input is heeded; this shuts out a build that heeds its first events and nothing after them
abbrev pub NeverStill : Machine → Type 0
NeverStill M =
    (s : Settings) (p : M.Stored) (inputs : List (Input × List ℕ)) → settings_good s ≡ true → M.is_well_formed s p ≡ true
    → (i : Input) × IsHeeded M s (record_after M s p inputs) i

-- ---- answers that vary

-- two steps with one buffer, neither refused, differ in the row, in the next record, and in what the buffer then holds
abbrev pub Differ : (M : Machine) → Settings → List ℕ → M.Stored → Input → M.Stored → Input → Type 0
Differ M s out p i q j =
    ((M.step s p i out).number ≡ 0) × ((M.step s q j out).number ≡ 0) × ((M.step s p i out).row ≡ (M.step s q j out).row → ⊥)
    × ((M.step s p i out).next ≡ (M.step s q j out).next → ⊥) × (M.buffer s p i out ≡ M.buffer s q j out → ⊥)

-- from one record, under the same settings, two inputs get answers that differ; this shuts out a build whose reply never varies
abbrev pub VariesByInput : Machine → Type 0
VariesByInput M = (s : Settings) × (out : List ℕ) × (p : M.Stored) × (i : Input) × (j : Input) × Differ M s out p i p j

-- from two records, under the same settings, one input gets answers that differ; this shuts out a build that looks at the event alone
abbrev pub VariesByRecord : Machine → Type 0
VariesByRecord M = (s : Settings) × (out : List ℕ) × (p : M.Stored) × (q : M.Stored) × (i : Input) × Differ M s out p i q i

-- answers vary with the input, and with the record
abbrev pub Varies : Machine → Type 0
Varies M = VariesByInput M × VariesByRecord M
