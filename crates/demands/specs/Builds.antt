-- Builds of a call machine: what it is to be the machine, and those that must be shut out. Assumes nothing.
use Rattle.std.specs.Prelude.{◌≡◌, ◌⊎◌, List, true, ℕ, ◌<◌, ◌≤◌, length}
use Rattle.frame.specs.Layout.{longest_line}
use Rattle.call.specs.Settings.{settings_good}
use Rattle.call.specs.declared.Settings.{Settings}
use Rattle.call.specs.declared.Input.{Input}
use Rattle.group_call.specs.Hearing.{Build}
use Rattle.stepping.specs.Answer.{Answer}
use Rattle.demands.specs.Machines.{Machine, group_machine}

-- a build of a call machine: for all settings, records, inputs and lent buffers an answer, and the buffer after it
pub record BuildOf (M : Machine) : Type 0 where
  -- the answer
  pub answer : Settings → M.Stored → Input → List ℕ → Answer M.Stored M.Timers
  -- the buffer
  pub after : Settings → M.Stored → Input → List ℕ → List ℕ

-- the machine with this build for its step; what its rows ask and give stays
abbrev pub built_as : (M : Machine) → BuildOf M → Machine
built_as M b =
    record {
      Stored = M.Stored;
      Timers = M.Timers;
      Timer = M.Timer;
      has = M.has;
      no_timer = M.no_timer;
      running = M.running;
      changes = M.changes;
      ran_out_by = M.ran_out_by;
      is_well_formed = M.is_well_formed;
      cleared = M.cleared;
      Clearing = M.Clearing;
      RefusedByRow = M.RefusedByRow;
      sent = M.sent;
      media = M.media;
      carried = M.carried;
      step = b.answer;
      buffer = b.after;
    }

-- it is the machine's step: the same answer and the same buffer, whatever comes in
abbrev pub SameAs : (M : Machine) → BuildOf M → Type 0
SameAs M b =
    (s : Settings) (p : M.Stored) (i : Input) (out : List ℕ) → (b.answer s p i out ≡ M.step s p i out) × (b.after s p i out ≡ M.buffer s p i out)

-- from some well-formed record, under good settings, it answers so to whatever comes in, with every buffer that has room for the longest line
abbrev pub SomewhereAlways : (M : Machine) → BuildOf M → (Answer M.Stored M.Timers → Type 0) → Type 0
SomewhereAlways M b So =
    (s : Settings) × (p : M.Stored) × (settings_good s ≡ true) × (M.is_well_formed s p ≡ true)
    × ((i : Input) (out : List ℕ) → longest_line ≤ length out → So (b.answer s p i out))

-- from some well-formed record it refuses everything
abbrev pub RefusesAll : (M : Machine) → BuildOf M → Type 0
RefusesAll M b = SomewhereAlways M b (λ answer. answer.number ≡ 0 → ⊥)

-- from some well-formed record it meets no row, whatever happens
abbrev pub DiscardsAll : (M : Machine) → BuildOf M → Type 0
DiscardsAll M b = SomewhereAlways M b (λ answer. answer.row ≡ 0)

-- a step of it that is not refused: under good settings, from a well-formed record, and with number 0
abbrev pub NotRefused : (M : Machine) → BuildOf M → Settings → M.Stored → Input → List ℕ → Type 0
NotRefused M b s p i out = (settings_good s ≡ true) × (M.is_well_formed s p ≡ true) × ((b.answer s p i out).number ≡ 0)

-- it obeys a first event and then stands still: some first input is not refused and meets a row, and whatever comes after it leaves the record as it is
abbrev pub StandsStill : (M : Machine) → BuildOf M → Type 0
StandsStill M b =
    (s : Settings) × (p : M.Stored) × (i : Input) × (out : List ℕ) × NotRefused M b s p i out × (1 ≤ (b.answer s p i out).row)
    × ((j : Input) (next : List ℕ) → let first = (b.answer s p i out).next in (b.answer s first j next).next ≡ first)

-- what is looked at is the same for all inputs that are not refused, where settings, record and buffer are the same
abbrev pub SameForInputs : (M : Machine) → BuildOf M → {A : Type 0} → (Settings → M.Stored → Input → List ℕ → A) → Type 0
SameForInputs M b look =
    (s : Settings) (p : M.Stored) (i j : Input) (out : List ℕ) → NotRefused M b s p i out → NotRefused M b s p j out → look s p i out ≡ look s p j out

-- and for all records from which an input is not refused, where settings, input and buffer are the same
abbrev pub SameForRecords : (M : Machine) → BuildOf M → {A : Type 0} → (Settings → M.Stored → Input → List ℕ → A) → Type 0
SameForRecords M b look =
    (s : Settings) (p q : M.Stored) (i : Input) (out : List ℕ) → NotRefused M b s p i out → NotRefused M b s q i out → look s p i out ≡ look s q i out

-- what is looked at never varies with the input, or never with the record
abbrev pub Unvarying : (M : Machine) → BuildOf M → {A : Type 0} → (Settings → M.Stored → Input → List ℕ → A) → Type 0
Unvarying M b look = SameForInputs M b look ⊎ SameForRecords M b look

-- its reply never varies: in the row, in the next record, or in what the buffer then holds; what it refuses does not count
abbrev pub NeverVaries : (M : Machine) → BuildOf M → Type 0
NeverVaries M b =
    Unvarying M b (λ s p i out. (b.answer s p i out).row) ⊎ (Unvarying M b (λ s p i out. (b.answer s p i out).next) ⊎ Unvarying M b b.after)

-- it tells a row above the last
abbrev pub MakesUpRow : (M : Machine) → ℕ → BuildOf M → Type 0
MakesUpRow M last b = (s : Settings) × (p : M.Stored) × (i : Input) × (out : List ℕ) × (last < (b.answer s p i out).row)

-- ---- of the group call machine

-- a build of the machine is one of its step
abbrev pub as_step : BuildOf group_machine → Build
as_step b s g i out = (b.answer s g i out, b.after s g i out)
