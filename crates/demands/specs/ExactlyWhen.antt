-- The numbers handed back, each with its condition in the order of the tests. Assumes nothing.
use Rattle.std.specs.Prelude.{◌≡◌, ◌⊎◌, ◌↔◌, List, [], ◌∷◌, false, ℕ, suc, ◌*◌, ◌-◌, ◌<◌, ◌≤◌, length, get_or, None, Some, Option}
use Rattle.frame.specs.Frame.{in_range}
use Rattle.frame.specs.Layout.{line_of}
use Rattle.frame.specs.declared.Media.{Media}
use Rattle.frame.specs.declared.Message.{Message}
use Rattle.reader.specs.Line.{message_at, media_at, kind_at, line_number}
use Rattle.log_answer.specs.Answer.{answer_of}
use Rattle.call.specs.Settings.{settings_good}
use Rattle.call.specs.declared.Settings.{Settings}
use Rattle.call.specs.declared.Input.{Input}
use Rattle.stepping.specs.Numbers.{heard_good, arguments_good}
use Rattle.chooser.specs.NoChoice.{NoChoice}
use Rattle.demands.specs.Totals.{totals}
use Rattle.demands.specs.Machines.{Machine, line_to_send}

-- ---- what it is for a number to be given exactly when

-- Each number of a table is given exactly when its condition holds and none before it, and 0 exactly when none does.
unfoldable pub ExactlyWhen : ℕ → Type 0 → List (ℕ × Type 0) → Type 0
ExactlyWhen given before [] = (given ≡ 0) ↔ before
ExactlyWhen given before (row ∷ rows) =
    ((given ≡ row.0) ↔ (before × row.1)) × ExactlyWhen given (before × (row.1 → ⊥)) rows

-- a number of a table, or 0
unfoldable pub Among : ℕ → List (ℕ × Type 0) → Type 0
Among n [] = n ≡ 0
Among n (row ∷ rows) = (n ≡ row.0) ⊎ Among n rows

-- what is asked of a number and its table
pub record GivenExactlyWhen (given : ℕ) (table : List (ℕ × Type 0)) : Type 0 where
  -- whatever comes in gets an answer: a number of the table, or 0
  pub answered : Among given table
  -- each number has its condition and its place in the order
  pub exactly : ExactlyWhen given (Unit {0}) table

-- ---- a line

-- the digits 0 to 9 and a to f
abbrev pub IsDigit : ℕ → Type 0
IsDigit x = ((48 ≤ x) × (x ≤ 57)) ⊎ ((97 ≤ x) × (x ≤ 102))

-- 1: there are no bytes, or they do not end in 0A
abbrev pub Unended : List ℕ → Type 0
Unended l = (l ≡ []) ⊎ (get_or l (length l - 1) 0 ≡ 0x0a → ⊥)

-- 2: ahead of the line end stands something else than a digit
abbrev pub Undigital : List ℕ → Type 0
Undigital l = (i : ℕ) × (suc i < length l) × (IsDigit (get_or l i 0) → ⊥)

-- 3: there is no whole kind, or it is none of the nine
abbrev pub Unkind : List ℕ → Type 0
Unkind l = (length l - 1 < 2) ⊎ ((1 ≤ kind_at l) × (kind_at l ≤ 9) → ⊥)

-- 4: the digits are not two for each byte of the kind's total
abbrev pub Misfit : List ℕ → Type 0
Misfit l = length l - 1 ≡ 2 * get_or totals (kind_at l) 0 → ⊥

-- 5: a field has a value that it may not have
abbrev pub Unranged : List ℕ → Type 0
Unranged l = in_range (message_at (kind_at l) l) (media_at (kind_at l) l) ≡ false

-- the reader's table
abbrev pub line_table : List ℕ → List (ℕ × Type 0)
line_table l = (1, Unended l) ∷ (2, Undigital l) ∷ (3, Unkind l) ∷ (4, Misfit l) ∷ (5, Unranged l) ∷ []

-- ---- a frame to write: 5, a field has a value that it may not have; 6, the buffer has no room for the line

-- the writer's table
abbrev pub write_table : Message → Media → List ℕ → List (ℕ × Type 0)
write_table m media out = (5, in_range m media ≡ false) ∷ (6, length out < length (line_of m media)) ∷ []

-- the table of what a step sends: the writer's where it is a message, and nothing is refused where it is nothing
abbrev pub send_table : Option Message → Media → List ℕ → List (ℕ × Type 0)
send_table None media out = []
send_table (Some m) media out = write_table m media out

-- ---- a log to answer: 6, the buffer has no room for the answer

-- its table
abbrev pub answer_table : List ℕ → List ℕ → List (ℕ × Type 0)
answer_table log out = (6, length out < length (answer_of log)) ∷ []

-- ---- the chooser between two lines

-- 1 to 5: the first line has this number, or the first is readable and the second has it
abbrev pub LineRefused : ℕ → List ℕ → List ℕ → Type 0
LineRefused n first second = (line_number first ≡ n) ⊎ ((line_number first ≡ 0) × (line_number second ≡ n))

-- its table; 10: the lines do not announce two calls of one group with two identifiers
abbrev pub choice_table : List ℕ → List ℕ → List (ℕ × Type 0)
choice_table first second =
    (1, LineRefused 1 first second) ∷ (2, LineRefused 2 first second) ∷ (3, LineRefused 3 first second) ∷ (4, LineRefused 4 first second)
    ∷ (5, LineRefused 5 first second) ∷ (10, NoChoice first second) ∷ []

-- ---- a step of a call machine

-- 7: a setting is outside its range
abbrev pub SettingOut : Settings → Type 0
SettingOut s = settings_good s ≡ false

-- 9: the record is not well formed under the settings
abbrev pub Unformed : (M : Machine) → Settings → M.Stored → Type 0
Unformed M s p = M.is_well_formed s p ≡ false

-- 5: the event is a message, and a field of it is outside its range
abbrev pub FieldOut : Input → Type 0
FieldOut i = heard_good i.event i.media ≡ false

-- 8: the event is an action, and an argument of it is outside its range or the callee is own; a row may refuse with 8 too
abbrev pub ArgumentOut : Settings → Input → Type 0
ArgumentOut s i = arguments_good s i.event i.media ≡ false

-- 6: the buffer is shorter than the line that the row sends; a row that sends nothing has a line of no bytes, and no buffer is shorter than that
abbrev pub StepRoomless : (M : Machine) → Settings → M.Stored → Input → List ℕ → Type 0
StepRoomless M s p i out = length out < length (line_to_send M s p i)

-- its table
abbrev pub step_table : (M : Machine) → Settings → M.Stored → Input → List ℕ → List (ℕ × Type 0)
step_table M s p i out =
    (7, SettingOut s) ∷ (9, Unformed M s p) ∷ (5, FieldOut i) ∷ (8, ArgumentOut s i ⊎ M.RefusedByRow s p i)
    ∷ (6, StepRoomless M s p i out) ∷ []

-- each of its numbers is given exactly when
abbrev pub StepExactlyWhen : Machine → Type 0
StepExactlyWhen M =
    (s : Settings) (p : M.Stored) (i : Input) (out : List ℕ) → GivenExactlyWhen (M.step s p i out).number (step_table M s p i out)
