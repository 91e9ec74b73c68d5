-- Which of two announcement lines is chosen, and the number of the question. Assumes nothing.
use Rattle.std.specs.Prelude.{ℕ, List, [], ◌∷◌, Bool, false, not, cond, ◌&&◌, eqb, Option, Some, None}
use Rattle.std.specs.Borrow.{Bor}
use Rattle.frame.specs.Number.{first_given}
use Rattle.frame.specs.declared.GroupCall.{GroupCall}
use Rattle.frame.specs.declared.Message.{Message}
use Rattle.frame.specs.declared.Message.TheVariants.{SetupRequest, Ringing, Accept, Reject, Release, ReleaseAck, AcceptAck, Announcement, GroupAccept}
use Rattle.reader.specs.Line.{line_number, line_message}
use Rattle.chooser.specs.declared.Winner.{Winner}
use Rattle.chooser.specs.declared.Winner.TheVariants.{First, Second}
use Rattle.reader.specs.Line.{Read, Readable, Refused}
use Rattle.group_order.specs.Order.{is_better}

-- ---- what a line announces

-- an announcement, kind 08, announces its call; any other message nothing
abbrev pub announced_by : Message → Option GroupCall
announced_by (SetupRequest p s) = None
announced_by (Ringing p) = None
announced_by (Accept p) = None
announced_by (Reject p reason) = None
announced_by (Release p) = None
announced_by (ReleaseAck p) = None
announced_by (AcceptAck p) = None
announced_by (Announcement call confirm) = Some call
announced_by (GroupAccept a) = None

-- a line that is refused announces nothing
abbrev pub announced_in : Read → Option GroupCall
announced_in (Readable m) = announced_by m
announced_in (Refused n) = None

-- what a line announces
abbrev pub line_announced : List ℕ → Option GroupCall
line_announced l = announced_in (line_message l)

-- ---- what a choice asks of it

-- of a call: identifier, group, type and start; the rest does not count, and is 0
abbrev pub asked_of : GroupCall → GroupCall
asked_of c = record {
  identifier = c.identifier;
  group = c.group;
  call_type = c.call_type;
  refresh = 0;
  originator = 0;
  start = c.start;
  last_change = 0;
  last_changer = 0;
}

-- of what a line announces
abbrev pub asked_of_line : Option GroupCall → Option GroupCall
asked_of_line (Some c) = Some (asked_of c)
asked_of_line None = None

-- ---- whether there is a choice

-- two calls: their group is the same, and their identifiers differ
abbrev pub calls_choosable : GroupCall → GroupCall → Bool
calls_choosable a b = eqb a.group b.group && not (eqb a.identifier b.identifier)

-- two messages: both are announcements, and one can choose between their calls
abbrev pub choosable : Option GroupCall → Option GroupCall → Bool
choosable (Some a) (Some b) = calls_choosable a b
choosable (Some a) None = false
choosable None b = false

-- two lines: one can choose between their messages
abbrev pub lines_choosable : List ℕ → List ℕ → Bool
lines_choosable first second = choosable (line_announced first) (line_announced second)

-- ---- the choice: 1 is the first, 2 the second, 0 neither

-- of two calls the first where it is better, else the second
abbrev pub calls_choice : GroupCall → GroupCall → ℕ
calls_choice a b = cond (calls_choosable a b) (cond (is_better a b) 1 2) 0

-- of two messages the one whose call is chosen
abbrev pub choice_between : Option GroupCall → Option GroupCall → ℕ
choice_between (Some a) (Some b) = calls_choice a b
choice_between (Some a) None = 0
choice_between None b = 0

-- of two lines the one whose message is chosen
unfoldable pub choice_of : List ℕ → List ℕ → ℕ
choice_of first second = choice_between (line_announced first) (line_announced second)

-- the choice of a line as a number, 0 where neither is chosen
abbrev pub chosen_number : Option Winner → ℕ
chosen_number (Some First) = 1
chosen_number (Some Second) = 2
chosen_number None = 0

-- ---- the number of the question

-- the first line's number where it is not 0, else the second's where it is not 0, else 10 where one cannot choose, else 0
abbrev pub number_between : ℕ → ℕ → Bool → ℕ
number_between first second good = first_given ((first, not (eqb first 0)) ∷ (second, not (eqb second 0)) ∷ (10, not good) ∷ [])

-- of two lines
unfoldable pub choice_number : List ℕ → List ℕ → ℕ
choice_number first second = number_between (line_number first) (line_number second) (lines_choosable first second)

-- ---- the line handed back

-- where a lent line lies, and its bytes: two slices with one place are one slice, and no copy
abbrev pub place : Bor (List ℕ) → (ℕ × ℕ) × List ℕ
place r = (r.ref_ptr, r.now)

-- the first line itself, the second itself, or no bytes where the first begins
abbrev pub place_of : ℕ → Bor (List ℕ) → Bor (List ℕ) → (ℕ × ℕ) × List ℕ
place_of choice first second = cond (eqb choice 1) (place first) (cond (eqb choice 2) (place second) (first.ref_ptr, []))
