-- A frame as numbers, one a field, in the order of its line: kind, identifier, and what follows. Assumes nothing.
use Rattle.std.specs.Prelude.{ℕ, ◌+◌, ◌%◌, List, [], ◌∷◌, Bool, not, cond, get_or, length, Result}
use Rattle.frame.specs.Digits.{Width, one, twice, two, size}
use Rattle.frame.specs.Range.{within}
use Rattle.frame.specs.Kind.{NamesKind}
use Rattle.frame.specs.Media.{no_media}
use Rattle.frame.specs.Frame.{carries}
use Rattle.frame.specs.Layout.{front, back}
use Rattle.frame.specs.declared.kind.Kind.{Kind}
use Rattle.frame.specs.declared.refusal.Refusal.{Refusal}
use Rattle.frame.specs.declared.Media.{Media}
use Rattle.frame.specs.declared.Parties.{Parties}
use Rattle.frame.specs.declared.Setup.{Setup}
use Rattle.frame.specs.declared.GroupCall.{GroupCall}
use Rattle.frame.specs.declared.Acceptance.{Acceptance}
use Rattle.frame.specs.declared.Message.{Message}
use Rattle.reader.specs.Line.{parties_of, setup_of, group_call_of, acceptance_of, message_of, values_of, read_line}
use Rattle.writer.specs.Writing.{write_number, buffer_of}

-- ---- the values of a line

-- media as a value: its number
abbrev pub media_value : Media → ℕ
media_value media = media.number

-- the media of a value
abbrev pub media_with : ℕ → Media
media_with value = record { number = value }

-- the values of a line: those of what it reads as
unfoldable pub line_values : List ℕ → List ℕ
line_values l = values_of (read_line l)

-- ---- the frame of values

-- a value of four bytes, cut to the width of its field
abbrev pub cut : Width → ℕ → ℕ
cut one v = v % size one
cut (twice one) v = v % size two
cut (twice (twice w)) v = v

-- the values from a place on, one a width; what is not there is 0
abbrev pub values_at : List Width → List ℕ → ℕ → List ℕ
values_at [] values place = []
values_at (w ∷ ws) values place = cut w (get_or values place 0) ∷ values_at ws values (place + 1)

-- the kind is the first value
abbrev pub kind_in : List ℕ → ℕ
kind_in values = get_or values 0 0

-- the place of the media: it stands behind the front
abbrev pub media_index : ℕ → ℕ
media_index kind = length (front kind)

-- the place where the back begins
abbrev pub back_index : ℕ → ℕ
back_index kind = media_index kind + cond (carries kind) 1 0

-- a private call with these values
abbrev pub parties_in : List ℕ → Parties
parties_in values = parties_of (values_at (front 2) values 0)

-- what a setup request with these values says besides
abbrev pub setup_in : List ℕ → Setup
setup_in values = setup_of (values_at (front 1) values 0) (values_at (back 1) values (back_index 1))

-- a group call with these values
abbrev pub group_call_in : List ℕ → GroupCall
group_call_in values = group_call_of (values_at (front 8) values 0) (values_at (back 8) values (back_index 8))

-- an acceptance with these values
abbrev pub acceptance_in : List ℕ → Acceptance
acceptance_in values = acceptance_of (values_at (front 9) values 0)

-- the message of a kind with these values
abbrev pub message_in : ℕ → List ℕ → Message
message_in kind values = message_of kind (values_at (front kind) values 0) (values_at (back kind) values (back_index kind))

-- the media of a kind with these values
abbrev pub media_in : ℕ → List ℕ → Media
media_in kind values = cond (carries kind) (media_with (get_or values (media_index kind) 0)) no_media

-- ---- writing values

-- the first value is none of the nine kinds
abbrev pub no_kind : List ℕ → Bool
no_kind values = not (within 1 (kind_in values) 9)

-- the kind that they name, where they name one
abbrev pub IsKindOf : List ℕ → Result Kind Refusal → Type 0
IsKindOf values answer = NamesKind (kind_in values) answer

-- 3 where there is no kind, else the number of writing the frame: 0, 5 or 6
unfoldable pub values_number : List ℕ → List ℕ → ℕ
values_number values out =
    cond (no_kind values) 3 (write_number (message_in (kind_in values) values) (media_in (kind_in values) values) out)

-- the buffer with the frame's line at its front, or as it was
unfoldable pub values_buffer : List ℕ → List ℕ → List ℕ
values_buffer values out =
    cond (no_kind values) out (buffer_of (message_in (kind_in values) values) (media_in (kind_in values) values) out)
