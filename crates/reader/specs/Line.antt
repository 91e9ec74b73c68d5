-- What a line reads as, and the numbers 1 to 5 of a line that is refused. Assumes nothing.
use Rattle.std.specs.Prelude.{ℕ, ◌-◌, List, [], ◌∷◌, ◌++◌, ◌≡◌, Bool, true, not, ◌||◌, cond, get_or, length, take, ltb, eqb, Result, Ok, Err}
use Rattle.frame.specs.Number.{first_given}
use Rattle.frame.specs.Digits.{all_digits, one, number_at, numbers_at}
use Rattle.frame.specs.Range.{within}
use Rattle.frame.specs.Refusal.{refusal_number}
use Rattle.frame.specs.Media.{no_media, media_values, media_from}
use Rattle.frame.specs.Frame.{kind_of, carries, in_range}
use Rattle.frame.specs.Layout.{front, back, media_place, back_place, digits_of, front_of, back_of}
use Rattle.frame.specs.declared.Media.{Media}
use Rattle.frame.specs.declared.Parties.{Parties}
use Rattle.frame.specs.declared.Setup.{Setup}
use Rattle.frame.specs.declared.GroupCall.{GroupCall}
use Rattle.frame.specs.declared.Acceptance.{Acceptance}
use Rattle.frame.specs.declared.Message.{Message}
use Rattle.frame.specs.declared.Message.TheVariants.{SetupRequest, Ringing, Accept, Reject, Release, ReleaseAck, AcceptAck, Announcement, GroupAccept}
use Rattle.frame.specs.declared.Frame.{Frame}
use Rattle.frame.specs.declared.refusal.Refusal.{Refusal}

-- ---- the frame whose digits a line holds

-- a private call from the numbers of a front
abbrev pub parties_of : List ℕ → Parties
parties_of f = record { identifier = get_or f 1 0; caller = get_or f 2 0; callee = get_or f 3 0 }

-- a setup from the numbers of a front and a back
abbrev pub setup_of : List ℕ → List ℕ → Setup
setup_of f b = record { commencement = get_or f 4 0; call_type = get_or f 5 0; pck_id = get_or b 0 0 }

-- a group call from the numbers of a front and a back
abbrev pub group_call_of : List ℕ → List ℕ → GroupCall
group_call_of f b =
    record {
      identifier = get_or f 1 0;
      group = get_or f 2 0;
      call_type = get_or f 3 0;
      refresh = get_or f 4 0;
      originator = get_or b 0 0;
      start = get_or b 1 0;
      last_change = get_or b 2 0;
      last_changer = get_or b 3 0;
    }

-- an acceptance from the numbers of a front
abbrev pub acceptance_of : List ℕ → Acceptance
acceptance_of f = record { identifier = get_or f 1 0; sender = get_or f 2 0; call_type = get_or f 3 0; group = get_or f 4 0 }

-- a private call, from the digits of a line
abbrev pub parties_at : List ℕ → Parties
parties_at l = parties_of (numbers_at (front 2) l 0)

-- a setup, its back from place `at` on
abbrev pub setup_at : List ℕ → ℕ → Setup
setup_at l at = setup_of (numbers_at (front 1) l 0) (numbers_at (back 1) l at)

-- a group call, its back from place `at` on
abbrev pub group_call_at : List ℕ → ℕ → GroupCall
group_call_at l at = group_call_of (numbers_at (front 8) l 0) (numbers_at (back 8) l at)

-- an acceptance
abbrev pub acceptance_at : List ℕ → Acceptance
acceptance_at l = acceptance_of (numbers_at (front 9) l 0)

-- the message of a kind from 1 to 9 with these numbers
abbrev pub message_of : ℕ → List ℕ → List ℕ → Message
message_of kind f b =
    cond (eqb kind 1) (SetupRequest (parties_of f) (setup_of f b))
    (cond (eqb kind 2) (Ringing (parties_of f))
    (cond (eqb kind 3) (Accept (parties_of f))
    (cond (eqb kind 4) (Reject (parties_of f) (get_or f 4 0))
    (cond (eqb kind 5) (Release (parties_of f))
    (cond (eqb kind 6) (ReleaseAck (parties_of f))
    (cond (eqb kind 7) (AcceptAck (parties_of f))
    (cond (eqb kind 8) (Announcement (group_call_of f b) (get_or b 4 0))
    (GroupAccept (acceptance_of f)))))))))

-- the message whose digits stand in l
unfoldable pub message_at : ℕ → List ℕ → Message
message_at kind l = message_of kind (numbers_at (front kind) l 0) (numbers_at (back kind) l (back_place kind))

-- the media whose digits stand in l, none where the kind carries none
unfoldable pub media_at : ℕ → List ℕ → Media
media_at kind l = cond (carries kind) (media_from l (media_place kind)) no_media

-- ---- the numbers 1 to 5

-- how many bytes stand before the last
abbrev pub count : List ℕ → ℕ
count l = length l - 1

-- the kind stands in the first two digits
abbrev pub kind_at : List ℕ → ℕ
kind_at l = number_at one l 0

-- 1: there are no bytes, or they do not end in 0A
abbrev pub unended : List ℕ → Bool
unended l = eqb (length l) 0 || not (eqb (get_or l (count l) 0) 0x0a)

-- every byte before the last is a digit
abbrev pub Digital : List ℕ → Type 0
Digital l = all_digits (take (count l) l) ≡ true

-- 2: ahead of the line end stands something else than a digit
abbrev pub undigital : List ℕ → Bool
undigital l = not (all_digits (take (count l) l))

-- 3: there is no whole kind, or it is none of the nine
abbrev pub unkind : List ℕ → Bool
unkind l = ltb (count l) 2 || not (within 1 (kind_at l) 9)

-- 4: too few or too many digits for the kind
abbrev pub misfit : List ℕ → Bool
misfit l = not (eqb (count l) (digits_of (kind_at l)))

-- 5: a field has a value that it may not have
abbrev pub unranged : List ℕ → Bool
unranged l = not (in_range (message_at (kind_at l) l) (media_at (kind_at l) l))

-- the tests of a line, in their order
abbrev pub line_tests : List ℕ → List (ℕ × Bool)
line_tests l = (1, unended l) ∷ (2, undigital l) ∷ (3, unkind l) ∷ (4, misfit l) ∷ (5, unranged l) ∷ []

-- the number of a line: the first of 1 to 5 that is given, or 0
unfoldable pub refusal_of : List ℕ → ℕ
refusal_of l = first_given (line_tests l)

-- ---- the reader's answer

-- what a line reads as: a message, or the number that refuses it
pub data Read : Type 0 where
  Readable : Message → Read
  Refused : ℕ → Read

-- the reader's answer, with the media beside it; none where the kind carries none and where the line is refused
pub record Reading : Type 0 where
  pub read : Read
  pub media : Media

-- the number of each answer: 0 with a message, else the one that it names
abbrev pub number_of : Read → ℕ
number_of (Readable m) = 0
number_of (Refused n) = n

-- the values of a frame in the order of its line: the kind, the fields ahead of the media, the media where the kind carries media, the fields behind it
abbrev pub frame_values : Message → Media → List ℕ
frame_values m media = front_of m ++ (cond (carries (kind_of m)) (media_values media) [] ++ back_of m)

-- the values of a message and its media, none where it is refused
abbrev pub read_values : Read → Media → List ℕ
read_values (Readable m) media = frame_values m media
read_values (Refused n) media = []

-- the values of each answer
abbrev pub values_of : Reading → List ℕ
values_of r = read_values r.read r.media

-- a message with its media
abbrev pub reading : Message → Media → Reading
reading m media = record { read = Readable m; media = media }

-- a number, and no media
abbrev pub refusal : ℕ → Reading
refusal n = record { read = Refused n; media = no_media }

-- what the reader's answer says: the frame, or the number of the refusal
abbrev pub reading_of : Result Frame Refusal → Reading
reading_of (Ok frame) = reading frame.message frame.media
reading_of (Err reason) = refusal (refusal_number reason)

-- what a line reads as: its frame where its number is 0, else the number
unfoldable pub read_line : List ℕ → Reading
read_line l =
    cond (eqb (refusal_of l) 0) (reading (message_at (kind_at l) l) (media_at (kind_at l) l)) (refusal (refusal_of l))

-- the number of a line, for whoever has no settings
abbrev pub line_number : List ℕ → ℕ
line_number l = refusal_of l

-- the message of a line or the number that refuses it, for whoever has no settings
abbrev pub line_message : List ℕ → Read
line_message l = (read_line l).read

-- the media of a line, none where it is refused or its kind carries none, for whoever has no settings
abbrev pub line_media : List ℕ → Media
line_media l = (read_line l).media
