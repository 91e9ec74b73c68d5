-- The line of a frame: a kind's layout, the fields in its order, their digits and 0A. Assumes nothing.
use Rattle.std.specs.Prelude.{ℕ, ◌+◌, List, [], ◌∷◌, ◌++◌, cond, eqb}
use Rattle.frame.specs.Digits.{Width, one, two, four, total, all_in_hex}
use Rattle.frame.specs.Media.{media_digits, media_hex}
use Rattle.frame.specs.Frame.{kind_of, carries}
use Rattle.frame.specs.declared.Media.{Media}
use Rattle.frame.specs.declared.Parties.{Parties}
use Rattle.frame.specs.declared.GroupCall.{GroupCall}
use Rattle.frame.specs.declared.Acceptance.{Acceptance}
use Rattle.frame.specs.declared.Message.{Message}
use Rattle.frame.specs.declared.Message.TheVariants.{SetupRequest, Ringing, Accept, Reject, Release, ReleaseAck, AcceptAck, Announcement, GroupAccept}

-- ---- a kind's layout: its front, then its media, then its back

-- 01: caller, callee, commencement, type; media; PCK-ID
-- 02, 05, 06, 07: caller, callee
-- 03: caller, callee; media
-- 04: caller, callee, reason
-- 08: group, type, refresh; media; originator, start, last change, last changer, confirm
-- 09: sender, type, group

-- the widths before the media: in every kind the kind, one byte, and the identifier, two bytes, come first
abbrev pub front : ℕ → List Width
front kind =
    one ∷ two
    ∷ cond (eqb kind 1) (four ∷ four ∷ one ∷ one ∷ [])
    (cond (eqb kind 4) (four ∷ four ∷ one ∷ [])
    (cond (eqb kind 8) (four ∷ one ∷ two ∷ [])
    (cond (eqb kind 9) (four ∷ one ∷ four ∷ []) (four ∷ four ∷ []))))

-- the widths after the media
abbrev pub back : ℕ → List Width
back kind = cond (eqb kind 1) (four ∷ []) (cond (eqb kind 8) (four ∷ four ∷ four ∷ four ∷ one ∷ []) [])

-- the place where the media's digits start
abbrev pub media_place : ℕ → ℕ
media_place kind = total (front kind)

-- how many digits the media has, where the kind carries it
abbrev pub media_count : ℕ → ℕ
media_count kind = cond (carries kind) media_digits 0

-- the place where the back's digits start
abbrev pub back_place : ℕ → ℕ
back_place kind = media_place kind + media_count kind

-- how many digits a line of the kind has
unfoldable pub digits_of : ℕ → ℕ
digits_of kind = back_place kind + total (back kind)

-- ---- the fields in the layout's order

-- a private call's fields, then what follows them
abbrev pub parties_then : Parties → List ℕ → List ℕ
parties_then p rest = p.identifier ∷ p.caller ∷ p.callee ∷ rest

-- a group call's fields before the media
abbrev pub group_front : GroupCall → List ℕ
group_front c = c.identifier ∷ c.group ∷ c.call_type ∷ c.refresh ∷ []

-- a group call's fields after the media, and the confirm
abbrev pub group_back : GroupCall → ℕ → List ℕ
group_back c confirm = c.originator ∷ c.start ∷ c.last_change ∷ c.last_changer ∷ confirm ∷ []

-- a group call accept's fields
abbrev pub acceptance_then : Acceptance → List ℕ
acceptance_then a = a.identifier ∷ a.sender ∷ a.call_type ∷ a.group ∷ []

-- the fields before the media, behind the kind
abbrev pub front_fields : Message → List ℕ
front_fields (SetupRequest p s) = parties_then p (s.commencement ∷ s.call_type ∷ [])
front_fields (Ringing p) = parties_then p []
front_fields (Accept p) = parties_then p []
front_fields (Reject p reason) = parties_then p (reason ∷ [])
front_fields (Release p) = parties_then p []
front_fields (ReleaseAck p) = parties_then p []
front_fields (AcceptAck p) = parties_then p []
front_fields (Announcement c confirm) = group_front c
front_fields (GroupAccept a) = acceptance_then a

-- the kind and the fields before the media
abbrev pub front_of : Message → List ℕ
front_of m = kind_of m ∷ front_fields m

-- the fields after the media
abbrev pub back_of : Message → List ℕ
back_of (SetupRequest p s) = s.pck_id ∷ []
back_of (Ringing p) = []
back_of (Accept p) = []
back_of (Reject p reason) = []
back_of (Release p) = []
back_of (ReleaseAck p) = []
back_of (AcceptAck p) = []
back_of (Announcement c confirm) = group_back c confirm
back_of (GroupAccept a) = []

-- ---- the line

-- the media's digits, where the kind carries media
abbrev pub media_in_hex : ℕ → Media → List ℕ
media_in_hex kind media = cond (carries kind) (media_hex media) []

-- the digits of a frame
unfoldable pub frame_in_hex : Message → Media → List ℕ
frame_in_hex m media =
    all_in_hex (front (kind_of m)) (front_of m)
    ++ (media_in_hex (kind_of m) media ++ all_in_hex (back (kind_of m)) (back_of m))

-- the line of a frame: its digits, then byte 0A
unfoldable pub line_of : Message → Media → List ℕ
line_of m media = frame_in_hex m media ++ 0x0a ∷ []

-- the length of the longest line, that of an announcement
abbrev pub longest_line : ℕ
longest_line = 63
