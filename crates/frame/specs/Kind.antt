-- The kinds of message by their numbers. Assumes nothing.
use Rattle.std.specs.Prelude.{ℕ, ◌≡◌, false, Result, MatchResult}
use Rattle.frame.specs.Range.{within}
use Rattle.frame.specs.declared.kind.Kind.{Kind}
use Rattle.frame.specs.declared.kind.Kind.TheVariants.{SetupRequest, Ringing, Accept, Reject, Release, ReleaseAck, AcceptAck, Announcement, GroupAccept}
use Rattle.frame.specs.declared.refusal.Refusal.{Refusal}
use Rattle.frame.specs.declared.refusal.Refusal.TheVariants.{NoKind}

-- the number that begins a line of the kind
abbrev pub kind_number : Kind → ℕ
kind_number SetupRequest = 1
kind_number Ringing = 2
kind_number Accept = 3
kind_number Reject = 4
kind_number Release = 5
kind_number ReleaseAck = 6
kind_number AcceptAck = 7
kind_number Announcement = 8
kind_number GroupAccept = 9

-- a number names a kind: the one with this number; where it is none of 1 to 9, there is none
abbrev pub NamesKind : ℕ → Result Kind Refusal → Type 0
NamesKind number answer =
    MatchResult answer (λ kind. kind_number kind ≡ number) (λ refusal. (within 1 number 9 ≡ false) × (refusal ≡ NoKind))
