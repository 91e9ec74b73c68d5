-- How few digits a line can have. Assumes nothing.
use Prim.Native.Nat.{◌≤◌}
use lib.Dec.{lit≤}
use Rattle.frame.specs.Kind.{kind_number}
use Rattle.frame.specs.Layout.{digits_of}
use Rattle.frame.specs.declared.kind.Kind.{Kind}
use Rattle.frame.specs.declared.kind.Kind.TheVariants.{SetupRequest, Ringing, Accept, Reject, Release, ReleaseAck, AcceptAck, Announcement, GroupAccept}

-- no kind's line has fewer digits than the kind and a private call
pub shortest : (kind : Kind) → 22 ≤ digits_of (kind_number kind)
unfolding digits_of
shortest SetupRequest = lit≤ tt
shortest Ringing = lit≤ tt
shortest Accept = lit≤ tt
shortest Reject = lit≤ tt
shortest Release = lit≤ tt
shortest ReleaseAck = lit≤ tt
shortest AcceptAck = lit≤ tt
shortest Announcement = lit≤ tt
shortest GroupAccept = lit≤ tt
