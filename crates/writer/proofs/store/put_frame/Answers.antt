-- The parts of each kind, one after the other. Assumes nothing.
use Rattle.writer.proofs.Stores.{sets-cons, sets-none, sets-frame}
use Rattle.writer.proofs.store.put_frame.Goals as goal

pub returns-in-Ringing : goal.returns-in-Ringing
returns-in-Ringing c = rw (c.put_parties-in-Ringing.ensures, c.in-Ringing.is, ← sets-frame) (simp sets-none)

pub returns-in-Accept : goal.returns-in-Accept
returns-in-Accept c = rw (c.put_media.ensures, c.put_parties.ensures, c.in-Accept.is, ← sets-frame) (simp sets-none)

pub returns-in-Reject : goal.returns-in-Reject
returns-in-Reject c = rw (c.put_one.ensures, c.put_parties-in-Reject.ensures, c.in-Reject.is, ← sets-frame) (simp (sets-cons, sets-none))

pub returns-in-Release : goal.returns-in-Release
returns-in-Release c = rw (c.put_parties-in-Release.ensures, c.in-Release.is, ← sets-frame) (simp sets-none)

pub returns-in-ReleaseAck : goal.returns-in-ReleaseAck
returns-in-ReleaseAck c = rw (c.put_parties-in-ReleaseAck.ensures, c.in-ReleaseAck.is, ← sets-frame) (simp sets-none)

pub returns-in-AcceptAck : goal.returns-in-AcceptAck
returns-in-AcceptAck c = rw (c.put_parties-in-AcceptAck.ensures, c.in-AcceptAck.is, ← sets-frame) (simp sets-none)

pub returns-in-GroupAccept : goal.returns-in-GroupAccept
returns-in-GroupAccept c = rw (c.put_acceptance.ensures, c.in-GroupAccept.is, ← sets-frame) (simp sets-none)
