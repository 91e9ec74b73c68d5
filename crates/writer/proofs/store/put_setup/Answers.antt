-- The parties, then each field at its place. Assumes nothing.
use Rattle.writer.proofs.Stores.{sets-cons, sets-none, sets-frame}
use Rattle.writer.proofs.store.put_setup.Goals as goal

pub returns : goal.returns
returns c = rw (c.put_four.ensures, c.put_media.ensures, c.put_one-2.ensures, c.put_one.ensures, c.put_parties.ensures, ← sets-frame) (simp (sets-cons, sets-none))
