-- Each field at its place. Assumes nothing.
use Rattle.writer.proofs.Stores.{sets-cons, sets-none}
use Rattle.writer.proofs.store.put_acceptance.Goals as goal

pub returns : goal.returns
returns c = rw (c.put_four-2.ensures, c.put_one.ensures, c.put_four.ensures, c.put_two.ensures, c.put_kind.ensures, sets-cons, sets-cons, sets-cons, sets-cons, sets-cons, sets-none)
