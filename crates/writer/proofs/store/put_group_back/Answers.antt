-- Each field at its place. Assumes nothing.
use Rattle.frame.proofs.Hex.{places}
use Rattle.writer.proofs.Stores.{sets-cons, sets-none}
use Rattle.writer.proofs.store.put_group_back.Goals as goal

pub returns : goal.returns
returns c = rw (c.put_one.ensures, c.put_four-4.ensures, c.put_four-3.ensures, c.put_four-2.ensures, c.put_four.ensures, sets-cons, sets-cons, sets-cons, sets-cons, sets-cons, sets-none, places c.args.at 8 8, places c.args.at 16 8, places c.args.at 24 8)
