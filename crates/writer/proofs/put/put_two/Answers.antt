-- The high half, then the low half. Assumes nothing.
use Rattle.frame.specs.Digits.{one}
use Rattle.writer.proofs.Stores.{sets-twice}
use Rattle.writer.proofs.put.put_two.Goals as goal

pub returns : goal.returns
returns c = rw (c.put_one-2.ensures, c.put_one.ensures, sets-twice one)
