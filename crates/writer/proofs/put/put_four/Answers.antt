-- The high half, then the low half. Assumes nothing.
use Rattle.frame.specs.Digits.{two}
use Rattle.writer.proofs.Stores.{sets-twice}
use Rattle.writer.proofs.put.put_four.Goals as goal

pub returns : goal.returns
returns c = rw (c.put_two-2.ensures, c.put_two.ensures, sets-twice two)
