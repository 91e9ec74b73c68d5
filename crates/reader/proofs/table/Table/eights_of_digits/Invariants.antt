-- What is left is eights, and all bytes are digits where what is left is.
use Rattle.std.proofs.Common.{◌%◌, ◌≡◌, length}
use Rattle.frame.specs.Digits.{all_digits}
use Rattle.reader.proofs.table.Table.eights_of_digits.Given as goal

abbrev pub invariant-loop-eight : goal.invariant-loop-eight
invariant-loop-eight l =
    (l.eight-iterator.size ≡ 8)
    × (length l.eight-iterator.rest.now % 8 ≡ 0)
    × (all_digits l.eight-iterator.rest.now ≡ all_digits l.fn.eights)
