-- A number of one byte is not 0 exactly where one of its two digits is not `0`.
use Rattle.std.proofs.Common.{◌+◌, ◌-◌, length, arith}
use Rattle.reader.proofs.Judged.{digit-in, never-zero-one}
use Rattle.reader.proofs.digit_line.DigitLine.one_fits.Goals as goal

pub returns : goal.returns
returns c =
    let l = c.args.self.now.bytes.now in
    let at = c.args.at in
    let digital = c.args.self.now.digital in
    never-zero-one l at
    (digit-in l (length l - 1) at digital (omega arith) (omega arith))
    (digit-in l (length l - 1) (at + 1) digital (omega arith) (omega arith))
