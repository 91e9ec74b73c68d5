-- A number of four bytes is not 0 exactly where one of its two halves is not.
use Rattle.std.proofs.Common.{◌∙◌, ap₂, ◌||◌}
use Rattle.frame.specs.Digits.{two}
use Rattle.reader.proofs.Judged.{never-zero-twice}
use Rattle.reader.proofs.digit_line.DigitLine.four_fits.Goals as goal

pub returns : goal.returns
returns c =
    ap₂ ◌||◌ c.two_fits.ensures c.two_fits-2.ensures ∙ never-zero-twice two c.args.self.now.bytes.now c.args.at
