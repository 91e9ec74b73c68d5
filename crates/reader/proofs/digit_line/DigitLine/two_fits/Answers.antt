-- A number of two bytes is not 0 exactly where one of its two halves is not.
use Rattle.std.proofs.Common.{◌∙◌, ap₂, ◌||◌}
use Rattle.frame.specs.Digits.{one}
use Rattle.reader.proofs.Judged.{never-zero-twice}
use Rattle.reader.proofs.digit_line.DigitLine.two_fits.Goals as goal

pub returns : goal.returns
returns c =
    ap₂ ◌||◌ c.one_fits.ensures c.one_fits-2.ensures ∙ never-zero-twice one c.args.self.now.bytes.now c.args.at
