-- Media in digits: how many it has. Assumes nothing.
use mathlib.Core.Path.{◌≡◌}
use lib.ListN.{length}
use Rattle.frame.specs.Digits.{four}
use Rattle.frame.specs.Media.{media_digits, media_hex}
use Rattle.frame.specs.declared.Media.{Media}
use Rattle.frame.proofs.Hex.{length-hex}

-- it has its digits
pub length-media-hex : (media : Media) → length (media_hex media) ≡ media_digits
length-media-hex media = length-hex four media.number
