-- Media in digits: written and read again, and read and written again. Assumes nothing.
use mathlib.Core.Path.{◌≡◌, ap}
use mathlib.Core.List.{List, ◌++◌}
use mathlib.Core.Bool.{true}
use Prim.Native.Nat.{ℕ, ◌+◌, ◌<◌, ◌≤◌}
use lib.ListN.{length, take, drop, get_or}
use Rattle.frame.specs.Digits.{is_digit, all_digits, four}
use Rattle.frame.specs.Media.{media_good, media_digits, media_hex, media_from}
use Rattle.frame.specs.declared.Media.{Media}
use Rattle.reader.proofs.Hex.{never-zero-lt, hex-is-digits, number-of-hex, hex-of-number}

-- its digits are digits
pub media-is-digits : (media : Media) → media_good media ≡ true → all_digits (media_hex media) ≡ true
media-is-digits media g = hex-is-digits four media.number (never-zero-lt four media.number g)

-- written and read again
pub media-of-hex : (media : Media) (p r : List ℕ) (at : ℕ) → length p ≡ at → media_good media ≡ true → media_from (p ++ (media_hex media ++ r)) at ≡ media
media-of-hex media p r at e g = ap (λ (n : ℕ). record { number = n }) (number-of-hex four media.number p r at e (never-zero-lt four media.number g))

-- read and written again
pub hex-of-media : (l : List ℕ) (n at : ℕ) → ((i : ℕ) → i < n → is_digit (get_or l i 0) ≡ true) → n ≤ length l → at + media_digits ≤ n
    → media_hex (media_from l at) ≡ take media_digits (drop at l)
hex-of-media l n at h k f = hex-of-number four l n at h k f
