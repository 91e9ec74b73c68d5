-- Media, which stands beside a message whose kind carries it: today a number of four bytes. Assumes nothing.
use Rattle.std.specs.Prelude.{ℕ, List, [], ◌∷◌, Bool, eqb}
use Rattle.frame.specs.Digits.{four, digit_count, in_hex, number_at}
use Rattle.frame.specs.Range.{never_zero}
use Rattle.frame.specs.declared.Media.{Media}

-- no media, what a kind without media has in its place
abbrev pub no_media : Media
no_media = record { number = 0 }

-- whether there is none
abbrev pub media_none : Media → Bool
media_none media = eqb media.number 0

-- its range: never 0
abbrev pub media_good : Media → Bool
media_good media = never_zero four media.number

-- its values in a line: today one
abbrev pub media_values : Media → List ℕ
media_values media = media.number ∷ []

-- how many digits it has
abbrev pub media_digits : ℕ
media_digits = digit_count four

-- its digits
abbrev pub media_hex : Media → List ℕ
media_hex media = in_hex four media.number

-- the media whose digits stand in l from place `at` on
abbrev pub media_from : List ℕ → ℕ → Media
media_from l at = record { number = number_at four l at }
