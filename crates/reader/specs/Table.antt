-- Digits told apart by a table of all bytes. Assumes nothing.
use Rattle.std.specs.Prelude.{ℕ, zero, suc, ◌+◌, ◌<◌, ◌≡◌, List, Bool, true, ◌&&◌, cond, get_or}
use Rattle.frame.specs.Digits.{is_digit, value_of}

-- what the table has for a byte: its value as a digit, and 16 more where it is none
abbrev pub entry_of : ℕ → ℕ
entry_of x = cond (is_digit x) (value_of x) (16 + value_of x)

-- the table's rule: at the place of each byte stands the entry for it
abbrev pub Entries : List ℕ → Type 0
Entries table = (x : ℕ) → x < 256 → get_or table x 0 ≡ entry_of x

-- each of the n bytes from place `at` on is a digit
abbrev pub digits_from : ℕ → List ℕ → ℕ → Bool
digits_from zero l at = true
digits_from (suc n) l at = digits_from n l at && is_digit (get_or l (at + n) 0)
