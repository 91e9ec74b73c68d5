-- Runs of digits, told by a table: the table's rule, entries that are joined, and runs that are added up. Assumes nothing.
use mathlib.Core.Path.{◌≡◌, refl, sym, ap, ap₂, ◌∙◌}
use mathlib.Core.List.{List, [], ◌∷◌}
use mathlib.Core.Bool.{Bool, true, false, ◌&&◌, and-true, and_assoc}
use Prim.Native.Nat.{ℕ, suc, ◌+◌, ◌-◌, ◌≤◌, suc-le-suc}
use native.Mathlib.Nat.{le_refl}
use native.Mathlib.Omega.{arith}
use lib.Bits.{bit_or, or_lt, or_add_and, and_le_l, and_le_r}
use lib.Dec.{ltb, leb}
use lib.ListN.{length, take, drop, get_or}
use borrow.Author.Tests.{leb-true, ltb-true, ltb-false, lt-ltb, le-ltb}
use lib.Seq.{take-add, take-length}
use Rattle.frame.specs.Digits.{is_digit, value_of, all_digits}
use Rattle.frame.proofs.Table.{follows, entry}
use Rattle.std.proofs.Common.{fold, IsTrue, EachIndex, slice_index, ◌↔◌}
use Rattle.reader.specs.Table.{entry_of, Entries, digits_from}
use Rattle.reader.proofs.Hex.{value-lt, all_behind}
use Rattle.reader.proofs.Judged.{digit-in}

-- ---- the table

-- a table of all bytes that passes the test has the rule
pub entries : (table : List ℕ) → leb 256 (length table) ≡ true → follows entry_of 0 table ≡ true → Entries table
entries table long test x h = let p = leb-true 256 (length table) long in entry entry_of table test x (omega arith)

-- an entry is below 16 exactly at a digit
below : (x : ℕ) → ltb (entry_of x) 16 ≡ is_digit x
below x = go (is_digit x) refl
  where
    go : (b : Bool) → is_digit x ≡ b → ltb (entry_of x) 16 ≡ is_digit x
    go true e = rw e (lt-ltb (value_of x) 16 (value-lt x))
    go false e = rw e (le-ltb (16 + value_of x) 16 (omega arith))

-- two numbers, joined, are below 16 exactly where both are
joined : (a b : ℕ) → ltb (bit_or a b) 16 ≡ (ltb a 16 && ltb b 16)
joined a b = go (ltb a 16) (ltb b 16) refl refl
  where
    go : (p q : Bool) → ltb a 16 ≡ p → ltb b 16 ≡ q → ltb (bit_or a b) 16 ≡ (p && q)
    go true true e f = lt-ltb (bit_or a b) 16 (or_lt 4 a b (ltb-true a 16 e) (ltb-true b 16 f))
    go true false e f = le-ltb (bit_or a b) 16 (omega (arith, or_add_and a b, and_le_l a b, ltb-false b 16 f))
    go false q e f = le-ltb (bit_or a b) 16 (omega (arith, or_add_and a b, and_le_r a b, ltb-false a 16 e))

-- ---- a run

-- the entries of a run, joined to a number
abbrev pub all_joined : ℕ → List ℕ → ℕ
all_joined m run = fold (λ n x. bit_or n (entry_of x)) m run

-- what is joined is below 16 exactly where all bytes are digits
pub run-told : (m : ℕ) (run : List ℕ) → ltb (all_joined m run) 16 ≡ (ltb m 16 && all_digits run)
unfolding all_digits
run-told m [] = sym (and-true (ltb m 16))
run-told m (x ∷ run) =
    run-told (bit_or m (entry_of x)) run
    ∙ ap (λ (b : Bool). b && all_digits run) (joined m (entry_of x) ∙ ap (◌&&◌ (ltb m 16)) (below x))
    ∙ and_assoc (ltb m 16) (is_digit x) (all_digits run)

-- a number that tells of the run of n bytes from place `at` on: it is below 16 exactly where all are digits
pub record Tells (l : List ℕ) (at n m : ℕ) : Type 0 where
  pub told : ltb m 16 ≡ digits_from n l at

-- the entry of the next byte is joined to what tells of a run
pub run-joined : {l : List ℕ} {at n m k : ℕ} → Tells l at n m → k ≡ entry_of (get_or l (at + n) 0) → Tells l at (suc n) (bit_or m k)
run-joined {l} {at} {n} {m} {k} t f = record { told = joined m k ∙ ap₂ ◌&&◌ t.told (ap (λ (j : ℕ). ltb j 16) f ∙ below (get_or l (at + n) 0)) }

-- ---- runs behind one another

-- bytes each of which is a digit
all_each : (l : List ℕ) → EachIndex l (λ i. IsTrue (is_digit (slice_index l i))) → all_digits l ≡ true
unfolding all_digits
all_each [] each = refl
all_each (x ∷ l) each = rw (each 0 (omega arith)) (all_each l (λ i h. each (suc i) (suc-le-suc h)))

-- each byte is a digit, told byte by byte
pub each_told : (told : Bool) (l : List ℕ) → IsTrue told ↔ EachIndex l (λ i. IsTrue (is_digit (slice_index l i))) → told ≡ all_digits l
each_told true l e = sym (all_each l (e.0 refl))
each_told false l e = go (all_digits l) refl
  where
    go : (b : Bool) → all_digits l ≡ b → false ≡ all_digits l
    go true t = cc (e.1 (λ i h. digit-in l (length l) i (ap all_digits (take-length l) ∙ t) h (le_refl (length l))))
    go false t = sym t

-- where the first i bytes are not all digits, more are not either
pub not-fewer : (l : List ℕ) (i n : ℕ) → all_digits (take i l) ≡ false → i ≤ n → n ≤ length l → all_digits (take n l) ≡ false
not-fewer l i n e h k =
    let q : n ≡ i + (n - i) = omega arith in
    ap (λ (m : ℕ). all_digits (take m l)) q ∙ ap all_digits (take-add i (n - i) l) ∙ all_behind (take i l) (take (n - i) (drop i l))
    ∙ ap (λ (b : Bool). b && all_digits (take (n - i) (drop i l))) e
