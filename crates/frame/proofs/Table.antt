-- A rule of a table, proved at all of its entries by one test that is computed, one entry after the other. Assumes nothing.
use mathlib.Core.Path.{◌≡◌, ◌∙◌, ap, sym}
use mathlib.Core.Bool.{Bool, true, ◌&&◌}
use mathlib.Core.List.{List, [], ◌∷◌}
use Prim.Native.Nat.{ℕ, zero, suc, ◌+◌, ◌<◌}
use native.Mathlib.Nat.{add-zero, zero-add, add-suc, suc-add, le_of_suc-le-suc, not-suc-le-zero}
use lib.Dec.{eqb}
use lib.ListN.{length, get_or}
use borrow.Author.Tests.{eqb-true}
use Rattle.frame.proofs.Laws.{and_split}

-- the test: what the rule says stands at each place, from place i on
abbrev pub follows : (ℕ → ℕ) → ℕ → List ℕ → Bool
follows rule i [] = true
follows rule i (x ∷ table) = eqb x (rule i) && follows rule (suc i) table

-- so it does at each place k behind it
entry-from : (rule : ℕ → ℕ) (i : ℕ) (table : List ℕ) → follows rule i table ≡ true → (k : ℕ) → k < length table → get_or table k 0 ≡ rule (i + k)
entry-from rule i [] t k h = absurd (not-suc-le-zero h)
entry-from rule i (x ∷ table) t zero h =
    eqb-true x (rule i) (and_split (eqb x (rule i)) (follows rule (suc i) table) t).0 ∙ ap rule (sym (add-zero i))
entry-from rule i (x ∷ table) t (suc k) h =
    entry-from rule (suc i) table (and_split (eqb x (rule i)) (follows rule (suc i) table) t).1 k (le_of_suc-le-suc h)
    ∙ ap rule (suc-add i k ∙ sym (add-suc i k))

-- a table that passes the test follows the rule at each place
pub entry : (rule : ℕ → ℕ) (table : List ℕ) → follows rule 0 table ≡ true → (k : ℕ) → k < length table → get_or table k 0 ≡ rule k
entry rule table t k h = entry-from rule 0 table t k h ∙ ap rule (zero-add k)
