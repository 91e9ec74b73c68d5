-- Tests and the conditions that they stand for. Assumes nothing.
use mathlib.Core.Path.{◌≡◌, refl, sym, ap, ◌∙◌}
use mathlib.Core.Logic.{◌⊎◌, inl, inr, ⊎_elim, ◌↔◌}
use mathlib.Core.Bool.{Bool, true, false, not, ◌&&◌, ◌||◌, true≢false}
use Prim.Native.Nat.{ℕ, ◌<◌, ◌≤◌}
use lib.Dec.{ltb, leb, eqb}
use borrow.Author.Tests.{leb-true, ltb-true, eqb-true, le-leb, lt-ltb, eq-eqb}
use Rattle.frame.proofs.Laws.{and_split, or_cases, or_right}

-- a test is true exactly when its condition holds
abbrev pub Reflects : Bool → Type 0 → Type 0
Reflects b A = (b ≡ true) ↔ A

-- a test that is false rules its condition out
pub true-reflects : {b : Bool} {A : Type 0} → Reflects b A → b ≡ false → A → ⊥
true-reflects h e x = true≢false (sym (h.1 x) ∙ e)

-- at most
pub leb-reflects : (m n : ℕ) → Reflects (leb m n) (m ≤ n)
leb-reflects m n = (leb-true m n, le-leb m n)

-- below
pub ltb-reflects : (m n : ℕ) → Reflects (ltb m n) (m < n)
ltb-reflects m n = (ltb-true m n, lt-ltb m n)

-- equal
pub eqb-reflects : (m n : ℕ) → Reflects (eqb m n) (m ≡ n)
eqb-reflects m n = (eqb-true m n, eq-eqb m n)

-- not
pub not-reflects : (b : Bool) {A : Type 0} → Reflects b A → Reflects (not b) (A → ⊥)
not-reflects true h = (λ e x. true≢false (sym e), λ f. absurd (f (h.0 refl)))
not-reflects false h = (λ e x. true-reflects h refl x, λ f. refl)

-- both
pub and-reflects : (a b : Bool) {A B : Type 0} → Reflects a A → Reflects b B → Reflects (a && b) (A × B)
and-reflects a b h k = (λ e. let p = and_split a b e in (h.0 p.0, k.0 p.1), λ x. both a (h.1 x.0) ∙ k.1 x.1)
  where
    both : (c : Bool) → c ≡ true → (c && b) ≡ b
    both c e = ap (λ (d : Bool). d && b) e

-- either
pub or-reflects : (a b : Bool) {A B : Type 0} → Reflects a A → Reflects b B → Reflects (a || b) (A ⊎ B)
or-reflects a b {A} {B} h k = (λ e. ⊎_elim (λ x. inl (h.0 x)) (λ y. inr (k.0 y)) (or_cases a b e), ⊎_elim (λ x. left a (h.1 x)) (λ y. or_right a (k.1 y)))
  where
    left : (c : Bool) → c ≡ true → (c || b) ≡ true
    left c e = ap (λ (d : Bool). d || b) e
