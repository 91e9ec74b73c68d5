-- Tests that are computed at each number below a bound, and tables of tests that give each number exactly when. Assumes nothing.
use mathlib.Core.Path.{◌≡◌, refl, sym, ap, ◌∙◌}
use mathlib.Core.Logic.{◌⊎◌, inl, inr, ⊎_elim}
use mathlib.Core.List.{List, [], ◌∷◌}
use mathlib.Core.Bool.{Bool, true, false, not, ◌&&◌, cond, true≢false}
use Prim.Native.Nat.{ℕ, zero, suc, ◌<◌}
use native.Mathlib.Nat.{not-suc-le-zero}
use native.Mathlib.Omega.{arith}
use lib.Dec.{eqb}
use borrow.Author.Tests.{eq-eqb, eqb-true, eqb-false}
use Rattle.frame.specs.Number.{first_given}
use Rattle.frame.proofs.Laws.{and_split}
use Rattle.demands.specs.ExactlyWhen.{ExactlyWhen, Among, GivenExactlyWhen}
use Rattle.demands.proofs.Reflects.{Reflects}

-- ---- a test at each number

-- a test that is computed at each number below n, and what it shows of each
unfoldable pub below : ℕ → (ℕ → Bool) → Bool
below zero p = true
below (suc n) p = p n && below n p

-- what such a test shows of each number
pub at : (n : ℕ) (p : ℕ → Bool) → below n p ≡ true → (i : ℕ) → i < n → p i ≡ true
unfolding below
at zero p e i h = absurd (not-suc-le-zero h)
at (suc n) p e i h =
    let both = and_split (p n) (below n p) e in go (eqb i n) refl both.0 (λ k. at n p both.1 i k)
  where
    go : (b : Bool) → eqb i n ≡ b → p n ≡ true → (i < n → p i ≡ true) → p i ≡ true
    go true t x y = ap p (eqb-true i n t) ∙ x
    go false t x y = let d = eqb-false i n t in y (omega (arith, d))

-- ---- a table of tests

-- a row: the number, the test, the condition
abbrev pub Row : Type 1
Row = ℕ × Bool × Type 0

-- the numbers with their tests
abbrev pub tests : List Row → List (ℕ × Bool)
tests [] = []
tests (r ∷ rows) = (r.0, r.1) ∷ tests rows

-- the numbers with their conditions
abbrev pub conditions : List Row → List (ℕ × Type 0)
conditions [] = []
conditions (r ∷ rows) = (r.0, r.2) ∷ conditions rows

-- where nothing before holds, each test stands for its condition
abbrev pub Right : Type 0 → List Row → Type 0
Right before [] = Unit {0}
Right before (r ∷ rows) = (before → Reflects r.1 r.2) × Right (before × (r.2 → ⊥)) rows

-- no number is 0 or stands twice
abbrev pub fresh : ℕ → List Row → Bool
fresh n [] = not (eqb n 0)
fresh n (r ∷ rows) = not (eqb n r.0) && fresh n rows

-- every number is fresh
abbrev pub apart : List Row → Bool
apart [] = true
apart (r ∷ rows) = fresh r.0 rows && apart rows

-- a table gives one of its numbers, or 0
given-among : (rows : List Row) → Among (first_given (tests rows)) (conditions rows)
unfolding Among
given-among [] = refl
given-among (r ∷ rows) = go r.1 (given-among rows)
  where
    go : (b : Bool) → Among (first_given (tests rows)) (conditions rows) → (cond b r.0 (first_given (tests rows)) ≡ r.0) ⊎ Among (cond b r.0 (first_given (tests rows))) (conditions rows)
    go true h = inl refl
    go false h = inr h

-- what a false test of equality shows
unequal : (m n : ℕ) → not (eqb m n) ≡ true → m ≡ n → ⊥
unequal m n e h = true≢false (sym e ∙ ap not (eq-eqb m n h))

-- a fresh number is none of the table, nor 0
fresh-apart : (n k : ℕ) (rows : List Row) → fresh k rows ≡ true → Among n (conditions rows) → n ≡ k → ⊥
unfolding Among
fresh-apart n k [] e m h = unequal k 0 e (sym h ∙ m)
fresh-apart n k (r ∷ rows) e m h =
    let p = and_split (not (eqb k r.0)) (fresh k rows) e in
    ⊎_elim (λ x. unequal k r.0 p.0 (sym h ∙ x)) (λ x. fresh-apart n k rows p.1 x h) m

-- where nothing before holds the table gives the number, and wherever one of its numbers or 0 is given nothing before holds
exactly : (rows : List Row) (given : ℕ) (before : Type 0) → apart rows ≡ true → Right before rows
    → (before → given ≡ first_given (tests rows)) → ((n : ℕ) → Among n (conditions rows) → given ≡ n → before) → ExactlyWhen given before (conditions rows)
unfolding ExactlyWhen Among
exactly [] given before a r h k = (λ e. k 0 refl e, h)
exactly (row ∷ rows) given before a r h k =
    let p = and_split (fresh row.0 rows) (apart rows) a in (
      (λ e. (k row.0 (inl refl) e, holds row.1 refl (k row.0 (inl refl) e) p.0 e), λ x. taken x.0 ((r.0 x.0).1 x.1)),
      exactly rows given (before × (row.2 → ⊥)) p.1 r.1 (λ x. passed row.1 refl x.0 x.1)
          (λ n m e. (k n (inr m) e, λ x. fresh-apart n row.0 rows p.0 m (sym e ∙ taken (k n (inr m) e) ((r.0 (k n (inr m) e)).1 x)))),
    )
  where
    taken : before → row.1 ≡ true → given ≡ row.0
    taken b t = h b ∙ ap (λ (c : Bool). cond c row.0 (first_given (tests rows))) t

    left : before → row.1 ≡ false → given ≡ first_given (tests rows)
    left b t = h b ∙ ap (λ (c : Bool). cond c row.0 (first_given (tests rows))) t

    passed : (c : Bool) → row.1 ≡ c → before → (row.2 → ⊥) → given ≡ first_given (tests rows)
    passed true t b f = absurd (f ((r.0 b).0 t))
    passed false t b f = left b t

    holds : (c : Bool) → row.1 ≡ c → before → fresh row.0 rows ≡ true → given ≡ row.0 → row.2
    holds true t b f e = (r.0 b).0 t
    holds false t b f e = absurd (fresh-apart (first_given (tests rows)) row.0 rows f (given-among rows) (sym (left b t) ∙ e))

-- a table of tests that stand for their conditions gives each number exactly when
pub table-exactly : (rows : List Row) → apart rows ≡ true → Right (Unit {0}) rows → GivenExactlyWhen (first_given (tests rows)) (conditions rows)
table-exactly rows a r =
    record { answered = given-among rows; exactly = exactly rows (first_given (tests rows)) (Unit {0}) a r (λ b. refl) (λ n m e. tt) }
