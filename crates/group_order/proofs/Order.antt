-- One call is better than another: an order of calls, and total where identifiers differ. Assumes nothing.
use Prim.Native.Nat.{ℕ, ◌≤◌, ◌<◌}
use mathlib.Core.Path.{◌≡◌, refl, sym, ◌∙◌}
use mathlib.Core.Logic.{◌⊎◌, inl, inr}
use mathlib.Core.Bool.{Bool, true, false, not, ◌&&◌, ◌||◌, true≢false, false≢true}
use native.Mathlib.Omega.{arith}
use lib.Dec.{ltb, eqb}
use borrow.Author.Tests.{ltb-true, ltb-false, lt-ltb, le-ltb, eqb-true, eqb-false, eq-eqb}
use Rattle.frame.specs.declared.GroupCall.{GroupCall}
use Rattle.group_order.specs.Order.{rank_of, by_first, is_better}

-- ---- one rule, and what decides where it does not

-- it holds: the first number is not larger, and where the two are equal the rest holds
first-held : (m n : ℕ) (r : Bool) → by_first m n r ≡ true → (m ≤ n) × (m ≡ n → r ≡ true)
first-held m n r e = go (ltb m n) (eqb m n) refl refl e
  where
    go : (l q : Bool) → ltb m n ≡ l → eqb m n ≡ q → (l || (q && r)) ≡ true → (m ≤ n) × (m ≡ n → r ≡ true)
    go true q p s x = let h : m < n = ltb-true m n p in (omega arith, λ k. let z : ⊥ = omega arith in absurd z)
    go false true p s x = let h : m ≡ n = eqb-true m n s in (omega arith, λ k. x)
    go false false p s x = absurd (false≢true x)

-- it does not hold: the first number is not smaller, and where the two are equal the rest does not hold
first-failed : (m n : ℕ) (r : Bool) → by_first m n r ≡ false → (n ≤ m) × (m ≡ n → r ≡ false)
first-failed m n r e = go (ltb m n) (eqb m n) refl refl e
  where
    go : (l q : Bool) → ltb m n ≡ l → eqb m n ≡ q → (l || (q && r)) ≡ false → (n ≤ m) × (m ≡ n → r ≡ false)
    go true q p s x = absurd (true≢false x)
    go false true p s x = (ltb-false m n p, λ k. x)
    go false false p s x = (ltb-false m n p, λ k. absurd (eqb-false m n s k))

-- to hold it takes a first number that is not larger, and the rest where the two are equal
holds-first : (m n : ℕ) (r : Bool) → m ≤ n → (m ≡ n → r ≡ true) → by_first m n r ≡ true
holds-first m n r h f = go (ltb m n) refl
  where
    go : (l : Bool) → ltb m n ≡ l → (l || (eqb m n && r)) ≡ true
    go true p = refl
    go false p =
        let k : n ≤ m = ltb-false m n p in
        let q : m ≡ n = omega arith in rw (eq-eqb m n q) (f q)

-- to fail it takes a first number that is not smaller, and no rest where the two are equal
fails-first : (m n : ℕ) (r : Bool) → n ≤ m → (m ≡ n → r ≡ false) → by_first m n r ≡ false
fails-first m n r h f = rw (le-ltb m n h) (go (eqb m n) refl)
  where
    go : (q : Bool) → eqb m n ≡ q → (q && r) ≡ false
    go true s = f (eqb-true m n s)
    go false s = refl

-- it goes on along a chain, as the rest does
first-chain : (m n o : ℕ) (p q r : Bool) → (p ≡ true → q ≡ true → r ≡ true) → by_first m n p ≡ true → by_first n o q ≡ true → by_first m o r ≡ true
first-chain m n o p q r f d e =
    let (h, hp) = first-held m n p d in
    let (k, kq) = first-held n o q e in
    holds-first m o r (omega arith) (λ x. f (hp (omega arith)) (kq (omega arith)))

-- where it fails along a chain it fails from end to end, as the rest does
failed-chain : (m n o : ℕ) (p q r : Bool) → (p ≡ false → q ≡ false → r ≡ false) → by_first m n p ≡ false → by_first n o q ≡ false → by_first m o r ≡ false
failed-chain m n o p q r f d e =
    let (h, hp) = first-failed m n p d in
    let (k, kq) = first-failed n o q e in
    fails-first m o r (omega arith) (λ x. f (hp (omega arith)) (kq (omega arith)))

-- ---- calls

-- the rank of a call
abbrev ranks : GroupCall → ℕ
ranks c = rank_of c.call_type

-- by identifier
abbrev lower : GroupCall → GroupCall → Bool
lower a b = ltb a.identifier b.identifier

-- by start, then by identifier
abbrev sooner : GroupCall → GroupCall → Bool
sooner a b = by_first a.start b.start (lower a b)

-- no call is better than itself
pub never-itself : (a : GroupCall) → is_better a a ≡ false
never-itself a =
    fails-first (ranks a) (ranks a) (sooner a a) (omega arith)
    (λ x. fails-first a.start a.start (lower a a) (omega arith) (λ y. le-ltb a.identifier a.identifier (omega arith)))

-- what is better than a better call is better
along-a-chain : (a b c : GroupCall) → is_better a b ≡ true → is_better b c ≡ true → is_better a c ≡ true
along-a-chain a b c =
    first-chain (ranks a) (ranks b) (ranks c) (sooner a b) (sooner b c) (sooner a c)
    (first-chain a.start b.start c.start (lower a b) (lower b c) (lower a c)
    (λ x y. let h = ltb-true a.identifier b.identifier x in let k = ltb-true b.identifier c.identifier y in lt-ltb a.identifier c.identifier (omega (arith, h, k))))

-- if a is not better than b, nor b than c, then a is not better than c
pub not-better-chain : (a b c : GroupCall) → is_better a b ≡ false → is_better b c ≡ false → is_better a c ≡ false
not-better-chain a b c =
    failed-chain (ranks a) (ranks b) (ranks c) (sooner a b) (sooner b c) (sooner a c)
    (failed-chain a.start b.start c.start (lower a b) (lower b c) (lower a c)
    (λ x y. let h = ltb-false a.identifier b.identifier x in let k = ltb-false b.identifier c.identifier y in le-ltb a.identifier c.identifier (omega (arith, h, k))))

-- of two calls one at most is better
pub asymmetric : (a b : GroupCall) → is_better a b ≡ true → is_better b a ≡ false
asymmetric a b e = go (is_better b a) refl
  where
    go : (x : Bool) → is_better b a ≡ x → x ≡ false
    go true h = absurd (true≢false (sym (along-a-chain a b a e h) ∙ never-itself a))
    go false h = refl

-- where neither of two calls is better, they have the same identifier
pub same-identifier : (a b : GroupCall) → is_better a b ≡ false → is_better b a ≡ false → a.identifier ≡ b.identifier
same-identifier a b d e =
    let (h, x) = first-failed (ranks a) (ranks b) (sooner a b) d in
    let (k, y) = first-failed (ranks b) (ranks a) (sooner b a) e in
    let (h', x') = first-failed a.start b.start (lower a b) (x (omega arith)) in
    let (k', y') = first-failed b.start a.start (lower b a) (y (omega arith)) in
    let i = ltb-false a.identifier b.identifier (x' (omega arith)) in
    let j = ltb-false b.identifier a.identifier (y' (omega arith)) in
    omega arith

-- of two calls with different identifiers one is better
pub one_of_two : (a b : GroupCall) → (a.identifier ≡ b.identifier → ⊥) → (is_better a b ≡ true) ⊎ (is_better b a ≡ true)
one_of_two a b f = go (is_better a b) (is_better b a) refl refl
  where
    go : (x y : Bool) → is_better a b ≡ x → is_better b a ≡ y → (is_better a b ≡ true) ⊎ (is_better b a ≡ true)
    go true y p q = inl p
    go false true p q = inr q
    go false false p q = absurd (f (same-identifier a b p q))

-- and then the one is better exactly if the other is not
pub either_way : (a b : GroupCall) → (a.identifier ≡ b.identifier → ⊥) → is_better b a ≡ not (is_better a b)
either_way a b f = go (is_better a b) refl
  where
    go : (x : Bool) → is_better a b ≡ x → is_better b a ≡ not x
    go true p = asymmetric a b p
    go false p = other (is_better b a) refl
      where
        other : (y : Bool) → is_better b a ≡ y → y ≡ true
        other true q = refl
        other false q = absurd (f (same-identifier a b p q))

-- a strict order of calls that is total where identifiers differ
pub record StrictOrder (better : GroupCall → GroupCall → Bool) : Type 0 where
  -- no call is better than itself
  pub irreflexive : (a : GroupCall) → better a a ≡ false
  -- what is better than a better call is better
  pub transitive : (a b c : GroupCall) → better a b ≡ true → better b c ≡ true → better a c ≡ true
  -- of two calls with different identifiers one is better
  pub total : (a b : GroupCall) → (a.identifier ≡ b.identifier → ⊥) → (better a b ≡ true) ⊎ (better b a ≡ true)

-- the order of calls is one
pub better-is-an-order : StrictOrder is_better
better-is-an-order = record { irreflexive = never-itself; transitive = along-a-chain; total = one_of_two }

-- ---- what decides

-- nothing but ranks, starts and identifiers: a type serves only to find its rank
pub by-these-alone : (a b c d : GroupCall) → rank_of a.call_type ≡ rank_of c.call_type → rank_of b.call_type ≡ rank_of d.call_type
    → a.start ≡ c.start → b.start ≡ d.start → a.identifier ≡ c.identifier → b.identifier ≡ d.identifier → is_better a b ≡ is_better c d
by-these-alone a b c d r q s t i k = λ j. by_first (r j) (q j) (by_first (s j) (t j) (ltb (i j) (k j)))

-- the better rank decides, whatever start and identifier are
pub by_rank : (a b : GroupCall) → rank_of a.call_type < rank_of b.call_type → is_better a b ≡ true
by_rank a b h = rw (lt-ltb (ranks a) (ranks b) h) refl

-- at equal rank the earlier start decides, whatever the identifier is
pub by-start : (a b : GroupCall) → rank_of a.call_type ≡ rank_of b.call_type → a.start < b.start → is_better a b ≡ true
by-start a b r h = holds-first (ranks a) (ranks b) (sooner a b) (omega (arith, r)) (λ x. rw (lt-ltb a.start b.start h) refl)

-- at equal rank and start the lower identifier decides
pub by-identifier : (a b : GroupCall) → rank_of a.call_type ≡ rank_of b.call_type → a.start ≡ b.start → a.identifier < b.identifier → is_better a b ≡ true
by-identifier a b r s h =
    holds-first (ranks a) (ranks b) (sooner a b) (omega (arith, r))
    (λ x. holds-first a.start b.start (lower a b) (omega (arith, s)) (λ y. lt-ltb a.identifier b.identifier h))
