-- The line handed back is that of the better call, whichever line is lent first; where none is, the number says why. Assumes nothing.
use Prim.Native.Nat.{ℕ, ◌≤◌}
use mathlib.Core.Path.{◌≡◌, refl, sym, ap, ap₂, ◌∙◌}
use mathlib.Core.Logic.{◌⊎◌, inl, inr, ◌↔◌}
use mathlib.Core.List.{List, []}
use mathlib.Core.Bool.{Bool, true, false, not, cond, true≢false, false≢true}
use native.Mathlib.Omega.{arith}
use lib.Dec.{eqb}
use denote.Ref.{Bor}
use borrow.Author.Tests.{eqb-true, eqb-false, eq-eqb, ne_eqb}
use Rattle.frame.specs.declared.GroupCall.{GroupCall}
use Rattle.reader.specs.Line.{line_number}
use Rattle.reader.proofs.LineNumbers.{line-number-at-most}
use Rattle.group_order.specs.Order.{is_better}
use Rattle.group_order.proofs.Order.{one_of_two, either_way}
use Rattle.chooser.specs.Choice.{line_announced, choosable, lines_choosable, choice_between, choice_of, number_between, choice_number, place, place_of}
use Rattle.std.specs.Prelude.{Option, Some, None}
use Rattle.chooser.proofs.Laws.{neither-line, one_line, choosable-calls, exchanged, choosable-turned, choice-turned}
use Rattle.chooser.specs.NoChoice.{Announces, NoChoice}
use Rattle.chooser.proofs.Lines.{line-announces, announced-number, no-choice}

-- ---- the number

-- it is 0 only where one can choose
good-number : (m n : ℕ) (good : Bool) → number_between m n good ≡ 0 → good ≡ true
good-number m n good e = go (eqb m 0) (eqb n 0) good refl refl e
  where
    go : (x y z : Bool) → eqb m 0 ≡ x → eqb n 0 ≡ y → ◌≡◌ {A = ℕ} (cond (not x) m (cond (not y) n (cond (not z) 10 0))) 0 → z ≡ true
    go false y z h k f = absurd (eqb-false m 0 h f)
    go true false z h k f = absurd (eqb-false n 0 k f)
    go true true true h k f = refl
    go true true false h k f = let w : ⊥ = omega arith in absurd w

-- it is 10 only where no line's number comes before and one cannot choose
ten-number : (m n : ℕ) (good : Bool) → m ≤ 5 → n ≤ 5 → number_between m n good ≡ 10 → (m ≡ 0) × (n ≡ 0) × (good ≡ false)
ten-number m n good h k e = go (eqb m 0) (eqb n 0) good refl refl e
  where
    go : (x y z : Bool) → eqb m 0 ≡ x → eqb n 0 ≡ y → ◌≡◌ {A = ℕ} (cond (not x) m (cond (not y) n (cond (not z) 10 0))) 10
        → (m ≡ 0) × (n ≡ 0) × (z ≡ false)
    go false y z p q f = let w : ⊥ = omega arith in absurd w
    go true false z p q f = let w : ⊥ = omega arith in absurd w
    go true true true p q f = let w : ⊥ = omega arith in absurd w
    go true true false p q f = (eqb-true m 0 p, eqb-true n 0 q, refl)

-- wherever one can choose between two lines, both are readable
choosable-readable : (first second : List ℕ) → lines_choosable first second ≡ true → (line_number first ≡ 0) × (line_number second ≡ 0)
choosable-readable first second e = go (line_announced first) (line_announced second) refl refl e
  where
    go : (p q : Option GroupCall) → line_announced first ≡ p → line_announced second ≡ q → choosable p q ≡ true → (line_number first ≡ 0) × (line_number second ≡ 0)
    go (Some a) (Some b) h k f = (announced-number first a (line-announces first a h), announced-number second b (line-announces second b k))
    go (Some a) None h k f = absurd (false≢true f)
    go None q h k f = absurd (false≢true f)

-- so the number is 0 exactly where one can choose
zero-exactly : (first second : List ℕ) → (choice_number first second ≡ 0) ↔ (lines_choosable first second ≡ true)
unfolding choice_number
zero-exactly first second =
    (good-number (line_number first) (line_number second) (lines_choosable first second), λ e. let (h, k) = choosable-readable first second e in rw (eq-eqb _ _ h, eq-eqb _ _ k, e))

-- the number, case by case
pub record Numbered (first second : List ℕ) : Type 0 where
  pub by_first : (line_number first ≡ 0 → ⊥) → choice_number first second ≡ line_number first
  pub by-second : line_number first ≡ 0 → (line_number second ≡ 0 → ⊥) → choice_number first second ≡ line_number second
  pub ten : (choice_number first second ≡ 10) ↔ ((line_number first ≡ 0) × (line_number second ≡ 0) × NoChoice first second)
  pub none : (choice_number first second ≡ 0) ↔ (NoChoice first second → ⊥)

-- the first line's number where it is not 0, else the second's where it is not 0, else 10 exactly where there is no choice, else 0
pub number-table : (first second : List ℕ) → Numbered first second
unfolding choice_number
number-table first second =
    record {
      by_first = λ f. rw (ne_eqb (line_number first) 0 f);
      by-second = λ h f. rw (eq-eqb (line_number first) 0 h, ne_eqb (line_number second) 0 f);
      ten = (only, λ t. let (h, k, n) = t in rw (eq-eqb (line_number first) 0 h, eq-eqb (line_number second) 0 k, (no-choice first second).1 n));
      none = (λ e n. true≢false (sym ((zero-exactly first second).0 e) ∙ (no-choice first second).1 n), λ f. (zero-exactly first second).1 (can f));
    }
  where
    only : number_between (line_number first) (line_number second) (lines_choosable first second) ≡ 10 → (line_number first ≡ 0) × (line_number second ≡ 0) × NoChoice first second
    only e =
        let (h, k, f) = ten-number (line_number first) (line_number second) (lines_choosable first second) (line-number-at-most first) (line-number-at-most second) e in
        (h, k, (no-choice first second).0 f)

    can : (NoChoice first second → ⊥) → lines_choosable first second ≡ true
    can f = go (lines_choosable first second) refl
      where
        go : (x : Bool) → lines_choosable first second ≡ x → x ≡ true
        go true e = refl
        go false e = absurd (f ((no-choice first second).0 e))

-- ---- the choice

-- neither line is chosen exactly where the number is not 0
pub chosen-refused : (first second : List ℕ) → (choice_of first second ≡ 0) ↔ (choice_number first second ≡ 0 → ⊥)
chosen-refused first second = (λ e h. true≢false (sym ((zero-exactly first second).0 h) ∙ neither-line first second e), back)
  where
    back : (choice_number first second ≡ 0 → ⊥) → choice_of first second ≡ 0
    back f = go (eqb (choice_of first second) 0) refl
      where
        go : (x : Bool) → eqb (choice_of first second) 0 ≡ x → choice_of first second ≡ 0
        go true e = eqb-true _ _ e
        go false e = absurd (f ((zero-exactly first second).1 (one_line first second (eqb-false _ _ e))))

-- a choice: the calls of the two lines, of one group and with different identifiers, and the line of the better one
pub record Chosen (first second : List ℕ) : Type 0 where
  pub a : GroupCall
  pub b : GroupCall
  pub first-announces : Announces first a
  pub second-announces : Announces second b
  pub one-group : a.group ≡ b.group
  pub two-identifiers : a.identifier ≡ b.identifier → ⊥
  pub first-exactly : (choice_of first second ≡ 1) ↔ (is_better a b ≡ true)
  pub second-exactly : (choice_of first second ≡ 2) ↔ (is_better b a ≡ true)
  pub one-better : (is_better a b ≡ true) ⊎ (is_better b a ≡ true)

-- of two calls that can be chosen between, 1 is chosen exactly if the first is better, and 2 exactly if the second is
better-exactly : (n : ℕ) (x y : Bool) → n ≡ cond x 1 2 → y ≡ not x → ((n ≡ 1) ↔ (x ≡ true)) × ((n ≡ 2) ↔ (y ≡ true))
better-exactly n true y e f = ((λ h. refl, λ h. e), (λ h. let z : ⊥ = omega arith in absurd z, λ h. absurd (true≢false (sym h ∙ f))))
better-exactly n false y e f = ((λ h. let z : ⊥ = omega arith in absurd z, λ h. absurd (false≢true h)), (λ h. f, λ h. e))

-- where the number is 0 both lines are announcements, and the one chosen is that of the better call
pub chosen-is-better : (first second : List ℕ) → choice_number first second ≡ 0 → Chosen first second
unfolding choice_of
chosen-is-better first second e = go (line_announced first) (line_announced second) refl refl ((zero-exactly first second).0 e)
  where
    go : (p q : Option GroupCall) → line_announced first ≡ p → line_announced second ≡ q → choosable p q ≡ true → Chosen first second
    go (Some a) (Some b) h k f =
        let (group, identifiers) = choosable-calls a b f in
        let choice : choice_of first second ≡ cond (is_better a b) 1 2 = ap₂ choice_between h k ∙ ap (λ (x : Bool). cond x (cond (is_better a b) 1 2) 0) f in
        let (one, two) = better-exactly (choice_of first second) (is_better a b) (is_better b a) choice (either_way a b identifiers) in
        record {
          a = a;
          b = b;
          first-announces = line-announces first a h;
          second-announces = line-announces second b k;
          one-group = group;
          two-identifiers = identifiers;
          first-exactly = one;
          second-exactly = two;
          one-better = one_of_two a b identifiers;
        }
    go (Some a) None h k f = absurd (false≢true f)
    go None q h k f = absurd (false≢true f)

-- ---- the line handed back

-- where the number is 0, the line handed back is the first itself if its call is better, and the second itself if its is
pub better-line-returned : (first second : Bor (List ℕ)) → choice_number first.now second.now ≡ 0
    → (a : GroupCall) × (b : GroupCall) × Announces first.now a × Announces second.now b
    × (((is_better a b ≡ true) × (place_of (choice_of first.now second.now) first second ≡ place first))
    ⊎ ((is_better b a ≡ true) × (place_of (choice_of first.now second.now) first second ≡ place second)))
better-line-returned first second e =
    let chosen = chosen-is-better first.now second.now e in
    (chosen.a, chosen.b, chosen.first-announces, chosen.second-announces, go chosen chosen.one-better)
  where
    go : (chosen : Chosen first.now second.now) → (is_better chosen.a chosen.b ≡ true) ⊎ (is_better chosen.b chosen.a ≡ true)
        → ((is_better chosen.a chosen.b ≡ true) × (place_of (choice_of first.now second.now) first second ≡ place first))
        ⊎ ((is_better chosen.b chosen.a ≡ true) × (place_of (choice_of first.now second.now) first second ≡ place second))
    go chosen (inl h) = inl (h, ap (λ (k : ℕ). place_of k first second) (chosen.first-exactly.1 h))
    go chosen (inr h) = inr (h, ap (λ (k : ℕ). place_of k first second) (chosen.second-exactly.1 h))

-- where the number is not 0, it has no bytes and lies where the first line begins
pub empty-part-returned : (first second : Bor (List ℕ)) → (choice_number first.now second.now ≡ 0 → ⊥)
    → place_of (choice_of first.now second.now) first second ≡ (first.ref_ptr, [])
empty-part-returned first second f = ap (λ (k : ℕ). place_of k first second) ((chosen-refused first.now second.now).1 f)

-- ---- whichever line is lent first

-- 1 is chosen for 2 and 2 for 1, and the number is 0 either way or neither way
pub either_order : (first second : List ℕ) → (choice_of second first ≡ exchanged (choice_of first second)) × ((choice_number second first ≡ 0) ↔ (choice_number first second ≡ 0))
unfolding choice_of
either_order first second = (choice-turned (line_announced first) (line_announced second), (good second first, good first second))
  where
    good : (first second : List ℕ) → choice_number first second ≡ 0 → choice_number second first ≡ 0
    good first second e =
        (zero-exactly second first).1 (choosable-turned (line_announced first) (line_announced second) ∙ (zero-exactly first second).0 e)

-- so the same line is handed back, whichever of the two is lent first
pub same_line : (first second : Bor (List ℕ)) → choice_number first.now second.now ≡ 0
    → place_of (choice_of first.now second.now) first second ≡ place_of (choice_of second.now first.now) second first
same_line first second e = go chosen.one-better
  where
    chosen : Chosen first.now second.now
    chosen = chosen-is-better first.now second.now e

    go : (is_better chosen.a chosen.b ≡ true) ⊎ (is_better chosen.b chosen.a ≡ true)
        → place_of (choice_of first.now second.now) first second ≡ place_of (choice_of second.now first.now) second first
    go (inl h) = rw ((either_order first.now second.now).0, chosen.first-exactly.1 h)
    go (inr h) = rw ((either_order first.now second.now).0, chosen.second-exactly.1 h)
