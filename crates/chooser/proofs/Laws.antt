-- A choice is made exactly where one can choose, and whichever comes first. Assumes nothing.
use Prim.Native.Nat.{ℕ}
use mathlib.Core.Path.{◌≡◌, refl, sym, ap₂, ◌∙◌}
use mathlib.Core.List.{List}
use mathlib.Core.Bool.{Bool, true, false, not, cond, ◌&&◌, false≢true}
use native.Mathlib.Omega.{arith}
use lib.Dec.{eqb}
use borrow.Author.Tests.{eqb-true, eqb-false, eq-eqb, ne_eqb}
use Rattle.frame.specs.declared.GroupCall.{GroupCall}
use Rattle.group_order.specs.Order.{is_better}
use Rattle.group_order.proofs.Order.{either_way}
use Rattle.chooser.specs.Choice.{line_announced, asked_of_line, calls_choosable, choosable, lines_choosable, calls_choice, choice_between, choice_of}
use Rattle.std.specs.Prelude.{Option, Some, None}

-- ---- two calls

-- between which one can choose: the choice is as the first is better or not
pub calls-chosen : (a b : GroupCall) (better : Bool) → calls_choosable a b ≡ true → is_better a b ≡ better → cond better 1 2 ≡ calls_choice a b
calls-chosen a b better h k = rw (h, k)

-- between which one cannot choose: neither is chosen
pub calls-kept : (a b : GroupCall) → calls_choosable a b ≡ false → 0 ≡ calls_choice a b
calls-kept a b h = rw h

-- ---- what a choice asks

-- it is the same whether all of a call is there or only what is asked of it
asked-alone : (a b : Option GroupCall) → choice_between (asked_of_line a) (asked_of_line b) ≡ choice_between a b
asked-alone (Some a) (Some b) = refl
asked-alone (Some a) None = refl
asked-alone None b = refl

-- so it can be made by what is asked of two lines
pub by-asked : (p q : Option GroupCall) (first second : List ℕ) → p ≡ asked_of_line (line_announced first) → q ≡ asked_of_line (line_announced second)
    → choice_between p q ≡ choice_of first second
unfolding choice_of
by-asked p q first second e f = ap₂ choice_between e f ∙ asked-alone (line_announced first) (line_announced second)

-- ---- where one can choose

-- where neither is chosen, one cannot choose
neither-chosen : (p q : Option GroupCall) → choice_between p q ≡ 0 → choosable p q ≡ false
neither-chosen (Some a) (Some b) e = go (calls_choosable a b) (is_better a b) e
  where
    go : (x y : Bool) → ◌≡◌ {A = ℕ} (cond x (cond y 1 2) 0) 0 → x ≡ false
    go true true h = let z : ⊥ = omega arith in absurd z
    go true false h = let z : ⊥ = omega arith in absurd z
    go false y h = refl
neither-chosen (Some a) None e = refl
neither-chosen None q e = refl

-- where one is chosen, one can choose
one-chosen : (p q : Option GroupCall) → (choice_between p q ≡ 0 → ⊥) → choosable p q ≡ true
one-chosen (Some a) (Some b) f = go (calls_choosable a b) (is_better a b) f
  where
    go : (x y : Bool) → (◌≡◌ {A = ℕ} (cond x (cond y 1 2) 0) 0 → ⊥) → x ≡ true
    go true y h = refl
    go false y h = absurd (h refl)
one-chosen (Some a) None f = absurd (f refl)
one-chosen None q f = absurd (f refl)

-- so it is with two lines: where neither is chosen, one cannot choose
pub neither-line : (first second : List ℕ) → choice_of first second ≡ 0 → lines_choosable first second ≡ false
unfolding choice_of
neither-line first second = neither-chosen (line_announced first) (line_announced second)

-- and where one is chosen, one can
pub one_line : (first second : List ℕ) → (choice_of first second ≡ 0 → ⊥) → lines_choosable first second ≡ true
unfolding choice_of
one_line first second = one-chosen (line_announced first) (line_announced second)

-- where one can choose between two calls, their groups are the same and their identifiers differ
pub choosable-calls : (a b : GroupCall) → calls_choosable a b ≡ true → (a.group ≡ b.group) × (a.identifier ≡ b.identifier → ⊥)
choosable-calls a b e = go (eqb a.group b.group) (eqb a.identifier b.identifier) refl refl e
  where
    go : (x y : Bool) → eqb a.group b.group ≡ x → eqb a.identifier b.identifier ≡ y → (x && not y) ≡ true
        → (a.group ≡ b.group) × (a.identifier ≡ b.identifier → ⊥)
    go true true p q h = absurd (false≢true h)
    go true false p q h = (eqb-true _ _ p, eqb-false _ _ q)
    go false y p q h = absurd (false≢true h)

-- ---- whichever comes first

-- the choice when first and second are exchanged: 2 for 1 and 1 for 2
abbrev pub exchanged : ℕ → ℕ
exchanged choice = cond (eqb choice 1) 2 (cond (eqb choice 2) 1 0)

-- two numbers are equal either way
eqb-turned : (m n : ℕ) → eqb m n ≡ eqb n m
eqb-turned m n = go (eqb m n) refl
  where
    go : (x : Bool) → eqb m n ≡ x → x ≡ eqb n m
    go true e = sym (eq-eqb n m (sym (eqb-true m n e)))
    go false e = sym (ne_eqb n m (λ h. eqb-false m n e (sym h)))

-- one can choose between two calls either way
calls-turned : (a b : GroupCall) → calls_choosable b a ≡ calls_choosable a b
calls-turned a b =
    ap₂ (λ (x y : Bool). x && not y) (eqb-turned b.group a.group) (eqb-turned b.identifier a.identifier)

-- and so between two messages
pub choosable-turned : (p q : Option GroupCall) → choosable q p ≡ choosable p q
choosable-turned (Some a) (Some b) = calls-turned a b
choosable-turned (Some a) None = refl
choosable-turned None (Some b) = refl
choosable-turned None None = refl

-- the same call is chosen either way
pub choice-turned : (p q : Option GroupCall) → choice_between q p ≡ exchanged (choice_between p q)
choice-turned (Some a) (Some b) = go (calls_choosable a b) refl
  where
    better : (x y : Bool) → y ≡ not x → ◌≡◌ {A = ℕ} (cond y 1 2) (exchanged (cond x 1 2))
    better true y e = rw e
    better false y e = rw e

    go : (x : Bool) → calls_choosable a b ≡ x → calls_choice b a ≡ exchanged (cond x (cond (is_better a b) 1 2) 0)
    go true e = rw (calls-turned a b, e) (better (is_better a b) (is_better b a) (either_way a b (choosable-calls a b e).1))
    go false e = rw (calls-turned a b, e)
choice-turned (Some a) None = refl
choice-turned None (Some b) = refl
choice-turned None None = refl
