-- Of two announcement lines the chooser gives that of the better call. Assumes nothing.
use Rattle.std.specs.Prelude.{◌≡◌, ◌⊎◌, List, true, ℕ}
use Rattle.std.specs.Borrow.{Bor}
use Rattle.frame.specs.declared.GroupCall.{GroupCall}
use Rattle.group_order.specs.Order.{is_better}
use Rattle.chooser.specs.Choice.{choice_of, choice_number, place, place_of}
use Rattle.chooser.specs.NoChoice.{Announces}

-- two lines announce two calls, and what holds goes by the better one: `OfFirst` where it is the first line's, `OfSecond` where it is the second's
pub record ByBetterCall (first second : Bor (List ℕ)) (OfFirst OfSecond : Type 0) : Type 0 where
  -- a call
  pub one : GroupCall
  -- the first line announces it
  pub first_announces : Announces first.now one
  -- another call
  pub other : GroupCall
  -- the second line announces it
  pub second_announces : Announces second.now other
  -- the one is better, and `OfFirst` holds, or the other is, and `OfSecond` does
  pub better : ((is_better one other ≡ true) × OfFirst) ⊎ ((is_better other one ≡ true) × OfSecond)

-- for every two lines whose question has number 0: the choice, 1 or 2, and the line handed back, by its place and its bytes, are those of the better call
abbrev pub BetterGiven : Type 0
BetterGiven =
    (first second : Bor (List ℕ)) → choice_number first.now second.now ≡ 0 → let choice = choice_of first.now second.now in
    let handed = place_of choice first second in
    ByBetterCall first second ((choice ≡ 1) × (handed ≡ place first)) ((choice ≡ 2) × (handed ≡ place second))

-- and the line is the same, whichever of the two is lent first
abbrev pub EitherFirst : Type 0
EitherFirst =
    (first second : Bor (List ℕ)) → choice_number first.now second.now ≡ 0
    → place_of (choice_of first.now second.now) first second ≡ place_of (choice_of second.now first.now) second first
