-- Of two announcement lines the chooser gives that of the better call. Assumes nothing.
use mathlib.Core.Path.{◌≡◌, ap}
use mathlib.Core.Logic.{◌⊎◌, inl, inr}
use mathlib.Core.Bool.{true}
use Prim.Native.Nat.{ℕ}
use Rattle.group_order.specs.Order.{is_better}
use Rattle.chooser.specs.Choice.{choice_of, place, place_of}
use Rattle.chooser.proofs.Chosen.{Chosen, chosen-is-better}
use Rattle.demands.specs.BetterLine.{BetterGiven}

-- where the number is 0, one of the two is chosen, and it is handed back
pub better-given : BetterGiven
better-given first second e =
    let chosen = chosen-is-better first.now second.now e in
    record {
      one = chosen.a;
      first_announces = chosen.first-announces;
      other = chosen.b;
      second_announces = chosen.second-announces;
      better = go chosen chosen.one-better;
    }
  where
    go : (chosen : Chosen first.now second.now) → (is_better chosen.a chosen.b ≡ true) ⊎ (is_better chosen.b chosen.a ≡ true)
        → let choice = choice_of first.now second.now in
        ((is_better chosen.a chosen.b ≡ true) × ((choice ≡ 1) × (place_of choice first second ≡ place first)))
        ⊎ ((is_better chosen.b chosen.a ≡ true) × ((choice ≡ 2) × (place_of choice first second ≡ place second)))
    go chosen (inl h) = let n = chosen.first-exactly.1 h in inl (h, (n, ap (λ (k : ℕ). place_of k first second) n))
    go chosen (inr h) = let n = chosen.second-exactly.1 h in inr (h, (n, ap (λ (k : ℕ). place_of k first second) n))
