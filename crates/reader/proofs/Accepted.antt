-- What a line that is not refused is, as one record of facts. Assumes nothing.
use mathlib.Core.Path.{◌≡◌}
use mathlib.Core.List.{List}
use mathlib.Core.Bool.{true}
use Prim.Native.Nat.{ℕ, ◌≤◌}
use native.Mathlib.Omega.{arith}
use lib.ListN.{length, get_or}
use lib.Dec.{eqb, ltb, lit≤}
use borrow.Author.Tests.{ltb-false, eqb-true, eqb-false, not-false}
use Rattle.frame.specs.Frame.{in_range}
use Rattle.frame.specs.Layout.{digits_of}
use Rattle.frame.proofs.Laws.{or_split, within-split, passed}
use Rattle.reader.specs.Line.{message_at, media_at, count, kind_at, Digital, unended, undigital, unkind, misfit, unranged, refusal_of}

-- the facts, test by test
pub record Accepted (l : List ℕ) : Type 0 where
  pub some : 1 ≤ length l
  pub final : get_or l (count l) 0 ≡ 10
  pub digital : Digital l
  pub pair : 2 ≤ count l
  pub low : 1 ≤ kind_at l
  pub high : kind_at l ≤ 9
  pub long : count l ≡ digits_of (kind_at l)
  pub ranged : in_range (message_at (kind_at l) l) (media_at (kind_at l) l) ≡ true

-- a line whose number is 0 has passed every test
pub accepted : (l : List ℕ) → refusal_of l ≡ 0 → Accepted l
unfolding refusal_of
accepted l e =
    let p₁ = passed (unended l) 1 _ (lit≤ tt) e in
    let p₂ = passed (undigital l) 2 _ (lit≤ tt) p₁.1 in
    let p₃ = passed (unkind l) 3 _ (lit≤ tt) p₂.1 in
    let p₄ = passed (misfit l) 4 _ (lit≤ tt) p₃.1 in
    let p₅ = passed (unranged l) 5 0 (lit≤ tt) p₄.1 in
    let q₁ = or_split (eqb (length l) 0) _ p₁.0 in
    let q₃ = or_split (ltb (count l) 2) _ p₃.0 in
    let k = within-split 1 (kind_at l) 9 (not-false _ q₃.1) in
    let e₁ : length l ≡ 0 → ⊥ = eqb-false _ _ q₁.0 in
    record {
      some = omega arith;
      final = eqb-true _ _ (not-false _ q₁.1);
      digital = not-false _ p₂.0;
      pair = ltb-false _ _ q₃.0;
      low = k.0;
      high = k.1;
      long = eqb-true _ _ (not-false _ p₄.0);
      ranged = not-false _ p₅.0;
    }
