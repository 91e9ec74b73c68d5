-- The layouts add up to the totals, so lines have 23, 25, 31, 43 or 63 bytes with their end. Assumes nothing.
use mathlib.Core.Path.{◌≡◌, refl, ap, ◌∙◌}
use Prim.Native.Nat.{ℕ, ◌+◌, ◌*◌, ◌≤◌}
use lib.ListN.{length, get_or}
use Rattle.frame.specs.Frame.{kind_of}
use Rattle.frame.specs.Layout.{digits_of, line_of}
use Rattle.frame.specs.declared.Media.{Media}
use Rattle.frame.specs.declared.Message.{Message}
use Rattle.frame.proofs.Laws.{within-split}
use Rattle.frame.proofs.NineKinds.{nine}
use Rattle.frame.proofs.Frames.{known, length-line}
use Rattle.demands.specs.Totals.{totals}

-- two digits a byte
pub digits-total : (k : ℕ) → 1 ≤ k → k ≤ 9 → digits_of k ≡ 2 * get_or totals k 0
unfolding digits_of
digits-total = nine (λ (k : ℕ). digits_of k ≡ 2 * get_or totals k 0) refl refl refl refl refl refl refl refl refl

-- and the line end
pub line-total : (m : Message) (media : Media) → length (line_of m media) ≡ 2 * get_or totals (kind_of m) 0 + 1
line-total m media =
    let k = within-split 1 (kind_of m) 9 (known m).nine in
    length-line m media ∙ ap (λ (n : ℕ). n + 1) (digits-total (kind_of m) k.0 k.1)
