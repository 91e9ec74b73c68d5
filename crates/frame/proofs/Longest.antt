-- The longest line. Assumes nothing.
use mathlib.Core.Path.{◌≡◌, refl}
use Prim.Native.Nat.{ℕ, ◌≤◌}
use native.Mathlib.Omega.{arith}
use lib.ListN.{length}
use lib.Dec.{lit≤}
use Rattle.frame.specs.Frame.{kind_of, group_call_good, in_range, GoodFrame}
use Rattle.frame.specs.Layout.{digits_of, line_of, longest_line}
use Rattle.frame.specs.declared.Media.{Media}
use Rattle.frame.specs.declared.Message.{Message}
use Rattle.frame.specs.declared.Message.TheVariants.{Announcement}
use Rattle.frame.proofs.Laws.{within-split}
use Rattle.frame.proofs.NineKinds.{nine}
use Rattle.frame.proofs.Frames.{known, length-line}

-- a good frame with a longest line: an emergency in group 3, confirm asked for
emergency : Message
emergency =
    Announcement
    (record {
      identifier = 16;
      group = 3;
      call_type = 2;
      refresh = 30;
      originator = 7;
      start = 1000;
      last_change = 1000;
      last_changer = 7;
    }) 1

-- no line is longer, and that of some good frame is as long
pub longest-line : ((m : Message) (media : Media) → length (line_of m media) ≤ longest_line)
    × ((m : Message) × (media : Media) × GoodFrame m media × (length (line_of m media) ≡ longest_line))
unfolding digits_of emergency in_range group_call_good
longest-line =
    (at_most, (emergency, record { number = 5 }, record { ranged = refl; its_media = refl }, length-line emergency (record { number = 5 })))
  where
    at_most : (m : Message) (media : Media) → length (line_of m media) ≤ longest_line
    at_most m media =
        let e = length-line m media in
        let k = within-split 1 (kind_of m) 9 (known m).nine in
        let h = nine (λ (n : ℕ). digits_of n ≤ 62) (lit≤ tt) (lit≤ tt) (lit≤ tt) (lit≤ tt) (lit≤ tt) (lit≤ tt) (lit≤ tt) (lit≤ tt) (lit≤ tt) (kind_of m) k.0 k.1 in
        omega arith
