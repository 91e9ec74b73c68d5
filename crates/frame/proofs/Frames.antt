-- The line of a frame, part by part: its length. Assumes nothing.
use mathlib.Core.Path.{◌≡◌, refl, ap, ◌∙◌}
use mathlib.Core.List.{[], ◌∷◌, ◌++◌}
use mathlib.Core.Bool.{Bool, true, false, cond}
use Prim.Native.Nat.{ℕ, ◌+◌, ◌≤◌}
use native.Mathlib.Omega.{arith}
use lib.ListN.{length, length-append}
use lib.Dec.{lit≤}
use Rattle.frame.specs.Digits.{all_in_hex}
use Rattle.frame.specs.Range.{within}
use Rattle.frame.specs.Media.{media_digits, media_hex}
use Rattle.frame.specs.Frame.{kind_of, carries}
use Rattle.frame.specs.Layout.{front, back, media_place, media_count, digits_of, front_of, back_of, media_in_hex, frame_in_hex, line_of}
use Rattle.frame.specs.declared.Media.{Media}
use Rattle.frame.specs.declared.Message.{Message}
use Rattle.frame.specs.declared.Message.TheVariants.{SetupRequest, Ringing, Accept, Reject, Release, ReleaseAck, AcceptAck, Announcement, GroupAccept}
use Rattle.frame.proofs.Hex.{length-all-hex}
use Rattle.frame.proofs.MediaDigits.{length-media-hex}

-- ---- the nine kinds, one by one

-- what computes for each kind: it is one of the nine, and its layout has as many widths as there are fields
pub record Known (m : Message) : Type 0 where
  pub nine : within 1 (kind_of m) 9 ≡ true
  pub pair : 2 ≤ digits_of (kind_of m)
  pub before : length (front (kind_of m)) ≡ length (front_of m)
  pub after : length (back (kind_of m)) ≡ length (back_of m)

-- it does for every message
pub known : (m : Message) → Known m
unfolding digits_of
known (SetupRequest p s) = record { nine = refl; pair = lit≤ tt; before = refl; after = refl }
known (Ringing p) = record { nine = refl; pair = lit≤ tt; before = refl; after = refl }
known (Accept p) = record { nine = refl; pair = lit≤ tt; before = refl; after = refl }
known (Reject p reason) = record { nine = refl; pair = lit≤ tt; before = refl; after = refl }
known (Release p) = record { nine = refl; pair = lit≤ tt; before = refl; after = refl }
known (ReleaseAck p) = record { nine = refl; pair = lit≤ tt; before = refl; after = refl }
known (AcceptAck p) = record { nine = refl; pair = lit≤ tt; before = refl; after = refl }
known (Announcement c confirm) = record { nine = refl; pair = lit≤ tt; before = refl; after = refl }
known (GroupAccept a) = record { nine = refl; pair = lit≤ tt; before = refl; after = refl }

-- ---- lengths

-- the digits before the media
pub length_front : (m : Message) → length (all_in_hex (front (kind_of m)) (front_of m)) ≡ media_place (kind_of m)
length_front m = length-all-hex (front (kind_of m)) (front_of m) (known m).before

-- the digits of the media
pub length-media : (kind : ℕ) (media : Media) → length (media_in_hex kind media) ≡ media_count kind
length-media kind media = go (carries kind)
  where
    go : (b : Bool) → length (cond b (media_hex media) []) ≡ cond b media_digits 0
    go true = length-media-hex media
    go false = refl

-- the digits of a frame
pub length-frame : (m : Message) (media : Media) → length (frame_in_hex m media) ≡ digits_of (kind_of m)
unfolding frame_in_hex digits_of
length-frame m media =
    let f = all_in_hex (front (kind_of m)) (front_of m) in
    let h = media_in_hex (kind_of m) media in
    let b = all_in_hex (back (kind_of m)) (back_of m) in
    let e = length-append f (h ++ b) in
    let e₁ = length-append h b in
    let e₂ = length_front m in
    let e₃ = length-media (kind_of m) media in
    let e₄ = length-all-hex (back (kind_of m)) (back_of m) (known m).after in omega arith

-- the bytes of a line
pub length-line : (m : Message) (media : Media) → length (line_of m media) ≡ digits_of (kind_of m) + 1
unfolding line_of
length-line m media = length-append (frame_in_hex m media) (10 ∷ []) ∙ ap (λ (n : ℕ). n + 1) (length-frame m media)
