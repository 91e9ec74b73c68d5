-- The line of a good frame reads as that frame. Assumes nothing.
use mathlib.Core.Path.{◌≡◌, refl, sym, ap, ap₂, ◌∙◌}
use mathlib.Core.List.{List, [], ◌∷◌, ◌++◌, append_assoc}
use mathlib.Core.Bool.{Bool, true, false, not, ◌&&◌, ◌||◌, cond}
use Prim.Native.Nat.{ℕ, ◌≤◌}
use native.Mathlib.Omega.{arith}
use lib.ListN.{length, take, get_or, length-append}
use lib.Seq.{get_or_at, take_at}
use borrow.Author.Tests.{le-ltb, eq-eqb, ne_eqb}
use Rattle.frame.specs.Digits.{all_digits, numbers_at, all_in_hex}
use Rattle.frame.specs.Media.{media_good, no_media, media_hex, media_from}
use Rattle.frame.specs.Frame.{kind_of, carries, media_of, message_good, in_range, GoodFrame}
use Rattle.frame.specs.Layout.{front, back, media_place, back_place, digits_of, front_of, back_of, media_in_hex, frame_in_hex, line_of}
use Rattle.frame.specs.declared.Media.{Media}
use Rattle.frame.specs.declared.Message.{Message}
use Rattle.frame.specs.declared.Message.TheVariants.{SetupRequest, Ringing, Accept, Reject, Release, ReleaseAck, AcceptAck, Announcement, GroupAccept}
use Rattle.frame.proofs.Laws.{and_split}
use Rattle.frame.proofs.Frames.{known, length_front, length-media, length-frame, length-line}
use Rattle.reader.specs.Line.{message_of, message_at, media_at, count, kind_at, refusal_of, reading, read_line}
use Rattle.reader.proofs.Hex.{digits_append, all-hex-is-digits, numbers-of-hex}
use Rattle.reader.proofs.MediaDigits.{media-is-digits, media-of-hex}
use Rattle.reader.proofs.Fitting.{fit}

-- a message is made again of its fields
again : (m : Message) → message_of (kind_of m) (front_of m) (back_of m) ≡ m
again (SetupRequest p s) = refl
again (Ringing p) = refl
again (Accept p) = refl
again (Reject p reason) = refl
again (Release p) = refl
again (ReleaseAck p) = refl
again (AcceptAck p) = refl
again (Announcement c confirm) = refl
again (GroupAccept a) = refl

module _ (m : Message) (media : Media) (g : in_range m media ≡ true) where
  -- the kind of the frame
  abbrev kind : ℕ
  kind = kind_of m

  -- the digits before the media
  abbrev ahead : List ℕ
  ahead = all_in_hex (front kind) (front_of m)

  -- the digits after it, and the line end
  abbrev behind : List ℕ
  behind = all_in_hex (back kind) (back_of m) ++ 10 ∷ []

  -- the media and the message are in range
  good : ((not (carries kind) || media_good media) ≡ true) × (message_good m ≡ true)
  unfolding in_range
  good = and_split _ _ g

  -- media that is carried is in its range
  carried : carries kind ≡ true → media_good media ≡ true
  carried e = ap (λ (b : Bool). not b || media_good media) (sym e) ∙ good.0

  -- the line in its three parts
  parts : line_of m media ≡ ahead ++ (media_in_hex kind media ++ behind)
  unfolding line_of frame_in_hex
  parts = simp append_assoc

  -- the fields before the media read as they were
  front_read : numbers_at (front kind) (line_of m media) 0 ≡ front_of m
  front_read =
      ap (λ (l : List ℕ). numbers_at (front kind) l 0) parts
      ∙ numbers-of-hex (front kind) (front_of m) [] (media_in_hex kind media ++ behind) 0 refl (fit m good.1).0

  -- so does the kind
  kind-read : kind_at (line_of m media) ≡ kind
  unfolding numbers_at
  kind-read = ap (λ (vs : List ℕ). get_or vs 0 0) front_read

  -- and the fields after the media
  back_read : numbers_at (back kind) (line_of m media) (back_place kind) ≡ back_of m
  back_read =
      let h = media_in_hex kind media in
      let e = length_front m in
      let e₁ = length-media kind media in
      let e₂ = length-append ahead h in
      ap (λ (l : List ℕ). numbers_at (back kind) l (back_place kind)) (parts ∙ sym (append_assoc ahead h behind))
      ∙ numbers-of-hex (back kind) (back_of m) (ahead ++ h) (10 ∷ []) (back_place kind) (omega arith) (fit m good.1).1

  -- so the message reads as it was
  message-read : message_at kind (line_of m media) ≡ m
  unfolding message_at
  message-read = ap₂ (message_of kind) front_read back_read ∙ again m

  -- and so does the media, where it is carried
  media-read : media_at kind (line_of m media) ≡ media_of kind media
  unfolding media_at
  media-read = ap (λ (l : List ℕ). cond (carries kind) (media_from l (media_place kind)) no_media) parts ∙ go (carries kind) refl
    where
      go : (b : Bool) → carries kind ≡ b
          → ◌≡◌ {A = Media} (cond b (media_from (ahead ++ (cond b (media_hex media) [] ++ behind)) (media_place kind)) no_media) (cond b media no_media)
      go true e = media-of-hex media ahead behind (media_place kind) (length_front m) (carried e)
      go false e = refl

  -- the digits are those of the kind
  count-read : count (line_of m media) ≡ digits_of kind
  count-read = let e = length-line m media in omega arith

  -- the media is written in digits
  media-digits : all_digits (media_in_hex kind media) ≡ true
  unfolding all_digits
  media-digits = go (carries kind) refl
    where
      go : (b : Bool) → carries kind ≡ b → all_digits (cond b (media_hex media) []) ≡ true
      go true e = media-is-digits media (carried e)
      go false e = refl

  -- so is all that stands before the line end
  digital : all_digits (take (count (line_of m media)) (line_of m media)) ≡ true
  unfolding line_of frame_in_hex
  digital =
      ap all_digits (take_at (frame_in_hex m media) (10 ∷ []) (count (line_of m media)) (length-frame m media ∙ sym count-read))
      ∙ digits_append ahead (media_in_hex kind media ++ all_in_hex (back kind) (back_of m)) (all-hex-is-digits (front kind) (front_of m) (fit m good.1).0)
      (digits_append (media_in_hex kind media) (all_in_hex (back kind) (back_of m)) media-digits (all-hex-is-digits (back kind) (back_of m) (fit m good.1).1))

  -- the line ends in 0A
  ends : get_or (line_of m media) (count (line_of m media)) 0 ≡ 10
  unfolding line_of
  ends = get_or_at (frame_in_hex m media) 10 [] 0 (count (line_of m media)) (length-frame m media ∙ sym count-read)

  -- the frame that is read is in range
  ranged-read : in_range m (media_of kind media) ≡ true
  unfolding in_range
  ranged-read = go (carries kind) refl
    where
      go : (b : Bool) → carries kind ≡ b → ((not b || media_good (cond b media no_media)) && message_good m) ≡ true
      go true e = ap (λ (b : Bool). (not b || media_good media) && message_good m) (sym e) ∙ g
      go false e = good.1

  -- so no number is given
  accepts : refusal_of (line_of m media) ≡ 0
  unfolding refusal_of
  accepts =
      let n : length (line_of m media) ≡ 0 → ⊥ = let e = length-line m media in omega arith in
      let two : 2 ≤ count (line_of m media) = rw count-read (known m).pair in
      simp (ne_eqb _ _ n, eq-eqb _ _ ends, digital, le-ltb _ _ two, kind-read, (known m).nine, eq-eqb _ _ count-read, message-read, media-read, ranged-read)

-- the line of a good frame reads as that frame
pub reads-its-line : (m : Message) (media : Media) → GoodFrame m media → read_line (line_of m media) ≡ reading m media
unfolding read_line
reads-its-line m media g =
    let r = g.ranged in
    rw (eq-eqb _ _ (accepts m media r), kind-read m media r, message-read m media r, media-read m media r, g.its_media)
