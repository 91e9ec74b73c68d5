-- A line that reads as a frame is the line of that frame: no other line does. Assumes nothing.
use mathlib.Core.Path.{◌≡◌, refl, sym, ap, ap₂, ◌∙◌}
use mathlib.Core.Logic.{◌↔◌}
use mathlib.Core.List.{List, [], ◌∷◌, ◌++◌, append_assoc}
use mathlib.Core.Bool.{Bool, true, false, cond, false≢true}
use Prim.Native.Nat.{ℕ, suc, ◌+◌, ◌<◌, ◌≤◌}
use native.Mathlib.Omega.{arith}
use lib.ListN.{length, take, drop, get_or, drop_of_length-le}
use lib.Seq.{take-add, split_at}
use lib.Dec.{eqb, leb}
use borrow.Author.Tests.{eq-eqb, ne_eqb, eqb-true, leb-true, leb-false}
use Rattle.frame.specs.Digits.{is_digit, numbers_at, total, all_in_hex}
use Rattle.frame.specs.Media.{no_media, media_values, media_digits, media_hex, media_from}
use Rattle.frame.specs.Frame.{kind_of, carries, media_of, GoodFrame}
use Rattle.frame.specs.Layout.{front, back, media_place, media_count, back_place, digits_of, front_fields, front_of, back_of, media_in_hex, frame_in_hex, line_of}
use Rattle.frame.specs.declared.Media.{Media}
use Rattle.frame.specs.declared.Message.{Message}
use Rattle.frame.proofs.NineKinds.{nine}
use Rattle.reader.specs.Line.{message_at, media_at, count, kind_at, refusal_of, number_of, values_of, reading, refusal, read_line, line_number, line_message}
use Rattle.reader.specs.Line.{Readable, Refused}
use Rattle.reader.specs.Line.{Reading}
use Rattle.reader.proofs.Hex.{hex-of-numbers}
use Rattle.reader.proofs.MediaDigits.{hex-of-media}
use Rattle.reader.proofs.Judged.{digit-in}
use Rattle.reader.proofs.Accepted.{Accepted, accepted}

-- ---- a line that reads as a frame is the line of that frame

-- a message that is made of a line's numbers has its kind and these numbers
Made : List ℕ → ℕ → Type 0
Made l k = (kind_of (message_at k l) ≡ k) × (front_fields (message_at k l) ≡ drop 1 (numbers_at (front k) l 0)) × (back_of (message_at k l) ≡ numbers_at (back k) l (back_place k))

-- for each of the nine
made : (l : List ℕ) (k : ℕ) → 1 ≤ k → k ≤ 9 → Made l k
unfolding Made message_at numbers_at
made l = nine (Made l) (refl, refl, refl) (refl, refl, refl) (refl, refl, refl) (refl, refl, refl) (refl, refl, refl) (refl, refl, refl) (refl, refl, refl) (refl, refl, refl) (refl, refl, refl)

module _ (l : List ℕ) (a : Accepted l) where
  -- the kind of the line
  abbrev k : ℕ
  k = kind_at l

  -- the message has the kind and the numbers of the line
  is_made : Made l k
  is_made = made l k a.low a.high

  -- each byte before the last is a digit
  bytes : (i : ℕ) → i < count l → is_digit (get_or l i 0) ≡ true
  bytes i h = digit-in l (count l) i a.digital h (omega arith)

  -- the digits before the media are written again
  front-again : all_in_hex (front k) (front_of (message_at k l)) ≡ take (media_place k) l
  unfolding Made digits_of numbers_at
  front-again =
      ap₂ (λ (x : ℕ) (xs : List ℕ). all_in_hex (front k) (x ∷ xs)) is_made.0 is_made.1
      ∙ hex-of-numbers (front k) l (count l) 0 bytes (omega arith) (omega arith)

  -- so are those of the media
  media-again : media_in_hex k (media_at k l) ≡ take (media_count k) (drop (media_place k) l)
  unfolding media_at digits_of
  media-again = go (carries k) (let e = a.long in omega arith)
    where
      go : (b : Bool) → media_place k + cond b media_digits 0 ≤ count l
          → cond b (media_hex (cond b (media_from l (media_place k)) no_media)) [] ≡ take (cond b media_digits 0) (drop (media_place k) l)
      go true h = hex-of-media l (count l) (media_place k) bytes (omega arith) h
      go false h = refl

  -- and those after it
  back-again : all_in_hex (back k) (back_of (message_at k l)) ≡ take (total (back k)) (drop (back_place k) l)
  unfolding Made digits_of
  back-again =
      ap (all_in_hex (back k)) is_made.2 ∙ hex-of-numbers (back k) l (count l) (back_place k) bytes (omega arith) (let e = a.long in omega arith)

  -- so all digits are
  digits-again : frame_in_hex (message_at k l) (media_at k l) ≡ take (count l) l
  unfolding frame_in_hex digits_of Made
  digits-again =
      let f = media_place k in
      let h = media_count k in
      let b = total (back k) in
      ap (λ (n : ℕ). all_in_hex (front n) (front_of (message_at k l)) ++ (media_in_hex n (media_at k l) ++ all_in_hex (back n) (back_of (message_at k l)))) is_made.0
      ∙ ap₂ ◌++◌ front-again (ap₂ ◌++◌ media-again back-again)
      ∙ sym (ap (λ (n : ℕ). take n l) a.long ∙ take-add (f + h) b l ∙ ap (λ (s : List ℕ). s ++ take b (drop (f + h) l)) (take-add f h l) ∙ append_assoc (take f l) (take h (drop f l)) (take b (drop (f + h) l)))

  -- behind them stands 0A
  ends_with : take (count l) l ++ 10 ∷ [] ≡ l
  ends_with =
      let j : count l < length l = omega arith in
      let d : drop (suc (count l)) l ≡ [] = drop_of_length-le l {i = suc (count l)} (omega arith) in
      sym (split_at l (count l) 0 j ∙ ap₂ (λ (x : ℕ) (r : List ℕ). take (count l) l ++ x ∷ r) a.final d)

  -- so the line of the frame is the line
  line-again : line_of (message_at k l) (media_at k l) ≡ l
  unfolding line_of
  line-again = ap (λ (s : List ℕ). s ++ 10 ∷ []) digits-again ∙ ends_with

  -- and the frame is good
  frame-again : GoodFrame (message_at k l) (media_at k l)
  unfolding Made media_at
  frame-again = record { ranged = a.ranged; its_media = ap (λ (n : ℕ). media_of n (media_at k l)) is_made.0 ∙ go (carries k) }
    where
      go : (b : Bool) → ◌≡◌ {A = Media} (cond b (cond b (media_from l (media_place k)) no_media) no_media) (cond b (media_from l (media_place k)) no_media)
      go true = refl
      go false = refl

-- a line that reads as a frame is the line of that frame, and the frame is good
pub line-is-the-only-one : (l : List ℕ) (m : Message) (media : Media) → read_line l ≡ reading m media → (l ≡ line_of m media) × GoodFrame m media
unfolding read_line
line-is-the-only-one l m media e = go (eqb (refusal_of l) 0) refl e
  where
    go : (b : Bool) → eqb (refusal_of l) 0 ≡ b → cond b (reading (message_at (kind_at l) l) (media_at (kind_at l) l)) (refusal (refusal_of l)) ≡ reading m media → (l ≡ line_of m media) × GoodFrame m media
    go true t f =
        let a = accepted l (eqb-true _ _ t) in
        let q : Readable (message_at (kind_at l) l) ≡ Readable m = ap (λ (r : Reading). r.read) f in
        let s : message_at (kind_at l) l ≡ m = cc in
        let r : media_at (kind_at l) l ≡ media = ap (λ (r : Reading). r.media) f in
        (sym (line-again l a) ∙ ap₂ line_of s r, rw (s, r) at (frame-again l a))
    go false t f =
        let q : Refused (refusal_of l) ≡ Readable m = ap (λ (r : Reading). r.read) f in
        let z : ◌≡◌ {A = ℕ} 0 1 = cc in
        let w : ⊥ = omega arith in absurd w

-- ---- the reader's answer, case by case

-- its number is the line's
pub number_read : (l : List ℕ) → number_of (line_message l) ≡ line_number l
unfolding read_line
number_read l = go (eqb (refusal_of l) 0) refl
  where
    go : (b : Bool) → eqb (refusal_of l) 0 ≡ b
        → number_of (cond b (reading (message_at (kind_at l) l) (media_at (kind_at l) l)) (refusal (refusal_of l))).read ≡ refusal_of l
    go true e = sym (eqb-true _ _ e)
    go false e = refl

-- the values of the media that stand in a line, where the kind carries media
abbrev pub media_read : ℕ → List ℕ → List ℕ
media_read kind l = cond (carries kind) (media_values (media_from l (media_place kind))) []

-- those of the media that is read
media-values : (l : List ℕ) (k : ℕ) → cond (carries k) (media_values (media_at k l)) [] ≡ media_read k l
unfolding media_at
media-values l k = go (carries k)
  where
    go : (b : Bool) → ◌≡◌ {A = List ℕ} (cond b (media_values (cond b (media_from l (media_place k)) no_media)) []) (cond b (media_values (media_from l (media_place k))) [])
    go true = refl
    go false = refl

-- its values are the numbers that stand in the line, in the layout's order, and none are those of a line that is refused
pub values-read : (l : List ℕ) → let k = kind_at l in
    (refusal_of l ≡ 0 → values_of (read_line l) ≡ numbers_at (front k) l 0 ++ (media_read k l ++ numbers_at (back k) l (back_place k)))
    × ((refusal_of l ≡ 0 → ⊥) → values_of (read_line l) ≡ [])
unfolding read_line Made numbers_at
values-read l = (
  λ e. let m = is_made l (accepted l e) in
      answered (eq-eqb _ _ e)
      ∙ (ap₂ ◌++◌ (ap₂ (λ (x : ℕ) (xs : List ℕ). x ∷ xs) m.0 m.1)
      (ap₂ ◌++◌ (ap (λ (n : ℕ). cond (carries n) (media_values (media_at (kind_at l) l)) []) m.0 ∙ media-values l (kind_at l)) m.2)),
  λ f. answered (ne_eqb _ _ f),
)
  where
    answered : {b : Bool} → eqb (refusal_of l) 0 ≡ b
        → values_of (read_line l) ≡ values_of (cond b (reading (message_at (kind_at l) l) (media_at (kind_at l) l)) (refusal (refusal_of l)))
    answered e = ap (λ (b : Bool). values_of (cond b (reading (message_at (kind_at l) l) (media_at (kind_at l) l)) (refusal (refusal_of l)))) e

-- ---- the line end

-- a readable line has one 0A, its last byte
pub one-line-end : (l : List ℕ) → refusal_of l ≡ 0 → (i : ℕ) → i < length l → (get_or l i 0 ≡ 10) ↔ (suc i ≡ length l)
one-line-end l e i h =
    let a = accepted l e in
    (λ t. go (leb (suc i) (count l)) refl t, λ t. let q : i ≡ count l = omega arith in ap (λ (n : ℕ). get_or l n 0) q ∙ a.final)
  where
    go : (b : Bool) → leb (suc i) (count l) ≡ b → get_or l i 0 ≡ 10 → suc i ≡ length l
    go true t z =
        let d = bytes l (accepted l e) i (leb-true _ _ t) in
        let w : ◌≡◌ {A = Bool} false true = sym (ap is_digit z) ∙ d in
        absurd (false≢true w)
    go false t z = let d : count l < suc i = leb-false _ _ t in omega arith
