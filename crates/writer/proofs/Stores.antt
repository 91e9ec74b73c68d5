-- Numbers stored one after the other, and a frame's line so stored in a buffer. Assumes nothing.
use mathlib.Core.Path.{◌≡◌, refl, sym, ap, ◌∙◌}
use mathlib.Core.List.{List, [], ◌∷◌, ◌++◌}
use mathlib.Core.Bool.{true, false}
use Prim.Native.Nat.{ℕ, suc, ◌+◌, ◌/◌, ◌%◌, ◌<◌, ◌≤◌}
use native.Mathlib.Nat.{add-zero, add-suc, suc-add, zero-add}
use native.Mathlib.Omega.{arith}
use lib.ListN.{length, drop, set}
use Rattle.std.proofs.lemmas.List.Edits.{sets, sets-eq}
use borrow.Author.Tests.{lt-ltb, le-ltb}
use Rattle.frame.specs.Digits.{Width, twice, digit_count, size, in_hex, all_in_hex}
use Rattle.frame.specs.Frame.{in_range, kind_of}
use Rattle.frame.specs.Layout.{front, back, media_place, back_place, digits_of, front_of, back_of, media_in_hex, frame_in_hex, line_of}
use Rattle.frame.specs.declared.Media.{Media}
use Rattle.frame.specs.declared.Message.{Message}
use Rattle.frame.proofs.Hex.{length-hex}
use Rattle.frame.proofs.Frames.{length_front, length-media, length-frame, length-line}
use Rattle.writer.specs.Lent.{Written}
use Rattle.writer.specs.Writing.{write_number, written_of, buffer_of}

-- ---- stores one after the other

-- a list, then what follows it
sets-append : (a b l : List ℕ) (i n : ℕ) → i + length a ≡ n → sets l i (a ++ b) ≡ sets (sets l i a) n b
sets-append [] b l i n e = ap (λ (k : ℕ). sets l k b) (sym (add-zero i) ∙ e)
sets-append (x ∷ a) b l i n e = sets-append a b (set l i x) (suc i) n (suc-add i (length a) ∙ sym (add-suc i (length a)) ∙ e)

-- a number, then what follows it
sets-hex : (l : List ℕ) (i : ℕ) (w : Width) (v : ℕ) (rest : List ℕ) → sets l i (in_hex w v ++ rest) ≡ sets (sets l i (in_hex w v)) (i + digit_count w) rest
sets-hex l i w v rest = sets-append (in_hex w v) rest l i (i + digit_count w) (ap (◌+◌ i) (length-hex w v))

-- a number of twice the width, half by half
pub sets-twice : (w : Width) (l : List ℕ) (i v : ℕ) → sets (sets l i (in_hex w (v / size w))) (i + digit_count w) (in_hex w (v % size w)) ≡ sets l i (in_hex (twice w) v)
unfolding in_hex
sets-twice w l i v = sym (sets-hex l i w (v / size w) (in_hex w (v % size w)))

-- numbers one after the other: the first, then the rest
pub sets-cons : (l : List ℕ) (i : ℕ) (w : Width) (ws : List Width) (v : ℕ) (vs : List ℕ)
    → sets l i (all_in_hex (w ∷ ws) (v ∷ vs)) ≡ sets (sets l i (in_hex w v)) (i + digit_count w) (all_in_hex ws vs)
unfolding all_in_hex
sets-cons l i w ws v vs = sets-hex l i w v (all_in_hex ws vs)

-- no numbers, nothing stored
pub sets-none : (l : List ℕ) (i : ℕ) (vs : List ℕ) → sets l i (all_in_hex [] vs) ≡ l
unfolding all_in_hex
sets-none l i vs = refl

-- a frame's three parts, each at its place
pub sets-frame : (m : Message) (media : Media) (out : List ℕ) → sets (sets (sets out 0 (all_in_hex (front (kind_of m)) (front_of m))) (media_place (kind_of m)) (media_in_hex (kind_of m) media)) (back_place (kind_of m)) (all_in_hex (back (kind_of m)) (back_of m)) ≡ sets out 0 (frame_in_hex m media)
unfolding frame_in_hex
sets-frame m media out =
    let f = all_in_hex (front (kind_of m)) (front_of m) in
    let h = media_in_hex (kind_of m) media in
    let b = all_in_hex (back (kind_of m)) (back_of m) in
    sym (sets-append f (h ++ b) out 0 (media_place (kind_of m)) (zero-add (length f) ∙ length_front m)
    ∙ sets-append h b (sets out 0 f) (media_place (kind_of m)) (back_place (kind_of m)) (ap (◌+◌ (media_place (kind_of m))) (length-media (kind_of m) media)))

-- ---- the three answers of the writer

-- the writer's number, length and buffer
abbrev pub gives : Message → Media → List ℕ → ℕ → ℕ → List ℕ → Type 0
gives m media out number length after =
    (◌≡◌ {A = Written} (record { number = number; length = length }) (written_of m media out)) × (after ≡ buffer_of m media out)

module _ (m : Message) (media : Media) (out : List ℕ) where
  -- a field out of range: 5
  pub unranged : in_range m media ≡ false → gives m media out 5 0 out
  unfolding written_of buffer_of write_number
  unranged b = (simp b, simp b)

  -- a buffer that is too short: 6
  pub no_room : in_range m media ≡ true → length out ≤ digits_of (kind_of m) → gives m media out 6 0 out
  unfolding written_of buffer_of write_number
  no_room g h =
      let n = length-line m media in
      let t = lt-ltb (length out) (length (line_of m media)) (omega arith) in (simp (g, t), simp (g, t))

  -- the digits and 0A, stored one after the other
  stored : digits_of (kind_of m) < length out → set (sets out 0 (frame_in_hex m media)) (digits_of (kind_of m)) 10 ≡ line_of m media ++ drop (length (line_of m media)) out
  unfolding line_of
  stored h =
      let hs = frame_in_hex m media in
      let n = length-line m media in
      sym (sets-append hs (10 ∷ []) out 0 (digits_of (kind_of m)) (zero-add (length hs) ∙ length-frame m media))
      ∙ sets-eq (line_of m media) out 0 (omega arith) ∙ ap (λ (k : ℕ). line_of m media ++ drop k out) (zero-add (length (line_of m media)))

  -- a buffer that has room: the line
  pub room : in_range m media ≡ true → digits_of (kind_of m) < length out
      → gives m media out 0 (digits_of (kind_of m) + 1) (set (sets out 0 (frame_in_hex m media)) (digits_of (kind_of m)) 10)
  unfolding written_of buffer_of write_number
  room g h =
      let n = length-line m media in
      let t = le-ltb (length out) (length (line_of m media)) (omega arith) in
      (simp (g, t) (simp n), simp (g, t) (stored h))
