-- The number of a step of either machine, by its tests and by what it sends. Assumes nothing.
use Prim.Native.Nat.{ℕ, ◌≤◌}
use mathlib.Core.Path.{◌≡◌, refl, sym, ap, ◌∙◌}
use mathlib.Core.List.{List, [], ◌∷◌}
use mathlib.Core.Bool.{Bool, true, false, cond, not, ◌||◌}
use native.Mathlib.Omega.{arith}
use lib.ListN.{length}
use lib.Dec.{ltb, eqb}
use borrow.Author.Tests.{le-ltb, eq-eqb, eqb-true, eqb-false}
use Rattle.frame.specs.Number.{first_given}
use Rattle.frame.specs.Frame.{in_range}
use Rattle.frame.specs.Layout.{longest_line}
use Rattle.frame.specs.declared.Media.{Media}
use Rattle.frame.proofs.Laws.{passed}
use Rattle.frame.proofs.Longest.{longest-line}
use Rattle.writer.specs.Writing.{write_number}
use Rattle.call.specs.Settings.{settings_good}
use Rattle.call.specs.declared.Settings.{Settings}
use Rattle.call.specs.declared.Input.{Input}
use Rattle.std.specs.Prelude.{Option, Some, None}
use Rattle.frame.specs.declared.Message.{Message}
use Rattle.call.proofs.Laws.{holds}
use Rattle.stepping.specs.Numbers.{heard_good, arguments_good, number_before_row, number_of_tests, number_sending}
use Rattle.stepping.specs.Sending.{line_sent, send_number}

-- ---- the tests

-- a fifth test is asked where the first four give 0
fifth : (a b c d t : Bool) → first_given ((7, a) ∷ (9, b) ∷ (5, c) ∷ (8, d) ∷ (8, t) ∷ [])
    ≡ cond (eqb (first_given ((7, a) ∷ (9, b) ∷ (5, c) ∷ (8, d) ∷ [])) 0) (cond t 8 0) (first_given ((7, a) ∷ (9, b) ∷ (5, c) ∷ (8, d) ∷ []))
fifth true b c d t = refl
fifth false true c d t = refl
fifth false false true d t = refl
fifth false false false true t = refl
fifth false false false false t = refl

-- a step that is not refused by its settings, its record or its event
pub record Taken (s : Settings) (is_well_formed : Bool) (i : Input) : Type 0 where
  pub settings : settings_good s ≡ true
  pub formed : is_well_formed ≡ true
  pub message : heard_good i.event i.media ≡ true
  pub arguments : arguments_good s i.event i.media ≡ true

module _ (s : Settings) (is_well_formed : Bool) (i : Input) (by_row : Bool) where
  -- the number of the tests in its two parts: ahead of any row, and by the row
  pub tests-parts : number_of_tests s is_well_formed i by_row
      ≡ cond (eqb (number_before_row s is_well_formed i) 0) (cond by_row 8 0) (number_before_row s is_well_formed i)
  unfolding number_before_row
  tests-parts =
      fifth (not (settings_good s)) (not is_well_formed) (not (heard_good i.event i.media)) (not (arguments_good s i.event i.media)) by_row

  -- where it is 0 every test passed
  pub tests-passed : number_of_tests s is_well_formed i by_row ≡ 0 → Taken s is_well_formed i × (by_row ≡ false)
  tests-passed e =
      let a = passed (not (settings_good s)) 7 _ (omega arith) e in
      let b = passed (not is_well_formed) 9 _ (omega arith) a.1 in
      let c = passed (not (heard_good i.event i.media)) 5 _ (omega arith) b.1 in
      let d = passed (not (arguments_good s i.event i.media)) 8 _ (omega arith) c.1 in
      let f = passed by_row 8 0 (omega arith) d.1 in
      (record { settings = holds _ a.0; formed = holds _ b.0; message = holds _ c.0; arguments = holds _ d.0 }, f.0)

  -- and where every test passed it is 0
  pub tests-pass : Taken s is_well_formed i → by_row ≡ false → number_of_tests s is_well_formed i by_row ≡ 0
  tests-pass t r = rw (t.settings, t.formed, t.message, t.arguments, r)

-- ---- the number

-- a number 0 of a step passed the tests, and then the writer's is 0
pub number_passed : (n : ℕ) (sent : Option Message) (media : Media) (out : List ℕ) → number_sending n sent media out ≡ 0 → (n ≡ 0) × (send_number sent media out ≡ 0)
number_passed n sent media out e = go (eqb n 0) refl e
  where
    go : (b : Bool) → eqb n 0 ≡ b → cond b (send_number sent media out) n ≡ 0 → (n ≡ 0) × (send_number sent media out ≡ 0)
    go true t h = (eqb-true n 0 t, h)
    go false t h = absurd (eqb-false n 0 t h)

-- what is sent is in range
abbrev pub SentGood : Option Message → Media → Type 0
SentGood None media = Unit {0}
SentGood (Some m) media = in_range m media ≡ true

-- the writer's number of what is in range: 6 where there is no room
room-alone : (sent : Option Message) (media : Media) (out : List ℕ) → SentGood sent media
    → send_number sent media out ≡ cond (ltb (length out) (length (line_sent sent media))) 6 0
unfolding write_number
room-alone None media out g = rw (le-ltb (length out) 0 (omega arith))
room-alone (Some m) media out g = rw g

-- the 8 of a row beside that of the arguments, and 6 last
sixth : (a b c d t r : Bool) (w : ℕ) → (first_given ((7, a) ∷ (9, b) ∷ (5, c) ∷ (8, d) ∷ (8, t) ∷ []) ≡ 0 → w ≡ cond r 6 0)
    → cond (eqb (first_given ((7, a) ∷ (9, b) ∷ (5, c) ∷ (8, d) ∷ (8, t) ∷ [])) 0) w (first_given ((7, a) ∷ (9, b) ∷ (5, c) ∷ (8, d) ∷ (8, t) ∷ []))
    ≡ first_given ((7, a) ∷ (9, b) ∷ (5, c) ∷ (8, d || t) ∷ (6, r) ∷ [])
sixth true b c d t r w h = refl
sixth false true c d t r w h = refl
sixth false false true d t r w h = refl
sixth false false false true t r w h = refl
sixth false false false false true r w h = refl
sixth false false false false false r w h = h refl

-- the tests of a step in the order of the table: a setting, the record, a field of a message, an argument or the row, the room for the line
abbrev pub table_tests : Settings → Bool → Input → Bool → List ℕ → List ℕ → List (ℕ × Bool)
table_tests s is_well_formed i by_row line out =
    (7, not (settings_good s)) ∷ (9, not is_well_formed) ∷ (5, not (heard_good i.event i.media))
    ∷ (8, not (arguments_good s i.event i.media) || by_row) ∷ (6, ltb (length out) (length line)) ∷ []

module _ (s : Settings) (is_well_formed : Bool) (i : Input) (by_row : Bool) (sent : Option Message) (media : Media)
    (good : number_of_tests s is_well_formed i by_row ≡ 0 → SentGood sent media) (out : List ℕ) where
  -- the number of a step that sends what is in range is the first of them that is given: the writer's 5 never shows
  pub number-of-table : number_sending (number_of_tests s is_well_formed i by_row) sent media out ≡ first_given (table_tests s is_well_formed i by_row (line_sent sent media) out)
  number-of-table =
      sixth (not (settings_good s)) (not is_well_formed) (not (heard_good i.event i.media)) (not (arguments_good s i.event i.media)) by_row
      (ltb (length out) (length (line_sent sent media))) (send_number sent media out) (λ e. room-alone sent media out (good e))

  -- one that passed the tests goes where the buffer has room for its line
  pub number-with-room : number_of_tests s is_well_formed i by_row ≡ 0 → length (line_sent sent media) ≤ length out
      → number_sending (number_of_tests s is_well_formed i by_row) sent media out ≡ 0
  number-with-room e h = go (number_of_tests s is_well_formed i by_row) e (room-alone sent media out (good e) ∙ ap (λ (b : Bool). cond b 6 0) (le-ltb _ _ h))
    where
      go : (n : ℕ) → n ≡ 0 → send_number sent media out ≡ 0 → number_sending n sent media out ≡ 0
      go n a b = rw (eq-eqb n 0 a) b

  -- no line is longer than the longest
  line-at-most : (x : Option Message) → length (line_sent x media) ≤ longest_line
  line-at-most None = omega arith
  line-at-most (Some m) = longest-line.0 m media

  -- with room for the longest line 6 never comes up: the number is that of the tests
  pub number-of-tests : longest_line ≤ length out → number_sending (number_of_tests s is_well_formed i by_row) sent media out ≡ number_of_tests s is_well_formed i by_row
  number-of-tests h = go (eqb (number_of_tests s is_well_formed i by_row) 0) refl
    where
      go : (b : Bool) → eqb (number_of_tests s is_well_formed i by_row) 0 ≡ b
          → number_sending (number_of_tests s is_well_formed i by_row) sent media out ≡ number_of_tests s is_well_formed i by_row
      go true t =
          let z = eqb-true (number_of_tests s is_well_formed i by_row) 0 t in
          let l = line-at-most sent in number-with-room z (omega (arith, l, h)) ∙ sym z
      go false t = rw t
