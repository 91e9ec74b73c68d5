-- A script that is being played, whatever the machine: what one turn adds, and what its end gives. Assumes nothing.
use mathlib.Core.Path.{◌≡◌, refl, sym, ap, ◌∙◌}
use mathlib.Core.List.{List}
use Prim.Native.Nat.{ℕ, ◌+◌, ◌<◌, ◌≤◌}
use native.Mathlib.Nat.{add_assoc, add-zero, zero-add}
use native.Mathlib.Numerals.{add-one}
use native.Mathlib.Omega.{arith}
use lib.ListN.{length, get_or, drop, drop_of_length-le}
use lib.Seq.{drop-cons}
use Rattle.pace.specs.Script.{row_met}
use Rattle.pace.specs.Played.{Play, rows_met_from, buffer_from, rows_met, buffer_after}

-- a script played up to a place: the rows met so far and those that the rest meets make all, and the rest leaves the buffer that the whole does
abbrev pub SoFar : {Stored : Type 0} → Play Stored → List ℕ → List ℕ → List ℕ → Stored → ℕ → ℕ → Type 0
SoFar play script lent out p met at =
    (met ≤ at) × (at ≤ length script) × (length out ≡ length lent)
    × (met + rows_met_from play p out (drop at script) ≡ rows_met play lent script)
    × (buffer_from play p out (drop at script) ≡ buffer_after play lent script)

-- the beginning
pub begun : {Stored : Type 0} (play : Play Stored) (script lent : List ℕ) (p : Stored) → p ≡ play.first → SoFar play script lent lent p 0 0
begun play script lent p e = (
  omega arith,
  omega arith,
  refl,
  zero-add (rows_met_from play p lent script) ∙ ap (λ (q : _). rows_met_from play q lent script) e,
  ap (λ (q : _). buffer_from play q lent script) e,
)

module _ {Stored : Type 0} (play : Play Stored) (script lent out : List ℕ) (p : Stored) (met at : ℕ) (far : SoFar play script lent out p met at) where
  -- one turn more
  pub further : at < length script → (row : ℕ) (next : Stored) (left : List ℕ)
      → row ≡ play.row p (get_or script at 0) out → next ≡ play.next p (get_or script at 0) out → left ≡ play.buffer p (get_or script at 0) out
      → (n : ℕ) → n ≡ row_met row → n ≤ 1 → length left ≡ length out → SoFar play script lent left next (met + n) (at + 1)
  unfolding rows_met_from buffer_from
  further more row next left e f g n h low long =
      let here = drop-cons script at 0 more in
      let Met-all = ap (λ (rest : List ℕ). met + rows_met_from play p out rest) (sym here) ∙ far.3 in
      let left-all = ap (buffer_from play p out) (sym here) ∙ far.4 in (
        omega (arith, far.0),
        omega arith,
        long ∙ far.2,
        rw (h, e, f, g, add-one, add_assoc) Met-all,
        rw (f, g, add-one) left-all,
      )

  -- the end
  pub all-played : length script ≤ at → (met ≡ rows_met play lent script) × (out ≡ buffer_after play lent script)
  unfolding rows_met_from buffer_from
  all-played over =
      let none = drop_of_length-le script {i = at} over in (
        sym (add-zero met) ∙ ap (λ (rest : List ℕ). met + rows_met_from play p out rest) (sym none) ∙ far.3,
        ap (buffer_from play p out) (sym none) ∙ far.4,
      )
