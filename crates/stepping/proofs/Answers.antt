-- The cases of a step of either machine: refused by a test, refused by the row, refused by the writer, carried out. Assumes nothing.
use Prim.Native.Nat.{ℕ}
use mathlib.Core.Path.{◌≡◌, refl}
use mathlib.Core.List.{List, []}
use mathlib.Core.Bool.{Bool, true, false, cond}
use native.Mathlib.Omega.{arith}
use lib.ListN.{length}
use lib.Dec.{eqb}
use borrow.Author.Tests.{eq-eqb, ne_eqb, eqb-true, eqb-false}
use Rattle.frame.specs.Refusal.{refusal_number}
use Rattle.frame.specs.declared.Media.{Media}
use Rattle.frame.specs.declared.refusal.Refusal.{Refusal}
use Rattle.frame.specs.declared.refusal.Refusal.TheVariants.{NotEnded, NotDigits, NoKind, WrongLength, WrongField, NoRoom, WrongSetting, WrongArgument, NotWellFormed, NoChoice}
use Rattle.writer.specs.Lent.{lent_after}
use Rattle.call.specs.declared.Settings.{Settings}
use Rattle.call.specs.declared.Input.{Input}
use Rattle.std.specs.Prelude.{Option}
use Rattle.frame.specs.declared.Message.{Message}
use Rattle.stepping.specs.Numbers.{number_before_row, number_of_tests, number_sending}
use Rattle.stepping.specs.Sending.{line_sent, send_number, send_told, send_buffer}
use Rattle.stepping.proofs.Stepping.{tests-parts}

-- what holds of an answer that is carried out and of one that refuses holds of the answer
pub by_cases : {A : Type 0} (n : ℕ) (moved : A) (refused : ℕ → A) (P : A → Type 0) → (n ≡ 0 → P moved) → ((n ≡ 0 → ⊥) → P (refused n))
    → P (cond (eqb n 0) moved (refused n))
by_cases n moved refused P f g = go (eqb n 0) refl
  where
    go : (b : Bool) → eqb n 0 ≡ b → P (cond b moved (refused n))
    go true t = f (eqb-true n 0 t)
    go false t = g (eqb-false n 0 t)

-- no refusal has the number 0
pub refusal-given : (refusal : Refusal) → refusal_number refusal ≡ 0 → ⊥
refusal-given refusal e = eqb-false (refusal_number refusal) 0 (go refusal) e
  where
    go : (refusal : Refusal) → eqb (refusal_number refusal) 0 ≡ false
    go NotEnded = refl
    go NotDigits = refl
    go NoKind = refl
    go WrongLength = refl
    go WrongField = refl
    go NoRoom = refl
    go WrongSetting = refl
    go WrongArgument = refl
    go NotWellFormed = refl
    go NoChoice = refl

-- where nothing is written, every byte is as lent
pub nothing_lent : (n : ℕ) (out : List ℕ) → lent_after n [] out ≡ out
nothing_lent n out = go (eqb n 0)
  where
    go : (b : Bool) → cond b out out ≡ out
    go true = refl
    go false = refl

-- the length told of what is written
pub told-length : (sent : Option Message) (media : Media) (out : List ℕ) → send_number sent media out ≡ 0 → (send_told sent media out).length ≡ length (line_sent sent media)
told-length sent media out w = rw w refl

module _ (s : Settings) (is_well_formed : Bool) (i : Input) (by_row : Bool) (sent : Option Message) (media : Media) (out : List ℕ) {A : Type 0} (refused : ℕ → A) (moved : A) where
  -- the number before a row is looked for
  abbrev before : ℕ
  before = number_before_row s is_well_formed i

  -- the number of the step
  abbrev number : ℕ
  number = number_sending (number_of_tests s is_well_formed i by_row) sent media out

  -- an answer and a buffer are those of the step
  abbrev pub Answers : A → List ℕ → Type 0
  Answers r after = (r ≡ cond (eqb number 0) moved (refused number)) × (after ≡ lent_after number (line_sent sent media) out)

  -- a number that is not 0 refuses
  refuses : (n : ℕ) → number ≡ n → (n ≡ 0 → ⊥) → Answers (refused n) out
  refuses n e f = rw (e, ne_eqb n 0 f) (refl, refl)

  -- refused before a row is looked for
  pub refused-first : (before ≡ 0 → ⊥) → Answers (refused before) out
  refused-first f = refuses before (rw (tests-parts s is_well_formed i by_row, ne_eqb before 0 f, ne_eqb before 0 f)) f

  -- refused by the row
  pub refused-by-row : before ≡ 0 → by_row ≡ true → Answers (refused 8) out
  refused-by-row e t = refuses 8 (rw (tests-parts s is_well_formed i by_row, eq-eqb before 0 e, t)) (λ z. omega arith)

  -- past the tests the writer has its say
  past-tests : before ≡ 0 → by_row ≡ false → number ≡ send_number sent media out
  past-tests e t = rw (tests-parts s is_well_formed i by_row, eq-eqb before 0 e, t)

  -- refused by the writer
  pub refused-sending : before ≡ 0 → by_row ≡ false → (send_number sent media out ≡ 0 → ⊥)
      → Answers (refused (send_number sent media out)) (send_buffer sent media out)
  refused-sending e t f = rw (ne_eqb (send_number sent media out) 0 f) (refuses (send_number sent media out) (past-tests e t) f)

  -- carried out
  pub carried-out : before ≡ 0 → by_row ≡ false → send_number sent media out ≡ 0 → Answers moved (send_buffer sent media out)
  carried-out e t w = rw (past-tests e t, w) (refl, refl)
