-- An answer is known by its number. Assumes nothing.
use mathlib.Core.Path.{◌≡◌, refl, sym, ap, ◌∙◌}
use mathlib.Core.Bool.{false, cond}
use Prim.Native.Nat.{ℕ}
use lib.Dec.{eqb}
use Rattle.std.specs.Prelude.{Result, Ok, Err}
use Rattle.frame.specs.Refusal.{refusal_number, number_of}
use Rattle.frame.specs.declared.refusal.Refusal.{Refusal}
use Rattle.frame.specs.declared.refusal.Refusal.TheVariants.{NotEnded, NotDigits, NoKind, WrongLength, WrongField, NoRoom, WrongSetting, WrongArgument, NotWellFormed, NoChoice}

-- the refusal with a number
abbrev pub refusal_with : ℕ → Refusal
refusal_with n =
    cond (eqb n 1) NotEnded
    (cond (eqb n 2) NotDigits
    (cond (eqb n 3) NoKind
    (cond (eqb n 4) WrongLength
    (cond (eqb n 5) WrongField
    (cond (eqb n 6) NoRoom
    (cond (eqb n 7) WrongSetting (cond (eqb n 8) WrongArgument (cond (eqb n 9) NotWellFormed NoChoice))))))))

-- a refusal is the one with its number
pub refusal-with : (r : Refusal) → refusal_with (refusal_number r) ≡ r
refusal-with NotEnded = refl
refusal-with NotDigits = refl
refusal-with NoKind = refl
refusal-with WrongLength = refl
refusal-with WrongField = refl
refusal-with NoRoom = refl
refusal-with WrongSetting = refl
refusal-with WrongArgument = refl
refusal-with NotWellFormed = refl
refusal-with NoChoice = refl

-- no refusal has the number 0
pub refusal-not-0 : (r : Refusal) → eqb (refusal_number r) 0 ≡ false
refusal-not-0 NotEnded = refl
refusal-not-0 NotDigits = refl
refusal-not-0 NoKind = refl
refusal-not-0 WrongLength = refl
refusal-not-0 WrongField = refl
refusal-not-0 NoRoom = refl
refusal-not-0 WrongSetting = refl
refusal-not-0 WrongArgument = refl
refusal-not-0 NotWellFormed = refl
refusal-not-0 NoChoice = refl

-- an answer, from its number and what it has where that is 0
abbrev pub answer_with : {A : Type 0} → A → ℕ → Result A Refusal
answer_with x n = cond (eqb n 0) (Ok x) (Err (refusal_with n))

-- a refusal as an answer
abbrev wrap : (A : Type 0) → Refusal → Result A Refusal
wrap A r = Err r

-- a refusal is what its number says, whatever stands beside it
pub refused-with : {A : Type 0} (x : A) (r : Refusal) → answer_with x (refusal_number r) ≡ Err r
refused-with {A} x r = rw (refusal-not-0 r) (ap (wrap A) (refusal-with r))

-- an answer that has nothing but its number
pub answer-with : (a : Result (Unit {0}) Refusal) → answer_with tt (number_of a) ≡ a
answer-with (Ok tt) = refl
answer-with (Err r) = refused-with tt r

-- two of them with one number are one
pub same-answer : (a b : Result (Unit {0}) Refusal) → number_of a ≡ number_of b → a ≡ b
same-answer a b e = sym (answer-with a) ∙ ap (answer_with tt) e ∙ answer-with b
