-- A writer's answer is known by what it tells. Assumes nothing.
use mathlib.Core.Path.{◌≡◌, refl, sym, ap, ◌∙◌}
use Prim.Native.Nat.{ℕ}
use Rattle.std.specs.Prelude.{Result, Ok, Err}
use Rattle.frame.specs.declared.refusal.Refusal.{Refusal}
use Rattle.frame.proofs.Refusals.{answer_with, refused-with}
use Rattle.writer.specs.Lent.{Written, told_by}

-- the answer that tells this
abbrev pub answer_telling : Written → Result ℕ Refusal
answer_telling told = answer_with told.length told.number

-- an answer is the one that tells what it tells
pub answer-telling : (a : Result ℕ Refusal) → answer_telling (told_by a) ≡ a
answer-telling (Ok n) = refl
answer-telling (Err r) = refused-with 0 r

-- two answers that tell the same are one
pub same-told : (a b : Result ℕ Refusal) → told_by a ≡ told_by b → a ≡ b
same-told a b e = sym (answer-telling a) ∙ ap answer_telling e ∙ answer-telling b
