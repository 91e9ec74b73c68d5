-- What shows that a contract leaves one answer, for the files beside this one. Assumes nothing.
use mathlib.Core.Path.{◌≡◌, refl, sym, ◌∙◌}
use Rattle.promises.specs.OneAnswer.{OneAnswer}

-- what equals the same thing is equal
pub same : {A : Type 0} {x a b : A} → a ≡ x → b ≡ x → a ≡ b
same p q = p ∙ sym q

module _ {A R T S : Type 0} {Asked : A → Type 0} {Learnt : A → R → T → Type 0} {told : R → S} where
  -- a function that is lent nothing to write in
  pub result-alone : ((a : A) → Asked a) → ((a : A) (r q : R) (s t : T) → Learnt a r s → Learnt a q t → told r ≡ told q)
      → OneAnswer Asked Learnt told (λ t. tt {0})
  result-alone asks one = record { asks_nothing = asks; one_result = one; one_exit = λ a r q s t x y. refl }
