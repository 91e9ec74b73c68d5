-- What it is for a contract to leave no choice. Assumes nothing.
use Rattle.std.specs.Prelude.{◌≡◌}

-- A contract by its own reading: what a caller must show of the arguments (`Asked`), and what it learns of the arguments, the result and the parameters
-- at exit (`Learnt`). `told` is what the result tells, for a slice its place and bytes, and `lent` what a lent buffer holds at exit.
pub record OneAnswer {A R T S L : Type 0} (Asked : A → Type 0) (Learnt : A → R → T → Type 0) (told : R → S) (lent : T → L) : Type 0 where
  -- nothing is asked: whatever comes in gets an answer
  pub asks_nothing : (a : A) → Asked a
  -- any two results are one
  pub one_result : (a : A) (r q : R) (s t : T) → Learnt a r s → Learnt a q t → told r ≡ told q
  -- and what was lent is one, at exit
  pub one_exit : (a : A) (r q : R) (s t : T) → Learnt a r s → Learnt a q t → lent s ≡ lent t
