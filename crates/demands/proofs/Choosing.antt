-- The chooser's numbers are given exactly when, in the order told. Assumes nothing.
use mathlib.Core.Path.{◌≡◌, refl, sym, ap, subst}
use mathlib.Core.Logic.Iff
use mathlib.Core.List.{List, [], ◌∷◌}
use mathlib.Core.Bool.{Bool, not, ◌&&◌, ◌||◌}
use Prim.Native.Nat.{ℕ, zero, suc, ◌≤◌}
use native.Mathlib.Omega.{arith}
use lib.Dec.{eqb}
use borrow.Author.Tests.{not-true}
use Rattle.frame.specs.Number.{first_given}
use Rattle.reader.specs.Line.{line_number}
use Rattle.reader.proofs.LineNumbers.{line-number-at-most}
use Rattle.chooser.specs.Choice.{lines_choosable, number_between, choice_number}
use Rattle.chooser.specs.NoChoice.{NoChoice}
use Rattle.chooser.proofs.Lines.{no-choice}
use Rattle.demands.specs.ExactlyWhen.{GivenExactlyWhen, LineRefused, choice_table}
use Rattle.demands.proofs.Reflects.{Reflects, eqb-reflects, and-reflects, or-reflects}
use Rattle.demands.proofs.Tables.{Row, Right, table-exactly}

-- one of two lines has this number, and the second's counts where the first has none
abbrev has : ℕ → ℕ → ℕ → Bool
has k m n = eqb m k || (eqb m 0 && eqb n k)

-- the tests by the numbers of the two lines and by whether one can choose
abbrev by_numbers : ℕ → ℕ → Bool → List (ℕ × Bool)
by_numbers m n good = (1, has 1 m n) ∷ (2, has 2 m n) ∷ (3, has 3 m n) ∷ (4, has 4 m n) ∷ (5, has 5 m n) ∷ (10, not good) ∷ []

-- the first of them that is given is the chooser's number
number_by : (m n : ℕ) (good : Bool) → m ≤ 5 → n ≤ 5 → number_between m n good ≡ first_given (by_numbers m n good)
number_by zero zero good h k = refl
number_by zero (suc zero) good h k = refl
number_by zero (suc (suc zero)) good h k = refl
number_by zero (suc (suc (suc zero))) good h k = refl
number_by zero (suc (suc (suc (suc zero)))) good h k = refl
number_by zero (suc (suc (suc (suc (suc zero))))) good h k = refl
number_by zero (suc (suc (suc (suc (suc (suc n)))))) good h k = let z : ⊥ = omega arith in absurd z
number_by (suc zero) n good h k = refl
number_by (suc (suc zero)) n good h k = refl
number_by (suc (suc (suc zero))) n good h k = refl
number_by (suc (suc (suc (suc zero)))) n good h k = refl
number_by (suc (suc (suc (suc (suc zero))))) n good h k = refl
number_by (suc (suc (suc (suc (suc (suc m)))))) n good h k = let z : ⊥ = omega arith in absurd z

-- 1 to 5
line-reflects : (k : ℕ) (first second : List ℕ) → Reflects (has k (line_number first) (line_number second)) (LineRefused k first second)
line-reflects k first second =
    or-reflects (eqb (line_number first) k) (eqb (line_number first) 0 && eqb (line_number second) k) (eqb-reflects (line_number first) k)
    (and-reflects (eqb (line_number first) 0) (eqb (line_number second) k) (eqb-reflects (line_number first) 0) (eqb-reflects (line_number second) k))

-- 10
choice-reflects : (first second : List ℕ) → Reflects (not (lines_choosable first second)) (NoChoice first second)
choice-reflects first second = Iff.trans (not-true (lines_choosable first second), λ e. ap not e) (no-choice first second)

-- a number of the first line, else one of the second, else 10
pub choose-number-exactly-when : (first second : List ℕ) → GivenExactlyWhen (choice_number first second) (choice_table first second)
unfolding choice_number
choose-number-exactly-when first second =
    subst (λ (n : ℕ). GivenExactlyWhen n (choice_table first second))
    (sym (number_by (line_number first) (line_number second) (lines_choosable first second) (line-number-at-most first) (line-number-at-most second)))
    (table-exactly rows refl right)
  where
    rows : List Row
    rows =
        (1, has 1 (line_number first) (line_number second), LineRefused 1 first second)
        ∷ (2, has 2 (line_number first) (line_number second), LineRefused 2 first second)
        ∷ (3, has 3 (line_number first) (line_number second), LineRefused 3 first second)
        ∷ (4, has 4 (line_number first) (line_number second), LineRefused 4 first second)
        ∷ (5, has 5 (line_number first) (line_number second), LineRefused 5 first second)
        ∷ (10, not (lines_choosable first second), NoChoice first second)
        ∷ []

    right : Right (Unit {0}) rows
    right =
        (λ b. line-reflects 1 first second, (λ b. line-reflects 2 first second, (λ b. line-reflects 3 first second, (λ b. line-reflects 4 first second, (λ b. line-reflects 5 first second, (λ b. choice-reflects first second, tt))))))
