-- Both lines are readable: the number is 10 where neither is chosen, else 0. Assumes nothing.
use Rattle.std.proofs.Common.{◌≡◌, sym, ◌∙◌, arith, Some}
use Rattle.chooser.specs.Choice.{chosen_number, choice_number}
use Rattle.chooser.specs.declared.Winner.{Winner}
use Rattle.chooser.specs.declared.Winner.TheVariants.{First, Second}
use Rattle.chooser.proofs.Laws.{neither-line, one_line}
use Rattle.chooser.proofs.choose_number.Goals as goal

-- the number of a winner is not 0
winner-not-0 : (w : Winner) → chosen_number (Some w) ≡ 0 → ⊥
winner-not-0 First e = omega arith
winner-not-0 Second e = omega arith

pub returns-in-Some : goal.returns-in-Some
unfolding choice_number
returns-in-Some c =
    let one = one_line c.args.first.now c.args.second.now (λ e. winner-not-0 c.in-Some.field-0 (c.in-Some.ensures ∙ e)) in
    rw (one, ← c.in_ok-check_line.ensures, ← c.in_ok-check_line-2.ensures)

pub returns-in-None : goal.returns-in-None
unfolding choice_number
returns-in-None c =
    rw (neither-line c.args.first.now c.args.second.now (sym c.in-None.ensures), ← c.in_ok-check_line.ensures, ← c.in_ok-check_line-2.ensures)
