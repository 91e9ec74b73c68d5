-- What a choice asks of two calls decides it. Assumes nothing.
use Rattle.std.proofs.Common.{sym, ◌∙◌}
use Rattle.chooser.proofs.Laws.{by-asked}
use Rattle.chooser.proofs.choice.Goals as goal

pub returns-in-Some-Some : goal.returns-in-Some-Some
returns-in-Some-Some c =
    c.calls_choice.ensures
    ∙ by-asked _ _ c.args.first.now c.args.second.now (sym c.in-Some-Some.is-0 ∙ c.line_announced-one.ensures) (sym c.in-Some-Some.is-1 ∙ c.line_announced-other.ensures)
