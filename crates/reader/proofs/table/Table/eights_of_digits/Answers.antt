-- Each eight is a run ahead of the rest, and where no eight is left nothing is.
use Rattle.std.proofs.Common.{Bool, ◌&&◌, ◌≡◌, [], length, sym, ap, ◌∙◌, arith, length-append}
use Rattle.std.proofs.lemmas.List.{nil_from_length}
use Rattle.frame.specs.Digits.{all_digits}
use Rattle.reader.proofs.Hex.{all_behind}
use Rattle.reader.proofs.table.Table.eights_of_digits.Goals as goal

pub returns-then-not-run_of_digits : goal.returns-then-not-run_of_digits
returns-then-not-run_of_digits c =
    let inv = c.loop-eight.invariant in
    let eight = c.in-Some.eight.now in
    let rest = c.next.new.self.rest.now in
    let steps = c.in-Some.ensures.steps in
    sym (sym inv.2 ∙ ap all_digits steps.1.0 ∙ all_behind eight rest
    ∙ ap (λ (b : Bool). b && all_digits rest) (sym c.run_of_digits.ensures ∙ c.if-not-run_of_digits.true))

pub loop-eight-preserved : goal.loop-eight-preserved
loop-eight-preserved c =
    let inv = c.loop-eight.invariant in
    let eight = c.in-Some.eight.now in
    let rest = c.next.new.self.rest.now in
    let steps = c.in-Some.ensures.steps in
    let n = ap length steps.1.0 ∙ length-append eight rest in (
      steps.0 ∙ inv.0,
      omega arith,
      sym (ap all_digits steps.1.0 ∙ all_behind eight rest
          ∙ ap (λ (b : Bool). b && all_digits rest) (sym c.run_of_digits.ensures ∙ c.if-not-run_of_digits.false)) ∙ inv.2,
    )

pub returns : goal.returns
unfolding all_digits
returns c =
    let inv = c.loop-eight.invariant in
    let steps = c.in-None.ensures.steps in
    let rest = c.loop-eight.eight-iterator.rest.now in
    let none : rest ≡ [] = nil_from_length rest (omega (arith, steps.1.0, inv.0, inv.1)) in
    sym (ap all_digits none) ∙ inv.2
