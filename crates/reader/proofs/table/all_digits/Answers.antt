-- The table has the rule, which is tested at all of its 256 entries; the bytes are the few and the eights.
use Rattle.std.proofs.Common.{Bool, ◌&&◌, rules, sym, ap, ◌∙◌}
use Rattle.frame.specs.Digits.{all_digits}
use Rattle.reader.proofs.Hex.{all_behind}
use Rattle.reader.proofs.Runs.{entries}
use Rattle.reader.proofs.table.all_digits.Goals as goal

pub new-table-requires : goal.new-table-requires
new-table-requires c = search (rules, entries)

pub returns-then-few_digits : goal.returns-then-few_digits
returns-then-few_digits c =
    let few = c.split_at.result.0.now in
    let eights = c.split_at.result.1.now in
    c.eights_of_digits.ensures
    ∙ sym (ap all_digits c.split_at.ensures.by_index.0 ∙ all_behind few eights
    ∙ ap (λ (b : Bool). b && all_digits eights) (sym c.few_digits.ensures ∙ c.if-few_digits.true))

pub returns-else-few_digits : goal.returns-else-few_digits
returns-else-few_digits c =
    let few = c.split_at.result.0.now in
    let eights = c.split_at.result.1.now in
    c.if-few_digits.false
    ∙ sym (ap all_digits c.split_at.ensures.by_index.0 ∙ all_behind few eights
    ∙ ap (λ (b : Bool). b && all_digits eights) (sym c.few_digits.ensures ∙ c.if-few_digits.false))
