-- `log_lines::first_line_length`: the first line ends near the front, or behind it as the search says. Assumes nothing.
use mathlib.Core.Path.{sym, ◌∙◌}
use Rattle.std.proofs.Common.{rules, tests, arith}
use Rattle.std.proofs.lemmas.Iterator.{YieldsList-from_slice}
use Rattle.std.proofs.lemmas.Iterator.Search.{position_from_yields_List}
use Rattle.log_lines.specs.Lines.{is_end}
use Rattle.log_lines.proofs.Lines.{first-found, first-passed, first_length}
use Rattle.log_lines.proofs.first_line_length.Goals as goal

pub returns-in-Some-clause-value : goal.returns-in-Some-clause-value
returns-in-Some-clause-value c =
    let near = c.split_at.result.0.now in
    let found = position_from_yields_List is_end _ _ _ c.position.ensures.ran (YieldsList-from_slice near cc) (λ x b q k. search (rules, tests)) in
    sym (first-found c.args.part.now near c.split_at.result.1.now c.in-Some.at c.split_at.ensures.by_index.0 (sym found ∙ c.in-Some.is))

pub returns-in-None-clause-value : goal.returns-in-None-clause-value
returns-in-None-clause-value c =
    let near = c.split_at.result.0.now in
    let far = c.split_at.result.1.now in
    let found = position_from_yields_List is_end _ _ _ c.position.ensures.ran (YieldsList-from_slice near cc) (λ x b q k. search (rules, tests)) in
    let passed = first-passed c.args.part.now near far c.split_at.ensures.by_index.0 (sym found ∙ c.in-None.is) in
    let behind = first_length far c.memchr.result c.memchr.ensures in
    let told = c.map_or.ensures in
    search (rules, arith, passed, behind, told)
