-- The entries, joined one after the other, tell of the run.
use Rattle.std.proofs.Common.{ℕ, ◌≡◌, nat_lt, ap, ◌∙◌, rules}
use Rattle.reader.proofs.Runs.{all_joined, run-told}
use Rattle.reader.proofs.table.Table.run_of_digits.Goals as goal

pub returns : goal.returns
returns c =
    let e : c.fold-joined.result ≡ all_joined 0 c.args.run.now = search rules in
    ap (λ (n : ℕ). nat_lt n 16) e ∙ run-told 0 c.args.run.now
