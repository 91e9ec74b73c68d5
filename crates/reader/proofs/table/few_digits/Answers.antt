-- Every byte is compared.
use Rattle.std.proofs.Common.{◌↔◌, IsTrue, EachIndex, slice_index, rules}
use Rattle.frame.specs.Digits.{is_digit}
use Rattle.reader.proofs.Runs.{each_told}
use Rattle.reader.proofs.table.few_digits.Goals as goal

pub returns : goal.returns
returns c =
    let l = c.args.bytes.now in
    let e : IsTrue c.all.result ↔ EachIndex l (λ k. IsTrue (is_digit (slice_index l k))) = search rules in
    each_told c.all.result l e
