-- What was read is never more than there is room for.
use Rattle.std.proofs.Common.{◌≤◌}
use Rattle.lines.proofs.read_full.Given as goal

abbrev pub invariant-loop : goal.invariant-loop
invariant-loop g l = l.length ≤ 65536
