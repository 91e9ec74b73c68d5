-- The three cases of a line to write. Assumes nothing.
use Rattle.std.proofs.Common.{sym, ap, ◌∙◌, arith}
use Rattle.frame.specs.Layout.{digits_of}
use Rattle.writer.proofs.Stores.{gives, unranged, no_room, room}
use Rattle.writer.proofs.write_line.Goals as goal

-- a field out of its range: both clauses
refused : (c : goal.Then-not-in_range) → gives c.args.frame.message c.args.frame.media c.args.out.now 5 0 c.args.out.now
refused c = unranged _ _ _ (sym c.in_range.ensures ∙ c.if-not-in_range.true)

pub returns-then-not-in_range-clause-value : goal.returns-then-not-in_range-clause-value
returns-then-not-in_range-clause-value c = (refused c).0

pub returns-then-not-in_range-clause-out_after : goal.returns-then-not-in_range-clause-out_after
returns-then-not-in_range-clause-out_after c = (refused c).1

-- no room: both clauses
short : (c : goal.Then-out-count) → gives c.args.frame.message c.args.frame.media c.args.out.now 6 0 c.args.out.now
short c = no_room _ _ _ (sym c.in_range.ensures ∙ c.if-not-in_range.false) (omega (arith, ap digits_of c.kind.ensures))

pub returns-then-out-count-clause-value : goal.returns-then-out-count-clause-value
returns-then-out-count-clause-value c = (short c).0

pub returns-then-out-count-clause-out_after : goal.returns-then-out-count-clause-out_after
returns-then-out-count-clause-out_after c = (short c).1

pub returns-clause-value : goal.returns-clause-value
returns-clause-value c =
    rw (c.digits-count.ensures, c.kind.ensures) (room c.args.frame.message c.args.frame.media c.args.out.now (sym c.in_range.ensures ∙ c.if-not-in_range.false) (omega (arith, ap digits_of c.kind.ensures))).0

pub returns-clause-out_after : goal.returns-clause-out_after
returns-clause-out_after c =
    rw (c.put_frame.ensures, c.digits-count.ensures, c.kind.ensures)
    (room c.args.frame.message c.args.frame.media c.args.out.now (sym c.in_range.ensures ∙ c.if-not-in_range.false) (omega (arith, ap digits_of c.kind.ensures))).1
