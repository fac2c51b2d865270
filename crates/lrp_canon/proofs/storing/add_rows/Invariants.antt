-- The first rows are added.
use Rattle.std.proofs.Common.{take}
use Rattle.lrp_canon.specs.Making.{AddsRows}
use Rattle.lrp_canon.proofs.storing.add_rows.Given as goal

abbrev pub invariant-loop-row : goal.invariant-loop-row
invariant-loop-row l = AddsRows l.group (take l.row-index l.rows) l.initial.out l.out
