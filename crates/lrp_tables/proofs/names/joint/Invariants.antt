-- What is left to be joined to those so far makes the same list.
use Rattle.std.proofs.Common.{◌≡◌, drop}
use Rattle.lrp_tables.specs.Columns.{joint}
use Rattle.lrp_tables.proofs.names.joint.Given as goal

abbrev pub invariant-loop-name : goal.invariant-loop-name
invariant-loop-name l = joint l.made (drop l.name-index l.more) ≡ joint l.names l.more
