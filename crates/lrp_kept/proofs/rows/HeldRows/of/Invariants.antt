use Rattle.std.proofs.Common.{take}
use Rattle.std.specs.List.{AllZip}
use Rattle.lrp_kept.specs.Keyed.{IsEmptyRelation}
use Rattle.lrp_kept.proofs.rows.HeldRows.of.Given as goal

-- the relations so far
abbrev pub invariant-loop-i : goal.invariant-loop-i
invariant-loop-i l = AllZip IsEmptyRelation (take l.i l.database) l.relations.items
