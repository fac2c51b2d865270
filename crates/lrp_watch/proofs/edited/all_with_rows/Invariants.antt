use Rattle.std.proofs.Common.{◌≡◌, map, take}
use Rattle.lrp_keep.specs.Replaced.{with_rows}
use Rattle.lrp_watch.proofs.edited.all_with_rows.Given as goal

-- the relations so far were added
abbrev pub invariant-loop-relation : goal.invariant-loop-relation
invariant-loop-relation l = l.all.items ≡ map (with_rows l.rows l.name) (take l.relation-index l.relations)
