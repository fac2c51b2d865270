-- The names so far stand in order.
use Rattle.std.proofs.Common.{◌≡◌, map, take}
use Rattle.indexmap.specs.IndexSet.{keys}
use Rattle.lrp_database.proofs.database.names_of.Given as goal

abbrev pub invariant-loop-relation : goal.invariant-loop-relation
invariant-loop-relation l = keys l.names ≡ take l.relation-index (map (λ r. r.name) l.relations)
