use Rattle.std.proofs.Common.{map, take}
use Rattle.lrp_sorts.specs.Definitions.{AreMarked}
use Rattle.lrp_sorts.proofs.definitions.initials_of.Given as goal

-- the names of the relations so far are marked
abbrev pub invariant-loop-i : goal.invariant-loop-i
invariant-loop-i l = AreMarked l.initials.value (map (λ r. r.name) (take l.i l.db))
