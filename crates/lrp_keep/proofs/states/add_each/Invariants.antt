use Rattle.lrp_parts.specs.Derivations.{ground_of}
use Rattle.lrp_keep.proofs.EachDerived.{AreAddedBelow}
use Rattle.lrp_keep.proofs.states.add_each.Given as goal

-- with the row in the disjuncts so far
abbrev pub invariant-loop-number : goal.invariant-loop-number
invariant-loop-number l = AreAddedBelow (ground_of l.setting) l.of.disjuncts.items l.key l.number l.derived.items
