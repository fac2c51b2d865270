use Rattle.lrp_keep.specs.States.{ground_at}
use Rattle.lrp_keep.proofs.EachDerived.{AreDerivedBelow}
use Rattle.lrp_keep.proofs.kept_query.KeptQuery.derive_all.Given as goal

-- the disjuncts so far are derived
abbrev pub invariant-loop-disjunct : goal.invariant-loop-disjunct
invariant-loop-disjunct l = AreDerivedBelow (ground_at l.fn.self l.fn.rows l.fn.period.number) l.fn.self.disjuncts.items l.disjunct-index l.all.items
