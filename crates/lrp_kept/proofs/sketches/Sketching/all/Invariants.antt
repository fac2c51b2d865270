use Rattle.lrp_kept.specs.Sketches.{AreSketchesOf}
use Rattle.lrp_kept.proofs.sketches.Sketching.all.Given as goal

abbrev pub invariant-loop-disjunct : goal.invariant-loop-disjunct
invariant-loop-disjunct l = AreSketchesOf l.self.domain.now l.self.disjuncts.now l.self.relation l.self.row.now l.all.items
