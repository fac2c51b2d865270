use Rattle.lrp_kept.specs.Sketches.{AreSketchesOf}
use Rattle.lrp_kept.proofs.sketches.Sketching.with_disjunct.Given as goal

abbrev pub invariant-loop-atom : goal.invariant-loop-atom
invariant-loop-atom l = AreSketchesOf l.self.domain.now l.self.disjuncts.now l.self.relation l.self.row.now l.all.items
