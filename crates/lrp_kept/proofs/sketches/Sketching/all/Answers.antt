use Rattle.std.proofs.Common.{sym, subst}
use Rattle.lrp_kept.proofs.Sketched.{contained_read, none_sketched}
use Rattle.lrp_kept.specs.Sketches.{AreSketchesOf}
use Rattle.lrp_kept.proofs.sketches.Sketching.all.Goals as goal

pub loop-disjunct-init : goal.loop-disjunct-init
loop-disjunct-init c = subst (AreSketchesOf c.args.self.now.domain.now c.args.self.now.disjuncts.now c.args.self.now.relation c.args.self.now.row.now) (sym c.new-all.ensures.items) (none_sketched c.args.self.now.domain.now c.args.self.now.disjuncts.now c.args.self.now.relation c.args.self.now.row.now)

pub with_disjunct-requires-clause-listed : goal.with_disjunct-requires-clause-listed
with_disjunct-requires-clause-listed c = contained_read c.args.self.now.disjuncts.now c.loop-disjunct.disjunct-index c.disjunct-item.result c.loop-disjunct-test.true c.disjunct-item.is
