use Rattle.std.proofs.Common.{sym, subst}
use Rattle.std.specs.Prelude.{IfSome}
use Rattle.lrp_kept.specs.Sketches.{AreSketchesOf, IsSketchAmong}
use Rattle.lrp_kept.proofs.Sketched.{one_sketched}
use Rattle.lrp_kept.proofs.sketches.Sketching.with_atom.Goals as goal

pub returns : goal.returns
returns c = subst (AreSketchesOf c.args.self.now.domain.now c.args.self.now.disjuncts.now c.args.self.now.relation c.args.self.now.row.now) (sym c.in_ok-push.ensures.items) (one_sketched c.args.self.now.domain.now c.args.self.now.disjuncts.now c.args.self.now.relation c.args.self.now.row.now c.args.before.items c.in-Some.sketch c.requires.before (subst (λ o. IfSome o (IsSketchAmong c.args.self.now.domain.now c.args.self.now.disjuncts.now c.args.self.now.relation c.args.self.now.row.now)) c.in-Some.is c.in_ok-sketch.ensures))
