use Rattle.std.proofs.Common.{sym, subst}
use Rattle.std.specs.Prelude.{IfOk}
use Rattle.lrp_kept.specs.Sketches.{AreSketchesOf, CanBeSketched}
use Rattle.lrp_keep.proofs.kept_query.KeptQuery.source.Goals as goal

pub of-requires : goal.of-requires
of-requires c = subst (λ ds. CanBeSketched ds c.args.relation c.args.row.now) (sym c.deref.ensures.value) c.requires

pub returns-clause-sketches : goal.returns-clause-sketches
returns-clause-sketches c = subst (λ ds. IfOk c.of.result (λ made. AreSketchesOf c.args.self.now.domain ds c.args.relation c.args.row.now made.sketches.items)) c.deref.ensures.value c.of.ensures.sketches
