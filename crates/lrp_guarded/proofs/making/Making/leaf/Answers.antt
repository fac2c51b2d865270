use Rattle.std.proofs.Common.{refl, subst}
use Rattle.lrp_core.specs.Cores.{core_of}
use Rattle.lrp_guarded.proofs.Drops.{leaf_makes}
use Rattle.lrp_guarded.proofs.making.Making.leaf.Goals as goal

pub returns : goal.returns
returns c = leaf_makes (core_of c.args.core.now) c.args.self.now _ c.plan_leaf.new.draft c.in_ok-columns.columns c.in_ok-columns.ensures.value c.in_ok-plan_leaf.ensures refl refl c.in_ok-push.ensures.items
