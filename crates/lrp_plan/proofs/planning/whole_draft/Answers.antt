use Rattle.std.proofs.Common.{subst, sym}
use Rattle.lrp_core.specs.Cores.{core_of}
use Rattle.lrp_plan.specs.Elements.{AreInner}
use Rattle.lrp_core.proofs.TreeViews.{inner_known}
use Rattle.lrp_plan.proofs.Whole.{whole_follows}
use Rattle.lrp_plan.proofs.planning.whole_draft.Goals as goal

pub returns : goal.returns
returns c =
    whole_follows c.args.sources.now (core_of c.args.core.now) c.args.period.number c.new-draft.result c.plan_core.new.draft c.extend.new.self c.new-draft.ensures.steps c.new-draft.ensures.number c.new-draft.ensures.period c.new-draft.ensures.reach (λ M K s can. c.in_ok-plan_core.ensures M K s (subst (λ ts. AreInner ts (core_of c.args.core.now)) (sym c.deref.ensures.value) (inner_known c.in_ok-tree.tree (core_of c.args.core.now) c.in_ok-tree.ensures)) can) c.in_ok-extend.ensures
