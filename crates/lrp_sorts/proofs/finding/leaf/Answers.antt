use Rattle.std.proofs.Common.{sym, subst}
use Rattle.lrp_model.specs.RawQueries.{raw_kind}
use Rattle.lrp_sorts.specs.Leaves.{ShowsOn}
use Rattle.lrp_sorts.proofs.RawNodes.{if_ok_then}
use Rattle.lrp_sorts.proofs.finding.leaf.Goals as goal

pub returns-in-Compare : goal.returns-in-Compare
returns-in-Compare c =
    if_ok_then c.comparison.result _ _ c.comparison.ensures (λ made h.
    subst (λ k. ShowsOn c.args.catalog.now c.args.scope.now c.args.before (raw_kind k c.args.f.now.place) made) (sym c.in-Compare.is) (h c.args.catalog.now c.args.f.now.place))

pub returns-in-Member : goal.returns-in-Member
returns-in-Member c =
    if_ok_then c.membership.result _ _ c.membership.ensures (λ made h.
    subst (λ k. ShowsOn c.args.catalog.now c.args.scope.now c.args.before (raw_kind k c.args.f.now.place) made) (sym c.in-Member.is) (h c.args.catalog.now c.args.f.now.place c.in-Member.point))
