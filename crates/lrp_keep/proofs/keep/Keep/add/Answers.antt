-- The name is that of a relation, and the row can be held in it.
use Rattle.std.proofs.Common.{sym, subst, ap, ◌∙◌}
use Rattle.lrp_keep.specs.Keeps.{CanBeAdded, KeepView, with_added, StaysWithinLimits}
use Rattle.lrp_keep.proofs.Naming.{can_be_added_at, known_name}
use Rattle.lrp_keep.proofs.Standing.{ok_then}
use Rattle.lrp_keep.proofs.keep.Keep.add.Goals as goal

pub add-requires-clause-row : goal.add-requires-clause-row
add-requires-clause-row c =
    can_be_added_at c.self.inside.of c.self.inside.state c.in-Some.relation c.args.relation.now c.args.row.now c.self.invariant
    (subst (λ (k : KeepView). CanBeAdded k c.args.relation.now c.args.row.now) (sym c.self.view_is) c.requires) c.in-Some.ensures.some

pub unreachable-requires : goal.unreachable-requires
unreachable-requires c =
    c.in-None.ensures.none (known_name c.self.inside.of c.self.inside.state c.args.relation.now c.args.row.now (subst (λ (k : KeepView). CanBeAdded k c.args.relation.now c.args.row.now) (sym c.self.view_is) c.requires))

pub returns-clause-limits : goal.returns-clause-limits
returns-clause-limits c =
    ok_then c.add.result _ _ _ c.add.ensures.limits c.add.ensures.view
    (λ limits added. subst StaysWithinLimits (added.is c.args.relation.now c.in-Some.ensures.some ∙ ap (λ (k : KeepView). with_added k c.args.relation.now c.args.row.now) c.self.view_is) limits)
