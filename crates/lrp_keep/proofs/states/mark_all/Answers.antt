-- The relations are looked at one after another.
use Rattle.std.proofs.Common.{◌≡◌, length, sym, ap, subst, ◌∙◌, arith}
use Rattle.lrp_model.specs.declared.relations.Relation.{Relation}
use Rattle.lrp_kept.specs.declared.rows.HeldRelation.{HeldRelation}
use Rattle.lrp_keep.specs.States.{AreMarkedBy}
use Rattle.lrp_keep.proofs.Marking.{none_marked, one_marked}
use Rattle.lrp_keep.proofs.states.mark_all.Goals as goal
use Rattle.lrp_model.proofs.Everywhere.{map_count}

pub loop-i-init : goal.loop-i-init
loop-i-init c = none_marked c.args.database.now c.args.rows.now

pub mark-requires : goal.mark-requires
mark-requires c =
    let size : length c.args.rows.now.relations.items ≡ length c.args.database.now = sym (map_count (λ (r : HeldRelation). r.name) c.args.rows.now.relations.items) ∙ ap length c.requires.names ∙ map_count (λ (r : Relation). r.name) c.args.database.now in
    omega (arith, c.loop-i-test.true, c.relations-i-end.ensures.len, size, c.loop-i.invariant.count)

pub loop-i-preserved : goal.loop-i-preserved
loop-i-preserved c = one_marked c.args.database.now c.loop-i.i c.at.result.now c.greatest_bound.result c.args.rows.now c.loop-i.rows c.mark.new.rows c.at.ensures.value c.greatest_bound.ensures c.loop-i.invariant c.mark.ensures

pub returns : goal.returns
returns c =
    let whole : c.loop-i.i ≡ length c.args.database.now = omega (arith, c.loop-i-test.false, c.loop-i.auto.i-end, c.relations-i-end.ensures.len) in
    subst (λ n. AreMarkedBy c.args.database.now n c.args.rows.now c.loop-i.rows) whole c.loop-i.invariant
