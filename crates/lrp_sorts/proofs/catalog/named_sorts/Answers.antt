use Rattle.std.proofs.Common.{◌<◌, ◌||◌, length, arith, ap, ◌∙◌}
use Rattle.std.specs.List.{list_any}
use Rattle.lrp_model.specs.Sorts.{same_sort}
use Rattle.lrp_model.specs.declared.relations.Sort.TheVariants.{Named}
use Rattle.lrp_sorts.specs.Scopes.{holds}
use Rattle.lrp_sorts.proofs.SortNames.{one_relation}
use Rattle.lrp_sorts.proofs.catalog.named_sorts.Goals as goal

pub loop-i-preserved : goal.loop-i-preserved
loop-i-preserved c = λ n.
    let below : c.loop-i.i < length c.args.db.now = omega (arith, c.relations-i-end.ensures.len) in
    one_relation c.args.db.now c.loop-i.i c.at.result.now (Named n) _ _ below c.at.ensures.value
    (c.in_ok-add_sorts.ensures n ∙ ap (λ cs. holds c.loop-i.sorts n || list_any (λ c. same_sort c.sort (Named n)) cs) c.as_slice.ensures) (c.loop-i.invariant n)
