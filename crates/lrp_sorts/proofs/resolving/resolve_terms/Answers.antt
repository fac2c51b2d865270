use Rattle.std.proofs.Common.{◌<◌, ◌∙◌, rules, ap, arith, length, set}
use Rattle.std.proofs.lemmas.List.Edits.{map_over_more}
use Rattle.lrp_model.specs.Checked.{resolved_term}
use Rattle.lrp_sorts.specs.Binding.{binders_of}
use Rattle.lrp_sorts.proofs.resolving.resolve_terms.Goals as goal

pub loop-i-preserved : goal.loop-i-preserved
loop-i-preserved c =
    let all = c.into_vec-all.result.items in
    let there : c.loop-i.i < length all = omega (arith, c.loop-i-test.true, c.len-i-end.ensures) in
    record {
      size = search rules;
      so_far = ap (λ x. set c.loop-i.all.items c.loop-i.i x) c.resolve_term.ensures ∙ map_over_more (resolved_term (binders_of c.args.around.now)) all c.loop-i.all.items c.loop-i.i c.index_mut.result.now there c.loop-i.invariant.so_far c.index_mut.ensures.value;
    }
