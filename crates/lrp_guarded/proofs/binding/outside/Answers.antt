use Rattle.lrp_model.specs.Variables.{bound_by}
use Rattle.lrp_guarded.proofs.Outside.{outside_is}
use Rattle.lrp_guarded.proofs.binding.outside.Goals as goal

pub returns : goal.returns
returns c =
    outside_is c.without.result c.args.inner.now c.as_slice.result.now c.push.new.self c.new-bound.result c.in_ok-bound_variable.field-0 (bound_by c.args.sort.now c.args.name.now) c.in_ok-bound_variable.ensures c.new-bound.ensures c.in_ok-push.ensures.ok c.as_slice.ensures c.without.ensures
