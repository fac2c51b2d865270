use Rattle.std.proofs.Common.{map, ap, ◌∙◌}
use Rattle.lrp_core.specs.Cores.{core_of}
use Rattle.lrp_core.specs.FreeVariables.{variable_of}
use Rattle.lrp_model.specs.Variables.{are_among}
use Rattle.lrp_guarded.proofs.Bound.{unshared, guarded_so}
use Rattle.lrp_guarded.proofs.binding.is_guarded_by.Goals as goal

pub returns-then-not-meet : goal.returns-then-not-meet
returns-then-not-meet c = λ vs h k. unshared (core_of c.args.core.now) c.args.variables.now c.args.columns.now c.meet.result vs c.meet.ensures c.if-not-meet.true h k

pub returns : goal.returns
returns c = λ vs h k.
    guarded_so (core_of c.args.core.now) c.args.variables.now c.args.columns.now c.in_ok-bound.bound c.meet.result c.are_among.result vs c.meet.ensures c.if-not-meet.false c.in_ok-bound.ensures
    (c.are_among.ensures ∙ ap (λ us. are_among (map variable_of c.args.variables.now) (map variable_of us)) c.as_slice.ensures) h k
