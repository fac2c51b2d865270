-- The number of the step that is read is that of the last one.
use Rattle.std.proofs.Common.{◌≡◌, ◌+◌, length, subst, arith}
use Rattle.lrp_model.specs.declared.plans.StepKind.TheVariants.{DropTime}
use Rattle.lrp_eval.proofs.endings.drops_last.Goals as goal

pub returns : goal.returns
returns c = λ t.
    let number : c.in-DropTime.of ≡ length c.args.group.now.tables.now + length c.args.made.now = omega arith in
    record { name = c.in-DropTime.name; some = omega arith; kind = subst (λ n. c.args.step.now.kind ≡ DropTime n c.in-DropTime.name) number c.in-DropTime.is }
