-- One step more is looked at.
use Rattle.std.proofs.Common.{arith, subst, sym}
use Rattle.lrp_model.specs.declared.plans.Step.{Step}
use Rattle.lrp_watch.specs.Keeping.{IsAloneStep}
use Rattle.lrp_watch.proofs.KeptParts.{got, one_alone, one_same}
use Rattle.lrp_watch.proofs.keeping.is_still_part.Goals as goal

pub loop-place-preserved : goal.loop-place-preserved
loop-place-preserved c = record {
  same = one_same c.args.old.now c.args.new.now c.args.part.before c.loop-place.place c.index-old-place.result c.index-new-place.result
      (got c.args.old.now c.loop-place.place c.index-old-place.result (omega (arith, c.loop-place-test.true, c.if-part-old.false)) c.index-old-place.is)
      (got c.args.new.now c.loop-place.place c.index-new-place.result (omega (arith, c.loop-place-test.true, c.if-part-new.false)) c.index-new-place.is)
      (c.is_same_step.ensures c.if-not-is_same_step.false) c.loop-place.invariant.same;
  alone = one_alone c.args.edited.now c.args.part.before c.args.new.now c.loop-place.place c.index-new-place-in-loop-place.result
      (got c.args.new.now c.loop-place.place c.index-new-place-in-loop-place.result (omega (arith, c.loop-place-test.true, c.if-part-new.false)) c.index-new-place-in-loop-place.is)
      (subst (λ (z : Step). IsAloneStep c.args.edited.now c.args.part.before z.kind) (sym c.index-new-place-in-loop-place.is) (c.is_alone.ensures c.if-not-is_alone.false)) c.loop-place.invariant.alone;
}

pub returns-clause-alone : goal.returns-clause-alone
returns-clause-alone c = λ e i step low high at. c.loop-place.invariant.alone i step low (omega (arith, high, c.loop-place-test.false)) at
