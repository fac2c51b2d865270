-- One step more.
use Rattle.std.proofs.Common.{◌≡◌, ◌+◌, List, [], length, refl, sym, ap, subst, ◌∙◌, arith}
use Rattle.lrp_tables.specs.declared.table.Table.{Table}
use Rattle.lrp_eval.specs.Grouped.{AreHeld, AreStepsInParts, IsGroupHeld, IsSmallStep, next_step_number}
use Rattle.lrp_eval.proofs.GroupLaws.{none_held}
use Rattle.lrp_eval.proofs.GroupSteps.{few_makes}
use Rattle.lrp_eval.proofs.LoopLaws.{more_count}
use Rattle.lrp_eval.proofs.endings.run_before.Goals as goal

pub loop-place-init : goal.loop-place-init
loop-place-init c =
    let none : c.new-made.result ≡ [] = c.new-made.ensures in
    record {
      held = λ planned q h run. subst (λ (ms : List (List Table)). AreStepsInParts planned c.args.group.now.database.now q c.args.setting.now.cap (length c.args.group.now.tables.now) ms) (sym none) (none_held c.args.setting.now.cap c.args.group.now planned q h);
      count = (let e : length c.new-made.result ≡ 0 = ap (λ (ms : List (List Table)). length ms) none in omega (arith, e));
    }

pub step_in_parts-requires-clause-step : goal.step_in_parts-requires-clause-step
step_in_parts-requires-clause-step c = subst (λ i. IsSmallStep c.args.group.now i c.in_ok-step.step.now) (sym c.loop-place.invariant.count) c.in_ok-step.ensures

pub has_few-requires-clause-step : goal.has_few-requires-clause-step
has_few-requires-clause-step c = subst (λ i. IsSmallStep c.args.group.now i c.in_ok-step.step.now) (sym c.loop-place.invariant.count) c.in_ok-step.ensures

pub has_few-requires-clause-parts : goal.has_few-requires-clause-parts
has_few-requires-clause-parts c = subst (λ (ps : List Table). IsGroupHeld c.args.setting.now.cap c.args.group.now (next_step_number c.args.group.now c.loop-place.made) ps) (sym c.as_slice.ensures) c.in_ok-parts.ensures

pub loop-place-preserved : goal.loop-place-preserved
loop-place-preserved c =
    let next = subst (λ i. IsSmallStep c.args.group.now i c.in_ok-step.step.now) (sym c.loop-place.invariant.count) c.in_ok-step.ensures in
    record {
      held = subst (λ (ms : List (List Table)). AreHeld c.args.setting.now.cap c.args.group.now ms) (sym c.in_ok-push.ensures.ok)
          (few_makes c.requires c.loop-place.invariant.held next c.in_ok-parts.parts c.in_ok-parts.ensures (c.has_few.ensures c.if-not-has_few.false));
      count = (let e : length c.push.new.self ≡ length c.loop-place.made + 1 = ap (λ (ms : List (List Table)). length ms) c.in_ok-push.ensures.ok ∙ more_count c.loop-place.made c.in_ok-parts.parts (length c.loop-place.made) refl in let k = c.loop-place.invariant.count in omega (arith, e, k));
    }
