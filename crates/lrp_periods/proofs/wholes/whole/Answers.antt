-- One part after another is brought to the period.
use Rattle.std.proofs.Common.{arith, refl, subst, to_z, of_z, w64}
use Rattle.std.specs.Prelude.{◌≤◌, length, nat_abs, Ok}
use Rattle.lrp_cutting.proofs.Lists.{read}
use Rattle.lrp_tables.specs.Steps.{IsUnionResult}
use Rattle.lrp_periods.proofs.Brought.{can_unite_more, whole_done, whole_many, whole_more, whole_none}
use Rattle.lrp_tables.specs.Caps.{InhabitsMoreThan}
use Rattle.lrp_periods.specs.Operations.{IsWholeResult}
use Rattle.lrp_periods.specs.Parts.{HasSome, part_times, part_texts}
use Rattle.lrp_periods.proofs.PeriodLaws.{of_word}
use Rattle.lrp_periods.proofs.Words.{operand_word}
use Rattle.lrp_periods.proofs.wholes.whole.Goals as goal

pub loop-part-init : goal.loop-part-init
loop-part-init c = λ can. whole_none c.args.setting.now.cap can refl refl (read c.args.parts.now 0 c.index-parts-0.result can.parts_are.some c.index-parts-0.is) c.in_ok-made.ensures.made c.in_ok-made.ensures.valid

pub union-requires : goal.union-requires
union-requires c = can_unite_more c.args.setting.now.cap (operand_word c.requires) (c.loop-part.invariant (operand_word c.requires)) c.loop-part-test.true (read c.args.parts.now c.loop-part.part-index c.part-item.result c.loop-part-test.true c.part-item.is) refl

pub loop-part-preserved : goal.loop-part-preserved
loop-part-preserved c = λ can. whole_more c.args.setting.now.cap can (c.loop-part.invariant can) c.loop-part-test.true (read c.args.parts.now c.loop-part.part-index c.part-item.result c.loop-part-test.true c.part-item.is) c.part-item.is refl c.in-Ok.ensures c.shape.ensures.valid

pub returns-in-Err : goal.returns-in-Err
returns-in-Err c = record {
  valid = tt;
  table = tt;
  few = tt;
  many = λ e. of_word c.requires.period_is (λ p. InhabitsMoreThan c.args.setting.now.cap c.args.setting.now.domain.now (nat_abs p) (part_times c.args.parts.now) (part_texts c.args.parts.now) (HasSome c.args.setting.now.domain.now c.args.parts.now)) (whole_many c.args.setting.now.cap (operand_word c.requires) (c.loop-part.invariant (operand_word c.requires)) c.loop-part-test.true (read c.args.parts.now c.loop-part.part-index c.part-item.result c.loop-part-test.true c.part-item.is) c.part-item.is refl (subst (IsUnionResult c.args.setting.now.cap c.args.setting.now.domain.now (to_z w64 (of_z w64 c.args.period)) c.loop-part.made c.part-item.result) e c.in-Err.ensures));
}

pub returns : goal.returns
returns c = of_word c.requires.period_is (λ p. IsWholeResult c.args.setting.now.cap c.args.setting.now.domain.now p c.args.parts.now (Ok c.loop-part.made)) (whole_done c.args.setting.now.cap (operand_word c.requires) (let l : length c.args.parts.now ≤ c.loop-part.part-index = omega (arith, c.loop-part-test.false) in l) (c.loop-part.invariant (operand_word c.requires)))
