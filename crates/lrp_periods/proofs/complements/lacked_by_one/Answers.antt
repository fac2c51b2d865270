-- What one part lacks is what all of them do.
use Rattle.std.proofs.Common.{arith}
use Rattle.std.specs.Prelude.{◌≤◌, length}
use Rattle.lrp_cutting.proofs.Lists.{read}
use Rattle.lrp_periods.specs.Parts.{HasSome, IsPartOfSet, part_times, part_texts}
use Rattle.lrp_periods.specs.Sets.{IsComplementOf}
use Rattle.lrp_periods.proofs.PeriodLaws.{of_word}
use Rattle.lrp_periods.proofs.TakenApart.{can_be_part, lacks_all, lacks_one, outside_part}
use Rattle.lrp_periods.proofs.Words.{operand_word}
use Rattle.lrp_periods.proofs.complements.lacked_by_one.Goals as goal

pub outside_of-requires : goal.outside_of-requires
outside_of-requires c = can_be_part (operand_word c.requires.operand) (read c.args.of.now 0 c.index-of-0.result c.requires.operand.parts_are.some c.index-of-0.is)

pub returns : goal.returns
returns c = of_word c.requires.operand.period_is (λ p. IsPartOfSet c.args.setting.now.domain.now (part_times c.args.of.now) (part_texts c.args.of.now) p (IsComplementOf c.args.setting.now.domain.now (part_texts c.args.of.now) (HasSome c.args.setting.now.domain.now c.args.of.now)) c.in_ok-made.made)
    (lacks_all (operand_word c.requires.operand) 1 (let l : length c.args.of.now ≤ 1 = omega (arith, c.requires.one) in l)
    (lacks_one (operand_word c.requires.operand) c.index-of-0.result c.requires.operand.parts_are.some c.index-of-0.is
    (outside_part (operand_word c.requires.operand) c.index-of-0.result (read c.args.of.now 0 c.index-of-0.result c.requires.operand.parts_are.some c.index-of-0.is) c.in_ok-made.ensures)))
