-- What the parts lack is one part.
use Rattle.std.proofs.Common.{◌++◌, [], ◌∷◌, ap, ◌∙◌}
use Rattle.lrp_periods.specs.Operations.{AreOperand}
use Rattle.lrp_periods.specs.Parts.{HasSome, IsPartOfSet, part_times, part_texts}
use Rattle.lrp_periods.specs.Sets.{IsComplementOf}
use Rattle.lrp_periods.proofs.PeriodLaws.{in_word, of_word}
use Rattle.lrp_periods.proofs.TakenApart.{one_part}
use Rattle.lrp_periods.proofs.complements.complement_in_parts.Goals as goal

pub left_by_all-requires : goal.left_by_all-requires
left_by_all-requires c = in_word c.requires.period_is (λ p. AreOperand c.args.setting.now.domain.now p c.args.of.now) c.requires

pub returns : goal.returns
returns c = one_part (c.in_ok-push.ensures.ok ∙ ap (λ ps. ps ++ c.in_ok-made.made ∷ []) c.new-parts.ensures)
    (of_word c.requires.period_is (λ p. IsPartOfSet c.args.setting.now.domain.now (part_times c.args.of.now) (part_texts c.args.of.now) p (IsComplementOf c.args.setting.now.domain.now (part_texts c.args.of.now) (HasSome c.args.setting.now.domain.now c.args.of.now)) c.in_ok-made.made) c.in_ok-made.ensures)
