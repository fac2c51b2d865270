use Rattle.std.proofs.Common.{◌∙◌, ◌++◌, ◌∷◌, [], ap₂}
use Rattle.lrp_answer_text.proofs.LineLaws.{json_more}
use Rattle.lrp_answer_text.proofs.texts.JsonTexts.new.Goals as goal

pub loop-number-preserved : goal.loop-number-preserved
loop-number-preserved c =
    c.in_ok-push.ensures.ok ∙ ap₂ (λ ts t. ts ++ t ∷ []) c.loop-number.invariant c.in_ok-quoted_text.ensures ∙ json_more c.args.domain.now c.loop-number.number c.text.result.now c.text.ensures
