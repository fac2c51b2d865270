-- A text is added, and a point has none.
use Rattle.std.proofs.Common.{◌||◌, ◌∙◌, ap}
use Rattle.lrp_lint.specs.Known.{has}
use Rattle.lrp_lint.proofs.TextSets.{const_text, point_text}
use Rattle.lrp_lint.proofs.Walked.{then_ok}
use Rattle.lrp_lint.proofs.known.add_value.Goals as goal

pub returns-in-Const : goal.returns-in-Const
returns-in-Const c =
    then_ok c.add_text.result _ _ c.add_text.ensures (λ h s t.
    h s t ∙ ap (λ b. has c.args.texts.now s t || b) (c.sorted_text.ensures s t ∙ const_text s t c.args.column.now c.args.value.now c.in-Const.text c.in-Const.is))

pub returns-in-Point : goal.returns-in-Point
returns-in-Point c = λ s t. point_text s t c.args.column.now c.args.value.now c.in-Point.at (has c.args.texts.now s t) c.in-Point.is
