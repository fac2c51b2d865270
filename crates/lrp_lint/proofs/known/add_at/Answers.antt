-- A column is there, or none.
use Rattle.std.proofs.Common.{◌≡◌, ◌≤◌, ◌||◌, [], ◌∷◌, ◌∙◌, ap, sym, arith, length}
use Rattle.std.specs.List.{list_any}
use Rattle.lrp_model.specs.Domains.{row_texts}
use Rattle.lrp_lint.specs.Known.{has}
use Rattle.lrp_lint.specs.Mentions.{is_entry}
use Rattle.lrp_lint.proofs.TextSets.{column_past, column_there, nothing_added}
use Rattle.lrp_lint.proofs.Walked.{then_ok}
use Rattle.lrp_lint.proofs.known.add_at.Goals as goal

pub returns-then-i-columns : goal.returns-then-i-columns
returns-then-i-columns c =
    then_ok c.add_value.result _ _ c.add_value.ensures (λ h s t.
    h s t ∙ ap (λ cs. has c.args.texts.now s t || list_any (is_entry s t) (row_texts cs (c.args.value.now ∷ []))) (sym (column_there c.args.columns.now c.args.i c.index-columns-i.result c.if-i-columns.true c.index-columns-i.is)))

pub returns : goal.returns
returns c = λ s t.
    let high : length c.args.columns.now ≤ c.args.i = omega (arith, c.if-i-columns.false) in
    nothing_added (has c.args.texts.now s t) ∙ ap (λ cs. has c.args.texts.now s t || list_any (is_entry s t) (row_texts cs (c.args.value.now ∷ []))) (sym (column_past c.args.columns.now c.args.i high))
