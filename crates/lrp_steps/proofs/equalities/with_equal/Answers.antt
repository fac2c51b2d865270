-- Each kind of equality.
use Rattle.std.proofs.Common.{ap, sym, ◌∙◌}
use Rattle.lrp_model.specs.Satisfaction.{text_value}
use Rattle.lrp_model.specs.declared.formulas.Test.TheVariants.{Equal}
use Rattle.lrp_steps.proofs.Conditioned.{pair_test, text_found, ok_map}
use Rattle.lrp_steps.proofs.equalities.with_equal.Goals as goal

pub returns-in_ok-with_pair-in-Var-right : goal.returns-in_ok-with_pair-in-Var-right
returns-in_ok-with_pair-in-Var-right c = λ times.
    let w = c.in_ok-with_pair-in-Var-right.ensures in
    pair_test c.args.domain.now c.len.ensures.ascending times c.args.texts.now c.args.pattern c.requires.known c.in-Var.name c.in-Var-right.other c.column_among-column.result c.column_among-second.result c.column_among-column.ensures.place c.column_among-second.ensures.place c.args.left.now c.args.right.now c.in-Var.is c.in-Var-right.is w.pair w.left_is w.right_is _ w.zones w.texts w.equal

pub returns-in-Const-right : goal.returns-in-Const-right
returns-in-Const-right c = ok_map c.with_text.result _ _ (λ found h times.
    text_found c.args.domain.now c.len.ensures.ascending times c.args.texts.now c.args.pattern c.requires.known c.in-Var.name c.column_among-column.result c.column_among-column.ensures.place c.in-Const-right.text (Equal c.args.left.now c.args.right.now)
    (λ env p. sym (ap (text_value env) c.in-Var.is) ∙ p ∙ ap (text_value env) c.in-Const-right.is) (λ env p. ap (text_value env) c.in-Var.is ∙ p ∙ sym (ap (text_value env) c.in-Const-right.is)) found h) c.with_text.ensures

pub returns-in-Var-right-2 : goal.returns-in-Var-right-2
returns-in-Var-right-2 c = ok_map c.with_text-in-Var-right-2.result _ _ (λ found h times.
    text_found c.args.domain.now c.len.ensures.ascending times c.args.texts.now c.args.pattern c.requires.known c.in-Var-right-2.name c.column_among-column-in-Var-right-2.result c.column_among-column-in-Var-right-2.ensures.place c.in-Const.text (Equal c.args.left.now c.args.right.now)
    (λ env p. sym (ap (text_value env) c.in-Var-right-2.is) ∙ sym p ∙ ap (text_value env) c.in-Const.is) (λ env p. ap (text_value env) c.in-Const.is ∙ sym p ∙ sym (ap (text_value env) c.in-Var-right-2.is)) found h) c.with_text-in-Var-right-2.ensures
