-- The text is that of the variable's column.
use Rattle.std.proofs.Common.{ap, sym, ◌∙◌}
use Rattle.lrp_model.specs.Satisfaction.{text_value}
use Rattle.lrp_model.specs.declared.formulas.DataTerm.TheVariants.{Const as constant}
use Rattle.lrp_model.specs.declared.formulas.Test.TheVariants.{Equal}
use Rattle.lrp_steps.proofs.Conditioned.{text_found, ok_map}
use Rattle.lrp_steps.proofs.equalities.with_constant.Goals as goal

pub returns-in-Var : goal.returns-in-Var
returns-in-Var c = ok_map c.with_text.result _ _ (λ found h times.
    text_found c.args.domain.now c.len.ensures.ascending times c.args.texts.now c.args.pattern c.requires.known c.in-Var.name c.column_among-column.result c.column_among-column.ensures.place c.args.text.now (Equal c.args.term.now (constant c.args.text.now))
    (λ env p. sym (ap (text_value env) c.in-Var.is) ∙ p) (λ env p. ap (text_value env) c.in-Var.is ∙ p) found h) c.with_text.ensures
