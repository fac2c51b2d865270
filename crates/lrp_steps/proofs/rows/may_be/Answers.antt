-- Another text is never what a text stands for.
use Rattle.std.proofs.Common.{◌∙◌, ap, sym}
use Rattle.lrp_model.specs.declared.formulas.Term.TheVariants.{Data as data_term}
use Rattle.lrp_steps.proofs.ReadRows.{other_text}
use Rattle.lrp_steps.proofs.rows.may_be.Goals as goal

pub returns-in-Const-term : goal.returns-in-Const-term
returns-in-Const-term c = λ e. other_text c.args.value.now c.args.term.now c.in-Const.text c.in-Const-term.asked c.in-Const.is (c.in-Data.is ∙ ap data_term c.in-Const-term.is) (sym c.eq.ensures ∙ e)
