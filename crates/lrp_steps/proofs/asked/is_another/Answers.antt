-- Another text is never what a text stands for.
use Rattle.std.proofs.Common.{◌∙◌, refl, sym}
use Rattle.lrp_model.specs.declared.formulas.DataTerm.TheVariants.{Const as data_const}
use Rattle.lrp_model.specs.declared.formulas.Term.TheVariants.{Data as data_term}
use Rattle.lrp_steps.proofs.ReadRows.{never_equal}
use Rattle.lrp_steps.proofs.asked.is_another.Goals as goal

pub returns-in-Const : goal.returns-in-Const
returns-in-Const c = λ t. never_equal c.args.value.now (data_term (data_const c.args.text.now)) c.in-Const.here c.args.text.now c.in-Const.is refl (λ e. c.are_different.ensures t (c.as_bytes.ensures.same ∙ e ∙ sym c.as_bytes-in-Const.ensures.same))
