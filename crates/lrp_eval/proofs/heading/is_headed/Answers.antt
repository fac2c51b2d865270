-- The last table has the head's columns.
use Rattle.std.proofs.Common.{◌≡◌, length, ap, sym, subst, ◌∙◌, arith}
use Rattle.lrp_model.specs.declared.plans.StepKind.TheVariants.{Extend}
use Rattle.lrp_tables.specs.Columns.{head_times, head_texts}
use Rattle.lrp_eval.specs.Running.{IsOperand}
use Rattle.lrp_eval.proofs.heading.is_headed.Goals as goal

pub returns : goal.returns
returns c = λ e.
    let of : c.in-Extend.of ≡ length c.args.tables.now = omega (arith, c.if-of-tables.false) in
    record {
      kind_is = c.in-Extend.is ∙ ap Extend of;
      table = c.operand-table.result.now;
      last = subst (λ n. IsOperand c.args.tables.now n c.operand-table.result.now) of c.operand-table.ensures;
      times = sym c.as_slice-times.ensures ∙ c.has_columns.ensures.times e ∙ ap head_times c.as_slice.ensures;
      texts = sym c.as_slice-texts.ensures ∙ c.has_columns.ensures.texts e ∙ ap head_texts c.as_slice.ensures;
    }
