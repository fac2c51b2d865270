-- The first column has the first name of its kind.
use Rattle.std.proofs.Common.{sym, ◌∙◌}
use Rattle.lrp_eval.proofs.HeadedLaws.{first_time, first_text}
use Rattle.lrp_eval.proofs.heading.+has_columns.Goals as goal

pub returns-then-eq-clause-times : goal.returns-then-eq-clause-times
returns-then-eq-clause-times t c = λ e.
    first_time c.args.columns.now c.column-item.result c.args.times.now c.time-item.result c.in-len1-up.len_at_least c.column-item.is (sym c.is_time.ensures ∙ c.if-is_time.true) c.in-len1-up-times.len_at_least c.time-item.is (sym c.eq.ensures ∙ c.if-eq.true) (c.has_columns.ensures.times e)

pub returns-then-eq-2-clause-texts : goal.returns-then-eq-2-clause-texts
returns-then-eq-2-clause-texts t c = λ e.
    first_text c.args.columns.now c.column-item.result c.args.texts.now c.text-item.result c.in-len1-up.len_at_least c.column-item.is (sym c.is_time.ensures ∙ c.if-is_time.false) c.in-len1-up-texts.len_at_least c.text-item.is (sym c.eq-else-is_time.ensures ∙ c.if-eq-2.true) (c.has_columns-then-eq-2.ensures.texts e)
