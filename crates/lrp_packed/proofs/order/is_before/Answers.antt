-- The times decide, and where they are equal the texts.
use Rattle.std.proofs.Common.{sym, ◌∙◌}
use Rattle.lrp_store.proofs.Ordered.{before_first, after_first, then_second}
use Rattle.lrp_packed.proofs.order.is_before.Goals as goal

pub returns-in-Less : goal.returns-in-Less
returns-in-Less c = before_first _ _ (sym c.times_order.ensures ∙ c.in-Less.is)

pub returns-in-Equal : goal.returns-in-Equal
returns-in-Equal c = then_second _ _ c.cmp.result c.is_lt.result (sym c.times_order.ensures ∙ c.in-Equal.is) c.cmp.ensures c.is_lt.ensures

pub returns-in-Greater : goal.returns-in-Greater
returns-in-Greater c = after_first _ _ (sym c.times_order.ensures ∙ c.in-Greater.is)
