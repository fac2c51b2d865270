use Rattle.std.proofs.Common.{sym, ◌∙◌}
use Rattle.lrp_core.proofs.Members.{column_elements-data, column_elements-time}
use Rattle.lrp_core.proofs.forming.push_column.Goals as goal

pub returns-in_ok-push : goal.returns-in_ok-push
returns-in_ok-push c = column_elements-data c.args.all.now.items c.push.new.self.items c.sorted.result c.args.column.now.sort c.args.column.now.name (sym c.is_time.ensures ∙ c.if-not-is_time.true) c.sorted.ensures c.in_ok-push.ensures.items

pub returns-else-not-is_time : goal.returns-else-not-is_time
returns-else-not-is_time c = column_elements-time c.args.all.now.items c.args.column.now.sort c.args.column.now.name (sym c.is_time.ensures ∙ c.if-not-is_time.false)
