use Rattle.std.proofs.Common.{◌*◌, refl, rules}
use Rattle.lrp_plan.proofs.Draws.{drops_time, drops_data}
use Rattle.lrp_plan.proofs.drafts.Draft.drop_variable.Goals as goal

pub returns-then-is_time : goal.returns-then-is_time
returns-then-is_time c = drops_time c.drop_time.result c.args.name c.args.sort.now (2 * c.args.self.now.last.reach) c.args.self.now c.drop_time.new.self (search rules) refl c.drop_time.ensures

pub returns-else-is_time : goal.returns-else-is_time
returns-else-is_time c = drops_data c.drop_data.result c.args.name c.args.sort.now c.args.self.now.last.reach c.args.self.now c.drop_data.new.self (search rules) refl c.drop_data.ensures
