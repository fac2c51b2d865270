use Rattle.std.proofs.Common.{refl}
use Rattle.lrp_model.specs.Domains.{database_texts}
use Rattle.lrp_plan.proofs.Gathered.{timed_gathers, data_gathers}
use Rattle.lrp_plan.proofs.domains.Domains.add.Goals as goal

pub returns-in-Time : goal.returns-in-Time
returns-in-Time c = timed_gathers c.see.result (database_texts c.args.database.now) c.args.sort.now c.args.text.now c.args.self.now _ c.in-Time.is refl refl c.see.ensures

pub returns-in-Data : goal.returns-in-Data
returns-in-Data c = data_gathers c.add_unnamed.result (database_texts c.args.database.now) c.args.sort.now c.args.text.now c.args.self.now c.add_unnamed.new.self c.in-Data.is c.add_unnamed.ensures
