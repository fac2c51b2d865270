-- What holds in each database and query holds in this one.
use Rattle.lrp_eval.proofs.evaluation.run_several.Goals as goal

pub returns-in-Ok-clause-table : goal.returns-in-Ok-clause-table
returns-in-Ok-clause-table c = λ planned q h run. c.in-Ok.ensures.table planned c.args.database.now q h run
