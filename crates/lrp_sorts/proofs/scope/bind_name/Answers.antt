use Rattle.std.proofs.Common.{Some}
use Rattle.lrp_sorts.proofs.Heads.{updated}
use Rattle.lrp_sorts.proofs.scope.bind_name.Goals as goal

pub returns-clause-bound : goal.returns-clause-bound
returns-clause-bound c = updated c.args.name c.args.sorts.now c.insert.new.self (Some c.args.sort) c.in_ok-insert.ensures.updates
