-- One is the least common multiple of no numbers.
use Rattle.lrp_lint.proofs.Rooms.{period_is}
use Rattle.lrp_lint.proofs.contents.period_of.Goals as goal

pub returns : goal.returns
returns c = period_is c.args.row.now c.one.result.number _ c.one.ensures c.with_row.ensures
