-- The reader that is noted for the left step is not after the union.
use Rattle.std.proofs.Common.{rules}
use Rattle.lrp_eval.proofs.GrowingLaws.{growth_done}
use Rattle.lrp_eval.proofs.growing.growth_of.Goals as goal

pub returns : goal.returns
returns c = record {
  kind = c.in-Union.is;
  apart = search rules;
  done = growth_done c.args.readers.now c.args.count _ 0 (search rules) (search rules) (search rules) (search rules);
}
