use Rattle.std.proofs.Common.{refl}
use Rattle.lrp_plan.proofs.splits.add_positive.Goals as goal

pub returns : goal.returns
returns c = record {
  added = record { index = c.args.index; tree = c.args.tree; rank = c.args.rank };
  items = c.in_ok-push.ensures.items;
  place = refl;
  ranked_as = refl;
  tree_is = refl;
  tests_stay = refl;
  negations_stay = refl;
}
