use Rattle.std.proofs.Common.{refl, rules, ◌^◌}
use Rattle.lrp_plan.proofs.splits.add_negation.Goals as goal

pub returns : goal.returns
returns c = record {
  added = record { index = c.args.index; tree = c.args.tree; rank = 2 ^ 64 };
  items = search rules;
  place = refl;
  tree_is = refl;
  tests_stay = refl;
  positives_stay = refl;
}
