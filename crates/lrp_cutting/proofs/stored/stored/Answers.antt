-- One more row is listed.
use Rattle.std.proofs.Common.{◌≤◌, inl, inr, arith}
use Rattle.lrp_zone.specs.Zones.{columns_of}
use Rattle.lrp_cutting.proofs.Lists.{below_or}
use Rattle.lrp_cutting.proofs.stored.stored.Goals as goal

pub loop-left-preserved : goal.loop-left-preserved
loop-left-preserved c = record {
  each = λ b l. elim (c.in_ok-push_row.ensures.each b l) [
    | inl k ↦ c.loop-left.invariant.each b k
    | inr k ↦ k
  ];
  rows = λ b is lt. elim (below_or b.left c.loop-left.left) [
    | inl k ↦ c.in_ok-push_row.ensures.kept b (c.loop-left.invariant.rows b is k)
    | inr k ↦ c.in_ok-push_row.ensures.row b is (omega arith) (let high : b.right ≤ columns_of c.args.zone.now = is.right in omega (arith, c.columns.ensures.value))
  ];
}
