-- The tables that are left were kept, and those so far are still known.
use Rattle.std.specs.Prelude.{Contains}
use Rattle.std.specs.List.{AllByRecursion}
use Rattle.std.specs.Vec.Iter.{into_iter_items}
use Rattle.lrp_watch.specs.Keeping.{IsStillKept}
use Rattle.lrp_watch.proofs.keeping.known_of.Given as goal

abbrev pub invariant-loop-table : goal.invariant-loop-table
invariant-loop-table l = record {
  left : AllByRecursion (Contains l.fn.kept.tables) (into_iter_items l.table-iterator);
  known : AllByRecursion (IsStillKept l.fn.kept.tables l.fn.kept.edited l.fn.kept.plan.steps l.plan.steps) l.known;
}
