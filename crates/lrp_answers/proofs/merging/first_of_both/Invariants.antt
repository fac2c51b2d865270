-- So many of each list were put together.
use Rattle.std.proofs.Common.{◌≡◌, length}
use Rattle.lrp_answers.specs.Merging.{AreMergedLists, IsEarlierSpot}
use Rattle.lrp_answers.proofs.merging.first_of_both.Given as goal

abbrev pub invariant-loop-line : goal.invariant-loop-line
invariant-loop-line l = record {
  merged : AreMergedLists IsEarlierSpot l.left l.right l.made.left l.made.right l.made.spots;
  count : length l.made.spots ≡ l._line;
}
