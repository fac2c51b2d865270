-- The steps so far are held.
use Rattle.std.proofs.Common.{◌≡◌, ◌+◌, length}
use Rattle.lrp_eval.specs.Grouped.{AreHeld}
use Rattle.lrp_eval.proofs.endings.run_before.Given as goal

abbrev pub invariant-loop-place : goal.invariant-loop-place
invariant-loop-place l = record {
  held : AreHeld l.setting.cap l.group l.made;
  count : length l.group.tables.now + length l.made ≡ l.place;
}
