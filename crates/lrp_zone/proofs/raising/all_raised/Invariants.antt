-- What no tuple was below, none is below now.
use Rattle.std.proofs.Common.{◌≡◌, List, length}
use Rattle.std.specs.Prelude.{ℤ}
use Rattle.lrp_zone.specs.Raising.{AreLowest}
use Rattle.lrp_zone.proofs.raising.all_raised.Given as goal

abbrev pub invariant-loop-i : goal.invariant-loop-i
invariant-loop-i l = record {
  size : length l.out ≡ 8;
  kept : (low : List ℤ) → AreLowest l.zone low l.values → AreLowest l.zone low l.out;
}

abbrev pub invariant-loop-j : goal.invariant-loop-j
invariant-loop-j l = record {
  size : length l.out ≡ 8;
  kept : (low : List ℤ) → AreLowest l.zone low l.values → AreLowest l.zone low l.out;
}
