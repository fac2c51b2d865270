use Rattle.std.proofs.Common.{◌≡◌, ◌+◌, ◌^◌}
use Rattle.lrp_theory.specs.Entries.{AllSmall}
use Rattle.lrp_tests.proofs.matrices.stairs.Given as goal

abbrev pub invariant-loop-i : goal.invariant-loop-i
invariant-loop-i l = record {
  columns : l.matrix.columns ≡ 8;
  small : AllSmall (l.matrix.columns + 1) (2 ^ 62) l.matrix.cells;
}
