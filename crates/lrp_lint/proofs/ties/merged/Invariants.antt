-- The columns so far.
use Rattle.std.proofs.Common.{◌≡◌, ℕ, ◌<◌, length}
use Rattle.std.specs.Prelude.{◌==◌, slice_index, if◌then◌else◌}
use Rattle.lrp_lint.proofs.ties.merged.Given as goal

abbrev pub invariant-loop-column : goal.invariant-loop-column
invariant-loop-column l = record {
  size : length l.made ≡ 9;
  each : (p : ℕ) → p < l.column → slice_index l.made p ≡ (if slice_index l.groups p == slice_index l.groups l.right then slice_index l.groups l.left else slice_index l.groups p);
}
