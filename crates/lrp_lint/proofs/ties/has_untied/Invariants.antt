-- The columns so far are of the group of the first.
use Rattle.std.proofs.Common.{◌≡◌, ℕ, ◌<◌}
use Rattle.std.specs.Prelude.{slice_index}
use Rattle.lrp_lint.proofs.ties.has_untied.Given as goal

abbrev pub invariant-loop-column : goal.invariant-loop-column
invariant-loop-column l = (q : ℕ) → 0 < q → q < l.column → slice_index l.groups q ≡ slice_index l.groups 1
