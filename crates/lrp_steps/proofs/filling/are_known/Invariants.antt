-- The numbers before this one are the known ones.
use Rattle.std.proofs.Common.{ℕ, ◌<◌, None}
use Rattle.std.specs.Prelude.{slice_index, slice_index_or}
use Rattle.lrp_steps.specs.Patterns.{IsKnown}
use Rattle.lrp_steps.proofs.filling.are_known.Given as goal

abbrev pub invariant-loop-i : goal.invariant-loop-i
invariant-loop-i l = (k : ℕ) → k < l.i → IsKnown (slice_index_or l.known k None) (slice_index l.texts k)
