-- The first residues move so.
use Rattle.std.proofs.Common.{◌+◌, ◌<◌, ◌≡◌, ℕ, slice_index_or}
use Rattle.lrp_spans.specs.Repeating.{nth}
use Rattle.lrp_spans.proofs.residues.all_move.Given as goal

abbrev pub invariant-loop-i : goal.invariant-loop-i
invariant-loop-i l = (k : ℕ) → k < l.i → nth l.period l.residues (k + l.places) + nth l.period l.residues 0 ≡ slice_index_or l.residues k 0 + nth l.period l.residues l.places
