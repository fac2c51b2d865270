-- The values before the place stay, and those after it move up so far.
use Rattle.std.proofs.Common.{◌≡◌, ℕ, ◌+◌, ◌<◌, ◌≤◌, pos, length, slice_index_or}
use Rattle.lrp_steps.proofs.places.without_residue.Given as goal

abbrev pub invariant-loop-i : goal.invariant-loop-i
invariant-loop-i l = record {
  size : length l.out ≡ 8;
  before : (k : ℕ) → k < l.place → slice_index_or l.out k (pos 0) ≡ slice_index_or l.residues k (pos 0);
  moved : (k : ℕ) → l.place ≤ k → k < l.i → slice_index_or l.out k (pos 0) ≡ slice_index_or l.residues (k + 1) (pos 0);
}
