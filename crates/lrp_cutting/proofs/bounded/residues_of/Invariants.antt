-- The first residues are written.
use Rattle.std.proofs.Common.{◌≡◌, ℕ, ◌<◌, length, get_or}
use Rattle.std.specs.Prelude.{pos}
use Rattle.lrp_cutting.proofs.bounded.residues_of.Given as goal

abbrev pub invariant-loop-i : goal.invariant-loop-i
invariant-loop-i l = record {
  size : length l.residues ≡ 8;
  same : (k : ℕ) → k < l.i → get_or l.residues k (pos 0) ≡ get_or l.zone.residues k (pos 0);
}
