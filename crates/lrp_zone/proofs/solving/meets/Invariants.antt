-- The rows above, and this row so far, are met.
use Rattle.std.proofs.Common.{◌<◌, ℕ, pos, ◌-ℤ◌}
use Rattle.std.specs.Prelude.{slice_index_or}
use Rattle.lrp_theory.specs.Bounds.{Within}
use Rattle.lrp_theory.specs.Entries.{entry}
use Rattle.lrp_zone.proofs.solving.meets.Given as goal

abbrev pub invariant-loop-j : goal.invariant-loop-j
invariant-loop-j l = record {
  above : (p q : ℕ) → p < l.i → q < l.nodes → Within (slice_index_or l.numbers p (pos 0) -ℤ slice_index_or l.numbers q (pos 0)) (entry l.bounds p q);
  here : (q : ℕ) → q < l.j → Within (slice_index_or l.numbers l.i (pos 0) -ℤ slice_index_or l.numbers q (pos 0)) (entry l.bounds l.i q);
}

abbrev pub invariant-loop-i : goal.invariant-loop-i
invariant-loop-i l = (p q : ℕ) → p < l.i → q < l.nodes → Within (slice_index_or l.numbers p (pos 0) -ℤ slice_index_or l.numbers q (pos 0)) (entry l.bounds p q)
