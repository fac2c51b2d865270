-- The nodes so far have their residues and keep their bounds.
use Rattle.std.proofs.Common.{◌<◌, ℕ, pos, ◌-ℤ◌}
use Rattle.lrp_theory.specs.Bounds.{Within}
use Rattle.lrp_theory.specs.Divides.{Divides}
use Rattle.lrp_theory.specs.Entries.{entry, node}
use Rattle.lrp_zone.proofs.tuples.holds.Given as goal

abbrev pub invariant-loop-j : goal.invariant-loop-j
invariant-loop-j l = record {
  cell : (p : ℕ) → p < l.i → Divides (pos l.period) (node l.xs p -ℤ node l.residues p);
  above : (p q : ℕ) → p < l.i → q < l.nodes → Within (node l.xs p -ℤ node l.xs q) (entry l.bounds p q);
  here : (q : ℕ) → q < l.j → Within (node l.xs l.i -ℤ node l.xs q) (entry l.bounds l.i q);
}

abbrev pub invariant-loop-i : goal.invariant-loop-i
invariant-loop-i l = record {
  cell : (p : ℕ) → p < l.i → Divides (pos l.period) (node l.xs p -ℤ node l.residues p);
  above : (p q : ℕ) → p < l.i → q < l.nodes → Within (node l.xs p -ℤ node l.xs q) (entry l.bounds p q);
}
