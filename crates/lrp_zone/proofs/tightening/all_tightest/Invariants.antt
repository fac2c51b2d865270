-- The rows above, and this row so far, are tightened; nothing stands outside.
use Rattle.std.proofs.Common.{◌<◌, ℕ, pos, ◌-ℤ◌}
use Rattle.lrp_theory.specs.Entries.{entry, node}
use Rattle.lrp_zone.specs.Zones.{IsEmptyFrom}
use Rattle.lrp_zone.specs.Tight.{IsStored}
use Rattle.lrp_zone.proofs.tightening.all_tightest.Given as goal

abbrev pub invariant-loop-j : goal.invariant-loop-j
invariant-loop-j l = record {
  above : (p q : ℕ) → p < l.i → q < l.nodes → IsStored (pos l.period) (node l.residues p -ℤ node l.residues q) (entry l.bounds.cells p q) (entry l.out p q);
  here : (q : ℕ) → q < l.j → IsStored (pos l.period) (node l.residues l.i -ℤ node l.residues q) (entry l.bounds.cells l.i q) (entry l.out l.i q);
  outside : IsEmptyFrom l.nodes l.out;
}

abbrev pub invariant-loop-i : goal.invariant-loop-i
invariant-loop-i l = record {
  above : (p q : ℕ) → p < l.i → q < l.nodes → IsStored (pos l.period) (node l.residues p -ℤ node l.residues q) (entry l.bounds.cells p q) (entry l.out p q);
  outside : IsEmptyFrom l.nodes l.out;
}
