-- The bounds of the matrix, tightened to the residues, give the tuples that have them.
use Rattle.std.proofs.Common.{arith, to_z, of_z, ◌≡◌, subst}
use Rattle.std.specs.Prelude.{nat_abs, pos, ◌-ℤ◌}
use Rattle.std.specs.Int.{w64}
use Rattle.std.proofs.lemmas.Int.{ints}
use Rattle.lrp_theory.specs.Entries.{node}
use Rattle.lrp_zone.specs.Tight.{CanTighten}
use Rattle.lrp_zone.proofs.Cut.{Cutting, shape_cut, cut_some, cut_none}
use Rattle.lrp_zone.proofs.zone.Zone.in_cell.Goals as goal

cutting : (c : goal.After-table-1) → Cutting (nat_abs (to_z w64 (of_z w64 c.args.period))) c.args.period c.args.residues.now c.args.bounds.now c.all_tightest-table.result
cutting c = record {
  period = omega (arith, ints);
  low = c.requires.low;
  high = c.requires.high;
  columns = c.requires.columns;
  count = c.requires.count;
  residues = c.requires.residues;
  diagonal = c.requires.diagonal;
  made = c.all_tightest-table.ensures;
}

made : (c : goal.After-of_parts) → Cutting (nat_abs (to_z w64 (of_z w64 c.args.period))) c.args.period c.args.residues.now c.args.bounds.now c.all_tightest-table.result
made c = record {
  period = omega (arith, ints);
  low = c.requires.low;
  high = c.requires.high;
  columns = c.requires.columns;
  count = c.requires.count;
  residues = c.requires.residues;
  diagonal = c.requires.diagonal;
  made = c.all_tightest-table.ensures;
}

pub all_tightest-table-requires-clause-fits : goal.all_tightest-table-requires-clause-fits
all_tightest-table-requires-clause-fits c = λ i j a il jl e.
    let p : c.args.period ≡ pos (nat_abs (to_z w64 (of_z w64 c.args.period))) = omega (arith, ints, c.requires.low, c.requires.high) in
    subst (λ y. CanTighten y (node c.args.residues.now i -ℤ node c.args.residues.now j) a) p (c.requires.room i j a il jl e)

pub of_parts-requires : goal.of_parts-requires
of_parts-requires c = shape_cut _ _ _ _ _ (cutting c)

pub returns-clause-none : goal.returns-clause-none
returns-clause-none c = cut_none _ _ _ _ _ (made c) c.of_parts.result c.of_parts.ensures.none

pub returns-clause-some : goal.returns-clause-some
returns-clause-some c = cut_some _ _ _ _ _ (made c) c.of_parts.result c.of_parts.ensures.some
