-- The closed bounds give the ends, and the zone has one residue.
use Rattle.std.proofs.Common.{arith, inl, inr, sym, subst}
use Rattle.std.specs.Prelude.{pos, ◌-ℤ◌}
use Rattle.std.proofs.lemmas.Int.{ints}
use Rattle.lrp_theory.specs.Bounds.{Within}
use Rattle.lrp_theory.specs.Divides.{Divides}
use Rattle.lrp_theory.specs.Entries.{node}
use Rattle.lrp_hulls.proofs.hull.span_in.Goals as goal

pub returns : goal.returns
returns c = λ xs m.
    let b = c.requires.integers.to xs (record { count = m.cell.count; each = m.meets }) in
    let columns = c.requires.integers.columns in
    record {
      low = elim (c.low_number.ensures (node xs c.args.column) (c.low_end.ensures (node xs c.args.column) (subst (Within (pos 0 -ℤ node xs c.args.column)) (sym c.get.ensures) (b.each 0 c.args.column (omega arith) (omega (arith, columns, c.requires.high)))))) [ inl n ↦ inl (omega (arith, ints, n)) | inr n ↦ inr (omega (arith, ints, n)) ];
      high = elim (c.high_number.ensures (node xs c.args.column) (c.high_end.ensures (node xs c.args.column) (subst (Within (node xs c.args.column -ℤ pos 0)) (sym c.get-2.ensures) (b.each c.args.column 0 (omega (arith, columns, c.requires.high)) (omega arith))))) [ inl n ↦ inl (omega (arith, ints, n)) | inr n ↦ inr (omega (arith, ints, n)) ];
      residue = record {
        r = c.residue-residue.result;
        low = omega (arith, ints);
        high = omega (arith, ints);
        same = subst (λ r. Divides (pos c.args.zone.now.period) (node xs c.args.column -ℤ r)) (sym c.residue-residue.ensures) (m.cell.each c.args.column c.requires.high);
      };
    }
