-- The stored bounds give the ends, and the zone has one residue.
use Rattle.std.proofs.Common.{arith, inl, inr, sym, subst}
use Rattle.std.specs.Prelude.{pos, ◌-ℤ◌}
use Rattle.std.proofs.lemmas.Int.{ints}
use Rattle.lrp_theory.specs.Bounds.{Within}
use Rattle.lrp_theory.specs.Divides.{Divides}
use Rattle.lrp_theory.specs.Entries.{node}
use Rattle.lrp_hulls.proofs.Hulled.{less_nothing, spans_first}
use Rattle.lrp_hulls.proofs.hull.lone_spans.Goals as goal

pub returns : goal.returns
returns c = spans_first c.args.zone.now c.requires _ _ (λ xs m. record {
  low = elim (c.low_number.ensures (node xs 1) (c.stored_low_end.ensures (node xs 1) (subst (Within (pos 0 -ℤ node xs 1)) (sym c.bound.ensures) (m.meets 0 1 (omega arith) (omega (arith, c.requires)))))) [ inl n ↦ inl (omega (arith, ints, n)) | inr n ↦ inr (omega (arith, ints, n)) ];
  high = elim (c.high_number.ensures (node xs 1) (subst (λ d. Within d c.bound-2.result) (less_nothing (node xs 1)) (subst (Within (node xs 1 -ℤ pos 0)) (sym c.bound-2.ensures) (m.meets 1 0 (omega (arith, c.requires)) (omega arith))))) [ inl n ↦ inl (omega (arith, ints, n)) | inr n ↦ inr (omega (arith, ints, n)) ];
  residue = record {
    r = c.residue-residue.result;
    low = omega (arith, ints);
    high = omega (arith, ints);
    same = subst (λ r. Divides (pos c.args.zone.now.period) (node xs 1 -ℤ r)) (sym c.residue-residue.ensures) (m.cell.each 1 (omega (arith, c.requires)));
  };
})
