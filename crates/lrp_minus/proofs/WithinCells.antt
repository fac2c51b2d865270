-- Cells that lie in cells of a smaller period.
use Rattle.std.proofs.Common.{◌≡◌, ℕ, suc, ◌+◌, ◌*◌, ◌<◌, inl, inr, List, map, take, Some, sym, ap, subst, ◌∙◌, arith}
use Rattle.std.specs.Prelude.{ℤ, pos, slice_get, ◌-ℤ◌, ◌≤ℤ◌, ◌<ℤ◌, ◌+ℤ◌}
use Rattle.std.specs.Int.{int_rem_euclid}
use Rattle.std.proofs.lemmas.Bool.{cases_lt}
use Rattle.std.proofs.lemmas.Int.{ints}
use Rattle.std.proofs.lemmas.List.{ext_get_or, length-map}
use Rattle.lrp_theory.specs.Divides.{Divides}
use Rattle.lrp_theory.specs.Entries.{node}
use Rattle.lrp_theory.proofs.Modulo.{Divides-+, Divides-is, small_multiple}
use Rattle.lrp_theory.proofs.Multiples.{Divides-trans}
use Rattle.lrp_model.specs.declared.tuples.Cell.{Cell}
use Rattle.lrp_model.specs.declared.tuples.Shape.{Shape}
use Rattle.lrp_zone.specs.Zones.{ZoneView, IsResidue}
use Rattle.lrp_store.specs.Growing.{IsTupleOf}
use Rattle.lrp_store.specs.Stores.{StoreView, IsStore, IsCellOf, IsInhabitedCell, LiesInCell, zones_at}
use Rattle.lrp_store.proofs.Counted.{one_cell}
use Rattle.lrp_store.proofs.Held.{node_take}
use Rattle.lrp_minus.specs.Counts.{GrowsIn, LiesInWideCell, cell_modulo, most_by}
use Rattle.lrp_minus.proofs.BeneathLaws.{rem_agrees, rem_padded, rem_residue}
use Rattle.lrp_minus.proofs.CutterLaws.{read_columns, read_period, read_residues}
use Rattle.lrp_minus.proofs.Fewness.{more_zones}
use Rattle.lrp_minus.proofs.Growth.{grows_again, grows_as}

module _ (k : ℕ) (low : 0 < k) where
  -- a residue is its own one
  own_residue : (r s : ℤ) → IsResidue k r → IsResidue k s → Divides (pos k) (r -ℤ s) → s ≡ r
  own_residue r s a b d =
      let rl : pos 0 ≤ℤ r = a.low in
      let rh : r <ℤ pos k = a.high in
      let sl : pos 0 ≤ℤ s = b.low in
      let sh : s <ℤ pos k = b.high in
      let z : r -ℤ s ≡ pos 0 = small_multiple k (r -ℤ s) d (omega (arith, ints)) (omega (arith, ints)) in
      omega (arith, ints)

  -- a cell of the period lies in itself
  pub lies_within_own : (shape : Shape) (c : Cell) → IsCellOf shape k c → LiesInWideCell k c c
  lies_within_own shape c proper = ap (λ (rs : List ℤ). record c { residues = rs }) (ext_get_or (pos 0) (map (λ r. int_rem_euclid r (pos k)) c.residues) c.residues (length-map c.residues (λ r. int_rem_euclid r (pos k))) (λ i h. elim (cases_lt i shape.times) [
    | inl less ↦ own_residue (node c.residues (suc i)) (node (map (λ r. int_rem_euclid r (pos k)) c.residues) (suc i)) (proper.range (suc i) (omega arith)) (rem_residue k low c.residues (suc i)) (rem_agrees k low c.residues (suc i))
    | inr more ↦ (rem_padded k low shape.times c.residues proper.residues).zeros i more ∙ sym (proper.residues.zeros i more)
  ]))

  -- the cell in which one of a multiple lies is of the period, and has its tuples
  modulo_proper : (shape : Shape) (m : ℕ) (c : Cell) → IsCellOf shape m c → IsCellOf shape k (cell_modulo k c)
  modulo_proper shape m c proper = record {
    texts = proper.texts;
    residues = rem_padded k low shape.times c.residues proper.residues;
    range = λ i h. rem_residue k low c.residues i;
  }

  modulo_lies : (shape : Shape) (m : ℕ) (c : Cell) (xs : List ℤ) (ns : List ℕ) → Divides (pos k) (pos m) → LiesInCell shape m c xs ns → LiesInCell shape k (cell_modulo k c) xs ns
  modulo_lies shape m c xs ns multiple lies = record {
    count = lies.count;
    residues = λ i h. Divides-is (pos k) ((node xs i -ℤ node c.residues i) +ℤ (node c.residues i -ℤ node (cell_modulo k c).residues i)) (node xs i -ℤ node (cell_modulo k c).residues i) (omega (arith, ints))
        (Divides-+ (pos k) _ _ (Divides-trans (pos k) (pos m) _ multiple (lies.residues i h)) (rem_agrees k low c.residues i));
    named = lies.named;
  }

  -- so a cell that shares a tuple with one of the period lies in it
  pub lies_within : (shape : Shape) (m : ℕ) (c wide : Cell) (xs : List ℤ) (ns : List ℕ) → Divides (pos k) (pos m) → IsCellOf shape m c → LiesInCell shape m c xs ns → IsCellOf shape k wide → LiesInCell shape k wide xs ns → LiesInWideCell k wide c
  lies_within shape m c wide xs ns multiple proper lies wide_proper wide_lies = one_cell shape k (cell_modulo k c) wide xs ns (modulo_proper shape m c proper) wide_proper (modulo_lies shape m c xs ns multiple lies) wide_lies

-- the cells that tuples of a zone inhabit lie in the zone's cell
module _ (left : StoreView) (left_is : IsStore left) (cell : Cell) (proper : IsCellOf left.shape left.period cell) (i : ℕ) (z : ZoneView) (e : slice_get (zones_at left cell) i ≡ Some z) where
  zone_lies : (xs : List ℤ) (ns : List ℕ) → IsTupleOf z (take left.shape.texts cell.texts) xs ns → LiesInCell left.shape left.period cell xs ns
  zone_lies xs ns h = record {
    count = h.member.cell.count ∙ read_columns left left_is cell i z e;
    residues = λ q l.
        subst (λ (k : ℕ). Divides (pos k) (node xs q -ℤ node cell.residues q)) (read_period left left_is cell i z e)
        (subst (λ (r : ℤ). Divides (pos z.period) (node xs q -ℤ r)) (ap (λ (rs : List ℤ). node rs q) (read_residues left left_is cell i z e) ∙ node_take left.shape.times cell.residues q l) (h.member.cell.each q (let n = read_columns left left_is cell i z e in omega (arith, n, l))));
    named = h.same;
  }

  pub zone_within : (out : StoreView) → out.shape ≡ left.shape → Divides (pos left.period) (pos out.period) → (c : Cell) → IsInhabitedCell out.shape out.period (IsTupleOf z (take out.shape.texts cell.texts)) c → LiesInWideCell left.period cell c
  zone_within out shape multiple c inhabited = by_shape (subst (λ (q : Shape). IsInhabitedCell q out.period (IsTupleOf z (take q.texts cell.texts)) c) shape inhabited)
    where
      by_shape : IsInhabitedCell left.shape out.period (IsTupleOf z (take left.shape.texts cell.texts)) c → LiesInWideCell left.period cell c
      by_shape h = lies_within left.period left_is.period_low left.shape out.period c cell h.times h.texts multiple h.proper h.inside proper (zone_lies h.times h.texts h.is)

  -- one zone more
  pub zone_few : (start out new : StoreView) → out.shape ≡ left.shape → Divides (pos left.period) (pos out.period) → (n : ℕ) → GrowsIn (LiesInWideCell left.period cell) (λ within. i * most_by left.shape.times n) start out
      → GrowsIn (IsInhabitedCell out.shape out.period (IsTupleOf z (take out.shape.texts cell.texts))) (λ within. most_by out.shape.times n) out new → GrowsIn (LiesInWideCell left.period cell) (λ within. (i + 1) * most_by left.shape.times n) start new
  zone_few start out new shape multiple n g h =
      subst (λ (k : ℕ). GrowsIn (LiesInWideCell left.period cell) (λ within. k) start new) (sym (more_zones i (most_by left.shape.times n)))
      (grows_again (LiesInWideCell left.period cell) (λ within. i * most_by left.shape.times n) (λ within. most_by left.shape.times n) start out new g
      (subst (λ (q : Shape). GrowsIn (LiesInWideCell left.period cell) (λ within. most_by q.times n) out new) shape
      (grows_as (IsInhabitedCell out.shape out.period (IsTupleOf z (take out.shape.texts cell.texts))) (LiesInWideCell left.period cell) (λ within. most_by out.shape.times n) out new (zone_within out shape multiple) h)))
