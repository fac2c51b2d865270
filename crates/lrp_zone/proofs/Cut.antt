-- The zone of residues and of the bounds of a matrix.
use Rattle.std.proofs.Common.{◌≡◌, ℕ, ◌+◌, ◌≤◌, ◌^◌, List, Option, Some, None, arith, refl, sym, subst, length, inl, inr, ◌⊎◌, ◌∙◌}
use Rattle.std.specs.Prelude.{ℤ, pos, nat_abs, ◌-ℤ◌, ◌≤ℤ◌, neg_ℤ, IfSome, IfNone}
use Rattle.std.proofs.lemmas.Int.{ints}
use Rattle.lrp_theory.specs.Divides.{Divides}
use Rattle.lrp_theory.specs.Entries.{entry, node, AtMost}
use Rattle.lrp_theory.proofs.Modulo.{Divides--, Divides-is}
use Rattle.lrp_matrix.specs.Matrices.{MatrixView, MeetsBounds}
use Rattle.lrp_zone.specs.Zones.{ZoneView, IsShape, IsMember, HasMember, IsResidue}
use Rattle.lrp_zone.specs.Residues.{HasResidues, IsCutToResidues, HasNoCut}
use Rattle.lrp_zone.specs.Tight.{CanTighten, IsTightened, AreStored}
use Rattle.lrp_zone.proofs.Floors.{stored_tight, tightened_below, below_tightened}

-- a bound that has room is within the limit
pub roomy : (k w : ℤ) (e : Option ℤ) → ((a : ℤ) → e ≡ Some a → CanTighten k w a) → AtMost (2 ^ 62) e
roomy k w None fits = tt
roomy k w (Some a) fits = size (fits a refl).room
  where
    size : (Divides k (a -ℤ w) × (nat_abs a ≤ 2 ^ 62)) ⊎ (nat_abs a + nat_abs k ≤ 2 ^ 62) → (neg_ℤ (pos (2 ^ 62)) ≤ℤ a) × (a ≤ℤ pos (2 ^ 62))
    size (inl o) = let s : nat_abs a ≤ 2 ^ 62 = o.1 in (omega (arith, ints), omega (arith, ints))
    size (inr o) = (omega (arith, ints), omega (arith, ints))

-- what the call knows: k is the period n in a word
pub record Cutting (k : ℕ) (n : ℤ) (rs : List ℤ) (m : MatrixView) (bs : List (Option ℤ)) : Type 0 where
  pub period : pos k ≡ n
  pub low : pos 1 ≤ℤ n
  pub high : n ≤ℤ pos (2 ^ 62)
  pub columns : length rs ≤ 8
  pub count : m.columns ≡ length rs
  pub residues : (p : ℕ) → p ≤ length rs → IsResidue (nat_abs n) (node rs p)
  pub diagonal : (i : ℕ) → i ≤ length rs → entry m.cells i i ≡ None
  pub made : AreStored (pos k) rs m.cells (length rs + 1) bs

module _ (k : ℕ) (n : ℤ) (rs : List ℤ) (m : MatrixView) (bs : List (Option ℤ)) (g : Cutting k n rs m bs) where
  -- the zone of the tightened bounds
  abbrev cut : ZoneView
  cut = record { period = k; residues = rs; bounds = bs }

  -- it keeps a zone's parts
  pub shape_cut : IsShape cut
  shape_cut = record {
    period_low = let e : pos k ≡ n = g.period in let l : pos 1 ≤ℤ n = g.low in omega (arith, ints);
    period_high = let e : pos k ≡ n = g.period in let l : n ≤ℤ pos (2 ^ 62) = g.high in omega (arith, ints);
    columns = g.columns;
    residues = λ p pl. subst (λ y. IsResidue y (node rs p)) (let e : pos k ≡ n = g.period in omega (arith, ints)) (g.residues p pl);
    tight = λ i j il jl. stored_tight (pos k) _ (entry m.cells i j) (entry bs i j) (g.made.each i j (omega arith) (omega arith));
    diagonal = λ p pl. (g.made.each p p (omega arith) (omega arith)).tightened.none (g.diagonal p pl);
    outside = g.made.outside;
  }

  -- its tuples meet the bounds
  cut_to : (xs : List ℤ) → IsMember cut xs → MeetsBounds m xs
  cut_to xs is = record {
    count = is.cell.count ∙ sym g.count;
    each = λ i j il jl.
        let c : m.columns ≡ length rs = g.count in
        tightened_below (pos k) (node rs i -ℤ node rs j) (entry m.cells i j) (entry bs i j) _ (g.made.each i j (omega arith) (omega arith)).tightened (is.meets i j (omega arith) (omega arith));
  }

  -- and integers with the residues that meet the bounds are in it
  cut_from : (xs : List ℤ) → MeetsBounds m xs → HasResidues n rs xs → IsMember cut xs
  cut_from xs met fit = record {
    cell = record { count = met.count ∙ g.count; each = residue };
    meets = λ i j il jl.
        let c : m.columns ≡ length rs = g.count in
        below_tightened (pos k) (node rs i -ℤ node rs j) (entry m.cells i j) (entry bs i j) _ (g.made.each i j (omega arith) (omega arith)).tightened
        (Divides-is (pos k) ((node xs i -ℤ node rs i) -ℤ (node xs j -ℤ node rs j)) _ (omega (arith, ints)) (Divides-- (pos k) _ _ (residue i il) (residue j jl))) (met.each i j (omega arith) (omega arith));
  }
    where
      residue : (p : ℕ) → p ≤ length rs → Divides (pos k) (node xs p -ℤ node rs p)
      residue p pl = subst (λ y. Divides y (node xs p -ℤ node rs p)) (sym g.period) (fit.each p pl)

  -- so it holds what the call promises
  cut_is : IsCutToResidues n rs m cut
  cut_is = record {
    period = g.period;
    residues = refl;
    to = cut_to;
    from = cut_from;
    stored = λ i j il jl. subst (λ y. IsTightened y (node rs i -ℤ node rs j) (entry m.cells i j) (entry bs i j)) g.period (g.made.each i j (omega arith) (omega arith)).tightened;
  }

  pub cut_some : (o : Option ZoneView) → IfSome o (λ y. y ≡ cut) → IfSome o (λ y. IsCutToResidues n rs m y)
  cut_some None h = tt
  cut_some (Some y) h = rw h cut_is

  pub cut_none : (o : Option ZoneView) → IfNone o (HasMember cut → ⊥) → IfNone o (HasNoCut n rs m)
  cut_none None h = record { none = λ xs met fit. h (record { member = xs; is = cut_from xs met fit }) }
  cut_none (Some y) h = tt
