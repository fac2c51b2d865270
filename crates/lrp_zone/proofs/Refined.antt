-- A zone with residues of a multiple of its period.
use Rattle.std.proofs.Common.{◌≡◌, ℕ, ◌+◌, ◌-◌, ◌<◌, ◌≤◌, ◌^◌, List, Option, Some, None, arith, refl, sym, subst, length, inr}
use Rattle.std.specs.Prelude.{ℤ, pos, nat_abs, ◌-ℤ◌, ◌≤ℤ◌, neg_ℤ, IfSome, IfNone}
use Rattle.std.proofs.lemmas.Int.{ints}
use Rattle.lrp_theory.specs.Divides.{Divides}
use Rattle.lrp_theory.specs.Entries.{entry, node, AtMost}
use Rattle.lrp_theory.proofs.Modulo.{Divides-+, Divides--, Divides-is}
use Rattle.lrp_theory.proofs.Multiples.{Divides-trans}
use Rattle.lrp_zone.specs.Zones.{ZoneView, IsShape, IsZone, IsMember, HasMember, IsResidue, columns_of, reach_of}
use Rattle.lrp_zone.specs.Residues.{HasResidues, IsRefined, HasNoRefined}
use Rattle.lrp_zone.specs.Tight.{CanTighten, AreStored}
use Rattle.lrp_zone.proofs.Floors.{stored_tight, tightened_below, below_tightened, tightened_small}
use Rattle.lrp_zone.proofs.Reaches.{reach_small, small_reach}

-- a bound of a zone whose reach leaves room for k
pub room_of : (z : ZoneView) (k : ℕ) (w a : ℤ) (i j : ℕ) → reach_of z + k ≤ 2 ^ 62 → i ≤ columns_of z → j ≤ columns_of z → entry z.bounds i j ≡ Some a → CanTighten (pos k) w a
room_of z k w a i j small il jl e =
    let s : (neg_ℤ (pos (reach_of z)) ≤ℤ a) × (a ≤ℤ pos (reach_of z)) = subst (λ f. AtMost (reach_of z) f) e ((reach_small z (reach_of z) (omega arith)).each i j (omega arith) (omega arith)) in
    let s0 : neg_ℤ (pos (reach_of z)) ≤ℤ a = s.0 in
    let s1 : a ≤ℤ pos (reach_of z) = s.1 in
    record { room = inr (omega (arith, ints)) }

-- what the call knows: k is the new period n in a word
pub record Refining (z : ZoneView) (k : ℕ) (n : ℤ) (rs : List ℤ) (bs : List (Option ℤ)) : Type 0 where
  pub valid : IsZone z
  pub period : pos k ≡ n
  pub low : pos 1 ≤ℤ n
  pub multiple : Divides (pos z.period) n
  pub columns : length rs ≡ columns_of z
  pub residues : (p : ℕ) → p ≤ columns_of z → IsResidue (nat_abs n) (node rs p)
  pub agree : (p : ℕ) → p ≤ columns_of z → Divides (pos z.period) (node rs p -ℤ node z.residues p)
  pub room : reach_of z + nat_abs n ≤ 2 ^ 62
  pub made : AreStored (pos k) rs z.bounds (length rs + 1) bs

module _ (z : ZoneView) (k : ℕ) (n : ℤ) (rs : List ℤ) (bs : List (Option ℤ)) (g : Refining z k n rs bs) where
  -- the zone of the new residues
  abbrev fine : ZoneView
  fine = record { period = k; residues = rs; bounds = bs }

  -- the new period is at least 1
  k_low : 0 < k
  k_low = let e : pos k ≡ n = g.period in let l : pos 1 ≤ℤ n = g.low in omega (arith, ints)

  -- and at most the limit
  k_high : k ≤ 2 ^ 62
  k_high = let e : pos k ≡ n = g.period in let l : reach_of z + nat_abs n ≤ 2 ^ 62 = g.room in omega (arith, ints)

  -- there is a residue for each column
  count : length rs ≡ columns_of z
  count = g.columns

  -- a new column is an old one
  old : (p : ℕ) → p ≤ length rs → p ≤ columns_of z
  old p l = let c = count in omega arith

  -- and an old one is new
  new : (p : ℕ) → p ≤ columns_of z → p < length rs + 1
  new p l = let c = count in omega arith

  -- the old period divides the new one
  multiple_k : Divides (pos z.period) (pos k)
  multiple_k = rw g.period g.multiple

  -- the zone keeps a zone's parts
  pub shape_fine : IsShape fine
  shape_fine = record {
    period_low = k_low;
    period_high = k_high;
    columns = let c = count in let h : columns_of z ≤ 8 = g.valid.shape.columns in omega arith;
    residues = λ p pl. subst (λ y. IsResidue y (node rs p)) (let e : pos k ≡ n = g.period in omega (arith, ints)) (g.residues p (old p pl));
    tight = λ i j il jl. stored_tight (pos k) _ (entry z.bounds i j) (entry bs i j) (g.made.each i j (omega arith) (omega arith));
    diagonal = λ p pl. (g.made.each p p (omega arith) (omega arith)).tightened.none (g.valid.shape.diagonal p (old p pl));
    outside = g.made.outside;
  }

  -- its tuples are tuples of z
  fine_to : (xs : List ℤ) → IsMember fine xs → IsMember z xs
  fine_to xs m = record {
    cell = record {
      count = (let c = count in let d : length xs ≡ length rs = m.cell.count in omega arith);
      each = λ p pl. Divides-is (pos z.period) _ (node xs p -ℤ node z.residues p) (omega (arith, ints)) (Divides-+ (pos z.period) _ _ (Divides-trans (pos z.period) (pos k) _ multiple_k (m.cell.each p (let c = count in omega arith))) (g.agree p pl));
    };
    meets = λ i j il jl. tightened_below (pos k) (node rs i -ℤ node rs j) (entry z.bounds i j) (entry bs i j) _ (g.made.each i j (new i il) (new j jl)).tightened (m.meets i j (let c = count in omega arith) (let c = count in omega arith));
  }

  -- and they have the residues
  has_residues : (xs : List ℤ) → IsMember fine xs → HasResidues n rs xs
  has_residues xs m = record { each = λ p pl. subst (λ y. Divides y (node xs p -ℤ node rs p)) g.period (m.cell.each p pl) }

  -- tuples of z with the residues are in it
  fine_from : (xs : List ℤ) → IsMember z xs → HasResidues n rs xs → IsMember fine xs
  fine_from xs m fit = record {
    cell = record { count = (let c = count in let d : length xs ≡ columns_of z = m.cell.count in omega arith); each = residue };
    meets = λ i j il jl. below_tightened (pos k) (node rs i -ℤ node rs j) (entry z.bounds i j) (entry bs i j) _ (g.made.each i j (omega arith) (omega arith)).tightened
        (Divides-is (pos k) ((node xs i -ℤ node rs i) -ℤ (node xs j -ℤ node rs j)) _ (omega (arith, ints)) (Divides-- (pos k) _ _ (residue i il) (residue j jl))) (m.meets i j (old i il) (old j jl));
  }
    where
      residue : (p : ℕ) → p ≤ length rs → Divides (pos k) (node xs p -ℤ node rs p)
      residue p pl = subst (λ y. Divides y (node xs p -ℤ node rs p)) (sym g.period) (fit.each p pl)

  -- it holds the tuples of z with the residues
  refined_is : length bs ≡ 81 → IsRefined z n rs fine
  refined_is size = record {
    period = g.period;
    residues = refl;
    to = λ xs m. (fine_to xs m, has_residues xs m);
    from = fine_from;
    reach = small_reach fine (reach_of z + (k - 1)) shape_fine.columns size shape_fine.outside (record {
      each = λ i j il jl. tightened_small (reach_of z) k _ (entry z.bounds i j) (entry bs i j) k_low (g.made.each i j il jl).tightened
          ((reach_small z (reach_of z) (omega arith)).each i j (let c = count in omega arith) (let c = count in omega arith));
    });
  }

  -- the same for the result of a call
  pub refined_some : (o : Option ZoneView) → IfSome o IsZone → IfSome o (λ y. y ≡ fine) → IfSome o (λ y. IsRefined z n rs y)
  refined_some None zone h = tt
  refined_some (Some y) zone h = rw h (refined_is (subst IsZone h zone).size)

  -- and where there are none
  pub refined_empty : (o : Option ZoneView) → IfNone o (HasMember fine → ⊥) → IfNone o (HasNoRefined z n rs)
  refined_empty None h = record { none = λ xs m fit. h (record { member = xs; is = fine_from xs m fit }) }
  refined_empty (Some y) h = tt
