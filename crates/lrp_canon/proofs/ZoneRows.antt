-- The zone of the bounds that the ends of a row are.
use Rattle.std.proofs.Common.{◌≡◌, ℕ, zero, suc, ◌<◌, ◌≤◌, ◌^◌, ◌⊎◌, inl, inr, List, [], ◌∷◌, Option, Some, None, length, arith, refl, sym, subst, ◌∙◌}
use Rattle.std.specs.Prelude.{ℤ, pos, nat_abs, ◌-ℤ◌, ◌≤ℤ◌, neg_ℤ}
use Rattle.std.proofs.lemmas.Int.{ints}
use Rattle.lrp_theory.specs.Bounds.{Within}
use Rattle.lrp_theory.specs.Divides.{Divides}
use Rattle.lrp_theory.specs.Entries.{AtMost, entry, node}
use Rattle.lrp_theory.proofs.Modulo.{Divides-is, Divides-neg, Divides-zero}
use Rattle.lrp_matrix.specs.Ranges.{Above}
use Rattle.lrp_model.specs.declared.relations.Bound.{Bound}
use Rattle.lrp_zone.specs.Given.{AreGiven, HasNone, IsGiven, IsGivenZone, IsStoredFor, MeetsGiven, bound_at}
use Rattle.lrp_zone.specs.Zones.{IsResidue, IsZone, ZoneView, columns_of}
use Rattle.lrp_zone.proofs.Reaches.{small_reach}
use Rattle.lrp_canon.specs.declared.rows.MaximalRow.{MaximalRow}
use Rattle.lrp_canon.specs.Making.{IsInside, IsRow, IsRowEnd, IsZoneOf, high_of, low_of}

module _ (period : ℕ) (row : MaximalRow) (is : IsRow period row) (high : period ≤ 2 ^ 62) (k : ℤ) (ek : k ≡ pos period) (rs : List ℤ) (er : rs ≡ pos row.residue ∷ []) (bs : List Bound) (eb : bs ≡ low_of row.least ∷ high_of row.most ∷ []) where
  abbrev own : List ℤ
  own = pos row.residue ∷ []

  abbrev ends : List Bound
  ends = low_of row.least ∷ high_of row.most ∷ []

  pub residues : (p : ℕ) → p ≤ length rs → IsResidue (nat_abs k) (node rs p)
  residues p l = rw (ek, er) (at p (subst (λ xs. p ≤ length xs) er l))
    where
      at : (p : ℕ) → p ≤ 1 → IsResidue period (node (pos row.residue ∷ []) p)
      at zero l = let b : row.residue < period = is.below in record { low = omega (arith, ints); high = omega (arith, ints, b) }
      at (suc zero) l = let b : row.residue < period = is.below in record { low = omega (arith, ints); high = omega (arith, ints, b) }
      at (suc (suc p)) l = absurd (omega arith)

  -- each bound is tight
  low_given : (e : Option ℤ) → IsRowEnd period row.residue e → IsGiven (pos period) own (low_of e)
  low_given None h = record { left = omega arith; right = omega arith; fits = record { room = inl (Divides-is (pos period) (pos 0) _ (omega (arith, ints)) (Divides-zero (pos period)), omega (arith, ints)) } }
  low_given (Some a) h = record {
    left = omega arith;
    right = omega arith;
    fits = record { room = inl (Divides-is (pos period) (neg_ℤ (a -ℤ pos row.residue)) _ (omega (arith, ints)) (Divides-neg (pos period) _ h.0), (let l : neg_ℤ (pos (2 ^ 62)) ≤ℤ a = h.1.0 in let m : a ≤ℤ pos (2 ^ 62) = h.1.1 in omega (arith, ints))) };
  }

  high_given : (e : Option ℤ) → IsRowEnd period row.residue e → IsGiven (pos period) own (high_of e)
  high_given None h = record { left = omega arith; right = omega arith; fits = record { room = inl (Divides-is (pos period) (pos 0) _ (omega (arith, ints)) (Divides-zero (pos period)), omega (arith, ints)) } }
  high_given (Some a) h = record {
    left = omega arith;
    right = omega arith;
    fits = record { room = inl (Divides-is (pos period) (a -ℤ pos row.residue) _ (omega (arith, ints)) h.0, (let l : neg_ℤ (pos (2 ^ 62)) ≤ℤ a = h.1.0 in let m : a ≤ℤ pos (2 ^ 62) = h.1.1 in omega (arith, ints))) };
  }

  pub given : AreGiven k rs bs
  given = rw (ek, er, eb) (record { each = at })
    where
      at : (i : ℕ) → i < 2 → IsGiven (pos period) own (bound_at ends i)
      at zero l = low_given row.least is.least
      at (suc zero) l = high_given row.most is.most
      at (suc (suc i)) l = absurd (omega arith)

  -- what the bounds say of a number
  low_to : (e : Option ℤ) (x : ℤ) → (node (x ∷ []) (low_of e).left -ℤ node (x ∷ []) (low_of e).right) ≤ℤ (low_of e).most → Above x e
  low_to None x h = tt
  low_to (Some a) x h = let l : (pos 0 -ℤ x) ≤ℤ neg_ℤ a = h in omega (arith, ints)

  low_from : (e : Option ℤ) (x : ℤ) → Above x e → (node (x ∷ []) (low_of e).left -ℤ node (x ∷ []) (low_of e).right) ≤ℤ (low_of e).most
  low_from None x h = let l : (pos 0 -ℤ pos 0) ≤ℤ pos 0 = omega (arith, ints) in l
  low_from (Some a) x h = let l : (pos 0 -ℤ x) ≤ℤ neg_ℤ a = omega (arith, ints) in l

  high_to : (e : Option ℤ) (x : ℤ) → (node (x ∷ []) (high_of e).left -ℤ node (x ∷ []) (high_of e).right) ≤ℤ (high_of e).most → Within x e
  high_to None x h = tt
  high_to (Some a) x h = let l : (x -ℤ pos 0) ≤ℤ a = h in omega (arith, ints)

  high_from : (e : Option ℤ) (x : ℤ) → Within x e → (node (x ∷ []) (high_of e).left -ℤ node (x ∷ []) (high_of e).right) ≤ℤ (high_of e).most
  high_from None x h = let l : (pos 0 -ℤ pos 0) ≤ℤ pos 0 = omega (arith, ints) in l
  high_from (Some a) x h = let l : (x -ℤ pos 0) ≤ℤ a = omega (arith, ints) in l

  own_to : (x : ℤ) → MeetsGiven (pos period) own ends (x ∷ []) → IsInside period row x
  own_to x m = record { residue = m.residues.each 1 (omega arith); low = low_to row.least x (m.meets 0 (omega arith)); high = high_to row.most x (m.meets 1 (omega arith)) }

  own_from : (x : ℤ) → IsInside period row x → MeetsGiven (pos period) own ends (x ∷ [])
  own_from x i = record { count = refl; residues = record { each = at }; meets = meets }
    where
      at : (p : ℕ) → p ≤ 1 → Divides (pos period) (node (x ∷ []) p -ℤ node own p)
      at zero l = Divides-is (pos period) (pos 0) _ (omega (arith, ints)) (Divides-zero (pos period))
      at (suc zero) l = i.residue
      at (suc (suc p)) l = absurd (omega arith)

      meets : (j : ℕ) → j < 2 → (node (x ∷ []) (bound_at ends j).left -ℤ node (x ∷ []) (bound_at ends j).right) ≤ℤ (bound_at ends j).most
      meets zero l = low_from row.least x i.low
      meets (suc zero) l = high_from row.most x i.high
      meets (suc (suc j)) l = absurd (omega arith)

  given_to : (x : ℤ) → MeetsGiven k rs bs (x ∷ []) → IsInside period row x
  given_to x m = own_to x (subst (λ b. MeetsGiven (pos period) own b (x ∷ [])) eb (subst (λ r. MeetsGiven (pos period) r bs (x ∷ [])) er (subst (λ j. MeetsGiven j rs bs (x ∷ [])) ek m)))

  given_from : (x : ℤ) → IsInside period row x → MeetsGiven k rs bs (x ∷ [])
  given_from x i = rw (ek, er, eb) (own_from x i)

  pub some_meets : HasNone k rs bs → ⊥
  some_meets h = h.none (is.number ∷ []) (given_from is.number is.is)

  pub zone_is : (z : ZoneView) → IsZone z → IsGivenZone k rs bs z → IsZoneOf period row z
  zone_is z valid g = record {
    valid = valid;
    same = (let e : pos z.period ≡ pos period = g.period ∙ ek in omega (arith, ints));
    residues = g.residues ∙ er;
    to = λ x m. given_to x (g.to (x ∷ []) m);
    from = λ x i. g.from (x ∷ []) (given_from x i);
    reach = small_reach z (2 ^ 62) valid.shape.columns valid.size valid.shape.outside (record {
      each = λ p q pl ql. (
          let c : columns_of z ≤ 8 = valid.shape.columns in
          elim (g.stored.one p q (omega (arith, c, pl)) (omega (arith, c, ql))) [
            | inl e ↦ subst (AtMost (2 ^ 62)) (sym e) tt
            | inr s ↦ kept (bound_at bs s.0) (entry z.bounds p q) s.4 (equal_or (bound_at bs s.0).left (bound_at bs s.0).right)
          ]);
    });
  }
    where
      equal_or : (m n : ℕ) → (m ≡ n) ⊎ (m ≡ n → ⊥)
      equal_or m n = grind arith

      kept : (b : Bound) (e : Option ℤ) → IsStoredFor k rs b e → (b.left ≡ b.right) ⊎ (b.left ≡ b.right → ⊥) → AtMost (2 ^ 62) e
      kept b e s (inl same) = subst (AtMost (2 ^ 62)) (sym (s.same same)) tt
      kept b e s (inr apart) = (s.apart apart).small
