-- The tuples of a cell that meet tight bounds, by the zone of these bounds.
use Rattle.std.proofs.Common.{◌≡◌, ℕ, ◌<◌, ◌≤◌, inl, inr, List, Option, Some, length, arith, refl, sym, subst, ◌∙◌}
use Rattle.std.specs.Prelude.{ℤ, pos, nat_abs, ◌-ℤ◌, Contains}
use Rattle.std.proofs.lemmas.Int.{ints}
use Rattle.std.proofs.lemmas.List.{get_or_default}
use Rattle.std.proofs.lemmas.List.Elements.{Contains-get_or}
use Rattle.lrp_theory.specs.Divides.{Divides}
use Rattle.lrp_theory.specs.Entries.{entry, node, AtMost}
use Rattle.lrp_theory.proofs.Through.{AtMost-more}
use Rattle.lrp_model.specs.declared.relations.Bound.{Bound}
use Rattle.lrp_zone.specs.Zones.{ZoneView, IsZone, columns_of}
use Rattle.lrp_zone.specs.Pairs.{IsOfCell}
use Rattle.lrp_zone.specs.Given.{bound_at, AreGiven, MeetsGiven, IsStoredFor, IsGivenZone, HasNone}
use Rattle.lrp_zone.proofs.Floors.{stored_own}
use Rattle.lrp_zone.proofs.Reaches.{small_reach}
use Rattle.lrp_cutting.specs.Halves.{IsWithinBound, CanBeStored}
use Rattle.lrp_cutting.specs.Bounded.{AllCanBeStored, MeetsAll, IsBounded}

-- a magnitude of a number is at most its own
own_small : (a : ℤ) → AtMost (nat_abs a) (Some a)
own_small a = (omega (arith, ints), omega (arith, ints))

module _ (z : ZoneView) (bs : List Bound) (can : AllCanBeStored z bs) (k : ℤ) (rs : List ℤ) (e : k ≡ pos z.period) (f : rs ≡ z.residues) where
  -- the bound with a number is listed
  at_in : (i : ℕ) → i < length bs → Contains bs (bound_at bs i)
  at_in i l = Contains-get_or bs i _ l

  pub given_all : AreGiven k rs bs
  given_all = rw (e, f) (record {
    each = λ i l. record {
      left = (can.each _ (at_in i l)).left;
      right = (can.each _ (at_in i l)).right;
      fits = record { room = inl ((can.each _ (at_in i l)).tight, (can.each _ (at_in i l)).small) };
    };
  })

  meets_given : (xs : List ℤ) → MeetsAll z bs xs → MeetsGiven k rs bs xs
  meets_given xs m = rw (e, f) (record {
    count = m.cell.count;
    residues = record { each = m.cell.each };
    meets = λ i l. m.meets _ (at_in i l);
  })

  pub none_meets : HasNone k rs bs → (xs : List ℤ) → MeetsAll z bs xs → ⊥
  none_meets h xs m = h.none xs (meets_given xs m)

  module _ (w : ZoneView) (of : IsGivenZone k rs bs w) (valid : IsZone w) where
    cell_of : IsOfCell z w
    cell_of = let p : pos w.period ≡ pos z.period = of.period ∙ e in record { period = cc; residues = of.residues ∙ f }

    meets_each : (xs : List ℤ) → MeetsGiven k rs bs xs → (b : Bound) → Contains bs b → IsWithinBound b xs
    meets_each xs g b l = subst (λ x. IsWithinBound x xs) (get_or_default bs l.0 _ b l.1 ∙ l.2) (g.meets l.0 l.1)

    kept_small : (h : ℕ) → ((b : Bound) → Contains bs b → nat_abs b.most ≤ h) → (n : ℕ) (o : Option ℤ) → n < length bs → IsStoredFor k rs (bound_at bs n) o → AtMost h o
    kept_small h small n o l kept =
        let c : CanBeStored z (bound_at bs n) = can.each _ (at_in n l) in
        let b : Bound = bound_at bs n in
        let own : IsStoredFor (pos z.period) z.residues b o = subst (λ r. IsStoredFor (pos z.period) r b o) f (subst (λ x. IsStoredFor x rs b o) e kept) in
        subst (λ x. AtMost h x) (sym (stored_own (pos z.period) (node z.residues b.left -ℤ node z.residues b.right) b.most o c.tight (own.apart c.apart))) (AtMost-more (nat_abs b.most) h (Some b.most) (small b (at_in n l)) (own_small b.most))

    pub bounded_of : IsBounded z bs w
    bounded_of = record {
      valid = valid;
      cell = cell_of;
      to = λ xs m. record {
        cell = record {
          count = m.cell.count ∙ (rw cell_of.residues refl);
          each = λ i l. subst (λ p. Divides (pos p) (node xs i -ℤ node z.residues i)) cell_of.period (subst (λ r. Divides (pos w.period) (node xs i -ℤ node r i)) cell_of.residues (m.cell.each i (rw cell_of.residues l)));
        };
        meets = meets_each xs (of.to xs m);
      };
      from = λ xs m. of.from xs (meets_given xs m);
      reach = λ h small.
          let high : columns_of w ≤ 8 = valid.shape.columns in
          small_reach w h high valid.size valid.shape.outside (record {
            each = λ p q pl ql. elim (of.stored.one p q (omega arith) (omega arith)) [
              | inl x ↦ subst (λ o. AtMost h o) (sym x) tt
              | inr s ↦ kept_small h small s.0 (entry w.bounds p q) s.1 s.4
            ];
          });
    }
