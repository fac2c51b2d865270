-- A zone without one of its columns.
use Rattle.std.proofs.Common.{◌≡◌, ℕ, ◌+◌, ◌*◌, ◌-◌, ◌^◌, ◌<◌, ◌≤◌, ◌≢◌, List, Option, Some, None, Bool, true, false, cond, eqb, arith, refl, sym, ap, subst, ◌∙◌, length, inl, inr, ◌⊎◌}
use Rattle.std.specs.Prelude.{ℤ, pos, ◌+ℤ◌, ◌-ℤ◌, ◌≤ℤ◌, neg_ℤ}
use Rattle.std.specs.Int.{int_rem_euclid}
use Rattle.std.proofs.lemmas.Int.{ints}
use Rattle.std.proofs.lemmas.Bool.Decides.{nat_tests}
use Rattle.lrp_theory.specs.Bounds.{Within, plus, Meets}
use Rattle.lrp_theory.specs.Divides.{Divides}
use Rattle.lrp_theory.specs.Entries.{entry, node, AtMost, AllSmall}
use Rattle.lrp_theory.proofs.Modulo.{Divides-+, Divides--, Divides-neg, Divides-is, rem_divides, rem_between}
use Rattle.lrp_theory.proofs.Below.{within_same}
use Rattle.lrp_theory.proofs.Paths.{through}
use Rattle.lrp_theory.proofs.Through.{AtMost-plus, AtMost-lesser}
use Rattle.lrp_theory.proofs.Floor.{Agrees}
use Rattle.lrp_theory.proofs.Lattice.{Lattice}
use Rattle.lrp_theory.proofs.Drop.{value_through}
use Rattle.lrp_theory.proofs.Lists.{listed}
use Rattle.std.specs.List.{remove}
use Rattle.std.proofs.lemmas.List.Edits.{length-remove}
use Rattle.lrp_zone.specs.Zones.{ZoneView, IsTight, IsShape, IsZone, IsMember, HasMember, columns_of, reach_of}
use Rattle.lrp_zone.specs.Columns.{past_node, with_column_value, IsWithoutNode, IsDropped}
use Rattle.lrp_zone.proofs.Members.{list_member, member_meets, agrees_of}
use Rattle.lrp_zone.proofs.Cases.{eq_or}
use Rattle.lrp_zone.proofs.Inclusion.{lesser_tight, lesser_met}
use Rattle.lrp_zone.proofs.Reaches.{reach_small, small_reach}
use Rattle.lrp_zone.proofs.Nodes.{past_below, from_past, node_at, node_past_at, length_with, node_remove}

-- the values of a node that have its residue
abbrev Fits : ℤ → (ℕ → ℤ) → ℕ → ℤ → Type 0
Fits k r m v = Divides k (v -ℤ r m)

-- a value of one residue less a tight bound has the other residue
low_value : (k r s x a : ℤ) → Divides k (a -ℤ (r -ℤ s)) → Divides k (x -ℤ r) → Divides k ((x -ℤ a) -ℤ s)
low_value k r s x a h g = Divides-is k ((x -ℤ r) -ℤ (a -ℤ (r -ℤ s))) _ (omega (arith, ints)) (Divides-- k _ _ g h)

-- and so it has with the bound added
high_value : (k r s x a : ℤ) → Divides k (a -ℤ (s -ℤ r)) → Divides k (x -ℤ r) → Divides k ((x +ℤ a) -ℤ s)
high_value k r s x a h g = Divides-is k ((x -ℤ r) +ℤ (a -ℤ (s -ℤ r))) _ (omega (arith, ints)) (Divides-+ k _ _ g h)

-- each residue has values above any number
large_value : (k r d : ℤ) → pos 1 ≤ℤ k → (v : ℤ) × (d ≤ℤ v) × Divides k (v -ℤ r)
large_value k r d one = by (int_rem_euclid (r -ℤ d) k) refl (rem_between k (r -ℤ d) _ one refl).0
  where
    by : (m : ℤ) → m ≡ int_rem_euclid (r -ℤ d) k → pos 0 ≤ℤ m → (v : ℤ) × (d ≤ℤ v) × Divides k (v -ℤ r)
    by m e h = (d +ℤ m, omega (arith, ints), Divides-is k (neg_ℤ ((r -ℤ d) -ℤ m)) _ (omega (arith, ints)) (Divides-neg k _ (rem_divides k (r -ℤ d) m one e)))

-- a bound that is there has the residue
agrees_at : (k w a : ℤ) (e : Option ℤ) → e ≡ Some a → Agrees k w e → Divides k (a -ℤ w)
agrees_at k w a e q h = let g : Agrees k w (Some a) = subst (λ f. Agrees k w f) q h in g

-- the values of the residues make a lattice for tight bounds
lattice_of : (z : ZoneView) → IsShape z → Lattice (columns_of z + 1) (entry z.bounds) (Fits (pos z.period) (node z.residues))
lattice_of z s =
    let one : pos 1 ≤ℤ pos z.period = (let l : 0 < z.period = s.period_low in omega (arith, ints)) in
    let tight : (i j : ℕ) → i < columns_of z + 1 → j < columns_of z + 1 → Agrees (pos z.period) (node z.residues i -ℤ node z.residues j) (entry z.bounds i j) =
    λ i j il jl. agrees_of _ _ _ (s.tight i j (omega arith) (omega arith)) in
    record {
      low = λ i k x a il kl fit e. low_value (pos z.period) (node z.residues i) (node z.residues k) x a (agrees_at _ _ a _ e (tight i k il kl)) fit;
      high = λ j k x a jl kl fit e. high_value (pos z.period) (node z.residues j) (node z.residues k) x a (agrees_at _ _ a _ e (tight k j kl jl)) fit;
      large = λ k d kl. large_value (pos z.period) (node z.residues k) d one;
    }

-- the sum of two tight bounds is tight
plus_tight : (k r s t : ℤ) (e f : Option ℤ) → IsTight k (r -ℤ s) e → IsTight k (s -ℤ t) f → AtMost (2 ^ 61) e → AtMost (2 ^ 61) f → IsTight k (r -ℤ t) (plus e f)
plus_tight k r s t None f a b g h = tt
plus_tight k r s t (Some x) None a b g h = tt
plus_tight k r s t (Some x) (Some y) a b g h =
    let f0 = a.1 in
    let g0 = b.1 in
    (Divides-is k _ _ (omega (arith, ints)) (Divides-+ k _ _ a.0 b.0), (omega (arith, ints), omega (arith, ints)))

-- no bound has any magnitude
AtMost-none : (h : ℕ) (e : Option ℤ) → e ≡ None → AtMost h e
AtMost-none h e q = subst (λ f. AtMost h f) (sym q) tt

module _ (z : ZoneView) (valid : IsZone z) (k : ℕ) (low : 0 < k) (high : k ≤ columns_of z) (room : 2 * reach_of z ≤ 2 ^ 62) (rs : List ℤ) (bs : List (Option ℤ))
    (is : rs ≡ remove z.residues (k - 1)) (made : IsWithoutNode z.bounds k (columns_of z) bs) where
  -- the zone without column k
  abbrev rest : ZoneView
  rest = record { period = z.period; residues = rs; bounds = bs }

  -- it has one column fewer
  count : length rs + 1 ≡ columns_of z
  count = rw is (length-remove z.residues (k - 1) (omega arith))

  -- its residues are those of the other columns
  residues : (p : ℕ) → p < columns_of z → node rs p ≡ node z.residues (past_node k p)
  residues p pl = rw is (node_remove k p z.residues low high)

  -- the bounds are small enough for a sum of two
  small : AllSmall (columns_of z + 1) (2 ^ 61) z.bounds
  small = reach_small z (2 ^ 61) (omega arith)

  -- integers that meet the old bounds meet the new ones
  dropped_pair : (x : ℕ → ℤ) → Meets (columns_of z + 1) (entry z.bounds) x → (p q : ℕ) → p < columns_of z → q < columns_of z → (p ≡ q) ⊎ (p ≢ q) → Within (x (past_node k p) -ℤ x (past_node k q)) (entry bs p q)
  dropped_pair x h p q pl ql (inl e) = subst (λ f. Within (x (past_node k p) -ℤ x (past_node k q)) f) (sym ((made.each p q pl ql).same e)) tt
  dropped_pair x h p q pl ql (inr ne) =
      let a : past_node k p ≤ columns_of z = past_below k p (columns_of z) pl in
      let b : past_node k q ≤ columns_of z = past_below k q (columns_of z) ql in
      lesser_met (x (past_node k p) -ℤ x (past_node k q)) _ _ _ ((made.each p q pl ql).lesser ne)
      (h (past_node k p) (past_node k q) (omega (arith, count)) (omega (arith, count)))
      (through (x (past_node k p)) (x (past_node k q)) (x k) _ _ (h (past_node k p) k (omega (arith, count)) (omega (arith, count))) (h k (past_node k q) (omega (arith, count)) (omega (arith, count))))

  -- the same for all pairs
  dropped_meets : (x : ℕ → ℤ) → Meets (columns_of z + 1) (entry z.bounds) x → Meets (length rs + 1) (entry bs) (λ p. x (past_node k p))
  dropped_meets x h p q pl ql = dropped_pair x h p q (omega (arith, count)) (omega (arith, count)) (eq_or p q)

  -- values of the old residues have the new ones
  node_fits : (xs : List ℤ) → IsMember z xs → (p : ℕ) → p < columns_of z → Divides (pos z.period) (node xs (past_node k p) -ℤ node rs p)
  node_fits xs m p pl = rw (residues p pl) (m.cell.each (past_node k p) (past_below k p (columns_of z) pl))

  -- a tuple that a value completes is in the rest
  pub from_member : (xs : List ℤ) (v : ℤ) → length xs ≡ length rs → IsMember z (with_column_value k v xs) → IsMember rest xs
  from_member xs v counted m =
      let at : (p : ℕ) → node (with_column_value k v xs) (past_node k p) ≡ node xs p = λ p. node_past_at k p v xs low (let c : length xs ≡ length rs = counted in omega (arith, count)) in
      record {
        cell = record { count = counted; each = λ p pl. subst (λ y. Divides (pos z.period) (y -ℤ node rs p)) (at p) (node_fits (with_column_value k v xs) m p (omega (arith, count))) };
        meets = λ p q pl ql. rw (← at p, ← at q) (dropped_meets (node (with_column_value k v xs)) (member_meets z (with_column_value k v xs) m) p q (omega (arith, count)) (omega (arith, count)));
      }

  -- the rest keeps a zone's parts
  pub shape_rest : IsShape rest
  shape_rest = record {
    period_low = valid.shape.period_low;
    period_high = valid.shape.period_high;
    columns = let c : columns_of z ≤ 8 = valid.shape.columns in omega (arith, count);
    residues = λ p pl. rw (residues p (omega (arith, count))) (valid.shape.residues (past_node k p) (past_below k p (columns_of z) (omega (arith, count))));
    tight = λ p q pl ql. rw (residues p (omega (arith, count)), residues q (omega (arith, count))) (tight_pair p q (omega (arith, count)) (omega (arith, count)) (eq_or p q));
    diagonal = λ p pl. (made.each p p (omega (arith, count)) (omega (arith, count))).same refl;
    outside = record { none = λ p q pl ql o. made.outside.none p q pl ql (outer p q o) };
  }
    where
      outer : (p q : ℕ) → (length rs + 1 ≤ p) ⊎ (length rs + 1 ≤ q) → (columns_of z ≤ p) ⊎ (columns_of z ≤ q)
      outer p q (inl o) = inl (omega (arith, count))
      outer p q (inr o) = inr (omega (arith, count))

      tight_pair : (p q : ℕ) → p < columns_of z → q < columns_of z → (p ≡ q) ⊎ (p ≢ q) → IsTight (pos z.period) (node z.residues (past_node k p) -ℤ node z.residues (past_node k q)) (entry bs p q)
      tight_pair p q pl ql (inl e) = subst (λ f. IsTight (pos z.period) (node z.residues (past_node k p) -ℤ node z.residues (past_node k q)) f) (sym ((made.each p q pl ql).same e)) tt
      tight_pair p q pl ql (inr ne) =
          let a : past_node k p ≤ columns_of z = past_below k p (columns_of z) pl in
          let b : past_node k q ≤ columns_of z = past_below k q (columns_of z) ql in
          lesser_tight _ _ _ _ _ ((made.each p q pl ql).lesser ne) (valid.shape.tight (past_node k p) (past_node k q) a b)
          (plus_tight _ _ (node z.residues k) _ _ _ (valid.shape.tight (past_node k p) k a high) (valid.shape.tight k (past_node k q) high b) (small.each (past_node k p) k (omega (arith, count)) (omega (arith, count))) (small.each k (past_node k q) (omega (arith, count)) (omega (arith, count))))

  -- the old tuple without column k is in the rest
  pub has_rest : HasMember rest
  has_rest =
      let ys : List ℤ = valid.some.member in
      record {
        member = listed (λ p. node ys (past_node k p)) (length rs);
        is = list_member rest (λ p. node ys (past_node k p)) (dropped_meets (node ys) (member_meets z ys valid.some.is)) (λ p pl. node_fits ys valid.some.is p (omega (arith, count)));
      }

  -- the reach at most doubles
  reach_rest : length bs ≡ 81 → reach_of rest ≤ 2 * reach_of z
  reach_rest size =
      small_reach rest (2 * reach_of z) shape_rest.columns size shape_rest.outside (record {
        each = λ p q pl ql. elim (eq_or p q) [
          | inl e ↦ AtMost-none (2 * reach_of z) _ ((made.each p q (omega (arith, count)) (omega (arith, count))).same e)
          | inr ne ↦
              let a : past_node k p ≤ columns_of z = past_below k p (columns_of z) (omega (arith, count)) in
              let b : past_node k q ≤ columns_of z = past_below k q (columns_of z) (omega (arith, count)) in
              let twice : reach_of z + reach_of z ≡ 2 * reach_of z = omega (arith, count) in
              subst (λ h. AtMost h (entry bs p q)) twice (AtMost-lesser (reach_of z) _ _ _ (own (past_node k p) (past_node k q) a b) (AtMost-plus (reach_of z) _ _ (own (past_node k p) k a high) (own k (past_node k q) high b)) ((made.each p q (omega (arith, count)) (omega (arith, count))).lesser ne).one)
        ];
      })
    where
      own : (i j : ℕ) → i ≤ columns_of z → j ≤ columns_of z → AtMost (reach_of z) (entry z.bounds i j)
      own i j il jl = (reach_small z (reach_of z) (omega (arith, count))).each i j (omega (arith, count)) (omega (arith, count))

  module _ (xs : List ℤ) (m : IsMember rest xs) where
    -- column k is at most one after the tuple
    enough : k ≤ length xs + 1
    enough = let c : length xs ≡ length rs = m.cell.count in omega (arith, count)

    -- another column's value is one of the tuple
    same_other : (v : ℤ) (i : ℕ) → i ≤ columns_of z → i ≢ k → (p : ℕ) × (past_node k p ≡ i) × (p < columns_of z) × (node (with_column_value k v xs) i ≡ node xs p)
    same_other v i il ne =
        let r : (p : ℕ) × (past_node k p ≡ i) × (p < columns_of z) = from_past k i (columns_of z) ne il high in
        (r.0, r.1, r.2, subst (λ j. node (with_column_value k v xs) j ≡ node xs r.0) r.1 (node_past_at k r.0 v xs low enough))

    -- and it has the residue
    other_fits : (v : ℤ) (i : ℕ) → i ≤ columns_of z → i ≢ k → Divides (pos z.period) (node (with_column_value k v xs) i -ℤ node z.residues i)
    other_fits v i il ne =
        let r = same_other v i il ne in
        let e : node (with_column_value k v xs) i ≡ node xs r.0 = r.3 in
        let f : node rs r.0 ≡ node z.residues i = residues r.0 r.2 ∙ ap (node z.residues) r.1 in
        rw (e, ← f) (m.cell.each r.0 (below r.2))
      where
        below : {p : ℕ} → p < columns_of z → p ≤ length rs
        below h = omega (arith, count)

    -- two values of the rest meet the path through column k
    through_pair : (p q : ℕ) → p < columns_of z → q < columns_of z → (p ≡ q) ⊎ (p ≢ q) → Within (node xs p -ℤ node xs q) (plus (entry z.bounds (past_node k p) k) (entry z.bounds k (past_node k q)))
    through_pair p q pl ql (inl e) =
        let ys : List ℤ = valid.some.member in
        let a : past_node k p ≤ columns_of z = past_below k p (columns_of z) pl in
        subst (λ r. Within (node xs p -ℤ node xs r) (plus (entry z.bounds (past_node k p) k) (entry z.bounds k (past_node k r)))) e
        (within_same (node ys (past_node k p)) (node xs p) _ (through (node ys (past_node k p)) (node ys (past_node k p)) (node ys k) _ _ (valid.some.is.meets (past_node k p) k a high) (valid.some.is.meets k (past_node k p) high a)))
    through_pair p q pl ql (inr ne) = (((made.each p q pl ql).lesser ne).below _ (m.meets p q (omega (arith, count)) (omega (arith, count)))).1

    -- the same by the old numbers of the columns
    through_other : (i j : ℕ) → i ≤ columns_of z → j ≤ columns_of z → i ≢ k → j ≢ k → Within (node (with_column_value k (pos 0) xs) i -ℤ node (with_column_value k (pos 0) xs) j) (plus (entry z.bounds i k) (entry z.bounds k j))
    through_other i j il jl ni nj =
        let r = same_other (pos 0) i il ni in
        let s = same_other (pos 0) j jl nj in
        let e : node (with_column_value k (pos 0) xs) i ≡ node xs r.0 = r.3 in
        let f : node (with_column_value k (pos 0) xs) j ≡ node xs s.0 = s.3 in
        rw (e, f) (subst (λ a. Within (node xs r.0 -ℤ node xs s.0) (plus (entry z.bounds a k) (entry z.bounds k j))) r.1
        (subst (λ b. Within (node xs r.0 -ℤ node xs s.0) (plus (entry z.bounds (past_node k r.0) k) (entry z.bounds k b))) s.1 (through_pair r.0 s.0 r.2 s.2 (eq_or r.0 s.0))))

    -- two other columns meet their stored bound
    old_pair : (v : ℤ) (i j : ℕ) → i ≤ columns_of z → j ≤ columns_of z → i ≢ k → j ≢ k → Within (node (with_column_value k v xs) i -ℤ node (with_column_value k v xs) j) (entry z.bounds i j)
    old_pair v i j il jl ni nj =
        let r = same_other v i il ni in
        let s = same_other v j jl nj in
        let e : node (with_column_value k v xs) i ≡ node xs r.0 = r.3 in
        let f : node (with_column_value k v xs) j ≡ node xs s.0 = s.3 in
        rw (e, f) (subst (λ a. Within (node xs r.0 -ℤ node xs s.0) (entry z.bounds a j)) r.1
        (subst (λ b. Within (node xs r.0 -ℤ node xs s.0) (entry z.bounds (past_node k r.0) b)) s.1 (place r.0 s.0 r.2 s.2 (eq_or r.0 s.0))))
      where
        place : (p q : ℕ) → p < columns_of z → q < columns_of z → (p ≡ q) ⊎ (p ≢ q) → Within (node xs p -ℤ node xs q) (entry z.bounds (past_node k p) (past_node k q))
        place p q pl ql (inl e) = subst (λ f. Within (node xs p -ℤ node xs q) f) (sym (subst (λ r. entry z.bounds (past_node k p) (past_node k r) ≡ None) e (valid.shape.diagonal (past_node k p) (past_below k p (columns_of z) pl)))) tt
        place p q pl ql (inr ne) = (((made.each p q pl ql).lesser ne).below _ (m.meets p q (omega (arith, count)) (omega (arith, count)))).0

    -- some value for column k completes a tuple of the rest
    pub to_member : (v : ℤ) × IsMember z (with_column_value k v xs)
    to_member =
        let y : ℕ → ℤ = node (with_column_value k (pos 0) xs) in
        let s : ℕ → Bool = λ i. cond (eqb i k) false true in
        let r : (v : ℤ) × Fits (pos z.period) (node z.residues) k v × ((i : ℕ) → i < columns_of z + 1 → s i ≡ true → Within (y i -ℤ v) (entry z.bounds i k)) × ((j : ℕ) → j < columns_of z + 1 → s j ≡ true → Within (v -ℤ y j) (entry z.bounds k j)) =
        value_through (columns_of z + 1) (entry z.bounds) (Fits (pos z.period) (node z.residues)) (lattice_of z valid.shape) s y k (omega (arith, count))
        (λ i il si. other_fits (pos 0) i (omega (arith, count)) (apart i si))
        (λ i j il jl si sj. through_other i j (omega (arith, count)) (omega (arith, count)) (apart i si) (apart j sj)) in
        let v : ℤ = r.0 in
        let here : node (with_column_value k v xs) k ≡ v = node_at k v xs low enough in (
          v,
          record {
            cell = record {
              count = length_with k v xs low enough ∙ (let c : length xs ≡ length rs = m.cell.count in omega (arith, count));
              each = λ i il. elim (eq_or i k) [
                | inl e ↦ subst (λ j. Divides (pos z.period) (node (with_column_value k v xs) j -ℤ node z.residues j)) (sym e) (subst (λ u. Divides (pos z.period) (u -ℤ node z.residues k)) (sym here) r.1)
                | inr ne ↦ other_fits v i il ne
              ];
            };
            meets = λ i j il jl. elim (eq_or i k) [
              | inl e ↦ elim (eq_or j k) [
                | inl f ↦ subst (λ g. Within (node (with_column_value k v xs) i -ℤ node (with_column_value k v xs) j) g) (sym (subst (λ a. entry z.bounds a j ≡ None) (sym e) (subst (λ b. entry z.bounds k b ≡ None) (sym f) (valid.shape.diagonal k high)))) tt
                | inr nj ↦ subst (λ a. Within (node (with_column_value k v xs) a -ℤ node (with_column_value k v xs) j) (entry z.bounds a j)) (sym e)
                    (rw (here, same_both v j jl nj) (r.3 j (omega (arith, count)) (picked j nj)))
              ]
              | inr ni ↦ elim (eq_or j k) [
                | inl f ↦ subst (λ b. Within (node (with_column_value k v xs) i -ℤ node (with_column_value k v xs) b) (entry z.bounds i b)) (sym f)
                    (rw (here, same_both v i il ni) (r.2 i (omega (arith, count)) (picked i ni)))
                | inr nj ↦ old_pair v i j il jl ni nj
              ]
            ];
          },
        )
      where
        apart : (i : ℕ) → cond (eqb i k) false true ≡ true → i ≢ k
        apart i h = grind (arith, nat_tests)

        picked : (i : ℕ) → i ≢ k → cond (eqb i k) false true ≡ true
        picked i h = grind (arith, nat_tests)

        same_both : (v : ℤ) (i : ℕ) → i ≤ columns_of z → i ≢ k → node (with_column_value k v xs) i ≡ node (with_column_value k (pos 0) xs) i
        same_both v i il ne =
            let r : (p : ℕ) × (past_node k p ≡ i) × (p < columns_of z) = from_past k i (columns_of z) ne il high in
            subst (λ j. node (with_column_value k v xs) j ≡ node (with_column_value k (pos 0) xs) j) r.1 (node_past_at k r.0 v xs low enough ∙ sym (node_past_at k r.0 (pos 0) xs low enough))

  -- the rest holds the tuples that some value completes
  dropped : length bs ≡ 81 → IsDropped z k rest
  dropped size = record { period = refl; residues = is; to = λ xs m. to_member xs m; from = λ xs v l m. from_member xs v l m; reach = reach_rest size }

  -- the same for a zone that is the rest
  pub dropped_to : (w : ZoneView) → IsZone w → w ≡ rest → IsDropped z k w
  dropped_to w zone h = rw h (dropped (subst IsZone h zone).size)

-- each bound is small enough for a sum of two
pub small_sums : (z : ZoneView) → 2 * reach_of z ≤ 2 ^ 62 → AllSmall (columns_of z + 1) (2 ^ 61) z.bounds
small_sums z room = reach_small z (2 ^ 61) (omega arith)
