-- The tuples of a zone in a box.
use Rattle.std.proofs.Common.{◌≡◌, ℕ, zero, suc, ◌+◌, ◌<◌, ◌≤◌, ◌^◌, List, Option, Some, None, take, length, arith, refl, ap, subst, ◌∙◌, inl, inr, ◌⊎◌}
use Rattle.std.specs.Prelude.{ℤ, pos, ◌+ℤ◌, ◌-ℤ◌, ◌≤ℤ◌, neg_ℤ, slice_index_or}
use Rattle.std.proofs.lemmas.Int.{ints}
use Rattle.std.proofs.lemmas.List.{get_or-take, length-take-le}
use Rattle.lrp_theory.specs.Bounds.{Within, Meets}
use Rattle.lrp_theory.specs.Divides.{Divides}
use Rattle.lrp_theory.specs.Entries.{entry, node, IsLesser, AtMost, IsClosure, HasSolution, IsLeastBound}
use Rattle.lrp_theory.proofs.Modulo.{Divides--, Divides-is}
use Rattle.lrp_theory.proofs.Floor.{Agrees, IsTightAll, reached_in_cell}
use Rattle.lrp_zone.specs.Zones.{ZoneView, IsShape, IsMember, columns_of}
use Rattle.lrp_zone.specs.Order.{at}
use Rattle.lrp_zone.specs.Tight.{IsTightened}
use Rattle.lrp_zone.specs.Windows.{end_bounds, IsWindowAt, IsWindow, IsInBox, IsBoxEmpty, IsBoxLeast, IsLowEnd, AreWindowEnds}
use Rattle.lrp_zone.proofs.Inclusion.{lesser_met}
use Rattle.lrp_zone.proofs.Floors.{tightened_below, below_tightened, tightened_agrees}
use Rattle.lrp_zone.proofs.Members.{tight_all, period_one}

-- the lesser of two bounds of a residue is of the residue
agrees_one : (k w : ℤ) (e f g : Option ℤ) → (e ≡ f) ⊎ (e ≡ g) → Agrees k w f → Agrees k w g → Agrees k w e
agrees_one k w e f g (inl q) a b = rw q a
agrees_one k w e f g (inr q) a b = rw q b

module _ (z : ZoneView) (s : IsShape z) (low high : List ℤ) (out least : List (Option ℤ)) (w : IsWindow (pos z.period) z.residues low high z.bounds (columns_of z + 1) out) where
  -- a node is below the count of nodes
  below_low : (p : ℕ) → p ≤ columns_of z → p < columns_of z + 1
  below_low p h = omega arith

  -- the values of a box meet what its ends say
  in_box : (xs : List ℤ) → IsInBox (columns_of z) low high xs → (p q : ℕ) → p ≤ columns_of z → q ≤ columns_of z → Within (node xs p -ℤ node xs q) (end_bounds low high p q)
  in_box xs b zero zero pl ql = tt
  in_box xs b zero (suc i) pl ql = let h = b.each i (omega arith) in let l : slice_index_or low i (pos 0) ≤ℤ slice_index_or xs i (pos 0) = h.0 in omega (arith, ints)
  in_box xs b (suc i) zero pl ql = let h = b.each i (omega arith) in let l : slice_index_or xs i (pos 0) ≤ℤ slice_index_or high i (pos 0) = h.1 in omega (arith, ints)
  in_box xs b (suc i) (suc j) pl ql = tt

  -- a difference of two values has the difference of their residues
  pair_fits : (x y r t : ℤ) → Divides (pos z.period) (x -ℤ r) → Divides (pos z.period) (y -ℤ t) → Divides (pos z.period) ((x -ℤ y) -ℤ (r -ℤ t))
  pair_fits x y r t h g = Divides-is (pos z.period) ((x -ℤ r) -ℤ (y -ℤ t)) _ (omega (arith, ints)) (Divides-- (pos z.period) _ _ h g)

  -- members in the box meet the window's bounds
  pub box_meets : (xs : List ℤ) → IsMember z xs → IsInBox (columns_of z) low high xs → Meets (columns_of z + 1) (entry out) (node xs)
  box_meets xs m b p q pl ql =
      let l = (w.each p q pl ql).lesser in
      lesser_met (node xs p -ℤ node xs q) (entry out p q) (entry z.bounds p q) l.0 l.2 (m.meets p q (omega arith) (omega arith))
      (below_tightened (pos z.period) (node z.residues p -ℤ node z.residues q) (end_bounds low high p q) l.0 (node xs p -ℤ node xs q) l.1
      (pair_fits (node xs p) (node xs q) (node z.residues p) (node z.residues q) (m.cell.each p (omega arith)) (m.cell.each q (omega arith))) (in_box xs b p q (omega arith) (omega arith)))

  -- integers that meet the window meet the stored bounds
  out_stored : (x : ℕ → ℤ) → Meets (columns_of z + 1) (entry out) x → (p q : ℕ) → p ≤ columns_of z → q ≤ columns_of z → Within (x p -ℤ x q) (entry z.bounds p q)
  out_stored x h p q pl ql = ((w.each p q (below_low p pl) (below_low q ql)).lesser.2.below _ (h p q (below_low p pl) (below_low q ql))).0

  -- and the ends of the box
  out_ends : (x : ℕ → ℤ) → Meets (columns_of z + 1) (entry out) x → (p q : ℕ) → p ≤ columns_of z → q ≤ columns_of z → Within (x p -ℤ x q) (end_bounds low high p q)
  out_ends x h p q pl ql =
      let l = (w.each p q (below_low p pl) (below_low q ql)).lesser in
      tightened_below (pos z.period) (node z.residues p -ℤ node z.residues q) (end_bounds low high p q) l.0 (x p -ℤ x q) l.1 (l.2.below _ (h p q (below_low p pl) (below_low q ql))).1

  -- the window's bounds are of the residues
  tight_out : IsTightAll (columns_of z + 1) (pos z.period) (node z.residues) (entry out)
  tight_out = record {
    each = λ p q pl ql.
        let l = (w.each p q pl ql).lesser in
        agrees_one (pos z.period) (node z.residues p -ℤ node z.residues q) (entry out p q) (entry z.bounds p q) l.0 l.2.one ((tight_all z s).each p q pl ql) (tightened_agrees (pos z.period) _ (end_bounds low high p q) l.0 l.1);
  }

  -- the period is at least 1
  one : pos 1 ≤ℤ pos z.period
  one = period_one z s

  -- where no integers meet the window, no tuple is in the box
  pub box_none : (HasSolution (columns_of z + 1) (entry out) → ⊥) → IsBoxEmpty z low high
  box_none none = record { none = λ xs m b. none (record { some = (node xs, box_meets xs m b) }) }

  module _ (cl : IsClosure (columns_of z + 1) (entry out) (entry least)) (are : AreWindowEnds (columns_of z) low high) where
    -- the closed bound of zero minus a column is the least one
    bound_of : (i : ℕ) → i < columns_of z → IsLeastBound (columns_of z + 1) (entry out) 0 (suc i) (entry least 0 (suc i))
    bound_of i h = cl.least 0 (suc i) (omega arith) (omega arith) (omega arith)

    -- no value is below its low end
    above_low : (x : ℕ → ℤ) → Meets (columns_of z + 1) (entry out) x → (i : ℕ) → i < columns_of z → (x 0 -ℤ x (suc i)) ≤ℤ neg_ℤ (slice_index_or low i (pos 0))
    above_low x h i il = out_ends x h 0 (suc i) (omega arith) (omega arith)

    -- no value is above its high end
    below_high : (x : ℕ → ℤ) → Meets (columns_of z + 1) (entry out) x → (i : ℕ) → i < columns_of z → (x (suc i) -ℤ x 0) ≤ℤ slice_index_or high i (pos 0)
    below_high x h i il = out_ends x h (suc i) 0 (omega arith) (omega arith)

    -- so the closed bound of zero minus a column is there, and within the limit
    end_is : (i : ℕ) → i < columns_of z → (e : Option ℤ) → IsLeastBound (columns_of z + 1) (entry out) 0 (suc i) e → IsLowEnd e
    end_is i il None l =
        let d : ℤ = neg_ℤ (slice_index_or low i (pos 0)) +ℤ pos 1 in
        let r : (x : ℕ → ℤ) × Meets (columns_of z + 1) (entry out) x × (d ≤ℤ (x 0 -ℤ x (suc i))) = l.reached d tt in
        let a = above_low r.0 r.1 i il in let b : d ≤ℤ (r.0 0 -ℤ r.0 (suc i)) = r.2 in absurd (omega (arith, ints))
    end_is i il (Some a) l =
        let r : (x : ℕ → ℤ) × Meets (columns_of z + 1) (entry out) x × (a ≤ℤ (x 0 -ℤ x (suc i))) = l.reached a (omega (arith, ints)) in
        let m : (r.0 0 -ℤ r.0 (suc i)) ≤ℤ a = l.met r.0 r.1 in
        let b : a ≤ℤ (r.0 0 -ℤ r.0 (suc i)) = r.2 in
        let f = above_low r.0 r.1 i il in let g = below_high r.0 r.1 i il in
        let lo = are.low_end i il in let hi = are.high_end i il in
        record { value = a; is = refl; low = omega (arith, ints); high = omega (arith, ints) }

    -- this for each column
    pub low_ends : (i : ℕ) → i < columns_of z → IsLowEnd (entry least 0 (i + 1))
    low_ends i il = let e : suc i ≡ i + 1 = omega arith in subst (λ j. IsLowEnd (entry least 0 j)) e (end_is i il (entry least 0 (suc i)) (bound_of i il))

    module _ (ys : List ℤ) (is : (i : ℕ) → i < columns_of z → entry least 0 (i + 1) ≡ Some (neg_ℤ (slice_index_or ys i (pos 0)))) where
      -- the same bound by the value that is written for it
      least_at : (i : ℕ) → i < columns_of z → IsLeastBound (columns_of z + 1) (entry out) 0 (suc i) (Some (neg_ℤ (slice_index_or ys i (pos 0))))
      least_at i il = subst (λ e. IsLeastBound (columns_of z + 1) (entry out) 0 (suc i) e) (let f : suc i ≡ i + 1 = omega arith in ap (entry least 0) f ∙ is i il) (bound_of i il)

      -- each solution is at or above the ends
      above : (x : ℕ → ℤ) → Meets (columns_of z + 1) (entry out) x → (p : ℕ) → p ≤ columns_of z → node ys p ≤ℤ (x p -ℤ x 0)
      above x h zero pl = omega (arith, ints)
      above x h (suc i) pl = let m : (x 0 -ℤ x (suc i)) ≤ℤ neg_ℤ (slice_index_or ys i (pos 0)) = (least_at i (omega arith)).met x h in omega (arith, ints)

      -- and each end is taken by a solution of the cell
      taken : (q : ℕ) → q ≤ columns_of z → (x : ℕ → ℤ) × Meets (columns_of z + 1) (entry out) x × ((m : ℕ) → Divides (pos z.period) (x m -ℤ node z.residues m)) × ((x q -ℤ x 0) ≤ℤ node ys q)
      taken zero ql =
          let r : (y : ℕ → ℤ) × Meets (columns_of z + 1) (entry out) y × ((m : ℕ) → Divides (pos z.period) (y m -ℤ node z.residues m)) × ((cl.solution.0 0 -ℤ cl.solution.0 0) ≤ℤ (y 0 -ℤ y 0)) =
          reached_in_cell (columns_of z + 1) (pos z.period) (node z.residues) (entry out) 0 0 _ one tight_out cl.solution.0 cl.solution.1 (omega (arith, ints)) in
          (r.0, r.1, r.2, (omega (arith, ints)))
      taken (suc i) ql =
          let d : ℤ = neg_ℤ (slice_index_or ys i (pos 0)) in
          let t : (x : ℕ → ℤ) × Meets (columns_of z + 1) (entry out) x × (d ≤ℤ (x 0 -ℤ x (suc i))) = (least_at i (omega arith)).reached d (omega (arith, ints)) in
          let r : (y : ℕ → ℤ) × Meets (columns_of z + 1) (entry out) y × ((m : ℕ) → Divides (pos z.period) (y m -ℤ node z.residues m)) × (d ≤ℤ (y 0 -ℤ y (suc i))) =
          reached_in_cell (columns_of z + 1) (pos z.period) (node z.residues) (entry out) 0 (suc i) d one tight_out t.0 t.1 t.2 in
          let b : d ≤ℤ (r.0 0 -ℤ r.0 (suc i)) = r.3 in
          (r.0, r.1, r.2, (omega (arith, ints)))

      -- a bound holds of ends that lie between those of a solution
      close_to : (e : Option ℤ) (a b x y o : ℤ) → a ≤ℤ (x -ℤ o) → (y -ℤ o) ≤ℤ b → Within (x -ℤ y) e → Within (a -ℤ b) e
      close_to None a b x y o h g i = tt
      close_to (Some c) a b x y o h g i = omega (arith, ints)

      -- the low ends meet each bound that all solutions meet
      ends_meet : (p q : ℕ) → p ≤ columns_of z → q ≤ columns_of z → (e : Option ℤ) → ((x : ℕ → ℤ) → Meets (columns_of z + 1) (entry out) x → Within (x p -ℤ x q) e) → Within (node ys p -ℤ node ys q) e
      ends_meet p q pl ql e h =
          let t = taken q ql in
          close_to e (node ys p) (node ys q) (t.0 p) (t.0 q) (t.0 0) (above t.0 t.1 p pl) t.3 (h t.0 t.1)

      -- the low ends have the residues
      ends_fit : (q : ℕ) → q ≤ columns_of z → Divides (pos z.period) (node ys q -ℤ node z.residues q)
      ends_fit q ql =
          let t = taken q ql in
          let a : node ys q ≤ℤ (t.0 q -ℤ t.0 0) = above t.0 t.1 q ql in
          let b : (t.0 q -ℤ t.0 0) ≤ℤ node ys q = t.3 in
          Divides-is (pos z.period) ((t.0 q -ℤ node z.residues q) -ℤ (t.0 0 -ℤ node z.residues 0)) _ (omega (arith, ints)) (Divides-- (pos z.period) _ _ (t.2 q) (t.2 0))

      -- the first columns of an array have its nodes
      own_node : (i : ℕ) → i ≤ columns_of z → node (take (columns_of z) ys) i ≡ node ys i
      own_node zero il = refl
      own_node (suc i) il = get_or-take (columns_of z) ys i (pos 0) (omega arith)

      -- the low ends are the least tuple in the box
      pub box_least : length ys ≡ 8 → ((i : ℕ) → columns_of z ≤ i → at ys i ≡ pos 0) → IsBoxLeast z low high ys
      box_least size zeros = record {
        holds = record {
          member = record {
            cell = record { count = length-take-le (columns_of z) ys (let c : columns_of z ≤ 8 = s.columns in omega arith); each = λ i il. rw (own_node i il) (ends_fit i il) };
            meets = λ i j il jl. rw (own_node i il, own_node j jl) (ends_meet i j il jl (entry z.bounds i j) (λ x h. out_stored x h i j il jl));
          };
          zeros = zeros;
        };
        box = record {
          each = λ i il.
              let a : (pos 0 -ℤ slice_index_or ys i (pos 0)) ≤ℤ neg_ℤ (slice_index_or low i (pos 0)) = ends_meet 0 (suc i) (omega arith) (omega arith) (end_bounds low high 0 (suc i)) (λ x h. out_ends x h 0 (suc i) (omega arith) (omega arith)) in
              let b : (slice_index_or ys i (pos 0) -ℤ pos 0) ≤ℤ slice_index_or high i (pos 0) = ends_meet (suc i) 0 (omega arith) (omega arith) (end_bounds low high (suc i) 0) (λ x h. out_ends x h (suc i) 0 (omega arith) (omega arith)) in
              (omega (arith, ints), omega (arith, ints));
        };
        least = λ xs m b i il. let a : at ys i ≤ℤ (at xs i -ℤ pos 0) = above (node xs) (box_meets xs m b) (suc i) (omega arith) in omega (arith, ints);
      }

-- the bound that one turn of the loop writes
pub window_at : (k : ℤ) (rs low high : List ℤ) (p q : ℕ) (bound out b end e o : Option ℤ) → b ≡ bound → end ≡ end_bounds low high p q → IsTightened k (node rs p -ℤ node rs q) end e → IsLesser o b e → out ≡ o → IsWindowAt k rs low high p q bound out
window_at k rs low high p q bound out b end e o f g h l i = record { lesser = (e, subst (λ y. IsTightened k (node rs p -ℤ node rs q) y e) g h, rw (i, ← f) l) }

-- a bound that a turn leaves alone
pub window_kept : (k : ℤ) (rs low high : List ℤ) (p q : ℕ) (bound out new : Option ℤ) → new ≡ out → IsWindowAt k rs low high p q bound out × AtMost (2 ^ 64) out → IsWindowAt k rs low high p q bound new × AtMost (2 ^ 64) new
window_kept k rs low high p q bound out new e h = rw e h

-- for copies of a zone's parts
pub window_of : (z : ZoneView) (k : ℕ) (rs low high : List ℤ) (bounds out : List (Option ℤ)) → k ≡ z.period → rs ≡ z.residues → bounds ≡ z.bounds → IsWindow (pos k) rs low high bounds (length rs + 1) out → IsWindow (pos z.period) z.residues low high z.bounds (columns_of z + 1) out
window_of z k rs low high bounds out e f g w = rw (← e, ← f, ← g) w
