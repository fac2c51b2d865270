-- The first tuple of a zone by the ranks of its values, column after column.
use Rattle.std.proofs.Common.{◌≡◌, ℕ, zero, suc, ◌+◌, ◌*◌, ◌^◌, ◌<◌, ◌≤◌, ◌≢◌, ◌⊎◌, inl, inr, List, length, take, set, get_or-set_same, get_or-set_other, Option, Some, None, arith, refl, sym, ap, subst, ◌∙◌, to_z, of_z}
use Rattle.std.specs.Int.{w64, w128}
use Rattle.std.specs.Prelude.{ℤ, pos, negsuc, neg_ℤ, ◌-ℤ◌, ◌+ℤ◌, ◌≤ℤ◌, ◌<ℤ◌}
use Rattle.std.proofs.lemmas.Int.{ints, by_lt_z}
use Rattle.std.proofs.lemmas.Bool.{cases_lt, cases_eq}
use Rattle.std.proofs.lemmas.List.{length-set, length-take-le}
use Rattle.lrp_theory.specs.Bounds.{Within, Meets}
use Rattle.lrp_theory.specs.Divides.{Divides}
use Rattle.lrp_theory.specs.Entries.{entry, node, AtMost, IsSmallClosure}
use Rattle.lrp_theory.proofs.Modulo.{Divides-+, Divides--, Divides-is, Divides-self, multiple_below}
use Rattle.lrp_theory.proofs.Below.{within_less}
use Rattle.lrp_theory.proofs.Floor.{floor, floor_fits, floor_kept, floors_meet, reached_in_cell}
use Rattle.lrp_theory.proofs.Lists.{listed, node-listed, difference}
use Rattle.lrp_theory.proofs.Through.{AtMost-more}
use Rattle.lrp_model.proofs.TupleLaws.{rank_differs}
use Rattle.lrp_matrix.specs.Matrices.{MatrixView, MeetsBounds, IsClosed, HaveSameIntegers}
use Rattle.lrp_matrix.specs.Ranges.{Above, AreSmall, MeetsBefore, MayHave, IsLeastWith, IsGreatestOf}
use Rattle.lrp_matrix.specs.Nearest.{IsBetween, IsNearest}
use Rattle.lrp_matrix.proofs.Completion.{possible}
use Rattle.lrp_zone.specs.Zones.{ZoneView, IsZone, IsMember, columns_of}
use Rattle.lrp_zone.specs.Order.{at}
use Rattle.lrp_zone.proofs.Members.{tight_all, period_one, list_member}
use Rattle.lrp_store.specs.Least.{matrix_of, IsRoom, IsNotNearer, IsNearestTo}
use Rattle.lrp_store.proofs.Held.{node_take}
use Rattle.lrp_store.proofs.Listed.{word64_node}
use Rattle.lrp_theory.specs.Residues.{rank}

-- of numbers above zero the lesser one has the lesser rank
rank_above : (x v : ℤ) → pos 0 <ℤ v → v <ℤ x → rank v < rank x
rank_above (pos zero) v h l = absurd (omega (arith, ints))
rank_above (pos (suc n)) (pos zero) h l = absurd (omega (arith, ints))
rank_above (pos (suc n)) (pos (suc m)) h l = let k : m < n = omega (arith, ints) in omega arith
rank_above (pos (suc n)) (negsuc m) h l = absurd (omega (arith, ints))
rank_above (negsuc n) v h l = absurd (omega (arith, ints))

-- of numbers below zero the greater one has the lesser rank
rank_below : (x v : ℤ) → v <ℤ pos 0 → x <ℤ v → rank v < rank x
rank_below x (pos m) h l = absurd (omega (arith, ints))
rank_below (pos n) (negsuc m) h l = absurd (omega (arith, ints))
rank_below (negsuc n) (negsuc m) h l = let k : m < n = omega (arith, ints) in omega arith

-- a bound that is less than another one of its residue is less by a period
less_by_period : (k x a : ℤ) → pos 1 ≤ℤ k → Divides k (x -ℤ a) → x <ℤ a → (x +ℤ k) ≤ℤ a
less_by_period k x a one d l =
    let h : ((x -ℤ a) +ℤ k) ≤ℤ pos 0 = multiple_below k ((x -ℤ a) +ℤ k) (Divides-+ k _ _ d (Divides-self k)) one (omega (arith, ints)) in
    omega (arith, ints)

module _ (z : ZoneView) (is : IsZone z) (m : MatrixView) (closed : IsClosed m) (same : HaveSameIntegers (matrix_of z) m) where
  -- the period
  abbrev K : ℤ
  K = pos z.period

  -- the period is at least 1
  one : pos 1 ≤ℤ K
  one = period_one z is.shape

  -- a tuple of the zone meets the closed bounds
  met : (xs : List ℤ) → IsMember z xs → MeetsBounds m xs
  met xs h = same.to xs (record { count = h.cell.count; each = h.meets })

  -- integers that meet the closed bounds meet the stored ones
  stored : (xs : List ℤ) → MeetsBounds m xs → Meets (columns_of z + 1) (entry z.bounds) (node xs)
  stored xs h i j il jl = (same.from xs h).each i j (omega arith) (omega arith)

  -- integers that meet the closed bounds, each rounded down to its residue
  rounded : List ℤ → List ℤ
  rounded xs = listed (λ i. floor K (node z.residues i) (node xs i)) (columns_of z)

  -- are a tuple of the zone
  rounded_is : (xs : List ℤ) → MeetsBounds m xs → IsMember z (rounded xs)
  unfolding rounded
  rounded_is xs h = list_member z (λ i. floor K (node z.residues i) (node xs i)) (floors_meet (columns_of z + 1) K (node z.residues) (entry z.bounds) (node xs) one (tight_all z is.shape) (stored xs h)) (λ i l. floor_fits K (node z.residues i) (node xs i) one)

  -- and those of the right residue stay
  rounded_keeps : (xs : List ℤ) (p : ℕ) → p ≤ columns_of z → Divides K (node xs p -ℤ node z.residues p) → node (rounded xs) p ≡ node xs p
  unfolding rounded
  rounded_keeps xs p l d =
      let f : floor K (node z.residues p) (node xs p) ≡ node xs p = floor_kept K _ _ one d in
      let o : floor K (pos 0) (pos 0) ≡ pos 0 = floor_kept K (pos 0) (pos 0) one (record { times = pos 0; is = omega (arith, ints) }) in
      node-listed (λ i. floor K (node z.residues i) (node xs i)) (columns_of z) p l ∙ by_zero _ _ _ f o
    where
      by_zero : (a b c : ℤ) → a ≡ b → c ≡ pos 0 → a -ℤ c ≡ b
      by_zero a b c e f = omega (arith, ints)

  -- a closed bound has the residue of its place
  tight : (i j : ℕ) → i ≤ columns_of z → j ≤ columns_of z → i ≢ j → (a : ℤ) → entry m.cells i j ≡ Some a → Divides K (a -ℤ (node z.residues i -ℤ node z.residues j))
  tight i j il jl ne a e =
      let n : m.columns ≡ columns_of z = same.columns in
      let least = closed.least i j (omega arith) (omega arith) ne in
      let r = least.reached a (subst (λ f. Within a f) (sym e) (itself a)) in
      let y : (y : ℕ → ℤ) × Meets (columns_of z + 1) (entry z.bounds) y × ((p : ℕ) → Divides K (y p -ℤ node z.residues p)) × (a ≤ℤ (y i -ℤ y j)) =
      reached_in_cell (columns_of z + 1) K (node z.residues) (entry z.bounds) i j a one (tight_all z is.shape) (node r.0) (stored r.0 r.1) r.2 in
      let w : Within (node (listed y.0 (columns_of z)) i -ℤ node (listed y.0 (columns_of z)) j) (entry m.cells i j) = (met _ (list_member z y.0 y.1 (λ p l. y.2 p))).each i j (omega arith) (omega arith) in
      Divides-is K ((y.0 i -ℤ node z.residues i) -ℤ (y.0 j -ℤ node z.residues j)) _ (apart a (y.0 i) (y.0 j) _ _ y.3 (subst (λ f. Within (y.0 i -ℤ y.0 j) f) e (subst (λ d. Within d (entry m.cells i j)) (difference y.0 (columns_of z) i j il jl) w))) (Divides-- K _ _ (y.2 i) (y.2 j))
    where
      itself : (a : ℤ) → a ≤ℤ a
      itself a = omega (arith, ints)

      apart : (a x y r s : ℤ) → a ≤ℤ (x -ℤ y) → (x -ℤ y) ≤ℤ a → (x -ℤ r) -ℤ (y -ℤ s) ≡ a -ℤ (r -ℤ s)
      apart a x y r s l g = omega (arith, ints)

  module _ (i : ℕ) (low : i < columns_of z) (xs : List ℤ) (begun : IsNearestTo z i xs) where
    -- the columns before
    abbrev pub prefix : List ℤ
    prefix = take i xs

    -- their values, as a tuple has them that begins with them
    agree : (ys : List ℤ) → ((p : ℕ) → p < i → at ys p ≡ at xs p) → (p : ℕ) → p < suc i → node ys p ≡ node prefix p
    agree ys h zero l = refl
    agree ys h (suc p) l = h p (omega arith) ∙ sym (node_take i xs (suc p) (omega arith))

    -- values of their residues
    of_residue : (p : ℕ) → p < suc i → Divides K (node prefix p -ℤ node z.residues p)
    of_residue p l = subst (λ v. Divides K (v -ℤ node z.residues p)) (agree begun.member begun.same p l) (begun.is.cell.each p (omega arith))

    -- they meet the bounds among them
    pub before : MeetsBefore m (suc i) prefix
    before = record {
      each = λ p q pl ql.
          let n : m.columns ≡ columns_of z = same.columns in
          let w = (met begun.member begun.is).each p q (omega arith) (omega arith) in
          subst (λ v. Within (v -ℤ node prefix q) (entry m.cells p q)) (agree begun.member begun.same p pl) (subst (λ v. Within (node begun.member p -ℤ v) (entry m.cells p q)) (agree begun.member begun.same q ql) w);
    }

    -- a tuple that begins with them tells a possible next value
    may_have : (ys : List ℤ) → IsMember z ys → ((p : ℕ) → p < i → at ys p ≡ at xs p) → MayHave m (suc i) prefix (at ys i)
    may_have ys h e = record { integers = ys; meet = met ys h; before = agree ys e; here = refl }

    module _ (least most : Option ℤ) (first : IsLeastWith (MayHave m (suc i) prefix) least) (last : IsGreatestOf (MayHave m (suc i) prefix) most) (between : (v : ℤ) → Above v least → Within v most → MayHave m (suc i) prefix v) where
      -- a possible value of its residue is one to choose from
      choice : (v : ℤ) → MayHave m (suc i) prefix v → Divides K (v -ℤ node z.residues (suc i)) → IsBetween least most (node z.residues (suc i)) K v
      choice v h d = record { low = first.met v h; high = last.met v h; residue = d }

      -- so is that of each tuple that begins with them
      member_choice : (ys : List ℤ) → IsMember z ys → ((p : ℕ) → p < i → at ys p ≡ at xs p) → IsBetween least most (node z.residues (suc i)) K (at ys i)
      member_choice ys h e = choice (at ys i) (may_have ys h e) (h.cell.each (suc i) (omega arith))

      -- and there is one
      pub some_choice : ((v : ℤ) → IsBetween least most (node z.residues (suc i)) K v → ⊥) → ⊥
      some_choice none = none _ (member_choice begun.member begun.is begun.same)

      module _ (x : ℤ) (near : IsNearest least most (node z.residues (suc i)) K x) where
        -- the choice is possible
        chosen : MayHave m (suc i) prefix x
        chosen = between x near.between.low near.between.high

        -- so some tuple has it
        made : List ℤ
        made = rounded chosen.integers

        made_is : IsMember z made
        unfolding made
        made_is = rounded_is chosen.integers chosen.meet

        made_before : (p : ℕ) → p < i → at made p ≡ at xs p
        unfolding made
        made_before p l =
            rounded_keeps chosen.integers (suc p) (omega arith) (subst (λ v. Divides K (v -ℤ node z.residues (suc p))) (sym (chosen.before (suc p) (omega arith))) (of_residue (suc p) (omega arith)))
            ∙ chosen.before (suc p) (omega arith) ∙ sym (agree xs (λ q ql. refl) (suc p) (omega arith))

        made_here : at made i ≡ x
        unfolding made
        made_here = rounded_keeps chosen.integers (suc i) (omega arith) (subst (λ v. Divides K (v -ℤ node z.residues (suc i))) (sym chosen.here) near.between.residue) ∙ chosen.here

        -- another possible value of the residue is not nearer
        not_nearer : (v : ℤ) → MayHave m (suc i) prefix v → Divides K (v -ℤ node z.residues (suc i)) → rank x ≤ rank v
        not_nearer v h d = near.first v (choice v h d)

        -- ---- its magnitude is at most that of the values before and one bound

        module _ (h t : ℕ) (room : IsRoom z h) (small : (p : ℕ) → p < suc i → AtMost t (Some (node prefix p))) where
          -- each closed bound is small
          bound_small : IsSmallClosure (columns_of z + 1) h m.cells
          bound_small = room.closed m closed same

          -- below a possible value by a period, all bounds to the columns before are met where that value is far above them
          low_met : (p : ℕ) → p < suc i → pos (t + h) <ℤ x → Within (node prefix p -ℤ (x -ℤ K)) (entry m.cells p (suc i))
          low_met p pl far = by (entry m.cells p (suc i)) refl
            where
              by : (e : Option ℤ) → entry m.cells p (suc i) ≡ e → Within (node prefix p -ℤ (x -ℤ K)) e
              by None e = tt
              by (Some a) e =
                  let s : AtMost h (Some a) = subst (AtMost h) e (bound_small.each p (suc i) (omega arith) (omega arith) (omega arith)) in
                  let u : AtMost t (Some (node prefix p)) = small p pl in
                  let d : Divides K ((node prefix p -ℤ x) -ℤ a) =
                  Divides-is K (((node prefix p -ℤ node z.residues p) -ℤ (x -ℤ node z.residues (suc i))) -ℤ (a -ℤ (node z.residues p -ℤ node z.residues (suc i)))) _ (omega (arith, ints))
                  (Divides-- K _ _ (Divides-- K _ _ (of_residue p pl) near.between.residue) (tight p (suc i) (omega arith) low (omega arith) a e)) in
                  let l : ((node prefix p -ℤ x) +ℤ K) ≤ℤ a = less_by_period K (node prefix p -ℤ x) a one d (omega (arith, ints)) in
                  omega (arith, ints)

          -- the same above
          high_met : (p : ℕ) → p < suc i → x <ℤ neg_ℤ (pos (t + h)) → Within ((x +ℤ K) -ℤ node prefix p) (entry m.cells (suc i) p)
          high_met p pl far = by (entry m.cells (suc i) p) refl
            where
              by : (e : Option ℤ) → entry m.cells (suc i) p ≡ e → Within ((x +ℤ K) -ℤ node prefix p) e
              by None e = tt
              by (Some a) e =
                  let s : AtMost h (Some a) = subst (AtMost h) e (bound_small.each (suc i) p (omega arith) (omega arith) (omega arith)) in
                  let u : AtMost t (Some (node prefix p)) = small p pl in
                  let d : Divides K ((x -ℤ node prefix p) -ℤ a) =
                  Divides-is K (((x -ℤ node z.residues (suc i)) -ℤ (node prefix p -ℤ node z.residues p)) -ℤ (a -ℤ (node z.residues (suc i) -ℤ node z.residues p))) _ (omega (arith, ints))
                  (Divides-- K _ _ (Divides-- K _ _ near.between.residue (of_residue p pl)) (tight (suc i) p low (omega arith) (omega arith) a e)) in
                  let l : ((x -ℤ node prefix p) +ℤ K) ≤ℤ a = less_by_period K (x -ℤ node prefix p) a one d (omega (arith, ints)) in
                  omega (arith, ints)

          -- and the other bounds are met, since x meets them
          high_kept : (p : ℕ) → p < suc i → Within ((x -ℤ K) -ℤ node prefix p) (entry m.cells (suc i) p)
          high_kept p pl =
              let n : m.columns ≡ columns_of z = same.columns in
              let w = chosen.meet.each (suc i) p (omega arith) (omega arith) in
              let l : pos 1 ≤ℤ K = one in
              within_less _ (x -ℤ node prefix p) _ (omega (arith, ints)) (subst (λ v. Within (v -ℤ node prefix p) (entry m.cells (suc i) p)) chosen.here (subst (λ v. Within (node chosen.integers (suc i) -ℤ v) (entry m.cells (suc i) p)) (chosen.before p pl) w))

          low_kept : (p : ℕ) → p < suc i → Within (node prefix p -ℤ (x +ℤ K)) (entry m.cells p (suc i))
          low_kept p pl =
              let n : m.columns ≡ columns_of z = same.columns in
              let w = chosen.meet.each p (suc i) (omega arith) (omega arith) in
              let l : pos 1 ≤ℤ K = one in
              within_less _ (node prefix p -ℤ x) _ (omega (arith, ints)) (subst (λ v. Within (node prefix p -ℤ v) (entry m.cells p (suc i))) chosen.here (subst (λ v. Within (v -ℤ node chosen.integers (suc i)) (entry m.cells p (suc i))) (chosen.before p pl) w))

          -- a value far from zero is not the nearest one
          not_above : pos (t + h) <ℤ x → ⊥
          not_above far =
              let n : m.columns ≡ columns_of z = same.columns in
              let k : z.period ≤ h = room.period in
              let l : pos 1 ≤ℤ K = one in
              let may : MayHave m (suc i) prefix (x -ℤ K) = possible m closed (suc i) prefix (omega arith) (omega arith) before (x -ℤ K) (λ p pl. low_met p pl far) high_kept in
              let r : rank x ≤ rank (x -ℤ K) = not_nearer (x -ℤ K) may (Divides-is K ((x -ℤ node z.residues (suc i)) -ℤ K) _ (omega (arith, ints)) (Divides-- K _ _ near.between.residue (Divides-self K))) in
              let s : rank (x -ℤ K) < rank x = rank_above x (x -ℤ K) (omega (arith, ints)) (omega (arith, ints)) in
              omega arith

          not_below : x <ℤ neg_ℤ (pos (t + h)) → ⊥
          not_below far =
              let n : m.columns ≡ columns_of z = same.columns in
              let k : z.period ≤ h = room.period in
              let l : pos 1 ≤ℤ K = one in
              let may : MayHave m (suc i) prefix (x +ℤ K) = possible m closed (suc i) prefix (omega arith) (omega arith) before (x +ℤ K) low_kept (λ p pl. high_met p pl far) in
              let r : rank x ≤ rank (x +ℤ K) = not_nearer (x +ℤ K) may (Divides-is K ((x -ℤ node z.residues (suc i)) +ℤ K) _ (omega (arith, ints)) (Divides-+ K _ _ near.between.residue (Divides-self K))) in
              let s : rank (x +ℤ K) < rank x = rank_below x (x +ℤ K) (omega (arith, ints)) (omega (arith, ints)) in
              omega arith

          value_small : AtMost (t + h) (Some x)
          value_small = (
            by_lt_z x (neg_ℤ (pos (t + h))) (λ lt. absurd (not_below lt)) (λ le. le),
            by_lt_z (pos (t + h)) x (λ lt. absurd (not_above lt)) (λ le. le),
          )

        -- ---- so it is the value of one more column

        -- the values with the choice after them
        pub next_is : (out : List ℤ) → out ≡ set xs i x → IsNearestTo z (suc i) out
        next_is out e = subst (IsNearestTo z (suc i)) (sym e) (record {
          padded = record {
            size = length-set xs i x ∙ begun.padded.size;
            zeros = λ q l. get_or-set_other xs i q x (pos 0) (apart q l) ∙ begun.padded.zeros q (omega arith);
          };
          member = made;
          is = made_is;
          same = λ q l. made_same q l (cases_lt q i);
          first = λ ys h. by_place ys h (begun.first ys h);
          near = λ h room q l. near_at h room q l (cases_lt q (suc i));
        })
          where
            fits : i < length xs
            fits = let c : columns_of z ≤ 8 = is.shape.columns in let s : length xs ≡ 8 = begun.padded.size in omega arith

            apart : (q : ℕ) → suc i ≤ q → q ≢ i
            apart q l = omega arith

            below : (q : ℕ) → q < i → q ≢ i
            below q l = omega arith

            kept : (q : ℕ) → q < i → at (set xs i x) q ≡ at xs q
            kept q l = get_or-set_other xs i q x (pos 0) (below q l)

            here : at (set xs i x) i ≡ x
            here = get_or-set_same xs i x (pos 0) fits

            made_same : (q : ℕ) → q < suc i → (q < i) ⊎ (i ≤ q) → at made q ≡ at (set xs i x) q
            made_same q l (inl a) = made_before q a ∙ sym (kept q a)
            made_same q l (inr b) = let e : q ≡ i = omega arith in subst (λ p. at made p ≡ at (set xs i x) p) (sym e) (made_here ∙ sym here)

            by_place : (ys : List ℤ) → IsMember z ys → IsNotNearer i xs ys → IsNotNearer (suc i) (set xs i x) ys
            by_place ys h n = by (cases_lt n.place i)
              where
                by_rank : ((q : ℕ) → q < i → at ys q ≡ at xs q) → rank x ≤ rank (at ys i) → (rank x ≡ rank (at ys i)) ⊎ (rank x ≢ rank (at ys i)) → IsNotNearer (suc i) (set xs i x) ys
                by_rank agrees r (inl e) = record {
                  place = suc i;
                  low = omega arith;
                  same = λ q l. elim (cases_lt q i) [ inl a ↦ agrees q a ∙ sym (kept q a) | inr b ↦ let k : q ≡ i = omega arith in subst (λ p. at ys p ≡ at (set xs i x) p) (sym k) (sym (rank_differs x (at ys i) e) ∙ sym here) ];
                  farther = λ l. absurd (omega arith);
                }
                by_rank agrees r (inr ne) = record {
                  place = i;
                  low = omega arith;
                  same = λ q l. agrees q l ∙ sym (kept q l);
                  farther = λ l. subst (λ v. rank v < rank (at ys i)) (sym here) (omega arith);
                }

                by : (n.place < i) ⊎ (i ≤ n.place) → IsNotNearer (suc i) (set xs i x) ys
                by (inl a) = record {
                  place = n.place;
                  low = omega arith;
                  same = λ q l. n.same q l ∙ sym (kept q (omega arith));
                  farther = λ l. subst (λ v. rank v < rank (at ys n.place)) (sym (kept n.place a)) (n.farther a);
                }
                by (inr b) =
                    let le : n.place ≤ i = n.low in
                    let e : n.place ≡ i = omega arith in
                    let agrees : (q : ℕ) → q < i → at ys q ≡ at xs q = λ q l. n.same q (omega arith) in
                    let r : rank x ≤ rank (at ys i) = not_nearer (at ys i) (may_have ys h agrees) (h.cell.each (suc i) (omega arith)) in
                    by_rank agrees r (cases_eq (rank x) (rank (at ys i)))

            node_kept : (q : ℕ) → q < suc i → node (set xs i x) q ≡ node xs q
            node_kept zero l = refl
            node_kept (suc q) l = kept q (omega arith)

            node_prefix : (q : ℕ) → q < suc i → node prefix q ≡ node xs q
            node_prefix q l = sym (agree xs (λ p pl. refl) q l)

            more : (h : ℕ) → i * h + h ≡ suc i * h
            more h = omega arith

            near_at : (h : ℕ) → IsRoom z h → (q : ℕ) → q ≤ suc i → (q < suc i) ⊎ (suc i ≤ q) → AtMost (suc i * h) (Some (node (set xs i x) q))
            near_at h room q l (inl a) = subst (λ v. AtMost (suc i * h) (Some v)) (sym (node_kept q a)) (AtMost-more (i * h) (suc i * h) (Some (node xs q)) (omega (arith, more h)) (begun.near h room q (omega arith)))
            near_at h room q l (inr b) =
                let e : q ≡ suc i = omega arith in
                subst (λ p. AtMost (suc i * h) (Some (node (set xs i x) p))) (sym e) (subst (λ v. AtMost (suc i * h) (Some v)) (sym here)
                (subst (λ n. AtMost n (Some x)) (more h) (value_small h (i * h) room (λ p pl. subst (λ v. AtMost (i * h) (Some v)) (sym (node_prefix p pl)) (begun.near h room p (omega arith))))))

-- ---- for a column number, residue, period and values by other names

module _ (z : ZoneView) (is : IsZone z) (m : MatrixView) (closed : IsClosed m) (same : HaveSameIntegers (matrix_of z) m) (i c : ℕ) (e : c ≡ suc i) (low : i < columns_of z) (xs : List ℤ) (begun : IsNearestTo z i xs) where
  -- the columns before meet the bounds among them
  pub before_next : MeetsBefore m c (take i xs)
  before_next = subst (λ k. MeetsBefore m k (take i xs)) (sym e) (before z is m closed same i low xs begun)

  -- so many times the room is within the limit
  within_room : (h n : ℕ) → IsRoom z h → n ≤ columns_of z → n * h ≤ 2 ^ 62
  within_room h n room l = let r : columns_of z * h ≤ 2 ^ 62 = room.room in let g : n * h ≤ columns_of z * h = grind arith in omega arith

  -- and their values are small
  pub small_next : (h : ℕ) → IsRoom z h → AreSmall (2 ^ 62) (take i xs)
  small_next h room = record {
    each = λ p l.
        let s : length xs ≡ 8 = begun.padded.size in
        let c8 : columns_of z ≤ 8 = is.shape.columns in
        let t : length (take i xs) ≡ i = length-take-le i xs (omega arith) in
        subst (λ v. AtMost (2 ^ 62) (Some v)) (sym (node_take i xs p (omega arith))) (AtMost-more (i * h) (2 ^ 62) (Some (node xs p)) (within_room h i room (omega arith)) (begun.near h room p (omega arith)));
  }

  module _ (least most : Option ℤ) (first : IsLeastWith (MayHave m c (take i xs)) least) (last : IsGreatestOf (MayHave m c (take i xs)) most) (between : (v : ℤ) → Above v least → Within v most → MayHave m c (take i xs) v) (r k : ℤ) (residue : r ≡ node z.residues c) (period : k ≡ pos z.period) where
    -- some value is left
    pub some_next : ((v : ℤ) → IsBetween least most r k v → ⊥) → ⊥
    some_next none =
        some_choice z is m closed same i low xs begun least most (subst (λ j. IsLeastWith (MayHave m j (take i xs)) least) e first) (subst (λ j. IsGreatestOf (MayHave m j (take i xs)) most) e last) (subst (λ j. (v : ℤ) → Above v least → Within v most → MayHave m j (take i xs) v) e between)
        (λ v b. none v (subst (λ j. IsBetween least most j k v) (sym (residue ∙ ap (node z.residues) e)) (subst (λ j. IsBetween least most (node z.residues (suc i)) j v) (sym period) b)))

    -- the nearest one is the next
    pub next_value : (x : ℤ) → IsNearest least most r k x → (out : List ℤ) → out ≡ set xs i x → IsNearestTo z c out
    next_value x near out o =
        subst (λ j. IsNearestTo z j out) (sym e)
        (next_is z is m closed same i low xs begun least most (subst (λ j. IsLeastWith (MayHave m j (take i xs)) least) e first) (subst (λ j. IsGreatestOf (MayHave m j (take i xs)) most) e last) (subst (λ j. (v : ℤ) → Above v least → Within v most → MayHave m j (take i xs) v) e between) x
        (subst (λ j. IsNearest least most j (pos z.period) x) (residue ∙ ap (node z.residues) e) (subst (λ j. IsNearest least most r j x) period near)) out o)

    -- and small
    pub next_small : (h : ℕ) → IsRoom z h → (x : ℤ) → IsNearest least most r k x → AtMost (2 ^ 62) (Some x)
    next_small h room x near =
        let n : IsNearestTo z c (set xs i x) = next_value x near (set xs i x) refl in
        let fits : i < length xs = let c8 : columns_of z ≤ 8 = is.shape.columns in let s : length xs ≡ 8 = begun.padded.size in omega arith in
        AtMost-more (c * h) (2 ^ 62) (Some x) (within_room h c room (omega arith))
        (subst (λ v. AtMost (c * h) (Some v)) (ap (node (set xs i x)) e ∙ get_or-set_same xs i x (pos 0) fits) (n.near h room c (omega arith)))

-- a small value is kept in words
pub words_keep : (x : ℤ) → AtMost (2 ^ 62) (Some x) → to_z w64 (of_z w64 (to_z w128 (of_z w128 x))) ≡ x
words_keep x s = omega (arith, ints)

-- a residue is kept in a word
pub residue_kept : (z : ZoneView) → IsZone z → (c : ℕ) → c ≤ columns_of z → (v : ℤ) → v ≡ node z.residues c → to_z w64 (of_z w64 v) ≡ node z.residues c
residue_kept z is c l v e = let r = is.shape.residues c l in word64_node v (node z.residues c) z.period e r.low r.high is.shape.period_high

-- so is the period
pub period_kept : (z : ZoneView) → IsZone z → (v : ℤ) → v ≡ pos z.period → to_z w64 (of_z w64 v) ≡ pos z.period
period_kept z is v e = let h : z.period ≤ 2 ^ 62 = is.shape.period_high in omega (arith, ints)
