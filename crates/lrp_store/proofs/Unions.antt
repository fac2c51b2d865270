-- Two zones of one column, of which the second goes on from the first, as one zone.
use Rattle.std.proofs.Common.{◌≡◌, ◌⊎◌, ℕ, zero, suc, ◌<◌, ◌≤◌, inl, inr, List, [], ◌∷◌, length, Option, Some, None, max, refl, sym, subst, ◌∙◌, arith}
use Rattle.std.specs.Prelude.{ℤ, pos, neg_ℤ, ◌-ℤ◌, ◌+ℤ◌, ◌≤ℤ◌, ◌<ℤ◌}
use Rattle.std.proofs.lemmas.Int.{ints, by_lt_z}
use Rattle.lrp_theory.specs.Bounds.{Within}
use Rattle.lrp_theory.specs.Divides.{Divides}
use Rattle.lrp_theory.specs.Entries.{entry, node, AtMost, IsBelow}
use Rattle.lrp_theory.proofs.Modulo.{Divides--, Divides-is, multiple_below}
use Rattle.lrp_zone.specs.Zones.{ZoneView, IsZone, IsShape, IsMember, IsTight, HasMember, columns_of, reach_of}
use Rattle.lrp_zone.specs.Pairs.{IsWithin}
use Rattle.lrp_zone.proofs.Lines.{in_line, line_cell, line_high, line_low}
use Rattle.lrp_zone.proofs.Reaches.{reach_small, small_reach}
use Rattle.lrp_store.specs.Joined.{GoesOn, IsUnion, line_list, line_table}
use Rattle.lrp_store.proofs.Held.{Table}
use Rattle.lrp_store.proofs.LineBounds.{line_above, line_listed, table_else, table_high, table_low}
use Rattle.lrp_store.proofs.Listed.{length-table_of}
use Rattle.lrp_store.proofs.Looser.{above_within}

-- a bound is at most itself
same_below : (e : Option ℤ) → IsBelow e e
same_below e = record { below = λ d h. h }

-- a list of one number
pub one_number : (xs : List ℤ) → length xs ≡ 1 → (x : ℤ) × (xs ≡ x ∷ [])
one_number [] h = absurd (omega arith)
one_number (x ∷ []) h = (x, refl)
one_number (x ∷ y ∷ xs) h = absurd (omega arith)

-- a number of the cell after another one is a period after it
pub next_number : (k r a x : ℤ) → pos 1 ≤ℤ k → Divides k (a -ℤ r) → Divides k (x -ℤ r) → a <ℤ x → (a +ℤ k) ≤ℤ x
next_number k r a x one da dx l = by_lt_z x (a +ℤ k)
    (λ lt. let d : Divides k (x -ℤ a) = Divides-is k ((x -ℤ r) -ℤ (a -ℤ r)) _ (omega (arith, ints)) (Divides-- k _ _ dx da) in
    let le : (x -ℤ a) ≤ℤ pos 0 = multiple_below k (x -ℤ a) d one (omega (arith, ints)) in absurd (omega (arith, ints)))
    (λ le. le)

module _ (z : ZoneView) (valid : IsZone z) (one : columns_of z ≡ 1) (t : Table) (before : IsZone (record z { bounds = t })) (on : GoesOn (entry t 0 1) (entry t 1 0) z) where
  -- the bounds of both
  abbrev low : Option ℤ
  low = entry t 0 1

  abbrev high : Option ℤ
  high = entry z.bounds 1 0

  -- the first zone, and both
  abbrev first : ZoneView
  first = record z { bounds = t }

  abbrev both : ZoneView
  both = record z { bounds = line_table low high }

  left : IsWithin first both
  left = above_within first (line_list low high) valid.shape.columns (line_listed low high) (line_above t low high (same_below low) on.ends)

  right : IsWithin z both
  right = above_within z (line_list low high) valid.shape.columns (line_listed low high) (line_above z.bounds low high on.begins (same_below high))

  tight : (i j : ℕ) → i ≤ 1 → j ≤ 1 → IsTight (pos z.period) (node z.residues i -ℤ node z.residues j) (entry both.bounds i j)
  tight zero zero l m = subst (λ e. IsTight (pos z.period) (node z.residues 0 -ℤ node z.residues 0) e) (sym (table_else low high 0 0 (omega arith) (omega arith) (λ e. absurd (omega arith)) (λ e. absurd (omega arith)))) tt
  tight zero (suc zero) l m = subst (λ e. IsTight (pos z.period) (node z.residues 0 -ℤ node z.residues 1) e) (sym (table_low low high)) (before.shape.tight 0 1 (omega arith) (omega (arith, one)))
  tight (suc zero) zero l m = subst (λ e. IsTight (pos z.period) (node z.residues 1 -ℤ node z.residues 0) e) (sym (table_high low high)) (valid.shape.tight 1 0 (omega (arith, one)) (omega arith))
  tight (suc zero) (suc zero) l m = subst (λ e. IsTight (pos z.period) (node z.residues 1 -ℤ node z.residues 1) e) (sym (table_else low high 1 1 (omega arith) (omega arith) (λ e. absurd (omega arith)) (λ e. absurd (omega arith)))) tt
  tight (suc (suc i)) j l m = absurd (omega arith)
  tight i (suc (suc j)) l m = absurd (omega arith)

  shape : IsShape both
  shape = record {
    period_low = valid.shape.period_low;
    period_high = valid.shape.period_high;
    columns = valid.shape.columns;
    residues = valid.shape.residues;
    tight = λ i j il jl. tight i j (omega (arith, one)) (omega (arith, one));
    diagonal = λ i il. table_else low high i i (omega (arith, one)) (omega (arith, one)) (λ e. absurd (omega arith)) (λ e. absurd (omega arith));
    outside = record {
      none = λ i j il jl far. elim far [
        | inl a ↦ table_else low high i j il jl (λ e. absurd (omega (arith, one))) (λ e. absurd (omega (arith, one)))
        | inr a ↦ table_else low high i j il jl (λ e. absurd (omega (arith, one))) (λ e. absurd (omega (arith, one)))
      ];
    };
  }

  some : HasMember both
  some = record { member = valid.some.member; is = right.each valid.some.member valid.some.is }

  valid_both : IsZone both
  valid_both = record { shape = shape; size = length-table_of (line_list low high); some = some }

  -- ---- a number of both is one of the first or of the second
  module _ (x : ℤ) (m : IsMember both (x ∷ [])) where
    residue : Divides (pos z.period) (x -ℤ node z.residues 1)
    residue = line_cell both x one m

    low_met : Within (pos 0 -ℤ x) low
    low_met = subst (λ e. Within (pos 0 -ℤ x) e) (table_low low high) (line_low both x one m)

    high_met : Within (x -ℤ pos 0) high
    high_met = subst (λ e. Within (x -ℤ pos 0) e) (table_high low high) (line_high both x one m)

    -- after the end of the first
    after : (a : ℤ) → entry t 1 0 ≡ Some a → a <ℤ x → (f : Option ℤ) → entry z.bounds 0 1 ≡ f → IsMember z (x ∷ [])
    after a e lt None f = in_line z x valid one residue high_met (subst (λ o. Within (pos 0 -ℤ x) o) (sym f) tt)
    after a e lt (Some b) f =
        let some_period : 0 < z.period = valid.shape.period_low in
        let is_tight : IsTight (pos z.period) (node z.residues 1 -ℤ pos 0) (Some a) = subst (λ o. IsTight (pos z.period) (node z.residues 1 -ℤ pos 0) o) e (before.shape.tight 1 0 (omega (arith, one)) (omega arith)) in
        let of_end : Divides (pos z.period) (a -ℤ node z.residues 1) = Divides-is (pos z.period) (a -ℤ (node z.residues 1 -ℤ pos 0)) _ (omega (arith, ints)) is_tight.0 in
        let far : (a +ℤ pos z.period) ≤ℤ x = next_number (pos z.period) (node z.residues 1) a x (omega (arith, ints)) of_end residue lt in
        let near : neg_ℤ b ≤ℤ (a +ℤ pos z.period) = on.near.near a b e f in
        in_line z x valid one residue high_met (subst (λ o. Within (pos 0 -ℤ x) o) (sym f) (omega (arith, ints)))

    of_one : (o : Option ℤ) → entry t 1 0 ≡ o → IsMember first (x ∷ []) ⊎ IsMember z (x ∷ [])
    of_one None e = inl (in_line first x before one residue (subst (λ o. Within (x -ℤ pos 0) o) (sym e) tt) low_met)
    of_one (Some a) e = by_lt_z a x
        (λ lt. inr (after a e lt (entry z.bounds 0 1) refl))
        (λ le. inl (in_line first x before one residue (subst (λ o. Within (x -ℤ pos 0) o) (sym e) (omega (arith, ints))) low_met))

  one_of : (xs : List ℤ) → IsMember both xs → IsMember first xs ⊎ IsMember z xs
  one_of xs m =
      let n : (x : ℤ) × (xs ≡ x ∷ []) = one_number xs (m.cell.count ∙ one) in
      elim (of_one n.0 (subst (λ l. IsMember both l) n.1 m) (entry t 1 0) refl) [
        | inl i ↦ inl (subst (λ l. IsMember first l) (sym n.1) i)
        | inr i ↦ inr (subst (λ l. IsMember z l) (sym n.1) i)
      ]

  -- ---- the reach

  abbrev most : ℕ
  most = max (reach_of first) (reach_of z)

  small : (i j : ℕ) → i ≤ 1 → j ≤ 1 → AtMost most (entry both.bounds i j)
  small zero zero l m = subst (λ e. AtMost most e) (sym (table_else low high 0 0 (omega arith) (omega arith) (λ e. absurd (omega arith)) (λ e. absurd (omega arith)))) tt
  small zero (suc zero) l m = subst (λ e. AtMost most e) (sym (table_low low high)) ((reach_small first most (omega arith)).each 0 1 (omega arith) (omega (arith, one)))
  small (suc zero) zero l m = subst (λ e. AtMost most e) (sym (table_high low high)) ((reach_small z most (omega arith)).each 1 0 (omega (arith, one)) (omega arith))
  small (suc zero) (suc zero) l m = subst (λ e. AtMost most e) (sym (table_else low high 1 1 (omega arith) (omega arith) (λ e. absurd (omega arith)) (λ e. absurd (omega arith)))) tt
  small (suc (suc i)) j l m = absurd (omega arith)
  small i (suc (suc j)) l m = absurd (omega arith)

  within_reach : reach_of both ≤ most
  within_reach = small_reach both most valid.shape.columns (length-table_of (line_list low high)) shape.outside (record { each = λ i j il jl. small i j (omega (arith, one)) (omega (arith, one)) })

  -- both are the zone of these bounds
  pub are_joined : (made : Table) → made ≡ line_table low high → IsUnion first z (record z { bounds = made })
  are_joined made e = subst (λ b. IsUnion first z (record z { bounds = b })) (sym e) (record {
    valid = valid_both;
    cell = record { period = refl; residues = refl };
    left = left;
    right = right;
    one = one_of;
    reach = within_reach;
  })
