-- Bounds that zones have in common, and the zone of such bounds.
use Rattle.std.proofs.Common.{◌≡◌, ℕ, zero, suc, ◌+◌, ◌-◌, ◌<◌, ◌≤◌, ◌^◌, inl, inr, List, [], ◌∷◌, ◌++◌, length, take, replicate, Some, refl, sym, ap, subst, ◌∙◌, arith, get_or}
use Rattle.std.specs.Prelude.{ℤ, pos, nat_abs, ◌-ℤ◌, ◌≤ℤ◌, IfSome, Option, None}
use Rattle.std.proofs.lemmas.Bool.{cases_eq}
use Rattle.std.proofs.lemmas.Int.{ints}
use Rattle.std.proofs.lemmas.List.{get_or_default}
use Rattle.std.proofs.lemmas.List.Elements.{All-append}
use Rattle.lrp_theory.specs.Bounds.{Within}
use Rattle.lrp_theory.specs.Divides.{Divides}
use Rattle.lrp_theory.specs.Entries.{node}
use Rattle.lrp_model.specs.declared.relations.Bound.{Bound}
use Rattle.lrp_zone.specs.Zones.{ZoneView, IsMember, IsResidue, columns_of, reach_of}
use Rattle.lrp_zone.specs.Given.{bound_at, AreGiven, IsGivenZone}
use Rattle.lrp_tables.specs.declared.pieces.Piece.{Piece}
use Rattle.lrp_hulls.specs.Common.{AreCommonBounds, HaveColumns, IsCommonBound, IsZoneInCommon, IsSmallBound}

-- one divides every integer
one_divides : (z : ℤ) → Divides (pos 1) z
one_divides z = record { times = z; is = omega (arith, ints) }

-- zeros are residues modulo one
zero_at : (k n i : ℕ) → get_or (take n (replicate k (pos 0))) i (pos 0) ≡ pos 0
zero_at zero zero i = refl
zero_at zero (suc n) i = refl
zero_at (suc k) zero i = refl
zero_at (suc k) (suc n) zero = refl
zero_at (suc k) (suc n) (suc i) = zero_at k n i

pub zero_residues : (n p : ℕ) → IsResidue 1 (node (take n (replicate 8 (pos 0))) p)
zero_residues n zero = record { low = omega (arith, ints); high = omega (arith, ints) }
zero_residues n (suc p) = let e = zero_at 8 n p in record { low = omega (arith, ints, e); high = omega (arith, ints, e) }

-- a bound that isn't large, and that the tuples of the first k zones meet
pub record MetBefore (pieces : List Piece) (i j k : ℕ) (most : ℤ) : Type 0 where
  pub small : nat_abs most ≤ 2 ^ 60
  pub met : (n : ℕ) (piece : Piece) (xs : List ℤ) → n < k → n < length pieces → get_or pieces n piece ≡ piece → IsMember piece.zone xs → (node xs i -ℤ node xs j) ≤ℤ most

-- the tuples of one more zone meet what its bound and that before are at most
pub met_more : (pieces : List Piece) (i j k : ℕ) (old bound most : ℤ) (piece : Piece) → k < length pieces → get_or pieces k piece ≡ piece → i ≤ columns_of piece.zone → j ≤ columns_of piece.zone → MetBefore pieces i j k old → IsSmallBound piece.zone i j bound → nat_abs most ≤ 2 ^ 60 → old ≤ℤ most → bound ≤ℤ most → MetBefore pieces i j (k + 1) most
met_more pieces i j k old bound most piece low at li lj before one small up here = record {
  small = small;
  met = λ n p xs h l e m. elim (cases_eq n k) [
    | inl same ↦
        let own : p ≡ piece = sym e ∙ ap (λ x. get_or pieces x p) same ∙ get_or_default pieces k p piece low ∙ at in
        let mine : IsMember piece.zone xs = subst (λ (q : Piece). IsMember q.zone xs) own m in
        let met : (node xs i -ℤ node xs j) ≤ℤ bound = subst (Within (node xs i -ℤ node xs j)) one.stored (mine.meets i j li lj) in
        omega (arith, ints, met, here)
    | inr other ↦
        let met : (node xs i -ℤ node xs j) ≤ℤ old = before.met n p xs (omega (arith, h, other)) l e m in
        omega (arith, ints, met, up)
  ];
}

-- at the end it is met by all
pub met_all : (columns : ℕ) (pieces : List Piece) (i j k : ℕ) (bound : Bound) → length pieces ≤ k → i ≤ columns → j ≤ columns → bound.left ≡ i → bound.right ≡ j → MetBefore pieces i j k bound.most → IsCommonBound columns pieces bound
met_all columns pieces i j k bound end li lj left right m = record {
  left = subst (λ n. n ≤ columns) (sym left) li;
  right = subst (λ n. n ≤ columns) (sym right) lj;
  all = record {
    small = m.small;
    met = λ piece xs there member. subst (λ n. (node xs n -ℤ node xs bound.right) ≤ℤ bound.most) (sym left) (subst (λ n. (node xs i -ℤ node xs n) ≤ℤ bound.most) (sym right)
        (m.met there.0 piece xs (let low : there.0 < length pieces = there.1 in omega (arith, low, end)) there.1 there.2 member));
  };
}

module _ (columns : ℕ) (pieces : List Piece) (have : HaveColumns columns pieces) (bounds : List Bound) (common : AreCommonBounds columns pieces bounds) (rs : List ℤ) (count : length rs ≡ columns) where
  at_bound : (i : ℕ) → i < length bounds → IsCommonBound columns pieces (bound_at bounds i)
  at_bound i h = common i (record { left = 0; right = 0; most = pos 0 }) h

  -- the bounds can be given
  pub common_given : AreGiven (pos 1) rs bounds
  common_given = record {
    each = λ i h.
        let b = at_bound i h in
        let small : nat_abs (bound_at bounds i).most ≤ 2 ^ 60 = b.all.small in
        record {
          left = subst (λ n. (bound_at bounds i).left ≤ n) (sym count) b.left;
          right = subst (λ n. (bound_at bounds i).right ≤ n) (sym count) b.right;
          fits = record { room = inl (one_divides _, omega (arith, small)) };
        };
  }

  -- their zone has the tuples of each zone
  pub common_is : (zone : ZoneView) → IsGivenZone (pos 1) rs bounds zone → IsZoneInCommon columns pieces zone
  common_is zone g =
      let period : zone.period ≡ 1 = omega (arith, ints, g.period) in
      record {
        count = ap length g.residues ∙ count;
        period = period;
        reach = let r : reach_of zone ≤ 2 ^ 60 + (zone.period - 1) = g.reach (2 ^ 60) (λ i h. (at_bound i h).all.small) in omega (arith, r, period);
        has = λ piece xs there m. g.from xs (record {
          count = m.cell.count ∙ have.each piece there ∙ sym count;
          residues = record { each = λ p low. one_divides _ };
          meets = λ i h. (at_bound i h).all.met piece xs there m;
        });
      }

  -- where there is one
  pub common_found : (found : Option ZoneView) → IfSome found (IsGivenZone (pos 1) rs bounds) → IfSome found (IsZoneInCommon columns pieces)
  common_found None h = tt
  common_found (Some zone) h = common_is zone h

-- one bound more
pub one_common : (columns : ℕ) (pieces : List Piece) (bounds : List Bound) (bound : Bound) → AreCommonBounds columns pieces bounds → IsCommonBound columns pieces bound → AreCommonBounds columns pieces (bounds ++ bound ∷ [])
one_common columns pieces bounds bound all one = All-append (IsCommonBound columns pieces) bounds (bound ∷ []) all (λ k d h. by k d h)
  where
    by : (k : ℕ) (d : Bound) → k < length (bound ∷ []) → IsCommonBound columns pieces (get_or (bound ∷ []) k d)
    by zero d h = one
    by (suc k) d h = absurd (omega (arith, h))
