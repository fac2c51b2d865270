-- The half of a zone that meets one more bound, by the zone of that bound alone.
use Rattle.std.proofs.Common.{◌≤◌, List, [], ◌∷◌, arith, subst, max}
use Rattle.std.specs.Prelude.{ℤ, nat_abs}
use Rattle.lrp_model.specs.declared.relations.Bound.{Bound}
use Rattle.lrp_zone.specs.Zones.{ZoneView, IsMember, reach_of}
use Rattle.lrp_zone.specs.Pairs.{IsOfCell, HaveNoCommon}
use Rattle.lrp_cutting.specs.Bounded.{AllCanBeStored, IsBounded, MeetsAll}
use Rattle.lrp_cutting.specs.Cutting.{IsCommonZone}
use Rattle.lrp_cutting.specs.Halves.{IsWithinBound, CanBeStored, IsHalf, HasNoHalf}
use Rattle.lrp_cutting.proofs.Lists.{in_one, one_in}

module _ (z : ZoneView) (b : Bound) where
  pub one_stored : CanBeStored z b → AllCanBeStored z (b ∷ [])
  one_stored can = record { each = λ x l. subst (λ y. CanBeStored z y) (in_one b x l) can }

  meets_one : (xs : List ℤ) → IsMember z xs → IsWithinBound b xs → MeetsAll z (b ∷ []) xs
  meets_one xs m h = record { cell = m.cell; meets = λ x l. subst (λ y. IsWithinBound y xs) (in_one b x l) h }

  pub none_meets_one : ((xs : List ℤ) → MeetsAll z (b ∷ []) xs → ⊥) → HasNoHalf z b
  none_meets_one h = record { none = λ xs m k. h xs (meets_one xs m k) }

  module _ (side : ZoneView) (of : IsBounded z (b ∷ []) side) where
    pub none_common : HaveNoCommon z side → HasNoHalf z b
    none_common h = record { none = λ xs m k. h.none xs m (of.from xs (meets_one xs m k)) }

    pub half_of : (w : ZoneView) → IsCommonZone z side w → IsHalf z b w
    half_of w common =
        let small : reach_of side ≤ nat_abs b.most = of.reach (nat_abs b.most) (λ x l. subst (λ y. nat_abs y.most ≤ nat_abs b.most) (in_one b x l) (omega arith)) in
        let low : reach_of w ≤ max (reach_of z) (reach_of side) = common.meet.reach in
        record {
          valid = common.valid;
          cell = common.meet.cell;
          to = λ xs m. ((common.meet.to xs m).0, (of.to xs (common.meet.to xs m).1).meets b (one_in b));
          from = λ xs m h. common.meet.from xs m (of.from xs (meets_one xs m h));
          reach = omega arith;
        }

-- what can be stored in a zone can be in each of its cell
pub stored_moved : (z w : ZoneView) (b : Bound) → IsOfCell z w → CanBeStored z b → CanBeStored w b
stored_moved z w b c can = record {
  left = rw c.residues can.left;
  right = rw c.residues can.right;
  apart = can.apart;
  tight = rw (c.residues, c.period) can.tight;
  small = can.small;
}
