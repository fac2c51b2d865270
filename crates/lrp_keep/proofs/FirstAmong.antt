-- The first spot of what is held for all disjuncts: one disjunct after another.
use Rattle.std.proofs.Common.{◌≡◌, ◌⊎◌, ◌<◌, ◌+◌, ◌-◌, inl, inr, ℕ, List, length, Option, Some, None, sym, ap, subst, ◌∙◌, arith}
use Rattle.std.specs.Prelude.{IfSome, slice_get}
use Rattle.lrp_zone.proofs.Cases.{eq_or}
use Rattle.lrp_model.specs.declared.tuples.Spot.{Spot}
use Rattle.lrp_holdings.proofs.Chained.{some_is}
use Rattle.lrp_packed.specs.Leading.{IsNotLater}
use Rattle.lrp_packed.proofs.Leading.{not_later_through}
use Rattle.lrp_parts.specs.Derivations.{HoldsIn, Levels}
use Rattle.lrp_parts.specs.Firsts.{IsFirstOfHeld, IsHeldSpot}
use Rattle.lrp_parts.proofs.Firsts.{first_of_none}
use Rattle.lrp_keep.specs.Unions.{HoldsAmong}

pub first_start : (all : List Levels) → IsFirstOfHeld (HoldsAmong all 0) None
first_start all = first_of_none (HoldsAmong all 0) (λ keys store x. let l : x.0 < 0 = x.2 in omega (arith, l))

module _ (all : List Levels) (count : ℕ) (levels : Levels) (one other new : Option Spot) (at : slice_get all count ≡ Some levels) where
  from_before : (w : Spot) → IsHeldSpot (HoldsAmong all count) w → IsHeldSpot (HoldsAmong all (count + 1)) w
  from_before w h = record { keys = h.keys; store = h.store; is = (h.is.0, h.is.1, (let l : h.is.0 < count = h.is.2 in omega (arith, l)), h.is.3, h.is.4); inside = h.inside }

  from_here : (w : Spot) → IsHeldSpot (HoldsIn levels (length levels - 1)) w → IsHeldSpot (HoldsAmong all (count + 1)) w
  from_here w h = record { keys = h.keys; store = h.store; is = (count, levels, omega arith, at, h.is); inside = h.inside }

  from_old : (o : Option Spot) → IfSome o (IsHeldSpot (HoldsAmong all count)) → IfSome o (IsHeldSpot (HoldsAmong all (count + 1)))
  from_old None h = tt
  from_old (Some w) h = from_before w h

  from_new : (o : Option Spot) → IfSome o (IsHeldSpot (HoldsIn levels (length levels - 1))) → IfSome o (IsHeldSpot (HoldsAmong all (count + 1)))
  from_new None h = tt
  from_new (Some w) h = from_here w h

  pub first_more : IsFirstOfHeld (HoldsAmong all count) one → IsFirstOfHeld (HoldsIn levels (length levels - 1)) other → (new ≡ one) ⊎ (new ≡ other) → IsNotLater new one → IsNotLater new other → IsFirstOfHeld (HoldsAmong all (count + 1)) new
  first_more f g is low more = record {
    found = elim is [
      | inl e ↦ subst (λ o. IfSome o (IsHeldSpot (HoldsAmong all (count + 1)))) (sym e) (from_old one f.found)
      | inr e ↦ subst (λ o. IfSome o (IsHeldSpot (HoldsAmong all (count + 1)))) (sym e) (from_new other g.found)
    ];
    leads = λ y h. elim (eq_or h.is.0 count) [
      | inl e ↦
          let same : h.is.1 ≡ levels = some_is h.is.1 levels (sym h.is.3 ∙ ap (slice_get all) e ∙ at) in
          not_later_through new other (Some y) more (g.leads y (record { keys = h.keys; store = h.store; is = subst (λ v. HoldsIn v (length v - 1) h.keys (Some h.store)) same h.is.4; inside = h.inside }))
      | inr n ↦ not_later_through new one (Some y) low (f.leads y (record { keys = h.keys; store = h.store; is = (h.is.0, h.is.1, (let l : h.is.0 < count + 1 = h.is.2 in omega (arith, l, n)), h.is.3, h.is.4); inside = h.inside }))
    ];
  }
