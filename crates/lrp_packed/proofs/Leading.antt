-- First spots: of a store, of the same store packed, and which of two comes first.
use Rattle.std.proofs.Common.{◌≡◌, ℕ, List, take, Option, Some, None, sym, ap, subst, ◌∙◌}
use Rattle.std.specs.Prelude.{ℤ, pos, IfNone, IfSome}
use Rattle.lrp_model.specs.declared.tuples.Cell.{Cell}
use Rattle.lrp_model.specs.declared.tuples.Shape.{Shape}
use Rattle.lrp_model.specs.declared.tuples.Spot.{Spot}
use Rattle.lrp_zone.specs.Zones.{IsMember}
use Rattle.lrp_store.specs.Least.{IsFoundSpot, IsNotAfter, IsSpotOf}
use Rattle.lrp_store.specs.Stores.{InStore, IsPadded, StoreView, zone_of}
use Rattle.lrp_store.proofs.StoreFirst.{held_itself, held_upto, spots_cmp}
use Rattle.lrp_packed.specs.Leading.{IsFirstSpot, IsNotLater, leads_store}
use Rattle.lrp_packed.specs.Packed.{HasSame}

-- what is found of a store is its first spot
pub first_found : (s : StoreView) (o : Option Spot) → IfNone o ((xs : List ℤ) (ns : List ℕ) → InStore s xs ns → ⊥) → IsFoundSpot s o → IfSome o (λ spot. (xs : List ℤ) (ns : List ℕ) → InStore s xs ns → IsNotAfter s (Some spot) xs ns) → IsFirstSpot s o
first_found s None none found first = record { found = tt; leads = λ y is. none (take s.shape.times y.times) (take s.shape.texts y.texts) is.held }
first_found s (Some w) none found first = record {
  found = found;
  leads = λ y is e. first (take s.shape.times y.times) (take s.shape.texts y.texts) is.held (sym (spots_cmp s w y found is) ∙ e);
}

-- ---- the same store

module _ (s t : StoreView) (same : HasSame s t) where
  pub same_zone : (c : Cell) (table : List (Option ℤ)) → zone_of t c table ≡ zone_of s c table
  same_zone c table = ap (λ k. record { period = k; residues = take t.shape.times c.residues; bounds = table }) same.period ∙ ap (λ (h : Shape). record { period = s.period; residues = take h.times c.residues; bounds = table }) same.shape

  pub store_back : (xs : List ℤ) (ns : List ℕ) → InStore t xs ns → InStore s xs ns
  store_back xs ns h = record {
    cell = h.cell;
    table = h.table;
    held = same.zones h.cell h.table h.held;
    named = subst (λ (x : Shape). take x.texts h.cell.texts ≡ ns) same.shape h.named;
    inside = subst (λ z. IsMember z xs) (same_zone h.cell h.table) h.inside;
  }

  spot_to : (w : Spot) → IsSpotOf s w → IsSpotOf t w
  spot_to w is = record {
    times = subst (λ (x : Shape). IsPadded (pos 0) x.times w.times) (sym same.shape) is.times;
    texts = subst (λ (x : Shape). IsPadded 0 x.texts w.texts) (sym same.shape) is.texts;
    held = subst (λ (x : Shape). InStore t (take x.times w.times) (take x.texts w.texts)) (sym same.shape) (same.tuples (take s.shape.times w.times) (take s.shape.texts w.texts) is.held);
  }

  spot_back : (w : Spot) → IsSpotOf t w → IsSpotOf s w
  spot_back w is = record {
    times = subst (λ (x : Shape). IsPadded (pos 0) x.times w.times) same.shape is.times;
    texts = subst (λ (x : Shape). IsPadded 0 x.texts w.texts) same.shape is.texts;
    held = store_back (take s.shape.times w.times) (take s.shape.texts w.texts) (subst (λ (x : Shape). InStore t (take x.times w.times) (take x.texts w.texts)) same.shape is.held);
  }

  pub first_again : (o : Option Spot) → IsFirstSpot s o → IsFirstSpot t o
  first_again None f = record { found = tt; leads = λ y is. f.leads y (spot_back y is) }
  first_again (Some w) f = record { found = spot_to w f.found; leads = λ y is. f.leads y (spot_back y is) }

-- ---- two spots

pub not_later_itself : (o : Option Spot) → IsNotLater o o
not_later_itself None = tt
not_later_itself (Some w) = held_itself w.times w.texts

pub not_later_through : (a b c : Option Spot) → IsNotLater a b → IsNotLater b c → IsNotLater a c
not_later_through a b None x y = tt
not_later_through a None (Some w) x y = absurd y
not_later_through None (Some v) (Some w) x y = absurd x
not_later_through (Some u) (Some v) (Some w) x y = held_upto u.times v.times w.times u.texts v.texts w.texts x y

-- ---- two stores

-- a first spot that is not later leads the other store
pub leads_by_first : (a b : StoreView) (x y : Option Spot) → IsFirstSpot a x → IsFirstSpot b y → IsNotLater x y → leads_store a b
leads_by_first a b x None f g n z is = absurd (g.leads z is)
leads_by_first a b None (Some w) f g n z is = absurd n
leads_by_first a b (Some v) (Some w) f g n z is = record {
  spot = v;
  is = f.found;
  near = held_upto v.times w.times z.times v.texts w.texts z.texts n (g.leads z is);
}
