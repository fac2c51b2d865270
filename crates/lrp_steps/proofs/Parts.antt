-- A set that is added to a store part by part.
use Rattle.std.proofs.Common.{◌≡◌, ℕ, inl, inr, List, sym, ap, subst, ◌∙◌, arith}
use Rattle.std.specs.Prelude.{ℤ}
use Rattle.std.specs.FinMap as finite
use Rattle.std.specs.FinMap.{len-empty}
use Rattle.lrp_slots.specs.Lists.{cell_cmp}
use Rattle.lrp_model.specs.declared.tuples.Shape.{Shape}
use Rattle.lrp_store.specs.Stores.{StoreView, IsStore, HasReach, HoldsJust}
use Rattle.lrp_store.specs.Growing.{IsAdded, IsRefused, InhabitsMany}
use Rattle.lrp_store.proofs.Held.{Table}
use Rattle.lrp_store.proofs.Grown.{Set, grown_same}
use Rattle.lrp_store.proofs.Aligning.{nothing_held}
use Rattle.lrp_store.proofs.Counted.{many, not_many}
use Rattle.lrp_store.proofs.Rooms.{empty_reach}

-- a set without a tuple
pub added_nothing : (cap high : ℕ) (set : Set) (s : StoreView) → IsStore s → ((xs : List ℤ) (ns : List ℕ) → set xs ns → ⊥) → IsAdded set cap high s s
added_nothing cap high set s is none = record { grown = grown_same cap high set s is; whole = record { each = λ xs ns h. absurd (none xs ns h) } }

module _ (set : Set) (cap high : ℕ) (start out : StoreView) (empty : start.tables ≡ finite.empty) where
  -- what was added to a store without cells is all that it holds
  pub held_just : IsAdded set cap high start out → HoldsJust set out
  held_just a = record { sound = λ xs ns h. elim (a.grown.sound xs ns h) [ inl i ↦ absurd (nothing_held start empty xs ns i) | inr i ↦ i ]; whole = a.whole.each }

  -- in zones of this reach
  pub added_reach : IsAdded set cap high start out → HasReach out high
  added_reach a = a.grown.reach high (omega arith) (empty_reach start high empty)

  -- it inhabits no more than cap cells
  pub added_few : IsAdded set cap high start out → InhabitsMany start.shape start.period set cap → ⊥
  added_few a more =
      not_many out a.grown.valid set cap a.whole (a.grown.few (let e : finite.len start.tables ≡ 0 = ap finite.len empty ∙ len-empty cell_cmp (List Table) in omega arith))
      (subst (λ (q : Shape). InhabitsMany q out.period set cap) (sym a.grown.shape) (subst (λ k. InhabitsMany start.shape k set cap) (sym a.grown.period) more))

  -- and more where it was refused
  pub refused_many : IsRefused set cap high start out → InhabitsMany start.shape start.period set cap
  refused_many r =
      subst (λ (q : Shape). InhabitsMany q start.period set cap) r.grown.shape (subst (λ k. InhabitsMany out.shape k set cap) r.grown.period
      (many out r.grown.valid set cap (λ xs ns h. elim (r.grown.sound xs ns h) [ inl i ↦ absurd (nothing_held start empty xs ns i) | inr i ↦ i ]) r.more))
