-- Whether a system has a solution, by the store to which its solutions were added.
use Rattle.std.proofs.Common.{◌≡◌, ℕ, ◌<◌, Bool, true, false, inl, inr, List, [], ◌++◌, take, replicate, length, refl, sym, ap, subst, ◌∙◌, arith, Contains}
use Rattle.std.specs.Prelude.{◌⊎◌, ◌↔◌, ℤ, All, IsTrue, unwrap_or}
use Rattle.std.specs.FinMap as finite
use Rattle.std.specs.FinMap.{get-empty}
use Rattle.lrp_slots.specs.Lists.{cell_cmp, list_at}
use Rattle.lrp_store.specs.Stores.{StoreView, InStore}
use Rattle.lrp_systems.specs.Parts.{PartView, Fits}
use Rattle.lrp_systems.specs.Systems.{AreSolutionsAdded}
use Rattle.lrp_lint.specs.Contents.{HasNoCommonTimes}

-- a store without cells over this many times
abbrev pub fresh : ℕ → ℕ → StoreView
fresh times period = record { shape = record { times = times; texts = 0 }; period = period; tables = finite.empty; spare = 0 }

nothing : (times period : ℕ) (xs : List ℤ) (texts : List ℕ) → InStore (fresh times period) xs texts → ⊥
nothing times period xs texts i =
    let c : Contains [] i.table = subst (λ tables. Contains tables i.table) (ap (λ o. unwrap_or o []) (get-empty cell_cmp i.cell)) i.held in
    let low : c.0 < 0 = c.1 in absurd (omega (arith, low))

module _ (times period : ℕ) (parts : List PartView) (texts : List ℕ) (cap : ℕ) (new : StoreView) where
  added : AreSolutionsAdded parts texts cap (fresh times period) new → (b : Bool) → IsTrue b ↔ ((xs : List ℤ) (ns : List ℕ) → InStore new xs ns → ⊥) → IsTrue b ↔ HasNoCommonTimes times parts
  added all b is = (
    λ t xs ns s. is.0 t xs ns (all.whole.each xs ns s),
    λ none. is.1 (λ xs ns i. elim (all.grown.sound xs ns i) [
      | inl before ↦ nothing times period xs ns before
      | inr s ↦ none xs ns s
    ]),
  )

  module _ (old : StoreView) (is_fresh : old ≡ fresh times period) where
    -- all were added: the store is empty exactly where there is none
    pub all_added : AreSolutionsAdded parts texts cap old new → (b : Bool) → IsTrue b ↔ ((xs : List ℤ) (ns : List ℕ) → InStore new xs ns → ⊥) → IsTrue b ↔ HasNoCommonTimes times parts
    all_added all b is = added (subst (λ (s : StoreView). AreSolutionsAdded parts texts cap s new) is_fresh all) b is
