-- A store without cells to which all of a set was added, and the table that a step makes of it.
use Rattle.std.proofs.Common.{◌≡◌, ◌≢◌, ℕ, inl, inr, List, ◌++◌, length, sym, ap, subst, ◌∙◌, arith}
use Rattle.std.specs.Prelude.{AllPairs}
use Rattle.std.specs.FinMap as finite
use Rattle.std.specs.FinMap.{len-empty}
use Rattle.lrp_slots.specs.Lists.{cell_cmp}
use Rattle.lrp_model.specs.Texts.{Text, Identifier, Ascends}
use Rattle.lrp_model.specs.Satisfaction.{Assignment}
use Rattle.lrp_store.specs.Stores.{StoreView, IsStore, HoldsJust, HasReach}
use Rattle.lrp_store.specs.Growing.{IsGrown, IsAdded, IsRefused, InhabitsMany}
use Rattle.lrp_tables.specs.declared.table.Table.{Table}
use Rattle.lrp_store.proofs.Held.{Table as Bounds}
use Rattle.lrp_store.proofs.Aligning.{nothing_held}
use Rattle.lrp_store.proofs.Counted.{many, not_many}
use Rattle.lrp_store.proofs.Rooms.{empty_reach}
use Rattle.lrp_tables.specs.Tables.{IsTableOf}
use Rattle.lrp_tables.specs.Caps.{InhabitsMoreThan}
use Rattle.lrp_tables.proofs.CellsNamed.{Tuples, AreTuplesOf, many_named, few_named}
use Rattle.lrp_tables.proofs.Named.{pairs_left, pairs_right}
use Rattle.lrp_tables.proofs.TableMade.{table_of}

module _ (tuples : Tuples) (cap high : ℕ) (start out : StoreView) (empty : start.tables ≡ finite.empty) where
  -- a store that all of the set was added to holds just the set
  pub just_held : IsAdded tuples cap high start out → HoldsJust tuples out
  just_held a = record { sound = λ xs ns h. elim (a.grown.sound xs ns h) [ inl old ↦ absurd (nothing_held start empty xs ns old) | inr new ↦ new ]; whole = a.whole.each }

  -- in zones of at most this reach
  pub reach_held : IsGrown tuples cap high start out → HasReach out high
  reach_held g = g.reach high (omega arith) (empty_reach start high empty)

  -- and the set inhabits no more than cap cells
  pub few_held : IsAdded tuples cap high start out → InhabitsMany start.shape start.period tuples cap → ⊥
  few_held a more =
      not_many out a.grown.valid tuples cap a.whole (a.grown.few (let e : finite.len start.tables ≡ 0 = ap finite.len empty ∙ len-empty cell_cmp (List Bounds) in omega arith))
      (subst (λ q. InhabitsMany q out.period tuples cap) (sym a.grown.shape) (subst (λ k. InhabitsMany start.shape k tuples cap) (sym a.grown.period) more))

  -- where a cell was one too many, the set inhabits more
  pub many_held : IsRefused tuples cap high start out → InhabitsMany start.shape start.period tuples cap
  many_held r =
      subst (λ q. InhabitsMany q start.period tuples cap) r.grown.shape
      (subst (λ k. InhabitsMany out.shape k tuples cap) r.grown.period
      (many out r.grown.valid tuples cap (λ xs ns h. elim (r.grown.sound xs ns h) [ inl old ↦ absurd (nothing_held start empty xs ns old) | inr new ↦ new ]) r.more))

-- what a step begins with: a store without cells that has a column for each of these names
pub record IsStart (domain : List Text) (times texts : List Identifier) (start : StoreView) : Type 0 where
  pub ascends : Ascends domain
  pub names_differ : AllPairs ◌≢◌ (times ++ texts)
  pub valid : IsStore start
  pub times_are : start.shape.times ≡ length times
  pub texts_are : start.shape.texts ≡ length texts
  pub empty : start.tables ≡ finite.empty

module _ (domain : List Text) (times texts : List Identifier) (start : StoreView) (is : IsStart domain times texts start) (tuples : Tuples) (set : Assignment → Type 0) (are : AreTuplesOf domain times texts tuples set) (cap high : ℕ) (out : StoreView) where
  -- the table of all of the set
  pub step_table : IsAdded tuples cap high start out → (made : Table) → made.vars.times ≡ times → made.vars.texts ≡ texts → made.store ≡ out → IsTableOf domain times texts start.period set made
  step_table a made times_are texts_are store_is =
      table_of domain times texts start.period tuples set made times_are texts_are (ap (λ s. s.period) store_is ∙ a.grown.period) (subst IsStore (sym store_is) a.grown.valid) (subst (HoldsJust tuples) (sym store_is) (just_held tuples cap high start out is.empty a)) are

  -- which inhabits no more than cap cells
  pub step_few : IsAdded tuples cap high start out → InhabitsMoreThan cap domain start.period times texts set → ⊥
  step_few a =
      few_named domain is.ascends times texts (pairs_left ◌≢◌ times texts is.names_differ) (pairs_right ◌≢◌ times texts is.names_differ) start.period is.valid.period_low start.shape is.times_are is.texts_are is.valid.times is.valid.texts tuples set are cap
      (few_held tuples cap high start out is.empty a)

  -- or more, where a cell was one too many
  pub step_many : IsRefused tuples cap high start out → InhabitsMoreThan cap domain start.period times texts set
  step_many r =
      many_named domain is.ascends times texts (pairs_left ◌≢◌ times texts is.names_differ) (pairs_right ◌≢◌ times texts is.names_differ) start.period is.valid.period_low start.shape is.times_are is.texts_are is.valid.times is.valid.texts tuples set are cap
      (many_held tuples cap high start out is.empty r)
