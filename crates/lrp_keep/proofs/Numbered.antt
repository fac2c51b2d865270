-- The numbers of texts in a store of answers are numbers of the domain.
use Rattle.std.proofs.Common.{◌≡◌, ◌<◌, ◌+◌, ◌-◌, ℕ, List, [], ◌∷◌, length, take, Option, Some, None, Contains, inl, inr, refl, sym, ap, subst, ◌∙◌, arith}
use Rattle.std.specs.Prelude.{ℤ, IsSome, slice_get, slice_index, unwrap_or}
use Rattle.std.specs.FinMap as finite
use Rattle.std.proofs.lemmas.List.{get_or-take}
use Rattle.std.proofs.lemmas.Option.{same_Some}
use Rattle.lrp_model.specs.Texts.{Text}
use Rattle.lrp_model.specs.declared.tuples.Shape.{Shape}
use Rattle.lrp_store.specs.Stores.{InStore, IsStore, StoreView, tables_at}
use Rattle.lrp_store.specs.Tables.{AreNumbered}
use Rattle.lrp_store.proofs.Aligning.{head_in}
use Rattle.lrp_store.proofs.Held.{Table, zone_held}
use Rattle.lrp_tables.proofs.Passing.{nothing_at}
use Rattle.lrp_tables.specs.Columns.{head_texts, head_times}
use Rattle.lrp_parts.specs.Derivations.{HoldsIn, Levels}
use Rattle.lrp_keep.specs.States.{IsKeeping, levels_of}
use Rattle.lrp_keep.specs.Taken.{HasTakenSome}
use Rattle.lrp_keep.specs.declared.kept_query.KeptQuery.{KeptQuery}
use Rattle.lrp_keep.specs.declared.states.State.{State}
use Rattle.lrp_keep.proofs.Answering.{alike}
use Rattle.lrp_keep.specs.Unions.{HoldsAmong}
use Rattle.lrp_plan_laws.proofs.Elements.{found, within}

-- ---- tuples and cells

some_there : (o : Option (List Table)) (t : Table) → Contains (unwrap_or o []) t → IsSome o
some_there None t c = absurd (let l : c.0 < 0 = c.1 in omega (arith, l))
some_there (Some ts) t c = refl

-- the numbers of a tuple of a store are numbers of the domain
tuple_numbered : (domain : List Text) (s : StoreView) (xs : List ℤ) (ns : List ℕ) → AreNumbered domain s → InStore s xs ns → (i : ℕ) → i < s.shape.texts → slice_index ns i < length domain
tuple_numbered domain s xs ns numbered h i lt =
    let e : slice_index ns i ≡ slice_index h.cell.texts i = ap (λ l. slice_index l i) (sym h.named) ∙ get_or-take s.shape.texts h.cell.texts i 0 lt in
    subst (λ n. n < length domain) (sym e) (numbered h.cell i (some_there (finite.get s.tables h.cell) h.table h.held) lt)

-- a store has such numbers where its tuples have
numbered_by : (domain : List Text) (s : StoreView) → IsStore s → ((xs : List ℤ) (ns : List ℕ) → InStore s xs ns → (i : ℕ) → i < s.shape.texts → slice_index ns i < length domain) → AreNumbered domain s
numbered_by domain s valid each c i some lt = at (finite.get s.tables c) refl some
  where
    of_table : (t : Table) → Contains (tables_at s c) t → slice_index c.texts i < length domain
    of_table t held =
        let z = zone_held s valid c t held in
        let below : slice_index (take s.shape.texts c.texts) i < length domain = each z.some.member (take s.shape.texts c.texts) (record { cell = c; table = t; held = held; named = refl; inside = z.some.is }) i lt in
        subst (λ n. n < length domain) (get_or-take s.shape.texts c.texts i 0 lt) below

    at : (o : Option (List Table)) → finite.get s.tables c ≡ o → IsSome o → slice_index c.texts i < length domain
    at None e k = absurd (cc)
    at (Some []) e k = absurd ((valid.cells c [] e).some refl)
    at (Some (t ∷ ts)) e k = of_table t (subst (λ o. Contains (unwrap_or o []) t) (sym e) (head_in t ts (t ∷ ts) refl))

-- ---- the store of all answers

module _ (of : KeptQuery) (s : State) (is : IsKeeping of s) (start : StoreView) (valid : IsStore start) (empty : start.tables ≡ finite.empty) (times_are : start.shape.times ≡ length (head_times of.query.now.head.columns)) (texts_are : start.shape.texts ≡ length (head_texts of.query.now.head.columns)) (period_is : start.period ≡ s.period.number) where
  held_numbered : (i : ℕ) (levels : Levels) → slice_get (levels_of s) i ≡ Some levels → (keys : List ℕ) (store : StoreView) → HoldsIn levels (length levels - 1) keys (Some store) → AreNumbered of.domain store
  held_numbered i levels there keys store held =
      let d = found of.disjuncts.items i (let l : i < length (levels_of s) = within (levels_of s) i levels there in let n : length (levels_of s) ≡ length of.disjuncts.items = is.state.derived.count in omega (arith, l, n)) in
      let w = is.state.derived.each i d.0 levels d.1 there in
      let x = w.sound.each (length levels - 1) keys (Some store) held in
      let low : 0 < length d.0.atoms.items = (is.state.can i d.0 d.1).some in
      let size : length levels ≡ length d.0.atoms.items = w.sound.count in
      let own : length keys ≡ length levels - 1 + 1 = x.0 in
      let a = x.1.answers (omega (arith, low, size, own)) in
      let same : store ≡ a.2.made.store = same_Some store a.0 a.1 ∙ sym a.2.store in
      subst (λ v. AreNumbered of.domain v) (sym same) a.2.table.numbered

  pub all_numbered : (final : StoreView) → HasTakenSome (HoldsAmong (levels_of s) (length (levels_of s))) start final → AreNumbered of.domain final
  all_numbered final taken = numbered_by of.domain final taken.valid (λ xs ns h i lt. elim (taken.to xs ns h) [
    | inl was ↦ absurd (nothing_at start empty was.cell was.table was.held)
    | inr x ↦
        let shape : start.shape ≡ x.store.shape = ((alike of s is start valid empty times_are texts_are period_is start valid refl refl x.is.0 x.is.1 x.is.3).each x.keys x.store x.is.4).shape in
        tuple_numbered of.domain x.store xs ns (held_numbered x.is.0 x.is.1 x.is.3 x.keys x.store x.is.4) x.inside i (subst (λ (h : Shape). i < h.texts) (taken.shape ∙ shape) lt)
  ])
