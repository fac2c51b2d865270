-- A store of tuples as a table: it has the assignments whose tuples the store holds.
use Rattle.std.proofs.Common.{◌≡◌, ℕ, ◌<◌, ◌≤◌, List, [], length, map, Option, Some, None, IsSome, unwrap_or, refl, sym, ap, subst, ◌∙◌, arith, Contains}
use Rattle.std.specs.Prelude.{ℤ, All, get_or, true, false}
use Rattle.std.specs.FinMap as finite
use Rattle.std.proofs.lemmas.List.{length-take-le, get_or-take, get_or_default}
use Rattle.lrp_model.specs.Texts.{Text, Identifier}
use Rattle.lrp_model.specs.Satisfaction.{Assignment}
use Rattle.lrp_store.specs.Stores.{StoreView, IsStore, InStore, HoldsJust, IsInhabitedCell}
use Rattle.lrp_store.specs.Tables.{AreTexts, AreNumbered}
use Rattle.lrp_tables.specs.declared.table.Table.{Table}
use Rattle.lrp_store.proofs.Held.{Table as Bounds, held_of, cell_held}
use Rattle.lrp_store.proofs.Counted.{lies_in, held_inhabited, first_of}
use Rattle.lrp_tables.specs.Tables.{HasAssignment, IsTableOf}
use Rattle.lrp_tables.proofs.CellsNamed.{Tuples, AreTuplesOf}

module _ (s : StoreView) (is : IsStore s) where
  -- as many times as the store has columns of times
  pub held_times : (xs : List ℤ) (ns : List ℕ) → InStore s xs ns → length xs ≡ s.shape.times
  held_times xs ns h = (lies_in s is xs ns h).count

  -- and as many texts as it has columns of texts
  pub held_texts : (xs : List ℤ) (ns : List ℕ) → InStore s xs ns → length ns ≡ s.shape.texts
  held_texts xs ns h =
      let size : length h.cell.texts ≡ 8 = (cell_held s is h.cell h.table h.held).texts.size in
      let few : s.shape.texts ≤ 8 = is.texts in
      ap length (sym h.named) ∙ length-take-le s.shape.texts h.cell.texts (omega arith)

  -- numbers of texts in a store are those in its cells
  pub held_known : (domain : List Text) → AreNumbered domain s → (xs : List ℤ) (ns : List ℕ) → InStore s xs ns → All (λ n. n < length domain) ns
  held_known domain numbered xs ns h i d low =
      let n : length ns ≡ s.shape.texts = held_texts xs ns h in
      let e : get_or ns i d ≡ get_or h.cell.texts i 0 = get_or_default ns i d 0 low ∙ ap (λ l. get_or l i 0) (sym h.named) ∙ get_or-take s.shape.texts h.cell.texts i 0 (omega arith) in
      subst (λ k. k < length domain) (sym e) (numbered h.cell i (subst (λ o. IsSome o) (sym (held_of s.tables h.cell h.table h.held)) refl) (omega arith))

  -- and the other way about
  pub numbered_by : (domain : List Text) → ((xs : List ℤ) (ns : List ℕ) → InStore s xs ns → All (λ n. n < length domain) ns) → AreNumbered domain s
  numbered_by domain known cell i held low = by_lookup (finite.get s.tables cell) refl held
    where
      by_lookup : (o : Option (List Bounds)) → finite.get s.tables cell ≡ o → IsSome o → get_or cell.texts i 0 < length domain
      by_lookup None e some = absurd (nothing some)
        where
          nothing : false ≡ true → ⊥
          nothing h = cc
      by_lookup (Some list) e some =
          let first = first_of list (is.cells cell list e).some in
          let c : IsInhabitedCell s.shape s.period (InStore s) cell = held_inhabited s is (InStore s) (λ xs ns h. h) cell first.0 (subst (λ l. Contains l first.0) (sym (ap (λ o. unwrap_or o []) e)) first.1) in
          let n : length c.texts ≡ s.shape.texts = held_texts c.times c.texts c.is in
          subst (λ k. k < length domain) (ap (λ l. get_or l i 0) (sym c.inside.named) ∙ get_or-take s.shape.texts cell.texts i 0 low) (known c.times c.texts c.is i 0 (omega arith))

-- the tuples of a table's store are those of the assignments that it has
pub tuples_of : (domain : List Text) (table : Table) → IsStore table.store → AreNumbered domain table.store → AreTuplesOf domain table.vars.times table.vars.texts (InStore table.store) (HasAssignment table domain)
tuples_of domain table is numbered = record {
  to = λ env ns texts h. (ns, texts, h);
  from = λ env h. h;
  times_count = λ xs ns h. held_times table.store is xs ns h ∙ sym table.times_named;
  texts_count = λ xs ns h. held_texts table.store is xs ns h ∙ sym table.texts_named;
  known = held_known table.store is domain numbered;
}

-- a table whose store holds just the tuples of a set of assignments is a table of it
pub table_of : (domain : List Text) (times texts : List Identifier) (period : ℕ) (tuples : Tuples) (set : Assignment → Type 0) (made : Table) → made.vars.times ≡ times → made.vars.texts ≡ texts → made.store.period ≡ period → IsStore made.store → HoldsJust tuples made.store
    → AreTuplesOf domain times texts tuples set → IsTableOf domain times texts period set made
table_of domain times texts period tuples set made times_are texts_are period_is is just are = record {
  times_are = times_are;
  texts_are = texts_are;
  period_is = period_is;
  sound = λ env h. are.to env h.0 (subst (λ vs. AreTexts domain h.0 (map env.texts vs)) texts_are h.1) (subst (λ vs. tuples (map env.times vs) h.0) times_are (just.sound (map env.times made.vars.times) h.0 h.2));
  whole = λ env m. let f = are.from env m in (
    f.0,
    subst (λ vs. AreTexts domain f.0 (map env.texts vs)) (sym texts_are) f.1,
    subst (λ vs. InStore made.store (map env.times vs) f.0) (sym times_are) (just.whole (map env.times times) f.0 f.2),
  );
  numbered = numbered_by made.store is domain (λ xs ns h. are.known xs ns (just.sound xs ns h));
}
