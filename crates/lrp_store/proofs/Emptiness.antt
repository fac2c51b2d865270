-- A store without cells holds nothing, and one with a cell holds something.
use Rattle.std.proofs.Common.{◌≡◌, ℕ, List, [], length, ◌⊎◌, inl, inr, refl, sym, ap, subst, ◌∙◌, Contains, take, unwrap_or}
use Rattle.std.specs.Prelude.{ℤ, IsTrue, ◌↔◌, nat_eq}
use Rattle.std.specs.FinMap.{entries, keys, len, len-entries, empty_of_len}
use Rattle.std.proofs.lemmas.Bool.{eqb-true, eq-eqb, cases_eq}
use Rattle.std.proofs.lemmas.List.{length-map}
use Rattle.lrp_model.specs.declared.tuples.Cell.{Cell}
use Rattle.lrp_store.specs.Stores.{StoreView, IsStore, InStore, tables_at}
use Rattle.lrp_store.proofs.Held.{zone_held}
use Rattle.lrp_store.proofs.Counted.{key_held, first_of}
use Rattle.lrp_store.proofs.Aligning.{nothing_held}

module _ (s : StoreView) (is : IsStore s) where
  -- a store with a cell has a key
  some_key : (len s.tables ≡ 0 → ⊥) → (c : Cell) × Contains (keys s.tables) c
  some_key some = first_of (keys s.tables) (λ e. some (len-entries s.tables ∙ sym (length-map (entries s.tables) (λ p. p.0)) ∙ ap length e))

  -- a store with a cell holds a tuple
  pub something_held : (len s.tables ≡ 0 → ⊥) → ((xs : List ℤ) (ns : List ℕ) → InStore s xs ns → ⊥) → ⊥
  something_held some none =
      let c = some_key some in
      let list = key_held s is (InStore s) 0 c.0 c.1 in
      let t = first_of list.0 (is.cells c.0 list.0 list.1).some in
      let held : Contains (tables_at s c.0) t.0 = subst (λ l. Contains l t.0) (sym (ap (λ o. unwrap_or o []) list.1)) t.1 in
      let m = (zone_held s is c.0 t.0 held).some in
      none m.member (take s.shape.texts c.0.texts) (record { cell = c.0; table = t.0; held = held; named = refl; inside = m.is })

  -- the number of cells is 0 exactly where nothing is held
  pub empty_where : (n : ℕ) → n ≡ len s.tables → IsTrue (nat_eq n 0) ↔ ((xs : List ℤ) (ns : List ℕ) → InStore s xs ns → ⊥)
  empty_where n e = (
    λ none xs ns h. nothing_held s (empty_of_len s.tables (sym e ∙ eqb-true n 0 none)) xs ns h,
    λ none. by_number none (cases_eq n 0),
  )
    where
      by_number : ((xs : List ℤ) (ns : List ℕ) → InStore s xs ns → ⊥) → (n ≡ 0) ⊎ (n ≡ 0 → ⊥) → IsTrue (nat_eq n 0)
      by_number none (inl zero) = eq-eqb n 0 zero
      by_number none (inr some) = absurd (something_held (λ z. some (e ∙ z)) none)
