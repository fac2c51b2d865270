-- A store holds as many cells as its tuples inhabit.
use Rattle.std.proofs.Common.{◌≡◌, ◌≢◌, ◌↔◌, ℕ, ◌+◌, ◌<◌, ◌≤◌, inl, inr, List, [], ◌++◌, length, take, drop, Contains, unwrap_or, sym, ap, subst, ◌∙◌, arith}
use Rattle.std.specs.Prelude.{ℤ, AllPairs}
use Rattle.std.specs.FinMap as finite
use Rattle.std.specs.FinMap.{len-entries}
use Rattle.std.proofs.lemmas.Bool.{cases_lt}
use Rattle.std.proofs.lemmas.List.{length-map, length-take-le, take-append-drop}
use Rattle.lrp_model.specs.Texts.{Text, Ascends}
use Rattle.lrp_model.specs.declared.tuples.Cell.{Cell}
use Rattle.lrp_store.specs.Stores.{StoreView, IsStore, InStore, IsInhabitedCell}
use Rattle.lrp_store.specs.Growing.{InhabitsMany}
use Rattle.lrp_store.specs.Tables.{AreNumbered}
use Rattle.lrp_tables.specs.declared.table.Table.{Table}
use Rattle.lrp_store.proofs.Counted.{held_inhabited, first_of, key_held, not_many}
use Rattle.lrp_tables.specs.Caps.{InhabitsMoreThan}
use Rattle.lrp_tables.specs.Tables.{HasAssignment}
use Rattle.lrp_tables.proofs.CellsNamed.{many_named, many_placed}
use Rattle.lrp_tables.proofs.Named.{pairs_left, pairs_right}
use Rattle.lrp_tables.proofs.TableMade.{tuples_of}
use Rattle.lrp_tables.proofs.Mapped.{many_map}
use Rattle.lrp_store.proofs.ZoneCounts.{keys_differ}
use Rattle.lrp_plan_laws.proofs.Members.{all_by, in_left}

module _ (s : StoreView) (is : IsStore s) where
  keys_counted : length (finite.keys s.tables) ≡ finite.len s.tables
  keys_counted = length-map (finite.entries s.tables) _ ∙ sym (len-entries s.tables)

  key_inhabited : (c : Cell) → Contains (finite.keys s.tables) c → IsInhabitedCell s.shape s.period (InStore s) c
  key_inhabited c k =
      let held = key_held s is (InStore s) 0 c k in
      let table = first_of held.0 (is.cells c held.0 held.1).some in
      held_inhabited s is (InStore s) (λ xs ns h. h) c table.0 (subst (λ l. Contains l table.0) (sym (ap (λ o. unwrap_or o []) held.1)) table.1)

  first_keys : (n : ℕ) → take n (finite.keys s.tables) ++ drop n (finite.keys s.tables) ≡ finite.keys s.tables
  first_keys n = take-append-drop n (finite.keys s.tables)

  -- more cells than cap are inhabited exactly where more are held
  pub held_cells : (cap : ℕ) → InhabitsMany s.shape s.period (InStore s) cap ↔ (cap < finite.len s.tables)
  held_cells cap = (
    (λ m. elim (cases_lt cap (finite.len s.tables)) [
      | inl more ↦ more
      | inr few ↦ absurd (not_many s is (InStore s) cap (record { each = λ xs ns h. h }) few m)
    ]),
    λ more. record {
      cells = take (cap + 1) (finite.keys s.tables);
      count = length-take-le (cap + 1) (finite.keys s.tables) (let n = keys_counted in omega (arith, n));
      apart = pairs_left ◌≢◌ (take (cap + 1) (finite.keys s.tables)) (drop (cap + 1) (finite.keys s.tables)) (subst (AllPairs ◌≢◌) (sym (first_keys (cap + 1))) (keys_differ s));
      each = all_by (IsInhabitedCell s.shape s.period (InStore s)) (take (cap + 1) (finite.keys s.tables))
          (λ c k. key_inhabited c (subst (λ l. Contains l c) (first_keys (cap + 1)) (in_left (take (cap + 1) (finite.keys s.tables)) (drop (cap + 1) (finite.keys s.tables)) c k)));
    },
  )

-- a store of the same shape and period that holds the tuples of another has no fewer cells
pub no_fewer : (a b : StoreView) → IsStore a → IsStore b → b.shape ≡ a.shape → b.period ≡ a.period → ((xs : List ℤ) (ns : List ℕ) → InStore a xs ns → InStore b xs ns) → finite.len a.tables ≤ finite.len b.tables
no_fewer a b is_a is_b shape period to = elim (cases_lt (finite.len b.tables) (finite.len a.tables)) [
  | inl more ↦ absurd (let l : finite.len b.tables < finite.len b.tables = (held_cells b is_b (finite.len b.tables)).0 (moved ((held_cells a is_a (finite.len b.tables)).1 more)) in omega (arith, l))
  | inr le ↦ le
]
  where
    moved : InhabitsMany a.shape a.period (InStore a) (finite.len b.tables) → InhabitsMany b.shape b.period (InStore b) (finite.len b.tables)
    moved m =
        subst (λ sh. InhabitsMany sh b.period (InStore b) (finite.len b.tables)) (sym shape)
        (subst (λ k. InhabitsMany a.shape k (InStore b) (finite.len b.tables)) (sym period)
        (many_map (λ c. c) ◌≢◌ ◌≢◌ (IsInhabitedCell a.shape a.period (InStore a)) (IsInhabitedCell a.shape a.period (InStore b)) (λ c h. record { proper = h.proper; times = h.times; texts = h.texts; is = to h.times h.texts h.is; inside = h.inside }) (λ c d h k n. n) (finite.len b.tables) m))

-- the assignments of a table inhabit as many cells as its store holds
pub table_cells : (domain : List Text) → Ascends domain → (table : Table) → IsStore table.store → AreNumbered domain table.store → (cap : ℕ)
    → InhabitsMoreThan cap domain table.store.period table.vars.times table.vars.texts (HasAssignment table domain) ↔ (cap < finite.len table.store.tables)
table_cells domain ascends table is numbered cap =
    let held = held_cells table.store is cap in
    let times_differ : AllPairs ◌≢◌ table.vars.times = pairs_left ◌≢◌ table.vars.times table.vars.texts table.names_differ in
    let texts_differ : AllPairs ◌≢◌ table.vars.texts = pairs_right ◌≢◌ table.vars.times table.vars.texts table.names_differ in
    let are = tuples_of domain table is numbered in (
      (λ m. held.0 (many_placed domain ascends table.vars.times table.vars.texts times_differ texts_differ table.store.period is.period_low table.store.shape (sym table.times_named) (sym table.texts_named) is.times is.texts (InStore table.store) (HasAssignment table domain) are cap m)),
      λ l. many_named domain ascends table.vars.times table.vars.texts times_differ texts_differ table.store.period is.period_low table.store.shape (sym table.times_named) (sym table.texts_named) is.times is.texts (InStore table.store) (HasAssignment table domain) are cap (held.1 l),
    )
