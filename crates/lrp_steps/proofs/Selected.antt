-- The tuples of a table that pass a test.
use Rattle.std.proofs.Common.{◌≡◌, ◌≢◌, ℕ, ◌+◌, ◌<◌, ◌≤◌, ◌^◌, ◌-◌, inr, Bool, true, false, List, length, map, refl, sym, ap, subst, ◌∙◌, arith}
use Rattle.std.specs.Prelude.{ℤ, pos, nat_abs, ◌≤ℤ◌, All, AllPairs, ◌==◌, if◌then◌else◌}
use Rattle.lrp_theory.specs.Divides.{Divides}
use Rattle.lrp_model.specs.Texts.{Text, Identifier, Ascends}
use Rattle.lrp_model.specs.Reach.{test_reach}
use Rattle.lrp_model.specs.declared.formulas.Test.{Test}
use Rattle.lrp_model.specs.declared.tuples.Shape.{Shape}
use Rattle.lrp_store.specs.Stores.{StoreView, IsStore, HasReach}
use Rattle.lrp_store.specs.Growing.{IsAdded, IsRefused}
use Rattle.lrp_tables.specs.declared.table.Table.{Table}
use Rattle.lrp_store.proofs.Grown.{Set}
use Rattle.lrp_systems.specs.Parts.{Fits, system_reach}
use Rattle.lrp_tables.specs.Calls.{CanBeCarried, test_period}
use Rattle.lrp_tables.specs.Caps.{InhabitsMoreThan}
use Rattle.lrp_tables.specs.Columns.{ArePlacesOf}
use Rattle.lrp_tables.specs.Tables.{IsSelected, IsTableOf}
use Rattle.lrp_tables.proofs.CellsNamed.{AreTuplesOf}
use Rattle.lrp_tables.proofs.Named.{pairs_left, pairs_right}
use Rattle.lrp_tables.proofs.TableLaws.{table_texts}
use Rattle.lrp_tables.specs.declared.names.Places.{Places}
use Rattle.lrp_steps.specs.declared.pattern.Pattern.{Pattern}
use Rattle.lrp_steps.specs.Conditions.{condition_reach, IsWithTest, HasNoTest}
use Rattle.lrp_steps.specs.Patterns.{parts_of, IsOver}
use Rattle.lrp_steps.specs.Gathered.{IsFound, CanStandIn, HasBrought}
use Rattle.lrp_steps.proofs.Conditioned.{condition_within}
use Rattle.lrp_steps.proofs.Parts.{added_nothing}
use Rattle.lrp_steps.proofs.Steps.{at_has, has_at, can_stand, over_tuples, free, free_reach, free_suits, step_table, step_few, step_many, step_reach, brought_by, empty_store, divides_abs}

-- no part does not fit
none_fit : (n k : ℕ) (pattern : Pattern) → pattern ≡ free → All (Fits n k) (parts_of pattern)
none_fit n k pattern e = subst (λ (p : Pattern). All (Fits n k) (parts_of p)) (sym e) (λ i d h. absurd (omega arith))

-- a table has few columns
pub table_few_times : (table : Table) → IsStore table.store → length table.vars.times ≤ 8
table_few_times table is = let e : length table.vars.times ≡ table.store.shape.times = table.times_named in let l : table.store.shape.times ≤ 8 = is.times in omega arith

pub table_few_texts : (table : Table) → IsStore table.store → length table.vars.texts ≤ 8
table_few_texts table is = let e : length table.vars.texts ≡ table.store.shape.texts = table.texts_named in let l : table.store.shape.texts ≤ 8 = is.texts in omega arith

module _ (domain : List Text) (ascends : Ascends domain) (table : Table) (is : IsStore table.store) (test : Test) (period : ℤ) (one : pos 1 ≤ℤ period) (can : CanBeCarried table.vars.times table.vars.texts period test) (room : test_reach test + nat_abs period ≤ 2 ^ 62) (old : Pattern) (none : old ≡ free) (size : ℕ) (es : size ≡ length domain) (low : 0 < nat_abs period) (cap : ℕ)
    (start : StoreView) (fresh : start ≡ empty_store table.vars.times table.vars.texts (nat_abs period)) where
  abbrev times : List Identifier
  times = table.vars.times

  abbrev texts : List Identifier
  texts = table.vars.texts

  abbrev k : ℕ
  k = nat_abs period

  abbrev shape : Shape
  shape = record { times = length times; texts = length texts }

  differ_times : AllPairs ◌≢◌ times
  differ_times = pairs_left ◌≢◌ times texts table.names_differ

  differ_texts : AllPairs ◌≢◌ texts
  differ_texts = pairs_right ◌≢◌ times texts table.names_differ

  few_times : length times ≤ 8
  few_times = table_few_times table is

  few_texts : length texts ≤ 8
  few_texts = table_few_texts table is

  start_shape : start.shape ≡ shape
  start_shape = ap (λ (s : StoreView). s.shape) fresh

  start_period : start.period ≡ k
  start_period = ap (λ (s : StoreView). s.period) fresh

  -- nothing passes
  module _ (no : HasNoTest domain times texts test old) (valid : IsStore start) where
    abbrev Nothing : Set
    Nothing xs ns = ⊥

    are_none : AreTuplesOf domain times texts (IsOver shape size Nothing) (IsSelected domain table test)
    are_none = over_tuples domain times texts shape size es refl refl Nothing (IsSelected domain table test) (λ env ns a h. absurd h) (λ env m. table_texts domain table env m.has) (λ env m ns a. no.none env ns a (free_suits old none (map env.times times) ns) m.passes)

    nothing : (high : ℕ) → IsAdded (IsOver shape size Nothing) cap high start start
    nothing high = added_nothing cap high (IsOver shape size Nothing) start valid (λ xs ns h. h.is)

    pub none_table : (made : Table) → made.vars.times ≡ times → made.vars.texts ≡ texts → made.store ≡ start → IsTableOf domain times texts k (IsSelected domain table test) made
    none_table = step_table domain ascends times texts differ_times differ_texts few_times few_texts k low (IsOver shape size Nothing) (IsSelected domain table test) are_none cap start start fresh 0 (nothing 0)

    pub none_few : InhabitsMoreThan cap domain k times texts (IsSelected domain table test) → ⊥
    none_few = step_few domain ascends times texts differ_times differ_texts few_times few_texts k low (IsOver shape size Nothing) (IsSelected domain table test) are_none cap start start fresh 0 (nothing 0)

    pub none_reach : (high : ℕ) → HasReach start high
    none_reach high = step_reach domain ascends times texts differ_times differ_texts few_times few_texts k low (IsOver shape size Nothing) (IsSelected domain table test) are_none cap start start fresh high (nothing high)

  -- something may pass
  module _ (pattern : Pattern) (w : IsWithTest domain times texts test old pattern) (places : Places) (t : ArePlacesOf times times places.times) (x : ArePlacesOf texts texts places.texts) (divides : Divides (pos table.store.period) period) (high_reach : HasReach table.store (2 ^ 62 - k)) where
    abbrev Passing : Set
    Passing = IsFound table.store places pattern

    are : AreTuplesOf domain times texts (IsOver shape size Passing) (IsSelected domain table test)
    are = over_tuples domain times texts shape size es refl refl Passing (IsSelected domain table test)
        (λ env ns a h. record { has = at_has domain ascends table.store times texts times texts places t x env ns a h.held; passes = (w.to env ns a h.suits).1 })
        (λ env m. table_texts domain table env m.has)
        (λ env m ns a. record { held = has_at domain ascends table.store times texts times texts places t x env ns a m.has; suits = w.from env ns a (free_suits old none (map env.times times) ns) m.passes })

    pub select_stands : CanStandIn places table.store start
    select_stands = can_stand domain ascends table.store times texts times texts places t x start is table.times_named table.texts_named differ_times (ap (λ (q : Shape). q.times) start_shape) (ap (λ (q : Shape). q.texts) start_shape)
        (subst (λ n. Divides (pos table.store.period) (pos n)) (sym start_period) (divides_abs period (pos table.store.period) one divides)) (λ n. subst (λ m. HasReach table.store (2 ^ 62 - m)) (sym start_period) high_reach)

    pub select_fits : All (Fits start.shape.times start.period) (parts_of pattern)
    select_fits = subst (λ (q : Shape). All (Fits q.times start.period) (parts_of pattern)) (sym start_shape) (subst (λ n. All (Fits (length times) n) (parts_of pattern)) (sym start_period) (w.fits k (divides_abs period (test_period test) one can.divides) (inr (let c = condition_within test in omega (arith, c, room))) (none_fit (length times) k old none)))

    within : (high : ℕ) → test_reach test ≤ high → system_reach k (parts_of pattern) ≤ high + k
    within high h = w.reach k (high + k) (by (nat_abs (test_period test) == k)) (free_reach old none k (high + k))
      where
        by : (b : Bool) → (if b then condition_reach test else condition_reach test + (k - 1)) ≤ high + k
        by true = let c = condition_within test in omega (arith, c, h)
        by false = let c = condition_within test in omega (arith, c, h)

    wide : (high : ℕ) → HasReach table.store high → HasBrought table.store start.period (high + k)
    wide high r = subst (λ n. HasBrought table.store n (high + k)) (sym start_period) (brought_by table.store k high r)

    own : (high : ℕ) → test_reach test ≤ high → system_reach start.period (parts_of pattern) ≤ high + k
    own high h = subst (λ n. system_reach n (parts_of pattern) ≤ high + k) (sym start_period) (within high h)

    fits_room : test_reach test ≤ 2 ^ 62 - k
    fits_room = omega arith

    module _ (out : StoreView) (ok : (high : ℕ) → HasBrought table.store start.period high → system_reach start.period (parts_of pattern) ≤ high → IsAdded (IsOver start.shape size Passing) cap high start out) where
      added : (high : ℕ) → HasReach table.store high → test_reach test ≤ high → IsAdded (IsOver shape size Passing) cap (high + k) start out
      added high r h = subst (λ (q : Shape). IsAdded (IsOver q size Passing) cap (high + k) start out) start_shape (ok (high + k) (wide high r) (own high h))

      all : IsAdded (IsOver shape size Passing) cap ((2 ^ 62 - k) + k) start out
      all = added (2 ^ 62 - k) high_reach fits_room

      pub select_table : (made : Table) → made.vars.times ≡ times → made.vars.texts ≡ texts → made.store ≡ out → IsTableOf domain times texts k (IsSelected domain table test) made
      select_table = step_table domain ascends times texts differ_times differ_texts few_times few_texts k low (IsOver shape size Passing) (IsSelected domain table test) are cap start out fresh ((2 ^ 62 - k) + k) all

      pub select_few : InhabitsMoreThan cap domain k times texts (IsSelected domain table test) → ⊥
      select_few = step_few domain ascends times texts differ_times differ_texts few_times few_texts k low (IsOver shape size Passing) (IsSelected domain table test) are cap start out fresh ((2 ^ 62 - k) + k) all

      pub select_reach : (high : ℕ) → HasReach table.store high → test_reach test ≤ high → HasReach out (high + k)
      select_reach high r h = step_reach domain ascends times texts differ_times differ_texts few_times few_texts k low (IsOver shape size Passing) (IsSelected domain table test) are cap start out fresh (high + k) (added high r h)

      pub select_shape : out.shape ≡ shape
      select_shape = all.grown.shape ∙ start_shape

    pub select_many : (out : StoreView) → ((high : ℕ) → HasBrought table.store start.period high → system_reach start.period (parts_of pattern) ≤ high → IsRefused (IsOver start.shape size Passing) cap high start out) → InhabitsMoreThan cap domain k times texts (IsSelected domain table test)
    select_many out refused = step_many domain ascends times texts differ_times differ_texts few_times few_texts k low (IsOver shape size Passing) (IsSelected domain table test) are cap start out fresh ((2 ^ 62 - k) + k)
        (subst (λ (q : Shape). IsRefused (IsOver q size Passing) cap ((2 ^ 62 - k) + k) start out) start_shape (refused ((2 ^ 62 - k) + k) (wide (2 ^ 62 - k) high_reach) (own (2 ^ 62 - k) fits_room)))
