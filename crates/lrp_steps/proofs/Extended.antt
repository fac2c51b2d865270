-- The tuples of a table over the columns of a head.
use Rattle.std.proofs.Common.{◌≡◌, ◌≢◌, ℕ, ◌≤◌, ◌^◌, List, length, refl, sym, ap, subst}
use Rattle.std.specs.Prelude.{pos}
use Rattle.std.specs.FinMap as finite
use Rattle.lrp_theory.specs.Divides.{Divides}
use Rattle.lrp_theory.proofs.Modulo.{Divides-self}
use Rattle.lrp_model.specs.Texts.{Text, Ascends}
use Rattle.lrp_model.specs.declared.tuples.Shape.{Shape}
use Rattle.lrp_model.specs.declared.relations.Column.{Column}
use Rattle.lrp_store.specs.Stores.{StoreView, IsStore, HasReach}
use Rattle.lrp_store.specs.Growing.{IsAdded, IsRefused}
use Rattle.lrp_tables.specs.declared.table.Table.{Table}
use Rattle.lrp_store.proofs.Grown.{Set}
use Rattle.lrp_systems.specs.Parts.{system_reach}
use Rattle.lrp_tables.specs.Steps.{CanExtend}
use Rattle.lrp_tables.specs.Caps.{InhabitsMoreThan}
use Rattle.lrp_tables.specs.Columns.{ArePlacesOf, head_times, head_texts}
use Rattle.lrp_tables.specs.Tables.{IsExtended, IsTableOf}
use Rattle.lrp_tables.proofs.CellsNamed.{AreTuplesOf}
use Rattle.lrp_tables.proofs.HeadNames.{head_times_differ, head_texts_differ}
use Rattle.lrp_tables.proofs.Named.{pairs_left}
use Rattle.lrp_tables.proofs.Pieced.{any_reach}
use Rattle.lrp_tables.specs.declared.names.Places.{Places}
use Rattle.lrp_steps.specs.declared.pattern.Pattern.{Pattern}
use Rattle.lrp_steps.specs.Patterns.{parts_of, IsOver}
use Rattle.lrp_steps.specs.Gathered.{IsFound, CanStandIn, HasBrought}
use Rattle.lrp_steps.proofs.Steps.{at_has, has_at, can_stand, over_tuples, has_texts, free, free_reach, free_suits, step_table, step_few, step_many, step_reach, step_times, step_texts, brought_same}

module _ (domain : List Text) (ascends : Ascends domain) (columns : List Column) (table : Table) (is : IsStore table.store) (call : CanExtend domain columns table) (places : Places)
    (t : ArePlacesOf table.vars.times (head_times columns) places.times) (x : ArePlacesOf table.vars.texts (head_texts columns) places.texts) (pattern : Pattern) (none : pattern ≡ free) (size : ℕ) (es : size ≡ length domain) (cap : ℕ) (start out : StoreView)
    (fresh : start ≡ record { shape = record { times = length (head_times columns); texts = length (head_texts columns) }; period = table.store.period; tables = finite.empty; spare = 0 }) where
  -- the tuples that are added
  abbrev pub Extended : Set
  Extended = IsOver (record { times = length (head_times columns); texts = length (head_texts columns) }) size (IsFound table.store places pattern)

  are : AreTuplesOf domain (head_times columns) (head_texts columns) Extended (IsExtended domain columns table)
  are = over_tuples domain (head_times columns) (head_texts columns) (record { times = length (head_times columns); texts = length (head_texts columns) }) size es refl refl (IsFound table.store places pattern) (IsExtended domain columns table)
      (λ env ns a h. record { known = has_texts domain (head_texts columns) env ns a; has = at_has domain ascends table.store table.vars.times table.vars.texts (head_times columns) (head_texts columns) places t x env ns a h.held })
      (λ env m. m.known)
      (λ env m ns a. record { held = has_at domain ascends table.store table.vars.times table.vars.texts (head_times columns) (head_texts columns) places t x env ns a m.has; suits = free_suits pattern none _ ns })

  same_period : start.period ≡ table.store.period
  same_period = ap (λ (s : StoreView). s.period) fresh

  -- the table's columns can stand among those of the head
  pub extend_stands : CanStandIn places table.store start
  extend_stands = can_stand domain ascends table.store table.vars.times table.vars.texts (head_times columns) (head_texts columns) places t x start is table.times_named table.texts_named (pairs_left ◌≢◌ table.vars.times table.vars.texts table.names_differ)
      (ap (λ (s : StoreView). s.shape.times) fresh) (ap (λ (s : StoreView). s.shape.texts) fresh) (subst (λ k. Divides (pos table.store.period) (pos k)) (sym same_period) (Divides-self (pos table.store.period))) (λ n. absurd (n (sym same_period)))

  of_start : (set : Set) → (high : ℕ) → IsAdded (IsOver start.shape size set) cap high start out → IsAdded (IsOver (record { times = length (head_times columns); texts = length (head_texts columns) }) size set) cap high start out
  of_start set high a = subst (λ (q : Shape). IsAdded (IsOver q size set) cap high start out) (ap (λ (s : StoreView). s.shape) fresh) a

  module _ (ok : (high : ℕ) → HasBrought table.store start.period high → system_reach start.period (parts_of pattern) ≤ high → IsAdded (IsOver start.shape size (IsFound table.store places pattern)) cap high start out) where
    added : (high : ℕ) → HasReach table.store high → IsAdded Extended cap high start out
    added high r = of_start (IsFound table.store places pattern) high (ok high (brought_same table.store start.period high (sym same_period) r) (free_reach pattern none start.period high))

    all : IsAdded Extended cap (2 ^ 62) start out
    all = added (2 ^ 62) (any_reach table.store is)

    pub extend_table : (made : Table) → made.vars.times ≡ head_times columns → made.vars.texts ≡ head_texts columns → made.store ≡ out → IsTableOf domain (head_times columns) (head_texts columns) table.store.period (IsExtended domain columns table) made
    extend_table = step_table domain ascends (head_times columns) (head_texts columns) (head_times_differ columns call.names) (head_texts_differ columns call.names) call.few_times call.few_texts table.store.period is.period_low Extended (IsExtended domain columns table) are cap start out fresh (2 ^ 62) all

    pub extend_few : InhabitsMoreThan cap domain table.store.period (head_times columns) (head_texts columns) (IsExtended domain columns table) → ⊥
    extend_few = step_few domain ascends (head_times columns) (head_texts columns) (head_times_differ columns call.names) (head_texts_differ columns call.names) call.few_times call.few_texts table.store.period is.period_low Extended (IsExtended domain columns table) are cap start out fresh (2 ^ 62) all

    pub extend_reach : (high : ℕ) → HasReach table.store high → HasReach out high
    extend_reach high r = step_reach domain ascends (head_times columns) (head_texts columns) (head_times_differ columns call.names) (head_texts_differ columns call.names) call.few_times call.few_texts table.store.period is.period_low Extended (IsExtended domain columns table) are cap start out fresh high (added high r)

    pub extend_times : length (head_times columns) ≡ out.shape.times
    extend_times = step_times domain ascends (head_times columns) (head_texts columns) (head_times_differ columns call.names) (head_texts_differ columns call.names) call.few_times call.few_texts table.store.period is.period_low Extended (IsExtended domain columns table) are cap start out fresh (2 ^ 62) all

    pub extend_texts : length (head_texts columns) ≡ out.shape.texts
    extend_texts = step_texts domain ascends (head_times columns) (head_texts columns) (head_times_differ columns call.names) (head_texts_differ columns call.names) call.few_times call.few_texts table.store.period is.period_low Extended (IsExtended domain columns table) are cap start out fresh (2 ^ 62) all

  pub extend_many : ((high : ℕ) → HasBrought table.store start.period high → system_reach start.period (parts_of pattern) ≤ high → IsRefused (IsOver start.shape size (IsFound table.store places pattern)) cap high start out) → InhabitsMoreThan cap domain table.store.period (head_times columns) (head_texts columns) (IsExtended domain columns table)
  extend_many refused = step_many domain ascends (head_times columns) (head_texts columns) (head_times_differ columns call.names) (head_texts_differ columns call.names) call.few_times call.few_texts table.store.period is.period_low Extended (IsExtended domain columns table) are cap start out fresh (2 ^ 62)
      (subst (λ (q : Shape). IsRefused (IsOver q size (IsFound table.store places pattern)) cap (2 ^ 62) start out) (ap (λ (s : StoreView). s.shape) fresh) (refused (2 ^ 62) (brought_same table.store start.period (2 ^ 62) (sym same_period) (any_reach table.store is)) (free_reach pattern none start.period (2 ^ 62))))
