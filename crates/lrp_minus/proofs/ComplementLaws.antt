-- What a store has not, as the assignments that its table has not.
use Rattle.std.proofs.Common.{◌≡◌, ℕ, ◌<◌, List, length, map, sym, ap, subst, ◌∙◌, arith}
use Rattle.std.specs.Prelude.{All}
use Rattle.std.specs.FinMap as finite
use Rattle.lrp_model.specs.Texts.{Text, Ascends}
use Rattle.lrp_model.specs.declared.tuples.Shape.{Shape}
use Rattle.lrp_store.specs.Stores.{StoreView, IsStore, InStore, HasReach}
use Rattle.lrp_store.specs.Growing.{IsAdded, IsRefused}
use Rattle.lrp_store.proofs.Held.{new_store}
use Rattle.lrp_tables.specs.declared.table.Table.{Table}
use Rattle.lrp_tables.specs.Caps.{InhabitsMoreThan}
use Rattle.lrp_tables.specs.Tables.{HasAssignment, HasTexts, IsComplement, IsTableOf}
use Rattle.lrp_tables.proofs.CellsNamed.{AreTuplesOf}
use Rattle.lrp_tables.proofs.Filled.{IsStart, step_table, step_few, step_many, reach_held}
use Rattle.lrp_tables.proofs.Numbers.{domain_differs, numbers_are}
use Rattle.lrp_tables.proofs.Wider.{IsAny, any_tuples, same_tuples, tested_tuples}
use Rattle.lrp_minus.specs.Absences.{IsAbsent}

-- a store without cells of the shape and period of s
abbrev pub fresh_store : StoreView → StoreView
fresh_store s = record { shape = s.shape; period = s.period; tables = finite.empty; spare = 0 }

pub fresh_by : (s start : StoreView) (q : Shape) (k : ℕ) → start ≡ record { shape = q; period = k; tables = finite.empty; spare = 0 } → q ≡ s.shape → k ≡ s.period → start ≡ fresh_store s
fresh_by s start q k e eq ek = e ∙ ap (λ (p : Shape). record { shape = p; period = k; tables = finite.empty; spare = 0 }) eq ∙ ap (λ (n : ℕ). record { shape = s.shape; period = n; tables = finite.empty; spare = 0 }) ek

-- it is a store
pub fresh_valid : (s : StoreView) → IsStore s → (start : StoreView) → start ≡ fresh_store s → IsStore start
fresh_valid s is start fresh = subst IsStore (sym fresh) (new_store s.shape s.period is.times is.texts is.period_low is.period_high)

module _ (domain : List Text) (ascends : Ascends domain) (table : Table) (size : ℕ) (es : size ≡ length domain) (chosen : List ℕ) where
  -- the tuples that are absent are those of the assignments that are missing
  are : AreTuplesOf domain table.vars.times table.vars.texts (IsAbsent size table.store 0 chosen) (IsComplement domain table)
  are = same_tuples domain table.vars.times table.vars.texts (λ xs ns. IsAny (length domain) (length table.vars.times) (length table.vars.texts) xs ns × (InStore table.store xs ns → ⊥)) (IsAbsent size table.store 0 chosen)
      (λ env. HasTexts domain table.vars.texts env × (HasAssignment table domain env → ⊥)) (IsComplement domain table)
      (λ xs ns. (
        λ h. record { times_count = h.0.times_count ∙ table.times_named; texts_count = h.0.texts_count ∙ table.texts_named; known = subst (λ m. All (λ n. n < m) ns) (sym es) h.0.known; same = λ i l. absurd (omega arith); none = h.1 },
        λ h. (record { times_count = h.times_count ∙ sym table.times_named; texts_count = h.texts_count ∙ sym table.texts_named; known = subst (λ m. All (λ n. n < m) ns) es h.known }, h.none),
      ))
      (λ env. (λ h. record { known = h.0; none = h.1 }, λ h. (h.known, h.none)))
      (tested_tuples domain table.vars.times table.vars.texts (IsAny (length domain) (length table.vars.times) (length table.vars.texts)) (HasTexts domain table.vars.texts) (λ xs ns. InStore table.store xs ns → ⊥) (λ env. HasAssignment table domain env → ⊥)
      (λ env ns a. (
        λ n m. n (subst (InStore table.store (map env.times table.vars.times)) (numbers_are domain (domain_differs domain ascends) m.0 (map env.texts table.vars.texts) m.1 ∙ sym (numbers_are domain (domain_differs domain ascends) ns (map env.texts table.vars.texts) a)) m.2),
        λ n i. n (ns, a, i),
      )) (any_tuples domain ascends table.vars.times table.vars.texts))

  module _ (cap : ℕ) (start out : StoreView) (fresh : start ≡ fresh_store table.store) (valid : IsStore start) where
    period_is : start.period ≡ table.store.period
    period_is = ap (λ (s : StoreView). s.period) fresh

    empty : start.tables ≡ finite.empty
    empty = ap (λ (s : StoreView). s.tables) fresh

    start_is : IsStart domain table.vars.times table.vars.texts start
    start_is = record {
      ascends = ascends;
      names_differ = table.names_differ;
      valid = valid;
      times_are = ap (λ (s : StoreView). s.shape.times) fresh ∙ sym table.times_named;
      texts_are = ap (λ (s : StoreView). s.shape.texts) fresh ∙ sym table.texts_named;
      empty = empty;
    }

    module _ (high : ℕ) (a : IsAdded (IsAbsent size table.store 0 chosen) cap high start out) where
      pub complement_table : (made : Table) → made.vars.times ≡ table.vars.times → made.vars.texts ≡ table.vars.texts → made.store ≡ out → IsTableOf domain table.vars.times table.vars.texts table.store.period (IsComplement domain table) made
      complement_table made et ex eo = subst (λ (k : ℕ). IsTableOf domain table.vars.times table.vars.texts k (IsComplement domain table) made) period_is
          (step_table domain table.vars.times table.vars.texts start start_is (IsAbsent size table.store 0 chosen) (IsComplement domain table) are cap high out a made et ex eo)

      pub complement_few : InhabitsMoreThan cap domain table.store.period table.vars.times table.vars.texts (IsComplement domain table) → ⊥
      complement_few more = step_few domain table.vars.times table.vars.texts start start_is (IsAbsent size table.store 0 chosen) (IsComplement domain table) are cap high out a
          (subst (λ (k : ℕ). InhabitsMoreThan cap domain k table.vars.times table.vars.texts (IsComplement domain table)) (sym period_is) more)

      pub complement_reach : HasReach out high
      complement_reach = reach_held (IsAbsent size table.store 0 chosen) cap high start out empty a.grown

      pub complement_shape : out.shape ≡ table.store.shape
      complement_shape = a.grown.shape ∙ ap (λ (s : StoreView). s.shape) fresh

    pub complement_many : (high : ℕ) → IsRefused (IsAbsent size table.store 0 chosen) cap high start out → InhabitsMoreThan cap domain table.store.period table.vars.times table.vars.texts (IsComplement domain table)
    complement_many high r = subst (λ (k : ℕ). InhabitsMoreThan cap domain k table.vars.times table.vars.texts (IsComplement domain table)) period_is
        (step_many domain table.vars.times table.vars.texts start start_is (IsAbsent size table.store 0 chosen) (IsComplement domain table) are cap high out r)
