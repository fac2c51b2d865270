-- The last table has exactly the answers.
use Rattle.std.proofs.Common.{◌≡◌, ◌↔◌, ◌<◌, ◌-◌, ℕ, List, [], ◌∷◌, length, Some, Contains, unwrap_or, option_map, ap, subst, ◌∙◌, map}
use Rattle.std.specs.List.{AllByRecursion, AllZip}
use Rattle.std.specs.FinMap as finite
use Rattle.lrp_model.specs.Texts.{Text}
use Rattle.lrp_model.specs.Rows.{Datum, time, text, times_of, texts_of}
use Rattle.lrp_model.specs.Formulas.{Question, conjunction, no_forms}
use Rattle.lrp_model.specs.Domains.{constants, all_texts}
use Rattle.lrp_model.specs.Satisfaction.{Satisfies, structure, IsOfKind, IsOfSort, IsAnswer, HasShape, assignment}
use Rattle.lrp_model.specs.Steps.{PlanStep, Steps, step_at, formula_at}
use Rattle.lrp_model.specs.declared.relations.Sort.{Sort}
use Rattle.lrp_model.specs.declared.relations.Sort.TheVariants.{Time, Data, Named}
use Rattle.lrp_model.specs.declared.relations.Column.{Column}
use Rattle.lrp_model.specs.declared.relations.Relation.{Relation}
use Rattle.lrp_model.specs.declared.plans.Plan.{Plan}
use Rattle.lrp_model.specs.Caps.{ManyAt, step_variables}
use Rattle.lrp_model.proofs.DomainLaws.{in_order_ascends}
use Rattle.lrp_store.specs.Stores.{IsStore}
use Rattle.lrp_store.specs.Tables.{StoreHolds}
use Rattle.lrp_tables.specs.declared.table.Table.{Table}
use Rattle.lrp_tables.specs.Columns.{head_times, head_texts}
use Rattle.lrp_tables.specs.Caps.{InhabitsMoreThan}
use Rattle.lrp_tables.specs.Tables.{HasAssignment}
use Rattle.lrp_tables.proofs.Numbers.{texts_known}
use Rattle.lrp_plan_laws.specs.Settled.{IsSoundPlan}
use Rattle.lrp_eval.specs.Planned.{IsPlanOf, HasAnswers}
use Rattle.lrp_eval.specs.Counts.{HasCells}
use Rattle.lrp_eval.specs.Running.{SameVariables, variables_of, IsLastRun}
use Rattle.lrp_eval.proofs.Counted.{many_at}
use Rattle.lrp_eval.proofs.CellCounts.{table_cells}
use Rattle.lrp_eval.proofs.HeadTuples.{tuple_held, tuple_known}
use Rattle.lrp_eval.proofs.PlanEnds.{last_step}

-- ---- an answer has values of the kinds of its columns, and its texts are constants

of_kind : (db : List Relation) (q : Question) (s : Sort) (d : Datum) → IsOfSort (structure db q) s d → IsOfKind s d
of_kind db q Time (time x) h = tt
of_kind db q Time (text t) h = h
of_kind db q Data (time x) h = h
of_kind db q Data (text t) h = tt
of_kind db q (Named name) (time x) h = h
of_kind db q (Named name) (text t) h = tt

pub shape_of : (db : List Relation) (q : Question) (cs : List Column) (ds : List Datum) → AllZip (λ c d. IsOfSort (structure db q) c.sort d) cs ds → HasShape cs ds
shape_of db q [] [] h = tt
shape_of db q [] (d ∷ ds) h = absurd h
shape_of db q (c ∷ cs) [] h = absurd h
shape_of db q (c ∷ cs) (d ∷ ds) h = (of_kind db q c.sort d h.0, shape_of db q cs ds h.1)

one_sort : (planned : Steps) (db : List Relation) (q : Question) → IsSoundPlan planned db q → (s : Sort) (t : Text) → IsOfSort (structure db q) s (text t) → Contains (constants db q) t
one_sort planned db q h Time t k = absurd k
one_sort planned db q h Data t k = h.sorts Data t k
one_sort planned db q h (Named name) t k = h.sorts (Named name) t k

pub fits_known : (planned : Steps) (db : List Relation) (q : Question) → IsSoundPlan planned db q → (cs : List Column) (ds : List Datum) → AllZip (λ c d. IsOfSort (structure db q) c.sort d) cs ds → AllByRecursion (Contains (constants db q)) (texts_of ds)
fits_known planned db q p [] [] h = tt
fits_known planned db q p [] (d ∷ ds) h = absurd h
fits_known planned db q p (c ∷ cs) [] h = absurd h
fits_known planned db q p (c ∷ cs) (time x ∷ ds) h = fits_known planned db q p cs ds h.1
fits_known planned db q p (c ∷ cs) (text t ∷ ds) h = (one_sort planned db q p c.sort t h.0, fits_known planned db q p cs ds h.1)

-- ---- the last table

module _ (planned : Steps) (db : List Relation) (q : Question) (p : Plan) (h : IsPlanOf planned db q p) (cap : ℕ) (table : Table) (r : IsLastRun planned db q cap table) where
  sound_plan : IsSoundPlan planned db q
  sound_plan = h.sound

  abbrev last : PlanStep
  last = (last_step sound_plan).0

  at_last : step_at planned (length planned) ≡ Some last
  at_last = (last_step sound_plan).1.at

  ordered : (table.vars.times ≡ head_times q.head) × (table.vars.texts ≡ head_texts q.head)
  ordered = r.run.order last (length planned - 1) at_last (last_step sound_plan).1.kind

  holds : (tuple : List Datum) → HasShape q.head tuple → AllByRecursion (Contains (constants db q)) (texts_of tuple) → StoreHolds (constants db q) table.store (times_of tuple) (texts_of tuple) ↔ IsAnswer db q tuple
  holds tuple k c =
      let t = tuple_held q.head h.settled.names (constants db q) tuple k table ordered.0 ordered.1 in
      let m : HasAssignment table (constants db q) (assignment q.head tuple) ↔ Satisfies (formula_at planned (length planned)) (structure db q) (assignment q.head tuple) = r.run.means (assignment q.head tuple) (tuple_known q.head h.settled.names (constants db q) tuple k c table.vars.times table.vars.texts ordered.1) in
      let a : Satisfies (formula_at planned (length planned)) (structure db q) (assignment q.head tuple) ↔ IsAnswer db q tuple = sound_plan.answers tuple k c in
      ((λ x. a.0 (m.0 (t.1 x))), λ x. t.0 (m.1 (a.1 x)))

  -- the last step has more cells than a number exactly where the last table's set inhabits more
  many_last : (count : ℕ) → InhabitsMoreThan count (constants db q) last.period table.vars.times table.vars.texts (HasAssignment table (constants db q)) ↔ ManyAt planned db q count (length planned)
  many_last count = many_at planned db q (variables_of table) (HasAssignment table (constants db q)) last (length planned) count at_last
      (subst (λ vs. SameVariables (variables_of table) vs) (ap (λ o. unwrap_or (option_map (step_variables q.head) o) []) at_last) r.run.variables)
      (λ env c. subst (λ f. HasAssignment table (constants db q) env ↔ Satisfies f (structure db q) env) (ap (λ o. unwrap_or (option_map (λ step. step.formula) o) (conjunction no_forms)) at_last) (r.run.means env c))

  -- so it has as many cells as the last table
  cells_are : IsStore table.store → HasCells planned db q (length planned) (finite.len table.store.tables)
  cells_are is count =
      let period : table.store.period ≡ last.period = r.run.period ∙ ap (λ o. unwrap_or (option_map (λ step. step.period) o) 1) at_last in
      let many = many_last count in
      let held = subst (λ k. InhabitsMoreThan count (constants db q) k table.vars.times table.vars.texts (HasAssignment table (constants db q)) ↔ (count < finite.len table.store.tables)) period
      (table_cells (constants db q) (in_order_ascends (map (λ entry. entry.1) (all_texts db q))) table is r.run.numbered count) in
      ((λ m. held.0 (many.1 m)), λ l. many.0 (held.1 l))

  pub has_answers : IsStore table.store → HasAnswers planned db q cap table
  has_answers is = record {
    times = ordered.0;
    texts = ordered.1;
    answers = λ tuple. (
      (λ x. (holds tuple x.shape (texts_known (constants db q) x.held.0 (texts_of tuple) x.held.1)).0 x.held),
      λ a. let k : HasShape q.head tuple = shape_of db q q.head tuple a.fits in record { shape = k; held = (holds tuple k (fits_known planned db q sound_plan q.head tuple a.fits)).1 a },
    );
    numbered = r.run.numbered;
    period = r.run.period;
    reach = r.run.reach;
    cells = cells_are is;
    few = r.few;
  }
