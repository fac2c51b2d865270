-- A step without a variable: its periods and its columns; and projections.
use Rattle.std.proofs.Common.{◌≡◌, ◌↔◌, ◌*◌, ◌<◌, ◌≤◌, ℕ, zero, suc, Bool, true, false, not, ◌||◌, List, [], ◌∷◌, ◌++◌, length, map, filter, get_or, Result, Ok, Err, refl, sym, ap, subst, ◌∙◌, append-nil, arith}
use Rattle.std.specs.List.{AllZip, AllByRecursion}
use Rattle.std.specs.Result.{OnOk, IfOk}
use Rattle.std.proofs.lemmas.Bool.{false≢true}
use Rattle.std.proofs.lemmas.List.Elements.{filter_agree}
use Rattle.lrp_theory.specs.Divides.{IsCommon}
use Rattle.lrp_model.specs.Texts.{Identifier}
use Rattle.lrp_model.specs.Formulas.{Form, Forms, atom, test, sorted, negation, conjunction, disjunction, implication, exists, forall, form, no_forms}
use Rattle.lrp_model.specs.Periods.{periods, periods_each, test_periods}
use Rattle.lrp_model.specs.Plans.{plan_of}
use Rattle.lrp_model.specs.Satisfaction.{Structure}
use Rattle.lrp_model.specs.Sorts.{is_data}
use Rattle.lrp_model.specs.Steps.{Steps, PlanStep, formula_at, leaf, made}
use Rattle.lrp_model.specs.Variables.{Variable, time_variable, data_variable, bound_by, same_variable, is_among, free, free_each}
use Rattle.lrp_model.specs.declared.relations.Relation.{Relation}
use Rattle.lrp_model.specs.declared.relations.Sort.{Sort}
use Rattle.lrp_model.specs.declared.relations.Sort.TheVariants.{Time, Data, Named}
use Rattle.lrp_model.specs.declared.formulas.Test.{Test}
use Rattle.lrp_model.specs.declared.plans.StepKind.TheVariants.{Scan, Leaf, Sort as SortStep, DropTime, DropData}
use Rattle.lrp_core.specs.FreeVariables.{variable_of, with_variables, each_once, others}
use Rattle.lrp_core.specs.declared.variables.Variable.{Variable as ProgramVariable}
use Rattle.lrp_core.proofs.VariableLists.{with_variables-append}
use Rattle.lrp_limits.specs.Capped.{capped}
use Rattle.lrp_limits.specs.Multiples.{IsLeastWithinLimit}
use Rattle.lrp_limits.proofs.Keeping.{common_both}
use Rattle.lrp_plan_laws.specs.Binding.{is_leaf}
use Rattle.lrp_plan_laws.specs.Projections.{PlanGround as Ground, for_each_sort, drop_variable, drop_each, last_drop, unwanted, project, projected, columns_at}
use Rattle.lrp_plan.specs.declared.drafts.Draft.{Draft}
use Rattle.lrp_plan.specs.declared.drafts.PlannedOperand.{PlannedOperand}
use Rattle.lrp_plan.specs.Drafts.{AddsStep, IsDraft, IsPlannedOperand, Extends}
use Rattle.lrp_plan.specs.Elements.{CanPlan, MakesSteps}
use Rattle.lrp_plan.specs.Sources.{AreSources}
use Rattle.lrp_plan.specs.Taking.{HaveSame}
use Rattle.lrp_plan.proofs.Made.{made_follows, single_follows, of_one, cap_double, cap_same}
use Rattle.lrp_guarded.specs.Making.{HasColumns, AreDataSorts, IsMaking, MakesFrom, IsMadeTo, MakesTo, DropsFrom}
use Rattle.lrp_guarded.specs.declared.making.Making.{Making}
use Rattle.lrp_guarded.proofs.OnceEach.{once_is, each_once_filter, adds_known, same_swap}
use Rattle.lrp_guarded.proofs.Steps.{ColumnsOf, one_more}

-- ---- the formula for some text of each of several sorts

common_each : (db : List Relation) (sorts : List Sort) (v : Identifier) (f : Form) (n : ℕ) → IsCommon (periods f db) n → IsCommon (periods_each (for_each_sort sorts v f) db) n
common_each db [] v f n h = tt
common_each db (s ∷ sorts) v f n h = (common_both (periods f db) (periods_each (for_each_sort sorts v f) db) n).1 (h, common_each db sorts v f n h)

common_first : (db : List Relation) (sorts : List Sort) (v : Identifier) (f : Form) (n : ℕ) → (sorts ≡ [] → ⊥) → IsCommon (periods_each (for_each_sort sorts v f) db) n → IsCommon (periods f db) n
common_first db [] v f n some h = absurd (some refl)
common_first db (s ∷ sorts) v f n some h = ((common_both (periods f db) (periods_each (for_each_sort sorts v f) db) n).0 h).0

least_each : (db : List Relation) (sorts : List Sort) (v : Identifier) (f : Form) (k : ℕ) → (sorts ≡ [] → ⊥) → IsLeastWithinLimit (periods f db) k → IsLeastWithinLimit (periods (disjunction (for_each_sort sorts v f)) db) k
least_each db sorts v f k some l = record {
  period = l.period;
  multiples = λ n. ((λ m. common_each db sorts v f n ((l.multiples n).0 m)), λ c. (l.multiples n).1 (common_first db sorts v f n some c));
}

-- a data sort binds a data variable
data_bound : (s : Sort) (v : Identifier) → is_data s ≡ true → bound_by s v ≡ data_variable v
data_bound Time v e = absurd (false≢true e)
data_bound Data v e = refl
data_bound (Named name) v e = refl

-- what is known is all there is in the further formulas
each_known : (sorts : List Sort) (v : Identifier) (f : Form) (us : List Variable) → AllByRecursion (λ s. is_data s ≡ true) sorts → with_variables (with_variables us (others (data_variable v) (free f))) (free_each (for_each_sort sorts v f)) ≡ with_variables us (others (data_variable v) (free f))
each_known [] v f us h = refl
each_known (s ∷ sorts) v f us h =
    let xs : List Variable = others (data_variable v) (free f) in
    ap (λ b. with_variables (with_variables us xs) (others b (free f) ++ free_each (for_each_sort sorts v f))) (data_bound s v h.0)
    ∙ with_variables-append (with_variables us xs) xs (free_each (for_each_sort sorts v f)) ∙ ap (λ ws. with_variables ws (free_each (for_each_sort sorts v f))) (adds_known us xs) ∙ each_known sorts v f us h.1

once_each : (sorts : List Sort) (v : Identifier) (f : Form) → AreDataSorts sorts → each_once (free (disjunction (for_each_sort sorts v f))) ≡ each_once (others (data_variable v) (free f))
once_each [] v f h = absurd (h.some refl)
once_each (s ∷ sorts) v f h =
    ap (λ b. each_once (others b (free f) ++ free_each (for_each_sort sorts v f))) (data_bound s v h.data_ones.0)
    ∙ with_variables-append [] (others (data_variable v) (free f)) (free_each (for_each_sort sorts v f)) ∙ each_known sorts v f [] h.data_ones.1

-- ---- the step

pub drops_time : {T E : Type 0} (r : Result T E) (v own : Identifier) (of : PlannedOperand) (old new : Draft) → own ≡ v → OnOk r (AddsStep (DropTime of.number own) of.period.number (capped (2 * of.reach)) old new) → OnOk r (DropsFrom of (time_variable v) old new)
drops_time (Ok x) v own of old new e a = record {
  follows = λ over K steps i sorts d o.
      single_follows over.structure K (DropTime i v) (DropTime of.number own) (exists v Time (formula_at steps i)) i (capped (2 * of.reach)) of old new steps d o a (ap (λ n. DropTime of.number n) e ∙ of_one (λ n. DropTime n v) _ _ o.number) refl (cap_double _ _ of.reach o.reach);
}
drops_time (Err x) v own of old new e a = tt

pub drops_data : {T E : Type 0} (r : Result T E) (v own : Identifier) (of : PlannedOperand) (old new : Draft) → own ≡ v → OnOk r (AddsStep (DropData of.number own) of.period.number (capped of.reach) old new) → OnOk r (DropsFrom of (data_variable v) old new)
drops_data (Ok x) v own of old new e a = record {
  follows = λ over K steps i sorts d o.
      made_follows over.structure K (DropData i v) (DropData of.number own) (disjunction (for_each_sort over.sorts v (formula_at steps i))) of.period.number (capped of.reach) old new steps d a (ap (λ n. DropData of.number n) e ∙ of_one (λ n. DropData n v) _ _ o.number)
      (least_each over.structure.relations over.sorts v (formula_at steps i) of.period.number sorts.some o.period) (common_each over.structure.relations over.sorts v (formula_at steps i) K o.divides) (cap_same _ _ of.reach o.reach);
}
drops_data (Err x) v own of old new e a = tt

-- with its columns
pub drop_makes : (of : PlannedOperand) (v : Variable) (old new : Making) (mid : Draft) (vs : List ProgramVariable) → ((over : Ground) (K : ℕ) (steps : Steps) (i : ℕ) → IsMaking over K old steps → IsPlannedOperand over.structure.relations K steps i of → map variable_of vs ≡ others v (each_once (free (formula_at steps i))))
    → DropsFrom of v old.draft mid → new.sources.now ≡ old.sources.now → new.draft ≡ mid → new.columns.items ≡ old.columns.items ++ vs ∷ [] → MakesFrom of (λ over i. drop_variable over v i) old new
drop_makes of (time_variable v) old new mid vs cols h s n c = record {
  follows = λ over K steps i m o.
      one_more over K (DropTime i v) (exists v Time (formula_at steps i)) old new steps vs m (subst (λ d. IsDraft over.structure.relations K d (drop_variable over (time_variable v) i steps)) (sym n) (h.follows over K steps i m.sorts m.draft o)) s c
      (cols over K steps i m o ∙ sym (each_once_filter (λ w. not (same_variable (time_variable v) w)) (free (formula_at steps i))));
}
drop_makes of (data_variable v) old new mid vs cols h s n c = record {
  follows = λ over K steps i m o.
      one_more over K (DropData i v) (disjunction (for_each_sort over.sorts v (formula_at steps i))) old new steps vs m (subst (λ d. IsDraft over.structure.relations K d (drop_variable over (data_variable v) i steps)) (sym n) (h.follows over K steps i m.sorts m.draft o)) s c
      (cols over K steps i m o ∙ sym (each_once_filter (λ w. not (same_variable (data_variable v) w)) (free (formula_at steps i))) ∙ sym (once_each over.sorts v (formula_at steps i) m.sorts));
}

or_false : (b : Bool) → (b || false) ≡ b
or_false true = refl
or_false false = refl

-- the columns but for one
pub columns_but : (making : Making) (of : PlannedOperand) (v : ProgramVariable) (own made : List ProgramVariable) (dropped : List ProgramVariable) → map variable_of dropped ≡ variable_of v ∷ [] → ColumnsOf making of own → map variable_of made ≡ filter (λ w. not (is_among (map variable_of dropped) w)) (map variable_of own)
    → (over : Ground) (K : ℕ) (steps : Steps) (i : ℕ) → IsMaking over K making steps → IsPlannedOperand over.structure.relations K steps i of → map variable_of made ≡ others (variable_of v) (each_once (free (formula_at steps i)))
columns_but making of v own made dropped d h e over K steps i m o =
    e ∙ ap (λ us. filter (λ w. not (is_among us w)) (map variable_of own)) d ∙ ap (filter (λ w. not (is_among (variable_of v ∷ []) w))) (h over K steps i m o)
    ∙ filter_agree (λ w. not (is_among (variable_of v ∷ []) w)) (λ w. not (same_variable (variable_of v) w)) (λ w. ap not (or_false (same_variable w (variable_of v)) ∙ same_swap w (variable_of v) (same_variable w (variable_of v)) (same_variable (variable_of v) w) refl refl)) (each_once (free (formula_at steps i)))

-- ---- projections

pub projects : (of : PlannedOperand) (wanted own dropped : List ProgramVariable) (vs : List Variable) (old new : Making) (last : PlannedOperand) → ColumnsOf old of own → map variable_of dropped ≡ filter (λ w. not (is_among (map variable_of wanted) w)) (map variable_of own) → HaveSame (map variable_of wanted) vs
    → MakesTo of (λ over i. drop_each over (map variable_of dropped) i) (λ over i steps. last_drop (map variable_of dropped) i (drop_each over (map variable_of dropped) i steps)) old new last
    → MakesTo of (λ over i. project over vs i) (λ over i. projected over vs i) old new last
projects of wanted own dropped vs old new last h e same k = record {
  follows = λ over K steps i m o.
      let u : map variable_of dropped ≡ unwanted vs steps i =
      e ∙ ap (filter (λ w. not (is_among (map variable_of wanted) w))) (h over K steps i m o ∙ once_is (free (formula_at steps i)))
      ∙ filter_agree (λ w. not (is_among (map variable_of wanted) w)) (λ w. not (is_among vs w)) (λ w. ap not (same.each w)) (columns_at steps i) in
      subst (λ us. IsMadeTo over K new (drop_each over us i steps) (last_drop us i (drop_each over us i steps)) last) u (k.follows over K steps i m o);
}

-- ---- the columns of a step

pub columns_there : (cs : List (List ProgramVariable)) (steps : Steps) (n : ℕ) (vs : List ProgramVariable) → AllZip HasColumns cs steps → n < length cs → vs ≡ get_or cs n vs → map variable_of vs ≡ each_once (free (formula_at steps (suc n)))
columns_there [] steps n vs h lt e = absurd (omega arith)
columns_there (c ∷ cs) [] n vs h lt e = absurd h
columns_there (c ∷ cs) (s ∷ steps) zero vs h lt e = ap (map variable_of) e ∙ h.0
columns_there (c ∷ cs) (s ∷ steps) (suc n) vs h lt e = columns_there cs steps n vs h.1 (omega arith) e

pub columns_count : (cs : List (List ProgramVariable)) (steps : Steps) → AllZip HasColumns cs steps → length cs ≡ length steps
columns_count [] [] h = refl
columns_count [] (s ∷ steps) h = absurd h
columns_count (c ∷ cs) [] h = absurd h
columns_count (c ∷ cs) (s ∷ steps) h = ap suc (columns_count cs steps h.1)

-- ---- leaves

pub leaf_makes : (f : Form) (old new : Making) (mid : Draft) (vs : List ProgramVariable) → map variable_of vs ≡ each_once (free f) → ((M : Structure) (K : ℕ) → is_leaf f ≡ true → AreSources M old.sources.now → MakesSteps M K f old.draft mid) → new.sources.now ≡ old.sources.now → new.draft ≡ mid → new.columns.items ≡ old.columns.items ++ vs ∷ []
    → (over : Ground) (K : ℕ) (steps : Steps) → is_leaf f ≡ true → CanPlan over.structure K f → IsMaking over K old steps → IsMaking over K new (plan_of f over.structure steps)
leaf_makes (atom name terms) old new mid vs e h s n c over K steps l can m =
    one_more over K (Scan name terms) (atom name terms) old new steps vs m (subst (λ d. IsDraft over.structure.relations K d (plan_of (atom name terms) over.structure steps)) (sym n) ((h over.structure K l m.sources can).follows steps m.draft)) s c e
leaf_makes (test t) old new mid vs e h s n c over K steps l can m =
    one_more over K (Leaf t) (test t) old new steps vs m (subst (λ d. IsDraft over.structure.relations K d (plan_of (test t) over.structure steps)) (sym n) ((h over.structure K l m.sources can).follows steps m.draft)) s c e
leaf_makes (sorted t v) old new mid vs e h s n c over K steps l can m =
    one_more over K (SortStep v t (over.structure.domain t)) (sorted t v) old new steps vs m (subst (λ d. IsDraft over.structure.relations K d (plan_of (sorted t v) over.structure steps)) (sym n) ((h over.structure K l m.sources can).follows steps m.draft)) s c e
leaf_makes (negation f) old new mid vs e h s n c over K steps l can m = absurd (false≢true l)
leaf_makes (conjunction fs) old new mid vs e h s n c over K steps l can m = absurd (false≢true l)
leaf_makes (disjunction fs) old new mid vs e h s n c over K steps l can m = absurd (false≢true l)
leaf_makes (implication f g) old new mid vs e h s n c over K steps l can m = absurd (false≢true l)
leaf_makes (exists v t f) old new mid vs e h s n c over K steps l can m = absurd (false≢true l)
leaf_makes (forall v t f) old new mid vs e h s n c over K steps l can m = absurd (false≢true l)

pub test_makes : (t : Test) (old new : Making) (mid : Draft) (vs : List ProgramVariable) → map variable_of vs ≡ each_once (free (test t)) → ((M : Structure) (K : ℕ) → IsCommon (test_periods t) K → Extends M K (leaf t) old.draft mid) → new.sources.now ≡ old.sources.now → new.draft ≡ mid → new.columns.items ≡ old.columns.items ++ vs ∷ []
    → (over : Ground) (K : ℕ) (steps : Steps) → IsCommon (test_periods t) K → IsMaking over K old steps → IsMaking over K new (leaf t over.structure steps)
test_makes t old new mid vs e h s n c over K steps k m = one_more over K (Leaf t) (test t) old new steps vs m (subst (λ d. IsDraft over.structure.relations K d (leaf t over.structure steps)) (sym n) ((h over.structure K k).follows steps m.draft)) s c e
