-- The projection of a step, from the drops that make it.
use Rattle.std.proofs.Common.{◌≡◌, ◌<◌, ◌≤◌, ◌-◌, ℕ, zero, suc, true, List, [], ◌∷◌, ◌++◌, reverse, length, map, filter, not, get_or, Result, Ok, Err, refl, ap, ◌∙◌, subst, sym, arith}
use Rattle.std.specs.Result.{IfOk, OnOk}
use Rattle.lrp_core.specs.FreeVariables.{variable_of, each_once, others}
use Rattle.lrp_core.specs.declared.variables.Variable.{Variable as ProgramVariable}
use Rattle.lrp_model.specs.Variables.{Variable, is_among, free}
use Rattle.lrp_model.specs.Formulas.{Form}
use Rattle.lrp_model.specs.Satisfaction.{Structure}
use Rattle.lrp_model.specs.Steps.{Steps, formula_at}
use Rattle.lrp_plan_laws.specs.Binding.{is_leaf}
use Rattle.lrp_plan_laws.specs.Projections.{PlanGround as Ground, drop_each, last_drop, project, projected}
use Rattle.lrp_plan.specs.declared.drafts.PlannedOperand.{PlannedOperand}
use Rattle.lrp_plan.specs.declared.drafts.Draft.{Draft}
use Rattle.lrp_plan.specs.declared.sources.Sources.{Sources}
use Rattle.lrp_plan.specs.Drafts.{IsPlannedOperand}
use Rattle.lrp_plan.specs.Elements.{MakesSteps}
use Rattle.lrp_plan.specs.Sources.{AreSources}
use Rattle.lrp_plan.specs.Taking.{HaveSame}
use Rattle.lrp_guarded.specs.Making.{HasColumns, AreDataSorts, IsMaking, MakesFrom, MakesTo}
use Rattle.lrp_guarded.specs.Needs.{sort_element}
use Rattle.lrp_guarded.specs.declared.elements.RankedSort.{RankedSort}
use Rattle.lrp_model.specs.declared.formulas.Term.{Term}
use Rattle.lrp_plan_laws.specs.GuardedConjunctions.{stands_alone}
use Rattle.lrp_limits.specs.Multiples.{IsPeriod}
use Rattle.lrp_plan.proofs.Whole.{starts}
use Rattle.std.specs.List.{AllZip}
use Rattle.std.proofs.lemmas.List.{reverse-append, map-append}
use Rattle.lrp_guarded.specs.declared.making.Making.{Making}
use Rattle.lrp_guarded.proofs.Steps.{ColumnsOf, DropsEach}
use Rattle.lrp_guarded.proofs.Drops.{projects, columns_but, columns_there, columns_count}

pub project_made : {E : Type 0} (r : Result PlannedOperand E) (of : PlannedOperand) (wanted own dropped slice : List ProgramVariable) (old new : Making) → ColumnsOf old of own → map variable_of dropped ≡ filter (λ w. not (is_among (map variable_of wanted) w)) (map variable_of own) → slice ≡ dropped
    → IfOk r (λ last. DropsEach of (map variable_of slice) old new last) → IfOk r (λ last. (vs : List Variable) → HaveSame (map variable_of wanted) vs → MakesTo of (λ over i. project over vs i) (λ over i. projected over vs i) old new last)
project_made (Ok last) of wanted own dropped slice old new h e s k = λ vs same. projects of wanted own dropped vs old new last h e same (subst (λ us. DropsEach of (map variable_of us) old new last) s k)
project_made (Err x) of wanted own dropped slice old new h e s k = tt

-- ---- leaves

pub leaf_steps : {T E : Type 0} (r : Result T E) (sources : Sources) (f g : Form) (old new : Draft) → f ≡ g → OnOk r ((M : Structure) (K : ℕ) → AreSources M sources → MakesSteps M K g old new) → OnOk r ((M : Structure) (K : ℕ) → is_leaf f ≡ true → AreSources M sources → MakesSteps M K f old new)
leaf_steps (Ok x) sources f g old new e h = λ M K l s. subst (λ y. MakesSteps M K y old new) (sym e) (h M K s)
leaf_steps (Err x) sources f g old new e h = tt

pub test_steps : {T E : Type 0} (r : Result T E) (sources : Sources) (f g : Form) (old new : Draft) → f ≡ g → OnOk r ((M : Structure) (K : ℕ) → MakesSteps M K g old new) → OnOk r ((M : Structure) (K : ℕ) → is_leaf f ≡ true → AreSources M sources → MakesSteps M K f old new)
test_steps (Ok x) sources f g old new e h = λ M K l s. subst (λ y. MakesSteps M K y old new) (sym e) (h M K)
test_steps (Err x) sources f g old new e h = tt

-- ---- columns

pub columns_but_made : {E : Type 0} (r : Result (List ProgramVariable) E) (making : Making) (of : PlannedOperand) (v : ProgramVariable) (own dropped : List ProgramVariable) → map variable_of dropped ≡ variable_of v ∷ [] → ColumnsOf making of own → IfOk r (λ made. map variable_of made ≡ filter (λ w. not (is_among (map variable_of dropped) w)) (map variable_of own))
    → IfOk r (λ made. (over : Ground) (K : ℕ) (steps : Steps) (i : ℕ) → IsMaking over K making steps → IsPlannedOperand over.structure.relations K steps i of → map variable_of made ≡ others (variable_of v) (each_once (free (formula_at steps i))))
columns_but_made (Ok made) making of v own dropped d h e = columns_but making of v own made dropped d h e
columns_but_made (Err x) making of v own dropped d h e = tt

-- no step has no columns
pub no_columns : (steps : Steps) (i number : ℕ) → number ≡ i → number ≡ 0 → [] ≡ each_once (free (formula_at steps i))
no_columns steps i number e z = subst (λ n. [] ≡ each_once (free (formula_at steps n))) (sym z ∙ e) refl

-- and none is past the last
pub none_past : (over : Ground) (K : ℕ) (making : Making) (steps : Steps) (i number count : ℕ) → IsMaking over K making steps → i ≤ length steps → number ≡ i → count ≡ length making.columns.items → count < number → [] ≡ each_once (free (formula_at steps i))
none_past over K making steps i number count m le e c lt = let n : length making.columns.items ≡ length steps = columns_count making.columns.items steps m.columns in absurd (omega arith)

pub columns_found : (over : Ground) (K : ℕ) (making : Making) (steps : Steps) (i number : ℕ) (vs : List ProgramVariable) → IsMaking over K making steps → number ≡ i → (number ≡ 0 → ⊥) → number ≤ length making.columns.items → vs ≡ get_or making.columns.items (number - 1) vs → map variable_of vs ≡ each_once (free (formula_at steps i))
columns_found over K making steps i zero vs m e z le is = absurd (z refl)
columns_found over K making steps i (suc n) vs m e z le is = columns_there making.columns.items steps n vs m.columns (omega arith) (let p : suc n - 1 ≡ n = omega arith in subst (λ k. vs ≡ get_or making.columns.items k vs) p is) ∙ ap (λ j. each_once (free (formula_at steps j))) e

-- ---- blocks

map_reverse : {A B : Type 0} (f : A → B) (xs : List A) → map f (reverse xs) ≡ reverse (map f xs)
map_reverse f [] = refl
map_reverse f (x ∷ xs) =
    ap (map f) (reverse-append (x ∷ []) xs) ∙ map-append f (reverse xs) (x ∷ []) ∙ ap (λ ys. ys ++ f x ∷ []) (map_reverse f xs) ∙ sym (reverse-append (f x ∷ []) (map f xs))

pub block_dropped : (of : PlannedOperand) (block slice : List ProgramVariable) (old new : Making) (last : PlannedOperand) → slice ≡ reverse block → DropsEach of (map variable_of slice) old new last → MakesFrom of (λ over i. drop_each over (reverse (map variable_of block)) i) old new
block_dropped of block slice old new last e h = record {
  follows = λ over K steps i m o. subst (λ vs. IsMaking over K new (drop_each over vs i steps)) (ap (map variable_of) e ∙ map_reverse variable_of block) (h.follows over K steps i m o).making;
}

-- no steps
pub none_made : (over : Ground) (K : ℕ) (making : Making) → making.draft.steps ≡ [] → making.draft.last.number ≡ 0 → making.draft.last.period.number ≡ 1 → making.draft.last.reach ≡ 0 → making.columns.items ≡ [] → IsPeriod K → AreSources over.structure making.sources.now → making.sources.now.database.now ≡ over.structure.relations → AreDataSorts over.sorts → IsMaking over K making []
none_made over K making s n p r c whole sources database sorts = record {
  sources = sources;
  database = database;
  sorts = sorts;
  draft = starts over.structure.relations K making.draft s n p r whole;
  columns = subst (λ cs. AllZip HasColumns cs []) (sym c) tt;
}

-- ---- sort elements

pub none_alone : (terms : List Term) (sorts : List RankedSort) → filter (λ e. not (stands_alone (sort_element e) [] terms)) sorts ≡ sorts
none_alone terms [] = refl
none_alone terms (s ∷ sorts) = ap (λ es. s ∷ es) (none_alone terms sorts)
