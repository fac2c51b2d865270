-- The whole plan of a query under guards.
use Rattle.std.proofs.Common.{◌≡◌, ◌≤◌, ◌<◌, ◌*◌, ◌+◌, ◌^◌, ℕ, suc, pos, Bool, true, false, cond, List, [], ◌∷◌, ◌++◌, map, filter, Contains, Option, Some, None, option_map, slice_get, Result, Ok, Err, refl, sym, ap, subst, ◌∙◌}
use Rattle.std.specs.List.{AllByRecursion}
use Rattle.std.specs.Result.{IfOk}
use Rattle.lrp_theory.specs.Divides.{IsCommon}
use Rattle.lrp_model.specs.Texts.{in_order}
use Rattle.lrp_model.specs.Formulas.{Form, Question}
use Rattle.lrp_model.specs.Core.{core_form, guarded, has_named_sort, HasElements}
use Rattle.lrp_model.specs.Domains.{database_texts, all_texts}
use Rattle.lrp_model.specs.Satisfaction.{Structure, structure}
use Rattle.lrp_model.specs.Periods.{periods}
use Rattle.lrp_model.specs.Sorts.{is_data, time_count}
use Rattle.lrp_model.specs.Steps.{Steps, PlanStep}
use Rattle.lrp_model.specs.Plans.{query_reach}
use Rattle.lrp_model.specs.TestPoints.{points}
use Rattle.lrp_model.specs.declared.relations.Relation.{Relation}
use Rattle.lrp_model.specs.declared.relations.Sort.{Sort}
use Rattle.lrp_model.specs.declared.plans.Plan.{Plan}
use Rattle.lrp_model.specs.declared.plans.Planning.TheVariants.{Guarded}
use Rattle.lrp_plan_laws.specs.Points.{step_points}
use Rattle.lrp_plan_laws.specs.Projections.{PlanGround as Ground}
use Rattle.lrp_plan_laws.specs.GuardedPlans.{build, ground, guarded_plan}
use Rattle.lrp_plan_laws.specs.Rising.{HasPeriods, IsRising}
use Rattle.lrp_plan_laws.specs.Settled.{IsSettled, IsSoundPlan}
use Rattle.lrp_plan_laws.proofs.Ways.{rises_by, points_by, sound_by}
use Rattle.lrp_database.specs.Once.{texts_among}
use Rattle.lrp_limits.specs.Capped.{capped}
use Rattle.lrp_limits.specs.Multiples.{IsPeriod, IsPeriodOf, IsLeastWithinLimit}
use Rattle.lrp_limits.specs.declared.periods.Period.{Period}
use Rattle.lrp_plan.specs.declared.drafts.Draft.{Draft}
use Rattle.lrp_plan.specs.declared.planning.PlanFault.{PlanFault}
use Rattle.lrp_plan.specs.declared.planning.PlanFault.TheVariants.{BoundLimit}
use Rattle.lrp_plan.specs.declared.sources.Sources.{Sources}
use Rattle.lrp_plan.specs.Drafts.{IsDraft, Extends, with_head_step}
use Rattle.lrp_plan.specs.Elements.{AreInner, CanPlan}
use Rattle.lrp_plan.specs.Planning.{AreGathered, IsOutcome}
use Rattle.lrp_plan.specs.Sources.{AreSources}
use Rattle.lrp_plan.proofs.Whole.{common_self, head_least, can_plan_query, least_found, far_outcome, near_outcome}
use Rattle.lrp_core.specs.FreeVariables.{variable_of}
use Rattle.lrp_core.specs.VariableTrees.{tree_of, free_tree}
use Rattle.lrp_core.specs.declared.variables.Variable.{Variable as ProgramVariable}
use Rattle.lrp_core.specs.declared.variable_trees.VariableTree.{VariableTree}
use Rattle.lrp_core.specs.declared.variable_trees.VariableTree.TheViews.{out-VariableTree}
use Rattle.lrp_core.proofs.TreeViews.{inner_known}
use Rattle.lrp_plan.specs.declared.drafts.PlannedOperand.{PlannedOperand}
use Rattle.lrp_guarded.specs.Making.{AreDataSorts, IsMaking}
use Rattle.lrp_guarded.specs.Standing.{Builds}
use Rattle.lrp_guarded.specs.Building.{IsGuardedDraft}
use Rattle.lrp_guarded.specs.declared.making.Making.{Making}

-- the steps of the core form, and then the last one
pub guarded_follows : (sources : Sources) (f : Form) (k : ℕ) (start made : Making) (draft new : Draft) → ((over : Ground) (K : ℕ) → IsPeriod K → AreSources over.structure sources → sources.database.now ≡ over.structure.relations → AreDataSorts over.sorts → IsMaking over K start []) → Builds f [] None start made → draft ≡ made.draft
    → ((M : Structure) (K : ℕ) (g : Form) → IsLeastWithinLimit (periods g M.relations) k → IsCommon (periods g M.relations) K → Extends M K (with_head_step g) draft new) → IsGuardedDraft sources f k new
guarded_follows sources f k start made draft new starts builds e head = record {
  follows = λ over K g s b d can whole least common.
      let m : IsMaking over K made (build f [] over None []) = builds.follows over K [] None can (starts over K whole s b d) tt in
      (head over.structure K g least common).follows (build f [] over None []) (subst (λ x. IsDraft over.structure.relations K x (build f [] over None [])) (sym e) m.draft);
}

-- from the calls
pub guarded_made : (sources : Sources) (f : Form) (k : ℕ) (tree : VariableTree) (start made : Making) (draft new : Draft) (guard : Option PlannedOperand) (block : List ProgramVariable) (inner : List VariableTree)
    → ((over : Ground) (K : ℕ) → IsPeriod K → AreSources over.structure sources → sources.database.now ≡ over.structure.relations → AreDataSorts over.sorts → IsMaking over K start []) → tree_of tree ≡ free_tree f → inner ≡ (out-VariableTree tree).inner.items → guard ≡ None → block ≡ []
    → (AreInner inner f → Builds f (map variable_of block) guard start made) → draft ≡ made.draft
    → ((M : Structure) (K : ℕ) (g : Form) → IsLeastWithinLimit (periods g M.relations) k → IsCommon (periods g M.relations) K → Extends M K (with_head_step g) draft new) → IsGuardedDraft sources f k new
guarded_made sources f k tree start made draft new guard block inner starts known ei g b builds e head =
    guarded_follows sources f k start made draft new starts (subst (λ o. Builds f [] o start made) g (subst (λ vs. Builds f (map variable_of vs) guard start made) b (builds (subst (λ ts. AreInner ts f) (sym ei) (inner_known tree f known))))) e head

kept_by : (b : Bool) (s : Sort) (sorts : List Sort) → is_data s ≡ b → AllByRecursion (λ t. is_data t ≡ true) sorts → AllByRecursion (λ t. is_data t ≡ true) (cond b (s ∷ sorts) sorts)
kept_by true s sorts e h = (e, h)
kept_by false s sorts e h = h

all_data : (sorts : List Sort) → AllByRecursion (λ t. is_data t ≡ true) (filter is_data sorts)
all_data [] = tt
all_data (s ∷ sorts) = kept_by (is_data s) s (filter is_data sorts) refl (all_data sorts)

-- the sorts of a query's texts
ground_data : (db : List Relation) (q : Question) → AreDataSorts (ground db q).sorts
ground_data db q = record { some = λ e. cc; data_ones = (refl, all_data (map (λ entry. entry.0) (all_texts db q))) }

-- the draft is that of the plan
draft_is : (db : List Relation) (q : Question) (sources : Sources) (f : Form) (k : ℕ) (draft : Draft) → HasElements q.body → AreSources (structure db q) sources → sources.database.now ≡ db → f ≡ core_form (has_named_sort db) q → IsLeastWithinLimit (periods f db) k → IsGuardedDraft sources f k draft → IsDraft db k draft (guarded_plan db q)
draft_is db q sources f k draft h a b e least w =
    let g : Form = guarded (has_named_sort db) q.head q.body in
    let m : IsLeastWithinLimit (periods g db) k = head_least db q f k e least in
    subst (λ x. IsDraft db k draft (with_head_step g (structure db q) (build x [] (ground db q) None []))) e (w.follows (ground db q) k g a b (ground_data db q) (can_plan_query db q f k h e least) m.period m (common_self (periods g db) k m))

none_above : (db : List Relation) (q : Question) → HasElements q.body → HasPeriods db q → (i : ℕ) (p : PlanStep) → slice_get (guarded_plan db q) i ≡ Some p → p.reach ≤ query_reach (guarded_plan db q)
none_above db q h low i p e = let r : IsRising (guarded_plan db q) db q (suc i) p = rises_by Guarded db q h low (suc i) p e in r.below

pub guarded_points : (db : List Relation) (q : Question) → HasElements q.body → (i : ℕ) (step : PlanStep) → slice_get (guarded_plan db q) i ≡ Some step → AllByRecursion (Contains (points q.body)) (step_points step.kind)
guarded_points db q some i step e = points_by Guarded db q some (suc i) step e

pub guarded_sound : (db : List Relation) (q : Question) (r : Result Plan PlanFault) → IfOk r (λ p. IsSettled db q → IsSoundPlan (guarded_plan db q) db q)
guarded_sound db q (Ok p) = λ h. sound_by Guarded db q h
guarded_sound db q (Err e) = tt

-- ---- outcomes

pub far_guarded : (db : List Relation) (q : Question) (sources : Sources) (f : Form) (o : Option Period) (p : Period) (draft : Draft) (r : ℕ) → o ≡ Some p → ((M : Structure) → AreSources M sources → IsPeriodOf (periods f M.relations) (option_map (λ p. p.number) o)) → IsGuardedDraft sources f p.number draft
    → ((n : ℕ) → draft.last.reach ≡ capped n → r ≡ capped (2 ^ (time_count q.head + 1) * n)) → 2 ^ 62 < r → AreGathered db q sources f → sources.database.now ≡ db → IsOutcome (guarded_plan db q) db q (Err BoundLimit)
far_guarded db q sources f o p draft r e h w s far g b =
    let least : IsLeastWithinLimit (periods f db) p.number = least_found db q sources f o p e h g in
    far_outcome (guarded_plan db q) db q sources f p.number draft r least (draft_is db q sources f p.number draft g.elements g.gathered b g.core least w) s far g

pub near_guarded : (db : List Relation) (q : Question) (sources : Sources) (f : Form) (o : Option Period) (p : Period) (draft : Draft) (r : ℕ) (made : Plan) → o ≡ Some p → ((M : Structure) → AreSources M sources → IsPeriodOf (periods f M.relations) (option_map (λ p. p.number) o)) → IsGuardedDraft sources f p.number draft
    → ((n : ℕ) → draft.last.reach ≡ capped n → r ≡ capped (2 ^ (time_count q.head + 1) * n)) → r ≤ 2 ^ 62
    → made.steps ≡ draft.steps → made.head.columns ≡ q.head → made.domain ≡ in_order (texts_among (database_texts sources.database.now ++ sources.texts.items)) → AreGathered db q sources f → sources.database.now ≡ db → IsOutcome (guarded_plan db q) db q (Ok made)
near_guarded db q sources f o p draft r made e h w s low steps head domain g b =
    let least : IsLeastWithinLimit (periods f db) p.number = least_found db q sources f o p e h g in
    near_outcome (guarded_plan db q) db q sources f p.number draft r made least (draft_is db q sources f p.number draft g.elements g.gathered b g.core least w) s low (none_above db q g.elements g.periods) steps head domain g
