-- The plan under guards of a settled query is sound: the step before `head` says what the step `head` says.
use Rattle.std.proofs.Common.{◌↔◌, List, [], length, None, Contains}
use Rattle.lrp_model.specs.Texts.{Text}
use Rattle.lrp_model.specs.Formulas.{Form, Question}
use Rattle.lrp_model.specs.Variables.{Variable, time_variable, data_variable, free, head_variables}
use Rattle.lrp_model.specs.Satisfaction.{Structure, Assignment, Satisfies, structure}
use Rattle.lrp_model.specs.Domains.{constants}
use Rattle.lrp_model.specs.Core.{core_form, guarded, has_named_sort}
use Rattle.lrp_model.specs.Steps.{formula_at}
use Rattle.lrp_model.specs.declared.relations.Relation.{Relation}
use Rattle.lrp_model.proofs.Logic.{same, then_iff}
use Rattle.lrp_plan_laws.specs.Scopes.{IsNarrow}
use Rattle.lrp_plan_laws.specs.Settled.{HasConstantTexts as HasKnownTexts, IsSettled, IsSoundPlan}
use Rattle.lrp_plan_laws.specs.GuardedPlans.{ground, guarded_steps, guarded_plan}
use Rattle.lrp_plan_laws.proofs.Members.{all_of, all_by, all_self}
use Rattle.lrp_plan_laws.proofs.Marks.{marks}
use Rattle.lrp_plan_laws.proofs.CoreLaws.{core_is}
use Rattle.lrp_plan_laws.proofs.CoreNames.{core_named, guarded_within, scope_core}
use Rattle.lrp_plan_laws.proofs.PlanSound.{core_of_query}
use Rattle.lrp_plan_laws.proofs.GuardLaws.{guards_core}
use Rattle.lrp_plan_laws.proofs.NarrowLaws.{narrow_part}
use Rattle.lrp_plan_laws.proofs.SettledLaws.{sound_front}
use Rattle.lrp_plan_laws.proofs.Dropped.{IsKnownAt}
use Rattle.lrp_plan_laws.proofs.Telling.{Tells}
use Rattle.lrp_plan_laws.proofs.GuardedSays.{build_says}
use Rattle.lrp_plan_laws.proofs.GuardedFront.{over_sorts, guarded_front}
use Rattle.lrp_plan_laws.proofs.Grounds.{is_ground, stands_for, guarded_drops}

-- the texts of these variables are known
known_at : (texts : List Text) (vs : List Variable) (env : Assignment) → HasKnownTexts texts vs env → (w : Variable) → Contains vs w → IsKnownAt texts env w
known_at texts vs env h (time_variable v) c = tt
known_at texts vs env h (data_variable v) c = h v c

-- the core form has variables of the head alone
core_within : (db : List Relation) (q : Question) → IsSettled db q → (w : Variable) → Contains (free (core_form (has_named_sort db) q)) w → Contains (head_variables q.head) w
core_within db q h w c =
    let vs : List Variable = head_variables q.head in
    let n = guarded_within (has_named_sort db) q db vs (marks q.body db) (all_self vs) (all_by (Contains vs) (free q.body) h.bound, all_self (marks q.body db)) in
    all_of (Contains vs) (free (core_form (has_named_sort db) q)) w ((core_named (has_named_sort db) q db vs (marks q.body db)).1 n).0 c

-- the step before `head` says what the step `head` says
guarded_steps_say : (db : List Relation) (q : Question) → IsSettled db q → (env : Assignment) → HasKnownTexts (constants db q) (head_variables q.head) env
    → Satisfies (formula_at (guarded_steps db q) (length (guarded_steps db q))) (structure db q) env ↔ Satisfies (guarded (has_named_sort db) q.head q.body) (structure db q) env
guarded_steps_say db q h env known =
    let core : Form = core_form (has_named_sort db) q in
    let M : Structure = structure db q in
    let t : Tells M (constants db q) (free core) [] (guarded_steps db q) (λ e. Unit {0} × Satisfies core M e) =
    build_says (ground db q) (constants db q) (is_ground db q h.texts) (stands_for db q) core (core_of_query (has_named_sort db) q h.elements) (guards_core db q (has_named_sort db) (λ n. (h.plain n).0) (λ n. (h.plain n).1)) [] [] (λ w. same) tt None [] tt in
    let s = t.says env (λ w c. known_at (constants db q) (head_variables q.head) env known w (core_within db q h w c)) in
    then_iff ((λ x. (s.0 x).1), λ x. s.1 (tt, x)) (core_is (has_named_sort db) q M env)

-- so the plan is sound
pub guarded_sound : (db : List Relation) (q : Question) → IsSettled db q → IsSoundPlan (guarded_plan db q) db q
guarded_sound db q h =
    sound_front db q (over_sorts db q) (guarded_steps db q) h
    (guarded_front db q IsNarrow narrow_part h.elements (scope_core IsNarrow narrow_part db (has_named_sort db) q h.whole h.parts))
    (guarded_drops db q h.elements h.texts)
    (guarded_steps_say db q h)
