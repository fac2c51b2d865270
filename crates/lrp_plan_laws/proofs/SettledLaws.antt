-- A well-sorted query is settled, and a settled query has a sound plan.
use Rattle.std.proofs.Common.{◌≡◌, ◌↔◌, ⊎_elim, ℕ, suc, List, [], ◌∷◌, length, Some, sym, ap, subst, ◌∙◌, arith}
use Rattle.std.specs.Prelude.{◌-◌, MatchOption}
use Rattle.lrp_model.specs.Formulas.{Form, Question}
use Rattle.lrp_model.specs.Variables.{Variable, free, head_variables}
use Rattle.lrp_model.specs.Satisfaction.{Structure, Assignment, Satisfies, structure}
use Rattle.lrp_model.specs.Domains.{constants}
use Rattle.lrp_model.specs.Core.{guarded, has_named_sort, HasElements}
use Rattle.lrp_model.specs.RawQueries.{RawQuestion}
use Rattle.lrp_model.specs.Sorting.{IsWellSorted}
use Rattle.lrp_model.specs.Checked.{plain_question}
use Rattle.lrp_model.specs.Steps.{PlanStep, Steps, step_at, formula_at, step_after}
use Rattle.lrp_model.specs.Plans.{plan, core_steps}
use Rattle.lrp_model.specs.declared.relations.Relation.{Relation}
use Rattle.lrp_model.specs.declared.plans.StepKind.TheVariants.{Extend}
use Rattle.lrp_plan_laws.specs.Made.{HeadStep, AreAmong, IsMade, head_step}
use Rattle.lrp_plan_laws.specs.Rising.{HasPeriods}
use Rattle.lrp_plan_laws.specs.Scopes.{IsNarrow}
use Rattle.lrp_plan_laws.specs.Settled.{HasSortedTexts, HasConstantTexts as HasKnownTexts, IsTextDrop, EndsWithHead, IsSettled, IsSoundPlan}
use Rattle.lrp_plan_laws.proofs.Elements.{length_made, formula_made, formula_front, step_one_more}
use Rattle.lrp_plan_laws.proofs.CoreNames.{scope_core}
use Rattle.lrp_plan_laws.proofs.PlanSound.{steps_say}
use Rattle.lrp_plan_laws.proofs.PlanBuilds.{quantified}
use Rattle.lrp_plan_laws.proofs.Dropping.{Rules}
use Rattle.lrp_plan_laws.proofs.Fronts.{IsFront, closed, head_after}
use Rattle.lrp_plan_laws.proofs.WrittenFront.{written_front}
use Rattle.lrp_plan_laws.proofs.HeadLaws.{last_is}
use Rattle.lrp_plan_laws.proofs.RisingLaws.{plan_made, front_rises, last_made, last_period}
use Rattle.lrp_plan_laws.proofs.NarrowLaws.{narrow_part, narrow_steps, only_last, last_bound, core_bound}
use Rattle.lrp_plan_laws.proofs.GuardLaws.{domain_known, drops_guarded}
use Rattle.lrp_plan_laws.proofs.PointLaws.{front_points}
use Rattle.lrp_plan_laws.proofs.ScanLaws.{scan_known, database_known}
use Rattle.lrp_plan_laws.proofs.SortedAtoms.{query_atoms}
use Rattle.lrp_plan_laws.proofs.SortedScopes.{head_names, body_in_head, narrow_head, narrow_body}
use Rattle.lrp_plan_laws.proofs.SortedData.{query_data}
use Rattle.lrp_plan_laws.proofs.SortedTexts.{plain_query}

-- a well-sorted query is settled
pub settled : (db : List Relation) (q : RawQuestion) → IsWellSorted db q → HasSortedTexts db → HasElements (plain_question q).body → HasPeriods db (plain_question q) → IsSettled db (plain_question q)
settled db q sorted texts some low = record {
  elements = some;
  periods = low;
  names = head_names db q sorted;
  bound = body_in_head db q sorted;
  whole = narrow_head db q sorted;
  parts = narrow_body db q sorted;
  atoms = query_atoms db q sorted;
  texts = query_data db q sorted texts;
  plain = plain_query db q sorted texts;
}

-- `head` reads the step before it
before_last : (db : List Relation) (q : Question) (front : Steps) → length (closed db q front) - 1 ≡ length front
before_last db q front = let e = length_made (structure db q) (Extend (length front)) (guarded (has_named_sort db) q.head q.body) front in omega arith

-- so it is the step after these
pub head_same : (db : List Relation) (q : Question) (front : Steps) → head_step (closed db q front) db q ≡ head_after db q front
head_same db q front = let at : ℕ → HeadStep = λ n. record { of = n; formula = guarded (has_named_sort db) q.head q.body } in ap at (before_last db q front)

-- the last two steps say the same, where the last one of these says what the body says
same_last : (db : List Relation) (q : Question) (front : Steps) (env : Assignment) → Satisfies (formula_at front (length front)) (structure db q) env ↔ Satisfies (guarded (has_named_sort db) q.head q.body) (structure db q) env
    → Satisfies (formula_at (closed db q front) (length (closed db q front) - 1)) (structure db q) env ↔ Satisfies (formula_at (closed db q front) (length (closed db q front))) (structure db q) env
same_last db q front env says =
    let M : Structure = structure db q in
    let f : Form = guarded (has_named_sort db) q.head q.body in
    let last : Form = formula_at (closed db q front) (length (closed db q front)) in
    subst (λ n. Satisfies (formula_at (closed db q front) n) M env ↔ Satisfies last M env) (sym (before_last db q front))
    (subst (λ g. Satisfies g M env ↔ Satisfies last M env) (sym (formula_front front (step_after M (Extend (length front)) f front ∷ []) (length front) (omega arith)))
    (subst (λ g. Satisfies (formula_at front (length front)) M env ↔ Satisfies g M env) (sym (formula_made M (Extend (length front)) f front)) says))

-- only the last step is `head`
pub head_is_last : (db : List Relation) (q : Question) (rules : Rules) (fits : List Variable → Type 0) (front : Steps) → IsFront db q rules fits front → (s : ℕ) (step : PlanStep) → step_at (closed db q front) s ≡ Some step → (of : ℕ) → step.kind ≡ Extend of → s ≡ length (closed db q front)
head_is_last db q rules fits front w s step e of kind =
    let f : Form = guarded (has_named_sort db) q.head q.body in
    let l : length (closed db q front) ≡ suc (length front) = length_made (structure db q) (Extend (length front)) f front in
    ⊎_elim (λ h. absurd (only_last db q rules fits front w s step e h.0 of kind)) (λ h. h.0 ∙ sym l) (step_one_more front (step_after (structure db q) (Extend (length front)) f front) step s e)

-- the last step is `head`
pub head_ends : (db : List Relation) (q : Question) (front : Steps) → EndsWithHead (closed db q front) db q
head_ends db q front =
    subst (λ n. MatchOption (step_at (closed db q front) (length (closed db q front))) ⊥ (λ step. (step.kind ≡ Extend n) × (step.formula ≡ guarded (has_named_sort db) q.head q.body))) (sym (before_last db q front)) (last_made db q front)

-- the step before it has variables of the head alone, where the body has
pub before_bound : (db : List Relation) (q : Question) (rules : Rules) (fits : List Variable → Type 0) (front : Steps) → AreAmong (free q.body) (head_variables q.head) → IsFront db q rules fits front → AreAmong (free (formula_at (closed db q front) (length (closed db q front) - 1))) (head_variables q.head)
before_bound db q rules fits front bound w = subst (λ n. AreAmong (free (formula_at (closed db q front) n)) (head_variables q.head)) (sym (before_last db q front)) (core_bound db q front bound rules fits w)

-- steps that name what the core form names and say what it says make a sound plan, where each drop of texts is one of constants
pub sound_front : (db : List Relation) (q : Question) (rules : Rules) (front : Steps) → IsSettled db q → IsFront db q rules IsNarrow front
    → ((s : ℕ) (step : PlanStep) → step_at (closed db q front) s ≡ Some step → IsTextDrop (closed db q front) db q step)
    → ((env : Assignment) → HasKnownTexts (constants db q) (head_variables q.head) env → Satisfies (formula_at front (length front)) (structure db q) env ↔ Satisfies (guarded (has_named_sort db) q.head q.body) (structure db q) env)
    → IsSoundPlan (closed db q front) db q
sound_front db q rules front h w drops says = record {
  each = λ s step e. record {
    made = subst (λ head. IsMade (structure db q) head (closed db q front) s step) (sym (head_same db q front)) (plan_made db q rules IsNarrow front w s step e).made;
    rises = front_rises db q rules IsNarrow front w h.periods s step e;
    narrow = narrow_steps db q rules front w h.whole s step e;
    drops = drops s step e;
    scans = scan_known db q rules IsNarrow front w h.atoms s step e;
    points = front_points db q rules IsNarrow front w s step e;
    head = head_is_last db q rules IsNarrow front w s step e;
  };
  texts = database_known db q;
  sorts = domain_known db q;
  core = before_bound db q rules IsNarrow front h.bound w;
  last = last_bound db q front h.bound;
  head = head_ends db q front;
  says = λ env known. same_last db q front env (says env known);
  period = last_period db q front;
  answers = λ tuple shape texts. last_is db q front tuple (λ none. (h.plain none).0) h.names shape texts;
}

-- the plan of a settled query as it is written is sound
pub sound : (db : List Relation) (q : Question) → IsSettled db q → IsSoundPlan (plan db q) db q
sound db q h =
    sound_front db q quantified (core_steps db q) h
    (written_front db q IsNarrow narrow_part h.elements (scope_core IsNarrow narrow_part db (has_named_sort db) q h.whole h.parts))
    (drops_guarded db q h.elements h.plain)
    (λ env known. steps_say db q h.elements env)
