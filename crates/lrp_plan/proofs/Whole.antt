-- The whole plan of a query: its core form has the periods of the body, and so its draft is the query's.
use Rattle.std.proofs.Common.{◌≡◌, ◌≤◌, ◌<◌, ◌+◌, ◌*◌, ◌^◌, ℕ, pos, Bool, List, [], ◌∷◌, ◌++◌, Contains, Option, Some, None, option_map, slice_get, Result, Ok, Err, zero, suc, ⊎_elim, refl, sym, ap, subst, ◌∙◌, arith}
use Rattle.std.specs.List.{AllZip, AllByRecursion}
use Rattle.std.specs.Result.{IfOk}
use Rattle.std.specs.Str.{bytes_eq}
use Rattle.std.specs.HashMap.{get}
use Rattle.std.proofs.lemmas.Bool.{cases_lt}
use Rattle.std.proofs.lemmas.Nat.{pow_pos}
use Rattle.lrp_model.specs.Texts.{Text, Identifier, in_order}
use Rattle.lrp_model.specs.Rows.{rows_of}
use Rattle.lrp_model.specs.Formulas.{Form, Question}
use Rattle.lrp_model.specs.Variables.{Variable, free, head_variables}
use Rattle.lrp_model.specs.Satisfaction.{Structure, structure}
use Rattle.lrp_model.specs.Core.{core_form, guarded, has_named_sort, HasElements}
use Rattle.lrp_model.specs.Domains.{database_texts, all_texts}
use Rattle.lrp_theory.specs.Divides.{IsCommon}
use Rattle.lrp_theory.proofs.Modulo.{Divides-self}
use Rattle.lrp_model.specs.Periods.{lcm_all, periods, period}
use Rattle.lrp_model.specs.Steps.{PlanStep, Steps}
use Rattle.lrp_model.specs.Plans.{plan, plan_of, query_reach, scaled_reach, IsStep}
use Rattle.lrp_model.specs.Sorts.{time_count}
use Rattle.lrp_model.specs.declared.relations.Relation.{Relation}
use Rattle.lrp_model.specs.declared.relations.Column.{Column}
use Rattle.lrp_model.specs.declared.relations.Sort.{Sort}
use Rattle.lrp_model.proofs.Logic.{all_append}
use Rattle.lrp_plan_laws.specs.Rising.{HasPeriods}
use Rattle.lrp_plan_laws.proofs.Marks.{marks, marked_periods}
use Rattle.lrp_plan_laws.proofs.Names.{names_self}
use Rattle.lrp_plan_laws.proofs.Members.{all_self}
use Rattle.lrp_plan_laws.proofs.CoreNames.{core_named, guarded_within, guarded_body}
use Rattle.lrp_plan_laws.proofs.PeriodLaws.{lcm_all_is, lcm_positive}
use Rattle.lrp_plan_laws.proofs.PlanSound.{core_of_query}
use Rattle.lrp_database.specs.Once.{once, texts_among, texts_with}
use Rattle.lrp_database.proofs.OnceLaws.{once_in_order}
use Rattle.lrp_plan.specs.declared.drafts.Draft.{Draft}
use Rattle.lrp_plan.specs.declared.sources.Sources.{Sources}
use Rattle.lrp_limits.specs.Capped.{capped}
use Rattle.lrp_plan.specs.Drafts.{IsDraft, IsDraftOf, Extends, with_head_step}
use Rattle.lrp_plan.specs.Elements.{CanPlan}
use Rattle.lrp_limits.specs.Facts.{KeepsMultiples}
use Rattle.lrp_limits.specs.Multiples.{IsPeriod, IsLeastWithinLimit, IsPeriodOf}
use Rattle.lrp_model.specs.declared.plans.Plan.{Plan}
use Rattle.lrp_limits.specs.declared.periods.Period.{Period}
use Rattle.lrp_plan.specs.declared.planning.PlanFault.{PlanFault}
use Rattle.lrp_plan.specs.declared.planning.PlanFault.TheVariants.{PeriodLimit, BoundLimit, Memory}
use Rattle.lrp_plan.specs.Domains.{AreDomains}
use Rattle.lrp_plan.specs.Planning.{IsWholeDraft, AreGathered, IsOutcome}
use Rattle.lrp_plan.specs.Sources.{AreFactsOf, AreSources}
use Rattle.lrp_plan.proofs.Finished.{finished, none_above}
use Rattle.lrp_limits.proofs.Keeping.{least_is, least_of_none}
use Rattle.lrp_limits.proofs.Raised.{common_from, least_from}

-- ---- what is read

-- the texts of the database and of the query are all texts, and so those of each sort
pub sources_are : (db : List Relation) (q : Question) (sources : Sources) → ((name : Identifier) → AreFactsOf (rows_of db name) (get bytes_eq sources.facts name)) → AreDomains (database_texts sources.database.now) sources.texts.items sources.domains → database_texts sources.database.now ++ sources.texts.items ≡ all_texts db q → AreSources (structure db q) sources
sources_are db q sources h d e = record { facts_are = h; domains_are = d; texts_are = λ s. ap (λ xs. in_order (texts_with s xs)) (sym e) }

-- texts of two lists of entries
among_both : (xs ys : List (Sort × Text)) → texts_among (xs ++ ys) ≡ texts_among xs ++ texts_among ys
among_both [] ys = refl
among_both (x ∷ xs) ys = ap (λ ts. x.1 ∷ ts) (among_both xs ys)

-- the constants, where those of the database stand once
pub constants_made : {E : Type 0} (r : Result (List Text) E) (all : List Text) (xs ys : List (Sort × Text)) → all ≡ once (texts_among xs) ++ texts_among ys → IfOk r (λ made. made ≡ in_order all) → IfOk r (λ made. made ≡ in_order (texts_among (xs ++ ys)))
constants_made (Ok made) all xs ys e m = m ∙ ap in_order e ∙ once_in_order (texts_among xs) (texts_among ys) ∙ ap in_order (sym (among_both xs ys))
constants_made (Err x) all xs ys e m = tt

-- ---- the periods of the core form

-- the formula with the head's sort elements names the body's periods
head_in_body : (named : Bool) (q : Question) (db : List Relation) → AllByRecursion (Contains (periods q.body db)) (periods (guarded named q.head q.body) db)
head_in_body named q db =
    let room : List Variable = head_variables q.head ++ free q.body in
    let two = (all_append (Contains room) (head_variables q.head) (free q.body)).0 (all_self room) in
    marked_periods (guarded named q.head q.body) q.body db (guarded_within named q db room (marks q.body db) two.0 (two.1, all_self (marks q.body db))).1

-- and the other way round
body_in_head : (named : Bool) (q : Question) (db : List Relation) → AllByRecursion (Contains (periods (guarded named q.head q.body) db)) (periods q.body db)
body_in_head named q db =
    let f : Form = guarded named q.head q.body in
    marked_periods q.body f db (guarded_body named q db (free f) (marks f db) (names_self db f)).1

-- the core form names those of that formula
core_in_head : (named : Bool) (q : Question) (db : List Relation) → AllByRecursion (Contains (periods (guarded named q.head q.body) db)) (periods (core_form named q) db)
core_in_head named q db =
    let f : Form = guarded named q.head q.body in
    marked_periods (core_form named q) f db ((core_named named q db (free f) (marks f db)).1 (names_self db f)).1

-- and the other way round
head_in_core : (named : Bool) (q : Question) (db : List Relation) → AllByRecursion (Contains (periods (core_form named q) db)) (periods (guarded named q.head q.body) db)
head_in_core named q db =
    let f : Form = core_form named q in
    marked_periods (guarded named q.head q.body) f db ((core_named named q db (free f) (marks f db)).0 (names_self db f)).1

-- the least common multiple is a common one
pub common_self : (ks : List ℕ) (k : ℕ) → IsLeastWithinLimit ks k → IsCommon ks k
common_self ks k least = (least.multiples k).0 (Divides-self (pos k))

-- the period of the core form is the query's, so that is at most 2^62
pub low_period : (db : List Relation) (q : Question) (k : ℕ) → IsLeastWithinLimit (periods (core_form (has_named_sort db) q) db) k → period db q.body ≤ 2 ^ 62
low_period db q k least =
    let named : Bool = has_named_sort db in
    let head : IsLeastWithinLimit (periods (guarded named q.head q.body) db) k = least_from (periods (core_form named q) db) (periods (guarded named q.head q.body) db) k (head_in_core named q db) (core_in_head named q db) least in
    let body : IsLeastWithinLimit (periods q.body db) k = least_from (periods (guarded named q.head q.body) db) (periods q.body db) k (body_in_head named q db) (head_in_body named q db) head in
    let high : k ≤ 2 ^ 62 = body.period.high in
    subst (λ x. x ≤ 2 ^ 62) (least_is (periods q.body db) k body) high

-- where the core form has none up to 2^62, the query's is above
pub high_period : (db : List Relation) (q : Question) → HasPeriods db q → IsPeriodOf (periods (core_form (has_named_sort db) q) db) None → 2 ^ 62 < period db q.body
high_period db q h none =
    let named : Bool = has_named_sort db in
    let ks : List ℕ = periods q.body db in
    ⊎_elim (λ lt. lt)
    (λ le. absurd (none (lcm_all ks) (record { low = lcm_positive ks h; high = le })
    (common_from (periods (guarded named q.head q.body) db) (periods (core_form named q) db) (lcm_all ks) (core_in_head named q db)
    (common_from ks (periods (guarded named q.head q.body) db) (lcm_all ks) (head_in_body named q db) (lcm_all_is ks h).common))))
    (cases_lt (2 ^ 62) (lcm_all ks))

-- ---- the draft

-- from the period 1 on, the period of a core form
pub from_one : (ks : List ℕ) (old new : Option ℕ) → KeepsMultiples ks old new → old ≡ Some 1 → IsPeriodOf ks new
from_one ks old new h e = h.keeps [] (subst (IsPeriodOf []) (sym e) least_of_none)

-- no steps are a draft of no plan
pub starts : (db : List Relation) (K : ℕ) (start : Draft) → start.steps ≡ [] → start.last.number ≡ 0 → start.last.period.number ≡ 1 → start.last.reach ≡ 0 → IsPeriod K → IsDraft db K start []
starts db K start s n p r whole = record {
  whole = whole;
  steps = subst (λ xs. AllZip IsDraftOf xs []) (sym s) tt;
  last = record { within = omega arith; number = n; period = subst (IsLeastWithinLimit []) (sym p) least_of_none; reach = r; divides = tt };
}

-- the steps of the core form, and then the last one
pub whole_follows : (sources : Sources) (f : Form) (k : ℕ) (start mid new : Draft) → start.steps ≡ [] → start.last.number ≡ 0 → start.last.period.number ≡ 1 → start.last.reach ≡ 0
    → ((M : Structure) (K : ℕ) → AreSources M sources → CanPlan M K f → Extends M K (plan_of f) start mid)
    → ((M : Structure) (K : ℕ) (g : Form) → IsLeastWithinLimit (periods g M.relations) k → IsCommon (periods g M.relations) K → Extends M K (with_head_step g) mid new)
    → IsWholeDraft sources f k new
whole_follows sources f k start mid new s n p r core head =
    record { follows = λ M K g a c whole least common. (head M K g least common).follows (plan_of f M []) ((core M K a c).follows [] (starts M.relations K start s n p r whole)) }

-- the period of the core form is that of the formula with the head's sort elements
pub head_least : (db : List Relation) (q : Question) (f : Form) (k : ℕ) → f ≡ core_form (has_named_sort db) q → IsLeastWithinLimit (periods f db) k → IsLeastWithinLimit (periods (guarded (has_named_sort db) q.head q.body) db) k
head_least db q f k e least =
    let named : Bool = has_named_sort db in
    least_from (periods (core_form named q) db) (periods (guarded named q.head q.body) db) k (head_in_core named q db) (core_in_head named q db) (subst (λ x. IsLeastWithinLimit (periods x db) k) e least)

-- a core form of a query, whose periods divide its own
pub can_plan_query : (db : List Relation) (q : Question) (f : Form) (k : ℕ) → HasElements q.body → f ≡ core_form (has_named_sort db) q → IsLeastWithinLimit (periods f db) k → CanPlan (structure db q) k f
can_plan_query db q f k h e least = subst (CanPlan (structure db q) k) (sym e) (record { core = core_of_query (has_named_sort db) q h; divides = common_self (periods (core_form (has_named_sort db) q) db) k (subst (λ x. IsLeastWithinLimit (periods x db) k) e least) })

-- the draft of the query's core form is that of its plan
pub draft_is : (db : List Relation) (q : Question) (sources : Sources) (f : Form) (k : ℕ) (draft : Draft) → HasElements q.body → AreSources (structure db q) sources → f ≡ core_form (has_named_sort db) q → IsLeastWithinLimit (periods f db) k → IsWholeDraft sources f k draft → IsDraft db k draft (plan db q)
draft_is db q sources f k draft h a e least w =
    let M : Structure = structure db q in
    let g : Form = guarded (has_named_sort db) q.head q.body in
    let m : IsLeastWithinLimit (periods g db) k = head_least db q f k e least in
    subst (λ x. IsDraft db k draft (with_head_step g M (plan_of x M []))) e (w.follows M k g a (can_plan_query db q f k h e least) m.period m (common_self (periods g db) k m))

-- its last reach, doubled, is the query's up to 2^62 + 1
pub reach_is : (db : List Relation) (q : Question) (k r : ℕ) (draft : Draft) (planned : Steps) → IsDraft db k draft planned → ((n : ℕ) → draft.last.reach ≡ capped n → r ≡ capped (2 ^ (time_count q.head + 1) * n)) → r ≡ capped (scaled_reach planned q)
reach_is db q k r draft planned d h = h (query_reach planned) d.last.reach

-- a power of 2 is at least 1
doubled_up : (m n : ℕ) → n ≤ 2 ^ (m + 1) * n
doubled_up m n = times (2 ^ (m + 1)) (some m)
  where
    some : (m : ℕ) → 1 ≤ 2 ^ (m + 1)
    some m = let p = pow_pos (m + 1) in omega (arith, p)

    times : (t : ℕ) → 1 ≤ t → n ≤ t * n
    times zero h = absurd (omega arith)
    times (suc t) h = omega arith

-- where that is at most 2^62, the steps are the plan's
pub steps_are : (db : List Relation) (q : Question) (k r : ℕ) (draft : Draft) (planned : Steps) → ((i : ℕ) (p : PlanStep) → slice_get planned i ≡ Some p → p.reach ≤ query_reach planned) → IsDraft db k draft planned → r ≡ capped (scaled_reach planned q) → r ≤ 2 ^ 62 → AllZip IsStep draft.steps planned
steps_are db q k r draft planned below d e low =
    let s : scaled_reach planned q ≤ 2 ^ 62 = omega arith in
    let u : query_reach planned ≤ scaled_reach planned q = doubled_up (time_count q.head) (query_reach planned) in
    finished db k draft planned below (omega arith) d

-- the reach, doubled for the columns that are read, is that for the head's
pub same_head : (cs head : List Column) (r reach : ℕ) → cs ≡ head → ((n : ℕ) → reach ≡ capped n → r ≡ capped (2 ^ (time_count cs + 1) * n)) → (n : ℕ) → reach ≡ capped n → r ≡ capped (2 ^ (time_count head + 1) * n)
same_head cs head r reach e h n is = h n is ∙ ap (λ xs. capped (2 ^ (time_count xs + 1) * n)) e

-- ---- outcomes

-- without a period up to 2^62
pub no_period : (planned : Steps) (db : List Relation) (q : Question) (sources : Sources) (f : Form) (o : Option Period) → o ≡ None → ((M : Structure) → AreSources M sources → IsPeriodOf (periods f M.relations) (option_map (λ p. p.number) o)) → AreGathered db q sources f → IsOutcome planned db q (Err PeriodLimit)
no_period planned db q sources f o e h g =
    high_period db q g.periods (subst (λ x. IsPeriodOf (periods x db) None) g.core (subst (λ x. IsPeriodOf (periods f db) (option_map (λ (p : Period). p.number) x)) e (h (structure db q) g.gathered)))

-- the period that was found is the core form's
pub least_found : (db : List Relation) (q : Question) (sources : Sources) (f : Form) (o : Option Period) (p : Period) → o ≡ Some p → ((M : Structure) → AreSources M sources → IsPeriodOf (periods f M.relations) (option_map (λ p. p.number) o)) → AreGathered db q sources f → IsLeastWithinLimit (periods f db) p.number
least_found db q sources f o p e h g = subst (λ x. IsPeriodOf (periods f db) (option_map (λ (p : Period). p.number) x)) e (h (structure db q) g.gathered)

-- above the limit of reaches
pub far_outcome : (planned : Steps) (db : List Relation) (q : Question) (sources : Sources) (f : Form) (k : ℕ) (draft : Draft) (r : ℕ) → IsLeastWithinLimit (periods f db) k → IsDraft db k draft planned
    → ((n : ℕ) → draft.last.reach ≡ capped n → r ≡ capped (2 ^ (time_count q.head + 1) * n)) → 2 ^ 62 < r → AreGathered db q sources f → IsOutcome planned db q (Err BoundLimit)
far_outcome planned db q sources f k draft r least d s far g =
    let c : r ≡ capped (scaled_reach planned q) = reach_is db q k r draft planned d s in
    (low_period db q k (subst (λ x. IsLeastWithinLimit (periods x db) k) g.core least), omega arith)

-- within the limits
pub near_outcome : (planned : Steps) (db : List Relation) (q : Question) (sources : Sources) (f : Form) (k : ℕ) (draft : Draft) (r : ℕ) (made : Plan) → IsLeastWithinLimit (periods f db) k → IsDraft db k draft planned
    → ((n : ℕ) → draft.last.reach ≡ capped n → r ≡ capped (2 ^ (time_count q.head + 1) * n)) → r ≤ 2 ^ 62 → ((i : ℕ) (p : PlanStep) → slice_get planned i ≡ Some p → p.reach ≤ query_reach planned)
    → made.steps ≡ draft.steps → made.head.columns ≡ q.head → made.domain ≡ in_order (texts_among (database_texts sources.database.now ++ sources.texts.items)) → AreGathered db q sources f → IsOutcome planned db q (Ok made)
near_outcome planned db q sources f k draft r made least d s low below steps head domain g =
    let c : r ≡ capped (scaled_reach planned q) = reach_is db q k r draft planned d s in (
      record { steps = subst (λ xs. AllZip IsStep xs planned) (sym steps) (steps_are db q k r draft planned below d c low); head = head; domain = domain ∙ ap (λ xs. in_order (texts_among xs)) g.texts },
      record { period = low_period db q k (subst (λ x. IsLeastWithinLimit (periods x db) k) g.core least); reach = omega arith },
    )

-- both of the plan as it is written
pub far_reach : (db : List Relation) (q : Question) (sources : Sources) (f : Form) (o : Option Period) (p : Period) (draft : Draft) (r : ℕ) → o ≡ Some p → ((M : Structure) → AreSources M sources → IsPeriodOf (periods f M.relations) (option_map (λ p. p.number) o)) → IsWholeDraft sources f p.number draft
    → ((n : ℕ) → draft.last.reach ≡ capped n → r ≡ capped (2 ^ (time_count q.head + 1) * n)) → 2 ^ 62 < r → AreGathered db q sources f → IsOutcome (plan db q) db q (Err BoundLimit)
far_reach db q sources f o p draft r e h w s far g =
    let least : IsLeastWithinLimit (periods f db) p.number = least_found db q sources f o p e h g in
    far_outcome (plan db q) db q sources f p.number draft r least (draft_is db q sources f p.number draft g.elements g.gathered g.core least w) s far g

pub near_reach : (db : List Relation) (q : Question) (sources : Sources) (f : Form) (o : Option Period) (p : Period) (draft : Draft) (r : ℕ) (made : Plan) → o ≡ Some p → ((M : Structure) → AreSources M sources → IsPeriodOf (periods f M.relations) (option_map (λ p. p.number) o)) → IsWholeDraft sources f p.number draft
    → ((n : ℕ) → draft.last.reach ≡ capped n → r ≡ capped (2 ^ (time_count q.head + 1) * n)) → r ≤ 2 ^ 62
    → made.steps ≡ draft.steps → made.head.columns ≡ q.head → made.domain ≡ in_order (texts_among (database_texts sources.database.now ++ sources.texts.items)) → AreGathered db q sources f → IsOutcome (plan db q) db q (Ok made)
near_reach db q sources f o p draft r made e h w s low steps head domain g =
    let least : IsLeastWithinLimit (periods f db) p.number = least_found db q sources f o p e h g in
    near_outcome (plan db q) db q sources f p.number draft r made least (draft_is db q sources f p.number draft g.elements g.gathered g.core least w) s low (none_above db q g.elements g.periods) steps head domain g
