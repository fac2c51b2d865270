-- Tables of parts that are still those of a new plan's steps.
use Rattle.std.proofs.Common.{Bor, ◌≡◌, ◌≢◌, ◌↔◌, ◌⊎◌, inl, inr, ⊎_elim, ◌<◌, ◌≤◌, ◌+◌, ℕ, zero, suc, List, [], ◌∷◌, ◌++◌, length, get_or, Option, Some, None, slice_get, unwrap_or, option_map, Contains, refl, sym, ap, ap₂, subst, ◌∙◌, arith}
use Rattle.std.specs.Prelude.{pos, ℤ, IfSome, MatchOption}
use Rattle.std.specs.Option.{option_copied}
use Rattle.std.specs.List.{AllByRecursion, HoldsAt}
use Rattle.std.proofs.lemmas.Option.{slice_get_past, slice_get_read}
use Rattle.std.proofs.lemmas.Int.{ints}
use Rattle.lrp_model.specs.Texts.{Identifier, Text}
use Rattle.lrp_model.specs.Caps.{ManyAt, step_variables, variables_with}
use Rattle.lrp_model.specs.Domains.{constants}
use Rattle.lrp_model.specs.Formulas.{Form, Question, conjunction, no_forms}
use Rattle.lrp_model.specs.Plans.{IsStep}
use Rattle.lrp_model.specs.Satisfaction.{Assignment, Satisfies, structure}
use Rattle.lrp_model.specs.Steps.{PlanStep, Steps, formula_at, reach_at, step_at}
use Rattle.lrp_model.specs.Variables.{Variable, free}
use Rattle.lrp_model.specs.declared.relations.Column.{Column}
use Rattle.lrp_model.specs.declared.relations.Relation.{Relation}
use Rattle.lrp_model.specs.declared.formulas.Term.{Term}
use Rattle.lrp_model.specs.declared.plans.Plan.{Plan}
use Rattle.lrp_model.specs.declared.plans.Step.{Step}
use Rattle.lrp_model.specs.declared.plans.StepKind.{StepKind}
use Rattle.lrp_model.specs.declared.plans.StepKind.TheVariants.{Scan, Leaf, Sort as SortStep, Join, Select, Union, Minus, Complement, DropTime, DropData, Extend}
use Rattle.lrp_plan_laws.specs.Made.{IsEarlier, IsStepFormula, head_step, operands}
use Rattle.lrp_plan_laws.specs.Rising.{period_at}
use Rattle.lrp_plan_laws.proofs.Elements.{within}
use Rattle.lrp_store.specs.Stores.{HasReach}
use Rattle.lrp_store.specs.Tables.{AreNumbered}
use Rattle.lrp_tables.specs.Tables.{HasAssignment}
use Rattle.lrp_tables.specs.declared.table.Table.{Table}
use Rattle.lrp_tables.specs.Caps.{Inhabits}
use Rattle.lrp_model.specs.Cells.{Differ, Many}
use Rattle.lrp_eval.specs.Known.{AreKnownOver, AreKnownParts, IsKnownPart}
use Rattle.lrp_eval.specs.Planned.{IsPlanOf, IsSomePlan}
use Rattle.lrp_edits.specs.declared.edits.Edit.{Edit}
use Rattle.lrp_model.proofs.Decided.{cons_cases, contains_none}
use Rattle.lrp_plan_laws.proofs.Members.{all_by}
use Rattle.lrp_eval.specs.Running.{HasConstants, IsStepTable, SameVariables, variables_at, variables_of}
use Rattle.lrp_eval.specs.declared.known.PartTable.{PartTable}
use Rattle.lrp_eval.specs.declared.known.PlanPart.{PlanPart}
use Rattle.lrp_eval.proofs.Counted.{many_at}
use Rattle.lrp_eval.proofs.LoopLaws.{step_here, zip_length}
use Rattle.lrp_eval.proofs.Named.{all_of}
use Rattle.lrp_watch.specs.Keeping.{AreSameSteps, AreAloneSteps, IsAloneStep, IsChangedAt, IsKeptAs, IsKeptFor, IsKeptBefore, IsKeptOver, HasKnownTables, IsNoScanOf, IsOtherThan, IsStillKept}
use Rattle.lrp_watch.specs.declared.keeping.Kept.{Kept}
use Rattle.lrp_watch.proofs.SameSteps.{IsSame, SaysForSome, same_kind}

there_is : {X : Type 0} (xs : List X) (i : ℕ) → i < length xs → (x : X) × (slice_get xs i ≡ Some x)
there_is [] i lt = absurd (omega arith)
there_is (x ∷ xs) zero lt = (x, refl)
there_is (x ∷ xs) (suc i) lt = there_is xs i (omega arith)

below_or_same : (s n : ℕ) → s ≤ suc n → (s ≤ n) ⊎ (s ≡ suc n)
below_or_same zero n h = inl (omega arith)
below_or_same (suc s) zero h = inr (omega arith)
below_or_same (suc s) (suc n) h = ⊎_elim (λ l. inl (omega (arith, l))) (λ e. inr (ap suc e)) (below_or_same s n (omega (arith, h)))

same_positive : (a b : ℕ) (z : ℤ) → z ≡ pos a → z ≡ pos b → a ≡ b
same_positive a b z e d = let f : pos a ≡ pos b = sym e ∙ d in omega (arith, ints, f)

-- the cells of a step that is not the last one are over its own variables
plain : (k : StepKind) (cs : List Column) (vs : List Variable) → ((of : ℕ) → k ≡ Extend of → ⊥) → variables_with k cs vs ≡ vs
plain (Scan name terms) cs vs h = refl
plain (Leaf t) cs vs h = refl
plain (SortStep v s ts) cs vs h = refl
plain (Join l r tests) cs vs h = refl
plain (Select of t) cs vs h = refl
plain (Union l r) cs vs h = refl
plain (Minus l r) cs vs h = refl
plain (Complement of) cs vs h = refl
plain (DropTime of v) cs vs h = refl
plain (DropData of v) cs vs h = refl
plain (Extend of) cs vs h = absurd (h of refl)

module _ (before planned : Steps) (old db : List Relation) (p q : Question) (from to : Plan) (h : IsPlanOf before old p from) (k : IsPlanOf planned db q to) (domains : from.domain ≡ to.domain)
    (part : PlanPart) (name : Identifier) (same : AreSameSteps part from.steps to.steps) (alone : AreAloneSteps name part to.steps) (changed : IsChangedAt name old db) where
  constants_are : constants old p ≡ constants db q
  constants_are = sym h.is.domain ∙ domains ∙ k.is.domain

  -- a step of the part in both plans
  record IsBoth (i : ℕ) : Type 0 where
    pub step : Step
    pub first : PlanStep
    pub second : PlanStep
    pub at : slice_get to.steps i ≡ Some step
    pub first_at : slice_get before i ≡ Some first
    pub second_at : slice_get planned i ≡ Some second
    pub first_is : IsStep step first
    pub second_is : IsStep step second

  both : (i : ℕ) → part.before ≤ i → i < part.until → IsBoth i
  both i low high =
      let inside : part.until < length from.steps = same.inside in
      let x = there_is from.steps i (omega (arith, inside, high)) in
      let here : slice_get to.steps i ≡ Some x.0 = same.same i low high ∙ x.1 in
      let a = step_here before old p 0 from i x.0 h x.1 in
      let b = step_here planned db q 0 to i x.0 k here in
      record { step = x.0; first = a.0; second = b.0; at = here; first_at = a.1; second_at = b.1; first_is = a.2; second_is = b.2 }

  kinds : (i : ℕ) (b : IsBoth i) → b.first.kind ≡ b.second.kind
  kinds i b = sym b.first_is.kind ∙ b.second_is.kind

  not_last : (i : ℕ) → i < part.until → (b : IsBoth i) → (of : ℕ) → b.first.kind ≡ Extend of → ⊥
  not_last i high b of e =
      let last : suc i ≡ length before = (h.sound.each (suc i) b.first b.first_at).head of e in
      let size : length from.steps ≡ length before = zip_length from.steps before h.is.steps in
      let inside : part.until < length from.steps = same.inside in
      omega (arith, last, size, inside, high)

  abbrev IsSameAt : ℕ → Type 0
  IsSameAt s = IsSame (structure old p) (structure db q) (formula_at before s) (formula_at planned s)

  -- each step of the part means the same in both, since what it reads does
  same_up_to : (n s : ℕ) → s ≤ n → part.before < s → s ≤ part.until → IsSameAt s
  same_up_to n zero le low high = absurd (omega (arith, low))
  same_up_to zero (suc i) le low high = absurd (omega (arith, le))
  same_up_to (suc n) (suc i) le low high =
      let b : IsBoth i = both i (omega (arith, low)) (omega (arith, high)) in
      let x = h.sound.each (suc i) b.first b.first_at in
      let y = k.sound.each (suc i) b.second b.second_at in
      let kind : b.first.kind ≡ b.second.kind = kinds i b in
      let own : IsAloneStep name part.before b.step.kind = alone i b.step (omega (arith, low)) (omega (arith, high)) b.at in
      let f : formula_at before (suc i) ≡ b.first.formula = ap (λ o. unwrap_or (option_map (λ (step : PlanStep). step.formula) o) (conjunction no_forms)) b.first_at in
      let g : formula_at planned (suc i) ≡ b.second.formula = ap (λ o. unwrap_or (option_map (λ (step : PlanStep). step.formula) o) (conjunction no_forms)) b.second_at in
      subst (λ z. IsSame (structure old p) (structure db q) z (formula_at planned (suc i))) (sym f) (subst (λ z. IsSame (structure old p) (structure db q) b.first.formula z) (sym g)
      (same_kind (structure old p) (structure db q) (head_step before old p) (head_step planned db q) (formula_at before) (formula_at planned) (constants old p) b.first.kind b.first.formula b.second.formula
      (λ l c.
      let early : IsEarlier (suc i) l = all_of (IsEarlier (suc i)) (operands b.first.kind) l x.made.earlier c in
      let after : IsOtherThan l part.before = own.reads l (subst (λ z. Contains (operands z) l) (sym b.first_is.kind) c) in
      let late : part.before < l = ⊎_elim (λ e. absurd (let e1 : l ≡ 0 = e in let e2 : 0 < l = early.0 in omega (arith, e1, e2))) (λ z. z) after in
      let less : l < suc i = early.1 in
      same_up_to n l (omega (arith, less, le)) late (omega (arith, less, high)))
      (λ other terms e. changed other (λ is. own.scans terms (b.first_is.kind ∙ e ∙ ap (λ z. Scan z terms) is)))
      (not_last i (omega (arith, high)) b)
      (λ of v e. x.drops of v e)
      (λ of v e. subst (λ ts. SaysForSome (structure db q) ts v (formula_at planned of) b.second.formula) (sym constants_are) (y.drops of v (sym kind ∙ e)))
      x.made.formula
      (subst (λ z. IsStepFormula (structure db q) (head_step planned db q) (formula_at planned) z b.second.formula) (sym kind) y.made.formula)))

  -- a step of the part has more than cap cells in both plans or in none
  many_back : (cap s : ℕ) → part.before < s → s ≤ part.until → ManyAt planned db q cap s → ManyAt before old p cap s
  many_back cap zero low high m = absurd (omega (arith, low))
  many_back cap (suc i) low high m =
      let b : IsBoth i = both i (omega (arith, low)) (omega (arith, high)) in
      let kind : b.first.kind ≡ b.second.kind = kinds i b in
      let last : (of : ℕ) → b.first.kind ≡ Extend of → ⊥ = not_last i (omega (arith, high)) b in
      let means : IsSameAt (suc i) = same_up_to (suc i) (suc i) (omega arith) low high in
      let f : formula_at before (suc i) ≡ b.first.formula = ap (λ o. unwrap_or (option_map (λ (step : PlanStep). step.formula) o) (conjunction no_forms)) b.first_at in
      let g : formula_at planned (suc i) ≡ b.second.formula = ap (λ o. unwrap_or (option_map (λ (step : PlanStep). step.formula) o) (conjunction no_forms)) b.second_at in
      let own : IsSame (structure old p) (structure db q) b.first.formula b.second.formula = subst (λ z. IsSame (structure old p) (structure db q) z b.second.formula) f (subst (λ z. IsSame (structure old p) (structure db q) (formula_at before (suc i)) z) g means) in
      let vs = free b.second.formula in
      let set = λ (env : Assignment). Satisfies b.second.formula (structure db q) env in
      let mine : step_variables q.head b.second ≡ vs = plain b.second.kind q.head vs (λ of e. last of (kind ∙ e)) in
      let theirs : step_variables p.head b.first ≡ free b.first.formula = plain b.first.kind p.head (free b.first.formula) last in
      let periods : b.first.period ≡ b.second.period = same_positive b.first.period b.second.period b.step.period b.first_is.period b.second_is.period in
      let held : Many (Differ vs) (Inhabits (constants db q) b.second.period vs set) cap = (many_at planned db q vs set b.second (suc i) cap b.second_at (subst (λ ws. SameVariables vs ws) (sym mine) (λ v. ((λ c. c), λ c. c))) (λ env h. ((λ x. x), λ x. x))).1 m in
      (many_at before old p vs set b.first (suc i) cap b.first_at (subst (λ ws. SameVariables vs ws) (sym theirs) (λ v. ((own.variables v).1, (own.variables v).0)))
      (λ env h. ((own.means env).1, (own.means env).0))).0
      (subst (λ ts. Many (Differ vs) (Inhabits ts b.first.period vs set) cap) (sym constants_are) (subst (λ n. Many (Differ vs) (Inhabits (constants db q) n vs set) cap) (sym periods) held))

  -- the table of a step of the part is that of the same step in the other plan
  table_still : (cap s : ℕ) (table : Table) → part.before < s → s ≤ part.until → IsStepTable before old p cap s table → IsStepTable planned db q cap s table
  table_still cap zero table low high run = absurd (omega (arith, low))
  table_still cap (suc i) table low high run =
      let b : IsBoth i = both i (omega (arith, low)) (omega (arith, high)) in
      let kind : b.first.kind ≡ b.second.kind = kinds i b in
      let last : (of : ℕ) → b.first.kind ≡ Extend of → ⊥ = not_last i (omega (arith, high)) b in
      let means : IsSameAt (suc i) = same_up_to (suc i) (suc i) (omega arith) low high in
      let f : formula_at before (suc i) ≡ b.first.formula = ap (λ o. unwrap_or (option_map (λ (step : PlanStep). step.formula) o) (conjunction no_forms)) b.first_at in
      let g : formula_at planned (suc i) ≡ b.second.formula = ap (λ o. unwrap_or (option_map (λ (step : PlanStep). step.formula) o) (conjunction no_forms)) b.second_at in
      let theirs : variables_at before p (suc i) ≡ free (formula_at before (suc i)) = ap (λ o. unwrap_or (option_map (step_variables p.head) o) []) b.first_at ∙ plain b.first.kind p.head (free b.first.formula) last ∙ ap free (sym f) in
      let mine : variables_at planned q (suc i) ≡ free (formula_at planned (suc i)) = ap (λ o. unwrap_or (option_map (step_variables q.head) o) []) b.second_at ∙ plain b.second.kind q.head (free b.second.formula) (λ of e. last of (kind ∙ e)) ∙ ap free (sym g) in
      let periods : period_at before (suc i) ≡ period_at planned (suc i) = ap (λ o. unwrap_or (option_map (λ (step : PlanStep). step.period) o) 1) b.first_at ∙ same_positive b.first.period b.second.period b.step.period b.first_is.period b.second_is.period ∙ sym (ap (λ o. unwrap_or (option_map (λ (step : PlanStep). step.period) o) 1) b.second_at) in
      let reaches : reach_at before (suc i) ≡ reach_at planned (suc i) = ap (λ o. unwrap_or (option_map (λ (step : PlanStep). step.reach) o) 0) b.first_at ∙ same_positive b.first.reach b.second.reach b.step.reach b.first_is.reach b.second_is.reach ∙ sym (ap (λ o. unwrap_or (option_map (λ (step : PlanStep). step.reach) o) 0) b.second_at) in
      record {
        variables = λ v.
            let x = subst (λ ws. SameVariables (variables_of table) ws) theirs run.variables v in
            let y = means.variables v in
            subst (λ ws. Contains (variables_of table) v ↔ Contains ws v) (sym mine) ((λ c. y.0 (x.0 c)), λ c. x.1 (y.1 c));
        means = λ env known.
            let was : HasConstants (constants old p) (variables_of table) env = subst (λ ts. HasConstants ts (variables_of table) env) (sym constants_are) known in
            let x = run.means env was in
            let y = means.means env in (
              (λ z. y.0 (x.0 (subst (λ ts. HasAssignment table ts env) (sym constants_are) z))),
              λ z. subst (λ ts. HasAssignment table ts env) constants_are (x.1 (y.1 z)),
            );
        numbered = subst (λ ts. AreNumbered ts table.store) constants_are run.numbered;
        period = run.period ∙ periods;
        reach = subst (λ n. HasReach table.store n) reaches run.reach;
        few = λ m. run.few (many_back cap (suc i) low high m);
        order = λ step of at is. absurd (last of (kind ∙ ap (λ (x : PlanStep). x.kind) (let e : Some b.second ≡ Some step = sym b.second_at ∙ at in let d : b.second ≡ step = cc in d) ∙ is));
      }

  pub still_known_part : (cap : ℕ) (known : PartTable) → known.part ≡ part → IsKnownPart before old p cap known → IsKnownPart planned db q cap known
  still_known_part cap known is was = record {
    run = table_still cap known.part.until known.table (let l : part.before < part.until = same.some in let e : known.part.until ≡ part.until = ap (λ (x : PlanPart). x.until) is in omega (arith, l, e)) (let e : known.part.until ≡ part.until = ap (λ (x : PlanPart). x.until) is in omega (arith, e)) was.run;
    few = λ s low high m.
        let e : known.part.until ≡ part.until = ap (λ (x : PlanPart). x.until) is in
        let d : known.part.before ≡ part.before = ap (λ (x : PlanPart). x.before) is in
        was.few s low high (many_back cap s (omega (arith, low, d)) (omega (arith, high, e)) m);
  }

-- a table that was kept is known for a plan that has the same part
pub kept_known : (cap : ℕ) (old db : List Relation) (k : Kept) (to : Plan) (known : PartTable) → HasKnownTables cap old k → IsChangedAt k.edited old db → k.plan.domain ≡ to.domain → Contains k.tables known → AreSameSteps known.part k.plan.steps to.steps → AreAloneSteps k.edited known.part to.steps
    → (planned : Steps) (q : Question) → IsPlanOf planned db q to → IsKnownPart planned db q cap known
kept_known cap old db k to known over changed domains held same alone planned q is =
    still_known_part over.plan.planned planned old db over.plan.query q k.plan to over.plan.is is domains known.part k.edited same alone changed cap known refl
    (all_of (IsKnownPart over.plan.planned old over.plan.query cap) k.tables known (over.known over.plan.planned over.plan.query over.plan.is) held)

pub all_known : (cap : ℕ) (db : List Relation) (k : Kept) (to : Plan) (known : List PartTable) → k.plan.domain ≡ to.domain → AllByRecursion (IsStillKept k.tables k.edited k.plan.steps to.steps) known → IsKeptAs cap db k → AreKnownOver db to cap known
all_known cap db k to known domains all kept planned q is =
    all_by (IsKnownPart planned db q cap) known (λ t c.
    let s = all_of (IsStillKept k.tables k.edited k.plan.steps to.steps) known t all c in
    kept_known cap kept.old db k to t kept.known kept.changed domains s.held s.same s.alone planned q is)

pub still_more : (tables : List PartTable) (edited : Identifier) (old new : List Step) (table : PartTable) (known more : List PartTable) → more ≡ known ++ table ∷ [] → AreSameSteps table.part old new → AreAloneSteps edited table.part new → Contains tables table → AllByRecursion (IsStillKept tables edited old new) known → AllByRecursion (IsStillKept tables edited old new) more
still_more tables edited old new table known more pushed same alone held all = subst (AllByRecursion (IsStillKept tables edited old new)) (sym pushed) (put known all)
  where
    put : (xs : List PartTable) → AllByRecursion (IsStillKept tables edited old new) xs → AllByRecursion (IsStillKept tables edited old new) (xs ++ table ∷ [])
    put [] h = (record { held = held; same = same; alone = alone }, tt)
    put (x ∷ xs) h = (h.0, put xs h.1)

pub none_known : (cap : ℕ) (db : List Relation) (to : Plan) (known : List PartTable) → known ≡ [] → AreKnownOver db to cap known
none_known cap db to known none planned q is = subst (AllByRecursion (IsKnownPart planned db q cap)) (sym none) tt

-- ---- steps that are looked at one by one

pub got : {X : Type 0} (xs : List X) (i : ℕ) (x : X) → i < length xs → x ≡ get_or xs i x → slice_get xs i ≡ Some x
got [] i x lt e = absurd (omega arith)
got (y ∷ ys) zero x lt e = ap Some (sym e)
got (y ∷ ys) (suc i) x lt e = got ys i x (omega arith) e

pub one_same : (old new : List Step) (from place : ℕ) (a b : Step) → slice_get old place ≡ Some a → slice_get new place ≡ Some b → a ≡ b → ((i : ℕ) → from ≤ i → i < place → slice_get new i ≡ slice_get old i) → (i : ℕ) → from ≤ i → i < place + 1 → slice_get new i ≡ slice_get old i
one_same old new from place a b first second same before i low high = ⊎_elim
    (λ l. before i low (omega (arith, l)))
    (λ e. let at : i ≡ place = omega (arith, e) in subst (λ j. slice_get new j ≡ slice_get old j) (sym at) (second ∙ ap Some (sym same) ∙ sym first))
    (below_or_same (suc i) place (omega (arith, high)))

pub one_alone : (name : Identifier) (start : ℕ) (new : List Step) (place : ℕ) (b : Step) → slice_get new place ≡ Some b → IsAloneStep name start b.kind → ((i : ℕ) (step : Step) → start ≤ i → i < place → slice_get new i ≡ Some step → IsAloneStep name start step.kind)
    → (i : ℕ) (step : Step) → start ≤ i → i < place + 1 → slice_get new i ≡ Some step → IsAloneStep name start step.kind
one_alone name start new place b at own before i step low high here = ⊎_elim
    (λ l. before i step low (omega (arith, l)) here)
    (λ e. let same : i ≡ place = omega (arith, e) in
    let there : slice_get new place ≡ Some step = subst (λ j. slice_get new j ≡ Some step) same here in
    let f : Some b ≡ Some step = sym at ∙ there in
    let g : b ≡ step = cc in
    subst (λ (z : Step). IsAloneStep name start z.kind) g own)
    (below_or_same (suc i) place (omega (arith, high)))

pub alone_by : (name : Identifier) (start first second : ℕ) (kind : StepKind) → ((l : ℕ) → Contains (operands kind) l → Contains (first ∷ second ∷ []) l) → IsNoScanOf name kind → IsOtherThan first start → IsOtherThan second start → IsAloneStep name start kind
alone_by name start first second kind among scans one two = record {
  scans = scans;
  reads = λ l c. ⊎_elim (λ e. subst (λ n. IsOtherThan n start) e one) (λ d. ⊎_elim (λ e. subst (λ n. IsOtherThan n start) e two) (λ x. absurd (contains_none l x)) (cons_cases second l [] d)) (cons_cases first l (second ∷ []) (among l c));
}

-- texts that are the same one by one
pub one_text : (xs ys : List Text) (number : ℕ) (x y : Text) → slice_get xs number ≡ Some x → slice_get ys number ≡ Some y → x ≡ y → ((i : ℕ) → i < number → slice_get xs i ≡ slice_get ys i) → (i : ℕ) → i < number + 1 → slice_get xs i ≡ slice_get ys i
one_text xs ys number x y first second same before i high = ⊎_elim
    (λ l. before i (omega (arith, l)))
    (λ e. let at : i ≡ number = omega (arith, e) in subst (λ j. slice_get xs j ≡ slice_get ys j) (sym at) (first ∙ ap Some same ∙ sym second))
    (below_or_same (suc i) number (omega (arith, high)))

pub same_texts_all : (xs ys : List Text) → length xs ≡ length ys → ((i : ℕ) → i < length xs → slice_get xs i ≡ slice_get ys i) → xs ≡ ys
same_texts_all [] [] e h = refl
same_texts_all [] (y ∷ ys) e h = absurd (omega (arith, e))
same_texts_all (x ∷ xs) [] e h = absurd (omega (arith, e))
same_texts_all (x ∷ xs) (y ∷ ys) e h =
    let f : Some x ≡ Some y = h 0 (omega arith) in
    let g : x ≡ y = cc in
    ap₂ (λ (z : Text) (zs : List Text). z ∷ zs) g (same_texts_all xs ys (omega (arith, e)) (λ i l. h (suc i) (omega (arith, l))))

-- ---- what is kept for the next edit

-- the edit at a place, where there is one
pub edit_read : (es : List Edit) (i : ℕ) (r : Option (Bor Edit)) → IfSome r (λ x. x.now ≡ get_or es i x.now) → MatchOption r (length es ≤ i) (λ x. (i < length es) × HoldsAt (λ y. x.now ≡ y) es i) → option_copied r ≡ slice_get es i
edit_read es i None same there = sym (slice_get_past es i there)
edit_read es i (Some x) same there = sym (slice_get_read es (length es) i x.now refl there.0 same)

pub both_known : (cap : ℕ) (db : List Relation) (to : Plan) (known made : List PartTable) → AreKnownOver db to cap known → AreKnownOver db to cap made → AreKnownOver db to cap (known ++ made)
both_known cap db to known made a b planned q is = joined known (a planned q is)
  where
    joined : (xs : List PartTable) → AllByRecursion (IsKnownPart planned db q cap) xs → AllByRecursion (IsKnownPart planned db q cap) (xs ++ made)
    joined [] h = b planned q is
    joined (x ∷ xs) h = (h.0, joined xs h.1)

pub kept_over : (cap : ℕ) (db : List Relation) (to : Plan) (known made : List PartTable) (next : Option Edit) (kept : Option Kept) → IsSomePlan db to → AreKnownOver db to cap known → AreKnownOver db to cap made → IsKeptFor to known made next kept → IsKeptOver cap db next kept
kept_over cap db to known made next None some a b h = tt
kept_over cap db to known made next (Some k) some a b h = (
  record { plan = subst (IsSomePlan db) (sym h.0) some; known = subst (λ (p : Plan). AreKnownOver db p cap k.tables) (sym h.0) (subst (AreKnownOver db to cap) (sym h.1) (both_known cap db to known made a b)) },
  h.2,
)
