-- What the rules of a plan build: each step is made of earlier ones, the last one names what it should, and no step before it is above it.
use Rattle.std.proofs.Common.{◌≡◌, ◌↔◌, ⊎_elim, ◌≤◌, ◌<◌, ◌+◌, ◌*◌, ℕ, suc, List, [], ◌∷◌, ◌++◌, length, append_assoc, append-nil, Some, Contains, refl, sym, ap, ap₂, subst, ◌∙◌, arith}
use Rattle.std.specs.Prelude.{max, map}
use Rattle.std.specs.List.{AllByRecursion}
use Rattle.lrp_model.specs.Texts.{Identifier}
use Rattle.lrp_model.specs.Formulas.{Form, test, negation, conjunction, disjunction, exists, no_forms, form}
use Rattle.lrp_model.specs.Variables.{Variable, variables_of_test, free}
use Rattle.lrp_model.specs.Satisfaction.{Structure}
use Rattle.lrp_model.specs.Reach.{step_reach, greatest, test_reach}
use Rattle.lrp_model.specs.Steps.{PlanStep, Steps, step_at, formula_at, reach_at, step_after, made, tests_as_forms}
use Rattle.lrp_model.specs.declared.relations.Sort.{Sort}
use Rattle.lrp_model.specs.declared.relations.Sort.TheVariants.{Time}
use Rattle.lrp_model.specs.declared.relations.Relation.{Relation}
use Rattle.lrp_model.specs.declared.plans.StepKind.{StepKind}
use Rattle.lrp_model.specs.declared.plans.StepKind.TheVariants.{Scan, Leaf, Sort as SortStep, Join, Select, Union, Minus, Complement, DropTime, DropData, Extend}
use Rattle.lrp_model.proofs.Logic.{then_iff, all_append}
use Rattle.lrp_plan_laws.specs.Made.{HeadStep, IsEarlier, operands, IsStepFormula, AreWithout, AreAmong, HasVariables, IsMade}
use Rattle.lrp_plan_laws.proofs.Elements.{length_made, formula_made, formula_front, reach_made, reach_front, step_one_more}
use Rattle.lrp_plan_laws.proofs.Names.{Names}
use Rattle.lrp_plan_laws.proofs.Dropping.{Rules, IsDrop, moved_drop}
use Rattle.lrp_plan_laws.proofs.Members.{all_map}
use Rattle.lrp_plan_laws.proofs.Marks.{Mark, marks}

-- what is said of lists of variables and of periods
abbrev pub Saying : Type 1
Saying = List Variable → List Mark → Type 0

-- ---- a step stays what it is where more steps follow

module _ (M : Structure) (head : HeadStep) (at other : ℕ → Form) (s : ℕ) (same : (l : ℕ) → IsEarlier s l → other l ≡ at l) where
  -- the formula is made in the same way of formulas that are the same
  moved_formula : (kind : StepKind) (f : Form) → AllByRecursion (IsEarlier s) (operands kind) → IsStepFormula M head at kind f → IsStepFormula M head other kind f
  moved_formula (Scan name terms) f o h = h
  moved_formula (Leaf t) f o h = h
  moved_formula (SortStep v s texts) f o h = h
  moved_formula (Join left right tests) f o h = h ∙ sym (ap₂ (λ a b. conjunction (form a (form b (tests_as_forms tests)))) (same left o.0) (same right o.1.0))
  moved_formula (Select of t) f o h = h ∙ sym (ap (λ a. conjunction (form a (form (test t) no_forms))) (same of o.0))
  moved_formula (Union left right) f o h = h ∙ sym (ap₂ (λ a b. disjunction (form a (form b no_forms))) (same left o.0) (same right o.1.0))
  moved_formula (Minus left right) f o h = h ∙ sym (ap₂ (λ a b. conjunction (form a (form (negation b) no_forms))) (same left o.0) (same right o.1.0))
  moved_formula (Complement of) f o h = h ∙ sym (ap negation (same of o.0))
  moved_formula (DropTime of v) f o h = h ∙ sym (ap (λ a. exists v Time a) (same of o.0))
  moved_formula (DropData of v) f o h = subst (λ a. AreWithout v (free a) (free f)) (sym (same of o.0)) h
  moved_formula (Extend of) f o h = h

  -- and relies on the same variables
  moved_variables : (kind : StepKind) → AllByRecursion (IsEarlier s) (operands kind) → HasVariables at kind → HasVariables other kind
  moved_variables (Scan name terms) o h = tt
  moved_variables (Leaf t) o h = tt
  moved_variables (SortStep v s texts) o h = tt
  moved_variables (Join left right tests) o h = all_map (λ t. AreAmong (variables_of_test t) (free (at left) ++ free (at right))) (λ t. AreAmong (variables_of_test t) (free (other left) ++ free (other right))) tests (λ t a. subst (AreAmong (variables_of_test t)) (sym (ap₂ (λ a b. free a ++ free b) (same left o.0) (same right o.1.0))) a) h
  moved_variables (Select of t) o h = subst (λ a. AreAmong (variables_of_test t) (free a)) (sym (same of o.0)) h
  moved_variables (Union left right) o h = tt
  moved_variables (Minus left right) o h = subst (λ a. AreAmong (free a) (free (other left))) (sym (same right o.1.0)) (subst (λ a. AreAmong (free (at right)) (free a)) (sym (same left o.0)) h)
  moved_variables (Complement of) o h = tt
  moved_variables (DropTime of v) o h = tt
  moved_variables (DropData of v) o h = tt
  moved_variables (Extend of) o h = tt

-- the reach is the same where the reaches that are read are
moved_reach : (db : List Relation) (at other : ℕ → ℕ) (s K : ℕ) → ((l : ℕ) → IsEarlier s l → other l ≡ at l) → (kind : StepKind) → AllByRecursion (IsEarlier s) (operands kind) → step_reach db at K kind ≡ step_reach db other K kind
moved_reach db at other s K same (Scan name terms) o = refl
moved_reach db at other s K same (Leaf t) o = refl
moved_reach db at other s K same (SortStep v t texts) o = refl
moved_reach db at other s K same (Join left right tests) o = sym (ap₂ (λ a b. greatest (a ∷ b ∷ map test_reach tests) + K) (same left o.0) (same right o.1.0))
moved_reach db at other s K same (Select of t) o = sym (ap (λ a. max a (test_reach t) + K) (same of o.0))
moved_reach db at other s K same (Union left right) o = sym (ap₂ (λ a b. max a b + K) (same left o.0) (same right o.1.0))
moved_reach db at other s K same (Minus left right) o = sym (ap₂ (λ a b. max a b + 2 * K) (same left o.0) (same right o.1.0))
moved_reach db at other s K same (Complement of) o = sym (ap (λ a. a + 2 * K) (same of o.0))
moved_reach db at other s K same (DropTime of v) o = sym (ap (λ a. 2 * a) (same of o.0))
moved_reach db at other s K same (DropData of v) o = sym (same of o.0)
moved_reach db at other s K same (Extend of) o = sym (same of o.0)

-- step s is made of earlier ones, and drops a text as the rules do
pub record IsRuled (M : Structure) (head : HeadStep) (rules : Rules) (steps : Steps) (s : ℕ) (step : PlanStep) : Type 0 where
  pub made : IsMade M head steps s step
  pub drop : IsDrop rules (formula_at steps) step.kind step.formula

-- a step is what it was where more steps follow
pub moved : (M : Structure) (head : HeadStep) (rules : Rules) (steps more : Steps) (s : ℕ) (step : PlanStep) → s ≤ suc (length steps) → IsRuled M head rules steps s step → IsRuled M head rules (steps ++ more) s step
moved M head rules steps more s step le r =
    let m : IsMade M head steps s step = r.made in
    let same : (l : ℕ) → IsEarlier s l → formula_at (steps ++ more) l ≡ formula_at steps l = λ l e. let lt : l < s = e.1 in formula_front steps more l (omega arith) in
    record {
      made = record {
        earlier = m.earlier;
        formula = moved_formula M head (formula_at steps) (formula_at (steps ++ more)) s same step.kind step.formula m.earlier m.formula;
        variables = moved_variables M head (formula_at steps) (formula_at (steps ++ more)) s same step.kind m.earlier m.variables;
        period = m.period;
        reach = m.reach ∙ moved_reach M.relations (reach_at steps) (reach_at (steps ++ more)) s step.period (λ l e. let lt : l < s = e.1 in reach_front steps more l (omega arith)) step.kind m.earlier;
      };
      drop = moved_drop rules (formula_at steps) (formula_at (steps ++ more)) s same step.kind step.formula m.earlier r.drop;
    }

-- each step is made of earlier ones
abbrev pub AreMade : Structure → HeadStep → Rules → Steps → Type 0
AreMade M head rules steps = (s : ℕ) (step : PlanStep) → step_at steps s ≡ Some step → IsRuled M head rules steps s step

-- a step of this kind and with this formula can be made after these
pub record CanMake (M : Structure) (head : HeadStep) (rules : Rules) (steps : Steps) (kind : StepKind) (f : Form) : Type 0 where
  pub operands : AllByRecursion (IsEarlier (suc (length steps))) (operands kind)
  pub formula : IsStepFormula M head (formula_at steps) kind f
  pub drop : IsDrop rules (formula_at steps) kind f
  pub variables : HasVariables (formula_at steps) kind

-- a step that can be made is made of earlier ones, and so is each before it
pub made_more : (M : Structure) (head : HeadStep) (rules : Rules) (steps : Steps) (kind : StepKind) (f : Form) → CanMake M head rules steps kind f → AreMade M head rules steps → AreMade M head rules (made M kind f steps)
made_more M head rules steps kind f can all s step e =
    ⊎_elim (λ h. let le : s ≤ length steps = h.0 in moved M head rules steps (step_after M kind f steps ∷ []) s step (omega arith) (all s step h.1))
    (λ h. subst (λ n. IsRuled M head rules (made M kind f steps) n step) (sym h.0) (subst (IsRuled M head rules (made M kind f steps) (suc (length steps))) h.1
    (moved M head rules steps (step_after M kind f steps ∷ []) (suc (length steps)) (step_after M kind f steps) (omega arith)
    (record { made = record { earlier = can.operands; formula = can.formula; variables = can.variables; period = refl; reach = refl }; drop = can.drop }))))
    (step_one_more steps (step_after M kind f steps) step s e)

-- ---- no step before the last one is above it

-- a formula's periods are among ks, and a reach is at most b
abbrev pub IsUnder : List Relation → ℕ → List Mark → Form → ℕ → Type 0
IsUnder db b ks f r = (r ≤ b) × AllByRecursion (Contains ks) (marks f db)

-- each step is under the bound
abbrev pub AreUnder : List Relation → ℕ → List Mark → Steps → Type 0
AreUnder db b ks steps = AllByRecursion (λ step. IsUnder db b ks step.formula step.reach) steps

-- the last step is
abbrev pub LastIsUnder : List Relation → ℕ → List Mark → Steps → Type 0
LastIsUnder db b ks steps = IsUnder db b ks (formula_at steps (length steps)) (reach_at steps (length steps))

-- a quantifier over a formula is guarded
abbrev pub Kept : (Identifier → Sort → Form → Type 0) → Form → Type 0
Kept guard (exists v s f) = guard v s f
Kept guard f = Unit {0}

-- each step's formula has fitting variables and is guarded
abbrev pub AreFitting : (List Variable → Type 0) → (Identifier → Sort → Form → Type 0) → Steps → Type 0
AreFitting fits guard steps = AllByRecursion (λ step. fits (free step.formula) × Kept guard step.formula) steps

-- ---- what a rule builds

-- the steps after are those before and more; the formula of the last one names what p says; the new steps are made of earlier ones, none is above the last, and their formulas fit
pub record Builds (M : Structure) (head : HeadStep) (rules : Rules) (fits : List Variable → Type 0) (guard : Identifier → Sort → Form → Type 0) (before after : Steps) (p : List Variable → List Mark → Type 0) : Type 0 where
  pub more : Steps
  pub is : after ≡ before ++ more
  pub grown : length before < length after
  pub names : (ws : List Variable) (ks : List Mark) → Names M.relations (formula_at after (length after)) ws ks ↔ p ws ks
  pub made : AreMade M head rules before → AreMade M head rules after
  pub under : (b : ℕ) (ks : List Mark) → LastIsUnder M.relations b ks after → AreUnder M.relations b ks before → AreUnder M.relations b ks after
  pub fitting : AreFitting fits guard before → AreFitting fits guard after

module _ (M : Structure) (head : HeadStep) (rules : Rules) (fits : List Variable → Type 0) (guard : Identifier → Sort → Form → Type 0) where
  -- one step after steps that were built before
  pub by_step : (before steps : Steps) (kind : StepKind) (f : Form) (p : Saying) (more : Steps) → steps ≡ before ++ more → length before ≤ length steps
      → (AreMade M head rules before → AreMade M head rules steps) → (AreFitting fits guard before → AreFitting fits guard steps)
      → ((b : ℕ) (ks : List Mark) → IsUnder M.relations b ks f (step_after M kind f steps).reach → AreUnder M.relations b ks before → AreUnder M.relations b ks steps)
      → CanMake M head rules steps kind f → fits (free f) → Kept guard f → ((ws : List Variable) (ks : List Mark) → Names M.relations f ws ks ↔ p ws ks) → Builds M head rules fits guard before (made M kind f steps) p
  by_step before steps kind f p more is le old fit low can good kept names = record {
    more = more ++ step_after M kind f steps ∷ [];
    is = ap (λ s. s ++ step_after M kind f steps ∷ []) is ∙ append_assoc before more (step_after M kind f steps ∷ []);
    grown = let l : length (made M kind f steps) ≡ suc (length steps) = length_made M kind f steps in omega arith;
    names = λ ws ks. subst (λ g. Names M.relations g ws ks ↔ p ws ks) (sym (formula_made M kind f steps)) (names ws ks);
    made = λ h. made_more M head rules steps kind f can (old h);
    under = λ b ks last h.
        let new : IsUnder M.relations b ks f (step_after M kind f steps).reach =
        (subst (λ r. r ≤ b) (reach_made M kind f steps) last.0, subst (λ g. AllByRecursion (Contains ks) (marks g M.relations)) (formula_made M kind f steps) last.1) in
        (all_append (λ step. IsUnder M.relations b ks step.formula step.reach) steps (step_after M kind f steps ∷ [])).1 (low b ks new h, (new, tt));
    fitting = λ h. (all_append (λ step. fits (free step.formula) × Kept guard step.formula) steps (step_after M kind f steps ∷ [])).1 (fit h, ((good, kept), tt));
  }

  -- a step that reads none
  pub by_first : (steps : Steps) (kind : StepKind) (f : Form) → CanMake M head rules steps kind f → fits (free f) → Kept guard f → Builds M head rules fits guard steps (made M kind f steps) (Names M.relations f)
  by_first steps kind f can good kept =
      by_step steps steps kind f (Names M.relations f) [] (sym (append-nil steps)) (omega arith) (λ h. h) (λ h. h) (λ b ks new h. h) can good kept (λ ws ks. ((λ h. h), λ h. h))

  -- a step that reads the last one
  pub by_next : (before steps : Steps) (p q : Saying) (kind : StepKind) (f : Form) → Builds M head rules fits guard before steps p
      → ((b : ℕ) (ks : List Mark) → IsUnder M.relations b ks f (step_after M kind f steps).reach → LastIsUnder M.relations b ks steps)
      → CanMake M head rules steps kind f → fits (free f) → Kept guard f → ((ws : List Variable) (ks : List Mark) → Names M.relations f ws ks ↔ q ws ks) → Builds M head rules fits guard before (made M kind f steps) q
  by_next before steps p q kind f m low can good kept names =
      by_step before steps kind f q m.more m.is (let g : length before < length steps = m.grown in omega arith) m.made m.fitting (λ b ks new h. m.under b ks (low b ks new) h) can good kept names

  -- what is said may be said otherwise
  pub same_builds : (before after : Steps) (p q : Saying) → Builds M head rules fits guard before after p → ((ws : List Variable) (ks : List Mark) → p ws ks ↔ q ws ks) → Builds M head rules fits guard before after q
  same_builds before after p q m e = record { more = m.more; is = m.is; grown = m.grown; names = λ ws ks. then_iff (m.names ws ks) (e ws ks); made = m.made; under = m.under; fitting = m.fitting }

  -- an earlier step's formula and reach stand
  pub kept_formula : (before after : Steps) (p : Saying) (i : ℕ) → Builds M head rules fits guard before after p → i ≤ length before → formula_at after i ≡ formula_at before i
  kept_formula before after p i m le = ap (λ s. formula_at s i) m.is ∙ formula_front before m.more i le

  -- and its reach
  pub kept_reach : (before after : Steps) (p : Saying) (i : ℕ) → Builds M head rules fits guard before after p → i ≤ length before → reach_at after i ≡ reach_at before i
  kept_reach before after p i m le = ap (λ s. reach_at s i) m.is ∙ reach_front before m.more i le

  -- a step that reads the last steps of two lists, of which the second goes on from the first
  pub by_both : (before mid steps : Steps) (p q r : Saying) (kind : StepKind) (f : Form) → Builds M head rules fits guard before mid p → Builds M head rules fits guard mid steps q
      → ((b : ℕ) (ks : List Mark) → IsUnder M.relations b ks f (step_after M kind f steps).reach → IsUnder M.relations b ks (formula_at steps (length mid)) (reach_at steps (length mid)) × LastIsUnder M.relations b ks steps)
      → CanMake M head rules steps kind f → fits (free f) → Kept guard f → ((ws : List Variable) (ks : List Mark) → Names M.relations f ws ks ↔ r ws ks) → Builds M head rules fits guard before (made M kind f steps) r
  by_both before mid steps p q r kind f m n low can good kept names =
      by_step before steps kind f r (m.more ++ n.more) (n.is ∙ ap (λ s. s ++ n.more) m.is ∙ append_assoc before m.more n.more)
      (let g : length before < length mid = m.grown in let h : length mid < length steps = n.grown in omega arith)
      (λ h. n.made (m.made h)) (λ h. n.fitting (m.fitting h))
      (λ b ks new h.
      let two = low b ks new in
      let first : LastIsUnder M.relations b ks mid =
      (subst (λ x. x ≤ b) (kept_reach mid steps q (length mid) n (omega arith)) two.0.0, subst (λ g. AllByRecursion (Contains ks) (marks g M.relations)) (kept_formula mid steps q (length mid) n (omega arith)) two.0.1) in
      n.under b ks two.1 (m.under b ks first h))
      can good kept names
