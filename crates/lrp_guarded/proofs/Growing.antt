-- Every rule adds steps after those that were made.
use Rattle.std.proofs.Common.{◌≡◌, ℕ, zero, suc, Bool, true, false, cond, List, [], ◌∷◌, ◌++◌, length, reverse, filter, not, Option, Some, None, slice_get, remove, nat_eq, ◌&&◌, refl, sym, ap, subst, ◌∙◌, append_assoc, append-nil}
use Rattle.std.specs.List.{AllByRecursion}
use Rattle.lrp_model.specs.Formulas.{Form, Forms, atom, test, sorted, negation, conjunction, disjunction, implication, exists, forall, no_forms, form}
use Rattle.lrp_model.specs.Variables.{Variable, time_variable, data_variable, bound_by, free, is_among, are_among, variables_of_test}
use Rattle.lrp_model.specs.Satisfaction.{Structure}
use Rattle.lrp_model.specs.Steps.{Steps, Rule, made, step_after, formula_at, join, select, union, leaf, scan_of, sort_texts}
use Rattle.lrp_model.specs.Conjunctions.{select_each, is_test, tests_in}
use Rattle.lrp_model.specs.declared.formulas.Test.{Test}
use Rattle.lrp_model.specs.declared.plans.StepKind.{StepKind}
use Rattle.lrp_plan_laws.specs.Projections.{PlanGround as Ground, drop_variable, drop_each, project, projected, unwanted}
use Rattle.lrp_plan_laws.specs.Binding.{is_guarded_by}
use Rattle.lrp_plan_laws.specs.GuardedConjunctions.{GuardedRule, GuardedPart as Part, Standing, Elements, Choice, an_atom, a_sort, a_part, a_test, a_negation, select_from, select_each_from, take_up, go_on_from, has_guard, under, part_steps, is_whole_guard, bring_each, any_value, missing, with_missing as brought, take_off, still_needed, take_atom, take_sort, take_other, take_one_test as take_test, take_one_negation as take_negation, take, next_choice, drop_spent, rounds, variables_left, elements_left, begun, covered_by, standing_first, guarded_conjunction as conjunction_rule}
use Rattle.lrp_plan_laws.specs.GuardedPlans.{leaf_under, test_under, ending, member_under, member, further_members, disjunction_rule, as_part, atoms_in, sorts_in, build, others_in, negations_in, members_in}
use Rattle.lrp_plan_laws.specs.Atoms.{Atom}
use Rattle.lrp_plan_laws.specs.GuardedConjunctions.{SortElement, atom_form, sort_form}

-- further steps stand after these
pub record Grows (before after : Steps) : Type 0 where
  pub more : Steps
  pub is : after ≡ before ++ more

pub grows_same : (steps : Steps) → Grows steps steps
grows_same steps = record { more = []; is = sym (append-nil steps) }

pub grows_then : (a b c : Steps) → Grows a b → Grows b c → Grows a c
grows_then a b c h k = record { more = h.more ++ k.more; is = k.is ∙ ap (λ x. x ++ k.more) h.is ∙ append_assoc a h.more k.more }

pub grows_made : (M : Structure) (kind : StepKind) (f : Form) (steps : Steps) → Grows steps (made M kind f steps)
grows_made M kind f steps = record { more = step_after M kind f steps ∷ []; is = refl }

pub grows_cond : (steps a b : Steps) (c : Bool) → Grows steps a → Grows steps b → Grows steps (cond c a b)
grows_cond steps a b true h k = h
grows_cond steps a b false h k = k

-- ---- drops and selects

pub grows_drop : (over : Ground) (v : Variable) (of : ℕ) (steps : Steps) → Grows steps (drop_variable over v of steps)
grows_drop over (time_variable v) of steps = grows_made over.structure _ _ steps
grows_drop over (data_variable v) of steps = grows_made over.structure _ _ steps

pub grows_drops : (over : Ground) (vs : List Variable) (of : ℕ) (steps : Steps) → Grows steps (drop_each over vs of steps)
grows_drops over [] of steps = grows_same steps
grows_drops over (v ∷ vs) of steps = grows_then steps (drop_variable over v of steps) (drop_each over (v ∷ vs) of steps) (grows_drop over v of steps) (grows_drops over vs (suc (length steps)) (drop_variable over v of steps))

pub grows_project : (over : Ground) (wanted : List Variable) (of : ℕ) (steps : Steps) → Grows steps (project over wanted of steps)
grows_project over wanted of steps = grows_drops over (unwanted wanted steps of) of steps

pub grows_selects : (ts : List Test) (M : Structure) (steps : Steps) → Grows steps (select_each ts M steps)
grows_selects [] M steps = grows_same steps
grows_selects (t ∷ ts) M steps = grows_then steps (select t M steps) (select_each (t ∷ ts) M steps) (grows_made M _ _ steps) (grows_selects ts M (select t M steps))

pub grows_selects_from : (of : ℕ) (ts : List Test) (M : Structure) (steps : Steps) → Grows steps (select_each_from of ts M steps)
grows_selects_from of [] M steps = grows_same steps
grows_selects_from of (t ∷ ts) M steps = grows_then steps (select_from of t M steps) (select_each_from of (t ∷ ts) M steps) (grows_made M _ _ steps) (grows_selects ts M (select_from of t M steps))

grows_bring : (M : Structure) (vs : List Variable) (result : ℕ) (steps : Steps) → Grows steps (bring_each M vs result steps)
grows_bring M [] result steps = grows_same steps
grows_bring M (v ∷ vs) result steps =
    let one : Steps = leaf (any_value v) M steps in
    let two : Steps = join result [] M one in
    grows_then steps two (bring_each M (v ∷ vs) result steps) (grows_then steps one two (grows_made M _ _ steps) (grows_made M _ _ one)) (grows_bring M vs (length two) two)

-- ---- rules

abbrev pub RuleGrows : GuardedRule → Type 0
RuleGrows rule = (over : Ground) (guard : Option ℕ) (steps : Steps) → Grows steps (rule over guard steps)

abbrev pub PartsGrow : List Part → Type 0
PartsGrow ps = AllByRecursion (λ p. RuleGrows p.rule) ps

module _ {X : Type 0} (P : X → Type 0) where
  pub all_remove : (xs : List X) (i : ℕ) → AllByRecursion P xs → AllByRecursion P (remove xs i)
  all_remove [] zero h = tt
  all_remove [] (suc i) h = tt
  all_remove (x ∷ xs) zero h = h.1
  all_remove (x ∷ xs) (suc i) h = (h.0, all_remove xs i h.1)

  pub all_got : (xs : List X) (i : ℕ) (x : X) → AllByRecursion P xs → slice_get xs i ≡ Some x → P x
  all_got [] i x h e = cc
  all_got (y ∷ ys) zero x h e = let d : y ≡ x = cc in subst P d h.0
  all_got (y ∷ ys) (suc i) x h e = all_got ys i x h.1 e

  pub all_join : (xs ys : List X) → AllByRecursion P xs → AllByRecursion P ys → AllByRecursion P (xs ++ ys)
  all_join [] ys h k = k
  all_join (x ∷ xs) ys h k = (h.0, all_join xs ys h.1 k)

-- ---- rounds

-- where the making of an `and` stands after some steps, with parts whose rules add steps
pub record Grown (from : Steps) (at : Standing) : Type 0 where
  pub steps : Grows from at.steps
  pub others : PartsGrow at.others
  pub negations : PartsGrow at.negations

grown_of : (from : Steps) (b : Bool) (x y : Standing) → Grown from x → Grown from y → Grown from (cond b x y)
grown_of from true x y h k = h
grown_of from false x y h k = k

grown_on : (from : Steps) (M : Structure) (vs : List Variable) (steps : Steps) (at : Standing) → Grows from steps → PartsGrow at.others → PartsGrow at.negations → Grown from (go_on_from M vs steps at)
grown_on from M vs steps at h o n = record { steps = grows_then from steps _ h (grows_selects (covered_by (at.taken.variables ++ vs) at.tests) M steps); others = o; negations = n }

grown_up : (from : Steps) (M : Structure) (vs : List Variable) (steps : Steps) (at : Standing) → Grows from steps → PartsGrow at.others → PartsGrow at.negations → Grown from (take_up M vs steps at)
grown_up from M vs steps at h o n = grown_of from at.taken.some _ (go_on_from M vs steps at) (record { steps = grows_then from steps _ h (grows_made M _ _ steps); others = o; negations = n }) (grown_on from M vs steps at h o n)

pub grows_part : (over : Ground) (taken : _) (p : Part) (steps : Steps) → RuleGrows p.rule → Grows steps (part_steps over taken p steps)
grows_part over taken p steps h =
    grows_cond steps (under over taken p steps) (p.rule over None steps) (has_guard taken steps p.formula)
    (grows_then steps (project over (free p.formula) taken.result steps) _ (grows_project over (free p.formula) taken.result steps) (h over (Some (projected over (free p.formula) taken.result steps)) (project over (free p.formula) taken.result steps)))
    (h over None steps)

grown_other : (from : Steps) (over : Ground) (i : ℕ) (o : Option Part) (at : Standing) → slice_get at.others i ≡ o → Grown from at → Grown from (take_other over i o at)
grown_other from over i None at e g = g
grown_other from over i (Some p) at e g =
    let rest : PartsGrow (remove at.others i) = all_remove (λ p. RuleGrows p.rule) at.others i g.others in
    let steps : Steps = part_steps over at.taken p at.steps in
    let s : Grows from steps = grows_then from at.steps steps g.steps (grows_part over at.taken p at.steps (all_got (λ p. RuleGrows p.rule) at.others i p g.others e)) in
    grown_of from (is_whole_guard over at.taken at.steps p.formula) _ _
    (grown_on from over.structure (free p.formula) steps (record at { others = remove at.others i }) s rest g.negations)
    (grown_up from over.structure (free p.formula) steps (record at { others = remove at.others i }) s rest g.negations)

grown_off : (from : Steps) (over : Ground) (p : Part) (at : Standing) → RuleGrows p.rule → Grown from at → Grown from (take_off over p at)
grown_off from over p at h g = record {
  steps = grows_then from at.steps _ g.steps (grows_then at.steps (part_steps over at.taken p at.steps) _ (grows_part over at.taken p at.steps h) (grows_cond (part_steps over at.taken p at.steps) _ _ at.taken.some (grows_made over.structure _ _ (part_steps over at.taken p at.steps)) (grows_made over.structure _ _ (part_steps over at.taken p at.steps))));
  others = g.others;
  negations = g.negations;
}

grown_brought : (from : Steps) (over : Ground) (f : Form) (at : Standing) → Grown from at → Grown from (brought over.structure f at)
grown_brought from over f at g = record { steps = grows_then from at.steps _ g.steps (grows_bring over.structure (missing at.taken f) at.taken.result at.steps); others = g.others; negations = g.negations }

grown_negation : (from : Steps) (over : Ground) (i : ℕ) (o : Option Part) (at : Standing) → slice_get at.negations i ≡ o → Grown from at → Grown from (take_negation over i o at)
grown_negation from over i None at e g = g
grown_negation from over i (Some p) at e g =
    let left : Standing = record at { negations = remove at.negations i } in
    let l : Grown from left = record { steps = g.steps; others = g.others; negations = all_remove (λ p. RuleGrows p.rule) at.negations i g.negations } in
    grown_off from over p _ (all_got (λ p. RuleGrows p.rule) at.negations i p g.negations e) (grown_of from at.taken.some (brought over.structure p.formula left) left (grown_brought from over p.formula left l) l)

grown_atom : (from : Steps) (over : Ground) (i : ℕ) (o : Option Atom) (at : Standing) → Grown from at → Grown from (take_atom over i o at)
grown_atom from over i None at g = g
grown_atom from over i (Some a) at g = grown_up from over.structure (free (atom_form a)) (scan_of a.name a.terms over.structure at.steps) (record at { atoms = remove at.atoms i; sorts = still_needed over.structure a at.sorts }) (grows_then from at.steps (scan_of a.name a.terms over.structure at.steps) g.steps (grows_made over.structure _ _ at.steps)) g.others g.negations

grown_sort : (from : Steps) (over : Ground) (i : ℕ) (o : Option SortElement) (at : Standing) → Grown from at → Grown from (take_sort over i o at)
grown_sort from over i None at g = g
grown_sort from over i (Some e) at g = grown_up from over.structure (free (sort_form e)) (sort_texts e.sort e.variable over.structure at.steps) (record at { sorts = remove at.sorts i }) (grows_then from at.steps (sort_texts e.sort e.variable over.structure at.steps) g.steps (grows_made over.structure _ _ at.steps)) g.others g.negations

grown_test : (from : Steps) (over : Ground) (i : ℕ) (o : Option Test) (at : Standing) → Grown from at → Grown from (take_test over i o at)
grown_test from over i None at g = g
grown_test from over i (Some t) at g = grown_up from over.structure (variables_of_test t) (leaf t over.structure at.steps) (record at { tests = remove at.tests i }) (grows_then from at.steps (leaf t over.structure at.steps) g.steps (grows_made over.structure _ _ at.steps)) g.others g.negations

grown_take : (from : Steps) (over : Ground) (choice : Choice) (at : Standing) → Grown from at → Grown from (take over choice at)
grown_take from over (an_atom i) at g = grown_atom from over i (slice_get at.atoms i) at g
grown_take from over (a_sort i) at g = grown_sort from over i (slice_get at.sorts i) at g
grown_take from over (a_part i) at g = grown_other from over i (slice_get at.others i) at refl g
grown_take from over (a_test i) at g = grown_test from over i (slice_get at.tests i) at g
grown_take from over (a_negation i) at g = grown_negation from over i (slice_get at.negations i) at refl g

grown_spent : (from : Steps) (over : Ground) (at : Standing) → Grown from at → Grown from (drop_spent over at)
grown_spent from over at g = record { steps = grows_then from at.steps _ g.steps (grows_drops over (filter (λ v. not (is_among (variables_left at) v)) at.block) at.taken.result at.steps); others = g.others; negations = g.negations }

grown_rounds : (from : Steps) (over : Ground) (n : ℕ) (choice : Option Choice) (at : Standing) → Grown from at → Grown from (rounds over n choice at)
grown_rounds from over zero choice at g = g
grown_rounds from over (suc n) None at g = g
grown_rounds from over (suc n) (Some choice) at g =
    let after : Standing = drop_spent over (take over choice at) in
    grown_rounds from over n (next_choice after) after (grown_spent from over (take over choice at) (grown_take from over choice at g))

grown_begun : (from : Steps) (over : Ground) (at : Standing) → Grown from at → Grown from (begun over at)
grown_begun from over at g = grown_of from at.taken.some _ at (record { steps = grows_then from at.steps _ g.steps (grows_selects_from at.taken.result (covered_by at.taken.variables at.tests) over.structure at.steps); others = g.others; negations = g.negations }) g

pub grows_conjunction : (es : Elements) (block : List Variable) → PartsGrow es.others → PartsGrow es.negations → RuleGrows (conjunction_rule es block)
grows_conjunction es block o n over guard steps =
    let first : Standing = begun over (standing_first over es block guard steps) in
    let last : Standing = rounds over (elements_left first) (next_choice first) first in
    let f : Grown steps first = grown_begun steps over (standing_first over es block guard steps) (record { steps = grows_same steps; others = o; negations = n }) in
    let l : Grown steps last = grown_rounds steps over (elements_left first) (next_choice first) first f in
    grows_then steps last.steps _ l.steps (grows_drops over (reverse last.block) last.taken.result last.steps)

-- ---- the rest

grows_leaf : (rule : Rule) → ((M : Structure) (steps : Steps) → Grows steps (rule M steps)) → RuleGrows (leaf_under rule)
grows_leaf rule h over None steps = h over.structure steps
grows_leaf rule h over (Some guard) steps = grows_then steps (rule over.structure steps) _ (h over.structure steps) (grows_made over.structure _ _ (rule over.structure steps))

grows_test : (t : Test) → RuleGrows (test_under t)
grows_test t over None steps = grows_made over.structure _ _ steps
grows_test t over (Some guard) steps =
    grows_cond steps (select_from guard t over.structure steps) (leaf_under (leaf t) over (Some guard) steps) (is_test t && are_among (variables_of_test t) (free (formula_at steps guard)))
    (grows_made over.structure _ _ steps) (grows_leaf (leaf t) (λ M st. grows_made M _ _ st) over (Some guard) steps)

grows_ending : (block : List Variable) (rule : GuardedRule) → RuleGrows rule → RuleGrows (ending block rule)
grows_ending block rule h over guard steps = grows_then steps (rule over guard steps) _ (h over guard steps) (grows_drops over (reverse block) (length (rule over guard steps)) (rule over guard steps))

pub grows_member : (p : Part) → RuleGrows p.rule → RuleGrows (member p)
grows_member p h over None steps = h over None steps
grows_member p h over (Some guard) steps =
    grows_cond steps (member_under p over guard steps) _ (is_guarded_by (free (formula_at steps guard)) p.formula) whole
    (grows_then steps (p.rule over None steps) _ (h over None steps) (grows_made over.structure _ _ (p.rule over None steps)))
  where
    whole : Grows steps (member_under p over guard steps)
    whole =
        let at : ℕ = projected over (free p.formula) guard steps in
        let before : Steps = project over (free p.formula) guard steps in
        let after : Steps = p.rule over (Some at) before in
        let g : Grows steps after = grows_then steps before after (grows_project over (free p.formula) guard steps) (h over (Some at) before) in
        grows_cond steps after _ (nat_eq at guard) g (grows_then steps after _ g (grows_made over.structure _ _ after))

grows_further : (ps : List Part) → PartsGrow ps → RuleGrows (further_members ps)
grows_further [] h over guard steps = grows_same steps
grows_further (p ∷ ps) h over guard steps =
    let one : Steps = member p over guard steps in
    let two : Steps = union (length steps) over.structure one in
    grows_then steps two _ (grows_then steps one two (grows_member p h.0 over guard steps) (grows_made over.structure _ _ one)) (grows_further ps h.1 over guard two)

pub grows_disjunction : (ps : List Part) → PartsGrow ps → RuleGrows (disjunction_rule ps)
grows_disjunction [] h over guard steps = grows_same steps
grows_disjunction (p ∷ ps) h over guard steps = grows_then steps (member p over guard steps) _ (grows_member p h.0 over guard steps) (grows_further ps h.1 over guard (member p over guard steps))

as_part_grows : (f : Form) (rule : GuardedRule) → RuleGrows rule → PartsGrow (as_part f rule)
as_part_grows (atom name terms) rule h = tt
as_part_grows (sorted s v) rule h = tt
as_part_grows (test t) rule h = by_test (is_test t)
  where
    by_test : (b : Bool) → PartsGrow (cond b [] (record { formula = test t; rule = rule } ∷ []))
    by_test true = tt
    by_test false = (h, tt)
as_part_grows (negation f) rule h = tt
as_part_grows (conjunction fs) rule h = (h, tt)
as_part_grows (disjunction fs) rule h = (h, tt)
as_part_grows (implication f g) rule h = (h, tt)
as_part_grows (exists v s f) rule h = (h, tt)
as_part_grows (forall v s f) rule h = (h, tt)

mutual
  -- the steps of a core form stand after those that were made
  pub grows_build : (f : Form) (block : List Variable) → RuleGrows (build f block)
  grows_build (atom name terms) block = grows_ending block (leaf_under (scan_of name terms)) (grows_leaf (scan_of name terms) (λ M st. grows_made M _ _ st))
  grows_build (test t) block = grows_ending block (test_under t) (grows_test t)
  grows_build (sorted s v) block = grows_ending block (leaf_under (sort_texts s v)) (grows_leaf (sort_texts s v) (λ M st. grows_made M _ _ st))
  grows_build (negation f) block =
      let es : Elements = record { atoms = []; sorts = []; others = []; tests = []; negations = record { formula = f; rule = build f [] } ∷ [] } in
      grows_ending block (conjunction_rule es []) (grows_conjunction es [] tt (grows_build f [], tt))
  grows_build (conjunction fs) block = grows_conjunction (record { atoms = atoms_in fs; sorts = sorts_in fs; others = others_in fs; tests = tests_in fs; negations = negations_in fs }) block (grows_others fs) (grows_negations fs)
  grows_build (disjunction fs) block = grows_ending block (disjunction_rule (members_in fs)) (grows_disjunction (members_in fs) (grows_members fs))
  grows_build (exists v s f) block = grows_build f (block ++ bound_by s v ∷ [])
  grows_build (implication f g) block = λ over guard steps. grows_same steps
  grows_build (forall v s f) block = λ over guard steps. grows_same steps

  grows_others : (fs : Forms) → PartsGrow (others_in fs)
  grows_others no_forms = tt
  grows_others (form f fs) = all_join (λ p. RuleGrows p.rule) (as_part f (build f [])) (others_in fs) (as_part_grows f (build f []) (grows_build f [])) (grows_others fs)

  grows_negations : (fs : Forms) → PartsGrow (negations_in fs)
  grows_negations no_forms = tt
  grows_negations (form (negation g) fs) = (grows_build g [], grows_negations fs)
  grows_negations (form (atom name terms) fs) = grows_negations fs
  grows_negations (form (test t) fs) = grows_negations fs
  grows_negations (form (sorted s v) fs) = grows_negations fs
  grows_negations (form (conjunction gs) fs) = grows_negations fs
  grows_negations (form (disjunction gs) fs) = grows_negations fs
  grows_negations (form (implication f g) fs) = grows_negations fs
  grows_negations (form (exists v s f) fs) = grows_negations fs
  grows_negations (form (forall v s f) fs) = grows_negations fs

  pub grows_members : (fs : Forms) → PartsGrow (members_in fs)
  grows_members no_forms = tt
  grows_members (form f fs) = (grows_build f [], grows_members fs)
