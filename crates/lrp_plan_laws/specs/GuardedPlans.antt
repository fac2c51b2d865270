-- The plan of a query under guards, and the plan of a query by either way of planning.
use Rattle.std.specs.Prelude.{ℕ, cond, ◌&&◌, List, [], ◌∷◌, ◌++◌, length, Some, None, filter, map, reverse, nat_eq}
use Rattle.lrp_model.specs.Formulas.{Form, Forms, Question, atom, test, sorted, negation, conjunction, disjunction, implication, exists, forall, no_forms, form}
use Rattle.lrp_model.specs.Variables.{Variable, bound_by, free, are_among, variables_of_test}
use Rattle.lrp_model.specs.Satisfaction.{structure}
use Rattle.lrp_model.specs.Sorts.{is_data}
use Rattle.lrp_model.specs.Domains.{all_texts}
use Rattle.lrp_model.specs.Core.{core_form, guarded, has_named_sort}
use Rattle.lrp_model.specs.Conjunctions.{is_test, tests_in}
use Rattle.lrp_model.specs.Plans.{plan}
use Rattle.lrp_model.specs.Steps.{Steps, Rule, formula_at, made, join, leaf, scan_of, sort_texts, union}
use Rattle.lrp_model.specs.declared.relations.Relation.{Relation}
use Rattle.lrp_model.specs.declared.relations.Sort.TheVariants.{Data}
use Rattle.lrp_model.specs.declared.formulas.Test.{Test}
use Rattle.lrp_model.specs.declared.plans.StepKind.TheVariants.{Extend}
use Rattle.lrp_model.specs.declared.plans.Planning.{Planning}
use Rattle.lrp_model.specs.declared.plans.Planning.TheVariants.{Written, Guarded}
use Rattle.lrp_plan_laws.specs.Atoms.{Atom}
use Rattle.lrp_plan_laws.specs.Binding.{is_guarded_by}
use Rattle.lrp_plan_laws.specs.Projections.{PlanGround, drop_each, project, projected}
use Rattle.lrp_plan_laws.specs.GuardedConjunctions.{GuardedRule, GuardedPart, SortElement, select_from, guarded_conjunction}

-- a leaf is joined with its guard
abbrev pub leaf_under : Rule → GuardedRule
leaf_under rule over None steps = rule over.structure steps
leaf_under rule over (Some guard) steps = join guard [] over.structure (rule over.structure steps)

-- a comparison or an equality whose variables the guard has is a `select` of it
abbrev pub test_under : Test → GuardedRule
test_under t over None steps = leaf t over.structure steps
test_under t over (Some guard) steps =
    cond (is_test t && are_among (variables_of_test t) (free (formula_at steps guard))) (select_from guard t over.structure steps) (leaf_under (leaf t) over (Some guard) steps)

-- the variables of a block are dropped at the end, the innermost first
abbrev pub ending : List Variable → GuardedRule → GuardedRule
ending block rule over guard steps =
    let after = rule over guard steps in
    drop_each over (reverse block) (length after) after

-- ---- an `or`

-- a member under the projection of the guard; where that is not the guard itself, a `join` with the guard follows
abbrev pub member_under : GuardedPart → PlanGround → ℕ → Steps → Steps
member_under p over guard steps =
    let at = projected over (free p.formula) guard steps in
    let after = p.rule over (Some at) (project over (free p.formula) guard steps) in
    cond (nat_eq at guard) after (join guard [] over.structure after)

abbrev pub member : GuardedPart → GuardedRule
member p over None steps = p.rule over None steps
member p over (Some guard) steps = cond (is_guarded_by (free (formula_at steps guard)) p.formula) (member_under p over guard steps) (join guard [] over.structure (p.rule over None steps))

-- each further member, and then a `union` of the result so far with it
abbrev pub further_members : List GuardedPart → GuardedRule
further_members [] over guard steps = steps
further_members (p ∷ ps) over guard steps = further_members ps over guard (union (length steps) over.structure (member p over guard steps))

abbrev pub disjunction_rule : List GuardedPart → GuardedRule
disjunction_rule [] over guard steps = steps
disjunction_rule (p ∷ ps) over guard steps = further_members ps over guard (member p over guard steps)

-- ---- the elements of an `and`

abbrev pub atoms_in : Forms → List Atom
atoms_in no_forms = []
atoms_in (form (atom name terms) fs) = record { name = name; terms = terms } ∷ atoms_in fs
atoms_in (form f fs) = atoms_in fs

abbrev pub sorts_in : Forms → List SortElement
sorts_in no_forms = []
sorts_in (form (sorted s v) fs) = record { sort = s; variable = v } ∷ sorts_in fs
sorts_in (form f fs) = sorts_in fs

-- a formula that is no atom, sort element, comparison, equality or negation, with its rule
abbrev pub as_part : Form → GuardedRule → List GuardedPart
as_part (atom name terms) rule = []
as_part (sorted s v) rule = []
as_part (test t) rule = cond (is_test t) [] (record { formula = test t; rule = rule } ∷ [])
as_part (negation f) rule = []
as_part f rule = record { formula = f; rule = rule } ∷ []

-- the steps of a core form within a block of these variables, the outermost first; no implication and no `forall` stands in one
abbrev mutual
  pub build : Form → List Variable → GuardedRule
  build (atom name terms) = λ block. ending block (leaf_under (scan_of name terms))
  build (test t) = λ block. ending block (test_under t)
  build (sorted s v) = λ block. ending block (leaf_under (sort_texts s v))
  build (negation f) = λ block. ending block (guarded_conjunction (record { atoms = []; sorts = []; others = []; tests = []; negations = record { formula = f; rule = build f [] } ∷ [] }) [])
  build (conjunction fs) = guarded_conjunction (record { atoms = atoms_in fs; sorts = sorts_in fs; others = others_in fs; tests = tests_in fs; negations = negations_in fs })
  build (disjunction fs) = λ block. ending block (disjunction_rule (members_in fs))
  build (exists v s f) = λ block. build f (block ++ bound_by s v ∷ [])
  build (implication f g) = λ block over guard steps. steps
  build (forall v s f) = λ block over guard steps. steps

  -- the other positives, the negations `not g` with the steps of g, and the members of an `or`
  pub others_in : Forms → List GuardedPart
  others_in no_forms = []
  others_in (form f fs) = as_part f (build f []) ++ others_in fs

  pub negations_in : Forms → List GuardedPart
  negations_in no_forms = []
  negations_in (form (negation g) fs) = record { formula = g; rule = build g [] } ∷ negations_in fs
  negations_in (form f fs) = negations_in fs

  pub members_in : Forms → List GuardedPart
  members_in no_forms = []
  members_in (form f fs) = record { formula = f; rule = build f [] } ∷ members_in fs

-- ---- the plan

-- what the plan of a query is made over
abbrev pub ground : List Relation → Question → PlanGround
ground db q = record { structure = structure db q; sorts = Data ∷ filter is_data (map (λ entry. entry.0) (all_texts db q)) }

-- the steps of a query's core form under guards
abbrev pub guarded_steps : List Relation → Question → Steps
guarded_steps db q = build (core_form (has_named_sort db) q) [] (ground db q) None []

-- these steps, and then the step `head`
abbrev pub guarded_plan : List Relation → Question → Steps
guarded_plan db q = made (structure db q) (Extend (length (guarded_steps db q))) (guarded (has_named_sort db) q.head q.body) (guarded_steps db q)

-- the plan of a query by this way of planning
abbrev pub plan_by : Planning → List Relation → Question → Steps
plan_by Written db q = plan db q
plan_by Guarded db q = guarded_plan db q
