-- The steps of an `and` under a guard: what stands near to what was taken in comes next, under the table of it, and a variable of the block is dropped as soon as nothing that is left has it.
use Rattle.std.specs.Prelude.{ℕ, zero, suc, nat_le, ◌+◌, Bool, true, false, cond, not, ◌&&◌, ◌||◌, List, [], ◌∷◌, ◌++◌, length, filter, flat_map, Option, Some, None, position, remove, slice_get, reverse, nat_eq, pos}
use Rattle.std.specs.List.{list_any}
use Rattle.std.specs.Str.{bytes_eq}
use Rattle.lrp_model.specs.Texts.{Identifier}
use Rattle.lrp_model.specs.Rows.{rows_of, relation_named, columns_in}
use Rattle.lrp_model.specs.Sorts.{same_sort}
use Rattle.lrp_model.specs.Formulas.{Form, atom, test, sorted, conjunction, no_forms, form}
use Rattle.lrp_model.specs.Variables.{Variable, time_variable, data_variable, free, is_among, are_among, meet, variables_of_test, variables_of_time}
use Rattle.lrp_model.specs.Satisfaction.{Structure}
use Rattle.lrp_model.specs.declared.relations.Sort.{Sort}
use Rattle.lrp_model.specs.declared.relations.Column.{Column}
use Rattle.lrp_model.specs.declared.formulas.Op.TheVariants.{Eq}
use Rattle.lrp_model.specs.declared.formulas.TimeTerm.TheVariants.{Var as time_var}
use Rattle.lrp_model.specs.declared.formulas.DataTerm.TheVariants.{Var as data_var}
use Rattle.lrp_model.specs.declared.formulas.Term.{Term}
use Rattle.lrp_model.specs.declared.formulas.Term.TheVariants.{Data as data_term}
use Rattle.lrp_model.specs.declared.formulas.Test.{Test}
use Rattle.lrp_model.specs.declared.formulas.Test.TheVariants.{Compare, Member, Equal}
use Rattle.lrp_model.specs.declared.plans.StepKind.TheVariants.{Select}
use Rattle.lrp_model.specs.Steps.{Steps, formula_at, made, join, minus, complement, scan_of, leaf, sort_texts}
use Rattle.lrp_model.specs.Conjunctions.{Taken, nothing_taken, is_covered, select_each}
use Rattle.lrp_plan_laws.specs.Atoms.{Atom}
use Rattle.lrp_plan_laws.specs.Binding.{is_leaf, is_guarded_by}
use Rattle.lrp_plan_laws.specs.Projections.{PlanGround, drop_each, distinct_variables, columns_at, project, projected}

-- a rule that makes steps over a ground and under a guard, where there is one: the last one is the result
abbrev pub GuardedRule : Type 0
GuardedRule = PlanGround → Option ℕ → Steps → Steps

-- a part of a formula, and the rule that makes its steps
pub record GuardedPart : Type 0 where
  pub formula : Form
  pub rule : GuardedRule

-- the element `sort s(v)`
pub record SortElement : Type 0 where
  pub sort : Sort
  pub variable : Identifier

-- where the making of an `and` stands: the steps, what was taken in, what is left, and the variables of its block that are not dropped, the outermost first
pub record Standing : Type 0 where
  pub steps : Steps
  pub taken : Taken
  pub atoms : List Atom
  pub sorts : List SortElement
  pub others : List GuardedPart
  pub tests : List Test
  pub negations : List GuardedPart
  pub block : List Variable

abbrev pub atom_form : Atom → Form
atom_form a = atom a.name a.terms

abbrev pub sort_form : SortElement → Form
sort_form e = sorted e.sort e.variable

-- ---- steps that read a step of a given number

-- a step and a test
abbrev pub select_from : ℕ → Test → Structure → Steps → Steps
select_from of t M steps = made M (Select of t) (conjunction (form (formula_at steps of) (form (test t) no_forms))) steps

-- the step of this number, and one `select` for each test, in order
abbrev pub select_each_from : ℕ → List Test → Structure → Steps → Steps
select_each_from of [] M steps = steps
select_each_from of (t ∷ ts) M steps = select_each ts M (select_from of t M steps)

-- the number of the last step, where tests were selected by, or of this one where there were none
abbrev pub last_selected : List Test → ℕ → Steps → ℕ
last_selected [] of steps = of
last_selected (t ∷ ts) of steps = length steps

-- ---- taking in

-- the tests that are covered once these variables are taken, and those that are not
abbrev pub covered_by : List Variable → List Test → List Test
covered_by vs ts = filter (λ t. are_among (variables_of_test t) vs) ts

abbrev pub uncovered_by : List Variable → List Test → List Test
uncovered_by vs ts = filter (λ t. not (are_among (variables_of_test t) vs)) ts

-- something with these variables was taken in, and the last step is the result
abbrev pub taken_up : List Variable → Steps → Taken
taken_up vs steps = record { some = true; result = length steps; variables = vs }

-- the last step is all that was taken in, a formula with these variables too: the tests that are then covered follow by `select`
abbrev pub go_on_from : Structure → List Variable → Steps → Standing → Standing
go_on_from M vs steps at =
    let variables = at.taken.variables ++ vs in
    let after = select_each (covered_by variables at.tests) M steps in
    record at { steps = after; taken = taken_up variables after; tests = uncovered_by variables at.tests }

-- the last step is of a formula with these variables: it is joined with the result so far, where there is one, by a `join` that carries the tests that are then covered
abbrev pub take_up : Structure → List Variable → Steps → Standing → Standing
take_up M vs steps at =
    let variables = at.taken.variables ++ vs in
    let after = join at.taken.result (covered_by variables at.tests) M steps in
    cond at.taken.some (record at { steps = after; taken = taken_up variables after; tests = uncovered_by variables at.tests }) (go_on_from M vs steps at)

-- ---- parts under the result so far

-- the guard of a part, where the result so far guards it: a leaf has none
abbrev pub has_guard : Taken → Steps → Form → Bool
has_guard taken steps f = taken.some && (not (is_leaf f) && is_guarded_by (free (formula_at steps taken.result)) f)

-- the steps of a part under the projection of the result so far
abbrev pub under : PlanGround → Taken → GuardedPart → Steps → Steps
under over taken p steps = p.rule over (Some (projected over (free p.formula) taken.result steps)) (project over (free p.formula) taken.result steps)

-- the steps of a part, under its guard or under none
abbrev pub part_steps : PlanGround → Taken → GuardedPart → Steps → Steps
part_steps over taken p steps = cond (has_guard taken steps p.formula) (under over taken p steps) (p.rule over None steps)

-- the part is made under the result so far itself
abbrev pub is_whole_guard : PlanGround → Taken → Steps → Form → Bool
is_whole_guard over taken steps f = has_guard taken steps f && nat_eq (projected over (free f) taken.result steps) taken.result

-- ---- rounds

-- an atom has the variable alone in a column of the sort
abbrev pub stands_alone : SortElement → List Column → List Term → Bool
stands_alone e (c ∷ cs) (data_term (data_var v) ∷ ts) = (bytes_eq v e.variable && same_sort c.sort e.sort) || stands_alone e cs ts
stands_alone e (c ∷ cs) (t ∷ ts) = stands_alone e cs ts
stands_alone e _ _ = false

-- the sort elements that an atom makes needless, since its texts are texts of the sort, are left out
abbrev pub still_needed : Structure → Atom → List SortElement → List SortElement
still_needed M a = filter (λ e. not (stands_alone e (columns_in (relation_named M.relations a.name)) a.terms))

abbrev pub take_atom : PlanGround → ℕ → Option Atom → Standing → Standing
take_atom over i None at = at
take_atom over i (Some a) at = take_up over.structure (free (atom_form a)) (scan_of a.name a.terms over.structure at.steps) (record at { atoms = remove at.atoms i; sorts = still_needed over.structure a at.sorts })

abbrev pub take_sort : PlanGround → ℕ → Option SortElement → Standing → Standing
take_sort over i None at = at
take_sort over i (Some e) at = take_up over.structure (free (sort_form e)) (sort_texts e.sort e.variable over.structure at.steps) (record at { sorts = remove at.sorts i })

abbrev pub take_other : PlanGround → ℕ → Option GuardedPart → Standing → Standing
take_other over i None at = at
take_other over i (Some p) at =
    let steps = part_steps over at.taken p at.steps in
    let left = record at { others = remove at.others i } in
    cond (is_whole_guard over at.taken at.steps p.formula) (go_on_from over.structure (free p.formula) steps left) (take_up over.structure (free p.formula) steps left)

abbrev pub take_one_test : PlanGround → ℕ → Option Test → Standing → Standing
take_one_test over i None at = at
take_one_test over i (Some t) at = take_up over.structure (variables_of_test t) (leaf t over.structure at.steps) (record at { tests = remove at.tests i })

-- `v = v`, which each value of the variable passes
abbrev pub any_value : Variable → Test
any_value (time_variable v) = Compare (time_var v (pos 0)) Eq (time_var v (pos 0))
any_value (data_variable v) = Equal (data_var v) (data_var v)

-- each of these variables is with_missing: it is joined without a test
abbrev pub bring_each : Structure → List Variable → ℕ → Steps → Steps
bring_each M [] result steps = steps
bring_each M (v ∷ vs) result steps =
    let after = join result [] M (leaf (any_value v) M steps) in
    bring_each M vs (length after) after

-- the number of the last join, or of the result so far where no variable is with_missing
abbrev pub last_brought : List Variable → ℕ → Steps → ℕ
last_brought [] result steps = result
last_brought (v ∷ vs) result steps = length steps

-- the variables of a formula that are not taken, each where it first occurs
abbrev pub missing : Taken → Form → List Variable
missing taken f = filter (λ v. not (is_among taken.variables v)) (distinct_variables (free f))

-- the result so far with the variables that a formula wants
abbrev pub with_missing : Structure → Form → Standing → Standing
with_missing M f at =
    let vs = missing at.taken f in
    let after = bring_each M vs at.taken.result at.steps in
    record at { steps = after; taken = record { some = true; result = last_brought vs at.taken.result after; variables = at.taken.variables ++ vs } }

-- a formula is taken off the result so far, which has its variables; where there is none the formula's complement is the result
abbrev pub take_off : PlanGround → GuardedPart → Standing → Standing
take_off over p at =
    let steps = part_steps over at.taken p at.steps in
    let after = cond at.taken.some (minus at.taken.result over.structure steps) (complement over.structure steps) in
    record at { steps = after; taken = taken_up (at.taken.variables ++ free p.formula) after }

abbrev pub take_one_negation : PlanGround → ℕ → Option GuardedPart → Standing → Standing
take_one_negation over i None at = at
take_one_negation over i (Some p) at =
    let left = record at { negations = remove at.negations i } in
    take_off over p (cond at.taken.some (with_missing over.structure p.formula left) left)

-- ---- what comes next

-- what a round takes, by its place in its list
pub data Choice : Type 0 where
  an_atom : ℕ → Choice
  a_sort : ℕ → Choice
  a_part : ℕ → Choice
  a_test : ℕ → Choice
  a_negation : ℕ → Choice

-- the first choice that there is
abbrev pub or_else : Option Choice → Option Choice → Option Choice
or_else (Some choice) other = Some choice
or_else None other = other

abbrev pub chosen : (ℕ → Choice) → Option ℕ → Option Choice
chosen make None = None
chosen make (Some i) = Some (make i)

-- the first of a list that passes, by its place
abbrev pub first_choice : {X : Type 0} → (ℕ → Choice) → (X → Bool) → List X → Option Choice
first_choice make passes xs = chosen make (position passes xs)

-- one of the variables is taken
abbrev pub is_near : Taken → List Variable → Bool
is_near taken vs = meet vs taken.variables

-- a comparison has a variable of the one list on the left, and one of the other on the right
abbrev pub compares : List Variable → List Variable → Test → Bool
compares vs ws (Compare left op right) = meet (variables_of_time left) vs && meet (variables_of_time right) ws
compares vs ws (Member term point) = false
compares vs ws (Equal left right) = false

-- a remaining comparison has a taken variable on one side, and one of these on the other
abbrev pub is_linked : Taken → List Test → List Variable → Bool
is_linked taken tests vs = list_any (λ t. compares taken.variables vs t || compares vs taken.variables t) tests

-- the first that is near, else the first that is linked, else the first of all where nothing was taken in
abbrev pub near_atom : Standing → Option Choice
near_atom at =
    or_else (first_choice an_atom (λ a. is_near at.taken (free (atom_form a))) at.atoms)
    (or_else (first_choice an_atom (λ a. is_linked at.taken at.tests (free (atom_form a))) at.atoms)
    (first_choice an_atom (λ a. not at.taken.some) at.atoms))

-- a sort element comes where no atom is left
abbrev pub near_sort : Standing → Option Choice
near_sort at = cond (nat_eq (length at.atoms) 0) (first_choice a_sort (λ e. is_near at.taken (free (sort_form e)) || not at.taken.some) at.sorts) None

abbrev pub near_part : Standing → Option Choice
near_part at = or_else (first_choice a_part (λ p. is_near at.taken (free p.formula)) at.others) (first_choice a_part (λ p. not at.taken.some) at.others)

abbrev pub near_test : Standing → Option Choice
near_test at = first_choice a_test (λ t. is_near at.taken (variables_of_test t)) at.tests

-- a positive that is not near, and then a test
abbrev pub any_positive : Standing → Option Choice
any_positive at =
    or_else (first_choice an_atom (λ a. true) at.atoms)
    (or_else (first_choice a_sort (λ e. true) at.sorts)
    (first_choice a_part (λ p. true) at.others))

-- the first negation that is covered, or else the first
abbrev pub next_denied : Standing → Option Choice
next_denied at = or_else (first_choice a_negation (λ p. is_covered at.taken p.formula) at.negations) (first_choice a_negation (λ p. true) at.negations)

-- what a round takes, where something is left
abbrev pub next_choice : Standing → Option Choice
next_choice at =
    or_else (near_atom at)
    (or_else (near_sort at)
    (or_else (near_part at)
    (or_else (near_test at)
    (or_else (any_positive at)
    (or_else (first_choice a_test (λ t. true) at.tests)
    (next_denied at))))))

abbrev pub take : PlanGround → Choice → Standing → Standing
take over (an_atom i) at = take_atom over i (slice_get at.atoms i) at
take over (a_sort i) at = take_sort over i (slice_get at.sorts i) at
take over (a_part i) at = take_other over i (slice_get at.others i) at
take over (a_test i) at = take_one_test over i (slice_get at.tests i) at
take over (a_negation i) at = take_one_negation over i (slice_get at.negations i) at

-- ---- the variables of the block

-- the variables of all that is left
abbrev pub variables_left : Standing → List Variable
variables_left at =
    flat_map (λ a. free (atom_form a)) at.atoms
    ++ (flat_map (λ e. free (sort_form e)) at.sorts
    ++ (flat_map (λ p. free p.formula) at.others
    ++ (flat_map variables_of_test at.tests
    ++ flat_map (λ p. free p.formula) at.negations)))

-- the variables of the block that nothing has that is left, the outermost first, are dropped
abbrev pub drop_spent : PlanGround → Standing → Standing
drop_spent over at =
    let left = variables_left at in
    let after = drop_each over (filter (λ v. not (is_among left v)) at.block) at.taken.result at.steps in
    record at { steps = after; taken = record { some = at.taken.some; result = length after; variables = at.taken.variables }; block = filter (is_among left) at.block }

-- one round for each element at most
abbrev pub rounds : PlanGround → ℕ → Option Choice → Standing → Standing
rounds over zero choice at = at
rounds over (suc n) None at = at
rounds over (suc n) (Some choice) at =
    let after = drop_spent over (take over choice at) in
    rounds over n (next_choice after) after

abbrev pub elements_left : Standing → ℕ
elements_left at = length at.atoms + (length at.sorts + (length at.others + (length at.tests + length at.negations)))

-- ---- the whole `and`

-- what is taken where an `and` begins: its guard, where there is one
abbrev pub taken_first : Option ℕ → Steps → Taken
taken_first None steps = nothing_taken
taken_first (Some guard) steps = record { some = true; result = guard; variables = columns_at steps guard }

-- the tests that the guard covers follow by `select`
abbrev pub begun : PlanGround → Standing → Standing
begun over at =
    let first = covered_by at.taken.variables at.tests in
    let after = select_each_from at.taken.result first over.structure at.steps in
    cond at.taken.some (record at { steps = after; taken = record { some = true; result = last_selected first at.taken.result after; variables = at.taken.variables }; tests = uncovered_by at.taken.variables at.tests }) at

-- atoms and sort elements, each in order of their number of rows or texts; ties keep their order
abbrev pub put_by : {X : Type 0} → (X → ℕ) → X → List X → List X
put_by count x [] = x ∷ []
put_by count x (y ∷ ys) = cond (nat_le (count x) (count y)) (x ∷ y ∷ ys) (y ∷ put_by count x ys)

abbrev pub ranked_by : {X : Type 0} → (X → ℕ) → List X → List X
ranked_by count [] = []
ranked_by count (x ∷ xs) = put_by count x (ranked_by count xs)

-- the elements of an `and`, each kind in list order
pub record Elements : Type 0 where
  pub atoms : List Atom
  pub sorts : List SortElement
  pub others : List GuardedPart
  pub tests : List Test
  pub negations : List GuardedPart

-- where the making of these elements begins
abbrev pub standing_first : PlanGround → Elements → List Variable → Option ℕ → Steps → Standing
standing_first over es block guard steps = record {
  steps = steps;
  taken = taken_first guard steps;
  atoms = ranked_by (λ a. length (rows_of over.structure.relations a.name)) es.atoms;
  sorts = ranked_by (λ e. length (over.structure.domain e.sort)) es.sorts;
  others = es.others;
  tests = es.tests;
  negations = es.negations;
  block = block;
}

-- the steps of an `and` of these elements within a block of these variables; those that are left at the end are dropped, the innermost first
abbrev pub guarded_conjunction : Elements → List Variable → GuardedRule
guarded_conjunction es block over guard steps =
    let first = begun over (standing_first over es block guard steps) in
    let last = rounds over (elements_left first) (next_choice first) first in
    drop_each over (reverse last.block) last.taken.result last.steps
