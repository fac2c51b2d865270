-- How where the making of an `and` stands in the program follows the rules of an `and` under guards.
use Rattle.std.specs.Prelude.{◌≡◌, ℕ, zero, suc, Bool, cond, List, [], ◌++◌, length, Option, Some, None, map, slice_get}
use Rattle.std.specs.List.{AllZip}
use Rattle.lrp_model.specs.RawTerms.{said_term}
use Rattle.lrp_core.specs.Cores.{core_of}
use Rattle.lrp_core.specs.FreeVariables.{variable_of}
use Rattle.lrp_core.specs.VariableTrees.{tree_of, free_tree}
use Rattle.lrp_core.specs.declared.core_forms.Core.{Core}
use Rattle.lrp_model.specs.Rows.{rows_of}
use Rattle.lrp_model.specs.Formulas.{Form, Forms, negation}
use Rattle.lrp_model.specs.Variables.{Variable, free}
use Rattle.lrp_model.specs.Steps.{Steps, minus, complement}
use Rattle.lrp_model.specs.Conjunctions.{tests_in}
use Rattle.lrp_plan_laws.specs.Atoms.{Atom}
use Rattle.lrp_plan_laws.specs.Projections.{PlanGround as Ground}
use Rattle.lrp_plan_laws.specs.GuardedConjunctions.{GuardedPart as Part, SortElement, Standing, Elements as ElementsOf, Choice, atom_form, sort_form, ranked_by, take_up, go_on_from, taken_up, with_missing as brought, drop_spent, take, next_choice}
use Rattle.lrp_plan_laws.specs.GuardedPlans.{build, atoms_in, sorts_in, others_in, negations_in}
use Rattle.lrp_plan.specs.declared.drafts.PlannedOperand.{PlannedOperand}
use Rattle.lrp_plan.specs.Drafts.{IsPlannedOperand, AreTests}
use Rattle.lrp_plan.specs.Elements.{CanPlan}
use Rattle.lrp_plan.specs.Taking.{HaveSame}
use Rattle.lrp_guarded.specs.Making.{IsMaking}
use Rattle.lrp_guarded.specs.declared.elements.RankedAtom.{RankedAtom}
use Rattle.lrp_guarded.specs.declared.elements.RankedSort.{RankedSort}
use Rattle.lrp_guarded.specs.declared.elements.Part.{Part as ProgramPart}
use Rattle.lrp_guarded.specs.declared.elements.Elements.{Elements}
use Rattle.lrp_guarded.specs.declared.standing.Standing.{Standing as ProgramStanding}
use Rattle.lrp_guarded.specs.declared.making.Making.{Making}

-- an atom of the program
pub record IsAtom (over : Ground) (K : ℕ) (e : RankedAtom) (a : Atom) : Type 0 where
  pub name : e.relation.now ≡ a.name
  pub terms : map said_term e.terms.now ≡ a.terms
  pub variables : HaveSame (map variable_of e.variables.now) (free (atom_form a))
  pub can : CanPlan over.structure K (atom_form a)

-- a sort element of the program
pub record IsSortElement (e : RankedSort) (s : SortElement) : Type 0 where
  pub sort : e.sort.now ≡ s.sort
  pub name : e.name.now ≡ s.variable
  pub variables : HaveSame (map variable_of e.variables.now) (free (sort_form s))

-- a core form with its tree, and the rule that makes its steps
pub record IsPartOf (over : Ground) (K : ℕ) (f : Form) (e : ProgramPart) (p : Part) : Type 0 where
  pub formula : p.formula ≡ f
  pub rule : p.rule ≡ build p.formula []
  pub tree : tree_of e.tree.now ≡ free_tree p.formula
  pub can : CanPlan over.structure K p.formula

-- an element of the list of core forms
pub record IsGuardedPart (over : Ground) (K : ℕ) (fs : List Core) (e : ProgramPart) (p : Part) : Type 0 where
  pub core : Core
  pub stands : slice_get fs e.index ≡ Some core
  pub part : IsPartOf over K (core_of core) e p

-- what a negation of the list denies
pub record IsDeniedPart (over : Ground) (K : ℕ) (fs : List Core) (e : ProgramPart) (p : Part) : Type 0 where
  pub core : Core
  pub stands : slice_get fs e.index ≡ Some core
  pub denies : core_of core ≡ negation p.formula
  pub part : IsPartOf over K p.formula e p

-- the elements that are left
pub record AreElementsLeft (over : Ground) (K : ℕ) (fs : List Core) (left : Elements) (at : Standing) : Type 0 where
  pub atoms : AllZip (IsAtom over K) left.atoms.items at.atoms
  pub sorts : AllZip IsSortElement left.sorts.items at.sorts
  pub others : AllZip (IsGuardedPart over K fs) left.others.items at.others
  pub tests : left.tests ≡ at.tests
  pub are_tests : AreTests at.tests
  pub negations : AllZip (IsDeniedPart over K fs) left.negations.items at.negations

-- where the making stands, but for the steps
pub record IsStandingOf (over : Ground) (K : ℕ) (fs : List Core) (standing : ProgramStanding) (at : Standing) : Type 0 where
  pub some : standing.some ≡ at.taken.some
  pub result : IsPlannedOperand over.structure.relations K at.steps at.taken.result standing.result
  pub variables : HaveSame (map variable_of standing.variables) at.taken.variables
  pub left : AreElementsLeft over K fs standing.left at
  pub block : map variable_of standing.block ≡ at.block

-- where the making stands, with the steps so far
pub record StandsInList (over : Ground) (K : ℕ) (fs : List Core) (program : Making) (place : ProgramStanding) (at : Standing) : Type 0 where
  pub making : IsMaking over K program at.steps
  pub standing : IsStandingOf over K fs place at

-- what was done with an element is what the rules do with it
pub record FollowsRule (step : Ground → Standing → Standing) (before after : Making) (old new : ProgramStanding) : Type 0 where
  pub follows : (over : Ground) (K : ℕ) (fs : List Core) (at : Standing) → StandsInList over K fs before old at → StandsInList over K fs after new (step over at)

-- a guard, where there is one, is a step that was made
abbrev pub IsGuard : Ground → ℕ → Steps → Option PlannedOperand → Option ℕ → Type 0
IsGuard over K steps None None = Unit {0}
IsGuard over K steps (Some o) (Some i) = IsPlannedOperand over.structure.relations K steps i o
IsGuard over K steps _ _ = ⊥

-- the elements of an `and`, by what they are
abbrev pub elements_in : Forms → ElementsOf
elements_in fs = record { atoms = atoms_in fs; sorts = sorts_in fs; others = others_in fs; tests = tests_in fs; negations = negations_in fs }

-- how many rows an atom has, and how many texts a sort element
abbrev pub rows_at : Ground → Atom → ℕ
rows_at over a = length (rows_of over.structure.relations a.name)

abbrev pub entries_at : Ground → SortElement → ℕ
entries_at over e = length (over.structure.domain e.sort)

-- the elements of the program are these, ranked
pub record AreElements (over : Ground) (K : ℕ) (fs : List Core) (left : Elements) (es : ElementsOf) : Type 0 where
  pub atoms : AllZip (IsAtom over K) left.atoms.items (ranked_by (rows_at over) es.atoms)
  pub sorts : AllZip IsSortElement left.sorts.items (ranked_by (entries_at over) es.sorts)
  pub others : AllZip (IsGuardedPart over K fs) left.others.items es.others
  pub tests : left.tests ≡ es.tests
  pub are_tests : AreTests es.tests
  pub negations : AllZip (IsDeniedPart over K fs) left.negations.items es.negations

-- the steps of a core form within a block of these variables were made
pub record Builds (f : Form) (block : List Variable) (guard : Option PlannedOperand) (old new : Making) : Type 0 where
  pub follows : (over : Ground) (K : ℕ) (steps : Steps) (g : Option ℕ) → CanPlan over.structure K f → IsMaking over K old steps → IsGuard over K steps guard g → IsMaking over K new (build f block over g steps)

-- a formula whose steps were just made is taken up, or goes on from the last one
abbrev pub taking_up : Bool → List Variable → Ground → Standing → Standing
taking_up is_joined vs over at = cond is_joined (take_up over.structure vs at.steps at) (go_on_from over.structure vs at.steps at)

-- it is taken off
abbrev pub subtracting : List Variable → Ground → Standing → Standing
subtracting vs over at =
    let after = cond at.taken.some (minus at.taken.result over.structure at.steps) (complement over.structure at.steps) in
    record at { steps = after; taken = taken_up (at.taken.variables ++ vs) after }

-- what it wants is brought, where something was taken
abbrev pub bringing : Form → Ground → Standing → Standing
bringing f over at = cond at.taken.some (brought over.structure f at) at

-- one round, where an element is left
abbrev pub turned : Ground → Option Choice → Standing → Standing
turned over None at = at
turned over (Some choice) at = drop_spent over (take over choice at)

-- a number of rounds
abbrev pub turned_so_often : Ground → ℕ → Standing → Standing
turned_so_often over zero at = at
turned_so_often over (suc n) at = turned over (next_choice (turned_so_often over n at)) (turned_so_often over n at)
