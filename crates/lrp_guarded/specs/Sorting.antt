-- The elements of an `and` of the program as they are sorted out.
use Rattle.std.specs.Prelude.{◌≡◌, ℕ, ◌+◌, length, List, [], ◌∷◌, ◌++◌, Some, cond, slice_get}
use Rattle.std.specs.List.{AllZip}
use Rattle.lrp_core.specs.Cores.{core_of}
use Rattle.lrp_core.specs.VariableTrees.{tree_of, free_tree}
use Rattle.lrp_core.specs.declared.core_forms.Core.{Core}
use Rattle.lrp_core.specs.declared.variable_trees.VariableTree.{VariableTree}
use Rattle.lrp_model.specs.Formulas.{Forms, no_forms, form, joined}
use Rattle.lrp_model.specs.Conjunctions.{is_test}
use Rattle.lrp_model.specs.declared.formulas.Test.{Test}
use Rattle.lrp_plan_laws.specs.Atoms.{Atom}
use Rattle.lrp_plan_laws.specs.Projections.{PlanGround as Ground}
use Rattle.lrp_plan_laws.specs.GuardedConjunctions.{SortElement, Elements as ElementsOf}
use Rattle.lrp_plan.specs.Elements.{CanPlan}
use Rattle.lrp_guarded.specs.declared.elements.RankedAtom.{RankedAtom}
use Rattle.lrp_guarded.specs.declared.elements.RankedSort.{RankedSort}
use Rattle.lrp_guarded.specs.declared.elements.Part.{Part}
use Rattle.lrp_guarded.specs.declared.elements.Elements.{Elements}
use Rattle.lrp_guarded.specs.Standing.{IsAtom, IsSortElement, IsGuardedPart as IsPart, IsDeniedPart as IsDenied, elements_in, rows_at, entries_at as texts_at}

-- an atom with its number of rows, and a sort element with its number of texts
pub record IsRankedAtom (over : Ground) (K : ℕ) (e : RankedAtom) (a : Atom) : Type 0 where
  pub is : IsAtom over K e a
  pub rows : e.rows ≡ rows_at over a

pub record IsRankedSort (over : Ground) (e : RankedSort) (s : SortElement) : Type 0 where
  pub is : IsSortElement e s
  pub texts : e.texts ≡ texts_at over s

-- the elements so far, each kind in list order
pub record AreSoFar (over : Ground) (K : ℕ) (fs : List Core) (gs : Forms) (left : Elements) : Type 0 where
  pub atoms : AllZip (IsRankedAtom over K) left.atoms.items (elements_in gs).atoms
  pub sorts : AllZip (IsRankedSort over) left.sorts.items (elements_in gs).sorts
  pub others : AllZip (IsPart over K fs) left.others.items (elements_in gs).others
  pub tests : left.tests ≡ (elements_in gs).tests
  pub negations : AllZip (IsDenied over K fs) left.negations.items (elements_in gs).negations

-- one element more, with its tree
pub record SortsElements (over : Ground) (K index : ℕ) (core : Core) (own : VariableTree) (old new : Elements) : Type 0 where
  pub next : (fs : List Core) (gs : Forms) → slice_get fs index ≡ Some core → tree_of own ≡ free_tree (core_of core) → CanPlan over.structure K (core_of core) → AreSoFar over K fs gs old → AreSoFar over K fs (joined gs (form (core_of core) no_forms)) new

-- a test more, or one more of the others
pub record AddsCheck (t : Test) (part : Part) (old new : Elements) : Type 0 where
  pub tests : new.tests ≡ cond (is_test t) (old.tests ++ t ∷ []) old.tests
  pub others : new.others.items ≡ cond (is_test t) old.others.items (old.others.items ++ part ∷ [])
  pub atoms : new.atoms.items ≡ old.atoms.items
  pub sorts : new.sorts.items ≡ old.sorts.items
  pub negations : new.negations.items ≡ old.negations.items

-- how many elements there are
abbrev pub entry_count : Elements → ℕ
entry_count left = length left.atoms.items + (length left.sorts.items + (length left.others.items + (length left.tests + length left.negations.items)))
