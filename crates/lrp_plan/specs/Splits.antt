-- The elements of an `and` of the program as they are sorted out.
use Rattle.std.specs.Prelude.{◌≡◌, ℕ, ◌<◌, ◌^◌, List, [], ◌∷◌, ◌++◌, Option, Some, None, slice_get}
use Rattle.std.specs.List.{AllZip}
use Rattle.lrp_core.specs.Cores.{core_of}
use Rattle.lrp_core.specs.VariableTrees.{tree_of, free_tree}
use Rattle.lrp_core.specs.declared.core_forms.Core.{Core}
use Rattle.lrp_core.specs.declared.variable_trees.VariableTree.{VariableTree}
use Rattle.lrp_model.specs.Formulas.{Forms, no_forms, form, joined}
use Rattle.lrp_model.specs.Satisfaction.{Structure}
use Rattle.lrp_model.specs.Conjunctions.{Element as PlanElement, tests_in}
use Rattle.lrp_model.specs.Plans.{positives_in, negations_in}
use Rattle.lrp_plan.specs.declared.elements.Element.{Element}
use Rattle.lrp_plan.specs.declared.splits.Parts.{Parts}
use Rattle.lrp_plan.specs.Elements.{IsElement, IsDenied}

-- the number of rows, or 2^64 where there is none
abbrev pub IsRank : Option ℕ → ℕ → Type 0
IsRank (Some n) rank = (rank ≡ n) × (n < 2 ^ 64)
IsRank None rank = rank ≡ 2 ^ 64

-- an element with its rank
pub record IsRanked (M : Structure) (fs : List Core) (e : Element) (p : PlanElement) : Type 0 where
  pub element : IsElement fs e p
  pub ranks : IsRank (p.rows M) e.rank

-- the elements so far
pub record IsParts (M : Structure) (fs : List Core) (gs : Forms) (parts : Parts) : Type 0 where
  pub ranked_ones : AllZip (IsRanked M fs) parts.positives.items (positives_in gs)
  pub checks : parts.tests ≡ tests_in gs
  pub denials : AllZip (IsDenied fs) parts.negations.items (negations_in gs)

-- one element more, with its tree
pub record SortsOut (M : Structure) (index : ℕ) (core : Core) (own : VariableTree) (old new : Parts) : Type 0 where
  pub next : (fs : List Core) (gs : Forms) → slice_get fs index ≡ Some core → tree_of own ≡ free_tree (core_of core) → IsParts M fs gs old → IsParts M fs (joined gs (form (core_of core) no_forms)) new

-- one positive more
pub record AddsPositive (index : ℕ) (own : VariableTree) (rank : ℕ) (old new : Parts) : Type 0 where
  pub added : Element
  pub items : new.positives.items ≡ old.positives.items ++ added ∷ []
  pub place : added.index ≡ index
  pub ranked_as : added.rank ≡ rank
  pub tree_is : added.tree.now ≡ own
  pub tests_stay : new.tests ≡ old.tests
  pub negations_stay : new.negations.items ≡ old.negations.items

-- one negation more
pub record AddsNegation (index : ℕ) (own : VariableTree) (old new : Parts) : Type 0 where
  pub added : Element
  pub items : new.negations.items ≡ old.negations.items ++ added ∷ []
  pub place : added.index ≡ index
  pub tree_is : added.tree.now ≡ own
  pub tests_stay : new.tests ≡ old.tests
  pub positives_stay : new.positives.items ≡ old.positives.items
