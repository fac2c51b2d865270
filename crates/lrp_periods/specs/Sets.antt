-- What the operations make of sets of assignments.
use Rattle.std.specs.Prelude.{◌⊎◌, List, Contains}
use Rattle.std.specs.List.{AllByRecursion}
use Rattle.lrp_model.specs.Texts.{Identifier, Text}
use Rattle.lrp_model.specs.Rows.{text}
use Rattle.lrp_model.specs.Satisfaction.{Assignment, Passes, with_value}
use Rattle.lrp_model.specs.declared.formulas.Test.{Test}
use Rattle.lrp_tables.specs.Tables.{HasTexts}

-- a join: both sets have the assignment, and it passes each test
pub record IsJoinOf (left right : Assignment → Type 0) (tests : List Test) (env : Assignment) : Type 0 where
  pub in_left : left env
  pub in_right : right env
  pub passes : AllByRecursion (Passes env) tests

-- a selection
pub record IsSelectionOf (set : Assignment → Type 0) (test : Test) (env : Assignment) : Type 0 where
  pub has : set env
  pub passes : Passes env test

-- a union over data variables, each of which has a text of the domain
pub record IsUnionOf (domain : List Text) (texts : List Identifier) (left right : Assignment → Type 0) (env : Assignment) : Type 0 where
  pub known : HasTexts domain texts env
  pub has : left env ⊎ right env

-- a set over further variables, which are free
pub record IsExtensionOf (domain : List Text) (texts : List Identifier) (set : Assignment → Type 0) (env : Assignment) : Type 0 where
  pub known : HasTexts domain texts env
  pub has : set env

-- a difference
pub record IsDifferenceOf (left right : Assignment → Type 0) (env : Assignment) : Type 0 where
  pub has : left env
  pub none : right env → ⊥

-- a complement over data variables, each of which has a text of the domain
pub record IsComplementOf (domain : List Text) (texts : List Identifier) (set : Assignment → Type 0) (env : Assignment) : Type 0 where
  pub known : HasTexts domain texts env
  pub none : set env → ⊥

-- some text of the domain for the data variable makes the assignment one of the set
abbrev pub IsTextCompleted : List Text → Identifier → (Assignment → Type 0) → Assignment → Type 0
IsTextCompleted domain name set env = (t : Text) × Contains domain t × set (with_value name (text t) env)
