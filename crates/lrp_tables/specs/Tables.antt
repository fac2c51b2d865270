-- What a table stands for, and the sets of assignments that the steps of a plan make of those of their operands.
use Rattle.std.specs.Prelude.{◌≡◌, ◌⊎◌, ℕ, List, ◌++◌, map, Contains}
use Rattle.std.specs.List.{AllByRecursion}
use Rattle.lrp_model.specs.Texts.{Text, Identifier}
use Rattle.lrp_model.specs.Rows.{IsInRow}
use Rattle.lrp_model.specs.Variables.{Variable, time_variable, data_variable}
use Rattle.lrp_model.specs.Satisfaction.{Assignment, Passes, term_value}
use Rattle.lrp_model.specs.declared.relations.Column.{Column}
use Rattle.lrp_model.specs.declared.relations.Row.{Row}
use Rattle.lrp_model.specs.declared.relations.Relation.{Relation}
use Rattle.lrp_model.specs.declared.formulas.Term.{Term}
use Rattle.lrp_model.specs.declared.formulas.Test.{Test}
use Rattle.lrp_store.specs.Tables.{InTable, AreNumbered}
use Rattle.lrp_tables.specs.declared.table.Table.{Table}
use Rattle.lrp_tables.specs.Columns.{joint, scan_texts, test_names, head_texts}

-- the table has the assignment, where the numbers of its texts are those of the domain
abbrev pub HasAssignment : Table → List Text → Assignment → Type 0
HasAssignment table domain env = InTable domain table.vars.times table.vars.texts table.store env

-- time variables of these names, and data variables of those
abbrev pub named_variables : List Identifier → List Identifier → List Variable
named_variables times texts = map time_variable times ++ map data_variable texts

-- the assignment gives each of the data variables a text of the domain
abbrev pub HasTexts : List Text → List Identifier → Assignment → Type 0
HasTexts domain names env = AllByRecursion (λ name. Contains domain (env.texts name)) names

-- each of the names is one of the others
abbrev pub AreNamesAmong : List Identifier → List Identifier → Type 0
AreNamesAmong names others = (name : Identifier) → Contains names name → Contains others name

-- no name is one of both lists
abbrev pub HaveNoName : List Identifier → List Identifier → Type 0
HaveNoName names others = (name : Identifier) → Contains names name → Contains others name → ⊥

-- the table holds just the assignments of the set, over these variables, in cells of this period; each number of a text in it is one of the domain
pub record IsTableOf (domain : List Text) (times texts : List Identifier) (period : ℕ) (set : Assignment → Type 0) (made : Table) : Type 0 where
  pub times_are : made.vars.times ≡ times
  pub texts_are : made.vars.texts ≡ texts
  pub period_is : made.store.period ≡ period
  pub sound : (env : Assignment) → HasAssignment made domain env → set env
  pub whole : (env : Assignment) → set env → HasAssignment made domain env
  pub numbered : AreNumbered domain made.store

-- ---- the sets

-- an atom: some row of the relation has the values of the terms as a member
pub record IsScanned (domain : List Text) (relation : Relation) (terms : List Term) (env : Assignment) : Type 0 where
  pub known : HasTexts domain (scan_texts terms) env
  pub row : Row
  pub listed : Contains relation.rows row
  pub is : IsInRow row (map (term_value env) terms)

-- a test
pub record IsTested (domain : List Text) (test : Test) (env : Assignment) : Type 0 where
  pub known : HasTexts domain (test_names test) env
  pub passes : Passes env test

-- a join: both tables have the assignment, and it passes each test
pub record IsJoined (domain : List Text) (left right : Table) (tests : List Test) (env : Assignment) : Type 0 where
  pub in_left : HasAssignment left domain env
  pub in_right : HasAssignment right domain env
  pub passes : AllByRecursion (Passes env) tests

-- a selection
pub record IsSelected (domain : List Text) (table : Table) (test : Test) (env : Assignment) : Type 0 where
  pub has : HasAssignment table domain env
  pub passes : Passes env test

-- a union: one of the tables has the assignment, and the variables of the other are free
pub record IsUnited (domain : List Text) (left right : Table) (env : Assignment) : Type 0 where
  pub known : HasTexts domain (joint left.vars.texts right.vars.texts) env
  pub has : HasAssignment left domain env ⊎ HasAssignment right domain env

-- a table over a head: the head's further variables are free
pub record IsExtended (domain : List Text) (columns : List Column) (table : Table) (env : Assignment) : Type 0 where
  pub known : HasTexts domain (head_texts columns) env
  pub has : HasAssignment table domain env

-- a difference
pub record IsMinus (domain : List Text) (left right : Table) (env : Assignment) : Type 0 where
  pub has : HasAssignment left domain env
  pub none : HasAssignment right domain env → ⊥

-- a complement
pub record IsComplement (domain : List Text) (table : Table) (env : Assignment) : Type 0 where
  pub known : HasTexts domain table.vars.texts env
  pub none : HasAssignment table domain env → ⊥
