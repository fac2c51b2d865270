-- The relations of a database, and the first definitions beside it, as they are kept.
use Rattle.std.specs.Prelude.{◌≡◌, ◌++◌, ℕ, List, [], take, Option, Some, None}
use Rattle.std.specs.Borrow.{Bor}
use Rattle.std.specs.HashSet.{HashSet}
use Rattle.lrp_model.specs.Sorting.{has_sort}
use Rattle.lrp_model.specs.Texts.{Identifier}
use Rattle.lrp_model.specs.declared.relations.Relation.{Relation}
use Rattle.lrp_model.specs.declared.relations.Sort.TheVariants.{Named}
use Rattle.lrp_sorts.specs.Scopes.{holds}
use Rattle.lrp_sorts.specs.declared.catalog.First.{First}

-- these definitions, as relations without rows
abbrev pub first_definitions : Option First → List Relation
first_definitions None = []
first_definitions (Some f) = take f.count f.definitions.now.definitions

-- they stand beside this database
abbrev pub StandBeside : List Relation → Option First → Type 0
StandBeside db None = Unit {0}
StandBeside db (Some f) = f.definitions.now.relations ≡ db

-- and the named sorts are those of all columns
pub record IsCatalog {S : Type 0} (db : List Relation) (beside : Option First) (sorts : HashSet (Bor (List ℕ)) S) : Type 0 where
  pub database : StandBeside db beside
  pub named : (n : Identifier) → holds sorts n ≡ has_sort (db ++ first_definitions beside) (Named n)
