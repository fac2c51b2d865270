-- What expansion keeps: on each well-sorted expanded query, the answers by the operators' own meaning.
use Rattle.std.specs.Prelude.{◌≡◌, ◌↔◌, List, map, reverse}
use Rattle.std.specs.List.{AllZip}
use Rattle.lrp_model.specs.Rows.{Tuple}
use Rattle.lrp_model.specs.DatabaseMeaning.{column_of}
use Rattle.lrp_model.specs.Satisfaction.{Structure, Assignment, Satisfies, IsOfSort, structure, assignment}
use Rattle.lrp_model.specs.Sorting.{IsWellSorted}
use Rattle.lrp_model.specs.Checked.{plain_question}
use Rattle.lrp_model.specs.RawQueries.{RawQuestion}
use Rattle.lrp_model.specs.declared.relations.Relation.{Relation}
use Rattle.lrp_tense.specs.Meaning.{TenseSatisfies}
use Rattle.lrp_tense.specs.TenseDomains.{tense_structure}

-- over a database for which the query without operators is well-sorted: the texts of each data sort are those of the written one, and an assignment satisfies it exactly where it satisfies the written one
pub record KeepsMeaningOver (db : List Relation) (q r : RawQuestion) : Type 0 where
  pub texts : tense_structure db q ≡ structure db (plain_question r)
  pub satisfied : (M : Structure) (env : Assignment) → TenseSatisfies q.body (reverse q.head) M env ↔ Satisfies (plain_question r).body M env

-- the same over each such database
abbrev pub KeepsMeaning : RawQuestion → RawQuestion → Type 0
KeepsMeaning q r = (db : List Relation) → IsWellSorted db r → KeepsMeaningOver db q r

-- the tuple has a value of its sort in each column, and its assignment satisfies the body by the operators' own meaning; the texts are those of the query as it is written
pub record IsTenseAnswer (db : List Relation) (q : RawQuestion) (tuple : Tuple) : Type 0 where
  pub fits : AllZip (λ c d. IsOfSort (tense_structure db q) c.sort d) q.head tuple
  pub satisfies : TenseSatisfies q.body (reverse q.head) (tense_structure db q) (assignment (map column_of q.head) tuple)
