-- What the checker answers.
use Rattle.std.specs.Prelude.{◌≡◌, List, Result, Ok, Err}
use Rattle.lrp_model.specs.Formulas.{Question, question_of}
use Rattle.lrp_model.specs.RawQueries.{RawQuestion}
use Rattle.lrp_model.specs.Sorting.{IsSortFault}
use Rattle.lrp_model.specs.declared.formulas.Query.{Query}
use Rattle.lrp_model.specs.declared.relations.Relation.{Relation}
use Rattle.lrp_model.specs.declared.faults.QueryFault.{QueryFault}
use Rattle.lrp_model.specs.declared.faults.QueryRead.{QueryRead}
use Rattle.lrp_model.specs.declared.faults.QueryRead.TheVariants.{Fault, Memory}

-- why there is no query: the sort fault, or want of memory
abbrev pub IsUnsorted : List Relation → RawQuestion → QueryRead → Type 0
IsUnsorted db q (Fault f) = IsSortFault db q f
IsUnsorted db q Memory = Unit {0}
