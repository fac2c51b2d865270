-- What holds of the expansion of each query that is read.
use Rattle.std.specs.Prelude.{◌<◌, map}
use Rattle.lrp_model.specs.Names.{AreNamed}
use Rattle.lrp_model.specs.DatabaseMeaning.{column_of}
use Rattle.lrp_model.specs.RawQueries.{RawQuestion}
use Rattle.lrp_query.specs.Lawful.{FitsRaw, formulas_in, formula_texts}
use Rattle.lrp_model.specs.Limits.{most_bytes}

-- as of each query without operators that is read, but for its depth: the names in its head are names, and fewer than 2^26 formulas and fewer than 2^24 texts stand in it
pub record IsLawfulExpansion (q : RawQuestion) : Type 0 where
  pub names : AreNamed (map column_of q.head)
  pub sizes : FitsRaw q.body
  pub formulas : formulas_in q.body < 67108864
  pub texts : formula_texts q.body < most_bytes
