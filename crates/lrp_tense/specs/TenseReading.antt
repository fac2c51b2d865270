-- What reading a query with temporal operators means: its tree, or the fault that is reported.
use Rattle.std.specs.Prelude.{ℕ, Bool, List}
use Rattle.lrp_model.specs.declared.faults.QueryFault.{QueryFault}
use Rattle.lrp_model.specs.Tokens.{Tokens}
use Rattle.lrp_model.specs.Queries.Language.{temporal}
use Rattle.lrp_model.specs.QueryReading.{IsQueryIn, TextsIn, IsFaultIn}
use Rattle.lrp_model.specs.RawQueries.{RawQuestion}

-- the bytes are a query, and this is what it says
abbrev pub IsTenseQuery : List ℕ → RawQuestion → Type 0
IsTenseQuery = IsQueryIn temporal

-- the tokens spell a tree, and with the flag a lawful one
abbrev pub TenseTexts : Bool → Tokens → Type 0
TenseTexts = TextsIn temporal

-- the fault that reading reports, with the kinds and places of queries
abbrev pub IsTenseQueryFault : List ℕ → QueryFault → Type 0
IsTenseQueryFault = IsFaultIn temporal
