-- Names, as the lexer reads them, and the names that columns have.
use Rattle.std.specs.Prelude.{◌≡◌, List, []}
use Rattle.std.specs.List.{AllByRecursion}
use Rattle.lrp_model.specs.Texts.{Identifier}
use Rattle.lrp_model.specs.Lexing.{scan}
use Rattle.lrp_model.specs.Tokens.Token.{name_token}
use Rattle.lrp_model.specs.declared.relations.Sort.{Sort}
use Rattle.lrp_model.specs.declared.relations.Sort.TheVariants.{Time, Data, Named}
use Rattle.lrp_model.specs.declared.relations.Column.{Column}

-- the bytes are the token of a name
abbrev pub IsName : Identifier → Type 0
IsName n = scan n ≡ record { token = name_token n; taken = n; left = [] }

-- the name of a sort, if it has one of its own, is a name
abbrev pub IsNamedSort : Sort → Type 0
IsNamedSort Time = Unit {0}
IsNamedSort Data = Unit {0}
IsNamedSort (Named n) = IsName n

-- the names of the columns, and those of their sorts, are names
abbrev pub AreNamed : List Column → Type 0
AreNamed columns = AllByRecursion (λ c. IsName c.name × IsNamedSort c.sort) columns
