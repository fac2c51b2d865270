-- The numbers of the kinds of faults, which rank them at one place, and their words in a refusal.
use Rattle.std.specs.Prelude.{ℕ, List, codes}
use Rattle.lrp_model.specs.declared.faults.DbKind.{DbKind}
use Rattle.lrp_model.specs.declared.faults.DbKind.TheVariants.{Utf8, Syntax, Number, Period, Name, Arity, Sort, Column, Wide, TextTooLong, UnknownRelation}
use Rattle.lrp_model.specs.declared.faults.QueryKind.{QueryKind}
use Rattle.lrp_model.specs.declared.faults.QueryKind.TheVariants.{Utf8 as utf8, Syntax as syntax, Number as number, Period as period, Deep, UnknownRelation as unknown_relation, Arity as arity, Sort as sort, Unbound, Rebound, Wide as wide, TextTooLong as text_too_long, UnknownSort, Defined}

-- the number of a kind of fault of a database
abbrev pub database_number : DbKind → ℕ
database_number Utf8 = 1
database_number Syntax = 2
database_number Number = 3
database_number Period = 4
database_number Name = 5
database_number Arity = 6
database_number Sort = 7
database_number Column = 8
database_number Wide = 9
database_number TextTooLong = 10
database_number UnknownRelation = 11

-- its word
abbrev pub database_word : DbKind → List ℕ
database_word Utf8 = codes "Utf8"
database_word Syntax = codes "Syntax"
database_word Number = codes "Number"
database_word Period = codes "Period"
database_word Name = codes "Name"
database_word Arity = codes "Arity"
database_word Sort = codes "Sort"
database_word Column = codes "Column"
database_word Wide = codes "Wide"
database_word TextTooLong = codes "TextTooLong"
database_word UnknownRelation = codes "UnknownRelation"

-- the number of a kind of fault of a query
abbrev pub query_number : QueryKind → ℕ
query_number utf8 = 1
query_number syntax = 2
query_number number = 3
query_number period = 4
query_number Deep = 5
query_number unknown_relation = 6
query_number arity = 7
query_number sort = 8
query_number Unbound = 9
query_number Rebound = 10
query_number wide = 11
query_number text_too_long = 12
query_number UnknownSort = 13
query_number Defined = 14

-- its word
abbrev pub query_word : QueryKind → List ℕ
query_word utf8 = codes "Utf8"
query_word syntax = codes "Syntax"
query_word number = codes "Number"
query_word period = codes "Period"
query_word Deep = codes "Deep"
query_word unknown_relation = codes "UnknownRelation"
query_word arity = codes "Arity"
query_word sort = codes "Sort"
query_word Unbound = codes "Unbound"
query_word Rebound = codes "Rebound"
query_word wide = codes "Wide"
query_word text_too_long = codes "TextTooLong"
query_word UnknownSort = codes "UnknownSort"
query_word Defined = codes "Defined"
