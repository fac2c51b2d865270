-- Columns, as the grammars of databases and of queries both have them.
use Rattle.std.specs.Prelude.{List, [], ◌∷◌}
use Rattle.lrp_model.specs.declared.relations.Sort.{Sort}
use Rattle.lrp_model.specs.declared.relations.Sort.TheVariants.{Time, Data, Named}
use Rattle.lrp_model.specs.declared.raw.RawColumn.{RawColumn}
use Rattle.lrp_model.specs.declared.tokens.Symbol.TheVariants.{Colon}
use Rattle.lrp_model.specs.declared.tokens.Word.TheVariants.{Time as time_word, Data as data_word}
use Rattle.lrp_model.specs.Tokens.{Token, Part}
use Rattle.lrp_model.specs.Tokens.Token.{name_token, word_token, symbol_token}
use Rattle.lrp_model.specs.Tokens.Part.{at, any}

-- the token of a sort; a name is a data sort of its own
abbrev pub sort_token : Sort → Token
sort_token Time = word_token time_word
sort_token Data = word_token data_word
sort_token (Named n) = name_token n

-- what spells a column
abbrev pub column_text : RawColumn → List Part
column_text c = at c.place (name_token c.name) ∷ any (symbol_token Colon) ∷ at c.sort_place (sort_token c.sort) ∷ []
