-- The parser of columns, as the grammars of databases and of queries both have it.
use Rattle.std.specs.Prelude.{ℕ, List, Result, Ok, Err}
use Rattle.lrp_model.specs.declared.relations.Sort.{Sort}
use Rattle.lrp_model.specs.declared.relations.Sort.TheVariants.{Time as time_sort, Data as data_sort, Named as named_sort}
use Rattle.lrp_model.specs.declared.raw.RawColumn.{RawColumn}
use Rattle.lrp_model.specs.declared.tokens.Symbol.TheVariants.{Colon}
use Rattle.lrp_model.specs.declared.tokens.Word.{Word as WordOf}
use Rattle.lrp_model.specs.declared.tokens.Word.TheVariants.{Time, Data}
use Rattle.lrp_model.specs.declared.tokens.Place.{Place}
use Rattle.lrp_model.specs.declared.tokens.Fault.{Fault}
use Rattle.lrp_model.specs.declared.tokens.Fault.TheVariants.{Syntax}
use Rattle.lrp_model.specs.Tokens.{Token}
use Rattle.lrp_model.specs.Tokens.Token.{name_token, word_token}
use Rattle.lrp_text.specs.declared.lexemes.Lexeme.{Lexeme}
use Rattle.lrp_text.specs.declared.lexemes.Lexeme.TheVariants.{Name, Word}
use Rattle.lrp_text.specs.Parsers.{Parser, accept, pure, ◌>>=◌, ◌>>◌}
use Rattle.lrp_text.specs.Taking.{name, expect, with_place}

-- the sort that a token stands for; a name is a data sort of its own
abbrev pub sort_of : Token → Result Sort Fault
sort_of (word_token Time) = Ok time_sort
sort_of (word_token Data) = Ok data_sort
sort_of (name_token n) = Ok (named_sort n)
sort_of _ = Err Syntax

-- a sort, and its place
abbrev pub sort : Parser (Sort × Place)
sort = accept (λ t. with_place t.place (sort_of t.token))

-- a name, a colon and a sort
unfoldable pub column : Parser RawColumn
column = do
  n ← name
  expect Colon
  s ← sort
  pure (record { name = n.0; place = n.1; sort = s.0; sort_place = s.1 })

-- the sort that a reserved word stands for
abbrev pub word_sort : WordOf → Result Sort Fault
word_sort Time = Ok time_sort
word_sort Data = Ok data_sort
word_sort _ = Err Syntax

-- the sort that a lexeme shows
abbrev pub shown_sort : Lexeme → List ℕ → Result Sort Fault
shown_sort (Word w) slice = word_sort w
shown_sort Name slice = Ok (named_sort slice)
shown_sort _ slice = Err Syntax
