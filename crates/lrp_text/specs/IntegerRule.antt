-- The parser of integers, as the grammars of databases and of queries both have it.
use Rattle.lrp_model.specs.declared.tokens.Symbol.TheVariants.{Minus}
use Rattle.lrp_model.specs.declared.written.Integer.{Integer}
use Rattle.lrp_text.specs.Parsers.{Parser, ◌>>=◌, pure, eat}
use Rattle.lrp_text.specs.Taking.{is_symbol, number}

-- a number that may have a minus before it
unfoldable pub integer : Parser Integer
integer = do
  negative ← eat (is_symbol Minus)
  n ← number
  pure (record { negative = negative; size = n })
