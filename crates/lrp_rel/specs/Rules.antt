-- The grammar of databases, as parsers.
use Rattle.std.specs.Prelude.{ℕ, true, false, List, [], Result, Ok, Err, if◌then◌else◌}
use Rattle.lrp_model.specs.Texts.{Identifier}
use Rattle.lrp_model.specs.declared.tokens.Symbol.TheVariants.{Open, Close, OpenBrace, CloseBrace, Comma, Semicolon, Plus, Minus, Le, Ge, Equals}
use Rattle.lrp_model.specs.declared.tokens.Word.TheVariants.{Relation, Where, Letter}
use Rattle.lrp_model.specs.declared.tokens.Fault.{Fault}
use Rattle.lrp_model.specs.declared.tokens.Fault.TheVariants.{Syntax}
use Rattle.lrp_model.specs.declared.written.Located.{Located}
use Rattle.lrp_model.specs.declared.written.WrittenValue.{WrittenValue}
use Rattle.lrp_model.specs.declared.written.WrittenValue.TheVariants.{Constant, Instant, Point}
use Rattle.lrp_model.specs.declared.written.BoundOp.{BoundOp}
use Rattle.lrp_model.specs.declared.written.BoundOp.TheVariants.{AtMost, AtLeast, Equal}
use Rattle.lrp_model.specs.declared.written.Side.{Side}
use Rattle.lrp_model.specs.declared.written.Side.TheVariants.{Alone, Column, Shifted}
use Rattle.lrp_model.specs.declared.written.RawBound.{RawBound}
use Rattle.lrp_model.specs.declared.written.RawRow.{RawRow}
use Rattle.lrp_model.specs.declared.written.RawRelation.{RawRelation}
use Rattle.lrp_model.specs.Tokens.{Token}
use Rattle.lrp_model.specs.Tokens.Token.{symbol_token}
use Rattle.lrp_text.specs.Parsers.{Parser, ◌>>=◌, ◌>>◌, pure, accept, look, eat, listed, separated_from, until_from}
use Rattle.lrp_text.specs.Taking.{is_symbol, is_word, is_text, is_name, is_end, expect, expect_word, expect_end, name, number, period, text, located}
use Rattle.lrp_text.specs.ColumnRule.{column}
use Rattle.lrp_text.specs.IntegerRule.{integer}
use Rattle.lrp_text.specs.OffsetRule.{Offset, unmoved, moved_by, offset}

-- a name with its place
unfoldable pub label : Parser (Located Identifier)
label = do
  n ← name
  pure (record { place = n.1; item = n.0 })

-- an integer alone is an instant, with a period after it a point
unfoldable pub numeric : Parser WrittenValue
numeric = do
  i ← integer
  more ← eat (is_symbol Plus)
  if more then (do
    k ← period
    expect_word Letter
    pure (Point i k)) else pure (Instant i)

-- a text, an instant or a point
unfoldable pub bare_value : Parser WrittenValue
bare_value = do
  quoted ← look false is_text
  if quoted then (do
    t ← text
    pure (Constant t)) else numeric

-- a value and its place
abbrev pub value : Parser (Located WrittenValue)
value = located bare_value

-- a column, alone or with an offset
abbrev pub side_of : Located Identifier → Offset → Side
side_of n unmoved = Column n
side_of n (moved_by down k) = Shifted n down k

-- a column that was read, alone or with an offset
unfoldable pub named_side : Parser Side
named_side = do
  n ← label
  o ← offset
  pure (side_of n o)

-- the right side of a bound
unfoldable pub side : Parser Side
side = do
  named ← look false is_name
  if named then named_side else (do
    i ← integer
    pure (Alone i))

-- the comparison that a symbol stands for
abbrev pub bound_op_of : Token → Result BoundOp Fault
bound_op_of (symbol_token Le) = Ok AtMost
bound_op_of (symbol_token Ge) = Ok AtLeast
bound_op_of (symbol_token Equals) = Ok Equal
bound_op_of _ = Err Syntax

-- a column, a comparison and a side
unfoldable pub bound : Parser RawBound
bound = do
  n ← label
  op ← accept (λ t. bound_op_of t.token)
  s ← side
  pure (record { left = n; op = op; side = s })

-- the bounds of a row, if there are any; the number bounds the turns of each list
unfoldable pub bounds : ℕ → Parser (List RawBound)
bounds n = do
  some ← eat (is_word Where)
  if some then separated_from bound (is_symbol Comma) n [] else pure []

-- the values of a row, in parentheses, and its bounds
unfoldable pub row : ℕ → Parser RawRow
row n = do
  expect Open
  vs ← listed value (is_symbol Comma) (is_symbol Close) n
  expect Close
  bs ← bounds n
  expect Semicolon
  pure (record { values = vs; bounds = bs })

-- a relation: its name, its columns and its rows
unfoldable pub relation : ℕ → Parser RawRelation
relation n = do
  expect_word Relation
  who ← label
  expect Open
  cs ← listed column (is_symbol Comma) (is_symbol Close) n
  expect Close
  expect OpenBrace
  rows ← until_from (located (row n)) (is_symbol CloseBrace) n []
  expect CloseBrace
  pure (record { name = who; columns = cs; rows = rows })

-- relations, and then the end
unfoldable pub database : ℕ → Parser (List RawRelation)
database n = do
  rs ← until_from (relation n) is_end n []
  expect_end
  pure rs
