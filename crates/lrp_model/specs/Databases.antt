-- The grammar of databases: what spells a written tree, and which trees are lawful.
use Rattle.std.specs.Prelude.{◌≤◌, Bool, true, false, List, [], ◌∷◌, ◌++◌, length, flat_map}
use Rattle.std.specs.List.{AllByRecursion}
use Rattle.lrp_model.specs.Texts.{Identifier}
use Rattle.lrp_model.specs.declared.tokens.Symbol.{Symbol}
use Rattle.lrp_model.specs.declared.tokens.Symbol.TheVariants.{Open, Close, OpenBrace, CloseBrace, Comma, Semicolon, Plus, Minus, Le, Ge, Equals}
use Rattle.lrp_model.specs.declared.tokens.Word.TheVariants.{Relation, Where, Letter}
use Rattle.lrp_model.specs.declared.written.Located.{Located}
use Rattle.lrp_model.specs.declared.written.Integer.{Integer}
use Rattle.lrp_model.specs.declared.written.WrittenValue.{WrittenValue}
use Rattle.lrp_model.specs.declared.written.WrittenValue.TheVariants.{Constant, Instant, Point}
use Rattle.lrp_model.specs.declared.written.BoundOp.{BoundOp}
use Rattle.lrp_model.specs.declared.written.BoundOp.TheVariants.{AtMost, AtLeast, Equal}
use Rattle.lrp_model.specs.declared.written.Side.{Side}
use Rattle.lrp_model.specs.declared.written.Side.TheVariants.{Alone, Column, Shifted}
use Rattle.lrp_model.specs.declared.written.RawBound.{RawBound}
use Rattle.lrp_model.specs.declared.written.RawRow.{RawRow}
use Rattle.lrp_model.specs.declared.written.RawRelation.{RawRelation}
use Rattle.lrp_model.specs.Tokens.{Part, located_text, separated}
use Rattle.lrp_model.specs.Tokens.Token.{name_token, word_token, number_token, text_token, symbol_token, end_token}
use Rattle.lrp_model.specs.Tokens.Part.{at, any}
use Rattle.lrp_model.specs.Limits.{greatest_number}
use Rattle.lrp_model.specs.Columns.{column_text}

-- ---- what spells a tree

-- a minus before a negative integer
abbrev pub sign : Bool → List Part
sign true = any (symbol_token Minus) ∷ []
sign false = []

-- integer = [ "-" ] number
abbrev pub integer_text : Integer → List Part
integer_text i = sign i.negative ++ any (number_token i.size) ∷ []

-- value = text | integer [ "+" number "n" ]
abbrev pub value_text : WrittenValue → List Part
value_text (Constant t) = any (text_token t) ∷ []
value_text (Instant i) = integer_text i
value_text (Point i k) = integer_text i ++ any (symbol_token Plus) ∷ any (number_token k) ∷ any (word_token Letter) ∷ []

-- the sign of an offset
abbrev pub shift : Bool → Symbol
shift true = Minus
shift false = Plus

-- a name at its place
abbrev pub name_part : Located Identifier → Part
name_part n = at n.place (name_token n.item)

-- side = integer | name [ ( "+" | "-" ) number ]
abbrev pub side_text : Side → List Part
side_text (Alone i) = integer_text i
side_text (Column n) = name_part n ∷ []
side_text (Shifted n down k) = name_part n ∷ any (symbol_token (shift down)) ∷ any (number_token k) ∷ []

-- "<=" | ">=" | "="
abbrev pub bound_symbol : BoundOp → Symbol
bound_symbol AtMost = Le
bound_symbol AtLeast = Ge
bound_symbol Equal = Equals

-- bound = name ( "<=" | ">=" | "=" ) side
abbrev pub bound_text : RawBound → List Part
bound_text b = name_part b.left ∷ any (symbol_token (bound_symbol b.op)) ∷ side_text b.side

abbrev pub comma : Part
comma = any (symbol_token Comma)

-- [ "where" bound { "," bound } ]
abbrev pub bounds_text : List RawBound → List Part
bounds_text [] = []
bounds_text (b ∷ bs) = any (word_token Where) ∷ separated comma bound_text (b ∷ bs)

-- row = "(" [ value { "," value } ] ")" [ "where" bound { "," bound } ] ";"
abbrev pub row_text : RawRow → List Part
row_text r = any (symbol_token Open) ∷ (separated comma (located_text value_text) r.values ++ any (symbol_token Close) ∷ (bounds_text r.bounds ++ any (symbol_token Semicolon) ∷ []))

-- relation = "relation" name "(" [ column { "," column } ] ")" "{" { row } "}"
abbrev pub relation_text : RawRelation → List Part
relation_text r =
    any (word_token Relation) ∷ name_part r.name ∷ any (symbol_token Open) ∷ (separated comma column_text r.columns ++
    any (symbol_token Close) ∷ any (symbol_token OpenBrace) ∷ (flat_map (located_text row_text) r.rows ++ any (symbol_token CloseBrace) ∷ []))

-- database = { relation }, and after it the end
abbrev pub database_text : List RawRelation → List Part
database_text rs = flat_map relation_text rs ++ any end_token ∷ []

-- ---- what makes a tree lawful beyond the grammar: the sizes of numbers and texts, and periods that are not 0

-- a text of at most 255 bytes, an integer within the limit, or a point of a period from 1 to the limit
abbrev pub FitsValue : WrittenValue → Type 0
FitsValue (Constant t) = length t ≤ 255
FitsValue (Instant i) = i.size ≤ greatest_number
FitsValue (Point i k) = (i.size ≤ greatest_number) × (1 ≤ k) × (k ≤ greatest_number)

abbrev pub FitsSide : Side → Type 0
FitsSide (Alone i) = i.size ≤ greatest_number
FitsSide (Column n) = Unit {0}
FitsSide (Shifted n down k) = k ≤ greatest_number

abbrev pub FitsBound : RawBound → Type 0
FitsBound b = FitsSide b.side

abbrev pub FitsRow : RawRow → Type 0
FitsRow r = AllByRecursion (λ v. FitsValue v.item) r.values × AllByRecursion FitsBound r.bounds

abbrev pub FitsRelation : RawRelation → Type 0
FitsRelation r = AllByRecursion (λ row. FitsRow row.item) r.rows

-- all numbers and texts of all relations fit
abbrev pub FitsDatabase : List RawRelation → Type 0
FitsDatabase = AllByRecursion FitsRelation
