-- The grammar of edits: what spells a written list of them, and which are lawful.
use Rattle.std.specs.Prelude.{Bool, true, false, List, [], ◌∷◌, ◌++◌, flat_map}
use Rattle.std.specs.List.{AllByRecursion}
use Rattle.lrp_model.specs.declared.tokens.Symbol.TheVariants.{Plus, Minus}
use Rattle.lrp_model.specs.Tokens.{Part, located_text}
use Rattle.lrp_model.specs.Tokens.Token.{symbol_token, end_token}
use Rattle.lrp_model.specs.Tokens.Part.{any}
use Rattle.lrp_model.specs.Databases.{name_part, row_text, FitsRow}
use Rattle.lrp_edits.specs.declared.edits.RawEdit.{RawEdit}

-- "+" before a row that is added, "-" before one that is taken out
abbrev pub change_part : Bool → Part
change_part true = any (symbol_token Plus)
change_part false = any (symbol_token Minus)

-- edit = ( "+" | "-" ) name row
abbrev pub edit_text : RawEdit → List Part
edit_text e = change_part e.add ∷ name_part e.relation ∷ located_text row_text e.row

-- edits = { edit }, and after them the end
abbrev pub edits_text : List RawEdit → List Part
edits_text es = flat_map edit_text es ++ any end_token ∷ []

-- the row of an edit is lawful
abbrev pub FitsEdit : RawEdit → Type 0
FitsEdit e = FitsRow e.row.item

abbrev pub FitsEdits : List RawEdit → Type 0
FitsEdits = AllByRecursion FitsEdit
