-- The names in a text's tree are names.
use Rattle.std.proofs.Common.{ℕ, List, [], ◌∷◌, ◌++◌, map}
use Rattle.std.specs.List.{AllByRecursion, flat_map}
use Rattle.lrp_model.specs.declared.tokens.Symbol.TheVariants.{Open, Close, OpenBrace, CloseBrace}
use Rattle.lrp_model.specs.declared.tokens.Word.TheVariants.{Relation}
use Rattle.lrp_model.specs.declared.written.RawRelation.{RawRelation}
use Rattle.lrp_model.specs.Tokens.{Spells, separated, located_text}
use Rattle.lrp_model.specs.Tokens.Token.{word_token, symbol_token, end_token}
use Rattle.lrp_model.specs.Tokens.Part.{any}
use Rattle.lrp_model.specs.Lexing.{tokens}
use Rattle.lrp_model.specs.Columns.{column_text}
use Rattle.lrp_model.specs.Databases.{comma, name_part, row_text, relation_text, database_text}
use Rattle.lrp_model.specs.DatabaseMeaning.{column_of}
use Rattle.lrp_model.specs.Names.{IsName, AreNamed}
use Rattle.lrp_text.proofs.NameTokens.{NamedPart, all_front, all_after, all_head, all_tail, columns_named, spelled_named}

-- the names of a relation are names
pub record IsNamedRelation (r : RawRelation) : Type 0 where
  pub name : IsName r.name.item
  pub columns : AreNamed (map column_of r.columns)

relation_named : (r : RawRelation) → AllByRecursion NamedPart (relation_text r) → IsNamedRelation r
relation_named r h =
    let after = any (symbol_token Close) ∷ any (symbol_token OpenBrace) ∷ (flat_map (located_text row_text) r.rows ++ any (symbol_token CloseBrace) ∷ []) in
    let columns = separated comma column_text r.columns ++ after in
    let opening = any (symbol_token Open) in
    let one = all_tail NamedPart (any (word_token Relation)) (name_part r.name ∷ opening ∷ columns) h in
    let two = all_tail NamedPart opening columns (all_tail NamedPart (name_part r.name) (opening ∷ columns) one) in
    record { name = all_head NamedPart (name_part r.name) (opening ∷ columns) one; columns = columns_named r.columns (all_front NamedPart (separated comma column_text r.columns) after two) }

relations_named : (rs : List RawRelation) → AllByRecursion NamedPart (flat_map relation_text rs) → AllByRecursion IsNamedRelation rs
relations_named [] h = tt
relations_named (r ∷ rs) h = (relation_named r (all_front NamedPart (relation_text r) (flat_map relation_text rs) h), relations_named rs (all_after NamedPart (relation_text r) (flat_map relation_text rs) h))

-- the names of a tree that bytes spell are names
pub tree_named : (bytes : List ℕ) (tree : List RawRelation) → Spells (database_text tree) (tokens bytes) → AllByRecursion IsNamedRelation tree
tree_named bytes tree h = relations_named tree (all_front NamedPart (flat_map relation_text tree) (any end_token ∷ []) (spelled_named bytes (database_text tree) h))
