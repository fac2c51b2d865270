-- What is written of relations reads back.
use Rattle.std.proofs.Common.{ℕ, List, [], ◌∷◌, ◌++◌, map, refl, sym, subst, append-nil}
use Rattle.std.specs.List.{flat_map, AllByRecursion}
use Rattle.lrp_model.specs.declared.tokens.Place.{Place}
use Rattle.lrp_model.specs.declared.relations.Relation.{Relation}
use Rattle.lrp_model.specs.declared.written.RawRelation.{RawRelation}
use Rattle.lrp_model.specs.Tokens.{Takes, Spells}
use Rattle.lrp_model.specs.Tokens.Token.{end_token}
use Rattle.lrp_model.specs.Tokens.Part.{any}
use Rattle.lrp_model.specs.Lexing.{after, start, tokens, tokens_from, skip, scan, scan_in, tokens_in_from}
use Rattle.lrp_model.specs.Databases.{relation_text, database_text}
use Rattle.lrp_model.specs.Printed.{relation_bytes, database_bytes}
use Rattle.lrp_text.proofs.Sound.{takes_join}
use Rattle.lrp_model.specs.Kept.{IsKept, AreKept}
use Rattle.lrp_print.specs.ReadBack.{ReadsBack}
use Rattle.lrp_print.proofs.Spelling.{tokens_at}
use Rattle.lrp_print.proofs.PieceLaws.{trees, after_piece}
use Rattle.lrp_print.proofs.Trees.{relation_tree, relations_spelled}
use Rattle.lrp_print.proofs.Meant.{reduced, relations_mean}
use Rattle.lrp_print.proofs.Faultless.{relations_fit, relations_sound}
use Rattle.lrp_print.proofs.Sameness.{all_same}
use Rattle.lrp_print.proofs.Utf8.{relations_utf8}

-- where no bytes are left stands the end
the_end : (p : Place) → Spells (any end_token ∷ []) (tokens_at p [])
unfolding tokens_in_from skip scan_in
the_end p = (refl, refl)

-- the tree of relations
abbrev database_tree : List Relation → List RawRelation
database_tree = trees (after_piece relation_bytes) relation_tree start

-- the text of relations spells their tree
pub database_spelled : (rs : List Relation) → AllByRecursion IsKept rs → Spells (database_text (database_tree rs)) (tokens (database_bytes rs))
database_spelled rs k =
    let bytes = flat_map relation_bytes rs in
    let whole : Takes (flat_map relation_text (database_tree rs)) (tokens_at start (bytes ++ [])) (tokens_at (after start bytes) []) = (relations_spelled rs start [] k).takes in
    let P : List ℕ → Type 0 = λ bs. Spells (database_text (database_tree rs)) (tokens_at start bs) in
    subst P (append-nil bytes) (takes_join (flat_map relation_text (database_tree rs)) (any end_token ∷ []) (tokens_at start (bytes ++ [])) (tokens_at (after start bytes) []) [] whole (the_end (after start bytes)))

-- relations that are kept read back
pub reads_back : (rs : List Relation) → AreKept rs → ReadsBack rs
reads_back rs k = record {
  read = map reduced rs;
  database = record {
    tree = database_tree rs;
    text = record { utf8 = relations_utf8 rs k.each; spelled = database_spelled rs k.each; lawful = relations_fit rs start k.each };
    sound = relations_sound rs start k;
    meant = sym (relations_mean rs start k.each);
  };
  same = all_same rs k.each;
}

-- one relation does
pub one_reads_back : (r : Relation) → IsKept r → ReadsBack (r ∷ [])
one_reads_back r k = reads_back (r ∷ []) (record { each = (k, tt); differ = (tt, tt) })
