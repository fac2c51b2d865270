-- What edits mean that a text says: rows of the columns of their relations, with few data texts.
use Rattle.std.proofs.Common.{◌≡◌, ◌<◌, ◌≤◌, ℕ, suc, List, [], ◌∷◌, length, length-append, map, Option, Some, None, refl, sym, subst, arith}
use Rattle.std.specs.List.{flat_map, AllByRecursion}
use Rattle.std.specs.Str.{IsUtf8}
use Rattle.lrp_model.specs.Lexing.{tokens, start}
use Rattle.lrp_model.specs.Rows.{relation_named, columns_in}
use Rattle.lrp_model.specs.Tokens.{Spells, located_text}
use Rattle.lrp_model.specs.Tokens.Token.{end_token}
use Rattle.lrp_model.specs.Tokens.Part.{any}
use Rattle.lrp_model.specs.Databases.{name_part, row_text}
use Rattle.lrp_model.specs.DatabaseMeaning.{row_of}
use Rattle.lrp_model.specs.declared.relations.Column.{Column}
use Rattle.lrp_model.specs.declared.relations.Relation.{Relation}
use Rattle.lrp_text.proofs.NameTokens.{all_front, all_after, all_tail}
use Rattle.lrp_model.specs.Kept.{IsRowOf}
use Rattle.lrp_edits.specs.declared.edits.Edit.{Edit}
use Rattle.lrp_edits.specs.declared.edits.RawEdit.{RawEdit}
use Rattle.lrp_edits.specs.EditTexts.{change_part, edit_text, edits_text, FitsEdit, FitsEdits}
use Rattle.lrp_edits.specs.EditMeaning.{written_columns, edit_with, edit_of, faults_in, edit_faults, edit_texts, HaveFewTexts, IsEditOf}
use Rattle.lrp_edits.specs.EditReading.{SaysEdits}
use Rattle.lrp_rel.proofs.SoundLemmas.{each_empty}
use Rattle.lrp_rel.proofs.MeaningKept.{row_kept}
use Rattle.lrp_rel.proofs.TreeTexts.{TextPart, RowHasTexts, row_texted, takes_texted, tokens_texted}
use Rattle.lrp_rel.proofs.FewTexts.{row_count, takes_count, tokens_count}
use Rattle.lrp_edits.proofs.EditLemmas.{same_columns}

-- ---- texts that are UTF-8

-- the texts of the row of each edit
all_texted : (tree : List RawEdit) → AllByRecursion TextPart (flat_map edit_text tree) → AllByRecursion (λ e. RowHasTexts e.row) tree
all_texted [] h = tt
all_texted (e ∷ tree) h =
    let rest = flat_map edit_text tree in
    let row = located_text row_text e.row in
    let first : AllByRecursion TextPart (edit_text e) = all_front TextPart (edit_text e) rest h in
    let after = all_tail TextPart (name_part e.relation) row (all_tail TextPart (change_part e.add) (name_part e.relation ∷ row) first) in
    (row_texted e.row after, all_texted tree (all_after TextPart (edit_text e) rest h))

-- the texts in edits that bytes of UTF-8 spell
edits_texted : (bytes : List ℕ) (tree : List RawEdit) → IsUtf8 bytes → Spells (edits_text tree) (tokens bytes) → AllByRecursion (λ e. RowHasTexts e.row) tree
edits_texted bytes tree u h =
    all_texted tree (all_front TextPart (flat_map edit_text tree) (any end_token ∷ []) (takes_texted (edits_text tree) (tokens bytes) [] h (tokens_texted (suc (length bytes)) start bytes u)))

-- ---- rows of their columns

-- an edit of a relation that there is, or of none
edit_by : (db : List Relation) (e : RawEdit) (found : Option Relation) → relation_named db e.relation.item ≡ found → faults_in found e ≡ [] → FitsEdit e → RowHasTexts e.row → IsEditOf db (edit_with (written_columns (columns_in found)) e)
edit_by db e None is none fits texts = absurd cc
edit_by db e (Some r) is none fits texts =
    let P : List Column → Type 0 = λ cs. IsRowOf cs (row_of (written_columns r.columns) e.row.item) in
    record { relation = r; named = is; row = subst P (same_columns r.columns) (row_kept (written_columns r.columns) e.row none fits texts) }

-- edits without faults
each_lawful : (db : List Relation) (tree : List RawEdit) → AllByRecursion (λ e. edit_faults db e ≡ []) tree → FitsEdits tree → AllByRecursion (λ e. RowHasTexts e.row) tree → AllByRecursion (IsEditOf db) (map (edit_of db) tree)
each_lawful db [] none fits texts = tt
each_lawful db (e ∷ tree) none fits texts =
    (edit_by db e (relation_named db e.relation.item) refl none.0 fits.0 texts.0, each_lawful db tree none.1 fits.1 texts.1)

-- the edits that a text says
pub said_lawful : (bytes : List ℕ) (db : List Relation) (es : List Edit) → SaysEdits bytes db es → AllByRecursion (IsEditOf db) es
said_lawful bytes db es d =
    let P : List Edit → Type 0 = AllByRecursion (IsEditOf db) in
    subst P (sym d.meant) (each_lawful db d.tree (each_empty (edit_faults db) d.tree d.sound) d.text.lawful (edits_texted bytes d.tree d.text.utf8 d.text.spelled))

-- ---- few texts

-- edits have more parts than texts
edits_count : (db : List Relation) (tree : List RawEdit) → length (flat_map (edit_texts db) (map (edit_of db) tree)) ≤ length (flat_map edit_text tree)
edits_count db [] = omega arith
edits_count db (e ∷ tree) =
    let cs = columns_in (relation_named db e.relation.item) in
    let a = length-append (edit_texts db (edit_of db e)) (flat_map (edit_texts db) (map (edit_of db) tree)) in
    let b = length-append (edit_text e) (flat_map edit_text tree) in
    let c = row_count cs (written_columns cs) e.row in
    let d = edits_count db tree in
    omega (arith, a, b, c, d)

-- the same where there is an edit
edits_fewer : (db : List Relation) (tree : List RawEdit) (n : ℕ) → 0 < n → length (flat_map edit_text tree) ≤ n → length (flat_map (edit_texts db) (map (edit_of db) tree)) < n
edits_fewer db [] n some le = omega (arith, some)
edits_fewer db (e ∷ tree) n some le =
    let cs = columns_in (relation_named db e.relation.item) in
    let a = length-append (edit_texts db (edit_of db e)) (flat_map (edit_texts db) (map (edit_of db) tree)) in
    let b = length-append (edit_text e) (flat_map edit_text tree) in
    let c = row_count cs (written_columns cs) e.row in
    let d = edits_count db tree in
    omega (arith, a, b, c, d, le)

-- the edits that a text of at most 2 ^ 24 bytes says have fewer than 2 ^ 24 data texts
pub said_few : (bytes : List ℕ) (db : List Relation) (es : List Edit) → length bytes ≤ 16777216 → SaysEdits bytes db es → HaveFewTexts db es
said_few bytes db es short d =
    let a = takes_count (edits_text d.tree) (tokens bytes) d.text.spelled in
    let b = length-append (flat_map edit_text d.tree) (any end_token ∷ []) in
    let c = tokens_count (suc (length bytes)) start bytes in
    let P : List Edit → Type 0 = λ l. length (flat_map (edit_texts db) l) < 16777216 in
    subst P (sym d.meant) (edits_fewer db d.tree 16777216 (omega arith) (omega (arith, a, b, c, short)))
