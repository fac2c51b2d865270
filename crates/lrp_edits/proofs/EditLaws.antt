-- What a text says as edits, and its fault, each at most once.
use Rattle.std.proofs.Common.{◌≡◌, ◌<◌, ℕ, suc, List, [], map, refl, ap, ◌∙◌, sym, subst, Ok, Err, Result, Option, Some, None, IfOk, IfErr, length, arith}
use Rattle.std.specs.Str.{IsUtf8}
use Rattle.lrp_model.specs.declared.tokens.Place.{Place}
use Rattle.lrp_model.specs.declared.tokens.Fault.{Fault as TokenFault}
use Rattle.lrp_model.specs.declared.tokens.Fault.TheVariants.{Syntax as syntax, Number as number, TextTooLong as text_too_long, Period as period, Deep, Memory as memory}
use Rattle.lrp_model.specs.declared.faults.DbFault.{DbFault}
use Rattle.lrp_model.specs.declared.faults.DbKind.{DbKind}
use Rattle.lrp_model.specs.declared.faults.DbKind.TheVariants.{Utf8, Syntax, Number, Period, TextTooLong, Name, Arity, Sort, Column, Wide, UnknownRelation}
use Rattle.lrp_model.specs.declared.relations.Relation.{Relation}
use Rattle.lrp_model.specs.Faults.{earliest}
use Rattle.lrp_model.specs.Tokens.{Tokens}
use Rattle.lrp_model.specs.Lexing.{tokens}
use Rattle.lrp_model.specs.Rows.{relation_named}
use Rattle.lrp_model.specs.Refused.{TextOf}
use Rattle.lrp_model.specs.DatabaseFaults.{database_standing}
use Rattle.lrp_model.specs.DatabaseReading.{IsNoUtf8}
use Rattle.lrp_text.specs.Parsers.{Reads}
use Rattle.lrp_text.specs.Sources.{Stands}
use Rattle.lrp_text.specs.declared.lexemes.Lexeme.{Lexeme}
use Rattle.lrp_text.proofs.LongestFront.{not_cut, same_cut}
use Rattle.lrp_text.proofs.OneCause.{IsShown}
use Rattle.lrp_text.proofs.OneFault.{not_refused, shown_once}
use Rattle.lrp_rel.specs.declared.trees.ReadFault.{ReadFault}
use Rattle.lrp_rel.specs.declared.trees.ReadFault.TheVariants.{Fault, Memory}
use Rattle.lrp_edits.specs.declared.edits.Edit.{Edit}
use Rattle.lrp_edits.specs.declared.edits.RawEdit.{RawEdit}
use Rattle.lrp_edits.specs.declared.edits.Edits.{Edits}
use Rattle.lrp_rel.specs.Gathered.{IsReadInto}
use Rattle.lrp_rel.specs.Reading.{IsReadOrMemory, IsDatabaseFaultOrMemory, database_refusal}
use Rattle.lrp_edits.specs.EditTexts.{edits_text, FitsEdits}
use Rattle.lrp_edits.specs.EditMeaning.{written_columns, edit_of, faults_in, edit_faults, edits_faults}
use Rattle.lrp_edits.specs.EditReading.{IsEditsText, SaysEdits, IsNoEditsText, HasEditsFault, IsEditsFaultOf, IsEditsFault, AreEditsRefused}
use Rattle.lrp_edits.specs.EditRules.{edits}
use Rattle.lrp_edits.specs.EditGathered.{AreEditsOf, AreEditsFrom}
use Rattle.lrp_model.proofs.FirstFault.{none_is_empty}
use Rattle.lrp_rel.proofs.OneFault.{kind_met, fault_of}
use Rattle.lrp_rel.proofs.WholeTexts.{tree_read, never_deep as parser_never_deep, refused_there as parser_refused_there}
use Rattle.lrp_rel.proofs.RowKinds.{AreOf, IsOneOf, HasRowKinds, flat_of, row_kinds, first_of}
use Rattle.lrp_edits.proofs.EditRuleLaws.{edits_sound, edits_refused, edits_shallow, same_edits}

-- ---- read

-- what was kept is what the text says
kept_read : (bytes : List ℕ) (db : List Relation) (kept : Edits) → IsUtf8 bytes → ((n : ℕ) → length (tokens bytes) < n → IsReadInto (AreEditsOf db) (edits n (tokens bytes)) kept []) → AreEditsFrom bytes db kept
kept_read bytes db kept utf8 reads =
    let one = reads (suc (length (tokens bytes))) (omega arith) in
    record { tree = one.value; text = tree_read edits_text FitsEdits edits edits_sound bytes one.value utf8 one.read; are = one.stands }

-- the same of tokens that are those of the bytes
pub text_kept : (bytes : List ℕ) (ts : Tokens) (db : List Relation) (kept : Edits) → ts ≡ tokens bytes → IsUtf8 bytes → ((n : ℕ) → length ts < n → IsReadInto (AreEditsOf db) (edits n ts) kept []) → AreEditsFrom bytes db kept
text_kept bytes ts db kept e utf8 reads =
    let P : Tokens → Type 0 = λ xs. (n : ℕ) → length xs < n → IsReadInto (AreEditsOf db) (edits n xs) kept [] in
    kept_read bytes db kept utf8 (subst P e reads)

-- no text is refused for depth
pub never_deep : (ts us : Tokens) (k : TokenFault) → ((n : ℕ) → length ts < n → Reads {A = List RawEdit} (edits n ts) (Err k) us) → k ≡ Deep → ⊥
never_deep = parser_never_deep edits_text FitsEdits edits edits_shallow

-- the text is refused at the token that stands there
refused_there : (bytes : List ℕ) (us : Tokens) (k : TokenFault) (l : Lexeme) (slice : List ℕ) (place : Place) → IsUtf8 bytes → Stands us l slice place → ((n : ℕ) → length (tokens bytes) < n → edits n (tokens bytes) ≡ Err (k, us)) → IsNoEditsText bytes k place
refused_there = parser_refused_there edits_text FitsEdits edits edits_refused

-- what was met while a text was read is its fault
refused_as : (bytes : List ℕ) (db : List Relation) (us : Tokens) (k : TokenFault) (l : Lexeme) (slice : List ℕ) (place : Place) → IsUtf8 bytes → Stands us l slice place → ((n : ℕ) → length (tokens bytes) < n → Reads {A = List RawEdit} (edits n (tokens bytes)) (Err k) us) → AreEditsRefused bytes db (database_refusal k place)
refused_as bytes db us memory l slice place utf8 s reads = tt
refused_as bytes db us Deep l slice place utf8 s reads = tt
refused_as bytes db us syntax l slice place utf8 s reads = refused_there bytes us syntax l slice place utf8 s reads
refused_as bytes db us number l slice place utf8 s reads = refused_there bytes us number l slice place utf8 s reads
refused_as bytes db us text_too_long l slice place utf8 s reads = refused_there bytes us text_too_long l slice place utf8 s reads
refused_as bytes db us period l slice place utf8 s reads = refused_there bytes us period l slice place utf8 s reads

-- the same of tokens that are those of the bytes
pub text_refused : (bytes : List ℕ) (db : List Relation) (ts us : Tokens) (k : TokenFault) (l : Lexeme) (slice : List ℕ) (place : Place) → ts ≡ tokens bytes → IsUtf8 bytes → Stands us l slice place → ((n : ℕ) → length ts < n → Reads {A = List RawEdit} (edits n ts) (Err k) us) → AreEditsRefused bytes db (database_refusal k place)
text_refused bytes db ts us k l slice place e utf8 s reads =
    let P : Tokens → Type 0 = λ xs. (n : ℕ) → length xs < n → Reads {A = List RawEdit} (edits n xs) (Err k) us in
    refused_as bytes db us k l slice place utf8 s (subst P e reads)

-- ---- the faults of edits

-- a kind that the faults of edits can have
abbrev IsOfEdit : DbKind → Type 0
IsOfEdit Arity = Unit {0}
IsOfEdit Sort = Unit {0}
IsOfEdit Column = Unit {0}
IsOfEdit UnknownRelation = Unit {0}
IsOfEdit _ = ⊥

-- a row has such faults alone
of_row : HasRowKinds IsOfEdit
of_row = record { arity = tt; sort = tt; column = tt }

-- so has an edit
edit_kinds : (found : Option Relation) (e : RawEdit) → AreOf IsOfEdit (faults_in found e)
edit_kinds None e = (tt, tt)
edit_kinds (Some r) e = row_kinds IsOfEdit of_row (written_columns r.columns) e.row

-- and so have all of them
edits_kinds : (db : List Relation) (tree : List RawEdit) → AreOf IsOfEdit (edits_faults db tree)
edits_kinds db tree = flat_of IsOfEdit (edit_faults db) (λ e. edit_kinds (relation_named db e.relation.item) e) tree

-- a fault of the edits is one of the text
as_fault : (bytes : List ℕ) (db : List Relation) (k : DbKind) (f : DbFault) → IsOfEdit k → HasEditsFault bytes db f → IsEditsFaultOf bytes db k f
as_fault bytes db Arity f o h = h
as_fault bytes db Sort f o h = h
as_fault bytes db Column f o h = h
as_fault bytes db UnknownRelation f o h = h
as_fault bytes db Name f o h = absurd o
as_fault bytes db Wide f o h = absurd o
as_fault bytes db Utf8 f o h = absurd o
as_fault bytes db Syntax f o h = absurd o
as_fault bytes db Number f o h = absurd o
as_fault bytes db Period f o h = absurd o
as_fault bytes db TextTooLong f o h = absurd o

-- the first fault of what was kept is the text's
pub kept_refused : (bytes : List ℕ) (db : List Relation) (kept : Edits) (f : DbFault) → AreEditsFrom bytes db kept → kept.fault ≡ Some f → IsEditsFault bytes db f
kept_refused bytes db kept f from e =
    let found : earliest database_standing (edits_faults db from.tree) ≡ Some f = sym from.are.fault ∙ e in
    let P : Option DbFault → Type 0 = IsOneOf IsOfEdit in
    as_fault bytes db f.kind f (subst P found (first_of IsOfEdit (edits_faults db from.tree) (edits_kinds db from.tree))) (record { tree = from.tree; text = from.text; found = found })

-- what was kept without a fault is what the text says
pub kept_said : (bytes : List ℕ) (db : List Relation) (kept : Edits) → AreEditsFrom bytes db kept → kept.fault ≡ None → SaysEdits bytes db kept.list
kept_said bytes db kept from none = record {
  tree = from.tree;
  text = from.text;
  sound = none_is_empty database_standing (edits_faults db from.tree) (sym from.are.fault ∙ none);
  meant = from.are.meant none;
}

-- ---- each at most once

-- a fault is one of the bytes, one that was met, or one of the edits
data Group (bytes : List ℕ) (db : List Relation) (f : DbFault) : Type 0 where
  cut : f.kind ≡ Utf8 → IsNoUtf8 bytes f.place → Group bytes db f
  met : (j : TokenFault) → IsShown j → f.kind ≡ kind_met j → IsNoEditsText bytes j f.place → Group bytes db f
  said : HasEditsFault bytes db f → Group bytes db f

group_of : (bytes : List ℕ) (db : List Relation) (k : DbKind) (f : DbFault) → f.kind ≡ k → IsEditsFaultOf bytes db k f → Group bytes db f
group_of bytes db Utf8 f e h = cut e h
group_of bytes db Syntax f e h = met syntax tt e h
group_of bytes db Number f e h = met number tt e h
group_of bytes db TextTooLong f e h = met text_too_long tt e h
group_of bytes db Period f e h = met period tt e h
group_of bytes db Arity f e h = said h
group_of bytes db Sort f e h = said h
group_of bytes db Column f e h = said h
group_of bytes db UnknownRelation f e h = said h
group_of bytes db Name f e h = absurd h
group_of bytes db Wide f e h = absurd h

-- two trees of one text are one
same_tree : (bytes : List ℕ) (a b : List RawEdit) → IsEditsText bytes a → IsEditsText bytes b → a ≡ b
same_tree bytes a b t u = same_edits a b (tokens bytes) t.lawful t.spelled u.spelled

-- faults of one kind at one place are one
one_fault : (f g : DbFault) → f.kind ≡ g.kind → f.place ≡ g.place → f ≡ g
one_fault f g e d = ap (λ k. fault_of k f.place) e ∙ ap (fault_of g.kind) d

-- the same fault that is there
some_same : (f g : DbFault) → Some f ≡ Some g → f ≡ g
some_same f g e = cc

-- two faults of one text are one
both_same : (bytes : List ℕ) (db : List Relation) (f g : DbFault) → Group bytes db f → Group bytes db g → f ≡ g
both_same bytes db f g (cut e a) (cut d b) = one_fault f g (e ∙ sym d) (same_cut bytes f.place g.place a b)
both_same bytes db f g (cut e a) (met j m d s) = absurd (not_cut bytes f.place s.utf8 a)
both_same bytes db f g (cut e a) (said s) = absurd (not_cut bytes f.place s.text.utf8 a)
both_same bytes db f g (met j m d s) (cut e a) = absurd (not_cut bytes g.place s.utf8 a)
both_same bytes db f g (met j m e r) (met i n d s) = let h = shown_once (TextOf edits_text FitsEdits) bytes j i f.place g.place r s m n in one_fault f g (e ∙ ap kind_met h.0 ∙ sym d) h.1
both_same bytes db f g (met j m d r) (said s) = absurd (not_refused edits_text FitsEdits bytes s.tree j f.place s.text r)
both_same bytes db f g (said s) (cut e a) = absurd (not_cut bytes g.place s.text.utf8 a)
both_same bytes db f g (said s) (met j m d r) = absurd (not_refused edits_text FitsEdits bytes s.tree j g.place s.text r)
both_same bytes db f g (said s) (said t) =
    some_same f g (sym s.found ∙ ap (λ x. earliest database_standing (edits_faults db x)) (same_tree bytes s.tree t.tree s.text t.text) ∙ t.found)

-- a text that says edits has no fault
none_said : (bytes : List ℕ) (db : List Relation) (es : List Edit) (f : DbFault) → SaysEdits bytes db es → Group bytes db f → ⊥
none_said bytes db es f d (cut e a) = not_cut bytes f.place d.text.utf8 a
none_said bytes db es f d (met j m e r) = not_refused edits_text FitsEdits bytes d.tree j f.place d.text r
none_said bytes db es f d (said s) =
    let h : None ≡ Some f = sym (ap (earliest database_standing) (ap (edits_faults db) (same_tree bytes s.tree d.tree s.text d.text) ∙ d.sound)) ∙ s.found in
    cc

-- all edits that a text says are read
pub every_edits : (bytes : List ℕ) (db : List Relation) (r : Result (List Edit) ReadFault) → IfOk r (SaysEdits bytes db) → IfErr r (AreEditsRefused bytes db) → (es : List Edit) → SaysEdits bytes db es → IsReadOrMemory es r
every_edits bytes db (Ok other) ok err es d = ok.meant ∙ ap (map (edit_of db)) (same_tree bytes ok.tree d.tree ok.text d.text) ∙ sym d.meant
every_edits bytes db (Err Memory) ok err es d = tt
every_edits bytes db (Err (Fault f)) ok err es d = none_said bytes db es f d (group_of bytes db f.kind f refl err)

-- each other text is refused for its fault
pub every_fault : (bytes : List ℕ) (db : List Relation) (r : Result (List Edit) ReadFault) → IfOk r (SaysEdits bytes db) → IfErr r (AreEditsRefused bytes db) → (f : DbFault) → IsEditsFault bytes db f → IsDatabaseFaultOrMemory f r
every_fault bytes db (Ok es) ok err f h = none_said bytes db es f ok (group_of bytes db f.kind f refl h)
every_fault bytes db (Err Memory) ok err f h = tt
every_fault bytes db (Err (Fault g)) ok err f h = both_same bytes db g f (group_of bytes db g.kind g refl err) (group_of bytes db f.kind f refl h)
