-- A text has at most one fault in all, and a database has none.
use Rattle.std.proofs.Common.{◌≡◌, ◌==◌, ◌+◌, if◌then◌else◌, ℕ, Bool, true, false, List, [], ◌∷◌, ◌++◌, map, refl, sym, ap, subst, ◌∙◌, Option, Some, None, Result, Ok, Err, IfOk, IfErr}
use Rattle.std.specs.List.{flat_map}
use Rattle.lrp_model.specs.Texts.{Identifier}
use Rattle.lrp_model.specs.Sorts.{is_time}
use Rattle.lrp_model.specs.Lexing.{tokens}
use Rattle.lrp_model.specs.Faults.{earliest, fault_if, repeated, ninth}
use Rattle.lrp_model.specs.DatabaseMeaning.{database_of}
use Rattle.lrp_model.specs.DatabaseFaults.{database_standing, database_fault, row_faults, named_at, relation_faults, database_faults}
use Rattle.lrp_model.specs.DatabaseReading.{IsDatabaseText, IsDatabase, HasDatabaseFault, IsDatabaseFault, IsDatabaseFaultOf}
use Rattle.lrp_model.specs.declared.raw.RawColumn.{RawColumn}
use Rattle.lrp_model.specs.declared.relations.Relation.{Relation}
use Rattle.lrp_model.specs.declared.written.Located.{Located}
use Rattle.lrp_model.specs.declared.written.RawRelation.{RawRelation}
use Rattle.lrp_model.specs.declared.faults.DbFault.{DbFault}
use Rattle.lrp_model.specs.declared.faults.DbKind.{DbKind}
use Rattle.lrp_model.specs.declared.faults.DbKind.TheVariants.{Utf8, Syntax, Number, Period, TextTooLong, Name, Arity, Sort, Column, Wide, UnknownRelation}
use Rattle.lrp_rel.specs.declared.trees.ReadFault.{ReadFault}
use Rattle.lrp_rel.specs.declared.trees.ReadFault.TheVariants.{Fault, Memory}
use Rattle.lrp_rel.specs.Reading.{IsDatabaseTextFault, IsDatabaseTextFaultOf, IsRefusedBy, IsTreeRefusal, IsUnreadDatabase, IsReadOrMemory, IsDatabaseFaultOrMemory}
use Rattle.lrp_rel.proofs.DatabaseRules.{one_tree}
use Rattle.lrp_rel.proofs.TextLaws.{no_fault}
use Rattle.lrp_rel.proofs.OneFault.{fault_once}
use Rattle.lrp_rel.proofs.RowKinds.{AreOf, IsOneOf, HasRowKinds, both_of, flat_of, if_of, row_kinds, first_of}

-- ---- the kinds of a tree's faults

-- a kind that a tree can have
abbrev IsOfTree : DbKind → Type 0
IsOfTree Name = Unit {0}
IsOfTree Arity = Unit {0}
IsOfTree Sort = Unit {0}
IsOfTree Column = Unit {0}
IsOfTree Wide = Unit {0}
IsOfTree _ = ⊥

-- a row has such faults alone
row_of_tree : HasRowKinds IsOfTree
row_of_tree = record { arity = tt; sort = tt; column = tt }

-- faults of such kinds
abbrev OfTree : List DbFault → Type 0
OfTree = AreOf IsOfTree

-- names that stand twice
repeated_of : (before : List Identifier) (ns : List (Located Identifier)) → OfTree (repeated (database_fault Name) before ns)
repeated_of before [] = tt
repeated_of before (n ∷ ns) = both_of IsOfTree (fault_if _ (database_fault Name n.place)) (repeated (database_fault Name) (n.item ∷ before) ns) (if_of IsOfTree _ (database_fault Name n.place) tt) (repeated_of (n.item ∷ before) ns)

-- too many columns
ninth_of : (times texts : ℕ) (cs : List RawColumn) → OfTree (ninth (database_fault Wide) times texts cs)
ninth_of times texts [] = tt
ninth_of times texts (c ∷ cs) = by (is_time c.sort) (λ t x. ninth_of t x cs)
  where
    by : (b : Bool) → ((t x : ℕ) → OfTree (ninth (database_fault Wide) t x cs)) → OfTree (if b then fault_if (times == 8) (database_fault Wide c.place) ++ ninth (database_fault Wide) (times + 1) texts cs else fault_if (texts == 8) (database_fault Wide c.place) ++ ninth (database_fault Wide) times (texts + 1) cs)
    by true h = both_of IsOfTree (fault_if (times == 8) (database_fault Wide c.place)) (ninth (database_fault Wide) (times + 1) texts cs) (if_of IsOfTree (times == 8) (database_fault Wide c.place) tt) (h (times + 1) texts)
    by false h = both_of IsOfTree (fault_if (texts == 8) (database_fault Wide c.place)) (ninth (database_fault Wide) times (texts + 1) cs) (if_of IsOfTree (texts == 8) (database_fault Wide c.place) tt) (h times (texts + 1))

relation_of_tree : (r : RawRelation) → OfTree (relation_faults r)
relation_of_tree r =
    let names = repeated (database_fault Name) [] (map named_at r.columns) in
    let wide = ninth (database_fault Wide) 0 0 r.columns in
    both_of IsOfTree (names ++ wide) (flat_map (row_faults r.columns) r.rows) (both_of IsOfTree names wide (repeated_of [] (map named_at r.columns)) (ninth_of 0 0 r.columns)) (flat_of IsOfTree (row_faults r.columns) (row_kinds IsOfTree row_of_tree r.columns) r.rows)

-- all faults of a tree
tree_of : (rs : List RawRelation) → OfTree (database_faults rs)
tree_of rs = both_of IsOfTree (repeated (database_fault Name) [] (map (λ r. r.name) rs)) (flat_map relation_faults rs) (repeated_of [] (map (λ r. r.name) rs)) (flat_of IsOfTree relation_faults relation_of_tree rs)

-- a fault of the tree is one of the text
as_fault : (bytes : List ℕ) (k : DbKind) (f : DbFault) → IsOfTree k → HasDatabaseFault bytes f → IsDatabaseFaultOf bytes k f
as_fault bytes Name f o h = h
as_fault bytes Arity f o h = h
as_fault bytes Sort f o h = h
as_fault bytes Column f o h = h
as_fault bytes Wide f o h = h
as_fault bytes Utf8 f o h = absurd o
as_fault bytes Syntax f o h = absurd o
as_fault bytes Number f o h = absurd o
as_fault bytes Period f o h = absurd o
as_fault bytes TextTooLong f o h = absurd o
as_fault bytes UnknownRelation f o h = absurd o

-- so is a fault of the bytes or of the grammar
as_text_fault : (bytes : List ℕ) (k : DbKind) (f : DbFault) → IsDatabaseTextFaultOf bytes k f → IsDatabaseFaultOf bytes k f
as_text_fault bytes Utf8 f h = h
as_text_fault bytes Syntax f h = h
as_text_fault bytes Number f h = h
as_text_fault bytes Period f h = h
as_text_fault bytes TextTooLong f h = h
as_text_fault bytes Name f h = absurd h
as_text_fault bytes Arity f h = absurd h
as_text_fault bytes Sort f h = absurd h
as_text_fault bytes Column f h = absurd h
as_text_fault bytes Wide f h = absurd h
as_text_fault bytes UnknownRelation f h = absurd h

-- why there was no tree is why there is no database
pub unread_refused : (bytes : List ℕ) (r : ReadFault) → IsUnreadDatabase bytes r → IsRefusedBy bytes r
unread_refused bytes (Fault f) h = as_text_fault bytes f.kind f h
unread_refused bytes Memory h = tt

-- and so is why the tree had no meaning
pub tree_refused : (bytes : List ℕ) (tree : List RawRelation) (r : ReadFault) → IsDatabaseText bytes tree → IsTreeRefusal tree r → IsRefusedBy bytes r
tree_refused bytes tree (Fault f) t h =
    as_fault bytes f.kind f (let P : Option DbFault → Type 0 = IsOneOf IsOfTree in subst P h (first_of IsOfTree (database_faults tree) (tree_of tree))) (record { tree = tree; text = t; found = h })
tree_refused bytes tree Memory t h = tt

-- ---- each at most once

-- a fault is one of the bytes or of the grammar, or one of the tree
data Split (bytes : List ℕ) (f : DbFault) : Type 0 where
  of_text : IsDatabaseTextFault bytes f → Split bytes f
  of_tree : HasDatabaseFault bytes f → Split bytes f

split_of : (bytes : List ℕ) (k : DbKind) (f : DbFault) → k ≡ f.kind → IsDatabaseFaultOf bytes k f → Split bytes f
split_of bytes Utf8 f e h = of_text (subst (λ k. IsDatabaseTextFaultOf bytes k f) e h)
split_of bytes Syntax f e h = of_text (subst (λ k. IsDatabaseTextFaultOf bytes k f) e h)
split_of bytes Number f e h = of_text (subst (λ k. IsDatabaseTextFaultOf bytes k f) e h)
split_of bytes Period f e h = of_text (subst (λ k. IsDatabaseTextFaultOf bytes k f) e h)
split_of bytes TextTooLong f e h = of_text (subst (λ k. IsDatabaseTextFaultOf bytes k f) e h)
split_of bytes Name f e h = of_tree h
split_of bytes Arity f e h = of_tree h
split_of bytes Sort f e h = of_tree h
split_of bytes Column f e h = of_tree h
split_of bytes Wide f e h = of_tree h
split_of bytes UnknownRelation f e h = absurd h

-- two trees of one text are one
same_tree : (bytes : List ℕ) (a b : List RawRelation) → IsDatabaseText bytes a → IsDatabaseText bytes b → a ≡ b
same_tree bytes a b t u = one_tree a b (tokens bytes) t.lawful t.spelled u.spelled

-- the same fault that is there
some_same : (f g : DbFault) → Some f ≡ Some g → f ≡ g
some_same f g e = cc

-- two faults of one text are one
both_same : (bytes : List ℕ) (f g : DbFault) → Split bytes f → Split bytes g → g ≡ f
both_same bytes f g (of_text a) (of_text b) = fault_once bytes g f b a
both_same bytes f g (of_text a) (of_tree b) = absurd (no_fault bytes b.tree f.kind f b.text a)
both_same bytes f g (of_tree a) (of_text b) = absurd (no_fault bytes a.tree g.kind g a.text b)
both_same bytes f g (of_tree a) (of_tree b) =
    some_same g f (sym b.found ∙ ap (λ t. earliest database_standing (database_faults t)) (same_tree bytes b.tree a.tree b.text a.text) ∙ a.found)

-- a database has no fault
none_split : (bytes : List ℕ) (db : List Relation) (f : DbFault) → IsDatabase bytes db → Split bytes f → ⊥
none_split bytes db f d (of_text a) = no_fault bytes d.tree f.kind f d.text a
none_split bytes db f d (of_tree a) =
    let h : None ≡ Some f = sym (ap (earliest database_standing) (ap database_faults (same_tree bytes a.tree d.tree a.text d.text) ∙ d.sound)) ∙ a.found in
    cc

-- each database is read as its relations
pub every_database : (bytes : List ℕ) (r : Result (List Relation) ReadFault) → IfOk r (IsDatabase bytes) → IfErr r (IsRefusedBy bytes) → (db : List Relation) → IsDatabase bytes db → IsReadOrMemory db r
every_database bytes (Ok other) ok err db d = ok.meant ∙ ap database_of (same_tree bytes ok.tree d.tree ok.text d.text) ∙ sym d.meant
every_database bytes (Err Memory) ok err db d = tt
every_database bytes (Err (Fault f)) ok err db d = none_split bytes db f d (split_of bytes f.kind f refl err)

-- each other text is refused for its fault
pub every_fault : (bytes : List ℕ) (r : Result (List Relation) ReadFault) → IfOk r (IsDatabase bytes) → IfErr r (IsRefusedBy bytes) → (f : DbFault) → IsDatabaseFault bytes f → IsDatabaseFaultOrMemory f r
every_fault bytes (Ok db) ok err f h = none_split bytes db f ok (split_of bytes f.kind f refl h)
every_fault bytes (Err Memory) ok err f h = tt
every_fault bytes (Err (Fault g)) ok err f h = both_same bytes f g (split_of bytes f.kind f refl h) (split_of bytes g.kind g refl err)
