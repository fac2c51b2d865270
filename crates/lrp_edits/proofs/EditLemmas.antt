-- Headings of a database's relations, and one edit more of those that are kept.
use Rattle.std.proofs.Common.{◌≡◌, ◌≢◌, ◌≤◌, ◌+◌, ℕ, zero, suc, Bool, true, false, ◌||◌, not, ◌==◌, if◌then◌else◌, List, [], ◌∷◌, ◌++◌, length, map, find, get_or, take, slice_get, add-one, ◌<◌, Option, Some, None, Result, Ok, Err, IfOk, refl, sym, ap, subst, ◌∙◌, arith}
use Rattle.std.specs.List.{AllByRecursion}
use Rattle.std.specs.Str.{bytes_eq}
use Rattle.std.specs.Cmp.Lexicographic.{bytes_decides}
use Rattle.std.proofs.lemmas.Bool.Decides.{nat_tests}
use Rattle.std.proofs.lemmas.Cmp.{nat_list_eq_equiv}
use Rattle.std.proofs.lemmas.List.{map-append}
use Rattle.std.proofs.Math.Seq.{take-suc}
use Rattle.lrp_model.specs.Texts.{Identifier, AreDistinct}
use Rattle.lrp_model.specs.Sorts.{is_time, time_count, text_count}
use Rattle.lrp_model.specs.Faults.{earliest, fault_if, repeated, ninth, is_named_in}
use Rattle.lrp_model.specs.DatabaseMeaning.{column_of}
use Rattle.lrp_model.specs.Rows.{relation_named, columns_in}
use Rattle.lrp_model.specs.DatabaseFaults.{database_standing, database_fault, named_at, row_faults}
use Rattle.lrp_model.specs.declared.tokens.Place.{Place}
use Rattle.lrp_model.specs.declared.raw.RawColumn.{RawColumn}
use Rattle.lrp_model.specs.declared.relations.Column.{Column}
use Rattle.lrp_model.specs.declared.relations.Row.{Row}
use Rattle.lrp_model.specs.declared.relations.Relation.{Relation}
use Rattle.lrp_model.specs.declared.written.Located.{Located}
use Rattle.lrp_model.specs.declared.written.RawRow.{RawRow}
use Rattle.lrp_model.specs.declared.faults.DbFault.{DbFault}
use Rattle.lrp_model.specs.declared.faults.DbKind.TheVariants.{Name, Wide, UnknownRelation}
use Rattle.lrp_model.specs.declared.memory.Memory.{Memory}
use Rattle.lrp_model.specs.Kept.{IsKept}
use Rattle.lrp_edits.specs.declared.edits.Edit.{Edit}
use Rattle.lrp_edits.specs.declared.edits.Edits.{Edits}
use Rattle.lrp_edits.specs.declared.edits.RawEdit.{RawEdit}
use Rattle.lrp_rel.specs.declared.gathering.Heading.{Heading}
use Rattle.lrp_edits.specs.EditMeaning.{written_columns, edit_with, edit_of, faults_in, edit_faults}
use Rattle.lrp_edits.specs.EditGathered.{IsHeadingOf, AreHeadings, IsHeadingIn, TakesEdit, AreEditsOf}
use Rattle.lrp_rel.specs.Gathered.{IsHeading}
use Rattle.lrp_model.specs.Sooner.{sooner}
use Rattle.lrp_model.proofs.FirstFault.{none_of_both}
use Rattle.lrp_database.proofs.SeenLemmas.{IsFirst}
use Rattle.lrp_rel.proofs.SoundLemmas.{times_more, texts_more}
use Rattle.lrp_rel.proofs.GatheredLemmas.{first_more, column_faults}

-- ---- kept columns have no faults

-- a column written down is the column
pub same_columns : (cs : List Column) → map column_of (written_columns cs) ≡ cs
same_columns [] = refl
same_columns (c ∷ cs) = ap (λ l. c ∷ l) (same_columns cs)

-- a name that is another is not found
other : (n m : Identifier) (b : Bool) → bytes_eq m n ≡ b → n ≢ m → b ≡ false
other n m true e apart = absurd (apart (sym ((bytes_decides m n).0 e)))
other n m false e apart = refl

-- names that differ, and are none of those before, have no second one
no_second : (f : Place → DbFault) (before : List Identifier) (ns : List (Located Identifier)) → AllByRecursion (λ n. is_named_in before n.item ≡ false) ns → AreDistinct (map (λ n. n.item) ns) → repeated f before ns ≡ []
no_second f before [] new d = refl
no_second f before (n ∷ ns) new d =
    ap (λ b. fault_if b (f n.place) ++ repeated f (n.item ∷ before) ns) new.0 ∙ no_second f (n.item ∷ before) ns (still ns new.1 d.0) d.1
  where
    still : (ms : List (Located Identifier)) → AllByRecursion (λ m. is_named_in before m.item ≡ false) ms → AllByRecursion (λ m. n.item ≢ m) (map (λ m. m.item) ms) → AllByRecursion (λ m. is_named_in (n.item ∷ before) m.item ≡ false) ms
    still [] h k = tt
    still (m ∷ ms) h k = (ap (λ b. b || is_named_in before m.item) (other n.item m.item (bytes_eq m.item n.item) refl k.0) ∙ h.0, still ms h.1 k.1)

-- the names of columns written down are theirs
written_names : (cs : List Column) → map (λ n. n.item) (map named_at (written_columns cs)) ≡ map (λ c. c.name) cs
written_names [] = refl
written_names (c ∷ cs) = ap (λ l. c.name ∷ l) (written_names cs)

-- not yet eight
not_eight : (n k : ℕ) → n + 1 + k ≤ 8 → (n == 8) ≡ false
not_eight n k le = grind (arith, nat_tests)

-- few columns have no ninth
no_ninth : (f : Place → DbFault) (times texts : ℕ) (cs : List RawColumn) → times + time_count (map column_of cs) ≤ 8 → texts + text_count (map column_of cs) ≤ 8 → ninth f times texts cs ≡ []
no_ninth f times texts [] le less = refl
no_ninth f times texts (c ∷ cs) le less =
    by (is_time c.sort) (subst (λ k. times + k ≤ 8) (times_more c cs) le) (subst (λ k. texts + k ≤ 8) (texts_more c cs) less) (no_ninth f (times + 1) texts cs) (no_ninth f times (texts + 1) cs)
  where
    by : (b : Bool) → times + ((if b then 1 else 0) + time_count (map column_of cs)) ≤ 8 → texts + ((if not b then 1 else 0) + text_count (map column_of cs)) ≤ 8
        → (times + 1 + time_count (map column_of cs) ≤ 8 → texts + text_count (map column_of cs) ≤ 8 → ninth f (times + 1) texts cs ≡ [])
        → (times + time_count (map column_of cs) ≤ 8 → texts + 1 + text_count (map column_of cs) ≤ 8 → ninth f times (texts + 1) cs ≡ [])
        → (if b then fault_if (times == 8) (f c.place) ++ ninth f (times + 1) texts cs else fault_if (texts == 8) (f c.place) ++ ninth f times (texts + 1) cs) ≡ []
    by true a b one two =
        let le : times + 1 + time_count (map column_of cs) ≤ 8 = omega (arith, a) in
        ap (λ t. fault_if t (f c.place) ++ ninth f (times + 1) texts cs) (not_eight times (time_count (map column_of cs)) le) ∙ one le (omega (arith, b))
    by false a b one two =
        let le : texts + 1 + text_count (map column_of cs) ≤ 8 = omega (arith, b) in
        ap (λ t. fault_if t (f c.place) ++ ninth f times (texts + 1) cs) (not_eight texts (text_count (map column_of cs)) le) ∙ two (omega (arith, a)) le

-- the columns of a kept relation have no faults
kept_sound : (r : Relation) → IsKept r → column_faults (written_columns r.columns) ≡ []
kept_sound r k =
    let cs = written_columns r.columns in
    let again : repeated (database_fault Name) [] (map named_at cs) ≡ [] = no_second (database_fault Name) [] (map named_at cs) (none_before (map named_at cs)) (subst AreDistinct (sym (written_names r.columns)) k.differ) in
    let wide : ninth (database_fault Wide) 0 0 cs ≡ [] = no_ninth (database_fault Wide) 0 0 cs (subst (λ l. 0 + time_count l ≤ 8) (sym (same_columns r.columns)) (omega (arith, k.times))) (subst (λ l. 0 + text_count l ≤ 8) (sym (same_columns r.columns)) (omega (arith, k.texts))) in
    ap (λ l. l ++ ninth (database_fault Wide) 0 0 cs) again ∙ wide
  where
    none_before : (ns : List (Located Identifier)) → AllByRecursion (λ n. is_named_in [] n.item ≡ false) ns
    none_before [] = tt
    none_before (n ∷ ns) = (refl, none_before ns)

-- a heading of the columns written down is that of the relation
kept_heading : (r : Relation) (heading : Heading) → IsKept r → IsHeading heading → heading.columns ≡ written_columns r.columns → IsHeadingOf r heading
kept_heading r heading k is e = record {
  heads = is;
  columns = e;
  sound = is.fault ∙ ap (λ cs. earliest database_standing (column_faults cs)) e ∙ ap (earliest database_standing) (kept_sound r k);
}

-- the same of what is made of them
pub kept_headed : (r : Relation) (columns : List RawColumn) (made : Result Heading Memory) → IsKept r → columns ≡ written_columns r.columns → IfOk made IsHeading → IfOk made (λ h. h.columns ≡ columns) → IfOk made (IsHeadingOf r)
kept_headed r columns (Ok heading) k e is same = kept_heading r heading k is (same ∙ e)
kept_headed r columns (Err m) k e is same = tt

-- ---- headings

-- one element more of those taken
pub next_taken : {A : Type 0} (xs : List A) (i : ℕ) (a : A) → i < length xs → a ≡ get_or xs i a → take i xs ++ a ∷ [] ≡ take (i + 1) xs
next_taken xs i a lt e = ap (λ y. take i xs ++ y ∷ []) e ∙ sym (take-suc xs i a lt) ∙ ap (λ k. take k xs) (sym (add-one i))

-- one heading more
pub headings_more : (rs : List Relation) (r : Relation) (hs : List Heading) (h : Heading) → AreHeadings rs hs → IsHeadingOf r h → AreHeadings (rs ++ r ∷ []) (hs ++ h ∷ [])
headings_more [] r [] h are is = (is, tt)
headings_more [] r (x ∷ hs) h are is = absurd are
headings_more (s ∷ rs) r [] h are is = absurd are
headings_more (s ∷ rs) r (x ∷ hs) h are is = (are.0, headings_more rs r hs h are.1 is)

-- there are as many as relations
pub headings_many : (rs : List Relation) (hs : List Heading) → AreHeadings rs hs → length rs ≡ length hs
headings_many [] [] are = refl
headings_many [] (h ∷ hs) are = absurd are
headings_many (r ∷ rs) [] are = absurd are
headings_many (r ∷ rs) (h ∷ hs) are = ap suc (headings_many rs hs are.1)

-- the relation of a name by its bytes
abbrev pub by_name : List Relation → Identifier → Option Relation
by_name rs n = find (λ r. bytes_eq r.name n) rs

-- the heading at the first place of a name is that of the relation of this name
pub heading_found : (rs : List Relation) (hs : List Heading) (i : ℕ) (n : Identifier) (h : Heading) → AreHeadings rs hs → IsFirst (bytes_eq n) (map (λ r. r.name) rs) i → slice_get hs i ≡ Some h → IsHeadingIn (by_name rs n) (Some h)
heading_found [] hs i n h are earliest e = absurd earliest
heading_found (r ∷ rs) [] i n h are earliest e = absurd are
heading_found (r ∷ rs) (x ∷ hs) zero n h are earliest e =
    let same : Some x ≡ Some h = e in
    subst (λ o. IsHeadingIn (if bytes_eq r.name n then Some r else by_name rs n) o) same
    (subst (λ b. IsHeadingIn (if b then Some r else by_name rs n) (Some x)) (sym (nat_list_eq_equiv.symm r.name n ∙ earliest)) are.0)
heading_found (r ∷ rs) (x ∷ hs) (suc i) n h are earliest e =
    subst (λ b. IsHeadingIn (if b then Some r else by_name rs n) (Some h)) (sym (nat_list_eq_equiv.symm r.name n ∙ earliest.0)) (heading_found rs hs i n h are.1 earliest.1 e)

-- the relation of a heading that was found
pub record IsHeaded (found : Option Relation) (h : Heading) : Type 0 where
  pub relation : Relation
  pub is : found ≡ Some relation
  pub heads : IsHeadingOf relation h

pub headed : (found : Option Relation) (h : Heading) → IsHeadingIn found (Some h) → IsHeaded found h
headed None h is = absurd is
headed (Some r) h is = record { relation = r; is = refl; heads = is }

-- where no heading was found there is no relation
pub none_headed : (found : Option Relation) → IsHeadingIn found None → found ≡ None
none_headed None is = refl
none_headed (Some r) is = absurd is

-- ---- one edit more

-- an edit with what its row means
abbrev pub with_row : RawEdit → Row → Edit
with_row e r = record { add = e.add; relation = e.relation.item; row = r }

-- one edit of a known relation more
pub takes_row : (cs : List RawColumn) (row : Located RawRow) (meaning : Edit) (old new : Edits) (found : Option DbFault) → found ≡ earliest database_standing (row_faults cs row) → new.fault ≡ sooner database_standing old.fault found → (new.fault ≡ None → new.list ≡ old.list ++ meaning ∷ []) → TakesEdit (row_faults cs row) meaning old new
takes_row cs row meaning old new found e is kept = record { fault = is ∙ ap (sooner database_standing old.fault) e; meant = kept }

-- the faults and the meaning of an edit of a relation with this heading
pub takes_known : (db : List Relation) (e : RawEdit) (h : Heading) (old new : Edits) → IsHeaded (relation_named db e.relation.item) h → TakesEdit (row_faults h.columns e.row) (edit_with h.columns e) old new → TakesEdit (edit_faults db e) (edit_of db e) old new
takes_known db e h old new k takes =
    let faults : row_faults h.columns e.row ≡ edit_faults db e = ap (λ cs. row_faults cs e.row) k.heads.columns ∙ ap (λ o. faults_in o e) (sym k.is) in
    let meaning : edit_with h.columns e ≡ edit_of db e = ap (λ cs. edit_with cs e) k.heads.columns ∙ ap (λ o. edit_with (written_columns (columns_in o)) e) (sym k.is) in
    let P : List DbFault → Type 0 = λ fs. TakesEdit fs (edit_of db e) old new in
    let Q : Edit → Type 0 = λ m. TakesEdit (row_faults h.columns e.row) m old new in
    subst P faults (subst Q meaning takes)

-- and of an edit of none
pub takes_unknown : (db : List Relation) (e : RawEdit) (old new : Edits) → relation_named db e.relation.item ≡ None → TakesEdit (database_fault UnknownRelation e.relation.place ∷ []) (edit_of db e) old new → TakesEdit (edit_faults db e) (edit_of db e) old new
takes_unknown db e old new none takes =
    let P : List DbFault → Type 0 = λ fs. TakesEdit fs (edit_of db e) old new in
    subst P (ap (λ o. faults_in o e) (sym none)) takes

-- what is kept of edits and one more
pub one_more : (db : List Relation) (tree : List RawEdit) (e : RawEdit) (old new : Edits) → TakesEdit (edit_faults db e) (edit_of db e) old new → AreEditsOf db tree old → AreEditsOf db (tree ++ e ∷ []) new
one_more db tree e old new takes are = record {
  fault = first_more (edit_faults db) tree e old.fault new.fault (earliest database_standing (edit_faults db e)) are.fault refl takes.fault;
  meant = λ none.
      let before = none_of_both database_standing old.fault (earliest database_standing (edit_faults db e)) (sym takes.fault ∙ none) in
      takes.meant none ∙ ap (λ l. l ++ edit_of db e ∷ []) (are.meant before.0) ∙ sym (map-append (edit_of db) tree (e ∷ []));
}
