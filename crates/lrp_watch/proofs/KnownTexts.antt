-- The texts of a query, of the rows of its relations and of edits are in a domain, and stay so while the edits are made.
use Rattle.std.proofs.Common.{◌≡◌, ◌∙◌, inl, inr, ℕ, zero, suc, Bool, true, false, cond, List, [], ◌∷◌, ◌++◌, map, flat_map, Contains, Option, Some, slice_get, refl, sym, ap, subst}
use Rattle.std.specs.List.{AllByRecursion}
use Rattle.std.specs.Str.{bytes_eq}
use Rattle.std.proofs.lemmas.List.{map-append}
use Rattle.lrp_model.specs.Domains.{all_texts, constants, database_texts, form_texts, row_texts}
use Rattle.lrp_model.specs.Formulas.{Question}
use Rattle.lrp_model.specs.Kept.{IsKept, IsRowOf}
use Rattle.lrp_model.specs.Rows.{relation_named, rows_in, rows_of}
use Rattle.lrp_model.specs.Texts.{Identifier, Text, in_order}
use Rattle.lrp_model.specs.declared.relations.Column.{Column}
use Rattle.lrp_model.specs.declared.relations.Relation.{Relation}
use Rattle.lrp_model.specs.declared.relations.Row.{Row}
use Rattle.lrp_model.specs.declared.relations.Sort.{Sort}
use Rattle.lrp_model.specs.declared.relations.Value.{Value}
use Rattle.lrp_model.specs.declared.relations.Value.TheVariants.{Point, Const}
use Rattle.lrp_model.proofs.DomainLaws.{contains_in_order}
use Rattle.lrp_model.proofs.Logic.{all_append}
use Rattle.lrp_plan_laws.proofs.Members.{all_by, all_of}
use Rattle.lrp_edits.specs.declared.edits.Edit.{Edit}
use Rattle.lrp_keep.specs.Replaced.{replaced}
use Rattle.lrp_keep.proofs.Exchanged.{columns_stay, same_texts}
use Rattle.lrp_watch.specs.Decided.{HasAllTexts, HasRowTexts, HasEachText}
use Rattle.lrp_watch.specs.Edited.{IsEdited, IsEditedBy}
use Rattle.lrp_watch.specs.Watching.{row_texts_of, texts_of_value, watched_constants}
use Rattle.lrp_watch.proofs.Openings.{image_parts, parts, texts_alone}
use Rattle.lrp_watch.proofs.Replacing.{all_one}

module _ (domain : List Text) where
  abbrev IsIn : Sort × Text → Type 0
  IsIn entry = Contains domain entry.1

  abbrev AreRowsIn : List Relation → Type 0
  AreRowsIn db = AllByRecursion (λ (r : Relation). AllByRecursion (HasRowTexts domain) r.rows) db

  -- the text of a place
  pub text_in : (texts : List Text) (i : ℕ) (t : Text) → HasEachText domain texts → slice_get texts i ≡ Some t → Contains domain t
  text_in [] i t h at = cc
  text_in (x ∷ texts) zero t h at =
      let f : Some x ≡ Some t = at in
      let e : x ≡ t = cc in
      subst (Contains domain) e h.0
  text_in (x ∷ texts) (suc i) t h at = text_in texts i t h.1 at

  -- ---- the constants

  row_in : (cs : List Column) (vs : List Value) → HasEachText domain (flat_map texts_of_value vs) → AllByRecursion IsIn (row_texts cs vs)
  row_in [] [] h = tt
  row_in [] (v ∷ vs) h = tt
  row_in (c ∷ cs) [] h = tt
  row_in (c ∷ cs) (Point p ∷ vs) h = row_in cs vs h
  row_in (c ∷ cs) (Const t ∷ vs) h = (h.0, row_in cs vs h.1)

  rows_in_domain : (cs : List Column) (rows : List Row) → AllByRecursion (HasRowTexts domain) rows → AllByRecursion IsIn (flat_map (λ row. row_texts cs row.values) rows)
  rows_in_domain cs [] h = tt
  rows_in_domain cs (row ∷ rows) h = (all_append IsIn (row_texts cs row.values) (flat_map (λ r. row_texts cs r.values) rows)).1 (row_in cs row.values h.0, rows_in_domain cs rows h.1)

  relations_in : (db : List Relation) → AreRowsIn db → AllByRecursion IsIn (database_texts db)
  relations_in [] h = tt
  relations_in (r ∷ rs) h = (all_append IsIn (flat_map (λ row. row_texts r.columns row.values) r.rows) (database_texts rs)).1 (rows_in_domain r.columns r.rows h.0, relations_in rs h.1)

  texts_of : (entries : List (Sort × Text)) → AllByRecursion IsIn entries → HasEachText domain (map (λ entry. entry.1) entries)
  texts_of [] h = tt
  texts_of (e ∷ entries) h = (h.0, texts_of entries h.1)

  pub constants_in : (q : Question) (edits : List Edit) (db : List Relation) → HasAllTexts domain q edits db → HasEachText domain (constants db q)
  constants_in q edits db h =
      let both : HasEachText domain (map (λ entry. entry.1) (all_texts db q)) = subst (HasEachText domain) (sym (map-append (λ entry. entry.1) (database_texts db) (form_texts q.body db q.head)))
      ((all_append (Contains domain) (map (λ entry. entry.1) (database_texts db)) (map (λ entry. entry.1) (form_texts q.body db q.head))).1 (texts_of (database_texts db) (relations_in db h.rows), h.query)) in
      all_by (Contains domain) (constants db q) (λ t c. all_of (Contains domain) (map (λ entry. entry.1) (all_texts db q)) t both ((contains_in_order (map (λ entry. entry.1) (all_texts db q)) t).0 c))

  -- ---- an edit is made

  named_rows : (db : List Relation) (name : Identifier) → AreRowsIn db → AllByRecursion (HasRowTexts domain) (rows_of db name)
  named_rows [] name h = tt
  named_rows (r ∷ rs) name h = by (bytes_eq r.name name) (named_rows rs name h.1)
    where
      by : (b : Bool) → AllByRecursion (HasRowTexts domain) (rows_in (relation_named rs name)) → AllByRecursion (HasRowTexts domain) (rows_in (cond b (Some r) (relation_named rs name)))
      by true rest = h.0
      by false rest = rest

  module _ (rows : List Row) (name : Identifier) (known : AllByRecursion (HasRowTexts domain) rows) where
    rows_replaced : (db : List Relation) → AreRowsIn db → AreRowsIn (replaced db name rows)
    rows_replaced [] h = tt
    rows_replaced (r ∷ rs) h = (by (bytes_eq r.name name), rows_replaced rs h.1)
      where
        by : (b : Bool) → AllByRecursion (HasRowTexts domain) (cond b (record { name = r.name; columns = r.columns; rows = rows }) r).rows
        by true = known
        by false = h.0

    all_replaced : (q : Question) (edits : List Edit) (db : List Relation) → HasAllTexts domain q edits db → HasAllTexts domain q edits (replaced db name rows)
    all_replaced q edits db h = record {
      query = subst (λ (entries : List (Sort × Text)). HasEachText domain (map (λ entry. entry.1) entries)) (sym (same_texts db (replaced db name rows) (columns_stay rows name db) q.body q.head)) h.query;
      rows = rows_replaced db h.rows;
      edits = h.edits;
    }

  by_row : (q : Question) (edits : List Edit) (db next : List Relation) (add : Bool) (name : Identifier) (row : Row) → HasRowTexts domain row → IsEditedBy add name row db next → HasAllTexts domain q edits db → HasAllTexts domain q edits next
  by_row q edits db next true name row own is h = subst (λ d. HasAllTexts domain q edits d) (sym is) (all_replaced (rows_of db name ++ row ∷ []) name (all_one (HasRowTexts domain) (rows_of db name) row (named_rows db name h.rows) own) q edits db h)
  by_row q edits db next false name row own (inl is) h =
      let were = parts (HasRowTexts domain) is.taken.front (is.taken.held ∷ is.taken.back) (subst (AllByRecursion (HasRowTexts domain)) is.taken.were (named_rows db name h.rows)) in
      subst (λ d. HasAllTexts domain q edits d) (sym is.is)
      (all_replaced is.rows name (subst (AllByRecursion (HasRowTexts domain)) (sym is.taken.are) ((all_append (HasRowTexts domain) is.taken.front is.taken.back).1 (were.0, were.1.1))) q edits db h)
  by_row q edits db next false name row own (inr is) h = subst (λ d. HasAllTexts domain q edits d) (sym is.1) h

  pub texts_still : (e : Edit) (q : Question) (edits : List Edit) (db next : List Relation) → HasRowTexts domain e.row → IsEdited e db next → HasAllTexts domain q edits db → HasAllTexts domain q edits next
  texts_still e q edits db next own is h = by_row q edits db next e.add e.relation e.row own is h

  -- ---- what is read

  rows_read : (cs : List Column) (rows : List Row) → AllByRecursion (IsRowOf cs) rows → HasEachText domain (map (λ (entry : Sort × Text). entry.1) (flat_map (λ row. row_texts cs row.values) rows)) → AllByRecursion (HasRowTexts domain) rows
  rows_read cs [] h k = tt
  rows_read cs (row ∷ rows) h k =
      let two = image_parts (Contains domain) (λ (entry : Sort × Text). entry.1) (row_texts cs row.values) (flat_map (λ r. row_texts cs r.values) rows) k in
      (subst (HasEachText domain) (texts_alone cs row.values h.0.values) two.0, rows_read cs rows h.1 two.1)

  relations_read : (db : List Relation) → AllByRecursion IsKept db → HasEachText domain (map (λ (entry : Sort × Text). entry.1) (database_texts db)) → AreRowsIn db
  relations_read [] h k = tt
  relations_read (r ∷ rs) h k =
      let two = image_parts (Contains domain) (λ (entry : Sort × Text). entry.1) (flat_map (λ row. row_texts r.columns row.values) r.rows) (database_texts rs) k in
      (rows_read r.columns r.rows h.0.rows two.0, relations_read rs h.1 two.1)

  edits_read : (edits : List Edit) → HasEachText domain (flat_map row_texts_of edits) → AllByRecursion (λ e. HasRowTexts domain e.row) edits
  edits_read [] k = tt
  edits_read (e ∷ es) k = let two = parts (Contains domain) (row_texts_of e) (flat_map row_texts_of es) k in (two.0, edits_read es two.1)

-- the domain with which a watch begins has all texts
pub all_read : (domain : List Text) (db : List Relation) (q : Question) (edits : List Edit) → domain ≡ watched_constants db q edits → AllByRecursion IsKept db → HasAllTexts domain q edits db
all_read domain db q edits is kept =
    let sorted = map (λ (entry : Sort × Text). entry.1) (all_texts db q) in
    let known : HasEachText domain (sorted ++ flat_map row_texts_of edits) = all_by (Contains domain) (sorted ++ flat_map row_texts_of edits) (λ t c. subst (λ ts. Contains ts t) (sym is) ((contains_in_order (sorted ++ flat_map row_texts_of edits) t).1 c)) in
    let two = parts (Contains domain) sorted (flat_map row_texts_of edits) known in
    let both = image_parts (Contains domain) (λ (entry : Sort × Text). entry.1) (database_texts db) (form_texts q.body db q.head) two.0 in
    record { query = both.1; rows = relations_read domain db kept both.0; edits = edits_read domain edits two.1 }
