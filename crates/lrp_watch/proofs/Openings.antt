-- What is read of a database, a query and edits can be kept: rows of their columns, with texts that are constants.
use Rattle.std.proofs.Common.{◌≡◌, ℕ, suc, Bool, true, false, not, List, [], ◌∷◌, ◌++◌, map, flat_map, Contains, Some, refl, ap, subst, arith, cond}
use Rattle.std.specs.Prelude.{◌↔◌}
use Rattle.std.specs.List.{AllByRecursion, AllZip}
use Rattle.std.specs.Str.{bytes_eq}
use Rattle.std.specs.Cmp.Lexicographic.{bytes_decides}
use Rattle.std.proofs.lemmas.List.Elements.{Contains-append_left}
use Rattle.lrp_theory.proofs.Modulo.{Divides-self}
use Rattle.lrp_model.specs.Domains.{all_texts, constants, database_texts, form_texts, row_texts}
use Rattle.lrp_model.specs.Formulas.{Question, question_of}
use Rattle.lrp_model.specs.Rows.{relation_named}
use Rattle.lrp_model.specs.Sorts.{time_count}
use Rattle.lrp_model.specs.Texts.{Identifier, Text, in_order}
use Rattle.lrp_model.specs.declared.formulas.Query.{Query}
use Rattle.lrp_model.specs.declared.relations.Bound.{Bound}
use Rattle.lrp_model.specs.declared.relations.Column.{Column}
use Rattle.lrp_model.specs.declared.relations.Relation.{Relation}
use Rattle.lrp_model.specs.declared.relations.Row.{Row}
use Rattle.lrp_model.specs.declared.relations.Sort.{Sort}
use Rattle.lrp_model.specs.declared.relations.Value.{Value}
use Rattle.lrp_model.specs.declared.relations.Value.TheVariants.{Point, Const}
use Rattle.lrp_model.specs.Kept.{AreValuesOf, IsBoundOf, IsKept, IsRowOf, IsValueOf}
use Rattle.lrp_tables.specs.Calls.{IsColumnBound}
use Rattle.lrp_edits.specs.EditMeaning.{IsEditOf}
use Rattle.lrp_edits.specs.declared.edits.Edit.{Edit}
use Rattle.lrp_keep.specs.Keeps.{CanBeHeld, CanBeKept, CanStandAlone, IsRelationOf, opened, StaysWithinLimits}
use Rattle.lrp_watch.specs.LeastAnswers.{CanBeMade, CanGoOn}
use Rattle.lrp_watch.specs.Watching.{CanBeWatched, row_texts_of, watched_constants, texts_of_value}

-- ---- lists

-- what holds of each of two lists holds of each of them
pub parts : {X : Type 0} (p : X → Type 0) (xs ys : List X) → AllByRecursion p (xs ++ ys) → AllByRecursion p xs × AllByRecursion p ys
parts p [] ys h = (tt, h)
parts p (x ∷ xs) ys h = let r = parts p xs ys h.1 in ((h.0, r.0), r.1)

-- the same of images
pub image_parts : {X Y : Type 0} (p : Y → Type 0) (f : X → Y) (xs ys : List X) → AllByRecursion p (map f (xs ++ ys)) → AllByRecursion p (map f xs) × AllByRecursion p (map f ys)
image_parts p f [] ys h = (tt, h)
image_parts p f (x ∷ xs) ys h = let r = image_parts p f xs ys h.1 in ((h.0, r.0), r.1)

-- what holds of each element that a list has
all_in : {X : Type 0} (p : X → Type 0) (xs : List X) → ((x : X) → Contains xs x → p x) → AllByRecursion p xs
all_in p [] h = tt
all_in p (x ∷ xs) h = (h x (0, omega arith, refl), all_in p xs (λ y c. h y (suc c.0, omega (arith, c.1), c.2)))

-- ---- rows

value_held : (domain : List Text) (c : Column) (v : Value) → IsValueOf c v → AllByRecursion (Contains domain) (texts_of_value v) → CanStandAlone domain c v
value_held domain c (Point p) h k = (h.0, h.1, Divides-self p.period)
value_held domain c (Const t) h k = (ap not h.0, k.0)

values_held : (domain : List Text) (cs : List Column) (vs : List Value) → AreValuesOf cs vs → AllByRecursion (Contains domain) (flat_map texts_of_value vs) → AllZip (CanStandAlone domain) cs vs
values_held domain [] [] h k = tt
values_held domain [] (v ∷ vs) h k = absurd h
values_held domain (c ∷ cs) [] h k = absurd h
values_held domain (c ∷ cs) (v ∷ vs) h k = let two = parts (Contains domain) (texts_of_value v) (flat_map texts_of_value vs) k in (value_held domain c v h.0 two.0, values_held domain cs vs h.1 two.1)

bounds_held : (times : ℕ) (bs : List Bound) → AllByRecursion (IsBoundOf times) bs → AllByRecursion (IsColumnBound times) bs
bounds_held times [] h = tt
bounds_held times (b ∷ bs) h = (record { left = h.0.left; right = h.0.right }, bounds_held times bs h.1)

row_held : (domain : List Text) (cs : List Column) (row : Row) → IsRowOf cs row → AllByRecursion (Contains domain) (flat_map texts_of_value row.values) → CanBeHeld domain cs row
row_held domain cs row h k = record { values = values_held domain cs row.values h.values k; bounds = bounds_held (time_count cs) row.bounds h.bounds }

-- ---- databases

pub texts_alone : (cs : List Column) (vs : List Value) → AreValuesOf cs vs → map (λ (entry : Sort × Text). entry.1) (row_texts cs vs) ≡ flat_map texts_of_value vs
texts_alone [] [] h = refl
texts_alone [] (v ∷ vs) h = absurd h
texts_alone (c ∷ cs) [] h = absurd h
texts_alone (c ∷ cs) (Point p ∷ vs) h = texts_alone cs vs h.1
texts_alone (c ∷ cs) (Const t ∷ vs) h = ap (λ ts. t ∷ ts) (texts_alone cs vs h.1)

module _ (domain : List Text) where
  rows_held : (cs : List Column) (rows : List Row) → AllByRecursion (IsRowOf cs) rows → AllByRecursion (Contains domain) (map (λ (entry : Sort × Text). entry.1) (flat_map (λ row. row_texts cs row.values) rows)) → AllByRecursion (CanBeHeld domain cs) rows
  rows_held cs [] h k = tt
  rows_held cs (row ∷ rows) h k =
      let two = image_parts (Contains domain) (λ (entry : Sort × Text). entry.1) (row_texts cs row.values) (flat_map (λ r. row_texts cs r.values) rows) k in
      (row_held domain cs row h.0 (subst (AllByRecursion (Contains domain)) (texts_alone cs row.values h.0.values) two.0), rows_held cs rows h.1 two.1)

  relations_held : (db : List Relation) → AllByRecursion IsKept db → AllByRecursion (Contains domain) (map (λ (entry : Sort × Text). entry.1) (database_texts db)) → AllByRecursion (λ r. AllByRecursion (CanBeHeld domain r.columns) r.rows) db
  relations_held [] h k = tt
  relations_held (r ∷ rs) h k =
      let two = image_parts (Contains domain) (λ (entry : Sort × Text). entry.1) (flat_map (λ row. row_texts r.columns row.values) r.rows) (database_texts rs) k in
      (rows_held r.columns r.rows h.0.rows two.0, relations_held rs h.1 two.1)

-- ---- the constants

-- texts in order are those of the list
abbrev pub AreSameInOrder : Type 0
AreSameInOrder = (texts : List Text) (t : Text) → Contains (in_order texts) t ↔ Contains texts t

module _ (same : AreSameInOrder) (db : List Relation) (q : Question) (edits : List Edit) where
  abbrev sorted_texts : List Text
  sorted_texts = map (λ entry. entry.1) (all_texts db q)

  abbrev domain : List Text
  domain = watched_constants db q edits

  all_known : AllByRecursion (Contains domain) (sorted_texts ++ flat_map row_texts_of edits)
  all_known = all_in (Contains domain) (sorted_texts ++ flat_map row_texts_of edits) (λ t c. (same (sorted_texts ++ flat_map row_texts_of edits) t).1 c)

  constants_known : AllByRecursion (Contains domain) (constants db q)
  constants_known = all_in (Contains domain) (constants db q) (λ t c.
      (same (sorted_texts ++ flat_map row_texts_of edits) t).1 (Contains-append_left sorted_texts (flat_map row_texts_of edits) t ((same sorted_texts t).0 c)))

  pub can_be_kept : CanBeWatched db q edits → AllByRecursion IsKept db → CanBeKept q db domain
  can_be_kept can kept = record {
    query = can.query;
    kept = can.kept;
    points = can.points;
    known = constants_known;
    rows = relations_held domain db kept
        (image_parts (Contains domain) (λ (entry : Sort × Text). entry.1) (database_texts db) (form_texts q.body db q.head) (parts (Contains domain) sorted_texts (flat_map row_texts_of edits) all_known).0).0;
  }

-- ---- edits

-- the relation of a name is one
named_in : (db : List Relation) (name : Identifier) (r : Relation) → relation_named db name ≡ Some r → IsRelationOf db name r
named_in [] name r e = cc
named_in (x ∷ xs) name r e = by (bytes_eq x.name name) refl e (named_in xs name r)
  where
    by : (b : Bool) → bytes_eq x.name name ≡ b → cond b (Some x) (relation_named xs name) ≡ Some r → (relation_named xs name ≡ Some r → IsRelationOf xs name r) → IsRelationOf (x ∷ xs) name r
    by true own f rest = let same : x ≡ r = cc in record { listed = (0, omega arith, same); named = subst (λ (y : Relation). y.name ≡ name) same ((bytes_decides x.name name).0 own) }
    by false own f rest = let k = rest f in record { listed = (suc k.listed.0, omega (arith, k.listed.1), k.listed.2); named = k.named }

module _ (query : Query) (db : List Relation) (domain : List Text) (cap : ℕ) where
  edits_can : (edits : List Edit) → AllByRecursion (IsEditOf db) edits → AllByRecursion (Contains domain) (flat_map row_texts_of edits) → AllByRecursion (CanBeMade (opened query db domain cap)) edits
  edits_can [] h k = tt
  edits_can (e ∷ es) h k =
      let two = parts (Contains domain) (row_texts_of e) (flat_map row_texts_of es) k in
      (record { relation = h.0.relation; is = named_in db e.relation h.0.relation h.0.named; row_fits = row_held domain h.0.relation.columns e.row h.0.row two.0 }, edits_can es h.1 two.1)

-- the edits can be made of what is kept at first
pub can_go_on : AreSameInOrder → (query : Query) (db : List Relation) (edits : List Edit) (cap : ℕ) → CanBeWatched db (question_of query) edits → CanGoOn (opened query db (watched_constants db (question_of query) edits) cap) edits
can_go_on same query db edits cap can =
    let q = question_of query in
    let domain = watched_constants db q edits in
    record {
      can = edits_can query db domain cap edits can.lawful (parts (Contains domain) (map (λ entry. entry.1) (all_texts db q)) (flat_map row_texts_of edits) (all_known same db q edits)).1;
    }
