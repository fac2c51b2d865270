-- A well-sorted query over a database without named sorts: all texts are of one sort.
use Rattle.std.proofs.Common.{◌≡◌, Bool, true, false, cond, not, ◌&&◌, ◌||◌, List, [], ◌∷◌, ◌++◌, length, append-nil, Option, Some, None, unwrap_or, map, flat_map, Contains, refl, sym, ap, subst, ◌∙◌, bytes_eq}
use Rattle.std.specs.Prelude.{◌==◌, if◌then◌else◌, reverse, option_map, find}
use Rattle.std.specs.List.{AllByRecursion, list_any}
use Rattle.lrp_model.specs.Texts.{Identifier}
use Rattle.lrp_model.specs.Rows.{relation_named, columns_in}
use Rattle.lrp_model.specs.Sorts.{same_sort, is_time, is_data}
use Rattle.lrp_model.specs.Faults.{fault_if}
use Rattle.lrp_model.specs.Core.{is_named, has_named_sort}
use Rattle.lrp_model.specs.Domains.{row_texts, database_texts, term_texts, sort_beside, text_beside, test_texts, form_texts, forms_texts}
use Rattle.lrp_model.specs.Plans.{HasNoNamedSorts}
use Rattle.lrp_model.specs.RawQueries.{RawForm, RawForms, RawQuestion, raw_atom, raw_compare, raw_member, raw_not, raw_and, raw_or, raw_implies, raw_group, raw_exists, raw_forall, raw_ranged, raw_paired, no_raws, raw}
use Rattle.lrp_model.specs.Sorting.{Binders, binder_sort, alone_sort, shifted_sort, kind_sort, term_sort, is_data_term, differs, term_faults, column_faults, atom_faults, has_sort, sort_faults, binder_faults, head_faults, widened, form_faults, forms_faults, IsWellSorted}
use Rattle.lrp_model.specs.DatabaseMeaning.{column_of}
use Rattle.lrp_model.specs.Checked.{term_of, compare_of, plain, plain_each, plain_question}
use Rattle.lrp_model.specs.RawTerms.{time_of, data_of, is_equality}
use Rattle.lrp_model.specs.declared.tokens.Place.{Place}
use Rattle.lrp_model.specs.declared.relations.Sort.{Sort}
use Rattle.lrp_model.specs.declared.relations.Sort.TheVariants.{Time, Data, Named}
use Rattle.lrp_model.specs.declared.relations.Column.{Column}
use Rattle.lrp_model.specs.declared.relations.Value.{Value}
use Rattle.lrp_model.specs.declared.relations.Value.TheVariants.{Point, Const}
use Rattle.lrp_model.specs.declared.relations.Relation.{Relation}
use Rattle.lrp_model.specs.declared.formulas.Term.{Term}
use Rattle.lrp_model.specs.declared.formulas.Term.TheVariants.{Time as time_term, Data as data_term}
use Rattle.lrp_model.specs.declared.formulas.DataTerm.{DataTerm}
use Rattle.lrp_model.specs.declared.formulas.DataTerm.TheVariants.{Var as data_var, Const as data_const}
use Rattle.lrp_model.specs.declared.formulas.Op.{Op}
use Rattle.lrp_model.specs.declared.formulas.Test.TheVariants.{Compare, Equal}
use Rattle.lrp_model.specs.declared.raw.RawColumn.{RawColumn}
use Rattle.lrp_model.specs.declared.raw.RawTerm.{RawTerm}
use Rattle.lrp_model.specs.declared.raw.RawTermKind.{RawTermKind}
use Rattle.lrp_model.specs.declared.raw.RawTermKind.TheVariants.{Int, Text as TextTerm, Var, Shifted}
use Rattle.lrp_model.proofs.Decided.{contains_first}
use Rattle.lrp_model.proofs.Logic.{all_append}
use Rattle.lrp_plan_laws.specs.Guards.{BindsPlainly, BindPlainly}
use Rattle.lrp_plan_laws.specs.Settled.{HasSortedTexts}
use Rattle.lrp_plan_laws.proofs.Members.{all_map}
use Rattle.lrp_model.proofs.NoFaults.{both_none, none_if, not_false, not_wide, not_wide_inside}
use Rattle.lrp_plan_laws.proofs.SortedNames.{bound_here, bound_further, same_name}
use Rattle.lrp_plan_laws.proofs.SortedScopes.{names_in, head_first, still, turned_more, parts_sorted}

-- ---- lists

-- what follows for each element holds of some
any_more : {X : Type 0} (p q : X → Bool) (xs : List X) → ((x : X) → p x ≡ true → q x ≡ true) → list_any p xs ≡ true → list_any q xs ≡ true
any_more p q [] h e = e
any_more p q (x ∷ xs) h e = at_first (p x) (q x) refl refl e (any_more p q xs h)
  where
    at_first : (a b : Bool) → p x ≡ a → q x ≡ b → (a || list_any p xs) ≡ true → (list_any p xs ≡ true → list_any q xs ≡ true) → (b || list_any q xs) ≡ true
    at_first a true u w f rest = refl
    at_first true false u w f rest = let z : q x ≡ true = h x u in cc
    at_first false false u w f rest = rest f

-- where it holds of none, it fails for each
none_any : {X : Type 0} (p : X → Bool) (xs : List X) → list_any p xs ≡ false → AllByRecursion (λ x. p x ≡ false) xs
none_any p [] e = tt
none_any p (x ∷ xs) e = at_first (p x) refl e (none_any p xs)
  where
    at_first : (a : Bool) → p x ≡ a → (a || list_any p xs) ≡ false → (list_any p xs ≡ false → AllByRecursion (λ y. p y ≡ false) xs) → AllByRecursion (λ y. p y ≡ false) (x ∷ xs)
    at_first true u f rest = cc
    at_first false u f rest = (u, rest f)

-- what always holds, holds of each
all_every : {X : Type 0} (p : X → Type 0) (xs : List X) → ((x : X) → p x) → AllByRecursion p xs
all_every p [] h = tt
all_every p (x ∷ xs) h = (h x, all_every p xs h)

-- what holds of each image holds of all of them together
all_flat : {X Y : Type 0} (p : Y → Type 0) (f : X → List Y) (xs : List X) → AllByRecursion (λ x. AllByRecursion p (f x)) xs → AllByRecursion p (flat_map f xs)
all_flat p f [] h = tt
all_flat p f (x ∷ xs) h = (all_append p (f x) (flat_map f xs)).1 (h.0, all_flat p f xs h.1)

-- what follows from two facts on each element
all_two : {X : Type 0} (p q r : X → Type 0) (xs : List X) → ((x : X) → p x → q x → r x) → AllByRecursion p xs → AllByRecursion q xs → AllByRecursion r xs
all_two p q r [] f h k = tt
all_two p q r (x ∷ xs) f h k = (f x h.0 k.0, all_two p q r xs f h.1 k.1)

-- what holds of each element holds of the one that is found
pub found_is : {X : Type 0} (p : X → Type 0) (t : X → Bool) (xs : List X) (x : X) → find t xs ≡ Some x → AllByRecursion p xs → p x
found_is p t [] x e h = cc
found_is p t (y ∷ ys) x e h = at_first (t y) e (λ f. found_is p t ys x f h.1)
  where
    some_is : (y : _) → Some y ≡ Some x → y ≡ x
    some_is y q = cc

    at_first : (b : Bool) → cond b (Some y) (find t ys) ≡ Some x → (find t ys ≡ Some x → p x) → p x
    at_first true q rest = subst p (some_is y q) h.0
    at_first false q rest = rest q

-- ---- no sort is named

-- the sort is not named
abbrev IsUnnamed : Sort → Type 0
IsUnnamed s = is_named s ≡ false

-- a data sort that is not named is `data`
plain_sort : (s : Sort) → IsUnnamed s → is_data s ≡ true → s ≡ Data
plain_sort Time n d = cc
plain_sort Data n d = refl
plain_sort (Named m) n d = cc

-- a sort that is not named and not that of times is `data`
untimed : (s : Sort) → IsUnnamed s → is_time s ≡ false → s ≡ Data
untimed Time n t = cc
untimed Data n t = refl
untimed (Named m) n t = cc

-- a sort that is a named one is named
same_named : (s : Sort) (m : Identifier) → same_sort s (Named m) ≡ true → is_named s ≡ true
same_named Time m e = cc
same_named Data m e = cc
same_named (Named n) m e = refl

-- a sort that a column of the database has is unnamed
sort_unnamed : (db : List Relation) (s : Sort) (p : Place) → has_named_sort db ≡ false → sort_faults db s p ≡ [] → IsUnnamed s
sort_unnamed db Time p none e = refl
sort_unnamed db Data p none e = refl
sort_unnamed db (Named m) p none e =
    let h : has_sort db (Named m) ≡ true = not_false (has_sort db (Named m)) (none_if (not (has_sort db (Named m))) _ e) in
    let n : has_named_sort db ≡ true =
    any_more (λ r. list_any (λ c. same_sort c.sort (Named m)) r.columns) (λ r. list_any (λ c. is_named c.sort) r.columns) db (λ r k. any_more (λ c. same_sort c.sort (Named m)) (λ c. is_named c.sort) r.columns (λ c j. same_named c.sort m j) k) h in
    cc

-- the sort of a binder without a fault is not named
binder_unnamed : (db : List Relation) (bs : Binders) (c : RawColumn) → has_named_sort db ≡ false → binder_faults db bs c ≡ [] → IsUnnamed c.sort
binder_unnamed db bs c none e = sort_unnamed db c.sort c.sort_place none (both_none (fault_if _ _) (sort_faults db c.sort c.sort_place) e).1

mutual
  -- no quantifier of a formula without a fault is over a named sort
  binds_plainly : (f : RawForm) (db : List Relation) (bs : Binders) → has_named_sort db ≡ false → form_faults f db bs ≡ [] → BindsPlainly (plain f bs)
  binds_plainly (raw_atom p name ts) db bs none e = tt
  binds_plainly (raw_compare p l op r) db bs none e = tt
  binds_plainly (raw_member p t point) db bs none e = tt
  binds_plainly (raw_not p f) db bs none e = binds_plainly f db bs none (not_wide bs [] f (form_faults f db bs) e).1
  binds_plainly (raw_and p fs) db bs none e = bind_plainly fs db bs none e
  binds_plainly (raw_or p fs) db bs none e = bind_plainly fs db bs none e
  binds_plainly (raw_implies p f g) db bs none e =
      let x = both_none (widened bs [] f (form_faults f db bs)) (widened bs [] g (form_faults g db bs)) e in
      (binds_plainly f db bs none (not_wide bs [] f (form_faults f db bs) x.0).1, binds_plainly g db bs none (not_wide bs [] g (form_faults g db bs) x.1).1)
  binds_plainly (raw_group p f) db bs none e = binds_plainly f db bs none (not_wide bs [] f (form_faults f db bs) e).1
  binds_plainly (raw_ranged word o from to f) db bs none e = binds_plainly f db bs none (not_wide bs [] f (form_faults f db bs) e).1
  binds_plainly (raw_paired word o f g) db bs none e = binds_plainly g db bs none (not_wide bs [] g (form_faults g db bs) e).1
  binds_plainly (raw_exists p c f) db bs none e =
      (binder_unnamed db bs c none (both_none (binder_faults db bs c) (widened (c ∷ bs) (c.name ∷ []) f (form_faults f db (c ∷ bs))) e).0, binds_plainly f db (c ∷ bs) none (not_wide_inside db bs c f (form_faults f db (c ∷ bs)) e).1)
  binds_plainly (raw_forall p c f) db bs none e =
      (binder_unnamed db bs c none (both_none (binder_faults db bs c) (widened (c ∷ bs) (c.name ∷ []) f (form_faults f db (c ∷ bs))) e).0, binds_plainly f db (c ∷ bs) none (not_wide_inside db bs c f (form_faults f db (c ∷ bs)) e).1)

  -- nor any of a list
  bind_plainly : (fs : RawForms) (db : List Relation) (bs : Binders) → has_named_sort db ≡ false → forms_faults fs db bs ≡ [] → BindPlainly (plain_each fs bs)
  bind_plainly no_raws db bs none e = tt
  bind_plainly (raw f fs) db bs none e =
      let x = both_none (widened bs [] f (form_faults f db bs)) (forms_faults fs db bs) e in
      (binds_plainly f db bs none (not_wide bs [] f (form_faults f db bs) x.0).1, bind_plainly fs db bs none x.1)

-- ---- the texts of the database

-- no column of the database is of a named sort
columns_unnamed : (db : List Relation) → has_named_sort db ≡ false → AllByRecursion (λ r. AllByRecursion (λ c. is_named c.sort ≡ false) r.columns) db
columns_unnamed db none =
    all_map (λ r. list_any (λ c. is_named c.sort) r.columns ≡ false) (λ r. AllByRecursion (λ c. is_named c.sort ≡ false) r.columns) db (λ r h. none_any (λ c. is_named c.sort) r.columns h) (none_any (λ r. list_any (λ c. is_named c.sort) r.columns) db none)

-- so no text of a row has a named sort
row_unnamed : (cs : List Column) (vs : List Value) → AllByRecursion (λ c. is_named c.sort ≡ false) cs → AllByRecursion (λ entry. is_named entry.0 ≡ false) (row_texts cs vs)
row_unnamed [] [] h = tt
row_unnamed [] (v ∷ vs) h = tt
row_unnamed (c ∷ cs) [] h = tt
row_unnamed (c ∷ cs) (Const t ∷ vs) h = (h.0, row_unnamed cs vs h.1)
row_unnamed (c ∷ cs) (Point at ∷ vs) h = row_unnamed cs vs h.1

-- each text of the database has sort `data`
database_data : (db : List Relation) → has_named_sort db ≡ false → HasSortedTexts db → AllByRecursion (λ entry. entry.0 ≡ Data) (database_texts db)
database_data db none texts =
    all_two (λ entry. is_named entry.0 ≡ false) (λ entry. is_data entry.0 ≡ true) (λ entry. entry.0 ≡ Data) (database_texts db) (λ entry n d. plain_sort entry.0 n d)
    (all_flat (λ entry. is_named entry.0 ≡ false) (λ r. flat_map (λ row. row_texts r.columns row.values) r.rows) db
    (all_map (λ r. AllByRecursion (λ c. is_named c.sort ≡ false) r.columns) (λ r. AllByRecursion (λ entry. is_named entry.0 ≡ false) (flat_map (λ row. row_texts r.columns row.values) r.rows)) db
    (λ r h. all_flat (λ entry. is_named entry.0 ≡ false) (λ row. row_texts r.columns row.values) r.rows (all_every (λ row. AllByRecursion (λ entry. is_named entry.0 ≡ false) (row_texts r.columns row.values)) r.rows (λ row. row_unnamed r.columns row.values h)))
    (columns_unnamed db none)))
    texts

-- ---- the texts of the body

-- a term of an atom, in its column
term_data : (bs : Binders) (k : RawTermKind) (c : Column) (cs : List Column) (us : List Term) → differs (kind_sort bs k) c.sort ≡ false → IsUnnamed c.sort → AllByRecursion (λ entry. entry.0 ≡ Data) (term_texts cs us)
    → AllByRecursion (λ entry. entry.0 ≡ Data) (term_texts (c ∷ cs) ((if is_data_term (kind_sort bs k) then data_term (data_of k) else time_term (time_of k)) ∷ us))
term_data bs (Int x) c cs us e n rest = rest
term_data bs (TextTerm t) c cs us e n rest = (untimed c.sort n e, rest)
term_data bs (Var m) c cs us e n rest = by_kind (is_data_term (alone_sort (binder_sort bs m)))
  where
    by_kind : (b : Bool) → AllByRecursion (λ entry. entry.0 ≡ Data) (term_texts (c ∷ cs) ((if b then data_term (data_of (Var m)) else time_term (time_of (Var m))) ∷ us))
    by_kind true = rest
    by_kind false = rest
term_data bs (Shifted m plus) c cs us e n rest = by_sort (binder_sort bs m)
  where
    by_sort : (o : Option Sort) → AllByRecursion (λ entry. entry.0 ≡ Data) (term_texts (c ∷ cs) ((if is_data_term (shifted_sort o) then data_term (data_of (Shifted m plus)) else time_term (time_of (Shifted m plus))) ∷ us))
    by_sort None = rest
    by_sort (Some s) = rest

-- the terms of an atom, in their columns
terms_data : (bs : Binders) (ts : List RawTerm) (cs : List Column) → column_faults bs ts cs ≡ [] → AllByRecursion (λ c. is_named c.sort ≡ false) cs → AllByRecursion (λ entry. entry.0 ≡ Data) (term_texts cs (map (term_of bs) ts))
terms_data bs [] [] e h = tt
terms_data bs [] (c ∷ cs) e h = tt
terms_data bs (t ∷ ts) [] e h = tt
terms_data bs (t ∷ ts) (c ∷ cs) e h =
    let x = both_none (fault_if (differs (term_sort bs t) c.sort) _) (column_faults bs ts cs) e in
    term_data bs t.kind c cs (map (term_of bs) ts) (none_if (differs (term_sort bs t) c.sort) _ x.0) h.0 (terms_data bs ts cs x.1 h.1)

-- an atom without a fault
atom_data : (db : List Relation) (bs : Binders) (p : Place) (ts : List RawTerm) (o : Option Relation) → ((r : Relation) → o ≡ Some r → AllByRecursion (λ c. is_named c.sort ≡ false) r.columns) → atom_faults bs p ts o ≡ []
    → AllByRecursion (λ entry. entry.0 ≡ Data) (term_texts (columns_in o) (map (term_of bs) ts))
atom_data db bs p ts None h e = cc
atom_data db bs p ts (Some r) h e = terms_data bs ts r.columns (both_none (fault_if (not (length ts == length r.columns)) _) (column_faults bs ts r.columns) e).1 (h r refl)

-- columns that bind as binders do
abbrev pub Binds : List Column → Binders → Type 0
Binds columns bs = (n : Identifier) → option_map (λ c. c.sort) (find (λ c. bytes_eq c.name n) columns) ≡ binder_sort bs n

-- no binder is over a named sort
abbrev BindUnnamed : Binders → Type 0
BindUnnamed bs = (n : Identifier) (s : Sort) → binder_sort bs n ≡ Some s → is_named s ≡ false

-- under one more quantifier
pub binds_more : (c : RawColumn) (columns : List Column) (bs : Binders) → Binds columns bs → Binds (record { name = c.name; sort = c.sort } ∷ columns) (c ∷ bs)
binds_more c columns bs m n = by_name (bytes_eq c.name n)
  where
    by_name : (b : Bool) → option_map (λ d. d.sort) (cond b (Some (record { name = c.name; sort = c.sort })) (find (λ d. bytes_eq d.name n) columns)) ≡ option_map (λ d. d.sort) (cond b (Some c) (find (λ d. bytes_eq d.name n) bs))
    by_name true = refl
    by_name false = m n

-- under one more binder that is not over a named sort
unnamed_more : (c : RawColumn) (bs : Binders) → IsUnnamed c.sort → BindUnnamed bs → BindUnnamed (c ∷ bs)
unnamed_more c bs u h n s e = by_name (bytes_eq c.name n) refl
  where
    some_is : (t : Sort) → Some t ≡ Some s → t ≡ s
    some_is t q = cc

    by_name : (b : Bool) → bytes_eq c.name n ≡ b → is_named s ≡ false
    by_name true q = subst IsUnnamed (some_is c.sort (sym (bound_here c bs n q) ∙ e)) u
    by_name false q = h n s (sym (bound_further c bs n q) ∙ e)

module _ (columns : List Column) (bs : Binders) (binds : Binds columns bs) (unnamed : BindUnnamed bs) where
  -- a text beside a data term has sort `data`
  beside_data : (k : RawTermKind) → is_data_term (kind_sort bs k) ≡ true → sort_beside columns (data_of k) ≡ Data
  beside_data (Int x) d = refl
  beside_data (TextTerm t) d = refl
  beside_data (Shifted n plus) d = refl
  beside_data (Var n) d = ap (λ o. unwrap_or o Data) (binds n) ∙ by_sort (binder_sort bs n) refl d
    where
      by_sort : (o : Option Sort) → binder_sort bs n ≡ o → is_data_term (alone_sort o) ≡ true → unwrap_or o Data ≡ Data
      by_sort None e t = refl
      by_sort (Some s) e t = plain_sort s (unnamed n s e) t

  -- a text beside a data term, or none
  text_data : (other this : DataTerm) → sort_beside columns other ≡ Data → AllByRecursion (λ entry. entry.0 ≡ Data) (text_beside columns other this)
  text_data other (data_var v) e = tt
  text_data other (data_const t) e = (e, tt)

  -- the texts of an `=`
  equal_data : (l r : RawTerm) (op : Op) (a d e : Bool) → is_data_term (term_sort bs l) ≡ d → is_data_term (term_sort bs r) ≡ e
      → AllByRecursion (λ entry. entry.0 ≡ Data) (test_texts columns (if a && d && e then Equal (data_of l.kind) (data_of r.kind) else Compare (time_of l.kind) op (time_of r.kind)))
  equal_data l r op true true true x y =
      (all_append (λ entry. entry.0 ≡ Data) (text_beside columns (data_of r.kind) (data_of l.kind)) (text_beside columns (data_of l.kind) (data_of r.kind))).1
      (text_data (data_of r.kind) (data_of l.kind) (beside_data r.kind y), text_data (data_of l.kind) (data_of r.kind) (beside_data l.kind x))
  equal_data l r op false d e x y = tt
  equal_data l r op true false e x y = tt
  equal_data l r op true true false x y = tt

  -- the texts of a comparison
  compare_data : (l r : RawTerm) (op : Op) → AllByRecursion (λ entry. entry.0 ≡ Data) (test_texts columns (compare_of bs l op r))
  compare_data l r op = equal_data l r op (is_equality op) (is_data_term (term_sort bs l)) (is_data_term (term_sort bs r)) refl refl

mutual
  -- each text of a formula without a fault has sort `data`
  form_data : (f : RawForm) (db : List Relation) (bs : Binders) (columns : List Column) → has_named_sort db ≡ false → Binds columns bs → BindUnnamed bs → form_faults f db bs ≡ [] → AllByRecursion (λ entry. entry.0 ≡ Data) (form_texts (plain f bs) db columns)
  form_data (raw_atom p name ts) db bs columns none m u e =
      atom_data db bs p ts (relation_named db name) (λ r found. found_is (λ r. AllByRecursion (λ c. is_named c.sort ≡ false) r.columns) (λ r. bytes_eq r.name name) db r found (columns_unnamed db none))
      (both_none (flat_map (term_faults bs) ts) (atom_faults bs p ts (relation_named db name)) e).1
  form_data (raw_compare p l op r) db bs columns none m u e = compare_data columns bs m u l r op
  form_data (raw_member p t point) db bs columns none m u e = tt
  form_data (raw_not p f) db bs columns none m u e = form_data f db bs columns none m u (not_wide bs [] f (form_faults f db bs) e).1
  form_data (raw_and p fs) db bs columns none m u e = forms_data fs db bs columns none m u e
  form_data (raw_or p fs) db bs columns none m u e = forms_data fs db bs columns none m u e
  form_data (raw_implies p f g) db bs columns none m u e =
      let x = both_none (widened bs [] f (form_faults f db bs)) (widened bs [] g (form_faults g db bs)) e in
      (all_append (λ entry. entry.0 ≡ Data) (form_texts (plain f bs) db columns) (form_texts (plain g bs) db columns)).1
      (form_data f db bs columns none m u (not_wide bs [] f (form_faults f db bs) x.0).1, form_data g db bs columns none m u (not_wide bs [] g (form_faults g db bs) x.1).1)
  form_data (raw_group p f) db bs columns none m u e = form_data f db bs columns none m u (not_wide bs [] f (form_faults f db bs) e).1
  form_data (raw_ranged word o from to f) db bs columns none m u e = form_data f db bs columns none m u (not_wide bs [] f (form_faults f db bs) e).1
  form_data (raw_paired word o f g) db bs columns none m u e = form_data g db bs columns none m u (not_wide bs [] g (form_faults g db bs) e).1
  form_data (raw_exists p c f) db bs columns none m u e =
      let s : IsUnnamed c.sort = binder_unnamed db bs c none (both_none (binder_faults db bs c) (widened (c ∷ bs) (c.name ∷ []) f (form_faults f db (c ∷ bs))) e).0 in
      form_data f db (c ∷ bs) (record { name = c.name; sort = c.sort } ∷ columns) none (binds_more c columns bs m) (unnamed_more c bs s u) (not_wide_inside db bs c f (form_faults f db (c ∷ bs)) e).1
  form_data (raw_forall p c f) db bs columns none m u e =
      let s : IsUnnamed c.sort = binder_unnamed db bs c none (both_none (binder_faults db bs c) (widened (c ∷ bs) (c.name ∷ []) f (form_faults f db (c ∷ bs))) e).0 in
      form_data f db (c ∷ bs) (record { name = c.name; sort = c.sort } ∷ columns) none (binds_more c columns bs m) (unnamed_more c bs s u) (not_wide_inside db bs c f (form_faults f db (c ∷ bs)) e).1

  -- and each of a list
  forms_data : (fs : RawForms) (db : List Relation) (bs : Binders) (columns : List Column) → has_named_sort db ≡ false → Binds columns bs → BindUnnamed bs → forms_faults fs db bs ≡ [] → AllByRecursion (λ entry. entry.0 ≡ Data) (forms_texts (plain_each fs bs) db columns)
  forms_data no_raws db bs columns none m u e = tt
  forms_data (raw f fs) db bs columns none m u e =
      let x = both_none (widened bs [] f (form_faults f db bs)) (forms_faults fs db bs) e in
      (all_append (λ entry. entry.0 ≡ Data) (form_texts (plain f bs) db columns) (forms_texts (plain_each fs bs) db columns)).1
      (form_data f db bs columns none m u (not_wide bs [] f (form_faults f db bs) x.0).1, forms_data fs db bs columns none m u x.1)

-- ---- the head

-- the sort of the first column of a name, or else another
abbrev pub pick : List RawColumn → Identifier → Option Sort → Option Sort
pick [] n o = o
pick (c ∷ cs) n o = cond (bytes_eq c.name n) (Some c.sort) (pick cs n o)

-- what is found in order
pub find_pick : (cs : List RawColumn) (n : Identifier) → option_map (λ c. c.sort) (find (λ c. bytes_eq c.name n) (map column_of cs)) ≡ pick cs n None
find_pick [] n = refl
find_pick (c ∷ cs) n = by_name (bytes_eq c.name n) (find_pick cs n)
  where
    by_name : (b : Bool) → option_map (λ d. d.sort) (find (λ d. bytes_eq d.name n) (map column_of cs)) ≡ pick cs n None → option_map (λ d. d.sort) (cond b (Some (column_of c)) (find (λ d. bytes_eq d.name n) (map column_of cs))) ≡ cond b (Some c.sort) (pick cs n None)
    by_name true h = refl
    by_name false h = h

module _ (db : List Relation) where
  -- where names differ, the order of a head's columns makes no difference
  pub turned_pick : (cs : List RawColumn) (bs : Binders) (n : Identifier) → head_faults db bs cs ≡ [] → binder_sort (reverse cs ++ bs) n ≡ pick cs n (binder_sort bs n)
  turned_pick [] bs n e = refl
  turned_pick (c ∷ cs) bs n e =
      let x = head_first db bs c cs e in
      ap (λ l. binder_sort l n) (turned_more db c cs bs) ∙ by_name (bytes_eq c.name n) refl x.1.1 (turned_pick cs (c ∷ bs) n x.1.1)
    where
      by_name : (b : Bool) → bytes_eq c.name n ≡ b → head_faults db (c ∷ bs) cs ≡ [] → binder_sort (reverse cs ++ (c ∷ bs)) n ≡ pick cs n (binder_sort (c ∷ bs) n) → binder_sort (reverse cs ++ (c ∷ bs)) n ≡ cond b (Some c.sort) (pick cs n (binder_sort bs n))
      by_name true q f h = still db cs (c ∷ bs) n f (subst (Contains (names_in (c ∷ bs))) (same_name c.name n q) (contains_first c.name (names_in bs))) ∙ bound_here c bs n q
      by_name false q f h = h ∙ ap (pick cs n) (bound_further c bs n q)

  -- no column of a head without a fault is of a named sort
  head_unnamed : (bs : Binders) (cs : List RawColumn) → has_named_sort db ≡ false → head_faults db bs cs ≡ [] → AllByRecursion (λ c. is_named c.sort ≡ false) (map column_of cs)
  head_unnamed bs [] none e = tt
  head_unnamed bs (c ∷ cs) none e = let x = head_first db bs c cs e in (sort_unnamed db c.sort c.sort_place none x.1.0, head_unnamed (c ∷ bs) cs none x.1.1)

-- nor is the one that is picked
pick_unnamed : (cs : List RawColumn) (n : Identifier) (s : Sort) → AllByRecursion (λ c. is_named c.sort ≡ false) (map column_of cs) → pick cs n None ≡ Some s → is_named s ≡ false
pick_unnamed [] n s h e = cc
pick_unnamed (c ∷ cs) n s h e = by_name (bytes_eq c.name n) e (pick_unnamed cs n s h.1)
  where
    some_is : (t : Sort) → Some t ≡ Some s → t ≡ s
    some_is t q = cc

    by_name : (b : Bool) → cond b (Some c.sort) (pick cs n None) ≡ Some s → (pick cs n None ≡ Some s → is_named s ≡ false) → is_named s ≡ false
    by_name true q rest = subst (λ t. is_named t ≡ false) (some_is c.sort q) h.0
    by_name false q rest = rest q

module _ (db : List Relation) (q : RawQuestion) (sorted : IsWellSorted db q) (texts : HasSortedTexts db) (none : has_named_sort db ≡ false) where
  -- the head as binders
  turned : (n : Identifier) → binder_sort (reverse q.head) n ≡ pick q.head n None
  turned n = ap (λ l. binder_sort l n) (sym (append-nil (reverse q.head))) ∙ turned_pick db q.head [] n (parts_sorted db q sorted).0

  -- where no sort is named, all texts are of sort `data`, and no quantifier is over a named sort
  pub plain_query : HasNoNamedSorts db (plain_question q) × BindsPlainly (plain_question q).body
  plain_query =
      let head : AllByRecursion (λ c. is_named c.sort ≡ false) (map column_of q.head) = head_unnamed db [] q.head none (parts_sorted db q sorted).0 in
      let body : form_faults q.body db (reverse q.head) ≡ [] = (not_wide (reverse q.head) [] q.body (form_faults q.body db (reverse q.head)) (parts_sorted db q sorted).1.1).1 in
      let binds : Binds (map column_of q.head) (reverse q.head) = λ n. find_pick q.head n ∙ sym (turned n) in
      let unnamed : BindUnnamed (reverse q.head) = λ n s e. pick_unnamed q.head n s head (sym (turned n) ∙ e) in (
        record {
          texts = (all_append (λ entry. entry.0 ≡ Data) (database_texts db) (form_texts (plain_question q).body db (plain_question q).head)).1
              (database_data db none texts, form_data q.body db (reverse q.head) (map column_of q.head) none binds unnamed body);
          head = head;
        },
        binds_plainly q.body db (reverse q.head) none body,
      )
