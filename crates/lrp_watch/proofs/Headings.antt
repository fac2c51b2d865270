-- What is asked of a query over relations is asked of it over relations with other rows.
use Rattle.std.proofs.Common.{◌≡◌, ◌∙◌, inl, inr, Bool, true, false, cond, List, [], ◌∷◌, ◌++◌, length, map, flat_map, Option, Some, None, option_map, refl, sym, ap, ap₂, subst}
use Rattle.std.specs.Prelude.{◌||◌, ◌==◌, not, reverse}
use Rattle.std.specs.List.{AllByRecursion, list_any}
use Rattle.std.specs.Str.{bytes_eq}
use Rattle.lrp_model.specs.Formulas.{Question}
use Rattle.lrp_model.specs.Kept.{IsRowOf}
use Rattle.lrp_model.specs.RawQueries.{RawForm, RawForms, RawQuestion, raw_atom, raw_compare, raw_member, raw_not, raw_and, raw_or, raw_implies, raw_group, raw_exists, raw_forall, raw_ranged, raw_paired, no_raws, raw}
use Rattle.lrp_model.specs.Rows.{relation_named, rows_of}
use Rattle.lrp_model.specs.Faults.{fault_if, is_named_in, ninth}
use Rattle.lrp_model.specs.Sorting.{Binders, atom_faults, binder_faults, column_faults, form_faults, forms_faults, has_sort, head_faults, query_fault, query_faults, sort_faults, term_faults, widened}
use Rattle.lrp_model.specs.Sorts.{same_sort}
use Rattle.lrp_model.specs.Texts.{Identifier}
use Rattle.lrp_model.specs.declared.faults.QueryKind.TheVariants.{Arity, Rebound, UnknownSort, Wide}
use Rattle.lrp_model.specs.declared.raw.RawColumn.{RawColumn}
use Rattle.lrp_model.specs.declared.raw.RawTerm.{RawTerm}
use Rattle.lrp_model.specs.declared.relations.Column.{Column}
use Rattle.lrp_model.specs.declared.relations.Relation.{Relation}
use Rattle.lrp_model.specs.declared.relations.Row.{Row}
use Rattle.lrp_model.specs.declared.relations.Sort.{Sort}
use Rattle.lrp_model.specs.declared.relations.Sort.TheVariants.{Time, Data, Named}
use Rattle.lrp_model.specs.declared.tokens.Place.{Place}
use Rattle.lrp_keep.specs.Replaced.{replaced, with_rows}
use Rattle.lrp_edits.specs.EditMeaning.{IsEditOf}
use Rattle.lrp_edits.specs.declared.edits.Edit.{Edit}
use Rattle.lrp_watch.specs.Edited.{IsEdited, IsEditedBy}
use Rattle.lrp_watch.specs.Decided.{CanBeDecided}
use Rattle.lrp_watch.proofs.Goings.{columns_still, name_still}

-- ---- one relation has other rows

module _ (rows : List Row) (name : Identifier) where
  -- the relation of a name is the one that it was, with the rows where it is the changed one
  named_again : (db : List Relation) (n : Identifier) → relation_named (replaced db name rows) n ≡ option_map (with_rows rows name) (relation_named db n)
  named_again [] n = refl
  named_again (r ∷ rs) n =
      ap (λ (m : Identifier). cond (bytes_eq m n) (Some (with_rows rows name r)) (relation_named (replaced rs name rows) n)) (name_still rows name r) ∙ by (bytes_eq r.name n) (named_again rs n)
    where
      by : (b : Bool) → relation_named (replaced rs name rows) n ≡ option_map (with_rows rows name) (relation_named rs n) → cond b (Some (with_rows rows name r)) (relation_named (replaced rs name rows) n) ≡ option_map (with_rows rows name) (cond b (Some r) (relation_named rs n))
      by true again = refl
      by false again = again

  sort_again : (db : List Relation) (s : Sort) → has_sort (replaced db name rows) s ≡ has_sort db s
  sort_again [] s = refl
  sort_again (r ∷ rs) s = ap₂ (λ (cs : List Column) (b : Bool). list_any (λ c. same_sort c.sort s) cs || b) (columns_still rows name r) (sort_again rs s)

  module _ (db : List Relation) where
    abbrev new : List Relation
    new = replaced db name rows

    sorts_same : (s : Sort) (p : Place) → sort_faults new s p ≡ sort_faults db s p
    sorts_same Time p = refl
    sorts_same Data p = refl
    sorts_same (Named n) p = ap (λ b. fault_if (not b) (query_fault UnknownSort p)) (sort_again db (Named n))

    binder_same : (bs : Binders) (c : RawColumn) → binder_faults new bs c ≡ binder_faults db bs c
    binder_same bs c = ap (λ fs. fault_if (is_named_in (map (λ b. b.name) bs) c.name) (query_fault Rebound c.place) ++ fs) (sorts_same c.sort c.sort_place)

    atom_same : (bs : Binders) (p : Place) (ts : List RawTerm) (o : Option Relation) → atom_faults bs p ts (option_map (with_rows rows name) o) ≡ atom_faults bs p ts o
    atom_same bs p ts None = refl
    atom_same bs p ts (Some r) = ap (λ (cs : List Column). fault_if (not (length ts == length cs)) (query_fault Arity p) ++ column_faults bs ts cs) (columns_still rows name r)

    mutual
      form_same : (f : RawForm) (bs : Binders) → form_faults f new bs ≡ form_faults f db bs
      form_same (raw_atom p n ts) bs = ap (λ fs. flat_map (term_faults bs) ts ++ fs) (ap (atom_faults bs p ts) (named_again db n) ∙ atom_same bs p ts (relation_named db n))
      form_same (raw_compare p l op r) bs = refl
      form_same (raw_member p t point) bs = refl
      form_same (raw_not p f) bs = ap (widened bs [] f) (form_same f bs)
      form_same (raw_and p fs) bs = forms_same fs bs
      form_same (raw_or p fs) bs = forms_same fs bs
      form_same (raw_implies p f g) bs = ap₂ (λ xs ys. widened bs [] f xs ++ widened bs [] g ys) (form_same f bs) (form_same g bs)
      form_same (raw_group p f) bs = ap (widened bs [] f) (form_same f bs)
      form_same (raw_exists p c f) bs = ap₂ (λ xs ys. xs ++ widened (c ∷ bs) (c.name ∷ []) f ys) (binder_same bs c) (form_same f (c ∷ bs))
      form_same (raw_forall p c f) bs = ap₂ (λ xs ys. xs ++ widened (c ∷ bs) (c.name ∷ []) f ys) (binder_same bs c) (form_same f (c ∷ bs))
      form_same (raw_ranged word o from to f) bs = ap (widened bs [] f) (form_same f bs)
      form_same (raw_paired word o f g) bs = ap (widened bs [] g) (form_same g bs)

      forms_same : (fs : RawForms) (bs : Binders) → forms_faults fs new bs ≡ forms_faults fs db bs
      forms_same no_raws bs = refl
      forms_same (raw f fs) bs = ap₂ (λ xs ys. widened bs [] f xs ++ ys) (form_same f bs) (forms_same fs bs)

    head_same : (cs : List RawColumn) (bs : Binders) → head_faults new bs cs ≡ head_faults db bs cs
    head_same [] bs = refl
    head_same (c ∷ cs) bs = ap₂ (λ xs ys. xs ++ ys) (binder_same bs c) (head_same cs (c ∷ bs))

    faults_same : (q : RawQuestion) → query_faults new q ≡ query_faults db q
    faults_same q = ap₂ (λ xs ys. xs ++ ninth (query_fault Wide) 0 0 q.head ++ widened (reverse q.head) [] q.body ys) (head_same q.head []) (form_same q.body (reverse q.head))

    decided_again : (q : Question) → CanBeDecided db q → CanBeDecided new q
    decided_again q can = record {
      query = record { raw = can.query.raw; sorted = faults_same can.query.raw ∙ can.query.sorted; is = can.query.is; elements = can.query.elements };
      points = can.points;
    }

    edit_again : (e : Edit) → IsEditOf db e → IsEditOf new e
    edit_again e is = record {
      relation = with_rows rows name is.relation;
      named = named_again db e.relation ∙ ap (option_map (with_rows rows name)) is.named;
      row = subst (λ cs. IsRowOf cs e.row) (sym (columns_still rows name is.relation)) is.row;
    }

    edits_again : (es : List Edit) → AllByRecursion (IsEditOf db) es → AllByRecursion (IsEditOf new) es
    edits_again [] all = tt
    edits_again (e ∷ es) all = (edit_again e all.0, edits_again es all.1)

-- ---- an edit is made

by_edit : (P : List Relation → Type 0) (db next : List Relation) → ((rows : List Row) (name : Identifier) → P (replaced db name rows)) → P db → (add : Bool) (name : Identifier) (row : Row) → IsEditedBy add name row db next → P next
by_edit P db next each own true name row is = subst P (sym is) (each (rows_of db name ++ row ∷ []) name)
by_edit P db next each own false name row (inl is) = subst P (sym is.is) (each is.rows name)
by_edit P db next each own false name row (inr is) = subst P (sym is.1) own

pub decided_still : (e : Edit) (db new : List Relation) (q : Question) → IsEdited e db new → CanBeDecided db q → CanBeDecided new q
decided_still e db new q is can = by_edit (λ held. CanBeDecided held q) db new (λ rows name. decided_again rows name db q can) can e.add e.relation e.row is

pub edits_still : (e : Edit) (db new : List Relation) (es : List Edit) → IsEdited e db new → AllByRecursion (IsEditOf db) es → AllByRecursion (IsEditOf new) es
edits_still e db new es is all = by_edit (λ held. AllByRecursion (IsEditOf held) es) db new (λ rows name. edits_again rows name db es all) all e.add e.relation e.row is
