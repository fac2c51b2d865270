-- A well-sorted formula reads times of variables for times alone.
use Rattle.std.proofs.Common.{◌≡◌, Bool, true, false, ◌&&◌, List, [], ◌∷◌, ◌++◌, Option, Some, None, flat_map, refl}
use Rattle.std.specs.Prelude.{reverse}
use Rattle.lrp_model.specs.Sorts.{is_data}
use Rattle.lrp_model.specs.Faults.{ninth}
use Rattle.lrp_model.specs.RawQueries.{RawForm, RawForms, RawQuestion, raw_atom, raw_compare, raw_member, raw_not, raw_and, raw_or, raw_implies, raw_group, raw_exists, raw_forall, raw_ranged, raw_paired, no_raws, raw}
use Rattle.lrp_model.specs.Sorting.{Binders, alone_sort, term_sort, is_data_term, unlike, variable_faults, term_faults, time_faults, compare_faults, head_faults, widened, form_faults, forms_faults, query_fault, IsWellSorted}
use Rattle.lrp_model.specs.RawTerms.{is_equality}
use Rattle.lrp_model.specs.declared.tokens.Place.{Place}
use Rattle.lrp_model.specs.declared.relations.Sort.{Sort}
use Rattle.lrp_model.specs.declared.relations.Relation.{Relation}
use Rattle.lrp_model.specs.declared.formulas.Op.{Op}
use Rattle.lrp_model.specs.declared.formulas.Op.TheVariants.{Le, Lt, Ge, Gt, Eq}
use Rattle.lrp_model.specs.declared.raw.RawTerm.{RawTerm}
use Rattle.lrp_model.specs.declared.faults.QueryKind.TheVariants.{Wide}
use Rattle.lrp_model.proofs.NoFaults.{both_none, none_if, not_wide, not_wide_inside, kind_known, alike}

-- the terms of a formula have no fault, nor have its comparisons and points
abbrev mutual
  pub IsTimely : RawForm → Binders → Type 0
  IsTimely (raw_atom p n ts) bs = flat_map (term_faults bs) ts ≡ []
  IsTimely (raw_compare p l op r) bs = (term_faults bs l ≡ []) × ((term_faults bs r ≡ []) × (compare_faults bs l op r ≡ []))
  IsTimely (raw_member p t point) bs = (term_faults bs t ≡ []) × (time_faults bs t ≡ [])
  IsTimely (raw_not p f) bs = IsTimely f bs
  IsTimely (raw_and p fs) bs = AreTimely fs bs
  IsTimely (raw_or p fs) bs = AreTimely fs bs
  IsTimely (raw_implies p f g) bs = IsTimely f bs × IsTimely g bs
  IsTimely (raw_group p f) bs = IsTimely f bs
  IsTimely (raw_exists p c f) bs = IsTimely f (c ∷ bs)
  IsTimely (raw_forall p c f) bs = IsTimely f (c ∷ bs)
  IsTimely (raw_ranged word o from to f) bs = IsTimely f bs
  IsTimely (raw_paired word o f g) bs = IsTimely g bs

  pub AreTimely : RawForms → Binders → Type 0
  AreTimely no_raws bs = Unit {0}
  AreTimely (raw f fs) bs = IsTimely f bs × AreTimely fs bs

mutual
  pub timely : (f : RawForm) (db : List Relation) (bs : Binders) → form_faults f db bs ≡ [] → IsTimely f bs
  timely (raw_atom p n ts) db bs e = (both_none (flat_map (term_faults bs) ts) _ e).0
  timely (raw_compare p l op r) db bs e =
      let x = both_none (term_faults bs l ++ term_faults bs r) (compare_faults bs l op r) e in
      let y = both_none (term_faults bs l) (term_faults bs r) x.0 in
      (y.0, (y.1, x.1))
  timely (raw_member p t point) db bs e = both_none (term_faults bs t) (time_faults bs t) e
  timely (raw_not p f) db bs e = timely f db bs (not_wide bs [] f (form_faults f db bs) e).1
  timely (raw_and p fs) db bs e = timely_each fs db bs e
  timely (raw_or p fs) db bs e = timely_each fs db bs e
  timely (raw_implies p f g) db bs e =
      let x = both_none (widened bs [] f (form_faults f db bs)) (widened bs [] g (form_faults g db bs)) e in
      (timely f db bs (not_wide bs [] f (form_faults f db bs) x.0).1, timely g db bs (not_wide bs [] g (form_faults g db bs) x.1).1)
  timely (raw_group p f) db bs e = timely f db bs (not_wide bs [] f (form_faults f db bs) e).1
  timely (raw_exists p c f) db bs e =
      timely f db (c ∷ bs) (not_wide_inside db bs c f (form_faults f db (c ∷ bs)) e).1
  timely (raw_forall p c f) db bs e =
      timely f db (c ∷ bs) (not_wide_inside db bs c f (form_faults f db (c ∷ bs)) e).1
  timely (raw_ranged word o from to f) db bs e = timely f db bs (not_wide bs [] f (form_faults f db bs) e).1
  timely (raw_paired word o f g) db bs e = timely g db bs (not_wide bs [] g (form_faults g db bs) e).1

  pub timely_each : (fs : RawForms) (db : List Relation) (bs : Binders) → forms_faults fs db bs ≡ [] → AreTimely fs bs
  timely_each no_raws db bs e = tt
  timely_each (raw f fs) db bs e =
      let x = both_none (widened bs [] f (form_faults f db bs)) (forms_faults fs db bs) e in
      (timely f db bs (not_wide bs [] f (form_faults f db bs) x.0).1, timely_each fs db bs x.1)

-- the body of a well-sorted query
pub timely_body : (db : List Relation) (q : RawQuestion) → IsWellSorted db q → IsTimely q.body (reverse q.head)
timely_body db q e =
    timely q.body db (reverse q.head)
    (not_wide (reverse q.head) [] q.body (form_faults q.body db (reverse q.head))
    (both_none (head_faults db [] q.head ++ ninth (query_fault Wide) 0 0 q.head) (widened (reverse q.head) [] q.body (form_faults q.body db (reverse q.head))) e).1).1

-- ---- what a term without a fault reads

-- a variable with an offset is one for times
pub shifted_times : (o : Option Sort) (p : Place) → variable_faults o true p ≡ [] → is_data_term (alone_sort o) ≡ false
shifted_times None p e = refl
shifted_times (Some s) p e = none_if (is_data s) _ e

both_false : (a b : Bool) → a ≡ b → (a && b) ≡ false → (a ≡ false) × (b ≡ false)
both_false true true e h = cc
both_false true false e h = cc
both_false false true e h = cc
both_false false false e h = (refl, refl)

both_true : (a b : Bool) → (a && b) ≡ true → (a ≡ true) × (b ≡ true)
both_true true true h = (refl, refl)
both_true true false h = cc
both_true false true h = cc
both_true false false h = cc

-- the sides of a comparison of another kind than `=` are times
pub are_times : (bs : Binders) (l r : RawTerm) → time_faults bs l ++ time_faults bs r ≡ [] → (is_data_term (term_sort bs l) ≡ false) × (is_data_term (term_sort bs r) ≡ false)
are_times bs l r e =
    let x = both_none (time_faults bs l) (time_faults bs r) e in
    (none_if (is_data_term (term_sort bs l)) _ x.0, none_if (is_data_term (term_sort bs r)) _ x.1)

-- the sides of a comparison without a fault are read as times where they are not both texts
pub read_times : (op : Op) (bs : Binders) (p : Place) (l r : RawTerm) → IsTimely (raw_compare p l op r) bs → (is_equality op && is_data_term (term_sort bs l) && is_data_term (term_sort bs r)) ≡ false
    → (is_data_term (term_sort bs l) ≡ false) × (is_data_term (term_sort bs r) ≡ false)
read_times Eq bs p l r t e =
    both_false (is_data_term (term_sort bs l)) (is_data_term (term_sort bs r))
    (alike (term_sort bs l) (term_sort bs r) (kind_known bs l.place l.kind t.0) (kind_known bs r.place r.kind t.1.0) (none_if (unlike (term_sort bs l) (term_sort bs r)) _ t.1.1)) e
read_times Le bs p l r t e = are_times bs l r t.1.1
read_times Lt bs p l r t e = are_times bs l r t.1.1
read_times Ge bs p l r t e = are_times bs l r t.1.1
read_times Gt bs p l r t e = are_times bs l r t.1.1

-- and else as texts
pub read_texts : (op : Op) (bs : Binders) (l r : RawTerm) → (is_equality op && is_data_term (term_sort bs l) && is_data_term (term_sort bs r)) ≡ true
    → (is_data_term (term_sort bs l) ≡ true) × (is_data_term (term_sort bs r) ≡ true)
read_texts Eq bs l r e = both_true (is_data_term (term_sort bs l)) (is_data_term (term_sort bs r)) e
read_texts Le bs l r e = cc
read_texts Lt bs l r e = cc
read_texts Ge bs l r e = cc
read_texts Gt bs l r e = cc
