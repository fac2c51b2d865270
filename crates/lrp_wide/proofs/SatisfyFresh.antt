-- A well-sorted query binds no name that is bound around the binder, and texts with their operators written out have the texts that they are written with.
use Rattle.std.proofs.Common.{◌≡◌, ℕ, Bool, true, false, ◌||◌, List, [], ◌∷◌, ◌++◌, None, map, refl, sym, ◌∙◌, bytes_eq}
use Rattle.std.specs.Prelude.{reverse}
use Rattle.std.specs.Cmp.Lexicographic.{bytes_decides}
use Rattle.lrp_model.specs.Texts.{Identifier}
use Rattle.lrp_model.specs.Satisfaction.{Structure}
use Rattle.lrp_model.specs.Faults.{is_named_in, fault_if, ninth}
use Rattle.lrp_model.specs.Sorting.{Binders, binder_sort, binder_faults, sort_faults, form_faults, forms_faults, head_faults, widened, query_fault, IsWellSorted}
use Rattle.lrp_model.specs.RawQueries.{RawForm, RawForms, RawQuestion, raw_atom, raw_compare, raw_member, raw_not, raw_and, raw_or, raw_implies, raw_group, raw_exists, raw_forall, raw_ranged, raw_paired, no_raws, raw}
use Rattle.lrp_model.specs.declared.tokens.Place.{Place}
use Rattle.lrp_model.specs.declared.relations.Sort.{Sort}
use Rattle.lrp_model.specs.declared.relations.Column.{Column}
use Rattle.lrp_model.specs.declared.relations.Relation.{Relation}
use Rattle.lrp_model.specs.declared.raw.RawColumn.{RawColumn}
use Rattle.lrp_model.specs.declared.raw.RawTerm.{RawTerm}
use Rattle.lrp_model.specs.declared.raw.RawTermKind.{RawTermKind}
use Rattle.lrp_model.specs.declared.raw.RawTermKind.TheVariants.{Int, Text, Var, Shifted}
use Rattle.lrp_model.specs.declared.raw.Ranged.TheVariants.{Once, Always}
use Rattle.lrp_model.specs.declared.raw.Paired.TheVariants.{Since, Until}
use Rattle.lrp_model.specs.declared.faults.QueryKind.TheVariants.{Rebound, Wide}
use Rattle.lrp_model.proofs.NoFaults.{both_none, none_if, not_wide, not_wide_inside}
use Rattle.lrp_tense.specs.Expanding.{Naming, renamed, renamed_kind, renamed_to, moment_of, between_of, expanded, expanded_each}
use Rattle.lrp_tense.proofs.Scoping.{bound_further, other_name}
use Rattle.lrp_wide.specs.Meaning.{Signature}
use Rattle.lrp_wide.proofs.SatisfyNotions.{BindsFresh, BindFresh, TextIn, TextsIn, HasTexts, HaveTexts}

-- ---- binders

neither : (a b : Bool) → (a || b) ≡ false → (a ≡ false) × (b ≡ false)
neither true b e = cc
neither false b e = (refl, e)

not_bound : (bs : Binders) (n : Identifier) → is_named_in (map (λ b. b.name) bs) n ≡ false → binder_sort bs n ≡ None
not_bound [] n e = refl
not_bound (c ∷ bs) n e =
    let x = neither (bytes_eq n c.name) (is_named_in (map (λ b. b.name) bs) n) e in
    bound_further c bs n (other_name c.name n (λ s. let t : bytes_eq n c.name ≡ true = (bytes_decides n c.name).1 (sym s) in let u : bytes_eq n c.name ≡ false = x.0 in cc)) ∙ not_bound bs n x.1

pub binder_new : (db : List Relation) (bs : Binders) (c : RawColumn) → binder_faults db bs c ≡ [] → binder_sort bs c.name ≡ None
binder_new db bs c e =
    not_bound bs c.name (none_if (is_named_in (map (λ b. b.name) bs) c.name) (query_fault Rebound c.place) (both_none (fault_if (is_named_in (map (λ b. b.name) bs) c.name) (query_fault Rebound c.place)) (sort_faults db c.sort c.sort_place) e).0)

mutual
  pub fresh : (f : RawForm) (db : List Relation) (bs : Binders) → form_faults f db bs ≡ [] → BindsFresh f bs
  fresh (raw_atom p n ts) db bs e = tt
  fresh (raw_compare p l op r) db bs e = tt
  fresh (raw_member p t point) db bs e = tt
  fresh (raw_not p f) db bs e = fresh f db bs (not_wide bs [] f (form_faults f db bs) e).1
  fresh (raw_and p fs) db bs e = fresh_each fs db bs e
  fresh (raw_or p fs) db bs e = fresh_each fs db bs e
  fresh (raw_implies p f g) db bs e =
      let x = both_none (widened bs [] f (form_faults f db bs)) (widened bs [] g (form_faults g db bs)) e in
      (fresh f db bs (not_wide bs [] f (form_faults f db bs) x.0).1, fresh g db bs (not_wide bs [] g (form_faults g db bs) x.1).1)
  fresh (raw_group p f) db bs e = fresh f db bs (not_wide bs [] f (form_faults f db bs) e).1
  fresh (raw_exists p c f) db bs e =
      (binder_new db bs c (both_none (binder_faults db bs c) (widened (c ∷ bs) (c.name ∷ []) f (form_faults f db (c ∷ bs))) e).0, fresh f db (c ∷ bs) (not_wide_inside db bs c f (form_faults f db (c ∷ bs)) e).1)
  fresh (raw_forall p c f) db bs e =
      (binder_new db bs c (both_none (binder_faults db bs c) (widened (c ∷ bs) (c.name ∷ []) f (form_faults f db (c ∷ bs))) e).0, fresh f db (c ∷ bs) (not_wide_inside db bs c f (form_faults f db (c ∷ bs)) e).1)
  fresh (raw_ranged word o from to f) db bs e = tt
  fresh (raw_paired word o f g) db bs e = tt

  pub fresh_each : (fs : RawForms) (db : List Relation) (bs : Binders) → forms_faults fs db bs ≡ [] → BindFresh fs bs
  fresh_each no_raws db bs e = tt
  fresh_each (raw f fs) db bs e =
      let x = both_none (widened bs [] f (form_faults f db bs)) (forms_faults fs db bs) e in
      (fresh f db bs (not_wide bs [] f (form_faults f db bs) x.0).1, fresh_each fs db bs x.1)

-- the body of a well-sorted query
pub body_sorted : (db : List Relation) (q : RawQuestion) → IsWellSorted db q → form_faults q.body db (reverse q.head) ≡ []
body_sorted db q e =
    (not_wide (reverse q.head) [] q.body (form_faults q.body db (reverse q.head))
    (both_none (head_faults db [] q.head ++ ninth (query_fault Wide) 0 0 q.head) (widened (reverse q.head) [] q.body (form_faults q.body db (reverse q.head))) e).1).1

pub fresh_body : (db : List Relation) (q : RawQuestion) → IsWellSorted db q → BindsFresh q.body (reverse q.head)
fresh_body db q e = fresh q.body db (reverse q.head) (body_sorted db q e)

-- ---- texts

text_stays : (M : Structure) (names : Naming) (s : Sort) (k : RawTermKind) → TextIn M s k → TextIn M s (renamed_kind names k)
text_stays M names s (Int x) h = tt
text_stays M names s (Text t) h = h
text_stays M names s (Var n) h = tt
text_stays M names s (Shifted n plus) h = tt

texts_stay : (M : Structure) (names : Naming) (columns : List Column) (ts : List RawTerm) → TextsIn M columns ts → TextsIn M columns (map (renamed names) ts)
texts_stay M names [] ts h = tt
texts_stay M names (c ∷ columns) [] h = tt
texts_stay M names (c ∷ columns) (t ∷ ts) h = (text_stays M names c.sort t.kind h.0, texts_stay M names columns ts h.1)

module _ (R : Identifier → Type 0) (columns : Signature) (M : Structure) (number : Place → ℕ) where
  mutual
    pub texts_expanded : (f : RawForm) (names : Naming) → HasTexts f R columns M → HasTexts (expanded f number names) R columns M
    texts_expanded (raw_atom p n ts) names h = (h.0, texts_stay M names (columns n) ts h.1)
    texts_expanded (raw_compare p l op r) names h = tt
    texts_expanded (raw_member p t point) names h = tt
    texts_expanded (raw_not p f) names h = texts_expanded f names h
    texts_expanded (raw_and p fs) names h = all_expanded fs names h
    texts_expanded (raw_or p fs) names h = all_expanded fs names h
    texts_expanded (raw_implies p f g) names h = (texts_expanded f names h.0, texts_expanded g names h.1)
    texts_expanded (raw_group p f) names h = texts_expanded f names h
    texts_expanded (raw_exists p c f) names h = texts_expanded f (renamed_to c.name c.name ∷ names) h
    texts_expanded (raw_forall p c f) names h = texts_expanded f (renamed_to c.name c.name ∷ names) h
    texts_expanded (raw_ranged Once o from to f) names h = (tt, (tt, (texts_expanded f (renamed_to o.name (moment_of number o) ∷ names) h, tt)))
    texts_expanded (raw_ranged Always o from to f) names h = ((tt, (tt, tt)), texts_expanded f (renamed_to o.name (moment_of number o) ∷ names) h)
    texts_expanded (raw_paired Since o f g) names h =
        (tt, (texts_expanded g (renamed_to o.name (moment_of number o) ∷ names) h.1, (((tt, (tt, tt)), texts_expanded f (renamed_to o.name (between_of number o) ∷ names) h.0), tt)))
    texts_expanded (raw_paired Until o f g) names h =
        (tt, (texts_expanded g (renamed_to o.name (moment_of number o) ∷ names) h.1, (((tt, (tt, tt)), texts_expanded f (renamed_to o.name (between_of number o) ∷ names) h.0), tt)))

    all_expanded : (fs : RawForms) (names : Naming) → HaveTexts fs R columns M → HaveTexts (expanded_each fs number names) R columns M
    all_expanded no_raws names h = tt
    all_expanded (raw f fs) names h = (texts_expanded f names h.0, all_expanded fs names h.1)
