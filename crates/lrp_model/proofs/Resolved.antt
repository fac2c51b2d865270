-- What a formula says once the sorts of its names are resolved is the formula without its places.
use Rattle.std.proofs.Common.{◌≡◌, Bool, true, false, List, [], ◌∷◌, Option, Some, None, map, refl, ap, ap₂, sym, ◌∙◌, if◌then◌else◌}
use Rattle.std.specs.Prelude.{◌&&◌, pos}
use Rattle.lrp_model.specs.Formulas.{said, said_each, atom, test, negation, conjunction, disjunction, implication, exists, forall, form}
use Rattle.lrp_model.specs.RawTerms.{time_of, data_of, term_by, is_equality, is_data_kind, said_term, said_test, resolved_by}
use Rattle.lrp_model.specs.Checked.{term_of, compare_of, plain, plain_each, resolved_term, resolved, resolved_each}
use Rattle.lrp_model.specs.Sorting.{Binders, binder_sort, kind_sort, term_sort, is_data_term, shifted_sort}
use Rattle.lrp_model.specs.RawQueries.{RawForm, RawForms, raw_atom, raw_compare, raw_member, raw_not, raw_and, raw_or, raw_implies, raw_group, raw_exists, raw_forall, raw_ranged, raw_paired, no_raws, raw}
use Rattle.lrp_model.specs.declared.raw.RawTerm.{RawTerm}
use Rattle.lrp_model.specs.declared.raw.RawTermKind.{RawTermKind}
use Rattle.lrp_model.specs.declared.raw.RawTermKind.TheVariants.{Int, Text, Var, Shifted}
use Rattle.lrp_model.specs.declared.relations.Sort.{Sort}
use Rattle.lrp_model.specs.declared.formulas.Op.{Op}
use Rattle.lrp_model.specs.declared.formulas.Test.{Test}
use Rattle.lrp_model.specs.declared.formulas.Test.TheVariants.{Compare, Member, Equal}

-- ---- terms

-- an offset makes a term a time
shifted_time : (o : Option Sort) → is_data_term (shifted_sort o) ≡ false
shifted_time None = refl
shifted_time (Some s) = refl

-- a term shows its sort once this is resolved
kind_shows : (bs : Binders) (k : RawTermKind) → is_data_kind (resolved_by (is_data_term (kind_sort bs k)) k) ≡ is_data_term (kind_sort bs k)
kind_shows bs (Int x) = refl
kind_shows bs (Text t) = refl
kind_shows bs (Var n) = by_flag (is_data_term (kind_sort bs (Var n)))
  where
    by_flag : (b : Bool) → is_data_kind (if b then Var n else Shifted n (pos 0)) ≡ b
    by_flag true = refl
    by_flag false = refl
kind_shows bs (Shifted n plus) = sym (shifted_time (binder_sort bs n))

-- and its time is the same, as is its text where it is of a data sort
time_same : (b : Bool) (k : RawTermKind) → time_of (resolved_by b k) ≡ time_of k
time_same b (Int x) = refl
time_same b (Text t) = refl
time_same true (Var n) = refl
time_same false (Var n) = refl
time_same b (Shifted n plus) = refl

data_same : (b : Bool) (k : RawTermKind) → b ≡ true → data_of (resolved_by b k) ≡ data_of k
data_same b (Int x) e = refl
data_same b (Text t) e = refl
data_same true (Var n) e = refl
data_same false (Var n) e = cc
data_same b (Shifted n plus) e = refl

-- so the term is that of its sort
by_sort : (b : Bool) (k : RawTermKind) → term_by b (resolved_by b k) ≡ term_by b k
by_sort true k = ap (λ d. term_by true d) (whole k)
  where
    whole : (j : RawTermKind) → resolved_by true j ≡ j
    whole (Int x) = refl
    whole (Text t) = refl
    whole (Var n) = refl
    whole (Shifted n plus) = refl
by_sort false (Int x) = refl
by_sort false (Text t) = refl
by_sort false (Var n) = refl
by_sort false (Shifted n plus) = refl

said_resolved : (bs : Binders) (t : RawTerm) → said_term (resolved_term bs t) ≡ term_of bs t
said_resolved bs t = ap (λ b. term_by b (resolved_by (is_data_term (term_sort bs t)) t.kind)) (kind_shows bs t.kind) ∙ by_sort (is_data_term (term_sort bs t)) t.kind

terms_resolved : (bs : Binders) (ts : List RawTerm) → map said_term (map (resolved_term bs) ts) ≡ map (term_of bs) ts
terms_resolved bs [] = refl
terms_resolved bs (t ∷ ts) = ap₂ (λ x xs. x ∷ xs) (said_resolved bs t) (terms_resolved bs ts)

-- ---- tests

-- one of two tests, where the first is taken only if both sides are of data sorts
chosen : (a x y : Bool) (e f c d : Test) → (x ≡ true → y ≡ true → e ≡ f) → c ≡ d → (if a && x && y then e else c) ≡ (if a && x && y then f else d)
chosen true true true e f c d h k = h refl refl
chosen true true false e f c d h k = k
chosen true false y e f c d h k = k
chosen false x y e f c d h k = k

test_resolved : (bs : Binders) (l : RawTerm) (op : Op) (r : RawTerm) → said_test (resolved_term bs l) op (resolved_term bs r) ≡ compare_of bs l op r
test_resolved bs l op r =
    let x : Bool = is_data_term (term_sort bs l) in
    let y : Bool = is_data_term (term_sort bs r) in
    let i : RawTermKind = resolved_by x l.kind in
    let j : RawTermKind = resolved_by y r.kind in
    ap₂ (λ a b. if is_equality op && a && b then Equal (data_of i) (data_of j) else Compare (time_of i) op (time_of j)) (kind_shows bs l.kind) (kind_shows bs r.kind)
    ∙ chosen (is_equality op) x y (Equal (data_of i) (data_of j)) (Equal (data_of l.kind) (data_of r.kind)) (Compare (time_of i) op (time_of j)) (Compare (time_of l.kind) op (time_of r.kind))
    (λ e f. ap₂ Equal (data_same x l.kind e) (data_same y r.kind f)) (ap₂ (λ a b. Compare a op b) (time_same x l.kind) (time_same y r.kind))

-- ---- formulas

mutual
  pub plain_said : (f : RawForm) (bs : Binders) → said (resolved f bs) ≡ plain f bs
  plain_said (raw_atom p n ts) bs = ap (atom n) (terms_resolved bs ts)
  plain_said (raw_compare p l op r) bs = ap test (test_resolved bs l op r)
  plain_said (raw_member p t point) bs = ap (λ x. test (Member x point)) (time_same (is_data_term (term_sort bs t)) t.kind)
  plain_said (raw_not p f) bs = ap negation (plain_said f bs)
  plain_said (raw_and p fs) bs = ap conjunction (each_said fs bs)
  plain_said (raw_or p fs) bs = ap disjunction (each_said fs bs)
  plain_said (raw_implies p f g) bs = ap₂ implication (plain_said f bs) (plain_said g bs)
  plain_said (raw_group p f) bs = plain_said f bs
  plain_said (raw_exists p c f) bs = ap (exists c.name c.sort) (plain_said f (c ∷ bs))
  plain_said (raw_forall p c f) bs = ap (forall c.name c.sort) (plain_said f (c ∷ bs))
  plain_said (raw_ranged word o from to f) bs = plain_said f bs
  plain_said (raw_paired word o f g) bs = plain_said g bs

  each_said : (fs : RawForms) (bs : Binders) → said_each (resolved_each fs bs) ≡ plain_each fs bs
  each_said no_raws bs = refl
  each_said (raw f fs) bs = ap₂ form (plain_said f bs) (each_said fs bs)
