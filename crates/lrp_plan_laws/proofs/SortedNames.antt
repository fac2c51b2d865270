-- A well-sorted formula: each free variable occurs in the text, and has the kind of its binder's sort.
use Rattle.std.proofs.Common.{◌≡◌, ◌⊎◌, inl, inr, Bool, true, false, cond, not, ◌&&◌, List, [], ◌∷◌, ◌++◌, Option, Some, None, map, filter, flat_map, Contains, refl, sym, ap, subst, ◌∙◌, bytes_eq}
use Rattle.std.specs.Prelude.{option_map, find, if◌then◌else◌}
use Rattle.std.specs.List.{AllByRecursion}
use Rattle.std.specs.Cmp.Lexicographic.{bytes_decides}
use Rattle.lrp_model.specs.Texts.{Identifier, without}
use Rattle.lrp_model.specs.Variables.{Variable, time_variable, data_variable, bound_by, same_variable, variables_of_time, variables_of_data, variables_of_term, variables_of_test, free, free_each}
use Rattle.lrp_model.specs.RawQueries.{RawForm, RawForms, raw_atom, raw_compare, raw_member, raw_not, raw_and, raw_or, raw_implies, raw_group, raw_exists, raw_forall, raw_ranged, raw_paired, no_raws, raw}
use Rattle.lrp_model.specs.Sorting.{Binders, binder_sort, TermSort, alone_sort, kind_sort, term_sort, is_data_term, unlike, variable_faults, kind_faults, term_faults, time_faults, compare_faults, term_names, free_names, free_names_each, widened, form_faults, forms_faults}
use Rattle.lrp_model.specs.Checked.{term_of, compare_of, plain, plain_each}
use Rattle.lrp_model.specs.RawTerms.{time_of, data_of}
use Rattle.lrp_model.specs.declared.tokens.Place.{Place}
use Rattle.lrp_model.specs.declared.relations.Sort.{Sort}
use Rattle.lrp_model.specs.declared.relations.Sort.TheVariants.{Time, Data, Named}
use Rattle.lrp_model.specs.declared.relations.Relation.{Relation}
use Rattle.lrp_model.specs.declared.formulas.Term.{Term}
use Rattle.lrp_model.specs.declared.formulas.Term.TheVariants.{Time as time_term, Data as data_term}
use Rattle.lrp_model.specs.declared.formulas.Op.{Op}
use Rattle.lrp_model.specs.declared.formulas.Op.TheVariants.{Le, Lt, Ge, Gt, Eq}
use Rattle.lrp_model.specs.declared.formulas.Test.TheVariants.{Compare, Equal}
use Rattle.lrp_model.specs.declared.raw.RawColumn.{RawColumn}
use Rattle.lrp_model.specs.declared.raw.RawTerm.{RawTerm}
use Rattle.lrp_model.specs.declared.raw.RawTermKind.{RawTermKind}
use Rattle.lrp_model.specs.declared.raw.RawTermKind.TheVariants.{Int, Text, Var, Shifted}
use Rattle.lrp_model.proofs.Decided.{cons_cases, contains_first, contains_later, contains_none}
use Rattle.lrp_model.proofs.Logic.{all_append}
use Rattle.lrp_model.proofs.NoFaults.{both_none, none_if, not_wide, not_wide_inside, shifted_known, kind_known, alike}
use Rattle.lrp_plan_laws.specs.Made.{IsDataSort}
use Rattle.lrp_plan_laws.proofs.Names.{same_own}
use Rattle.lrp_plan_laws.proofs.Members.{all_map, in_left, in_right}

-- ---- binders

-- names that pass as the same are the same
pub same_name : (v w : Identifier) → bytes_eq v w ≡ true → v ≡ w
same_name v w e = (bytes_decides v w).0 e

-- the sort of the innermost binder
pub bound_here : (c : RawColumn) (bs : Binders) (n : Identifier) → bytes_eq c.name n ≡ true → binder_sort (c ∷ bs) n ≡ Some c.sort
bound_here c bs n e = ap (λ b. option_map (λ d. d.sort) (cond b (Some c) (find (λ d. bytes_eq d.name n) bs))) e

-- a binder of another name hides nothing
pub bound_further : (c : RawColumn) (bs : Binders) (n : Identifier) → bytes_eq c.name n ≡ false → binder_sort (c ∷ bs) n ≡ binder_sort bs n
bound_further c bs n e = ap (λ b. option_map (λ d. d.sort) (cond b (Some c) (find (λ d. bytes_eq d.name n) bs))) e

-- the variable is of the kind of its binder's sort
abbrev pub IsBound : Binders → Variable → Type 0
IsBound bs (time_variable n) = binder_sort bs n ≡ Some Time
IsBound bs (data_variable n) = (s : Sort) × IsDataSort s × (binder_sort bs n ≡ Some s)

-- the name of a variable
abbrev pub name_of : Variable → Identifier
name_of (time_variable n) = n
name_of (data_variable n) = n

-- its name is among these, and it is of the kind of its binder's sort
abbrev pub Occurs : List Identifier → Binders → Variable → Type 0
Occurs names bs v = Contains names (name_of v) × IsBound bs v

-- among more names, after these
pub all_left : (xs ys : List Identifier) (bs : Binders) (vs : List Variable) → AllByRecursion (Occurs xs bs) vs → AllByRecursion (Occurs (xs ++ ys) bs) vs
all_left xs ys bs vs h = all_map (Occurs xs bs) (Occurs (xs ++ ys) bs) vs (λ v o. (in_left xs ys (name_of v) o.0, o.1)) h

-- or before these
pub all_right : (xs ys : List Identifier) (bs : Binders) (vs : List Variable) → AllByRecursion (Occurs ys bs) vs → AllByRecursion (Occurs (xs ++ ys) bs) vs
all_right xs ys bs vs h = all_map (Occurs ys bs) (Occurs (xs ++ ys) bs) vs (λ v o. (in_right xs ys (name_of v) o.0, o.1)) h

-- variables among two lists of names
pub all_both : (xs ys : List Identifier) (bs : Binders) (vs ws : List Variable) → AllByRecursion (Occurs xs bs) vs → AllByRecursion (Occurs ys bs) ws → AllByRecursion (Occurs (xs ++ ys) bs) (vs ++ ws)
all_both xs ys bs vs ws h k = (all_append (Occurs (xs ++ ys) bs) vs ws).1 (all_left xs ys bs vs h, all_right xs ys bs ws k)

-- ---- terms

-- a term by its sort
abbrev term_as : TermSort → RawTermKind → Term
term_as s k = if is_data_term s then data_term (data_of k) else time_term (time_of k)

-- a term with its place
abbrev raw_term : RawTermKind → Place → RawTerm
raw_term k p = record { kind = k; place = p }

module _ (bs : Binders) (n : Identifier) where
  -- a name alone, as a term of an atom
  alone_bound : (o : Option Sort) (p : Place) → binder_sort bs n ≡ o → variable_faults o false p ≡ [] → AllByRecursion (Occurs (n ∷ []) bs) (variables_of_term (term_as (alone_sort o) (Var n)))
  alone_bound None p e f = cc
  alone_bound (Some Time) p e f = ((contains_first n [], e), tt)
  alone_bound (Some Data) p e f = ((contains_first n [], (Data, tt, e)), tt)
  alone_bound (Some (Named m)) p e f = ((contains_first n [], (Named m, tt, e)), tt)

  -- a name alone, that is read as a time
  alone_time : (o : Option Sort) (p : Place) → binder_sort bs n ≡ o → variable_faults o false p ≡ [] → is_data_term (alone_sort o) ≡ false → AllByRecursion (Occurs (n ∷ []) bs) (time_variable n ∷ [])
  alone_time None p e f d = cc
  alone_time (Some Time) p e f d = ((contains_first n [], e), tt)
  alone_time (Some Data) p e f d = cc
  alone_time (Some (Named m)) p e f d = cc

  -- a name alone, that is read as a text
  alone_data : (o : Option Sort) (p : Place) → binder_sort bs n ≡ o → variable_faults o false p ≡ [] → is_data_term (alone_sort o) ≡ true → AllByRecursion (Occurs (n ∷ []) bs) (data_variable n ∷ [])
  alone_data None p e f d = cc
  alone_data (Some Time) p e f d = cc
  alone_data (Some Data) p e f d = ((contains_first n [], (Data, tt, e)), tt)
  alone_data (Some (Named m)) p e f d = ((contains_first n [], (Named m, tt, e)), tt)

  -- an offset stands on a time variable alone
  shifted_time : (o : Option Sort) (p : Place) → binder_sort bs n ≡ o → variable_faults o true p ≡ [] → AllByRecursion (Occurs (n ∷ []) bs) (time_variable n ∷ [])
  shifted_time None p e f = cc
  shifted_time (Some Time) p e f = ((contains_first n [], e), tt)
  shifted_time (Some Data) p e f = cc
  shifted_time (Some (Named m)) p e f = cc

module _ (bs : Binders) (p : Place) where
  -- a term of an atom
  kind_bound : (k : RawTermKind) → kind_faults bs k p ≡ [] → AllByRecursion (Occurs (term_names (raw_term k p)) bs) (variables_of_term (term_as (kind_sort bs k) k))
  kind_bound (Int x) f = tt
  kind_bound (Text t) f = tt
  kind_bound (Var n) f = alone_bound bs n (binder_sort bs n) p refl f
  kind_bound (Shifted n plus) f =
      subst (λ s. AllByRecursion (Occurs (n ∷ []) bs) (variables_of_term (term_as s (Shifted n plus)))) (sym (shifted_known (binder_sort bs n) p f)) (shifted_time bs n (binder_sort bs n) p refl f)

  -- a term that is read as a time
  time_bound : (k : RawTermKind) → kind_faults bs k p ≡ [] → is_data_term (kind_sort bs k) ≡ false → AllByRecursion (Occurs (term_names (raw_term k p)) bs) (variables_of_time (time_of k))
  time_bound (Int x) f d = tt
  time_bound (Text t) f d = tt
  time_bound (Var n) f d = alone_time bs n (binder_sort bs n) p refl f d
  time_bound (Shifted n plus) f d = shifted_time bs n (binder_sort bs n) p refl f

  -- a term that is read as a text
  data_bound : (k : RawTermKind) → kind_faults bs k p ≡ [] → is_data_term (kind_sort bs k) ≡ true → AllByRecursion (Occurs (term_names (raw_term k p)) bs) (variables_of_data (data_of k))
  data_bound (Int x) f d = tt
  data_bound (Text t) f d = tt
  data_bound (Var n) f d = alone_data bs n (binder_sort bs n) p refl f d
  data_bound (Shifted n plus) f d = tt

-- the terms of an atom
terms_bound : (bs : Binders) (ts : List RawTerm) → flat_map (term_faults bs) ts ≡ [] → AllByRecursion (Occurs (flat_map term_names ts) bs) (flat_map variables_of_term (map (term_of bs) ts))
terms_bound bs [] f = tt
terms_bound bs (t ∷ ts) f =
    let x = both_none (term_faults bs t) (flat_map (term_faults bs) ts) f in
    all_both (term_names t) (flat_map term_names ts) bs (variables_of_term (term_of bs t)) (flat_map variables_of_term (map (term_of bs) ts)) (kind_bound bs t.place t.kind x.0) (terms_bound bs ts x.1)

-- ---- comparisons

module _ (bs : Binders) (l r : RawTerm) (lf : term_faults bs l ≡ []) (rf : term_faults bs r ≡ []) where
  -- two sides that are read as times
  times_bound : (op : Op) → is_data_term (term_sort bs l) ≡ false → is_data_term (term_sort bs r) ≡ false → AllByRecursion (Occurs (term_names l ++ term_names r) bs) (variables_of_test (Compare (time_of l.kind) op (time_of r.kind)))
  times_bound op d e = all_both (term_names l) (term_names r) bs (variables_of_time (time_of l.kind)) (variables_of_time (time_of r.kind)) (time_bound bs l.place l.kind lf d) (time_bound bs r.place r.kind rf e)

  -- two sides of `=`, of one kind
  equal_bound : (d e : Bool) → is_data_term (term_sort bs l) ≡ d → is_data_term (term_sort bs r) ≡ e → d ≡ e
      → AllByRecursion (Occurs (term_names l ++ term_names r) bs) (variables_of_test (if d && e then Equal (data_of l.kind) (data_of r.kind) else Compare (time_of l.kind) Eq (time_of r.kind)))
  equal_bound true true x y same = all_both (term_names l) (term_names r) bs (variables_of_data (data_of l.kind)) (variables_of_data (data_of r.kind)) (data_bound bs l.place l.kind lf x) (data_bound bs r.place r.kind rf y)
  equal_bound false false x y same = times_bound Eq x y
  equal_bound true false x y same = cc
  equal_bound false true x y same = cc

  -- two sides of another comparison
  ordered_bound : (op : Op) → time_faults bs l ++ time_faults bs r ≡ [] → AllByRecursion (Occurs (term_names l ++ term_names r) bs) (variables_of_test (Compare (time_of l.kind) op (time_of r.kind)))
  ordered_bound op f = let x = both_none (time_faults bs l) (time_faults bs r) f in times_bound op (none_if (is_data_term (term_sort bs l)) _ x.0) (none_if (is_data_term (term_sort bs r)) _ x.1)

  -- two sides of a comparison without a fault
  compare_bound : (op : Op) → compare_faults bs l op r ≡ [] → AllByRecursion (Occurs (term_names l ++ term_names r) bs) (variables_of_test (compare_of bs l op r))
  compare_bound Eq f =
      equal_bound (is_data_term (term_sort bs l)) (is_data_term (term_sort bs r)) refl refl
      (alike (term_sort bs l) (term_sort bs r) (kind_known bs l.place l.kind lf) (kind_known bs r.place r.kind rf) (none_if (unlike (term_sort bs l) (term_sort bs r)) _ f))
  compare_bound Le f = ordered_bound Le f
  compare_bound Lt f = ordered_bound Lt f
  compare_bound Ge f = ordered_bound Ge f
  compare_bound Gt f = ordered_bound Gt f

-- ---- under a binder

-- another name stays
pub in_without : (m : Identifier) (names : List Identifier) (n : Identifier) → Contains names n → bytes_eq m n ≡ false → Contains (without m names) n
in_without m [] n c e = absurd (contains_none n c)
in_without m (k ∷ ks) n c e = at_name (bytes_eq m k) refl (cons_cases k n ks c) (in_without m ks n)
  where
    at_name : (b : Bool) → bytes_eq m k ≡ b → ((k ≡ n) ⊎ Contains ks n) → (Contains ks n → bytes_eq m n ≡ false → Contains (without m ks) n) → Contains (cond (not b) (k ∷ without m ks) (without m ks)) n
    at_name true h (inl same) rest = let x : bytes_eq m n ≡ true = subst (λ z. bytes_eq m z ≡ true) same h in cc
    at_name true h (inr d) rest = rest d e
    at_name false h (inl same) rest = subst (λ z. Contains (k ∷ without m ks) z) same (contains_first k (without m ks))
    at_name false h (inr d) rest = contains_later k n (without m ks) (rest d e)

-- a variable of the binder's name is the binder's
own_variable : (c : RawColumn) (bs : Binders) (v : Variable) → bytes_eq c.name (name_of v) ≡ true → IsBound (c ∷ bs) v → bound_by c.sort c.name ≡ v
own_variable c bs (time_variable n) e b = by_sort c.sort (sym (bound_here c bs n e) ∙ b)
  where
    by_sort : (s : Sort) → Some s ≡ Some Time → bound_by s c.name ≡ time_variable n
    by_sort Time q = ap time_variable (same_name c.name n e)
    by_sort Data q = cc
    by_sort (Named m) q = cc
own_variable c bs (data_variable n) e b = by_sort c.sort b.0 b.1 (sym (bound_here c bs n e) ∙ b.2)
  where
    by_sort : (s t : Sort) → IsDataSort t → Some s ≡ Some t → bound_by s c.name ≡ data_variable n
    by_sort Time Time d q = absurd d
    by_sort Time Data d q = cc
    by_sort Time (Named m) d q = cc
    by_sort Data t d q = ap data_variable (same_name c.name n e)
    by_sort (Named m) t d q = ap data_variable (same_name c.name n e)

-- a variable of another name is bound outside
other_bound : (c : RawColumn) (bs : Binders) (v : Variable) → bytes_eq c.name (name_of v) ≡ false → IsBound (c ∷ bs) v → IsBound bs v
other_bound c bs (time_variable n) e b = sym (bound_further c bs n e) ∙ b
other_bound c bs (data_variable n) e b = (b.0, b.1, sym (bound_further c bs n e) ∙ b.2)

-- the other variables occur outside the binder
under : (c : RawColumn) (bs : Binders) (names : List Identifier) (vs : List Variable) → AllByRecursion (Occurs names (c ∷ bs)) vs → AllByRecursion (Occurs (without c.name names) bs) (filter (λ w. not (same_variable (bound_by c.sort c.name) w)) vs)
under c bs names [] h = tt
under c bs names (v ∷ vs) h = at_variable (same_variable (bound_by c.sort c.name) v) refl (bytes_eq c.name (name_of v)) refl (under c bs names vs h.1)
  where
    at_variable : (t : Bool) → same_variable (bound_by c.sort c.name) v ≡ t → (b : Bool) → bytes_eq c.name (name_of v) ≡ b
        → AllByRecursion (Occurs (without c.name names) bs) (filter (λ w. not (same_variable (bound_by c.sort c.name) w)) vs)
        → AllByRecursion (Occurs (without c.name names) bs) (cond (not t) (v ∷ filter (λ w. not (same_variable (bound_by c.sort c.name) w)) vs) (filter (λ w. not (same_variable (bound_by c.sort c.name) w)) vs))
    at_variable true e b d rest = rest
    at_variable false e true d rest = let x : same_variable (bound_by c.sort c.name) v ≡ true = subst (λ z. same_variable (bound_by c.sort c.name) z ≡ true) (own_variable c bs v d h.0.1) (same_own (bound_by c.sort c.name)) in cc
    at_variable false e false d rest = ((in_without c.name names (name_of v) h.0.0 d, other_bound c bs v d h.0.1), rest)

-- ---- formulas

mutual
  -- each free variable of a formula without a fault occurs in it and is of its binder's kind
  pub raw_bound : (f : RawForm) (db : List Relation) (bs : Binders) → form_faults f db bs ≡ [] → AllByRecursion (Occurs (free_names f) bs) (free (plain f bs))
  raw_bound (raw_atom p n ts) db bs e = terms_bound bs ts (both_none (flat_map (term_faults bs) ts) _ e).0
  raw_bound (raw_compare p l op r) db bs e =
      let x = both_none (term_faults bs l ++ term_faults bs r) (compare_faults bs l op r) e in
      let y = both_none (term_faults bs l) (term_faults bs r) x.0 in
      compare_bound bs l r y.0 y.1 op x.1
  raw_bound (raw_member p t point) db bs e =
      let x = both_none (term_faults bs t) (time_faults bs t) e in
      time_bound bs t.place t.kind x.0 (none_if (is_data_term (term_sort bs t)) _ x.1)
  raw_bound (raw_not p f) db bs e = raw_bound f db bs (not_wide bs [] f (form_faults f db bs) e).1
  raw_bound (raw_and p fs) db bs e = raws_bound fs db bs e
  raw_bound (raw_or p fs) db bs e = raws_bound fs db bs e
  raw_bound (raw_implies p f g) db bs e =
      let x = both_none (widened bs [] f (form_faults f db bs)) (widened bs [] g (form_faults g db bs)) e in
      all_both (free_names f) (free_names g) bs (free (plain f bs)) (free (plain g bs))
      (raw_bound f db bs (not_wide bs [] f (form_faults f db bs) x.0).1)
      (raw_bound g db bs (not_wide bs [] g (form_faults g db bs) x.1).1)
  raw_bound (raw_group p f) db bs e = raw_bound f db bs (not_wide bs [] f (form_faults f db bs) e).1
  raw_bound (raw_ranged word o from to f) db bs e = raw_bound f db bs (not_wide bs [] f (form_faults f db bs) e).1
  raw_bound (raw_paired word o f g) db bs e = raw_bound g db bs (not_wide bs [] g (form_faults g db bs) e).1
  raw_bound (raw_exists p c f) db bs e = under c bs (free_names f) (free (plain f (c ∷ bs))) (raw_bound f db (c ∷ bs) (not_wide_inside db bs c f (form_faults f db (c ∷ bs)) e).1)
  raw_bound (raw_forall p c f) db bs e = under c bs (free_names f) (free (plain f (c ∷ bs))) (raw_bound f db (c ∷ bs) (not_wide_inside db bs c f (form_faults f db (c ∷ bs)) e).1)

  -- and each of a list
  pub raws_bound : (fs : RawForms) (db : List Relation) (bs : Binders) → forms_faults fs db bs ≡ [] → AllByRecursion (Occurs (free_names_each fs) bs) (free_each (plain_each fs bs))
  raws_bound no_raws db bs e = tt
  raws_bound (raw f fs) db bs e =
      let x = both_none (widened bs [] f (form_faults f db bs)) (forms_faults fs db bs) e in
      all_both (free_names f) (free_names_each fs) bs (free (plain f bs)) (free_each (plain_each fs bs))
      (raw_bound f db bs (not_wide bs [] f (form_faults f db bs) x.0).1)
      (raws_bound fs db bs x.1)
