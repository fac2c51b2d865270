-- A well-sorted query: each part of it has narrow variables, the body's are the head's, and the head's names differ.
use Rattle.std.proofs.Common.{◌≡◌, ◌≢◌, ◌⊎◌, ⊎_elim, inl, inr, ◌≤◌, ◌+◌, ℕ, Bool, true, false, cond, ◌||◌, List, [], ◌∷◌, ◌++◌, length, append_assoc, append-nil, Some, map, Contains, refl, sym, ap, subst, ◌∙◌, bytes_eq, arith}
use Rattle.std.specs.Prelude.{◌==◌, if◌then◌else◌, reverse}
use Rattle.std.specs.List.{AllByRecursion}
use Rattle.std.specs.Cmp.Lexicographic.{bytes_decides}
use Rattle.std.proofs.lemmas.Bool.{eqb-false}
use mathlib.Core.List.{reverse-cons}
use Rattle.lrp_model.specs.Texts.{Identifier}
use Rattle.lrp_model.specs.Sorts.{is_time}
use Rattle.lrp_model.specs.Faults.{fault_if, is_named_in, ninth}
use Rattle.lrp_model.specs.Variables.{Variable, time_variable, data_variable, bound_by, free, head_variables}
use Rattle.lrp_model.specs.Satisfaction.{HaveDistinctNames}
use Rattle.lrp_model.specs.RawQueries.{RawForm, RawForms, RawQuestion, raw_atom, raw_compare, raw_member, raw_not, raw_and, raw_or, raw_implies, raw_group, raw_exists, raw_forall, raw_ranged, raw_paired, no_raws, raw}
use Rattle.lrp_model.specs.Sorting.{Binders, binder_sort, binder_faults, sort_faults, head_faults, free_names, widened, form_faults, forms_faults, query_fault, IsWellSorted}
use Rattle.lrp_model.specs.DatabaseMeaning.{column_of}
use Rattle.lrp_model.specs.Checked.{plain, plain_each, plain_question}
use Rattle.lrp_model.specs.declared.relations.Sort.{Sort}
use Rattle.lrp_model.specs.declared.relations.Sort.TheVariants.{Time, Data, Named}
use Rattle.lrp_model.specs.declared.relations.Relation.{Relation}
use Rattle.lrp_model.specs.declared.raw.RawColumn.{RawColumn}
use Rattle.lrp_model.specs.declared.faults.QueryKind.TheVariants.{Wide, Rebound}
use Rattle.lrp_model.proofs.Decided.{cons_cases, contains_first, contains_later, contains_none}
use Rattle.lrp_model.proofs.Logic.{all_append}
use Rattle.lrp_plan_laws.specs.Made.{IsDataSort, AreAmong}
use Rattle.lrp_plan_laws.specs.Scopes.{IsNarrow, EachScope, EachOfScope}
use Rattle.lrp_plan_laws.proofs.CoreLaws.{own_name}
use Rattle.lrp_plan_laws.proofs.HeadLaws.{other_name}
use Rattle.lrp_plan_laws.proofs.Members.{all_of, all_map}
use Rattle.lrp_model.proofs.NoFaults.{both_none, none_if, not_wide, not_wide_inside}
use Rattle.lrp_plan_laws.proofs.SortedNames.{Occurs, IsBound, name_of, bound_here, bound_further, same_name, raw_bound}
use Rattle.lrp_plan_laws.proofs.SortedCounts.{narrow_by, no_more, one_kind}

-- ---- parts of a formula

-- a binder's variable is bound by it
own_bound : (c : RawColumn) (bs : Binders) → IsBound (c ∷ bs) (bound_by c.sort c.name)
own_bound c bs = by_sort c.sort refl
  where
    by_sort : (s : Sort) → c.sort ≡ s → IsBound (c ∷ bs) (bound_by s c.name)
    by_sort Time e = bound_here c bs c.name (own_name c.name) ∙ ap Some e
    by_sort Data e = (Data, tt, bound_here c bs c.name (own_name c.name) ∙ ap Some e)
    by_sort (Named m) e = (Named m, tt, bound_here c bs c.name (own_name c.name) ∙ ap Some e)

-- and occurs among names that begin with its own
own_occurs : (c : RawColumn) (bs : Binders) (names : List Identifier) → Occurs (c.name ∷ names) (c ∷ bs) (bound_by c.sort c.name)
own_occurs c bs names = (by_sort c.sort, own_bound c bs)
  where
    by_sort : (s : Sort) → Contains (c.name ∷ names) (name_of (bound_by s c.name))
    by_sort Time = contains_first c.name names
    by_sort Data = contains_first c.name names
    by_sort (Named m) = contains_first c.name names

-- a formula under a binder, with the binder's variable
narrow_inside : (db : List Relation) (bs : Binders) (c : RawColumn) (f : RawForm) → binder_faults db bs c ++ widened (c ∷ bs) (c.name ∷ []) f (form_faults f db (c ∷ bs)) ≡ [] → IsNarrow (bound_by c.sort c.name ∷ free (plain f (c ∷ bs)))
narrow_inside db bs c f e =
    let x = not_wide_inside db bs c f (form_faults f db (c ∷ bs)) e in
    narrow_by (c ∷ bs) (c.name ∷ free_names f) (bound_by c.sort c.name ∷ free (plain f (c ∷ bs)))
    (own_occurs c bs (free_names f), all_map (Occurs (free_names f) (c ∷ bs)) (Occurs (c.name ∷ free_names f) (c ∷ bs)) (free (plain f (c ∷ bs))) (λ v o. (contains_later c.name (name_of v) (free_names f) o.0, o.1)) (raw_bound f db (c ∷ bs) x.1))
    x.0

-- a formula that is not too wide has narrow variables
narrow_child : (db : List Relation) (bs : Binders) (f : RawForm) → widened bs [] f (form_faults f db bs) ≡ [] → IsNarrow (free (plain f bs))
narrow_child db bs f e = let x = not_wide bs [] f (form_faults f db bs) e in narrow_by bs (free_names f) (free (plain f bs)) (raw_bound f db bs x.1) x.0

-- fewer variables are narrow too
narrow_tail : (v : Variable) (vs : List Variable) → IsNarrow (v ∷ vs) → IsNarrow vs
narrow_tail v vs n = record {
  times = λ names d h. n.times names d (all_map (λ m. Contains vs (time_variable m)) (λ m. Contains (v ∷ vs) (time_variable m)) names (λ m c. contains_later v (time_variable m) vs c) h);
  texts = λ names d h. n.texts names d (all_map (λ m. Contains vs (data_variable m)) (λ m. Contains (v ∷ vs) (data_variable m)) names (λ m c. contains_later v (data_variable m) vs c) h);
  kinds = λ m c e. n.kinds m (contains_later v (time_variable m) vs c) (contains_later v (data_variable m) vs e);
}

mutual
  -- each part of a formula without a fault has narrow variables
  pub narrow_scopes : (f : RawForm) (db : List Relation) (bs : Binders) → form_faults f db bs ≡ [] → IsNarrow (free (plain f bs)) → EachScope IsNarrow (plain f bs)
  narrow_scopes (raw_atom p name ts) db bs e n = n
  narrow_scopes (raw_compare p l op r) db bs e n = n
  narrow_scopes (raw_member p t point) db bs e n = n
  narrow_scopes (raw_not p f) db bs e n = narrow_scopes f db bs (not_wide bs [] f (form_faults f db bs) e).1 (narrow_child db bs f e)
  narrow_scopes (raw_and p fs) db bs e n = (n, narrow_each fs db bs e)
  narrow_scopes (raw_or p fs) db bs e n = (n, narrow_each fs db bs e)
  narrow_scopes (raw_implies p f g) db bs e n =
      let x = both_none (widened bs [] f (form_faults f db bs)) (widened bs [] g (form_faults g db bs)) e in
      (n, (narrow_scopes f db bs (not_wide bs [] f (form_faults f db bs) x.0).1 (narrow_child db bs f x.0), narrow_scopes g db bs (not_wide bs [] g (form_faults g db bs) x.1).1 (narrow_child db bs g x.1)))
  narrow_scopes (raw_group p f) db bs e n = narrow_scopes f db bs (not_wide bs [] f (form_faults f db bs) e).1 (narrow_child db bs f e)
  narrow_scopes (raw_ranged word o from to f) db bs e n = narrow_scopes f db bs (not_wide bs [] f (form_faults f db bs) e).1 (narrow_child db bs f e)
  narrow_scopes (raw_paired word o f g) db bs e n = narrow_scopes g db bs (not_wide bs [] g (form_faults g db bs) e).1 (narrow_child db bs g e)
  narrow_scopes (raw_exists p c f) db bs e n =
      let w : IsNarrow (bound_by c.sort c.name ∷ free (plain f (c ∷ bs))) = narrow_inside db bs c f e in
      (w, narrow_scopes f db (c ∷ bs) (not_wide_inside db bs c f (form_faults f db (c ∷ bs)) e).1 (narrow_tail (bound_by c.sort c.name) (free (plain f (c ∷ bs))) w))
  narrow_scopes (raw_forall p c f) db bs e n =
      let w : IsNarrow (bound_by c.sort c.name ∷ free (plain f (c ∷ bs))) = narrow_inside db bs c f e in
      (w, narrow_scopes f db (c ∷ bs) (not_wide_inside db bs c f (form_faults f db (c ∷ bs)) e).1 (narrow_tail (bound_by c.sort c.name) (free (plain f (c ∷ bs))) w))

  -- and each of a list
  pub narrow_each : (fs : RawForms) (db : List Relation) (bs : Binders) → forms_faults fs db bs ≡ [] → EachOfScope IsNarrow (plain_each fs bs)
  narrow_each no_raws db bs e = tt
  narrow_each (raw f fs) db bs e =
      let x = both_none (widened bs [] f (form_faults f db bs)) (forms_faults fs db bs) e in
      (narrow_scopes f db bs (not_wide bs [] f (form_faults f db bs) x.0).1 (narrow_child db bs f x.0), narrow_each fs db bs x.1)

-- ---- the head's names differ

-- the names of binders
abbrev pub names_in : Binders → List Identifier
names_in bs = map (λ b. b.name) bs

-- a name that passes as none of a list differs from each
not_named : (ns : List Identifier) (n : Identifier) → is_named_in ns n ≡ false → AllByRecursion (λ m. m ≢ n) ns
not_named [] n e = tt
not_named (m ∷ ms) n e = at_name (bytes_eq n m) refl e (not_named ms n)
  where
    at_name : (b : Bool) → bytes_eq n m ≡ b → (b || is_named_in ms n) ≡ false → (is_named_in ms n ≡ false → AllByRecursion (λ k. k ≢ n) ms) → AllByRecursion (λ k. k ≢ n) (m ∷ ms)
    at_name true s h rest = cc
    at_name false s h rest = ((λ same. let t : bytes_eq n m ≡ true = (bytes_decides n m).1 (sym same) in cc), rest h)

module _ (db : List Relation) where
  -- the first column of a head has a name of its own
  pub head_first : (bs : Binders) (c : RawColumn) (cs : List RawColumn) → head_faults db bs (c ∷ cs) ≡ [] → AllByRecursion (λ m. m ≢ c.name) (names_in bs) × ((sort_faults db c.sort c.sort_place ≡ []) × (head_faults db (c ∷ bs) cs ≡ []))
  head_first bs c cs e =
      let x = both_none (binder_faults db bs c) (head_faults db (c ∷ bs) cs) e in
      let y = both_none (fault_if (is_named_in (names_in bs) c.name) (query_fault Rebound c.place)) (sort_faults db c.sort c.sort_place) x.0 in
      (not_named (names_in bs) c.name (none_if (is_named_in (names_in bs) c.name) (query_fault Rebound c.place) y.0), (y.1, x.1))

  -- a name that is bound before a head is no name of the head
  apart_from : (n : Identifier) (bs : Binders) (cs : List RawColumn) → head_faults db bs cs ≡ [] → Contains (names_in bs) n → AllByRecursion (λ d. n ≢ d.name) (map column_of cs)
  apart_from n bs [] e c = tt
  apart_from n bs (d ∷ ds) e c =
      let x = head_first bs d ds e in
      (all_of (λ m. m ≢ d.name) (names_in bs) n x.0 c, apart_from n (d ∷ bs) ds x.1.1 (contains_later d.name n (names_in bs) c))

  -- a head's names differ
  pub names_differ : (bs : Binders) (cs : List RawColumn) → head_faults db bs cs ≡ [] → HaveDistinctNames (map column_of cs)
  names_differ bs [] e = tt
  names_differ bs (c ∷ cs) e = let x = head_first bs c cs e in (apart_from c.name (c ∷ bs) cs x.1.1 (contains_first c.name (names_in bs)), names_differ (c ∷ bs) cs x.1.1)

  -- ---- a head as binders, the last column first

  -- the first column of a head is the binder after the others
  pub turned_more : (c : RawColumn) (cs : List RawColumn) (bs : Binders) → reverse (c ∷ cs) ++ bs ≡ reverse cs ++ (c ∷ bs)
  turned_more c cs bs = ap (λ l. l ++ bs) (reverse-cons c cs) ∙ append_assoc (reverse cs) (c ∷ []) bs

  -- a name that is bound before a head keeps its sort
  pub still : (cs : List RawColumn) (bs : Binders) (n : Identifier) → head_faults db bs cs ≡ [] → Contains (names_in bs) n → binder_sort (reverse cs ++ bs) n ≡ binder_sort bs n
  still [] bs n e c = refl
  still (d ∷ ds) bs n e c =
      let x = head_first bs d ds e in
      ap (λ l. binder_sort l n) (turned_more d ds bs) ∙ still ds (d ∷ bs) n x.1.1 (contains_later d.name n (names_in bs) c) ∙ bound_further d bs n (other_name d.name n (all_of (λ m. m ≢ d.name) (names_in bs) n x.0 c))

  -- a variable of the sort of its binder
  bound_as : (bs : Binders) (s : Sort) (n : Identifier) → binder_sort bs n ≡ Some s → IsBound bs (bound_by s n)
  bound_as bs Time n e = e
  bound_as bs Data n e = (Data, tt, e)
  bound_as bs (Named m) n e = (Named m, tt, e)

  -- a head's variables are bound by it
  head_bound : (cs : List RawColumn) (bs : Binders) → head_faults db bs cs ≡ [] → AllByRecursion (IsBound (reverse cs ++ bs)) (head_variables (map column_of cs))
  head_bound [] bs e = tt
  head_bound (c ∷ cs) bs e =
      let x = head_first bs c cs e in
      subst (λ l. AllByRecursion (IsBound l) (bound_by c.sort c.name ∷ head_variables (map column_of cs))) (sym (turned_more c cs bs))
      (bound_as (reverse cs ++ (c ∷ bs)) c.sort c.name (still cs (c ∷ bs) c.name x.1.1 (contains_first c.name (names_in bs)) ∙ bound_here c bs c.name (own_name c.name)), head_bound cs (c ∷ bs) x.1.1)

-- a name that is bound by a head, or before it
in_head : (cs : List RawColumn) (bs : Binders) (n : Identifier) (s : Sort) → binder_sort (reverse cs ++ bs) n ≡ Some s → (binder_sort bs n ≡ Some s) ⊎ Contains (head_variables (map column_of cs)) (bound_by s n)
in_head [] bs n s e = inl e
in_head (c ∷ cs) bs n s e =
    ⊎_elim (λ h. at_name (bytes_eq c.name n) refl h) (λ h. inr (contains_later (bound_by c.sort c.name) (bound_by s n) (head_variables (map column_of cs)) h))
    (in_head cs (c ∷ bs) n s (sym (ap (λ l. binder_sort l n) (turned_more [] c cs bs)) ∙ e))
  where
    some_is : (t u : Sort) → Some t ≡ Some u → t ≡ u
    some_is t u q = cc

    at_name : (b : Bool) → bytes_eq c.name n ≡ b → binder_sort (c ∷ bs) n ≡ Some s → (binder_sort bs n ≡ Some s) ⊎ Contains (bound_by c.sort c.name ∷ head_variables (map column_of cs)) (bound_by s n)
    at_name true q h =
        let t : c.sort ≡ s = some_is c.sort s (sym (bound_here c bs n q) ∙ h) in
        inr (subst (λ v. Contains (bound_by c.sort c.name ∷ head_variables (map column_of cs)) v) (ap (λ u. bound_by u c.name) t ∙ ap (bound_by s) (same_name c.name n q)) (contains_first (bound_by c.sort c.name) (head_variables (map column_of cs))))
    at_name false q h = inl (sym (bound_further c bs n q) ∙ h)

-- a variable that is bound by a head alone is one of the head's
bound_in_head : (cs : List RawColumn) (v : Variable) → IsBound (reverse cs) v → Contains (head_variables (map column_of cs)) v
bound_in_head cs (time_variable n) b = ⊎_elim (λ e. cc) (λ c. c) (in_head cs [] n Time (ap (λ l. binder_sort l n) (append-nil (reverse cs)) ∙ b))
bound_in_head cs (data_variable n) b = by_sort b.0 b.1 (⊎_elim (λ e. cc) (λ c. c) (in_head cs [] n b.0 (ap (λ l. binder_sort l n) (append-nil (reverse cs)) ∙ b.2)))
  where
    by_sort : (s : Sort) → IsDataSort s → Contains (head_variables (map column_of cs)) (bound_by s n) → Contains (head_variables (map column_of cs)) (data_variable n)
    by_sort Time d c = absurd d
    by_sort Data d c = c
    by_sort (Named m) d c = c

-- ---- at most eight columns of each kind

-- the names of the time columns
abbrev times_in : List RawColumn → List Identifier
times_in [] = []
times_in (c ∷ cs) = cond (is_time c.sort) (c.name ∷ times_in cs) (times_in cs)

-- and of the others
abbrev texts_in : List RawColumn → List Identifier
texts_in [] = []
texts_in (c ∷ cs) = cond (is_time c.sort) (texts_in cs) (c.name ∷ texts_in cs)

-- a time variable of a head is one of its time columns
in_times : (cs : List RawColumn) (n : Identifier) → Contains (head_variables (map column_of cs)) (time_variable n) → Contains (times_in cs) n
in_times [] n c = absurd (contains_none (time_variable n) c)
in_times (d ∷ ds) n c = by_sort d.sort (cons_cases (bound_by d.sort d.name) (time_variable n) (head_variables (map column_of ds)) c) (in_times ds n)
  where
    by_sort : (s : Sort) → ((bound_by s d.name ≡ time_variable n) ⊎ Contains (head_variables (map column_of ds)) (time_variable n)) → (Contains (head_variables (map column_of ds)) (time_variable n) → Contains (times_in ds) n) → Contains (cond (is_time s) (d.name ∷ times_in ds) (times_in ds)) n
    by_sort Time (inl e) rest = let same : d.name ≡ n = ap name_of e in subst (Contains (d.name ∷ times_in ds)) same (contains_first d.name (times_in ds))
    by_sort Time (inr k) rest = contains_later d.name n (times_in ds) (rest k)
    by_sort Data (inl e) rest = cc
    by_sort Data (inr k) rest = rest k
    by_sort (Named m) (inl e) rest = cc
    by_sort (Named m) (inr k) rest = rest k

-- a data variable of a head is one of its others
in_texts : (cs : List RawColumn) (n : Identifier) → Contains (head_variables (map column_of cs)) (data_variable n) → Contains (texts_in cs) n
in_texts [] n c = absurd (contains_none (data_variable n) c)
in_texts (d ∷ ds) n c = by_sort d.sort (cons_cases (bound_by d.sort d.name) (data_variable n) (head_variables (map column_of ds)) c) (in_texts ds n)
  where
    by_sort : (s : Sort) → ((bound_by s d.name ≡ data_variable n) ⊎ Contains (head_variables (map column_of ds)) (data_variable n)) → (Contains (head_variables (map column_of ds)) (data_variable n) → Contains (texts_in ds) n) → Contains (cond (is_time s) (texts_in ds) (d.name ∷ texts_in ds)) n
    by_sort Time (inl e) rest = cc
    by_sort Time (inr k) rest = rest k
    by_sort Data (inl e) rest = let same : d.name ≡ n = ap name_of e in subst (Contains (d.name ∷ texts_in ds)) same (contains_first d.name (texts_in ds))
    by_sort Data (inr k) rest = contains_later d.name n (texts_in ds) (rest k)
    by_sort (Named m) (inl e) rest = let same : d.name ≡ n = ap name_of e in subst (Contains (d.name ∷ texts_in ds)) same (contains_first d.name (texts_in ds))
    by_sort (Named m) (inr k) rest = contains_later d.name n (texts_in ds) (rest k)

-- without a ninth column there are at most eight of each kind
few_columns : (t u : ℕ) (cs : List RawColumn) → ninth (query_fault Wide) t u cs ≡ [] → t ≤ 8 → u ≤ 8 → (t + length (times_in cs) ≤ 8) × (u + length (texts_in cs) ≤ 8)
few_columns t u [] e h k = (omega arith, omega arith)
few_columns t u (c ∷ cs) e h k = by_time (is_time c.sort) e (few_columns (t + 1) u cs) (few_columns t (u + 1) cs)
  where
    by_time : (b : Bool) → (if b then fault_if (t == 8) (query_fault Wide c.place) ++ ninth (query_fault Wide) (t + 1) u cs else fault_if (u == 8) (query_fault Wide c.place) ++ ninth (query_fault Wide) t (u + 1) cs) ≡ []
        → (ninth (query_fault Wide) (t + 1) u cs ≡ [] → t + 1 ≤ 8 → u ≤ 8 → (t + 1 + length (times_in cs) ≤ 8) × (u + length (texts_in cs) ≤ 8))
        → (ninth (query_fault Wide) t (u + 1) cs ≡ [] → t ≤ 8 → u + 1 ≤ 8 → (t + length (times_in cs) ≤ 8) × (u + 1 + length (texts_in cs) ≤ 8))
        → (t + length (cond b (c.name ∷ times_in cs) (times_in cs)) ≤ 8) × (u + length (cond b (texts_in cs) (c.name ∷ texts_in cs)) ≤ 8)
    by_time true f one two =
        let x = both_none (fault_if (t == 8) (query_fault Wide c.place)) (ninth (query_fault Wide) (t + 1) u cs) f in
        let ne : t ≢ 8 = eqb-false t 8 (none_if (t == 8) (query_fault Wide c.place) x.0) in
        let r = one x.1 (omega arith) k in
        let r0 : t + 1 + length (times_in cs) ≤ 8 = r.0 in
        (omega arith, r.1)
    by_time false f one two =
        let x = both_none (fault_if (u == 8) (query_fault Wide c.place)) (ninth (query_fault Wide) t (u + 1) cs) f in
        let ne : u ≢ 8 = eqb-false u 8 (none_if (u == 8) (query_fault Wide c.place) x.0) in
        let r = two x.1 h (omega arith) in
        let r1 : u + 1 + length (texts_in cs) ≤ 8 = r.1 in
        (r.0, omega arith)

-- ---- the query

-- variables that are bound by a head of at most eight columns of each kind are narrow
narrow_bound : (cs : List RawColumn) (vs : List Variable) → length (times_in cs) ≤ 8 → length (texts_in cs) ≤ 8 → AllByRecursion (IsBound (reverse cs)) vs → IsNarrow vs
narrow_bound cs vs h k all = record {
  times = λ names d each.
      let l : length names ≤ length (times_in cs) = no_more (times_in cs) names d (all_map (λ n. Contains vs (time_variable n)) (Contains (times_in cs)) names (λ n c. in_times cs n (bound_in_head cs (time_variable n) (all_of (IsBound (reverse cs)) vs (time_variable n) all c))) each) in
      omega arith;
  texts = λ names d each.
      let l : length names ≤ length (texts_in cs) = no_more (texts_in cs) names d (all_map (λ n. Contains vs (data_variable n)) (Contains (texts_in cs)) names (λ n c. in_texts cs n (bound_in_head cs (data_variable n) (all_of (IsBound (reverse cs)) vs (data_variable n) all c))) each) in
      omega arith;
  kinds = λ n c e.
      let a : IsBound (reverse cs) (time_variable n) = all_of (IsBound (reverse cs)) vs (time_variable n) all c in
      let b : IsBound (reverse cs) (data_variable n) = all_of (IsBound (reverse cs)) vs (data_variable n) all e in
      one_kind (binder_sort (reverse cs) n) b.0 a b.1 b.2;
}

module _ (db : List Relation) (q : RawQuestion) (sorted : IsWellSorted db q) where
  -- no fault in the head, none of its width, and none in the body
  pub parts_sorted : (head_faults db [] q.head ≡ []) × ((ninth (query_fault Wide) 0 0 q.head ≡ []) × (widened (reverse q.head) [] q.body (form_faults q.body db (reverse q.head)) ≡ []))
  parts_sorted =
      let x = both_none (head_faults db [] q.head ++ ninth (query_fault Wide) 0 0 q.head) (widened (reverse q.head) [] q.body (form_faults q.body db (reverse q.head))) sorted in
      let y = both_none (head_faults db [] q.head) (ninth (query_fault Wide) 0 0 q.head) x.0 in
      (y.0, (y.1, x.1))

  -- the head's names differ
  pub head_names : HaveDistinctNames (plain_question q).head
  head_names = names_differ db [] q.head parts_sorted.0

  -- the body's variables are bound by the head
  body_bound : AllByRecursion (IsBound (reverse q.head)) (free (plain_question q).body)
  body_bound = all_map (Occurs (free_names q.body) (reverse q.head)) (IsBound (reverse q.head)) (free (plain q.body (reverse q.head))) (λ v o. o.1) (raw_bound q.body db (reverse q.head) (not_wide (reverse q.head) [] q.body (form_faults q.body db (reverse q.head)) parts_sorted.1.1).1)

  -- so they are variables of the head
  pub body_in_head : AreAmong (free (plain_question q).body) (head_variables (plain_question q).head)
  body_in_head v c = bound_in_head q.head v (all_of (IsBound (reverse q.head)) (free (plain_question q).body) v body_bound c)

  -- the head's variables and the body's are narrow together
  pub narrow_head : IsNarrow (head_variables (plain_question q).head ++ free (plain_question q).body)
  narrow_head =
      let few = few_columns 0 0 q.head parts_sorted.1.0 (omega arith) (omega arith) in
      let h : AllByRecursion (IsBound (reverse q.head)) (head_variables (map column_of q.head)) = subst (λ l. AllByRecursion (IsBound l) (head_variables (map column_of q.head))) (append-nil (reverse q.head)) (head_bound db q.head [] parts_sorted.0) in
      let times : 0 + length (times_in q.head) ≤ 8 = few.0 in
      let texts : 0 + length (texts_in q.head) ≤ 8 = few.1 in
      narrow_bound q.head (head_variables (plain_question q).head ++ free (plain_question q).body) (omega arith) (omega arith)
      ((all_append (IsBound (reverse q.head)) (head_variables (map column_of q.head)) (free (plain_question q).body)).1 (h, body_bound))

  -- and each part of the body has narrow variables
  pub narrow_body : EachScope IsNarrow (plain_question q).body
  narrow_body = narrow_scopes q.body db (reverse q.head) (not_wide (reverse q.head) [] q.body (form_faults q.body db (reverse q.head)) parts_sorted.1.1).1 (narrow_child db (reverse q.head) q.body parts_sorted.1.1)
