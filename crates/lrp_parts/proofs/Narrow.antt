-- The variables of a disjunct's atoms: they are few, no two are of one name, and each is of the head or bound.
use Rattle.std.proofs.Common.{◌≡◌, ◌≢◌, ◌≤◌, ◌<◌, ℕ, zero, suc, Bool, true, false, not, cond, List, [], ◌∷◌, ◌++◌, length, flat_map, filter, Contains, Some, ◌⊎◌, inl, inr, refl, sym, ap, subst, ◌∙◌, bytes_eq, append-nil, arith}
use Rattle.std.specs.Prelude.{pos, ◌≤ℤ◌, AllPairs, slice_get}
use Rattle.std.specs.List.{AllZip, list_all, list_any}
use Rattle.std.proofs.lemmas.Bool.{and_parts, false≢true}
use Rattle.std.proofs.lemmas.Option.{slice_get_within}
use Rattle.lrp_theory.specs.Divides.{Divides}
use Rattle.lrp_model.specs.Formulas.{Form, Forms, atom, test, sorted, negation, conjunction, disjunction, implication, exists, forall, no_forms, form}
use Rattle.lrp_model.specs.Satisfaction.{HaveDistinctNames}
use Rattle.lrp_model.specs.Sorts.{is_time, is_data}
use Rattle.lrp_model.specs.Texts.{Identifier, AreDistinct}
use Rattle.lrp_model.specs.Variables.{Variable, time_variable, data_variable, bound_by, free, free_each, head_variables, same_variable, variables_of_term, variables_of_test}
use Rattle.lrp_model.specs.declared.formulas.Test.{Test}
use Rattle.lrp_model.specs.declared.relations.Column.{Column}
use Rattle.lrp_model.specs.declared.relations.Sort.{Sort}
use Rattle.lrp_model.specs.declared.relations.Sort.TheVariants.{Time, Data, Named}
use Rattle.lrp_model.proofs.Decided.{cons_cases, contains_first, contains_later, contains_none}
use Rattle.lrp_plan_laws.specs.Atoms.{Atom, atoms, atoms_each}
use Rattle.lrp_plan_laws.specs.Scopes.{EachScope, IsNarrow}
use Rattle.lrp_plan_laws.proofs.Members.{all_by, in_left, in_right}
use Rattle.lrp_plan_laws.proofs.SortedNames.{same_name}
use Rattle.lrp_tables.specs.Calls.{CanBeCarried, test_period}
use Rattle.lrp_tables.specs.Columns.{head_texts, head_times, joint, scan_texts, scan_times, text_name, texts_of_term, texts_of_test, times_of_term, times_of_test, with_time_name}
use Rattle.lrp_tables.specs.Tables.{AreNamesAmong}
use Rattle.lrp_tables.proofs.Joining.{joint_differs, of_joint}
use Rattle.lrp_tables.proofs.Named.{pairs_tail}
use Rattle.lrp_cutting.proofs.Lists.{pairs_append, pairs_none}
use Rattle.lrp_parts.specs.Derivations.{CanBeJoinedAt, Ground, HasHeadOf}
use Rattle.lrp_parts.specs.Heads.{AreHeadVariables}
use Rattle.lrp_kept.specs.Disjuncts.{AreJoined, IsAtomOf, IsDisjunctOf, bound_columns, is_test_covered}
use Rattle.lrp_kept.specs.KeptForm.{bound_variables, kept_elements, is_neither, some_passes}
use Rattle.lrp_kept.specs.declared.disjuncts.Disjunct.{Disjunct}
use Rattle.lrp_kept.specs.declared.disjuncts.JoinedAtom.{JoinedAtom}
use Rattle.lrp_parts.proofs.After.{in_kept, own_tests, own_texts, own_times, some_terms}
use Rattle.lrp_kept.proofs.DisjunctAtoms.{atoms_are}
use Rattle.lrp_kept.proofs.PartVariables.{found_name, text_named, time_named}
use Rattle.lrp_holdings.proofs.Chained.{some_is}

-- ---- the variables of elements

-- what fits each part of a formula fits the variables of a disjunct's elements
pub fits_elements : (fits : List Variable → Type 0) (f : Form) → EachScope fits f → some_passes is_neither (kept_elements f) ≡ false → fits (free_each (kept_elements f))
fits_elements fits (exists v s f) h l = fits_elements fits f h.1 l
fits_elements fits (conjunction fs) h l = h.0
fits_elements fits (atom name terms) h l = subst fits (sym (append-nil (flat_map variables_of_term terms))) h
fits_elements fits (test t) h l = subst fits (sym (append-nil (variables_of_test t))) h
fits_elements fits (sorted s v) h l = absurd (false≢true (sym l))
fits_elements fits (negation f) h l = absurd (false≢true (sym l))
fits_elements fits (disjunction fs) h l = absurd (false≢true (sym l))
fits_elements fits (implication f g) h l = absurd (false≢true (sym l))
fits_elements fits (forall v s f) h l = absurd (false≢true (sym l))

-- a variable of an atom among atoms and tests occurs in them
free_of : (fs : Forms) (a : Atom) (w : Variable) → some_passes is_neither fs ≡ false → Contains (atoms_each fs) a → Contains (flat_map variables_of_term a.terms) w → Contains (free_each fs) w
free_of no_forms a w l c i = absurd (contains_none a c)
free_of (form (atom name terms) fs) a w l c i = elim (cons_cases (record { name = name; terms = terms }) a (atoms_each fs) c) [
  | inl s ↦ in_left (flat_map variables_of_term terms) (free_each fs) w (subst (λ (x : Atom). Contains (flat_map variables_of_term x.terms) w) (sym s) i)
  | inr d ↦ in_right (flat_map variables_of_term terms) (free_each fs) w (free_of fs a w l d i)
]
free_of (form (test t) fs) a w l c i = in_right (variables_of_test t) (free_each fs) w (free_of fs a w l c i)
free_of (form (sorted s v) fs) a w l c i = absurd (false≢true (sym l))
free_of (form (negation f) fs) a w l c i = absurd (false≢true (sym l))
free_of (form (conjunction gs) fs) a w l c i = absurd (false≢true (sym l))
free_of (form (disjunction gs) fs) a w l c i = absurd (false≢true (sym l))
free_of (form (implication f g) fs) a w l c i = absurd (false≢true (sym l))
free_of (form (exists v s f) fs) a w l c i = absurd (false≢true (sym l))
free_of (form (forall v s f) fs) a w l c i = absurd (false≢true (sym l))

-- ---- names

distinct_from : (ns : List Identifier) → AllPairs ◌≢◌ ns → AreDistinct ns
distinct_from [] h = tt
distinct_from (n ∷ ns) h = (all_by (λ m. n ≢ m) ns (λ x c e. h 0 (suc c.0) x (omega arith) (let l : c.0 < length ns = c.1 in omega (arith, l)) (e ∙ sym c.2)), distinct_from ns (pairs_tail ◌≢◌ n ns h))

all_found : (ns vs : List Identifier) → list_all (λ v. list_any (bytes_eq v) ns) vs ≡ true → AreNamesAmong vs ns
all_found ns [] e v c = absurd (contains_none v c)
all_found ns (w ∷ vs) e v c =
    let r = and_parts (list_any (bytes_eq w) ns) (list_all (λ v. list_any (bytes_eq v) ns) vs) e in
    elim (cons_cases w v vs c) [ inl s ↦ subst (λ x. Contains ns x) s (found_name ns w r.0) | inr d ↦ all_found ns vs r.1 v d ]

-- ---- atoms

zip_back : {X Y : Type 0} (R : X → Y → Type 0) (xs : List X) (ys : List Y) (y : Y) → AllZip R xs ys → Contains ys y → (x : X) × Contains xs x × R x y
zip_back R [] [] y h c = absurd (contains_none y c)
zip_back R [] (z ∷ ys) y h c = absurd h
zip_back R (w ∷ xs) [] y h c = absurd h
zip_back R (w ∷ xs) (z ∷ ys) y h c = elim (cons_cases z y ys c) [
  | inl s ↦ (w, contains_first w xs, subst (λ k. R w k) s h.0)
  | inr d ↦ let r = zip_back R xs ys y h.1 d in (r.0, contains_later w r.0 xs r.1, r.2)
]

module _ (tests : List Test) where
  of_first : (ts : List Identifier) (k : JoinedAtom) (all : List JoinedAtom) → k.vars.times ≡ joint ts (scan_times k.terms) → (v : Identifier) → Contains k.vars.times v → Contains ts v ⊎ ((j : JoinedAtom) × Contains (k ∷ all) j × Contains (flat_map times_of_term j.terms) v)
  of_first ts k all e v c = elim (of_joint ts (scan_times k.terms) v (subst (λ ns. Contains ns v) e c)) [
    | inl d ↦ inl d
    | inr d ↦ elim (of_joint [] (flat_map times_of_term k.terms) v d) [ inl n ↦ absurd (contains_none v n) | inr m ↦ inr (k, contains_first k all, m) ]
  ]

  -- a time variable of an atom was there before, or is of some atom's terms
  pub some_times : (ts xs : List Identifier) (all : List JoinedAtom) → AreJoined tests ts xs all → (i : ℕ) (a : JoinedAtom) → slice_get all i ≡ Some a → (v : Identifier) → Contains a.vars.times v → Contains ts v ⊎ ((j : JoinedAtom) × Contains all j × Contains (flat_map times_of_term j.terms) v)
  some_times ts xs [] h i a e v c = absurd (let l : i < 0 = slice_get_within [] i a e in omega (arith, l))
  some_times ts xs (k ∷ all) h zero a e v c = of_first ts k all h.0 v (subst (λ (m : JoinedAtom). Contains m.vars.times v) (sym (some_is k a e)) c)
  some_times ts xs (k ∷ all) h (suc i) a e v c = elim (some_times k.vars.times k.vars.texts all h.3 i a e v c) [ inr r ↦ inr (r.0, contains_later k r.0 all r.1, r.2) | inl d ↦ of_first ts k all h.0 v d ]

  -- no two time variables of an atom are the same, and no two text variables
  pub times_differ : (ts xs : List Identifier) (all : List JoinedAtom) → AllPairs ◌≢◌ ts → AreJoined tests ts xs all → (i : ℕ) (a : JoinedAtom) → slice_get all i ≡ Some a → AllPairs ◌≢◌ a.vars.times
  times_differ ts xs [] pairs h i a e = absurd (let l : i < 0 = slice_get_within [] i a e in omega (arith, l))
  times_differ ts xs (k ∷ all) pairs h zero a e = subst (λ (m : JoinedAtom). AllPairs ◌≢◌ m.vars.times) (some_is k a e) (subst (λ ns. AllPairs ◌≢◌ ns) (sym h.0) (joint_differs ts (scan_times k.terms) pairs))
  times_differ ts xs (k ∷ all) pairs h (suc i) a e = times_differ k.vars.times k.vars.texts all (subst (λ ns. AllPairs ◌≢◌ ns) (sym h.0) (joint_differs ts (scan_times k.terms) pairs)) h.3 i a e

  pub texts_differ : (ts xs : List Identifier) (all : List JoinedAtom) → AllPairs ◌≢◌ xs → AreJoined tests ts xs all → (i : ℕ) (a : JoinedAtom) → slice_get all i ≡ Some a → AllPairs ◌≢◌ a.vars.texts
  texts_differ ts xs [] pairs h i a e = absurd (let l : i < 0 = slice_get_within [] i a e in omega (arith, l))
  texts_differ ts xs (k ∷ all) pairs h zero a e = subst (λ (m : JoinedAtom). AllPairs ◌≢◌ m.vars.texts) (some_is k a e) (subst (λ ns. AllPairs ◌≢◌ ns) (sym h.1) (joint_differs xs (scan_texts k.terms) pairs))
  texts_differ ts xs (k ∷ all) pairs h (suc i) a e = texts_differ k.vars.times k.vars.texts all (subst (λ ns. AllPairs ◌≢◌ ns) (sym h.1) (joint_differs xs (scan_texts k.terms) pairs)) h.3 i a e

-- ---- heads

head_time : (columns : List Column) (v : Identifier) → Contains (head_variables columns) (time_variable v) → Contains (head_times columns) v
head_time [] v c = absurd (contains_none (time_variable v) c)
head_time (k ∷ columns) v c = by k.sort c (λ d. head_time columns v d)
  where
    same_time : (w : Identifier) → time_variable w ≡ time_variable v → w ≡ v
    same_time w e = cc

    by : (s : Sort) → Contains (bound_by s k.name ∷ head_variables columns) (time_variable v) → (Contains (head_variables columns) (time_variable v) → Contains (head_times columns) v) → Contains (with_time_name s k.name (head_times columns)) v
    by Time d rest = elim (cons_cases (time_variable k.name) (time_variable v) (head_variables columns) d) [ inl e ↦ subst (λ x. Contains (k.name ∷ head_times columns) x) (same_time k.name e) (contains_first k.name (head_times columns)) | inr m ↦ contains_later k.name v (head_times columns) (rest m) ]
    by Data d rest = elim (cons_cases (data_variable k.name) (time_variable v) (head_variables columns) d) [ inl e ↦ cc | inr m ↦ rest m ]
    by (Named name) d rest = elim (cons_cases (data_variable k.name) (time_variable v) (head_variables columns) d) [ inl e ↦ cc | inr m ↦ rest m ]

head_text : (columns : List Column) (v : Identifier) → Contains (head_variables columns) (data_variable v) → Contains (head_texts columns) v
head_text [] v c = absurd (contains_none (data_variable v) c)
head_text (k ∷ columns) v c = by k.sort c (λ d. head_text columns v d)
  where
    same_text : (w : Identifier) → data_variable w ≡ data_variable v → w ≡ v
    same_text w e = cc

    by : (s : Sort) → Contains (bound_by s k.name ∷ head_variables columns) (data_variable v) → (Contains (head_variables columns) (data_variable v) → Contains (head_texts columns) v) → Contains (text_name s k.name (head_texts columns)) v
    by Time d rest = elim (cons_cases (time_variable k.name) (data_variable v) (head_variables columns) d) [ inl e ↦ cc | inr m ↦ rest m ]
    by Data d rest = elim (cons_cases (data_variable k.name) (data_variable v) (head_variables columns) d) [ inl e ↦ subst (λ x. Contains (k.name ∷ head_texts columns) x) (same_text k.name e) (contains_first k.name (head_texts columns)) | inr m ↦ contains_later k.name v (head_texts columns) (rest m) ]
    by (Named name) d rest = elim (cons_cases (data_variable k.name) (data_variable v) (head_variables columns) d) [ inl e ↦ subst (λ x. Contains (k.name ∷ head_texts columns) x) (same_text k.name e) (contains_first k.name (head_texts columns)) | inr m ↦ contains_later k.name v (head_texts columns) (rest m) ]

-- a variable of the elements occurs free, or is bound
kept_variable : (u : Variable) (ws : List Variable) (w : Variable) → Contains ws w → (u ≡ w) ⊎ Contains (filter (λ x. not (same_variable u x)) ws) w
kept_variable u [] w c = absurd (contains_none w c)
kept_variable u (x ∷ ws) w c = by (same_variable u x) refl (cons_cases x w ws c) (λ d. kept_variable u ws w d)
  where
    same_one : (u x : Variable) → same_variable u x ≡ true → u ≡ x
    same_one (time_variable v) (time_variable n) e = ap time_variable (same_name v n e)
    same_one (data_variable v) (data_variable n) e = ap data_variable (same_name v n e)
    same_one (time_variable v) (data_variable n) e = absurd (false≢true e)
    same_one (data_variable v) (time_variable n) e = absurd (false≢true e)

    by : (b : Bool) → same_variable u x ≡ b → (x ≡ w) ⊎ Contains ws w → (Contains ws w → (u ≡ w) ⊎ Contains (filter (λ y. not (same_variable u y)) ws) w) → (u ≡ w) ⊎ Contains (cond (not b) (x ∷ filter (λ y. not (same_variable u y)) ws) (filter (λ y. not (same_variable u y)) ws)) w
    by true e (inl s) rest = inl (same_one u x e ∙ s)
    by true e (inr d) rest = rest d
    by false e (inl s) rest = inr (subst (λ y. Contains (x ∷ filter (λ y. not (same_variable u y)) ws) y) s (contains_first x (filter (λ y. not (same_variable u y)) ws)))
    by false e (inr d) rest = elim (rest d) [ inl s ↦ inl s | inr k ↦ inr (contains_later x w (filter (λ y. not (same_variable u y)) ws) k) ]

free_or_bound : (f : Form) (w : Variable) → Contains (free_each (kept_elements f)) w → Contains (free f) w ⊎ Contains (bound_variables f) w
free_or_bound (exists v s f) w c = elim (free_or_bound f w c) [
  | inr b ↦ inr (contains_later (bound_by s v) w (bound_variables f) b)
  | inl d ↦ elim (kept_variable (bound_by s v) (free f) w d) [ inl e ↦ inr (subst (λ x. Contains (bound_by s v ∷ bound_variables f) x) e (contains_first (bound_by s v) (bound_variables f))) | inr k ↦ inl k ]
]
free_or_bound (conjunction fs) w c = inl c
free_or_bound (atom name terms) w c = inl (subst (λ ws. Contains ws w) (append-nil (flat_map variables_of_term terms)) c)
free_or_bound (test t) w c = inl (subst (λ ws. Contains ws w) (append-nil (variables_of_test t)) c)
free_or_bound (sorted s v) w c = inl c
free_or_bound (negation f) w c = inl (subst (λ ws. Contains ws w) (append-nil (free f)) c)
free_or_bound (disjunction fs) w c = inl (subst (λ ws. Contains ws w) (append-nil (free_each fs)) c)
free_or_bound (implication f g) w c = inl (subst (λ ws. Contains ws w) (append-nil (free f ++ free g)) c)
free_or_bound (forall v s f) w c = inl (subst (λ ws. Contains ws w) (append-nil (free (forall v s f))) c)

-- what is bound is bound by a column
bound_column : (f : Form) (x : Variable) → Contains (bound_variables f) x → (c : Column) × Contains (bound_columns f) c × (bound_by c.sort c.name ≡ x)
bound_column (exists u s f) x c =
    let own : Column = record { name = u; sort = s } in
    elim (cons_cases (bound_by s u) x (bound_variables f) c) [
      | inl e ↦ (own, in_right (bound_columns f) (own ∷ []) own (contains_first own []), e)
      | inr d ↦ let r = bound_column f x d in (r.0, in_left (bound_columns f) (own ∷ []) r.0 r.1, r.2)
    ]
bound_column (conjunction fs) x c = absurd (contains_none x c)
bound_column (atom name terms) x c = absurd (contains_none x c)
bound_column (test t) x c = absurd (contains_none x c)
bound_column (sorted s u) x c = absurd (contains_none x c)
bound_column (negation f) x c = absurd (contains_none x c)
bound_column (disjunction fs) x c = absurd (contains_none x c)
bound_column (implication f g) x c = absurd (contains_none x c)
bound_column (forall u s f) x c = absurd (contains_none x c)

-- by the sort of times, or by a data sort
time_bound : (s : Sort) (u v : Identifier) → bound_by s u ≡ time_variable v → (is_time s ≡ true) × (u ≡ v)
time_bound Time u v e = (refl, cc)
time_bound Data u v e = cc
time_bound (Named n) u v e = cc

text_bound : (s : Sort) (u v : Identifier) → bound_by s u ≡ data_variable v → (is_data s ≡ true) × (u ≡ v)
text_bound Time u v e = cc
text_bound Data u v e = (refl, cc)
text_bound (Named n) u v e = (refl, cc)

-- ---- a disjunct

module _ (names : List Identifier) (f : Form) (d : Disjunct) (is : IsDisjunctOf names f d) (literal : some_passes is_neither (kept_elements f) ≡ false) where
  module _ (i : ℕ) (a : JoinedAtom) (at : slice_get d.atoms.items i ≡ Some a) where
    -- the variables of an atom are of the disjunct's elements
    pub time_occurs : (v : Identifier) → Contains a.vars.times v → Contains (free_each (kept_elements f)) (time_variable v)
    time_occurs v c = elim (some_times d.tests [] [] d.atoms.items is.joined i a at v c) [
      | inl n ↦ absurd (contains_none v n)
      | inr r ↦ let x = zip_back (IsAtomOf names) (atoms f) d.atoms.items r.0 is.atoms_are r.1 in
          free_of (kept_elements f) x.0 (time_variable v) literal (subst (λ xs. Contains xs x.0) (atoms_are f) x.1) (time_named x.0.terms v (subst (λ ts. Contains (flat_map times_of_term ts) v) x.2.terms r.2))
    ]

    pub text_occurs : (v : Identifier) → Contains a.vars.texts v → Contains (free_each (kept_elements f)) (data_variable v)
    text_occurs v c = elim (some_terms d.tests [] [] d.atoms.items is.joined i a at v c) [
      | inl n ↦ absurd (contains_none v n)
      | inr r ↦ let x = zip_back (IsAtomOf names) (atoms f) d.atoms.items r.0 is.atoms_are r.1 in
          free_of (kept_elements f) x.0 (data_variable v) literal (subst (λ xs. Contains xs x.0) (atoms_are f) x.1) (text_named x.0.terms v (subst (λ ts. Contains (flat_map texts_of_term ts) v) x.2.terms r.2))
    ]

    times_pairs : AllPairs ◌≢◌ a.vars.times
    times_pairs = times_differ d.tests [] [] d.atoms.items (pairs_none ◌≢◌) is.joined i a at

    texts_pairs : AllPairs ◌≢◌ a.vars.texts
    texts_pairs = texts_differ d.tests [] [] d.atoms.items (pairs_none ◌≢◌) is.joined i a at

    carried : (g : Ground) → ((t : Test) → Contains d.tests t → (pos 1 ≤ℤ test_period t) × Divides (test_period t) (pos g.period)) → (t : Test) → Contains a.tests t → CanBeCarried a.vars.times a.vars.texts (pos g.period) t
    carried g periods t c =
        let r = in_kept (is_test_covered a.vars.times a.vars.texts) d.tests t (subst (λ ts. Contains ts t) (own_tests d.tests [] [] d.atoms.items is.joined i a at) c) in
        let e = and_parts (list_all (λ v. list_any (bytes_eq v) a.vars.times) (times_of_test t)) (list_all (λ v. list_any (bytes_eq v) a.vars.texts) (texts_of_test t)) r.1 in
        let p = periods t r.0 in
        record { times_known = all_found a.vars.times (times_of_test t) e.0; texts_known = all_found a.vars.texts (texts_of_test t) e.1; low = p.0; divides = p.1 }

    pub can_be_joined : (g : Ground) → IsNarrow (free_each (kept_elements f)) → ((t : Test) → Contains d.tests t → (pos 1 ≤ℤ test_period t) × Divides (test_period t) (pos g.period)) → CanBeJoinedAt g a
    can_be_joined g narrow periods = record {
      differ = pairs_append ◌≢◌ a.vars.times a.vars.texts times_pairs texts_pairs (λ x y c k e. narrow.kinds x (time_occurs x c) (text_occurs x (subst (λ z. Contains a.vars.texts z) (sym e) k)));
      few_times = narrow.times a.vars.times (distinct_from a.vars.times times_pairs) (all_by (λ v. Contains (free_each (kept_elements f)) (time_variable v)) a.vars.times time_occurs);
      few_texts = narrow.texts a.vars.texts (distinct_from a.vars.texts texts_pairs) (all_by (λ v. Contains (free_each (kept_elements f)) (data_variable v)) a.vars.texts text_occurs);
      times_known = own_times d.tests [] [] d.atoms.items is.joined i a at;
      texts_known = own_texts d.tests [] [] d.atoms.items is.joined i a at;
      tests = all_by (CanBeCarried a.vars.times a.vars.texts (pos g.period)) a.tests (carried g periods);
    }

    -- where the free variables of the disjunct are the head's, and the atom has those
    pub has_head : (g : Ground) → HaveDistinctNames g.head → length (head_times g.head) ≤ 8 → length (head_texts g.head) ≤ 8 → ((w : Variable) → Contains (free f) w → Contains (head_variables g.head) w) → AreHeadVariables g.head d.bound a.vars → HasHeadOf g d a
    has_head g own few_times few_texts known all = record {
      names = λ whole t x. record {
        names = own;
        few_times = few_times;
        few_texts = few_texts;
        own = record {
          times = λ v c. let h = all.times v c in (subst (λ ns. Contains ns v) (sym t) h.0, h.1);
          texts = λ v c. let h = all.texts v c in (subst (λ ns. Contains ns v) (sym x) h.0, h.1);
        };
        times = λ v c. elim (free_or_bound f (time_variable v) (time_occurs v (subst (λ ns. Contains ns v) t c))) [
          | inl k ↦ inl (head_time g.head v (known (time_variable v) k))
          | inr b ↦ let r = bound_column f (time_variable v) b in let n = time_bound r.0.sort r.0.name v r.2 in inr (record { column = r.0; listed = subst (λ cs. Contains cs r.0) (sym is.bound_are) r.1; sort = n.0; named = n.1 })
        ];
        texts = λ v c. elim (free_or_bound f (data_variable v) (text_occurs v (subst (λ ns. Contains ns v) x c))) [
          | inl k ↦ inl (head_text g.head v (known (data_variable v) k))
          | inr b ↦ let r = bound_column f (data_variable v) b in let n = text_bound r.0.sort r.0.name v r.2 in inr (record { column = r.0; listed = subst (λ cs. Contains cs r.0) (sym is.bound_are) r.1; sort = n.0; named = n.1 })
        ];
      };
    }
