-- The atoms and periods of a query are those of its disjuncts.
use Rattle.std.proofs.Common.{◌≡◌, ◌≢◌, ◌<◌, ℕ, zero, suc, Bool, true, false, List, [], ◌∷◌, ◌++◌, length, map, flat_map, Contains, Option, Some, None, ◌⊎◌, inl, inr, refl, sym, ap, subst, ◌∙◌, bytes_eq, arith}
use Rattle.std.specs.Prelude.{◌==◌, if◌then◌else◌, slice_get}
use Rattle.std.specs.List.{AllByRecursion, list_any}
use Rattle.std.specs.Cmp.Lexicographic.{bytes_decides}
use Rattle.std.proofs.lemmas.Bool.{eqb-true, false≢true}
use Rattle.lrp_model.specs.Core.{disjuncts, positive}
use Rattle.lrp_model.specs.Formulas.{Form, Forms, Question, atom, test, sorted, negation, conjunction, disjunction, implication, exists, forall, no_forms, form}
use Rattle.lrp_model.specs.Periods.{periods, periods_each, test_periods, row_periods}
use Rattle.lrp_model.specs.Rows.{rows_in, rows_of, relation_named}
use Rattle.lrp_model.specs.Texts.{AreDistinct, Identifier}
use Rattle.lrp_model.specs.declared.formulas.Test.{Test}
use Rattle.lrp_model.specs.declared.relations.Relation.{Relation}
use Rattle.lrp_model.specs.TestPoints.{points, points_each, test_points}
use Rattle.lrp_model.specs.declared.relations.RowPoint.{RowPoint}
use Rattle.lrp_model.specs.declared.formulas.Term.{Term}
use Rattle.lrp_model.proofs.Decided.{cons_cases, contains_first, contains_later}
use Rattle.lrp_plan_laws.specs.Atoms.{Atom, atoms, atoms_each}
use Rattle.lrp_plan_laws.proofs.CoreLaws.{own_name}
use Rattle.lrp_plan_laws.proofs.CoreNames.{positive_named}
use Rattle.lrp_plan_laws.proofs.HeadLaws.{other_name}
use Rattle.lrp_plan_laws.proofs.Marks.{Mark, marked_atom, marked_periods, marked_points, marks, marks_each}
use Rattle.lrp_plan_laws.proofs.Members.{all_by, all_of, all_self, in_left, in_one, in_right}
use Rattle.lrp_plan_laws.proofs.Names.{names_self}
use Rattle.lrp_model.specs.Variables.{free}
use Rattle.lrp_kept.specs.Choices.{as_list, disjunct_tests, listed_disjuncts, tests_among}
use Rattle.lrp_kept.specs.Disjuncts.{AreDisjunctsOf, IsAtomOf, IsDisjunctOf}
use Rattle.lrp_kept.specs.KeptForm.{kept_elements, is_neither, some_passes}
use Rattle.lrp_kept.specs.Limits.{names_relation}
use Rattle.lrp_kept.specs.Sizes.{is_reader, tested_periods}
use Rattle.lrp_kept.specs.declared.disjuncts.Disjunct.{Disjunct}
use Rattle.lrp_kept.specs.declared.disjuncts.JoinedAtom.{JoinedAtom}
use Rattle.lrp_zone.proofs.Cases.{eq_or}
use Rattle.lrp_kept.proofs.DisjunctAtoms.{atoms_are}
use Rattle.lrp_keep.specs.States.{periods_at, read_periods}
use Rattle.lrp_keep.proofs.Lists.{any_at, any_of, at_mapped, both_or_none, equal_self, nowhere, one_place, zip_in, zip_of}
use Rattle.lrp_holdings.proofs.Chained.{none_some, some_is}
use Rattle.lrp_theory.proofs.Members.{from_flat, in_flat}
use Rattle.lrp_plan_laws.proofs.Elements.{within}

-- ---- disjuncts of a form

all_left : {X : Type 0} (xs ys zs : List X) → AllByRecursion (Contains xs) zs → AllByRecursion (Contains (xs ++ ys)) zs
all_left xs ys zs h = all_by (Contains (xs ++ ys)) zs (λ z c. in_left xs ys z (all_of (Contains xs) zs z h c))

all_right : {X : Type 0} (xs ys zs : List X) → AllByRecursion (Contains ys) zs → AllByRecursion (Contains (xs ++ ys)) zs
all_right xs ys zs h = all_by (Contains (xs ++ ys)) zs (λ z c. in_right xs ys z (all_of (Contains ys) zs z h c))

module _ (db : List Relation) where
  abbrev marks_of : Atom → List Mark
  marks_of a = marks (atom a.name a.terms) db

  mutual
    -- what an atom of a formula names the formula names
    atom_marks : (f : Form) (a : Atom) → Contains (atoms f) a → AllByRecursion (Contains (marks f db)) (marks_of a)
    atom_marks (atom name terms) a c = elim (cons_cases (record { name = name; terms = terms }) a [] c) [
      | inl e ↦ subst (λ (x : Atom). AllByRecursion (Contains (marks (atom name terms) db)) (marks_of x)) e (all_self (marks (atom name terms) db))
      | inr d ↦ absurd (nowhere a d)
    ]
    atom_marks (test t) a c = absurd (nowhere a c)
    atom_marks (sorted s v) a c = absurd (nowhere a c)
    atom_marks (negation f) a c = atom_marks f a c
    atom_marks (conjunction fs) a c = atoms_marks fs a c
    atom_marks (disjunction fs) a c = atoms_marks fs a c
    atom_marks (implication f g) a c = elim (in_one (atoms f) (atoms g) a c) [
      | inl d ↦ all_left (marks f db) (marks g db) (marks_of a) (atom_marks f a d)
      | inr d ↦ all_right (marks f db) (marks g db) (marks_of a) (atom_marks g a d)
    ]
    atom_marks (exists v s f) a c = atom_marks f a c
    atom_marks (forall v s f) a c = atom_marks f a c

    atoms_marks : (fs : Forms) (a : Atom) → Contains (atoms_each fs) a → AllByRecursion (Contains (marks_each fs db)) (marks_of a)
    atoms_marks no_forms a c = absurd (nowhere a c)
    atoms_marks (form f fs) a c = elim (in_one (atoms f) (atoms_each fs) a c) [
      | inl d ↦ all_left (marks f db) (marks_each fs db) (marks_of a) (atom_marks f a d)
      | inr d ↦ all_right (marks f db) (marks_each fs db) (marks_of a) (atoms_marks fs a d)
    ]

  -- the core form names what the formula names
  marks_to : (f : Form) → AllByRecursion (Contains (marks (positive f false) db)) (marks f db)
  marks_to f = ((positive_named f false db (free (positive f false)) (marks (positive f false) db)).0 (names_self db (positive f false))).1

  pub marks_from : (f : Form) → AllByRecursion (Contains (marks f db)) (marks (positive f false) db)
  marks_from f = ((positive_named f false db (free f) (marks f db)).1 (names_self db f)).1

  carried : (f g : Form) → AllByRecursion (Contains (marks g db)) (marks f db) → (a : Atom) → Contains (atoms f) a → Contains (atoms g) a
  carried f g h a c = marked_atom a.name a.terms g db (all_by (Contains (marks g db)) (marks_of a) (λ m i. all_of (Contains (marks g db)) (marks f db) m h (all_of (Contains (marks f db)) (marks_of a) m (atom_marks f a c) i)))

  pub core_atom : (f : Form) (a : Atom) → Contains (atoms f) a → Contains (atoms (positive f false)) a
  core_atom f a c = carried f (positive f false) (marks_to f) a c

  pub of_core_atom : (f : Form) (a : Atom) → Contains (atoms (positive f false)) a → Contains (atoms f) a
  of_core_atom f a c = carried (positive f false) f (marks_from f) a c

  pub core_period : (f : Form) (k : ℕ) → Contains (periods f db) k → Contains (periods (positive f false) db) k
  core_period f k c = all_of (Contains (periods (positive f false) db)) (periods f db) k (marked_periods f (positive f false) db (marks_to f)) c

  pub of_core_period : (f : Form) (k : ℕ) → Contains (periods (positive f false) db) k → Contains (periods f db) k
  of_core_period f k c = all_of (Contains (periods f db)) (periods (positive f false) db) k (marked_periods (positive f false) f db (marks_from f)) c

-- ---- what stands in a formula, and in each of the disjuncts that it is

-- a list that each formula has, and each list of formulas
module _ {X : Type 0} (of : Form → List X) (each : Forms → List X) (none : each no_forms ≡ []) (more : (f : Form) (fs : Forms) → each (form f fs) ≡ of f ++ each fs) (or : (fs : Forms) → of (disjunction fs) ≡ each fs) where
  of_each : (fs : Forms) (x : X) → Contains (each fs) x → (f : Form) × Contains (as_list fs) f × Contains (of f) x
  of_each no_forms x c = absurd (nowhere x (subst (λ l. Contains l x) none c))
  of_each (form f fs) x c = elim (in_one (of f) (each fs) x (subst (λ l. Contains l x) (more f fs) c)) [
    | inl d ↦ (f, contains_first f (as_list fs), d)
    | inr d ↦ let r = of_each fs x d in (r.0, contains_later f r.0 (as_list fs) r.1, r.2)
  ]

  in_each : (fs : Forms) (f : Form) (x : X) → Contains (as_list fs) f → Contains (of f) x → Contains (each fs) x
  in_each no_forms f x i c = absurd (nowhere f i)
  in_each (form g fs) f x i c = subst (λ l. Contains l x) (sym (more g fs)) (elim (cons_cases g f (as_list fs) i) [
    | inl e ↦ in_left (of g) (each fs) x (subst (λ h. Contains (of h) x) (sym e) c)
    | inr d ↦ in_right (of g) (each fs) x (in_each fs f x d c)
  ])

  alone : (f : Form) (x : X) → Contains (of f) x → Contains (each (form f no_forms)) x
  alone f x c = in_each (form f no_forms) f x (contains_first f []) c

  of_alone : (f : Form) (x : X) → Contains (each (form f no_forms)) x → Contains (of f) x
  of_alone f x c = let r = of_each (form f no_forms) x c in elim (cons_cases f r.0 [] r.1) [ inl e ↦ subst (λ h. Contains (of h) x) (sym e) r.2 | inr d ↦ absurd (nowhere r.0 d) ]

  to_disjuncts : (f : Form) (x : X) → Contains (of f) x → Contains (each (disjuncts f)) x
  to_disjuncts (disjunction fs) x c = subst (λ l. Contains l x) (or fs) c
  to_disjuncts (atom name terms) x c = alone (atom name terms) x c
  to_disjuncts (test t) x c = alone (test t) x c
  to_disjuncts (sorted s v) x c = alone (sorted s v) x c
  to_disjuncts (negation f) x c = alone (negation f) x c
  to_disjuncts (conjunction fs) x c = alone (conjunction fs) x c
  to_disjuncts (implication f g) x c = alone (implication f g) x c
  to_disjuncts (exists v s f) x c = alone (exists v s f) x c
  to_disjuncts (forall v s f) x c = alone (forall v s f) x c

  from_disjuncts : (f : Form) (x : X) → Contains (each (disjuncts f)) x → Contains (of f) x
  from_disjuncts (disjunction fs) x c = subst (λ l. Contains l x) (sym (or fs)) c
  from_disjuncts (atom name terms) x c = of_alone (atom name terms) x c
  from_disjuncts (test t) x c = of_alone (test t) x c
  from_disjuncts (sorted s v) x c = of_alone (sorted s v) x c
  from_disjuncts (negation f) x c = of_alone (negation f) x c
  from_disjuncts (conjunction fs) x c = of_alone (conjunction fs) x c
  from_disjuncts (implication f g) x c = of_alone (implication f g) x c
  from_disjuncts (exists v s f) x c = of_alone (exists v s f) x c
  from_disjuncts (forall v s f) x c = of_alone (forall v s f) x c

  pub some_disjunct : (f : Form) (x : X) → Contains (of f) x → (g : Form) × Contains (as_list (disjuncts f)) g × Contains (of g) x
  some_disjunct f x c = of_each (disjuncts f) x (to_disjuncts f x c)

  pub of_disjunct : (f g : Form) (x : X) → Contains (as_list (disjuncts f)) g → Contains (of g) x → Contains (of f) x
  of_disjunct f g x i c = from_disjuncts f x (in_each (disjuncts f) g x i c)

-- ---- periods in a disjunct

module _ (db : List Relation) where
  abbrev rows_periods : Identifier → List ℕ
  rows_periods name = flat_map row_periods (rows_of db name)

  -- one of an atom's rows, or one of a test
  abbrev HasPeriod : Forms → ℕ → Type 0
  HasPeriod fs k = ((a : Atom) × Contains (atoms_each fs) a × Contains (rows_periods a.name) k) ⊎ ((t : Test) × Contains (tests_among fs) t × Contains (test_periods t) k)

  after_atom : (name : Identifier) (ts : List Term) (fs : Forms) (k : ℕ) → HasPeriod fs k → HasPeriod (form (atom name ts) fs) k
  after_atom name ts fs k h = elim h [
    | inl x ↦ inl (x.0, contains_later (record { name = name; terms = ts }) x.0 (atoms_each fs) x.1, x.2)
    | inr x ↦ inr x
  ]

  after_test : (t : Test) (fs : Forms) (k : ℕ) → HasPeriod fs k → HasPeriod (form (test t) fs) k
  after_test t fs k h = elim h [
    | inl x ↦ inl x
    | inr x ↦ inr (x.0, contains_later t x.0 (tests_among fs) x.1, x.2)
  ]

  period_in : (fs : Forms) (k : ℕ) → some_passes is_neither fs ≡ false → Contains (periods_each fs db) k → HasPeriod fs k
  period_in no_forms k e c = absurd (nowhere k c)
  period_in (form (atom name ts) fs) k e c = elim (in_one (rows_periods name) (periods_each fs db) k c) [
    | inl d ↦ inl (record { name = name; terms = ts }, contains_first (record { name = name; terms = ts }) (atoms_each fs), d)
    | inr d ↦ after_atom name ts fs k (period_in fs k e d)
  ]
  period_in (form (test t) fs) k e c = elim (in_one (test_periods t) (periods_each fs db) k c) [
    | inl d ↦ inr (t, contains_first t (tests_among fs), d)
    | inr d ↦ after_test t fs k (period_in fs k e d)
  ]
  period_in (form (sorted s v) fs) k e c = absurd (false≢true (sym e))
  period_in (form (negation f) fs) k e c = absurd (false≢true (sym e))
  period_in (form (conjunction gs) fs) k e c = absurd (false≢true (sym e))
  period_in (form (disjunction gs) fs) k e c = absurd (false≢true (sym e))
  period_in (form (implication f g) fs) k e c = absurd (false≢true (sym e))
  period_in (form (exists v s f) fs) k e c = absurd (false≢true (sym e))
  period_in (form (forall v s f) fs) k e c = absurd (false≢true (sym e))

  period_of : (fs : Forms) (k : ℕ) → some_passes is_neither fs ≡ false → HasPeriod fs k → Contains (periods_each fs db) k
  period_of no_forms k e h = elim h [ inl x ↦ absurd (nowhere x.0 x.1) | inr x ↦ absurd (nowhere x.0 x.1) ]
  period_of (form (atom name ts) fs) k e h = elim h [
    | inl x ↦ elim (cons_cases (record { name = name; terms = ts }) x.0 (atoms_each fs) x.1) [
      | inl s ↦ in_left (rows_periods name) (periods_each fs db) k (subst (λ (a : Atom). Contains (rows_periods a.name) k) (sym s) x.2)
      | inr d ↦ in_right (rows_periods name) (periods_each fs db) k (period_of fs k e (inl (x.0, d, x.2)))
    ]
    | inr x ↦ in_right (rows_periods name) (periods_each fs db) k (period_of fs k e (inr x))
  ]
  period_of (form (test t) fs) k e h = elim h [
    | inl x ↦ in_right (test_periods t) (periods_each fs db) k (period_of fs k e (inl x))
    | inr x ↦ elim (cons_cases t x.0 (tests_among fs) x.1) [
      | inl s ↦ in_left (test_periods t) (periods_each fs db) k (subst (λ u. Contains (test_periods u) k) (sym s) x.2)
      | inr d ↦ in_right (test_periods t) (periods_each fs db) k (period_of fs k e (inr (x.0, d, x.2)))
    ]
  ]
  period_of (form (sorted s v) fs) k e h = absurd (false≢true (sym e))
  period_of (form (negation f) fs) k e h = absurd (false≢true (sym e))
  period_of (form (conjunction gs) fs) k e h = absurd (false≢true (sym e))
  period_of (form (disjunction gs) fs) k e h = absurd (false≢true (sym e))
  period_of (form (implication f g) fs) k e h = absurd (false≢true (sym e))
  period_of (form (exists v s f) fs) k e h = absurd (false≢true (sym e))
  period_of (form (forall v s f) fs) k e h = absurd (false≢true (sym e))

  to_elements : (f : Form) (k : ℕ) → Contains (periods f db) k → Contains (periods_each (kept_elements f) db) k
  to_elements (exists v s f) k c = to_elements f k c
  to_elements (conjunction fs) k c = c
  to_elements (atom name ts) k c = in_left (periods (atom name ts) db) [] k c
  to_elements (test t) k c = in_left (periods (test t) db) [] k c
  to_elements (sorted s v) k c = in_left (periods (sorted s v) db) [] k c
  to_elements (negation f) k c = in_left (periods (negation f) db) [] k c
  to_elements (disjunction fs) k c = in_left (periods (disjunction fs) db) [] k c
  to_elements (implication f g) k c = in_left (periods (implication f g) db) [] k c
  to_elements (forall v s f) k c = in_left (periods (forall v s f) db) [] k c

  in_first : (ks : List ℕ) (k : ℕ) → Contains (ks ++ []) k → Contains ks k
  in_first ks k c = elim (in_one ks [] k c) [ inl d ↦ d | inr d ↦ absurd (nowhere k d) ]

  from_elements : (f : Form) (k : ℕ) → Contains (periods_each (kept_elements f) db) k → Contains (periods f db) k
  from_elements (exists v s f) k c = from_elements f k c
  from_elements (conjunction fs) k c = c
  from_elements (atom name ts) k c = in_first (periods (atom name ts) db) k c
  from_elements (test t) k c = in_first (periods (test t) db) k c
  from_elements (sorted s v) k c = in_first (periods (sorted s v) db) k c
  from_elements (negation f) k c = in_first (periods (negation f) db) k c
  from_elements (disjunction fs) k c = in_first (periods (disjunction fs) db) k c
  from_elements (implication f g) k c = in_first (periods (implication f g) db) k c
  from_elements (forall v s f) k c = in_first (periods (forall v s f) db) k c

-- ---- a query and its disjuncts

-- what some atom reads is among all that is read
pub read_in : (ds : List Disjunct) (db : List Relation) (n i k : ℕ) → i < n → Contains (periods_at ds i (slice_get db i)) k → Contains (read_periods ds db n) k
read_in ds db zero i k l c = absurd (omega (arith, l))
read_in ds db (suc n) i k l c = elim (eq_or i n) [
  | inl e ↦ in_right (read_periods ds db n) (periods_at ds n (slice_get db n)) k (subst (λ m. Contains (periods_at ds m (slice_get db m)) k) e c)
  | inr d ↦ in_left (read_periods ds db n) (periods_at ds n (slice_get db n)) k (read_in ds db n i k (omega (arith, l, d)) c)
]

module _ (names : List Identifier) (q : Question) (ds : List Disjunct) (are : AreDisjunctsOf names q ds) (distinct : AreDistinct names) where
  abbrev core : Form
  core = positive q.body false

  -- an atom of the body is one of some disjunct
  pub joined_atom : (a : Atom) → Contains (atoms q.body) a → (d : Disjunct) × Contains ds d × (j : JoinedAtom) × Contains d.atoms.items j × IsAtomOf names a j
  joined_atom a c =
      let x = some_disjunct atoms atoms_each refl (λ f fs. refl) (λ fs. refl) core a (core_atom [] q.body a c) in
      let z = zip_in (IsDisjunctOf names) (listed_disjuncts q) ds x.0 are.each x.1 in
      let w = zip_in (IsAtomOf names) (atoms x.0) z.0.atoms.items a z.2.atoms_are x.2 in
      (z.0, z.1, w.0, w.1, w.2)

  -- and an atom of a disjunct is one of the body
  pub atom_of_joined : (d : Disjunct) (j : JoinedAtom) → Contains ds d → Contains d.atoms.items j → (a : Atom) × Contains (atoms q.body) a × IsAtomOf names a j
  atom_of_joined d j c i =
      let z = zip_of (IsDisjunctOf names) (listed_disjuncts q) ds d are.each c in
      let w = zip_of (IsAtomOf names) (atoms z.0) d.atoms.items j z.2.atoms_are i in
      (w.0, of_core_atom [] q.body w.0 (of_disjunct atoms atoms_each refl (λ f fs. refl) (λ fs. refl) core z.0 w.0 z.1 w.1), w.2)

  -- the body names a relation just where some atom reads its number
  pub reads : (relation : ℕ) (name : Identifier) → slice_get names relation ≡ Some name → names_relation q.body name ≡ list_any (is_reader relation) ds
  reads relation name at = both_or_none (names_relation q.body name) (list_any (is_reader relation) ds)
      (λ e.
      let x = any_of (λ (a : Atom). bytes_eq a.name name) (atoms q.body) e in
      let y = joined_atom x.0 x.1 in
      let same : x.0.name ≡ name = (bytes_decides x.0.name name).0 x.2 in
      let here : y.2.relation ≡ relation = one_place names y.2.relation relation name distinct (y.4.name ∙ ap (λ n. Some n) same) at in
      any_at (is_reader relation) ds y.0 y.1 (any_at (λ (j : JoinedAtom). j.relation == relation) y.0.atoms.items y.2 y.3 (subst (λ n. (n == relation) ≡ true) (sym here) (equal_self relation))))
      (λ e.
      let x = any_of (is_reader relation) ds e in
      let w = any_of (λ (j : JoinedAtom). j.relation == relation) x.0.atoms.items x.2 in
      let y = atom_of_joined x.0 w.0 x.1 w.1 in
      let here : w.0.relation ≡ relation = eqb-true w.0.relation relation w.2 in
      let same : y.0.name ≡ name = some_is y.0.name name (sym y.2.name ∙ ap (slice_get names) here ∙ at) in
      any_at (λ (a : Atom). bytes_eq a.name name) (atoms q.body) y.0 y.1 (ap (λ n. bytes_eq n name) same ∙ own_name name))

  -- ---- periods

  module _ (db : List Relation) (named : map (λ (r : Relation). r.name) db ≡ names) (literal : (f : Form) → Contains (listed_disjuncts q) f → some_passes is_neither (kept_elements f) ≡ false) where
    abbrev all_periods : List ℕ
    all_periods = flat_map tested_periods ds ++ read_periods ds db (length db)

    found : (rs : List Relation) (i : ℕ) (r : Relation) → AreDistinct (map (λ (r : Relation). r.name) rs) → slice_get rs i ≡ Some r → relation_named rs r.name ≡ Some r
    found [] i r d e = absurd (none_some r e)
    found (s ∷ rs) zero r d e = subst (λ (x : Relation). (if bytes_eq s.name x.name then Some s else relation_named rs x.name) ≡ Some x) (some_is s r e) (by (bytes_eq s.name s.name) (own_name s.name))
      where
        by : (b : Bool) → b ≡ true → (if b then Some s else relation_named rs s.name) ≡ Some s
        by true t = refl
        by false t = cc
    found (s ∷ rs) (suc i) r d e = by (bytes_eq s.name r.name) (other_name s.name r.name (λ same. not_later rs i d.0 e (sym same))) (found rs i r d.1 e)
      where
        not_later : (xs : List Relation) (k : ℕ) → AllByRecursion (λ m. s.name ≢ m) (map (λ (x : Relation). x.name) xs) → slice_get xs k ≡ Some r → s.name ≡ r.name → ⊥
        not_later [] k all e same = none_some r e
        not_later (x ∷ xs) zero all e same = all.0 (same ∙ ap (λ (y : Relation). y.name) (sym (some_is x r e)))
        not_later (x ∷ xs) (suc k) all e same = not_later xs k all.1 e same

        by : (b : Bool) → b ≡ false → relation_named rs r.name ≡ Some r → (if b then Some s else relation_named rs r.name) ≡ Some r
        by true t rest = cc
        by false t rest = rest

    -- the relation of a number
    rows_at : (relation : ℕ) (name : Identifier) → slice_get names relation ≡ Some name → (r : Relation) × (slice_get db relation ≡ Some r) × (rows_of db name ≡ r.rows)
    rows_at relation name at =
        let x = at_mapped (λ (r : Relation). r.name) db relation name (subst (λ ns. slice_get ns relation ≡ Some name) (sym named) at) in
        (x.0, x.1, ap (λ n. rows_of db n) (sym x.2) ∙ ap rows_in (found db relation x.0 (subst AreDistinct (sym named) distinct) x.1))

    of_read : (n k : ℕ) → Contains (read_periods ds db n) k → (i : ℕ) × Contains (periods_at ds i (slice_get db i)) k
    of_read zero k c = absurd (nowhere k c)
    of_read (suc n) k c = elim (in_one (read_periods ds db n) (periods_at ds n (slice_get db n)) k c) [ inl d ↦ of_read n k d | inr d ↦ (n, d) ]

    from_at : (i : ℕ) (o : Option Relation) (k : ℕ) → Contains (periods_at ds i o) k → (r : Relation) × (o ≡ Some r) × (list_any (is_reader i) ds ≡ true) × Contains (flat_map row_periods r.rows) k
    from_at i None k c = absurd (nowhere k c)
    from_at i (Some r) k c = by (list_any (is_reader i) ds) refl c
      where
        by : (b : Bool) → list_any (is_reader i) ds ≡ b → Contains (if b then flat_map row_periods r.rows else []) k → (s : Relation) × (Some r ≡ Some s) × (list_any (is_reader i) ds ≡ true) × Contains (flat_map row_periods s.rows) k
        by true e d = (r, refl, e, d)
        by false e d = absurd (nowhere k d)

    to_at : (i : ℕ) (r : Relation) (k : ℕ) → list_any (is_reader i) ds ≡ true → Contains (flat_map row_periods r.rows) k → Contains (periods_at ds i (Some r)) k
    to_at i r k e c = subst (λ b. Contains (if b then flat_map row_periods r.rows else []) k) (sym e) c

    -- a period of the disjunct
    of_form : (f : Form) (d : Disjunct) → Contains (listed_disjuncts q) f → Contains ds d → IsDisjunctOf names f d → (k : ℕ) → Contains (periods f db) k → Contains all_periods k
    of_form f d listed c is k i = elim (period_in db (kept_elements f) k (literal f listed) (to_elements db f k i)) [
      | inl x ↦
          let w = zip_in (IsAtomOf names) (atoms f) d.atoms.items x.0 is.atoms_are (subst (λ l. Contains l x.0) (sym (atoms_are f)) x.1) in
          let r = rows_at w.0.relation x.0.name w.2.name in
          let read : list_any (is_reader w.0.relation) ds ≡ true = any_at (is_reader w.0.relation) ds d c (any_at (λ (j : JoinedAtom). j.relation == w.0.relation) d.atoms.items w.0 w.1 (equal_self w.0.relation)) in
          in_right (flat_map tested_periods ds) (read_periods ds db (length db)) k (read_in ds db (length db) w.0.relation k (within db w.0.relation r.0 r.1)
          (subst (λ o. Contains (periods_at ds w.0.relation o) k) (sym r.1) (to_at w.0.relation r.0 k read (subst (λ rows. Contains (flat_map row_periods rows) k) r.2 x.2))))
      | inr x ↦ in_left (flat_map tested_periods ds) (read_periods ds db (length db)) k (in_flat tested_periods ds d k c (in_flat test_periods d.tests x.0 k (subst (λ l. Contains l x.0) (sym is.tests_are) x.1) x.2))
    ]

    pub periods_to : (k : ℕ) → Contains (periods q.body db) k → Contains all_periods k
    periods_to k c =
        let x = some_disjunct (λ f. periods f db) (λ fs. periods_each fs db) refl (λ f fs. refl) (λ fs. refl) core k (core_period db q.body k c) in
        let z = zip_in (IsDisjunctOf names) (listed_disjuncts q) ds x.0 are.each x.1 in
        of_form x.0 z.0 x.1 z.1 z.2 k x.2

    into_body : (f : Form) (k : ℕ) → Contains (listed_disjuncts q) f → HasPeriod db (kept_elements f) k → Contains (periods q.body db) k
    into_body f k listed h = of_core_period db q.body k (of_disjunct (λ f. periods f db) (λ fs. periods_each fs db) refl (λ f fs. refl) (λ fs. refl) core f k listed (from_elements db f k (period_of db (kept_elements f) k (literal f listed) h)))

    pub periods_from : (k : ℕ) → Contains all_periods k → Contains (periods q.body db) k
    periods_from k c = elim (in_one (flat_map tested_periods ds) (read_periods ds db (length db)) k c) [
      | inl i ↦
          let d = from_flat tested_periods ds k i in
          let t = from_flat test_periods d.0.tests k d.2 in
          let z = zip_of (IsDisjunctOf names) (listed_disjuncts q) ds d.0 are.each d.1 in
          into_body z.0 k z.1 (inr (t.0, subst (λ l. Contains l t.0) z.2.tests_are t.1, t.2))
      | inr i ↦
          let x = of_read (length db) k i in
          let y = from_at x.0 (slice_get db x.0) k x.1 in
          let d = any_of (is_reader x.0) ds y.2 in
          let j = any_of (λ (j : JoinedAtom). j.relation == x.0) d.0.atoms.items d.2 in
          let z = zip_of (IsDisjunctOf names) (listed_disjuncts q) ds d.0 are.each d.1 in
          let a = zip_of (IsAtomOf names) (atoms z.0) d.0.atoms.items j.0 z.2.atoms_are j.1 in
          let r = rows_at j.0.relation a.0.name a.2.name in
          let here : j.0.relation ≡ x.0 = eqb-true j.0.relation x.0 j.2 in
          let same : r.0 ≡ y.0 = some_is r.0 y.0 (sym r.1 ∙ ap (slice_get db) here ∙ y.1) in
          into_body z.0 k z.1 (inl (a.0, subst (λ l. Contains l a.0) (atoms_are z.0) a.1, subst (λ rows. Contains (flat_map row_periods rows) k) (sym (r.2 ∙ ap (λ (s : Relation). s.rows) same)) y.3))
    ]

-- ---- points of tests

points_of_tests : (fs : Forms) (t : Test) (p : RowPoint) → Contains (tests_among fs) t → Contains (test_points t) p → Contains (points_each fs) p
points_of_tests no_forms t p c i = absurd (nowhere t c)
points_of_tests (form (test u) fs) t p c i = elim (cons_cases u t (tests_among fs) c) [
  | inl e ↦ in_left (test_points u) (points_each fs) p (subst (λ x. Contains (test_points x) p) (sym e) i)
  | inr d ↦ in_right (test_points u) (points_each fs) p (points_of_tests fs t p d i)
]
points_of_tests (form (atom name ts) fs) t p c i = points_of_tests fs t p c i
points_of_tests (form (sorted s v) fs) t p c i = points_of_tests fs t p c i
points_of_tests (form (negation f) fs) t p c i = in_right (points f) (points_each fs) p (points_of_tests fs t p c i)
points_of_tests (form (conjunction gs) fs) t p c i = in_right (points_each gs) (points_each fs) p (points_of_tests fs t p c i)
points_of_tests (form (disjunction gs) fs) t p c i = in_right (points_each gs) (points_each fs) p (points_of_tests fs t p c i)
points_of_tests (form (implication f g) fs) t p c i = in_right (points f ++ points g) (points_each fs) p (points_of_tests fs t p c i)
points_of_tests (form (exists v s f) fs) t p c i = in_right (points f) (points_each fs) p (points_of_tests fs t p c i)
points_of_tests (form (forall v s f) fs) t p c i = in_right (points f) (points_each fs) p (points_of_tests fs t p c i)

only_first : (ps : List RowPoint) (p : RowPoint) → Contains (ps ++ []) p → Contains ps p
only_first ps p c = elim (in_one ps [] p c) [ inl d ↦ d | inr d ↦ absurd (nowhere p d) ]

points_of_elements : (f : Form) (p : RowPoint) → Contains (points_each (kept_elements f)) p → Contains (points f) p
points_of_elements (exists v s f) p c = points_of_elements f p c
points_of_elements (conjunction fs) p c = c
points_of_elements (atom name ts) p c = only_first [] p c
points_of_elements (test t) p c = only_first (test_points t) p c
points_of_elements (sorted s v) p c = only_first [] p c
points_of_elements (negation f) p c = only_first (points f) p c
points_of_elements (disjunction fs) p c = only_first (points_each fs) p c
points_of_elements (implication f g) p c = only_first (points f ++ points g) p c
points_of_elements (forall v s f) p c = only_first (points f) p c

-- the point of a disjunct's test is one of the body
pub tested_point : (q : Question) (f : Form) (t : Test) (p : RowPoint) → Contains (listed_disjuncts q) f → Contains (disjunct_tests f) t → Contains (test_points t) p → Contains (points q.body) p
tested_point q f t p listed c i =
    let core : Form = positive q.body false in
    all_of (Contains (points q.body)) (points core) p (marked_points core q.body [] (marks_from [] q.body))
    (of_disjunct points points_each refl (λ f fs. refl) (λ fs. refl) core f p listed (points_of_elements f p (points_of_tests (kept_elements f) t p c i)))
