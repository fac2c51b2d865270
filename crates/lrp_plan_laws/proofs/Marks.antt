-- What a formula names beside variables: periods, the points of `in` tests, and atoms. The marks of all in one list.
use Rattle.std.proofs.Common.{◌≡◌, ◌∙◌, ⊎_elim, ap, refl, ℕ, List, [], ◌∷◌, ◌++◌, Contains, subst, map, flat_map, append-nil}
use Rattle.std.proofs.lemmas.Grind.{flat_map-append}
use Rattle.std.specs.List.{AllByRecursion}
use Rattle.lrp_model.specs.Texts.{Identifier}
use Rattle.lrp_model.specs.Rows.{rows_of}
use Rattle.lrp_model.specs.Formulas.{Form, Forms, atom, test, sorted, negation, conjunction, disjunction, implication, exists, forall, no_forms, form}
use Rattle.lrp_model.specs.Periods.{value_periods, test_periods, periods, periods_each}
use Rattle.lrp_model.specs.declared.relations.Relation.{Relation}
use Rattle.lrp_model.specs.declared.relations.RowPoint.{RowPoint}
use Rattle.lrp_model.specs.declared.formulas.Term.{Term}
use Rattle.lrp_model.proofs.Decided.{cons_cases, contains_none}
use Rattle.lrp_model.proofs.Logic.{all_append}
use Rattle.lrp_plan_laws.specs.Atoms.{Atom, atoms, atoms_each}
use Rattle.lrp_model.specs.TestPoints.{test_points, points, points_each}
use Rattle.lrp_plan_laws.proofs.Members.{all_map, all_self, in_right}

pub data Mark : Type 0 where
  of_period : ℕ → Mark
  of_point : RowPoint → Mark
  of_atom : Atom → Mark

abbrev mutual
  -- the marks of a formula
  pub marks : Form → List Relation → List Mark
  marks (atom name terms) db = of_atom (record { name = name; terms = terms }) ∷ map of_period (flat_map (λ row. flat_map value_periods row.values) (rows_of db name))
  marks (test t) db = map of_period (test_periods t) ++ map of_point (test_points t)
  marks (sorted s v) db = []
  marks (negation f) db = marks f db
  marks (conjunction fs) db = marks_each fs db
  marks (disjunction fs) db = marks_each fs db
  marks (implication f g) db = marks f db ++ marks g db
  marks (exists v s f) db = marks f db
  marks (forall v s f) db = marks f db

  -- and of each of a list
  pub marks_each : Forms → List Relation → List Mark
  marks_each no_forms db = []
  marks_each (form f fs) db = marks f db ++ marks_each fs db

-- ---- what is picked of marks

abbrev period_of : Mark → List ℕ
period_of (of_period k) = k ∷ []
period_of (of_point p) = []
period_of (of_atom a) = []

abbrev point_of : Mark → List RowPoint
point_of (of_period k) = []
point_of (of_point p) = p ∷ []
point_of (of_atom a) = []

abbrev atom_of : Mark → List Atom
atom_of (of_period k) = []
atom_of (of_point p) = []
atom_of (of_atom a) = a ∷ []

-- of marks that pick what they are of, that is picked
picked_own : {A : Type 0} (mark : A → Mark) (pick : Mark → List A) → ((a : A) → pick (mark a) ≡ a ∷ []) → (xs : List A) → flat_map pick (map mark xs) ≡ xs
picked_own mark pick own [] = refl
picked_own mark pick own (x ∷ xs) = rw (own x, picked_own mark pick own xs) refl

-- of marks of another kind nothing is
picked_none : {A B : Type 0} (mark : B → Mark) (pick : Mark → List A) → ((b : B) → pick (mark b) ≡ []) → (ys : List B) → flat_map pick (map mark ys) ≡ []
picked_none mark pick none [] = refl
picked_none mark pick none (y ∷ ys) = rw (none y, picked_none mark pick none ys) refl

-- what is picked of two lists of marks
picked_both : {A : Type 0} (pick : Mark → List A) (ms ns : List Mark) (xs ys : List A) → flat_map pick ms ≡ xs → flat_map pick ns ≡ ys → flat_map pick (ms ++ ns) ≡ xs ++ ys
picked_both pick ms ns xs ys e d = rw (flat_map-append pick ms ns, e, d) refl

-- what is picked of one of the marks is among what is picked of them all
picked_one : {A : Type 0} (pick : Mark → List A) (ms : List Mark) (m : Mark) → Contains ms m → AllByRecursion (Contains (flat_map pick ms)) (pick m)
picked_one pick [] m c = absurd (contains_none m c)
picked_one pick (n ∷ ns) m c =
    let rest = flat_map pick ns in
    ⊎_elim (λ e. subst (λ o. AllByRecursion (Contains (pick n ++ rest)) (pick o)) e ((all_append (Contains (pick n ++ rest)) (pick n) rest).0 (all_self (pick n ++ rest))).0)
    (λ d. all_map (Contains rest) (Contains (pick n ++ rest)) (pick m) (λ a k. in_right (pick n) rest a k) (picked_one pick ns m d))
    (cons_cases n m ns c)

-- what is picked of marks that are among others is among what is picked of those
picked_among : {A : Type 0} (pick : Mark → List A) (ms ns : List Mark) → AllByRecursion (Contains ns) ms → AllByRecursion (Contains (flat_map pick ns)) (flat_map pick ms)
picked_among pick [] ns h = tt
picked_among pick (m ∷ ms) ns h = (all_append (Contains (flat_map pick ns)) (pick m) (flat_map pick ms)).1 (picked_one pick ns m h.0, picked_among pick ms ns h.1)

-- the same where it is known what is picked
among : {A : Type 0} (pick : Mark → List A) (ms ns : List Mark) (xs ys : List A) → flat_map pick ms ≡ xs → flat_map pick ns ≡ ys → AllByRecursion (Contains ns) ms → AllByRecursion (Contains ys) xs
among pick ms ns xs ys e d h = subst (λ l. AllByRecursion (Contains l) xs) d (subst (AllByRecursion (Contains (flat_map pick ns))) e (picked_among pick ms ns h))

-- ---- of the marks of a formula its periods, points and atoms are picked

mutual
  -- the periods of a formula
  picked_periods : (f : Form) (db : List Relation) → flat_map period_of (marks f db) ≡ periods f db
  picked_periods (atom name terms) db = picked_own of_period period_of (λ k. refl) (periods (atom name terms) db)
  picked_periods (test t) db =
      picked_both period_of (map of_period (test_periods t)) (map of_point (test_points t)) (test_periods t) [] (picked_own of_period period_of (λ k. refl) (test_periods t)) (picked_none of_point period_of (λ p. refl) (test_points t))
      ∙ append-nil (test_periods t)
  picked_periods (sorted s v) db = refl
  picked_periods (negation f) db = picked_periods f db
  picked_periods (conjunction fs) db = picked_periods_each fs db
  picked_periods (disjunction fs) db = picked_periods_each fs db
  picked_periods (implication f g) db = picked_both period_of (marks f db) (marks g db) (periods f db) (periods g db) (picked_periods f db) (picked_periods g db)
  picked_periods (exists v s f) db = picked_periods f db
  picked_periods (forall v s f) db = picked_periods f db

  -- and of a list of formulas
  picked_periods_each : (fs : Forms) (db : List Relation) → flat_map period_of (marks_each fs db) ≡ periods_each fs db
  picked_periods_each no_forms db = refl
  picked_periods_each (form f fs) db = picked_both period_of (marks f db) (marks_each fs db) (periods f db) (periods_each fs db) (picked_periods f db) (picked_periods_each fs db)

mutual
  -- the points of a formula
  picked_points : (f : Form) (db : List Relation) → flat_map point_of (marks f db) ≡ points f
  picked_points (atom name terms) db = picked_none of_period point_of (λ k. refl) (periods (atom name terms) db)
  picked_points (test t) db = picked_both point_of (map of_period (test_periods t)) (map of_point (test_points t)) [] (test_points t) (picked_none of_period point_of (λ k. refl) (test_periods t)) (picked_own of_point point_of (λ p. refl) (test_points t))
  picked_points (sorted s v) db = refl
  picked_points (negation f) db = picked_points f db
  picked_points (conjunction fs) db = picked_points_each fs db
  picked_points (disjunction fs) db = picked_points_each fs db
  picked_points (implication f g) db = picked_both point_of (marks f db) (marks g db) (points f) (points g) (picked_points f db) (picked_points g db)
  picked_points (exists v s f) db = picked_points f db
  picked_points (forall v s f) db = picked_points f db

  -- and of a list of formulas
  picked_points_each : (fs : Forms) (db : List Relation) → flat_map point_of (marks_each fs db) ≡ points_each fs
  picked_points_each no_forms db = refl
  picked_points_each (form f fs) db = picked_both point_of (marks f db) (marks_each fs db) (points f) (points_each fs) (picked_points f db) (picked_points_each fs db)

mutual
  -- the atoms of a formula
  picked_atoms : (f : Form) (db : List Relation) → flat_map atom_of (marks f db) ≡ atoms f
  picked_atoms (atom name terms) db = ap (λ l. record { name = name; terms = terms } ∷ l) (picked_none of_period atom_of (λ k. refl) (periods (atom name terms) db))
  picked_atoms (test t) db = picked_both atom_of (map of_period (test_periods t)) (map of_point (test_points t)) [] [] (picked_none of_period atom_of (λ k. refl) (test_periods t)) (picked_none of_point atom_of (λ p. refl) (test_points t))
  picked_atoms (sorted s v) db = refl
  picked_atoms (negation f) db = picked_atoms f db
  picked_atoms (conjunction fs) db = picked_atoms_each fs db
  picked_atoms (disjunction fs) db = picked_atoms_each fs db
  picked_atoms (implication f g) db = picked_both atom_of (marks f db) (marks g db) (atoms f) (atoms g) (picked_atoms f db) (picked_atoms g db)
  picked_atoms (exists v s f) db = picked_atoms f db
  picked_atoms (forall v s f) db = picked_atoms f db

  -- and of a list of formulas
  picked_atoms_each : (fs : Forms) (db : List Relation) → flat_map atom_of (marks_each fs db) ≡ atoms_each fs
  picked_atoms_each no_forms db = refl
  picked_atoms_each (form f fs) db = picked_both atom_of (marks f db) (marks_each fs db) (atoms f) (atoms_each fs) (picked_atoms f db) (picked_atoms_each fs db)

-- ---- what holds of marks

-- a formula whose marks are another's has periods of the other
pub marked_periods : (f g : Form) (db : List Relation) → AllByRecursion (Contains (marks g db)) (marks f db) → AllByRecursion (Contains (periods g db)) (periods f db)
marked_periods f g db h = among period_of (marks f db) (marks g db) (periods f db) (periods g db) (picked_periods f db) (picked_periods g db) h

-- and points of the other
pub marked_points : (f g : Form) (db : List Relation) → AllByRecursion (Contains (marks g db)) (marks f db) → AllByRecursion (Contains (points g)) (points f)
marked_points f g db h = among point_of (marks f db) (marks g db) (points f) (points g) (picked_points f db) (picked_points g db) h

-- an atom whose marks are a formula's is one of its atoms
pub marked_atom : (name : Identifier) (terms : List Term) (g : Form) (db : List Relation) → AllByRecursion (Contains (marks g db)) (marks (atom name terms) db) → Contains (atoms g) (record { name = name; terms = terms })
marked_atom name terms g db h = (among atom_of (marks (atom name terms) db) (marks g db) (atoms (atom name terms)) (atoms g) (picked_atoms (atom name terms) db) (picked_atoms g db) h).0
