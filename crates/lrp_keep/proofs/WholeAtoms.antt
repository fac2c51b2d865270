-- The last atom of a disjunct in kept form: its tests are all, and its texts are of the atoms' terms.
use Rattle.std.proofs.Common.{◌≡◌, ◌≤◌, ◌<◌, ◌-◌, ℕ, suc, true, not, List, [], ◌∷◌, ◌++◌, length, get_or, flat_map, Contains, Option, Some, None, inl, inr, refl, sym, ap, subst, ◌∙◌, length-append, arith}
use Rattle.std.specs.Prelude.{◌&&◌, filter, slice_get}
use Rattle.std.specs.List.{AllZip}
use Rattle.std.proofs.lemmas.Bool.{and_parts, false≢true, or_cases}
use Rattle.std.proofs.lemmas.Option.{slice_get_within, slice_get-get_or}
use Rattle.lrp_model.specs.Formulas.{Form, Forms, atom, test, sorted, negation, conjunction, disjunction, implication, exists, forall, no_forms, form}
use Rattle.lrp_model.specs.Texts.{Identifier}
use Rattle.lrp_model.specs.Variables.{Variable, time_variable, data_variable, is_among, variables_of_term, variables_of_test}
use Rattle.lrp_model.specs.declared.formulas.Term.{Term}
use Rattle.lrp_model.specs.declared.formulas.Test.{Test}
use Rattle.lrp_model.proofs.Decided.{cons_cases, contains_first, contains_none}
use Rattle.lrp_plan_laws.specs.Atoms.{Atom, atoms, atoms_each}
use Rattle.lrp_plan_laws.proofs.Members.{in_left, in_right}
use Rattle.lrp_tables.specs.Columns.{texts_of_term, times_of_term}
use Rattle.lrp_kept.specs.Choices.{tests_among}
use Rattle.lrp_parts.specs.Derivations.{last_atom, atom_tests, atom_texts}
use Rattle.lrp_kept.specs.Disjuncts.{IsAtomOf, IsDisjunctOf, is_test_covered}
use Rattle.lrp_kept.specs.KeptForm.{all_occur, all_pass, kept_elements, is_atom, is_atom_with, is_conjunctive, is_neither, some_passes, tested_variables}
use Rattle.lrp_kept.specs.declared.disjuncts.Disjunct.{Disjunct}
use Rattle.lrp_kept.specs.declared.disjuncts.JoinedAtom.{JoinedAtom}
use Rattle.lrp_parts.proofs.After.{in_kept, kept_test, own_tests, own_texts, own_times, rises, some_terms}
use Rattle.lrp_kept.proofs.DisjunctAtoms.{atoms_are}
use Rattle.lrp_kept.proofs.PartVariables.{all_covered, text_among, time_among}
use Rattle.lrp_keep.proofs.KeptAnswers.{IsWholeAt, zip_at}

-- ---- variables in atoms

-- a variable that occurs in an atom among formulas is a name of one of their atoms
module _ (variable : Identifier → Variable) (names : Term → List Identifier) (among : (ts : List Term) (v : Identifier) → is_among (flat_map variables_of_term ts) (variable v) ≡ true → Contains (flat_map names ts) v) where
  abbrev HasAtom : Forms → Identifier → Type 0
  HasAtom fs v = (a : Atom) × Contains (atoms_each fs) a × Contains (flat_map names a.terms) v

  after : (f : Form) (fs : Forms) (v : Identifier) → HasAtom fs v → HasAtom (form f fs) v
  after f fs v h = (h.0, in_right (atoms f) (atoms_each fs) h.0 h.1, h.2)

  atom_of : (fs : Forms) (v : Identifier) → some_passes (is_atom_with (variable v)) fs ≡ true → HasAtom fs v
  atom_of no_forms v e = absurd (false≢true e)
  atom_of (form (atom name terms) fs) v e = elim (or_cases (is_among (flat_map variables_of_term terms) (variable v)) (some_passes (is_atom_with (variable v)) fs) e) [
    | inl s ↦ (record { name = name; terms = terms }, contains_first (record { name = name; terms = terms }) (atoms_each fs), among terms v s)
    | inr k ↦ after (atom name terms) fs v (atom_of fs v k)
  ]
  atom_of (form (test t) fs) v e = after (test t) fs v (atom_of fs v e)
  atom_of (form (sorted s w) fs) v e = after (sorted s w) fs v (atom_of fs v e)
  atom_of (form (negation f) fs) v e = after (negation f) fs v (atom_of fs v e)
  atom_of (form (conjunction gs) fs) v e = after (conjunction gs) fs v (atom_of fs v e)
  atom_of (form (disjunction gs) fs) v e = after (disjunction gs) fs v (atom_of fs v e)
  atom_of (form (implication f g) fs) v e = after (implication f g) fs v (atom_of fs v e)
  atom_of (form (exists w s f) fs) v e = after (exists w s f) fs v (atom_of fs v e)
  atom_of (form (forall w s f) fs) v e = after (forall w s f) fs v (atom_of fs v e)

-- some formula is an atom, so there is one
some_atom : (fs : Forms) → some_passes is_atom fs ≡ true → 0 < length (atoms_each fs)
some_atom no_forms e = absurd (false≢true e)
some_atom (form (atom name terms) fs) e = omega arith
some_atom (form (test t) fs) e = some_atom fs e
some_atom (form (sorted s v) fs) e = some_atom fs e
some_atom (form (negation f) fs) e = let r = some_atom fs e in let l = length-append (atoms f) (atoms_each fs) in omega (arith, r, l)
some_atom (form (conjunction gs) fs) e = let r = some_atom fs e in let l = length-append (atoms_each gs) (atoms_each fs) in omega (arith, r, l)
some_atom (form (disjunction gs) fs) e = let r = some_atom fs e in let l = length-append (atoms_each gs) (atoms_each fs) in omega (arith, r, l)
some_atom (form (implication f g) fs) e = let r = some_atom fs e in let l = length-append (atoms f ++ atoms g) (atoms_each fs) in omega (arith, r, l)
some_atom (form (exists v s f) fs) e = let r = some_atom fs e in let l = length-append (atoms f) (atoms_each fs) in omega (arith, r, l)
some_atom (form (forall v s f) fs) e = let r = some_atom fs e in let l = length-append (atoms f) (atoms_each fs) in omega (arith, r, l)

-- ---- tests

-- the variables of each test occur
test_occurs : (fs gs : Forms) (t : Test) → all_pass (λ g. all_occur fs (tested_variables g)) gs ≡ true → Contains (tests_among gs) t → all_occur fs (variables_of_test t) ≡ true
test_occurs fs no_forms t e c = absurd (contains_none t c)
test_occurs fs (form (test u) gs) t e c =
    let r = and_parts (all_occur fs (variables_of_test u)) (all_pass (λ g. all_occur fs (tested_variables g)) gs) e in
    elim (cons_cases u t (tests_among gs) c) [ inl s ↦ subst (λ x. all_occur fs (variables_of_test x) ≡ true) s r.0 | inr d ↦ test_occurs fs gs t r.1 d ]
test_occurs fs (form (atom name terms) gs) t e c = test_occurs fs gs t e c
test_occurs fs (form (sorted s v) gs) t e c = test_occurs fs gs t e c
test_occurs fs (form (negation f) gs) t e c = test_occurs fs gs t e c
test_occurs fs (form (conjunction hs) gs) t e c = test_occurs fs gs t e c
test_occurs fs (form (disjunction hs) gs) t e c = test_occurs fs gs t e c
test_occurs fs (form (implication f g) gs) t e c = test_occurs fs gs t e c
test_occurs fs (form (exists v s f) gs) t e c = test_occurs fs gs t e c
test_occurs fs (form (forall v s f) gs) t e c = test_occurs fs gs t e c

-- ---- the last atom

some_is_not : {X : Type 0} (a : X) → Some a ≡ None → ⊥
some_is_not a e = cc

-- the last element stands somewhere
somewhere : (js : List JoinedAtom) → 0 < length js → slice_get js (length js - 1) ≡ None → ⊥
somewhere [] low e = omega (arith, low)
somewhere (j ∷ js) low e = some_is_not (get_or (j ∷ js) (length (j ∷ js) - 1) j) (sym (slice_get-get_or (j ∷ js) (length (j ∷ js) - 1) j (omega arith)) ∙ e)

zip_length : {X Y : Type 0} (R : X → Y → Type 0) (xs : List X) (ys : List Y) → AllZip R xs ys → length ys ≡ length xs
zip_length R [] [] h = refl
zip_length R [] (z ∷ ys) h = absurd h
zip_length R (z ∷ xs) [] h = absurd h
zip_length R (z ∷ xs) (w ∷ ys) h = ap suc (zip_length R xs ys h.1)

module _ (names : List Identifier) (f : Form) (d : Disjunct) (is : IsDisjunctOf names f d) (kept : is_conjunctive (kept_elements f) ≡ true) where
  tested_too : (not (some_passes is_neither (kept_elements f)) && some_passes is_atom (kept_elements f) ≡ true) × (all_pass (λ g. all_occur (kept_elements f) (tested_variables g)) (kept_elements f) ≡ true)
  tested_too = and_parts (not (some_passes is_neither (kept_elements f)) && some_passes is_atom (kept_elements f)) (all_pass (λ g. all_occur (kept_elements f) (tested_variables g)) (kept_elements f)) kept

  has_atom : some_passes is_atom (kept_elements f) ≡ true
  has_atom = (and_parts (not (some_passes is_neither (kept_elements f))) (some_passes is_atom (kept_elements f)) tested_too.0).1

  all_tested : all_pass (λ g. all_occur (kept_elements f) (tested_variables g)) (kept_elements f) ≡ true
  all_tested = tested_too.1

  pub some_joined : 0 < length d.atoms.items
  some_joined =
      let n = zip_length (IsAtomOf names) (atoms f) d.atoms.items is.atoms_are in
      let m : length (atoms f) ≡ length (atoms_each (kept_elements f)) = ap (λ (all : List Atom). length all) (atoms_are f) in
      let p = some_atom (kept_elements f) has_atom in
      omega (arith, n, m, p)

  module _ (last : JoinedAtom) (at : last_atom d (length d.atoms.items) ≡ Some last) where
    joined_with : (a : Atom) → Contains (atoms_each (kept_elements f)) a → (i : ℕ) × (j : JoinedAtom) × (slice_get d.atoms.items i ≡ Some j) × IsAtomOf names a j
    joined_with a c = zip_at (IsAtomOf names) (atoms f) d.atoms.items a is.atoms_are (subst (λ xs. Contains xs a) (sym (atoms_are f)) c)

    low : (i : ℕ) (j : JoinedAtom) → slice_get d.atoms.items i ≡ Some j → i ≤ length d.atoms.items - 1
    low i j e = let l : i < length d.atoms.items = slice_get_within d.atoms.items i j e in omega (arith, l)

    pub time_known : (v : Identifier) → some_passes (is_atom_with (time_variable v)) (kept_elements f) ≡ true → Contains last.vars.times v
    time_known v e =
        let a = atom_of time_variable times_of_term time_among (kept_elements f) v e in
        let r = joined_with a.0 a.1 in
        let own : Contains r.1.vars.times v = own_times d.tests [] [] d.atoms.items is.joined r.0 r.1 r.2 v (subst (λ ts. Contains (flat_map times_of_term ts) v) (sym r.3.terms) a.2) in
        let b = rises d.tests [] [] d.atoms.items is.joined r.0 (length d.atoms.items - 1) r.1 last (low r.0 r.1 r.2) r.2 at in
        subst (λ ns. Contains ns v) (sym b.times.1) (in_left r.1.vars.times b.times.0 v own)

    pub text_known : (v : Identifier) → some_passes (is_atom_with (data_variable v)) (kept_elements f) ≡ true → Contains last.vars.texts v
    text_known v e =
        let a = atom_of data_variable texts_of_term text_among (kept_elements f) v e in
        let r = joined_with a.0 a.1 in
        let own : Contains r.1.vars.texts v = own_texts d.tests [] [] d.atoms.items is.joined r.0 r.1 r.2 v (subst (λ ts. Contains (flat_map texts_of_term ts) v) (sym r.3.terms) a.2) in
        let b = rises d.tests [] [] d.atoms.items is.joined r.0 (length d.atoms.items - 1) r.1 last (low r.0 r.1 r.2) r.2 at in
        subst (λ ns. Contains ns v) (sym b.texts.1) (in_left r.1.vars.texts b.texts.0 v own)

    last_tests : last.tests ≡ filter (is_test_covered last.vars.times last.vars.texts) d.tests
    last_tests = own_tests d.tests [] [] d.atoms.items is.joined (length d.atoms.items - 1) last at

    tested : (t : Test) → Contains d.tests t → Contains last.tests t
    tested t c =
        let occurs = test_occurs (kept_elements f) (kept_elements f) t all_tested (subst (λ ts. Contains ts t) is.tests_are c) in
        subst (λ ts. Contains ts t) (sym last_tests) (kept_test (is_test_covered last.vars.times last.vars.texts) d.tests t c (all_covered (λ v. some_passes (is_atom_with v) (kept_elements f)) last.vars.times last.vars.texts time_known text_known t occurs))

    whole_at : IsWholeAt d
    whole_at = record {
      some = some_joined;
      tests_to = λ t c. (in_kept (is_test_covered last.vars.times last.vars.texts) d.tests t (subst (λ ts. Contains ts t) last_tests (subst (λ o. Contains (atom_tests o) t) at c))).0;
      tests_from = λ t c. subst (λ o. Contains (atom_tests o) t) (sym at) (tested t c);
      texts = λ v c. elim (some_terms d.tests [] [] d.atoms.items is.joined (length d.atoms.items - 1) last at v (subst (λ o. Contains (atom_texts o) v) at c)) [ inl n ↦ absurd (contains_none v n) | inr r ↦ r ];
    }

  -- there is a last atom
  pub is_whole_at : IsWholeAt d
  is_whole_at = by (last_atom d (length d.atoms.items)) refl
    where
      by : (o : Option JoinedAtom) → last_atom d (length d.atoms.items) ≡ o → IsWholeAt d
      by (Some last) e = whole_at last e
      by None e = absurd (somewhere d.atoms.items some_joined e)
