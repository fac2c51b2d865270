-- The atoms, the tests and the bound variables of a disjunct, one element after another.
use Rattle.std.proofs.Common.{◌≡◌, ◌<◌, ◌+◌, ℕ, Bool, true, false, not, ◌&&◌, Result, Ok, Err, List, [], ◌∷◌, ◌++◌, length, take, get_or, map, refl, sym, ap, subst, ◌∙◌, append_assoc, append-nil}
use Rattle.std.specs.Prelude.{OnOk}
use Rattle.std.proofs.lemmas.Bool.{false≢true}
use Rattle.std.proofs.lemmas.List.{map-append, take_more}
use Rattle.lrp_model.specs.Texts.{Identifier}
use Rattle.lrp_model.specs.Formulas.{Form, Forms, atom, test, sorted, negation, conjunction, disjunction, implication, exists, forall, no_forms, form, joined}
use Rattle.lrp_model.specs.declared.formulas.Term.{Term}
use Rattle.lrp_model.specs.declared.formulas.Test.{Test}
use Rattle.lrp_model.specs.declared.relations.Column.{Column}
use Rattle.lrp_model.specs.declared.relations.Sort.{Sort}
use Rattle.lrp_core.specs.Cores.{core_of, cores_of}
use Rattle.lrp_core.specs.declared.core_forms.Core.{Core}
use Rattle.lrp_core.proofs.CoreViews.{cores_of-append}
use Rattle.lrp_plan_laws.specs.Atoms.{Atom, atoms, atoms_each}
use Rattle.lrp_kept.specs.Choices.{tests_among}
use Rattle.lrp_kept.specs.Disjuncts.{bound_columns}
use Rattle.lrp_kept.specs.Drafts.{AreAdded, IsDisjunctAdded, DraftsDisjunct, atom_in, atoms_among}
use Rattle.lrp_kept.specs.KeptForm.{all_occur, all_pass, kept_elements, is_atom, is_conjunctive, is_neither, some_passes, tested_variables}
use Rattle.lrp_kept.specs.declared.disjuncts.DisjunctDraft.{DisjunctDraft}
use Rattle.lrp_kept.specs.declared.disjuncts.NamedTerms.{NamedTerms}
use Rattle.lrp_kept.proofs.DisjunctAtoms.{atoms_are}

-- ---- elements one after the other

atoms_joined : (fs gs : Forms) → atoms_among (joined fs gs) ≡ atoms_among fs ++ atoms_among gs
atoms_joined no_forms gs = refl
atoms_joined (form (atom name terms) fs) gs = ap (λ xs. record { name = name; terms = terms } ∷ xs) (atoms_joined fs gs)
atoms_joined (form (test t) fs) gs = atoms_joined fs gs
atoms_joined (form (sorted s v) fs) gs = atoms_joined fs gs
atoms_joined (form (negation f) fs) gs = atoms_joined fs gs
atoms_joined (form (conjunction f) fs) gs = atoms_joined fs gs
atoms_joined (form (disjunction f) fs) gs = atoms_joined fs gs
atoms_joined (form (implication f g) fs) gs = atoms_joined fs gs
atoms_joined (form (exists v s f) fs) gs = atoms_joined fs gs
atoms_joined (form (forall v s f) fs) gs = atoms_joined fs gs

tests_joined : (fs gs : Forms) → tests_among (joined fs gs) ≡ tests_among fs ++ tests_among gs
tests_joined no_forms gs = refl
tests_joined (form (atom name terms) fs) gs = tests_joined fs gs
tests_joined (form (test t) fs) gs = ap (λ xs. t ∷ xs) (tests_joined fs gs)
tests_joined (form (sorted s v) fs) gs = tests_joined fs gs
tests_joined (form (negation f) fs) gs = tests_joined fs gs
tests_joined (form (conjunction f) fs) gs = tests_joined fs gs
tests_joined (form (disjunction f) fs) gs = tests_joined fs gs
tests_joined (form (implication f g) fs) gs = tests_joined fs gs
tests_joined (form (exists v s f) fs) gs = tests_joined fs gs
tests_joined (form (forall v s f) fs) gs = tests_joined fs gs

pub none_added : (d : DisjunctDraft) → AreAdded no_forms d d
none_added d = record { atoms = sym (append-nil (map atom_in d.atoms.items)); tests = sym (append-nil d.tests); bound = refl }

added_twice : (fs gs : Forms) (a b c : DisjunctDraft) → AreAdded fs a b → AreAdded gs b c → AreAdded (joined fs gs) a c
added_twice fs gs a b c h k = record {
  atoms = k.atoms ∙ ap (λ xs. xs ++ atoms_among gs) h.atoms ∙ append_assoc (map atom_in a.atoms.items) (atoms_among fs) (atoms_among gs) ∙ ap (λ xs. map atom_in a.atoms.items ++ xs) (sym (atoms_joined fs gs));
  tests = k.tests ∙ ap (λ xs. xs ++ tests_among gs) h.tests ∙ append_assoc a.tests (tests_among fs) (tests_among gs) ∙ ap (λ xs. a.tests ++ xs) (sym (tests_joined fs gs));
  bound = k.bound ∙ h.bound;
}

-- one element more
pub one_added : (cores : List Core) (i : ℕ) (core : Core) (a b c : DisjunctDraft) → i < length cores → core ≡ get_or cores i core → AreAdded (cores_of (take i cores)) a b → AreAdded (form (core_of core) no_forms) b c → AreAdded (cores_of (take (i + 1) cores)) a c
one_added cores i core a b c lt is h k =
    subst (λ fs. AreAdded fs a c) (sym (ap cores_of (take_more cores i core lt ∙ ap (λ x. take i cores ++ x ∷ []) (sym is)) ∙ cores_of-append (take i cores) (core ∷ [])))
    (added_twice (cores_of (take i cores)) (form (core_of core) no_forms) a b c h k)

-- ---- a disjunct

-- what is no `exists` binds nothing
pub one_element : (f : Form) (a b : DisjunctDraft) → kept_elements f ≡ form f no_forms → bound_columns f ≡ [] → AreAdded (form f no_forms) a b → IsDisjunctAdded f a b
one_element f a b e n h = record {
  atoms = h.atoms ∙ ap (λ fs. map atom_in a.atoms.items ++ atoms_among fs) (sym e);
  tests = h.tests ∙ ap (λ fs. a.tests ++ tests_among fs) (sym e);
  bound = h.bound ∙ sym (append-nil a.bound) ∙ ap (λ cs. a.bound ++ cs) (sym n);
}

pub all_elements : (f : Form) (fs : Forms) (a b : DisjunctDraft) → f ≡ conjunction fs → AreAdded fs a b → IsDisjunctAdded f a b
all_elements f fs a b e h = subst (λ g. IsDisjunctAdded g a b) (sym e) (record { atoms = h.atoms; tests = h.tests; bound = h.bound ∙ sym (append-nil a.bound) })

pub bound_added : (f g : Form) (v : Identifier) (s : Sort) (column : Column) (a b c : DisjunctDraft) → f ≡ exists v s g → column ≡ record { name = v; sort = s } → IsDisjunctAdded g a b → c.atoms.items ≡ b.atoms.items → c.tests ≡ b.tests → c.bound ≡ b.bound ++ column ∷ [] → IsDisjunctAdded f a c
bound_added f g v s column a b c e is h x y z = subst (λ f. IsDisjunctAdded f a c) (sym e) added
  where
    columns : c.bound ≡ a.bound ++ bound_columns (exists v s g)
    columns = z ∙ ap (λ cs. cs ++ column ∷ []) h.bound ∙ append_assoc a.bound (bound_columns g) (column ∷ []) ∙ ap (λ k. a.bound ++ (bound_columns g ++ k ∷ [])) is

    added : IsDisjunctAdded (exists v s g) a c
    added = record { atoms = ap (map atom_in) x ∙ h.atoms; tests = y ∙ h.tests; bound = columns }

pub same_column : (v w : Identifier) (s r : Sort) → v ≡ w → s ≡ r → ◌≡◌ {A = Column} (record { name = v; sort = s }) (record { name = w; sort = r })
same_column v w s r e f = ap {B = Column} (λ (n : Identifier). record { name = n; sort = s }) e ∙ ap {B = Column} (λ (k : Sort). record { name = w; sort = k }) f

-- the same of calls that may fail
pub one_element_of : {X Y : Type 0} (o : Result X Y) (f g : Form) (a b : DisjunctDraft) → f ≡ g → kept_elements g ≡ form g no_forms → bound_columns g ≡ [] → OnOk o (AreAdded (form f no_forms) a b) → OnOk o (IsDisjunctAdded f a b)
one_element_of (Ok x) f g a b e i n h = one_element f a b (subst (λ k. kept_elements k ≡ form k no_forms) (sym e) i) (ap bound_columns e ∙ n) h
one_element_of (Err x) f g a b e i n h = tt

pub all_elements_of : {X Y : Type 0} (o : Result X Y) (f : Form) (fs : Forms) (a b : DisjunctDraft) → f ≡ conjunction fs → OnOk o (AreAdded fs a b) → OnOk o (IsDisjunctAdded f a b)
all_elements_of (Ok x) f fs a b e h = all_elements f fs a b e h
all_elements_of (Err x) f fs a b e h = tt

-- from nothing on
pub drafted : (f : Form) (a b : DisjunctDraft) → a.atoms.items ≡ [] → a.tests ≡ [] → a.bound ≡ [] → IsDisjunctAdded f a b → DraftsDisjunct f b
drafted f a b x y z h = record {
  atoms = h.atoms ∙ ap (λ xs. map atom_in xs ++ atoms_among (kept_elements f)) x;
  tests = h.tests ∙ ap (λ xs. xs ++ tests_among (kept_elements f)) y;
  bound = h.bound ∙ ap (λ xs. xs ++ bound_columns f) z;
}

-- ---- the atoms of a disjunct in kept form

own_atoms : (fs : Forms) → some_passes is_neither fs ≡ false → atoms_each fs ≡ atoms_among fs
own_atoms no_forms e = refl
own_atoms (form (atom name terms) fs) e = ap (λ xs. record { name = name; terms = terms } ∷ xs) (own_atoms fs e)
own_atoms (form (test t) fs) e = own_atoms fs e
own_atoms (form (sorted s v) fs) e = absurd (false≢true (sym e))
own_atoms (form (negation f) fs) e = absurd (false≢true (sym e))
own_atoms (form (conjunction f) fs) e = absurd (false≢true (sym e))
own_atoms (form (disjunction f) fs) e = absurd (false≢true (sym e))
own_atoms (form (implication f g) fs) e = absurd (false≢true (sym e))
own_atoms (form (exists v s f) fs) e = absurd (false≢true (sym e))
own_atoms (form (forall v s f) fs) e = absurd (false≢true (sym e))

-- the first of three tests fails
first_false : (a b c : Bool) → (not a && b && c) ≡ true → a ≡ false
first_false false b c e = refl
first_false true b c e = absurd (false≢true e)

pub kept_atoms : (f : Form) → is_conjunctive (kept_elements f) ≡ true → atoms f ≡ atoms_among (kept_elements f)
kept_atoms f e =
    atoms_are f
    ∙ own_atoms (kept_elements f) (first_false (some_passes is_neither (kept_elements f)) (some_passes is_atom (kept_elements f)) (all_pass (λ g. all_occur (kept_elements f) (tested_variables g)) (kept_elements f)) e)

-- ---- one element

pub atom_added : (f : Form) (name : Identifier) (terms : List Term) (n : NamedTerms) (a b : DisjunctDraft) → f ≡ atom name terms → n.name ≡ name → n.terms ≡ terms → b.atoms.items ≡ a.atoms.items ++ n ∷ [] → b.tests ≡ a.tests → b.bound ≡ a.bound → AreAdded (form f no_forms) a b
atom_added f name terms n a b e i j x y z = subst (λ g. AreAdded (form g no_forms) a b) (sym e) added
  where
    same : (k l : Identifier) (ts us : List Term) → k ≡ l → ts ≡ us → ◌≡◌ {A = Atom} (record { name = k; terms = ts }) (record { name = l; terms = us })
    same k l ts us p q = ap {B = Atom} (λ (m : Identifier). record { name = m; terms = ts }) p ∙ ap {B = Atom} (λ (vs : List Term). record { name = l; terms = vs }) q

    listed : map atom_in b.atoms.items ≡ map atom_in a.atoms.items ++ atoms_among (form (atom name terms) no_forms)
    listed = ap (map atom_in) x ∙ map-append atom_in a.atoms.items (n ∷ []) ∙ ap (λ k. map atom_in a.atoms.items ++ k ∷ []) (same n.name name n.terms terms i j)

    added : AreAdded (form (atom name terms) no_forms) a b
    added = record { atoms = listed; tests = y ∙ sym (append-nil a.tests); bound = z }

pub test_added : (f : Form) (t u : Test) (a b : DisjunctDraft) → f ≡ test t → u ≡ t → b.atoms.items ≡ a.atoms.items → b.tests ≡ a.tests ++ u ∷ [] → b.bound ≡ a.bound → AreAdded (form f no_forms) a b
test_added f t u a b e i x y z = subst (λ g. AreAdded (form g no_forms) a b) (sym e) added
  where
    added : AreAdded (form (test t) no_forms) a b
    added = record { atoms = ap (map atom_in) x ∙ sym (append-nil (map atom_in a.atoms.items)); tests = y ∙ ap (λ v. a.tests ++ v ∷ []) i; bound = z }

-- what is neither an atom nor a test adds nothing
pub nothing_added : (f : Form) (d : DisjunctDraft) → atoms_among (form f no_forms) ≡ [] → tests_among (form f no_forms) ≡ [] → AreAdded (form f no_forms) d d
nothing_added f d a t = record {
  atoms = sym (append-nil (map atom_in d.atoms.items)) ∙ ap (λ xs. map atom_in d.atoms.items ++ xs) (sym a);
  tests = sym (append-nil d.tests) ∙ ap (λ xs. d.tests ++ xs) (sym t);
  bound = refl;
}

pub nothing_of : (f g : Form) (d : DisjunctDraft) → f ≡ g → atoms_among (form g no_forms) ≡ [] → tests_among (form g no_forms) ≡ [] → AreAdded (form f no_forms) d d
nothing_of f g d e a t = nothing_added f d (ap (λ k. atoms_among (form k no_forms)) e ∙ a) (ap (λ k. tests_among (form k no_forms)) e ∙ t)
