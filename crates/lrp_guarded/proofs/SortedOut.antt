-- The elements of an `and` sorted out one by one.
use Rattle.std.proofs.Common.{◌≡◌, ◌<◌, ◌≤◌, ◌+◌, ℕ, zero, suc, Bool, true, false, cond, List, [], ◌∷◌, ◌++◌, length, take, map, Some, slice_get, refl, sym, ap, subst, ◌∙◌, append_assoc, append-nil, get_or}
use Rattle.std.specs.List.{AllZip, AllByRecursion}
use Rattle.std.proofs.lemmas.List.{take_more}
use Rattle.lrp_model.specs.RawTerms.{said_term}
use Rattle.lrp_core.specs.Cores.{core_of, cores_of}
use Rattle.lrp_core.specs.FreeVariables.{variable_of}
use Rattle.lrp_core.specs.VariableTrees.{tree_of, trees_of, free_tree}
use Rattle.lrp_core.specs.declared.core_forms.Core.{Core}
use Rattle.lrp_core.specs.declared.variable_trees.VariableTree.{VariableTree}
use Rattle.lrp_core.specs.declared.variable_trees.VariableTree.TheViews.{out-VariableTree}
use Rattle.lrp_core.proofs.CoreViews.{cores_of-append}
use Rattle.lrp_core.proofs.TreeViews.{tree_of-opened, tree_variables}
use Rattle.lrp_model.specs.Texts.{Identifier}
use Rattle.lrp_model.specs.Rows.{rows_of}
use Rattle.lrp_model.specs.Formulas.{Form, Forms, atom, test, sorted, negation, conjunction, disjunction, implication, exists, forall, no_forms, form, joined}
use Rattle.lrp_model.specs.Variables.{free}
use Rattle.lrp_model.specs.Conjunctions.{is_test, tests_in}
use Rattle.lrp_model.specs.declared.relations.Sort.{Sort}
use Rattle.lrp_model.specs.declared.formulas.Term.{Term}
use Rattle.lrp_model.specs.declared.formulas.Test.{Test}
use Rattle.lrp_model.specs.declared.formulas.Test.TheVariants.{Compare, Member, Equal}
use Rattle.lrp_plan_laws.specs.Atoms.{Atom}
use Rattle.lrp_plan_laws.specs.Projections.{PlanGround as Ground}
use Rattle.lrp_plan_laws.specs.GuardedConjunctions.{SortElement, GuardedPart as PartOf}
use Rattle.lrp_plan_laws.specs.GuardedPlans.{atoms_in, sorts_in, others_in, negations_in, as_part, build}
use Rattle.lrp_plan.specs.Drafts.{AreTests}
use Rattle.lrp_plan.specs.Elements.{CanPlan}
use Rattle.lrp_plan.specs.Taking.{HaveSame}
use Rattle.lrp_plan.proofs.Sorting.{zip_join, same_as_once, get_from}
use Rattle.lrp_plan.proofs.Planned.{take_all_of}
use Rattle.lrp_guarded.specs.Standing.{IsAtom, IsSortElement, IsPartOf, IsGuardedPart as IsPart, IsDeniedPart as IsDenied, rows_at, entries_at as texts_at}
use Rattle.lrp_guarded.specs.Sorting.{IsRankedAtom, IsRankedSort, AreSoFar, SortsElements as SortsOut, AddsCheck}
use Rattle.lrp_guarded.specs.declared.elements.RankedAtom.{RankedAtom}
use Rattle.lrp_guarded.specs.declared.elements.RankedSort.{RankedSort}
use Rattle.lrp_guarded.specs.declared.elements.Part.{Part}
use Rattle.lrp_guarded.specs.declared.elements.Elements.{Elements}

-- ---- the elements of each kind, after those before

atoms_push : (gs : Forms) (f : Form) → atoms_in (joined gs (form f no_forms)) ≡ atoms_in gs ++ atoms_in (form f no_forms)
atoms_push no_forms f = refl
atoms_push (form (atom name terms) gs) f = ap (λ xs. record { name = name; terms = terms } ∷ xs) (atoms_push gs f)
atoms_push (form (test t) gs) f = atoms_push gs f
atoms_push (form (sorted s v) gs) f = atoms_push gs f
atoms_push (form (negation g) gs) f = atoms_push gs f
atoms_push (form (conjunction hs) gs) f = atoms_push gs f
atoms_push (form (disjunction hs) gs) f = atoms_push gs f
atoms_push (form (implication g h) gs) f = atoms_push gs f
atoms_push (form (exists v s g) gs) f = atoms_push gs f
atoms_push (form (forall v s g) gs) f = atoms_push gs f

sorts_push : (gs : Forms) (f : Form) → sorts_in (joined gs (form f no_forms)) ≡ sorts_in gs ++ sorts_in (form f no_forms)
sorts_push no_forms f = refl
sorts_push (form (atom name terms) gs) f = sorts_push gs f
sorts_push (form (test t) gs) f = sorts_push gs f
sorts_push (form (sorted s v) gs) f = ap (λ xs. record { sort = s; variable = v } ∷ xs) (sorts_push gs f)
sorts_push (form (negation g) gs) f = sorts_push gs f
sorts_push (form (conjunction hs) gs) f = sorts_push gs f
sorts_push (form (disjunction hs) gs) f = sorts_push gs f
sorts_push (form (implication g h) gs) f = sorts_push gs f
sorts_push (form (exists v s g) gs) f = sorts_push gs f
sorts_push (form (forall v s g) gs) f = sorts_push gs f

negations_push : (gs : Forms) (f : Form) → negations_in (joined gs (form f no_forms)) ≡ negations_in gs ++ negations_in (form f no_forms)
negations_push no_forms f = refl
negations_push (form (atom name terms) gs) f = negations_push gs f
negations_push (form (test t) gs) f = negations_push gs f
negations_push (form (sorted s v) gs) f = negations_push gs f
negations_push (form (negation g) gs) f = ap (λ xs. record { formula = g; rule = build g [] } ∷ xs) (negations_push gs f)
negations_push (form (conjunction hs) gs) f = negations_push gs f
negations_push (form (disjunction hs) gs) f = negations_push gs f
negations_push (form (implication g h) gs) f = negations_push gs f
negations_push (form (exists v s g) gs) f = negations_push gs f
negations_push (form (forall v s g) gs) f = negations_push gs f

others_push : (gs : Forms) (f : Form) → others_in (joined gs (form f no_forms)) ≡ others_in gs ++ others_in (form f no_forms)
others_push no_forms f = refl
others_push (form g gs) f = ap (λ ps. as_part g (build g []) ++ ps) (others_push gs f) ∙ sym (append_assoc (as_part g (build g [])) (others_in gs) (others_in (form f no_forms)))

cond_more : {X : Type 0} (b : Bool) (x : X) (xs ys : List X) → cond b (x ∷ (xs ++ ys)) (xs ++ ys) ≡ cond b (x ∷ xs) xs ++ ys
cond_more true x xs ys = refl
cond_more false x xs ys = refl

tests_push : (gs : Forms) (f : Form) → tests_in (joined gs (form f no_forms)) ≡ tests_in gs ++ tests_in (form f no_forms)
tests_push no_forms f = refl
tests_push (form (test t) gs) f = ap (λ ts. cond (is_test t) (t ∷ ts) ts) (tests_push gs f) ∙ cond_more (is_test t) t (tests_in gs) (tests_in (form f no_forms))
tests_push (form (atom name terms) gs) f = tests_push gs f
tests_push (form (sorted s v) gs) f = tests_push gs f
tests_push (form (negation g) gs) f = tests_push gs f
tests_push (form (conjunction hs) gs) f = tests_push gs f
tests_push (form (disjunction hs) gs) f = tests_push gs f
tests_push (form (implication g h) gs) f = tests_push gs f
tests_push (form (exists v s g) gs) f = tests_push gs f
tests_push (form (forall v s g) gs) f = tests_push gs f

-- comparisons and equalities are tests
are_tests_by : (b : Bool) (t : Test) (ts : List Test) → is_test t ≡ b → AreTests ts → AreTests (cond b (t ∷ ts) ts)
are_tests_by true t ts e h = (e, h)
are_tests_by false t ts e h = h

pub tests_are_tests : (fs : Forms) → AreTests (tests_in fs)
tests_are_tests no_forms = tt
tests_are_tests (form (test t) fs) = are_tests_by (is_test t) t (tests_in fs) refl (tests_are_tests fs)
tests_are_tests (form (atom name terms) fs) = tests_are_tests fs
tests_are_tests (form (sorted s v) fs) = tests_are_tests fs
tests_are_tests (form (negation g) fs) = tests_are_tests fs
tests_are_tests (form (conjunction hs) fs) = tests_are_tests fs
tests_are_tests (form (disjunction hs) fs) = tests_are_tests fs
tests_are_tests (form (implication g h) fs) = tests_are_tests fs
tests_are_tests (form (exists v s g) fs) = tests_are_tests fs
tests_are_tests (form (forall v s g) fs) = tests_are_tests fs

-- ---- an element more

-- a list of one kind with those of one formula after it
one_kind : {X Y : Type 0} (R : X → Y → Type 0) (old new xs : List X) (all before ys : List Y) → new ≡ old ++ xs → all ≡ before ++ ys → AllZip R old before → AllZip R xs ys → AllZip R new all
one_kind R old new xs all before ys n a h k = subst (λ us. AllZip R us all) (sym n) (subst (AllZip R (old ++ xs)) (sym a) (zip_join R old xs before ys h k))

module _ (over : Ground) (K : ℕ) (fs : List Core) where
  -- the elements with those of one formula after them
  so_far : (gs : Forms) (core : Core) (f : Form) (old new : Elements) (xs : List RankedAtom) (ss : List RankedSort) (os ns : List Part) → core_of core ≡ f → AreSoFar over K fs gs old → new.atoms.items ≡ old.atoms.items ++ xs → AllZip (IsRankedAtom over K) xs (atoms_in (form f no_forms))
      → new.sorts.items ≡ old.sorts.items ++ ss → AllZip (IsRankedSort over) ss (sorts_in (form f no_forms)) → new.others.items ≡ old.others.items ++ os → AllZip (IsPart over K fs) os (others_in (form f no_forms)) → new.tests ≡ old.tests ++ tests_in (form f no_forms)
      → new.negations.items ≡ old.negations.items ++ ns → AllZip (IsDenied over K fs) ns (negations_in (form f no_forms)) → AreSoFar over K fs (joined gs (form (core_of core) no_forms)) new
  so_far gs core f old new xs ss os ns e h a az s sz o oz t n nz =
      subst (λ g. AreSoFar over K fs (joined gs (form g no_forms)) new) (sym e) (record {
        atoms = one_kind (IsRankedAtom over K) old.atoms.items new.atoms.items xs _ (atoms_in gs) (atoms_in (form f no_forms)) a (atoms_push gs f) h.atoms az;
        sorts = one_kind (IsRankedSort over) old.sorts.items new.sorts.items ss _ (sorts_in gs) (sorts_in (form f no_forms)) s (sorts_push gs f) h.sorts sz;
        others = one_kind (IsPart over K fs) old.others.items new.others.items os _ (others_in gs) (others_in (form f no_forms)) o (others_push gs f) h.others oz;
        tests = t ∙ ap (λ ts. ts ++ tests_in (form f no_forms)) h.tests ∙ sym (tests_push gs f);
        negations = one_kind (IsDenied over K fs) old.negations.items new.negations.items ns _ (negations_in gs) (negations_in (form f no_forms)) n (negations_push gs f) h.negations nz;
      })

-- nothing more
same_list : {X : Type 0} (old new : List X) → new ≡ old → new ≡ old ++ []
same_list old new e = e ∙ sym (append-nil old)

-- the variables of a tree
tree_same : (own : VariableTree) (f : Form) → tree_of own ≡ free_tree f → HaveSame (map variable_of (out-VariableTree own).variables) (free f)
tree_same own f e = same_as_once (map variable_of (out-VariableTree own).variables) (free f) (tree_variables _ _ _ _ (sym (tree_of-opened own) ∙ e))

module _ (over : Ground) (K index : ℕ) (core : Core) (own : VariableTree) (old new : Elements) where
  pub atom_out : (name : Identifier) (terms : List Term) (e : RankedAtom) → core_of core ≡ atom name terms → e.relation.now ≡ name → map said_term e.terms.now ≡ terms → map variable_of e.variables.now ≡ map variable_of (out-VariableTree own).variables → e.rows ≡ length (rows_of over.structure.relations name)
      → new.atoms.items ≡ old.atoms.items ++ e ∷ [] → new.sorts.items ≡ old.sorts.items → new.others.items ≡ old.others.items → new.tests ≡ old.tests → new.negations.items ≡ old.negations.items → SortsOut over K index core own old new
  atom_out name terms e is n t v r a s o ts ns = record {
    next = λ fs gs stands known can h.
        so_far over K fs gs core (atom name terms) old new (e ∷ []) [] [] [] is h a
        (record { is = record { name = n; terms = t; variables = subst (λ us. HaveSame us (free (atom name terms))) (sym v) (tree_same own (atom name terms) (known ∙ ap free_tree is)); can = subst (CanPlan over.structure K) is can }; rows = r }, tt)
        (same_list _ _ s) tt (same_list _ _ o) tt (same_list _ _ ts) (same_list _ _ ns) tt;
  }

  pub sort_out : (s : Sort) (v : Identifier) (e : RankedSort) → core_of core ≡ sorted s v → e.sort.now ≡ s → e.name.now ≡ v → map variable_of e.variables.now ≡ map variable_of (out-VariableTree own).variables → e.texts ≡ length (over.structure.domain s)
      → new.sorts.items ≡ old.sorts.items ++ e ∷ [] → new.atoms.items ≡ old.atoms.items → new.others.items ≡ old.others.items → new.tests ≡ old.tests → new.negations.items ≡ old.negations.items → SortsOut over K index core own old new
  sort_out s v e is n t vs r a ats o ts ns = record {
    next = λ fs gs stands known can h.
        so_far over K fs gs core (sorted s v) old new [] (e ∷ []) [] [] is h (same_list _ _ ats) tt a
        (record { is = record { sort = n; name = t; variables = subst (λ us. HaveSame us (free (sorted s v))) (sym vs) (tree_same own (sorted s v) (known ∙ ap free_tree is)) }; texts = r }, tt)
        (same_list _ _ o) tt (same_list _ _ ts) (same_list _ _ ns) tt;
  }

  pub other_out : (f : Form) (e : Part) → core_of core ≡ f → others_in (form f no_forms) ≡ record { formula = f; rule = build f [] } ∷ [] → atoms_in (form f no_forms) ≡ [] → sorts_in (form f no_forms) ≡ [] → tests_in (form f no_forms) ≡ [] → negations_in (form f no_forms) ≡ [] → e.index ≡ index → e.tree.now ≡ own
      → new.others.items ≡ old.others.items ++ e ∷ [] → new.atoms.items ≡ old.atoms.items → new.sorts.items ≡ old.sorts.items → new.tests ≡ old.tests → new.negations.items ≡ old.negations.items → SortsOut over K index core own old new
  other_out f e is one na ns nt nn place tree a ats ss ts negs = record {
    next = λ fs gs stands known can h.
        so_far over K fs gs core f old new [] [] (e ∷ []) [] is h (same_list _ _ ats) (subst (AllZip (IsRankedAtom over K) []) (sym na) tt) (same_list _ _ ss) (subst (AllZip (IsRankedSort over) []) (sym ns) tt) a
        (subst (AllZip (IsPart over K fs) (e ∷ [])) (sym one) (
          record { core = core; stands = subst (λ i. slice_get fs i ≡ Some core) (sym place) stands; part = record { formula = sym is; rule = refl; tree = ap tree_of tree ∙ known ∙ ap free_tree is; can = subst (CanPlan over.structure K) is can } },
          tt,
        ))
        (ts ∙ sym (append-nil old.tests) ∙ ap (λ us. old.tests ++ us) (sym nt)) (same_list _ _ negs) (subst (AllZip (IsDenied over K fs) []) (sym nn) tt);
  }

  pub negation_out : (g : Form) (e : Part) → core_of core ≡ negation g → e.index ≡ index → e.tree.now ≡ own
      → new.negations.items ≡ old.negations.items ++ e ∷ [] → new.atoms.items ≡ old.atoms.items → new.sorts.items ≡ old.sorts.items → new.others.items ≡ old.others.items → new.tests ≡ old.tests → SortsOut over K index core own old new
  negation_out g e is place tree a ats ss os ts = record {
    next = λ fs gs stands known can h.
        let c : CanPlan over.structure K (negation g) = subst (CanPlan over.structure K) is can in
        so_far over K fs gs core (negation g) old new [] [] [] (e ∷ []) is h (same_list _ _ ats) tt (same_list _ _ ss) tt (same_list _ _ os) tt (same_list _ _ ts) a
        (record { core = core; stands = subst (λ i. slice_get fs i ≡ Some core) (sym place) stands; denies = is; part = record { formula = refl; rule = refl; tree = ap tree_of tree ∙ known ∙ ap free_tree is; can = record { core = c.core; divides = c.divides } } }, tt);
  }

  test_out : (t : Test) → core_of core ≡ test t → is_test t ≡ true → new.tests ≡ old.tests ++ t ∷ [] → new.others.items ≡ old.others.items → new.atoms.items ≡ old.atoms.items → new.sorts.items ≡ old.sorts.items → new.negations.items ≡ old.negations.items → SortsOut over K index core own old new
  test_out t is yes_test a os ats ss ns = record {
    next = λ fs gs stands known can h.
        so_far over K fs gs core (test t) old new [] [] [] [] is h (same_list _ _ ats) tt (same_list _ _ ss) tt (same_list _ _ os)
        (subst (AllZip (IsPart over K fs) []) (sym (ap (λ b. cond b [] (record { formula = test t; rule = build (test t) [] } ∷ []) ++ []) yes_test)) tt)
        (a ∙ ap (λ us. old.tests ++ us) (sym (ap (λ b. cond b (t ∷ []) []) yes_test))) (same_list _ _ ns) tt;
  }

  pub check_out : (t : Test) (e : Part) → core_of core ≡ test t → e.index ≡ index → e.tree.now ≡ own → AddsCheck t e old new → SortsOut over K index core own old new
  check_out t e is place tree a = by_test (is_test t) refl
    where
      by_test : (b : Bool) → is_test t ≡ b → SortsOut over K index core own old new
      by_test true q = test_out t is q (a.tests ∙ ap (λ b. cond b (old.tests ++ t ∷ []) old.tests) q) (a.others ∙ ap (λ b. cond b old.others.items (old.others.items ++ e ∷ [])) q) a.atoms a.sorts a.negations
      by_test false q =
          other_out (test t) e is (ap (λ b. cond b [] (record { formula = test t; rule = build (test t) [] } ∷ []) ++ []) q) refl refl (ap (λ b. cond b (t ∷ []) []) q) refl place tree
          (a.others ∙ ap (λ b. cond b old.others.items (old.others.items ++ e ∷ [])) q) a.atoms a.sorts (a.tests ∙ ap (λ b. cond b (old.tests ++ t ∷ []) old.tests) q) a.negations

-- ---- the loop

can_get : {X : Type 0} (p : X → Type 0) (xs : List X) (i : ℕ) (x : X) → slice_get xs i ≡ Some x → AllByRecursion p xs → p x
can_get p [] i x e h = cc
can_get p (y ∷ xs) zero x e h = let d : y ≡ x = cc in subst p d h.0
can_get p (y ∷ xs) (suc i) x e h = can_get p xs i x e h.1

pub sorted_more : (over : Ground) (K : ℕ) (fs : List Core) (i : ℕ) (core : Core) (own : VariableTree) (old new : Elements) → i < length fs → core ≡ get_or fs i core → tree_of own ≡ free_tree (core_of core) → AllByRecursion (λ c. CanPlan over.structure K (core_of c)) fs → AreSoFar over K fs (cores_of (take i fs)) old → SortsOut over K i core own old new
    → AreSoFar over K fs (cores_of (take (i + 1) fs)) new
sorted_more over K fs i core own old new lt is known can h s =
    let g : slice_get fs i ≡ Some core = get_from fs i core lt is in
    subst (λ gs. AreSoFar over K fs gs new) (sym (ap cores_of (take_more fs i core lt ∙ ap (λ x. take i fs ++ x ∷ []) (sym is)) ∙ cores_of-append (take i fs) (core ∷ [])))
    (s.next fs (cores_of (take i fs)) g known (can_get (λ c. CanPlan over.structure K (core_of c)) fs i core g can) h)

pub sorted_all : (over : Ground) (K : ℕ) (fs : List Core) (i : ℕ) (left : Elements) → length fs ≤ i → AreSoFar over K fs (cores_of (take i fs)) left → AreSoFar over K fs (cores_of fs) left
sorted_all over K fs i left le h = subst (λ xs. AreSoFar over K fs (cores_of xs) left) (take_all_of fs i le) h
