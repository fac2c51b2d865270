-- The elements of an `and` sorted out one by one.
use Rattle.std.proofs.Common.{◌≡◌, ◌<◌, ◌+◌, ◌^◌, ℕ, zero, suc, Bool, true, false, cond, List, [], ◌∷◌, ◌++◌, length, take, Option, Some, None, slice_get, Result, Ok, Err, refl, sym, ap, subst, ◌∙◌, append_assoc, append-nil, arith, get_or}
use Rattle.std.specs.List.{AllZip}
use Rattle.std.specs.Result.{OnOk}
use Rattle.std.proofs.lemmas.List.{take_more}
use Rattle.lrp_core.specs.Cores.{core_of, cores_of}
use Rattle.lrp_model.specs.Variables.{free}
use Rattle.lrp_core.specs.declared.core_forms.Core.{Core}
use Rattle.lrp_core.proofs.CoreViews.{cores_of-append}
use Rattle.lrp_model.specs.Texts.{Identifier}
use Rattle.lrp_model.specs.Formulas.{Form, Forms, atom, test, sorted, negation, conjunction, disjunction, implication, exists, forall, no_forms, form, joined}
use Rattle.lrp_model.specs.Rows.{rows_of}
use Rattle.lrp_model.specs.Satisfaction.{Structure}
use Rattle.lrp_model.specs.Conjunctions.{is_test, as_positive, tests_in}
use Rattle.lrp_model.specs.Plans.{plan_of, positives_in, negations_in}
use Rattle.lrp_model.specs.declared.relations.Sort.{Sort}
use Rattle.lrp_model.specs.declared.formulas.Term.{Term}
use Rattle.lrp_model.specs.declared.formulas.Test.{Test}
use Rattle.lrp_plan.specs.declared.elements.Element.{Element}
use Rattle.lrp_limits.specs.declared.facts.Facts.{Facts}
use Rattle.lrp_plan.specs.declared.sources.Sources.{Sources}
use Rattle.lrp_plan.specs.declared.splits.Parts.{Parts}
use Rattle.lrp_limits.specs.Facts.{AreFacts}
use Rattle.lrp_plan.specs.Taking.{HaveSame}
use Rattle.lrp_plan.specs.Elements.{element_variables, element_inner, IsDenied}
use Rattle.lrp_plan.specs.Sources.{AreSources}
use Rattle.lrp_plan.specs.Splits.{IsRank, IsRanked, IsParts, SortsOut, AddsPositive, AddsNegation}
use Rattle.lrp_core.specs.FreeVariables.{each_once}
use Rattle.lrp_core.specs.VariableTrees.{tree, tree_of, trees_of, free_tree}
use Rattle.lrp_core.specs.declared.variable_trees.VariableTree.{VariableTree}
use Rattle.lrp_core.proofs.TreeViews.{tree_of-opened, tree_variables, tree_inner}
use Rattle.lrp_core.proofs.VariableLists.{is_among-each_once}
use Rattle.lrp_model.specs.Variables.{Variable, is_among}

-- each variable once has the same members
pub same_as_once : (vs ws : List Variable) → vs ≡ each_once ws → HaveSame vs ws
same_as_once vs ws e = record { each = λ v. ap (λ x. is_among x v) e ∙ is_among-each_once ws v }

pub zip_join : {A B : Type 0} (R : A → B → Type 0) (xs us : List A) (ys vs : List B) → AllZip R xs ys → AllZip R us vs → AllZip R (xs ++ us) (ys ++ vs)
zip_join R [] us [] vs h k = k
zip_join R [] us (y ∷ ys) vs h k = absurd h
zip_join R (x ∷ xs) us [] vs h k = absurd h
zip_join R (x ∷ xs) us (y ∷ ys) vs h k = (h.0, zip_join R xs us ys vs h.1 k)

-- ---- each kind, after those before

positives_push : (gs : Forms) (f : Form) → positives_in (joined gs (form f no_forms)) ≡ positives_in gs ++ positives_in (form f no_forms)
positives_push no_forms f = refl
positives_push (form g gs) f = ap (λ ps. as_positive g (plan_of g) ++ ps) (positives_push gs f) ∙ sym (append_assoc (as_positive g (plan_of g)) (positives_in gs) (positives_in (form f no_forms)))

cond_more : {X : Type 0} (b : Bool) (x : X) (xs ys : List X) → cond b (x ∷ (xs ++ ys)) (xs ++ ys) ≡ cond b (x ∷ xs) xs ++ ys
cond_more true x xs ys = refl
cond_more false x xs ys = refl

tests_push : (gs : Forms) (f : Form) → tests_in (joined gs (form f no_forms)) ≡ tests_in gs ++ tests_in (form f no_forms)
tests_push no_forms f = refl
tests_push (form (test t) gs) f = ap (λ ts. cond (is_test t) (t ∷ ts) ts) (tests_push gs f) ∙ cond_more (is_test t) t (tests_in gs) (tests_in (form f no_forms))
tests_push (form (atom name terms) gs) f = tests_push gs f
tests_push (form (sorted s v) gs) f = tests_push gs f
tests_push (form (negation g) gs) f = tests_push gs f
tests_push (form (conjunction hs) gs) f = tests_push gs f
tests_push (form (disjunction hs) gs) f = tests_push gs f
tests_push (form (implication g h) gs) f = tests_push gs f
tests_push (form (exists v s g) gs) f = tests_push gs f
tests_push (form (forall v s g) gs) f = tests_push gs f

negations_push : (gs : Forms) (f : Form) → negations_in (joined gs (form f no_forms)) ≡ negations_in gs ++ negations_in (form f no_forms)
negations_push no_forms f = refl
negations_push (form (test t) gs) f = negations_push gs f
negations_push (form (atom name terms) gs) f = negations_push gs f
negations_push (form (sorted s v) gs) f = negations_push gs f
negations_push (form (negation g) gs) f = ap (λ es. record { formula = g; rule = plan_of g; rows = λ M. None } ∷ es) (negations_push gs f)
negations_push (form (conjunction hs) gs) f = negations_push gs f
negations_push (form (disjunction hs) gs) f = negations_push gs f
negations_push (form (implication g h) gs) f = negations_push gs f
negations_push (form (exists v s g) gs) f = negations_push gs f
negations_push (form (forall v s g) gs) f = negations_push gs f

-- ---- an element more

-- the parts with those of one formula after them
parts_push : (M : Structure) (fs : List Core) (gs : Forms) (core : Core) (f : Form) (old new : Parts) (ps ns : List Element) → core_of core ≡ f → IsParts M fs gs old → new.positives.items ≡ old.positives.items ++ ps → AllZip (IsRanked M fs) ps (positives_in (form f no_forms))
    → new.tests ≡ old.tests ++ tests_in (form f no_forms) → new.negations.items ≡ old.negations.items ++ ns → AllZip (IsDenied fs) ns (negations_in (form f no_forms)) → IsParts M fs (joined gs (form (core_of core) no_forms)) new
parts_push M fs gs core f old new ps ns e h p pz t n nz =
    subst (λ g. IsParts M fs (joined gs (form g no_forms)) new) (sym e) (record {
      ranked_ones = subst (λ ys. AllZip (IsRanked M fs) new.positives.items ys) (sym (positives_push gs f)) (subst (λ xs. AllZip (IsRanked M fs) xs (positives_in gs ++ positives_in (form f no_forms))) (sym p) (zip_join (IsRanked M fs) old.positives.items ps (positives_in gs) (positives_in (form f no_forms)) h.ranked_ones pz));
      checks = t ∙ ap (λ ts. ts ++ tests_in (form f no_forms)) h.checks ∙ sym (tests_push gs f);
      denials = subst (λ ys. AllZip (IsDenied fs) new.negations.items ys) (sym (negations_push gs f)) (subst (λ xs. AllZip (IsDenied fs) xs (negations_in gs ++ negations_in (form f no_forms))) (sym n) (zip_join (IsDenied fs) old.negations.items ns (negations_in gs) (negations_in (form f no_forms)) h.denials nz));
    })

-- a positive
sorts_positive : (M : Structure) (index : ℕ) (core : Core) (own : VariableTree) (f : Form) (rank : ℕ) (rows : Structure → Option ℕ) (old new : Parts) → core_of core ≡ f → positives_in (form f no_forms) ≡ record { formula = f; rule = plan_of f; rows = rows } ∷ [] → tests_in (form f no_forms) ≡ [] → negations_in (form f no_forms) ≡ []
    → IsRank (rows M) rank → AddsPositive index own rank old new → SortsOut M index core own old new
sorts_positive M index core own f rank rows old new e p t n r a = record {
  next = λ fs gs stands is h.
      let parts : tree (element_variables a.added) (trees_of (element_inner a.added)) ≡ free_tree f = sym (tree_of-opened a.added.tree.now) ∙ ap tree_of a.tree_is ∙ is ∙ ap free_tree e in
      parts_push M fs gs core f old new (a.added ∷ []) [] e h a.items
      (subst (AllZip (IsRanked M fs) (a.added ∷ [])) (sym p) (
        record {
          element = record { core = core; stands = subst (λ i. slice_get fs i ≡ Some core) (sym a.place) stands; formula = sym e; rule = refl; variables = same_as_once _ (free f) (tree_variables _ _ _ _ parts); inner = tree_inner _ _ _ _ parts };
          ranks = subst (IsRank (rows M)) (sym a.ranked_as) r;
        },
        tt,
      ))
      (a.tests_stay ∙ sym (append-nil old.tests) ∙ ap (λ ts. old.tests ++ ts) (sym t))
      (a.negations_stay ∙ sym (append-nil old.negations.items))
      (subst (AllZip (IsDenied fs) []) (sym n) tt);
}

pub atom_sorted : {T E : Type 0} (r : Result T E) (sources : Sources) (index : ℕ) (core : Core) (own : VariableTree) (name : Identifier) (terms : List Term) (facts : Facts) (rank : ℕ) (old new : Parts) → core_of core ≡ atom name terms → ((M : Structure) → AreSources M sources → AreFacts (rows_of M.relations name) facts) → rank ≡ facts.rows → facts.rows < 2 ^ 64
    → OnOk r (AddsPositive index own rank old new) → OnOk r ((M : Structure) → AreSources M sources → SortsOut M index core own old new)
atom_sorted (Ok x) sources index core own name terms facts rank old new e h k lt a = λ M s.
    sorts_positive M index core own (atom name terms) rank (λ N. Some (length (rows_of N.relations name))) old new e refl refl refl (let n : facts.rows ≡ length (rows_of M.relations name) = (h M s).rows in (k ∙ n, omega arith)) a
atom_sorted (Err x) sources index core own name terms facts rank old new e h k lt a = tt

pub sort_sorted : {T E : Type 0} (r : Result T E) (sources : Sources) (index : ℕ) (core : Core) (own : VariableTree) (s : Sort) (v : Identifier) (count rank : ℕ) (old new : Parts) → core_of core ≡ sorted s v → ((M : Structure) → AreSources M sources → count ≡ length (M.domain s)) → rank ≡ count → count < 2 ^ 64
    → OnOk r (AddsPositive index own rank old new) → OnOk r ((M : Structure) → AreSources M sources → SortsOut M index core own old new)
sort_sorted (Ok x) sources index core own s v count rank old new e h k lt a = λ M src.
    sorts_positive M index core own (sorted s v) rank (λ N. Some (length (N.domain s))) old new e refl refl refl (let n : count ≡ length (M.domain s) = h M src in (k ∙ n, omega arith)) a
sort_sorted (Err x) sources index core own s v count rank old new e h k lt a = tt

pub other_sorted : {T E : Type 0} (r : Result T E) (sources : Sources) (index : ℕ) (core : Core) (own : VariableTree) (f : Form) (rank : ℕ) (old new : Parts) → core_of core ≡ f → positives_in (form f no_forms) ≡ record { formula = f; rule = plan_of f; rows = λ M. None } ∷ [] → tests_in (form f no_forms) ≡ [] → negations_in (form f no_forms) ≡ [] → rank ≡ 2 ^ 64
    → OnOk r (AddsPositive index own rank old new) → OnOk r ((M : Structure) → AreSources M sources → SortsOut M index core own old new)
other_sorted (Ok x) sources index core own f rank old new e p t n k a = λ M s. sorts_positive M index core own f rank (λ N. None) old new e p t n k a
other_sorted (Err x) sources index core own f rank old new e p t n k a = tt

-- an `in`, which is a test of the program and a positive
pub in_is : (t : Test) → is_test t ≡ false → (positives_in (form (test t) no_forms) ≡ record { formula = test t; rule = plan_of (test t); rows = λ M. None } ∷ []) × (tests_in (form (test t) no_forms) ≡ [])
in_is t e = (ap (λ b. cond b [] (record { formula = test t; rule = plan_of (test t); rows = λ M. None } ∷ []) ++ []) e, ap (λ b. cond b (t ∷ []) []) e)

-- a test
pub test_sorted : (sources : Sources) (index : ℕ) (core : Core) (of : VariableTree) (t own : Test) (old new : Parts) → core_of core ≡ test t → own ≡ t → is_test t ≡ true → new.positives.items ≡ old.positives.items → new.tests ≡ old.tests ++ own ∷ [] → new.negations.items ≡ old.negations.items
    → (M : Structure) → AreSources M sources → SortsOut M index core of old new
test_sorted sources index core of t own old new e same is p g n M s = record {
  next = λ fs gs stands known h.
      parts_push M fs gs core (test t) old new [] [] e h (p ∙ sym (append-nil old.positives.items))
      (subst (AllZip (IsRanked M fs) []) (sym (ap (λ b. cond b [] (record { formula = test t; rule = plan_of (test t); rows = λ N. None } ∷ []) ++ []) is)) tt)
      (g ∙ ap (λ u. old.tests ++ u ∷ []) same ∙ ap (λ ts. old.tests ++ ts) (sym (ap (λ b. cond b (t ∷ []) []) is)))
      (n ∙ sym (append-nil old.negations.items)) tt;
}

-- a negation
pub negation_sorted : {T E : Type 0} (r : Result T E) (sources : Sources) (index : ℕ) (core inner : Core) (own : VariableTree) (old new : Parts) → core_of core ≡ negation (core_of inner) → OnOk r (AddsNegation index own old new) → OnOk r ((M : Structure) → AreSources M sources → SortsOut M index core own old new)
negation_sorted (Ok x) sources index core inner own old new e a = λ M s. record {
  next = λ fs gs stands is h.
      let parts : tree (element_variables a.added) (trees_of (element_inner a.added)) ≡ free_tree (core_of inner) = sym (tree_of-opened a.added.tree.now) ∙ ap tree_of a.tree_is ∙ is ∙ ap free_tree e in
      parts_push M fs gs core (negation (core_of inner)) old new [] (a.added ∷ []) e h (a.positives_stay ∙ sym (append-nil old.positives.items)) tt
      (a.tests_stay ∙ sym (append-nil old.tests)) a.items
      (record { core = core; stands = subst (λ i. slice_get fs i ≡ Some core) (sym a.place) stands; formula = e; rule = refl; variables = same_as_once _ (free (core_of inner)) (tree_variables _ _ _ _ parts); inner = tree_inner _ _ _ _ parts }, tt);
}
negation_sorted (Err x) sources index core inner own old new e a = tt

-- ---- the loop

pub get_from : {X : Type 0} (xs : List X) (i : ℕ) (x : X) → i < length xs → x ≡ get_or xs i x → slice_get xs i ≡ Some x
get_from [] i x lt e = absurd (omega arith)
get_from (y ∷ xs) zero x lt e = ap Some (sym e)
get_from (y ∷ xs) (suc i) x lt e = get_from xs i x (omega arith) e

pub sorted_more : (M : Structure) (fs : List Core) (i : ℕ) (core : Core) (own : VariableTree) (old new : Parts) → i < length fs → core ≡ get_or fs i core → tree_of own ≡ free_tree (core_of core) → IsParts M fs (cores_of (take i fs)) old → SortsOut M i core own old new → IsParts M fs (cores_of (take (i + 1) fs)) new
sorted_more M fs i core own old new lt is known h s =
    subst (λ gs. IsParts M fs gs new) (sym (ap cores_of (take_more fs i core lt ∙ ap (λ x. take i fs ++ x ∷ []) (sym is)) ∙ cores_of-append (take i fs) (core ∷ []))) (s.next fs (cores_of (take i fs)) (get_from fs i core lt is) known h)
