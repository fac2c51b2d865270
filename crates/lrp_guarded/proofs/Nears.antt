-- The places at which the program looks for the element that is taken next are those at which the rules look.
use Rattle.std.proofs.Common.{◌≡◌, ℕ, zero, suc, ◌+◌, ◌<◌, ◌≤◌, Bool, true, false, cond, not, ◌&&◌, ◌||◌, List, [], ◌∷◌, length, Option, Some, None, option_map, map, nat_eq, nat_lt, ◌==◌, if◌then◌else◌, refl, sym, ap, ap₂, subst, ◌∙◌, arith}
use Rattle.std.specs.Prelude.{position}
use Rattle.std.specs.List.{AllZip, list_any, prefix_len}
use Rattle.lrp_core.specs.Cores.{core_of}
use Rattle.lrp_core.specs.FreeVariables.{variable_of, each_once}
use Rattle.lrp_core.specs.VariableTrees.{Trees, tree, tree_of, trees_of, free_tree}
use Rattle.lrp_core.specs.declared.core_forms.Core.{Core}
use Rattle.lrp_core.specs.declared.variables.Variable.{Variable as ProgramVariable}
use Rattle.lrp_core.specs.declared.variable_trees.VariableTree.{VariableTree}
use Rattle.lrp_core.specs.declared.variable_trees.VariableTree.TheViews.{out-VariableTree}
use Rattle.lrp_model.specs.Formulas.{Form, negation}
use Rattle.lrp_model.specs.Variables.{Variable, meet, are_among, variables_of_time, variables_of_test, free}
use Rattle.lrp_model.specs.Conjunctions.{is_covered}
use Rattle.lrp_model.specs.declared.formulas.Test.{Test}
use Rattle.lrp_model.specs.declared.formulas.Test.TheVariants.{Compare, Member, Equal}
use Rattle.lrp_plan_laws.specs.Atoms.{Atom}
use Rattle.lrp_plan_laws.specs.Projections.{PlanGround as Ground}
use Rattle.lrp_plan_laws.specs.GuardedConjunctions.{GuardedPart as Part, SortElement, Standing, Choice, an_atom, a_sort, a_part, a_test, a_negation, atom_form, sort_form, or_else, chosen, first_choice as first_of, is_near, compares, is_linked, near_atom, near_sort, near_part, near_test, any_positive, next_denied as next_negation, next_choice}
use Rattle.lrp_core.proofs.TreeViews.{tree_of-opened}
use Rattle.lrp_plan.specs.Taking.{HaveSame}
use Rattle.lrp_plan.proofs.Members.{are_among_same, meet_same}
use Rattle.lrp_plan.proofs.Sorting.{same_as_once}
use Rattle.lrp_guarded.specs.Choices.{choice_of, links, part_variables}
use Rattle.lrp_guarded.specs.declared.choices.Choice.{Choice as ProgramChoice}
use Rattle.lrp_guarded.specs.Standing.{IsAtom, IsSortElement, IsPartOf, IsGuardedPart as IsPart, IsDeniedPart as IsDenied, AreElementsLeft as AreLeft, IsStandingOf as IsStanding}
use Rattle.lrp_guarded.specs.declared.elements.RankedAtom.{RankedAtom}
use Rattle.lrp_guarded.specs.declared.elements.RankedSort.{RankedSort}
use Rattle.lrp_guarded.specs.declared.elements.Part.{Part as ProgramPart}
use Rattle.lrp_guarded.specs.declared.standing.Standing.{Standing as ProgramStanding}

-- ---- places

prefix_same : {X Y : Type 0} (R : X → Y → Type 0) (p : X → Bool) (q : Y → Bool) → ((x : X) (y : Y) → R x y → p x ≡ q y) → (xs : List X) (ys : List Y) → AllZip R xs ys → prefix_len (λ x. not (p x)) xs ≡ prefix_len (λ y. not (q y)) ys
prefix_same R p q h [] [] z = refl
prefix_same R p q h [] (y ∷ ys) z = absurd z
prefix_same R p q h (x ∷ xs) [] z = absurd z
prefix_same R p q h (x ∷ xs) (y ∷ ys) z = ap₂ (λ b n. cond (not b) (1 + n) 0) (h x y z.0) (prefix_same R p q h xs ys z.1)

pub zip_length : {X Y : Type 0} (R : X → Y → Type 0) (xs : List X) (ys : List Y) → AllZip R xs ys → length xs ≡ length ys
zip_length R [] [] z = refl
zip_length R [] (y ∷ ys) z = absurd z
zip_length R (x ∷ xs) [] z = absurd z
zip_length R (x ∷ xs) (y ∷ ys) z = ap suc (zip_length R xs ys z.1)

-- what passes at the same places is first at the same place
pub place_same : {X Y : Type 0} (R : X → Y → Type 0) (p : X → Bool) (q : Y → Bool) → ((x : X) (y : Y) → R x y → p x ≡ q y) → (xs : List X) (ys : List Y) → AllZip R xs ys → position p xs ≡ position q ys
place_same R p q h xs ys z = ap₂ (λ n m. cond (nat_lt n m) (Some n) None) (prefix_same R p q h xs ys z) (zip_length R xs ys z)

one_more : (n : ℕ) → 1 + n ≡ suc n
one_more n = omega arith

prefix_none : {X : Type 0} (xs : List X) → prefix_len (λ x. not false) xs ≡ length xs
prefix_none [] = refl
prefix_none (x ∷ xs) = ap (λ n. 1 + n) (prefix_none xs) ∙ one_more (length xs)

-- nothing passes
place_none : {X : Type 0} (xs : List X) → position (λ x. false) xs ≡ None
place_none xs =
    let e : nat_lt (length xs) (length xs) ≡ false = grind arith in
    ap (λ n. cond (nat_lt n (length xs)) (Some n) None) (prefix_none xs) ∙ ap (λ b. cond b (Some (length xs)) None) e

-- all pass
pub place_first : {X : Type 0} (xs : List X) → position (λ x. true) xs ≡ (if length xs == 0 then None else Some 0)
place_first [] = refl
place_first (x ∷ xs) =
    let e : nat_lt 0 (suc (length xs)) ≡ true = grind arith in
    let d : (suc (length xs) == 0) ≡ false = grind arith in
    let a : cond (nat_lt 0 (suc (length xs))) (Some 0) None ≡ Some 0 = ap (λ (b : Bool). cond b (Some 0) None) e in
    let z : (if suc (length xs) == 0 then None else Some 0) ≡ Some 0 = ap (λ (b : Bool). if b then None else Some 0) d in
    a ∙ sym z

-- ---- one choice or another

pub else_some : (a b : Option Choice) (c : Choice) → a ≡ Some c → Some c ≡ or_else a b
else_some a b c e = sym (ap (λ o. or_else o b) e)

pub else_next : (a b o : Option Choice) → a ≡ None → o ≡ b → o ≡ or_else a b
else_next a b o e h = h ∙ sym (ap (λ x. or_else x b) e)

pub chosen_some : (make : ℕ → Choice) (r s : Option ℕ) (i : ℕ) → r ≡ s → r ≡ Some i → chosen make s ≡ Some (make i)
chosen_some make r s i e h = ap (chosen make) (sym e ∙ h)

pub chosen_none : (make : ℕ → Choice) (r s : Option ℕ) → r ≡ s → r ≡ None → chosen make s ≡ None
chosen_none make r s e h = ap (chosen make) (sym e ∙ h)

-- ---- variables of parts

tree_variables : (t : VariableTree) (vs : List Variable) (ts : Trees) → tree_of t ≡ tree vs ts → map variable_of (out-VariableTree t).variables ≡ vs
tree_variables t vs ts e = let q : tree (map variable_of (out-VariableTree t).variables) (trees_of (out-VariableTree t).inner.items) ≡ tree vs ts = sym (tree_of-opened t) ∙ e in cc

same_own : (vs : List Variable) → HaveSame vs vs
same_own vs = record { each = λ v. refl }

-- what links, said out
pub links_is : (taken : List Variable) (tests : List Test) (vs : List Variable) → list_any (λ t. compares taken vs t || compares vs taken t) tests ≡ links taken tests vs
unfolding links
links_is taken tests vs = refl

module _ (over : Ground) (K : ℕ) (fs : List Core) (standing : ProgramStanding) (at : Standing) (is : IsStanding over K fs standing at) where
  abbrev Taken : List ProgramVariable → Type 0
  Taken vs = vs ≡ standing.variables

  taken_same : (vs : List ProgramVariable) → Taken vs → HaveSame (map variable_of vs) at.taken.variables
  taken_same vs e = subst (λ us. HaveSame (map variable_of us) at.taken.variables) (sym e) is.variables

  part_same : (f : Form) (e : ProgramPart) (p : Part) → IsPartOf over K f e p → HaveSame (part_variables e) (free p.formula)
  part_same f e p h = same_as_once (part_variables e) (free p.formula) (tree_variables e.tree.now _ _ h.tree)

  -- ---- the places of each kind

  pub atoms_near : (xs : List RankedAtom) (vs : List ProgramVariable) → xs ≡ standing.left.atoms.items → Taken vs → position (λ a. meet (map variable_of a.variables.now) (map variable_of vs)) xs ≡ position (λ a. is_near at.taken (free (atom_form a))) at.atoms
  atoms_near xs vs e t = place_same (IsAtom over K) _ _ (λ x y r. meet_same _ _ _ _ r.variables (taken_same vs t)) xs at.atoms (subst (λ ys. AllZip (IsAtom over K) ys at.atoms) (sym e) is.left.atoms)

  compares_same : (vs us ws xs : List Variable) (t : Test) → HaveSame vs us → HaveSame ws xs → compares vs ws t ≡ compares us xs t
  compares_same vs us ws xs (Compare left op right) h k = ap₂ (λ a b. a && b) (meet_same _ _ _ _ (same_own (variables_of_time left)) h) (meet_same _ _ _ _ (same_own (variables_of_time right)) k)
  compares_same vs us ws xs (Member term point) h k = refl
  compares_same vs us ws xs (Equal left right) h k = refl

  linked_same : (vs us ws xs : List Variable) (ts : List Test) → HaveSame vs us → HaveSame ws xs → list_any (λ t. compares vs ws t || compares ws vs t) ts ≡ list_any (λ t. compares us xs t || compares xs us t) ts
  linked_same vs us ws xs [] h k = refl
  linked_same vs us ws xs (t ∷ ts) h k = ap₂ (λ a b. a || b) (ap₂ (λ a b. a || b) (compares_same vs us ws xs t h k) (compares_same ws xs vs us t k h)) (linked_same vs us ws xs ts h k)

  pub atoms_linked : (xs : List RankedAtom) (ts : List Test) (vs : List ProgramVariable) → xs ≡ standing.left.atoms.items → ts ≡ standing.left.tests → Taken vs
      → position (λ a. links (map variable_of vs) ts (map variable_of a.variables.now)) xs ≡ position (λ a. is_linked at.taken at.tests (free (atom_form a))) at.atoms
  atoms_linked xs ts vs e u t =
      place_same (IsAtom over K) _ _ (λ x y r. sym (links_is (map variable_of vs) ts (map variable_of x.variables.now)) ∙ linked_same _ _ _ _ ts (taken_same vs t) r.variables ∙ ap (list_any (λ t. compares at.taken.variables (free (atom_form y)) t || compares (free (atom_form y)) at.taken.variables t)) (u ∙ is.left.tests)) xs at.atoms (subst (λ ys. AllZip (IsAtom over K) ys at.atoms) (sym e) is.left.atoms)

  pub sorts_near : (xs : List RankedSort) (vs : List ProgramVariable) → xs ≡ standing.left.sorts.items → Taken vs → position (λ s. meet (map variable_of s.variables.now) (map variable_of vs) || not standing.some) xs ≡ position (λ s. is_near at.taken (free (sort_form s)) || not at.taken.some) at.sorts
  sorts_near xs vs e t = place_same IsSortElement _ _ (λ x y r. ap₂ (λ a b. a || not b) (meet_same _ _ _ _ r.variables (taken_same vs t)) is.some) xs at.sorts (subst (λ ys. AllZip IsSortElement ys at.sorts) (sym e) is.left.sorts)

  pub parts_near : (xs : List ProgramPart) (vs : List ProgramVariable) → xs ≡ standing.left.others.items → Taken vs → position (λ p. meet (part_variables p) (map variable_of vs)) xs ≡ position (λ p. is_near at.taken (free p.formula)) at.others
  parts_near xs vs e t = place_same (IsPart over K fs) _ _ (λ x y r. meet_same _ _ _ _ (part_same (core_of r.core) x y r.part) (taken_same vs t)) xs at.others (subst (λ ys. AllZip (IsPart over K fs) ys at.others) (sym e) is.left.others)

  pub tests_near : (ts : List Test) (vs : List ProgramVariable) → ts ≡ standing.left.tests → Taken vs → position (λ t. meet (variables_of_test t) (map variable_of vs)) ts ≡ position (λ t. is_near at.taken (variables_of_test t)) at.tests
  tests_near ts vs e t = place_same (λ x y. x ≡ y) _ _ (λ x y r. ap (λ u. meet (variables_of_test u) (map variable_of vs)) r ∙ meet_same _ _ _ _ (same_own (variables_of_test y)) (taken_same vs t)) ts at.tests (each_own ts at.tests (e ∙ is.left.tests))
    where
      own : (us : List Test) → AllZip (λ x y. x ≡ y) us us
      own [] = tt
      own (u ∷ us) = (refl, own us)

      each_own : (us ws : List Test) → us ≡ ws → AllZip (λ x y. x ≡ y) us ws
      each_own us ws q = subst (AllZip (λ x y. x ≡ y) us) q (own us)

  pub negations_covered : (xs : List ProgramPart) (vs : List ProgramVariable) (some : Bool) → xs ≡ standing.left.negations.items → Taken vs → some ≡ standing.some → position (λ p. some && are_among (part_variables p) (map variable_of vs)) xs ≡ position (λ p. is_covered at.taken p.formula) at.negations
  negations_covered xs vs some e t s = place_same (IsDenied over K fs) _ _ (λ x y r. ap₂ (λ a b. a && b) (s ∙ is.some) (are_among_same _ _ _ _ (part_same y.formula x y r.part) (taken_same vs t))) xs at.negations (subst (λ ys. AllZip (IsDenied over K fs) ys at.negations) (sym e) is.left.negations)

  -- ---- the first of all

  -- where nothing was taken
  pub first_untaken : {X : Type 0} (xs : List X) → standing.some ≡ false → position (λ x. not at.taken.some) xs ≡ (if length xs == 0 then None else Some 0)
  first_untaken xs s = ap (λ b. position (λ x. not b) xs) (sym is.some ∙ s) ∙ place_first xs

  -- none where something was
  pub none_taken : {X : Type 0} (xs : List X) → standing.some ≡ true → position (λ x. not at.taken.some) xs ≡ None
  none_taken xs s = ap (λ b. position (λ x. not b) xs) (sym is.some ∙ s) ∙ place_none xs

  pub atoms_length : length standing.left.atoms.items ≡ length at.atoms
  atoms_length = zip_length (IsAtom over K) _ _ is.left.atoms

  pub sorts_length : length standing.left.sorts.items ≡ length at.sorts
  sorts_length = zip_length IsSortElement _ _ is.left.sorts

  pub others_length : length standing.left.others.items ≡ length at.others
  others_length = zip_length (IsPart over K fs) _ _ is.left.others

  pub negations_length : length standing.left.negations.items ≡ length at.negations
  negations_length = zip_length (IsDenied over K fs) _ _ is.left.negations

-- the first place of as many
pub first_place_of : {X : Type 0} (ys : List X) (n : ℕ) (r : Option ℕ) → n ≡ length ys → r ≡ (if n == 0 then None else Some 0) → r ≡ position (λ y. true) ys
first_place_of ys n r e h = h ∙ ap (λ m. if m == 0 then None else Some 0) e ∙ sym (place_first ys)

module _ (over : Ground) (K : ℕ) (fs : List Core) (standing : ProgramStanding) (at : Standing) (is : IsStanding over K fs standing at) (n : ℕ) (count : n ≡ length standing.left.atoms.items) where
  -- where an atom is left, no sort element comes
  pub sorts_wait : 0 < n → None ≡ near_sort at
  sorts_wait more =
      let l : length standing.left.atoms.items ≡ length at.atoms = atoms_length over K fs standing at is in
      let e : nat_eq (length at.atoms) 0 ≡ false = grind arith in
      sym (ap (λ b. cond b (first_of a_sort (λ s. is_near at.taken (free (sort_form s)) || not at.taken.some) at.sorts) None) e)

  -- where none is, the first comes that is near, or the first of all
  pub sorts_come : n ≤ 0 → first_of a_sort (λ s. is_near at.taken (free (sort_form s)) || not at.taken.some) at.sorts ≡ near_sort at
  sorts_come none =
      let l : length standing.left.atoms.items ≡ length at.atoms = atoms_length over K fs standing at is in
      let z : n ≡ 0 = omega arith in
      let e : nat_eq (length at.atoms) 0 ≡ true = grind arith in
      sym (ap (λ b. cond b (first_of a_sort (λ s. is_near at.taken (free (sort_form s)) || not at.taken.some) at.sorts) None) e)

-- some image passes exactly where some element's does
pub any_map : {X Y : Type 0} (f : X → Y) (p : Y → Bool) (xs : List X) → list_any p (map f xs) ≡ list_any (λ x. p (f x)) xs
any_map f p [] = refl
any_map f p (x ∷ xs) = ap (λ b. p (f x) || b) (any_map f p xs)

-- a choice of the program that is none
pub none_of : (r : Option ProgramChoice) (o : Option Choice) → option_map choice_of r ≡ o → r ≡ None → o ≡ None
none_of r o e h = sym e ∙ ap (option_map choice_of) h
