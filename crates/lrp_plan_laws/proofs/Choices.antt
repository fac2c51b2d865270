-- What a round of an `and` under a guard takes is there, and when no round takes anything nothing is left.
use Rattle.std.proofs.Common.{◌≡◌, ◌⊎◌, inl, ⊎_elim, ◌≤◌, ◌<◌, ◌+◌, ℕ, zero, suc, Bool, true, false, cond, not, ◌||◌, nat_lt, nat_eq, List, [], ◌∷◌, ◌++◌, length, Option, Some, None, slice_get, remove, refl, sym, subst, arith}
use Rattle.std.specs.List.{position_or_len}
use Rattle.std.proofs.lemmas.Bool.{ltb-true}
use Rattle.std.proofs.lemmas.List.Sums.{position_or_len_is}
use Rattle.std.proofs.lemmas.List.Edits.{length-remove}
use Rattle.lrp_model.specs.Variables.{Variable, free, variables_of_test}
use Rattle.lrp_model.specs.Satisfaction.{Structure}
use Rattle.lrp_model.specs.Steps.{Steps, scan_of, sort_texts, leaf}
use Rattle.lrp_model.specs.Conjunctions.{is_covered}
use Rattle.lrp_model.specs.declared.formulas.Test.{Test}
use Rattle.lrp_plan_laws.specs.Atoms.{Atom}
use Rattle.lrp_plan_laws.specs.Projections.{PlanGround as Ground}
use Rattle.lrp_plan_laws.specs.GuardedConjunctions.{SortElement, GuardedPart as Part, Standing, Choice, an_atom, a_sort, a_part, a_test, a_negation, or_else, chosen, first_choice as first_of, near_atom, near_sort, near_part, near_test, any_positive, next_denied as next_negation, next_choice, is_near, is_linked, take, take_atom, take_sort, take_other, take_one_test as take_test, take_one_negation as take_negation, take_up, go_on_from, with_missing as brought, part_steps, is_whole_guard, uncovered_by, still_needed, atom_form, sort_form, drop_spent, rounds, elements_left}
use Rattle.lrp_plan_laws.proofs.Elements.{found, within, filter_fewer}

-- ---- a choice is there

-- the element that is chosen is there
abbrev pub IsThere : Standing → Choice → Type 0
IsThere at (an_atom i) = i < length at.atoms
IsThere at (a_sort i) = i < length at.sorts
IsThere at (a_part i) = i < length at.others
IsThere at (a_test i) = i < length at.tests
IsThere at (a_negation i) = i < length at.negations

abbrev pub IsNext : Standing → Option Choice → Type 0
IsNext at None = Unit {0}
IsNext at (Some choice) = IsThere at choice

-- the first that passes
first_there : {X : Type 0} (at : Standing) (make : ℕ → Choice) (passes : X → Bool) (xs : List X) → ((i : ℕ) → i < length xs → IsThere at (make i)) → IsNext at (first_of make passes xs)
first_there at make passes xs there = by_place (nat_lt (position_or_len passes xs) (length xs)) refl
  where
    by_place : (b : Bool) → nat_lt (position_or_len passes xs) (length xs) ≡ b → IsNext at (chosen make (cond b (Some (position_or_len passes xs)) None))
    by_place true e = there (position_or_len passes xs) (ltb-true (position_or_len passes xs) (length xs) e)
    by_place false e = tt

else_there : (at : Standing) (a b : Option Choice) → IsNext at a → IsNext at b → IsNext at (or_else a b)
else_there at (Some choice) b h k = h
else_there at None b h k = k

cond_there : (at : Standing) (b : Bool) (o : Option Choice) → IsNext at o → IsNext at (cond b o None)
cond_there at true o h = h
cond_there at false o h = tt

-- what comes next is there
pub next_there : (at : Standing) → IsNext at (next_choice at)
next_there at =
    let atom_at : (p : Atom → Bool) → IsNext at (first_of an_atom p at.atoms) = λ p. first_there at an_atom p at.atoms (λ i h. h) in
    let sort_at : (p : SortElement → Bool) → IsNext at (first_of a_sort p at.sorts) = λ p. first_there at a_sort p at.sorts (λ i h. h) in
    let part_at : (p : Part → Bool) → IsNext at (first_of a_part p at.others) = λ p. first_there at a_part p at.others (λ i h. h) in
    let test_at : (p : Test → Bool) → IsNext at (first_of a_test p at.tests) = λ p. first_there at a_test p at.tests (λ i h. h) in
    let negation_at : (p : Part → Bool) → IsNext at (first_of a_negation p at.negations) = λ p. first_there at a_negation p at.negations (λ i h. h) in
    let a : IsNext at (near_atom at) = else_there at (first_of an_atom (λ a. is_near at.taken (free (atom_form a))) at.atoms) _ (atom_at _) (else_there at (first_of an_atom (λ a. is_linked at.taken at.tests (free (atom_form a))) at.atoms) (first_of an_atom (λ a. not at.taken.some) at.atoms) (atom_at _) (atom_at _)) in
    let s : IsNext at (near_sort at) = cond_there at (nat_eq (length at.atoms) 0) (first_of a_sort (λ e. is_near at.taken (free (sort_form e)) || not at.taken.some) at.sorts) (sort_at _) in
    let o : IsNext at (near_part at) = else_there at (first_of a_part (λ p. is_near at.taken (free p.formula)) at.others) (first_of a_part (λ p. not at.taken.some) at.others) (part_at _) (part_at _) in
    let t : IsNext at (near_test at) = test_at _ in
    let p : IsNext at (any_positive at) = else_there at (first_of an_atom (λ a. true) at.atoms) _ (atom_at (λ a. true)) (else_there at (first_of a_sort (λ e. true) at.sorts) (first_of a_part (λ p. true) at.others) (sort_at (λ e. true)) (part_at (λ p. true))) in
    let u : IsNext at (first_of a_test (λ t. true) at.tests) = test_at (λ t. true) in
    let n : IsNext at (next_negation at) = else_there at (first_of a_negation (λ p. is_covered at.taken p.formula) at.negations) (first_of a_negation (λ p. true) at.negations) (negation_at _) (negation_at (λ p. true)) in
    else_there at (near_atom at) _ a
    (else_there at (near_sort at) _ s
    (else_there at (near_part at) _ o
    (else_there at (near_test at) _ t
    (else_there at (any_positive at) _ p
    (else_there at (first_of a_test (λ t. true) at.tests) (next_negation at) u n)))))

-- ---- where none is, nothing is left

else_none : (a b : Option Choice) → or_else a b ≡ None → (a ≡ None) × (b ≡ None)
else_none (Some choice) b e = cc
else_none None b e = (refl, e)

some_chosen : (choice : Choice) → Some choice ≡ None → ⊥
some_chosen choice e = cc

none_left : {X : Type 0} (make : ℕ → Choice) (xs : List X) → first_of make (λ x. true) xs ≡ None → length xs ≡ 0
none_left make [] e = refl
none_left make (x ∷ xs) e =
    let z : position_or_len (λ y. true) (x ∷ xs) ≡ 0 = position_or_len_is (λ y. true) (x ∷ xs) 0 x (omega arith) (λ k lt. absurd (omega arith)) (λ lt. refl) in
    let f : chosen make (cond (nat_lt 0 (length (x ∷ xs))) (Some 0) None) ≡ None = subst (λ n. chosen make (cond (nat_lt n (length (x ∷ xs))) (Some n) None) ≡ None) z e in
    let t : nat_lt 0 (length (x ∷ xs)) ≡ true = grind arith in
    let g : chosen make (Some 0) ≡ None = subst (λ b. chosen make (cond b (Some 0) None) ≡ None) t f in
    absurd (some_chosen (make 0) g)

pub nothing_next : (at : Standing) → next_choice at ≡ None → elements_left at ≡ 0
nothing_next at e =
    let x1 = else_none (near_atom at) _ e in
    let x2 = else_none (near_sort at) _ x1.1 in
    let x3 = else_none (near_part at) _ x2.1 in
    let x4 = else_none (near_test at) _ x3.1 in
    let x5 = else_none (any_positive at) _ x4.1 in
    let x6 = else_none (first_of a_test (λ t. true) at.tests) (next_negation at) x5.1 in
    let p1 = else_none (first_of an_atom (λ a. true) at.atoms) _ x5.0 in
    let p2 = else_none (first_of a_sort (λ e. true) at.sorts) (first_of a_part (λ p. true) at.others) p1.1 in
    let n1 = else_none (first_of a_negation (λ p. is_covered at.taken p.formula) at.negations) (first_of a_negation (λ p. true) at.negations) x6.1 in
    let a : length at.atoms ≡ 0 = none_left an_atom at.atoms p1.0 in
    let s : length at.sorts ≡ 0 = none_left a_sort at.sorts p2.0 in
    let o : length at.others ≡ 0 = none_left a_part at.others p2.1 in
    let t : length at.tests ≡ 0 = none_left a_test at.tests x6.0 in
    let n : length at.negations ≡ 0 = none_left a_negation at.negations n1.1 in
    omega arith

-- ---- each round leaves fewer

cond_fewer : (b : Bool) (x y : Standing) (n : ℕ) → elements_left x ≤ n → elements_left y ≤ n → elements_left (cond b x y) ≤ n
cond_fewer true x y n h k = h
cond_fewer false x y n h k = k

up_fewer : (M : Structure) (vs : List Variable) (steps : Steps) (at : Standing) → elements_left (take_up M vs steps at) ≤ elements_left at
up_fewer M vs steps at =
    let f : length (uncovered_by (at.taken.variables ++ vs) at.tests) ≤ length at.tests = filter_fewer _ at.tests in
    cond_fewer at.taken.some _ (go_on_from M vs steps at) (elements_left at) (omega arith) (omega arith)

module _ (over : Ground) where
  atom_fewer : (at : Standing) (i : ℕ) (a : Atom) → slice_get at.atoms i ≡ Some a → elements_left (take_atom over i (Some a) at) < elements_left at
  atom_fewer at i a e =
      let l : length (remove at.atoms i) + 1 ≡ length at.atoms = length-remove at.atoms i (within at.atoms i a e) in
      let s : length (still_needed over.structure a at.sorts) ≤ length at.sorts = filter_fewer _ at.sorts in
      let u = up_fewer over.structure (free (atom_form a)) (scan_of a.name a.terms over.structure at.steps) (record at { atoms = remove at.atoms i; sorts = still_needed over.structure a at.sorts }) in
      omega (arith, u)

  sort_fewer : (at : Standing) (i : ℕ) (s : SortElement) → slice_get at.sorts i ≡ Some s → elements_left (take_sort over i (Some s) at) < elements_left at
  sort_fewer at i s e =
      let l : length (remove at.sorts i) + 1 ≡ length at.sorts = length-remove at.sorts i (within at.sorts i s e) in
      let u = up_fewer over.structure (free (sort_form s)) (sort_texts s.sort s.variable over.structure at.steps) (record at { sorts = remove at.sorts i }) in
      omega (arith, u)

  test_fewer : (at : Standing) (i : ℕ) (t : Test) → slice_get at.tests i ≡ Some t → elements_left (take_test over i (Some t) at) < elements_left at
  test_fewer at i t e =
      let l : length (remove at.tests i) + 1 ≡ length at.tests = length-remove at.tests i (within at.tests i t e) in
      let u = up_fewer over.structure (variables_of_test t) (leaf t over.structure at.steps) (record at { tests = remove at.tests i }) in
      omega (arith, u)

  other_fewer : (at : Standing) (i : ℕ) (x : Part) → slice_get at.others i ≡ Some x → elements_left (take_other over i (Some x) at) < elements_left at
  other_fewer at i x e =
      let l : length (remove at.others i) + 1 ≡ length at.others = length-remove at.others i (within at.others i x e) in
      let less : Standing = record at { others = remove at.others i } in
      let steps : Steps = part_steps over at.taken x at.steps in
      let u = up_fewer over.structure (free x.formula) steps less in
      let f : length (uncovered_by (at.taken.variables ++ free x.formula) at.tests) ≤ length at.tests = filter_fewer _ at.tests in
      let c = cond_fewer (is_whole_guard over at.taken at.steps x.formula) (go_on_from over.structure (free x.formula) steps less) (take_up over.structure (free x.formula) steps less) (elements_left less) (omega arith) u in
      omega (arith, c)

  negation_fewer : (at : Standing) (i : ℕ) (x : Part) → slice_get at.negations i ≡ Some x → elements_left (take_negation over i (Some x) at) < elements_left at
  negation_fewer at i x e =
      let l : length (remove at.negations i) + 1 ≡ length at.negations = length-remove at.negations i (within at.negations i x e) in
      let less : Standing = record at { negations = remove at.negations i } in
      let c = cond_fewer at.taken.some (brought over.structure x.formula less) less (elements_left less) (omega arith) (omega arith) in
      omega (arith, c)

  -- so does whatever is taken
  pub take_fewer : (at : Standing) (choice : Choice) → IsThere at choice → elements_left (take over choice at) < elements_left at
  take_fewer at (an_atom i) h = let f = found at.atoms i h in subst (λ o. elements_left (take_atom over i o at) < elements_left at) (sym f.1) (atom_fewer at i f.0 f.1)
  take_fewer at (a_sort i) h = let f = found at.sorts i h in subst (λ o. elements_left (take_sort over i o at) < elements_left at) (sym f.1) (sort_fewer at i f.0 f.1)
  take_fewer at (a_part i) h = let f = found at.others i h in subst (λ o. elements_left (take_other over i o at) < elements_left at) (sym f.1) (other_fewer at i f.0 f.1)
  take_fewer at (a_test i) h = let f = found at.tests i h in subst (λ o. elements_left (take_test over i o at) < elements_left at) (sym f.1) (test_fewer at i f.0 f.1)
  take_fewer at (a_negation i) h = let f = found at.negations i h in subst (λ o. elements_left (take_negation over i o at) < elements_left at) (sym f.1) (negation_fewer at i f.0 f.1)

-- ---- what each round keeps all keep, and in the end nothing is left

module _ (over : Ground) (way done : Standing → Type 0) (goes : (at : Standing) → done at → way at) (by_drop : (at : Standing) → done at → done (drop_spent over at))
    (by_atom : (at : Standing) (i : ℕ) (a : Atom) → slice_get at.atoms i ≡ Some a → way at → done (take_atom over i (Some a) at))
    (by_sort : (at : Standing) (i : ℕ) (s : SortElement) → slice_get at.sorts i ≡ Some s → way at → done (take_sort over i (Some s) at))
    (by_other : (at : Standing) (i : ℕ) (x : Part) → slice_get at.others i ≡ Some x → way at → done (take_other over i (Some x) at))
    (by_test : (at : Standing) (i : ℕ) (t : Test) → slice_get at.tests i ≡ Some t → way at → done (take_test over i (Some t) at))
    (by_negation : (at : Standing) (i : ℕ) (x : Part) → slice_get at.negations i ≡ Some x → way at → done (take_negation over i (Some x) at)) where
  -- one round
  one_round : (at : Standing) (choice : Choice) → IsThere at choice → way at → done (take over choice at)
  one_round at (an_atom i) h w = let f = found at.atoms i h in subst (λ o. done (take_atom over i o at)) (sym f.1) (by_atom at i f.0 f.1 w)
  one_round at (a_sort i) h w = let f = found at.sorts i h in subst (λ o. done (take_sort over i o at)) (sym f.1) (by_sort at i f.0 f.1 w)
  one_round at (a_part i) h w = let f = found at.others i h in subst (λ o. done (take_other over i o at)) (sym f.1) (by_other at i f.0 f.1 w)
  one_round at (a_test i) h w = let f = found at.tests i h in subst (λ o. done (take_test over i o at)) (sym f.1) (by_test at i f.0 f.1 w)
  one_round at (a_negation i) h w = let f = found at.negations i h in subst (λ o. done (take_negation over i o at)) (sym f.1) (by_negation at i f.0 f.1 w)

  -- all rounds
  pub all_rounds : (n : ℕ) (at : Standing) (o : Option Choice) → next_choice at ≡ o → elements_left at ≤ n → way at → done at ⊎ (0 < elements_left at) → done (rounds over n o at) × (elements_left (rounds over n o at) ≡ 0)
  all_rounds zero at o e le w s = ⊎_elim (λ d. (d, omega arith)) (λ lt. absurd (omega arith)) s
  all_rounds (suc n) at None e le w s = let z : elements_left at ≡ 0 = nothing_next at e in ⊎_elim (λ d. (d, z)) (λ lt. absurd (omega arith)) s
  all_rounds (suc n) at (Some choice) e le w s =
      let h : IsThere at choice = subst (IsNext at) e (next_there at) in
      let d : done (drop_spent over (take over choice at)) = by_drop (take over choice at) (one_round at choice h w) in
      let f : elements_left (take over choice at) < elements_left at = take_fewer over at choice h in
      let after : Standing = drop_spent over (take over choice at) in
      let z : elements_left after ≤ n = omega (arith, f) in
      all_rounds n after (next_choice after) refl z (goes after d) (inl d)
