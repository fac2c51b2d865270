-- A part of a choice by its keys is one by its rows: the same assignments, in as many cells.
use Rattle.std.proofs.Common.{◌≡◌, ◌<◌, ◌≤◌, ◌-◌, ℕ, zero, suc, List, [], ◌∷◌, ◌++◌, length, map, flat_map, filter, take, Contains, Some, inl, inr, refl, sym, ap, subst, ◌∙◌, arith}
use Rattle.std.specs.Prelude.{slice_get}
use Rattle.std.specs.List.{AllByRecursion, AllZip}
use Rattle.slab.specs.Slab.{get}
use Rattle.lrp_model.specs.Cells.{FormCell, LiesIn}
use Rattle.lrp_model.specs.Formulas.{Form}
use Rattle.lrp_model.specs.Rows.{IsInRow}
use Rattle.lrp_model.specs.Satisfaction.{Assignment, Passes, term_value}
use Rattle.lrp_model.specs.Texts.{Identifier}
use Rattle.lrp_model.specs.Variables.{Variable, are_among, data_variable, time_variable, variables_of_term, variables_of_test}
use Rattle.lrp_model.specs.declared.formulas.Test.{Test}
use Rattle.lrp_model.specs.declared.relations.Row.{Row}
use Rattle.lrp_model.proofs.Decided.{cons_cases, contains_first, contains_later}
use Rattle.lrp_plan_laws.specs.Atoms.{Atom, atoms}
use Rattle.lrp_plan_laws.proofs.Members.{all_by, all_of, in_left}
use Rattle.lrp_tables.specs.Columns.{texts_of_term, times_of_term}
use Rattle.lrp_tables.specs.Tables.{HasTexts, named_variables}
use Rattle.lrp_tables.proofs.Pieced.{in_flat}
use Rattle.lrp_kept.specs.Choices.{HasManyCells, IsInPart, Matches, atom_variables, covered_tests, disjunct_tests, part_tests}
use Rattle.lrp_parts.specs.Derivations.{Ground, HasManyKeyedCells, IsOfPart, MatchKeys, last_atom, atom_tests, tests_of_part, atom_texts, atom_times}
use Rattle.lrp_kept.specs.Disjuncts.{AreJoined, IsAtomOf, IsDisjunctOf, is_test_covered}
use Rattle.lrp_kept.specs.Held.{names_of}
use Rattle.lrp_kept.specs.declared.disjuncts.Disjunct.{Disjunct}
use Rattle.lrp_kept.specs.declared.disjuncts.JoinedAtom.{JoinedAtom}
use Rattle.lrp_kept.specs.declared.rows.HeldRows.{HeldRows}
use Rattle.lrp_kept.specs.declared.rows.HeldRow.{HeldRow}
use Rattle.lrp_parts.proofs.After.{in_kept, kept_test, own_tests, own_texts, own_times, rises, some_terms}
use Rattle.lrp_parts.proofs.Narrow.{some_times}
use Rattle.lrp_kept.proofs.PartVariables.{IsNamed, covered_from, covered_to, in_named, named_in, term_named, text_named, time_named}
use Rattle.lrp_kept.proofs.SameCells.{many_there}
use Rattle.lrp_parts.proofs.PartTables.{one_source}
use Rattle.lrp_theory.proofs.Members.{from_flat}

-- ---- first elements

zip_take : {X Y : Type 0} (R : X → Y → Type 0) (n : ℕ) (xs : List X) (ys : List Y) → AllZip R xs ys → AllZip R (take n xs) (take n ys)
zip_take R zero xs ys z = tt
zip_take R (suc n) [] [] z = tt
zip_take R (suc n) [] (y ∷ ys) z = absurd z
zip_take R (suc n) (x ∷ xs) [] z = absurd z
zip_take R (suc n) (x ∷ xs) (y ∷ ys) z = (z.0, zip_take R n xs ys z.1)

joined_take : (tests : List Test) (ts xs : List Identifier) (n : ℕ) (js : List JoinedAtom) → AreJoined tests ts xs js → AreJoined tests ts xs (take n js)
joined_take tests ts xs zero js h = tt
joined_take tests ts xs (suc n) [] h = tt
joined_take tests ts xs (suc n) (j ∷ js) h = (h.0, h.1, h.2, joined_take tests j.vars.times j.vars.texts n js h.3)

at_take : {X : Type 0} (n i : ℕ) (xs : List X) → i < n → slice_get (take n xs) i ≡ slice_get xs i
at_take zero i xs l = absurd (omega (arith, l))
at_take (suc n) i [] l = refl
at_take (suc n) zero (x ∷ xs) l = refl
at_take (suc n) (suc i) (x ∷ xs) l = at_take n i xs (let k : suc i < suc n = l in omega (arith, k))

zip_find : {X Y : Type 0} (R : X → Y → Type 0) (xs : List X) (ys : List Y) (x : X) → AllZip R xs ys → Contains xs x → (i : ℕ) × (y : Y) × (slice_get ys i ≡ Some y) × (i < length ys) × R x y
zip_find R [] ys x z c = absurd (let l : c.0 < 0 = c.1 in omega (arith, l))
zip_find R (w ∷ xs) [] x z c = absurd z
zip_find R (w ∷ xs) (y ∷ ys) x z c = elim (cons_cases w x xs c) [
  | inl s ↦ (0, y, refl, omega arith, subst (λ k. R k y) s z.0)
  | inr d ↦ let r = zip_find R xs ys x z.1 d in (suc r.0, r.1, r.2, (let l : r.0 < length ys = r.3 in omega (arith, l)), r.4)
]

zip_left : {X Y : Type 0} (R : X → Y → Type 0) (xs : List X) (ys : List Y) (y : Y) → AllZip R xs ys → Contains ys y → (x : X) × Contains xs x × R x y
zip_left R xs [] y z c = absurd (let l : c.0 < 0 = c.1 in omega (arith, l))
zip_left R [] (w ∷ ys) y z c = absurd z
zip_left R (x ∷ xs) (w ∷ ys) y z c = elim (cons_cases w y ys c) [
  | inl s ↦ (x, contains_first x xs, subst (λ k. R x k) s z.0)
  | inr d ↦ let r = zip_left R xs ys y z.1 d in (r.0, contains_later x r.0 xs r.1, r.2)
]

-- ---- a part's variables and tests

module _ (names : List Identifier) (f : Form) (d : Disjunct) (is : IsDisjunctOf names f d) (count : ℕ) (low : 0 < count) (b : JoinedAtom) (at : last_atom d count ≡ Some b) where
  abbrev front : List Atom
  front = take count (atoms f)

  abbrev joined : List JoinedAtom
  joined = take count d.atoms.items

  zipped : AllZip (IsAtomOf names) front joined
  zipped = zip_take (IsAtomOf names) count (atoms f) d.atoms.items is.atoms_are

  up : AreJoined d.tests [] [] joined
  up = joined_take d.tests [] [] count d.atoms.items is.joined

  last_at : slice_get joined (count - 1) ≡ Some b
  last_at = at_take count (count - 1) d.atoms.items (omega (arith, low)) ∙ at

  small : (n : ℕ) (xs : List JoinedAtom) → length (take n xs) ≤ n
  small zero xs = omega arith
  small (suc n) [] = omega arith
  small (suc n) (x ∷ xs) = let l : length (take n xs) ≤ n = small n xs in omega (arith, l)

  -- what its atoms name the last one has
  pub variable_to : (v : Variable) → Contains (atom_variables front) v → IsNamed b.vars.times b.vars.texts v
  variable_to v i =
      let a = from_flat (λ (x : Atom). flat_map variables_of_term x.terms) front v i in
      let z = zip_find (IsAtomOf names) front joined a.0 zipped a.1 in
      let le : z.0 ≤ count - 1 = (let l : z.0 < length joined = z.3 in let m : length joined ≤ count = small count d.atoms.items in omega (arith, l, m)) in
      let after = rises d.tests [] [] joined up z.0 (count - 1) z.1 b le z.2 last_at in
      by v z.0 z.1 z.2 after.times after.texts (term_named z.1.terms v (subst (λ ts. Contains (flat_map variables_of_term ts) v) (sym z.4.terms) a.2))
    where
      by : (v : Variable) (i : ℕ) (j : JoinedAtom) → slice_get joined i ≡ Some j → (more : List Identifier) × (b.vars.times ≡ j.vars.times ++ more) → (more : List Identifier) × (b.vars.texts ≡ j.vars.texts ++ more) → IsNamed (flat_map times_of_term j.terms) (flat_map texts_of_term j.terms) v → IsNamed b.vars.times b.vars.texts v
      by (time_variable n) i j e t x h = subst (λ ns. Contains ns n) (sym t.1) (in_left j.vars.times t.0 n (own_times d.tests [] [] joined up i j e n h))
      by (data_variable n) i j e t x h = subst (λ ns. Contains ns n) (sym x.1) (in_left j.vars.texts x.0 n (own_texts d.tests [] [] joined up i j e n h))

  -- and what the last one has they name
  pub variable_from : (v : Variable) → IsNamed b.vars.times b.vars.texts v → Contains (atom_variables front) v
  variable_from (time_variable n) h = elim (some_times d.tests [] [] joined up (count - 1) b last_at n h) [
    | inl none ↦ absurd (let l : none.0 < 0 = none.1 in omega (arith, l))
    | inr r ↦
        let a = zip_left (IsAtomOf names) front joined r.0 zipped r.1 in
        in_flat (λ (x : Atom). flat_map variables_of_term x.terms) front a.0 (time_variable n) a.1 (time_named a.0.terms n (subst (λ ts. Contains (flat_map times_of_term ts) n) a.2.terms r.2))
  ]
  variable_from (data_variable n) h = elim (some_terms d.tests [] [] joined up (count - 1) b last_at n h) [
    | inl none ↦ absurd (let l : none.0 < 0 = none.1 in omega (arith, l))
    | inr r ↦
        let a = zip_left (IsAtomOf names) front joined r.0 zipped r.1 in
        in_flat (λ (x : Atom). flat_map variables_of_term x.terms) front a.0 (data_variable n) a.1 (text_named a.0.terms n (subst (λ ts. Contains (flat_map texts_of_term ts) n) a.2.terms r.2))
  ]

  own : b.tests ≡ filter (is_test_covered b.vars.times b.vars.texts) d.tests
  own = own_tests d.tests [] [] joined up (count - 1) b last_at

  -- the tests of its variables are those of the last atom
  pub test_to : (t : Test) → Contains (covered_tests front (disjunct_tests f)) t → Contains b.tests t
  test_to t i =
      let k = in_kept (λ t. are_among (variables_of_test t) (atom_variables front)) (disjunct_tests f) t i in
      subst (λ l. Contains l t) (sym own) (kept_test (is_test_covered b.vars.times b.vars.texts) d.tests t (subst (λ l. Contains l t) (sym is.tests_are) k.0) (covered_to (atom_variables front) b.vars.times b.vars.texts variable_to variable_from t k.1))

  pub test_from : (t : Test) → Contains b.tests t → Contains (covered_tests front (disjunct_tests f)) t
  test_from t i =
      let k = in_kept (is_test_covered b.vars.times b.vars.texts) d.tests t (subst (λ l. Contains l t) own i) in
      kept_test (λ t. are_among (variables_of_test t) (atom_variables front)) (disjunct_tests f) t (subst (λ l. Contains l t) is.tests_are k.0) (covered_from (atom_variables front) b.vars.times b.vars.texts variable_to variable_from t k.1)

  -- ---- the tests of the part

  long : (n : ℕ) (xs : List Atom) → length (take n xs) ≤ n
  long zero xs = omega arith
  long (suc n) [] = omega arith
  long (suc n) (x ∷ xs) = let l : length (take n xs) ≤ n = long n xs in omega (arith, l)

  tests_by : (n : ℕ) → 2 ≤ n → (t : Test) → Contains (atom_tests (last_atom d n)) t → Contains (tests_of_part d n) t
  tests_by zero l t i = absurd (omega (arith, l))
  tests_by (suc zero) l t i = absurd (omega (arith, l))
  tests_by (suc (suc n)) l t i = i

  tests_two : (n : ℕ) (t : Test) → Contains (tests_of_part d n) t → (2 ≤ n) × Contains (atom_tests (last_atom d n)) t
  tests_two zero t i = absurd (let l : i.0 < 0 = i.1 in omega (arith, l))
  tests_two (suc zero) t i = absurd (let l : i.0 < 0 = i.1 in omega (arith, l))
  tests_two (suc (suc n)) t i = (omega arith, i)

  pub part_test_to : (t : Test) → Contains (part_tests front (disjunct_tests f)) t → Contains (tests_of_part d count) t
  part_test_to t i = by front (long count (atoms f)) i (λ j. test_to t j)
    where
      by : (rest : List Atom) → length rest ≤ count → Contains (part_tests rest (disjunct_tests f)) t → (Contains (covered_tests rest (disjunct_tests f)) t → Contains b.tests t) → Contains (tests_of_part d count) t
      by [] l c g = absurd (let k : c.0 < 0 = c.1 in omega (arith, k))
      by (a ∷ []) l c g = absurd (let k : c.0 < 0 = c.1 in omega (arith, k))
      by (a ∷ e ∷ rest) l c g = tests_by count (let k : suc (suc (length rest)) ≤ count = l in omega (arith, k)) t (subst (λ o. Contains (atom_tests o) t) (sym at) (g c))

  pub part_test_from : length front ≡ count → (t : Test) → Contains (tests_of_part d count) t → Contains (part_tests front (disjunct_tests f)) t
  part_test_from size t i =
      let k = tests_two count t i in
      by front size k.0 (test_from t (subst (λ o. Contains (atom_tests o) t) at k.1))
    where
      by : (rest : List Atom) → length rest ≡ count → 2 ≤ count → Contains (covered_tests rest (disjunct_tests f)) t → Contains (part_tests rest (disjunct_tests f)) t
      by [] e l c = absurd (let k : 0 ≡ count = e in omega (arith, k, l))
      by (a ∷ []) e l c = absurd (let k : 1 ≡ count = e in omega (arith, k, l))
      by (a ∷ x ∷ rest) e l c = c

-- ---- rows under keys

-- each row is the one under its key
abbrev pub AreUnder : HeldRows → List ℕ → List Row → Type 0
AreUnder rows keys all = AllZip (λ key row. (source : HeldRow) × (get rows.sources key ≡ Some source) × (source.row ≡ row)) keys all

module _ (held : HeldRows) (env : Assignment) where
  match_to : (all : List Atom) (js : List JoinedAtom) (keys : List ℕ) (rows : List Row) → AllZip (IsAtomOf (names_of held)) all js → AreUnder held keys rows → MatchKeys held env js keys → AllZip (Matches env) (take (length keys) all) rows
  match_to all js [] [] z u m = tt
  match_to all js [] (row ∷ rows) z u m = absurd u
  match_to all js (key ∷ keys) [] z u m = absurd u
  match_to [] [] (key ∷ keys) (row ∷ rows) z u m = absurd m
  match_to [] (j ∷ js) (key ∷ keys) (row ∷ rows) z u m = absurd z
  match_to (a ∷ all) [] (key ∷ keys) (row ∷ rows) z u m = absurd z
  match_to (a ∷ all) (j ∷ js) (key ∷ keys) (row ∷ rows) z u m =
      let same : m.0.source ≡ u.0.0 = one_source (get held.sources key) m.0.source u.0.0 m.0.held u.0.1 in
      let is : IsInRow row (map (term_value env) a.terms) = subst (λ ts. IsInRow row (map (term_value env) ts)) z.0.terms (subst (λ r. IsInRow r (map (term_value env) j.terms)) (ap (λ (s : HeldRow). s.row) same ∙ u.0.2) m.0.is) in
      (is, match_to all js keys rows z.1 u.1 m.1)

  match_from : (all : List Atom) (js : List JoinedAtom) (keys : List ℕ) (rows : List Row) → AllZip (IsAtomOf (names_of held)) all js → AreUnder held keys rows → AllZip (Matches env) (take (length keys) all) rows → MatchKeys held env js keys
  match_from all js [] [] z u m = tt
  match_from all js [] (row ∷ rows) z u m = absurd u
  match_from all js (key ∷ keys) [] z u m = absurd u
  match_from [] [] (key ∷ keys) (row ∷ rows) z u m = absurd m
  match_from [] (j ∷ js) (key ∷ keys) (row ∷ rows) z u m = absurd z
  match_from (a ∷ all) [] (key ∷ keys) (row ∷ rows) z u m = absurd z
  match_from (a ∷ all) (j ∷ js) (key ∷ keys) (row ∷ rows) z u m =
      (record { source = u.0.0; held = u.0.1; is = subst (λ ts. IsInRow u.0.0.row (map (term_value env) ts)) (sym z.0.terms) (subst (λ r. IsInRow r (map (term_value env) a.terms)) (sym u.0.2) m.0) }, match_from all js keys rows z.1 u.1 m.1)

-- ---- the part

module _ (g : Ground) (f : Form) (d : Disjunct) (is : IsDisjunctOf (names_of g.rows) f d) (keys : List ℕ) (rows : List Row) (low : 0 < length keys) (b : JoinedAtom) (at : last_atom d (length keys) ≡ Some b) (under : AreUnder g.rows keys (take (length keys) rows)) (size : length (take (length keys) (atoms f)) ≡ length keys) where
  pub part_to : (env : Assignment) → IsOfPart g d keys env → IsInPart f rows (length keys) env
  part_to env h = record {
    rows_match = match_to g.rows env (atoms f) d.atoms.items keys (take (length keys) rows) is.atoms_are under h.rows;
    tests_pass = all_by (Passes env) (part_tests (take (length keys) (atoms f)) (disjunct_tests f)) (λ t i. all_of (Passes env) (tests_of_part d (length keys)) t h.passes (part_test_to (names_of g.rows) f d is (length keys) low b at t i));
  }

  -- a text variable that lies in a cell has a text of the domain
  texts_there : (k : ℕ) (cell : FormCell) (env : Assignment) (ns : List Identifier) → ((n : Identifier) → Contains ns n → LiesIn k g.domain env cell (data_variable n)) → HasTexts g.domain ns env
  texts_there k cell env [] h = tt
  texts_there k cell env (n ∷ ns) h =
      let x = h n (contains_first n ns) in
      (subst (λ t. Contains g.domain t) (sym x.1) x.0, texts_there k cell env ns (λ m i. h m (contains_later n m ns i)))

  pub part_from : (env : Assignment) (cell : FormCell) → AllByRecursion (LiesIn g.period g.domain env cell) (atom_variables (take (length keys) (atoms f))) → IsInPart f rows (length keys) env → IsOfPart g d keys env
  part_from env cell inside h = record {
    known = subst (λ o. HasTexts g.domain (atom_texts o) env) (sym at) (texts_there g.period cell env b.vars.texts (λ n i. all_of (LiesIn g.period g.domain env cell) (atom_variables (take (length keys) (atoms f))) (data_variable n) inside (variable_from (names_of g.rows) f d is (length keys) low b at (data_variable n) i)));
    rows = match_from g.rows env (atoms f) d.atoms.items keys (take (length keys) rows) is.atoms_are under h.rows_match;
    passes = all_by (Passes env) (tests_of_part d (length keys)) (λ t i. all_of (Passes env) (part_tests (take (length keys) (atoms f)) (disjunct_tests f)) t h.tests_pass (part_test_from (names_of g.rows) f d is (length keys) low b at size t i));
  }

  abbrev own_variables : List Variable
  own_variables = named_variables (atom_times (last_atom d (length keys))) (atom_texts (last_atom d (length keys)))

  to_own : (v : Variable) → Contains (atom_variables (take (length keys) (atoms f))) v → Contains own_variables v
  to_own v i = subst (λ o. Contains (named_variables (atom_times o) (atom_texts o)) v) (sym at) (named_in b.vars.times b.vars.texts v (variable_to (names_of g.rows) f d is (length keys) low b at v i))

  from_own : (v : Variable) → Contains own_variables v → Contains (atom_variables (take (length keys) (atoms f))) v
  from_own v i = variable_from (names_of g.rows) f d is (length keys) low b at v (in_named b.vars.times b.vars.texts v (subst (λ o. Contains (named_variables (atom_times o) (atom_texts o)) v) at i))

  -- so it has as many cells
  pub many_of_keys : HasManyKeyedCells g d keys → HasManyCells g.domain g.period g.cap f rows (length keys)
  many_of_keys m = many_there g.domain g.period own_variables (atom_variables (take (length keys) (atoms f))) from_own to_own (IsOfPart g d keys) (IsInPart f rows (length keys)) (λ env cell inside h. part_to env h) g.cap m

  pub many_of_rows : HasManyCells g.domain g.period g.cap f rows (length keys) → HasManyKeyedCells g d keys
  many_of_rows m = many_there g.domain g.period (atom_variables (take (length keys) (atoms f))) own_variables to_own from_own (IsInPart f rows (length keys)) (IsOfPart g d keys) part_from g.cap m
