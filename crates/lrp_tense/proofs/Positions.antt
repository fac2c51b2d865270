-- Operators are counted by their positions as by their places.
use Rattle.std.proofs.Common.{◌≡◌, inl, inr, ⊎_elim, ℕ, zero, suc, ◌<◌, ◌≤◌, ◌+◌, ◌-◌, Bool, true, false, cond, get_or, List, [], ◌∷◌, ◌++◌, map, length, refl, sym, ap, ap₂, ◌∙◌, add-one, arith}
use Rattle.std.specs.Prelude.{nat_lt, count_by, slice_index, IsPermutation}
use Rattle.std.specs.List.{AllByRecursion}
use Rattle.std.specs.List.Sorted.{IsNonDecreasing}
use Rattle.std.proofs.lemmas.Bool.{ltb-true, ltb-false, lt-ltb, le-ltb}
use Rattle.std.proofs.lemmas.List.Sums.{length-filter, sum_by-cons}
use Rattle.std.proofs.lemmas.List.Sorted.{sum_by-IsPermutation}
use Rattle.lrp_model.specs.declared.tokens.Place.{Place}
use Rattle.lrp_model.specs.RawQueries.{RawForm, RawForms, raw_atom, raw_compare, raw_member, raw_not, raw_and, raw_or, raw_implies, raw_group, raw_exists, raw_forall, raw_ranged, raw_paired, no_raws, raw, raw_form_of, raw_question_of}
use Rattle.lrp_tense.specs.Expanding.{is_before, operator_number, operators, operators_each, Naming, renamed_to, expanded, expanded_each, form_of_range, form_of_pair, present_name, moment_name, between_name, moment_of, between_of}
use Rattle.lrp_model.specs.declared.raw.RawColumn.{RawColumn}
use Rattle.lrp_model.specs.declared.raw.RawQuery.{RawQuery}
use Rattle.lrp_model.specs.declared.raw.RawQuery.{RawQuery}
use Rattle.lrp_tense.specs.Expanding.{expanded_question}
use Rattle.lrp_tense.specs.Counting.{position_of, operator_number_in, HasSmallColumn, AreNumbers}
use Rattle.lrp_tense.proofs.Numbering.{IsEarlier, earlier, before, trichotomy}

-- ---- positions are in the order of places

module _ (q p : Place) (qs : HasSmallColumn q) (ps : HasSmallColumn p) where
  rises : IsEarlier q p → position_of q < position_of p
  rises (inl lt) = omega (arith, lt, qs)
  rises (inr h) = let e : q.line ≡ p.line = h.0 in let lt : q.column < p.column = h.1 in omega (arith, e, lt)

  falls : position_of q < position_of p → IsEarlier q p
  falls lt =
      ⊎_elim (λ s. ⊎_elim (λ a. inl a) (λ a. let b : p.line < q.line = a in absurd (omega (arith, b, lt, ps))) s)
      (λ e. let f : q.line ≡ p.line = e in inr (f, omega (arith, f, lt))) (trichotomy q.line p.line)

  pub before_is : is_before q p ≡ nat_lt (position_of q) (position_of p)
  before_is = at_test (is_before q p) (nat_lt (position_of q) (position_of p)) refl refl
    where
      at_test : (a b : Bool) → is_before q p ≡ a → nat_lt (position_of q) (position_of p) ≡ b → is_before q p ≡ nat_lt (position_of q) (position_of p)
      at_test true true e f = e ∙ sym f
      at_test false false e f = e ∙ sym f
      at_test true false e f = let k : position_of q < position_of p = rises (earlier q p e) in let m : position_of p ≤ position_of q = ltb-false (position_of q) (position_of p) f in absurd (omega (arith, k, m))
      at_test false true e f = before q p (falls (ltb-true (position_of q) (position_of p) f)) ∙ sym f

-- ---- the same count

-- one element more
counted_first : {X : Type 0} (t : X → Bool) (x : X) (xs : List X) → count_by t (x ∷ xs) ≡ cond (t x) (suc (count_by t xs)) (count_by t xs)
counted_first t x xs = sum_by-cons (λ y. cond (t y) 1 0) x xs ∙ at_test (t x) (count_by t xs)
  where
    at_test : (b : Bool) (n : ℕ) → cond b 1 0 + n ≡ cond b (suc n) n
    at_test true n = omega arith
    at_test false n = omega arith

-- where all before a point pass a test and none after it, the point is how many pass it
pub count_point : (t : ℕ → Bool) (xs : List ℕ) (i : ℕ) → i ≤ length xs → ((k : ℕ) → k < i → t (get_or xs k 0) ≡ true) → ((k : ℕ) → i ≤ k → k < length xs → t (get_or xs k 0) ≡ false) → count_by t xs ≡ i
count_point t [] i le yes' no' = omega (arith, le)
count_point t (x ∷ xs) zero le yes' no' =
    let rest : count_by t xs ≡ 0 = count_point t xs 0 (omega arith) (λ k lt. absurd (omega (arith, lt))) (λ k low lt. no' (suc k) (omega arith) (omega (arith, lt))) in
    let first : t x ≡ false = no' 0 (omega arith) (omega arith) in
    counted_first t x xs ∙ ap (λ b. cond b (suc (count_by t xs)) (count_by t xs)) first ∙ rest
count_point t (x ∷ xs) (suc i) le yes' no' =
    let rest : count_by t xs ≡ i = count_point t xs i (omega (arith, le)) (λ k lt. yes' (suc k) (omega (arith, lt))) (λ k low lt. no' (suc k) (omega (arith, low)) (omega (arith, lt))) in
    let first : t x ≡ true = yes' 0 (omega arith) in
    counted_first t x xs ∙ ap (λ b. cond b (suc (count_by t xs)) (count_by t xs)) first ∙ ap suc rest

-- the first of ascending positions that is not below one is that very one, and stands at this index
pub record IsFirstAt (positions : List ℕ) (index here : ℕ) : Type 0 where
  pub within : index < length positions
  pub found : slice_index positions index ≡ here
  pub low : 0 < index → slice_index positions (index - 1) < here

-- the first position that is not below one, where it is that very one, is how many are below it
pub counted_to : (xs : List ℕ) (i here : ℕ) → IsNonDecreasing xs → IsFirstAt xs i here → count_by (λ q. nat_lt q here) xs ≡ i
counted_to xs i here order f =
    let within : i < length xs = f.within in
    let found : get_or xs i 0 ≡ here = f.found in
    count_point (λ q. nat_lt q here) xs i (omega arith)
    (λ k lt. let rises : get_or xs k 0 ≤ get_or xs (i - 1) 0 = order k (i - 1) 0 (omega arith) (omega arith) in let low : get_or xs (i - 1) 0 < here = f.low (omega arith) in lt-ltb (get_or xs k 0) here (omega arith))
    (λ k le lt. let rises : get_or xs i 0 ≤ get_or xs k 0 = order i k 0 le lt in le-ltb (get_or xs k 0) here (omega arith))

-- so the operator there has the next number
pub number_there : (xs : List ℕ) (i here : ℕ) (p : Place) → IsNonDecreasing xs → here ≡ position_of p → IsFirstAt xs i here → i + 1 ≡ operator_number_in xs p
number_there xs i here p order is f =
    let count : count_by (λ q. nat_lt q here) xs ≡ i = counted_to xs i here order f in
    add-one i ∙ ap suc (sym count ∙ ap (λ h. count_by (λ q. nat_lt q h) xs) is)

-- permutations have the same counts
same_count : {X : Type 0} (t : X → Bool) (xs ys : List X) → IsPermutation xs ys → count_by t ys ≡ count_by t xs
same_count t xs ys p = sum_by-IsPermutation (λ x. cond (t x) 1 0) xs ys p

-- places before one, counted by positions
counted : (p : Place) → HasSmallColumn p → (qs : List Place) → AllByRecursion HasSmallColumn qs → count_by (λ q. is_before q p) qs ≡ count_by (λ n. nat_lt n (position_of p)) (map position_of qs)
counted p small [] all = refl
counted p small (q ∷ qs) all =
    counted_first (λ r. is_before r p) q qs ∙ ap₂ (λ b n. cond b (suc n) n) (before_is q p all.0 small) (counted p small qs all.1)
    ∙ sym (counted_first (λ n. nat_lt n (position_of p)) (position_of q) (map position_of qs))

pub number_same : (positions : List ℕ) (places : List Place) → AreNumbers positions places → (p : Place) → HasSmallColumn p → operator_number_in positions p ≡ operator_number places p
number_same positions places n p small =
    ap suc (same_count (λ q. nat_lt q (position_of p)) (map position_of places) positions n.same ∙ sym (counted p small places n.small) ∙ sym (length-filter (λ q. is_before q p) places))

-- ---- the same expansion

-- both numbers are the same at each place
abbrev Agree : (Place → ℕ) → (Place → ℕ) → List Place → Type 0
Agree n m = AllByRecursion (λ p. n p ≡ m p)

agree_left : (n m : Place → ℕ) (xs ys : List Place) → Agree n m (xs ++ ys) → Agree n m xs
agree_left n m [] ys a = tt
agree_left n m (x ∷ xs) ys a = (a.0, agree_left n m xs ys a.1)

agree_right : (n m : Place → ℕ) (xs ys : List Place) → Agree n m (xs ++ ys) → Agree n m ys
agree_right n m [] ys a = a
agree_right n m (x ∷ xs) ys a = agree_right n m xs ys a.1

mutual
  same_expansion : (f : RawForm) (n m : Place → ℕ) → Agree n m (operators f) → (names : Naming) → expanded f n names ≡ expanded f m names
  same_expansion (raw_atom p r ts) n m a names = refl
  same_expansion (raw_compare p l op r) n m a names = refl
  same_expansion (raw_member p t point) n m a names = refl
  same_expansion (raw_not p f) n m a names = ap (λ x. raw_not p x) (same_expansion f n m a names)
  same_expansion (raw_and p fs) n m a names = ap (λ x. raw_and p x) (same_expansions fs n m a names)
  same_expansion (raw_or p fs) n m a names = ap (λ x. raw_or p x) (same_expansions fs n m a names)
  same_expansion (raw_implies p f g) n m a names = ap₂ (λ x y. raw_implies p x y) (same_expansion f n m (agree_left n m (operators f) (operators g) a) names) (same_expansion g n m (agree_right n m (operators f) (operators g) a) names)
  same_expansion (raw_group p f) n m a names = ap (λ x. raw_group p x) (same_expansion f n m a names)
  same_expansion (raw_exists p c f) n m a names = ap (λ x. raw_exists p c x) (same_expansion f n m a (renamed_to c.name c.name ∷ names))
  same_expansion (raw_forall p c f) n m a names = ap (λ x. raw_forall p c x) (same_expansion f n m a (renamed_to c.name c.name ∷ names))
  same_expansion (raw_ranged word o from to f) n m a names =
      ap₂ (λ i x. form_of_range word o (moment_name o.name i) (present_name names o.name) from to x) a.0 (same_expansion f n m a.1 (renamed_to o.name (moment_of n o) ∷ names))
      ∙ ap (λ i. form_of_range word o (moment_of m o) (present_name names o.name) from to (expanded f m (renamed_to o.name (moment_name o.name i) ∷ names))) a.0
  same_expansion (raw_paired word o f g) n m a names =
      ap₂ (λ x y. form_of_pair word o (moment_of n o) (between_of n o) (present_name names o.name) x y) (same_expansion f n m (agree_left n m (operators f) (operators g) a.1) (renamed_to o.name (between_of n o) ∷ names)) (same_expansion g n m (agree_right n m (operators f) (operators g) a.1) (renamed_to o.name (moment_of n o) ∷ names))
      ∙ ap (λ i. form_of_pair word o (moment_name o.name i) (between_name o.name i) (present_name names o.name) (expanded f m (renamed_to o.name (between_name o.name i) ∷ names)) (expanded g m (renamed_to o.name (moment_name o.name i) ∷ names))) a.0

  same_expansions : (fs : RawForms) (n m : Place → ℕ) → Agree n m (operators_each fs) → (names : Naming) → expanded_each fs n names ≡ expanded_each fs m names
  same_expansions no_raws n m a names = refl
  same_expansions (raw f fs) n m a names = ap₂ raw (same_expansion f n m (agree_left n m (operators f) (operators_each fs) a) names) (same_expansions fs n m (agree_right n m (operators f) (operators_each fs) a) names)

-- the numbers by positions are those by places, at the places themselves
all_agree : (positions : List ℕ) (places ps : List Place) → AreNumbers positions places → AllByRecursion HasSmallColumn ps → Agree (operator_number_in positions) (operator_number places) ps
all_agree positions places [] n s = tt
all_agree positions places (p ∷ ps) n s = (number_same positions places n p s.0, all_agree positions places ps n s.1)

pub expansion_same : (positions : List ℕ) (f : RawForm) → AreNumbers positions (operators f) → (names : Naming) → expanded f (operator_number_in positions) names ≡ expanded f (operator_number (operators f)) names
expansion_same positions f n names = same_expansion f (operator_number_in positions) (operator_number (operators f)) (all_agree positions (operators f) (operators f) n n.small) names

-- ---- a whole query

pub expanded_query : (q : RawQuery) (r : RawQuery) → r.head ≡ q.head → raw_form_of r.body ≡ expanded (raw_form_of q.body) (operator_number (operators (raw_form_of q.body))) [] → raw_question_of r ≡ expanded_question (raw_question_of q)
expanded_query q r h b = ap₂ (λ (head : List RawColumn) (body : RawForm). record { head = head; body = body }) h b
