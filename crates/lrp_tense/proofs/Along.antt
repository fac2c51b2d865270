-- Operators that are numbered as they are met, where their places ascend, have the numbers of their places.
use Rattle.std.proofs.Common.{◌≡◌, ⊎_elim, ℕ, ◌<◌, ◌+◌, ◌-◌, get_or, List, [], ◌∷◌, ◌++◌, map, length, refl, sym, ap, ap₂, subst, ◌∙◌, append_assoc, append-nil, add-one, arith}
use Rattle.std.specs.Prelude.{IsPermutation}
use Rattle.std.specs.List.Sorted.{IsNonDecreasing, IsStrictlyIncreasing}
use Rattle.std.proofs.lemmas.List.Sorted.{IsNonDecreasingBy-from_all_adjacent, IsPermutation-refl}
use Rattle.std.proofs.lemmas.List.{get_or_default}
use Rattle.lrp_model.specs.declared.tokens.Place.{Place}
use Rattle.lrp_model.specs.RawQueries.{raw_not, raw_and, raw_or, raw_implies, raw_group, raw_exists, raw_forall, raw, RawForm, RawForms, raw_atom, raw_compare, raw_member, raw_ranged, raw_paired, no_raws}
use Rattle.lrp_tense.specs.Expanding.{operator_number, operators, operators_each, Naming, renamed_to, expanded, expanded_each, form_of_range, form_of_pair, present_name, moment_name, between_name}
use Rattle.lrp_tense.specs.Counting.{position_of, operator_number_in, ArePositions, AreNumbers}
use Rattle.lrp_tense.specs.Numbers.{Numbers, met, ranked, next_number, after_one, after_all, expanded_from, each_from}
use Rattle.lrp_tense.proofs.Numbering.{trichotomy}
use Rattle.lrp_tense.proofs.Positions.{IsFirstAt, number_there, expansion_same}

-- ---- the same expansion

-- each operator is given its number
abbrev Gives : Numbers → (Place → ℕ) → List Place → Type 0
Gives n m [] = Unit {0}
Gives n m (p ∷ ps) = (next_number n p ≡ m p) × Gives (after_one n p) m ps

gives_left : (n : Numbers) (m : Place → ℕ) (xs ys : List Place) → Gives n m (xs ++ ys) → Gives n m xs
gives_left n m [] ys a = tt
gives_left n m (x ∷ xs) ys a = (a.0, gives_left (after_one n x) m xs ys a.1)

gives_right : (n : Numbers) (m : Place → ℕ) (xs ys : List Place) → Gives n m (xs ++ ys) → Gives (after_all n xs) m ys
gives_right n m [] ys a = a
gives_right n m (x ∷ xs) ys a = gives_right (after_one n x) m xs ys a.1

mutual
  same_from : (f : RawForm) (n : Numbers) (m : Place → ℕ) → Gives n m (operators f) → (names : Naming) → expanded_from f n names ≡ expanded f m names
  same_from (raw_atom p r ts) n m a names = refl
  same_from (raw_compare p l op r) n m a names = refl
  same_from (raw_member p t point) n m a names = refl
  same_from (raw_not p f) n m a names = ap (λ x. raw_not p x) (same_from f n m a names)
  same_from (raw_and p fs) n m a names = ap (λ x. raw_and p x) (same_each fs n m a names)
  same_from (raw_or p fs) n m a names = ap (λ x. raw_or p x) (same_each fs n m a names)
  same_from (raw_implies p f g) n m a names = ap₂ (λ x y. raw_implies p x y) (same_from f n m (gives_left n m (operators f) (operators g) a) names) (same_from g (after_all n (operators f)) m (gives_right n m (operators f) (operators g) a) names)
  same_from (raw_group p f) n m a names = ap (λ x. raw_group p x) (same_from f n m a names)
  same_from (raw_exists p c f) n m a names = ap (λ x. raw_exists p c x) (same_from f n m a (renamed_to c.name c.name ∷ names))
  same_from (raw_forall p c f) n m a names = ap (λ x. raw_forall p c x) (same_from f n m a (renamed_to c.name c.name ∷ names))
  same_from (raw_ranged word o from to f) n m a names =
      ap (λ x. form_of_range word o (moment_name o.name (next_number n o.place)) (present_name names o.name) from to x) (same_from f (after_one n o.place) m a.1 (renamed_to o.name (moment_name o.name (next_number n o.place)) ∷ names))
      ∙ ap (λ i. form_of_range word o (moment_name o.name i) (present_name names o.name) from to (expanded f m (renamed_to o.name (moment_name o.name i) ∷ names))) a.0
  same_from (raw_paired word o f g) n m a names =
      ap₂ (λ x y. form_of_pair word o (moment_name o.name (next_number n o.place)) (between_name o.name (next_number n o.place)) (present_name names o.name) x y)
      (same_from f (after_one n o.place) m (gives_left (after_one n o.place) m (operators f) (operators g) a.1) (renamed_to o.name (between_name o.name (next_number n o.place)) ∷ names))
      (same_from g (after_all (after_one n o.place) (operators f)) m (gives_right (after_one n o.place) m (operators f) (operators g) a.1) (renamed_to o.name (moment_name o.name (next_number n o.place)) ∷ names))
      ∙ ap (λ i. form_of_pair word o (moment_name o.name i) (between_name o.name i) (present_name names o.name) (expanded f m (renamed_to o.name (between_name o.name i) ∷ names)) (expanded g m (renamed_to o.name (moment_name o.name i) ∷ names))) a.0

  same_each : (fs : RawForms) (n : Numbers) (m : Place → ℕ) → Gives n m (operators_each fs) → (names : Naming) → each_from fs n names ≡ expanded_each fs m names
  same_each no_raws n m a names = refl
  same_each (raw f fs) n m a names =
      ap₂ raw (same_from f n m (gives_left n m (operators f) (operators_each fs) a) names) (same_each fs (after_all n (operators f)) m (gives_right n m (operators f) (operators_each fs) a) names)

-- ---- by positions in order

gives_ranked : (xs : List ℕ) (ps : List Place) → Gives (ranked xs) (operator_number_in xs) ps
gives_ranked xs [] = tt
gives_ranked xs (p ∷ ps) = (refl, gives_ranked xs ps)

pub ranked_is : (f : RawForm) (xs : List ℕ) → AreNumbers xs (operators f) → expanded_from f (ranked xs) [] ≡ expanded f (operator_number (operators f)) []
ranked_is f xs h = same_from f (ranked xs) (operator_number_in xs) (gives_ranked xs (operators f)) [] ∙ expansion_same xs f h []

-- ---- as they are met

-- a place after others
stands : (before : List Place) (p : Place) (ps : List Place) → get_or (map position_of (before ++ p ∷ ps)) (length before) 0 ≡ position_of p
stands [] p ps = refl
stands (b ∷ bs) p ps = stands bs p ps

has_room : (before : List Place) (p : Place) (ps : List Place) → length before < length (map position_of (before ++ p ∷ ps))
has_room [] p ps = omega arith
has_room (b ∷ bs) p ps = let k : length bs < length (map position_of (bs ++ p ∷ ps)) = has_room bs p ps in omega (arith, k)

-- numbers that ascend up to an index and there ascend further
pub ascends_further : (xs : List ℕ) (i : ℕ) → 0 < i → get_or xs (i - 1) 0 < get_or xs i 0 → ((k : ℕ) → k + 1 < i → get_or xs k 0 < get_or xs (k + 1) 0) → (k : ℕ) → k + 1 < i + 1 → get_or xs k 0 < get_or xs (k + 1) 0
ascends_further xs i some next so_far k lt =
    ⊎_elim (λ s. ⊎_elim (λ below. so_far k below) (λ above. absurd (let b : i < k + 1 = above in omega (arith, lt, b))) s)
    (λ here.
    let e : k + 1 ≡ i = here in
    let a : get_or xs k 0 ≡ get_or xs (i - 1) 0 = ap (λ j. get_or xs j 0) (omega (arith, e)) in
    let b : get_or xs (k + 1) 0 ≡ get_or xs i 0 = ap (λ j. get_or xs j 0) e in
    omega (arith, a, b, next)) (trichotomy (k + 1) i)

never_falls : (xs : List ℕ) → IsStrictlyIncreasing xs → IsNonDecreasing xs
never_falls xs rises = IsNonDecreasingBy-from_all_adjacent (λ x. x) xs (λ k d lt.
    let r : get_or xs k 0 < get_or xs (k + 1) 0 = rises k lt in
    let a : get_or xs k d ≡ get_or xs k 0 = get_or_default xs k d 0 (omega (arith, lt)) in
    let b : get_or xs (k + 1) d ≡ get_or xs (k + 1) 0 = get_or_default xs (k + 1) d 0 lt in
    omega (arith, r, a, b))

-- after places, where operators are numbered as they are met
pub met_all : (xs ps : List Place) → after_all (met xs) ps ≡ met (xs ++ ps)
met_all xs [] = sym (ap met (append-nil xs))
met_all xs (p ∷ ps) = met_all (xs ++ p ∷ []) ps ∙ ap met (append_assoc xs (p ∷ []) ps)

module _ (xs : List ℕ) (rises : IsStrictlyIncreasing xs) where
  first_there : (i here : ℕ) → i < length xs → get_or xs i 0 ≡ here → IsFirstAt xs i here
  first_there i here within found = record {
    within = within;
    found = found;
    low = λ some. (
        let same : get_or xs (i - 1 + 1) 0 ≡ get_or xs i 0 = ap (λ k. get_or xs k 0) (omega (arith, some)) in
        let r : get_or xs (i - 1) 0 < get_or xs (i - 1 + 1) 0 = rises (i - 1) (omega (arith, some, within)) in
        omega (arith, r, same, found));
  }

  gives_met : (before ps : List Place) → xs ≡ map position_of (before ++ ps) → Gives (met before) (operator_number_in xs) ps
  gives_met before [] e = tt
  gives_met before (p ∷ ps) e =
      let within : length before < length xs = subst (λ l. length before < length l) (sym e) (has_room before p ps) in
      let found : get_or xs (length before) 0 ≡ position_of p = ap (λ l. get_or l (length before) 0) e ∙ stands before p ps in (
        sym (add-one (length before)) ∙ number_there xs (length before) (position_of p) p (never_falls xs rises) refl (first_there (length before) (position_of p) within found),
        gives_met (before ++ p ∷ []) ps (e ∙ ap (map position_of) (sym (append_assoc before (p ∷ []) ps))),
      )

pub along_is : (f : RawForm) (xs : List ℕ) → ArePositions xs (operators f) → IsStrictlyIncreasing xs → expanded_from f (met []) [] ≡ expanded f (operator_number (operators f)) []
along_is f xs h rises =
    same_from f (met []) (operator_number_in xs) (gives_met xs rises [] (operators f) h.same) []
    ∙ expansion_same xs f (record { same = subst (IsPermutation (map position_of (operators f))) (sym h.same) (IsPermutation-refl (map position_of (operators f))); order = never_falls xs rises; small = h.small; few = h.few }) []
