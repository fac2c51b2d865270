-- The numbers of texts in a domain, and those of names in a list.
use Rattle.std.proofs.Common.{◌≡◌, ◌≢◌, ◌↔◌, ℕ, zero, suc, ◌<◌, List, [], ◌∷◌, length, map, Some, Bool, true, false, cond, ⊎_elim, refl, sym, ap, ap₂, subst, ◌∙◌, arith, Contains, bytes_eq, Less}
use Rattle.std.specs.Prelude.{All, AllPairs, slice_get, get_or}
use Rattle.std.specs.List.{AllByRecursion}
use Rattle.std.specs.Cmp.Lexicographic.{bytes_decides}
use Rattle.std.proofs.lemmas.List.Kept.{AllPairs-cons}
use Rattle.std.proofs.lemmas.Option.{slice_get_within, slice_get-get_or}
use Rattle.lrp_model.specs.Texts.{Text, Identifier, Ascends, text_cmp}
use Rattle.lrp_model.specs.Variables.{Variable, time_variable, data_variable}
use Rattle.lrp_model.proofs.Ascending.{all_at, not_before_itself}
use Rattle.lrp_model.proofs.Decided.{cons_cases, contains_first, contains_later, contains_none}
use Rattle.lrp_model.proofs.Logic.{all_append}
use Rattle.lrp_store.specs.Tables.{AreTexts}
use Rattle.lrp_tables.specs.Tables.{named_variables}
use Rattle.lrp_tables.proofs.Joining.{at_place, same_place}
use Rattle.lrp_tables.proofs.Named.{some_is}

-- ---- lists

-- what holds of each member holds of each element
pub all_by : {X : Type 0} (p : X → Type 0) (xs : List X) → ((x : X) → Contains xs x → p x) → AllByRecursion p xs
all_by p [] h = tt
all_by p (y ∷ ys) h = (h y (contains_first y ys), all_by p ys (λ x c. h x (contains_later y x ys c)))

-- of a mapped list
pub all_mapped : {X Y : Type 0} (f : X → Y) (p : Y → Type 0) (xs : List X) → AllByRecursion p (map f xs) ↔ AllByRecursion (λ x. p (f x)) xs
all_mapped f p [] = ((λ h. h), λ h. h)
all_mapped f p (x ∷ xs) = let r : AllByRecursion p (map f xs) ↔ AllByRecursion (λ y. p (f y)) xs = all_mapped f p xs in ((λ h. (h.0, r.0 h.1)), λ h. (h.0, r.1 h.1))

-- all variables of these names are the time variables and the data variables
pub all_variables : (p : Variable → Type 0) (times texts : List Identifier)
    → AllByRecursion p (named_variables times texts) ↔ (((v : Identifier) → Contains times v → p (time_variable v)) × ((v : Identifier) → Contains texts v → p (data_variable v)))
all_variables p times texts =
    let a : AllByRecursion p (named_variables times texts) ↔ (AllByRecursion p (map time_variable times) × AllByRecursion p (map data_variable texts)) = all_append p (map time_variable times) (map data_variable texts) in
    let b : AllByRecursion p (map time_variable times) ↔ AllByRecursion (λ v. p (time_variable v)) times = all_mapped time_variable p times in
    let c : AllByRecursion p (map data_variable texts) ↔ AllByRecursion (λ v. p (data_variable v)) texts = all_mapped data_variable p texts in (
      (λ h. ((λ v i. all_at (λ w. p (time_variable w)) times v (b.0 (a.0 h).0) i), λ v i. all_at (λ w. p (data_variable w)) texts v (c.0 (a.0 h).1) i)),
      λ h. a.1 (b.1 (all_by (λ w. p (time_variable w)) times h.0), c.1 (all_by (λ w. p (data_variable w)) texts h.1)),
    )

-- ---- numbers

-- the number of the first text that is this one, from 0
abbrev pub number_of : List Text → Text → ℕ
number_of [] t = 0
number_of (u ∷ us) t = cond (bytes_eq u t) 0 (suc (number_of us t))

by_test : (p : ℕ → Type 0) (b : Bool) (m n : ℕ) → (b ≡ true → p m) → (b ≡ false → p n) → p (cond b m n)
by_test p true m n h k = h refl
by_test p false m n h k = k refl

-- it is there
pub number_is : (all : List Text) (t : Text) → Contains all t → slice_get all (number_of all t) ≡ Some t
number_is [] t c = absurd (contains_none t c)
number_is (u ∷ us) t c =
    by_test (λ n. slice_get (u ∷ us) n ≡ Some t) (bytes_eq u t) 0 (suc (number_of us t)) (λ e. ap Some ((bytes_decides u t).0 e))
    (λ e. number_is us t (⊎_elim (λ same. absurd (not_so (sym ((bytes_decides u t).1 same) ∙ e))) (λ later. later) (cons_cases u t us c)))
  where
    not_so : true ≡ false → ⊥
    not_so h = cc

-- texts with one number are the same
pub same_number : (all : List Text) (t u : Text) → Contains all t → Contains all u → number_of all t ≡ number_of all u → t ≡ u
same_number all t u c d e = some_is (sym (number_is all t c) ∙ ap (slice_get all) e ∙ number_is all u d)

-- where texts differ it is the only one
pub number_at : (all : List Text) → AllPairs ◌≢◌ all → (i : ℕ) (t : Text) → slice_get all i ≡ Some t → number_of all t ≡ i
number_at all pairs i t e = same_place all pairs (number_of all t) i t (number_is all t (at_place all i t e)) e

-- and low
pub number_low : (all : List Text) (t : Text) → Contains all t → number_of all t < length all
number_low all t c = slice_get_within all (number_of all t) t (number_is all t c)

-- the text with a number
abbrev pub text_at : List Text → ℕ → Text
text_at domain n = get_or domain n []

-- the texts of a domain differ
pub domain_differs : (domain : List Text) → Ascends domain → AllPairs ◌≢◌ domain
domain_differs [] h = λ i j d low high. absurd (omega arith)
domain_differs (t ∷ ts) h = AllPairs-cons ◌≢◌ t ts (λ k d low e. not_before_itself t (subst (λ u. text_cmp t u ≡ Less) (sym e) (all_at (λ u. text_cmp t u ≡ Less) ts (get_or ts k d) h.0 (at_place ts k (get_or ts k d) (slice_get-get_or ts k d low))))) (domain_differs ts h.1)

-- ---- the numbers of texts

-- the texts are those of their numbers
pub numbers_are : (domain : List Text) → AllPairs ◌≢◌ domain → (ns : List ℕ) (ts : List Text) → AreTexts domain ns ts → ns ≡ map (number_of domain) ts
numbers_are domain one [] [] h = refl
numbers_are domain one [] (t ∷ ts) h = absurd h
numbers_are domain one (n ∷ ns) [] h = absurd h
numbers_are domain one (n ∷ ns) (t ∷ ts) h = ap₂ (λ a l. a ∷ l) (sym (number_at domain one n t h.0)) (numbers_are domain one ns ts h.1)

-- texts of the domain have numbers
pub are_numbers : (domain ts : List Text) → AllByRecursion (Contains domain) ts → AreTexts domain (map (number_of domain) ts) ts
are_numbers domain [] h = tt
are_numbers domain (t ∷ ts) h = (number_is domain t h.0, are_numbers domain ts h.1)

-- texts that have numbers are of the domain
pub texts_known : (domain : List Text) (ns : List ℕ) (ts : List Text) → AreTexts domain ns ts → AllByRecursion (Contains domain) ts
texts_known domain [] [] h = tt
texts_known domain [] (t ∷ ts) h = absurd h
texts_known domain (n ∷ ns) [] h = absurd h
texts_known domain (n ∷ ns) (t ∷ ts) h = (at_place domain n t h.0, texts_known domain ns ts h.1)

-- there are as many numbers as texts
pub texts_count : (domain : List Text) (ns : List ℕ) (ts : List Text) → AreTexts domain ns ts → length ns ≡ length ts
texts_count domain [] [] h = refl
texts_count domain [] (t ∷ ts) h = absurd h
texts_count domain (n ∷ ns) [] h = absurd h
texts_count domain (n ∷ ns) (t ∷ ts) h = ap suc (texts_count domain ns ts h.1)

-- numbers of the domain are those of its texts
pub known_are_texts : (domain : List Text) (ns : List ℕ) → All (λ n. n < length domain) ns → AreTexts domain ns (map (text_at domain) ns)
known_are_texts domain [] h = tt
known_are_texts domain (n ∷ ns) h = (slice_get-get_or domain n [] (h 0 0 (omega arith)), known_are_texts domain ns (λ k d low. h (suc k) d (omega arith)))

-- numbers of texts are those of the domain
pub numbers_known : (domain : List Text) (ns : List ℕ) (ts : List Text) → AreTexts domain ns ts → All (λ n. n < length domain) ns
numbers_known domain [] ts h = λ k d low. absurd (omega arith)
numbers_known domain (n ∷ ns) [] h = absurd h
numbers_known domain (n ∷ ns) (t ∷ ts) h = by_place (numbers_known domain ns ts h.1)
  where
    by_place : All (λ m. m < length domain) ns → (k : ℕ) (d : ℕ) → k < length (n ∷ ns) → get_or (n ∷ ns) k d < length domain
    by_place rest zero d low = slice_get_within domain n t h.0
    by_place rest (suc k) d low = rest k d (omega arith)
