-- Lists are ordered by the first place where they differ.
use Rattle.std.proofs.Common.{◌≡◌, ◌≢◌, ℕ, zero, suc, ◌+◌, ◌<◌, ◌≤◌, List, [], ◌∷◌, length, drop, get_or, Bool, true, false, Ordering, Less, Equal, Greater, arith, refl, sym, ap, subst, ◌∙◌}
use Rattle.std.specs.Prelude.{IsTrue, ◌↔◌}
use Rattle.std.specs.Ordering.{ordering_then, is_lt, is_ne}
use Rattle.std.specs.Cmp.Lexicographic.{slice_cmp}

-- an order that is not that of equals
pub differs : (o : Ordering) → is_ne o ≡ true → o ≢ Equal
differs o e f = let g : is_ne Equal ≡ true = subst (λ p. is_ne p ≡ true) f e in cc

-- and one that is
pub agrees : (o : Ordering) → is_ne o ≡ false → o ≡ Equal
agrees Less e = cc
agrees Equal e = refl
agrees Greater e = cc

-- the first order decides unless it is that of equals
first_decides : (o p : Ordering) → o ≢ Equal → ordering_then o p ≡ o
first_decides Less p ne = refl
first_decides Equal p ne = absurd (ne refl)
first_decides Greater p ne = refl

module _ {X : Type 0} (R : X → X → Ordering) (d : X) where
  -- equal at a place
  same_there : (i : ℕ) (xs ys : List X) → i < length xs → i < length ys → R (get_or xs i d) (get_or ys i d) ≡ Equal → slice_cmp R (drop i xs) (drop i ys) ≡ slice_cmp R (drop (suc i) xs) (drop (suc i) ys)
  same_there i [] ys l m e = absurd (omega arith)
  same_there i (x ∷ xs) [] l m e = absurd (omega arith)
  same_there zero (x ∷ xs) (y ∷ ys) l m e = ap (λ o. ordering_then o (slice_cmp R xs ys)) e
  same_there (suc i) (x ∷ xs) (y ∷ ys) l m e = same_there i xs ys (omega arith) (omega arith) e

  -- the places before one are equal, and so is it
  pub one_more_same : (i : ℕ) (xs ys : List X) (o : Ordering) → i < length xs → i < length ys → o ≡ R (get_or xs i d) (get_or ys i d) → is_ne o ≡ false → slice_cmp R xs ys ≡ slice_cmp R (drop i xs) (drop i ys) → slice_cmp R xs ys ≡ slice_cmp R (drop (i + 1) xs) (drop (i + 1) ys)
  one_more_same i xs ys o l m is ne before = let next : suc i ≡ i + 1 = omega arith in subst (λ n. slice_cmp R xs ys ≡ slice_cmp R (drop n xs) (drop n ys)) next (before ∙ same_there i xs ys l m (sym is ∙ agrees o ne))

  -- different at a place
  other_there : (i : ℕ) (xs ys : List X) → i < length xs → i < length ys → R (get_or xs i d) (get_or ys i d) ≢ Equal → slice_cmp R (drop i xs) (drop i ys) ≡ R (get_or xs i d) (get_or ys i d)
  other_there i [] ys l m e = absurd (omega arith)
  other_there i (x ∷ xs) [] l m e = absurd (omega arith)
  other_there zero (x ∷ xs) (y ∷ ys) l m e = first_decides (R x y) (slice_cmp R xs ys) e
  other_there (suc i) (x ∷ xs) (y ∷ ys) l m e = other_there i xs ys (omega arith) (omega arith) e

  -- the places before one are equal, and it is not
  pub one_differs : (i : ℕ) (xs ys : List X) (o : Ordering) → i < length xs → i < length ys → o ≡ R (get_or xs i d) (get_or ys i d) → is_ne o ≡ true → slice_cmp R xs ys ≡ slice_cmp R (drop i xs) (drop i ys) → o ≡ slice_cmp R xs ys
  one_differs i xs ys o l m is ne before = sym (before ∙ other_there i xs ys l m (λ e. differs o ne (is ∙ e)) ∙ sym is)

  -- no place is left
  none_left : (n : ℕ) (xs ys : List X) → length xs ≡ length ys → length xs ≤ n → slice_cmp R (drop n xs) (drop n ys) ≡ Equal
  none_left zero [] [] e l = refl
  none_left zero [] (y ∷ ys) e l = absurd (omega arith)
  none_left zero (x ∷ xs) ys e l = absurd (omega arith)
  none_left (suc n) [] [] e l = refl
  none_left (suc n) [] (y ∷ ys) e l = absurd (omega arith)
  none_left (suc n) (x ∷ xs) [] e l = absurd (omega arith)
  none_left (suc n) (x ∷ xs) (y ∷ ys) e l = none_left n xs ys (omega arith) (omega arith)

  -- all places are equal
  pub all_same : (n : ℕ) (xs ys : List X) → length xs ≡ length ys → length xs ≤ n → slice_cmp R xs ys ≡ slice_cmp R (drop n xs) (drop n ys) → Equal ≡ slice_cmp R xs ys
  all_same n xs ys e l before = sym (before ∙ none_left n xs ys e l)

-- a test for before, by the first order
pub before_first : (o p : Ordering) → o ≡ Less → IsTrue true ↔ (ordering_then o p ≡ Less)
before_first o p e = ((λ t. ap (λ q. ordering_then q p) e), (λ h. refl))

pub after_first : (o p : Ordering) → o ≡ Greater → IsTrue false ↔ (ordering_then o p ≡ Less)
after_first o p e = ((λ t. cc), (λ h. let g : Greater ≡ Less = sym (ap (λ q. ordering_then q p) e) ∙ h in cc))

-- and by the second one
pub then_second : (o p q : Ordering) (b : Bool) → o ≡ Equal → q ≡ p → b ≡ is_lt q → IsTrue b ↔ (ordering_then o p ≡ Less)
then_second o p q b e same t = subst (λ r. IsTrue b ↔ (ordering_then r p ≡ Less)) (sym e) (subst (λ r. IsTrue b ↔ (r ≡ Less)) same (subst (λ c. IsTrue c ↔ (q ≡ Less)) (sym t) (by q)))
  where
    by : (q : Ordering) → IsTrue (is_lt q) ↔ (q ≡ Less)
    by Less = ((λ h. refl), λ h. refl)
    by Equal = ((λ h. cc), λ h. cc)
    by Greater = ((λ h. cc), λ h. cc)
