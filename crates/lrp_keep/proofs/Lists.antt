-- Lists: what stands at a place, in a mapped list, and beside it in another one.
use Rattle.std.proofs.Common.{◌≡◌, ◌≢◌, ◌<◌, ◌≤◌, ℕ, zero, suc, Bool, true, false, List, [], ◌∷◌, length, map, Contains, Some, None, ◌⊎◌, inl, inr, refl, sym, ap, ap₂, subst, ◌∙◌, eq-eqb, get_or, arith}
use Rattle.std.specs.Prelude.{◌==◌, ◌||◌, slice_get}
use Rattle.std.specs.List.{AllByRecursion, AllZip, list_any}
use Rattle.std.proofs.lemmas.Bool.{false≢true}
use Rattle.std.proofs.lemmas.Option.{slice_get_read}
use Rattle.lrp_model.specs.Texts.{AreDistinct, Identifier}
use Rattle.lrp_model.proofs.Decided.{cons_cases, contains_first, contains_later}
use Rattle.lrp_holdings.proofs.Chained.{none_some, some_is}

pub past_end : {X : Type 0} (xs : List X) (i : ℕ) → slice_get xs i ≡ None → length xs ≤ i
past_end [] i e = omega arith
past_end (x ∷ xs) zero e = absurd (none_some x (sym e))
past_end (x ∷ xs) (suc i) e = let l : length xs ≤ i = past_end xs i e in omega (arith, l)

pub none_past : {X : Type 0} (xs : List X) (i : ℕ) → length xs ≤ i → slice_get xs i ≡ None
none_past [] i l = refl
none_past (x ∷ xs) zero l = absurd (let k : suc (length xs) ≤ 0 = l in omega (arith, k))
none_past (x ∷ xs) (suc i) l = none_past xs i (let k : suc (length xs) ≤ suc i = l in omega (arith, k))

-- what stands at a place of a mapped list
pub at_mapped : {X Y : Type 0} (f : X → Y) (xs : List X) (i : ℕ) (y : Y) → slice_get (map f xs) i ≡ Some y → (x : X) × (slice_get xs i ≡ Some x) × (f x ≡ y)
at_mapped f [] i y e = absurd (none_some y e)
at_mapped f (x ∷ xs) zero y e = (x, refl, some_is (f x) y e)
at_mapped f (x ∷ xs) (suc i) y e = at_mapped f xs i y e

-- two lists whose images agree at each place
pub same_images : {X Y Z : Type 0} (f : X → Z) (g : Y → Z) (xs : List X) (ys : List Y) → length ys ≡ length xs → ((i : ℕ) (x : X) (y : Y) → slice_get xs i ≡ Some x → slice_get ys i ≡ Some y → g y ≡ f x) → map g ys ≡ map f xs
same_images f g [] [] e h = refl
same_images f g [] (y ∷ ys) e h = absurd (let l : suc (length ys) ≡ 0 = e in omega (arith, l))
same_images f g (x ∷ xs) [] e h = absurd (let l : 0 ≡ suc (length xs) = e in omega (arith, l))
same_images f g (x ∷ xs) (y ∷ ys) e h = ap₂ (λ a b. a ∷ b) (h 0 x y refl refl) (same_images f g xs ys (let l : suc (length ys) ≡ suc (length xs) = e in omega (arith, l)) (λ i a b p q. h (suc i) a b p q))

pub nowhere : {X : Type 0} (x : X) → Contains [] x → ⊥
nowhere x c = let l : c.0 < 0 = c.1 in omega (arith, l)

pub zip_in : {X Y : Type 0} (R : X → Y → Type 0) (xs : List X) (ys : List Y) (x : X) → AllZip R xs ys → Contains xs x → (y : Y) × Contains ys y × R x y
zip_in R [] ys x z c = absurd (nowhere x c)
zip_in R (v ∷ xs) [] x z c = absurd z
zip_in R (v ∷ xs) (y ∷ ys) x z c = elim (cons_cases v x xs c) [
  | inl e ↦ (y, contains_first y ys, subst (λ u. R u y) e z.0)
  | inr d ↦ let r = zip_in R xs ys x z.1 d in (r.0, contains_later y r.0 ys r.1, r.2)
]

pub zip_of : {X Y : Type 0} (R : X → Y → Type 0) (xs : List X) (ys : List Y) (y : Y) → AllZip R xs ys → Contains ys y → (x : X) × Contains xs x × R x y
zip_of R xs [] y z c = absurd (nowhere y c)
zip_of R [] (w ∷ ys) y z c = absurd z
zip_of R (x ∷ xs) (w ∷ ys) y z c = elim (cons_cases w y ys c) [
  | inl e ↦ (x, contains_first x xs, subst (λ u. R x u) e z.0)
  | inr d ↦ let r = zip_of R xs ys y z.1 d in (r.0, contains_later x r.0 xs r.1, r.2)
]

-- ---- some of a list

or_left : (a b : Bool) → a ≡ true → (a || b) ≡ true
or_left true b e = refl
or_left false b e = absurd (false≢true e)

or_right : (a b : Bool) → b ≡ true → (a || b) ≡ true
or_right true b e = refl
or_right false b e = e

or_cases : (a b : Bool) → (a || b) ≡ true → (a ≡ true) ⊎ (b ≡ true)
or_cases true b e = inl refl
or_cases false b e = inr e

pub any_at : {X : Type 0} (p : X → Bool) (xs : List X) (x : X) → Contains xs x → p x ≡ true → list_any p xs ≡ true
any_at p [] x c e = absurd (nowhere x c)
any_at p (y ∷ xs) x c e = elim (cons_cases y x xs c) [
  | inl s ↦ or_left (p y) (list_any p xs) (subst (λ z. p z ≡ true) (sym s) e)
  | inr d ↦ or_right (p y) (list_any p xs) (any_at p xs x d e)
]

pub any_of : {X : Type 0} (p : X → Bool) (xs : List X) → list_any p xs ≡ true → (x : X) × Contains xs x × (p x ≡ true)
any_of p [] e = absurd (false≢true e)
any_of p (y ∷ xs) e = elim (or_cases (p y) (list_any p xs) e) [
  | inl s ↦ (y, contains_first y xs, s)
  | inr d ↦ let r = any_of p xs d in (r.0, contains_later y r.0 xs r.1, r.2)
]

pub both_or_none : (a b : Bool) → (a ≡ true → b ≡ true) → (b ≡ true → a ≡ true) → a ≡ b
both_or_none true b to from = sym (to refl)
both_or_none false true to from = from refl
both_or_none false false to from = refl

pub equal_self : (n : ℕ) → (n == n) ≡ true
equal_self n = eq-eqb n n refl

-- ---- names

not_later : (m n : Identifier) (xs : List Identifier) (k : ℕ) → AllByRecursion (λ x. m ≢ x) xs → slice_get xs k ≡ Some n → m ≡ n → ⊥
not_later m n [] k all e same = none_some n e
not_later m n (x ∷ xs) zero all e same = all.0 (same ∙ sym (some_is x n e))
not_later m n (x ∷ xs) (suc k) all e same = not_later m n xs k all.1 e same

-- names that differ stand at one place each
pub one_place : (names : List Identifier) (i j : ℕ) (n : Identifier) → AreDistinct names → slice_get names i ≡ Some n → slice_get names j ≡ Some n → i ≡ j
one_place [] i j n d e f = absurd (none_some n e)
one_place (m ∷ names) zero zero n d e f = refl
one_place (m ∷ names) zero (suc j) n d e f = absurd (not_later m n names j d.0 f (some_is m n e))
one_place (m ∷ names) (suc i) zero n d e f = absurd (not_later m n names i d.0 e (some_is m n f))
one_place (m ∷ names) (suc i) (suc j) n d e f = ap suc (one_place names i j n d.1 e f)

-- what is read at a place stands there
pub read_at : {X : Type 0} (xs : List X) (i : ℕ) (x : X) → i < length xs → x ≡ get_or xs i x → slice_get xs i ≡ Some x
read_at xs i x low is = slice_get_read xs (length xs) i x refl low is

pub contained_read : {X : Type 0} (xs : List X) (i : ℕ) (x : X) → i < length xs → x ≡ get_or xs i x → Contains xs x
contained_read xs i x low is = (i, low, sym is)
