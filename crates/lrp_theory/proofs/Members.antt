-- What is in a list, and what holds of each two of its elements.
use Rattle.std.proofs.Common.{◌≡◌, ℕ, ◌+◌, ◌-◌, ◌<◌, ◌≤◌, ◌⊎◌, ◌∙◌, inl, inr, List, [], ◌∷◌, ◌++◌, length, length-append, take, map, flat_map, get_or, arith, refl, sym, ap, subst}
use Rattle.std.specs.Prelude.{Contains, AllPairs}
use Rattle.std.proofs.lemmas.List.{get_or_append_left, get_or-append_right, take_more, get_or-take, get_or_default, length-take-le}
use Rattle.std.proofs.lemmas.List.Elements.{Contains-get_or, Contains-append_left, Contains-append_right, Contains-append_cases, Contains-push_cases}

-- one number is below another, or is not
pub below_or : (m n : ℕ) → (m < n) ⊎ (n ≤ m)
below_or m n = grind arith

-- nothing is in the empty list
pub in_none : {X : Type 0} (x : X) → Contains [] x → ⊥
in_none x h = let l : h.0 < 0 = h.1 in absurd (omega arith)

-- a list of one has just it
pub in_one : {X : Type 0} (y x : X) → Contains (y ∷ []) x → y ≡ x
in_one y x h = elim (Contains-push_cases [] y x h) [ inl a ↦ absurd (in_none x a) | inr e ↦ e ]

pub one_in : {X : Type 0} (x : X) → Contains (x ∷ []) x
one_in x = (0, omega arith, refl)

-- what is in a list is its head or in its tail
pub in_cons : {X : Type 0} (y : X) (ys : List X) (x : X) → Contains (y ∷ ys) x → (y ≡ x) ⊎ Contains ys x
in_cons y ys x h = elim (Contains-append_cases (y ∷ []) ys x h) [ inl a ↦ inl (in_one y x a) | inr b ↦ inr b ]

pub later : {X : Type 0} (y : X) (ys : List X) (x : X) → Contains ys x → Contains (y ∷ ys) x
later y ys x h = Contains-append_right (y ∷ []) ys x h

-- a relation holds of each two of a list that is put together, where it holds of each two of both parts and across
module _ {X : Type 0} (R : X → X → Type 0) (xs ys : List X) (left : AllPairs R xs) (right : AllPairs R ys) (across : (x y : X) → Contains xs x → Contains ys y → R x y) where
  pairs_at : (i j : ℕ) (d : X) → i < j → j < length (xs ++ ys) → (length xs ≤ j) → (i < length xs) ⊎ (length xs ≤ i) → (j - length xs) < length ys → R (get_or (xs ++ ys) i d) (get_or (xs ++ ys) j d)
  pairs_at i j d il jl b (inl a) short = rw (get_or_append_left xs ys d i a, get_or-append_right xs ys (length xs) j d refl b)
      (across (get_or xs i d) (get_or ys (j - length xs) d) (Contains-get_or xs i d a) (Contains-get_or ys (j - length xs) d short))
  pairs_at i j d il jl b (inr a) short = rw (get_or-append_right xs ys (length xs) i d refl a, get_or-append_right xs ys (length xs) j d refl b)
      (right (i - length xs) (j - length xs) d (omega arith) short)

  pub pairs_append : AllPairs R (xs ++ ys)
  pairs_append i j d il jl = elim (below_or j (length xs)) [
    | inl a ↦ (let b : i < length xs = omega arith in rw (get_or_append_left xs ys d i b, get_or_append_left xs ys d j a) (left i j d il a))
    | inr b ↦ pairs_at i j d il jl b (below_or i (length xs)) (omega (arith, length-append {A = X}))
  ]

-- the head is in the list
pub head_in : {X : Type 0} (x : X) (xs : List X) → Contains (x ∷ xs) x
head_in x xs = Contains-append_left (x ∷ []) xs x (one_in x)

-- each two of a list of one, and of none
pub pairs_one : {X : Type 0} (R : X → X → Type 0) (x : X) → AllPairs R (x ∷ [])
pairs_one R x i j d il jl = let l : j < 1 = jl in absurd (omega arith)

pub pairs_none : {X : Type 0} (R : X → X → Type 0) → AllPairs R []
pairs_none R i j d il jl = let l : j < 0 = jl in absurd (omega arith)

-- what a list is mapped to, put together
pub in_flat : {X Y : Type 0} (f : X → List Y) (xs : List X) (x : X) (y : Y) → Contains xs x → Contains (f x) y → Contains (flat_map f xs) y
in_flat f [] x y l h = absurd (in_none x l)
in_flat f (v ∷ vs) x y l h = elim (in_cons v vs x l) [
  | inl e ↦ Contains-append_left (f v) (flat_map f vs) y (subst (λ u. Contains (f u) y) (sym e) h)
  | inr m ↦ Contains-append_right (f v) (flat_map f vs) y (in_flat f vs x y m h)
]

-- what stands in lists that are put together stands in one of them
pub from_flat : {X Y : Type 0} (f : X → List Y) (xs : List X) (y : Y) → Contains (flat_map f xs) y → (x : X) × Contains xs x × Contains (f x) y
from_flat f [] y h = absurd (in_none y h)
from_flat f (v ∷ vs) y h = elim (Contains-append_cases (f v) (flat_map f vs) y h) [
  | inl a ↦ (v, head_in v vs, a)
  | inr b ↦ (let r = from_flat f vs y b in (r.0, later v vs r.0 r.1, r.2))
]

-- what a list is mapped to
pub in_map : {X Y : Type 0} (f : X → Y) (xs : List X) (x : X) → Contains xs x → Contains (map f xs) (f x)
in_map f [] x l = absurd (in_none x l)
in_map f (v ∷ vs) x l = elim (in_cons v vs x l) [
  | inl e ↦ subst (λ u. Contains (f v ∷ map f vs) (f u)) e (head_in (f v) (map f vs))
  | inr k ↦ later (f v) (map f vs) (f x) (in_map f vs x k)
]

pub from_map : {X Y : Type 0} (f : X → Y) (xs : List X) (y : Y) → Contains (map f xs) y → (x : X) × Contains xs x × (f x ≡ y)
from_map f [] y h = absurd (in_none y h)
from_map f (v ∷ vs) y h = elim (in_cons (f v) (map f vs) y h) [
  | inl e ↦ (v, head_in v vs, e)
  | inr k ↦ (let r = from_map f vs y k in (r.0, later v vs r.0 r.1, r.2))
]

-- what is in the front of a list stands before the element after it
pub before : {X : Type 0} (R : X → X → Type 0) (xs : List X) (i : ℕ) (x : X) → AllPairs R xs → i < length xs → x ≡ get_or xs i x → (v : X) → Contains (take i xs) v → R v x
before R xs i x all l e v h =
    let low : h.0 < i = let k : h.0 < length (take i xs) = h.1 in omega (arith, length-take-le i xs) in
    let at : get_or xs h.0 v ≡ v = sym (get_or-take i xs h.0 v low) ∙ h.2 in
    let here : get_or xs i v ≡ x = get_or_default xs i v x l ∙ sym e in
    subst (λ y. R y x) at (subst (λ y. R (get_or xs h.0 v) y) here (all h.0 i v low l))

-- the front with one more element
pub front_more : {X : Type 0} (xs : List X) (i : ℕ) (x : X) → i < length xs → x ≡ get_or xs i x → take (i + 1) xs ≡ take i xs ++ x ∷ []
front_more xs i x l e = take_more xs i x l ∙ ap (λ y. take i xs ++ y ∷ []) (sym e)
