-- Lists: what is in them, and pairs of their elements.
use Rattle.std.proofs.Common.{zero, suc, ap, map, drop, Some, ◌∙◌, ◌≡◌, ℕ, ◌+◌, ◌-◌, ◌<◌, ◌≤◌, inl, inr, List, [], ◌∷◌, ◌++◌, take, length, length-append, get_or, arith, sym, subst}
use Rattle.std.specs.Prelude.{Contains, AllPairs, slice_get}
use Rattle.std.proofs.lemmas.List.{append_assoc, get_or_append_left, map-append, take-append-drop, take_all, take_more}
use Rattle.std.proofs.lemmas.List.Elements.{Contains-append_right, Contains-append_cases}
pub use Rattle.lrp_theory.proofs.Members.{before, below_or, from_map, in_map, front_more, head_in, in_cons, in_none, in_one, later, one_in, pairs_append, pairs_none, pairs_one}

-- each two of the front of a list
pub pairs_left : {X : Type 0} (R : X → X → Type 0) (xs ys : List X) → AllPairs R (xs ++ ys) → AllPairs R xs
pairs_left R xs ys all i j d il jl = rw (← get_or_append_left xs ys d i (omega (arith, il, jl)), ← get_or_append_left xs ys d j jl) (all i j d il (omega (arith, jl, length-append xs ys)))

-- each two of what stands after a front
pub pairs_right : {X : Type 0} (R : X → X → Type 0) (xs ys : List X) → AllPairs R (xs ++ ys) → AllPairs R ys
pairs_right R [] ys all = all
pairs_right R (x ∷ xs) ys all = pairs_right R xs ys (λ i j d il jl. all (suc i) (suc j) d (omega (arith, il)) (omega (arith, jl)))

-- the head of a list and what stands after it
pub pairs_head : {X : Type 0} (R : X → X → Type 0) (x : X) (xs : List X) → AllPairs R (x ∷ xs) → (y : X) → Contains xs y → R x y
pairs_head R x xs all y h =
    let l : h.0 < length xs = h.1 in
    subst (R x) h.2 (all 0 (suc h.0) y (omega arith) (omega (arith, l)))

-- a relation holds of each two of them, where it follows from one that holds of each two of the list
pub pairs_map : {X Y : Type 0} (R : Y → Y → Type 0) (S : X → X → Type 0) (f : X → Y) (xs : List X) → AllPairs S xs → ((x y : X) → Contains xs x → Contains xs y → S x y → R (f x) (f y)) → AllPairs R (map f xs)
pairs_map R S f [] all each = pairs_none R
pairs_map R S f (x ∷ xs) all each = pairs_append R (f x ∷ []) (map f xs) (pairs_one R (f x))
    (pairs_map R S f xs (pairs_right S (x ∷ []) xs all) (λ u v l m s. each u v (later x xs u l) (later x xs v m) s))
    (λ a b l m. (let r = from_map f xs b m in subst (λ c. R c b) (in_one (f x) a l) (subst (R (f x)) r.2 (each x r.0 (head_in x xs) (later x xs r.0 r.1) (pairs_head S x xs all r.0 r.1)))))

-- the first of what is after a place
pub slice_get_drop : {X : Type 0} (xs : List X) (i : ℕ) (x : X) → slice_get (drop i xs) 0 ≡ Some x → slice_get xs i ≡ Some x
slice_get_drop [] zero x e = e
slice_get_drop [] (suc i) x e = e
slice_get_drop (y ∷ ys) zero x e = e
slice_get_drop (y ∷ ys) (suc i) x e = slice_get_drop ys i x e

-- one more element of a list that a function is put on
pub map_more : {X Y : Type 0} (f : X → Y) (old made : List Y) (xs : List X) (i : ℕ) (d : X) → i < length xs → made ≡ old ++ map f (take i xs) → made ++ f (get_or xs i d) ∷ [] ≡ old ++ map f (take (i + 1) xs)
map_more f old made xs i d l e =
    ap (λ ys. ys ++ f (get_or xs i d) ∷ []) e ∙ append_assoc old (map f (take i xs)) (f (get_or xs i d) ∷ [])
    ∙ ap (λ ys. old ++ ys) (sym (map-append f (take i xs) (get_or xs i d ∷ [])) ∙ ap (map f) (sym (take_more xs i d l)))

pub map_all : {X Y : Type 0} (f : X → Y) (old made : List Y) (xs : List X) (i : ℕ) → length xs ≤ i → made ≡ old ++ map f (take i xs) → made ≡ old ++ map f xs
map_all f old made xs i l e = e ∙ ap (λ ys. old ++ map f ys) (take_all i xs l)

-- all of a longer front
pub front_all : {X : Type 0} (P : X → Type 0) (xs : List X) (i : ℕ) (d : X) → i < length xs → ((x : X) → Contains (take i xs) x → P x) → P (get_or xs i d) → (x : X) → Contains (take (i + 1) xs) x → P x
front_all P xs i d l all here x h = elim (Contains-append_cases (take i xs) (get_or xs i d ∷ []) x (subst (λ ys. Contains ys x) (take_more xs i d l) h)) [
  | inl a ↦ all x a
  | inr a ↦ subst P (in_one (get_or xs i d) x a) here
]

pub in_back : {X : Type 0} (xs : List X) (i : ℕ) (x : X) → Contains (drop i xs) x → Contains xs x
in_back xs i x h = subst (λ ys. Contains ys x) (take-append-drop i xs) (Contains-append_right (take i xs) (drop i xs) x h)
