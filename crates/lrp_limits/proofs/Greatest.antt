-- The greatest number of a list, one element more at a time.
use Rattle.std.proofs.Common.{◌≡◌, ◌<◌, ◌+◌, ℕ, max, List, [], ◌∷◌, ◌++◌, length, take, get_or, map, flat_map, refl, sym, ap, ◌∙◌, append_assoc, append-nil, arith}
use Rattle.std.proofs.lemmas.List.{take_more}
use Rattle.lrp_model.specs.Reach.{greatest}

pub greatest-append : (xs ys : List ℕ) → greatest (xs ++ ys) ≡ max (greatest xs) (greatest ys)
greatest-append [] ys = omega arith
greatest-append (x ∷ xs) ys = let r : greatest (xs ++ ys) ≡ max (greatest xs) (greatest ys) = greatest-append xs ys in omega arith

pub flat_map_append : {X : Type 0} (f : X → List ℕ) (xs ys : List X) → flat_map f (xs ++ ys) ≡ flat_map f xs ++ flat_map f ys
flat_map_append f [] ys = refl
flat_map_append f (x ∷ xs) ys = ap (λ zs. f x ++ zs) (flat_map_append f xs ys) ∙ sym (append_assoc (f x) (flat_map f xs) (flat_map f ys))

pub map_append : {X Y : Type 0} (f : X → Y) (xs ys : List X) → map f (xs ++ ys) ≡ map f xs ++ map f ys
map_append f [] ys = refl
map_append f (x ∷ xs) ys = ap (λ zs. f x ∷ zs) (map_append f xs ys)

-- an element more
one_more : {X : Type 0} (xs : List X) (i : ℕ) (x : X) → i < length xs → x ≡ get_or xs i x → take (i + 1) xs ≡ take i xs ++ x ∷ []
one_more xs i x lt is = take_more xs i x lt ∙ ap (λ y. take i xs ++ y ∷ []) (sym is)

pub flat_map_step : {X : Type 0} (f : X → List ℕ) (xs : List X) (i : ℕ) (x : X) → i < length xs → x ≡ get_or xs i x → flat_map f (take (i + 1) xs) ≡ flat_map f (take i xs) ++ f x
flat_map_step f xs i x lt is = ap (flat_map f) (one_more xs i x lt is) ∙ flat_map_append f (take i xs) (x ∷ []) ∙ ap (λ ys. flat_map f (take i xs) ++ ys) (append-nil (f x))

pub greatest_step : {X : Type 0} (f : X → List ℕ) (xs : List X) (i : ℕ) (x : X) → i < length xs → x ≡ get_or xs i x → greatest (flat_map f (take (i + 1) xs)) ≡ max (greatest (f x)) (greatest (flat_map f (take i xs)))
greatest_step f xs i x lt is =
    let e : greatest (flat_map f (take (i + 1) xs)) ≡ max (greatest (flat_map f (take i xs))) (greatest (f x)) = ap greatest (flat_map_step f xs i x lt is) ∙ greatest-append (flat_map f (take i xs)) (f x) in
    omega arith

pub greatest_map_step : {X : Type 0} (f : X → ℕ) (xs : List X) (i : ℕ) (x : X) → i < length xs → x ≡ get_or xs i x → greatest (map f (take (i + 1) xs)) ≡ max (f x) (greatest (map f (take i xs)))
greatest_map_step f xs i x lt is =
    let e : greatest (map f (take (i + 1) xs)) ≡ max (greatest (map f (take i xs))) (greatest (f x ∷ [])) = ap (λ ys. greatest (map f ys)) (one_more xs i x lt is) ∙ ap greatest (map_append f (take i xs) (x ∷ [])) ∙ greatest-append (map f (take i xs)) (f x ∷ []) in
    let z : greatest (f x ∷ []) ≡ f x = omega arith in
    omega arith

-- the same, where the element is read with a default
pub greatest_map_at : {X : Type 0} (f : X → ℕ) (xs : List X) (i : ℕ) (d : X) → i < length xs → greatest (map f (take (i + 1) xs)) ≡ max (f (get_or xs i d)) (greatest (map f (take i xs)))
greatest_map_at f xs i d lt =
    let e : greatest (map f (take (i + 1) xs)) ≡ max (greatest (map f (take i xs))) (greatest (f (get_or xs i d) ∷ [])) = ap (λ ys. greatest (map f ys)) (take_more xs i d lt) ∙ ap greatest (map_append f (take i xs) (get_or xs i d ∷ [])) ∙ greatest-append (map f (take i xs)) (f (get_or xs i d) ∷ []) in
    let z : greatest (f (get_or xs i d) ∷ []) ≡ f (get_or xs i d) = omega arith in
    omega arith
