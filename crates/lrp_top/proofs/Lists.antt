-- Lists: what is in them, their images, and what holds of each element.
use Rattle.std.proofs.Common.{◌≡◌, ◌≢◌, ◌∙◌, ℕ, zero, suc, ◌<◌, List, [], ◌∷◌, ◌++◌, length, map, get_or, Contains, refl, sym, ap, subst, arith}
use Rattle.std.specs.Prelude.{AllPairs}
use Rattle.std.specs.List.{AllByRecursion}
use Rattle.std.proofs.lemmas.List.{get_or-map, length-map}

-- the head of a list, and what stands after it
pub first_in : {X : Type 0} (x : X) (xs : List X) → Contains (x ∷ xs) x
first_in x xs = (0, omega arith, refl)

pub later_in : {X : Type 0} (x z : X) (xs : List X) → Contains xs z → Contains (x ∷ xs) z
later_in x z xs c = (suc c.0, omega (arith, c.1), c.2)

-- what holds of each of two lists
pub both_all : {X : Type 0} (p : X → Type 0) (xs ys : List X) → AllByRecursion p xs → AllByRecursion p ys → AllByRecursion p (xs ++ ys)
both_all p [] ys h k = k
both_all p (x ∷ xs) ys h k = (h.0, both_all p xs ys h.1 k)

-- the element at a place
element_at : {X : Type 0} (xs : List X) (k : ℕ) → k < length xs → (x : X) × ((d : X) → get_or xs k d ≡ x)
element_at [] k l = absurd (omega arith)
element_at (x ∷ xs) zero l = (x, λ d. refl)
element_at (x ∷ xs) (suc k) l = element_at xs k (omega arith)

-- the images of what is in a list are in the list of images
pub in_map : {X Y : Type 0} (f : X → Y) (xs : List X) (x : X) → Contains xs x → Contains (map f xs) (f x)
in_map f xs x c = (c.0, subst (λ n. c.0 < n) (sym (length-map xs f)) c.1, get_or-map f xs c.0 x (f x) c.1 ∙ ap f c.2)

-- the image at a place
mapped_at : {X Y : Type 0} (f : X → Y) (xs : List X) (k : ℕ) (d : Y) (l : k < length xs) → get_or (map f xs) k d ≡ f (element_at xs k l).0
mapped_at f xs k d l = let x = element_at xs k l in get_or-map f xs k x.0 d l ∙ ap f (x.1 x.0)

-- and nothing else is in it
pub of_map : {X Y : Type 0} (f : X → Y) (xs : List X) (y : Y) → Contains (map f xs) y → (x : X) × Contains xs x × (f x ≡ y)
of_map f xs y c =
    let l : c.0 < length xs = subst (λ n. c.0 < n) (length-map xs f) c.1 in
    let x = element_at xs c.0 l in
    (x.0, (c.0, l, x.1 x.0), sym (mapped_at f xs c.0 y l) ∙ c.2)

-- the images differ where those of different elements do
pub apart_map : {X Y : Type 0} (f : X → Y) (xs : List X) → ((x z : X) → Contains xs x → Contains xs z → f x ≡ f z → x ≡ z) → AllPairs ◌≢◌ xs → AllPairs ◌≢◌ (map f xs)
apart_map f xs one apart i j d below l same =
    let jl : j < length xs = subst (λ n. j < n) (length-map xs f) l in
    let il : i < length xs = omega arith in
    let x = element_at xs i il in
    let z = element_at xs j jl in
    let e : x.0 ≡ z.0 = one x.0 z.0 (i, il, x.1 x.0) (j, jl, z.1 z.0) (sym (mapped_at f xs i d il) ∙ same ∙ mapped_at f xs j d jl) in
    apart i j x.0 below jl (x.1 x.0 ∙ e ∙ sym (z.1 x.0))
