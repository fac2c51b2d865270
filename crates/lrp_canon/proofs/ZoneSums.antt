-- Lists that are put together, and their lengths.
use Rattle.std.proofs.Common.{◌≡◌, ℕ, ◌+◌, List, [], ◌∷◌, ◌++◌, length, length-append, refl, arith}
use Rattle.std.specs.Prelude.{AllPairs, Contains, sum_by, flat_map}
use Rattle.std.proofs.lemmas.List.Sums.{sum_by-cons}
use Rattle.lrp_answer_text.proofs.Lists.{from_flat}
use Rattle.lrp_spans.proofs.Lists.{head_in, later, pairs_append, pairs_head, pairs_none, pairs_right}

-- ---- lists that are put together
pub flat_length : {X Y Z : Type 0} (f : X → List Y) (g : X → List Z) (h : X → ℕ) (xs : List X) → ((x : X) → length (f x) + length (g x) ≡ h x) → length (flat_map f xs) + length (flat_map g xs) ≡ sum_by h xs
flat_length f g h [] e = refl
flat_length f g h (x ∷ xs) e =
    let a : length (f x ++ flat_map f xs) ≡ length (f x) + length (flat_map f xs) = length-append (f x) (flat_map f xs) in
    let b : length (g x ++ flat_map g xs) ≡ length (g x) + length (flat_map g xs) = length-append (g x) (flat_map g xs) in
    let c : length (flat_map f xs) + length (flat_map g xs) ≡ sum_by h xs = flat_length f g h xs e in
    let d : sum_by h (x ∷ xs) ≡ h x + sum_by h xs = sum_by-cons h x xs in
    let i : length (f x) + length (g x) ≡ h x = e x in
    omega (arith, a, b, c, d, i)

pub sum_of_ones : {X : Type 0} (xs : List X) → sum_by (λ x. 1) xs ≡ length xs
sum_of_ones [] = refl
sum_of_ones {X = X} (x ∷ xs) = let d : sum_by (λ (y : X). 1) (x ∷ xs) ≡ 1 + sum_by (λ (y : X). 1) xs = sum_by-cons (λ (y : X). 1) x xs in let e : sum_by (λ (y : X). 1) xs ≡ length xs = sum_of_ones xs in omega (arith, d, e)

pub pairs_flat : {X Y : Type 0} (R : Y → Y → Type 0) (S : X → X → Type 0) (f : X → List Y) (xs : List X) → AllPairs S xs → ((x : X) → Contains xs x → AllPairs R (f x))
    → ((x y : X) → Contains xs x → Contains xs y → S x y → (u v : Y) → Contains (f x) u → Contains (f y) v → R u v) → AllPairs R (flat_map f xs)
pairs_flat R S f [] s own across = pairs_none R
pairs_flat R S f (x ∷ xs) s own across = pairs_append R (f x) (flat_map f xs) (own x (head_in x xs))
    (pairs_flat R S f xs (pairs_right S (x ∷ []) xs s) (λ y c. own y (later x xs y c)) (λ y z c d. across y z (later x xs y c) (later x xs z d)))
    (λ u v cu cv. (let t = from_flat f xs v cv in across x t.0 (head_in x xs) (later x xs t.0 t.1) (pairs_head S x xs s t.0 t.1) u v cu t.2))
