-- One element more of an image.
use Rattle.std.proofs.Common.{◌≡◌, ℕ, ◌+◌, ◌<◌, List, [], ◌∷◌, ◌++◌, map, refl, ap, sym, ◌∙◌, length, take, get_or}
use Rattle.std.proofs.lemmas.List.{take_more, map-append}

pub one_mapped : {A B : Type 0} (f : A → B) (xs : List A) (i : ℕ) (x : A) (made : List B) (y : B) → i < length xs → x ≡ get_or xs i x → made ≡ map f (take i xs) → y ≡ f x → made ++ y ∷ [] ≡ map f (take (i + 1) xs)
one_mapped f xs i x made y lt is m e =
    ap (λ l. l ++ y ∷ []) m ∙ ap (λ z. map f (take i xs) ++ z ∷ []) e ∙ sym (map-append f (take i xs) (x ∷ []))
    ∙ ap (λ z. map f (take i xs ++ z ∷ [])) is ∙ ap (map f) (sym (take_more xs i x lt))
