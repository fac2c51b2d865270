-- The first faults of lists that are made piece by piece.
use Rattle.std.proofs.Common.{◌≡◌, ℕ, ◌+◌, ◌<◌, List, [], ◌∷◌, ◌++◌, flat_map, ap, sym, ◌∙◌, length, take, get_or}
use Rattle.std.proofs.lemmas.List.{take_more, append-nil}
use Rattle.std.proofs.lemmas.List.Concat.{flat_map-append}
use Rattle.lrp_model.specs.Faults.{earliest}
use Rattle.lrp_model.specs.Sooner.{sooner}
use Rattle.lrp_model.proofs.FirstFault.{first_of_both}

-- one element more in a list, each with a list of its own
pub one_further : {A B : Type 0} (f : A → List B) (xs : List A) (i : ℕ) (x : A) → i < length xs → x ≡ get_or xs i x
    → flat_map f (take i xs) ++ f x ≡ flat_map f (take (i + 1) xs)
one_further f xs i x lt is =
    ap (λ l. flat_map f (take i xs) ++ l) (sym (append-nil (f x)))
    ∙ sym (flat_map-append f (take i xs) (x ∷ []))
    ∙ ap (λ x. flat_map f (take i xs ++ x ∷ [])) is
    ∙ ap (flat_map f) (sym (take_more xs i x lt))

-- the same of faults
pub one_more : {A F : Type 0} (stands : F → List ℕ) (f : A → List F) (xs : List A) (i : ℕ) (x : A) → i < length xs → x ≡ get_or xs i x
    → sooner stands (earliest stands (flat_map f (take i xs))) (earliest stands (f x)) ≡ earliest stands (flat_map f (take (i + 1) xs))
one_more stands f xs i x lt is = sym (first_of_both stands (flat_map f (take i xs)) (f x)) ∙ ap (earliest stands) (one_further f xs i x lt is)
