-- What holds of the first elements of a list, element after element.
use Rattle.std.proofs.Common.{◌<◌, ◌+◌, ℕ, List, [], ◌∷◌, ◌++◌, length, take, get_or, Option, Some, None, subst, sym}
use Rattle.std.specs.Prelude.{IfSome}
use Rattle.std.specs.List.{AllByRecursion}
use Rattle.std.proofs.lemmas.List.{take_more}
use Rattle.std.proofs.lemmas.List.Elements.{Contains-get_or}
use Rattle.lrp_plan_laws.proofs.Members.{all_of}

all_push : {X : Type 0} (p : X → Type 0) (xs : List X) (x : X) → AllByRecursion p xs → p x → AllByRecursion p (xs ++ x ∷ [])
all_push p [] x h k = (k, tt)
all_push p (y ∷ xs) x h k = (h.0, all_push p xs x h.1 k)

-- of one element more
pub one_more_holds : {X : Type 0} (p : X → Type 0) (xs : List X) (i : ℕ) (d : X) → i < length xs → AllByRecursion p (take i xs) → p (get_or xs i d) → AllByRecursion p (take (i + 1) xs)
one_more_holds p xs i d l h k = subst (λ ys. AllByRecursion p ys) (sym (take_more xs i d l)) (all_push p (take i xs) (get_or xs i d) h k)

-- where it fails of one, it does not hold of all
pub one_fails : {X : Type 0} (p : X → Type 0) (xs : List X) (i : ℕ) (d : X) → i < length xs → (p (get_or xs i d) → ⊥) → AllByRecursion p xs → ⊥
one_fails p xs i d l none h = none (all_of p xs (get_or xs i d) h (Contains-get_or xs i d l))

-- of an option's value, where there is one
pub some_by : {X : Type 0} (p q : X → Type 0) (o : Option X) → ((x : X) → p x → q x) → IfSome o p → IfSome o q
some_by p q None f h = tt
some_by p q (Some x) f h = f x h
