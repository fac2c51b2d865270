-- What holds of each element of a list.
use Rattle.std.proofs.Common.{◌≡◌, ◌<◌, ℕ, zero, suc, length, get_or, map, arith, List, [], ◌∷◌, refl, ap, sym, subst}
use Rattle.std.specs.List.{AllByRecursion}

-- what holds of each element holds of the one at an index
pub all_at : {A : Type 0} (P : A → Type 0) (xs : List A) (i : ℕ) (a : A) → AllByRecursion P xs → i < length xs → a ≡ get_or xs i a → P a
all_at P [] i a h lt e = absurd (omega arith)
all_at P (x ∷ xs) zero a h lt e = subst P (sym e) h.0
all_at P (x ∷ xs) (suc i) a h lt e = all_at P xs i a h.1 (omega arith) e

-- what holds of each element, where one fact gives another
pub all_as : {A : Type 0} (P Q : A → Type 0) → ((a : A) → P a → Q a) → (xs : List A) → AllByRecursion P xs → AllByRecursion Q xs
all_as P Q f [] h = tt
all_as P Q f (x ∷ xs) h = (f x h.0, all_as P Q f xs h.1)

-- a map has as many elements
pub map_count : {A B : Type 0} (f : A → B) (xs : List A) → length (map f xs) ≡ length xs
map_count f [] = refl
map_count f (x ∷ xs) = ap suc (map_count f xs)
