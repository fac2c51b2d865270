-- Members of lists, and what holds of each of them.
use Rattle.std.proofs.Common.{◌⊎◌, ⊎_elim, inl, inr, List, [], ◌∷◌, ◌++◌, Contains, subst}
use Rattle.std.specs.List.{AllByRecursion}
use Rattle.lrp_model.proofs.Decided.{cons_cases, contains_first, contains_later, contains_none}
use Rattle.lrp_model.proofs.Logic.{all_append}

-- ---- members of lists

-- what holds of each element holds of one of them
pub all_of : {X : Type 0} (p : X → Type 0) (xs : List X) (x : X) → AllByRecursion p xs → Contains xs x → p x
all_of p [] x h c = absurd (contains_none x c)
all_of p (y ∷ ys) x h c = ⊎_elim (λ e. subst p e h.0) (λ d. all_of p ys x h.1 d) (cons_cases y x ys c)

-- what holds of each member holds of each element
pub all_by : {X : Type 0} (p : X → Type 0) (xs : List X) → ((x : X) → Contains xs x → p x) → AllByRecursion p xs
all_by p [] h = tt
all_by p (y ∷ ys) h = (h y (contains_first y ys), all_by p ys (λ x c. h x (contains_later y x ys c)))

-- each element of a list is one of it
pub all_self : {X : Type 0} (xs : List X) → AllByRecursion (Contains xs) xs
all_self xs = all_by (Contains xs) xs (λ x c. c)

-- what holds of each element of a list holds of each element of a part of it
pub all_from : {X : Type 0} (p : X → Type 0) (xs ys : List X) → AllByRecursion (Contains xs) ys → AllByRecursion p xs → AllByRecursion p ys
all_from p xs ys part h = all_by p ys (λ y c. all_of p xs y h (all_of (Contains xs) ys y part c))

-- what follows for each element holds of each
pub all_map : {X : Type 0} (p q : X → Type 0) (xs : List X) → ((x : X) → p x → q x) → AllByRecursion p xs → AllByRecursion q xs
all_map p q [] f h = tt
all_map p q (x ∷ xs) f h = (f x h.0, all_map p q xs f h.1)

-- members are members of a longer list
pub all_later : {X : Type 0} (x : X) (xs ys : List X) → AllByRecursion (Contains xs) ys → AllByRecursion (Contains (x ∷ xs)) ys
all_later x xs ys h = all_map (Contains xs) (Contains (x ∷ xs)) ys (λ y c. contains_later x y xs c) h

-- ---- of two lists together

-- a member of the first list
pub in_left : {X : Type 0} (xs ys : List X) (x : X) → Contains xs x → Contains (xs ++ ys) x
in_left xs ys x c = all_of (Contains (xs ++ ys)) xs x ((all_append (Contains (xs ++ ys)) xs ys).0 (all_self (xs ++ ys))).0 c

-- a member of the second
pub in_right : {X : Type 0} (xs ys : List X) (x : X) → Contains ys x → Contains (xs ++ ys) x
in_right xs ys x c = all_of (Contains (xs ++ ys)) ys x ((all_append (Contains (xs ++ ys)) xs ys).0 (all_self (xs ++ ys))).1 c

-- is a member of the one or of the other
pub in_one : {X : Type 0} (xs ys : List X) (x : X) → Contains (xs ++ ys) x → Contains xs x ⊎ Contains ys x
in_one [] ys x c = inr c
in_one (z ∷ zs) ys x c = ⊎_elim (λ e. inl (subst (Contains (z ∷ zs)) e (contains_first z zs))) (λ d. ⊎_elim (λ l. inl (contains_later z x zs l)) (λ r. inr r) (in_one zs ys x d)) (cons_cases z x (zs ++ ys) c)
