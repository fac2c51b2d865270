-- Texts of lists with a separator, and pieces under another spelling.
use Rattle.std.proofs.Common.{◌≡◌, ◌<◌, ◌≤◌, ◌+◌, ◌-◌, take_all, codes, ℕ, zero, suc, length, take, drop, get_or, arith, List, [], ◌∷◌, ◌++◌, Option, Result, refl, ap, subst, append-nil, append_assoc, sym, ◌∙◌}
use Rattle.std.specs.List.{flat_map, AllByRecursion}
use Rattle.lrp_io.specs.Bytes.{appended, AppendsFront}
use Rattle.lrp_io.specs.Pieces.{IsWritten}
use Rattle.lrp_io.proofs.PieceLemmas.{each_step, each_front}
use Rattle.lrp_model.specs.Printed.{joined_by}
use Rattle.lrp_print.specs.Conditions.{after_where}

-- what was appended, spelled in another way
pub ok_as : (old new : Option (List ℕ)) (a b : List ℕ) → a ≡ b → new ≡ appended old a → new ≡ appended old b
ok_as old new a b e w = w ∙ ap (appended old) e

-- a front of bytes that are spelled in another way
pub front_as : (old new : Option (List ℕ)) (a b : List ℕ) → a ≡ b → AppendsFront old new a → AppendsFront old new b
front_as old new a b e w = let P : List ℕ → Type 0 = λ x. AppendsFront old new x in subst P e w

-- what was written, spelled in another way
pub written_as : {T E : Type 0} (old new : Option (List ℕ)) (a b : List ℕ) (r : Result T E) → a ≡ b → IsWritten old new a r → IsWritten old new b r
written_as {T} {E} old new a b r e w = let P : List ℕ → Type 0 = λ x. IsWritten old new x r in subst P e w

-- the first text, and then each further one after a separator
pub joined_first : {A : Type 0} (between : List ℕ) (text : A → List ℕ) (a : A) (all : List A) → text a ++ flat_map (λ x. between ++ text x) all ≡ joined_by between text (a ∷ all)
joined_first between text a [] = append-nil (text a)
joined_first between text a (b ∷ all) = ap (λ y. text a ++ y) (append_assoc between (text b) (flat_map (λ x. between ++ text x) all) ∙ ap (λ y. between ++ y) (joined_first between text b all))

-- the text of the first element, and then each further one after a separator
pub joined_rest : {A : Type 0} (between : List ℕ) (text : A → List ℕ) (xs : List A) (a : A) → 1 ≤ length xs → a ≡ get_or xs 0 a → text a ++ flat_map (λ x. between ++ text x) (take (length xs - 1) (drop 1 xs)) ≡ joined_by between text xs
joined_rest between text [] a lt e = absurd (omega arith)
joined_rest between text (x ∷ xs) a lt e =
    let few : length xs ≤ length (x ∷ xs) - 1 = omega arith in
    let all : take (length (x ∷ xs) - 1) xs ≡ xs = take_all (length (x ∷ xs) - 1) xs few in
    ap (λ y. text y ++ flat_map (λ z. between ++ text z) (take (length (x ∷ xs) - 1) xs)) e ∙ ap (λ y. text x ++ flat_map (λ z. between ++ text z) y) all ∙ joined_first between text x xs

-- the conditions where there are some
pub some_after : {A : Type 0} (text : A → List ℕ) (xs : List A) → 1 ≤ length xs → codes " where " ++ joined_by (codes ", ") text xs ≡ after_where text xs
some_after text [] lt = absurd (omega arith)
some_after text (x ∷ xs) lt = refl

-- after the bytes of some elements, those of the next
pub item_step : {A : Type 0} (f : A → List ℕ) (xs : List A) (i : ℕ) (a : A) (old now new : Option (List ℕ)) → i < length xs → a ≡ get_or xs i a → now ≡ appended old (flat_map f (take i xs)) → new ≡ appended now (f a) → new ≡ appended old (flat_map f (take (i + 1) xs))
item_step f xs i a old now new lt e w n = each_step f xs i a old now new lt w (n ∙ ap (λ x. appended now (f x)) e)

-- after the bytes of some elements, a front of the next one's
pub item_front : {A : Type 0} (f : A → List ℕ) (xs : List A) (i : ℕ) (a : A) (old now new : Option (List ℕ)) → i < length xs → a ≡ get_or xs i a → now ≡ appended old (flat_map f (take i xs)) → AppendsFront now new (f a) → AppendsFront old new (flat_map f xs)
item_front {A} f xs i a old now new lt e w n = let P : A → Type 0 = λ x. AppendsFront now new (f x) in each_front f xs i a old now new lt w (subst P e n)
