-- Lists with one value more or fewer.
use Rattle.std.proofs.Common.{◌≡◌, ℕ, zero, suc, ◌+◌, ◌<◌, ◌≤◌, List, [], ◌∷◌, ◌++◌, length, take, drop, refl, ap, arith, get_or}
use Rattle.std.specs.Prelude.{All}
use Rattle.std.specs.List.{insert, remove, AllZip}
use Rattle.std.proofs.lemmas.List.{length-append, take-append-drop}

-- a list with one value more is longer by one
pub length_insert : {X : Type 0} (xs : List X) (i : ℕ) (x : X) → length (insert xs i x) ≡ length xs + 1
length_insert xs i x =
    let a : length (insert xs i x) ≡ length (take i xs) + suc (length (drop i xs)) = length-append (take i xs) (x ∷ drop i xs) in
    let b : length (take i xs ++ drop i xs) ≡ length xs = ap length (take-append-drop i xs) in
    let c : length (take i xs ++ drop i xs) ≡ length (take i xs) + length (drop i xs) = length-append (take i xs) (drop i xs) in omega arith

-- a value that was taken out and put back
pub insert_removed : {X : Type 0} (xs : List X) (i : ℕ) (d : X) → i < length xs → insert (remove xs i) i (get_or xs i d) ≡ xs
insert_removed [] i d h = absurd (omega arith)
insert_removed (x ∷ xs) zero d h = refl
insert_removed (x ∷ xs) (suc i) d h = ap (λ l. x ∷ l) (insert_removed xs i d (omega arith))

-- a value that was put in and taken out
pub remove_inserted : {X : Type 0} (xs : List X) (i : ℕ) (x : X) → i ≤ length xs → remove (insert xs i x) i ≡ xs
remove_inserted [] zero x h = refl
remove_inserted [] (suc i) x h = absurd (omega arith)
remove_inserted (y ∷ xs) zero x h = refl
remove_inserted (y ∷ xs) (suc i) x h = ap (λ l. y ∷ l) (remove_inserted xs i x (omega arith))

-- it stands at its place
pub get_inserted : {X : Type 0} (xs : List X) (i : ℕ) (x d : X) → i ≤ length xs → get_or (insert xs i x) i d ≡ x
get_inserted [] zero x d h = refl
get_inserted [] (suc i) x d h = absurd (omega arith)
get_inserted (y ∷ xs) zero x d h = refl
get_inserted (y ∷ xs) (suc i) x d h = get_inserted xs i x d (omega arith)

-- what holds of the first and of the others holds of all
all_cons : {X : Type 0} (P : X → Type 0) (x : X) (xs : List X) → P x → All P xs → All P (x ∷ xs)
all_cons P x xs p all zero d h = p
all_cons P x xs p all (suc k) d h = all k d (omega arith)

-- what holds of a list with one value more holds of the list
pub all_inserted : {X : Type 0} (P : X → Type 0) (xs : List X) (i : ℕ) (x : X) → All P (insert xs i x) → All P xs
all_inserted P [] i x all = λ k d h. absurd (omega arith)
all_inserted P (y ∷ xs) zero x all = λ k d h. all (suc k) d (omega arith)
all_inserted P (y ∷ xs) (suc i) x all = all_cons P y xs (all 0 y (omega arith)) (all_inserted P xs i x (λ k d h. all (suc k) d (omega arith)))

-- one pair more
pub zip_insert : {X Y : Type 0} (R : X → Y → Type 0) (xs : List X) (ys : List Y) (i : ℕ) (x : X) (y : Y) → i ≤ length ys → AllZip R xs ys → R x y → AllZip R (insert xs i x) (insert ys i y)
zip_insert R [] [] zero x y h all r = (r, tt)
zip_insert R [] [] (suc i) x y h all r = absurd (omega arith)
zip_insert R [] (v ∷ ys) i x y h all r = absurd all
zip_insert R (u ∷ xs) [] i x y h all r = absurd all
zip_insert R (u ∷ xs) (v ∷ ys) zero x y h all r = (r, all)
zip_insert R (u ∷ xs) (v ∷ ys) (suc i) x y h all r = (all.0, zip_insert R xs ys i x y (omega arith) all.1 r)

-- a list that pairs with one value more has one value more
pub record IsInserted {X Y : Type 0} (R : X → Y → Type 0) (xs : List X) (ys : List Y) (i : ℕ) (y : Y) : Type 0 where
  pub value : X
  pub rest : List X
  pub is : xs ≡ insert rest i value
  pub pair : R value y
  pub pairs : AllZip R rest ys

pub zip_removed : {X Y : Type 0} (R : X → Y → Type 0) (xs : List X) (ys : List Y) (i : ℕ) (y : Y) → i ≤ length ys → AllZip R xs (insert ys i y) → IsInserted R xs ys i y
zip_removed R [] ys zero y h all = absurd all
zip_removed R (u ∷ xs) ys zero y h all = record { value = u; rest = xs; is = refl; pair = all.0; pairs = all.1 }
zip_removed R xs [] (suc i) y h all = absurd (omega arith)
zip_removed R [] (v ∷ ys) (suc i) y h all = absurd all
zip_removed R (u ∷ xs) (v ∷ ys) (suc i) y h all = let g = zip_removed R xs ys i y (omega arith) all.1 in record { value = g.value; rest = u ∷ g.rest; is = ap (λ l. u ∷ l) g.is; pair = g.pair; pairs = (all.0, g.pairs) }
