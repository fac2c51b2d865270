-- Pieces that are written one after the other.
use Rattle.std.proofs.Common.{◌≡◌, ◌≤◌, ◌<◌, ◌+◌, ℕ, List, [], ◌∷◌, ◌++◌, length, take, drop, get_or, Option, Result, Ok, Err, OnOk, OnErr, ap, ◌∙◌, sym, subst, append-nil, add-one, arith, take_all}
use Rattle.std.specs.List.{flat_map}
use Rattle.std.proofs.lemmas.List.{take-append-le, length-append, take-append-drop}
use Rattle.std.proofs.lemmas.Grind.{flat_map-append}
use Rattle.std.proofs.Math.Seq.{take-append-add, take-suc}
use Rattle.lrp_io.specs.Bytes.{appended, AppendsFront}
use Rattle.lrp_io.specs.Pieces.{IsWritten}
use Rattle.lrp_io.proofs.BytesLemmas.{appended_twice}

-- what `put_all` ensures is that its bytes are written
pub written_put : {T E : Type 0} (old new : Option (List ℕ)) (bytes : List ℕ) (r : Result T E) → OnOk r (new ≡ appended old bytes) → OnErr r (AppendsFront old new bytes) → IsWritten old new bytes r
written_put old new bytes (Ok t) ok front = ok
written_put old new bytes (Err e) ok front = front

-- a front of the second bytes, after the first, is a front of both
pub front_after : (old mid new : Option (List ℕ)) (a b : List ℕ) → mid ≡ appended old a → AppendsFront mid new b → AppendsFront old new (a ++ b)
front_after old mid new a b e f =
    let n = length a + f.0 in
    let size : length (a ++ b) ≡ length a + length b = length-append a b in
    let same : take n (a ++ b) ≡ a ++ take f.0 b = take-append-add a b f.0 in
    let within : n ≤ length (a ++ b) = omega (arith, f.1, size) in
    (n, within, f.2 ∙ ap (λ x. appended x (take f.0 b)) e ∙ appended_twice old a (take f.0 b) ∙ ap (appended old) (sym same))

-- a front of the first bytes is a front of both
pub front_before : (old new : Option (List ℕ)) (a b : List ℕ) → AppendsFront old new a → AppendsFront old new (a ++ b)
front_before old new a b f =
    let size : length (a ++ b) ≡ length a + length b = length-append a b in
    (f.0, omega (arith, f.1, size), f.2 ∙ ap (appended old) (sym (take-append-le f.0 a b f.1)))

-- after the first bytes, a call that writes the second writes both
pub written_after : {T E : Type 0} (old mid new : Option (List ℕ)) (a b : List ℕ) (r : Result T E) → mid ≡ appended old a → IsWritten mid new b r → IsWritten old new (a ++ b) r
written_after old mid new a b (Ok t) e w = w ∙ ap (λ x. appended x b) e ∙ appended_twice old a b
written_after old mid new a b (Err x) e w = front_after old mid new a b e w

-- a failure after a front of the bytes
pub written_err : {T E : Type 0} (old new : Option (List ℕ)) (bytes : List ℕ) (r : Result T E) (e : E) → r ≡ Err e → AppendsFront old new bytes → IsWritten old new bytes r
written_err {T} {E} old new bytes r e is f = let P : Result T E → Type 0 = λ x. IsWritten old new bytes x in subst P (sym is) f

-- the bytes of one more element
pub flat_step : {A : Type 0} (f : A → List ℕ) (xs : List A) (i : ℕ) (d : A) → i < length xs → flat_map f (take (i + 1) xs) ≡ flat_map f (take i xs) ++ f (get_or xs i d)
flat_step f xs i d lt = rw (add-one, take-suc xs i d lt, flat_map-append f (take i xs) (get_or xs i d ∷ [])) (ap (λ y. flat_map f (take i xs) ++ y) (append-nil (f (get_or xs i d))))

-- all bytes are those up to one element and those after it
pub flat_front : {A : Type 0} (f : A → List ℕ) (xs : List A) (i : ℕ) (d : A) → i < length xs → flat_map f xs ≡ (flat_map f (take i xs) ++ f (get_or xs i d)) ++ flat_map f (drop (i + 1) xs)
flat_front f xs i d lt = ap (flat_map f) (sym (take-append-drop (i + 1) xs)) ∙ flat_map-append f (take (i + 1) xs) (drop (i + 1) xs) ∙ ap (λ y. y ++ flat_map f (drop (i + 1) xs)) (flat_step f xs i d lt)

-- after the bytes of some elements, those of one more
pub each_step : {A : Type 0} (f : A → List ℕ) (xs : List A) (i : ℕ) (d : A) (old now new : Option (List ℕ)) → i < length xs → now ≡ appended old (flat_map f (take i xs)) → new ≡ appended now (f (get_or xs i d)) → new ≡ appended old (flat_map f (take (i + 1) xs))
each_step f xs i d old now new lt e n = n ∙ ap (λ x. appended x (f (get_or xs i d))) e ∙ appended_twice old (flat_map f (take i xs)) (f (get_or xs i d)) ∙ ap (appended old) (sym (flat_step f xs i d lt))

-- after the bytes of some elements, a front of one more's is a front of all
pub each_front : {A : Type 0} (f : A → List ℕ) (xs : List A) (i : ℕ) (d : A) (old now new : Option (List ℕ)) → i < length xs → now ≡ appended old (flat_map f (take i xs)) → AppendsFront now new (f (get_or xs i d)) → AppendsFront old new (flat_map f xs)
each_front f xs i d old now new lt e w =
    let so_far = flat_map f (take i xs) ++ f (get_or xs i d) in
    let front : AppendsFront old new so_far = front_after old now new (flat_map f (take i xs)) (f (get_or xs i d)) e w in
    let P : List ℕ → Type 0 = λ bytes. AppendsFront old new bytes in
    subst P (sym (flat_front f xs i d lt)) (front_before old new so_far (flat_map f (drop (i + 1) xs)) front)

-- past the last element, the bytes of all
pub each_all : {A : Type 0} (f : A → List ℕ) (xs : List A) (i : ℕ) → length xs ≤ i → flat_map f (take i xs) ≡ flat_map f xs
each_all f xs i le = ap (flat_map f) (take_all i xs le)
