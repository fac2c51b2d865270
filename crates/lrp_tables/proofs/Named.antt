-- The values of columns, of which one has a new value.
use Rattle.std.proofs.Common.{◌≡◌, ◌≢◌, ℕ, zero, suc, ◌+◌, ◌<◌, List, [], ◌∷◌, ◌++◌, length, map, Some, Bool, true, false, cond, refl, sym, ap, subst, ◌∙◌, arith, Contains}
use Rattle.std.specs.Prelude.{All, AllPairs, slice_get, not, get_or}
use Rattle.std.specs.Str.{bytes_eq}
use Rattle.std.specs.List.{insert}
use Rattle.std.specs.Cmp.Lexicographic.{bytes_decides}
use Rattle.std.proofs.lemmas.List.{length-append, get_or_append_left, get_or-append-add}
use Rattle.std.proofs.lemmas.List.Elements.{All-append, All-filter}
use Rattle.std.proofs.lemmas.List.Kept.{AllPairs-cons, AllPairs-filter}
use Rattle.std.proofs.lemmas.Option.{get_or_from_slice_get, slice_get_within}
use Rattle.lrp_model.specs.Texts.{Identifier, without}

-- a value is one value
pub some_is : {X : Type 0} {y z : X} → Some y ≡ Some z → y ≡ z
some_is h = cc

-- all but the first differ as well
pub pairs_tail : {X : Type 0} (R : X → X → Type 0) (x : X) (xs : List X) → AllPairs R (x ∷ xs) → AllPairs R xs
pairs_tail R x xs pairs = λ i j d low high. pairs (suc i) (suc j) d (omega arith) (omega arith)

-- the front of a list whose elements differ
pub pairs_left : {X : Type 0} (R : X → X → Type 0) (xs ys : List X) → AllPairs R (xs ++ ys) → AllPairs R xs
pairs_left R xs ys pairs = λ i j d low high.
    let n : length (xs ++ ys) ≡ length xs + length ys = length-append xs ys in
    subst (λ x. R x (get_or xs j d)) (get_or_append_left xs ys d i (omega arith)) (subst (λ y. R (get_or (xs ++ ys) i d) y) (get_or_append_left xs ys d j high) (pairs i j d low (omega arith)))

-- and its end
pub pairs_right : {X : Type 0} (R : X → X → Type 0) (xs ys : List X) → AllPairs R (xs ++ ys) → AllPairs R ys
pairs_right R [] ys pairs = pairs
pairs_right R (x ∷ xs) ys pairs = pairs_right R xs ys (pairs_tail R x (xs ++ ys) pairs)

-- what holds of all of two lists holds of each
All-append_left : {X : Type 0} (P : X → Type 0) (xs ys : List X) → All P (xs ++ ys) → All P xs
All-append_left P xs ys all = λ k d h. subst P (get_or_append_left xs ys d k h) (all k d (let n : length (xs ++ ys) ≡ length xs + length ys = length-append xs ys in omega arith))

All-append_right : {X : Type 0} (P : X → Type 0) (xs ys : List X) → All P (xs ++ ys) → All P ys
All-append_right P xs ys all = λ k d h. subst P (get_or-append-add xs ys k d) (all (length xs + k) d (let n : length (xs ++ ys) ≡ length xs + length ys = length-append xs ys in omega arith))

-- the test of equal names
pub same_name : (v : Identifier) → bytes_eq v v ≡ true
same_name v = (bytes_decides v v).1 refl

pub other_name : (v w : Identifier) → v ≢ w → bytes_eq v w ≡ false
other_name v w n = by (bytes_eq v w) refl
  where
    by : (b : Bool) → bytes_eq v w ≡ b → bytes_eq v w ≡ false
    by true e = absurd (n ((bytes_decides v w).0 e))
    by false e = e

-- a name that is not there takes none away
pub others_all : (name : Identifier) (names : List Identifier) → (Contains names name → ⊥) → without name names ≡ names
others_all name [] h = refl
others_all name (w ∷ names) h =
    let e : bytes_eq name w ≡ false = other_name name w (λ same. h (0, omega arith, sym same)) in
    ap (λ b. cond (not b) (w ∷ without name names) (without name names)) e ∙ ap (λ l. w ∷ l) (others_all name names (λ c. let l : c.0 < length names = c.1 in h (suc c.0, omega arith, c.2)))

module _ {A : Type 0} (f : Identifier → A) (name : Identifier) (x : A) where
  -- the values with this one at the name
  abbrev pub changed : Identifier → A
  changed w = cond (bytes_eq name w) x (f w)

  -- elsewhere they are the same
  pub unchanged : (names : List Identifier) → (Contains names name → ⊥) → map changed names ≡ map f names
  unchanged [] h = refl
  unchanged (w ∷ names) h =
      let e : bytes_eq name w ≡ false = other_name name w (λ same. h (0, omega arith, sym same)) in
      ap (λ b. cond b x (f w) ∷ map changed names) e ∙ ap (λ l. f w ∷ l) (unchanged names (λ c. let l : c.0 < length names = c.1 in h (suc c.0, omega arith, c.2)))

  -- the value stands at the place of the name, among those of the others
  pub inserted : (names : List Identifier) (place : ℕ) → AllPairs ◌≢◌ names → slice_get names place ≡ Some name → map changed names ≡ insert (map f (without name names)) place x
  inserted [] place pairs e = cc
  inserted (w ∷ names) zero pairs e =
      let same : w ≡ name = some_is e in
      let yes_so : bytes_eq name w ≡ true = subst (λ v. bytes_eq name v ≡ true) (sym same) (same_name name) in
      let none : Contains names name → ⊥ = (λ c. let l : c.0 < length names = c.1 in pairs 0 (suc c.0) name (omega arith) (omega arith) (same ∙ sym c.2)) in
      ap (λ b. cond b x (f w) ∷ map changed names) yes_so ∙ ap (λ l. x ∷ l) (unchanged names none ∙ ap (map f) (sym (others_all name names none)))
      ∙ ap (λ b. x ∷ map f (cond (not b) (w ∷ without name names) (without name names))) (sym yes_so)
  inserted (w ∷ names) (suc place) pairs e =
      let apart : name ≢ w = (λ same. pairs 0 (suc place) name (omega arith) (let l : place < length names = slice_get_within names place name e in omega arith) (sym same ∙ sym (get_or_from_slice_get names place name name e))) in
      let no_so : bytes_eq name w ≡ false = other_name name w apart in
      ap (λ b. cond b x (f w) ∷ map changed names) no_so ∙ ap (λ l. f w ∷ l) (inserted names place (pairs_tail ◌≢◌ w names pairs) e)
      ∙ ap (λ b. insert (map f (cond (not b) (w ∷ without name names) (without name names))) (suc place) x) (sym no_so)

-- one name fewer is left
pub others_fewer : (name : Identifier) (names : List Identifier) (place : ℕ) → AllPairs ◌≢◌ names → slice_get names place ≡ Some name → length (without name names) + 1 ≡ length names
others_fewer name [] place pairs e = cc
others_fewer name (w ∷ names) zero pairs e =
    let same : w ≡ name = some_is e in
    let yes_so : bytes_eq name w ≡ true = subst (λ v. bytes_eq name v ≡ true) (sym same) (same_name name) in
    let none : Contains names name → ⊥ = (λ c. let l : c.0 < length names = c.1 in pairs 0 (suc c.0) name (omega arith) (omega arith) (same ∙ sym c.2)) in
    let l : length (without name (w ∷ names)) ≡ length names = ap (λ b. length (cond (not b) (w ∷ without name names) (without name names))) yes_so ∙ ap length (others_all name names none) in
    omega arith
others_fewer name (w ∷ names) (suc place) pairs e =
    let apart : name ≢ w = (λ same. pairs 0 (suc place) name (omega arith) (let l : place < length names = slice_get_within names place name e in omega arith) (sym same ∙ sym (get_or_from_slice_get names place name name e))) in
    let no_so : bytes_eq name w ≡ false = other_name name w apart in
    let l : length (without name (w ∷ names)) ≡ suc (length (without name names)) = ap (λ b. length (cond (not b) (w ∷ without name names) (without name names))) no_so in
    let r : length (without name names) + 1 ≡ length names = others_fewer name names place (pairs_tail ◌≢◌ w names pairs) e in
    omega arith

-- all of a list differ from its head
head_apart : {X : Type 0} (R : X → X → Type 0) (x : X) (xs : List X) → AllPairs R (x ∷ xs) → All (R x) xs
head_apart R x xs pairs = λ k d h. pairs 0 (suc k) d (omega arith) (omega arith)

-- without one name the others still differ from each other, and from those after them
pub others_differ : (name : Identifier) (names more : List Identifier) → AllPairs ◌≢◌ (names ++ more) → AllPairs ◌≢◌ (without name names ++ more)
others_differ name [] more pairs = pairs
others_differ name (w ∷ names) more pairs =
    let rest : AllPairs ◌≢◌ (without name names ++ more) = others_differ name names more (pairs_tail ◌≢◌ w (names ++ more) pairs) in
    by (not (bytes_eq name w)) rest
  where
    apart : All (◌≢◌ w) (names ++ more)
    apart = head_apart ◌≢◌ w (names ++ more) pairs

    by : (b : Bool) → AllPairs ◌≢◌ (without name names ++ more) → AllPairs ◌≢◌ (cond b (w ∷ without name names) (without name names) ++ more)
    by true rest = AllPairs-cons ◌≢◌ w (without name names ++ more)
        (All-append (◌≢◌ w) (without name names) more (All-filter (λ other. not (bytes_eq name other)) (◌≢◌ w) names (All-append_left (◌≢◌ w) names more apart)) (All-append_right (◌≢◌ w) names more apart)) rest
    by false rest = rest

-- without one name after them as well
pub others_differ_after : (name : Identifier) (more names : List Identifier) → AllPairs ◌≢◌ (more ++ names) → AllPairs ◌≢◌ (more ++ without name names)
others_differ_after name [] names pairs = AllPairs-filter ◌≢◌ (λ other. not (bytes_eq name other)) names pairs
others_differ_after name (w ∷ more) names pairs =
    let apart : All (◌≢◌ w) (more ++ names) = head_apart ◌≢◌ w (more ++ names) pairs in
    AllPairs-cons ◌≢◌ w (more ++ without name names)
    (All-append (◌≢◌ w) more (without name names) (All-append_left (◌≢◌ w) more names apart) (All-filter (λ other. not (bytes_eq name other)) (◌≢◌ w) names (All-append_right (◌≢◌ w) more names apart)))
    (others_differ_after name more names (pairs_tail ◌≢◌ w (more ++ names) pairs))
