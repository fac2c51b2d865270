-- Following links: what a walk comes to, and what it still comes to after some slots changed.
use Rattle.std.proofs.Common.{◌≡◌, ◌≢◌, ℕ, zero, suc, ◌+◌, ◌<◌, ◌≤◌, ◌⊎◌, List, [], ◌∷◌, ◌++◌, length, Option, Some, None, IsSome, refl, sym, ap, ◌∙◌, arith}
use Rattle.std.specs.Prelude.{slice_get}
use Rattle.std.specs.List.{AllByRecursion}
use Rattle.lrp_slots.specs.declared.chains.Link.{Link}
use Rattle.lrp_slots.specs.Links.{next_of, value_at, keys_from, key_after, values_at, AreHeld, AreDistinctSlots}

-- one number is below another, or is not
pub below_or : (m n : ℕ) → (m < n) ⊎ (n ≤ m)
below_or m n = grind arith

-- what holds of each, where each of it gives the other
pub all_so : {X : Type 0} (P Q : X → Type 0) (xs : List X) → ((x : X) → P x → Q x) → AllByRecursion P xs → AllByRecursion Q xs
all_so P Q [] so all = tt
all_so P Q (x ∷ xs) so all = (so x all.0, all_so P Q xs so all.1)

-- two facts of each
pub all_both : {X : Type 0} (P Q : X → Type 0) (xs : List X) → AllByRecursion P xs → AllByRecursion Q xs → AllByRecursion (λ x. P x × Q x) xs
all_both P Q [] p q = tt
all_both P Q (x ∷ xs) p q = ((p.0, q.0), all_both P Q xs p.1 q.1)

-- what holds of each of two lists holds of each of both
pub all_joined : {X : Type 0} (P : X → Type 0) (xs ys : List X) → AllByRecursion P xs → AllByRecursion P ys → AllByRecursion P (xs ++ ys)
all_joined P [] ys p q = q
all_joined P (x ∷ xs) ys p q = (p.0, all_joined P xs ys p.1 q)

-- and each of the first
pub all_front : {X : Type 0} (P : X → Type 0) (xs ys : List X) → AllByRecursion P (xs ++ ys) → AllByRecursion P xs
all_front P [] ys p = tt
all_front P (x ∷ xs) ys p = (p.0, all_front P xs ys p.1)

-- and each of the second
pub all_back : {X : Type 0} (P : X → Type 0) (xs ys : List X) → AllByRecursion P (xs ++ ys) → AllByRecursion P ys
all_back P [] ys p = p
all_back P (x ∷ xs) ys p = all_back P xs ys p.1

-- a number at the end that no other is
pub AreApart-push : (xs : List ℕ) (y : ℕ) → AreDistinctSlots xs → AllByRecursion (λ x. x ≢ y) xs → AreDistinctSlots (xs ++ y ∷ [])
AreApart-push [] y apart new = (tt, tt)
AreApart-push (x ∷ xs) y apart new =
    (all_joined (λ other. other ≢ x) xs (y ∷ []) apart.0 ((λ e. new.0 (sym e), tt)), AreApart-push xs y apart.1 new.1)

-- a number in the middle differs from those before it
pub apart_before : (xs : List ℕ) (y : ℕ) (ys : List ℕ) → AreDistinctSlots (xs ++ y ∷ ys) → AllByRecursion (λ x. x ≢ y) xs
apart_before [] y ys apart = tt
apart_before (x ∷ xs) y ys apart = (λ e. (all_back (λ other. other ≢ x) xs (y ∷ ys) apart.0).0 (sym e), apart_before xs y ys apart.1)

-- and from those after it
pub apart_after : (xs : List ℕ) (y : ℕ) (ys : List ℕ) → AreDistinctSlots (xs ++ y ∷ ys) → AllByRecursion (λ x. x ≢ y) ys
apart_after [] y ys apart = apart.0
apart_after (x ∷ xs) y ys apart = apart_after xs y ys apart.1

-- without it the others are apart
pub AreApart-without : (xs : List ℕ) (y : ℕ) (ys : List ℕ) → AreDistinctSlots (xs ++ y ∷ ys) → AreDistinctSlots (xs ++ ys)
AreApart-without [] y ys apart = apart.1
AreApart-without (x ∷ xs) y ys apart =
    (all_joined (λ other. other ≢ x) xs ys (all_front (λ other. other ≢ x) xs (y ∷ ys) apart.0) ((all_back (λ other. other ≢ x) xs (y ∷ ys) apart.0).1), AreApart-without xs y ys apart.1)

-- one value before others
joined_length : {X : Type 0} (xs ys : List X) (n : ℕ) → length xs ≡ 1 → length ys ≡ n → length (xs ++ ys) ≡ suc n
joined_length [] ys n p q = absurd (omega arith)
joined_length (x ∷ []) ys n p q = ap suc q
joined_length (x ∷ y ∷ xs) ys n p q = absurd (omega arith)

module _ {V : Type 0} where
  -- a walk of m links and then of n
  pub keys_from-add : (slots : ℕ → Option (Link V)) (m n l key : ℕ) → l ≡ m + n → keys_from slots l key ≡ keys_from slots m key ++ keys_from slots n (key_after slots m key)
  keys_from-add slots zero n l key e = let same : l ≡ n = omega arith in ap (λ k. keys_from slots k key) same
  keys_from-add slots (suc m) n zero key e = absurd (omega arith)
  keys_from-add slots (suc m) n (suc l) key e = ap (λ ks. key ∷ ks) (keys_from-add slots m n l (next_of (slots key)) (omega arith))

  -- the key that such a walk comes to
  pub key_after-add : (slots : ℕ → Option (Link V)) (m n l key : ℕ) → l ≡ m + n → key_after slots l key ≡ key_after slots n (key_after slots m key)
  key_after-add slots zero n l key e = let same : l ≡ n = omega arith in ap (λ k. key_after slots k key) same
  key_after-add slots (suc m) n zero key e = absurd (omega arith)
  key_after-add slots (suc m) n (suc l) key e = key_after-add slots m n l (next_of (slots key)) (omega arith)

  -- one link more
  pub key_after-suc : (slots : ℕ → Option (Link V)) (m key : ℕ) → key_after slots (suc m) key ≡ next_of (slots (key_after slots m key))
  key_after-suc slots zero key = refl
  key_after-suc slots (suc m) key = key_after-suc slots m (next_of (slots key))

  -- what holds of each key on the way holds of the one at a place
  pub on_the_way : (slots : ℕ → Option (Link V)) (P : ℕ → Type 0) (n i key : ℕ) → i < n → AllByRecursion P (keys_from slots n key) → P (key_after slots i key)
  on_the_way slots P zero i key within all = absurd (omega arith)
  on_the_way slots P (suc n) zero key within all = all.0
  on_the_way slots P (suc n) (suc i) key within all = on_the_way slots P n i (next_of (slots key)) (omega arith) all.1

  -- what holds of each key on the way holds of each on a shorter one
  pub all_on_the_way : (slots : ℕ → Option (Link V)) (P : ℕ → Type 0) (m n key : ℕ) → m ≤ n → AllByRecursion P (keys_from slots n key) → AllByRecursion P (keys_from slots m key)
  all_on_the_way slots P zero n key le all = tt
  all_on_the_way slots P (suc m) zero key le all = absurd (omega arith)
  all_on_the_way slots P (suc m) (suc n) key le all = (all.0, all_on_the_way slots P m n (next_of (slots key)) (omega arith) all.1)

  -- how many keys a walk has
  pub length-keys_from : (slots : ℕ → Option (Link V)) (n key : ℕ) → length (keys_from slots n key) ≡ n
  length-keys_from slots zero key = refl
  length-keys_from slots (suc n) key = ap suc (length-keys_from slots n (next_of (slots key)))

  -- where the slots on the way lead to the same, the walk is the same, and so is the key that it leads to
  pub same_walk : (old new : ℕ → Option (Link V)) (n key : ℕ) → AllByRecursion (λ k. next_of (new k) ≡ next_of (old k)) (keys_from old n key)
      → (keys_from new (suc n) key ≡ keys_from old (suc n) key) × (keys_from new n key ≡ keys_from old n key) × (key_after new n key ≡ key_after old n key)
  same_walk old new zero key same = (refl, refl, refl)
  same_walk old new (suc n) key same =
      let rest = same_walk old new n (next_of (old key)) same.1 in (
        ap (λ k. key ∷ keys_from new (suc n) k) same.0 ∙ ap (λ ks. key ∷ ks) rest.0,
        ap (λ k. key ∷ keys_from new n k) same.0 ∙ ap (λ ks. key ∷ ks) rest.1,
        ap (key_after new n) same.0 ∙ rest.2,
      )

  -- and so is each key on the way
  pub same_end : (old new : ℕ → Option (Link V)) (n m key : ℕ) → m ≤ n → AllByRecursion (λ k. next_of (new k) ≡ next_of (old k)) (keys_from old n key) → key_after new m key ≡ key_after old m key
  same_end old new n zero key le same = refl
  same_end old new zero (suc m) key le same = absurd (omega arith)
  same_end old new (suc n) (suc m) key le same = ap (key_after new m) same.0 ∙ same_end old new n m (next_of (old key)) (omega arith) same.1

  -- the values under the keys of two lists
  pub values_at-append : (slots : ℕ → Option (Link V)) (xs ys : List ℕ) → values_at slots (xs ++ ys) ≡ values_at slots xs ++ values_at slots ys
  values_at-append slots [] ys = refl
  values_at-append slots (x ∷ xs) ys = regrouped (value_at (slots x)) _ _ _ (values_at-append slots xs ys)
    where
      regrouped : (a b c d : List V) → d ≡ b ++ c → a ++ d ≡ (a ++ b) ++ c
      regrouped [] b c d e = e
      regrouped (x ∷ a) b c d e = ap (λ xs. x ∷ xs) (regrouped a b c d e)

  -- keys that keep their values have the same
  pub same_values : (old new : ℕ → Option (Link V)) (keys : List ℕ) → AllByRecursion (λ k. value_at (new k) ≡ value_at (old k)) keys → values_at new keys ≡ values_at old keys
  same_values old new [] same = refl
  same_values old new (key ∷ keys) same = ap (λ xs. xs ++ values_at new keys) same.0 ∙ ap (λ xs. value_at (old key) ++ xs) (same_values old new keys same.1)

  -- a slot that is held has one value
  one_value : (o : Option (Link V)) → IsSome o → length (value_at o) ≡ 1
  one_value None held = cc
  one_value (Some link) held = refl

  -- keys that are held have a value each
  pub length-values_at : (slots : ℕ → Option (Link V)) (keys : List ℕ) → AreHeld slots keys → length (values_at slots keys) ≡ length keys
  length-values_at slots [] held = refl
  length-values_at slots (key ∷ keys) held = joined_length _ _ _ (one_value (slots key) held.0) (length-values_at slots keys held.1)

  -- a slot with a value
  pub held_of : (o : Option (Link V)) (value : V) → value_at o ≡ value ∷ [] → IsSome o
  held_of None value e = cc
  held_of (Some link) value e = refl

  -- where it keeps its value it is still held
  pub still_held : (o p : Option (Link V)) → value_at p ≡ value_at o → IsSome o → IsSome p
  still_held None p e held = cc
  still_held (Some link) p e held = held_of p link.value e

  -- the value under the key at a place of a walk
  pub value_at_place : (slots : ℕ → Option (Link V)) (n i key : ℕ) (link : Link V) → i < n → AreHeld slots (keys_from slots n key) → slots (key_after slots i key) ≡ Some link → slice_get (values_at slots (keys_from slots n key)) i ≡ Some link.value
  value_at_place slots zero i key link within held e = absurd (omega arith)
  value_at_place slots (suc n) zero key link within held e = first_value (slots key) (values_at slots (keys_from slots n (next_of (slots key)))) link e
    where
      first_value : (o : Option (Link V)) (rest : List V) (link : Link V) → o ≡ Some link → slice_get (value_at o ++ rest) 0 ≡ Some link.value
      first_value None rest link e = cc
      first_value (Some other) rest link e = let same : other ≡ link = cc in ap (λ (l : Link V). Some l.value) same
  value_at_place slots (suc n) (suc i) key link within held e = later_value (slots key) (values_at slots (keys_from slots n (next_of (slots key)))) i held.0
      ∙ value_at_place slots n i (next_of (slots key)) link (omega arith) held.1 e
    where
      later_value : (o : Option (Link V)) (rest : List V) (i : ℕ) → IsSome o → slice_get (value_at o ++ rest) (suc i) ≡ slice_get rest i
      later_value None rest i held = cc
      later_value (Some other) rest i held = refl
