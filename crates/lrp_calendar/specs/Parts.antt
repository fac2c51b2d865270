-- What stands at the front of some bytes.
use Rattle.std.specs.Prelude.{◌≡◌, ◌≤◌, ◌<◌, ◌^◌, ℕ, Bool, true, false, List, [], ◌∷◌, ◌++◌, Option, MatchOption}
use Rattle.std.specs.Borrow.{Bor}
use Rattle.std.specs.Char.{is_ascii_digit}
use Rattle.std.specs.Fmt.{decimal}

-- the bytes are the text of a value with the test, and others after it
pub record BeginsAs {A : Type 0} (test : A → Bool) (text : A → List ℕ) (bytes : List ℕ) (value : A) (rest : List ℕ) : Type 0 where
  pub is : test value ≡ true
  pub whole : bytes ≡ text value ++ rest

-- they begin with the text of no such value
abbrev pub BeginsWithNone : {A : Type 0} → (A → Bool) → (A → List ℕ) → List ℕ → Type 0
BeginsWithNone {A} test text bytes = (value : A) (rest : List ℕ) → BeginsAs test text bytes value rest → ⊥

-- what is found at their front: such a value and the bytes after it, or none
abbrev pub Finds : {A : Type 0} → (A → Bool) → (A → List ℕ) → List ℕ → Option (A × Bor (List ℕ)) → Type 0
Finds test text bytes found = MatchOption found (BeginsWithNone test text bytes) (λ part. BeginsAs test text bytes part.0 part.1.now)

-- the value with the test whose text the bytes are, or none
abbrev pub SpellsValue : {A : Type 0} → (A → Bool) → (A → List ℕ) → List ℕ → Option A → Type 0
SpellsValue {A} test text bytes found = MatchOption found ((value : A) → test value ≡ true → bytes ≡ text value → ⊥) (λ value. (test value ≡ true) × (bytes ≡ text value))

-- the only value with the test whose text they may be, or none
abbrev pub MaySpell : {A : Type 0} → (A → Bool) → (A → List ℕ) → List ℕ → Option A → Type 0
MaySpell {A} test text bytes found = MatchOption found ((value : A) → test value ≡ true → bytes ≡ text value → ⊥) (λ likely. (value : A) → test value ≡ true → bytes ≡ text value → value ≡ likely)

-- what stands after these bytes at their front, or none where they don't begin so
abbrev pub FindsAfter : List ℕ → List ℕ → Option (Bor (List ℕ)) → Type 0
FindsAfter front bytes found = MatchOption found ((rest : List ℕ) → bytes ≡ front ++ rest → ⊥) (λ rest. bytes ≡ front ++ rest.now)

-- the first byte is a digit
abbrev pub goes_on : List ℕ → Bool
goes_on [] = false
goes_on (b ∷ bytes) = is_ascii_digit b

-- the bytes are the text of a value with the test, and others after it with which no number goes on
pub record IsReadLast {A : Type 0} (test : A → Bool) (text : A → List ℕ) (bytes : List ℕ) (value : A) : Type 0 where
  pub rest : List ℕ
  pub read : BeginsAs test text bytes value rest
  pub ends : goes_on rest ≡ false

-- they begin with the text of no such value, or a number goes on after it
abbrev pub HasNoLast : {A : Type 0} → (A → Bool) → (A → List ℕ) → List ℕ → Type 0
HasNoLast {A} test text bytes = (value : A) → IsReadLast test text bytes value → ⊥

-- what is found at their front with no number going on after it
abbrev pub FindsLast : {A : Type 0} → (A → Bool) → (A → List ℕ) → List ℕ → Option A → Type 0
FindsLast test text bytes found = MatchOption found (HasNoLast test text bytes) (IsReadLast test text bytes)

-- the bytes are a number from 1 on and below 2^64 as it is printed, and others after it with which it doesn't go on
pub record IsNumberAt (bytes : List ℕ) (n : ℕ) (rest : List ℕ) : Type 0 where
  pub positive : 1 ≤ n
  pub small : n < 2 ^ 64
  pub whole : bytes ≡ decimal n ++ rest
  pub ends : goes_on rest ≡ false

-- the number that is found at their front, and the bytes after it, or none
abbrev pub FindsNumber : List ℕ → Option (ℕ × Bor (List ℕ)) → Type 0
FindsNumber bytes found = MatchOption found ((n : ℕ) (rest : List ℕ) → IsNumberAt bytes n rest → ⊥) (λ part. IsNumberAt bytes part.0 part.1.now)
