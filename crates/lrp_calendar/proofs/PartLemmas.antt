-- Bytes that begin with no part of a text begin with no such text.
use Rattle.std.proofs.Common.{◌≡◌, ◌<◌, ℕ, true, false, List, ◌++◌, length, take, drop, Option, None, MatchOption, sym, ap, ◌∙◌, subst, arith}
use Rattle.std.specs.List.{IsSplitAt}
use Rattle.std.proofs.lemmas.Bool.{false≢true}
use Rattle.std.proofs.lemmas.List.{length-append, take-append-drop}
use Rattle.std.proofs.Math.Seq.{take-append_seam}
use Rattle.std.specs.Prelude.{Bool}
use Rattle.lrp_calendar.specs.Parts.{BeginsWithNone, BeginsAs}

-- a result that is none, where there is nothing
pub none_is : {A : Type 0} (P : Type 0) (Q : A → Type 0) (r : Option A) → r ≡ None → P → MatchOption r P Q
none_is {A} P Q r e p = let M : Option A → Type 0 = λ x. MatchOption x P Q in subst M (sym e) p

-- ---- texts of one length

-- the texts of the values with the test have this length
abbrev pub HaveLength : {A : Type 0} → (A → Bool) → (A → List ℕ) → ℕ → Type 0
HaveLength {A} test text n = (value : A) → test value ≡ true → length (text value) ≡ n

-- fewer bytes begin with none
pub none_short : {A : Type 0} (test : A → Bool) (text : A → List ℕ) (n : ℕ) (bytes : List ℕ) → HaveLength test text n → length bytes < n → BeginsWithNone test text bytes
none_short test text n bytes long few = λ value rest r.
    omega (arith, ap length r.whole, length-append (text value) rest, long value r.is, few)

-- nor do bytes of which as many are none
pub none_front : {A : Type 0} (test : A → Bool) (text : A → List ℕ) (n : ℕ) (bytes front back : List ℕ) → HaveLength test text n → IsSplitAt bytes n front back
    → ((value : A) → test value ≡ true → front ≡ text value → ⊥) → BeginsWithNone test text bytes
none_front test text n bytes front back long s none = λ value rest r.
    none value r.is (s.1 ∙ ap (take n) r.whole ∙ ap (λ k. take k (text value ++ rest)) (sym (long value r.is)) ∙ take-append_seam (text value) rest)

-- bytes of which as many are the text of one begin with it
pub front_read : {A : Type 0} (test : A → Bool) (text : A → List ℕ) (n : ℕ) (bytes front back : List ℕ) (value : A) → IsSplitAt bytes n front back → test value ≡ true → front ≡ text value → BeginsAs test text bytes value back
front_read test text n bytes front back value s is e =
    record { is = is; whole = sym (take-append-drop n bytes) ∙ ap (λ x. x ++ drop n bytes) (sym s.1 ∙ e) ∙ ap (λ x. text value ++ x) (sym s.2) }

-- ---- a text that may spell one value alone

-- it spells none where that has not the test, or another text
pub none_unlike : {A : Type 0} (test : A → Bool) (text : A → List ℕ) (bytes : List ℕ) (likely : A) → ((value : A) → test value ≡ true → bytes ≡ text value → value ≡ likely)
    → test likely ≡ false → (value : A) → test value ≡ true → bytes ≡ text value → ⊥
none_unlike test text bytes likely only no_test value is e = false≢true (sym no_test ∙ ap test (sym (only value is e)) ∙ is)

pub none_other : {A : Type 0} (test : A → Bool) (text : A → List ℕ) (bytes : List ℕ) (likely : A) → ((value : A) → test value ≡ true → bytes ≡ text value → value ≡ likely)
    → (bytes ≡ text likely → ⊥) → (value : A) → test value ≡ true → bytes ≡ text value → ⊥
none_other test text bytes likely only no_text value is e = no_text (e ∙ ap text (only value is e))
