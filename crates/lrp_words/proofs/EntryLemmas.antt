-- The first value of a key, and tests of words as tests of their bytes.
use Rattle.std.proofs.Common.{◌≡◌, ℕ, zero, suc, ◌+◌, ◌<◌, List, [], ◌∷◌, Bool, true, false, cond, Option, Some, None, map, take, get_or, length, arith, refl, sym, ap, ap₂, subst, ◌∙◌}
use Rattle.std.specs.Prelude.{String, string_bytes, count_by, nat_le, ◌&&◌}
use Rattle.std.specs.declared.alloc.Global.{Global}
use Rattle.std.proofs.lemmas.List.Sums.{sum_by-cons}
use Rattle.std.specs.List.{list_all, list_any}
use Rattle.lrp_model.specs.Texts.{Text}
use Rattle.lrp_words.specs.declared.keys.Key.{Key}
use Rattle.lrp_words.specs.Entries.{given, gives, value_for, unless, are_given}

-- with no value before it, the value is that of this word, if it has one
pub value_here : (key : Key) (words : List (String Global)) (i : ℕ) (w : String Global) → i < length words → w ≡ get_or words i w → value_for key (map string_bytes (take i words)) ≡ None
    → (rest : List Text) × (value_for key (map string_bytes words) ≡ unless (given key (string_bytes w)) (value_for key rest))
value_here key [] i w l e none = absurd (omega arith)
value_here key (x ∷ xs) zero w l e none = (map string_bytes xs, ap (λ y. unless (given key (string_bytes y)) (value_for key (map string_bytes xs))) (sym e))
value_here key (x ∷ xs) (suc i) w l e none = by (given key (string_bytes x)) none (value_here key xs i w (omega arith) e)
  where
    by : (o : Option Text) → unless o (value_for key (map string_bytes (take i xs))) ≡ None
        → (value_for key (map string_bytes (take i xs)) ≡ None → (rest : List Text) × (value_for key (map string_bytes xs) ≡ unless (given key (string_bytes w)) (value_for key rest)))
        → (rest : List Text) × (unless o (value_for key (map string_bytes xs)) ≡ unless (given key (string_bytes w)) (value_for key rest))
    by None h rec = rec h
    by (Some t) h rec = absurd (some_none h)
      where
        some_none : {t : Text} → Some t ≡ None → ⊥
        some_none e = cc

-- so there is no value before the next word where it has none
pub none_more : (key : Key) (words : List (String Global)) (i j : ℕ) (w : String Global) → j ≡ suc i → i < length words → w ≡ get_or words i w → value_for key (map string_bytes (take i words)) ≡ None → given key (string_bytes w) ≡ None → value_for key (map string_bytes (take j words)) ≡ None
none_more key words i j w e l g none here = subst (λ k. value_for key (map string_bytes (take k words)) ≡ None) (sym e) (by words i l g none)
  where
    by : (words : List (String Global)) (i : ℕ) → i < length words → w ≡ get_or words i w → value_for key (map string_bytes (take i words)) ≡ None → value_for key (map string_bytes (take (suc i) words)) ≡ None
    by [] i l g none = absurd (omega arith)
    by (x ∷ xs) zero l g none = ap (λ o. unless o None) (ap (λ y. given key (string_bytes y)) (sym g) ∙ here)
    by (x ∷ xs) (suc i) l g none = rest (given key (string_bytes x)) none (by xs i (omega arith) g)
      where
        rest : (o : Option Text) → unless o (value_for key (map string_bytes (take i xs))) ≡ None → (value_for key (map string_bytes (take i xs)) ≡ None → value_for key (map string_bytes (take (suc i) xs)) ≡ None) → unless o (value_for key (map string_bytes (take (suc i) xs))) ≡ None
        rest None h rec = rec h
        rest (Some t) h rec = h

-- a test of each word
pub all_words : (p : Text → Bool) (words : List (String Global)) → list_all p (map string_bytes words) ≡ list_all (λ w. p (string_bytes w)) words
all_words p [] = refl
all_words p (w ∷ ws) = ap (λ b. p (string_bytes w) && b) (all_words p ws)

-- a count of words
pub count_words : (p : Text → Bool) (words : List (String Global)) → count_by p (map string_bytes words) ≡ count_by (λ w. p (string_bytes w)) words
count_words p [] = refl
count_words p (w ∷ ws) = sum_by-cons (λ x. cond (p x) 1 0) (string_bytes w) (map string_bytes ws) ∙ ap (λ n. cond (p (string_bytes w)) 1 0 + n) (count_words p ws) ∙ sym (sum_by-cons (λ x. cond (p (string_bytes x)) 1 0) w ws)

-- the same count for each key
single_words : (keys : List Key) (words : List (String Global)) → list_all (λ key. nat_le (count_by (gives key) (map string_bytes words)) 1) keys ≡ list_all (λ key. nat_le (count_by (λ w. gives key (string_bytes w)) words) 1) keys
single_words [] words = refl
single_words (k ∷ ks) words = ap₂ (λ n b. nat_le n 1 && b) (count_words (gives k) words) (single_words ks words)

-- the two tests of words together
pub given_words : (keys : List Key) (words : List (String Global)) (a b : Bool) → a ≡ list_all (λ w. list_any (λ key. gives key (string_bytes w)) keys) words → b ≡ list_all (λ key. nat_le (count_by (λ w. gives key (string_bytes w)) words) 1) keys
    → (a && b) ≡ are_given keys (map string_bytes words)
given_words keys words a b e f = ap₂ (λ x y. x && y) (e ∙ sym (all_words (λ w. list_any (λ key. gives key w) keys) words)) (f ∙ sym (single_words keys words))

-- where the first holds, the second decides
pub given_both : (a b r : Bool) → a ≡ true → (a && b) ≡ r → b ≡ r
given_both true b r e f = f
given_both false b r e f = cc

-- where it does not, neither do both
pub given_first : (a b r : Bool) → a ≡ false → (a && b) ≡ r → false ≡ r
given_first true b r e f = cc
given_first false b r e f = f
