-- The ends that bounds give a number, collected one after another.
use Rattle.std.proofs.Common.{◌≡◌, ℕ, ◌+◌, ◌*◌, ◌^◌, ◌<◌, Option, Some, None, List, refl, sym, subst, inl, inr, arith, below_more}
use Rattle.std.specs.Prelude.{ℤ, ◌-ℤ◌, neg_ℤ}
use Rattle.std.proofs.lemmas.Int.{ints}
use Rattle.lrp_theory.specs.Bounds.{Within, plus}
use Rattle.lrp_theory.specs.Entries.{entry, node, AtMost, IsLesser}
use Rattle.lrp_matrix.specs.Ranges.{Above, AreEndsOf, negation}

-- f v is within the end e exactly where v has each of the first n properties
pub record Gives (property : ℕ → ℤ → Type 0) (f : ℤ → ℤ) (n : ℕ) (e : Option ℤ) : Type 0 where
  pub to : (v : ℤ) → Within (f v) e → (q : ℕ) → q < n → property q v
  pub from : (v : ℤ) → ((q : ℕ) → q < n → property q v) → Within (f v) e

-- no end gives none of them
pub none_given : (property : ℕ → ℤ → Type 0) (f : ℤ → ℤ) → Gives property f 0 None
none_given property f = record { to = λ v h q lt. absurd (omega arith); from = λ v h. tt }

-- the lesser of an end and of one more property's end
pub one_more : (property : ℕ → ℤ → Type 0) (f : ℤ → ℤ) (n : ℕ) (e t new : Option ℤ) → Gives property f n e → IsLesser new e t → ((v : ℤ) → Within (f v) t → property n v) → ((v : ℤ) → property n v → Within (f v) t)
    → Gives property f (n + 1) new
one_more property f n e t new given lesser to from = record {
  to = λ v h. below_more (λ q. property q v) n (given.to v (lesser.below (f v) h).0) (to v (lesser.below (f v) h).1);
  from = λ v h. elim lesser.one [
    | inl old ↦ rw old (given.from v (λ q lt. h q (omega arith)))
    | inr made ↦ rw made (from v (h n (omega arith)))
  ];
}

-- the end that a bound on x - v gives the negation of v
pub low_to : (x v : ℤ) (e : Option ℤ) → Within (neg_ℤ v) (plus e (Some (neg_ℤ x))) → Within (x -ℤ v) e
low_to x v None h = tt
low_to x v (Some a) h = omega (arith, ints)

-- and back
pub low_from : (x v : ℤ) (e : Option ℤ) → Within (x -ℤ v) e → Within (neg_ℤ v) (plus e (Some (neg_ℤ x)))
low_from x v None h = tt
low_from x v (Some a) h = omega (arith, ints)

-- and the end that a bound on v - x gives v
pub high_to : (x v : ℤ) (e : Option ℤ) → Within v (plus e (Some x)) → Within (v -ℤ x) e
high_to x v None h = tt
high_to x v (Some a) h = omega (arith, ints)

-- and back
pub high_from : (x v : ℤ) (e : Option ℤ) → Within (v -ℤ x) e → Within v (plus e (Some x))
high_from x v None h = tt
high_from x v (Some a) h = omega (arith, ints)

-- a number is above the negated end exactly where its negation is within the end
above_negation : (v : ℤ) (e : Option ℤ) → Above v (negation e) → Within (neg_ℤ v) e
above_negation v None h = tt
above_negation v (Some a) h = omega (arith, ints)

-- and back
negation_above : (v : ℤ) (e : Option ℤ) → Within (neg_ℤ v) e → Above v (negation e)
negation_above v None h = tt
negation_above v (Some a) h = omega (arith, ints)

-- what the bounds of a list ask of column i and of column q
abbrev pub FromLow : List (Option ℤ) → ℕ → List ℤ → ℕ → ℤ → Type 0
FromLow cells i prefix q v = Within (node prefix q -ℤ v) (entry cells q i)

-- the same for the high end
abbrev pub FromHigh : List (Option ℤ) → ℕ → List ℤ → ℕ → ℤ → Type 0
FromHigh cells i prefix q v = Within (v -ℤ node prefix q) (entry cells i q)

-- after all columns before i
pub ends_are : (cells : List (Option ℤ)) (i : ℕ) (prefix : List ℤ) (low high : Option ℤ) → Gives (FromLow cells i prefix) neg_ℤ i low → Gives (FromHigh cells i prefix) (λ v. v) i high
    → AreEndsOf cells i prefix (negation low) high
ends_are cells i prefix low high lows highs = record {
  above = λ v h. lows.to v (above_negation v low h);
  from_above = λ v h. negation_above v low (lows.from v h);
  below = highs.to;
  from_below = highs.from;
}

-- the magnitude of a sum
pub AtMost-sum : (g h : ℕ) (e f : Option ℤ) → AtMost g e → AtMost h f → AtMost (g + h) (plus e f)
AtMost-sum g h None f a b = tt
AtMost-sum g h (Some x) None a b = tt
AtMost-sum g h (Some x) (Some y) a b = (omega (arith, ints), omega (arith, ints))

-- the lesser of two
pub AtMost-one : (h : ℕ) (e f g : Option ℤ) → AtMost h f → AtMost h g → IsLesser e f g → AtMost h e
AtMost-one h e f g a b lesser = elim lesser.one [ inl p ↦ rw p a | inr p ↦ rw p b ]

-- the negation
pub AtMost-negation : (h : ℕ) (e : Option ℤ) → AtMost h e → AtMost h (negation e)
AtMost-negation h None a = tt
AtMost-negation h (Some x) a = (omega (arith, ints), omega (arith, ints))

-- one more column, by its number x and its bound e
pub low_sum : (t a b c e : Option ℤ) (x : ℤ) → t ≡ plus a b → a ≡ e → b ≡ negation c → c ≡ Some x → t ≡ plus e (Some (neg_ℤ x))
low_sum t a b c e x p q r s = rw (p, q, r, s) refl

-- the same for the high end
pub high_sum : (t a c e : Option ℤ) (x : ℤ) → t ≡ plus a c → a ≡ e → c ≡ Some x → t ≡ plus e (Some x)
high_sum t a c e x p q s = rw (p, q, s) refl

-- the low end with one column more
pub low_step : (cells : List (Option ℤ)) (i : ℕ) (prefix : List ℤ) (p : ℕ) (low t new : Option ℤ) → Gives (FromLow cells i prefix) neg_ℤ p low → IsLesser new low t → t ≡ plus (entry cells p i) (Some (neg_ℤ (node prefix p)))
    → Gives (FromLow cells i prefix) neg_ℤ (p + 1) new
low_step cells i prefix p low t new given lesser is = one_more (FromLow cells i prefix) neg_ℤ p low t new given lesser
    (λ v h. low_to (node prefix p) v (entry cells p i) (subst (λ e. Within (neg_ℤ v) e) is h))
    (λ v h. subst (λ e. Within (neg_ℤ v) e) (sym is) (low_from (node prefix p) v (entry cells p i) h))

-- the high end with one column more
pub high_step : (cells : List (Option ℤ)) (i : ℕ) (prefix : List ℤ) (p : ℕ) (high t new : Option ℤ) → Gives (FromHigh cells i prefix) (λ v. v) p high → IsLesser new high t → t ≡ plus (entry cells i p) (Some (node prefix p))
    → Gives (FromHigh cells i prefix) (λ v. v) (p + 1) new
high_step cells i prefix p high t new given lesser is = one_more (FromHigh cells i prefix) (λ v. v) p high t new given lesser
    (λ v h. high_to (node prefix p) v (entry cells i p) (subst (λ e. Within v e) is h))
    (λ v h. subst (λ e. Within v e) (sym is) (high_from (node prefix p) v (entry cells i p) h))

-- and the magnitude of either
pub small_step : (old t new e f : Option ℤ) → AtMost (9 * 2 ^ 62) old → IsLesser new old t → t ≡ plus e f → AtMost (8 * 2 ^ 62) e → AtMost (2 ^ 62) f → AtMost (9 * 2 ^ 62) new
small_step old t new e f small lesser is a b = AtMost-one (9 * 2 ^ 62) new old t small (rw is (AtMost-sum (8 * 2 ^ 62) (2 ^ 62) e f a b)) lesser
