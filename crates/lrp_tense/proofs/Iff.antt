-- Equivalences under the connectives, and values that are times.
use Rattle.std.proofs.Common.{◌≡◌, ◌↔◌, arith}
use Rattle.std.specs.Prelude.{ℤ, pos, ◌+ℤ◌, ◌≤ℤ◌, ◌<ℤ◌}
use Rattle.std.proofs.lemmas.Int.{ints}
use Rattle.lrp_model.specs.Rows.{Datum, time, text}
use Rattle.lrp_model.specs.Satisfaction.{Structure, IsOfSort, Either, ForSome}
use Rattle.lrp_model.specs.declared.relations.Sort.TheVariants.{Time}

pub both_iff : {p q r s : Type 0} → p ↔ r → q ↔ s → (p × q) ↔ (r × s)
both_iff a b = ((λ h. (a.0 h.0, b.0 h.1)), λ h. (a.1 h.0, b.1 h.1))

-- a pair, as a list of two members
pub two_iff : {p q r s : Type 0} → p ↔ r → q ↔ s → (p × q) ↔ (r × (s × Unit {0}))
two_iff a b = ((λ h. (a.0 h.0, (b.0 h.1, tt))), λ h. (a.1 h.0, b.1 h.1.0))

-- three, as a list of three members
pub three_iff : {p q r s t u : Type 0} → p ↔ s → q ↔ t → r ↔ u → (p × q × r) ↔ (s × (t × (u × Unit {0})))
three_iff a b c = ((λ h. (a.0 h.0, (b.0 h.1, (c.0 h.2, tt)))), λ h. (a.1 h.0, b.1 h.1.0, c.1 h.1.1.0))

pub imply_iff : {p q r s : Type 0} → p ↔ r → q ↔ s → (p → q) ↔ (r → s)
imply_iff a b = ((λ h x. b.0 (h (a.1 x))), λ h x. b.1 (h (a.0 x)))

pub not_iff : {p q : Type 0} → p ↔ q → (p → ⊥) ↔ (q → ⊥)
not_iff a = ((λ n x. n (a.1 x)), λ n x. n (a.0 x))

pub either_iff : {p q r s : Type 0} → p ↔ r → q ↔ s → Either p q ↔ Either r s
either_iff a b = ((λ e n m. e (λ x. n (a.0 x)) (λ y. m (b.0 y))), λ e n m. e (λ x. n (a.1 x)) (λ y. m (b.1 y)))

-- some value of a sort
pub some_iff : {P Q R : Datum → Type 0} → ((d : Datum) → R d → P d ↔ Q d) → ForSome (λ d. R d × P d) ↔ ForSome (λ d. R d × Q d)
some_iff {P} {Q} {R} h = ((λ s n. s (λ d x. n d (x.0, (h d x.0).0 x.1))), λ s n. s (λ d x. n d (x.0, (h d x.0).1 x.1)))

-- each value of a sort
pub each_iff : {P Q R : Datum → Type 0} → ((d : Datum) → R d → P d ↔ Q d) → ((d : Datum) → R d → P d) ↔ ((d : Datum) → R d → Q d)
each_iff {P} {Q} {R} h = ((λ s d r. (h d r).0 (s d r)), λ s d r. (h d r).1 (s d r))

-- some integer, as some value of sort time
pub some_time : (M : Structure) {P : ℤ → Type 0} {Q : Datum → Type 0} → ((x : ℤ) → P x ↔ Q (time x)) → ForSome P ↔ ForSome (λ d. IsOfSort M Time d × Q d)
some_time M {P} {Q} h = ((λ s n. s (λ x p. n (time x) (tt, (h x).0 p))), λ s n. s (λ d q. at_value n d q.0 q.1))
  where
    at_value : ((x : ℤ) → P x → ⊥) → (d : Datum) → IsOfSort M Time d → Q d → ⊥
    at_value n (time x) o q = n x ((h x).1 q)
    at_value n (text t) o q = o

-- each integer, as each value of sort time
pub each_time : (M : Structure) {P : ℤ → Type 0} {Q : Datum → Type 0} → ((x : ℤ) → P x ↔ Q (time x)) → ((x : ℤ) → P x) ↔ ((d : Datum) → IsOfSort M Time d → Q d)
each_time M {P} {Q} h = ((λ s d o. at_value s d o), λ s x. (h x).1 (s (time x) tt))
  where
    at_value : ((x : ℤ) → P x) → (d : Datum) → IsOfSort M Time d → Q d
    at_value s (time x) o = (h x).0 (s x)
    at_value s (text t) o = absurd o

pub le_iff : (a b x y : ℤ) → x ≡ a → y ≡ b → (a ≤ℤ b) ↔ (x ≤ℤ y)
le_iff a b x y e f = ((λ h. omega (arith, ints)), λ h. omega (arith, ints))

pub lt_iff : (a b x y : ℤ) → x ≡ a → y ≡ b → (a <ℤ b) ↔ (x <ℤ y)
lt_iff a b x y e f = ((λ h. omega (arith, ints)), λ h. omega (arith, ints))

pub plus_zero : (x a : ℤ) → x ≡ a → x +ℤ pos 0 ≡ a
plus_zero x a e = omega (arith, ints)

pub plus_end : (x a b : ℤ) → x ≡ a → x +ℤ b ≡ a +ℤ b
plus_end x a b e = omega (arith, ints)
