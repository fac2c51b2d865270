-- The theorem on two congruences, which are solvable together exactly where the greatest common divisor divides the distance of the offsets, and then modulo the least common multiple (Gauss, "Disquisitiones arithmeticae", 1801, articles 29 to 32).
use Rattle.std.proofs.Common.{◌≡◌, ℕ, zero, suc, ◌+◌, ◌*◌, ◌%◌, ◌/◌, ◌<◌, ◌≤◌, arith, refl, sym, ap, ◌∙◌}
use Rattle.std.specs.Prelude.{ℤ, pos, ◌+ℤ◌, ◌-ℤ◌, ◌*ℤ◌, neg_ℤ}
use Rattle.std.proofs.Math.IntN.{*ℤ_comm, *ℤ-one, *ℤ-zero, one}
use Rattle.std.proofs.lemmas.Int.{ints}
use Rattle.lrp_theory.specs.Divides.{Divides, IsPointMember, IsLcm}
use Rattle.lrp_theory.specs.Congruences.{IsGreatestDivisor, IsCommonMember}
use Rattle.lrp_theory.proofs.Ring.{distrib_left, minus_left, minus_right, times_assoc}
use Rattle.lrp_theory.proofs.Modulo.{Divides-+, Divides--, Divides-is, Divides-zero, Divides-self, Divides-times}
use Rattle.lrp_theory.proofs.Multiples.{Divides-trans, lcm_divides}

-- a common divisor g of a and b, as a sum of multiples of both
pub record IsCombined (a b g : ℕ) : Type 0 where
  pub positive : 0 < g
  pub left : Divides (pos g) (pos a)
  pub right : Divides (pos g) (pos b)
  pub first : ℤ
  pub second : ℤ
  pub is : pos g ≡ (first *ℤ pos a) +ℤ (second *ℤ pos b)

-- Euclid's step, from b and a modulo b to a and b
step_is : (a b g : ℕ) (s t : ℤ) → pos g ≡ (s *ℤ pos b) +ℤ (t *ℤ pos (a % b)) → pos g ≡ (t *ℤ pos a) +ℤ ((s -ℤ (t *ℤ pos (a / b))) *ℤ pos b)
step_is a b g s t e =
    let f : pos (a % b) ≡ pos a -ℤ pos (a / b * b) = rest_is a b in
    let h : t *ℤ pos (a % b) ≡ (t *ℤ pos a) -ℤ (t *ℤ pos (a / b * b)) = ap (λ z. t *ℤ z) f ∙ minus_right t (pos a) (pos (a / b * b)) in
    let k : (s -ℤ (t *ℤ pos (a / b))) *ℤ pos b ≡ (s *ℤ pos b) -ℤ ((t *ℤ pos (a / b)) *ℤ pos b) = minus_left s (t *ℤ pos (a / b)) (pos b) in
    let l : (t *ℤ pos (a / b)) *ℤ pos b ≡ t *ℤ pos (a / b * b) = times_assoc t (pos (a / b)) (pos b) in
    omega (arith, ints)
  where
    rest_is : (a b : ℕ) → pos (a % b) ≡ pos a -ℤ pos (a / b * b)
    rest_is a b = let e : a ≡ b * (a / b) + a % b = omega arith in let f : a / b * b ≡ b * (a / b) = omega arith in omega (arith, ints)

-- Euclid's algorithm, with at most b steps
euclid : (fuel a b : ℕ) → b ≤ fuel → 0 < a → (g : ℕ) × IsCombined a b g
euclid fuel a zero le h = (
  a,
  record {
    positive = h;
    left = Divides-self (pos a);
    right = Divides-zero (pos a);
    first = one;
    second = pos 0;
    is = let e : one *ℤ pos a ≡ pos a = *ℤ_comm one (pos a) ∙ *ℤ-one (pos a) in let f : pos 0 *ℤ pos zero ≡ pos 0 = *ℤ-zero (pos 0) in omega (arith, ints);
  },
)
euclid zero a (suc b) le h = absurd (omega arith)
euclid (suc fuel) a (suc b) le h =
    let m : ℕ = suc b in
    let low : a % m < m = omega arith in
    let r : (g : ℕ) × IsCombined m (a % m) g = euclid fuel m (a % m) (omega arith) (omega arith) in
    let w = r.1 in
    let whole : a / m * m + a % m ≡ a = omega arith in (
      r.0,
      record {
        positive = w.positive;
        left = Divides-is (pos r.0) _ _ (ap pos whole) (Divides-+ (pos r.0) _ _ (Divides-times (pos r.0) (pos (a / m)) (pos m) w.left) w.right);
        right = w.left;
        first = w.second;
        second = w.first -ℤ (w.second *ℤ pos (a / m));
        is = step_is a m r.0 w.first w.second w.is;
      },
    )

-- each two positive numbers have such a divisor
pub combined_divisor : (a b : ℕ) → 0 < a → (g : ℕ) × IsCombined a b g
combined_divisor a b h = euclid b a b (omega arith) h

-- and it is their greatest one
pub combined_is_greatest : (a b g : ℕ) → IsCombined a b g → IsGreatestDivisor a b g
combined_is_greatest a b g w = record {
  positive = w.positive;
  left = w.left;
  right = w.right;
  greatest = λ z p q. Divides-is z _ _ (sym w.is) (Divides-+ z _ _ (Divides-times z w.first (pos a) p) (Divides-times z w.second (pos b) q));
}

-- two members of one point differ by what the period divides
members_differ : (c k x y : ℤ) → IsPointMember c k x → IsPointMember c k y → Divides k (y -ℤ x)
members_differ c k x y h g = Divides-is k ((y -ℤ c) -ℤ (x -ℤ c)) _ (omega (arith, ints)) (Divides-- k _ _ g h)

-- a number at such a distance from a member is a member
member_from : (c k x y : ℤ) → IsPointMember c k x → Divides k (y -ℤ x) → IsPointMember c k y
member_from c k x y h g = Divides-is k ((y -ℤ x) +ℤ (x -ℤ c)) _ (omega (arith, ints)) (Divides-+ k _ _ g h)

-- one common member gives them all: those at a distance that the least common multiple divides
pub common_members : (c d : ℤ) (k m l : ℕ) (x : ℤ) → IsLcm k m l → IsCommonMember c k d m x → (y : ℤ) → (IsCommonMember c k d m y → IsPointMember x (pos l) y) × (IsPointMember x (pos l) y → IsCommonMember c k d m y)
common_members c d k m l x lcm h y = (
  (λ g. lcm_divides k m l (y -ℤ x) lcm (members_differ c (pos k) x y h.0 g.0) (members_differ d (pos m) x y h.1 g.1)),
  (λ g. (member_from c (pos k) x y h.0 (Divides-trans (pos k) (pos l) _ lcm.common.0 g), member_from d (pos m) x y h.1 (Divides-trans (pos m) (pos l) _ lcm.common.1.0 g))),
)

-- a common member makes a common divisor divide the distance of the offsets
pub common_apart : (c d : ℤ) (k m g : ℕ) (x : ℤ) → Divides (pos g) (pos k) → Divides (pos g) (pos m) → IsCommonMember c k d m x → Divides (pos g) (d -ℤ c)
common_apart c d k m g x p q h =
    Divides-is (pos g) ((x -ℤ c) -ℤ (x -ℤ d)) _ (omega (arith, ints)) (Divides-- (pos g) _ _ (Divides-trans (pos g) (pos k) _ p h.0) (Divides-trans (pos g) (pos m) _ q h.1))

-- the number c + k (s e) is d - m (t e), where d - c = g e and g = s k + t m
meeting_is : (c d g k m s t e : ℤ) → d -ℤ c ≡ g *ℤ e → g ≡ (s *ℤ k) +ℤ (t *ℤ m) → neg_ℤ (m *ℤ (t *ℤ e)) ≡ (c +ℤ (k *ℤ (s *ℤ e))) -ℤ d
meeting_is c d g k m s t e far is =
    let p : ((s *ℤ k) +ℤ (t *ℤ m)) *ℤ e ≡ ((s *ℤ k) *ℤ e) +ℤ ((t *ℤ m) *ℤ e) = distrib_left (s *ℤ k) (t *ℤ m) e in
    let q : (s *ℤ k) *ℤ e ≡ k *ℤ (s *ℤ e) = ap (λ z. z *ℤ e) (*ℤ_comm s k) ∙ times_assoc k s e in
    let r : (t *ℤ m) *ℤ e ≡ m *ℤ (t *ℤ e) = ap (λ z. z *ℤ e) (*ℤ_comm t m) ∙ times_assoc m t e in
    let u : g *ℤ e ≡ ((s *ℤ k) +ℤ (t *ℤ m)) *ℤ e = ap (λ z. z *ℤ e) is in
    omega (arith, ints)

-- where the greatest common divisor divides the distance of the offsets, there is a common member
pub common_member : (c d : ℤ) (k m g : ℕ) → IsCombined k m g → Divides (pos g) (d -ℤ c) → (x : ℤ) × IsCommonMember c k d m x
common_member c d k m g w far =
    let e : ℤ = far.times in
    let x : ℤ = c +ℤ (pos k *ℤ (w.first *ℤ e)) in (
      x,
      (
        record { times = w.first *ℤ e; is = (let f : x -ℤ c ≡ pos k *ℤ (w.first *ℤ e) = omega (arith, ints) in f) },
        Divides-is (pos m) _ _ (meeting_is c d (pos g) (pos k) (pos m) w.first w.second e far.is w.is) (negated (pos m) (w.second *ℤ e)),
      ),
    )
  where
    negated : (m t : ℤ) → Divides m (neg_ℤ (m *ℤ t))
    negated m t = let z : Divides m (pos 0 -ℤ (m *ℤ t)) = Divides-- m _ _ (Divides-zero m) (record { times = t; is = refl }) in Divides-is m _ _ (omega (arith, ints)) z

-- the same for whichever number is the greatest common divisor
pub solvable : (c d : ℤ) (k m g : ℕ) → 0 < k → IsGreatestDivisor k m g → Divides (pos g) (d -ℤ c) → (x : ℤ) × IsCommonMember c k d m x
solvable c d k m g h is far =
    let r : (f : ℕ) × IsCombined k m f = combined_divisor k m h in
    common_member c d k m r.0 r.1 (Divides-trans (pos r.0) (pos g) _ (is.greatest (pos r.0) r.1.left r.1.right) far)
