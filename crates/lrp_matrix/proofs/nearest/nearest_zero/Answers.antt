use Rattle.std.proofs.Common.{arith, sym, subst, ◌≡◌, ◌<◌, ◌≤◌, ℕ, ℤ, pos, ◌≤ℤ◌, ◌<ℤ◌, Option, Some, None, to_z, of_z}
use Rattle.std.specs.Prelude.{nat_abs, IfSome, IfNone}
use Rattle.std.specs.Int.{w64, w128}
use Rattle.std.proofs.lemmas.Int.{ints}
use Rattle.lrp_matrix.specs.Nearest.{IsFirstFromZero, IsLastBelowZero, IsBetween, IsNearest}
use Rattle.lrp_matrix.proofs.NearestLemmas.{up_alone, up_first, down_first}
use Rattle.lrp_matrix.proofs.nearest.nearest_zero.Goals as goal

-- in an option that is known, and by other names of the residue and the period
some_at : (p : ℤ → Type 0) (o : Option ℤ) (a : ℤ) → o ≡ Some a → IfSome o p → p a
some_at p o a e h = let g : IfSome (Some a) p = subst (λ w. IfSome w p) e h in g

none_at : (p : Type 0) (o : Option ℤ) → o ≡ None → IfNone o p → p
none_at p o e h = let g : IfNone {T = ℤ} None p = subst (λ w. IfNone w p) e h in g

up_at : (least most : Option ℤ) (r k s l a : ℤ) → r ≡ s → k ≡ l → IsFirstFromZero least most r k a → IsFirstFromZero least most s l a
up_at least most r k s l a e f h = rw (← e, ← f) h

down_at : (least most : Option ℤ) (r k s l b : ℤ) → r ≡ s → k ≡ l → IsLastBelowZero least most r k b → IsLastBelowZero least most s l b
down_at least most r k s l b e f h = rw (← e, ← f) h

none_by : (least most : Option ℤ) (r k s l : ℤ) → r ≡ s → k ≡ l → ((x : ℤ) → IsBetween least most r k x → x <ℤ pos 0 → ⊥) → (x : ℤ) → IsBetween least most s l x → x <ℤ pos 0 → ⊥
none_by least most r k s l e f h = rw (← e, ← f) h

nearer : (a b x y : ℤ) (m n : ℕ) → x ≡ a → y ≡ b → m ≡ nat_abs x → n ≡ nat_abs y → m ≤ n → nat_abs a ≤ nat_abs b
nearer a b x y m n e f g h le = rw (← e, ← f, ← g, ← h) le

farther : (a b x y : ℤ) (m n : ℕ) → x ≡ a → y ≡ b → m ≡ nat_abs x → n ≡ nat_abs y → n < m → nat_abs b < nat_abs a
farther a b x y m n e f g h lt = rw (← e, ← f, ← g, ← h) lt

-- a word that is not negative keeps its value as an unsigned one
word : (z : ℤ) → pos 0 ≤ℤ z → z ≤ℤ pos 9223372036854775807 → pos (nat_abs (to_z w64 (of_z w64 z))) ≡ z
word z low high = omega (arith, ints)

near_at : (p : ℤ → Type 0) (a b : ℤ) → b ≡ a → p a → p b
near_at p a b e h = subst p (sym e) h

pub returns-then-unsigned_abs-clause-some : goal.returns-then-unsigned_abs-clause-some
returns-then-unsigned_abs-clause-some c =
    let r = word c.args.residue (omega (arith, ints)) (omega (arith, ints)) in
    let k = word c.args.period (omega (arith, ints)) (omega (arith, ints)) in
    let up = up_at c.args.least c.args.most _ _ c.args.residue c.args.period c.in-Some-Some.a r k (some_at _ _ _ c.in-Some-Some.is-0 c.first_from_zero-up.ensures.some) in
    let down = down_at c.args.least c.args.most _ _ c.args.residue c.args.period c.in-Some-Some.b r k (some_at _ _ _ c.in-Some-Some.is-1 c.last_below_zero-down.ensures.some) in
    let a_fits = rw c.in-Some-Some.is-0 at c.first_from_zero-up.type_inv in
    let b_fits = rw c.in-Some-Some.is-1 at c.last_below_zero-down.type_inv in
    let a_is : to_z w128 (of_z w128 c.in-Some-Some.a) ≡ c.in-Some-Some.a = omega (arith, ints) in
    let b_is : to_z w128 (of_z w128 c.in-Some-Some.b) ≡ c.in-Some-Some.b = omega (arith, ints) in
    near_at (IsNearest c.args.least c.args.most c.args.residue c.args.period) _ _ a_is
    (up_first c.args.least c.args.most c.args.residue c.args.period c.in-Some-Some.a c.in-Some-Some.b up down (nearer _ _ _ _ _ _ a_is b_is c.unsigned_abs.ensures.value c.unsigned_abs-in-Some-Some.ensures.value c.if-unsigned_abs.true))

pub returns-else-unsigned_abs-clause-some : goal.returns-else-unsigned_abs-clause-some
returns-else-unsigned_abs-clause-some c =
    let r = word c.args.residue (omega (arith, ints)) (omega (arith, ints)) in
    let k = word c.args.period (omega (arith, ints)) (omega (arith, ints)) in
    let up = up_at c.args.least c.args.most _ _ c.args.residue c.args.period c.in-Some-Some.a r k (some_at _ _ _ c.in-Some-Some.is-0 c.first_from_zero-up.ensures.some) in
    let down = down_at c.args.least c.args.most _ _ c.args.residue c.args.period c.in-Some-Some.b r k (some_at _ _ _ c.in-Some-Some.is-1 c.last_below_zero-down.ensures.some) in
    let a_fits = rw c.in-Some-Some.is-0 at c.first_from_zero-up.type_inv in
    let b_fits = rw c.in-Some-Some.is-1 at c.last_below_zero-down.type_inv in
    let a_is : to_z w128 (of_z w128 c.in-Some-Some.a) ≡ c.in-Some-Some.a = omega (arith, ints) in
    let b_is : to_z w128 (of_z w128 c.in-Some-Some.b) ≡ c.in-Some-Some.b = omega (arith, ints) in
    near_at (IsNearest c.args.least c.args.most c.args.residue c.args.period) _ _ b_is
    (down_first c.args.least c.args.most c.args.residue c.args.period c.in-Some-Some.a c.in-Some-Some.b up down (farther _ _ _ _ _ _ a_is b_is c.unsigned_abs.ensures.value c.unsigned_abs-in-Some-Some.ensures.value c.if-unsigned_abs.false))

pub returns-in-Some-None-clause-some : goal.returns-in-Some-None-clause-some
returns-in-Some-None-clause-some c =
    let r = word c.args.residue (omega (arith, ints)) (omega (arith, ints)) in
    let k = word c.args.period (omega (arith, ints)) (omega (arith, ints)) in
    let up = up_at c.args.least c.args.most _ _ c.args.residue c.args.period c.in-Some-None.a r k (some_at _ _ _ c.in-Some-None.is-0 c.first_from_zero-up.ensures.some) in
    let a_fits = rw c.in-Some-None.is-0 at c.first_from_zero-up.type_inv in
    let a_is : to_z w128 (of_z w128 c.in-Some-None.a) ≡ c.in-Some-None.a = omega (arith, ints) in
    let none = none_by c.args.least c.args.most _ _ c.args.residue c.args.period r k (none_at _ _ c.in-Some-None.is-1 c.last_below_zero-down.ensures.none) in
    near_at (IsNearest c.args.least c.args.most c.args.residue c.args.period) _ _ a_is (up_alone c.args.least c.args.most c.args.residue c.args.period c.in-Some-None.a up none)
