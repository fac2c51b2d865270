use Rattle.std.proofs.Common.{◌≡◌, ◌≤◌, ◌^◌, w64, to_z, of_z, arith, subst, sym, refl, rules}
use Rattle.std.proofs.Math.IntN.{nat_abs}
use Rattle.std.proofs.lemmas.Int.{ints}
use Rattle.std.proofs.lemmas.Bool.{false≢true}
use Rattle.lrp_theory.specs.Divides.{IsLcm}
use Rattle.lrp_point.specs.Points.{IsLcmAbove}
use Rattle.lrp_limits.proofs.Multiples.{with_one, with_divisor, with_above, not_above}
use Rattle.lrp_limits.proofs.periods.Period.with.Goals as goal

pub returns-in-Ok : goal.returns-in-Ok
returns-in-Ok c = λ ks h.
    let k : nat_abs (to_z w64 c.args.self.number) ≡ c.args.self.number = omega (arith, ints) in
    let l : nat_abs (to_z w64 c.args.further) ≡ c.args.further = omega (arith, ints) in
    let r : to_z w64 (of_z w64 c.in-Ok.k) ≡ c.in-Ok.k = omega (arith, ints) in
    let is : IsLcm c.args.self.number c.args.further (nat_abs c.in-Ok.k) = subst (λ x. IsLcm c.args.self.number x (nat_abs c.in-Ok.k)) l (subst (λ x. IsLcm x (nat_abs (to_z w64 c.args.further)) (nat_abs c.in-Ok.k)) k c.in-Ok.ensures.ok.1) in
    let none : IsLcmAbove c.args.self.number c.args.further (2 ^ 62) → ⊥ = λ a. false≢true (c.in-Ok.ensures.limit.1 (subst (λ x. IsLcmAbove (nat_abs (to_z w64 c.args.self.number)) x (2 ^ 62)) (sym l) (subst (λ x. IsLcmAbove x c.args.further (2 ^ 62)) (sym k) a))) in
    with_one ks c.args.self.number c.args.further (nat_abs (to_z w64 (of_z w64 c.in-Ok.k))) h (omega arith)
    (subst (λ z. nat_abs z ≤ 2 ^ 62) (sym r) (not_above c.args.self.number c.args.further (nat_abs c.in-Ok.k) (2 ^ 62) is none))
    (subst (λ z. IsLcm c.args.self.number c.args.further (nat_abs z)) (sym r) is)

pub returns-in-Err : goal.returns-in-Err
returns-in-Err c = λ ks h.
    let k : nat_abs (to_z w64 c.args.self.number) ≡ c.args.self.number = omega (arith, ints) in
    let l : nat_abs (to_z w64 c.args.further) ≡ c.args.further = omega (arith, ints) in
    with_above ks c.args.self.number c.args.further h (omega arith)
    (subst (λ x. IsLcmAbove c.args.self.number x (2 ^ 62)) l (subst (λ x. IsLcmAbove x (nat_abs (to_z w64 c.args.further)) (2 ^ 62)) k (c.in-Err.ensures.limit.0 refl)))

pub returns-then-self-further-eq0 : goal.returns-then-self-further-eq0
returns-then-self-further-eq0 c = λ ks h. with_divisor ks c.args.self.number c.args.further h (omega arith) (search rules)
