use Rattle.std.proofs.Common.{arith, refl, subst, ◌≡◌, ℤ, pos, ◌≤ℤ◌, ◌<ℤ◌, ◌-ℤ◌, Option, Some, None}
use Rattle.std.proofs.lemmas.Int.{ints}
use Rattle.lrp_matrix.specs.Ranges.{Above}
use Rattle.lrp_matrix.proofs.NearestLemmas.{none_below_zero, last_below_zero, rest_is}
use Rattle.lrp_matrix.proofs.nearest.last_below_zero.Goals as goal

past : (x a : ℤ) (e : Option ℤ) → e ≡ Some a → x <ℤ a → Above x e → ⊥
past x a e f h w = let v : Above x (Some a) = subst (λ g. Above x g) f w in absurd (omega (arith, ints))

kept : (x a : ℤ) (e : Option ℤ) → e ≡ Some a → a ≤ℤ x → Above x e
kept x a e f h = rw f h

open_end : (x : ℤ) (e : Option ℤ) → e ≡ None → Above x e
open_end x e f = rw f tt

pub returns-in-Some-clause-none : goal.returns-in-Some-clause-none
returns-in-Some-clause-none c =
    let rest = rest_is c.start_below_zero-start.result (pos c.args.residue) (pos c.args.period) c.rem_euclid.result _ _ c.rem_euclid.ensures.value (omega (arith, ints)) (omega (arith, ints)) in
    none_below_zero c.args.least c.args.most (pos c.args.period) (pos c.args.residue) c.start_below_zero-start.result c.rem_euclid.result
    (c.start_below_zero-start.result -ℤ c.rem_euclid.result) (omega (arith, ints)) c.start_below_zero-start.ensures.start rest refl
    (past _ c.in-Some.a _ c.in-Some.is (omega (arith, ints)))

pub returns-in_default-clause-some : goal.returns-in_default-clause-some
returns-in_default-clause-some c =
    let rest = rest_is c.start_below_zero-start.result (pos c.args.residue) (pos c.args.period) c.rem_euclid.result _ _ c.rem_euclid.ensures.value (omega (arith, ints)) (omega (arith, ints)) in
    last_below_zero c.args.least c.args.most (pos c.args.period) (pos c.args.residue) c.start_below_zero-start.result c.rem_euclid.result
    _ (omega (arith, ints)) c.start_below_zero-start.ensures.start rest (omega (arith, ints))
    (kept _ c.in-Some.a _ c.in-Some.is (omega (arith, ints)))

pub returns-in_default-2-clause-some : goal.returns-in_default-2-clause-some
returns-in_default-2-clause-some c =
    let rest = rest_is c.start_below_zero-start.result (pos c.args.residue) (pos c.args.period) c.rem_euclid.result _ _ c.rem_euclid.ensures.value (omega (arith, ints)) (omega (arith, ints)) in
    last_below_zero c.args.least c.args.most (pos c.args.period) (pos c.args.residue) c.start_below_zero-start.result c.rem_euclid.result
    _ (omega (arith, ints)) c.start_below_zero-start.ensures.start rest (omega (arith, ints))
    (open_end _ _ c.in_default.is)
