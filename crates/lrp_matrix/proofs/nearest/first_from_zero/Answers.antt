use Rattle.std.proofs.Common.{arith, refl, subst, ◌≡◌, ℤ, pos, ◌≤ℤ◌, ◌<ℤ◌, ◌+ℤ◌, Option, Some, None}
use Rattle.std.proofs.lemmas.Int.{ints}
use Rattle.lrp_theory.specs.Bounds.{Within}
use Rattle.lrp_matrix.proofs.NearestLemmas.{none_from_zero, first_from_zero, rest_is}
use Rattle.lrp_matrix.proofs.nearest.first_from_zero.Goals as goal

past : (x b : ℤ) (e : Option ℤ) → e ≡ Some b → b <ℤ x → Within x e → ⊥
past x b e f h w = let v : Within x (Some b) = subst (λ g. Within x g) f w in absurd (omega (arith, ints))

kept : (x b : ℤ) (e : Option ℤ) → e ≡ Some b → x ≤ℤ b → Within x e
kept x b e f h = rw f h

open_end : (x : ℤ) (e : Option ℤ) → e ≡ None → Within x e
open_end x e f = rw f tt

pub returns-in-Some-clause-none : goal.returns-in-Some-clause-none
returns-in-Some-clause-none c =
    let rest = rest_is (pos c.args.residue) c.start_from_zero-start.result (pos c.args.period) c.rem_euclid.result _ _ c.rem_euclid.ensures.value (omega (arith, ints)) (omega (arith, ints)) in
    none_from_zero c.args.least c.args.most (pos c.args.period) (pos c.args.residue) c.start_from_zero-start.result c.rem_euclid.result
    (c.start_from_zero-start.result +ℤ c.rem_euclid.result) (omega (arith, ints)) c.start_from_zero-start.ensures.start rest refl
    (past _ c.in-Some.b _ c.in-Some.is (omega (arith, ints)))

pub returns-in_default-clause-some : goal.returns-in_default-clause-some
returns-in_default-clause-some c =
    let rest = rest_is (pos c.args.residue) c.start_from_zero-start.result (pos c.args.period) c.rem_euclid.result _ _ c.rem_euclid.ensures.value (omega (arith, ints)) (omega (arith, ints)) in
    first_from_zero c.args.least c.args.most (pos c.args.period) (pos c.args.residue) c.start_from_zero-start.result c.rem_euclid.result
    _ (omega (arith, ints)) c.start_from_zero-start.ensures.start rest (omega (arith, ints))
    (kept _ c.in-Some.b _ c.in-Some.is (omega (arith, ints)))

pub returns-in_default-2-clause-some : goal.returns-in_default-2-clause-some
returns-in_default-2-clause-some c =
    let rest = rest_is (pos c.args.residue) c.start_from_zero-start.result (pos c.args.period) c.rem_euclid.result _ _ c.rem_euclid.ensures.value (omega (arith, ints)) (omega (arith, ints)) in
    first_from_zero c.args.least c.args.most (pos c.args.period) (pos c.args.residue) c.start_from_zero-start.result c.rem_euclid.result
    _ (omega (arith, ints)) c.start_from_zero-start.ensures.start rest (omega (arith, ints))
    (open_end _ _ c.in_default.is)
