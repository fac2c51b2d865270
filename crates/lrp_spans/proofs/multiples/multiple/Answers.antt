-- The least common multiple divides the period, so it is not above the limit.
use Rattle.std.proofs.Common.{rules, ◌≡◌, ℕ, ◌<◌, ◌≤◌, ◌^◌, ap, arith, refl, subst, sym, w64}
use Rattle.std.specs.Prelude.{ℤ, nat_abs, pos}
use mir.Val.{SFits, of_z, to_z}
use Rattle.std.proofs.lemmas.Int.{to_z_pos, to_z-of_z}
use Rattle.lrp_theory.specs.Divides.{Divides, IsLcm}
use Rattle.lrp_point.specs.Points.{IsLcmAbove}
use Rattle.lrp_spans.proofs.Repeats.{divisor_le}
use Rattle.lrp_spans.proofs.multiples.multiple.Goals as goal

too_great : (x y one other period : ℕ) → x ≡ one → y ≡ other → 0 < period → period ≤ 2 ^ 62 → Divides (pos one) (pos period) → Divides (pos other) (pos period) → IsLcmAbove x y (2 ^ 62) → ⊥
too_great x y one other period e f low high d g a =
    let l : a.multiple ≤ period = divisor_le a.multiple period low (a.is.least period (subst (λ z. Divides (pos z) (pos period)) (sym e) d, (subst (λ z. Divides (pos z) (pos period)) (sym f) g, tt))) in
    let m : 2 ^ 62 < a.multiple = a.above in
    omega (arith, l, m, high)

-- the same multiple, of the numbers that were handed over and that came back
handed : (x y one other : ℕ) (k : ℤ) → x ≡ one → y ≡ other → SFits w64 k → IsLcm x y (nat_abs k) → IsLcm one other (nat_abs (to_z w64 (of_z w64 k)))
handed x y one other k e f fits h =
    subst (IsLcm one other) (sym (ap nat_abs (to_z-of_z w64 k fits))) (subst (λ a. IsLcm a other (nat_abs k)) e (subst (λ b. IsLcm x b (nat_abs k)) f h))

pub unreachable-requires : goal.unreachable-requires
unreachable-requires c = too_great _ _ c.args.one c.args.other c.args.period
    (ap nat_abs (to_z_pos w64 c.args.one (omega (arith, c.check_below.ensures, c.requires.high))))
    (ap nat_abs (to_z_pos w64 c.args.other (omega (arith, c.check_below-2.ensures, c.requires.high))))
    c.requires.low c.requires.high c.requires.one c.requires.other (c.in-Err.ensures.limit.0 refl)

pub returns-clause-multiple : goal.returns-clause-multiple
returns-clause-multiple c = handed _ _ c.args.one c.args.other c.in-Ok.least
    (ap nat_abs (to_z_pos w64 c.args.one (omega (arith, c.check_below.ensures, c.requires.high))))
    (ap nat_abs (to_z_pos w64 c.args.other (omega (arith, c.check_below-2.ensures, c.requires.high))))
    (search rules) c.in-Ok.ensures.ok.1
