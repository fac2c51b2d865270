-- Spans, and ranges that have no number of them.
use Rattle.std.proofs.Common.{◌≡◌, ℕ, ◌+◌, ◌-◌, ◌<◌, ◌≤◌, inl, inr, arith}
use Rattle.std.specs.Prelude.{ℤ, pos, neg_ℤ, nat_abs, ◌+ℤ◌, ◌-ℤ◌, ◌≤ℤ◌, ◌<ℤ◌}
use Rattle.std.specs.Int.{int_rem_euclid}
use Rattle.std.proofs.lemmas.Bool.{cases_lt}
use Rattle.std.proofs.lemmas.Int.{ints}
use Rattle.lrp_theory.specs.Divides.{Divides}
use Rattle.lrp_theory.proofs.Modulo.{Divides-+, Divides--, Divides-is, Divides-neg, Divides-self, Divides-zero, rem_divides, multiple_below}
use Rattle.lrp_systems.specs.Windows.{IsInResidueWindow}
use Rattle.lrp_systems.specs.declared.window.ResidueWindow.{ResidueWindow}
use Rattle.lrp_hulls.specs.Spans.{HasResidueAmong}

-- the way up from a start to a residue before it, and to one after it
pub way_before : (start residue step : ℕ) → start < step → Divides (pos step) (pos residue -ℤ pos (start + (residue + step - start)))
way_before start residue step low = Divides-is (pos step) (neg_ℤ (pos step)) _ (omega (arith, ints)) (Divides-neg (pos step) _ (Divides-self (pos step)))

pub way_after : (start residue step : ℕ) → start ≤ residue → Divides (pos step) (pos residue -ℤ pos (start + (residue - start)))
way_after start residue step low = Divides-is (pos step) (pos 0) _ (omega (arith, ints)) (Divides-zero (pos step))

-- a window has no number of these residues where the way from its start to the first of them is longer than it is wide, and the way from there to its start is longer than they are many
pub none_among : (w : ResidueWindow) (at up way : ℕ) (first last x : ℤ) → pos at ≡ int_rem_euclid first (pos w.step) → up < w.step → Divides (pos w.step) (pos at -ℤ pos (w.start + up)) → w.width < up → way < w.step → Divides (pos w.step) (pos w.start -ℤ pos (at + way)) → (last -ℤ first) <ℤ pos way
    → IsInResidueWindow w x → HasResidueAmong w.step first last x → ⊥
none_among w at up way first last x is below reached far small turned short h r =
    let over : ℕ = h.over in
    let near : over ≤ w.width = h.near in
    let y : ℤ = r.r in
    let rl : first ≤ℤ y = r.low in
    let rh : y ≤ℤ last = r.high in
    let f : Divides (pos w.step) (first -ℤ pos at) = rem_divides (pos w.step) first (pos at) (omega (arith, ints)) is in
    let d1 : Divides (pos w.step) (((y -ℤ first) +ℤ pos up) -ℤ pos over) =
    Divides-is (pos w.step) ((((x -ℤ pos (w.start + over)) -ℤ (x -ℤ y)) -ℤ (first -ℤ pos at)) -ℤ (pos at -ℤ pos (w.start + up))) _ (omega (arith, ints))
    (Divides-- (pos w.step) _ _ (Divides-- (pos w.step) _ _ (Divides-- (pos w.step) _ _ h.is r.same) f) reached) in
    let d2 : Divides (pos w.step) ((pos way +ℤ pos over) -ℤ (y -ℤ first)) =
    Divides-is (pos w.step) (neg_ℤ ((((pos w.start -ℤ pos (at + way)) +ℤ (pos at -ℤ pos (w.start + up)))) +ℤ (((y -ℤ first) +ℤ pos up) -ℤ pos over))) _ (omega (arith, ints))
    (Divides-neg (pos w.step) _ (Divides-+ (pos w.step) _ _ (Divides-+ (pos w.step) _ _ turned reached) d1)) in
    elim (cases_lt (nat_abs (((y -ℤ first) +ℤ pos up) -ℤ pos over)) w.step) [
      | inl less ↦ (let n : (((y -ℤ first) +ℤ pos up) -ℤ pos over) ≤ℤ pos 0 = multiple_below (pos w.step) (((y -ℤ first) +ℤ pos up) -ℤ pos over) d1 (omega (arith, ints)) (omega (arith, ints)) in absurd (omega (arith, ints)))
      | inr more ↦ (let n : ((pos way +ℤ pos over) -ℤ (y -ℤ first)) ≤ℤ pos 0 = multiple_below (pos w.step) ((pos way +ℤ pos over) -ℤ (y -ℤ first)) d2 (omega (arith, ints)) (omega (arith, ints)) in absurd (omega (arith, ints)))
    ]
