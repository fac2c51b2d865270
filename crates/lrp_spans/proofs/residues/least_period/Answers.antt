-- The shift by the fewest places gives the least step.
use Rattle.std.proofs.Common.{◌≡◌, ◌+◌, ◌-◌, ◌<◌, ℕ, arith, length, slice_index_or}
use Rattle.lrp_spans.specs.Repeating.{IsShift}
use Rattle.lrp_spans.proofs.Shifts.{first_more, none_repeat, period_is_least, shift_is_least}
use Rattle.lrp_spans.proofs.residues.least_period.Goals.{else-count-places-eq0-via-then-count-places-eq0+else-moves, else-count-places-eq0-via-else-count-places-eq0}
use Rattle.lrp_spans.proofs.residues.least_period.Goals as goal

pub returns-then-count-eq0 : goal.returns-then-count-eq0
returns-then-count-eq0 c = none_repeat c.args.period c.args.residues.now (omega (arith, c.if-count-eq0.true))

pub returns-then-moves : goal.returns-then-moves
returns-then-moves c =
    let p : ℕ = c.loop-places.places in
    let high : p < length c.args.residues.now = omega (arith, c.loop-places-test.true, c.loop-places.auto.places-end) in
    let low : 0 < p = omega (arith, c.loop-places.auto.places) in
    let rise : slice_index_or c.args.residues.now 0 0 < slice_index_or c.args.residues.now p 0 = c.requires.residues.ascending 0 p 0 low high in
    shift_is_least c.args.period c.args.residues.now c.requires.residues (omega (arith, high)) p _ low high
    (record { divides = c.if-count-places-eq0.true; each = c.moves.ensures.0 c.if-moves.true })
    (let e : slice_index_or c.args.residues.now p 0 - slice_index_or c.args.residues.now 0 0 + slice_index_or c.args.residues.now 0 0 ≡ slice_index_or c.args.residues.now p 0 = omega (arith, rise) in e)
    c.loop-places.invariant

pub loop-places-preserved : goal.loop-places-preserved
loop-places-preserved c = λ q low l s. first_more (λ k. 0 < k → IsShift c.args.period c.args.residues.now k → ⊥) c.loop-places.places
    (λ k kl kp. c.loop-places.invariant k kp kl)
    (λ kp k. elim c.else-count-places-eq0.branch [
      | else-count-places-eq0-via-then-count-places-eq0+else-moves w ↦ cc (w.moves.ensures.1 k.each, w.if-moves.false)
      | else-count-places-eq0-via-else-count-places-eq0 w ↦ w.if-count-places-eq0.false k.divides
    ]) q l low s

pub returns : goal.returns
returns c = period_is_least c.args.period c.args.residues.now c.requires.residues (omega (arith, c.if-count-eq0.false))
    (λ q low l. c.loop-places.invariant q low (omega (arith, l, c.loop-places-test.false, c.loop-places.auto.places-end)))
