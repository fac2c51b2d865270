-- The time at the place is in the spans of both.
use Rattle.std.proofs.Common.{◌<◌, SFits, arith, get_or, rules, subst, sym}
use Rattle.std.specs.Int.{w64}
use Rattle.std.specs.Prelude.{◌+ℤ◌}
use Rattle.std.proofs.lemmas.Int.{to_z-of_z}
use Rattle.std.proofs.lemmas.Option.{slice_get-get_or}
use Rattle.lrp_kept.specs.Spans.{IsAtLeast}
use Rattle.lrp_kept.proofs.passing.TwoSpans.least_at.Goals as goal

pub returns : goal.returns
returns c = λ xs own other.
    let fits : SFits w64 c.args.plus = search rules in
    subst (λ p. IsAtLeast c.least_sum.result (xs c.args.place +ℤ p)) (to_z-of_z w64 c.args.plus fits)
    (c.least_sum.ensures (xs c.args.place) (c.both_least-least.ensures (xs c.args.place)
    (own.each c.args.place (get_or c.args.self.now.own.now c.args.place c.index-self-place.result)
    (slice_get-get_or c.args.self.now.own.now c.args.place c.index-self-place.result (subst (λ n. c.args.place < n) (sym c.requires.own) (omega (arith, c.if-place-ge8.false))))).least
    (other.each c.args.place (get_or c.args.self.now.other.now c.args.place c.index-self-place-2.result)
    (slice_get-get_or c.args.self.now.other.now c.args.place c.index-self-place-2.result (subst (λ n. c.args.place < n) (sym c.requires.other) (omega (arith, c.if-place-ge8.false))))).least))
