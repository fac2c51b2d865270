-- The period divides that of the point.
use Rattle.std.proofs.Common.{◌≡◌, ◌%◌, SFits, to_z, of_z, ap, subst, ◌∙◌, arith, rules}
use Rattle.std.specs.Int.{w64}
use Rattle.std.specs.Prelude.{unsigned_abs}
use Rattle.std.proofs.lemmas.Int.{to_z-of_z}
use Rattle.lrp_kept.proofs.Spanning.{point_residue}
use Rattle.lrp_kept.proofs.spans.residue_in.Goals as goal

pub returns : goal.returns
returns c = λ x h.
    let offset : SFits w64 c.offset.result = search rules in
    let period : SFits w64 c.period.result = search rules in
    let whole : c.unsigned_abs.result ≡ c.args.point.now.period = c.unsigned_abs.ensures.value ∙ ap unsigned_abs (to_z-of_z w64 c.period.result period ∙ c.period.ensures.value) in
    let rest : c.unsigned_abs.result % c.args.period ≡ 0 = omega (arith, c.if-unsigned_abs-period-ne0.false, c.requires.low) in
    point_residue c.args.point.now c.args.period c.requires.low (subst (λ n. n % c.args.period ≡ 0) whole rest) c.remainder.result (to_z w64 (of_z w64 c.offset.result)) c.remainder.ensures.value (to_z-of_z w64 c.offset.result offset ∙ c.offset.ensures.value) x h
