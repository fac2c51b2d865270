use Rattle.std.proofs.Common.{SFits, sym, subst, rules}
use Rattle.std.specs.Int.{w64}
use Rattle.std.specs.Prelude.{◌≤ℤ◌}
use Rattle.std.proofs.lemmas.Int.{to_z-of_z}
use Rattle.lrp_kept.specs.Spans.{IsAtMost}
use Rattle.lrp_kept.proofs.spans.both_most.Goals as goal

pub returns-in-Some : goal.returns-in-Some
returns-in-Some c = λ x h g.
    let fits : SFits w64 c.in-Some.further = search rules in
    c.lowered.ensures x h (subst (λ k. x ≤ℤ k) (sym (to_z-of_z w64 c.in-Some.further fits)) (subst (λ o. IsAtMost o x) c.in-Some.is g))
