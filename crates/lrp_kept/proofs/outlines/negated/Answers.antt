use Rattle.std.proofs.Common.{SFits, sym, subst, to_z, of_z, rules}
use Rattle.std.specs.Int.{w64}
use Rattle.std.specs.Prelude.{pos, ◌-ℤ◌, ◌≤ℤ◌}
use Rattle.std.proofs.lemmas.Int.{to_z-of_z}
use Rattle.lrp_kept.specs.Spans.{IsAtMost}
use Rattle.lrp_kept.proofs.Outlined.{negated_is}
use Rattle.lrp_kept.proofs.outlines.negated.Goals as goal

pub returns-in-Some : goal.returns-in-Some
returns-in-Some c = λ x l.
    let fits : SFits w64 c.in-Some.most = search rules in
    negated_is c.checked_neg.result _ (to_z w64 (of_z w64 c.in-Some.most)) x c.checked_neg.ensures (subst (λ k. (pos 0 -ℤ x) ≤ℤ k) (sym (to_z-of_z w64 c.in-Some.most fits)) (subst (λ o. IsAtMost o (pos 0 -ℤ x)) c.in-Some.is l))
