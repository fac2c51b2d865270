-- What starts a period after the end of the other one.
use Rattle.std.proofs.Common.{◌≡◌, ◌+◌, ◌≤◌, ◌^◌, Some, subst, to_z, of_z, w64}
use Rattle.std.specs.Prelude.{pos, nat_abs, ◌+ℤ◌, IfNone, IfSome}
use Rattle.lrp_cutting.specs.Gaps.{IsGreaterOf, IsReversed}
use Rattle.lrp_cutting.proofs.GapLaws.{first_is, more_word, some_above, word_is}
use Rattle.lrp_cutting.proofs.gaps.above.Goals as goal

pub returns : goal.returns
returns c = λ z k low vi wi.
    let room : nat_abs c.in-Some.most + nat_abs c.args.period ≤ 2 ^ 62 = subst (λ o. IfSome o (λ most. nat_abs most + nat_abs c.args.period ≤ 2 ^ 62)) c.in-Some.is c.requires in
    let s : IsGreaterOf c.args.whole.least (c.in-Some.most +ℤ pos z.period) c.later.result = subst (λ y. IsGreaterOf c.args.whole.least y c.later.result) (more_word c.in-Some.most c.args.period z.period k room) c.later.ensures in
    let t : to_z w64 (of_z w64 c.later.result) ≡ c.later.result = word_is c.later.result (first_is z c.args.whole c.args.cut low vi wi c.in-Some.most c.later.result c.in-Some.is s).1 in
    some_above z c.args.whole c.args.cut low vi wi c.in-Some.most c.later.result c.in-Some.is s c.ordered.result
    (subst (λ y. IfNone c.ordered.result (IsReversed (record { least = Some y; most = c.args.whole.most }))) t c.ordered.ensures.none)
    (subst (λ y. IfSome c.ordered.result (λ u. (u ≡ record { least = Some y; most = c.args.whole.most }) × (IsReversed (record { least = Some y; most = c.args.whole.most }) → ⊥))) t c.ordered.ensures.some)
