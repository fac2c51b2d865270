-- What ends a period before the other one starts.
use Rattle.std.proofs.Common.{◌≡◌, ◌+◌, ◌≤◌, ◌^◌, Some, subst, to_z, of_z, w64}
use Rattle.std.specs.Prelude.{pos, nat_abs, ◌-ℤ◌, IfNone, IfSome}
use Rattle.lrp_cutting.specs.Gaps.{IsReversed, IsLesserOf}
use Rattle.lrp_cutting.proofs.GapLaws.{end_is, less_word, some_below, word_is}
use Rattle.lrp_cutting.proofs.gaps.below.Goals as goal

pub returns : goal.returns
returns c = λ z k low vi wi.
    let room : nat_abs c.in-Some.least + nat_abs c.args.period ≤ 2 ^ 62 = subst (λ o. IfSome o (λ least. nat_abs least + nat_abs c.args.period ≤ 2 ^ 62)) c.in-Some.is c.requires in
    let s : IsLesserOf c.args.whole.most (c.in-Some.least -ℤ pos z.period) c.sooner.result = subst (λ y. IsLesserOf c.args.whole.most y c.sooner.result) (less_word c.in-Some.least c.args.period z.period k room) c.sooner.ensures in
    let t : to_z w64 (of_z w64 c.sooner.result) ≡ c.sooner.result = word_is c.sooner.result (end_is z c.args.whole c.args.cut low vi wi c.in-Some.least c.sooner.result c.in-Some.is s).1 in
    some_below z c.args.whole c.args.cut low vi wi c.in-Some.least c.sooner.result c.in-Some.is s c.ordered.result
    (subst (λ y. IfNone c.ordered.result (IsReversed (record { least = c.args.whole.least; most = Some y }))) t c.ordered.ensures.none)
    (subst (λ y. IfSome c.ordered.result (λ u. (u ≡ record { least = c.args.whole.least; most = Some y }) × (IsReversed (record { least = c.args.whole.least; most = Some y }) → ⊥))) t c.ordered.ensures.some)
