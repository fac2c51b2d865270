use Rattle.std.proofs.Common.{ap, sym, ◌∙◌}
use Rattle.lrp_wide.specs.Settings.{name_under}
use Rattle.lrp_wide.proofs.InlineNames.{name-first, name-next, name-none}
use Rattle.lrp_wide.proofs.InlineTerms.{dropped}
use Rattle.lrp_wide.proofs.Results.{if_ok_then}
use Rattle.lrp_wide.proofs.uses.UseSetting.name.Goals as goal

pub returns-then-eq : goal.returns-then-eq
returns-then-eq c =
    let ps = c.in-Some.used.passed.now in
    let here = dropped ps c.loop-passed.passed-index c.passed-item.result c.loop-passed-test.true c.passed-item.is in
    if_ok_then c.copy-then-eq.result _ _ c.copy-then-eq.ensures (λ made h.
    h ∙ name-first ps c.loop-passed.passed-index c.passed-item.result c.in-Some.used.number c.args.name.now _ here (sym c.eq.ensures ∙ c.if-eq.true) c.loop-passed.invariant
    ∙ ap (λ o. name_under o c.args.name.now) (sym c.in-Some.is))

pub loop-passed-preserved : goal.loop-passed-preserved
loop-passed-preserved c =
    let ps = c.in-Some.used.passed.now in
    let here = dropped ps c.loop-passed.passed-index c.passed-item.result c.loop-passed-test.true c.passed-item.is in
    name-next ps c.loop-passed.passed-index c.passed-item.result c.in-Some.used.number c.args.name.now _ here (sym c.eq.ensures ∙ c.if-eq.false) c.loop-passed.invariant

pub returns : goal.returns
returns c =
    if_ok_then c.inner.result _ _ c.inner.ensures (λ made h.
    h ∙ name-none c.in-Some.used.passed.now c.loop-passed.passed-index c.in-Some.used.number c.args.name.now _ c.loop-passed-test.false c.loop-passed.invariant ∙ ap (λ o. name_under o c.args.name.now) (sym c.in-Some.is))
