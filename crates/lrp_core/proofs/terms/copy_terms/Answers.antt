use Rattle.std.proofs.Common.{◌≡◌, ◌∷◌, [], ◌++◌, ap, ap₂, sym, ◌∙◌}
use Rattle.lrp_core.proofs.Said.{said_more}
use Rattle.lrp_core.proofs.terms.copy_terms.Goals as goal

pub loop-term-preserved : goal.loop-term-preserved
loop-term-preserved c =
    c.in_ok-push.ensures.items ∙ ap₂ (λ made t. made ++ t ∷ []) c.loop-term.invariant c.in_ok-said.ensures ∙ sym (said_more c.args.terms.now c.loop-term.term-index c.term-item.result c.loop-term-test.true c.term-item.is)
