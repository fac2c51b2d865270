use Rattle.lrp_core.proofs.Literal.{no_terms, still_none}
use Rattle.lrp_core.proofs.literals.has_text.Goals as goal

pub loop-term-init : goal.loop-term-init
loop-term-init c = λ columns. no_terms columns

pub loop-term-preserved : goal.loop-term-preserved
loop-term-preserved c = λ columns. still_none columns c.args.terms.now c.loop-term.term-index c.term-item.result c.loop-term-test.true c.term-item.is (c.is_text.ensures (c.if-is_text.false)) (c.loop-term.invariant columns)
