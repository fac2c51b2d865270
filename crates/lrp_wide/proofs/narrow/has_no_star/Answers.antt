use Rattle.std.proofs.Common.{subst, rules, tests}
use Rattle.std.specs.List.{AllByRecursion}
use Rattle.std.proofs.lemmas.List.{take_all}
use Rattle.lrp_wide.specs.Narrow.{HasNoStar}
use Rattle.lrp_wide.proofs.NarrowTexts.{all_more}
use Rattle.lrp_wide.proofs.narrow.has_no_star.Goals as goal

pub loop-term-preserved : goal.loop-term-preserved
loop-term-preserved c = all_more HasNoStar c.args.terms.now c.loop-term.term-index c.term-item.result c.loop-term-test.true c.term-item.is c.loop-term.invariant (search (rules, tests))

pub returns : goal.returns
returns c = λ h. subst (AllByRecursion HasNoStar) (take_all c.loop-term.term-index c.args.terms.now c.loop-term-test.false) c.loop-term.invariant
