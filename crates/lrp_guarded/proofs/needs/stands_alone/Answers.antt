use Rattle.std.proofs.Common.{sym, ◌∙◌}
use Rattle.lrp_guarded.specs.Needs.{sort_element}
use Rattle.lrp_guarded.proofs.Left.{alone_past}
use Rattle.lrp_guarded.proofs.needs.stands_alone.Goals as goal

pub returns : goal.returns
returns c = sym (alone_past (sort_element c.args.element) c.args.columns.now c.args.terms.now c.loop-i.i c.loop-i-test.false) ∙ c.loop-i.invariant
