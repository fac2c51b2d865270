use Rattle.std.proofs.Common.{◌++◌, sym, ap, ◌∙◌, append-nil}
use Rattle.lrp_core.proofs.Literal.{no_terms, terms_more}
use Rattle.lrp_core.proofs.literals.add_terms.Goals as goal

pub loop-i-init : goal.loop-i-init
loop-i-init c = sym (append-nil c.args.all.now.items) ∙ ap (λ ys. c.args.all.now.items ++ ys) (sym (no_terms c.args.columns.now))

pub loop-i-preserved : goal.loop-i-preserved
loop-i-preserved c = terms_more c.args.columns.now c.args.terms.now c.loop-i.i c.index-terms-i.result c.args.all.now.items c.loop-i.all.items c.add_at.new.all.items c.loop-i-test.true c.index-terms-i.is c.loop-i.invariant c.in_ok-add_at.ensures
