-- Term after term.
use Rattle.std.proofs.Common.{◌++◌, ◌∙◌, ap, sym, append-nil}
use Rattle.std.specs.Prelude.{flat_map}
use Rattle.lrp_lint.specs.Mentions.{mention_findings}
use Rattle.lrp_lint.proofs.Mentioned.{no_terms, terms_more}
use Rattle.lrp_lint.proofs.queries.add_terms.Goals as goal

pub loop-i-init : goal.loop-i-init
loop-i-init c = sym (append-nil c.args.found.now.items) ∙ ap (λ ms. c.args.found.now.items ++ flat_map (mention_findings c.args.catalog.now) ms) (sym (no_terms c.args.columns.now))

pub loop-i-preserved : goal.loop-i-preserved
loop-i-preserved c = terms_more c.args.catalog.now c.args.columns.now c.args.terms.now c.loop-i.i c.index-terms-i.result c.args.found.now.items c.loop-i.found.items c.add_term_at.new.found.items c.loop-i-test.true c.index-terms-i.is c.loop-i.invariant c.in_ok-add_term_at.ensures
