use Rattle.std.proofs.Common.{ap, sym, ◌∙◌, rules, tests}
use Rattle.lrp_model.specs.Rows.{columns_in, relation_named}
use Rattle.lrp_wide.specs.Inlining.{star_total}
use Rattle.lrp_wide.proofs.NarrowTexts.{no_total}
use Rattle.lrp_wide.proofs.measures.stars_of.Goals as goal

pub returns-then-has_no_star : goal.returns-then-has_no_star
returns-then-has_no_star c = sym (no_total (columns_in (relation_named c.args.definitions.now.relations c.args.name.now)) c.args.terms.now (c.has_no_star.ensures (search (rules, tests))))

pub returns : goal.returns
returns c = c.terms_of.ensures.stars ∙ ap (λ cs. star_total cs c.args.terms.now) c.columns_of.ensures
