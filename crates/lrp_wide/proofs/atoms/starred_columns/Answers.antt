use Rattle.std.proofs.Common.{ap, sym, ◌∙◌, rules, tests}
use Rattle.lrp_model.specs.Rows.{columns_in, relation_named}
use Rattle.lrp_wide.proofs.NarrowTexts.{starred_by_none, starred_by_own}
use Rattle.lrp_wide.proofs.atoms.starred_columns.Goals as goal

pub returns-then-has_no_star : goal.returns-then-has_no_star
returns-then-has_no_star c = starred_by_none c.args.met.terms.now (columns_in (relation_named c.args.catalog.now c.args.met.name.now)) (c.has_no_star.ensures (search (rules, tests)))
