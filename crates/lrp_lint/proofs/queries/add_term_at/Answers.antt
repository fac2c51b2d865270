-- A column is there, or none.
use Rattle.std.proofs.Common.{◌≤◌, ◌++◌, [], ◌∷◌, ◌∙◌, ap, append-nil, sym, arith, length}
use Rattle.std.specs.Prelude.{flat_map}
use Rattle.lrp_lint.specs.Mentions.{mention_findings, mention_of, term_mentions}
use Rattle.lrp_model.specs.declared.relations.Column.{Column}
use Rattle.lrp_lint.proofs.Mentioned.{one_term}
use Rattle.lrp_lint.proofs.TextSets.{column_past, column_there}
use Rattle.lrp_lint.proofs.Walked.{then_ok}
use Rattle.lrp_lint.proofs.queries.add_term_at.Goals as goal

pub returns-then-i-columns : goal.returns-then-i-columns
returns-then-i-columns c =
    then_ok c.add_term.result _ _ c.add_term.ensures (λ h.
    h ∙ ap (λ (k : Column). c.args.found.now.items ++ flat_map (mention_findings c.args.catalog.now) (mention_of c.args.term.now.place c.args.term.now.kind k.sort)) (sym c.index-columns-i.is)
    ∙ ap (λ ms. c.args.found.now.items ++ flat_map (mention_findings c.args.catalog.now) ms)
    (sym (one_term c.index-columns-i.result c.args.term.now) ∙ ap (λ cs. term_mentions cs (c.args.term.now ∷ [])) (sym (column_there c.args.columns.now c.args.i c.index-columns-i.result c.if-i-columns.true c.index-columns-i.is))))

pub returns : goal.returns
returns c =
    let high : length c.args.columns.now ≤ c.args.i = omega (arith, c.if-i-columns.false) in
    sym (append-nil c.args.found.now.items) ∙ ap (λ cs. c.args.found.now.items ++ flat_map (mention_findings c.args.catalog.now) (term_mentions cs (c.args.term.now ∷ []))) (sym (column_past c.args.columns.now c.args.i high))
