use Rattle.std.proofs.Common.{sym}
use Rattle.lrp_model.specs.RawQueries.{raw_form_of, raw_question_of}
use Rattle.lrp_wide.proofs.plain.query_without_operators.Goals as goal

pub returns-then-is_plain-clause-tree : goal.returns-then-is_plain-clause-tree
returns-then-is_plain-clause-tree c =
    let q = raw_question_of c.args.query in
    let holds = c.if-is_plain.true in
    sym (c.expansion_leaves_plain_queries.ensures q (c.is_plain.ensures holds))

pub returns-then-is_plain-clause-operators : goal.returns-then-is_plain-clause-operators
returns-then-is_plain-clause-operators c =
    let holds = c.if-is_plain.true in
    c.is_plain.ensures holds
