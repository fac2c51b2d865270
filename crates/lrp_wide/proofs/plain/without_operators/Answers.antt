use Rattle.std.proofs.Common.{ap, sym}
use Rattle.lrp_model.specs.RawQueries.{RawQuestion, raw_definition_of, raw_form_of}
use Rattle.lrp_wide.proofs.plain.without_operators.Goals as goal

pub returns-then-is_plain-clause-tree : goal.returns-then-is_plain-clause-tree
returns-then-is_plain-clause-tree c =
    let d = raw_definition_of c.args.definition in
    let holds = c.if-is_plain.true in
    sym (ap (λ (q : RawQuestion). record d { body = q.body }) (c.expansion_leaves_plain_queries.ensures (record { head = d.columns; body = d.body }) (c.is_plain.ensures holds)))

pub returns-then-is_plain-clause-operators : goal.returns-then-is_plain-clause-operators
returns-then-is_plain-clause-operators c =
    let holds = c.if-is_plain.true in
    c.is_plain.ensures holds
