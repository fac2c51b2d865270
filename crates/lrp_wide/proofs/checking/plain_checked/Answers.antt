use Rattle.lrp_model.specs.RawQueries.{raw_file_of, raw_question_of}
use Rattle.lrp_wide.proofs.PlainTexts.{plain_stays}
use Rattle.lrp_wide.proofs.SortAnswers.{rowless_plain}
use Rattle.lrp_wide.proofs.checking.plain_checked.Goals as goal

pub returns-then-is_plain-clause-tree : goal.returns-then-is_plain-clause-tree
returns-then-is_plain-clause-tree c =
    let holds = c.if-is_plain.true in
    plain_stays c.expansion_leaves_plain_queries.ensures c.args.file.definitions.items (raw_question_of c.args.file.query) (c.requires.operators holds) (c.requires.query holds)

pub returns-then-is_plain-clause-query : goal.returns-then-is_plain-clause-query
returns-then-is_plain-clause-query c = c.requires.query c.if-is_plain.true

pub returns-then-is_plain-clause-definitions : goal.returns-then-is_plain-clause-definitions
returns-then-is_plain-clause-definitions c = c.requires.operators c.if-is_plain.true

pub returns-then-is_plain-clause-fault : goal.returns-then-is_plain-clause-fault
returns-then-is_plain-clause-fault c =
    let holds = c.if-is_plain.true in
    c.requires.known holds (raw_file_of c.args.file)
    (plain_stays c.expansion_leaves_plain_queries.ensures c.args.file.definitions.items (raw_question_of c.args.file.query) (c.requires.operators holds) (c.requires.query holds))

pub own_fault-requires-clause-rowless : goal.own_fault-requires-clause-rowless
own_fault-requires-clause-rowless c = rowless_plain c.args.definitions.now (raw_file_of c.args.file) (raw_file_of c.in_ok-plain.plain) c.in_ok-plain.ensures.tree c.requires.rowless

pub returns-clause-fault : goal.returns-clause-fault
returns-clause-fault c = c.in_ok-own.ensures (raw_file_of c.args.file) c.in_ok-plain.ensures.tree
