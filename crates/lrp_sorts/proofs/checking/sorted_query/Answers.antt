use Rattle.std.proofs.Common.{rules}
use Rattle.lrp_sorts.proofs.SortedQueries.{sorted_question, none_left}
use Rattle.lrp_sorts.proofs.checking.sorted_query.Goals as goal

pub returns-clause-query : goal.returns-clause-query
returns-clause-query c = search (rules, sorted_question)

pub returns-clause-plain : goal.returns-clause-plain
returns-clause-plain c = search (rules, none_left)
