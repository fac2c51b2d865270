-- The rows of all groups are those of the canonical answer.
use Rattle.std.proofs.Common.{arith}
use Rattle.lrp_canon.proofs.CanonLaws.{count_if, more_if}
use Rattle.lrp_canon.proofs.GroupEnds.{groups_repeat}
use Rattle.lrp_canon.proofs.answers.canonical_rows.Goals as goal

pub rows_of-requires-clause-groups : goal.rows_of-requires-clause-groups
rows_of-requires-clause-groups c = groups_repeat c.args.answer.now.store c.in_ok-groups.ensures.valid c.requires.column c.requires.reach c.in_ok-groups.groups.lists c.in_ok-groups.ensures.groups c.in_ok-periods.periods c.in_ok-periods.ensures.whole c.in_ok-periods.ensures.least

pub returns-clause-some : goal.returns-clause-some
returns-clause-some c = count_if c.args.answer.now.store c.in_ok-groups.ensures.valid c.requires.column c.in_ok-groups.groups.lists c.in_ok-groups.ensures.groups c.in_ok-periods.periods c.in_ok-periods.ensures.whole c.in_ok-periods.ensures.least c.in_ok-rows.rows c.in_ok-rows.ensures c.args.most (omega (arith, c.ranges.most.fits)) c.at_most.result c.at_most.ensures.some

pub returns-clause-none : goal.returns-clause-none
returns-clause-none c = more_if c.args.answer.now.store c.in_ok-groups.ensures.valid c.requires.column c.in_ok-groups.groups.lists c.in_ok-groups.ensures.groups c.in_ok-periods.periods c.in_ok-periods.ensures.whole c.in_ok-periods.ensures.least c.in_ok-rows.rows c.in_ok-rows.ensures c.args.most c.at_most.result c.at_most.ensures.none
