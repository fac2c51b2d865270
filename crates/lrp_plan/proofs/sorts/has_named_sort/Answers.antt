use Rattle.std.proofs.Common.{arith}
use Rattle.lrp_plan.proofs.NamedSorts.{one_names, none_names, no_names}
use Rattle.lrp_plan.proofs.sorts.has_named_sort.Goals as goal

pub returns-then-names_sort : goal.returns-then-names_sort
returns-then-names_sort c = one_names c.args.database.now c.loop-i.i c.at.result.now c.names_sort.result c.at.ensures.value c.names_sort.ensures c.if-names_sort.true

pub loop-i-preserved : goal.loop-i-preserved
loop-i-preserved c = none_names c.args.database.now c.loop-i.i c.at.result.now c.names_sort.result c.at.ensures.value c.names_sort.ensures c.if-names_sort.false c.loop-i.invariant

pub returns : goal.returns
returns c = no_names c.args.database.now c.loop-i.i (omega (arith, c.relations-i-end.ensures.len, c.loop-i-test.false)) c.loop-i.invariant
