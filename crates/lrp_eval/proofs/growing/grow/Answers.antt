-- The left table is taken out, and the right one is as it was.
use Rattle.lrp_eval.proofs.GrowingLaws.{as_many, right_operand}
use Rattle.lrp_eval.proofs.Nexts.{within}
use Rattle.lrp_eval.proofs.Reading.{earlier, worded}
use Rattle.lrp_eval.proofs.UnionLaws.{can_unite, union_ran}
use Rattle.lrp_eval.proofs.growing.grow.Goals as goal

pub taken_out-left-requires-clause-low : goal.taken_out-left-requires-clause-low
taken_out-left-requires-clause-low c = (earlier c.requires.is).0.0

pub taken_out-left-requires-clause-high : goal.taken_out-left-requires-clause-high
taken_out-left-requires-clause-high c = within c.requires.is _ (earlier c.requires.is).0

pub operand-right-requires-clause-low : goal.operand-right-requires-clause-low
operand-right-requires-clause-low c = (earlier c.requires.is).1.0.0

pub operand-right-requires-clause-high : goal.operand-right-requires-clause-high
operand-right-requires-clause-high c = as_many c.args.growth.left c.args.growth.right c.args.tables.now _ c.as_slice.ensures c.taken_out-left.ensures.left (within c.requires.is _ (earlier c.requires.is).1.0)

pub unite-requires : goal.unite-requires
unite-requires c = can_unite (worded c.requires.is) c.taken_out-left.ensures.taken (right_operand c.requires c.taken_out-left.ensures.left c.as_slice.ensures c.operand-right.ensures)

pub returns-clause-run : goal.returns-clause-run
returns-clause-run c = λ planned db q n. union_ran (worded n) c.taken_out-left.ensures.taken (right_operand c.requires c.taken_out-left.ensures.left c.as_slice.ensures c.operand-right.ensures) c.unite.result c.unite.ensures

pub returns-clause-left : goal.returns-clause-left
returns-clause-left c = c.taken_out-left.ensures.left
