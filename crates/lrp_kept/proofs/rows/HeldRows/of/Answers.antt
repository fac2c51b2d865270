use Rattle.std.proofs.Common.{arith}
use Rattle.lrp_kept.proofs.EmptyRows.{empty_of, none_yet, one_empty}
use Rattle.lrp_kept.proofs.rows.HeldRows.of.Goals as goal

pub loop-i-init : goal.loop-i-init
loop-i-init c = none_yet c.args.database.now c.new-relations.result.items c.new-relations.ensures.items

pub loop-i-preserved : goal.loop-i-preserved
loop-i-preserved c = one_empty c.args.database.now c.loop-i.i c.at.result.now c.loop-i.relations.items c.push.new.self.items c.in_ok-relation.relation c.at.ensures.value c.loop-i.invariant c.in_ok-relation.ensures c.in_ok-push.ensures.items

pub returns-clause-empty : goal.returns-clause-empty
returns-clause-empty c = empty_of c.args.database.now _ c.loop-i.i (omega (arith, c.loop-i-test.false, c.relations-i-end.ensures.len)) c.loop-i.invariant c.new.ensures.empty
