-- Relation after relation.
use Rattle.std.proofs.Common.{◌≤◌, arith, length, subst, sym, []}
use Rattle.lrp_lint.specs.Listed.{FindsMore, IsRowFinding, row_order}
use Rattle.lrp_lint.proofs.Found.{FoundAmong, relations_all, relations_more, relations_none}
use Rattle.lrp_lint.proofs.Ordered.{listed_as}
use Rattle.lrp_lint.proofs.rows.row_findings.Goals as goal

pub loop-i-init : goal.loop-i-init
loop-i-init c = subst (FindsMore (FoundAmong c.args.database.now 0) []) (sym c.new-found.ensures.items) (relations_none c.args.database.now)

pub loop-i-preserved : goal.loop-i-preserved
loop-i-preserved c = relations_more c.args.database.now c.loop-i.i c.at.result.now [] c.loop-i.found.items c.add_relation.new.found.items c.at.ensures.value c.loop-i.invariant c.in_ok-add_relation.ensures

pub returns : goal.returns
returns c =
    let all : length c.args.database.now ≤ c.loop-i.i = omega (arith, c.loop-i-test.false, c.relations-i-end.ensures.len) in
    listed_as row_order (IsRowFinding c.args.database.now) c.loop-i.found.items c.rows_in_order.result c.rows_in_order.ensures (relations_all c.args.database.now c.loop-i.i c.loop-i.found.items all c.loop-i.invariant)
