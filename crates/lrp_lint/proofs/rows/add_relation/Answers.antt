-- Row after row.
use Rattle.std.proofs.Common.{◌≤◌, arith, length, subst, sym}
use Rattle.lrp_model.specs.Sorts.{time_count}
use Rattle.lrp_lint.proofs.Found.{row_kept, rows_all, rows_none, rows_turn}
use Rattle.lrp_lint.proofs.rows.add_relation.Goals as goal

pub add_row-requires-clause-few : goal.add_row-requires-clause-few
add_row-requires-clause-few c = subst (λ cs. time_count cs ≤ 8) (sym c.as_slice-columns.ensures) c.requires.times

pub add_row-requires-clause-row : goal.add_row-requires-clause-row
add_row-requires-clause-row c = row_kept c.args.held.now c.as_slice-columns.result.now c.as_slice-rows.result.now c.loop-row.row c.index-rows-row.result c.requires c.as_slice-columns.ensures c.as_slice-rows.ensures c.loop-row-test.true c.index-rows-row.is

pub loop-row-init : goal.loop-row-init
loop-row-init c = rows_none c.args.relation c.args.held.now c.args.found.now.items

pub loop-row-preserved : goal.loop-row-preserved
loop-row-preserved c =
    rows_turn c.args.relation c.args.held.now c.as_slice-columns.result.now c.as_slice-rows.result.now c.loop-row.row c.index-rows-row.result c.args.found.now.items c.loop-row.found.items c.add_row.new.found.items c.as_slice-columns.ensures c.as_slice-rows.ensures c.loop-row-test.true c.index-rows-row.is c.loop-row.invariant c.in_ok-add_row.ensures

pub returns : goal.returns
returns c =
    let all : length c.as_slice-rows.result.now ≤ c.loop-row.row = omega (arith, c.loop-row-test.false) in
    rows_all c.args.relation c.args.held.now c.loop-row.row c.args.found.now.items c.loop-row.found.items (subst (λ rs. length rs ≤ c.loop-row.row) c.as_slice-rows.ensures all) c.loop-row.invariant
