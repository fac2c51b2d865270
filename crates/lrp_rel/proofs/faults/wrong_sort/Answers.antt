-- One value more, up to the last column or value.
use Rattle.std.proofs.Common.{◌<◌, ◌≤◌, ◌∙◌, ap, sym, length, min, arith}
use Rattle.lrp_model.specs.Faults.{earliest}
use Rattle.lrp_model.specs.DatabaseFaults.{database_standing}
use Rattle.lrp_model.specs.Sooner.{sooner}
use Rattle.lrp_model.proofs.FirstFault.{sooner_than_none}
use Rattle.lrp_rel.proofs.FaultWalks.{sorts_walk, sorts_end}
use Rattle.lrp_rel.proofs.faults.wrong_sort.Goals as goal

pub loop-i-preserved : goal.loop-i-preserved
loop-i-preserved c =
    let columns = c.args.columns.now in
    let values = c.args.values.now in
    let i = c.loop-i.i in
    let lt : i < length columns = omega (arith, c.loop-i-test.true, c.min-i-end.ensures) in
    let less : i < length values = omega (arith, c.loop-i-test.true, c.min-i-end.ensures) in
    sorts_walk columns values i c.index-columns-i.result c.index-values-i.result c.loop-i.best c.sooner_of-best.result c.sort_fault.result _
    c.loop-i.invariant lt less c.index-columns-i.is c.index-values-i.is c.sort_fault.ensures c.sooner_of-best.ensures

pub returns : goal.returns
returns c =
    let columns = c.args.columns.now in
    let values = c.args.values.now in
    let i = c.loop-i.i in
    let past : min (length columns) (length values) ≤ i = omega (arith, c.loop-i-test.false, c.min-i-end.ensures) in
    sym (sooner_than_none database_standing c.loop-i.best) ∙ ap (λ l. sooner database_standing c.loop-i.best (earliest database_standing l)) (sym (sorts_end columns values i past)) ∙ c.loop-i.invariant
