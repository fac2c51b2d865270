-- One more row.
use Rattle.std.proofs.Common.{None, arith, take, subst}
use Rattle.std.proofs.lemmas.List.{take_all}
use Rattle.std.proofs.lemmas.List.Elements.{Contains-get_or}
use Rattle.lrp_canon.specs.Making.{AddsRows}
use Rattle.lrp_canon.proofs.StoreRows.{adds_next, adds_none, period_on, takes_on}
use Rattle.lrp_canon.proofs.storing.add_rows.Goals as goal

pub loop-row-init : goal.loop-row-init
loop-row-init c = adds_none c.args.group.now c.args.out.now

pub add_row-requires-clause-period : goal.add_row-requires-clause-period
add_row-requires-clause-period c = period_on c.args.group.now (take c.loop-row.row-index c.args.rows.now) c.args.out.now c.loop-row.out c.args.period c.requires.period c.loop-row.invariant

pub add_row-requires-clause-takes : goal.add_row-requires-clause-takes
add_row-requires-clause-takes c = takes_on c.args.group.now (take c.loop-row.row-index c.args.rows.now) c.args.out.now c.loop-row.out c.requires.takes c.loop-row.invariant

pub add_row-requires-clause-row : goal.add_row-requires-clause-row
add_row-requires-clause-row c = c.requires.rows _ (Contains-get_or c.args.rows.now c.loop-row.row-index (record { residue = 0; least = None; most = None }) c.loop-row-test.true)

pub loop-row-preserved : goal.loop-row-preserved
loop-row-preserved c = adds_next c.args.group.now c.args.period c.args.rows.now c.loop-row.row-index (record { residue = 0; least = None; most = None }) c.args.out.now c.loop-row.out c.add_row.new.out c.loop-row-test.true c.requires.period c.requires.takes.column c.requires.apart c.in_ok-add_row.ensures c.loop-row.invariant

pub returns : goal.returns
returns c = subst (λ rows. AddsRows c.args.group.now rows c.args.out.now c.loop-row.out) (take_all c.loop-row.row-index c.args.rows.now (omega (arith, c.loop-row-test.false))) c.loop-row.invariant
