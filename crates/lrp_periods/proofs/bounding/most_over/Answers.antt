-- One third column more is gone through.
use Rattle.std.proofs.Common.{◌≡◌, arith, sym}
use Rattle.lrp_zone.specs.Zones.{columns_of}
use Rattle.lrp_periods.proofs.WindowLaws.{over_either, stored_over}
use Rattle.lrp_periods.proofs.bounding.most_over.Goals as goal

pub loop-middle-init : goal.loop-middle-init
loop-middle-init c = stored_over c.args.zone.now c.args.column c.args.other c.bound-least.result c.requires.column c.requires.other (sym c.bound-least.ensures)

pub through-requires-clause-middle : goal.through-requires-clause-middle
through-requires-clause-middle c = let e : c.columns-columns.result ≡ columns_of c.args.zone.now = c.columns-columns.ensures.value in omega (arith, c.loop-middle-test.true, e)

pub loop-middle-preserved : goal.loop-middle-preserved
loop-middle-preserved c = over_either c.args.zone.now c.args.column c.args.other c.nearer-least.result c.loop-middle.least c.through.result c.nearer-least.ensures c.loop-middle.invariant c.through.ensures

pub returns : goal.returns
returns c = c.loop-middle.invariant
