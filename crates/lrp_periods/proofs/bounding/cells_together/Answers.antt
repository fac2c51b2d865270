-- The cells of one part more are counted.
use Rattle.std.proofs.Common.{arith, refl}
use Rattle.std.specs.Prelude.{◌≤◌, length}
use Rattle.lrp_cutting.proofs.Lists.{read}
use Rattle.lrp_periods.proofs.Summing.{first_all, first_more_parts, first_none}
use Rattle.lrp_periods.proofs.bounding.cells_together.Goals as goal

pub loop-part-init : goal.loop-part-init
loop-part-init c = record { within = omega arith; few = first_none 0 c.args.period c.args.parts.now 0 refl }

pub cells_of_table-requires-clause-multiple : goal.cells_of_table-requires-clause-multiple
cells_of_table-requires-clause-multiple c = c.requires.multiples c.part-item.result (read c.args.parts.now c.loop-part.part-index c.part-item.result c.loop-part-test.true c.part-item.is)

pub loop-part-preserved : goal.loop-part-preserved
loop-part-preserved c = record {
  within = (let w = c.loop-part.invariant.within in let m = c.in-Some.ensures.within in omega (arith, w, m));
  few = first_more_parts c.loop-part.total c.in-Some.more _ c.args.period c.args.parts.now c.loop-part.part-index c.part-item.result c.loop-part-test.true c.part-item.is (read c.args.parts.now c.loop-part.part-index c.part-item.result c.loop-part-test.true c.part-item.is) c.loop-part.invariant.few c.in-Some.ensures.few refl;
}

pub returns-clause-within : goal.returns-clause-within
returns-clause-within c = c.loop-part.invariant.within

pub returns-clause-few : goal.returns-clause-few
returns-clause-few c = first_all c.loop-part.total c.args.period c.args.parts.now c.loop-part.part-index (let l : length c.args.parts.now ≤ c.loop-part.part-index = omega (arith, c.loop-part-test.false) in l) c.loop-part.invariant.few
