-- One part's cover more.
use Rattle.std.proofs.Common.{arith, refl}
use Rattle.std.specs.Prelude.{◌≤◌, length}
use Rattle.lrp_cutting.proofs.Lists.{read}
use Rattle.lrp_periods.proofs.Covers.{covers_all, covers_more, covers_none}
use Rattle.lrp_periods.proofs.sieves.covers_of.Goals as goal

pub loop-part-init : goal.loop-part-init
loop-part-init c = covers_none c.args.parts.now 0 _ refl c.new-covers.ensures

pub cover_of-requires-clause-line : goal.cover_of-requires-clause-line
cover_of-requires-clause-line c = c.requires.lines c.part-item.result (read c.args.parts.now c.loop-part.part-index c.part-item.result c.loop-part-test.true c.part-item.is)

pub cover_of-requires-clause-whole : goal.cover_of-requires-clause-whole
cover_of-requires-clause-whole c = c.requires.whole c.part-item.result (read c.args.parts.now c.loop-part.part-index c.part-item.result c.loop-part-test.true c.part-item.is)

pub loop-part-preserved : goal.loop-part-preserved
loop-part-preserved c = covers_more c.args.parts.now c.loop-part.part-index c.part-item.result c.loop-part.covers c.push.new.self c.in_ok-cover_of.field-0 c.loop-part-test.true c.part-item.is c.in_ok-push.ensures.ok c.loop-part.invariant c.in_ok-cover_of.ensures

pub returns : goal.returns
returns c = covers_all c.args.parts.now c.loop-part.part-index c.loop-part.covers (let l : length c.args.parts.now ≤ c.loop-part.part-index = omega (arith, c.loop-part-test.false) in l) c.loop-part.invariant
