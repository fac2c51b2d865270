-- One cover after another.
use Rattle.std.proofs.Common.{arith, refl}
use Rattle.std.specs.Prelude.{◌≤◌, length, pos}
use Rattle.lrp_cutting.proofs.Lists.{read}
use Rattle.lrp_periods.proofs.Sieving.{all_open, more_open, none_open}
use Rattle.lrp_periods.proofs.sieves.is_covered.Goals as goal

pub loop-cover-init : goal.loop-cover-init
loop-cover-init c = none_open c.args.covers.now (pos c.args.residue) 0 refl

pub is_marked-requires : goal.is_marked-requires
is_marked-requires c = c.requires c.cover-item.result (read c.args.covers.now c.loop-cover.cover-index c.cover-item.result c.loop-cover-test.true c.cover-item.is)

pub loop-cover-preserved : goal.loop-cover-preserved
loop-cover-preserved c = more_open c.args.covers.now (pos c.args.residue) c.loop-cover.cover-index c.cover-item.result c.loop-cover-test.true c.cover-item.is c.loop-cover.invariant (c.is_marked.ensures.none c.if-is_marked.false)

pub returns-then-is_marked-clause-shut : goal.returns-then-is_marked-clause-shut
returns-then-is_marked-clause-shut c = λ e. (c.cover-item.result, read c.args.covers.now c.loop-cover.cover-index c.cover-item.result c.loop-cover-test.true c.cover-item.is, c.is_marked.ensures.shut c.if-is_marked.true)

pub returns-clause-none : goal.returns-clause-none
returns-clause-none c = λ e. all_open c.args.covers.now (pos c.args.residue) c.loop-cover.cover-index (let l : length c.args.covers.now ≤ c.loop-cover.cover-index = omega (arith, c.loop-cover-test.false) in l) c.loop-cover.invariant
