-- One rank after another.
use Rattle.std.proofs.Common.{◌≤◌, ◌+◌, refl, arith}
use Rattle.lrp_periods.proofs.NearestLaws.{found_first, none_before, none_found, none_more}
use Rattle.lrp_periods.proofs.nearest.nearest_open.Goals as goal

pub loop-place-init : goal.loop-place-init
loop-place-init c = none_before c.args.covers.now 0 refl

pub is_covered-requires : goal.is_covered-requires
is_covered-requires c = c.requires.within.some

pub returns-then-not-is_covered : goal.returns-then-not-is_covered
returns-then-not-is_covered c = found_first c.args.covers.now c.args.own c.requires.within c.loop-place.place c.residue_of_rank-residue.result c.residue_of_rank-residue.ensures (c.is_covered.ensures.none c.if-not-is_covered.true) c.loop-place.invariant

pub loop-place-preserved : goal.loop-place-preserved
loop-place-preserved c = none_more c.args.covers.now c.args.own c.requires.within c.loop-place.place c.residue_of_rank-residue.result c.residue_of_rank-residue.ensures (c.is_covered.ensures.shut c.if-not-is_covered.false) c.loop-place.invariant

pub returns : goal.returns
returns c = none_found c.args.covers.now c.args.own c.requires.within c.loop-place.place (let l : c.args.own + 1 ≤ c.loop-place.place = omega (arith, c.loop-place-test.false) in l) c.loop-place.invariant
