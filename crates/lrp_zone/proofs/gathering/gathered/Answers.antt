-- Each turn gathers one more given bound.
use Rattle.std.proofs.Common.{arith, refl, pos}
use Rattle.lrp_zone.specs.Given.{bound_at, IsGiven}
use Rattle.lrp_zone.proofs.Gathered.{gathered_none, gathered_more}
use Rattle.lrp_zone.proofs.gathering.gathered.Goals as goal

pub loop-bound-init : goal.loop-bound-init
loop-bound-init c = gathered_none (pos c.args.period) c.args.residues.now c.args.bounds.now c.free-out.result c.free-out.ensures

pub loop-bound-preserved : goal.loop-bound-preserved
loop-bound-preserved c =
    gathered_more (pos c.args.period) c.args.residues.now c.args.bounds.now c.loop-bound.bound-index c.loop-bound.out c.gather.new.out _ refl c.gather.ensures c.loop-bound.invariant
    (λ i h. let g : IsGiven (pos c.args.period) c.args.residues.now (bound_at c.args.bounds.now i) = c.requires.given.each i (omega arith) in omega (arith, g.right))
