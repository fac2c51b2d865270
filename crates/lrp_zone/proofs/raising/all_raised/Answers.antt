-- Each turn raises one value to what a bound leaves it.
use Rattle.std.proofs.Common.{arith, length, length-set, ◌≡◌, ◌∙◌}
use Rattle.std.proofs.lemmas.Int.{ints}
use Rattle.lrp_zone.proofs.Raised.{raised_one}
use Rattle.lrp_zone.proofs.raising.all_raised.Goals as goal

pub loop-j-preserved : goal.loop-j-preserved
loop-j-preserved c =
    let size : length c.loop-j.out ≡ 8 = c.loop-j.invariant.size in
    record {
      size = length-set c.loop-j.out _ _ ∙ size;
      kept = λ low a. raised_one c.args.zone.now low c.loop-j.out c.loop-i.i c.loop-j.j _ _ c.raised.result _ c.bound.result (omega arith) (omega arith) c.columns-i-end.ensures.valid.shape.columns
          c.raised.ensures.kept c.raised.ensures.lowest (omega (arith, ints)) (omega (arith, ints)) c.bound.ensures (omega (arith, ints)) (c.loop-j.invariant.kept low a);
    }
