-- Each turn writes the first value of one more column.
use Rattle.std.proofs.Common.{arith, length, length-set, ◌≡◌, ◌+◌, ◌∙◌}
use Rattle.std.proofs.lemmas.Int.{ints}
use Rattle.lrp_theory.specs.Entries.{node}
use Rattle.lrp_zone.specs.Order.{at}
use Rattle.lrp_zone.specs.Raising.{IsFirstValue}
use Rattle.lrp_zone.proofs.Followed.{ends_more}
use Rattle.lrp_zone.proofs.Raised.{first_moved, lowest_first, zeros_more}
use Rattle.lrp_zone.proofs.raising.first_values.Goals as goal

pub loop-i-preserved : goal.loop-i-preserved
loop-i-preserved c =
    let size : length c.loop-i.out ≡ 8 = c.loop-i.invariant.size in
    record {
      size = length-set c.loop-i.out _ _ ∙ size;
      each = ends_more (λ j v. IsFirstValue c.args.zone.now.period (node c.args.zone.now.residues (j + 1)) (at c.args.low.now j) v) c.loop-i.out c.loop-i.i c.first_value.result _ (omega arith) (omega (arith, ints))
          (first_moved _ c.args.zone.now.period _ (node c.args.zone.now.residues (c.loop-i.i + 1)) _ (at c.args.low.now c.loop-i.i) c.first_value.result c.first_value.ensures c.modulus.ensures (omega (arith, ints)) (omega (arith, ints))) c.loop-i.invariant.each;
      zeros = zeros_more c.loop-i.out c.loop-i.i _ c.loop-i.invariant.zeros;
    }

pub returns : goal.returns
returns c = lowest_first c.args.zone.now c.args.low.now c.loop-i.out c.loop-i.invariant.size (λ j l. c.loop-i.invariant.zeros j (omega arith)) (λ j l. c.loop-i.invariant.each j (omega arith))
