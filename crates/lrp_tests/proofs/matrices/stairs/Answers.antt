-- Each turn lowers two bounds.
use Rattle.std.proofs.Common.{◌≡◌, ◌≤◌, ◌<◌, ◌+◌, ◌^◌, ◌∙◌, arith}
use Rattle.std.proofs.lemmas.Int.{ints}
use Rattle.lrp_matrix.proofs.Lowering.{free_small, lowered_small}
use Rattle.lrp_tests.proofs.matrices.stairs.Goals as goal

pub loop-i-init : goal.loop-i-init
loop-i-init c = record {
  columns = c.free-matrix.ensures.columns;
  small = free_small c.free-matrix.result (c.free-matrix.result.columns + 1) (2 ^ 62) c.free-matrix.ensures.cells;
}

pub loop-i-preserved : goal.loop-i-preserved
loop-i-preserved c =
    let turn : c.loop-i.i < 8 = c.loop-i-test.true in
    let first : c.loop-i.matrix.columns ≡ 8 = c.loop-i.invariant.columns in
    let second : c.lower.new.self.columns ≡ 8 = c.lower.ensures.columns ∙ first in
    record {
      columns = c.lower-in-loop-i.ensures.columns ∙ second;
      small = lowered_small c.lower.new.self c.lower-in-loop-i.new.self _ _ (2 ^ 62) _ c.lower-in-loop-i.ensures (omega arith) (omega arith) (omega (arith, ints), omega (arith, ints))
          (lowered_small c.loop-i.matrix c.lower.new.self _ _ (2 ^ 62) _ c.lower.ensures (omega arith) (omega arith) (omega (arith, ints), omega (arith, ints)) c.loop-i.invariant.small);
    }
