use Rattle.std.proofs.Common.{arith, ◌^◌, Some, subst, sym}
use Rattle.std.specs.Prelude.{neg_ℤ}
use Rattle.lrp_theory.specs.Entries.{entry, node, AtMost}
use Rattle.lrp_matrix.specs.Ranges.{AreEndsOf}
use Rattle.lrp_matrix.proofs.RangeLemmas.{low_sum, high_sum, low_step, high_step, small_step, ends_are, AtMost-negation, Gives, FromLow, FromHigh}
use Rattle.lrp_matrix.proofs.ranges.ends.Goals as goal

pub loop-p-preserved : goal.loop-p-preserved
loop-p-preserved c =
    let v = c.loop-p.invariant in
    let p = c.loop-p.p in
    let low_is = low_sum c.sum.result _ _ _ (entry c.args.cells.now p c.args.i) (node c.args.prefix.now p) c.sum.ensures c.at.ensures c.negated.ensures c.value-x.ensures in
    let high_is = high_sum c.sum-in-loop-p.result _ _ (entry c.args.cells.now c.args.i p) (node c.args.prefix.now p) c.sum-in-loop-p.ensures c.at-in-loop-p.ensures c.value-x.ensures in
    let value_small : AtMost (2 ^ 62) (Some (node c.args.prefix.now p)) = c.requires.small.each p (omega arith) in
    record {
      low = low_step c.args.cells.now c.args.i c.args.prefix.now p c.loop-p.low c.sum.result _ v.low c.lesser-low.ensures.lesser low_is;
      high = high_step c.args.cells.now c.args.i c.args.prefix.now p c.loop-p.high c.sum-in-loop-p.result _ v.high c.lesser-high.ensures.lesser high_is;
      low_small = small_step c.loop-p.low c.sum.result _ (entry c.args.cells.now p c.args.i) (Some (neg_ℤ (node c.args.prefix.now p))) v.low_small c.lesser-low.ensures.lesser low_is
          (c.requires.closed.each p c.args.i (omega arith) (omega arith) (omega arith)) (AtMost-negation (2 ^ 62) (Some (node c.args.prefix.now p)) value_small);
      high_small = small_step c.loop-p.high c.sum-in-loop-p.result _ (entry c.args.cells.now c.args.i p) (Some (node c.args.prefix.now p)) v.high_small c.lesser-high.ensures.lesser high_is
          (c.requires.closed.each c.args.i p (omega arith) (omega arith) (omega arith)) value_small;
    }

pub returns-clause-ends : goal.returns-clause-ends
returns-clause-ends c =
    subst (λ e. AreEndsOf c.args.cells.now c.args.i c.args.prefix.now e c.loop-p.high) (sym c.negated-2.ensures)
    (ends_are c.args.cells.now c.args.i c.args.prefix.now c.loop-p.low c.loop-p.high
    (subst (λ n. Gives (FromLow c.args.cells.now c.args.i c.args.prefix.now) neg_ℤ n c.loop-p.low) (omega arith) c.loop-p.invariant.low)
    (subst (λ n. Gives (FromHigh c.args.cells.now c.args.i c.args.prefix.now) (λ v. v) n c.loop-p.high) (omega arith) c.loop-p.invariant.high))
