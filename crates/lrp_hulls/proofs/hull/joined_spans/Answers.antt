-- One span more.
use Rattle.std.proofs.Common.{arith, subst}
use Rattle.lrp_hulls.specs.Spans.{IsWiderSpan as IsWider}
use Rattle.lrp_hulls.proofs.Hulled.{wider_more}
use Rattle.lrp_hulls.proofs.hull.joined_spans.Goals as goal

pub loop-i-preserved : goal.loop-i-preserved
loop-i-preserved c = record {
  left = wider_more c.args.left.now c.loop-i.i c.loop-i.spans c.joined.result (omega (arith, c.loop-i-test.true)) c.loop-i.invariant.left (subst (λ s. IsWider s c.joined.result) c.span_of_column-ours.ensures c.joined.ensures.left);
  right = wider_more c.args.right.now c.loop-i.i c.loop-i.spans c.joined.result (omega (arith, c.loop-i-test.true)) c.loop-i.invariant.right (subst (λ s. IsWider s c.joined.result) c.span_of_column-theirs.ensures c.joined.ensures.right);
}

pub returns-clause-left : goal.returns-clause-left
returns-clause-left c = record { each = λ i low. c.loop-i.invariant.left.each i (omega (arith, low, c.loop-i-test.false)) }

pub returns-clause-right : goal.returns-clause-right
returns-clause-right c = record { each = λ i low. c.loop-i.invariant.right.each i (omega (arith, low, c.loop-i-test.false)) }
