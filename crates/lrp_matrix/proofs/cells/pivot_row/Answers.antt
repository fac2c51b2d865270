-- Each turn lowers one bound of the row by the way through node k, whose own row is not written.
use Rattle.std.proofs.Common.{arith, ◌∙◌, below_more}
use Rattle.lrp_theory.specs.Entries.{IsThrough}
use Rattle.lrp_theory.proofs.Through.{IsThrough-kept, IsThrough-made}
use Rattle.lrp_matrix.proofs.cells.pivot_row.Goals as goal

pub returns-clause-row : goal.returns-clause-row
returns-clause-row c = λ j h. c.loop-j.invariant.done j (omega arith)

pub loop-j-preserved : goal.loop-j-preserved
loop-j-preserved c = record {
  done = below_more (λ q. IsThrough c.args.cells.now c.args.k c.put.new.cells c.args.i q) _
      (λ q h. IsThrough-kept _ c.loop-j.cells _ _ c.args.i q (c.put.ensures.others c.args.i q (omega arith) (λ e f. omega arith)) (c.loop-j.invariant.done q h))
      (IsThrough-made c.args.cells.now _ _ _ _ _ _ _ _ _ c.put.ensures.here (c.at-in-loop-j.ensures ∙ c.loop-j.invariant.left c.loop-j.j (omega arith) (omega arith)) c.at-left.ensures (c.at.ensures ∙ c.loop-j.invariant.others c.args.k c.loop-j.j (omega arith) (λ e. omega (arith, e, c.if-i-k.false))) c.sum-through.ensures c.lesser-least.ensures.lesser);
  left = λ q l h. c.put.ensures.others c.args.i q h (λ e f. omega arith) ∙ c.loop-j.invariant.left q (omega arith) h;
  others = λ p q h ne. c.put.ensures.others p q h (λ e f. ne e) ∙ c.loop-j.invariant.others p q h ne;
}
