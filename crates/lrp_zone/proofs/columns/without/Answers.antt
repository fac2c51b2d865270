-- Each turn writes the path at one more place, within the columns that are left.
use Rattle.std.proofs.Common.{arith, sym, subst, ◌≡◌, ℕ, ℤ, Option, List, below_more}
use Rattle.lrp_theory.proofs.Through.{rows_more}
use Rattle.lrp_theory.specs.Entries.{entry}
use Rattle.lrp_zone.specs.Columns.{IsPath}
use Rattle.lrp_zone.proofs.Tables.{empty_free, empty_put}
use Rattle.lrp_zone.proofs.columns.without.Goals as goal

kept : (bounds : List (Option ℤ)) (k p q : ℕ) (e f : Option ℤ) → f ≡ e → IsPath bounds k p q e → IsPath bounds k p q f
kept bounds k p q e f eq h = subst (λ y. IsPath bounds k p q y) (sym eq) h

pub loop-p-init : goal.loop-p-init
loop-p-init c = record { above = λ p q pl ql. absurd (omega arith); outside = empty_free _ c.free-out.result c.free-out.ensures }

pub loop-q-preserved : goal.loop-q-preserved
loop-q-preserved c = record {
  above = λ r s rl sl. kept _ _ r s _ _ (c.put.ensures.others r s (omega arith) (λ e f. omega arith)) (c.loop-q.invariant.above r s rl sl);
  here = below_more (λ s. IsPath c.args.bounds.now c.args.k c.loop-p.p s (entry c.put.new.bounds c.loop-p.p s)) _
      (λ s sl. kept _ _ c.loop-p.p s _ _ (c.put.ensures.others c.loop-p.p s (omega arith) (λ e f. omega arith)) (c.loop-q.invariant.here s sl))
      (kept _ _ _ _ _ _ c.put.ensures.here c.path.ensures.value);
  outside = empty_put _ c.loop-p.p c.loop-q.q c.loop-q.out c.put.new.bounds c.loop-p-test.true c.loop-q-test.true c.put.ensures.others c.loop-q.invariant.outside;
}

pub loop-p-preserved : goal.loop-p-preserved
loop-p-preserved c = record {
  above = rows_more (λ r s. IsPath c.args.bounds.now c.args.k r s (entry c.loop-q.out r s)) _ _ c.loop-q.invariant.above (λ s h. c.loop-q.invariant.here s (omega arith));
  outside = c.loop-q.invariant.outside;
}

pub returns : goal.returns
returns c = record { each = λ p q pl ql. c.loop-p.invariant.above p q (omega arith) ql; outside = c.loop-p.invariant.outside }
