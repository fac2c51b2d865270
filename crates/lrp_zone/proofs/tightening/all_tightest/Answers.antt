-- Each turn tightens the bound at one more place, within the columns.
use Rattle.std.proofs.Common.{arith, refl, ◌∙◌, sym, ◌≡◌, ℤ, pos, ◌-ℤ◌, Option, below_more, subst, ◌^◌}
use Rattle.lrp_theory.proofs.Through.{rows_more}
use Rattle.lrp_theory.specs.Entries.{entry, node, AtMost}
use Rattle.lrp_zone.specs.Tight.{IsStored}
use Rattle.lrp_zone.proofs.Cut.{roomy}
use Rattle.lrp_zone.proofs.Tables.{empty_free, empty_put}
use Rattle.lrp_zone.proofs.Stands.{stands_small}
use Rattle.lrp_zone.proofs.tightening.all_tightest.Goals as goal

kept : (k w : ℤ) (a b e f : Option ℤ) → b ≡ a → f ≡ e → IsStored k w a e → IsStored k w b f
kept k w a b e f p q h = rw (p, q) h

pub loop-i-init : goal.loop-i-init
loop-i-init c = record { above = λ p q pl ql. absurd (omega arith); outside = empty_free _ c.free-out.result c.free-out.ensures }

pub loop-j-preserved : goal.loop-j-preserved
loop-j-preserved c = record {
  above = λ r s rl sl. kept _ _ _ _ _ _ refl (c.put.ensures.others r s (omega arith) (λ e f. omega arith)) (c.loop-j.invariant.above r s rl sl);
  here = below_more (λ s. IsStored (pos c.args.period) (node c.args.residues.now c.loop-i.i -ℤ node c.args.residues.now s) (entry c.args.bounds.now.cells c.loop-i.i s) (entry c.put.new.bounds c.loop-i.i s)) _
      (λ s sl. kept _ _ _ _ _ _ refl (c.put.ensures.others c.loop-i.i s (omega arith) (λ e f. omega arith)) (c.loop-j.invariant.here s sl))
      (kept _ _ _ _ _ _ (sym (c.narrow.ensures ∙ c.get.ensures)) c.put.ensures.here c.tightened.ensures);
  outside = empty_put _ c.loop-i.i c.loop-j.j c.loop-j.out c.put.new.bounds c.loop-i-test.true c.loop-j-test.true c.put.ensures.others c.loop-j.invariant.outside;
}

pub loop-i-preserved : goal.loop-i-preserved
loop-i-preserved c = record {
  above = rows_more (λ r s. IsStored (pos c.args.period) (node c.args.residues.now r -ℤ node c.args.residues.now s) (entry c.args.bounds.now.cells r s) (entry c.loop-j.out r s)) _ _ c.loop-j.invariant.above (λ s h. c.loop-j.invariant.here s (omega arith));
  outside = c.loop-j.invariant.outside;
}

pub tightened-requires-clause-fits : goal.tightened-requires-clause-fits
tightened-requires-clause-fits c = λ a e. c.requires.fits c.loop-i.i c.loop-j.j a (omega arith) (omega arith) (sym (c.narrow.ensures ∙ c.get.ensures) ∙ e)

pub returns : goal.returns
returns c = record { each = λ i j il jl. c.loop-i.invariant.above i j (omega arith) (omega arith); outside = c.loop-i.invariant.outside }

pub narrow-requires : goal.narrow-requires
narrow-requires c = subst (λ e. AtMost (2 ^ 62) e) (sym c.get.ensures) (roomy (pos c.args.period) _ _ (λ a e. c.requires.fits c.loop-i.i c.loop-j.j a (omega arith) (omega arith) e))

pub put-requires-clause-stands : goal.put-requires-clause-stands
put-requires-clause-stands c = stands_small _ c.tightened.ensures.small
