-- The bounds of one more pair are found.
use Rattle.std.proofs.Common.{get_or, take, sym, subst}
use Rattle.std.proofs.lemmas.List.{take_more}
use Rattle.lrp_cutting.specs.declared.pairs.NodePair.{NodePair}
use Rattle.lrp_cutting.specs.Hulls.{AreWidest}
use Rattle.lrp_cutting.proofs.WidestLaws.{widest_next}
use Rattle.lrp_cutting.proofs.hull.hull_bounds.Goals as goal

pub loop-pair-preserved : goal.loop-pair-preserved
loop-pair-preserved c =
    let p : NodePair = get_or c.args.pairs.now c.loop-pair.pair-index (record { left = 0; right = 0 }) in
    subst (λ l. AreWidest c.args.matrices.now l c.push_widest-in-loop-pair.new.bounds.items) (sym (take_more c.args.pairs.now c.loop-pair.pair-index (record { left = 0; right = 0 }) c.loop-pair-test.true))
    (widest_next c.args.matrices.now (take c.loop-pair.pair-index c.args.pairs.now) p _ _ _ c.loop-pair.invariant c.in_ok-push_widest.ensures c.in_ok-push_widest-2.ensures)
