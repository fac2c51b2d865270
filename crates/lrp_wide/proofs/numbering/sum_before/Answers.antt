use Rattle.std.proofs.Common.{get_or, refl}
use Rattle.lrp_wide.specs.declared.numbering.Counted.{Counted}
use Rattle.lrp_wide.proofs.NumberOrder.{before-more}
use Rattle.lrp_wide.proofs.numbering.sum_before.Goals as goal

pub loop-atom-preserved : goal.loop-atom-preserved
loop-atom-preserved c =
    let none : Counted = record { place = record { line = 0; column = 0 }; numbers = 0; before = 0 } in
    before-more c.args.atoms.now c.loop-atom.atom-index none c.args.place c.loop-atom.sum c.taken_before.result _ c.loop-atom-test.true c.loop-atom.invariant c.taken_before.ensures c.saturating_add-sum.ensures
