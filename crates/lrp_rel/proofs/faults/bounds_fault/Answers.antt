-- One bound more: the name on its left, and its right side.
use Rattle.std.proofs.Common.{◌≡◌, ◌∙◌, ap, sym}
use Rattle.lrp_model.specs.Faults.{earliest}
use Rattle.lrp_model.specs.DatabaseFaults.{database_standing, unknown, side_faults}
use Rattle.lrp_model.specs.Sooner.{sooner}
use Rattle.lrp_model.proofs.FirstFault.{first_of_both, sooner_again}
use Rattle.lrp_rel.proofs.FaultWalks.{bound_faults, flat_walk}
use Rattle.lrp_rel.proofs.faults.bounds_fault.Goals as goal

pub loop-bound-preserved : goal.loop-bound-preserved
loop-bound-preserved c = λ columns are.
    let bound = c.bound-item.result in
    let left = c.unknown_name.result in
    let right = c.side_fault.result in
    let both : sooner database_standing left right ≡ earliest database_standing (bound_faults columns bound) =
    ap (λ x. sooner database_standing x right) (c.unknown_name.ensures columns are) ∙ ap (sooner database_standing (earliest database_standing (unknown columns bound.left))) (c.side_fault.ensures columns are)
    ∙ sym (first_of_both database_standing (unknown columns bound.left) (side_faults columns bound.side)) in
    flat_walk (bound_faults columns) c.args.bounds.now c.loop-bound.bound-index bound c.loop-bound.best c.sooner_of-best-in-loop-bound.result (sooner database_standing left right) _
    (c.loop-bound.invariant columns are) c.loop-bound-test.true c.bound-item.is both
    (c.sooner_of-best-in-loop-bound.ensures ∙ ap (λ x. sooner database_standing x right) c.sooner_of-best.ensures ∙ sym (sooner_again database_standing c.loop-bound.best left right))
