-- Each edit is made, and the least answer told after it.
use Rattle.std.proofs.Common.{◌+◌}
use Rattle.std.proofs.lemmas.Result.{err_from_is_err_and}
use Rattle.lrp_watch.proofs.Passings.{fault_as, one_done, passed_at}
use Rattle.lrp_watch.specs.Edits.{IsPassedAfter, IsRefusedEdit}
use Rattle.lrp_watch.specs.Faults.{IsFaultAt}
use Rattle.lrp_watch.proofs.watching.spots_of.Goals as goal

pub returns-in_err-make-clause-fault : goal.returns-in_err-make-clause-fault
returns-in_err-make-clause-fault c =
    let p = err_from_is_err_and c.from_residual-in_err-make.result c.from_residual-in_err-make.ensures.1 in
    rw (p.1, p.2) (fault_as (IsFaultAt (c.loop-i.i + 1) (IsRefusedEdit c.index-edits-i.result c.loop-i.keep)) (IsPassedAfter c.args.edits.now c.args.keep.now)
    (λ number fault h. passed_at c.loop-i.i c.args.edits.now c.args.keep.now c.loop-i.keep c.index-edits-i.result c.loop-i.spots number fault c.loop-i-test.true c.index-edits-i.is c.loop-i.invariant h.0 h.1)
    c.in_err-make.field-0.0 c.in_err-make.ensures.fault)

pub loop-i-preserved : goal.loop-i-preserved
loop-i-preserved c = one_done c.loop-i.i c.args.edits.now c.args.keep.now c.loop-i.keep c.make.new.keep c.index-edits-i.result c.loop-i.spots c.tell-in-loop-i.new.spots c.loop-i-test.true c.index-edits-i.is c.loop-i.invariant c.in_ok-make.ensures.made c.in_ok-tell-2.ensures
