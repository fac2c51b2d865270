-- One cell more is settled as it stands.
use Rattle.std.proofs.Common.{◌≡◌, ap, arith}
use Rattle.lrp_eval.proofs.StandingLaws.{line_room, standing_all, standing_more}
use Rattle.lrp_eval.proofs.settling.has_settled_cells.Goals as goal

pub is_settled-requires-clause-reach : goal.is_settled-requires-clause-reach
is_settled-requires-clause-reach c =
    let value : c.shape.result.times ≡ c.args.store.now.shape.times = ap (λ q. q.times) c.shape.ensures.value in
    line_room c.args.store.now c.shape.ensures.valid (omega (arith, value, c.if-shape-ne1.false)) c.requires.room c.in-Some.cell

pub loop-cell-preserved : goal.loop-cell-preserved
loop-cell-preserved c = standing_more c.args.store.now c.loop-cell.cell-iterator c.next.new.self c.in-Some.cell c.in-Some.ensures.steps c.loop-cell.invariant (c.is_settled.ensures c.if-not-is_settled.false)

pub returns : goal.returns
returns c = λ e. standing_all c.args.store.now c.loop-cell.cell-iterator c.shape.ensures.valid c.in-None.ensures.steps.0 c.loop-cell.invariant
