use Rattle.std.proofs.Common.{◌≡◌, ◌∙◌, take, length, ap, arith}
use Rattle.std.proofs.Math.Seq.{take-length}
use Rattle.lrp_query.proofs.Columns.{columns_at, one_more}
use Rattle.lrp_query.proofs.binders.columns_of.Goals as goal

pub loop-one-preserved : goal.loop-one-preserved
loop-one-preserved c = one_more (c.args.sort.now, c.args.sort_place) c.args.names.now c.loop-one.one-index c.one-item.result c.loop-one.columns _ _ c.loop-one-test.true c.one-item.is c.loop-one.invariant c.in_ok-push.ensures.ok c.in_ok-column_of.ensures

pub returns : goal.returns
returns c =
    let last : c.loop-one.one-index ≡ length c.args.names.now = omega (arith, c.loop-one-test.false) in
    c.loop-one.invariant ∙ ap (columns_at (c.args.sort.now, c.args.sort_place)) (ap (λ i. take i c.args.names.now) last ∙ take-length c.args.names.now)
