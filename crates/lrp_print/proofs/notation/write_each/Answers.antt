use Rattle.std.proofs.Common.{arith}
use Rattle.std.specs.List.{flat_map}
use Rattle.std.proofs.lemmas.Result.{err_from_is_err_and}
use Rattle.lrp_io.proofs.PieceLemmas.{written_err}
use Rattle.lrp_print.proofs.Lines.{item_step, item_front}
use Rattle.lrp_print.proofs.notation.write_each.Goals as goal

pub returns-in_err-write-clause-text : goal.returns-in_err-write-clause-text
returns-in_err-write-clause-text g c =
    let bytes = g.N.Notation.bytes c.args.notation.now in
    let p = err_from_is_err_and c.from_residual.result c.from_residual.ensures.1 in
    written_err _ _ (flat_map bytes c.args.items.now) _ p.0 p.1
    (item_front bytes c.args.items.now c.loop-item.item-index _ _ _ _ c.loop-item-test.true c.item-item.is c.loop-item.invariant.so_far c.in_err-write.ensures.text)

pub loop-item-preserved : goal.loop-item-preserved
loop-item-preserved g c = record {
  so_far = item_step (g.N.Notation.bytes c.args.notation.now) c.args.items.now c.loop-item.item-index _ _ _ _ c.loop-item-test.true c.item-item.is c.loop-item.invariant.so_far c.in_ok-write.ensures.text;
  later = omega (arith, c.loop-item.invariant.later, c.write.ensures.cause.later);
}
