use Rattle.lrp_wide.proofs.MeasureOperators.{pair_sized}
use Rattle.lrp_wide.proofs.measures.pair_size.Goals as goal

pub returns : goal.returns
returns c = λ o x y v f g h k.
    pair_sized c.args._word o x y v f g c.under-2.result
    (c.under-2.ensures _ _ (c.with_leaves-2.ensures _ _ (c.beside-2.ensures _ _ _ _ k (c.under-limited.ensures _ _ (c.beside.ensures _ _ _ _ h (c.under.ensures _ _ (c.with_leaves.ensures _ _ c.none.ensures)))))))
