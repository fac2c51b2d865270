use Rattle.lrp_wide.proofs.MeasureOperators.{always_sized, once_sized}
use Rattle.lrp_wide.proofs.measures.range_size.Goals as goal

pub returns-in-Once : goal.returns-in-Once
returns-in-Once c = rw c.in-Once.is (λ o x v from to f h. once_sized o x v from to f c.under.result (c.under.ensures _ _ (c.with_leaves.ensures _ _ h)))

pub returns-in-Always : goal.returns-in-Always
returns-in-Always c = rw c.in-Always.is (λ o x v from to f h.
    always_sized o x v from to f c.under-in-Always-2.result
    (c.under-in-Always-2.ensures _ _ (c.beside.ensures _ _ _ _ h (c.under-in-Always.ensures _ _ (c.with_leaves-in-Always.ensures _ _ c.none.ensures)))))
