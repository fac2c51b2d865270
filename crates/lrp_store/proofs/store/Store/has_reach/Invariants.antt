-- The cells that are no more left have small bounds.
use Rattle.lrp_store.proofs.Reaches.{AreSeen, IsListWithin}
use Rattle.lrp_store.proofs.store.Store.has_reach.Given as goal

abbrev pub invariant-loop-cell : goal.invariant-loop-cell
invariant-loop-cell l = AreSeen (IsListWithin l.reach) l.initial._cell-iterator l._cell-iterator
