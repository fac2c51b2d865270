-- The first zones were cut to the residues.
use Rattle.std.proofs.Common.{take}
use Rattle.std.specs.Prelude.{nat_abs}
use Rattle.lrp_store.specs.Stores.{zones_at}
use Rattle.lrp_cutting.proofs.Lists.{IsReadTo}
use Rattle.lrp_minus.specs.Cutters.{AreCutOf}
use Rattle.lrp_minus.proofs.cutters.cut_all.Given as goal

abbrev pub invariant-loop-zone : goal.invariant-loop-zone
invariant-loop-zone l = IsReadTo (λ i. AreCutOf (take i (zones_at l.store l.cell)) l.places (nat_abs l.period) l.residues l.cutters) (zones_at l.store l.cell) l.zone-iterator
