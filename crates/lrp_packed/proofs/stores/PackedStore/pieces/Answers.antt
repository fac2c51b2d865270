-- The pieces are those of the store that is seen.
use Rattle.std.proofs.Common.{◌^◌, map, subst, sym}
use Rattle.lrp_store.specs.Stores.{HasReach}
use Rattle.lrp_tables.specs.Pieces.{ArePieces}
use Rattle.lrp_packed.specs.Packed.{AllFit, unpacked}
use Rattle.lrp_packed.proofs.Unpacked.{unpacked_all, unpacked_fit, unpacked_reach}
use Rattle.lrp_packed.proofs.stores.PackedStore.pieces.Goals as goal

pub returns-clause-all : goal.returns-clause-all
returns-clause-all c =
    subst (λ zs. ArePieces c.args.self.now (map (unpacked c.self.inside.shape c.self.inside.period) zs)) (sym c.as_slice.ensures)
    (subst (λ s. ArePieces s (map (unpacked c.self.inside.shape c.self.inside.period) c.self.inside.zones.items)) c.self.view_is (unpacked_all c.self.inside.shape c.self.inside.period c.self.inside.zones.items))

pub returns-clause-fit : goal.returns-clause-fit
returns-clause-fit c = subst (λ s. AllFit s) c.self.view_is (unpacked_fit c.self.inside.shape c.self.inside.period c.self.inside.zones.items c.self.invariant.zones)

pub returns-clause-reach : goal.returns-clause-reach
returns-clause-reach c = subst (λ s. HasReach s (2 ^ 62)) c.self.view_is (unpacked_reach c.self.inside.shape c.self.inside.period c.self.inside.zones.items c.self.invariant.zones)
