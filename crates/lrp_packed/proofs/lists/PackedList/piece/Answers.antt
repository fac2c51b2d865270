-- The zone with the number is unpacked.
use Rattle.lrp_packed.proofs.Unpacked.{listed_can, listed_piece}
use Rattle.lrp_packed.proofs.lists.PackedList.piece.Goals as goal

pub piece-requires : goal.piece-requires
piece-requires c = listed_can c.self.inside.shape c.self.inside.period c.self.inside.zones.items c.args.self.now c.self.view_is c.args.number c.index-zone.result.now c.requires c.index-zone.ensures c.self.invariant

pub returns : goal.returns
returns c = λ other. listed_piece c.self.inside.shape c.self.inside.period c.self.inside.zones.items c.args.self.now c.self.view_is c.args.number c.index-zone.result.now c.requires c.index-zone.ensures c.piece.result c.piece.ensures other
