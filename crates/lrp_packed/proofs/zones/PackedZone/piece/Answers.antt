-- The cell and the table that are written are those of the zone.
use Rattle.lrp_packed.proofs.Unpacked.{piece_again, seen, zone_again}
use Rattle.lrp_packed.proofs.zones.PackedZone.piece.Goals as goal

pub of_table-zone-requires : goal.of_table-zone-requires
of_table-zone-requires c =
    zone_again c.args.shape c.args.period c.from.result c.written-bounds.result.0 c.written-bounds.result.1 c.args.self.now c.from.ensures
    (seen c.written-bounds.result.0 c.written-bounds.result.1 c.as_slice.result.now c.self.inside.entries.items c.args.self.now c.written-bounds.ensures.cell c.written-bounds.ensures.table c.as_slice.ensures c.self.view_is)
    c.requires

pub returns : goal.returns
returns c =
    piece_again c.args.shape c.args.period c.from.result c.written-bounds.result.0 c.written-bounds.result.1 c.args.self.now c.from.ensures
    (seen c.written-bounds.result.0 c.written-bounds.result.1 c.as_slice.result.now c.self.inside.entries.items c.args.self.now c.written-bounds.ensures.cell c.written-bounds.ensures.table c.as_slice.ensures c.self.view_is)
    c.of_table-zone.result c.of_table-zone.ensures
