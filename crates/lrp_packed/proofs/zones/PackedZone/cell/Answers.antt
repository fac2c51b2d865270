-- The cell of the entries is that of the zone.
use Rattle.std.proofs.Common.{◌∙◌, ap}
use Rattle.lrp_packed.specs.Entries.{CellZone, cell_of_entries}
use Rattle.lrp_packed.proofs.zones.PackedZone.cell.Goals as goal

pub returns : goal.returns
returns c = c.cell_of.ensures ∙ ap cell_of_entries c.as_slice.ensures ∙ ap (λ (z : CellZone). z.0) c.self.view_is
