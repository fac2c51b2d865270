-- As many as were packed.
use Rattle.std.proofs.Common.{◌∙◌, ap, length}
use Rattle.lrp_packed.proofs.Unpacked.{listed_count}
use Rattle.lrp_packed.proofs.lists.PackedList.len.Goals as goal

pub returns : goal.returns
returns c = ap length c.as_slice-zones.ensures.value ∙ listed_count c.self.inside.shape c.self.inside.period c.self.inside.zones.items c.args.self.now c.self.view_is
