-- One write into a free table leaves one bound alone.
use Rattle.lrp_zone.proofs.Broken.{single_of}
use Rattle.lrp_zone.proofs.bounds.single.Goals as goal

pub returns : goal.returns
returns c = single_of c.free-bounds.result _ c.args.i c.args.j _ c.requires.row c.requires.column c.free-bounds.ensures c.put.ensures.here c.put.ensures.others
