-- The zone in the cell without the text has what is left of the tuples.
use Rattle.lrp_zone.specs.Zones.{reach_of}
use Rattle.lrp_steps.proofs.NewZones.{new_added}
use Rattle.lrp_steps.proofs.TextDropped.{text_dropped}
use Rattle.lrp_steps.proofs.data_drops.add_without_text.Goals as goal

pub returns : goal.returns
returns c = record {
  ok = new_added _ c.args.out.now c.requires.valid (record { texts = c.without_number.result; residues = c.args.piece.now.cell.residues }) c.args.piece.now.zone (reach_of c.args.piece.now.zone)
      (text_dropped c.args.piece.now c.args.place c.args.size c.args.out.now c.requires.valid c.requires.place c.requires.wide c.requires.fits c.requires.zone c.without_number.result c.without_number.ensures c.if-piece-place.false)
      4294967295 c.put_new.new.self c.put_new.result c.put_new.ensures.ok;
}
