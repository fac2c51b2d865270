use Rattle.std.proofs.Common.{Result, Ok}
use Rattle.lrp_zone.specs.Zones.{reach_of}
use Rattle.lrp_store.specs.declared.store.StoreFault.{StoreFault}
use Rattle.lrp_tables.specs.Passes.{IsMadeFrom}
use Rattle.lrp_tables.specs.Pieces.{InPiece}
use Rattle.lrp_cutting.proofs.Lists.{on_ok}
use Rattle.lrp_steps.proofs.NewZones.{new_added}
use Rattle.lrp_keep.specs.Taken.{StaysSame}
use Rattle.lrp_keep.proofs.Taken.{same_zone}
use Rattle.lrp_keep.proofs.unions.add_piece.Goals as goal

pub returns : goal.returns
returns c =
    let made : Result (Unit {0}) StoreFault = Ok tt in
    on_ok _ _ c.put_new.result
    (new_added (IsMadeFrom StaysSame (InPiece c.args.out.now.shape.texts c.args.piece.now)) c.args.out.now c.requires.valid c.args.piece.now.cell c.args.piece.now.zone (reach_of c.args.piece.now.zone)
    (same_zone c.args.piece.now c.args.out.now c.requires.place)
    4294967295 c.put_new.new.self made)
    c.put_new.ensures.ok
