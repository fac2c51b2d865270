-- The solutions of the one part are the tuples of the zone.
use Rattle.std.proofs.Common.{take}
use Rattle.lrp_systems.proofs.LoneZones.{lone_added, lone_fits, lone_refused}
use Rattle.lrp_systems.proofs.align.add_piece.Goals as goal

pub add_system-requires-clause-fits : goal.add_system-requires-clause-fits
add_system-requires-clause-fits c = lone_fits c.args.piece.now.zone c.in_order.result c.in_order.ensures.zone c.args.out.now c.requires.valid c.in_order.ensures.whole c.requires.columns c.requires.multiple c.requires.reach

pub returns-clause-ok : goal.returns-clause-ok
returns-clause-ok c = lone_added c.args.piece.now.zone c.in_order.result c.in_order.ensures.zone c.args.out.now c.requires.valid c.in_order.ensures.whole c.requires.columns (take c.args.out.now.shape.texts c.args.piece.now.cell.texts) c.args.cap c.add_system.new.out c.add_system.result c.add_system.ensures.ok

pub returns-clause-too_many : goal.returns-clause-too_many
returns-clause-too_many c = λ e. lone_refused c.args.piece.now.zone c.in_order.result c.in_order.ensures.zone c.args.out.now c.requires.valid c.in_order.ensures.whole c.requires.columns (take c.args.out.now.shape.texts c.args.piece.now.cell.texts) c.args.cap c.add_system.new.out (c.add_system.ensures.too_many e)
