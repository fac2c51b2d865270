-- A bound that has room stays within the limit.
use Rattle.std.proofs.Common.{pos, ◌-ℤ◌}
use Rattle.lrp_theory.specs.Entries.{node}
use Rattle.lrp_zone.specs.Tight.{IsTightened}
use Rattle.lrp_zone.proofs.Floors.{room_small}
use Rattle.lrp_zone.proofs.tightening.tightened.Goals as goal

pub narrow-requires : goal.narrow-requires
narrow-requires c = room_small c.args.period _ c.args.bound c.tightest.result c.requires.low c.requires.high c.requires.fits (rw (← c.wide.ensures) c.tightest.ensures.value)

pub returns : goal.returns
returns c =
    let t : IsTightened (pos c.args.period) (node c.args.residues.now c.args.i -ℤ node c.args.residues.now c.args.j) c.args.bound c.tightest.result = rw (← c.wide.ensures) c.tightest.ensures.value in
    rw c.narrow.ensures (record { tightened = t; small = room_small c.args.period _ c.args.bound c.tightest.result c.requires.low c.requires.high c.requires.fits t })
