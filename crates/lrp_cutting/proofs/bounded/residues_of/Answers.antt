-- The residues are those of the zone.
use Rattle.std.proofs.Common.{◌≡◌, ◌≤◌, length, arith}
use Rattle.lrp_zone.specs.Zones.{columns_of}
use Rattle.lrp_cutting.proofs.Lists.{front_is}
use Rattle.lrp_cutting.proofs.bounded.residues_of.Goals as goal

pub returns-clause-value : goal.returns-clause-value
returns-clause-value c =
    let size : length c.loop-i.residues ≡ 8 = c.loop-i.invariant.size in
    let high : columns_of c.args.zone.now ≤ 8 = c.columns-i-end.ensures.valid.shape.columns in
    front_is c.loop-i.residues c.args.zone.now.residues (omega arith) (λ k l. c.loop-i.invariant.same k (omega arith))
