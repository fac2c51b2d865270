use Rattle.std.proofs.Common.{SFits, ◌∙◌, rules}
use Rattle.std.specs.Int.{w64}
use Rattle.std.proofs.lemmas.Int.{to_z-of_z}
use Rattle.lrp_kept.proofs.Outlined.{point_is}
use Rattle.lrp_kept.proofs.outlines.point_of.Goals as goal

pub returns-in-Ok : goal.returns-in-Ok
returns-in-Ok c =
    let low : SFits w64 c.residue.result = search rules in
    let fits : SFits w64 c.period-2.result = search rules in
    point_is c.args.zone.now c.args.i _ _ c.in-Ok.point c.requires.high (to_z-of_z w64 c.residue.result low ∙ c.residue.ensures) (to_z-of_z w64 c.period-2.result fits ∙ c.period-2.ensures) c.in-Ok.ensures.members
