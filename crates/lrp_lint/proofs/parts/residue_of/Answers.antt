-- The remainder is equal to the offset modulo the period.
use Rattle.std.proofs.Common.{rules}
use Rattle.lrp_lint.proofs.Points.{remainder_is}
use Rattle.lrp_lint.proofs.parts.residue_of.Goals as goal

pub returns-clause-equal : goal.returns-clause-equal
returns-clause-equal c =
    remainder_is _ _ c.args.at.now.period c.rem_euclid.result _ c.args.at.now.offset c.rem_euclid.ensures.value (search rules) (search rules) (search rules) c.requires.low
