use Rattle.std.proofs.Common.{sym, subst}
use Rattle.std.specs.Option.{option_map}
use Rattle.lrp_limits.specs.Multiples.{AlwaysJoins}
use Rattle.lrp_limits.proofs.Keeping.{joins_always, joined_number}
use Rattle.lrp_limits.proofs.periods.common_period.Goals as goal

pub returns : goal.returns
returns c =
    subst (AlwaysJoins c.args.left.number c.args.right.number) (sym (joined_number c.with.result c.args.left c.unwrap_or.result c.unwrap_or.ensures))
    (joins_always c.args.left.number c.args.right.number (option_map (λ p. p.number) c.with.result) c.args.left.number c.with.ensures)
