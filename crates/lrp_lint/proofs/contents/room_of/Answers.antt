-- The least common multiple fits with the bounds, or no number does.
use Rattle.std.proofs.Common.{subst}
use Rattle.std.specs.Prelude.{option_map}
use Rattle.lrp_limits.specs.Multiples.{IsPeriodOf}
use Rattle.lrp_limits.specs.declared.periods.Period.{Period}
use Rattle.lrp_model.specs.Periods.{row_periods}
use Rattle.lrp_lint.proofs.Rooms.{none_within, room_found}
use Rattle.lrp_lint.proofs.contents.room_of.Goals as goal

pub returns-in-Some : goal.returns-in-Some
returns-in-Some c =
    let row = c.args.row.now in
    room_found row c.in-Some.period c.bound_of.result c.fit.result (subst (λ o. IsPeriodOf (row_periods row) (option_map (λ (p : Period). p.number) o)) c.in-Some.is c.period_of.ensures) c.bound_of.ensures c.fit.ensures

pub returns-in-None : goal.returns-in-None
returns-in-None c =
    let row = c.args.row.now in
    none_within row (subst (λ o. IsPeriodOf (row_periods row) (option_map (λ (p : Period). p.number) o)) c.in-None.is c.period_of.ensures)
