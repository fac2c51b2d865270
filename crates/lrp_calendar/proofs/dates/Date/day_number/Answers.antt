use Rattle.std.proofs.Common.{rules, ◌≡◌, sym, subst, to_z, of_z, w64}
use Rattle.lrp_calendar.specs.Dates.{IsCivilDay, day_number}
use Rattle.lrp_calendar.proofs.DateLemmas.{real_day}
use Rattle.lrp_calendar.proofs.dates.Date.day_number.Goals as goal

pub returns-clause-range : goal.returns-clause-range
returns-clause-range c =
    let is : to_z w64 (of_z w64 c.from.result) ≡ day_number c.args.self = search rules in
    subst IsCivilDay (sym is) (real_day c.args.self c.requires)
