use Rattle.std.proofs.Common.{FitsSigned, w64}
use Rattle.std.proofs.lemmas.Bool.{false≢true}
use Rattle.std.proofs.lemmas.Int.{to_z-of_z}
use Rattle.lrp_calendar.proofs.DateLemmas.{civil_epoch_day, civil_of_day}
use Rattle.lrp_calendar.proofs.dates.civil_date.Goals as goal

pub unreachable-requires : goal.unreachable-requires
unreachable-requires c =
    let fits : FitsSigned w64 c.args.day = c.ranges.day in
    let tells = simp to_z-of_z at c.in-Err.ensures.succeeds in
    absurd (false≢true (tells.1 (civil_epoch_day c.args.day c.requires)))

pub returns : goal.returns
returns c =
    let fits : FitsSigned w64 c.args.day = c.ranges.day in
    let e = simp to_z-of_z at c.in-Ok.ensures.value in
    civil_of_day c.in-Ok.date c.args.day c.requires e
