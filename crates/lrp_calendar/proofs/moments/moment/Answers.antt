use Rattle.std.proofs.Common.{rules, ◌≡◌, FitsSigned, to_z, of_z, w64, sym, subst, ap, ◌∙◌}
use Rattle.std.specs.Prelude.{unsigned_abs}
use Rattle.lrp_calendar.specs.Dates.{IsCivil, IsCivilDay, date_of}
use Rattle.lrp_calendar.specs.Moments.{IsClock, day_of, time_of_day, is_time_of_day}
use Rattle.lrp_calendar.proofs.MomentLemmas.{civil_day, in_day, word_day, word_time}
use Rattle.lrp_calendar.proofs.moments.moment.Goals as goal

pub civil_date-requires : goal.civil_date-requires
civil_date-requires c =
    let size : FitsSigned w64 c.args.minute.now = search rules in
    let fits : FitsSigned w64 c.div_euclid.result = search rules in
    subst IsCivilDay (sym (word_day c.args.minute.now c.div_euclid.result size fits c.div_euclid.ensures)) (civil_day c.args.minute.now c.requires)

pub civil_time-requires : goal.civil_time-requires
civil_time-requires c =
    let size : FitsSigned w64 c.args.minute.now = search rules in
    let fits : FitsSigned w64 c.rem_euclid.result = search rules in
    ap is_time_of_day (word_time c.args.minute.now c.rem_euclid.result size fits c.rem_euclid.ensures.value) ∙ in_day c.args.minute.now

pub returns : goal.returns
returns c =
    let size : FitsSigned w64 c.args.minute.now = search rules in
    let day_fits : FitsSigned w64 c.div_euclid.result = search rules in
    let time_fits : FitsSigned w64 c.rem_euclid.result = search rules in
    let day : to_z w64 (of_z w64 c.div_euclid.result) ≡ day_of c.args.minute.now = word_day c.args.minute.now c.div_euclid.result size day_fits c.div_euclid.ensures in
    let time : unsigned_abs (to_z w64 (of_z w64 c.rem_euclid.result)) ≡ time_of_day c.args.minute.now = word_time c.args.minute.now c.rem_euclid.result size time_fits c.rem_euclid.ensures.value in
    record {
      date = subst (λ x. IsCivil (date_of x) c.civil_date.result) day c.civil_date.ensures;
      clock = subst (λ x. IsClock x c.civil_time.result) time c.civil_time.ensures;
    }
