use Rattle.std.proofs.Common.{ap}
use Rattle.lrp_print.proofs.Lines.{written_as}
use Rattle.lrp_answers.specs.Spots.{spot_tuple}
use Rattle.lrp_answers.proofs.HeadOrder.{spot_tuple_is}
use Rattle.lrp_answer_text.specs.Lines.{is_json, tuple_line}
use Rattle.lrp_civil.specs.CivilLines.{civil_time_bytes}
use Rattle.lrp_calendar.proofs.DateLemmas.{date_is}
use Rattle.lrp_calendar.proofs.MomentLemmas.{civil_day}
use Rattle.lrp_civil.proofs.lines.write_civil_line.Goals as goal

pub returns-clause-text : goal.returns-clause-text
returns-clause-text g c =
    let answer = c.args.answer.now in
    written_as _ _ _ _ _ (ap (λ json. tuple_line (civil_time_bytes json) (is_json c.args.form.now) (spot_tuple answer.head.columns answer.store.shape answer.domain c.args.spot.now)) c.is_json-json.ensures) c.write_line_in.ensures.text

pub returns-clause-tuple : goal.returns-clause-tuple
returns-clause-tuple g c = λ tuple h s. spot_tuple_is _ _ _ _ tuple h s

pub returns-clause-dates : goal.returns-clause-dates
returns-clause-dates g c = λ x h. date_is _ (civil_day x h)
