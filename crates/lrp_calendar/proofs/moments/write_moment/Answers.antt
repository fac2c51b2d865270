use Rattle.std.proofs.Common.{take, ap, ◌∙◌}
use Rattle.lrp_print.proofs.Lines.{written_as}
use Rattle.lrp_calendar.proofs.PrintLemmas.{moment_printed, printed_with_blank}
use Rattle.lrp_calendar.proofs.moments.write_moment.Goals as goal

pub returns-clause-text : goal.returns-clause-text
returns-clause-text g c =
    let civil = c.moment.result in
    let printed = c.as_bytes.ensures.value ∙ c.as_str.ensures.value ∙ c.datetime_text-printed.ensures ∙ printed_with_blank c.new.result c.separator.result civil c.new.ensures c.separator.ensures in
    written_as _ _ _ _ _ (ap (take 16) printed ∙ moment_printed c.args.minute.now civil c.moment.ensures) c.write_bytes.ensures.text
