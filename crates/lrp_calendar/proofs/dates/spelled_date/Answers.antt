use Rattle.std.proofs.Common.{sym, ◌∙◌}
use Rattle.std.proofs.lemmas.Bool.{false≢true}
use Rattle.lrp_calendar.specs.Dates.{is_date}
use Rattle.lrp_calendar.specs.Moments.{date_bytes}
use Rattle.lrp_calendar.proofs.PartLemmas.{none_is, none_unlike, none_other}
use Rattle.lrp_calendar.proofs.PrintLemmas.{date_printed}
use Rattle.lrp_calendar.proofs.dates.spelled_date.Goals as goal

pub returns-in_err-civil : goal.returns-in_err-civil
returns-in_err-civil c =
    none_is _ _ c.from_residual-in_err-civil.result c.from_residual-in_err-civil.ensures
    (none_unlike is_date date_bytes c.args.text.now c.in_ok-date.date c.in_ok-date.ensures c.in_err-civil.ensures)

pub returns-then-is_printed : goal.returns-then-is_printed
returns-then-is_printed c =
    (c.in_ok-civil.ensures.real, c.is_printed.ensures.0 c.if-is_printed.true ∙ date_printed c.in_ok-date.date c.in_ok-civil.civil c.in_ok-civil.ensures)

pub returns-else-is_printed : goal.returns-else-is_printed
returns-else-is_printed c =
    none_other is_date date_bytes c.args.text.now c.in_ok-date.date c.in_ok-date.ensures
    (λ e. false≢true (sym c.if-is_printed.false ∙ c.is_printed.ensures.1 (e ∙ sym (date_printed c.in_ok-date.date c.in_ok-civil.civil c.in_ok-civil.ensures))))
