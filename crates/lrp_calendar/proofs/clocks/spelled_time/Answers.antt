use Rattle.std.proofs.Common.{sym, ◌∙◌}
use Rattle.std.proofs.lemmas.Bool.{false≢true}
use Rattle.lrp_calendar.specs.Moments.{clock_bytes, is_time_of_day}
use Rattle.lrp_calendar.proofs.PartLemmas.{none_other}
use Rattle.lrp_calendar.proofs.clocks.spelled_time.Goals as goal

pub returns-then-is_printed : goal.returns-then-is_printed
returns-then-is_printed c = (c.in_ok-time.ensures.real, c.is_printed.ensures.0 c.if-is_printed.true)

pub returns-else-is_printed : goal.returns-else-is_printed
returns-else-is_printed c =
    none_other is_time_of_day clock_bytes c.args.text.now c.in_ok-time.time c.in_ok-time.ensures.spells
    (λ e. false≢true (sym c.if-is_printed.false ∙ c.is_printed.ensures.1 e))
