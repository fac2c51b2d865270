use Rattle.std.proofs.Common.{ℤ, IfNone, ◌∙◌, ap, subst}
use Rattle.lrp_calendar.specs.Minutes.{SpellsMinute, minute_by}
use Rattle.lrp_calendar.proofs.MinuteLemmas.{minute_found, none_found}
use Rattle.lrp_calendar.proofs.minutes.minute_of.Goals as goal

pub returns-clause-value : goal.returns-clause-value
returns-clause-value c = minute_found c.as_bytes.result.now c.spelled_by.result c.spelled_by.ensures.spelled ∙ ap minute_by c.as_bytes.ensures.value

pub returns-clause-none : goal.returns-clause-none
returns-clause-none c =
    let none = none_found c.as_bytes.result.now c.spelled_by.result c.spelled_by.ensures.spelled in
    subst (λ word. IfNone c.spelled_by.result ((x : ℤ) → SpellsMinute word x → ⊥)) c.as_bytes.ensures.value none
