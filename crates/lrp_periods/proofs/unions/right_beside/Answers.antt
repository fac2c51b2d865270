-- The union with nothing over the other table's variables.
use Rattle.lrp_periods.proofs.PartLaws.{period_word}
use Rattle.lrp_periods.proofs.SideBySide.{beside_ok, right_unites, right_widened}
use Rattle.lrp_periods.proofs.unions.right_beside.Goals as goal

pub union-requires : goal.union-requires
union-requires c = right_unites c.requires.1 c.in_ok-nothing.ensures.made (period_word c.requires.1.period_is c.requires.1.right_is c.period.ensures)

pub returns : goal.returns
returns c = beside_ok _ _ _ _ c.small.result (λ period can. right_widened can c.in_ok-nothing.ensures.made (period_word can.period_is can.right_is c.period.ensures) c.small.result c.in_ok-made.ensures.table c.small.ensures.same c.small.ensures.valid c.small.ensures.reach)
