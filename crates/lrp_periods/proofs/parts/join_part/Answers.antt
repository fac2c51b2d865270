-- The part at the place and the further one are united.
use Rattle.std.proofs.Common.{ap, ◌∙◌, slice_set}
use Rattle.lrp_periods.proofs.PartLaws.{can_join_at, joined_new, period_word}
use Rattle.lrp_periods.proofs.parts.join_part.Goals as goal

pub union-requires : goal.union-requires
union-requires c = can_join_at c.requires.can.1 c.requires.place c.at.ensures (period_word c.requires.can.1.period_is c.requires.can.1.made_is c.period.ensures)

pub returns : goal.returns
returns c = λ period can. joined_new can c.requires.place c.at.ensures (period_word can.period_is can.made_is c.period.ensures) c.in_ok-both.ensures.table c.in_ok-joined.ensures.same c.in_ok-joined.ensures.valid c.in_ok-joined.ensures.reach
    (c.from_vec.ensures ∙ ap (λ ts. slice_set ts c.args.place c.in_ok-joined.joined) c.into_vec-all.ensures)
