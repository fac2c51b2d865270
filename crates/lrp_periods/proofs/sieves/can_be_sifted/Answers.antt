-- Both are seen.
use Rattle.lrp_periods.proofs.sieves.can_be_sifted.Goals as goal

pub returns-then-is_line : goal.returns-then-is_line
returns-then-is_line c = λ e. record { times = c.is_line.ensures.times c.if-is_line.true; texts = c.is_line.ensures.texts c.if-is_line.true; whole = c.are_whole.ensures e }
