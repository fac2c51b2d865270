-- One window ends before the other one begins.
use Rattle.lrp_kept.proofs.windows.TimeWindow.is_beside.Goals as goal

pub returns-then-is_below : goal.returns-then-is_below
returns-then-is_below c = λ e x a b. c.is_below.ensures e x a.most b.least

pub returns-else-is_below : goal.returns-else-is_below
returns-else-is_below c = λ e x a b. c.is_below-else-is_below.ensures e x b.most a.least
