-- Both ends are those of both windows.
use Rattle.lrp_kept.proofs.windows.TimeWindow.with.Goals as goal

pub returns : goal.returns
returns c = λ x a b. record { least = c.both_least.ensures x a.least b.least; most = c.both_most.ensures x a.most b.most }
