-- A minute that was read is one of the years 1 to 9999.
use Rattle.lrp_words.proofs.MinuteLemmas.{minute_ends}
use Rattle.lrp_words.proofs.reading.end.Goals as goal

pub returns-then-civil-clause-end : goal.returns-then-civil-clause-end
returns-then-civil-clause-end c = minute_ends c.args.civil c.minute_of.result c.if-civil.true c.minute_of.ensures.range
