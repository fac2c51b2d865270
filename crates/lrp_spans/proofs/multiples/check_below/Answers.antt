-- A positive divisor is at most the number.
use Rattle.lrp_spans.proofs.Repeats.{divisor_le}
use Rattle.lrp_spans.proofs.multiples.check_below.Goals as goal

pub returns : goal.returns
returns c = divisor_le c.args.one c.args.period c.requires.low c.requires.divides
