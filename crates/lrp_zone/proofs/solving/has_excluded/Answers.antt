-- Two bounds that exclude one another are met by no integers.
use Rattle.std.proofs.Common.{arith}
use Rattle.lrp_theory.specs.Entries.{entry}
use Rattle.lrp_zone.proofs.Solutions.{excluded_none}
use Rattle.lrp_zone.proofs.solving.has_excluded.Goals as goal

pub returns-then-excludes : goal.returns-then-excludes
returns-then-excludes c = λ t. excluded_none c.args.nodes c.loop-i.i c.loop-j.j (entry c.args.bounds.now) c.at.result c.at-in-loop-j.result (omega arith) (omega arith) c.at.ensures.value c.at-in-loop-j.ensures.value (c.excludes.ensures c.if-excludes.true)
