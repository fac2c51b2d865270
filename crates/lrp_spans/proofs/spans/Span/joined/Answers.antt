-- The later end of the two.
use Rattle.std.proofs.Common.{refl}
use Rattle.lrp_spans.proofs.SpanLaws.{joined_is}
use Rattle.lrp_spans.proofs.spans.Span.joined.Goals as goal

pub returns : goal.returns
returns c = joined_is c.args.self.now c.args.next.now _ refl refl c.later.ensures c.requires.residue c.requires.begins c.requires.meets
