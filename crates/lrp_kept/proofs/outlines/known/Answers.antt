use Rattle.std.proofs.Common.{subst}
use Rattle.lrp_theory.specs.Entries.{node}
use Rattle.lrp_kept.specs.Spans.{IsOfPoint}
use Rattle.lrp_kept.proofs.outlines.known.Goals as goal

pub returns-in-Some : goal.returns-in-Some
returns-in-Some c = λ ys m h. subst (λ o. IsOfPoint o (node ys c.args.i)) c.in-Some.is h

pub returns-in-None : goal.returns-in-None
returns-in-None c = λ ys m h. c.point_of.ensures ys m
