-- The bounds make the zone.
use Rattle.std.proofs.Common.{take, replicate}
use Rattle.std.specs.Prelude.{pos}
use Rattle.std.proofs.lemmas.List.{length-take-le}
use Rattle.lrp_lint.proofs.Bounded.{bounded_given, bounded_none, bounded_some, none_map, some_map}
use Rattle.lrp_lint.proofs.parts.bounds_zone.Goals as goal

pub of-requires-clause-given : goal.of-requires-clause-given
of-requires-clause-given c = bounded_given c.args.bounds.now c.args.times (take c.args.times (replicate 8 (pos 0))) (length-take-le c.args.times (replicate 8 (pos 0)) c.requires.few) c.requires.between c.requires.small

pub returns-clause-none : goal.returns-clause-none
returns-clause-none c = none_map c.of.result _ _ (bounded_none c.args.bounds.now c.args.times (take c.args.times (replicate 8 (pos 0))) (length-take-le c.args.times (replicate 8 (pos 0)) c.requires.few)) c.of.ensures.none

pub returns-clause-some : goal.returns-clause-some
returns-clause-some c = some_map c.of.result _ _ _ (bounded_some c.args.bounds.now c.args.times (take c.args.times (replicate 8 (pos 0))) (length-take-le c.args.times (replicate 8 (pos 0)) c.requires.few)) c.of.ensures.some c.of.ensures.valid
