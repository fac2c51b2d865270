-- The bounds make the zone.
use Rattle.std.proofs.Common.{take, replicate}
use Rattle.std.specs.Prelude.{pos}
use Rattle.std.proofs.lemmas.List.{length-take-le}
use Rattle.lrp_steps.proofs.Compared.{zeros_modulo_one, none_map, some_map}
use Rattle.lrp_steps.proofs.ReadRows.{bounded_given, bounded_none, bounded_some}
use Rattle.lrp_steps.proofs.row_bounds.bounded.Goals as goal

pub of-requires-clause-given : goal.of-requires-clause-given
of-requires-clause-given c = bounded_given c.args.bounds.now c.args.columns (take c.args.columns (replicate 8 (pos 0))) (length-take-le c.args.columns (replicate 8 (pos 0)) c.requires.few) c.requires.between c.requires.small

pub of-requires-clause-residues : goal.of-requires-clause-residues
of-requires-clause-residues c = λ p h. zeros_modulo_one c.args.columns p

pub returns : goal.returns
returns c = record {
  none = none_map c.of.result _ _ (bounded_none c.args.bounds.now c.args.columns (take c.args.columns (replicate 8 (pos 0))) (length-take-le c.args.columns (replicate 8 (pos 0)) c.requires.few)) c.of.ensures.none;
  some = some_map c.of.result _ _ (bounded_some c.args.bounds.now c.args.columns (take c.args.columns (replicate 8 (pos 0))) (length-take-le c.args.columns (replicate 8 (pos 0)) c.requires.few)) c.of.ensures.some;
}
