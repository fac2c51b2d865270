-- The bounds make the zone.
use Rattle.std.proofs.Common.{arith, take, replicate}
use Rattle.std.specs.Prelude.{pos}
use Rattle.std.proofs.lemmas.Int.{ints}
use Rattle.std.proofs.lemmas.List.{length-take-le}
use Rattle.lrp_steps.proofs.Compared.{compare_given, compare_none, compare_some, zeros_modulo_one, none_map, some_map}
use Rattle.lrp_steps.proofs.comparisons.compared.Goals as goal

pub of-requires-clause-given : goal.of-requires-clause-given
of-requires-clause-given c = compare_given c.args.left.now c.args.right.now c.args.op c.args.columns c.requires.few c.requires.left c.requires.right c.requires.reach c.bounds_of-bounds.result _ c.bounds_of-bounds.ensures (omega (arith, ints, c.requires.reach)) (take c.args.columns (replicate 8 (pos 0))) (length-take-le c.args.columns (replicate 8 (pos 0)) c.requires.few)

pub of-requires-clause-residues : goal.of-requires-clause-residues
of-requires-clause-residues c = λ p h. zeros_modulo_one c.args.columns p

pub returns : goal.returns
returns c = record {
  none = none_map c.of.result _ _ (compare_none c.args.left.now c.args.right.now c.args.op c.args.columns c.requires.few c.requires.left c.requires.right c.requires.reach c.bounds_of-bounds.result _ c.bounds_of-bounds.ensures (omega (arith, ints, c.requires.reach)) (take c.args.columns (replicate 8 (pos 0))) (length-take-le c.args.columns (replicate 8 (pos 0)) c.requires.few)) c.of.ensures.none;
  some = some_map c.of.result _ _ (compare_some c.args.left.now c.args.right.now c.args.op c.args.columns c.requires.few c.requires.left c.requires.right c.requires.reach c.bounds_of-bounds.result _ c.bounds_of-bounds.ensures (omega (arith, ints, c.requires.reach)) (take c.args.columns (replicate 8 (pos 0))) (length-take-le c.args.columns (replicate 8 (pos 0)) c.requires.few)) c.of.ensures.some;
}
