-- The zone of the bounds has the tuples of each zone.
use Rattle.std.proofs.Common.{take, replicate, subst, sym}
use Rattle.std.specs.Prelude.{pos}
use Rattle.std.proofs.lemmas.List.{length-take-le}
use Rattle.lrp_hulls.specs.Common.{AreCommonBounds}
use Rattle.lrp_hulls.proofs.Commoned.{common_given, common_found, zero_residues}
use Rattle.lrp_hulls.proofs.common.common_zone.Goals as goal

pub of-requires-clause-given : goal.of-requires-clause-given
of-requires-clause-given c = common_given c.args.columns c.args.pieces.now c.requires.columns _ (subst (AreCommonBounds c.args.columns c.args.pieces.now) (sym c.as_slice.ensures.value) c.in_ok-bounds.ensures) (take c.args.columns (replicate 8 (pos 0))) (length-take-le c.args.columns (replicate 8 (pos 0)) c.requires.few)

pub of-requires-clause-residues : goal.of-requires-clause-residues
of-requires-clause-residues c = λ p h. zero_residues c.args.columns p

pub returns : goal.returns
returns c = common_found c.args.columns c.args.pieces.now c.requires.columns _ (subst (AreCommonBounds c.args.columns c.args.pieces.now) (sym c.as_slice.ensures.value) c.in_ok-bounds.ensures) (take c.args.columns (replicate 8 (pos 0))) (length-take-le c.args.columns (replicate 8 (pos 0)) c.requires.few) c.of.result c.of.ensures.some
