-- The zone of a residue holds the members.
use Rattle.std.proofs.Common.{◌≡◌, arith, to_z, of_z}
use Rattle.std.specs.Int.{w64}
use Rattle.std.proofs.lemmas.Int.{ints}
use Rattle.lrp_lint.proofs.Points.{has_one, none_words, of_words, point_part_is, word_is}
use Rattle.lrp_lint.proofs.parts.point_part.Goals as goal

pub unreachable-requires : goal.unreachable-requires
unreachable-requires c =
    let at = c.args.at.now in
    let k : to_z w64 (of_z w64 at.period) ≡ at.period = word_is at.period (omega (arith, ints, c.requires.low)) c.requires.high in
    let residue = c.residue_of.ensures.residue in
    let r : to_z w64 (of_z w64 c.residue_of.result) ≡ c.residue_of.result = word_is c.residue_of.result (omega (arith, ints, residue.low)) (omega (arith, ints, residue.high, c.requires.high)) in
    has_one at c.residue_of.result c.residue_of.ensures.equal (none_words _ at.period _ c.residue_of.result k r c.in-None.ensures.none)

pub returns : goal.returns
returns c =
    let at = c.args.at.now in
    let k : to_z w64 (of_z w64 at.period) ≡ at.period = word_is at.period (omega (arith, ints, c.requires.low)) c.requires.high in
    let residue = c.residue_of.ensures.residue in
    let r : to_z w64 (of_z w64 c.residue_of.result) ≡ c.residue_of.result = word_is c.residue_of.result (omega (arith, ints, residue.low)) (omega (arith, ints, residue.high, c.requires.high)) in
    point_part_is at c.residue_of.result c.residue_of.ensures.equal c.in-Some.zone c.in-Some.ensures.valid (of_words _ at.period _ c.residue_of.result c.in-Some.zone k r c.in-Some.ensures.some) c.args.place _ c.of-in-Some.result c.of-in-Some.ensures.value c.of-in-Some.ensures.valid
