-- On either side of half the period.
use Rattle.std.proofs.Common.{SFits, rules, arith}
use Rattle.std.specs.Int.{w64}
use Rattle.std.proofs.lemmas.Int.{to_z-of_z, ints}
use Rattle.lrp_store.proofs.WholeFirst.{low_word, high_word, word_less}
use Rattle.lrp_store.proofs.nearest.nearest_of.Goals as goal

pub returns-then-residue-period : goal.returns-then-residue-period
returns-then-residue-period c =
    let fits : SFits w64 c.args.residue = search rules in
    low_word c.args.residue c.args.period _ (omega (arith, ints)) (omega (arith, ints)) (to_z-of_z w64 c.args.residue fits) (omega (arith, ints))

pub returns-else-residue-period : goal.returns-else-residue-period
returns-else-residue-period c =
    high_word c.args.residue c.args.period _ (omega (arith, ints)) (omega (arith, ints)) (word_less c.args.residue c.args.period (omega (arith, ints)) (omega (arith, ints)) (omega (arith, ints))) (omega (arith, ints))
