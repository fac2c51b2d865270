-- Equal remainders are equal numbers modulo the period.
use Rattle.std.proofs.Common.{rules, arith, ap, ◌∙◌, ◌≡◌, pos, to_z, of_z}
use Rattle.std.specs.Int.{int_rem_euclid}
use Rattle.std.specs.Int.{w64}
use Rattle.lrp_theory.specs.Entries.{node}
use Rattle.std.proofs.lemmas.Int.{ints}
use Rattle.lrp_theory.proofs.Tests.{same_remainders}
use Rattle.lrp_zone.proofs.tuples.agrees.Goals as goal

first_is : (c : goal.After-remainder-2) → to_z w64 (of_z w64 c.value.result) ≡ node c.args.xs.now c.args.i
first_is c = omega (arith, ints)

second_is : (c : goal.After-remainder-2) → to_z w64 (of_z w64 c.value-2.result) ≡ node c.args.residues.now c.args.i
second_is c = omega (arith, ints)

pub returns : goal.returns
returns c =
    let same = same_remainders c.args.period (node c.args.xs.now c.args.i) (node c.args.residues.now c.args.i) c.remainder.result c.remainder-2.result c.requires.low
    (c.remainder.ensures.value ∙ ap (λ y. int_rem_euclid y (pos c.args.period)) (first_is c)) (c.remainder-2.ensures.value ∙ ap (λ y. int_rem_euclid y (pos c.args.period)) (second_is c))
    c.remainder.ensures.below c.remainder-2.ensures.below in
    ((λ t. let e : c.remainder.result ≡ c.remainder-2.result = search rules in same.0 e), (λ d. let e : c.remainder.result ≡ c.remainder-2.result = same.1 d in search rules))
