-- Tightening gives the floor of the bound, which fits in a word.
use Rattle.std.proofs.Common.{rules, arith, ◌^◌, pos, ◌≤ℤ◌, ◌-ℤ◌}
use Rattle.std.specs.Prelude.{neg_ℤ}
use Rattle.std.proofs.lemmas.Int.{ints}
use Rattle.lrp_theory.specs.Entries.{node}
use Rattle.lrp_theory.specs.Residues.{IsFloor}
use Rattle.lrp_zone.proofs.Floors.{at_most_some, floor_of, tightened_some, word, floor_small}
use Rattle.lrp_zone.proofs.tightening.tightest.Goals as goal

floor_is : (c : goal.After-tighten) → IsFloor (pos c.args.period) (node c.args.residues.now c.args.i -ℤ node c.args.residues.now c.args.j) c.in_ok-a.a c.tighten.result
floor_is c =
    let s : (neg_ℤ (pos (2 ^ 63)) ≤ℤ c.in_ok-a.a) × (c.in_ok-a.a ≤ℤ pos (2 ^ 63)) = at_most_some (2 ^ 63) c.args.bound c.in_ok-a.a (search rules) c.requires.small in
    let lo : neg_ℤ (pos (2 ^ 63)) ≤ℤ c.in_ok-a.a = s.0 in
    let hi : c.in_ok-a.a ≤ℤ pos (2 ^ 63) = s.1 in
    floor_of _ _ _ c.tighten.result _ _ _ c.tighten.ensures.below c.tighten.ensures.tight c.tighten.ensures.greatest (omega (arith, ints)) (omega (arith, ints)) (word c.in_ok-a.a (omega (arith, ints)) (omega (arith, ints)))

size_is : (c : goal.After-tighten) → (neg_ℤ (pos (2 ^ 64)) ≤ℤ c.tighten.result) × (c.tighten.result ≤ℤ pos (2 ^ 64))
size_is c = floor_small c.args.period _ c.in_ok-a.a c.tighten.result c.requires.low c.requires.high (at_most_some (2 ^ 63) c.args.bound c.in_ok-a.a (search rules) c.requires.small) (floor_is c)

pub returns-clause-value : goal.returns-clause-value
returns-clause-value c = tightened_some _ _ c.in_ok-a.a c.tighten.result _ _ (search rules) (word c.tighten.result (size_is c).0 (size_is c).1) (floor_is c)

pub returns-clause-small : goal.returns-clause-small
returns-clause-small c = rw (word c.tighten.result (size_is c).0 (size_is c).1) (size_is c)
