-- The point's zone at the column.
use Rattle.std.proofs.Common.{◌≡◌, ◌<◌, rules, arith, to_z, of_z, subst, refl}
use Rattle.std.specs.Prelude.{nat_abs}
use Rattle.std.specs.Int.{w64}
use Rattle.std.proofs.lemmas.Int.{ints}
use Rattle.lrp_zone.specs.Zones.{IsResidue}
use Rattle.lrp_steps.proofs.Compared.{word_is}
use Rattle.lrp_steps.proofs.Conditioned.{member_test, member_no, number_test, number_no, shift_words, shift_back, of_words, none_words, any_test}
use Rattle.lrp_steps.proofs.conditions.with_member.Goals as goal

pub returns-then-point-eq1 : goal.returns-then-point-eq1
returns-then-point-eq1 c = λ domain texts. any_test domain c.args.times.now texts c.args.term.now c.args.point (omega (arith, ints, c.if-point-eq1.true)) c.args.pattern c.requires.known

pub returns-then-residue-eq0 : goal.returns-then-residue-eq0
returns-then-residue-eq0 c = λ domain texts.
    let k : to_z w64 (of_z w64 c.args.point.period) ≡ c.args.point.period = word_is c.args.point.period (omega (arith, ints, c.requires.low)) c.requires.high in
    let o : to_z w64 (of_z w64 c.args.point.offset) ≡ c.args.point.offset = search rules in
    let p : to_z w64 (of_z w64 c.side_of-side.result.plus) ≡ c.side_of-side.result.plus = search rules in
    let is : IsResidue (nat_abs c.args.point.period) c.shifted-residue.result = subst (λ y. IsResidue (nat_abs y) c.shifted-residue.result) k c.shifted-residue.ensures.residue in
    number_test domain c.args.times.now texts c.args.term.now c.args.point c.side_of-side.result c.side_of-side.ensures.value c.side_of-side.ensures.column c.requires.low c.shifted-residue.result is
    (shift_words c.shifted-residue.result c.args.point.period _ c.args.point.offset _ c.side_of-side.result.plus _ k o p c.shifted-residue.ensures.to) (shift_back c.shifted-residue.result c.args.point.period _ c.args.point.offset _ c.side_of-side.result.plus _ k o p c.shifted-residue.ensures.from) c.args.pattern c.requires.known c.if-side-eq0.true (omega (arith, ints, c.if-residue-eq0.true)) _ refl

pub returns-else-residue-eq0 : goal.returns-else-residue-eq0
returns-else-residue-eq0 c = λ domain texts.
    let k : to_z w64 (of_z w64 c.args.point.period) ≡ c.args.point.period = word_is c.args.point.period (omega (arith, ints, c.requires.low)) c.requires.high in
    let o : to_z w64 (of_z w64 c.args.point.offset) ≡ c.args.point.offset = search rules in
    let p : to_z w64 (of_z w64 c.side_of-side.result.plus) ≡ c.side_of-side.result.plus = search rules in
    let is : IsResidue (nat_abs c.args.point.period) c.shifted-residue.result = subst (λ y. IsResidue (nat_abs y) c.shifted-residue.result) k c.shifted-residue.ensures.residue in
    number_no domain c.args.times.now texts c.args.term.now c.args.point c.side_of-side.result c.side_of-side.ensures.value c.side_of-side.ensures.column c.requires.low c.shifted-residue.result is
    (shift_words c.shifted-residue.result c.args.point.period _ c.args.point.offset _ c.side_of-side.result.plus _ k o p c.shifted-residue.ensures.to) (shift_back c.shifted-residue.result c.args.point.period _ c.args.point.offset _ c.side_of-side.result.plus _ k o p c.shifted-residue.ensures.from) c.args.pattern c.requires.known c.if-side-eq0.true (λ e. omega (arith, ints, c.if-residue-eq0.false, e))

pub returns-in_ok-with_zone-in-Some : goal.returns-in_ok-with_zone-in-Some
returns-in_ok-with_zone-in-Some c = λ domain texts.
    let k : to_z w64 (of_z w64 c.args.point.period) ≡ c.args.point.period = word_is c.args.point.period (omega (arith, ints, c.requires.low)) c.requires.high in
    let o : to_z w64 (of_z w64 c.args.point.offset) ≡ c.args.point.offset = search rules in
    let p : to_z w64 (of_z w64 c.side_of-side.result.plus) ≡ c.side_of-side.result.plus = search rules in
    let is : IsResidue (nat_abs c.args.point.period) c.shifted-residue.result = subst (λ y. IsResidue (nat_abs y) c.shifted-residue.result) k c.shifted-residue.ensures.residue in
    let r : to_z w64 (of_z w64 c.shifted-residue.result) ≡ c.shifted-residue.result = word_is c.shifted-residue.result (omega (arith, ints, is.low)) (omega (arith, ints, is.high, c.requires.high)) in
    let positive : 0 < c.side_of-side.result.column = omega (arith, c.if-side-eq0.false) in
    member_test domain c.args.times.now texts c.args.term.now c.args.point c.side_of-side.result c.side_of-side.ensures.value c.side_of-side.ensures.column c.requires.low c.shifted-residue.result is
    (shift_words c.shifted-residue.result c.args.point.period _ c.args.point.offset _ c.side_of-side.result.plus _ k o p c.shifted-residue.ensures.to) (shift_back c.shifted-residue.result c.args.point.period _ c.args.point.offset _ c.side_of-side.result.plus _ k o p c.shifted-residue.ensures.from) c.args.pattern c.requires.known c.in-Some.zone c.in-Some.ensures.valid (of_words _ c.args.point.period _ c.shifted-residue.result c.in-Some.zone k r c.in-Some.ensures.some) positive _ c.in_ok-with_zone-in-Some.ensures

pub returns-in-None : goal.returns-in-None
returns-in-None c = λ domain texts.
    let k : to_z w64 (of_z w64 c.args.point.period) ≡ c.args.point.period = word_is c.args.point.period (omega (arith, ints, c.requires.low)) c.requires.high in
    let o : to_z w64 (of_z w64 c.args.point.offset) ≡ c.args.point.offset = search rules in
    let p : to_z w64 (of_z w64 c.side_of-side.result.plus) ≡ c.side_of-side.result.plus = search rules in
    let is : IsResidue (nat_abs c.args.point.period) c.shifted-residue.result = subst (λ y. IsResidue (nat_abs y) c.shifted-residue.result) k c.shifted-residue.ensures.residue in
    let r : to_z w64 (of_z w64 c.shifted-residue.result) ≡ c.shifted-residue.result = word_is c.shifted-residue.result (omega (arith, ints, is.low)) (omega (arith, ints, is.high, c.requires.high)) in
    member_no domain c.args.times.now texts c.args.term.now c.args.point c.side_of-side.result c.side_of-side.ensures.value c.side_of-side.ensures.column c.requires.low c.shifted-residue.result is
    (shift_words c.shifted-residue.result c.args.point.period _ c.args.point.offset _ c.side_of-side.result.plus _ k o p c.shifted-residue.ensures.to) (shift_back c.shifted-residue.result c.args.point.period _ c.args.point.offset _ c.side_of-side.result.plus _ k o p c.shifted-residue.ensures.from) c.args.pattern c.requires.known (none_words _ c.args.point.period _ c.shifted-residue.result k r c.in-None.ensures.none)
