-- The turn is the exact quotient.
use Rattle.std.proofs.Common.{◌≡◌, ◌^◌, Some, arith, subst, sym, to_z, of_z, w64}
use Rattle.std.specs.Prelude.{ℤ, pos, ◌-ℤ◌, ◌≤ℤ◌, neg_ℤ}
use Rattle.std.proofs.lemmas.Int.{ints}
use Rattle.lrp_theory.specs.Entries.{AtMost}
use Rattle.lrp_zone.specs.Zones.{IsTight}
use Rattle.lrp_spans.specs.Spans.{IsTurnOf}
use Rattle.lrp_spans.proofs.TurnLaws.{quotient}
use Rattle.lrp_spans.proofs.shifting.turn_of.Goals as goal

word : (q : ℤ) → AtMost (2 ^ 62) (Some q) → to_z w64 (of_z w64 q) ≡ q
word q a = let l : neg_ℤ (pos (2 ^ 62)) ≤ℤ q = a.0 in let h : q ≤ℤ pos (2 ^ 62) = a.1 in omega (arith, ints)

-- the difference of a bound and a residue is a word
difference : (a r : ℤ) → AtMost (2 ^ 62) (Some a) → pos 0 ≤ℤ r → r ≤ℤ pos (2 ^ 62) → to_z w64 (of_z w64 (to_z w64 (of_z w64 a) -ℤ to_z w64 (of_z w64 r))) ≡ a -ℤ r
difference a r s l h =
    let al : neg_ℤ (pos (2 ^ 62)) ≤ℤ a = s.0 in
    let ah : a ≤ℤ pos (2 ^ 62) = s.1 in
    let wa : to_z w64 (of_z w64 a) ≡ a = omega (arith, ints) in
    let wr : to_z w64 (of_z w64 r) ≡ r = omega (arith, ints) in
    rw (wa, wr) (inner a r al ah l h)
  where
    inner : (a r : ℤ) → neg_ℤ (pos (2 ^ 62)) ≤ℤ a → a ≤ℤ pos (2 ^ 62) → pos 0 ≤ℤ r → r ≤ℤ pos (2 ^ 62) → to_z w64 (of_z w64 (a -ℤ r)) ≡ a -ℤ r
    inner a r al ah l h = omega (arith, ints)

pub returns-clause-turn : goal.returns-clause-turn
returns-clause-turn c =
    let t = subst (IsTight c.args.period c.args.residue) c.in_ok-number.was c.requires.bound in
    let q = quotient c.args.period c.args.residue c.args.bound c.in_ok-number.number c.div_euclid.result (to_z w64 (of_z w64 (to_z w64 (of_z w64 c.in_ok-number.number) -ℤ to_z w64 (of_z w64 c.args.residue)))) (to_z w64 (of_z w64 c.args.period)) c.div_euclid.ensures c.in_ok-number.was c.requires.bound c.requires.period_low c.requires.residue_low c.requires.residue_high
    (omega (arith, ints, c.requires.period_low, c.requires.period_high)) (difference c.in_ok-number.number c.args.residue t.1 c.requires.residue_low (omega (arith, ints, c.requires.residue_high, c.requires.period_high))) in
    subst (λ w. IsTurnOf c.args.period c.args.residue c.args.bound (Some w)) (sym (word c.div_euclid.result q.1)) q.0

pub returns-clause-small : goal.returns-clause-small
returns-clause-small c =
    let t = subst (IsTight c.args.period c.args.residue) c.in_ok-number.was c.requires.bound in
    let q = quotient c.args.period c.args.residue c.args.bound c.in_ok-number.number c.div_euclid.result (to_z w64 (of_z w64 (to_z w64 (of_z w64 c.in_ok-number.number) -ℤ to_z w64 (of_z w64 c.args.residue)))) (to_z w64 (of_z w64 c.args.period)) c.div_euclid.ensures c.in_ok-number.was c.requires.bound c.requires.period_low c.requires.residue_low c.requires.residue_high
    (omega (arith, ints, c.requires.period_low, c.requires.period_high)) (difference c.in_ok-number.number c.args.residue t.1 c.requires.residue_low (omega (arith, ints, c.requires.residue_high, c.requires.period_high))) in
    subst (λ w. AtMost (2 ^ 62) (Some w)) (sym (word c.div_euclid.result q.1)) q.1
