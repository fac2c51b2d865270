-- The zone of the two bounds.
use Rattle.std.proofs.Common.{◌≡◌, ℕ, ◌<◌, ◌≤◌, ◌^◌, ◌∷◌, [], ap, arith, refl, to_z, w64}
use Rattle.std.specs.Prelude.{pos}
use Rattle.std.proofs.lemmas.Int.{to_z_pos}
use Rattle.lrp_canon.proofs.ZoneRows.{given, some_meets, zone_is}
use Rattle.lrp_canon.proofs.storing.zone_of.Goals as goal

residue_word : (r period : ℕ) → r < period → period ≤ 2 ^ 62 → to_z w64 r ≡ pos r
residue_word r period l h = to_z_pos w64 r (omega (arith, l, h))

pub of-requires-clause-given : goal.of-requires-clause-given
of-requires-clause-given c = given c.args.period c.args.row.now c.requires.row c.requires.high _ (to_z_pos w64 c.args.period (omega (arith, c.requires.high))) _ (ap (λ r. r ∷ []) (residue_word c.args.row.now.residue c.args.period c.requires.row.below c.requires.high)) _
    (rw (c.low_bound.ensures, c.high_bound.ensures) refl)

pub unreachable-requires : goal.unreachable-requires
unreachable-requires c = some_meets c.args.period c.args.row.now c.requires.row c.requires.high _ (to_z_pos w64 c.args.period (omega (arith, c.requires.high))) _ (ap (λ r. r ∷ []) (residue_word c.args.row.now.residue c.args.period c.requires.row.below c.requires.high)) (c.low_bound.result ∷ c.high_bound.result ∷ [])
    (rw (c.low_bound.ensures, c.high_bound.ensures) refl) c.in-None.ensures.none

pub returns : goal.returns
returns c = zone_is c.args.period c.args.row.now c.requires.row c.requires.high _ (to_z_pos w64 c.args.period (omega (arith, c.requires.high))) _ (ap (λ r. r ∷ []) (residue_word c.args.row.now.residue c.args.period c.requires.row.below c.requires.high)) (c.low_bound.result ∷ c.high_bound.result ∷ [])
    (rw (c.low_bound.ensures, c.high_bound.ensures) refl) c.in-Some.zone c.in-Some.ensures.valid c.in-Some.ensures.some
