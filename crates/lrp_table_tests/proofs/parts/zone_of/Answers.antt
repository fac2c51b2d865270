-- The reach of a zone is at most its greatest bound and its period.
use Rattle.std.proofs.Common.{◌≡◌, ℕ, ◌+◌, ◌-◌, ◌<◌, ◌≤◌, ◌^◌, List, Option, Some, None, arith, length}
use Rattle.std.specs.Prelude.{ℤ, pos, nat_abs, IfSome}
use Rattle.std.proofs.lemmas.Int.{ints}
use Rattle.lrp_model.specs.declared.relations.Bound.{Bound}
use Rattle.lrp_zone.specs.Zones.{ZoneView, reach_of}
use Rattle.lrp_zone.specs.Given.{bound_at, IsGivenZone}
use Rattle.lrp_table_tests.proofs.parts.zone_of.Goals as goal

small_reach : (k : ℤ) (rs : List ℤ) (bs : List Bound) → nat_abs k ≤ 2 ^ 53 → ((i : ℕ) → i < length bs → nat_abs (bound_at bs i).most ≤ 2 ^ 53) → (o : Option ZoneView) → IfSome o (λ z. IsGivenZone k rs bs z) → IfSome o (λ z. reach_of z + z.period ≤ 2 ^ 55)
small_reach k rs bs high small None h = tt
small_reach k rs bs high small (Some z) h =
    let r : reach_of z ≤ 2 ^ 53 + (z.period - 1) = h.reach (2 ^ 53) small in
    let e : pos z.period ≡ k = h.period in
    omega (arith, ints)

pub returns-clause-reach : goal.returns-clause-reach
returns-clause-reach g c = small_reach _ _ _ c.check_residues.ensures.high (λ i il. (c.loop-bound.invariant i (omega arith)).2) c.of.result c.of.ensures.some
