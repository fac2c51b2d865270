-- Room for the text of an answer, in both of its forms.
use Rattle.std.proofs.Common.{◌≡◌, ◌≢◌, ℕ, zero, suc, ◌+◌, ◌*◌, ◌<◌, ◌^◌, ◌≤◌, Option, Some, None, arith}
use Rattle.std.specs.Prelude.{ℤ}
use Rattle.std.proofs.Math.Nat.{mul-div-le, le-div_iff_mul-le}
use Rattle.std.proofs.lemmas.Int.{ints}
use Rattle.lrp_theory.specs.Entries.{AtMost, entry}
use Rattle.lrp_zone.specs.Zones.{columns_of}
use Rattle.lrp_store.specs.Least.{HasRoom}
use Rattle.lrp_store.specs.Stores.{StoreView, zone_of}
use Rattle.lrp_outputs.specs.Rooms.{IsRoomy, greatest_share, greatest_in}

-- a bound within a limit is within a greater one
pub within_more : (h k : ℕ) (f : Option ℤ) → h ≤ k → AtMost h f → AtMost k f
within_more h k None le a = tt
within_more h k (Some x) le a = (omega (arith, ints), omega (arith, ints))

-- so many of the greatest number are at most 2^62
few_greatest : (n period : ℕ) → n * greatest_share n period ≤ 2 ^ 62
few_greatest zero period = omega arith
few_greatest (suc n) period = mul-div-le (2 ^ 62) (suc n)

-- each number of which so many are at most 2^62 is below it
below_greatest : (n period h : ℕ) → suc n * h ≤ 2 ^ 62 → h ≤ greatest_share (suc n) period
below_greatest n period h room = (le-div_iff_mul-le {k = suc n} {x = h} {y = 2 ^ 62} (omega arith)).1 (let r : suc n * h ≤ 2 ^ 62 = room in let e : h * suc n ≡ suc n * h = omega arith in omega arith)

period_below : (n period h : ℕ) → n * h ≤ 2 ^ 62 → period ≤ h → period ≤ greatest_share n period
period_below zero period h room low = omega arith
period_below (suc n) period h room low = let b : h ≤ greatest_share (suc n) period = below_greatest n period h room in omega arith

grown : (n period h : ℕ) (f : Option ℤ) (i j : ℕ) → n * h ≤ 2 ^ 62 → i < n + 1 → j < n + 1 → i ≢ j → AtMost h f → AtMost (greatest_share n period) f
grown zero period h f i j room il jl ne a = absurd (ne (omega arith))
grown (suc n) period h f i j room il jl ne a = within_more h (greatest_share (suc n) period) f (below_greatest n period h room) a

pub roomy : (s : StoreView) → HasRoom s → IsRoomy s
roomy s has = λ cell table held.
    let z = zone_of s cell table in
    let r = has.each cell table held in (
      period_below (columns_of z) z.period r.0 r.1.room r.1.period,
      λ m closed same i j il jl ne. grown (columns_of z) z.period r.0 (entry m.cells i j) i j r.1.room il jl ne ((r.1.closed m closed same).each i j il jl ne),
    )

pub room : (s : StoreView) → IsRoomy s → HasRoom s
room s is = record {
  each = λ cell table held.
      let z = zone_of s cell table in
      let r = is cell table held in (
        greatest_in z,
        record { room = few_greatest (columns_of z) z.period; period = r.0; closed = λ m closed same. record { each = λ i j il jl ne. r.1 m closed same i j il jl ne } },
      );
}
