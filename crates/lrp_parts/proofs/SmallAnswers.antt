-- The zones of answers are small where no bound of theirs is above a number, and then there is room for the first tuple.
use Rattle.std.proofs.Common.{◌≡◌, ◌≤◌, ◌+◌, ◌*◌, ◌^◌, ℕ, zero, suc, length, take, Contains, refl, sym, ap, subst, arith, ◌∙◌}
use Rattle.std.proofs.Math.Nat.{mul-le-mul_right, pow-succ'}
use Rattle.std.proofs.lemmas.List.{length-take}
use Rattle.lrp_theory.specs.Entries.{AtMost}
use Rattle.lrp_theory.proofs.Through.{AtMost-more}
use Rattle.lrp_model.specs.declared.tuples.Cell.{Cell}
use Rattle.lrp_zone.specs.Zones.{ZoneView, IsZone, columns_of, reach_of}
use Rattle.lrp_zone.proofs.Reaches.{small_reach}
use Rattle.lrp_store.specs.Stores.{HasReach, IsStore, StoreView, tables_at, zone_of, zones_at}
use Rattle.lrp_store.proofs.Held.{zone_held}
use Rattle.lrp_cutting.specs.Settling.{IsSmallZone}
use Rattle.lrp_cutting.proofs.LineLaws.{more_small, small_zone}
use Rattle.lrp_cutting.proofs.Lists.{from_map, in_map}
use Rattle.lrp_store.specs.Least.{HasRoom}

-- a zone with no column stores no bound but 0
none_stored : (z : ZoneView) → IsZone z → columns_of z ≡ 0 → reach_of z ≤ 0
none_stored z valid none = small_reach z 0 valid.shape.columns valid.size valid.shape.outside (record {
  each = λ i j il jl.
      let a : i ≡ 0 = omega (arith, none) in
      let b : j ≡ 0 = omega (arith, none) in
      rw (a, b) (subst (λ e. AtMost 0 e) (sym (valid.shape.diagonal 0 (omega arith))) tt);
})

own_reach : (z : ZoneView) (R n : ℕ) → IsZone z → reach_of z ≤ R → columns_of z ≡ n → reach_of z ≤ columns_of z * R
own_reach z R zero valid low e = let l : reach_of z ≤ 0 = none_stored z valid e in omega (arith, l)
own_reach z R (suc n) valid low e = subst (λ k. reach_of z ≤ k * R) (sym e) (omega (arith, low))

-- each zone of a store is small
pub small_zones : (s : StoreView) → IsStore s → (m R : ℕ) → s.shape.times ≡ m → HasReach s R → (cell : Cell) (z : ZoneView) → Contains (zones_at s cell) z → IsSmallZone z (m * R)
small_zones s is m R times reach cell z c =
    let t = from_map (zone_of s cell) (tables_at s cell) z c in
    let valid : IsZone z = subst IsZone t.2 (zone_held s is cell t.0 t.1) in
    let low : reach_of z ≤ R = subst (λ (v : ZoneView). reach_of v ≤ R) t.2 (reach.each cell t.0 t.1) in
    let fewer : length (take s.shape.times cell.residues) ≤ s.shape.times = omega (arith, length-take s.shape.times cell.residues) in
    let few : columns_of z ≤ m = subst (λ n. columns_of z ≤ n) times (subst (λ (v : ZoneView). columns_of v ≤ s.shape.times) t.2 fewer) in
    let room : columns_of z * R ≤ m * R = mul-le-mul_right R few in
    more_small z (columns_of z * R) (m * R) room (small_zone z R valid low (own_reach z R (columns_of z) valid low refl))

-- ---- room

-- a number is below so many powers of two
one_more : (m : ℕ) → m + 1 ≤ 2 ^ m
one_more zero = omega arith
one_more (suc m) = let r : m + 1 ≤ 2 ^ m = one_more m in let e : 2 ^ suc m ≡ 2 * 2 ^ m = pow-succ' 2 m in omega arith

-- m * (m + 1) is at most 2 ^ (m + 1)
squares : (m : ℕ) → m * (m + 1) ≤ 2 ^ (m + 1)
squares zero = omega arith
squares (suc m) =
    let r : m * (m + 1) ≤ 2 ^ (m + 1) = squares m in
    let s : m + 1 ≤ 2 ^ m = one_more m in
    let d : 2 ^ (m + 1) ≡ 2 * 2 ^ m = ap (λ i. 2 ^ i) (omega arith) ∙ pow-succ' 2 m in
    let e : 2 ^ (suc m + 1) ≡ 2 * 2 ^ (m + 1) = ap (λ i. 2 ^ i) (omega arith) ∙ pow-succ' 2 (m + 1) in
    let f : suc m * (suc m + 1) ≡ m * (m + 1) + 2 * (m + 1) = omega arith in
    omega arith

scaled : (c m R : ℕ) → c ≤ m → 2 ^ (m + 1) * R ≤ 2 ^ 62 → c * ((m + 1) * R) ≤ 2 ^ 62
scaled c m R l h =
    let a : c * ((m + 1) * R) ≤ m * ((m + 1) * R) = mul-le-mul_right ((m + 1) * R) l in
    let b : m * (m + 1) * R ≤ 2 ^ (m + 1) * R = mul-le-mul_right R (squares m) in
    let e : m * ((m + 1) * R) ≡ m * (m + 1) * R = omega arith in
    omega arith

-- a store whose bounds leave so much room has room for its first tuple
pub roomy_store : (s : StoreView) → IsStore s → (m R : ℕ) → s.shape.times ≡ m → s.period ≤ R → HasReach s R → 2 ^ (m + 1) * R ≤ 2 ^ 62 → HasRoom s
roomy_store s is m R times period reach high = record {
  each = λ cell table held.
      let z = zone_of s cell table in
      let few : length (take s.shape.times cell.residues) ≤ s.shape.times = omega (arith, length-take s.shape.times cell.residues) in
      let c : columns_of z ≤ m = subst (λ n. columns_of z ≤ n) times few in
      let small = small_zones s is m R times reach cell z (in_map (zone_of s cell) (tables_at s cell) table held) in (
        (m + 1) * R,
        record {
          room = scaled (columns_of z) m R c high;
          period = let one : 1 * R ≤ (m + 1) * R = mul-le-mul_right R (omega arith) in omega (arith, one, period);
          closed = λ n closed same. record { each = λ i j il jl ne. AtMost-more (m * R) ((m + 1) * R) _ (mul-le-mul_right R (omega arith)) ((small.closed n closed same).each i j il jl ne) };
        },
      );
}
