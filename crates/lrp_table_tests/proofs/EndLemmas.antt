-- Stores of integers up to the limit have room for a least answer.
use Rattle.std.proofs.Common.{◌≡◌, ℕ, ◌+◌, ◌*◌, ◌≤◌, ◌^◌, zero, suc, List, [], ◌∷◌, Option, Some, None, length, take, subst, ap, ◌∙◌, arith}
use Rattle.std.specs.Prelude.{ℤ}
use Rattle.std.specs.FinMap as finite
use Rattle.std.proofs.lemmas.Int.{ints}
use Rattle.lrp_theory.specs.Entries.{AtMost, entry}
use Rattle.lrp_zone.specs.Zones.{ZoneView, columns_of, greatest_of, reach_of}
use Rattle.lrp_store.specs.Growing.{IsGrown}
use Rattle.lrp_store.specs.Least.{HasRoom}
use Rattle.lrp_store.specs.Stores.{IsStore, StoreView, zone_of}
use Rattle.lrp_store.proofs.Held.{zone_held}
use Rattle.lrp_store.proofs.Rooms.{closed_small, empty_reach, grown_reach}
use Rattle.lrp_table_tests.specs.Integers.{HoldsIntegers, IsOfIntegers}

pub none_held : (s : StoreView) → s.shape.times ≡ 1 → s.shape.texts ≡ 0 → s.period ≡ 1 → s.tables ≡ finite.empty → HoldsIntegers s
none_held s t x p e = record { times = t; texts = x; period = p; reach = empty_reach s (2 ^ 62) e }

pub more_held : (set : List ℤ → List ℕ → Type 0) (cap : ℕ) (z : ZoneView) (old new : StoreView) → HoldsIntegers old → IsOfIntegers (2 ^ 62 + 1) z → IsGrown set cap (greatest_of z.bounds) old new → HoldsIntegers new
more_held set cap z old new h i g =
    let one : z.period ≡ 1 = i.period in
    let r : reach_of z + z.period ≤ 2 ^ 62 + 1 = i.reach in
    record {
      times = ap (λ s. s.times) g.shape ∙ h.times;
      texts = ap (λ s. s.texts) g.shape ∙ h.texts;
      period = g.period ∙ h.period;
      reach = grown_reach set cap (greatest_of z.bounds) (2 ^ 62) old new g (omega (arith, r, one)) h.reach;
    }

within_one : (n : ℕ) (e : Option ℤ) → n ≤ 1 → AtMost (n * 2 ^ 62) e → AtMost (2 ^ 62) e
within_one zero None l a = tt
within_one zero (Some x) l a = (omega (arith, ints), omega (arith, ints))
within_one (suc zero) e l a = a
within_one (suc (suc n)) e l a = absurd (omega arith)

fewer : {X : Type 0} (n : ℕ) (xs : List X) → length (take n xs) ≤ n
fewer zero [] = omega arith
fewer zero (x ∷ xs) = omega arith
fewer (suc n) [] = omega arith
fewer (suc n) (x ∷ xs) = let r : length (take n xs) ≤ n = fewer n xs in omega arith

pub room : (s : StoreView) → IsStore s → HoldsIntegers s → HasRoom s
room s is h = record {
  each = λ c t held.
      let z : ZoneView = zone_of s c t in
      let few : columns_of z ≤ 1 = subst (λ n. columns_of z ≤ n) h.times (fewer s.shape.times c.residues) in
      let one : z.period ≡ 1 = h.period in (
        2 ^ 62,
        record {
          room = omega (arith, few);
          period = omega (arith, one);
          closed = λ m closed same. record { each = λ i j il jl ne. within_one (columns_of z) (entry m.cells i j) few (closed_small z (zone_held s is c t held) m closed same (2 ^ 62) (h.reach.each c t held) i j il jl ne) };
        },
      );
}
