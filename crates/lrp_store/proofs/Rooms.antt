-- The reach of closed bounds, and of stores that are empty or grow.
use Rattle.std.proofs.Common.{◌≡◌, ℕ, ◌+◌, ◌-◌, ◌*◌, ◌^◌, ◌<◌, ◌≤◌, ◌≢◌, List, [], arith, ap, subst, ◌∙◌, length, unwrap_or}
use Rattle.std.specs.Prelude.{ℤ, pos}
use Rattle.std.specs.FinMap as finite
use Rattle.lrp_theory.specs.Bounds.{Within}
use Rattle.lrp_theory.specs.Entries.{entry, node, AtMost, IsLeastBound}
use Rattle.lrp_theory.proofs.Lists.{listed, difference}
use Rattle.lrp_theory.proofs.Small.{small_entry}
use Rattle.lrp_matrix.specs.Matrices.{MatrixView, IsClosed, HaveSameIntegers}
use Rattle.lrp_matrix.proofs.Lists.{list_meets, meets_nodes}
use Rattle.lrp_zone.specs.Zones.{ZoneView, IsZone, columns_of, reach_of}
use Rattle.lrp_zone.proofs.Reaches.{reach_small}
use Rattle.lrp_theory.specs.Divides.{Divides}
use Rattle.lrp_theory.proofs.Modulo.{Divides-self}
use Rattle.lrp_slots.specs.Lists.{cell_cmp}
use Rattle.lrp_store.specs.Growing.{IsGrown}
use Rattle.lrp_store.specs.Stores.{StoreView, HasReach, zone_of, tables_at}
use Rattle.lrp_store.specs.Least.{matrix_of}

module _ (z : ZoneView) (is : IsZone z) (m : MatrixView) (closed : IsClosed m) (same : HaveSameIntegers (matrix_of z) m) where
  -- a closed bound is the least that the numbers within the stored bounds meet
  pub least_stored : (i j : ℕ) → i < columns_of z + 1 → j < columns_of z + 1 → i ≢ j → IsLeastBound (columns_of z + 1) (entry z.bounds) i j (entry m.cells i j)
  least_stored i j il jl ne =
      let n : m.columns ≡ columns_of z = same.columns in
      let least = closed.least i j (omega arith) (omega arith) ne in
      record {
        met = λ x h. subst (λ d. Within d (entry m.cells i j)) (difference x (columns_of z) i j (omega arith) (omega arith)) (least.met (listed x (columns_of z)) (same.to _ (list_meets (matrix_of z) x h)));
        reached = λ d w. let r = least.reached d w in (node r.0, meets_nodes (matrix_of z) r.0 (same.from r.0 r.1), r.2);
      }

  -- so its magnitude is at most the number of columns times the reach
  pub closed_small : (h : ℕ) → reach_of z ≤ h → (i j : ℕ) → i < columns_of z + 1 → j < columns_of z + 1 → i ≢ j → AtMost (columns_of z * h) (entry m.cells i j)
  closed_small h reach i j il jl ne =
      subst (λ n. AtMost (n * h) (entry m.cells i j)) (less_one (columns_of z)) (small_entry (columns_of z + 1) h (entry z.bounds) i j (entry m.cells i j) (reach_small z h reach).each ne il jl (least_stored i j il jl ne))
    where
      less_one : (n : ℕ) → n + 1 - 1 ≡ n
      less_one n = omega arith

-- a reach of at most 2^55 leaves room for a period of at most 2^53
pub align_room : (s : StoreView) (k : ℕ) → HasReach s (2 ^ 55) → k ≤ 2 ^ 53 → HasReach s (2 ^ 62 - k)
align_room s k reach small = record { each = λ cell table held. let h : reach_of (zone_of s cell table) ≤ 2 ^ 55 = reach.each cell table held in omega arith }

-- an empty store has any reach
pub empty_reach : (s : StoreView) (h : ℕ) → s.tables ≡ finite.empty → HasReach s h
empty_reach s h e = record {
  each = λ cell table held.
      let l : held.0 < length (tables_at s cell) = held.1 in
      let n : length (tables_at s cell) ≡ 0 = ap (λ m. length (unwrap_or (finite.get m cell) [])) e ∙ ap (λ o. length (unwrap_or o [])) (finite.get-empty cell_cmp cell) in
      absurd (omega arith);
}

-- a store that grows by zones of at most its reach keeps it
pub grown_reach : (set : List ℤ → List ℕ → Type 0) (cap high h : ℕ) (old new : StoreView) → IsGrown set cap high old new → high ≤ h → HasReach old h → HasReach new h
grown_reach set cap high h old new g l r = g.reach h l r

-- a period divides itself
pub own_period : (a b : ℕ) → a ≡ b → Divides (pos a) (pos b)
own_period a b e = subst (λ n. Divides (pos a) (pos n)) e (Divides-self (pos a))
