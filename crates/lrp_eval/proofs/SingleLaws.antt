-- A store with at most one zone in each cell is settled.
use Rattle.std.proofs.Common.{◌≡◌, ◌≤◌, ℕ, zero, suc, List, [], ◌∷◌, length, Option, Contains, refl, sym, ap, subst, arith}
use Rattle.std.specs.Prelude.{ℤ}
use Rattle.std.proofs.lemmas.List.{length-map}
use Rattle.lrp_model.proofs.Decided.{contains_none}
use Rattle.lrp_zone.specs.Zones.{ZoneView, IsZone, columns_of}
use Rattle.lrp_zone.specs.Pairs.{IsOfCell}
use Rattle.lrp_store.specs.Settled.{AreSettled}
use Rattle.lrp_store.specs.Stores.{StoreView, IsStore, zone_of, tables_at, zones_at}
use Rattle.lrp_store.proofs.Held.{zone_held}
use Rattle.lrp_cutting.specs.Intervals.{IsFarBelow}
use Rattle.lrp_cutting.specs.Settling.{IsSettlement}
use Rattle.lrp_cutting.proofs.IntervalLaws.{intervals}
use Rattle.lrp_cutting.proofs.Lists.{from_map, in_one, one_in, pairs_one}
use Rattle.lrp_cutting.proofs.SettlingLaws.{one_settled, settled_alone, settled_none}
use Rattle.lrp_eval.specs.Settling.{HasSingleZones, IsSettledStore}

-- ---- one zone alone
only : {X : Type 0} (xs : List X) (x : X) → length xs ≤ 1 → Contains xs x → xs ≡ x ∷ []
only [] x l c = absurd (contains_none x c)
only (y ∷ []) x l c = ap (λ z. z ∷ []) (in_one y x c)
only (y ∷ z ∷ zs) x l c = absurd (omega arith)

module _ (z : ZoneView) (valid : IsZone z) where
  own_cell : (w : ZoneView) → Contains (z ∷ []) w → IsOfCell z w
  own_cell w l = subst (λ y. IsOfCell z y) (in_one z w l) (record { period = refl; residues = refl })

  on_line : columns_of z ≡ 1 → AreSettled z (z ∷ [])
  on_line one = record {
    none = λ e. refl;
    one = λ e. intervals (z ∷ []) (λ w l. subst (λ y. IsZone y × (columns_of y ≡ 1)) (in_one z w l) (valid, one)) (pairs_one IsFarBelow z)
        (λ q v a b. subst (λ y. IsOfCell y v) (in_one z q a) (own_cell v b));
    more = λ l. absurd (omega (arith, one));
    antichain = λ l. absurd (omega (arith, one));
  }

pub alone : (z : ZoneView) → IsZone z → IsSettlement z (z ∷ []) (z ∷ [])
alone z valid = by (columns_of z) refl
  where
    by : (n : ℕ) → columns_of z ≡ n → IsSettlement z (z ∷ []) (z ∷ [])
    by zero e = settled_none z (z ∷ []) valid e (one_in z) (record { each = own_cell z valid })
    by (suc zero) e = settled_alone z z valid (own_cell z valid z (one_in z)) (omega (arith, e)) (on_line z valid e)
    by (suc (suc n)) e = settled_alone z z valid (own_cell z valid z (one_in z)) (omega (arith, e)) (one_settled z z valid (own_cell z valid z (one_in z)) (omega (arith, e)))

pub singles_settled : (s : StoreView) → IsStore s → HasSingleZones s → IsSettledStore s s
singles_settled s is h = record {
  valid = is;
  shape = refl;
  period_is = refl;
  cells = λ cell z c.
      let t : (t : List (Option ℤ)) × Contains (tables_at s cell) t × (zone_of s cell t ≡ z) = from_map (zone_of s cell) (tables_at s cell) z c in
      let valid : IsZone z = subst IsZone t.2 (zone_held s is cell t.0 t.1) in
      let short : length (zones_at s cell) ≤ 1 = let n : length (zones_at s cell) ≡ length (tables_at s cell) = length-map (tables_at s cell) (zone_of s cell) in let l : length (tables_at s cell) ≤ 1 = h cell in omega arith in
      let one : zones_at s cell ≡ z ∷ [] = only (zones_at s cell) z short c in
      subst (λ zs. IsSettlement z zs zs) (sym one) (alone z valid);
  only = λ cell none. none;
}
