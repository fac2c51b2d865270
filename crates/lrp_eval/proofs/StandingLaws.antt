-- Cells that are settled as they stand, one after another.
use Rattle.std.proofs.Common.{◌≡◌, ◌⊎◌, inl, inr, ⊎_elim, ◌≤◌, ◌+◌, ◌*◌, ◌^◌, ℕ, List, [], ◌∷◌, Contains, refl, sym, subst, arith}
use Rattle.std.specs.FinMap as finite
use Rattle.lrp_model.specs.declared.tuples.Cell.{Cell}
use Rattle.lrp_model.proofs.Decided.{cons_cases, contains_none}
use Rattle.lrp_zone.specs.Zones.{ZoneView, columns_of, reach_of}
use Rattle.lrp_store.specs.Stores.{StoreView, IsStore, tables_at, zone_of, zones_at}
use Rattle.lrp_cutting.specs.Settling.{IsSettlement}
use Rattle.lrp_cutting.proofs.SettledLaws.{zone_on_line}
use Rattle.lrp_eval.specs.Settling.{CanSettle, IsSettledStore}
use Rattle.lrp_store.proofs.ZoneCounts.{key_is}
use Rattle.lrp_cutting.proofs.Lists.{from_map}

-- the zones of the cell are a settlement of themselves
abbrev pub StandsSettled : StoreView → Cell → Type 0
StandsSettled s cell = (z : ZoneView) → Contains (zones_at s cell) z → IsSettlement z (zones_at s cell) (zones_at s cell)

-- so are those of each cell that is not left
pub record AreStanding (s : StoreView) (left : List Cell) : Type 0 where
  pub each : (cell : Cell) → Contains (finite.keys s.tables) cell → Contains left cell ⊎ StandsSettled s cell

pub standing_none : (s : StoreView) (left : List Cell) → left ≡ finite.keys s.tables → AreStanding s left
standing_none s left e = record { each = λ cell k. inl (subst (λ cs. Contains cs cell) (sym e) k) }

pub standing_more : (s : StoreView) (left rest : List Cell) (c : Cell) → left ≡ c ∷ rest → AreStanding s left → StandsSettled s c → AreStanding s rest
standing_more s left rest c e h own = record {
  each = λ cell k. ⊎_elim
      (λ l. ⊎_elim (λ same. inr (subst (StandsSettled s) same own)) (λ r. inl r) (cons_cases c cell rest (subst (λ cs. Contains cs cell) e l)))
      (λ d. inr d)
      (h.each cell k);
}

pub standing_all : (s : StoreView) (left : List Cell) → IsStore s → left ≡ [] → AreStanding s left → IsSettledStore s s
standing_all s left is none h = record {
  valid = is;
  shape = refl;
  period_is = refl;
  cells = λ cell z k.
      let t = from_map (zone_of s cell) (tables_at s cell) z k in
      ⊎_elim (λ l. absurd (contains_none cell (subst (λ cs. Contains cs cell) none l))) (λ d. d z k) (h.each cell (key_is s cell t.0 t.1));
  only = λ cell empty. empty;
}

-- a zone of one column has room for a period more
pub line_room : (s : StoreView) → IsStore s → s.shape.times ≡ 1 → CanSettle s → (cell : Cell) (z : ZoneView) → Contains (zones_at s cell) z → reach_of z + z.period ≤ 2 ^ 62
line_room s is one room cell z k =
    let e : columns_of z ≡ 1 = (zone_on_line s is cell one z k).1 in
    let r : columns_of z * reach_of z + z.period ≤ 2 ^ 62 = room cell z k in
    once (columns_of z) (reach_of z) z.period e r
  where
    once : (n h k : ℕ) → n ≡ 1 → n * h + k ≤ 2 ^ 62 → h + k ≤ 2 ^ 62
    once n h k e r = let m : 1 * h + k ≤ 2 ^ 62 = subst (λ j. j * h + k ≤ 2 ^ 62) e r in omega arith
