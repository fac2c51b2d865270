-- Cells are settled one after another.
use Rattle.std.proofs.Common.{◌≡◌, ◌≢◌, ◌⊎◌, inl, inr, ⊎_elim, ◌<◌, List, [], ◌∷◌, ◌++◌, length, take, map, unwrap_or, Contains, refl, sym, ap, subst, ◌∙◌, arith}
use Rattle.std.specs.Prelude.{AllPairs}
use Rattle.std.specs.FinMap.{get-empty}
use Rattle.std.specs.FinMap as finite
use Rattle.lrp_model.specs.declared.tuples.Cell.{Cell}
use Rattle.lrp_model.proofs.Decided.{cons_cases, contains_first, contains_later, contains_none}
use Rattle.lrp_zone.specs.Zones.{ZoneView}
use Rattle.lrp_zone.specs.Pairs.{IsOfCell}
use Rattle.lrp_slots.specs.Lists.{cell_cmp, list_at}
use Rattle.lrp_store.specs.Stores.{StoreView, IsStore, IsCellOf, zone_of, tables_at, zones_at}
use Rattle.lrp_store.proofs.Held.{cell_or, cell_held}
use Rattle.lrp_cutting.specs.Differences.{AreOfCell}
use Rattle.lrp_cutting.specs.Settling.{IsLike, IsSettlement}
use Rattle.lrp_cutting.specs.Settling.{AddsZones, SettlesCell}
use Rattle.lrp_cutting.proofs.Lists.{from_map, some_in}
use Rattle.lrp_store.proofs.ZoneCounts.{first_differs, key_is, key_zone, keys_differ, rest_differ}
use Rattle.lrp_eval.specs.Settling.{IsSettledStore}

-- ---- the zones of a cell

pub one_cell : (s : StoreView) (cell : Cell) (z : ZoneView) → Contains (zones_at s cell) z → AreOfCell z (zones_at s cell)
one_cell s cell z c = record {
  each = λ w d.
      let a = from_map (zone_of s cell) (tables_at s cell) z c in
      let b = from_map (zone_of s cell) (tables_at s cell) w d in
      record { period = sym (ap (λ (v : ZoneView). v.period) b.2) ∙ ap (λ (v : ZoneView). v.period) a.2; residues = sym (ap (λ (v : ZoneView). v.residues) b.2) ∙ ap (λ (v : ZoneView). v.residues) a.2 };
}

-- zones of a cell, from their bounds
zones_back : (s : StoreView) (cell : Cell) (ws : List ZoneView) → ((w : ZoneView) → Contains ws w → (w.period ≡ s.period) × (w.residues ≡ take s.shape.times cell.residues)) → map (zone_of s cell) (map (λ w. w.bounds) ws) ≡ ws
zones_back s cell [] h = refl
zones_back s cell (w ∷ ws) h =
    let e = h w (contains_first w ws) in
    let a : zone_of s cell w.bounds ≡ w = ap (λ k. record { period = k; residues = take s.shape.times cell.residues; bounds = w.bounds }) (sym e.0) ∙ ap (λ rs. record { period = w.period; residues = rs; bounds = w.bounds }) (sym e.1) in
    ap (λ z. z ∷ map (zone_of s cell) (map (λ w. w.bounds) ws)) a ∙ ap (λ zs. w ∷ zs) (zones_back s cell ws (λ v c. h v (contains_later w v ws c)))

-- ---- cell after cell

-- the cells that are left are different and not held, and each other one is settled
pub record IsSettling (old new : StoreView) (left : List Cell) : Type 0 where
  pub shape : new.shape ≡ old.shape
  pub period_is : new.period ≡ old.period
  pub cells : (cell : Cell) (z : ZoneView) → Contains (zones_at old cell) z → Contains left cell ⊎ IsSettlement z (zones_at old cell) (zones_at new cell)
  pub only : (cell : Cell) → tables_at old cell ≡ [] → tables_at new cell ≡ []
  pub fresh : (cell : Cell) → Contains left cell → tables_at new cell ≡ []
  pub differ : AllPairs ◌≢◌ left
  pub held : (cell : Cell) → Contains left cell → (z : ZoneView) × Contains (zones_at old cell) z

-- one cell more
pub settling_more : (s old new : StoreView) (left rest : List Cell) (c : Cell) → left ≡ c ∷ rest → IsSettling s old left → SettlesCell c s old new → IsSettling s new rest
settling_more s old new left rest c el h settles =
    let g : IsSettling s old (c ∷ rest) = subst (λ l. IsSettling s old l) el h in
    let adds : AddsZones c settles.made old new = settles.adds in
    let shape : new.shape ≡ s.shape = adds.shape ∙ g.shape in
    let period : new.period ≡ s.period = adds.period ∙ g.period_is in
    let own : (z : ZoneView) → Contains (zones_at s c) z → IsSettlement z (zones_at s c) (zones_at new c) = λ z k.
    let i : IsSettlement z (zones_at s c) settles.made = settles.settled z k in
    let t = from_map (zone_of s c) (tables_at s c) z k in
    let b : tables_at new c ≡ map (λ w. w.bounds) settles.made = adds.here ∙ ap (λ l. l ++ map (λ w. w.bounds) settles.made) (g.fresh c (contains_first c rest)) in
    let e : zones_at new c ≡ settles.made =
    ap (map (zone_of new c)) b ∙ zones_back new c settles.made (λ w m. let o : IsOfCell z w = (i.zones w m).1 in (
      (o.period ∙ sym (ap (λ (v : ZoneView). v.period) t.2) ∙ sym period),
      o.residues ∙ sym (ap (λ (v : ZoneView). v.residues) t.2) ∙ sym (ap (λ sh. take sh.times c.residues) shape),
    )) in
    subst (λ zs. IsSettlement z (zones_at s c) zs) (sym e) i in
    record {
      shape = shape;
      period_is = period;
      cells = λ cell z k. ⊎_elim
          (λ same. inr (subst (λ d. IsSettlement z (zones_at s d) (zones_at new d)) (sym same.0) (own z (subst (λ d. Contains (zones_at s d) z) same.0 k))))
          (λ apart. ⊎_elim
          (λ l. ⊎_elim (λ e. absurd (apart.0 (sym e))) (λ r. inl r) (cons_cases c cell rest l))
          (λ d. inr (subst (λ zs. IsSettlement z (zones_at s cell) zs) (zones_same cell shape period apart.0) d))
          (g.cells cell z k))
          (cell_or cell c);
      only = λ cell none. ⊎_elim
          (λ same. absurd (let w = g.held c (contains_first c rest) in let t = from_map (zone_of s c) (tables_at s c) w.0 w.1 in contains_none t.0 (subst (λ l. Contains l t.0) (subst (λ d. tables_at s d ≡ []) same.0 none) t.1)))
          (λ apart. adds.others cell apart.0 ∙ g.only cell none)
          (cell_or cell c);
      fresh = λ cell k. adds.others cell (first_differs c rest g.differ cell k) ∙ g.fresh cell (contains_later c cell rest k);
      differ = rest_differ c rest g.differ;
      held = λ cell k. g.held cell (contains_later c cell rest k);
    }
  where
    zones_same : (cell : Cell) → new.shape ≡ s.shape → new.period ≡ s.period → cell ≢ c → zones_at old cell ≡ zones_at new cell
    zones_same cell shape period n =
        ap (map (zone_of old cell)) (sym (settles.adds.others cell n)) ∙ ap (λ k. map (λ t. record { period = k; residues = take old.shape.times cell.residues; bounds = t }) (tables_at new cell)) (sym settles.adds.period)
        ∙ ap (λ sh. map (λ t. record { period = new.period; residues = take sh.times cell.residues; bounds = t }) (tables_at new cell)) (sym settles.adds.shape)

-- all cells are settled
pub settled_all : (s new : StoreView) (left : List Cell) → left ≡ [] → IsStore new → IsSettling s new left → IsSettledStore s new
settled_all s new left none valid h = record {
  valid = valid;
  shape = h.shape;
  period_is = h.period_is;
  cells = λ cell z k. ⊎_elim (λ l. absurd (contains_none cell (subst (λ cs. Contains cs cell) none l))) (λ d. d) (h.cells cell z k);
  only = h.only;
}

-- ---- before the first cell

pub settling_none : (s new : StoreView) (left : List Cell) → IsStore s → new.shape ≡ s.shape → new.period ≡ s.period → new.tables ≡ finite.empty → left ≡ finite.keys s.tables → IsSettling s new left
settling_none s new left is shape period empty keys = record {
  shape = shape;
  period_is = period;
  cells = λ cell z k. let t = from_map (zone_of s cell) (tables_at s cell) z k in inl (subst (λ cs. Contains cs cell) (sym keys) (key_is s cell t.0 t.1));
  only = λ cell none. nothing cell;
  fresh = λ cell k. nothing cell;
  differ = subst (λ cs. AllPairs ◌≢◌ cs) (sym keys) (keys_differ s);
  held = λ cell k. key_zone s is cell (subst (λ cs. Contains cs cell) keys k);
}
  where
    nothing : (cell : Cell) → tables_at new cell ≡ []
    nothing cell = ap (λ m. list_at m cell) empty ∙ ap (λ o. unwrap_or o []) (get-empty cell_cmp cell)

-- the zones that a cell is settled to are of the cell
pub cell_of : (s old : StoreView) (c : Cell) (zones made : List ZoneView) → IsLike s old → zones ≡ zones_at s c → 0 < length zones
    → ((z : ZoneView) → Contains zones z → IsSettlement z zones made) → (w : ZoneView) → Contains made w → (w.period ≡ old.period) × (w.residues ≡ take old.shape.times c.residues)
cell_of s old c zones made like ez some settle w m =
    let z = some_in zones some in
    let t = from_map (zone_of s c) (tables_at s c) z.0 (subst (λ zs. Contains zs z.0) ez z.1) in
    let o : IsOfCell z.0 w = ((settle z.0 z.1).zones w m).1 in (
      o.period ∙ sym (ap (λ (v : ZoneView). v.period) t.2) ∙ sym like.period,
      o.residues ∙ sym (ap (λ (v : ZoneView). v.residues) t.2) ∙ sym (ap (λ sh. take sh.times c.residues) like.shape),
    )

pub proper_cell : (s : StoreView) → IsStore s → (c : Cell) → 0 < length (zones_at s c) → IsCellOf s.shape s.period c
proper_cell s is c some =
    let z = some_in (zones_at s c) some in
    let t = from_map (zone_of s c) (tables_at s c) z.0 z.1 in
    cell_held s is c t.0 t.1

pub some_zone : (s old : StoreView) (left rest : List Cell) (c : Cell) → left ≡ c ∷ rest → IsSettling s old left → 0 < length (zones_at s c)
some_zone s old left rest c el h = let z = h.held c (subst (λ l. Contains l c) (sym el) (contains_first c rest)) in omega (arith, z.1.1)
