-- Zones are appended to a cell's list in a store, and intervals that are merged with them.
use Rattle.std.proofs.Common.{◌≡◌, ⊎_elim, List, [], ◌∷◌, ◌++◌, map, take, refl, sym, ap, subst, ◌∙◌}
use Rattle.std.specs.Prelude.{pos, Contains}
use Rattle.std.specs.FinMap as finite
use Rattle.lrp_model.specs.declared.tuples.Cell.{Cell}
use Rattle.lrp_model.specs.declared.tuples.Shape.{Shape}
use Rattle.lrp_zone.specs.Zones.{ZoneView}
use Rattle.lrp_store.specs.Stores.{StoreView, IsPadded, tables_at, zones_at}
use Rattle.lrp_store.proofs.Held.{list_put}
use Rattle.lrp_cutting.specs.declared.intervals.Interval.{Interval}
use Rattle.lrp_cutting.specs.Intervals.{BeginsBy, IsInterval, IsJoinedInterval, LiesApart}
use Rattle.lrp_cutting.specs.Lines.{AddsMerged, AddsSpan, AreOnLine, HaveNumbers}
use Rattle.lrp_cutting.specs.Settling.{AddsZones, SettlesCell, IsPlaceOf}
use Rattle.lrp_cutting.proofs.LineLaws.{merged_settled}
use Rattle.lrp_cutting.proofs.Lists.{in_none, in_nothing, pairs_none}
use Rattle.lrp_cutting.proofs.MergeLaws.{AreMerging, merging_apart, merging_end, merging_joined, merging_start}
use Rattle.lrp_cutting.proofs.SettlingLaws.{settlement_moved}
use Rattle.lrp_cutting.specs.Intervals.{IsFarBelow}

-- ---- zones

pub none_added : (cell : Cell) (s : StoreView) → AddsZones cell [] s s
none_added cell s = record { shape = refl; period = refl; here = sym (append_none (tables_at s cell)); others = λ d n. refl }
  where
    append_none : {X : Type 0} (xs : List X) → xs ++ [] ≡ xs
    append_none [] = refl
    append_none (x ∷ xs) = ap (λ l. x ∷ l) (append_none xs)

append_one : {X : Type 0} (xs ys : List X) (z : X) → (xs ++ ys) ++ z ∷ [] ≡ xs ++ (ys ++ z ∷ [])
append_one [] ys z = refl
append_one (x ∷ xs) ys z = ap (λ l. x ∷ l) (append_one xs ys z)

map_one : (zs : List ZoneView) (z : ZoneView) → map (λ z. z.bounds) (zs ++ z ∷ []) ≡ map (λ z. z.bounds) zs ++ z.bounds ∷ []
map_one [] z = refl
map_one (w ∷ ws) z = ap (λ l. w.bounds ∷ l) (map_one ws z)

pub one_added : (cell : Cell) (zones more : List ZoneView) (z : ZoneView) (start old new : StoreView) → more ≡ zones ++ z ∷ [] → AddsZones cell zones start old
    → new.tables ≡ finite.insert old.tables cell (tables_at old cell ++ z.bounds ∷ []) → new.shape ≡ old.shape → new.period ≡ old.period → AddsZones cell more start new
one_added cell zones more z start old new same h e shape period = record {
  shape = shape ∙ h.shape;
  period = period ∙ h.period;
  here = ⊎_elim (λ x. ap (λ m. tables_at (record old { tables = m }) cell) e ∙ x.1 ∙ ap (λ l. l ++ z.bounds ∷ []) h.here ∙ append_one (tables_at start cell) (map (λ z. z.bounds) zones) z.bounds ∙ ap (λ l. tables_at start cell ++ l) (sym (ap (map (λ z. z.bounds)) same ∙ map_one zones z)))
      (λ x. absurd (x.0 refl)) (list_put old.tables cell (tables_at old cell ++ z.bounds ∷ []) cell);
  others = λ d n. ⊎_elim (λ x. absurd (n x.0)) (λ x. ap (λ m. tables_at (record old { tables = m }) d) e ∙ x.1 ∙ h.others d n) (list_put old.tables cell (tables_at old cell ++ z.bounds ∷ []) d);
}

-- one zone after those before
added_after : (cell : Cell) (zones : List ZoneView) (z : ZoneView) (start old new : StoreView) → AddsZones cell zones start old → AddsZones cell (z ∷ []) old new → AddsZones cell (zones ++ z ∷ []) start new
added_after cell zones z start old new a b = record {
  shape = b.shape ∙ a.shape;
  period = b.period ∙ a.period;
  here = b.here ∙ ap (λ l. l ++ z.bounds ∷ []) a.here ∙ append_one (tables_at start cell) (map (λ z. z.bounds) zones) z.bounds ∙ ap (λ l. tables_at start cell ++ l) (sym (map_one zones z));
  others = λ d n. b.others d n ∙ a.others d n;
}

-- the store still takes zones of that cell
pub place_kept : (cell : Cell) (z : ZoneView) (zones : List ZoneView) (old new : StoreView) → AddsZones cell zones old new → IsPlaceOf old cell z → IsPlaceOf new cell z
place_kept cell z zones old new a p = record {
  zone = p.zone;
  period = p.period ∙ sym a.period;
  residues = p.residues ∙ ap (λ (s : Shape). take s.times cell.residues) (sym a.shape);
  texts = subst (λ (s : Shape). IsPadded 0 s.texts cell.texts) (sym a.shape) p.texts;
  times = subst (λ (s : Shape). IsPadded (pos 0) s.times cell.residues) (sym a.shape) p.times;
}

-- ---- intervals

-- the intervals so far are merged, and the zones of all but the last are appended
pub record AreAdding (cell : Cell) (z : ZoneView) (vs : List Interval) (old new : StoreView) (last : Interval) : Type 0 where
  pub zones : List ZoneView
  pub adds : AddsZones cell zones old new
  pub merging : AreMerging z vs zones last

pub adding_starts : (cell : Cell) (z : ZoneView) (v : Interval) (s : StoreView) → IsInterval z v → AreAdding cell z (v ∷ []) s s v
adding_starts cell z v s i = record { zones = []; adds = none_added cell s; merging = merging_start z v i }

module _ (cell : Cell) (z : ZoneView) (vs : List Interval) (old mid : StoreView) (last next : Interval) (a : AreAdding cell z vs old mid last) where
  pub adding_joined : (both : Interval) → IsJoinedInterval z last next both → AreAdding cell z (vs ++ next ∷ []) old mid both
  adding_joined both j = record { zones = a.zones; adds = a.adds; merging = merging_joined z vs a.zones last next a.merging both j }

  module _ (new : StoreView) (b : AddsSpan cell z last mid new) where
    pub adding_apart : LiesApart z.period last next → ((u : Interval) → Contains vs u → BeginsBy u next) → IsInterval z next → AreAdding cell z (vs ++ next ∷ []) old new next
    adding_apart apart begins i = record {
      zones = a.zones ++ b.span ∷ [];
      adds = added_after cell a.zones b.span old mid new a.adds b.adds;
      merging = merging_apart z vs a.zones last next a.merging b.span b.is apart begins i;
    }

pub adding_ends : (cell : Cell) (z : ZoneView) (vs : List Interval) (old mid new : StoreView) (last : Interval) → AreAdding cell z vs old mid last → AddsSpan cell z last mid new → AddsMerged cell z vs old new
adding_ends cell z vs old mid new last a b = record {
  zones = a.zones ++ b.span ∷ [];
  adds = added_after cell a.zones b.span old mid new a.adds b.adds;
  merged = merging_end z vs a.zones last last a.merging b.span b.is;
}

-- no interval
pub merged_none : (cell : Cell) (z : ZoneView) (s : StoreView) → AddsMerged cell z [] s s
merged_none cell z s = record {
  zones = [];
  adds = none_added cell s;
  merged = record {
    valid = λ w l. absurd (in_none w l);
    far = pairs_none IsFarBelow;
    to = λ x m. absurd (in_nothing (x ∷ []) m);
    from = λ x m. absurd (in_none m.interval m.listed);
    reach = λ h low w l. absurd (in_none w l);
  };
}

-- ---- a cell

-- no zone is a settlement of none
pub none_settled : (cell : Cell) (store s : StoreView) → zones_at store cell ≡ [] → SettlesCell cell store s s
none_settled cell store s none = record {
  made = [];
  adds = none_added cell s;
  settled = λ z l. absurd (in_none z (subst (λ zs. Contains zs z) none l));
}

-- intervals with the numbers of the cell's zones, merged, are a settlement of them
pub line_settles : (cell : Cell) (store : StoreView) (first : ZoneView) (rest : List ZoneView) (vs : List Interval) (old new : StoreView) → zones_at store cell ≡ first ∷ rest → AreOnLine first (first ∷ rest) → HaveNumbers first (first ∷ rest) vs → AddsMerged cell first vs old new
    → SettlesCell cell store old new
line_settles cell store first rest vs old new are line n m = record {
  made = m.zones;
  adds = m.adds;
  settled = λ z l.
      let k : Contains (first ∷ rest) z = subst (λ zs. Contains zs z) are l in
      rw are (settlement_moved first z (first ∷ rest) m.zones (line.cell.each z k) (merged_settled first line.column (first ∷ rest) line.cell vs n m.zones m.merged));
}
