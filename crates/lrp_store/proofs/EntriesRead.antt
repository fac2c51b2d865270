-- The zones of a store as lists that are read one after another.
use Rattle.std.proofs.Common.{◌≡◌, ℕ, List, [], ◌∷◌, length, take, Some, refl, sym, ap, subst, ◌∙◌, arith, Contains, unwrap_or}
use Rattle.std.specs.Prelude.{ℤ, All, map}
use Rattle.std.specs.FinMap as finite
use Rattle.std.proofs.lemmas.List.Elements.{All-map, All-weaker, All-contains_itself, All-head, All-tail}
use Rattle.lrp_model.specs.declared.tuples.Cell.{Cell}
use Rattle.lrp_zone.specs.Zones.{IsZone}
use Rattle.lrp_store.specs.Stores.{StoreView, IsStore, zone_of, tables_at, zones_at}
use Rattle.lrp_store.specs.Reading.{zones_with, entries_with, entries_of, AreZonesWith, AreEntriesWith}
use Rattle.lrp_store.proofs.Held.{Table, zone_held}

module _ (s : StoreView) where
  -- the tables of a cell are those of zones
  pub zones_valid : IsStore s → (c : Cell) → All IsZone (zones_at s c)
  zones_valid is c =
      All-map IsZone (zone_of s c) (tables_at s c)
      (All-weaker (Contains (tables_at s c)) (λ t. IsZone (zone_of s c t)) (λ t h. zone_held s is c t h) (tables_at s c) (All-contains_itself (tables_at s c)))

  -- each cell of the list is found with its tables
  abbrev pub AreFound : List (Cell × List Table) → Type 0
  AreFound lists = All (λ e. finite.get s.tables e.0 ≡ Some e.1) lists

  -- so the tables of each are those of zones of its cell
  pub entries_valid : IsStore s → (lists : List (Cell × List Table)) → AreFound lists → AreEntriesWith s.period s.shape.times lists
  entries_valid is lists found =
      All-weaker (λ e. finite.get s.tables e.0 ≡ Some e.1) (λ e. AreZonesWith s.period s.shape.times e.0.residues e.1) (λ e h. valid e.0 e.1 h) lists found
    where
      valid : (c : Cell) (tables : List Table) → finite.get s.tables c ≡ Some tables → AreZonesWith s.period s.shape.times c.residues tables
      valid c tables h = record {
        columns = let low = is.times in let size = (is.cells c tables h).proper.residues.size in omega (arith, low, size);
        zones = subst (λ ts. All IsZone (map (zone_of s c) ts)) (ap (λ o. unwrap_or o []) h) (zones_valid is c);
      }

  -- and they are read as the zones of its cell
  read : (lists : List (Cell × List Table)) → AreFound lists → entries_with s.period s.shape.times lists ≡ map (λ cell. (cell, zones_at s cell)) (map (λ e. e.0) lists)
  read [] found = refl
  read (e ∷ lists) found =
      ap (λ ts. (e.0, map (zone_of s e.0) ts) ∷ entries_with s.period s.shape.times lists) (sym (ap (λ o. unwrap_or o []) (All-head (λ e. finite.get s.tables e.0 ≡ Some e.1) e lists found)))
      ∙ ap (λ l. (e.0, zones_at s e.0) ∷ l) (read lists (All-tail (λ e. finite.get s.tables e.0 ≡ Some e.1) e lists found))

  -- the cells are all
  pub entries_read : (lists : List (Cell × List Table)) → lists ≡ finite.entries s.tables → AreFound lists → entries_with s.period s.shape.times lists ≡ entries_of s
  entries_read lists all found = read lists found ∙ ap (λ l. map (λ cell. (cell, zones_at s cell)) (map (λ e. e.0) l)) all

-- the same of a store as its fields make it
module _ (s now : StoreView) (same : s ≡ now) (is : IsStore now) (times : ℕ) (et : times ≡ s.shape.times) where
  -- the tables of a cell
  pub cell_valid : (c : Cell) (tables : List Table) → tables ≡ tables_at s c → length c.residues ≡ 8 → AreZonesWith s.period times c.residues tables
  cell_valid c tables e size =
      let now_is : IsStore s = subst IsStore (sym same) is in
      let low = now_is.times in
      record {
        columns = omega (arith, low, size, et);
        zones = subst (All IsZone) (sym (ap (λ n. zones_with s.period (take n c.residues) tables) et ∙ ap (map (zone_of s c)) e)) (zones_valid s now_is c);
      }

  -- are read as its zones
  pub cell_read : (c : Cell) (tables : List Table) → tables ≡ tables_at s c → zones_with s.period (take times c.residues) tables ≡ zones_at now c
  cell_read c tables e = ap (λ n. zones_with s.period (take n c.residues) tables) et ∙ ap (map (zone_of s c)) e ∙ ap (λ v. zones_at v c) same

  -- the tables of all cells
  pub all_valid : (lists : List (Cell × List Table)) → AreFound s lists → AreEntriesWith s.period times lists
  all_valid lists found = subst (λ n. AreEntriesWith s.period n lists) (sym et) (entries_valid s (subst IsStore (sym same) is) lists found)

  -- are read as their zones
  pub all_read : (lists : List (Cell × List Table)) → lists ≡ finite.entries s.tables → AreFound s lists → entries_with s.period times lists ≡ entries_of now
  all_read lists all found = ap (λ n. entries_with s.period n lists) et ∙ entries_read s lists all found ∙ ap entries_of same

-- the first table is one of a zone
pub first_valid : (period times : ℕ) (residues : List ℤ) (t : Table) (rest tables : List Table) → tables ≡ t ∷ rest → AreZonesWith period times residues tables → IsZone (record { period = period; residues = take times residues; bounds = t })
first_valid period times residues t rest tables e valid =
    All-head IsZone (record { period = period; residues = take times residues; bounds = t }) (zones_with period (take times residues) rest) (subst (λ ts. All IsZone (zones_with period (take times residues) ts)) e valid.zones)

-- and the rest are such tables
pub rest_valid : (period times : ℕ) (residues : List ℤ) (t : Table) (rest tables : List Table) → tables ≡ t ∷ rest → AreZonesWith period times residues tables → AreZonesWith period times residues rest
rest_valid period times residues t rest tables e valid = record {
  columns = valid.columns;
  zones = All-tail IsZone (record { period = period; residues = take times residues; bounds = t }) (zones_with period (take times residues) rest) (subst (λ ts. All IsZone (zones_with period (take times residues) ts)) e valid.zones);
}

-- the tables of the first cell are those of zones
pub first_entry : (period times : ℕ) (c : Cell) (tables : List Table) (rest lists : List (Cell × List Table)) → lists ≡ (c, tables) ∷ rest → AreEntriesWith period times lists → AreZonesWith period times c.residues tables
first_entry period times c tables rest lists e valid = All-head (λ e. AreZonesWith period times e.0.residues e.1) (c, tables) rest (subst (AreEntriesWith period times) e valid)

-- and so are those of the rest
pub rest_entries : (period times : ℕ) (c : Cell) (tables : List Table) (rest lists : List (Cell × List Table)) → lists ≡ (c, tables) ∷ rest → AreEntriesWith period times lists → AreEntriesWith period times rest
rest_entries period times c tables rest lists e valid = All-tail (λ e. AreZonesWith period times e.0.residues e.1) (c, tables) rest (subst (AreEntriesWith period times) e valid)

-- the cells of a list
abbrev pub cells_of : List (Cell × List Table) → List Cell
cells_of lists = map (λ e. e.0) lists

-- the lists of a store as its fields make it are found
pub lists_found : (s now : StoreView) → s ≡ now → (lists left : List (Cell × List Table)) → left ≡ lists → AreFound s lists → AreFound now left
lists_found s now same lists left e found = subst (λ v. AreFound v left) same (subst (AreFound s) (sym e) found)

-- and their cells are those that are held
pub lists_cells : (s now : StoreView) → s ≡ now → (lists left : List (Cell × List Table)) → left ≡ lists → lists ≡ finite.entries s.tables → cells_of left ≡ finite.keys now.tables
lists_cells s now same lists left e all = ap cells_of (e ∙ all) ∙ ap (λ v. finite.keys v.tables) same

-- the tables of the first cell are those that are found there
pub first_found : (s : StoreView) (c : Cell) (tables : List Table) (rest lists : List (Cell × List Table)) → lists ≡ (c, tables) ∷ rest → AreFound s lists → tables ≡ tables_at s c
first_found s c tables rest lists e found = sym (ap (λ o. unwrap_or o []) (All-head (λ e. finite.get s.tables e.0 ≡ Some e.1) (c, tables) rest (subst (AreFound s) e found)))

-- and so are those of the rest
pub rest_found : (s : StoreView) (c : Cell) (tables : List Table) (rest lists : List (Cell × List Table)) → lists ≡ (c, tables) ∷ rest → AreFound s lists → AreFound s rest
rest_found s c tables rest lists e found = All-tail (λ e. finite.get s.tables e.0 ≡ Some e.1) (c, tables) rest (subst (AreFound s) e found)
