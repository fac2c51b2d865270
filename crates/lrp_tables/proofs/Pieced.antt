-- The zones of a store, one after another.
use Rattle.std.proofs.Common.{◌≡◌, ◌≢◌, ℕ, zero, suc, ◌+◌, ◌<◌, ◌≤◌, ◌^◌, inl, inr, List, [], ◌∷◌, ◌++◌, length, drop, map, Option, Some, None, refl, sym, ap, subst, ◌∙◌, arith, Contains}
use Rattle.std.specs.Prelude.{ℤ, slice_get, unwrap_or}
use Rattle.std.specs.List.{flat_map}
use Rattle.std.specs.FinMap as finite
use Rattle.std.proofs.lemmas.List.{drop_all, length-map}
use Rattle.std.proofs.lemmas.List.Elements.{All-head, All-map, All-nil, All-rest, All-same, All-weaker, All-contains_itself, Contains-append_left, Contains-append_right, Contains-append_cases}
use Rattle.lrp_model.specs.declared.tuples.Cell.{Cell}
use Rattle.lrp_theory.specs.Entries.{entry, AtMost}
use Rattle.lrp_zone.specs.Zones.{ZoneView, IsMember, IsTight, reach_of}
use Rattle.lrp_zone.proofs.Reaches.{small_reach}
use Rattle.lrp_store.specs.Stores.{StoreView, IsCellOf, IsStore, InStore, HasReach, zone_of, tables_at, zones_at}
use Rattle.lrp_store.proofs.Held.{Table, cell_held, zone_held}
use Rattle.lrp_store.specs.Reading.{entries_of}
use Rattle.lrp_store.proofs.Aligning.{key_of}
use Rattle.lrp_store.proofs.Counted.{key_held}
use Rattle.lrp_tables.specs.Pieces.{piece_of, pieces_at, pieces_left, pieces_in, pieces_of, pieces_from, HaveZones, IsPieceOf, InPiece, ArePieces, FitsCell}
use Rattle.lrp_tables.specs.declared.pieces.Piece.{Piece}

-- what a part of a list has, the list has
pub in_drop : {X : Type 0} (n : ℕ) (xs : List X) (x : X) → Contains (drop n xs) x → Contains xs x
in_drop zero xs x h = h
in_drop (suc n) [] x h = h
in_drop (suc n) (y ∷ xs) x h = let g = in_drop n xs x h in let l : g.0 < length xs = g.1 in (suc g.0, omega arith, g.2)

-- an element of a mapped list is made of one
pub of_map : {X Y : Type 0} (f : X → Y) (xs : List X) (y : Y) → Contains (map f xs) y → (x : X) × Contains xs x × (f x ≡ y)
of_map f [] y h = let l : h.0 < 0 = h.1 in absurd (omega arith)
of_map f (x ∷ xs) y (zero, l, e) = (x, (0, omega arith, refl), e)
of_map f (x ∷ xs) y (suc k, l, e) = let g = of_map f xs y (k, omega arith, e) in let m : g.1.0 < length xs = g.1.1 in (g.0, (suc g.1.0, omega arith, g.1.2), g.2)

-- and the other way about
pub in_map : {X Y : Type 0} (f : X → Y) (xs : List X) (x : X) → Contains xs x → Contains (map f xs) (f x)
in_map f [] x h = let l : h.0 < 0 = h.1 in absurd (omega arith)
in_map f (w ∷ xs) x (zero, l, e) = (0, omega arith, ap f e)
in_map f (w ∷ xs) x (suc k, l, e) = let g = in_map f xs x (k, omega arith, e) in let m : g.0 < length (map f xs) = g.1 in (suc g.0, omega arith, g.2)

-- an element of joined lists is in one of them
pub of_flat : {X Y : Type 0} (f : X → List Y) (xs : List X) (y : Y) → Contains (flat_map f xs) y → (x : X) × Contains xs x × Contains (f x) y
of_flat f [] y h = let l : h.0 < 0 = h.1 in absurd (omega arith)
of_flat f (x ∷ xs) y h = elim (Contains-append_cases (f x) (flat_map f xs) y h) [
  | inl i ↦ (x, (0, omega arith, refl), i)
  | inr i ↦ let g = of_flat f xs y i in let m : g.1.0 < length xs = g.1.1 in (g.0, (suc g.1.0, omega arith, g.1.2), g.2)
]

-- and the other way about
pub in_flat : {X Y : Type 0} (f : X → List Y) (xs : List X) (x : X) (y : Y) → Contains xs x → Contains (f x) y → Contains (flat_map f xs) y
in_flat f [] x y h i = let l : h.0 < 0 = h.1 in absurd (omega arith)
in_flat f (w ∷ xs) x y (zero, l, e) i = Contains-append_left (f w) (flat_map f xs) y (subst (λ v. Contains (f v) y) (sym e) i)
in_flat f (w ∷ xs) x y (suc k, l, e) i = Contains-append_right (f w) (flat_map f xs) y (in_flat f xs x y (k, omega arith, e) i)

module _ (s : StoreView) where
  -- the zones of a cell are zones of the store
  pub of_cell : (cell : Cell) (piece : Piece) → Contains (pieces_at s cell) piece → IsPieceOf s piece
  of_cell cell piece h =
      let g = of_map (piece_of s cell) (tables_at s cell) piece h in
      subst (λ p. IsPieceOf s p) g.2 (record { table = g.0; held = g.1; zone = refl })

  -- all of them are
  pub pieces_are : IsStore s → (cell : Cell) (next : ℕ) (cells : List Cell) → cells ≡ finite.keys s.tables → ArePieces s (pieces_left s cell next cells)
  pieces_are is cell next cells e = record {
    each = λ piece h. elim (Contains-append_cases (drop next (pieces_at s cell)) (flat_map (pieces_at s) cells) piece h) [
      | inl i ↦ of_cell cell piece (in_drop next (pieces_at s cell) piece i)
      | inr i ↦ let g = of_flat (pieces_at s) cells piece i in of_cell g.0 piece g.2
    ];
    all = λ xs ns h. record {
      piece = piece_of s h.cell h.table;
      listed = Contains-append_right (drop next (pieces_at s cell)) (flat_map (pieces_at s) cells) (piece_of s h.cell h.table)
          (in_flat (pieces_at s) cells h.cell (piece_of s h.cell h.table) (subst (λ l. Contains l h.cell) (sym e) (key_of s xs ns h)) (in_map (piece_of s h.cell) (tables_at s h.cell) h.table h.held));
      inside = record { member = h.inside; same = h.named };
    };
  }

  -- no zone of the cell is left
  pub none_left : (cell : Cell) (next : ℕ) (cells : List Cell) → length (tables_at s cell) ≤ next → pieces_left s cell next cells ≡ flat_map (pieces_at s) cells
  none_left cell next cells h = ap (λ l. l ++ flat_map (pieces_at s) cells) (drop_all next (pieces_at s cell) (let e : length (pieces_at s cell) ≡ length (tables_at s cell) = length-map (tables_at s cell) (piece_of s cell) in omega arith))

  -- the zones of a cell are its tables with the cell
  in_cell : (cell : Cell) → pieces_in cell (zones_at s cell) ≡ pieces_at s cell
  in_cell cell = each (tables_at s cell)
    where
      each : (tables : List Table) → pieces_in cell (map (zone_of s cell) tables) ≡ map (piece_of s cell) tables
      each [] = refl
      each (t ∷ tables) = ap (λ l. piece_of s cell t ∷ l) (each tables)

  -- and those of cells
  in_cells : (cells : List Cell) → flat_map (λ (e : Cell × List ZoneView). pieces_in e.0 e.1) (map (λ cell. (cell, zones_at s cell)) cells) ≡ flat_map (pieces_at s) cells
  in_cells [] = refl
  in_cells (c ∷ cells) = ap (λ l. l ++ flat_map (λ (e : Cell × List ZoneView). pieces_in e.0 e.1) (map (λ cell. (cell, zones_at s cell)) cells)) (in_cell c) ∙ ap (λ l. pieces_at s c ++ l) (in_cells cells)

  -- the zones of all cells, after those of a cell that may be listed twice, are the zones of the store
  pub entries_are : IsStore s → (cell : Cell) (zones : List ZoneView) (entries : List (Cell × List ZoneView)) → zones ≡ zones_at s cell → entries ≡ entries_of s → ArePieces s (pieces_from cell zones entries)
  entries_are is cell zones entries ez ee =
      subst (ArePieces s)
      (sym (ap (λ l. pieces_in cell l ++ flat_map (λ (e : Cell × List ZoneView). pieces_in e.0 e.1) entries) ez ∙ ap (λ l. l ++ flat_map (λ (e : Cell × List ZoneView). pieces_in e.0 e.1) entries) (in_cell cell) ∙ ap (λ l. pieces_at s cell ++ flat_map (λ (e : Cell × List ZoneView). pieces_in e.0 e.1) l) ee ∙ ap (λ l. pieces_at s cell ++ l) (in_cells (finite.keys s.tables))))
      (pieces_are is cell 0 (finite.keys s.tables) refl)

  -- the first cell is taken off
  pub first_are : IsStore s → (cell : Cell) (zones : List ZoneView) (rest entries : List (Cell × List ZoneView)) → entries ≡ (cell, zones) ∷ rest → entries ≡ entries_of s → ArePieces s (pieces_from cell zones rest)
  first_are is cell zones rest entries e ee =
      let all : flat_map (pieces_at s) (finite.keys s.tables) ≡ pieces_from cell zones rest = sym (in_cells (finite.keys s.tables)) ∙ ap (flat_map (λ (e : Cell × List ZoneView). pieces_in e.0 e.1)) (sym ee ∙ e) in
      subst (ArePieces s) (none_left cell (length (tables_at s cell)) (finite.keys s.tables) (omega arith) ∙ all)
      (pieces_are is cell (length (tables_at s cell)) (finite.keys s.tables) refl)

  -- the zones of all cells are the zones of the store
  pub all_are : IsStore s → (entries : List (Cell × List ZoneView)) → entries ≡ entries_of s → ArePieces s (pieces_of entries)
  all_are is entries e =
      let cell : Cell = record { texts = []; residues = [] } in
      subst (ArePieces s) (none_left cell (length (tables_at s cell)) (finite.keys s.tables) (omega arith) ∙ sym (in_cells (finite.keys s.tables)) ∙ ap pieces_of (sym e))
      (pieces_are is cell (length (tables_at s cell)) (finite.keys s.tables) refl)

  -- a cell of the store with its zones is one of its shape and period
  pub entry_cell : IsStore s → (cell : Cell) (zones : List ZoneView) → Contains (entries_of s) (cell, zones) → IsCellOf s.shape s.period cell
  entry_cell is cell zones h =
      let g = of_map (λ c. (c, zones_at s c)) (finite.keys s.tables) (cell, zones) h in
      subst (λ (e : Cell × List ZoneView). IsCellOf s.shape s.period e.0) g.2 (let list = key_held s is (λ xs ns. Unit {0}) 0 g.0 g.1 in (is.cells g.0 list.0 list.1).proper)

  -- each cell has some zone
  pub entries_have : IsStore s → (entries : List (Cell × List ZoneView)) → entries ≡ entries_of s → HaveZones entries
  entries_have is entries e =
      All-same (λ (e : Cell × List ZoneView). 0 < length e.1) entries (entries_of s) e
      (All-map (λ (e : Cell × List ZoneView). 0 < length e.1) (λ cell. (cell, zones_at s cell)) (finite.keys s.tables)
      (All-weaker (Contains (finite.keys s.tables)) (λ cell. 0 < length (zones_at s cell)) some (finite.keys s.tables) (All-contains_itself (finite.keys s.tables))))
    where
      not_empty : (list : List Table) → list ≢ [] → 0 < length list
      not_empty [] some = absurd (some refl)
      not_empty (t ∷ list) some = omega arith

      some : (cell : Cell) → Contains (finite.keys s.tables) cell → 0 < length (zones_at s cell)
      some cell h =
          let list = key_held s is (λ xs ns. Unit {0}) 0 cell h in
          let more : 0 < length (tables_at s cell) = subst (λ o. 0 < length (unwrap_or o [])) (sym list.1) (not_empty list.0 (is.cells cell list.0 list.1).some) in
          let same : length (zones_at s cell) ≡ length (tables_at s cell) = length-map (tables_at s cell) (zone_of s cell) in
          omega arith

  -- one zone more
  pub one_left : (cell : Cell) (next : ℕ) (cells : List Cell) (z : ZoneView) → slice_get (zones_at s cell) next ≡ Some z → pieces_left s cell next cells ≡ record { cell = cell; zone = z } ∷ pieces_left s cell (next + 1) cells
  one_left cell next cells z e = ap (λ l. l ++ flat_map (pieces_at s) cells) (dropped (tables_at s cell) next e ∙ ap (λ n. record { cell = cell; zone = z } ∷ drop n (map (piece_of s cell) (tables_at s cell))) later)
    where
      later : suc next ≡ next + 1
      later = omega arith

      dropped : (tables : List Table) (n : ℕ) → slice_get (map (zone_of s cell) tables) n ≡ Some z → drop n (map (piece_of s cell) tables) ≡ record { cell = cell; zone = z } ∷ drop (suc n) (map (piece_of s cell) tables)
      dropped [] n e = cc
      dropped (t ∷ tables) zero e = ap (λ w. record { cell = cell; zone = w } ∷ map (piece_of s cell) tables) (same_some e)
        where
          same_some : {X : Type 0} {x y : X} → Some x ≡ Some y → x ≡ y
          same_some h = cc
      dropped (t ∷ tables) (suc n) e = dropped tables n e

-- the first cell is taken off
pub cell_given : (cell : Cell) (zones : List ZoneView) (rest entries : List (Cell × List ZoneView)) → entries ≡ (cell, zones) ∷ rest → pieces_of entries ≡ pieces_from cell zones rest
cell_given cell zones rest entries e = ap pieces_of e

-- one zone of the cell is given
pub one_given : (cell : Cell) (zone : ZoneView) (rest zones : List ZoneView) (entries : List (Cell × List ZoneView)) → zones ≡ zone ∷ rest → pieces_from cell zones entries ≡ record { cell = cell; zone = zone } ∷ pieces_from cell rest entries
one_given cell zone rest zones entries e = ap (λ l. pieces_from cell l entries) e

-- each of the other cells has some zone
pub rest_have : (cell : Cell) (zones : List ZoneView) (rest entries : List (Cell × List ZoneView)) → entries ≡ (cell, zones) ∷ rest → HaveZones entries → HaveZones rest
rest_have cell zones rest entries e have = All-rest (λ e. 0 < length e.1) (cell, zones) rest entries e have

-- and so has the first
pub first_has : (cell : Cell) (zones : List ZoneView) (rest entries : List (Cell × List ZoneView)) → entries ≡ (cell, zones) ∷ rest → HaveZones entries → zones ≡ [] → ⊥
first_has cell zones rest entries e have none =
    let some : 0 < length zones = All-head (λ e. 0 < length e.1) (cell, zones) rest (subst HaveZones e have) in
    let empty : length zones ≡ 0 = ap length none in
    omega arith

-- no cell is left
pub none_have : (entries : List (Cell × List ZoneView)) → entries ≡ [] → HaveZones entries
none_have entries e = subst HaveZones (sym e) (All-nil (λ e. 0 < length e.1))

-- the tuples of a zone are tuples of the store
pub in_store : (s : StoreView) (piece : Piece) → IsPieceOf s piece → (xs : List ℤ) (ns : List ℕ) → InPiece s.shape.texts piece xs ns → InStore s xs ns
in_store s piece p xs ns h = record { cell = piece.cell; table = p.table; held = p.held; named = h.same; inside = subst (λ z. IsMember z xs) p.zone h.member }

-- the reach of the store bounds that of the zone
pub piece_reach : (s : StoreView) (piece : Piece) → IsPieceOf s piece → (high : ℕ) → HasReach s high → reach_of piece.zone ≤ high
piece_reach s piece p high r = subst (λ z. reach_of z ≤ high) (sym p.zone) (r.each piece.cell p.table p.held)

-- no zone of a store has a greater reach than this
pub any_reach : (s : StoreView) → IsStore s → HasReach s (2 ^ 62)
any_reach s is = record {
  each = λ c t h.
      let zone = zone_held s is c t h in
      small_reach (zone_of s c t) (2 ^ 62) zone.shape.columns zone.size zone.shape.outside (record { each = λ i j il jl. tight_small _ _ (entry t i j) (zone.shape.tight i j (omega arith) (omega arith)) });
}
  where
    tight_small : (k w : ℤ) (e : Option ℤ) → IsTight k w e → AtMost (2 ^ 62) e
    tight_small k w None h = tt
    tight_small k w (Some a) h = h.1

-- the zone fits its cell
pub piece_fits : (s : StoreView) → IsStore s → (piece : Piece) → IsPieceOf s piece → FitsCell s.shape s.period piece
piece_fits s is piece p = record { cell = cell_held s is piece.cell p.table p.held; period_is = ap (λ z. z.period) p.zone; residues = ap (λ z. z.residues) p.zone }
