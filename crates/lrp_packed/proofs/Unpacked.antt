-- The zones of a packed store are those of the store that it is seen as.
use Rattle.std.proofs.Common.{◌≡◌, ◌⊎◌, ℕ, zero, suc, ◌<◌, ◌≤◌, ◌^◌, inl, inr, List, [], ◌∷◌, ◌++◌, length, get_or, map, take, Option, Some, None, IsSome, Bool, true, false, cond, Contains, refl, sym, ap, subst, ◌∙◌, arith, unwrap_or, append_assoc, to_z, of_z}
use Rattle.std.specs.Prelude.{ℤ, nat_abs, pos}
use Rattle.std.specs.Int.{w64}
use Rattle.std.proofs.lemmas.Int.{ints}
use Rattle.std.proofs.lemmas.List.{length-map}
use Rattle.std.specs.List.{AllByRecursion}
use Rattle.std.specs.Ordering.{is_eq, eq_by_cmp}
use Rattle.std.specs.Cmp.{tied_itself}
use Rattle.std.specs.FinMap as finite
use Rattle.std.specs.FinMap.{FinMap, get-empty, get-insert}
use Rattle.lrp_model.specs.declared.tuples.Cell.{Cell}
use Rattle.lrp_model.specs.declared.tuples.Shape.{Shape}
use Rattle.lrp_theory.specs.Entries.{entry}
use Rattle.lrp_zone.specs.Zones.{IsMember, IsZone, ZoneView}
use Rattle.lrp_zone.proofs.Reaches.{small_reach}
use Rattle.lrp_slots.specs.Lists.{cell_cmp, list_at}
use Rattle.lrp_slots.proofs.Tables.{cells_total, same_cell}
use Rattle.lrp_store.specs.Stores.{HasReach, IsStore, StoreView, tables_at, zone_of}
use Rattle.lrp_store.proofs.Held.{Table, cell_held, zone_held}
use Rattle.lrp_store.proofs.Listed.{tight_is_small, word_abs}
use Rattle.lrp_tables.specs.Pieces.{ArePieces, IsPieceOf}
use Rattle.lrp_tables.specs.declared.pieces.Piece.{Piece}
use Rattle.lrp_tables.proofs.Pieced.{in_map, of_map}
use Rattle.lrp_packed.specs.Entries.{CellZone, IsFullSize, cell_of_entries, table_of_entries}
use Rattle.lrp_packed.specs.declared.zones.PackedEntry.{PackedEntry}
use Rattle.lrp_packed.specs.Packed.{AllFit, CanBeUnpacked, HasSame, store_of, tables_of, unpacked}

-- ---- elements of lists

module _ {X : Type 0} where
  none_in : (x : X) → Contains [] x → ⊥
  none_in x h = omega (arith, h.1)

  first_in : (x : X) (xs : List X) → Contains (x ∷ xs) x
  first_in x xs = (0, omega arith, refl)

  later_in : (x z : X) (xs : List X) → Contains xs z → Contains (x ∷ xs) z
  later_in x z xs h = (suc h.0, omega (arith, h.1), h.2)

  in_cons : (x z : X) (xs : List X) → Contains (x ∷ xs) z → (x ≡ z) ⊎ Contains xs z
  in_cons x z xs (zero, l, e) = inl e
  in_cons x z xs (suc k, l, e) = inr (k, omega arith, e)

  all_in : (P : X → Type 0) (xs : List X) (x : X) → AllByRecursion P xs → Contains xs x → P x
  all_in P [] x all h = absurd (none_in x h)
  all_in P (y ∷ xs) x all h = elim (in_cons y x xs h) [ inl e ↦ subst P e all.0 | inr i ↦ all_in P xs x all.1 i ]

  all_of : (P : X → Type 0) (xs : List X) → ((x : X) → Contains xs x → P x) → AllByRecursion P xs
  all_of P [] each = tt
  all_of P (x ∷ xs) each = (each x (first_in x xs), all_of P xs (λ y h. each y (later_in x y xs h)))

-- ---- zones by their cells

-- what a map has with one more list
with_list : (m : FinMap cell_cmp (List Table)) (c q : Cell) (tables : List Table) → list_at (finite.insert m c tables) q ≡ unwrap_or (cond (eq_by_cmp cell_cmp q c) (Some tables) (finite.get m q)) []
with_list m c q tables = ap (λ o. unwrap_or o []) (get-insert cells_total m c tables q)

pub of_tables : (zs : List CellZone) (c : Cell) (t : Table) → Contains (list_at (tables_of zs) c) t → Contains zs (c, t)
of_tables [] c t h = absurd (none_in t (subst (λ o. Contains (unwrap_or o []) t) (get-empty cell_cmp c) h))
of_tables (z ∷ zs) c t h = by (λ q i. of_tables zs q t i) (eq_by_cmp cell_cmp c z.0) refl (subst (λ l. Contains l t) (with_list (tables_of zs) z.0 c (z.1 ∷ list_at (tables_of zs) z.0)) h)
  where
    here : ((q : Cell) → Contains (list_at (tables_of zs) q) t → Contains zs (q, t)) → c ≡ z.0 → (z.1 ≡ t) ⊎ Contains (list_at (tables_of zs) z.0) t → Contains (z ∷ zs) (c, t)
    here again e (inl f) = subst (Contains (z ∷ zs)) (ap (λ q. (q, z.1)) (sym e) ∙ ap (λ u. (c, u)) f) (first_in z zs)
    here again e (inr i) = later_in z (c, t) zs (again c (subst (λ q. Contains (list_at (tables_of zs) q) t) (sym e) i))

    by : ((q : Cell) → Contains (list_at (tables_of zs) q) t → Contains zs (q, t)) → (b : Bool) → eq_by_cmp cell_cmp c z.0 ≡ b → Contains (unwrap_or (cond b (Some (z.1 ∷ list_at (tables_of zs) z.0)) (finite.get (tables_of zs) c)) []) t → Contains (z ∷ zs) (c, t)
    by again true same i = here again (same_cell c z.0 same) (in_cons z.1 t (list_at (tables_of zs) z.0) i)
    by again false other i = later_in z (c, t) zs (again c i)

pub in_tables : (zs : List CellZone) (c : Cell) (t : Table) → Contains zs (c, t) → Contains (list_at (tables_of zs) c) t
in_tables [] c t h = absurd (none_in (c, t) h)
in_tables (z ∷ zs) c t h = subst (λ l. Contains l t) (sym (with_list (tables_of zs) z.0 c (z.1 ∷ list_at (tables_of zs) z.0))) (by (λ i. in_tables zs c t i) (eq_by_cmp cell_cmp c z.0) refl (in_cons z (c, t) zs h))
  where
    itself : z.0 ≡ c → eq_by_cmp cell_cmp c z.0 ≡ true
    itself e = ap (λ q. eq_by_cmp cell_cmp c q) e ∙ ap is_eq (tied_itself cells_total c)

    by : (Contains zs (c, t) → Contains (list_at (tables_of zs) c) t) → (b : Bool) → eq_by_cmp cell_cmp c z.0 ≡ b → (z ≡ (c, t)) ⊎ Contains zs (c, t) → Contains (unwrap_or (cond b (Some (z.1 ∷ list_at (tables_of zs) z.0)) (finite.get (tables_of zs) c)) []) t
    by again true same (inl e) = subst (λ u. Contains (z.1 ∷ list_at (tables_of zs) z.0) u) (ap (λ (p : CellZone). p.1) e) (first_in z.1 (list_at (tables_of zs) z.0))
    by again true same (inr i) = later_in z.1 t (list_at (tables_of zs) z.0) (subst (λ q. Contains (list_at (tables_of zs) q) t) (same_cell c z.0 same) (again i))
    by again false other (inl e) = let same : eq_by_cmp cell_cmp c z.0 ≡ true = itself (ap (λ (p : CellZone). p.0) e) in cc
    by again false other (inr i) = again i

-- a cell that is held has a zone
held_in : (zs : List CellZone) (c : Cell) → IsSome (finite.get (tables_of zs) c) → (t : Table) × Contains zs (c, t)
held_in [] c h = absurd (none_held (subst (λ o. IsSome o) (get-empty cell_cmp c) h))
  where
    none_held : IsSome {T = List Table} None → ⊥
    none_held s = cc
held_in (z ∷ zs) c h = by (λ s. held_in zs c s) (eq_by_cmp cell_cmp c z.0) refl (subst (λ o. IsSome o) (get-insert cells_total (tables_of zs) z.0 (z.1 ∷ list_at (tables_of zs) z.0) c) h)
  where
    by : (IsSome (finite.get (tables_of zs) c) → (t : Table) × Contains zs (c, t)) → (b : Bool) → eq_by_cmp cell_cmp c z.0 ≡ b → IsSome (cond b (Some (z.1 ∷ list_at (tables_of zs) z.0)) (finite.get (tables_of zs) c)) → (t : Table) × Contains (z ∷ zs) (c, t)
    by again true same s = (z.1, subst (Contains (z ∷ zs)) (ap (λ q. (q, z.1)) (sym (same_cell c z.0 same))) (first_in z zs))
    by again false other s = let w = again s in (w.0, later_in z (c, w.0) zs w.1)

-- ---- the pieces of a packed store

module _ (shape : Shape) (period : ℕ) (zs : List CellZone) where
  pub unpacked_all : ArePieces (store_of shape period zs) (map (unpacked shape period) zs)
  unpacked_all = record {
    each = λ piece h. let w = of_map (unpacked shape period) zs piece h in subst (IsPieceOf (store_of shape period zs)) w.2 (record { table = w.0.1; held = in_tables zs w.0.0 w.0.1 w.1; zone = refl });
    all = λ xs ns h. record {
      piece = unpacked shape period (h.cell, h.table);
      listed = in_map (unpacked shape period) zs (h.cell, h.table) (of_tables zs h.cell h.table h.held);
      inside = record { member = h.inside; same = h.named };
    };
  }

  module _ (can : AllByRecursion (CanBeUnpacked shape period) zs) where
    pub unpacked_fit : AllFit (store_of shape period zs)
    unpacked_fit piece is =
        let of = all_in (CanBeUnpacked shape period) zs (piece.cell, is.table) can (of_tables zs piece.cell is.table is.held) in (
          subst IsZone (sym is.zone) of.zone,
          record {
            cell = of.cell;
            period_is = ap (λ (z : ZoneView). z.period) is.zone;
            residues = ap (λ (z : ZoneView). z.residues) is.zone;
          },
        )

    pub unpacked_reach : HasReach (store_of shape period zs) (2 ^ 62)
    unpacked_reach = record {
      each = λ c t h.
          let is = (all_in (CanBeUnpacked shape period) zs (c, t) can (of_tables zs c t h)).zone in
          small_reach (zone_of (store_of shape period zs) c t) (2 ^ 62) is.shape.columns is.size is.shape.outside (record { each = λ i j il jl. tight_is_small _ _ (entry t i j) (entry t i j) refl (is.shape.tight i j (omega arith) (omega arith)) });
    }

-- ---- a zone of a packed list

read_map : {X Y : Type 0} (f : X → Y) (xs : List X) (n : ℕ) (x : X) (y : Y) → n < length xs → x ≡ get_or xs n x → get_or (map f xs) n y ≡ f x
read_map f [] n x y low is = absurd (omega (arith, low))
read_map f (w ∷ xs) zero x y low is = ap f (sym is)
read_map f (w ∷ xs) (suc n) x y low is = read_map f xs n x y (omega (arith, low)) is

module _ (shape : Shape) (period : ℕ) (zs : List CellZone) (now : List Piece) (seen_is : map (unpacked shape period) zs ≡ now) where
  pub listed_count : length zs ≡ length now
  listed_count = sym (length-map zs (unpacked shape period)) ∙ ap length seen_is

  module _ (n : ℕ) (z : CellZone) (low : n < length now) (is : z ≡ get_or zs n z) where
    inside : n < length zs
    inside = subst (λ k. n < k) (sym listed_count) low

    pub listed_can : AllByRecursion (CanBeUnpacked shape period) zs → CanBeUnpacked shape period z
    listed_can all = all_in (CanBeUnpacked shape period) zs z all (n, inside, sym is)

    pub listed_piece : (piece : Piece) → piece ≡ unpacked shape period z → (other : Piece) → get_or now n other ≡ piece
    listed_piece piece made other = ap (λ l. get_or l n other) (sym seen_is) ∙ read_map (unpacked shape period) zs n z other inside is ∙ sym made

-- ---- a zone is unpacked

-- the cell and the table that entries stand for are those that are seen
pub seen : (cell : Cell) (table : Table) (slice items : List PackedEntry) (now : CellZone) → cell ≡ cell_of_entries slice → table ≡ table_of_entries slice → slice ≡ items → (cell_of_entries items, table_of_entries items) ≡ now → (cell, table) ≡ now
seen cell table slice items now c t e view = ap (λ x. (x, table)) c ∙ ap (λ y. (cell_of_entries slice, y)) t ∙ ap (λ es. (cell_of_entries es, table_of_entries es)) e ∙ view

module _ (shape : Shape) (period from : ℕ) (cell : Cell) (table : Table) (now : CellZone) (from_is : from ≡ shape.times) (is : (cell, table) ≡ now) where
  pub zone_again : CanBeUnpacked shape period now → IsZone (record { period = period; residues = take from cell.residues; bounds = table })
  zone_again can =
      subst (λ (z : CellZone). IsZone (record { period = period; residues = take from z.0.residues; bounds = z.1 })) (sym is)
      (subst (λ n. IsZone (record { period = period; residues = take n now.0.residues; bounds = now.1 })) (sym from_is) can.zone)

  pub piece_again : (zone : ZoneView) → zone ≡ record { period = period; residues = take from cell.residues; bounds = table } → record { cell = cell; zone = zone } ≡ unpacked shape period now
  piece_again zone e =
      ap (λ z. record { cell = cell; zone = z }) (e ∙ ap (λ n. record { period = period; residues = take n cell.residues; bounds = table }) from_is) ∙ ap (unpacked shape period) is

-- ---- a store is packed

-- a period is the same in a word with a sign
pub period_word : (k : ℕ) (a : ℤ) → a ≡ pos k → 0 < k → k ≤ 2 ^ 62 → nat_abs (to_z w64 (of_z w64 a)) ≡ k
period_word k a e low high = subst (λ x. nat_abs (to_z w64 (of_z w64 x)) ≡ k) (sym e) (word_abs (pos k) (omega (arith, ints, low)) (omega (arith, ints, high)))

-- the cell and the table of a piece
abbrev pub packed : Piece → CellZone
packed piece = (piece.cell, piece.zone.bounds)

-- the zones of some pieces of the store are packed, and these are left
pub record IsPacking (s : StoreView) (rest : List Piece) (zs : List CellZone) : Type 0 where
  pub done : List Piece
  pub zones : zs ≡ map packed done
  pub are : ArePieces s (done ++ rest)

pub packing_none : (s : StoreView) (rest : List Piece) (zs : List CellZone) → zs ≡ [] → ArePieces s rest → IsPacking s rest zs
packing_none s rest zs none are = record { done = []; zones = none; are = are }

map_more : (xs : List Piece) (x : Piece) → map packed (xs ++ x ∷ []) ≡ map packed xs ++ packed x ∷ []
map_more [] x = refl
map_more (y ∷ xs) x = ap (λ zs. packed y ∷ zs) (map_more xs x)

no_rest : (xs : List Piece) → xs ++ [] ≡ xs
no_rest [] = refl
no_rest (x ∷ xs) = ap (λ ys. x ∷ ys) (no_rest xs)

in_after : (xs ys : List Piece) (y : Piece) → Contains ys y → Contains (xs ++ ys) y
in_after [] ys y h = h
in_after (x ∷ xs) ys y h = later_in x y (xs ++ ys) (in_after xs ys y h)

some_list : (o : Option (List Table)) (t : Table) → Contains (unwrap_or o []) t → IsSome o
some_list None t h = absurd (none_in t h)
some_list (Some x) t h = refl

module _ (s : StoreView) where
  -- one more is packed
  pub packing_more : (list rest : List Piece) (piece : Piece) (z : CellZone) (zs new : List CellZone) → list ≡ piece ∷ rest → z ≡ packed piece → new ≡ zs ++ z ∷ [] → IsPacking s list zs → IsPacking s rest new
  packing_more list rest piece z zs new e is made p = record {
    done = p.done ++ piece ∷ [];
    zones = made ∙ ap (λ y. zs ++ y ∷ []) is ∙ ap (λ l. l ++ packed piece ∷ []) p.zones ∙ sym (map_more p.done piece);
    are = subst (ArePieces s) (ap (λ l. p.done ++ l) e ∙ sym (append_assoc p.done (piece ∷ []) rest)) p.are;
  }

  -- the zone of a piece has the bounds of the piece
  own_zone : (piece : Piece) (is : IsPieceOf s piece) → piece.zone ≡ zone_of s piece.cell piece.zone.bounds
  own_zone piece is = is.zone ∙ ap (zone_of s piece.cell) (sym (ap (λ (z : ZoneView). z.bounds) is.zone))

  own_table : (piece : Piece) (is : IsPieceOf s piece) → Contains (tables_at s piece.cell) piece.zone.bounds
  own_table piece is = subst (λ t. Contains (tables_at s piece.cell) t) (sym (ap (λ (z : ZoneView). z.bounds) is.zone)) is.held

  -- a piece that is left is full size
  pub sizes_of : IsStore s → (list rest : List Piece) (piece : Piece) (zs : List CellZone) → list ≡ piece ∷ rest → IsPacking s list zs → IsFullSize piece.cell piece.zone.bounds
  sizes_of valid list rest piece zs e p =
      let is = p.are.each piece (in_after p.done list piece (subst (λ l. Contains l piece) (sym e) (first_in piece rest))) in
      let cell = cell_held s valid piece.cell is.table is.held in
      record {
        texts = cell.texts.size;
        residues = cell.residues.size;
        bounds = (zone_held s valid piece.cell piece.zone.bounds (own_table piece is)).size;
      }

  module _ (pieces : List Piece) (are : ArePieces s pieces) where
    zone_there : (c : Cell) (t : Table) → Contains (map packed pieces) (c, t) → Contains (tables_at s c) t
    zone_there c t h = let w = of_map packed pieces (c, t) h in subst (λ (z : CellZone). Contains (tables_at s z.0) z.1) w.2 (own_table w.0 (are.each w.0 w.1))

    same_of : HasSame s (store_of s.shape s.period (map packed pieces))
    same_of = record {
      shape = refl;
      period = refl;
      cells = λ c h. let w = held_in (map packed pieces) c h in some_list (finite.get s.tables c) w.0 (zone_there c w.0 w.1);
      zones = λ c t h. zone_there c t (of_tables (map packed pieces) c t h);
      tuples = λ xs ns h. let i = are.all xs ns h in record {
        cell = i.piece.cell;
        table = i.piece.zone.bounds;
        held = in_tables (map packed pieces) i.piece.cell i.piece.zone.bounds (in_map packed pieces i.piece i.listed);
        named = i.inside.same;
        inside = subst (λ z. IsMember z xs) (own_zone i.piece (are.each i.piece i.listed)) i.inside.member;
      };
    }

    can_of : IsStore s → AllByRecursion (CanBeUnpacked s.shape s.period) (map packed pieces)
    can_of valid = all_of (CanBeUnpacked s.shape s.period) (map packed pieces) (λ z h. let w = of_map packed pieces z h in subst (CanBeUnpacked s.shape s.period) w.2 (one w.0 (are.each w.0 w.1)))
      where
        one : (piece : Piece) → IsPieceOf s piece → CanBeUnpacked s.shape s.period (packed piece)
        one piece is = record {
          times = valid.times;
          cell = cell_held s valid piece.cell is.table is.held;
          zone = zone_held s valid piece.cell piece.zone.bounds (own_table piece is);
        }

  -- all are packed
  module _ (shape : Shape) (period : ℕ) (rest : List Piece) (zs : List CellZone) (shape_is : shape ≡ s.shape) (period_is : period ≡ s.period) (none : rest ≡ []) (p : IsPacking s rest zs) where
    whole : ArePieces s p.done
    whole = subst (ArePieces s) (ap (λ l. p.done ++ l) none ∙ no_rest p.done) p.are

    pub packed_same : HasSame s (store_of shape period zs)
    packed_same = rw shape_is (rw period_is (rw p.zones (same_of p.done whole)))

    pub packed_can : IsStore s → AllByRecursion (CanBeUnpacked shape period) zs
    packed_can valid = rw shape_is (rw period_is (rw p.zones (can_of p.done whole valid)))

    -- they are unpacked again
    pub packed_pieces : IsStore s → ArePieces s (map (unpacked shape period) zs)
    packed_pieces valid = rw shape_is (rw period_is (rw p.zones (subst (ArePieces s) (sym (again valid p.done whole.each)) whole)))
      where
        one : IsStore s → (piece : Piece) → IsPieceOf s piece → unpacked s.shape s.period (packed piece) ≡ piece
        one valid piece is = ap (λ z. record { cell = piece.cell; zone = z }) (sym (own_zone piece is))

        again : IsStore s → (pieces : List Piece) → ((piece : Piece) → Contains pieces piece → IsPieceOf s piece) → map (unpacked s.shape s.period) (map packed pieces) ≡ pieces
        again valid [] each = refl
        again valid (x ∷ xs) each = ap (λ y. y ∷ map (unpacked s.shape s.period) (map packed xs)) (one valid x (each x (first_in x xs))) ∙ ap (λ ys. x ∷ ys) (again valid xs (λ y h. each y (later_in x y xs h)))
