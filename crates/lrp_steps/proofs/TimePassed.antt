-- A pass over the cells of a store that adds their tuples without one time.
use Rattle.std.proofs.Common.{◌≡◌, ℕ, ◌+◌, ◌-◌, ◌*◌, ◌<◌, ◌≤◌, ◌^◌, List, [], ◌∷◌, ◌++◌, length, take, refl, sym, ap, subst, ◌∙◌, arith, Contains, to_z, of_z}
use Rattle.std.specs.Prelude.{ℤ, Ok, pos, nat_abs}
use Rattle.std.specs.FinMap as finite
use Rattle.std.specs.Int.{w64}
use Rattle.std.proofs.lemmas.List.{length-take-le}
use Rattle.lrp_model.specs.declared.tuples.Cell.{Cell}
use Rattle.lrp_model.specs.declared.tuples.Shape.{Shape}
use Rattle.lrp_theory.proofs.Members.{later}
use Rattle.lrp_zone.specs.Zones.{ZoneView, IsZone, greatest_of, reach_of}
use Rattle.lrp_zone.specs.Columns.{IsDropped}
use Rattle.lrp_store.specs.Growing.{IsAdded, IsGrown, IsTupleOf}
use Rattle.lrp_store.specs.Reading.{entries_of}
use Rattle.lrp_store.specs.Stores.{StoreView, IsStore, InStore, HasReach}
use Rattle.lrp_systems.specs.Wholes.{HoldsCell}
use Rattle.lrp_tables.specs.Passes.{IsMadeFrom}
use Rattle.lrp_tables.specs.Pieces.{FitsCell, InPiece, IsPieceOf, pieces_in, pieces_of}
use Rattle.lrp_tables.specs.declared.pieces.Piece.{Piece}
use Rattle.lrp_tables.proofs.Adding.{IsZoneOf}
use Rattle.lrp_tables.proofs.Passing.{IsPassing, next_is, passed, passing_cell, passing_more, passing_none}
use Rattle.lrp_tables.proofs.Pieced.{all_are, cell_given, entry_cell, piece_fits, piece_reach}
use Rattle.lrp_steps.specs.Tuples.{IsCellWithoutTime, IsStoreWithoutTime, IsWithoutTime}
use Rattle.lrp_steps.proofs.NewZones.{begun_like, new_added}
use Rattle.lrp_steps.proofs.Steps.{store_period}
use Rattle.lrp_steps.proofs.TimeDropped.{fits_longer, time_dropped}
use Rattle.lrp_steps.proofs.WholeCells.{nothing_left}

-- the shape of tuples without one time
abbrev pub fewer_times : Shape → Shape
fewer_times shape = record { times = shape.times - 1; texts = shape.texts }

-- a store of no tuples yet, of the period of another one and with one time fewer
pub record IsBegunWithout (s start : StoreView) : Type 0 where
  pub valid : IsStore start
  pub shape : start.shape ≡ fewer_times s.shape
  pub period : start.period ≡ s.period
  pub empty : start.tables ≡ finite.empty

pub begun_without : (s start : StoreView) (shape : Shape) (period : ℤ) → IsStore s → start ≡ record { shape = record { times = shape.times - 1; texts = shape.texts }; period = nat_abs (to_z w64 (of_z w64 period)); tables = finite.empty; spare = 0 } → shape ≡ s.shape → period ≡ pos s.period → IsBegunWithout s start
begun_without s start shape period is e same p =
    let times : shape.times ≡ s.shape.times = ap (λ h. h.times) same in
    let texts : shape.texts ≡ s.shape.texts = ap (λ h. h.texts) same in
    record {
      valid = begun_like s start _ period is e p (omega (arith, times)) (omega (arith, texts));
      shape = ap (λ v. v.shape) e ∙ ap fewer_times same;
      period = ap (λ v. v.period) e ∙ store_period s.period period is.period_low is.period_high p;
      empty = ap (λ v. v.tables) e;
    }

-- of all zones but these the tuples without the time were added
abbrev pub IsDropping : ℕ → StoreView → StoreView → StoreView → List Piece → Type 0
IsDropping place s start out rest = IsPassing (IsWithoutTime place) (λ high. 2 * high) (2 ^ 32 - 1) s start out rest

-- of all cells but these, which are cells of the store with their zones
pub record AreDropping (place : ℕ) (s start out : StoreView) (entries : List (Cell × List ZoneView)) : Type 0 where
  pub dropping : IsDropping place s start out (pieces_of entries)
  pub held : (e : Cell × List ZoneView) → Contains entries e → Contains (entries_of s) e

-- of the cell without the time that is looked at these zones are left, and after it these cells
pub record IsDroppingCell (place : ℕ) (s start out : StoreView) (new : Cell) (zones : List ZoneView) (entries : List (Cell × List ZoneView)) : Type 0 where
  pub cell : Cell
  pub cut : IsCellWithoutTime place cell new
  pub dropping : IsDropping place s start out (pieces_in cell zones ++ pieces_of entries)
  pub held : (e : Cell × List ZoneView) → Contains entries e → Contains (entries_of s) e

module _ (place : ℕ) (s start : StoreView) (is : IsStore s) (low : place < s.shape.times) (begun : IsBegunWithout s start) where
  -- nothing was added yet
  pub dropping_none : (entries : List (Cell × List ZoneView)) → entries ≡ entries_of s → AreDropping place s start start entries
  dropping_none entries e = record {
    dropping = passing_none (IsWithoutTime place) (λ high. 2 * high) (2 ^ 32 - 1) s start begun.valid (pieces_of entries) (all_are s is entries e);
    held = λ x h. subst (λ l. Contains l x) e h;
  }

  module _ (reach : HasReach s (2 ^ 61)) where
    grown : (out : StoreView) (rest : List Piece) → IsDropping place s start out rest → IsGrown (IsMadeFrom (IsWithoutTime place) (InStore s)) (2 ^ 32 - 1) (2 * 2 ^ 61) start out
    grown out rest p = p.grown (2 ^ 61) reach

    shape_is : (out : StoreView) (rest : List Piece) → IsDropping place s start out rest → out.shape ≡ fewer_times s.shape
    shape_is out rest p = (grown out rest p).shape ∙ begun.shape

    texts_are : (out : StoreView) (rest : List Piece) → IsDropping place s start out rest → out.shape.texts ≡ s.shape.texts
    texts_are out rest p = ap (λ h. h.texts) (shape_is out rest p)

    fits : (out : StoreView) (rest : List Piece) → IsDropping place s start out rest → (piece : Piece) → IsPieceOf s piece → FitsCell (record { times = out.shape.times + 1; texts = out.shape.texts }) out.period piece
    fits out rest p piece of = fits_longer s out place low (shape_is out rest p) ((grown out rest p).period ∙ begun.period) piece (piece_fits s is piece of)

    place_low : (out : StoreView) (rest : List Piece) → IsDropping place s start out rest → place ≤ out.shape.times
    place_low out rest p = let e : out.shape.times ≡ s.shape.times - 1 = ap (λ h. h.times) (shape_is out rest p) in omega (arith, e, low)

    short : (out : StoreView) (rest : List Piece) → IsDropping place s start out rest → out.shape.times < 8
    short out rest p = let e : out.shape.times ≡ s.shape.times - 1 = ap (λ h. h.times) (shape_is out rest p) in let m : s.shape.times ≤ 8 = is.times in omega (arith, e, low, m)

    -- the next cell is one of the store's
    pub next_cell_size : (out : StoreView) (entries : List (Cell × List ZoneView)) (cell : Cell) (zones : List ZoneView) (rest : List (Cell × List ZoneView)) → entries ≡ (cell, zones) ∷ rest → AreDropping place s start out entries → length cell.residues ≡ 8
    next_cell_size out entries cell zones rest e d = (entry_cell s is cell zones (d.held (cell, zones) (subst (λ l. Contains l (cell, zones)) (sym e) (0, omega arith, refl)))).residues.size

    rest_held : (entries : List (Cell × List ZoneView)) (cell : Cell) (zones : List ZoneView) (rest : List (Cell × List ZoneView)) → entries ≡ (cell, zones) ∷ rest → ((x : Cell × List ZoneView) → Contains entries x → Contains (entries_of s) x) → (x : Cell × List ZoneView) → Contains rest x → Contains (entries_of s) x
    rest_held entries cell zones rest e held x h = held x (subst (λ l. Contains l x) (sym e) (later (cell, zones) rest x h))

    -- the zones of the next cell are gone through
    pub cell_begun : (out : StoreView) (entries : List (Cell × List ZoneView)) (cell new : Cell) (zones left : List ZoneView) (rest : List (Cell × List ZoneView)) → entries ≡ (cell, zones) ∷ rest → left ≡ zones → IsCellWithoutTime place cell new → AreDropping place s start out entries → IsDroppingCell place s start out new left rest
    cell_begun out entries cell new zones left rest e same cut d = record {
      cell = cell;
      cut = cut;
      dropping = subst (λ zs. IsDropping place s start out (pieces_in cell zs ++ pieces_of rest)) (sym same) (subst (IsDropping place s start out) (cell_given cell zones rest entries e) d.dropping);
      held = rest_held entries cell zones rest e d.held;
    }

    -- after them the next cell is looked at
    pub cell_done : (out : StoreView) (new : Cell) (left : List ZoneView) (rest : List (Cell × List ZoneView)) → left ≡ [] → IsDroppingCell place s start out new left rest → AreDropping place s start out rest
    cell_done out new left rest none d = record { dropping = subst (λ zs. IsDropping place s start out (pieces_in d.cell zs ++ pieces_of rest)) none d.dropping; held = d.held }

    -- a cell all of whose tuples are held without the time is passed over
    pub cell_skipped : (out : StoreView) (entries : List (Cell × List ZoneView)) (cell new : Cell) (zones : List ZoneView) (rest : List (Cell × List ZoneView)) → entries ≡ (cell, zones) ∷ rest → IsCellWithoutTime place cell new → HoldsCell out new → AreDropping place s start out entries → AreDropping place s start out rest
    cell_skipped out entries cell new zones rest e cut whole d =
        let p : IsDropping place s start out (pieces_in cell zones ++ pieces_of rest) = subst (IsDropping place s start out) (cell_given cell zones rest entries e) d.dropping in
        record {
          dropping = passing_cell (IsWithoutTime place) (λ high. 2 * high) (2 ^ 32 - 1) s start out out.shape.texts (texts_are out (pieces_in cell zones ++ pieces_of rest) p) (λ low high le. omega arith) cell zones (pieces_of rest)
              (λ zone of. nothing_left (record { cell = cell; zone = zone }) place out (grown out (pieces_in cell zones ++ pieces_of rest) p).valid (place_low out (pieces_in cell zones ++ pieces_of rest) p) (short out (pieces_in cell zones ++ pieces_of rest) p)
              (fits out (pieces_in cell zones ++ pieces_of rest) p (record { cell = cell; zone = zone }) of) new.residues cut.residues (2 ^ 32 - 1) (2 * reach_of zone) (subst (λ ts. HoldsCell out (record { texts = ts; residues = new.residues })) cut.texts whole))
              p;
          held = rest_held entries cell zones rest e d.held;
        }

    module _ (out : StoreView) (new : Cell) (zones rest : List ZoneView) (more : List (Cell × List ZoneView)) (zone : ZoneView) (el : zones ≡ zone ∷ rest) (d : IsDroppingCell place s start out new zones more) where
      abbrev piece : Piece
      piece = record { cell = d.cell; zone = zone }

      abbrev old_list : List Piece
      old_list = pieces_in d.cell zones ++ pieces_of more

      first : old_list ≡ piece ∷ (pieces_in d.cell rest ++ pieces_of more)
      first = ap (λ l. pieces_in d.cell l ++ pieces_of more) el

      of : IsPieceOf s piece
      of = next_is (IsWithoutTime place) (λ high. 2 * high) (2 ^ 32 - 1) s start out out old_list (pieces_in d.cell rest ++ pieces_of more) piece first d.dropping

      pub zone_reach : 2 * reach_of zone ≤ 2 ^ 62
      zone_reach = let l : reach_of zone ≤ 2 ^ 61 = piece_reach s piece of (2 ^ 61) reach in omega (arith, l)

      pub zone_columns : length zone.residues ≡ s.shape.times
      zone_columns = let fit = piece_fits s is piece of in ap length fit.residues ∙ length-take-le s.shape.times d.cell.residues (let size : length d.cell.residues ≡ 8 = fit.cell.residues.size in let times : s.shape.times ≤ 8 = is.times in omega (arith, size, times))

      module _ (w : ZoneView) (valid : IsZone w) (drop : IsDropped zone (place + 1) w) where
        -- the shorter zone can stand in its cell
        pub shorter_is : IsZoneOf (IsMadeFrom (IsWithoutTime place) (InPiece out.shape.texts piece)) out new w (2 * reach_of zone)
        shorter_is = subst (λ ts. IsZoneOf (IsMadeFrom (IsWithoutTime place) (InPiece out.shape.texts piece)) out (record { texts = ts; residues = new.residues }) w (2 * reach_of zone)) (sym d.cut.texts)
            (time_dropped piece place out (grown out old_list d.dropping).valid (place_low out old_list d.dropping) (short out old_list d.dropping) (fits out old_list d.dropping piece of) w valid drop new.residues d.cut.residues)

        -- and is added
        pub shorter_added : (next : StoreView) → IsAdded (IsTupleOf w (take out.shape.texts new.texts)) (2 ^ 32 - 1) (greatest_of w.bounds) out next → IsDroppingCell place s start next new rest more
        shorter_added next a =
            let made : IsAdded (IsMadeFrom (IsWithoutTime place) (InPiece out.shape.texts piece)) (2 ^ 32 - 1) (2 * reach_of zone) out next =
            new_added (IsMadeFrom (IsWithoutTime place) (InPiece out.shape.texts piece)) out (grown out old_list d.dropping).valid new w (2 * reach_of zone) shorter_is (2 ^ 32 - 1) next {T = Unit {0}} {E = Unit {0}} (Ok tt) a in
            record {
              cell = d.cell;
              cut = d.cut;
              dropping = passing_more (IsWithoutTime place) (λ high. 2 * high) (2 ^ 32 - 1) s start out next old_list (pieces_in d.cell rest ++ pieces_of more) piece first d.dropping out.shape.texts (texts_are out old_list d.dropping) (λ low high le. omega arith) made;
              held = d.held;
            }

    -- with no cell left, the store has the tuples without the time
    pub all_dropped : (out : StoreView) (entries : List (Cell × List ZoneView)) → entries ≡ [] → AreDropping place s start out entries → IsStoreWithoutTime place s out
    all_dropped out entries e d =
        let p : IsDropping place s start out [] = subst (λ l. IsDropping place s start out (pieces_of l)) e d.dropping in
        let times : out.shape.times ≡ s.shape.times - 1 = ap (λ h. h.times) (shape_is out [] p) in
        record {
          valid = (grown out [] p).valid;
          times = omega (arith, times, low);
          texts = texts_are out [] p;
          made = passed (IsWithoutTime place) (λ high. 2 * high) (2 ^ 32 - 1) s start out p begun.empty (2 ^ 61) reach begun.period;
        }
