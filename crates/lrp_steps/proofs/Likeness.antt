-- The tuples of a store that has the columns and the period of another one, added to that one zone after zone.
use Rattle.std.proofs.Common.{◌≡◌, ℕ, zero, suc, ◌+◌, ◌-◌, ◌<◌, ◌≤◌, ◌^◌, ◌⊎◌, inl, inr, List, [], ◌∷◌, ◌++◌, length, map, take, Bool, true, false, IsSome, refl, sym, ap, subst, ◌∙◌, arith, get_or, Contains, eq-eqb}
use Rattle.std.specs.Prelude.{ℤ, pos, All, ◌==◌, if◌then◌else◌}
use Rattle.std.specs.FinMap as finite
use Rattle.std.specs.FinMap.{empty_of_len}
use Rattle.std.specs.List.{flat_map}
use Rattle.std.proofs.lemmas.List.{ext_get_or, length-map, get_or-take, get_or_default}
use Rattle.lrp_model.specs.Texts.{Text}
use Rattle.lrp_model.specs.declared.tuples.Cell.{Cell}
use Rattle.lrp_model.specs.declared.tuples.Shape.{Shape}
use Rattle.lrp_theory.specs.Entries.{node}
use Rattle.lrp_zone.specs.Zones.{ZoneView, greatest_of, reach_of}
use Rattle.lrp_store.specs.Stores.{StoreView, IsStore, InStore, HasReach, zone_of, tables_at, zones_at}
use Rattle.lrp_store.specs.Growing.{IsGrown, IsAdded, IsRefused, IsTupleOf}
use Rattle.lrp_store.specs.Tables.{AreNumbered}
use Rattle.lrp_store.specs.Reading.{entries_of}
use Rattle.lrp_store.proofs.Grown.{Set}
use Rattle.lrp_store.proofs.Held.{Table, held_of, other_spare}
use Rattle.lrp_store.proofs.Aligning.{head_in, nothing_held, tail_in}
use Rattle.lrp_systems.specs.Parts.{Fits as FitsIn}
use Rattle.lrp_tables.specs.Pieces.{piece_of, pieces_at, pieces_in, IsPieceOf, InPiece, InPieces, ArePieces, FitsCell}
use Rattle.lrp_tables.specs.declared.pieces.Piece.{Piece}
use Rattle.lrp_tables.proofs.Pieced.{in_store, none_left, piece_fits, piece_reach, pieces_are, any_reach}
use Rattle.lrp_tables.proofs.TableMade.{held_times, held_texts}
use Rattle.lrp_tables.specs.declared.names.Places.{Places}
use Rattle.lrp_steps.specs.declared.pattern.Pattern.{Pattern}
use Rattle.lrp_steps.specs.Patterns.{parts_of, IsOver}
use Rattle.lrp_tables.specs.Calls.{number_at}
use Rattle.lrp_steps.specs.Gathered.{AreOwn, CanStandIn, HasBrought, HasNumbersBelow, IsAlike, IsFound}
use Rattle.lrp_steps.proofs.Found.{mapped_at}
use Rattle.lrp_tables.proofs.Gathering.{IsGathering, gathering_none, gathering_more, gathering_refused, gathered, added_as, refused_as}
use Rattle.lrp_steps.proofs.Steps.{free, free_suits}

-- ---- what stands at the columns' own places

-- the times at them are all times
pub own_times : (n : ℕ) (places : List ℕ) → AreOwn n places → (xs : List ℤ) → length xs ≡ n → map (node xs) places ≡ xs
own_times n places own xs count = ext_get_or (pos 0) (map (node xs) places) xs (length-map places (node xs) ∙ own.count ∙ sym count) (λ i h.
    let e : length (map (node xs) places) ≡ length places = length-map places (node xs) in
    let c : length places ≡ n = own.count in
    let later : i + 1 ≡ suc i = omega arith in
    mapped_at (node xs) places i (pos 0) 0 (omega arith) ∙ ap (node xs) (own.each i (omega arith) ∙ later))

-- and so are the numbers of texts
pub own_texts : (n : ℕ) (places : List ℕ) → AreOwn n places → (ns : List ℕ) → length ns ≡ n → map (number_at ns) places ≡ ns
own_texts n places own ns count = ext_get_or 0 (map (number_at ns) places) ns (length-map places (number_at ns) ∙ own.count ∙ sym count) (λ i h.
    let e : length (map (number_at ns) places) ≡ length places = length-map places (number_at ns) in
    let c : length places ≡ n = own.count in
    let same : i + 1 - 1 ≡ i = omega arith in
    mapped_at (number_at ns) places i 0 0 (omega arith) ∙ ap (number_at ns) (own.each i (omega arith)) ∙ ap (λ k. get_or ns k 0) same)

-- numbers of texts in a store are those in its cells
held_below : (s : StoreView) → IsStore s → (size : ℕ) → HasNumbersBelow size s → (xs : List ℤ) (ns : List ℕ) → InStore s xs ns → All (λ n. n < size) ns
held_below s is size below xs ns h i d low =
    let n : length ns ≡ s.shape.texts = held_texts s is xs ns h in
    let e : get_or ns i d ≡ get_or h.cell.texts i 0 = get_or_default ns i d 0 low ∙ ap (λ l. get_or l i 0) (sym h.named) ∙ get_or-take s.shape.texts h.cell.texts i 0 (omega arith) in
    subst (λ k. k < size) (sym e) (below.each h.cell i (subst (λ o. IsSome o) (sym (held_of s.tables h.cell h.table h.held)) refl) (omega arith))

-- numbers of the domain are below its size
pub numbers_below : (domain : List Text) (s : StoreView) (size : ℕ) → size ≡ length domain → AreNumbered domain s → HasNumbersBelow size s
numbers_below domain s size e numbered = record { each = λ cell i h l. subst (λ n. get_or cell.texts i 0 < n) (sym e) (numbered cell i h l) }

-- a store that has the period already reaches as far as it is brought
brought_reach : (s : StoreView) (k high : ℕ) → s.period ≡ k → HasBrought s k high → HasReach s high
brought_reach s k high e b = record { each = λ c t h. let r = b.reach.each c t h in let l = by (s.period == k) (eq-eqb s.period k e) b.within in omega (arith, r, l) }
  where
    by : (t : Bool) → t ≡ true → (if t then b.low else b.low + (k - 1)) ≤ high → b.low ≤ high
    by true h l = l
    by false h l = cc

-- stores that are alike have one shape
pub same_shapes : (s out : StoreView) (places : Places) → CanStandIn places s out → IsAlike places s out → s.shape ≡ out.shape
same_shapes s out places stands alike = by s.shape out.shape (sym stands.count ∙ alike.times.count) (sym stands.texts.count ∙ alike.texts.count)
  where
    by : (a b : Shape) → a.times ≡ b.times → a.texts ≡ b.texts → a ≡ b
    by a b t x = ap (λ n. record { times = n; texts = a.texts }) t ∙ ap (λ n. record { times = b.times; texts = n }) x

-- a pattern that asks nothing has no part, and eight columns whose texts are open
pub free_fits : (pattern : Pattern) → pattern ≡ free → (n k : ℕ) → All (FitsIn n k) (parts_of pattern)
free_fits pattern e n k = subst (λ (p : Pattern). All (FitsIn n k) (parts_of p)) (sym e) (λ i d h. absurd (omega arith))

pub free_known : (pattern : Pattern) → pattern ≡ free → length pattern.texts ≡ 8
free_known pattern e = ap (λ (p : Pattern). length p.texts) e

module _ (s out : StoreView) (is : IsStore s) (valid : IsStore out) (places : Places) (alike : IsAlike places s out) (same : s.shape ≡ out.shape) (pattern : Pattern) (asks : pattern ≡ free) (size : ℕ) (below : HasNumbersBelow size s) where
  -- what is found at the places is what the store holds
  to_found : (xs : List ℤ) (ns : List ℕ) → InStore s xs ns → IsOver out.shape size (IsFound s places pattern) xs ns
  to_found xs ns h =
      let et : length xs ≡ out.shape.times = held_times s is xs ns h ∙ ap (λ (q : Shape). q.times) same in
      let ex : length ns ≡ out.shape.texts = held_texts s is xs ns h ∙ ap (λ (q : Shape). q.texts) same in
      record {
        times_count = et;
        texts_count = ex;
        known = held_below s is size below xs ns h;
        is = record {
          held = subst (λ ys. InStore s ys (map (number_at ns) places.texts)) (sym (own_times out.shape.times places.times alike.times xs et)) (subst (λ ms. InStore s xs ms) (sym (own_texts out.shape.texts places.texts alike.texts ns ex)) h);
          suits = free_suits pattern asks xs ns;
        };
      }

  from_found : (xs : List ℤ) (ns : List ℕ) → IsOver out.shape size (IsFound s places pattern) xs ns → InStore s xs ns
  from_found xs ns h =
      subst (λ ys. InStore s ys ns) (own_times out.shape.times places.times alike.times xs h.times_count)
      (subst (λ ms. InStore s (map (node xs) places.times) ms) (own_texts out.shape.texts places.texts alike.texts ns h.texts_count) h.is.held)

  module _ (cap : ℕ) (new : StoreView) where
    -- where all that the store holds was added, all that is found was
    pub alike_added : ((high : ℕ) → HasReach s high → IsAdded (InStore s) cap high out new) → (high : ℕ) → HasBrought s out.period high → IsAdded (IsOver out.shape size (IsFound s places pattern)) cap high out new
    alike_added all high b = added_as cap (InStore s) (IsOver out.shape size (IsFound s places pattern)) high high (omega arith) out new valid to_found from_found (all high (brought_reach s out.period high alike.period b))

    -- or refused
    pub alike_refused : ((high : ℕ) → HasReach s high → IsRefused (InStore s) cap high out new) → (high : ℕ) → HasBrought s out.period high → IsRefused (IsOver out.shape size (IsFound s places pattern)) cap high out new
    alike_refused all high b = refused_as cap (InStore s) (IsOver out.shape size (IsFound s places pattern)) high high (omega arith) out new valid to_found (all high (brought_reach s out.period high alike.period b))

-- ---- a store without a cell

-- a store that is equal but for its spare slots has what the other has
pub copied_added : (s old new : StoreView) → IsStore s → IsStore old → s.shape ≡ old.shape → s.period ≡ old.period → finite.len old.tables ≡ 0 → new ≡ record s { spare = new.spare } → (cap : ℕ) → finite.len s.tables ≤ cap → (high : ℕ) → HasReach s high → IsAdded (InStore s) cap high old new
copied_added s old new is valid shape period none same cap low high reach = subst (λ v. IsAdded (InStore s) cap high old v) (sym same) (record {
  grown = record {
    valid = other_spare s new.spare is;
    shape = shape;
    period = period;
    kept = λ xs ns h. absurd (nothing_held old (empty_of_len old.tables none) xs ns h);
    sound = λ xs ns h. inr (record { cell = h.cell; table = h.table; held = h.held; named = h.named; inside = h.inside });
    few = λ h. low;
    reach = λ k l h. record { each = λ c t b. let r = reach.each c t b in omega (arith, r, l) };
  };
  whole = record { each = λ xs ns h. record { cell = h.cell; table = h.table; held = h.held; named = h.named; inside = h.inside } };
})

-- ---- zone after zone

-- the zones of cells
abbrev pub pieces_of : List (Cell × List ZoneView) → List Piece
pieces_of entries = flat_map (λ (e : Cell × List ZoneView). pieces_in e.0 e.1) entries

-- the zones of the cells of a store are its zones
module _ (s : StoreView) where
  in_cell : (cell : Cell) → pieces_in cell (zones_at s cell) ≡ pieces_at s cell
  in_cell cell = each (tables_at s cell)
    where
      each : (tables : List Table) → pieces_in cell (map (zone_of s cell) tables) ≡ map (piece_of s cell) tables
      each [] = refl
      each (t ∷ tables) = ap (λ l. piece_of s cell t ∷ l) (each tables)

  in_cells : (cells : List Cell) → pieces_of (map (λ cell. (cell, zones_at s cell)) cells) ≡ flat_map (pieces_at s) cells
  in_cells [] = refl
  in_cells (c ∷ cells) = ap (λ l. l ++ pieces_of (map (λ cell. (cell, zones_at s cell)) cells)) (in_cell c) ∙ ap (λ l. pieces_at s c ++ l) (in_cells cells)

  pub entries_pieces : IsStore s → (entries : List (Cell × List ZoneView)) → entries ≡ entries_of s → ArePieces s (pieces_of entries)
  entries_pieces is entries e = subst (ArePieces s) (none_left s no_cell (length (tables_at s no_cell)) (finite.keys s.tables) (omega arith) ∙ sym (in_cells (finite.keys s.tables)) ∙ ap pieces_of (sym e)) (pieces_are s is no_cell (length (tables_at s no_cell)) (finite.keys s.tables) refl)
    where
      no_cell : Cell
      no_cell = record { texts = []; residues = [] }

-- of all that a store holds, all was added but what is in these zones
pub record IsTaking (s : StoreView) (cap : ℕ) (start out : StoreView) (rest : List Piece) : Type 0 where
  pub each : (piece : Piece) → Contains rest piece → IsPieceOf s piece
  pub gathering : (high : ℕ) → HasReach s high → IsGathering (InStore s) (InPieces s.shape.texts rest) cap high start out

module _ (s start : StoreView) (is : IsStore s) (valid : IsStore start) (shape : s.shape ≡ start.shape) (period : s.period ≡ start.period) (cap : ℕ) where
  -- nothing was added yet
  pub taking_none : (pieces : List Piece) → ArePieces s pieces → IsTaking s cap start start pieces
  taking_none pieces are = record { each = are.each; gathering = λ high r. gathering_none (InStore s) cap high start (InPieces s.shape.texts pieces) valid are.all }

  module _ (out : StoreView) (list rest : List Piece) (piece : Piece) (el : list ≡ piece ∷ rest) (f : IsTaking s cap start out list) where
    grown : IsGrown (InStore s) cap (2 ^ 62) start out
    grown = (f.gathering (2 ^ 62) (any_reach s is)).grown

    same_shape : s.shape ≡ out.shape
    same_shape = shape ∙ sym grown.shape

    next_of : IsPieceOf s piece
    next_of = f.each piece (head_in piece rest list el)

    -- the next zone stands in its cell
    pub taking_fits : FitsCell out.shape out.period piece
    taking_fits = subst (λ k. FitsCell out.shape k piece) (period ∙ sym grown.period) (subst (λ q. FitsCell q s.period piece) same_shape (piece_fits s is piece next_of))

    module _ (new : StoreView) where
      -- the tuples of the next zone
      abbrev pub OfZone : Set
      OfZone = IsTupleOf piece.zone (take out.shape.texts piece.cell.texts)

      to_held : (xs : List ℤ) (ns : List ℕ) → OfZone xs ns → InStore s xs ns
      to_held xs ns h = in_store s piece next_of xs ns (subst (λ (q : Shape). InPiece q.texts piece xs ns) (sym same_shape) h)

      from_held : (xs : List ℤ) (ns : List ℕ) → InStore s xs ns → InPieces s.shape.texts list xs ns → OfZone xs ns ⊎ InPieces s.shape.texts rest xs ns
      from_held xs ns h l = by (subst (λ ps. Contains ps l.piece) el l.listed)
        where
          by : Contains (piece ∷ rest) l.piece → OfZone xs ns ⊎ InPieces s.shape.texts rest xs ns
          by (zero, low, e) = inl (subst (λ (q : Shape). InPiece q.texts piece xs ns) same_shape (subst (λ p. InPiece s.shape.texts p xs ns) (sym e) l.inside))
          by (suc k, low, e) = inr (record { piece = l.piece; listed = (k, omega arith, e); inside = l.inside })

      low_reach : (high : ℕ) → HasReach s high → greatest_of piece.zone.bounds ≤ high
      low_reach high r = let l : reach_of piece.zone ≤ high = piece_reach s piece next_of high r in l

      pub taking_more : IsAdded OfZone cap (greatest_of piece.zone.bounds) out new → IsTaking s cap start new rest
      taking_more a = record {
        each = λ q h. f.each q (tail_in piece rest list el q h);
        gathering = λ high r. gathering_more (InStore s) cap high start (InPieces s.shape.texts list) (InPieces s.shape.texts rest) OfZone (greatest_of piece.zone.bounds) out new (f.gathering high r) (low_reach high r) to_held from_held a;
      }

      pub taking_refused : IsRefused OfZone cap (greatest_of piece.zone.bounds) out new → (high : ℕ) → HasReach s high → IsRefused (InStore s) cap high start new
      taking_refused a high r = gathering_refused (InStore s) cap high start (InPieces s.shape.texts list) OfZone (greatest_of piece.zone.bounds) out new (f.gathering high r) (low_reach high r) to_held a

  -- no zone is left
  pub taken_all : (out : StoreView) → IsTaking s cap start out [] → (high : ℕ) → HasReach s high → IsAdded (InStore s) cap high start out
  taken_all out f high r = gathered (InStore s) cap high start (InPieces s.shape.texts []) out (f.gathering high r) (λ xs ns h l. let low : l.listed.0 < 0 = l.listed.1 in omega arith)
