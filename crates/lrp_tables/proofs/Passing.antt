-- A pass over the zones of a store that adds what a step makes of the tuples of each.
use Rattle.std.proofs.Common.{◌≡◌, ℕ, zero, suc, ◌<◌, ◌≤◌, ◌^◌, ◌⊎◌, inl, inr, List, [], ◌∷◌, ◌++◌, length, refl, sym, ap, subst, ◌∙◌, arith, Contains}
use Rattle.std.specs.Prelude.{ℤ, pos, nat_abs, ◌≤ℤ◌, unwrap_or}
use Rattle.std.proofs.lemmas.Int.{ints}
use Rattle.std.specs.FinMap as finite
use Rattle.std.specs.FinMap.{get-empty}
use Rattle.lrp_slots.specs.Lists.{cell_cmp}
use Rattle.lrp_model.specs.declared.tuples.Cell.{Cell}
use Rattle.lrp_model.specs.declared.tuples.Shape.{Shape}
use Rattle.lrp_zone.specs.Zones.{ZoneView, reach_of}
use Rattle.lrp_store.specs.Stores.{StoreView, IsStore, InStore, HasReach, tables_at}
use Rattle.lrp_store.specs.Growing.{IsGrown, IsAdded}
use Rattle.lrp_store.proofs.Held.{Table, new_store}
use Rattle.lrp_store.proofs.Grown.{grown_same, grown_on, grown_within}
use Rattle.lrp_store.proofs.Aligning.{head_in, tail_in, nothing_held}
use Rattle.lrp_store.proofs.Rooms.{empty_reach}
use Rattle.lrp_tables.specs.Pieces.{IsPieceOf, InPiece, InPieces, ArePieces, pieces_in}
use Rattle.lrp_tables.specs.Passes.{IsMadeFrom, IsResult}
use Rattle.lrp_tables.specs.declared.pieces.Piece.{Piece}
use Rattle.lrp_tables.proofs.Pieced.{in_store, piece_reach}

-- a store that was begun with a shape and a period is a store
pub begun_store : (out : StoreView) (shape : Shape) (period : ℕ) → out ≡ record { shape = shape; period = period; tables = finite.empty; spare = 0 } → shape.times ≤ 8 → shape.texts ≤ 8 → 0 < period → period ≤ 2 ^ 62 → IsStore out
begun_store out shape period e times texts low high = subst IsStore (sym e) (new_store shape period times texts low high)

-- and so is one whose period is a word's
pub begun_by : (out : StoreView) (shape : Shape) (period : ℕ) (step : ℤ) → out ≡ record { shape = shape; period = period; tables = finite.empty; spare = 0 } → period ≡ nat_abs step → shape.times ≤ 8 → shape.texts ≤ 8 → pos 1 ≤ℤ step → step ≤ℤ pos (2 ^ 62) → IsStore out
begun_by out shape period step e k times texts low high = begun_store out shape period e times texts (let l : 0 < nat_abs step = omega (arith, ints) in omega (arith, k, l)) (let h : nat_abs step ≤ 2 ^ 62 = omega (arith, ints) in omega (arith, k, h))

-- a store without cells has no zone
pub nothing_at : (s : StoreView) → s.tables ≡ finite.empty → (c : Cell) (t : Table) → Contains (tables_at s c) t → ⊥
nothing_at s empty c t h =
    let l : h.0 < length (tables_at s c) = h.1 in
    let e : length (tables_at s c) ≡ 0 = ap (λ m. length (unwrap_or (finite.get m c) [])) empty ∙ ap (λ o. length (unwrap_or o [])) (get-empty cell_cmp c) in omega arith

-- which tuples a step makes of a tuple
abbrev pub Makes : Type 1
Makes = List ℤ → List ℕ → List ℤ → List ℕ → Type 0

-- what is made of the tuples of all zones but these was added
pub record IsPassing (makes : Makes) (reach : ℕ → ℕ) (cap : ℕ) (s start out : StoreView) (rest : List Piece) : Type 0 where
  pub each : (piece : Piece) → Contains rest piece → IsPieceOf s piece
  pub grown : (high : ℕ) → HasReach s high → IsGrown (IsMadeFrom makes (InStore s)) cap (reach high) start out
  pub after : (xs : List ℤ) (ns : List ℕ) → InStore s xs ns → ((ys : List ℤ) (ms : List ℕ) → makes xs ns ys ms → InStore out ys ms) ⊎ InPieces s.shape.texts rest xs ns

module _ (makes : Makes) (reach : ℕ → ℕ) (cap : ℕ) (s start : StoreView) where
  -- nothing was added yet
  pub passing_none : IsStore start → (pieces : List Piece) → ArePieces s pieces → IsPassing makes reach cap s start start pieces
  passing_none is pieces are = record { each = are.each; grown = λ high r. grown_same cap (reach high) _ start is; after = λ xs ns h. inr (are.all xs ns h) }

  -- what is made of a zone's tuples is made of the store's
  made_more : (n : ℕ) → n ≡ s.shape.texts → (piece : Piece) → IsPieceOf s piece → (ys : List ℤ) (ms : List ℕ) → IsMadeFrom makes (InPiece n piece) ys ms → IsMadeFrom makes (InStore s) ys ms
  made_more n e piece is ys ms h = record { old_times = h.old_times; old_texts = h.old_texts; is = in_store s piece is h.old_times h.old_texts (subst (λ k. InPiece k piece h.old_times h.old_texts) e h.is); made = h.made }

  module _ (out new : StoreView) (list rest : List Piece) (piece : Piece) (el : list ≡ piece ∷ rest) (p : IsPassing makes reach cap s start out list) where
    -- it is a zone of the store
    pub next_is : IsPieceOf s piece
    next_is = p.each piece (head_in piece rest list el)

    module _ (n : ℕ) (texts : n ≡ s.shape.texts) (more : (low high : ℕ) → low ≤ high → reach low ≤ reach high) where
      -- a part was added
      grown_more : IsGrown (IsMadeFrom makes (InPiece n piece)) cap (reach (reach_of piece.zone)) out new → (high : ℕ) → HasReach s high → IsGrown (IsMadeFrom makes (InStore s)) cap (reach high) start new
      grown_more g high r = grown_on cap (reach high) _ _ start out new (made_more n texts piece next_is) (p.grown high r)
          (grown_within cap (reach (reach_of piece.zone)) (reach high) _ out new (more (reach_of piece.zone) high (piece_reach s piece next_is high r)) g)

      -- one zone more is after
      pub passing_more : IsAdded (IsMadeFrom makes (InPiece n piece)) cap (reach (reach_of piece.zone)) out new → IsPassing makes reach cap s start new rest
      passing_more a = record {
        each = λ q h. p.each q (tail_in piece rest list el q h);
        grown = grown_more a.grown;
        after = λ xs ns h. elim (p.after xs ns h) [
          | inl j ↦ inl (λ ys ms m. a.grown.kept ys ms (j ys ms m))
          | inr j ↦ by_place xs ns j (subst (λ l. Contains l j.piece) el j.listed)
        ];
      }
        where
          by_place : (xs : List ℤ) (ns : List ℕ) → (j : InPieces s.shape.texts list xs ns) → Contains (piece ∷ rest) j.piece → ((ys : List ℤ) (ms : List ℕ) → makes xs ns ys ms → InStore new ys ms) ⊎ InPieces s.shape.texts rest xs ns
          by_place xs ns j (zero, l, e) = inl (λ ys ms m. a.whole.each ys ms (record { old_times = xs; old_texts = ns; is = subst (λ k. InPiece k piece xs ns) (sym texts) (subst (λ q. InPiece s.shape.texts q xs ns) (sym e) j.inside); made = m }))
          by_place xs ns j (suc k, l, e) = inr (record { piece = j.piece; listed = (k, omega arith, e); inside = j.inside })

  -- the zones of a cell bring nothing, since all that is made of them is held
  pub passing_cell : (out : StoreView) (n : ℕ) → n ≡ s.shape.texts → ((low high : ℕ) → low ≤ high → reach low ≤ reach high) → (cell : Cell) (zones : List ZoneView) (rest : List Piece)
      → ((zone : ZoneView) → IsPieceOf s (record { cell = cell; zone = zone }) → IsAdded (IsMadeFrom makes (InPiece n (record { cell = cell; zone = zone }))) cap (reach (reach_of zone)) out out)
      → IsPassing makes reach cap s start out (pieces_in cell zones ++ rest) → IsPassing makes reach cap s start out rest
  passing_cell out n texts more cell [] rest held p = p
  passing_cell out n texts more cell (zone ∷ zones) rest held p =
      let piece : Piece = record { cell = cell; zone = zone } in
      let is : IsPieceOf s piece = next_is out out (pieces_in cell (zone ∷ zones) ++ rest) (pieces_in cell zones ++ rest) piece refl p in
      passing_cell out n texts more cell zones rest held (passing_more out out (pieces_in cell (zone ∷ zones) ++ rest) (pieces_in cell zones ++ rest) piece refl p n texts more (held zone is))

  module _ (out : StoreView) (p : IsPassing makes reach cap s start out []) (empty : start.tables ≡ finite.empty) (h0 : ℕ) (r0 : HasReach s h0) where
    -- all that is made is held
    all_made : (ys : List ℤ) (ms : List ℕ) → IsMadeFrom makes (InStore s) ys ms → InStore out ys ms
    all_made ys ms h = elim (p.after h.old_times h.old_texts h.is) [
      | inl j ↦ j ys ms h.made
      | inr j ↦ (let l : j.listed.0 < 0 = j.listed.1 in absurd (omega arith))
    ]

    -- with no zone left, the store holds just what is made
    pub passed : start.period ≡ s.period → IsResult makes reach s out
    passed period = record {
      period = (p.grown h0 r0).period ∙ period;
      same = record { sound = λ ys ms h. elim ((p.grown h0 r0).sound ys ms h) [ inl j ↦ absurd (nothing_held start empty ys ms j) | inr j ↦ j ]; whole = all_made };
      within = λ high r. (p.grown high r).reach (reach high) (omega arith) (empty_reach start (reach high) empty);
    }
