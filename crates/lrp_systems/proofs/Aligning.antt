-- How the tuples of a store come into cells of a larger period, zone after zone.
use Rattle.std.proofs.Common.{◌≡◌, ℕ, zero, suc, ◌+◌, ◌-◌, ◌<◌, ◌≤◌, ◌^◌, ◌⊎◌, inl, inr, List, [], ◌∷◌, Result, Err, length, sym, ap, subst, ◌∙◌, arith, Contains}
use Rattle.std.specs.Prelude.{ℤ, pos, nat_abs, ◌≤ℤ◌}
use Rattle.std.specs.FinMap as finite
use Rattle.std.specs.FinMap.{len-empty}
use Rattle.std.proofs.lemmas.Int.{ints}
use Rattle.std.proofs.lemmas.List.{length-take-le}
use Rattle.lrp_theory.specs.Divides.{Divides}
use Rattle.lrp_slots.specs.Lists.{cell_cmp}
use Rattle.lrp_zone.specs.Zones.{columns_of, reach_of}
use Rattle.lrp_store.specs.Stores.{StoreView, IsStore, InStore, IsPadded, HasReach}
use Rattle.lrp_store.specs.Growing.{IsGrown, IsAdded, IsRefused, InhabitsMany}
use Rattle.lrp_store.proofs.Held.{Table}
use Rattle.lrp_store.proofs.Grown.{grown_same, grown_on, grown_within, one_more_of}
use Rattle.lrp_store.proofs.Aligning.{head_in, tail_in, nothing_held}
use Rattle.lrp_store.proofs.Counted.{many, not_many}
use Rattle.lrp_store.proofs.Rooms.{empty_reach}
use Rattle.lrp_tables.specs.Pieces.{IsPieceOf, InPiece, InPieces, ArePieces, FitsCell}
use Rattle.lrp_tables.specs.declared.pieces.Piece.{Piece}
use Rattle.lrp_tables.proofs.Pieced.{in_store, piece_fits, piece_reach}
use Rattle.lrp_systems.specs.Aligned.{CanBeBrought, IsAligned}

-- the tuples of all zones but these were added, and no others
pub record IsAligning (cap : ℕ) (s start out : StoreView) (rest : List Piece) : Type 0 where
  pub each : (piece : Piece) → Contains rest piece → IsPieceOf s piece
  pub grown : (high : ℕ) → HasReach s high → IsGrown (InStore s) cap (high + (start.period - 1)) start out
  pub after : (xs : List ℤ) (ns : List ℕ) → InStore s xs ns → InStore out xs ns ⊎ InPieces s.shape.texts rest xs ns

-- no zone was added yet
pub aligning_none : (cap : ℕ) (s start : StoreView) → IsStore start → (pieces : List Piece) → ArePieces s pieces → IsAligning cap s start start pieces
aligning_none cap s start is pieces are = record { each = are.each; grown = λ high r. grown_same cap (high + (start.period - 1)) _ start is; after = λ xs ns h. inr (are.all xs ns h) }

module _ (cap : ℕ) (s start : StoreView) (is : IsStore s) (shape : start.shape ≡ s.shape) (k : ℕ) (period : start.period ≡ k) (high : k ≤ 2 ^ 62) (room : HasReach s (2 ^ 62 - k)) where
  module _ (out : StoreView) (list rest : List Piece) (piece : Piece) (el : list ≡ piece ∷ rest) (p : IsAligning cap s start out list) where
    -- the next zone is one of the store
    next_is : IsPieceOf s piece
    next_is = p.each piece (head_in piece rest list el)

    next_fits : FitsCell s.shape s.period piece
    next_fits = piece_fits s is piece next_is

    out_shape : out.shape ≡ s.shape
    out_shape = (p.grown (2 ^ 62 - k) room).shape ∙ shape

    out_period : out.period ≡ k
    out_period = (p.grown (2 ^ 62 - k) room).period ∙ period

    next_columns : columns_of piece.zone ≡ out.shape.times
    next_columns =
        let few : s.shape.times ≤ 8 = is.times in
        let size : length piece.cell.residues ≡ 8 = next_fits.cell.residues.size in
        ap length next_fits.residues ∙ length-take-le s.shape.times piece.cell.residues (omega arith) ∙ ap (λ h. h.times) (sym out_shape)

    next_texts : IsPadded 0 out.shape.texts piece.cell.texts
    next_texts = subst (λ h. IsPadded 0 h.texts piece.cell.texts) (sym out_shape) next_fits.cell.texts

    next_multiple : Divides (pos s.period) (pos k) → Divides (pos piece.zone.period) (pos out.period)
    next_multiple d = subst (λ m. Divides (pos m) (pos out.period)) (sym next_fits.period_is) (subst (λ m. Divides (pos s.period) (pos m)) (sym out_period) d)

    next_reach : reach_of piece.zone + out.period ≤ 2 ^ 62
    next_reach = let l : reach_of piece.zone ≤ 2 ^ 62 - k = piece_reach s piece next_is (2 ^ 62 - k) room in let e : out.period ≡ k = out_period in omega arith

    -- so it can be brought to the larger period
    pub next_brought : Divides (pos s.period) (pos k) → CanBeBrought piece out
    next_brought d = record { valid = (p.grown (2 ^ 62 - k) room).valid; columns = next_columns; texts = next_texts; multiple = next_multiple d; reach = next_reach }

    -- its tuples are tuples of the store
    of_piece : (xs : List ℤ) (ns : List ℕ) → InPiece out.shape.texts piece xs ns → InStore s xs ns
    of_piece xs ns h = in_store s piece next_is xs ns (subst (λ q. InPiece q.texts piece xs ns) out_shape h)

    module _ (new : StoreView) where
      grown_more : IsGrown (InPiece out.shape.texts piece) cap (reach_of piece.zone + (out.period - 1)) out new → (most : ℕ) → HasReach s most → IsGrown (InStore s) cap (most + (start.period - 1)) start new
      grown_more g most r =
          let low : reach_of piece.zone ≤ most = piece_reach s piece next_is most r in
          let e : out.period ≡ start.period = (p.grown (2 ^ 62 - k) room).period in
          grown_on cap (most + (start.period - 1)) _ _ start out new of_piece (p.grown most r) (grown_within cap (reach_of piece.zone + (out.period - 1)) (most + (start.period - 1)) _ out new (omega arith) g)

      -- with them one zone more was added
      pub aligning_more : IsAdded (InPiece out.shape.texts piece) cap (reach_of piece.zone + (out.period - 1)) out new → IsAligning cap s start new rest
      aligning_more a = record {
        each = λ q h. p.each q (tail_in piece rest list el q h);
        grown = grown_more a.grown;
        after = λ xs ns h. elim (p.after xs ns h) [
          | inl i ↦ inl (a.grown.kept xs ns i)
          | inr j ↦ by_place xs ns j (subst (λ l. Contains l j.piece) el j.listed)
        ];
      }
        where
          by_place : (xs : List ℤ) (ns : List ℕ) → (j : InPieces s.shape.texts list xs ns) → Contains (piece ∷ rest) j.piece → InStore new xs ns ⊎ InPieces s.shape.texts rest xs ns
          by_place xs ns j (zero, l, e) = inl (a.whole.each xs ns (subst (λ q. InPiece q.texts piece xs ns) (sym out_shape) (subst (λ q. InPiece s.shape.texts q xs ns) (sym e) j.inside)))
          by_place xs ns j (suc i, l, e) = inr (record { piece = j.piece; listed = (i, omega arith, e); inside = j.inside })

      -- or a cell of theirs is one too many for the store
      pub aligning_refused : start.tables ≡ finite.empty → IsRefused (InPiece out.shape.texts piece) cap (reach_of piece.zone + (out.period - 1)) out new → InhabitsMany s.shape k (InStore s) cap
      aligning_refused empty h =
          let all = grown_more h.grown (2 ^ 62 - k) room in
          subst (λ q. InhabitsMany q k (InStore s) cap) (all.shape ∙ shape) (subst (λ m. InhabitsMany new.shape m (InStore s) cap) (all.period ∙ period)
          (many new all.valid (InStore s) cap (λ xs ns i. elim (all.sound xs ns i) [ inl j ↦ absurd (nothing_held start empty xs ns j) | inr j ↦ j ]) (one_more_of cap _ _ new of_piece h.more)))

  module _ (out : StoreView) (p : IsAligning cap s start out []) (empty : start.tables ≡ finite.empty) where
    last_grown : IsGrown (InStore s) cap ((2 ^ 62 - k) + (start.period - 1)) start out
    last_grown = p.grown (2 ^ 62 - k) room

    all_held : (xs : List ℤ) (ns : List ℕ) → InStore s xs ns → InStore out xs ns
    all_held xs ns h = elim (p.after xs ns h) [ inl i ↦ i | inr j ↦ (let l : j.listed.0 < 0 = j.listed.1 in absurd (omega arith)) ]

    -- with no zone left, the store is aligned
    pub aligned : IsAligned s k out
    aligned = record {
      shape = last_grown.shape ∙ shape;
      period_is = last_grown.period ∙ period;
      same = record { sound = λ xs ns h. elim (last_grown.sound xs ns h) [ inl i ↦ absurd (nothing_held start empty xs ns i) | inr i ↦ i ]; whole = all_held };
      reach = λ most r. subst (λ n. HasReach out (most + (n - 1))) period ((p.grown most r).reach (most + (start.period - 1)) (omega arith) (empty_reach start (most + (start.period - 1)) empty));
    }

    -- and its tuples inhabit no more than cap cells
    pub aligned_few : InhabitsMany s.shape k (InStore s) cap → ⊥
    aligned_few more =
        not_many out last_grown.valid (InStore s) cap (record { each = all_held }) (last_grown.few (let e : finite.len start.tables ≡ 0 = ap finite.len empty ∙ len-empty cell_cmp (List Table) in omega arith))
        (subst (λ q. InhabitsMany q out.period (InStore s) cap) (sym (last_grown.shape ∙ shape)) (subst (λ m. InhabitsMany s.shape m (InStore s) cap) (sym (last_grown.period ∙ period)) more))

-- a period is a natural number
pub period_abs : (v : ℤ) → pos 1 ≤ℤ v → pos (nat_abs v) ≡ v
period_abs v low = omega (arith, ints)

pub period_most : (v : ℤ) → pos 1 ≤ℤ v → v ≤ℤ pos (2 ^ 62) → nat_abs v ≤ 2 ^ 62
period_most v low high = omega (arith, ints)

-- the same fault, whatever else could have been answered
pub same_fault : {A B E : Type 0} (x y : E) → ◌≡◌ {A = Result A E} (Err x) (Err y) → ◌≡◌ {A = Result B E} (Err x) (Err y)
same_fault x y e = let same : x ≡ y = cc in ap (λ z. Err z) same
