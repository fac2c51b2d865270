-- A zone inhabits no more cells of a multiple of its period than its columns have choices of residues, one after another.
use Rattle.std.proofs.Common.{◌≡◌, ◌≢◌, ◌⊎◌, inl, inr, ⊎_elim, ℕ, zero, suc, ◌+◌, ◌*◌, ◌/◌, ◌<◌, ◌≤◌, List, [], ◌∷◌, length, take, refl, sym, ap, subst, ◌∙◌, arith, Contains, get_or, Option, Some, None, ◌^◌, SFits, to_z, of_z, w64}
use Rattle.std.specs.Prelude.{ℤ, pos, negsuc, nat_abs, FitsSigned, neg_ℤ, IfSome, ◌-ℤ◌, ◌+ℤ◌, ◌≤ℤ◌, ◌<ℤ◌}
use Rattle.std.specs.Int.{int_rem_euclid, w128}
use Rattle.std.specs.Option.{SomeIff}
use Rattle.std.proofs.Math.Nat.{lt-div-mul-add, mul-pos}
use Rattle.std.proofs.lemmas.Int.{ints, to_z-of_z}
use Rattle.std.proofs.lemmas.List.{get_or-take, length-take-le}
use Rattle.lrp_theory.specs.Bounds.{Within}
use Rattle.lrp_theory.specs.Divides.{Divides}
use Rattle.lrp_theory.specs.Entries.{entry, node}
use Rattle.lrp_theory.proofs.Members.{head_in, in_cons, in_none, later}
use Rattle.lrp_theory.proofs.Modulo.{Divides-+, Divides--, Divides-is, Divides-zero, rem_divides, rem_high, rem_low, small_multiple}
use Rattle.lrp_theory.proofs.Multiples.{Divides-multiple, Divides-trans}
use Rattle.lrp_model.specs.Cells.{Many}
use Rattle.lrp_model.specs.declared.tuples.Cell.{Cell}
use Rattle.lrp_model.specs.declared.tuples.Shape.{Shape}
use Rattle.lrp_zone.specs.Zones.{ZoneView, IsMember, IsResidue, IsZone, columns_of}
use Rattle.lrp_store.specs.Growing.{InhabitsMany}
use Rattle.lrp_store.specs.Stores.{InStore, IsInhabitedCell, IsStore, StoreView}
use Rattle.lrp_tables.specs.Pieces.{ArePieces, InPiece, FitsCell, InPieces, IsPieceOf}
use Rattle.lrp_tables.specs.declared.pieces.Piece.{Piece}
use Rattle.lrp_tables.proofs.CellsNamed.{same_padded}
use Rattle.lrp_tables.proofs.Pieced.{piece_fits}
use Rattle.lrp_tables.proofs.Mapped.{Known, many_known, many_map}
use Rattle.lrp_tables.specs.Caps.{InhabitsMoreThan}
use Rattle.lrp_tables.specs.Tables.{HasAssignment}
use Rattle.lrp_tables.specs.declared.table.Table.{Table}
use Rattle.lrp_periods.specs.Bounding.{TableHasFewCells}
use Rattle.lrp_periods.specs.Windows.{AreWays, IsMostOver, IsWaysLeft, IsWindowBetween}
use Rattle.lrp_periods.proofs.Summing.{many_either, many_none}
use Rattle.lrp_periods.proofs.WayLaws.{below, digit_low, digit_same, few_named, few_numbers, first_same, second_same}

-- a difference that meets a bound
met_at : (d a : ℤ) (e : Option ℤ) → e ≡ Some a → Within d e → d ≤ℤ a
met_at d a e is h = subst (Within d) is h

module _ (z : ZoneView) (is : IsZone z) (ways : ℕ) where
  abbrev p : ℕ
  p = z.period

  abbrev whole : ℕ
  whole = ways * z.period

  low : 0 < z.period
  low = is.shape.period_low

  p_divides : Divides (pos z.period) (pos (ways * z.period))
  p_divides = subst (λ n. Divides (pos z.period) (pos n)) (let e : z.period * ways ≡ ways * z.period = omega arith in e) (Divides-multiple z.period ways)

  -- ---- one column

  -- the number by which a column's residue is told, where those before it are known
  abbrev value : (column own : ℕ) → IsWaysLeft z ways column own → List ℤ → ℤ
  value column own (inl e) xs = int_rem_euclid (node xs column) (pos (ways * z.period))
  value column own (inr w) xs = (node xs column -ℤ node xs w.0) +ℤ w.2.below

  module _ (some : 0 < ways) where
    whole_low : 0 < ways * z.period
    whole_low = mul-pos some low

    value_residue : (column own : ℕ) (left : IsWaysLeft z ways column own) (xs : List ℤ) → IsMember z xs → column ≤ columns_of z → IsResidue (own * z.period) (value column own left xs)
    value_residue column own (inl e) xs m c = subst (λ n. IsResidue (n * z.period) (int_rem_euclid (node xs column) (pos (ways * z.period)))) (sym e) (record { low = rem_low (ways * z.period) (node xs column) whole_low; high = rem_high (ways * z.period) (node xs column) whole_low })
    value_residue column own (inr w) xs m c =
        let a : (node xs column -ℤ node xs w.0) ≤ℤ w.2.above = w.2.most xs m in
        let b : (node xs w.0 -ℤ node xs column) ≤ℤ w.2.below = w.2.least xs m in
        let e : (w.2.above +ℤ w.2.below) <ℤ pos (own * z.period) = w.2.enough in
        record { low = from_zero (node xs column) (node xs w.0) w.2.below b; high = to_end (node xs column) (node xs w.0) w.2.above w.2.below (pos (own * z.period)) a e }
      where
        from_zero : (x y b : ℤ) → (y -ℤ x) ≤ℤ b → pos 0 ≤ℤ ((x -ℤ y) +ℤ b)
        from_zero x y b h = omega (arith, ints)

        to_end : (x y a b n : ℤ) → (x -ℤ y) ≤ℤ a → (a +ℤ b) <ℤ n → ((x -ℤ y) +ℤ b) <ℤ n
        to_end x y a b n h k = omega (arith, ints)

    -- two members have the same residues modulo the zone's period
    members_agree : (i : ℕ) (xs ys : List ℤ) → IsMember z xs → IsMember z ys → i ≤ columns_of z → Divides (pos z.period) (node xs i -ℤ node ys i)
    members_agree i xs ys m k l = Divides-is (pos z.period) ((node xs i -ℤ node z.residues i) -ℤ (node ys i -ℤ node z.residues i)) (node xs i -ℤ node ys i) (omega (arith, ints)) (Divides-- (pos z.period) _ _ (m.cell.each i l) (k.cell.each i l))

    abbrev rest : ℤ → ℤ
    rest x = int_rem_euclid x (pos (ways * z.period))

    rest_agrees : (x : ℤ) → Divides (pos (ways * z.period)) (x -ℤ int_rem_euclid x (pos (ways * z.period)))
    rest_agrees x = rem_divides (pos (ways * z.period)) x (int_rem_euclid x (pos (ways * z.period))) (let w = whole_low in omega (arith, ints)) refl

    value_agrees : (column own : ℕ) (left : IsWaysLeft z ways column own) (xs ys : List ℤ) → IsMember z xs → IsMember z ys → column ≤ columns_of z → Divides (pos z.period) (value column own left xs -ℤ value column own left ys)
    value_agrees column own (inl e) xs ys m k c =
        Divides-is (pos z.period) (((node xs column -ℤ node ys column) -ℤ (node xs column -ℤ rest (node xs column))) +ℤ (node ys column -ℤ rest (node ys column))) _ (turned (node xs column) (node ys column) (rest (node xs column)) (rest (node ys column)))
        (Divides-+ (pos z.period) _ _ (Divides-- (pos z.period) _ _ (members_agree column xs ys m k c) (Divides-trans (pos z.period) (pos (ways * z.period)) _ p_divides (rest_agrees (node xs column)))) (Divides-trans (pos z.period) (pos (ways * z.period)) _ p_divides (rest_agrees (node ys column))))
      where
        turned : (x y r t : ℤ) → (((x -ℤ y) -ℤ (x -ℤ r)) +ℤ (y -ℤ t)) ≡ (r -ℤ t)
        turned x y r t = omega (arith, ints)
    value_agrees column own (inr w) xs ys m k c =
        let i : w.0 ≤ columns_of z = (let l : w.0 < column = w.1 in omega (arith, l, c)) in
        Divides-is (pos z.period) ((node xs column -ℤ node ys column) -ℤ (node xs w.0 -ℤ node ys w.0)) _ (turned (node xs column) (node ys column) (node xs w.0) (node ys w.0) w.2.below)
        (Divides-- (pos z.period) _ _ (members_agree column xs ys m k c) (members_agree w.0 xs ys m k i))
      where
        turned : (x y u v b : ℤ) → ((x -ℤ y) -ℤ (u -ℤ v)) ≡ (((x -ℤ u) +ℤ b) -ℤ ((y -ℤ v) +ℤ b))
        turned x y u v b = omega (arith, ints)

    abbrev digit : (column own : ℕ) → IsWaysLeft z ways column own → List ℤ → ℕ
    digit column own left xs = nat_abs (value column own left xs) / z.period

    column_low : (column own : ℕ) (left : IsWaysLeft z ways column own) (xs : List ℤ) → IsMember z xs → column ≤ columns_of z → digit column own left xs < own
    column_low column own left xs m c = digit_low z.period own low (value column own left xs) (value_residue column own left xs m c)

    -- a column whose digits are the same has the same residue, where the columns before it have
    column_same : (column own : ℕ) (left : IsWaysLeft z ways column own) (xs ys : List ℤ) → IsMember z xs → IsMember z ys → column ≤ columns_of z → ((i : ℕ) → i < column → Divides (pos (ways * z.period)) (node xs i -ℤ node ys i))
        → digit column own left xs ≡ digit column own left ys → Divides (pos (ways * z.period)) (node xs column -ℤ node ys column)
    column_same column own left xs ys m k c before same = by left (digit_same z.period own low (value column own left xs) (value column own left ys) (value_residue column own left xs m c) (value_residue column own left ys k c) (value_agrees column own left xs ys m k c) same)
      where
        by : (l : IsWaysLeft z ways column own) → value column own l xs ≡ value column own l ys → Divides (pos (ways * z.period)) (node xs column -ℤ node ys column)
        by (inl e) h = Divides-is (pos (ways * z.period)) ((node xs column -ℤ rest (node xs column)) -ℤ (node ys column -ℤ rest (node ys column))) _ (turned (node xs column) (node ys column) (rest (node xs column)) (rest (node ys column)) h)
            (Divides-- (pos (ways * z.period)) _ _ (rest_agrees (node xs column)) (rest_agrees (node ys column)))
          where
            turned : (x y r t : ℤ) → r ≡ t → ((x -ℤ r) -ℤ (y -ℤ t)) ≡ (x -ℤ y)
            turned x y r t e = omega (arith, ints)
        by (inr w) h = Divides-is (pos (ways * z.period)) (node xs w.0 -ℤ node ys w.0) _ (turned (node xs column) (node ys column) (node xs w.0) (node ys w.0) w.2.below h) (before w.0 w.1)
          where
            turned : (x y u v b : ℤ) → ((x -ℤ u) +ℤ b) ≡ ((y -ℤ v) +ℤ b) → (u -ℤ v) ≡ (x -ℤ y)
            turned x y u v b e = omega (arith, ints)

    -- ---- all columns

    abbrev rank : (n count : ℕ) → AreWays z ways n count → List ℤ → ℕ
    rank zero count w xs = 0
    rank (suc n) count w xs = rank n w.0 w.2 xs * w.1 + nat_abs (value (suc n) w.1 w.3 xs) / z.period

    rank_low : (n count : ℕ) (w : AreWays z ways n count) (xs : List ℤ) → IsMember z xs → n ≤ columns_of z → rank n count w xs < count
    rank_low zero count w xs m c = let e : count ≡ 1 = w in omega (arith, e)
    rank_low (suc n) count w xs m c =
        let b : rank n w.0 w.2 xs * w.1 + nat_abs (value (suc n) w.1 w.3 xs) / z.period < w.0 * w.1 =
        below w.1 (rank n w.0 w.2 xs) (nat_abs (value (suc n) w.1 w.3 xs) / z.period) w.0 (rank_low n w.0 w.2 xs m (omega (arith, c))) (column_low (suc n) w.1 w.3 xs m c) in
        subst (λ k. rank n w.0 w.2 xs * w.1 + nat_abs (value (suc n) w.1 w.3 xs) / z.period < k) (sym w.4) b

    rank_same : (n count : ℕ) (w : AreWays z ways n count) (xs ys : List ℤ) → IsMember z xs → IsMember z ys → n ≤ columns_of z → rank n count w xs ≡ rank n count w ys → (i : ℕ) → i ≤ n → Divides (pos (ways * z.period)) (node xs i -ℤ node ys i)
    rank_same zero count w xs ys m k c same zero l = Divides-zero (pos (ways * z.period))
    rank_same zero count w xs ys m k c same (suc i) l = absurd (omega arith)
    rank_same (suc n) count w xs ys m k c same i l =
        let lx = column_low (suc n) w.1 w.3 xs m c in
        let ly = column_low (suc n) w.1 w.3 ys k c in
        let front : rank n w.0 w.2 xs ≡ rank n w.0 w.2 ys = first_same w.1 (rank n w.0 w.2 xs) (rank n w.0 w.2 ys) _ _ lx ly same in
        let own : nat_abs (value (suc n) w.1 w.3 xs) / z.period ≡ nat_abs (value (suc n) w.1 w.3 ys) / z.period = second_same w.1 (rank n w.0 w.2 xs) (rank n w.0 w.2 ys) _ _ front same in
        let before : (j : ℕ) → j < suc n → Divides (pos (ways * z.period)) (node xs j -ℤ node ys j) = λ j b. rank_same n w.0 w.2 xs ys m k (omega (arith, c)) front j (omega (arith, b)) in
        elim (last i n l) [
          | inl less ↦ before i less
          | inr e ↦ subst (λ j. Divides (pos (ways * z.period)) (node xs j -ℤ node ys j)) (sym e) (column_same (suc n) w.1 w.3 xs ys m k c before own)
        ]
      where
        last : (i n : ℕ) → i ≤ suc n → (i < suc n) ⊎ (i ≡ suc n)
        last i n l = grind arith

-- ---- the cells of a zone

module _ (shape : Shape) (piece : Piece) (is : IsZone piece.zone) (columns : columns_of piece.zone ≡ shape.times) (ways : ℕ) (some : 0 < ways) (count : ℕ) (w : AreWays piece.zone ways (columns_of piece.zone) count) where
  abbrev InZone : List ℤ → List ℕ → Type 0
  InZone = InPiece shape.texts piece

  abbrev OfZone : Type 0
  OfZone = Known (IsInhabitedCell shape (ways * piece.zone.period) (InPiece shape.texts piece))

  abbrev code : OfZone → ℕ
  code k = rank piece.zone is ways some (columns_of piece.zone) count w k.1.times

  code_low : (k : OfZone) → code k < count
  code_low k = rank_low piece.zone is ways some (columns_of piece.zone) count w k.1.times k.1.is.member (omega arith)

  text_is : (k : OfZone) (i : ℕ) → i < shape.texts → get_or k.0.texts i 0 ≡ get_or (take shape.texts piece.cell.texts) i 0
  text_is k i l = sym (get_or-take shape.texts k.0.texts i 0 l) ∙ ap (λ ms. get_or ms i 0) (k.1.inside.named ∙ sym k.1.is.same)

  residue_is : (a b : OfZone) → code a ≡ code b → (i : ℕ) → i < shape.times → node a.0.residues (suc i) ≡ node b.0.residues (suc i)
  residue_is a b same i l =
      let times : Divides (pos (ways * piece.zone.period)) (node a.1.times (suc i) -ℤ node b.1.times (suc i)) = rank_same piece.zone is ways some (columns_of piece.zone) count w a.1.times b.1.times a.1.is.member b.1.is.member (omega arith) same (suc i) (omega (arith, columns, l)) in
      let agree : Divides (pos (ways * piece.zone.period)) (node a.0.residues (suc i) -ℤ node b.0.residues (suc i)) =
      Divides-is (pos (ways * piece.zone.period)) (((node a.1.times (suc i) -ℤ node b.1.times (suc i)) -ℤ (node a.1.times (suc i) -ℤ node a.0.residues (suc i))) +ℤ (node b.1.times (suc i) -ℤ node b.0.residues (suc i))) _ (turned (node a.1.times (suc i)) (node b.1.times (suc i)) (node a.0.residues (suc i)) (node b.0.residues (suc i)))
      (Divides-+ (pos (ways * piece.zone.period)) _ _ (Divides-- (pos (ways * piece.zone.period)) _ _ times (a.1.inside.residues (suc i) (omega (arith, l)))) (b.1.inside.residues (suc i) (omega (arith, l)))) in
      near (ways * piece.zone.period) (node a.0.residues (suc i)) (node b.0.residues (suc i)) (a.1.proper.range (suc i) (omega (arith, l))) (b.1.proper.range (suc i) (omega (arith, l))) agree
    where
      turned : (x y r t : ℤ) → (((x -ℤ y) -ℤ (x -ℤ r)) +ℤ (y -ℤ t)) ≡ (r -ℤ t)
      turned x y r t = omega (arith, ints)

      near : (n : ℕ) (r t : ℤ) → IsResidue n r → IsResidue n t → Divides (pos n) (r -ℤ t) → r ≡ t
      near n r t ir it d =
          let rl : pos 0 ≤ℤ r = ir.low in
          let rh : r <ℤ pos n = ir.high in
          let tl : pos 0 ≤ℤ t = it.low in
          let th : t <ℤ pos n = it.high in
          let e : r -ℤ t ≡ pos 0 = small_multiple n (r -ℤ t) d (omega (arith, ints)) (omega (arith, ints)) in
          omega (arith, ints)

  code_same : (a b : OfZone) → code a ≡ code b → a.0 ≡ b.0
  code_same a b same =
      let texts : a.0.texts ≡ b.0.texts = same_padded 0 shape.texts a.0.texts b.0.texts a.1.proper.texts b.1.proper.texts (λ i l. text_is a i l ∙ sym (text_is b i l)) in
      let residues : a.0.residues ≡ b.0.residues = same_padded (pos 0) shape.times a.0.residues b.0.residues a.1.proper.residues b.1.proper.residues (residue_is a b same) in
      ap (λ ms. record { texts = ms; residues = a.0.residues }) texts ∙ ap (λ rs. record { texts = b.0.texts; residues = rs }) residues

  pub few_in_zone : InhabitsMany shape (ways * piece.zone.period) (InPiece shape.texts piece) count → ⊥
  few_in_zone m =
      let codes : Many ◌≢◌ (λ n. n < count) count =
      many_map code (λ a b. a.0 ≢ b.0) ◌≢◌ (λ k. Unit {0}) (λ n. n < count) (λ k u. code_low k) (λ a b x y d e. d (code_same a b e)) count (many_known (IsInhabitedCell shape (ways * piece.zone.period) (InPiece shape.texts piece)) ◌≢◌ count m) in
      let n : length codes.cells ≤ count = few_numbers _ codes.cells codes.apart codes.each in
      let c : length codes.cells ≡ count + 1 = codes.count in
      omega arith

-- ---- the zones of a store, one after another

-- of the tuples of a store, those of some zones are counted
pub record IsCounting (s : StoreView) (period total : ℕ) (left : List Piece) : Type 0 where
  pub counted : List Piece
  pub few : InhabitsMany s.shape period (InPieces s.shape.texts counted) total → ⊥
  pub after : (xs : List ℤ) (ns : List ℕ) → InStore s xs ns → InPieces s.shape.texts counted xs ns ⊎ InPieces s.shape.texts left xs ns
  pub each : (piece : Piece) → Contains left piece → IsPieceOf s piece

pub counting_none : {s : StoreView} {period total : ℕ} {left : List Piece} → ArePieces s left → total ≡ 0 → IsCounting s period total left
counting_none {s} {period} {total} {left} are e = subst (λ n. IsCounting s period n left) (sym e) (record {
  counted = [];
  few = λ m. many_none ◌≢◌ (IsInhabitedCell s.shape period (InPieces s.shape.texts [])) 0 (λ c h. in_none h.is.piece h.is.listed) m;
  after = λ xs ns h. inr (are.all xs ns h);
  each = are.each;
})

-- a zone has as many columns as the store has times
columns_fit : {s : StoreView} {piece : Piece} → IsStore s → FitsCell s.shape s.period piece → columns_of piece.zone ≡ s.shape.times
columns_fit {s} {piece} is f = ap length f.residues ∙ length-take-le s.shape.times piece.cell.residues (let n = f.cell.residues.size in let t = is.times in omega arith)

pub counting_more : (s : StoreView) (ways period total more new : ℕ) {left rest : List Piece} {piece : Piece} → IsStore s → 0 < ways → ways * s.period ≡ period → left ≡ piece ∷ rest → IsZone piece.zone → AreWays piece.zone ways (columns_of piece.zone) more → new ≡ total + more
    → IsCounting s period total left → IsCounting s period new rest
counting_more s ways period total more new {left} {rest} {piece} is some e first valid w n c = subst (λ k. IsCounting s period k rest) (sym n) (record {
  counted = piece ∷ c.counted;
  few = λ m. many_either ◌≢◌ (IsInhabitedCell s.shape period (InPieces s.shape.texts c.counted)) (IsInhabitedCell s.shape period (InPiece s.shape.texts piece)) total more c.few own
      (many_map (λ x. x) ◌≢◌ ◌≢◌ (IsInhabitedCell s.shape period (InPieces s.shape.texts (piece ∷ c.counted))) _ (λ x h. cases x h) (λ a b p q d. d) (total + more) m);
  after = λ xs ns h. ⊎_elim (λ a. inl (later_piece xs ns a)) (λ b. moved xs ns b) (c.after xs ns h);
  each = λ other k. c.each other (subst (λ ps. Contains ps other) (sym first) (later piece rest other k));
})
  where
    fits : FitsCell s.shape s.period piece
    fits = piece_fits s is piece (c.each piece (subst (λ ps. Contains ps piece) (sym first) (head_in piece rest)))

    own : InhabitsMany s.shape period (InPiece s.shape.texts piece) more → ⊥
    own m = few_in_zone s.shape piece valid (columns_fit is fits) ways some more w (subst (λ k. InhabitsMany s.shape k (InPiece s.shape.texts piece) more) (sym e ∙ ap (λ k. ways * k) (sym fits.period_is)) m)

    cases : (x : Cell) → IsInhabitedCell s.shape period (InPieces s.shape.texts (piece ∷ c.counted)) x → IsInhabitedCell s.shape period (InPieces s.shape.texts c.counted) x ⊎ IsInhabitedCell s.shape period (InPiece s.shape.texts piece) x
    cases x h = elim (in_cons piece c.counted h.is.piece h.is.listed) [
      | inl same ↦ inr (record { proper = h.proper; times = h.times; texts = h.texts; is = subst (λ q. InPiece s.shape.texts q h.times h.texts) (sym same) h.is.inside; inside = h.inside })
      | inr k ↦ inl (record { proper = h.proper; times = h.times; texts = h.texts; is = record { piece = h.is.piece; listed = k; inside = h.is.inside }; inside = h.inside })
    ]

    later_piece : (xs : List ℤ) (ns : List ℕ) → InPieces s.shape.texts c.counted xs ns → InPieces s.shape.texts (piece ∷ c.counted) xs ns
    later_piece xs ns h = record { piece = h.piece; listed = later piece c.counted h.piece h.listed; inside = h.inside }

    moved : (xs : List ℤ) (ns : List ℕ) → InPieces s.shape.texts left xs ns → InPieces s.shape.texts (piece ∷ c.counted) xs ns ⊎ InPieces s.shape.texts rest xs ns
    moved xs ns h = elim (in_cons piece rest h.piece (subst (λ ps. Contains ps h.piece) first h.listed)) [
      | inl same ↦ inl (record { piece = piece; listed = head_in piece c.counted; inside = subst (λ q. InPiece s.shape.texts q xs ns) (sym same) h.inside })
      | inr k ↦ inr (record { piece = h.piece; listed = k; inside = h.inside })
    ]

pub counting_done : {s : StoreView} {period total : ℕ} {left : List Piece} → left ≡ [] → IsCounting s period total left → InhabitsMany s.shape period (InStore s) total → ⊥
counting_done {s} {period} {total} {left} e c m = c.few
    (many_map (λ x. x) ◌≢◌ ◌≢◌ (IsInhabitedCell s.shape period (InStore s)) (IsInhabitedCell s.shape period (InPieces s.shape.texts c.counted))
    (λ x h. record { proper = h.proper; times = h.times; texts = h.texts; is = ⊎_elim (λ a. a) (λ b. absurd (in_none b.piece (subst (λ ps. Contains ps b.piece) e b.listed))) (c.after h.times h.texts h.is); inside = h.inside }) (λ a b p q d. d) total m)

-- ---- one column more, and one window more

pub ways_none : (z : ZoneView) (ways count : ℕ) (n : ℕ) → n ≡ 0 → count ≡ 1 → AreWays z ways n count
ways_none z ways count n e f = subst (λ k. AreWays z ways k count) (sym e) f

pub ways_more : (z : ZoneView) (ways before own new : ℕ) (n m : ℕ) → m ≡ suc n → AreWays z ways n before → IsWaysLeft z ways (n + 1) own → new ≡ before * own → AreWays z ways m new
ways_more z ways before own new n m e w l f = subst (λ k. AreWays z ways k new) (sym e) (before, own, w, subst (λ k. IsWaysLeft z ways k own) (let s : n + 1 ≡ suc n = omega arith in s) l, f)

pub left_none : (z : ZoneView) (ways count column : ℕ) → count ≡ ways → IsWaysLeft z ways column count
left_none z ways count column e = inl e

-- the lesser of the ways so far and of a window
pub left_more : (z : ZoneView) (ways least new : ℕ) (column other : ℕ) (found : Option ℕ) → other < column → IfSome found (IsWindowBetween z column other) → (new ≡ least) ⊎ (found ≡ Some new) → IsWaysLeft z ways column least → IsWaysLeft z ways column new
left_more z ways least new column other found low is cases left = ⊎_elim
    (λ e. subst (IsWaysLeft z ways column) (sym e) left)
    (λ e. inr (other, low, of_some found e is)) cases
  where
    of_some : (o : Option ℕ) → o ≡ Some new → IfSome o (IsWindowBetween z column other) → IsWindowBetween z column other new
    of_some (Some n) e w = subst (IsWindowBetween z column other) (let x : n ≡ new = cc in x) w
    of_some None e w = cc

pub window_is : (z : ZoneView) (column other : ℕ) (above below width : ℤ) (period : ℕ) → IsMostOver z column other above → IsMostOver z other column below → (r : Option ℕ) → IfSome r (λ count. width <ℤ pos (count * period)) → width ≡ (above +ℤ below) → period ≡ z.period → IfSome r (IsWindowBetween z column other)
window_is z column other above below width period a b (Some count) h w e = record { above = above; below = below; most = a; least = b; enough = subst (λ x. x <ℤ pos (count * z.period)) w (subst (λ k. width <ℤ pos (count * k)) e h) }
window_is z column other above below width period a b None h w e = tt

-- ---- how far a column may be over another one

-- a stored bound says so
pub stored_over : (z : ZoneView) (i j : ℕ) (e : Option ℤ) → i ≤ columns_of z → j ≤ columns_of z → entry z.bounds i j ≡ e → IfSome e (IsMostOver z i j)
stored_over z i j None l r is = tt
stored_over z i j (Some a) l r is = λ xs m. met_at _ a _ is (m.meets i j l r)

-- and the sum of two beside a third column
pub over_through : (z : ZoneView) (i k j : ℕ) (a b c : ℤ) → IsMostOver z i k a → IsMostOver z k j b → c ≡ (a +ℤ b) → IsMostOver z i j c
over_through z i k j a b c f g e xs m = along (node xs i) (node xs k) (node xs j) a b c (f xs m) (g xs m) e
  where
    along : (x y w a b c : ℤ) → (x -ℤ y) ≤ℤ a → (y -ℤ w) ≤ℤ b → c ≡ (a +ℤ b) → (x -ℤ w) ≤ℤ c
    along x y w a b c f g e = omega (arith, ints)

-- if it is a word
pub over_sum : (z : ZoneView) (i k j : ℕ) (a b : ℤ) (r : Option ℤ) → SFits w64 a → SFits w64 b → IsMostOver z i k a → IsMostOver z k j b → SomeIff r (FitsSigned w64 (to_z w64 (of_z w64 a) +ℤ to_z w64 (of_z w64 b))) (to_z w64 (of_z w64 a) +ℤ to_z w64 (of_z w64 b)) → IfSome r (IsMostOver z i j)
over_sum z i k j a b (Some c) x y f g s = over_through z i k j a b c f g (s.1 ∙ ap (λ u. u +ℤ to_z w64 (of_z w64 b)) (to_z-of_z w64 a x) ∙ ap (λ u. a +ℤ u) (to_z-of_z w64 b y))
over_sum z i k j a b None x y f g s = tt

-- of two bounds the one that is taken
pub over_either : (z : ZoneView) (i j : ℕ) (r a b : Option ℤ) → (r ≡ a) ⊎ (r ≡ b) → IfSome a (IsMostOver z i j) → IfSome b (IsMostOver z i j) → IfSome r (IsMostOver z i j)
over_either z i j r a b (inl e) f g = subst (λ o. IfSome o (IsMostOver z i j)) (sym e) f
over_either z i j r a b (inr e) f g = subst (λ o. IfSome o (IsMostOver z i j)) (sym e) g

-- the width of two words
pub width_is : (a b r : ℤ) → SFits w64 a → SFits w64 b → r ≡ (to_z w64 (of_z w64 a) +ℤ to_z w64 (of_z w64 b)) → to_z w128 (of_z w128 r) ≡ (a +ℤ b)
width_is a b r x y e = subst (λ u. to_z w128 (of_z w128 u) ≡ (a +ℤ b)) (sym (e ∙ ap (λ u. u +ℤ to_z w64 (of_z w64 b)) (to_z-of_z w64 a x) ∙ ap (λ u. a +ℤ u) (to_z-of_z w64 b y))) (wide a b (word_low a x) (word_high a x) (word_low b y) (word_high b y))
  where
    word_low : (a : ℤ) → SFits w64 a → neg_ℤ (pos (2 ^ 63)) ≤ℤ a
    word_low (pos n) x = omega (arith, ints)
    word_low (negsuc n) x = let l : n < 2 ^ 63 = x.sfits in omega (arith, ints)

    word_high : (a : ℤ) → SFits w64 a → a ≤ℤ pos (2 ^ 63)
    word_high (pos n) x = let l : n < 2 ^ 63 = x.sfits in omega (arith, ints)
    word_high (negsuc n) x = omega (arith, ints)

    wide : (a b : ℤ) → neg_ℤ (pos (2 ^ 63)) ≤ℤ a → a ≤ℤ pos (2 ^ 63) → neg_ℤ (pos (2 ^ 63)) ≤ℤ b → b ≤ℤ pos (2 ^ 63) → to_z w128 (of_z w128 (a +ℤ b)) ≡ (a +ℤ b)
    wide a b al ah bl bh = omega (arith, ints)

-- a period is its word
pub period_is : (z : ZoneView) → IsZone z → (r : ℤ) → r ≡ pos z.period → nat_abs (to_z w64 (of_z w64 r)) ≡ z.period
period_is z is r e = word z.period r e is.shape.period_high
  where
    word : (p : ℕ) (r : ℤ) → r ≡ pos p → p ≤ 2 ^ 62 → nat_abs (to_z w64 (of_z w64 r)) ≡ p
    word p r e h = omega (arith, ints)

-- one period more than go into a width is more than it
pub steps_enough : (width : ℤ) (period steps : ℕ) → 0 < period → pos 0 ≤ℤ width → steps ≡ nat_abs width / period → width <ℤ pos ((steps + 1) * period)
steps_enough width period steps low high e =
    let l : nat_abs width < nat_abs width / period * period + period = lt-div-mul-add low in
    let f : (steps + 1) * period ≡ nat_abs width / period * period + period = ap (λ s. (s + 1) * period) e ∙ plus (nat_abs width / period) period in
    subst (λ n. width <ℤ pos n) (sym f) (whole width (nat_abs width / period * period + period) high l)
  where
    plus : (a b : ℕ) → (a + 1) * b ≡ a * b + b
    plus a b = omega arith

    whole : (w : ℤ) (n : ℕ) → pos 0 ≤ℤ w → nat_abs w < n → w <ℤ pos n
    whole w n l h = omega (arith, ints)

-- what the tuples of a table's store inhabit, its assignments do
pub few_at : (table : Table) → IsStore table.store → (ways period count : ℕ) → 0 < ways → ways * table.store.period ≡ period → (InhabitsMany table.store.shape period (InStore table.store) count → ⊥) → TableHasFewCells count period table
few_at table is ways period count some e few domain ascends numbered m =
    few_named domain ascends table is numbered ways count some (λ k. few (subst (λ p. InhabitsMany table.store.shape p (InStore table.store) count) e k))
    (subst (λ p. InhabitsMoreThan count domain p table.vars.times table.vars.texts (HasAssignment table domain)) (sym e) m)
