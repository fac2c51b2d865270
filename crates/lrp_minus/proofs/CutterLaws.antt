-- The zones of a store as cutters of a longer cell.
use Rattle.std.proofs.Common.{◌≡◌, ℕ, ◌+◌, ◌-◌, ◌<◌, ◌≤◌, inl, inr, List, [], ◌∷◌, ◌++◌, length, map, take, Some, None, get_or, sym, ap, subst, ◌∙◌, arith, length-append}
use Rattle.std.specs.Prelude.{ℤ, pos, nat_abs, Contains, slice_get, ◌-ℤ◌, ◌+ℤ◌}
use Rattle.std.proofs.lemmas.Int.{ints}
use Rattle.std.proofs.lemmas.List.{length-map, length-take-le}
use Rattle.std.proofs.lemmas.Option.{slice_get_within, slice_get-get_or, get_or_from_slice_get}
use Rattle.std.proofs.Math.Seq.{take-length}
use Rattle.lrp_theory.specs.Divides.{Divides}
use Rattle.lrp_theory.specs.Entries.{node}
use Rattle.lrp_theory.proofs.Modulo.{Divides-+, Divides-is}
use Rattle.lrp_theory.proofs.Multiples.{Divides-trans}
use Rattle.lrp_model.specs.declared.tuples.Cell.{Cell}
use Rattle.lrp_zone.specs.Residues.{HasResidues, HasNoRefined, IsRefined}
use Rattle.lrp_zone.specs.Spread.{ArePlaces, IsSpread, target}
use Rattle.lrp_zone.specs.Zones.{ZoneView, IsZone, IsMember, IsResidue, columns_of, reach_of}
use Rattle.lrp_zone.proofs.Placed.{node_map}
use Rattle.lrp_store.specs.Settled.{InSome}
use Rattle.lrp_store.specs.Stores.{StoreView, IsStore, InStore, IsCellOf, HasReach, LiesInCell, zone_of, tables_at, zones_at}
use Rattle.lrp_store.proofs.Counted.{lies_in, one_cell}
use Rattle.lrp_store.proofs.Held.{Table, cell_held, node_take, zone_held}
use Rattle.lrp_minus.specs.Beneath.{AgreesAt, AreResiduesAt, IsCellBeneath}
use Rattle.lrp_tables.specs.Calls.{number_at}
use Rattle.lrp_minus.specs.Cutters.{AreCutOf, AreCutters, CanCut, HasNoCutter, IsCutter}
use Rattle.lrp_cutting.specs.Differences.{greatest_reach}
use Rattle.lrp_tables.specs.declared.names.Places.{Places}
use Rattle.lrp_minus.proofs.BeneathLaws.{numbers_front}
use Rattle.lrp_cutting.proofs.Lists.{from_map, front_more, got_in, greatest_below, in_either, in_left, in_map, in_nothing, in_right, in_this, reach_below, reach_push, this_has, in_none, in_one}
use Rattle.std.proofs.lemmas.List.Elements.{Contains-append_cases, Contains-append_left, Contains-push}

-- ---- one zone

module _ (z : ZoneView) (valid : IsZone z) (places : List ℕ) (rs : List ℤ) (count : length places ≡ columns_of z) (are : ArePlaces places (length rs)) (own : List ℤ) (taken : AreResiduesAt places rs own) where
  own_count : length (take (length places) own) ≡ length places
  own_count = length-take-le (length places) own (let e : length own ≡ 8 = taken.padded.size in let l : columns_of z ≤ 8 = valid.shape.columns in omega arith)

  pub own_columns : length (take (length places) own) ≡ columns_of z
  own_columns = own_count ∙ count

  own_at : (p : ℕ) → p ≤ columns_of z → node (take (length places) own) p ≡ node rs (target places p)
  own_at p h = node_take (length places) own p (omega arith) ∙ taken.each p (omega arith)

  high : (p : ℕ) → p ≤ columns_of z → target places p ≤ length rs
  high p h = are.high p (omega arith)

  pub own_residues : (k : ℕ) → ((p : ℕ) → p ≤ length rs → IsResidue k (node rs p)) → (p : ℕ) → p ≤ columns_of z → IsResidue k (node (take (length places) own) p)
  own_residues k each p h = subst (IsResidue k) (sym (own_at p h)) (each (target places p) (high p h))

  pub own_agrees : ((p : ℕ) → p ≤ columns_of z → Divides (pos z.period) (node rs (target places p) -ℤ node z.residues p)) → (p : ℕ) → p ≤ columns_of z → Divides (pos z.period) (node (take (length places) own) p -ℤ node z.residues p)
  own_agrees each p h = subst (λ r. Divides (pos z.period) (r -ℤ node z.residues p)) (sym (own_at p h)) (each p h)

  module _ (k : ℤ) where
    -- the values at the places have the residues at the places
    has_own : (xs : List ℤ) → HasResidues k rs xs → HasResidues k (take (length places) own) (map (node xs) places)
    has_own xs h = record {
      each = λ p l.
          let c : length (take (length places) own) ≡ columns_of z = own_columns in
          let pl : p ≤ columns_of z = omega arith in
          subst (λ r. Divides k (node (map (node xs) places) p -ℤ r)) (sym (own_at p pl))
          (subst (λ v. Divides k (v -ℤ node rs (target places p))) (sym (node_map places xs p (omega arith))) (h.each (target places p) (high p pl)));
    }

    pub no_cutter : HasNoRefined z k (take (length places) own) → HasNoCutter z places k rs
    no_cutter n = record { none = λ xs c h m. n.none (map (node xs) places) m (has_own xs h) }

    module _ (piece : ZoneView) (p : IsRefined z k (take (length places) own) piece) where
      pub piece_columns : length places ≡ columns_of piece
      piece_columns = sym (ap length p.residues ∙ own_count)

      pub piece_period : (n : ℕ) → k ≡ pos n → piece.period ≡ n
      piece_period n e = let q : pos piece.period ≡ pos n = p.period ∙ e in omega (arith, ints)

      pub piece_own : (q : ℕ) → q ≤ columns_of piece → node rs (target places q) ≡ node piece.residues q
      piece_own q h = sym (own_at q (let c : length places ≡ columns_of piece = piece_columns in omega arith)) ∙ ap (λ l. node l q) (sym p.residues)

      pub cutter_is : (w : ZoneView) → IsSpread piece places rs w → IsCutter z places k rs w
      cutter_is w s = record {
        period = ap (λ n. pos n) s.period ∙ p.period;
        residues = s.residues;
        to = λ xs m. (p.to (map (node xs) places) (s.to xs m)).0;
        from = λ xs c h m. s.from xs (record {
          count = c ∙ ap length (sym s.residues);
          each = λ i il. subst (λ y. Divides y (node xs i -ℤ node w.residues i)) (sym (ap (λ n. pos n) s.period ∙ p.period)) (subst (λ l. Divides k (node xs i -ℤ node l i)) (sym s.residues) (h.each i (let e : length w.residues ≡ length rs = ap length s.residues in omega arith)));
        }) (p.from (map (node xs) places) m (has_own xs h));
        reach = let a : reach_of w ≤ reach_of piece = s.reach in let b : reach_of piece ≤ reach_of z + (piece.period - 1) = p.reach in let e : w.period ≡ piece.period = s.period in omega arith;
      }

-- ---- all zones of a cell

module _ (places : List ℕ) (k : ℕ) (rs : List ℤ) where
  pub cut_none : AreCutOf [] places k rs []
  cut_none = record {
    period = λ w h. absurd (in_none w h);
    residues = λ w h. absurd (in_none w h);
    to = λ xs h. absurd (in_nothing xs h);
    from = λ xs c r h. absurd (in_nothing (map (node xs) places) h);
    reach = omega arith;
    few = omega arith;
  }

  module _ (zones cutters : List ZoneView) (cut : AreCutOf zones places k rs cutters) (z : ZoneView) (n : ℤ) (en : n ≡ pos k) where
    wider : greatest_reach zones ≤ greatest_reach (zones ++ z ∷ [])
    wider = greatest_below zones _ (λ w h. reach_below (zones ++ z ∷ []) w (listed w h))
      where
        listed : (w : ZoneView) → Contains zones w → Contains (zones ++ z ∷ []) w
        listed w h = Contains-append_left zones (z ∷ []) w h

    newest : reach_of z ≤ greatest_reach (zones ++ z ∷ [])
    newest = reach_below (zones ++ z ∷ []) z (Contains-push zones z)

    -- a zone that gives no cutter
    pub cut_less : HasNoCutter z places n rs → AreCutOf (zones ++ z ∷ []) places k rs cutters
    cut_less none = record {
      period = cut.period;
      residues = cut.residues;
      to = λ xs h. in_left zones (z ∷ []) (map (node xs) places) (cut.to xs h);
      from = λ xs c r h. elim (in_either zones (z ∷ []) (map (node xs) places) h) [
        | inl a ↦ cut.from xs c r a
        | inr b ↦ absurd (none.none xs c (subst (λ y. HasResidues y rs xs) (sym en) r) (this_has z (map (node xs) places) b))
      ];
      reach = let a : greatest_reach cutters ≤ greatest_reach zones + (k - 1) = cut.reach in let b = wider in omega arith;
      few = let f : length cutters ≤ length zones = cut.few in let l : length (zones ++ z ∷ []) ≡ length zones + 1 = length-append zones (z ∷ []) in omega arith;
    }

    -- and one that gives one
    pub cut_more : (w : ZoneView) → IsCutter z places n rs w → AreCutOf (zones ++ z ∷ []) places k rs (cutters ++ w ∷ [])
    cut_more w c = record {
      period = λ v h. elim (Contains-append_cases cutters (w ∷ []) v h) [ inl a ↦ cut.period v a | inr b ↦ subst (λ u. u.period ≡ k) (in_one w v b) same_period ];
      residues = λ v h. elim (Contains-append_cases cutters (w ∷ []) v h) [ inl a ↦ cut.residues v a | inr b ↦ subst (λ u. u.residues ≡ rs) (in_one w v b) c.residues ];
      to = λ xs h. elim (in_either cutters (w ∷ []) xs h) [
        | inl a ↦ in_left zones (z ∷ []) (map (node xs) places) (cut.to xs a)
        | inr b ↦ in_right zones (z ∷ []) (map (node xs) places) (in_this z (map (node xs) places) (c.to xs (this_has w xs b)))
      ];
      from = λ xs l r h. elim (in_either zones (z ∷ []) (map (node xs) places) h) [
        | inl a ↦ in_left cutters (w ∷ []) xs (cut.from xs l r a)
        | inr b ↦ in_right cutters (w ∷ []) xs (in_this w xs (c.from xs l (subst (λ y. HasResidues y rs xs) (sym en) r) (this_has z (map (node xs) places) b)))
      ];
      reach = reach_push cutters w _ (let a : greatest_reach cutters ≤ greatest_reach zones + (k - 1) = cut.reach in let b = wider in omega arith)
          (let a : reach_of w ≤ reach_of z + (w.period - 1) = c.reach in let e = same_period in let b = newest in omega arith);
      few = let f : length cutters ≤ length zones = cut.few in let l : length (zones ++ z ∷ []) ≡ length zones + 1 = length-append zones (z ∷ []) in let m : length (cutters ++ w ∷ []) ≡ length cutters + 1 = length-append cutters (w ∷ []) in omega arith;
    }
      where
        same_period : w.period ≡ k
        same_period = let q : pos w.period ≡ pos k = c.period ∙ en in omega (arith, ints)

-- ---- a zone that is read

module _ (s : StoreView) (is : IsStore s) (c : Cell) (i : ℕ) (z : ZoneView) (e : slice_get (zones_at s c) i ≡ Some z) where
  pub read_at : (t : Table) × Contains (tables_at s c) t × (zone_of s c t ≡ z)
  read_at = from_map (zone_of s c) (tables_at s c) z (got_in (zones_at s c) i z e)

  pub read_zone : IsZone z
  read_zone = subst IsZone read_at.2 (zone_held s is c read_at.0 read_at.1)

  pub read_period : z.period ≡ s.period
  read_period = ap (λ v. v.period) (sym read_at.2)

  pub read_residues : z.residues ≡ take s.shape.times c.residues
  read_residues = ap (λ v. v.residues) (sym read_at.2)

  pub read_columns : columns_of z ≡ s.shape.times
  read_columns = ap length read_residues ∙ length-take-le s.shape.times c.residues (let n : length c.residues ≡ 8 = (cell_held s is c read_at.0 read_at.1).residues.size in let l : s.shape.times ≤ 8 = is.times in omega arith)

  pub read_reach : (high : ℕ) → HasReach s high → reach_of z ≤ high
  read_reach high r = subst (λ v. reach_of v ≤ high) read_at.2 (r.each c read_at.0 read_at.1)

  pub read_agrees : (places : List ℕ) (rs : List ℤ) → AgreesAt s places rs c → (p : ℕ) → p ≤ columns_of z → Divides (pos z.period) (node rs (target places p) -ℤ node z.residues p)
  read_agrees places rs a p h =
      let l : p ≤ s.shape.times = (let n = read_columns in omega arith) in
      subst (λ (k : ℕ). Divides (pos k) (node rs (target places p) -ℤ node z.residues p)) (sym read_period)
      (subst (λ (r : ℤ). Divides (pos s.period) (node rs (target places p) -ℤ r)) (sym (ap (λ q. node q p) read_residues ∙ node_take s.shape.times c.residues p l)) (a.each p l))

-- a zone stands at each place below their number
pub all_read : (s : StoreView) (c : Cell) (i : ℕ) → i < length (tables_at s c) → slice_get (zones_at s c) i ≡ None → ⊥
all_read s c i low none = none_some (get_or (zones_at s c) i (zone_of s c [])) (sym none ∙ slice_get-get_or (zones_at s c) i (zone_of s c []) (let e : length (zones_at s c) ≡ length (tables_at s c) = length-map (tables_at s c) (zone_of s c) in omega arith))
  where
    none_some : {X : Type 0} (x : X) → None ≡ Some x → ⊥
    none_some x e = cc

-- all zones of a cell reach no farther than those of the store
pub zones_reach : (s : StoreView) (c : Cell) (high : ℕ) → HasReach s high → greatest_reach (zones_at s c) ≤ high
zones_reach s c high r = greatest_below (zones_at s c) high (λ w h. let t = from_map (zone_of s c) (tables_at s c) w h in subst (λ v. reach_of v ≤ high) t.2 (r.each c t.0 t.1))

-- ---- the cell beneath

module _ (places : Places) (left : StoreView) (left_is : IsStore left) (cell : Cell) (proper : IsCellOf left.shape left.period cell) (right : StoreView) (right_is : IsStore right) (can : CanCut places left right) (below : Cell) (beneath : IsCellBeneath places right cell below) where
  abbrev front : List ℤ
  front = take left.shape.times cell.residues

  pub front_count : length (take left.shape.times cell.residues) ≡ left.shape.times
  front_count = length-take-le left.shape.times cell.residues (let e : length cell.residues ≡ 8 = proper.residues.size in let l : left.shape.times ≤ 8 = left_is.times in omega arith)

  pub front_residues : (p : ℕ) → p ≤ length (take left.shape.times cell.residues) → IsResidue left.period (node (take left.shape.times cell.residues) p)
  front_residues p h =
      let l : p ≤ left.shape.times = (let e = front_count in omega arith) in
      subst (IsResidue left.period) (sym (node_take left.shape.times cell.residues p l)) (proper.range p l)

  pub front_places : ArePlaces places.times (length (take left.shape.times cell.residues))
  front_places = subst (ArePlaces places.times) (sym front_count) can.among.in_times

  pub front_agrees : AgreesAt right places.times (take left.shape.times cell.residues) below
  front_agrees = record {
    each = λ p h.
        let l : target places.times p ≤ left.shape.times = can.among.in_times.high p (let e : length places.times ≡ right.shape.times = can.among.times_count in omega arith) in
        subst (λ r. Divides (pos right.period) (r -ℤ node below.residues p)) (sym (node_take left.shape.times cell.residues (target places.times p) l)) (beneath.residues.each p h);
  }

  numbers_are : map (number_at (take left.shape.texts cell.texts)) places.texts ≡ map (number_at cell.texts) places.texts
  numbers_are = numbers_front left.shape.texts cell.texts places.texts can.among.in_texts

  -- what a tuple of the cell has at the places lies in the cell beneath
  lies : (xs : List ℤ) → HasResidues (pos left.period) (take left.shape.times cell.residues) xs → LiesInCell right.shape right.period below (map (node xs) places.times) (map (number_at (take left.shape.texts cell.texts)) places.texts)
  lies xs h = record {
    count = length-map places.times (node xs) ∙ can.among.times_count;
    residues = λ i l.
        let pl : i ≤ length places.times = (let e : length places.times ≡ right.shape.times = can.among.times_count in omega arith) in
        let t : target places.times i ≤ length (take left.shape.times cell.residues) = front_places.high i pl in
        let a : Divides (pos right.period) (node xs (target places.times i) -ℤ node (take left.shape.times cell.residues) (target places.times i)) = Divides-trans (pos right.period) (pos left.period) _ can.multiple (h.each (target places.times i) t) in
        subst (λ v. Divides (pos right.period) (v -ℤ node below.residues i)) (sym (node_map places.times xs i pl))
        (Divides-is (pos right.period) ((node xs (target places.times i) -ℤ node (take left.shape.times cell.residues) (target places.times i)) +ℤ (node (take left.shape.times cell.residues) (target places.times i) -ℤ node below.residues i))
        (node xs (target places.times i) -ℤ node below.residues i) (omega (arith, ints)) (Divides-+ (pos right.period) _ _ a (front_agrees.each i l)));
    named = beneath.texts ∙ sym numbers_are;
  }

  pub cutters_are : (cutters : List ZoneView) → AreCutOf (zones_at right below) places.times left.period (take left.shape.times cell.residues) cutters → AreCutters places left cell right cutters
  cutters_are cutters cut = record {
    period = cut.period;
    residues = cut.residues;
    to = λ xs h.
        let i = cut.to xs h in
        let t = from_map (zone_of right below) (tables_at right below) i.zone i.listed in
        record { cell = below; table = t.0; held = t.1; named = beneath.texts ∙ sym numbers_are; inside = subst (λ w. IsMember w (map (node xs) places.times)) (sym t.2) i.inside };
    from = λ xs c r h. cut.from xs (c ∙ sym front_count) r (found xs r h);
    reach = λ high r. let a : greatest_reach cutters ≤ greatest_reach (zones_at right below) + (left.period - 1) = cut.reach in let b : greatest_reach (zones_at right below) ≤ high = zones_reach right below high r in omega arith;
    few = λ n at. let f : length cutters ≤ length (zones_at right below) = cut.few in let l : length (zones_at right below) ≡ length (tables_at right below) = length-map (tables_at right below) (zone_of right below) in let m : length (tables_at right below) ≤ n = at below in omega arith;
  }
    where
      found : (xs : List ℤ) → HasResidues (pos left.period) (take left.shape.times cell.residues) xs → InStore right (map (node xs) places.times) (map (number_at (take left.shape.texts cell.texts)) places.texts) → InSome (zones_at right below) (map (node xs) places.times)
      found xs r h =
          let e : h.cell ≡ below = one_cell right.shape right.period h.cell below _ _ (cell_held right right_is h.cell h.table h.held) beneath.proper (lies_in right right_is _ _ h) (lies xs r) in
          record {
            zone = zone_of right below h.table;
            listed = in_map (zone_of right below) (tables_at right below) h.table (subst (λ d. Contains (tables_at right d) h.table) e h.held);
            inside = subst (λ d. IsMember (zone_of right d h.table) (map (node xs) places.times)) e h.inside;
          }

  -- the same with a period, places and residues as they are passed
  module _ (n : ℕ) (en : n ≡ left.shape.times) (k : ℤ) (ek : k ≡ pos left.period) where
    pub passed_residues : (p : ℕ) → p ≤ length (take n cell.residues) → IsResidue (nat_abs k) (node (take n cell.residues) p)
    passed_residues = subst (λ (m : ℕ). (p : ℕ) → p ≤ length (take m cell.residues) → IsResidue (nat_abs k) (node (take m cell.residues) p)) (sym en)
        (subst (λ (j : ℤ). (p : ℕ) → p ≤ length (take left.shape.times cell.residues) → IsResidue (nat_abs j) (node (take left.shape.times cell.residues) p)) (sym ek) front_residues)

    pub passed_cutters : (ps : List ℕ) → ps ≡ places.times → (cutters : List ZoneView) → AreCutOf (zones_at right below) ps (nat_abs k) (take n cell.residues) cutters → AreCutters places left cell right cutters
    passed_cutters ps eps cutters cut = cutters_are cutters
        (subst (λ (l : List ℕ). AreCutOf (zones_at right below) l left.period (take left.shape.times cell.residues) cutters) eps
        (subst (λ (m : ℕ). AreCutOf (zones_at right below) ps left.period (take m cell.residues) cutters) en
        (subst (λ (j : ℤ). AreCutOf (zones_at right below) ps (nat_abs j) (take n cell.residues) cutters) ek cut)))

-- ---- zone after zone

module _ (all : List ZoneView) (places : List ℕ) (k : ℕ) (rs : List ℤ) (i : ℕ) (cutters : List ZoneView) where
  module _ (z : ZoneView) (e : slice_get all i ≡ Some z) (cut : AreCutOf (take i all) places k rs cutters) (n : ℤ) (en : n ≡ pos k) where
    next_front : take (i + 1) all ≡ take i all ++ z ∷ []
    next_front = front_more all i z (slice_get_within all i z e) (sym (get_or_from_slice_get all i z z e))

    pub cut_less_at : (new : List ZoneView) → new ≡ cutters → HasNoCutter z places n rs → AreCutOf (take (i + 1) all) places k rs new
    cut_less_at new same none = subst (λ l. AreCutOf (take (i + 1) all) places k rs l) (sym same) (subst (λ l. AreCutOf l places k rs cutters) (sym next_front) (cut_less places k rs (take i all) cutters cut z n en none))

    pub cut_more_at : (new : List ZoneView) (w : ZoneView) → new ≡ cutters ++ w ∷ [] → IsCutter z places n rs w → AreCutOf (take (i + 1) all) places k rs new
    cut_more_at new w same c = subst (λ l. AreCutOf (take (i + 1) all) places k rs l) (sym same) (subst (λ l. AreCutOf l places k rs (cutters ++ w ∷ [])) (sym next_front) (cut_more places k rs (take i all) cutters cut z n en w c))

  pub cut_end : i ≡ length all → AreCutOf (take i all) places k rs cutters → AreCutOf all places k rs cutters
  cut_end e cut = subst (λ l. AreCutOf l places k rs cutters) (ap (λ m. take m all) e ∙ take-length all) cut
