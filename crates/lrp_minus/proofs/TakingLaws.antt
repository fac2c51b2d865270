-- What is left of a zone is added residue by residue.
use Rattle.std.proofs.Common.{◌≡◌, ℕ, ◌+◌, ◌-◌, ◌*◌, ◌%◌, ◌<◌, ◌≤◌, ◌^◌, ◌⊎◌, inl, inr, List, [], ◌∷◌, length, take, refl, sym, ap, subst, ◌∙◌, arith}
use Rattle.std.specs.Prelude.{ℤ, pos, ◌-ℤ◌}
use Rattle.std.proofs.lemmas.Bool.{cases_lt}
use Rattle.std.proofs.lemmas.List.{length-take-le}
use Rattle.lrp_theory.specs.Divides.{Divides}
use Rattle.lrp_theory.specs.Entries.{node}
use Rattle.lrp_model.specs.declared.tuples.Cell.{Cell}
use Rattle.lrp_model.specs.declared.tuples.Shape.{Shape}
use Rattle.lrp_zone.specs.Residues.{HasResidues}
use Rattle.lrp_zone.specs.Spread.{target}
use Rattle.lrp_zone.specs.Zones.{ZoneView, IsZone, columns_of, reach_of}
use Rattle.lrp_store.specs.Growing.{IsAdded, IsRefused}
use Rattle.lrp_store.specs.Stores.{StoreView, IsStore, IsCellOf, HasReach}
use Rattle.lrp_store.proofs.Grown.{grown_same}
use Rattle.lrp_store.proofs.Held.{node_take}
use Rattle.lrp_systems.specs.Choices.{AgreesAlong, IsCovering}
use Rattle.lrp_systems.specs.Frames.{IsOrder}
use Rattle.lrp_systems.specs.Parts.{PartView, system_reach}
use Rattle.lrp_systems.specs.Pieces.{IsCommonPiece, HasNoCommonPiece}
use Rattle.lrp_systems.specs.Residues.{HasNoSolution}
use Rattle.lrp_systems.specs.Sole.{IsWholePart}
use Rattle.lrp_systems.specs.Systems.{IsBegunCell, IsPut, IsSolution}
use Rattle.lrp_systems.specs.declared.choice.Choice.{Choice}
use Rattle.lrp_systems.proofs.Branches.{before, branch_less, branch_more, fits_more, frame_more, no_common, of_solution, of_tuple, to_solution, to_tuple}
use Rattle.lrp_systems.proofs.LoneZones.{lone_within, of_lone, to_lone}
use Rattle.lrp_minus.specs.Beneath.{ArePlacesFor, HasBeneath}
use Rattle.lrp_minus.specs.Cutters.{AreCutters}
use Rattle.lrp_cutting.specs.Differences.{AreOfCell, greatest_reach}
use Rattle.lrp_cutting.specs.Settling.{IsPlaceOf}
use Rattle.lrp_minus.specs.Filling.{IsUncut}
use Rattle.lrp_minus.specs.Taking.{IsContentOf, IsLeftIn, IsLeftOf, IsSubtraction, HasPartsWithin}
use Rattle.lrp_tables.specs.declared.names.Places.{Places}
use Rattle.lrp_minus.specs.declared.taking.Content.{Content}
use Rattle.lrp_minus.specs.declared.taking.Content.TheVariants.{Nothing, Everything}
use Rattle.lrp_minus.specs.declared.taking.Taking.{Taking}
use Rattle.lrp_tables.proofs.Gathering.{IsGathering, added_as, gathered, gathering_more, gathering_none, gathering_refused, refused_as}
use Rattle.lrp_cutting.proofs.Lists.{in_none, in_nothing}

-- the time at the next column has a residue that is not tried yet
pub record IsAhead (k : ℕ) (order : List ℕ) (p : ℕ) (choice : Choice) (turn : ℕ) (xs : List ℤ) (ns : List ℕ) : Type 0 where
  pub number : ℕ
  pub ahead : turn ≤ number
  pub low : number < choice.count
  pub is : Divides (pos k) (node xs (target order (p + 1)) -ℤ pos (choice.first + number * choice.step))

-- a store that grew keeps what is asked of it
module _ (t : Taking) (s u : StoreView) (shape : u.shape ≡ s.shape) (period : u.period ≡ s.period) where
  pub taking_on : IsStore u → IsSubtraction t s → IsSubtraction t u
  taking_on valid h = record {
    store = valid;
    fits = fits_more t.parts.now s u shape period h.fits;
    frame = frame_more t.parts.now s u t.frame.now shape period h.frame;
    order = h.order;
    last = h.last;
    reach = subst (λ (n : ℕ). system_reach n t.parts.now ≤ 2 ^ 62 - n) (sym period) h.reach;
    cut = record {
      right_store = h.cut.right_store;
      among = subst (λ (q : Shape). ArePlacesFor q.times q.texts t.right.now t.places.now) (sym shape) h.cut.among;
      multiple = subst (λ (n : ℕ). Divides (pos t.right.now.period) (pos n)) (sym period) h.cut.multiple;
      period = subst (λ (n : ℕ). 2 * n ≤ 2 ^ 62) (sym period) h.cut.period;
      reach = subst (λ (n : ℕ). HasReach t.right.now (2 ^ 62 - 2 * n)) (sym period) h.cut.reach;
    };
  }

  pub within_on : (high : ℕ) → HasPartsWithin t s.period high → HasPartsWithin t u.period high
  within_on high h = subst (λ (n : ℕ). HasPartsWithin t n high) (sym period) h

  module _ (c : Cell) (p : ℕ) where
    pub content_on : (content : Content) → IsContentOf t s.period s.shape.texts c p content → IsContentOf t u.period u.shape.texts c p content
    content_on content h = subst (λ (q : Shape). IsContentOf t u.period q.texts c p content) (sym shape) (subst (λ (m : ℕ). IsContentOf t m s.shape.texts c p content) (sym period) h)

    module _ (cap high : ℕ) (new : StoreView) where
      pub added_on : IsAdded (IsLeftIn t u.shape u.period c p) cap (high + 2 * u.period) u new → IsAdded (IsLeftIn t s.shape s.period c p) cap (high + 2 * s.period) u new
      added_on a = subst (λ (q : Shape). IsAdded (IsLeftIn t q s.period c p) cap (high + 2 * s.period) u new) shape (subst (λ (m : ℕ). IsAdded (IsLeftIn t u.shape m c p) cap (high + 2 * m) u new) period a)

      pub refused_on : IsRefused (IsLeftIn t u.shape u.period c p) cap (high + 2 * u.period) u new → IsRefused (IsLeftIn t s.shape s.period c p) cap (high + 2 * s.period) u new
      refused_on a = subst (λ (q : Shape). IsRefused (IsLeftIn t q s.period c p) cap (high + 2 * s.period) u new) shape (subst (λ (m : ℕ). IsRefused (IsLeftIn t u.shape m c p) cap (high + 2 * m) u new) period a)

-- the least reach that is asked
pub taking_within : (t : Taking) (s : StoreView) → IsSubtraction t s → HasPartsWithin t s.period (2 ^ 62 - 2 * s.period)
taking_within t s h = record { parts = (let l : system_reach s.period t.parts.now ≤ 2 ^ 62 - s.period = h.reach in let m : 2 * s.period ≤ 2 ^ 62 = h.cut.period in omega arith); right = h.cut.reach }

module _ (t : Taking) (s : StoreView) (low : 0 < s.period) (is_order : IsOrder s.shape.times t.frame.now.order) (c : Cell) (p : ℕ) (pl : p < s.shape.times) (choice : Choice) (is : IsCovering t.parts.now s.period t.frame.now.order c.residues p choice) where
  abbrev Chosen : List ℤ → List ℕ → Type 0
  Chosen = IsLeftIn t s.shape s.period c p

  abbrev Ahead : ℕ → List ℤ → List ℕ → Type 0
  Ahead = IsAhead s.period t.frame.now.order p choice

  -- no residue was tried
  pub tries_none : (cap high : ℕ) → IsStore s → IsGathering (IsLeftIn t s.shape s.period c p) (IsAhead s.period t.frame.now.order p choice 0) cap high s s
  tries_none cap high valid = gathering_none Chosen cap high s (Ahead 0) valid (λ xs ns h. let try = is.covers xs h.branch.solution.inside h.branch.agrees in record { number = try.turn; ahead = omega arith; low = try.low; is = try.is })

  -- all were
  pub tries_all : (cap high turn : ℕ) (out : StoreView) → choice.count ≤ turn → IsGathering (IsLeftIn t s.shape s.period c p) (IsAhead s.period t.frame.now.order p choice turn) cap high s out → IsAdded (IsLeftIn t s.shape s.period c p) cap high s out
  tries_all cap high turn out end g = gathered Chosen cap high s (Ahead turn) out g (λ xs ns h a. let x : turn ≤ a.number = a.ahead in let y : a.number < choice.count = a.low in absurd (omega arith))

  module _ (turn : ℕ) (next : Cell) (put : IsPut c (target t.frame.now.order (p + 1)) ((choice.first + turn * choice.step) % s.period) next) where
    part_to : (xs : List ℤ) (ns : List ℕ) → IsLeftIn t s.shape s.period next (p + 1) xs ns → IsLeftIn t s.shape s.period c p xs ns
    part_to xs ns h = record { branch = branch_less t.parts.now s t.frame.now.order c low is_order p pl choice is turn next put xs ns h.branch; none = h.none }

    part_from : (xs : List ℤ) (ns : List ℕ) → IsLeftIn t s.shape s.period c p xs ns → IsAhead s.period t.frame.now.order p choice turn xs ns → IsLeftIn t s.shape s.period next (p + 1) xs ns ⊎ IsAhead s.period t.frame.now.order p choice (turn + 1) xs ns
    part_from xs ns h a = elim (cases_lt turn a.number) [
      | inl less ↦ inr (record { number = a.number; ahead = omega arith; low = a.low; is = a.is })
      | inr more ↦
          let e : a.number ≡ turn = (let l : turn ≤ a.number = a.ahead in omega arith) in
          inl (record {
            branch = branch_more t.parts.now s t.frame.now.order c low is_order p pl choice is turn next put xs ns h.branch (subst (λ (m : ℕ). Divides (pos s.period) (node xs (target t.frame.now.order (p + 1)) -ℤ pos (choice.first + m * choice.step))) e a.is);
            none = h.none;
          })
    ]

    module _ (cap high : ℕ) (out new : StoreView) (g : IsGathering (IsLeftIn t s.shape s.period c p) (IsAhead s.period t.frame.now.order p choice turn) cap high s out) where
      pub tries_more : IsAdded (IsLeftIn t s.shape s.period next (p + 1)) cap high out new → IsGathering (IsLeftIn t s.shape s.period c p) (IsAhead s.period t.frame.now.order p choice (turn + 1)) cap high s new
      tries_more a = gathering_more Chosen cap high s (Ahead turn) (Ahead (turn + 1)) (IsLeftIn t s.shape s.period next (p + 1)) high out new g (omega arith) part_to part_from a

      pub tries_refused : IsRefused (IsLeftIn t s.shape s.period next (p + 1)) cap high out new → IsRefused (IsLeftIn t s.shape s.period c p) cap high s new
      tries_refused r = gathering_refused Chosen cap high s (Ahead turn) (IsLeftIn t s.shape s.period next (p + 1)) high out new g (omega arith) part_to r

    -- what is known of the right store is known of fewer tuples
    pub content_more : (content : Content) → IsContentOf t s.period s.shape.texts c p content → IsContentOf t s.period s.shape.texts next (p + 1) content
    content_more content h = record {
      nothing = λ e xs ns a named. h.nothing e xs ns (agrees xs a) (ap (take s.shape.texts) (sym put.texts) ∙ named);
      everything = λ e xs ns a named. h.everything e xs ns (agrees xs a) (ap (take s.shape.texts) (sym put.texts) ∙ named);
    }
      where
        agrees : (xs : List ℤ) → AgreesAlong s.period t.frame.now.order next.residues (p + 1) xs → AgreesAlong s.period t.frame.now.order c.residues p xs
        agrees xs a = record { each = λ q l. subst (λ r. Divides (pos s.period) (node xs (target t.frame.now.order q) -ℤ r)) (before t.parts.now s t.frame.now.order c low is_order p pl choice is turn next put q l) (a.each q (omega arith)) }

-- where the right store has everything, nothing is left
pub nothing_left : (t : Taking) (cap high : ℕ) (s : StoreView) → IsStore s → (c : Cell) (p : ℕ) → IsContentOf t s.period s.shape.texts c p Everything → IsAdded (IsLeftIn t s.shape s.period c p) cap high s s
nothing_left t cap high s is c p content = record {
  grown = grown_same cap high _ s is;
  whole = record { each = λ xs ns h. absurd (h.none (content.everything refl xs ns h.branch.agrees h.branch.solution.same)) };
}

-- ---- all residues are chosen

module _ (t : Taking) (s : StoreView) (is : IsStore s) (taking : IsSubtraction t s) (c : Cell) (begun : IsBegunCell s c) where
  pub cell_is : IsCellOf s.shape s.period c
  cell_is = record { texts = begun.texts; residues = begun.residues; range = begun.chosen }

  abbrev Part : List ℤ → List ℕ → Type 0
  Part = IsLeftIn t s.shape s.period c s.shape.times

  front_count : length (take s.shape.times c.residues) ≡ s.shape.times
  front_count = length-take-le s.shape.times c.residues (let e : length c.residues ≡ 8 = begun.residues.size in let l : s.shape.times ≤ 8 = is.times in omega arith)

  pub own : (q : ℕ) → q ≤ s.shape.times → target t.frame.now.order q ≡ q
  own q h = taking.order.own q (let l : s.shape.times ≤ 8 = is.times in omega arith)

  to_front : (xs : List ℤ) → AgreesAlong s.period t.frame.now.order c.residues s.shape.times xs → HasResidues (pos s.period) (take s.shape.times c.residues) xs
  to_front xs a = record {
    each = λ i l.
        let low : i ≤ s.shape.times = (let e = front_count in omega arith) in
        subst (λ r. Divides (pos s.period) (node xs i -ℤ r)) (sym (node_take s.shape.times c.residues i low)) (subst (λ (q : ℕ). Divides (pos s.period) (node xs q -ℤ node c.residues q)) (own i low) (a.each i low));
  }

  of_front : (xs : List ℤ) → HasResidues (pos s.period) (take s.shape.times c.residues) xs → AgreesAlong s.period t.frame.now.order c.residues s.shape.times xs
  of_front xs h = record {
    each = λ i low.
        subst (λ (q : ℕ). Divides (pos s.period) (node xs q -ℤ node c.residues q)) (sym (own i low)) (subst (λ r. Divides (pos s.period) (node xs i -ℤ r)) (node_take s.shape.times c.residues i low) (h.each i (let e = front_count in omega arith)));
  }

  -- where the right store has nothing, there is no cutter
  pub no_cutters : IsContentOf t s.period s.shape.texts c s.shape.times Nothing → AreCutters t.places.now s c t.right.now []
  no_cutters content = record {
    period = λ w h. absurd (in_none w h);
    residues = λ w h. absurd (in_none w h);
    to = λ xs h. absurd (in_nothing xs h);
    from = λ xs count h b. absurd (content.nothing refl xs (take s.shape.texts c.texts) (of_front xs h) refl b);
    reach = λ high r. omega arith;
    few = λ n at. omega arith;
  }

  -- the piece of these residues
  module _ (k : ℕ) (ek : k ≡ s.period) (rs : List ℤ) (er : rs ≡ take s.shape.times c.residues) where
    pub no_piece : (cap high : ℕ) → HasNoCommonPiece t.parts.now k rs → IsAdded (IsLeftIn t s.shape s.period c s.shape.times) cap high s s
    no_piece cap high h = record {
      grown = grown_same cap high _ s is;
      whole = record { each = λ xs ns q. absurd (no_common t.parts.now s t.frame.now.order c is begun taking.frame.order k ek rs er h xs ns q.branch) };
    }

    module _ (piece : ZoneView) (r : IsCommonPiece t.parts.now k rs piece) where
      piece_period : piece.period ≡ s.period
      piece_period = r.period ∙ ek

      piece_residues : piece.residues ≡ take s.shape.times c.residues
      piece_residues = r.residues ∙ er

      -- it has a column for each time, and can be added to the cell
      pub piece_columns : columns_of piece ≡ s.shape.times
      piece_columns = ap length piece_residues ∙ front_count

      pub piece_place : IsZone piece → IsPlaceOf s c piece
      piece_place valid = record { zone = valid; period = piece_period; residues = piece_residues; texts = begun.texts; times = begun.residues }

      module _ (cutters : List ZoneView) (are : AreCutters t.places.now s c t.right.now cutters) where
        pub piece_cell : AreOfCell piece cutters
        piece_cell = record { each = λ w h. record { period = are.period w h ∙ sym piece_period; residues = are.residues w h ∙ sym piece_residues } }

        piece_reach : (high : ℕ) → HasPartsWithin t s.period high → greatest_reach (piece ∷ cutters) + piece.period ≤ high + 2 * s.period
        piece_reach high h =
            let a : reach_of piece ≤ system_reach s.period t.parts.now = subst (λ (m : ℕ). reach_of piece ≤ system_reach m t.parts.now) ek r.reach in
            let l : system_reach s.period t.parts.now ≤ high + s.period = h.parts in
            let b : greatest_reach cutters ≤ high + (s.period - 1) = are.reach high h.right in
            let e : piece.period ≡ s.period = piece_period in
            omega arith

        pub piece_small : greatest_reach (piece ∷ cutters) + piece.period ≤ 2 ^ 62
        piece_small =
            let a : greatest_reach (piece ∷ cutters) + piece.period ≤ (2 ^ 62 - 2 * s.period) + 2 * s.period = piece_reach (2 ^ 62 - 2 * s.period) (taking_within t s taking) in
            let b : 2 * s.period ≤ 2 ^ 62 = taking.cut.period in
            omega arith

        uncut_to : (xs : List ℤ) (ns : List ℕ) → IsUncut piece cutters (take s.shape.texts c.texts) xs ns → IsLeftIn t s.shape s.period c s.shape.times xs ns
        uncut_to xs ns h =
            let branch = of_tuple t.parts.now s t.frame.now.order c is begun taking.frame.order k ek rs er piece r xs ns (record { member = h.member; same = h.same }) in
            record { branch = branch; none = λ b. h.none (are.from xs branch.solution.count (to_front xs branch.agrees) (subst (HasBeneath t.places.now t.right.now xs) (sym h.same) b)) }

        uncut_from : (xs : List ℤ) (ns : List ℕ) → IsLeftIn t s.shape s.period c s.shape.times xs ns → IsUncut piece cutters (take s.shape.texts c.texts) xs ns
        uncut_from xs ns h = record {
          member = (to_tuple t.parts.now s t.frame.now.order c is begun taking.frame.order k ek rs er piece r xs ns h.branch).member;
          none = λ i. h.none (subst (HasBeneath t.places.now t.right.now xs) h.branch.solution.same (are.to xs i));
          same = h.branch.solution.same;
        }

        module _ (cap high : ℕ) (within : HasPartsWithin t s.period high) (new : StoreView) where
          pub piece_added : IsAdded (IsUncut piece cutters (take s.shape.texts c.texts)) cap (greatest_reach (piece ∷ cutters) + piece.period) s new → IsAdded (IsLeftIn t s.shape s.period c s.shape.times) cap (high + 2 * s.period) s new
          piece_added a = added_as cap (IsUncut piece cutters (take s.shape.texts c.texts)) Part (greatest_reach (piece ∷ cutters) + piece.period) (high + 2 * s.period) (piece_reach high within) s new is uncut_to uncut_from a

          pub piece_refused : IsRefused (IsUncut piece cutters (take s.shape.texts c.texts)) cap (greatest_reach (piece ∷ cutters) + piece.period) s new → IsRefused (IsLeftIn t s.shape s.period c s.shape.times) cap (high + 2 * s.period) s new
          piece_refused a = refused_as cap (IsUncut piece cutters (take s.shape.texts c.texts)) Part (greatest_reach (piece ∷ cutters) + piece.period) (high + 2 * s.period) (piece_reach high within) s new is uncut_to a

-- ---- no residue is chosen

-- the tuples of a zone of which a part was made
module _ (z : ZoneView) (part : PartView) (same : part.zone ≡ z) (s : StoreView) (is : IsStore s) (whole : IsWholePart z.period (columns_of z) part) (columns : columns_of z ≡ s.shape.times) where
  -- where there is none, nothing is left
  pub none_left : (places : Places) (right : StoreView) (named : List ℕ) (cap high : ℕ) → HasNoSolution (part ∷ []) → IsAdded (IsLeftOf places z named right) cap high s s
  none_left places right named cap high h = record { grown = grown_same cap high _ s is; whole = record { each = λ xs ns l. absurd (h.none xs (of_lone z part same s is whole columns named xs ns l.tuple).inside) } }

  module _ (t : Taking) (one : t.parts.now ≡ part ∷ []) where
    -- the right store reaches as far as the zone, and the part's pieces a period farther
    pub whole_within : (high : ℕ) → 0 < s.period → reach_of z ≤ high → HasReach t.right.now high → HasPartsWithin t s.period high
    whole_within high low l r = record { parts = subst (λ ps. system_reach s.period ps ≤ high + s.period) (sym one) (let h : system_reach s.period (part ∷ []) ≤ reach_of z + (s.period - 1) = lone_within z part same s is whole columns in omega arith); right = r }

    module _ (c : Cell) (texts : List ℕ) (et : c.texts ≡ texts) (cap high : ℕ) (new : StoreView) where
      abbrev Left : List ℤ → List ℕ → Type 0
      Left = IsLeftOf t.places.now z (take s.shape.texts texts) t.right.now

      whole_to : (xs : List ℤ) (ns : List ℕ) → IsLeftIn t s.shape s.period c 0 xs ns → IsLeftOf t.places.now z (take s.shape.texts texts) t.right.now xs ns
      whole_to xs ns h = record {
        tuple = to_lone z part same s is whole columns (take s.shape.texts texts) xs ns (subst (λ ps. IsSolution ps s.shape.times (take s.shape.texts texts) xs ns) one (to_solution t.parts.now s t.frame.now.order c texts et xs ns h.branch));
        none = h.none;
      }

      whole_from : (xs : List ℤ) (ns : List ℕ) → IsLeftOf t.places.now z (take s.shape.texts texts) t.right.now xs ns → IsLeftIn t s.shape s.period c 0 xs ns
      whole_from xs ns h = record {
        branch = of_solution t.parts.now s t.frame.now.order c texts et xs ns (subst (λ ps. IsSolution ps s.shape.times (take s.shape.texts texts) xs ns) (sym one) (of_lone z part same s is whole columns (take s.shape.texts texts) xs ns h.tuple));
        none = h.none;
      }

      pub whole_added : IsAdded (IsLeftIn t s.shape s.period c 0) cap high s new → IsAdded (IsLeftOf t.places.now z (take s.shape.texts texts) t.right.now) cap high s new
      whole_added a = added_as cap (IsLeftIn t s.shape s.period c 0) Left high high (omega arith) s new is whole_to whole_from a

      pub whole_refused : IsRefused (IsLeftIn t s.shape s.period c 0) cap high s new → IsRefused (IsLeftOf t.places.now z (take s.shape.texts texts) t.right.now) cap high s new
      whole_refused r = refused_as cap (IsLeftIn t s.shape s.period c 0) Left high high (omega arith) s new is whole_to r
