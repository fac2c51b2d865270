-- What a store has not, cell by cell.
use Rattle.std.proofs.Common.{◌≡◌, ◌≢◌, ℕ, zero, suc, ◌+◌, ◌-◌, ◌*◌, ◌<◌, ◌≤◌, ◌^◌, ◌⊎◌, inl, inr, List, [], ◌∷◌, length, take, replicate, refl, sym, ap, subst, ◌∙◌, arith, get_or, set, get_or-set_other, get_or-set_same, below_more}
use Rattle.std.proofs.Common.{to_z, of_z}
use Rattle.std.specs.Int.{w64}
use Rattle.std.specs.Prelude.{ℤ, pos, Contains, ◌-ℤ◌, ◌≤ℤ◌, ◌<ℤ◌, ◌+ℤ◌}
use Rattle.std.proofs.lemmas.Bool.{cases_lt}
use Rattle.std.proofs.lemmas.Int.{ints}
use Rattle.std.proofs.lemmas.List.{ext_get_or, get_or-take, get_or_default, length-take-le, length-set}
use Rattle.lrp_theory.specs.Divides.{Divides}
use Rattle.lrp_theory.specs.Entries.{node}
use Rattle.lrp_theory.proofs.Modulo.{Divides-is, Divides-zero, rem_divides, rem_between}
use Rattle.lrp_model.specs.declared.tuples.Cell.{Cell}
use Rattle.lrp_model.specs.declared.tuples.Shape.{Shape}
use Rattle.lrp_zone.specs.Zones.{ZoneView, IsZone, IsMember, IsResidue, reach_of}
use Rattle.lrp_store.specs.Stores.{StoreView, IsStore, IsPadded, IsCellOf, LiesInCell, HasReach, zones_at, zone_of, tables_at, AreChosenTexts}
use Rattle.lrp_store.specs.Growing.{IsAdded, IsGrown, IsRefused}
use Rattle.lrp_zone.specs.Given.{HasNone, IsGivenZone, MeetsGiven}
use Rattle.lrp_zone.specs.Pairs.{IsOfCell}
use Rattle.lrp_store.proofs.Held.{node_take, cell_held}
use Rattle.lrp_store.proofs.Counted.{one_cell, lies_in}
use Rattle.lrp_minus.specs.Absences.{CanBeTurned, CanFill, IsAbsent, IsAbsentAt, IsChosenTo}
use Rattle.lrp_cutting.specs.Differences.{AreOfCell, greatest_reach}
use Rattle.lrp_cutting.specs.Settling.{IsLike, IsPlaceOf}
use Rattle.lrp_minus.specs.Filling.{IsUncut}
use Rattle.lrp_tables.proofs.Gathering.{IsGathering, gathering_more, gathering_refused, gathered, added_as, refused_as}
use Rattle.lrp_cutting.proofs.Lists.{greatest_below}
use Rattle.lrp_theory.proofs.Members.{from_map, in_map}

-- the time in a column has this residue or a later one
pub record IsPastResidue (k column : ℕ) (residue : ℤ) (times : List ℤ) (texts : List ℕ) : Type 0 where
  pub own : ℤ
  pub after : residue ≤ℤ own
  pub high : own <ℤ pos k
  pub is : Divides (pos k) (node times (column + 1) -ℤ own)

-- a store that grew can be filled further
pub filling_on : {set : List ℤ → List ℕ → Type 0} {cap high : ℕ} (s start out : StoreView) → CanFill s start → IsGrown set cap high start out → CanFill s out
filling_on s start out can g = record { store = can.store; valid = g.valid; like = record { shape = g.shape ∙ can.like.shape; period = g.period ∙ can.like.period }; turned = can.turned }

-- a number as it is passed
pub word_is : (m : ℤ) → pos 0 ≤ℤ m → m ≤ℤ pos (2 ^ 62) → to_z w64 (of_z w64 m) ≡ m
word_is m low high = omega (arith, ints)

-- no residue is chosen
pub noughts : IsPadded (pos 0) 0 (replicate 8 (pos 0))
noughts = record { size = refl; zeros = λ i h. nought 8 i }
  where
    nought : (n i : ℕ) → get_or (replicate n (pos 0)) i (pos 0) ≡ pos 0
    nought zero i = refl
    nought (suc n) zero = refl
    nought (suc n) (suc i) = nought n i

module _ (s : StoreView) (is : IsStore s) where
  -- the period as it is passed, and a residue after another
  pub period_word : (k : ℤ) → k ≡ pos s.period → to_z w64 (of_z w64 k) ≡ pos s.period
  period_word k e = let h : s.period ≤ 2 ^ 62 = is.period_high in word_is k (omega (arith, ints)) (omega (arith, ints)) ∙ e

  pub next_word : (r : ℤ) → pos 0 ≤ℤ r → r <ℤ pos s.period → (to_z w64 (of_z w64 (r +ℤ pos 1)) ≡ r +ℤ pos 1) × (pos 0 ≤ℤ to_z w64 (of_z w64 (r +ℤ pos 1)))
  next_word r low high =
      let h : s.period ≤ 2 ^ 62 = is.period_high in
      let e : to_z w64 (of_z w64 (r +ℤ pos 1)) ≡ r +ℤ pos 1 = word_is (r +ℤ pos 1) (omega (arith, ints)) (omega (arith, ints)) in
      (e, subst (λ (t : ℤ). pos 0 ≤ℤ t) (sym e) (omega (arith, ints)))

  -- ---- texts
  module _ (size column : ℕ) (chosen : List ℕ) (c : AreChosenTexts size column chosen) where
    -- all texts are chosen
    module _ (all : column ≡ s.shape.texts) (residues : List ℤ) (zeros : IsPadded (pos 0) 0 residues) where
      -- the cell with these texts and no residue yet
      abbrev pub first_cell : Cell
      first_cell = record { texts = chosen; residues = residues }

      pub first_chosen : IsChosenTo s 0 first_cell
      first_chosen = record { texts = subst (λ n. IsPadded 0 n chosen) all c.padded; residues = zeros; range = range }
        where
          range : (i : ℕ) → i ≤ 0 → IsResidue s.period (node residues i)
          range zero h = let l : 0 < s.period = is.period_low in record { low = omega (arith, ints); high = omega (arith, ints) }
          range (suc i) h = absurd (omega arith)

      front_length : length (take s.shape.texts chosen) ≡ s.shape.texts
      front_length = length-take-le s.shape.texts chosen (let e : length chosen ≡ 8 = c.padded.size in let l : s.shape.texts ≤ 8 = is.texts in omega arith)

      values : (ns : List ℕ) → take s.shape.texts chosen ≡ ns → (i : ℕ) → i < column → get_or ns i 0 ≡ get_or chosen i 0
      values ns e i h = ap (λ l. get_or l i 0) (sym e) ∙ get_or-take s.shape.texts chosen i 0 (omega arith)

      pub first_to : (xs : List ℤ) (ns : List ℕ) → IsAbsentAt s 0 first_cell xs ns → IsAbsent size s column chosen xs ns
      first_to xs ns h =
          let count : length ns ≡ s.shape.texts = ap length (sym h.named) ∙ front_length in
          record {
            times_count = h.count;
            texts_count = count;
            known = λ k d l. let lk : k < column = omega arith in subst (λ n. n < size) (sym (get_or_default ns k d 0 l ∙ values ns h.named k lk)) (c.low k lk);
            same = values ns h.named;
            none = h.none;
          }

      pub first_from : (xs : List ℤ) (ns : List ℕ) → IsAbsent size s column chosen xs ns → IsAbsentAt s 0 first_cell xs ns
      first_from xs ns h = record {
        count = h.times_count;
        residues = residue;
        named = ext_get_or 0 (take s.shape.texts chosen) ns (front_length ∙ sym h.texts_count) (λ i l. let f = front_length in get_or-take s.shape.texts chosen i 0 (omega arith) ∙ sym (h.same i (omega arith)));
        none = h.none;
      }
        where
          residue : (i : ℕ) → i ≤ 0 → Divides (pos s.period) (node xs i -ℤ node residues i)
          residue zero l = Divides-zero (pos s.period)
          residue (suc i) l = absurd (omega arith)

      module _ (cap high : ℕ) (start out : StoreView) (valid : IsStore start) where
        pub texts_added : IsAdded (IsAbsentAt s 0 first_cell) cap high start out → IsAdded (IsAbsent size s column chosen) cap high start out
        texts_added a = added_as cap (IsAbsentAt s 0 first_cell) (IsAbsent size s column chosen) high high (omega arith) start out valid first_to first_from a

        pub texts_refused : IsRefused (IsAbsentAt s 0 first_cell) cap high start out → IsRefused (IsAbsent size s column chosen) cap high start out
        texts_refused a = refused_as cap (IsAbsentAt s 0 first_cell) (IsAbsent size s column chosen) high high (omega arith) start out valid first_to a

    -- one text more is chosen
    module _ (low : column < s.shape.texts) (number : ℕ) where
      here : get_or (set chosen column number) column 0 ≡ number
      here = get_or-set_same chosen column number 0 (let e : length chosen ≡ 8 = c.padded.size in let l : s.shape.texts ≤ 8 = is.texts in omega arith)

      pub chosen_more : number < size → AreChosenTexts size (column + 1) (set chosen column number)
      chosen_more below = record {
        padded = record {
          size = length-set chosen column number ∙ c.padded.size;
          zeros = λ i h. let ne : i ≢ column = omega arith in get_or-set_other chosen column i number 0 ne ∙ c.padded.zeros i (omega arith);
        };
        low = below_more _ column (λ i h. let ne : i ≢ column = omega arith in subst (λ n. n < size) (sym (get_or-set_other chosen column i number 0 ne)) (c.low i h)) (subst (λ n. n < size) (sym here) below);
      }

      text_to : (xs : List ℤ) (ns : List ℕ) → IsAbsent size s (column + 1) (set chosen column number) xs ns → IsAbsent size s column chosen xs ns
      text_to xs ns h = record {
        times_count = h.times_count;
        texts_count = h.texts_count;
        known = h.known;
        same = λ i l. let ne : i ≢ column = omega arith in h.same i (omega arith) ∙ get_or-set_other chosen column i number 0 ne;
        none = h.none;
      }

      text_from : (xs : List ℤ) (ns : List ℕ) → IsAbsent size s column chosen xs ns → number ≤ get_or ns column 0 → IsAbsent size s (column + 1) (set chosen column number) xs ns ⊎ (number + 1 ≤ get_or ns column 0)
      text_from xs ns h le = elim (cases_lt number (get_or ns column 0)) [
        | inl less ↦ inr (omega arith)
        | inr more ↦ inl (record {
          times_count = h.times_count;
          texts_count = h.texts_count;
          known = h.known;
          same = below_more _ column (λ i l. let ne : i ≢ column = omega arith in h.same i l ∙ sym (get_or-set_other chosen column i number 0 ne)) (let e : get_or ns column 0 ≡ number = omega arith in e ∙ sym here);
          none = h.none;
        })
      ]

      module _ (cap high : ℕ) (start out new : StoreView) (next : List ℕ) (en : next ≡ set chosen column number) (g : IsGathering (IsAbsent size s column chosen) (λ xs ns. number ≤ get_or ns column 0) cap high start out) where
        pub text_more : IsAdded (IsAbsent size s (column + 1) next) cap high out new → IsGathering (IsAbsent size s column chosen) (λ xs ns. number + 1 ≤ get_or ns column 0) cap high start new
        text_more a =
            gathering_more (IsAbsent size s column chosen) cap high start (λ xs ns. number ≤ get_or ns column 0) (λ xs ns. number + 1 ≤ get_or ns column 0) (IsAbsent size s (column + 1) (set chosen column number)) high out new g (omega arith) text_to text_from
            (subst (λ l. IsAdded (IsAbsent size s (column + 1) l) cap high out new) en a)

        pub text_refused : IsRefused (IsAbsent size s (column + 1) next) cap high out new → IsRefused (IsAbsent size s column chosen) cap high start new
        text_refused r =
            gathering_refused (IsAbsent size s column chosen) cap high start (λ xs ns. number ≤ get_or ns column 0) (IsAbsent size s (column + 1) (set chosen column number)) high out new g (omega arith) text_to
            (subst (λ l. IsRefused (IsAbsent size s (column + 1) l) cap high out new) en r)

    -- no text is left
    pub texts_done : column < s.shape.texts → (cap high number : ℕ) (start out : StoreView) → size ≤ number → IsGathering (IsAbsent size s column chosen) (λ xs ns. number ≤ get_or ns column 0) cap high start out → IsAdded (IsAbsent size s column chosen) cap high start out
    texts_done low cap high number start out all g =
        gathered (IsAbsent size s column chosen) cap high start (λ xs ns. number ≤ get_or ns column 0) out g (λ xs ns h l. let k : get_or ns column 0 < size = h.known column 0 (let e : length ns ≡ s.shape.texts = h.texts_count in omega arith) in absurd (omega arith))

  -- ---- residues
  module _ (column : ℕ) (cell : Cell) (c : IsChosenTo s column cell) (low : column < s.shape.times) where
    -- each time has a residue from nought on
    pub after_none : (xs : List ℤ) (ns : List ℕ) → IsAbsentAt s column cell xs ns → IsPastResidue s.period column (pos 0) xs ns
    after_none xs ns h =
        let l : 0 < s.period = is.period_low in
        let one : pos 1 ≤ℤ pos s.period = omega (arith, ints) in
        let b = rem_between (pos s.period) (node xs (column + 1)) _ one refl in
        record { own = _; after = b.0; high = b.1; is = rem_divides (pos s.period) (node xs (column + 1)) _ one refl }

    module _ (residue : ℤ) where
      abbrev pub next_cell : Cell
      next_cell = record cell { residues = set cell.residues column residue }

      there : node (set cell.residues column residue) (column + 1) ≡ residue
      there = at (column + 1) (omega arith)
        where
          at : (p : ℕ) → p ≡ suc column → node (set cell.residues column residue) p ≡ residue
          at p e = rw e (get_or-set_same cell.residues column residue (pos 0) (let e : length cell.residues ≡ 8 = c.residues.size in let l : s.shape.times ≤ 8 = is.times in omega arith))

      elsewhere : (p : ℕ) → p ≤ column → node (set cell.residues column residue) p ≡ node cell.residues p
      elsewhere zero h = refl
      elsewhere (suc p) h = let ne : p ≢ column = omega arith in get_or-set_other cell.residues column p residue (pos 0) ne

      by_place : (P : ℕ → Type 0) → ((i : ℕ) → i ≤ column → P i) → P (column + 1) → (i : ℕ) → i ≤ column + 1 → P i
      by_place P each last i h = elim (cases_lt i (column + 1)) [ inl l ↦ each i (omega arith) | inr m ↦ (let e : column + 1 ≡ i = omega arith in subst P e last) ]

      pub residue_chosen : pos 0 ≤ℤ residue → residue <ℤ pos s.period → IsChosenTo s (column + 1) next_cell
      residue_chosen from to = record {
        texts = c.texts;
        residues = record {
          size = length-set cell.residues column residue ∙ c.residues.size;
          zeros = λ i h. let ne : i ≢ column = omega arith in get_or-set_other cell.residues column i residue (pos 0) ne ∙ c.residues.zeros i (omega arith);
        };
        range = by_place (λ i. IsResidue s.period (node (set cell.residues column residue) i)) (λ i h. subst (IsResidue s.period) (sym (elsewhere i h)) (c.range i h)) (subst (IsResidue s.period) (sym there) (record { low = from; high = to }));
      }

      residue_to : (xs : List ℤ) (ns : List ℕ) → IsAbsentAt s (column + 1) next_cell xs ns → IsAbsentAt s column cell xs ns
      residue_to xs ns h = record {
        count = h.count;
        residues = λ i l. subst (λ r. Divides (pos s.period) (node xs i -ℤ r)) (elsewhere i l) (h.residues i (omega arith));
        named = h.named;
        none = h.none;
      }

      residue_from : (xs : List ℤ) (ns : List ℕ) → IsAbsentAt s column cell xs ns → IsPastResidue s.period column residue xs ns → IsAbsentAt s (column + 1) next_cell xs ns ⊎ IsPastResidue s.period column (residue +ℤ pos 1) xs ns
      residue_from xs ns h b = elim (cases residue b.own b.after) [
        | inl e ↦ inl (record {
          count = h.count;
          residues = by_place (λ i. Divides (pos s.period) (node xs i -ℤ node (set cell.residues column residue) i)) (λ i l. subst (λ r. Divides (pos s.period) (node xs i -ℤ r)) (sym (elsewhere i l)) (h.residues i l))
              (subst (λ r. Divides (pos s.period) (node xs (column + 1) -ℤ r)) (sym e ∙ sym there) b.is);
          named = h.named;
          none = h.none;
        })
        | inr l ↦ inr (record { own = b.own; after = l; high = b.high; is = b.is })
      ]
        where
          cases : (r t : ℤ) → r ≤ℤ t → (r ≡ t) ⊎ ((r +ℤ pos 1) ≤ℤ t)
          cases r t h = grind (arith, ints)

      module _ (cap high : ℕ) (start out new : StoreView) (next : Cell) (en : next ≡ next_cell) (g : IsGathering (IsAbsentAt s column cell) (IsPastResidue s.period column residue) cap high start out) where
        pub residue_more : IsAdded (IsAbsentAt s (column + 1) next) cap high out new → IsGathering (IsAbsentAt s column cell) (IsPastResidue s.period column (residue +ℤ pos 1)) cap high start new
        residue_more a =
            gathering_more (IsAbsentAt s column cell) cap high start (IsPastResidue s.period column residue) (IsPastResidue s.period column (residue +ℤ pos 1)) (IsAbsentAt s (column + 1) next_cell) high out new g (omega arith) residue_to residue_from
            (subst (λ l. IsAdded (IsAbsentAt s (column + 1) l) cap high out new) en a)

        pub residue_refused : IsRefused (IsAbsentAt s (column + 1) next) cap high out new → IsRefused (IsAbsentAt s column cell) cap high start new
        residue_refused r =
            gathering_refused (IsAbsentAt s column cell) cap high start (IsPastResidue s.period column residue) (IsAbsentAt s (column + 1) next_cell) high out new g (omega arith) residue_to
            (subst (λ l. IsRefused (IsAbsentAt s (column + 1) l) cap high out new) en r)

    -- no residue is left
    pub residues_done : (cap high : ℕ) (residue : ℤ) (start out : StoreView) → pos s.period ≤ℤ residue → IsGathering (IsAbsentAt s column cell) (IsPastResidue s.period column residue) cap high start out → IsAdded (IsAbsentAt s column cell) cap high start out
    residues_done cap high residue start out all g =
        gathered (IsAbsentAt s column cell) cap high start (IsPastResidue s.period column residue) out g (λ xs ns h b. let l : residue ≤ℤ b.own = b.after in let m : b.own <ℤ pos s.period = b.high in absurd (omega (arith, ints)))

  -- ---- one cell
  module _ (cell : Cell) (c : IsChosenTo s s.shape.times cell) where
    proper : IsCellOf s.shape s.period cell
    proper = record { texts = c.texts; residues = c.residues; range = c.range }

    front : List ℤ
    front = take s.shape.times cell.residues

    front_count : length (take s.shape.times cell.residues) ≡ s.shape.times
    front_count = length-take-le s.shape.times cell.residues (let e : length cell.residues ≡ 8 = c.residues.size in let l : s.shape.times ≤ 8 = is.times in omega arith)

    pub cell_residues : (n k : ℕ) → n ≡ s.shape.times → k ≡ s.period → (p : ℕ) → p ≤ length (take n cell.residues) → IsResidue k (node (take n cell.residues) p)
    cell_residues n k en ek p h =
        let l : p ≤ length (take s.shape.times cell.residues) = subst (λ m. p ≤ length (take m cell.residues)) en h in
        let f = front_count in
        let le : p ≤ s.shape.times = omega arith in
        subst (λ m. IsResidue k (node (take m cell.residues) p)) (sym en) (subst (λ m. IsResidue m (node (take s.shape.times cell.residues) p)) (sym ek) (subst (IsResidue s.period) (sym (node_take s.shape.times cell.residues p le)) (c.range p le)))

    module _ (n : ℕ) (en : n ≡ s.shape.times) (k : ℤ) (ek : k ≡ pos s.period) where
      same_difference : (x : ℤ) → pos 0 ≡ x -ℤ x
      same_difference x = omega (arith, ints)

      -- the cell's residues are a tuple of it
      pub cell_some : HasNone k (take n cell.residues) [] → ⊥
      cell_some h = h.none (take n cell.residues) (record {
        count = refl;
        residues = record { each = λ p l. Divides-is k (pos 0) _ (same_difference (node (take n cell.residues) p)) (Divides-zero k) };
        meets = λ i l. absurd (omega arith);
      })

      module _ (z : ZoneView) (o : IsGivenZone k (take n cell.residues) [] z) where
        pub free_period : z.period ≡ s.period
        free_period = let e : pos z.period ≡ pos s.period = o.period ∙ ek in omega (arith, ints)

        pub free_residues : z.residues ≡ take s.shape.times cell.residues
        free_residues = o.residues ∙ ap (λ m. take m cell.residues) en

        -- it can be added to a store that is like s
        pub free_place : (out : StoreView) → IsLike s out → IsZone z → IsPlaceOf out cell z
        free_place out like valid = record {
          zone = valid;
          period = free_period ∙ sym like.period;
          residues = free_residues ∙ ap (λ (q : Shape). take q.times cell.residues) (sym like.shape);
          texts = subst (λ (q : Shape). IsPadded 0 q.texts cell.texts) (sym like.shape) c.texts;
          times = subst (λ (q : Shape). IsPadded (pos 0) q.times cell.residues) (sym like.shape) c.residues;
        }

        pub free_cutters : AreOfCell z (zones_at s cell)
        free_cutters = record {
          each = λ w h. let t = from_map (zone_of s cell) (tables_at s cell) w h in
              subst (IsOfCell z) t.2 (record { period = sym free_period; residues = sym free_residues });
        }

        pub free_reach : (high : ℕ) → HasReach s high → greatest_reach (z ∷ zones_at s cell) + z.period ≤ high + 2 * s.period
        free_reach high r =
            let a : reach_of z ≤ 0 + (z.period - 1) = o.reach 0 (λ i l. absurd (omega arith)) in
            let b : greatest_reach (zones_at s cell) ≤ high = greatest_below (zones_at s cell) high (λ w h. let t = from_map (zone_of s cell) (tables_at s cell) w h in subst (λ v. reach_of v ≤ high) t.2 (r.each cell t.0 t.1)) in
            let e : z.period ≡ s.period = free_period in
            omega arith

        pub free_small : CanBeTurned s → greatest_reach (z ∷ zones_at s cell) + z.period ≤ 2 ^ 62
        free_small t =
            let r : greatest_reach (z ∷ zones_at s cell) + z.period ≤ (2 ^ 62 - 2 * s.period) + 2 * s.period = free_reach _ t.reach in
            let h : 2 * s.period ≤ 2 ^ 62 = t.period in
            omega arith

        lies : (xs : List ℤ) → IsMember z xs → LiesInCell s.shape s.period cell xs (take s.shape.texts cell.texts)
        lies xs m =
            let count : length xs ≡ s.shape.times = m.cell.count ∙ ap length free_residues ∙ front_count in
            let columns : length z.residues ≡ s.shape.times = ap length free_residues ∙ front_count in
            record {
              count = count;
              residues = λ i l. subst (λ m. Divides (pos m) (node xs i -ℤ node cell.residues i)) free_period
                  (subst (λ r. Divides (pos z.period) (node xs i -ℤ r)) (ap (λ rs. node rs i) free_residues ∙ node_take s.shape.times cell.residues i l) (m.cell.each i (omega arith)));
              named = refl;
            }

        left_to : (xs : List ℤ) (ns : List ℕ) → IsUncut z (zones_at s cell) (take s.shape.texts cell.texts) xs ns → IsAbsentAt s s.shape.times cell xs ns
        left_to xs ns h =
            let i = lies xs h.member in
            record {
              count = i.count;
              residues = i.residues;
              named = h.same;
              none = λ held.
                  let e : held.cell ≡ cell = one_cell s.shape s.period held.cell cell xs ns (cell_held s is held.cell held.table held.held) proper (lies_in s is xs ns held) (record { count = i.count; residues = i.residues; named = h.same }) in
                  h.none (record {
                    zone = zone_of s cell held.table;
                    listed = in_map (zone_of s cell) (tables_at s cell) held.table (subst (λ d. Contains (tables_at s d) held.table) e held.held);
                    inside = subst (λ d. IsMember (zone_of s d held.table) xs) e held.inside;
                  });
            }

        left_from : (xs : List ℤ) (ns : List ℕ) → IsAbsentAt s s.shape.times cell xs ns → IsUncut z (zones_at s cell) (take s.shape.texts cell.texts) xs ns
        left_from xs ns h = record {
          member = o.from xs (subst (λ rs. MeetsGiven k rs [] xs) (ap (λ m. take m cell.residues) (sym en)) (record {
            count = h.count ∙ sym front_count;
            residues = record {
              each = λ p l. let f = front_count in let le : p ≤ s.shape.times = omega arith in
                  subst (λ m. Divides m (node xs p -ℤ node (take s.shape.times cell.residues) p)) (sym ek) (subst (λ r. Divides (pos s.period) (node xs p -ℤ r)) (sym (node_take s.shape.times cell.residues p le)) (h.residues p le));
            };
            meets = λ i l. absurd (omega arith);
          }));
          none = λ i.
              let t = from_map (zone_of s cell) (tables_at s cell) i.zone i.listed in
              h.none (record { cell = cell; table = t.0; held = t.1; named = h.named; inside = subst (λ w. IsMember w xs) (sym t.2) i.inside });
          same = h.named;
        }

        module _ (cap : ℕ) (cutters : List ZoneView) (are : cutters ≡ zones_at s cell) (start out : StoreView) (valid : IsStore start) (shape : start.shape ≡ s.shape) (high : ℕ) (r : HasReach s high) where
          pub cell_added : IsAdded (IsUncut z cutters (take start.shape.texts cell.texts)) cap (greatest_reach (z ∷ cutters) + z.period) start out → IsAdded (IsAbsentAt s s.shape.times cell) cap (high + 2 * s.period) start out
          cell_added a = added_as cap (IsUncut z (zones_at s cell) (take s.shape.texts cell.texts)) (IsAbsentAt s s.shape.times cell) (greatest_reach (z ∷ zones_at s cell) + z.period) (high + 2 * s.period) (free_reach high r) start out valid left_to left_from
              (subst (λ (q : Shape). IsAdded (IsUncut z (zones_at s cell) (take q.texts cell.texts)) cap (greatest_reach (z ∷ zones_at s cell) + z.period) start out) shape
              (subst (λ ws. IsAdded (IsUncut z ws (take start.shape.texts cell.texts)) cap (greatest_reach (z ∷ ws) + z.period) start out) are a))

          pub cell_refused : IsRefused (IsUncut z cutters (take start.shape.texts cell.texts)) cap (greatest_reach (z ∷ cutters) + z.period) start out → IsRefused (IsAbsentAt s s.shape.times cell) cap (high + 2 * s.period) start out
          cell_refused a = refused_as cap (IsUncut z (zones_at s cell) (take s.shape.texts cell.texts)) (IsAbsentAt s s.shape.times cell) (greatest_reach (z ∷ zones_at s cell) + z.period) (high + 2 * s.period) (free_reach high r) start out valid left_to
              (subst (λ (q : Shape). IsRefused (IsUncut z (zones_at s cell) (take q.texts cell.texts)) cap (greatest_reach (z ∷ zones_at s cell) + z.period) start out) shape
              (subst (λ ws. IsRefused (IsUncut z ws (take start.shape.texts cell.texts)) cap (greatest_reach (z ∷ ws) + z.period) start out) are a))
