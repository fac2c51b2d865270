-- The numbers of one time column that parts cover.
use Rattle.std.proofs.Common.{◌≡◌, ◌⊎◌, inl, inr, ⊎_elim, ℕ, zero, suc, ◌+◌, ◌<◌, ◌≤◌, List, [], ◌∷◌, length, take, replicate, Option, Some, None, Bool, true, false, Contains, get_or, refl, sym, ap, subst, ◌∙◌, arith, ◌%◌}
use Rattle.std.specs.Prelude.{ℤ, pos, nat_abs, ◌-ℤ◌, ◌≤ℤ◌, ◌<ℤ◌, slice_get, slice_index_or, slice_set, unwrap_or}
use Rattle.std.specs.FinMap as finite
use Rattle.std.specs.Int.{int_rem_euclid}
use Rattle.std.proofs.lemmas.Int.{ints}
use Rattle.std.proofs.lemmas.List.{length-replicate, length-set, take_all}
use Rattle.std.proofs.lemmas.List.Elements.{Contains-append_cases}
use Rattle.lrp_theory.specs.Divides.{Divides}
use Rattle.lrp_theory.specs.Entries.{node}
use Rattle.lrp_theory.proofs.Members.{front_more, head_in, in_cons, in_none, in_one, later}
use Rattle.lrp_theory.proofs.Modulo.{Divides--, Divides-is, Divides-zero, rem_between, rem_divides, small_multiple}
use Rattle.lrp_theory.proofs.Multiples.{Divides-trans}
use Rattle.lrp_model.specs.declared.tuples.Cell.{Cell}
use Rattle.lrp_model.specs.declared.tuples.Shape.{Shape}
use Rattle.lrp_zone.specs.Zones.{IsMember, IsResidue, greatest_of}
use Rattle.lrp_store.specs.Growing.{IsAdded, IsTupleOf}
use Rattle.lrp_store.specs.Stores.{BeginsWhole, InStore, IsCellOf, IsHeld, LiesInCell, StoreView, tables_at, zone_of}
use Rattle.lrp_store.proofs.Counted.{first_of, key_held, lies_in, one_cell}
use Rattle.lrp_store.proofs.Grown.{grown_same}
use Rattle.lrp_store.proofs.Held.{cell_held, node_take}
use Rattle.lrp_store.proofs.ZoneCounts.{key_is}
use Rattle.lrp_tables.proofs.FreeZones.{free_zone}
use Rattle.lrp_tables.proofs.Gathering.{IsGathering, added_as, gathered, gathering_more, gathering_none}
use Rattle.lrp_periods.specs.Sieves.{CanSift, HasWholeCells, IsCoveredNumber, IsCoverOf, IsLeftOpen, IsLineStore, IsOpen, IsShut, MarksWhole, line_cell}
use Rattle.lrp_periods.specs.declared.sieves.Cover.{Cover}

-- ---- the cell of a residue

-- a list of one value and noughts
no_bound : (n i : ℕ) → get_or {A = Option ℤ} (replicate n None) i None ≡ None
no_bound zero i = refl
no_bound (suc n) zero = refl
no_bound (suc n) (suc i) = no_bound n i

pub no_reach : (n : ℕ) → greatest_of (replicate n None) ≤ 0
no_reach zero = omega arith
no_reach (suc n) = let r : greatest_of (replicate n None) ≤ 0 = no_reach n in omega (arith, r)

nought : {X : Type 0} (z : X) (n i : ℕ) → get_or (replicate n z) i z ≡ z
nought z zero i = refl
nought z (suc n) zero = refl
nought z (suc n) (suc i) = nought z n i

one_and_noughts : (r : ℤ) (i : ℕ) → 1 ≤ i → get_or (r ∷ replicate 7 (pos 0)) i (pos 0) ≡ pos 0
one_and_noughts r zero l = absurd (omega arith)
one_and_noughts r (suc i) l = nought (pos 0) 7 i

pub line_proper : (shape : Shape) (k r : ℕ) → shape.times ≡ 1 → shape.texts ≡ 0 → r < k → IsCellOf shape k (line_cell r)
line_proper shape k r t x low = record {
  texts = record { size = refl; zeros = λ i h. nought 0 8 i };
  residues = record { size = refl; zeros = λ i h. one_and_noughts (pos r) i (let e : shape.times ≡ 1 = t in omega (arith, e, h)) };
  range = λ i h. range i (let e : shape.times ≡ 1 = t in omega (arith, e, h));
}
  where
    range : (i : ℕ) → i ≤ 1 → IsResidue k (node (pos r ∷ replicate 7 (pos 0)) i)
    range zero l = record { low = omega (arith, ints); high = omega (arith, ints, low) }
    range (suc zero) l = record { low = omega (arith, ints); high = omega (arith, ints, low) }
    range (suc (suc i)) l = absurd (omega arith)

-- a number lies in it where the residue is its own
pub line_lies : (shape : Shape) (k r : ℕ) (x : ℤ) → shape.times ≡ 1 → shape.texts ≡ 0 → Divides (pos k) (x -ℤ pos r) → LiesInCell shape k (line_cell r) (x ∷ []) []
line_lies shape k r x t e d = record {
  count = sym t;
  residues = λ i h. at i (let s : shape.times ≡ 1 = t in omega (arith, s, h));
  named = ap (λ n. take n (replicate 8 0)) e;
}
  where
    at : (i : ℕ) → i ≤ 1 → Divides (pos k) (node (x ∷ []) i -ℤ node (pos r ∷ replicate 7 (pos 0)) i)
    at zero l = Divides-zero (pos k)
    at (suc zero) l = d
    at (suc (suc i)) l = absurd (omega arith)

-- an integer between is a natural number
pub natural_below : (z : ℤ) (k : ℕ) → pos 0 ≤ℤ z → z <ℤ pos k → (n : ℕ) × (z ≡ pos n) × (n < k)
natural_below z k low high = (nat_abs z, (omega (arith, ints)), omega (arith, ints))

-- ---- one store

module _ (s : StoreView) (line : IsLineStore s) where
  few : s.shape.times ≤ 8
  few = let e : s.shape.times ≡ 1 = line.times in omega (arith, e)

  -- the zone without bounds of the cell
  columns : (r : ℕ) → length (take s.shape.times (line_cell r).residues) ≡ 1
  columns r = ap (λ n. length (take n (pos r ∷ replicate 7 (pos 0)))) line.times

  pub in_line : (r : ℕ) (x : ℤ) → Divides (pos s.period) (x -ℤ pos r) → IsMember (zone_of s (line_cell r) (replicate 81 None)) (x ∷ [])
  in_line r x d = free_zone (zone_of s (line_cell r) (replicate 81 None)) (let e = columns r in omega (arith, e)) (λ i l. no_bound 81 i) (x ∷ []) (record {
    count = sym (columns r);
    each = λ i l. let low : i ≤ 1 = (let e = columns r in omega (arith, e, l)) in
        subst (λ (t : ℤ). Divides (pos s.period) (node (x ∷ []) i -ℤ t)) (sym (node_take s.shape.times (line_cell r).residues i (let e : s.shape.times ≡ 1 = line.times in omega (arith, e, low)))) ((line_lies s.shape s.period r x line.times line.texts d).residues i (let e : s.shape.times ≡ 1 = line.times in omega (arith, e, low)));
  })

  -- and what is in it has the residue
  pub of_line : (r : ℕ) (xs : List ℤ) → IsMember (zone_of s (line_cell r) (replicate 81 None)) xs → (x : ℤ) × (xs ≡ x ∷ []) × Divides (pos s.period) (x -ℤ pos r)
  of_line r [] m = absurd (let c : 0 ≡ length (take s.shape.times (line_cell r).residues) = m.cell.count in let e = columns r in omega (arith, c, e))
  of_line r (x ∷ y ∷ xs) m = absurd (let c : suc (suc (length xs)) ≡ length (take s.shape.times (line_cell r).residues) = m.cell.count in let e = columns r in omega (arith, c, e))
  of_line r (x ∷ []) m = (x, refl, subst (λ (t : ℤ). Divides (pos s.period) (x -ℤ t)) (node_take s.shape.times (line_cell r).residues 1 (let e : s.shape.times ≡ 1 = line.times in omega (arith, e))) (m.cell.each 1 (let e = columns r in omega (arith, e))))

  -- a cell that is held whole holds each number of its residue
  pub whole_holds : (r : ℕ) (x : ℤ) → BeginsWhole s (line_cell r) → Divides (pos s.period) (x -ℤ pos r) → InStore s (x ∷ []) []
  whole_holds r x begins d = record {
    cell = line_cell r;
    table = replicate 81 None;
    held = first (tables_at s (line_cell r)) begins;
    named = ap (λ n. take n (replicate 8 0)) line.texts;
    inside = in_line r x d;
  }
    where
      first : (ts : List (List (Option ℤ))) → slice_get ts 0 ≡ Some (replicate 81 None) → Contains ts (replicate 81 None)
      first [] e = cc
      first (t ∷ ts) e = (0, omega arith, cc)

  -- where each cell is, a number that is held has its residue's cell whole
  pub held_whole : HasWholeCells s → (x : ℤ) → InStore s (x ∷ []) [] → (r : ℕ) × (r < s.period) × BeginsWhole s (line_cell r) × Divides (pos s.period) (x -ℤ pos r)
  held_whole all x h =
      let low : 0 < s.period = line.valid.period_low in
      let one : pos 1 ≤ℤ pos s.period = omega (arith, ints) in
      let b = rem_between (pos s.period) x (int_rem_euclid x (pos s.period)) one refl in
      let d = rem_divides (pos s.period) x (int_rem_euclid x (pos s.period)) one refl in
      let n = natural_below (int_rem_euclid x (pos s.period)) s.period b.0 b.1 in
      let e : Divides (pos s.period) (x -ℤ pos n.0) = subst (λ (t : ℤ). Divides (pos s.period) (x -ℤ t)) n.1 d in
      let proper = cell_held s line.valid h.cell h.table h.held in
      let same : h.cell ≡ line_cell n.0 = one_cell s.shape s.period h.cell (line_cell n.0) (x ∷ []) [] proper (line_proper s.shape s.period n.0 line.times line.texts n.2) (lies_in s line.valid (x ∷ []) [] h) (line_lies s.shape s.period n.0 x line.times line.texts e) in
      (n.0, n.2, subst (BeginsWhole s) same (all h.cell h.table h.held), e)

  -- so the marks of its whole cells are a cover of it
  pub is_cover : HasWholeCells s → (cover : Cover) → length cover.residues ≡ s.period → MarksWhole s cover.residues → IsCoverOf s cover
  is_cover all cover count marks = record {
    count = count;
    sound = λ x c. whole_holds c.residue x (marks.sound c.residue c.marked) (subst (λ k. Divides (pos k) (x -ℤ pos c.residue)) count c.is);
    whole = λ x h. let w = held_whole all x h in record {
      residue = w.0;
      marked = marks.whole w.0 (let l : w.0 < s.period = w.1 in omega (arith, l, count)) w.2;
      is = subst (λ k. Divides (pos k) (x -ℤ pos w.0)) (sym count) w.3;
    };
  }

-- ---- marks

set_here : (marks : List Bool) (place : ℕ) → place < length marks → slice_get (slice_set marks place true) place ≡ Some true
set_here [] place l = absurd (let f : place < 0 = l in omega (arith, f))
set_here (mark ∷ marks) zero l = refl
set_here (mark ∷ marks) (suc place) l = set_here marks place (omega (arith, l))

set_kept : (marks : List Bool) (place r : ℕ) → slice_get marks r ≡ Some true → slice_get (slice_set marks place true) r ≡ Some true
set_kept [] place r e = cc
set_kept (mark ∷ marks) zero zero e = refl
set_kept (mark ∷ marks) zero (suc r) e = e
set_kept (mark ∷ marks) (suc place) zero e = e
set_kept (mark ∷ marks) (suc place) (suc r) e = set_kept marks place r e

set_from : (marks : List Bool) (place r : ℕ) → slice_get (slice_set marks place true) r ≡ Some true → (r ≡ place) ⊎ (slice_get marks r ≡ Some true)
set_from [] place r e = cc
set_from (mark ∷ marks) zero zero e = inl refl
set_from (mark ∷ marks) zero (suc r) e = inr e
set_from (mark ∷ marks) (suc place) zero e = inr e
set_from (mark ∷ marks) (suc place) (suc r) e = ⊎_elim (λ same. inl (ap suc same)) (λ old. inr old) (set_from marks place r e)

no_mark : (n r : ℕ) → slice_get (replicate n false) r ≡ Some true → ⊥
no_mark zero r e = cc
no_mark (suc n) zero e = cc
no_mark (suc n) (suc r) e = no_mark n r e

-- the residues of the cells that are not left are marked, and no others
pub record IsMarking (s : StoreView) (left : List Cell) (marks : List Bool) : Type 0 where
  pub count : length marks ≡ s.period
  pub known : (cell : Cell) → Contains left cell → Contains (finite.keys s.tables) cell
  pub sound : (r : ℕ) → slice_get marks r ≡ Some true → BeginsWhole s (line_cell r)
  pub whole : (r : ℕ) → Contains (finite.keys s.tables) (line_cell r) → Contains left (line_cell r) ⊎ (slice_get marks r ≡ Some true)

-- a cell of the store is that of its residue, and begins with the zone without bounds
pub record IsWholeLine (s : StoreView) (cell : Cell) : Type 0 where
  pub residue : ℕ
  pub low : residue < s.period
  pub size : length cell.residues ≡ 8
  pub at : node cell.residues 1 ≡ pos residue
  pub is : cell ≡ line_cell residue
  pub begins : BeginsWhole s cell

module _ (s : StoreView) (line : IsLineStore s) (all : HasWholeCells s) where
  pub whole_line : (cell : Cell) → Contains (finite.keys s.tables) cell → IsWholeLine s cell
  whole_line cell k =
      let list = key_held s line.valid (λ xs ns. Unit {0}) 0 cell k in
      let held : IsHeld s cell list.0 = line.valid.cells cell list.0 list.1 in
      let table = first_of list.0 held.some in
      let times : s.shape.times ≡ 1 = line.times in
      let x : ℤ = node cell.residues 1 in
      let range : IsResidue s.period x = held.proper.range 1 (omega (arith, times)) in
      let n = natural_below x s.period range.low range.high in
      record {
        residue = n.0;
        low = n.2;
        size = held.proper.residues.size;
        at = n.1;
        is = one_cell s.shape s.period cell (line_cell n.0) (x ∷ []) [] held.proper (line_proper s.shape s.period n.0 line.times line.texts n.2) (own_lies cell)
            (line_lies s.shape s.period n.0 x line.times line.texts (subst (λ (t : ℤ). Divides (pos s.period) (x -ℤ t)) n.1 (Divides-is (pos s.period) (pos 0) (x -ℤ x) (omega (arith, ints)) (Divides-zero (pos s.period)))));
        begins = all cell table.0 (subst (λ l. Contains l table.0) (sym (ap (λ o. unwrap_or o []) list.1)) table.1);
      }
    where
      own_lies : (cell : Cell) → LiesInCell s.shape s.period cell (node cell.residues 1 ∷ []) []
      own_lies cell = record {
        count = sym line.times;
        residues = λ i h. at i (let e : s.shape.times ≡ 1 = line.times in omega (arith, e, h));
        named = ap (λ n. take n cell.texts) line.texts;
      }
        where
          at : (i : ℕ) → i ≤ 1 → Divides (pos s.period) (node (node cell.residues 1 ∷ []) i -ℤ node cell.residues i)
          at zero l = Divides-zero (pos s.period)
          at (suc zero) l = Divides-is (pos s.period) (pos 0) (node cell.residues 1 -ℤ node cell.residues 1) (omega (arith, ints)) (Divides-zero (pos s.period))
          at (suc (suc i)) l = absurd (omega arith)

  pub marking_none : (left : List Cell) (marks : List Bool) (n : ℕ) → left ≡ finite.keys s.tables → marks ≡ replicate n false → n ≡ s.period → IsMarking s left marks
  marking_none left marks n e f count = record {
    count = ap length f ∙ length-replicate n false ∙ count;
    known = λ cell k. subst (λ l. Contains l cell) e k;
    sound = λ r m. absurd (no_mark n r (sym (ap (λ l. slice_get l r) f) ∙ m));
    whole = λ r k. inl (subst (λ l. Contains l (line_cell r)) (sym e) k);
  }

  -- the next cell is that of its residue
  pub marking_next : (left rest : List Cell) (cell : Cell) (marks : List Bool) → left ≡ cell ∷ rest → IsMarking s left marks → IsWholeLine s cell
  marking_next left rest cell marks e m = whole_line cell (m.known cell (subst (λ l. Contains l cell) (sym e) (head_in cell rest)))

  -- and is marked
  pub marking_more : (left rest : List Cell) (cell : Cell) (marks new : List Bool) (place : ℕ) → left ≡ cell ∷ rest → pos place ≡ node cell.residues 1 → new ≡ slice_set marks place true → IsMarking s left marks → IsMarking s rest new
  marking_more left rest cell marks new place e at same m =
      let own = marking_next left rest cell marks e m in
      let number : place ≡ own.residue = pos_same place own.residue (at ∙ own.at) in
      subst (IsMarking s rest) (sym same) (record {
        count = length-set marks place true ∙ m.count;
        known = λ c k. m.known c (subst (λ l. Contains l c) (sym e) (later cell rest c k));
        sound = λ r h. ⊎_elim (λ is. subst (λ n. BeginsWhole s (line_cell n)) (sym (is ∙ number)) (subst (BeginsWhole s) own.is own.begins)) (λ old. m.sound r old) (set_from marks place r h);
        whole = λ r k. ⊎_elim
            (λ l. ⊎_elim (λ first. inr (subst (λ n. slice_get (slice_set marks place true) n ≡ Some true) (number ∙ line_same own.residue r (sym own.is ∙ first)) (set_here marks place (let low : own.residue < s.period = own.low in let count : length marks ≡ s.period = m.count in omega (arith, low, count, number)))))
            (λ later_one. inl later_one) (in_cons cell rest (line_cell r) (subst (λ cs. Contains cs (line_cell r)) e l)))
            (λ old. inr (set_kept marks place r old)) (m.whole r k);
      })
    where
      pos_same : (a b : ℕ) → pos a ≡ pos b → a ≡ b
      pos_same a b e = omega (arith, ints, e)

      line_same : (a b : ℕ) → line_cell a ≡ line_cell b → a ≡ b
      line_same a b e = pos_same a b (ap (λ (c : Cell). node c.residues 1) e)

  -- with no cell left, the marks are those of the whole cells
  pub marking_done : (left : List Cell) (cover : Cover) → left ≡ [] → IsMarking s left cover.residues → IsCoverOf s cover
  marking_done left cover none m = is_cover s line all cover m.count (record {
    sound = m.sound;
    whole = λ r l b. ⊎_elim (λ k. absurd (in_none (line_cell r) (subst (λ cs. Contains cs (line_cell r)) none k))) (λ h. h)
        (m.whole r (key_is s (line_cell r) (replicate 81 None) (first_one (tables_at s (line_cell r)) b)));
  })
    where
      first_one : (ts : List (List (Option ℤ))) → slice_get ts 0 ≡ Some (replicate 81 None) → Contains ts (replicate 81 None)
      first_one [] e = cc
      first_one (t ∷ ts) e = (0, omega arith, cc)

-- ---- whether a cover has a residue's numbers

only_mark : (cover : Cover) (residue place : ℕ) → place < length cover.residues → Divides (pos (length cover.residues)) (pos residue -ℤ pos place) → slice_get cover.residues place ≡ Some false → IsCoveredNumber cover (pos residue) → ⊥
only_mark cover residue place low d unmarked c =
    let within : c.residue < length cover.residues = inside cover.residues c.residue true c.marked in
    let e : pos c.residue -ℤ pos place ≡ pos 0 = small_multiple (length cover.residues) (pos c.residue -ℤ pos place)
    (Divides-is (pos (length cover.residues)) ((pos residue -ℤ pos place) -ℤ (pos residue -ℤ pos c.residue)) (pos c.residue -ℤ pos place) (omega (arith, ints)) (Divides-- (pos (length cover.residues)) (pos residue -ℤ pos place) (pos residue -ℤ pos c.residue) d c.is))
    (omega (arith, ints, low, within)) (omega (arith, ints, low, within)) in
    let same : c.residue ≡ place = omega (arith, ints, e) in
    let both : Some true ≡ Some false = sym c.marked ∙ ap (λ i. slice_get cover.residues i) same ∙ unmarked in
    cc
  where
    inside : {X : Type 0} (xs : List X) (i : ℕ) (x : X) → slice_get xs i ≡ Some x → i < length xs
    inside [] i x e = cc
    inside (y ∷ ys) zero x e = omega arith
    inside (y ∷ ys) (suc i) x e = let l : i < length ys = inside ys i x e in omega (arith, l)

read_at : (marks : List Bool) (i : ℕ) → i < length marks → slice_get marks i ≡ Some (slice_index_or marks i false)
read_at [] i l = absurd (omega arith)
read_at (m ∷ marks) zero l = refl
read_at (m ∷ marks) (suc i) l = read_at marks i (omega arith)

module _ (cover : Cover) (residue : ℕ) (marks : List Bool) (same : marks ≡ cover.residues) (some : 0 < length cover.residues) where
  place_low : residue % length marks < length marks
  place_low = let l : 0 < length marks = subst (λ (ms : List Bool). 0 < length ms) (sym same) some in omega (arith, l)

  place_is : Divides (pos (length marks)) (pos residue -ℤ pos (residue % length marks))
  place_is = let l : 0 < length marks = subst (λ (ms : List Bool). 0 < length ms) (sym same) some in rem_divides (pos (length marks)) (pos residue) (pos (residue % length marks)) (omega (arith, ints, l)) refl

  -- the mark at its remainder tells whether a residue is covered
  pub marked_there : slice_index_or marks (residue % length marks) false ≡ true → IsCoveredNumber cover (pos residue)
  marked_there e = record {
    residue = residue % length marks;
    marked = subst (λ (ms : List Bool). slice_get ms (residue % length marks) ≡ Some true) same (read_at marks (residue % length marks) place_low ∙ ap Some e);
    is = subst (λ (ms : List Bool). Divides (pos (length ms)) (pos residue -ℤ pos (residue % length marks))) same place_is;
  }

  pub unmarked_there : slice_index_or marks (residue % length marks) false ≡ false → IsCoveredNumber cover (pos residue) → ⊥
  unmarked_there e = only_mark cover residue (residue % length marks) (subst (λ (ms : List Bool). residue % length marks < length ms) same place_low)
      (subst (λ (ms : List Bool). Divides (pos (length ms)) (pos residue -ℤ pos (residue % length marks))) same place_is)
      (subst (λ (ms : List Bool). slice_get ms (residue % length marks) ≡ Some false) same (read_at marks (residue % length marks) place_low ∙ ap Some e))

-- ---- covers, one after another

-- none of the first covers has the number
abbrev pub AreFirstOpen : List Cover → ℤ → ℕ → Type 0
AreFirstOpen covers x n = IsOpen (take n covers) x

pub none_open : (covers : List Cover) (x : ℤ) (n : ℕ) → n ≡ 0 → AreFirstOpen covers x n
none_open covers x n e cover k c = in_none cover (subst (λ m. Contains (take m covers) cover) e k)

pub more_open : (covers : List Cover) (x : ℤ) (n : ℕ) (cover : Cover) → n < length covers → cover ≡ get_or covers n cover → AreFirstOpen covers x n → (IsCoveredNumber cover x → ⊥) → AreFirstOpen covers x (n + 1)
more_open covers x n cover low at first own other k c = elim (Contains-append_cases (take n covers) (cover ∷ []) other (subst (λ cs. Contains cs other) (front_more covers n cover low at) k)) [
  | inl a ↦ first other a c
  | inr b ↦ own (subst (λ d. IsCoveredNumber d x) (sym (in_one cover other b)) c)
]

pub all_open : (covers : List Cover) (x : ℤ) (n : ℕ) → length covers ≤ n → AreFirstOpen covers x n → IsOpen covers x
all_open covers x n high first = subst (λ cs. IsOpen cs x) (take_all n covers high) first

-- ---- numbers of one residue

-- what is covered at a residue is so at each of its numbers, and the other way round
module _ (covers : List Cover) (own : ℕ) (divide : (cover : Cover) → Contains covers cover → Divides (pos (length cover.residues)) (pos own)) where
  moved : (cover : Cover) → Contains covers cover → (x y : ℤ) → Divides (pos own) (x -ℤ y) → IsCoveredNumber cover x → IsCoveredNumber cover y
  moved cover k x y d c = record {
    residue = c.residue;
    marked = c.marked;
    is = Divides-is (pos (length cover.residues)) ((x -ℤ pos c.residue) -ℤ (x -ℤ y)) (y -ℤ pos c.residue) (omega (arith, ints)) (Divides-- (pos (length cover.residues)) (x -ℤ pos c.residue) (x -ℤ y) c.is (Divides-trans (pos (length cover.residues)) (pos own) (x -ℤ y) (divide cover k) d));
  }

  back : (x y : ℤ) → Divides (pos own) (x -ℤ y) → Divides (pos own) (y -ℤ x)
  back x y d = Divides-is (pos own) (pos 0 -ℤ (x -ℤ y)) (y -ℤ x) (omega (arith, ints)) (Divides-- (pos own) (pos 0) (x -ℤ y) (Divides-zero (pos own)) d)

  pub open_there : (x y : ℤ) → Divides (pos own) (x -ℤ y) → IsOpen covers y → IsOpen covers x
  open_there x y d uncovered cover k c = uncovered cover k (moved cover k x y d c)

  pub shut_there : (x y : ℤ) → Divides (pos own) (x -ℤ y) → IsShut covers y → IsOpen covers x → ⊥
  shut_there x y d shut uncovered = uncovered shut.0 shut.1 (moved shut.0 shut.1 y x (back x y d) shut.2)

-- ---- residue after residue

-- a number whose residue is this one or a later one
pub record IsLater (own residue : ℕ) (xs : List ℤ) (ns : List ℕ) : Type 0 where
  pub at : ℕ
  pub later : residue ≤ at
  pub high : at < own
  pub is : Divides (pos own) (node xs 1 -ℤ pos at)

-- one whose residue is this
record IsOpenAt (covers : List Cover) (own residue : ℕ) (xs : List ℤ) (ns : List ℕ) : Type 0 where
  uncovered : IsLeftOpen covers xs ns
  is : Divides (pos own) (node xs 1 -ℤ pos residue)

-- what was added of the residues before this one
abbrev pub IsSifting : List Cover → ℕ → ℕ → StoreView → ℕ → StoreView → Type 0
IsSifting covers own cap start residue out = IsGathering (IsLeftOpen covers) (IsLater own residue) cap 0 start out

module _ (covers : List Cover) (own cap : ℕ) (start : StoreView) (can : CanSift covers own start) where
  pub sifting_none : IsSifting covers own cap start 0 start
  sifting_none = gathering_none (IsLeftOpen covers) cap 0 start (IsLater own 0) can.line.valid (λ xs ns h. from xs ns)
    where
      from : (xs : List ℤ) (ns : List ℕ) → IsLater own 0 xs ns
      from xs ns =
          let one : pos 1 ≤ℤ pos own = (let l = can.low in omega (arith, ints, l)) in
          let b = rem_between (pos own) (node xs 1) (int_rem_euclid (node xs 1) (pos own)) one refl in
          let d = rem_divides (pos own) (node xs 1) (int_rem_euclid (node xs 1) (pos own)) one refl in
          let n = natural_below (int_rem_euclid (node xs 1) (pos own)) own b.0 b.1 in
          record { at = n.0; later = omega arith; high = n.2; is = subst (λ (t : ℤ). Divides (pos own) (node xs 1 -ℤ t)) n.1 d }

  to_left : (residue : ℕ) (xs : List ℤ) (ns : List ℕ) → IsOpenAt covers own residue xs ns → IsLeftOpen covers xs ns
  to_left residue xs ns h = h.uncovered

  split : (residue : ℕ) (xs : List ℤ) (ns : List ℕ) → IsLeftOpen covers xs ns → IsLater own residue xs ns → IsOpenAt covers own residue xs ns ⊎ IsLater own (residue + 1) xs ns
  split residue xs ns h l = elim (cases residue l.at l.later) [
    | inl e ↦ inl (record { uncovered = h; is = subst (λ (t : ℕ). Divides (pos own) (node xs 1 -ℤ pos t)) (sym e) l.is })
    | inr more ↦ inr (record { at = l.at; later = more; high = l.high; is = l.is })
  ]
    where
      cases : (m n : ℕ) → m ≤ n → (m ≡ n) ⊎ (m + 1 ≤ n)
      cases m n h = grind arith

  module _ (residue : ℕ) (out : StoreView) (g : IsSifting covers own cap start residue out) where
    pub sifting_line : IsLineStore out
    sifting_line = record {
      valid = g.grown.valid;
      times = ap (λ (q : Shape). q.times) g.grown.shape ∙ can.line.times;
      texts = ap (λ (q : Shape). q.texts) g.grown.shape ∙ can.line.texts;
    }

    out_period : out.period ≡ own
    out_period = g.grown.period ∙ can.period_is

    pub sifting_proper : residue < own → IsCellOf out.shape out.period (line_cell residue)
    sifting_proper low = line_proper out.shape out.period residue sifting_line.times sifting_line.texts (subst (λ k. residue < k) (sym out_period) low)

    -- a residue that a cover has leaves nothing
    pub sifting_shut : IsShut covers (pos residue) → IsSifting covers own cap start (residue + 1) out
    sifting_shut shut = gathering_more (IsLeftOpen covers) cap 0 start (IsLater own residue) (IsLater own (residue + 1)) (IsOpenAt covers own residue) 0 out out g (omega arith) (to_left residue) (split residue)
        (record { grown = grown_same cap 0 (IsOpenAt covers own residue) out g.grown.valid; whole = record { each = λ xs ns h. absurd (none xs ns h) } })
      where
        none : (xs : List ℤ) (ns : List ℕ) → IsOpenAt covers own residue xs ns → ⊥
        none xs ns h = shut_there covers own can.divide h.uncovered.number (pos residue) (subst (λ (l : List ℤ). Divides (pos own) (node l 1 -ℤ pos residue)) h.uncovered.times_are h.is) shut h.uncovered.uncovered

    -- another one is added whole
    pub sifting_open : (new : StoreView) → IsOpen covers (pos residue) → IsAdded (IsTupleOf (zone_of out (line_cell residue) (replicate 81 None)) (take out.shape.texts (line_cell residue).texts)) cap (greatest_of (replicate 81 None)) out new → IsSifting covers own cap start (residue + 1) new
    sifting_open new uncovered a = gathering_more (IsLeftOpen covers) cap 0 start (IsLater own residue) (IsLater own (residue + 1)) (IsOpenAt covers own residue) 0 out new g (omega arith) (to_left residue) (split residue)
        (added_as cap (IsTupleOf (zone_of out (line_cell residue) (replicate 81 None)) (take out.shape.texts (line_cell residue).texts)) (IsOpenAt covers own residue) (greatest_of (replicate 81 None)) 0 (no_reach 81) out new g.grown.valid to from a)
      where
        no_texts : take out.shape.texts (line_cell residue).texts ≡ []
        no_texts = ap (λ n. take n (replicate 8 0)) sifting_line.texts

        to : (xs : List ℤ) (ns : List ℕ) → IsTupleOf (zone_of out (line_cell residue) (replicate 81 None)) (take out.shape.texts (line_cell residue).texts) xs ns → IsOpenAt covers own residue xs ns
        to xs ns h =
            let m = of_line out sifting_line residue xs h.member in
            let d : Divides (pos own) (m.0 -ℤ pos residue) = subst (λ (k : ℕ). Divides (pos k) (m.0 -ℤ pos residue)) out_period m.2 in
            record {
              uncovered = record { number = m.0; times_are = m.1; none = sym h.same ∙ no_texts; uncovered = open_there covers own can.divide m.0 (pos residue) d uncovered };
              is = subst (λ (l : List ℤ). Divides (pos own) (node l 1 -ℤ pos residue)) (sym m.1) d;
            }

        from : (xs : List ℤ) (ns : List ℕ) → IsOpenAt covers own residue xs ns → IsTupleOf (zone_of out (line_cell residue) (replicate 81 None)) (take out.shape.texts (line_cell residue).texts) xs ns
        from xs ns h = record {
          member = subst (IsMember (zone_of out (line_cell residue) (replicate 81 None))) (sym h.uncovered.times_are)
              (in_line out sifting_line residue h.uncovered.number (subst (λ (k : ℕ). Divides (pos k) (h.uncovered.number -ℤ pos residue)) (sym out_period) (subst (λ (l : List ℤ). Divides (pos own) (node l 1 -ℤ pos residue)) h.uncovered.times_are h.is)));
          same = no_texts ∙ sym h.uncovered.none;
        }

  pub sifting_all : (residue : ℕ) (out : StoreView) → own ≤ residue → IsSifting covers own cap start residue out → IsAdded (IsLeftOpen covers) cap 0 start out
  sifting_all residue out high g = gathered (IsLeftOpen covers) cap 0 start (IsLater own residue) out g (λ xs ns h l. let a = l.later in let b = l.high in absurd (omega (arith, a, b, high)))
