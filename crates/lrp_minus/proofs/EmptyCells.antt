-- A cell that a store has not is all that is missing there.
use Rattle.std.proofs.Common.{◌≡◌, ℕ, ◌<◌, ◌≤◌, List, [], ◌∷◌, map, length, replicate, take, None, get_or, refl, sym, ap, subst, ◌∙◌, arith, zero, suc}
use Rattle.std.specs.Prelude.{ℤ, Option, pos, Contains, ◌-ℤ◌}
use Rattle.std.proofs.lemmas.List.{length-map, length-take-le}
use Rattle.lrp_theory.specs.Divides.{Divides}
use Rattle.lrp_theory.specs.Entries.{node}
use Rattle.lrp_model.specs.declared.tuples.Cell.{Cell}
use Rattle.lrp_model.specs.declared.tuples.Shape.{Shape}
use Rattle.lrp_zone.specs.Zones.{ZoneView, IsInCell, IsMember, greatest_of}
use Rattle.lrp_store.specs.Growing.{IsAdded, IsRefused, IsTupleOf}
use Rattle.lrp_store.specs.Stores.{StoreView, IsStore, IsCellOf, InStore, LiesInCell, zone_of, tables_at, zones_at}
use Rattle.lrp_store.proofs.Counted.{lies_in, one_cell}
use Rattle.lrp_store.proofs.Grown.{grown_same}
use Rattle.lrp_store.proofs.Held.{cell_held, node_take}
use Rattle.lrp_cutting.specs.Settling.{IsLike}
use Rattle.lrp_minus.specs.Absences.{IsAbsentAt, IsChosenTo}
use Rattle.lrp_tables.proofs.FreeZones.{free_zone}
use Rattle.lrp_tables.proofs.Gathering.{added_as, refused_as}
use Rattle.lrp_theory.proofs.Members.{from_map}

-- a table without bounds has none at any place, and no reach
no_bound : (n i : ℕ) → get_or {A = Option ℤ} (replicate n None) i None ≡ None
no_bound zero i = refl
no_bound (suc n) zero = refl
no_bound (suc n) (suc i) = no_bound n i

-- what a list has, the list of the images has the image of
to_map : {X Y : Type 0} (f : X → Y) (xs : List X) (x : X) → Contains xs x → Contains (map f xs) (f x)
to_map f [] x held = absurd (let low = held.1 in omega (arith, low))
to_map f (y ∷ xs) x held = at f y xs x (λ more. to_map f xs x more) held.0 held.1 held.2
  where
    at : {X Y : Type 0} (f : X → Y) (y : X) (xs : List X) (x : X) → (Contains xs x → Contains (map f xs) (f x)) → (k : ℕ) → k < length (y ∷ xs) → get_or (y ∷ xs) k x ≡ x → Contains (map f (y ∷ xs)) (f x)
    at f y xs x rest zero low e = (0, omega arith, ap f e)
    at f y xs x rest (suc k) low e = let more = rest (k, omega arith, e) in (suc more.0, (let l = more.1 in omega (arith, l)), more.2)

no_reach : greatest_of (replicate 81 None) ≤ 0
no_reach = reach 81
  where
    reach : (n : ℕ) → greatest_of (replicate n None) ≤ 0
    reach zero = omega arith
    reach (suc n) = let r : greatest_of (replicate n None) ≤ 0 = reach n in omega arith

module _ (s : StoreView) (is : IsStore s) (cell : Cell) (c : IsChosenTo s s.shape.times cell) (empty : length (tables_at s cell) ≡ 0) (out : StoreView) (like : IsLike s out) where
  abbrev whole : ZoneView
  whole = zone_of out cell (replicate 81 None)

  proper : IsCellOf s.shape s.period cell
  proper = record { texts = c.texts; residues = c.residues; range = c.range }

  pub proper_there : IsCellOf out.shape out.period cell
  proper_there = subst (λ (q : Shape). IsCellOf q out.period cell) (sym like.shape) (subst (λ (k : ℕ). IsCellOf s.shape k cell) (sym like.period) proper)

  few : out.shape.times ≤ 8
  few = subst (λ (q : Shape). q.times ≤ 8) (sym like.shape) is.times

  count : length (take out.shape.times cell.residues) ≡ out.shape.times
  count = length-take-le out.shape.times cell.residues (let e : length cell.residues ≡ 8 = c.residues.size in let l = few in omega arith)

  times_same : out.shape.times ≡ s.shape.times
  times_same = ap (λ (q : Shape). q.times) like.shape

  to : (xs : List ℤ) (ns : List ℕ) → IsTupleOf (zone_of out cell (replicate 81 None)) (take out.shape.texts cell.texts) xs ns → IsAbsentAt s s.shape.times cell xs ns
  to xs ns h = record { count = lies.count; residues = lies.residues; named = lies.named; none = none }
    where
      lies : LiesInCell s.shape s.period cell xs ns
      lies = record {
        count = h.member.cell.count ∙ count ∙ times_same;
        residues = λ i l.
            let low : i ≤ out.shape.times = subst (λ (n : ℕ). i ≤ n) (sym times_same) l in
            subst (λ (k : ℕ). Divides (pos k) (node xs i -ℤ node cell.residues i)) like.period
            (subst (λ (r : ℤ). Divides (pos out.period) (node xs i -ℤ r)) (node_take out.shape.times cell.residues i low) (h.member.cell.each i (let e = count in omega arith)));
        named = ap (λ (q : Shape). take q.texts cell.texts) (sym like.shape) ∙ h.same;
      }

      none : InStore s xs ns → ⊥
      none held =
          let e : held.cell ≡ cell = one_cell s.shape s.period held.cell cell xs ns (cell_held s is held.cell held.table held.held) proper (lies_in s is xs ns held) lies in
          let inside = subst (λ (d : Cell). Contains (tables_at s d) held.table) e held.held in
          let low : inside.0 < length (tables_at s cell) = inside.1 in
          absurd (omega arith)

  from : (xs : List ℤ) (ns : List ℕ) → IsAbsentAt s s.shape.times cell xs ns → IsTupleOf (zone_of out cell (replicate 81 None)) (take out.shape.texts cell.texts) xs ns
  from xs ns h = record {
    member = free_zone (zone_of out cell (replicate 81 None)) (let e = count in let l = few in omega arith) (λ i l. no_bound 81 i) xs in_cell;
    same = ap (λ (q : Shape). take q.texts cell.texts) like.shape ∙ h.named;
  }
    where
      in_cell : IsInCell (zone_of out cell (replicate 81 None)) xs
      in_cell = record {
        count = h.count ∙ sym times_same ∙ sym count;
        each = λ i l.
            let low : i ≤ out.shape.times = (let e = count in omega arith) in
            subst (λ (r : ℤ). Divides (pos out.period) (node xs i -ℤ r)) (sym (node_take out.shape.times cell.residues i low))
            (subst (λ (k : ℕ). Divides (pos k) (node xs i -ℤ node cell.residues i)) (sym like.period) (h.residues i (subst (λ (n : ℕ). i ≤ n) times_same low)));
      }

  module _ (cap high : ℕ) (valid : IsStore out) (new : StoreView) where
    pub whole_absent : IsAdded (IsTupleOf (zone_of out cell (replicate 81 None)) (take out.shape.texts cell.texts)) cap (greatest_of (replicate 81 None)) out new → IsAdded (IsAbsentAt s s.shape.times cell) cap high out new
    whole_absent a = added_as cap (IsTupleOf (zone_of out cell (replicate 81 None)) (take out.shape.texts cell.texts)) (IsAbsentAt s s.shape.times cell) (greatest_of (replicate 81 None)) high (let r = no_reach in omega arith) out new valid to from a

    pub whole_absent_refused : IsRefused (IsTupleOf (zone_of out cell (replicate 81 None)) (take out.shape.texts cell.texts)) cap (greatest_of (replicate 81 None)) out new → IsRefused (IsAbsentAt s s.shape.times cell) cap high out new
    whole_absent_refused r = refused_as cap (IsTupleOf (zone_of out cell (replicate 81 None)) (take out.shape.texts cell.texts)) (IsAbsentAt s s.shape.times cell) (greatest_of (replicate 81 None)) high (let r = no_reach in omega arith) out new valid to r

-- a cell that the store has whole misses nothing
module _ (s : StoreView) (is : IsStore s) (cell : Cell) (c : IsChosenTo s s.shape.times cell) (z : ZoneView) (there : Contains (zones_at s cell) z) (all : (xs : List ℤ) → IsInCell z xs → IsMember z xs) where
  held_count : length (take s.shape.times cell.residues) ≡ s.shape.times
  held_count = length-take-le s.shape.times cell.residues (let e : length cell.residues ≡ 8 = c.residues.size in let l = is.times in omega arith)

  nothing_absent : (xs : List ℤ) (ns : List ℕ) → IsAbsentAt s s.shape.times cell xs ns → ⊥
  nothing_absent xs ns h =
      let g = from_map (zone_of s cell) (tables_at s cell) z there in
      h.none (record { cell = cell; table = g.0; held = g.1; named = h.named; inside = subst (λ (w : ZoneView). IsMember w xs) (sym g.2) (all xs (subst (λ (w : ZoneView). IsInCell w xs) g.2 (in_cell g.0))) })
    where
      in_cell : (table : List (Option ℤ)) → IsInCell (zone_of s cell table) xs
      in_cell table = record {
        count = h.count ∙ sym held_count;
        each = λ i l.
            let low : i ≤ s.shape.times = (let e = held_count in omega arith) in
            subst (λ (r : ℤ). Divides (pos s.period) (node xs i -ℤ r)) (sym (node_take s.shape.times cell.residues i low)) (h.residues i low);
      }

  pub nothing_added : (out : StoreView) → IsStore out → (cap high : ℕ) → IsAdded (IsAbsentAt s s.shape.times cell) cap high out out
  nothing_added out valid cap high = record { grown = grown_same cap high _ out valid; whole = record { each = λ xs ns h. absurd (nothing_absent xs ns h) } }

-- and so does one that has the zone without bounds
module _ (s : StoreView) (is : IsStore s) (cell : Cell) (c : IsChosenTo s s.shape.times cell) where
  pub whole_leaves : Contains (tables_at s cell) (replicate 81 None) → (out : StoreView) → IsStore out → (cap high : ℕ) → IsAdded (IsAbsentAt s s.shape.times cell) cap high out out
  whole_leaves held out valid cap high =
      let count : length (take s.shape.times cell.residues) ≡ s.shape.times = length-take-le s.shape.times cell.residues (let e : length cell.residues ≡ 8 = c.residues.size in let l = is.times in omega arith) in
      let few : s.shape.times ≤ 8 = is.times in
      nothing_added s is cell c (zone_of s cell (replicate 81 None)) (to_map (zone_of s cell) (tables_at s cell) (replicate 81 None) held)
      (free_zone (zone_of s cell (replicate 81 None)) (omega arith) (λ i l. no_bound 81 i)) out valid cap high

-- no zone is there
pub no_table : (s : StoreView) (cell : Cell) → zones_at s cell ≡ [] → length (tables_at s cell) ≡ 0
no_table s cell e = sym (length-map (tables_at s cell) (zone_of s cell)) ∙ ap length e
