-- The first tuple of a store and of an answer.
use Rattle.std.proofs.Common.{◌≡◌, ◌≢◌, ℕ, zero, suc, ◌+◌, ◌*◌, ◌<◌, ◌≤◌, ◌⊎◌, inl, inr, List, [], ◌∷◌, length, take, replicate, get_or, Option, Some, None, Bool, true, false, Ordering, Less, Equal, Greater, arith, refl, sym, ap, ap₂, subst, ◌∙◌, Contains}
use Rattle.std.specs.Prelude.{ℤ, pos, ◌-ℤ◌, ◌↔◌, IsTrue, IfSome, IfNone}
use Rattle.std.specs.Ordering.{nat_cmp, ordering_then, ordering_reverse, is_gt, on, then_cmp}
use Rattle.std.specs.Cmp.{IsTotalOrder}
use Rattle.std.specs.Cmp.Lexicographic.{slice_cmp}
use Rattle.std.proofs.lemmas.Cmp.{ranked, by_ranked, tied_itself, nat_cmp_total, nat_list_cmp_total, on_total, then_total, lists_total, upto}
use Rattle.std.proofs.lemmas.List.{get_or-take, get_or-replicate, length-take-le, ext_get_or}
use Rattle.lrp_theory.specs.Bounds.{Within}
use Rattle.lrp_theory.specs.Entries.{node}
use Rattle.lrp_model.specs.declared.tuples.Spot.{Spot}
use Rattle.lrp_zone.specs.Zones.{IsMember, columns_of}
use Rattle.lrp_zone.specs.Order.{at}
use Rattle.lrp_model.specs.declared.tuples.Cell.{Cell}
use Rattle.lrp_store.proofs.Held.{Table, cell_held}
use Rattle.lrp_store.specs.Stores.{StoreView, IsStore, InCell, InStore, IsCellOf, IsPadded, zone_of, tables_at}
use Rattle.lrp_store.specs.Least.{IsNotNearer, IsNearestTo, held_cmp, IsSpotOf, IsFoundSpot, IsNotAfter}
use Rattle.lrp_theory.specs.Residues.{rank}

-- times by their ranks
abbrev pub times_cmp : List ℤ → List ℤ → Ordering
times_cmp = slice_cmp (λ x y. nat_cmp (rank x) (rank y))

-- the order is total
times_total : IsTotalOrder times_cmp
times_total = lists_total (on_total rank nat_cmp_total)

-- the order of times and numbers of texts, as that of pairs
pair_total : IsTotalOrder (then_cmp (on (λ (p : List ℤ × List ℕ). p.0) times_cmp) (on (λ p. p.1) (slice_cmp nat_cmp)))
pair_total = then_total (on_total (λ p. p.0) times_total) (on_total (λ p. p.1) nat_list_cmp_total)

-- two constructors differ
less_greater : Less ≡ Greater → ⊥
less_greater e = cc

equal_greater : Equal ≡ Greater → ⊥
equal_greater e = cc

-- a lesser number comes before
before_of : (m n : ℕ) → m < n → nat_cmp m n ≡ Less
before_of m n h = by_ranked (m < n) (m ≡ n) (n < m) (nat_cmp m n) (ranked m n (nat_cmp m n) refl) (λ e l. e) (λ e l. absurd (omega arith)) (λ e l. absurd (omega arith))

-- a number is where it is
same_of : (m n : ℕ) → m ≡ n → nat_cmp m n ≡ Equal
same_of m n h = by_ranked (m < n) (m ≡ n) (n < m) (nat_cmp m n) (ranked m n (nat_cmp m n) refl) (λ e l. absurd (omega arith)) (λ e l. e) (λ e l. absurd (omega arith))

-- what is not nearer does not come before
not_nearer_cmp : (n : ℕ) (xs ys : List ℤ) → n ≤ length xs → length ys ≡ n → IsNotNearer n xs ys → times_cmp (take n xs) ys ≢ Greater
not_nearer_cmp zero xs [] l e h g = equal_greater g
not_nearer_cmp zero xs (y ∷ ys) l e h g = absurd (omega arith)
not_nearer_cmp (suc n) [] ys l e h g = absurd (omega arith)
not_nearer_cmp (suc n) (x ∷ xs) [] l e h g = absurd (omega arith)
not_nearer_cmp (suc n) (x ∷ xs) (y ∷ ys) l e h g = by h.place h.low h.same h.farther (not_nearer_cmp n xs ys (omega arith) (omega arith))
  where
    by : (p : ℕ) → p ≤ suc n → ((i : ℕ) → i < p → at (y ∷ ys) i ≡ at (x ∷ xs) i) → (p < suc n → rank (at (x ∷ xs) p) < rank (at (y ∷ ys) p)) → (IsNotNearer n xs ys → times_cmp (take n xs) ys ≢ Greater) → ⊥
    by zero low same farther rest = less_greater (sym (ap (λ o. ordering_then o (times_cmp (take n xs) ys)) (before_of (rank x) (rank y) (farther (omega arith)))) ∙ g)
    by (suc p) low same farther rest =
        let s : y ≡ x = same 0 (omega arith) in
        rest (record { place = p; low = omega arith; same = λ i il. same (suc i) (omega arith); farther = λ f. farther (omega arith) })
        (sym (ap (λ o. ordering_then o (times_cmp (take n xs) ys)) (same_of (rank x) (rank y) (sym (ap rank s)))) ∙ g)

-- ---- zeros after the values of two spots change nothing

-- values that are at a number from some place on compare like those before
pub front_cmp : {X : Type 0} (R : X → X → Ordering) (d : X) → R d d ≡ Equal → (n : ℕ) (xs ys : List X) → length xs ≡ length ys → ((i : ℕ) → n ≤ i → get_or xs i d ≡ d) → ((i : ℕ) → n ≤ i → get_or ys i d ≡ d) → slice_cmp R xs ys ≡ slice_cmp R (take n xs) (take n ys)
front_cmp R d e zero [] [] l f g = refl
front_cmp R d e zero [] (y ∷ ys) l f g = absurd (omega arith)
front_cmp R d e zero (x ∷ xs) [] l f g = absurd (omega arith)
front_cmp R d e zero (x ∷ xs) (y ∷ ys) l f g =
    let a : x ≡ d = f 0 (omega arith) in
    let b : y ≡ d = g 0 (omega arith) in
    ap (λ o. ordering_then o (slice_cmp R xs ys)) (ap₂ R a b ∙ e) ∙ front_cmp R d e zero xs ys (omega arith) (λ i l. f (suc i) (omega arith)) (λ i l. g (suc i) (omega arith))
front_cmp R d e (suc n) [] [] l f g = refl
front_cmp R d e (suc n) [] (y ∷ ys) l f g = absurd (omega arith)
front_cmp R d e (suc n) (x ∷ xs) [] l f g = absurd (omega arith)
front_cmp R d e (suc n) (x ∷ xs) (y ∷ ys) l f g = ap (ordering_then (R x y)) (front_cmp R d e n xs ys (omega arith) (λ i l. f (suc i) (omega arith)) (λ i l. g (suc i) (omega arith)))

-- so two spots with zeros after their values compare like these
padded_cmp : (s : StoreView) (a b : Spot) → IsPadded (pos 0) s.shape.times a.times → IsPadded (pos 0) s.shape.times b.times → IsPadded 0 s.shape.texts a.texts → IsPadded 0 s.shape.texts b.texts
    → held_cmp a.times a.texts b.times b.texts ≡ held_cmp (take s.shape.times a.times) (take s.shape.texts a.texts) (take s.shape.times b.times) (take s.shape.texts b.texts)
padded_cmp s a b times others texts names =
    ap₂ ordering_then
    (front_cmp (λ x y. nat_cmp (rank x) (rank y)) (pos 0) (same_of 0 0 refl) s.shape.times a.times b.times (times.size ∙ sym others.size) times.zeros others.zeros)
    (front_cmp nat_cmp 0 (same_of 0 0 refl) s.shape.texts a.texts b.texts (texts.size ∙ sym names.size) texts.zeros names.zeros)

-- two spots of the store compare like their tuples
pub spots_cmp : (s : StoreView) (a b : Spot) → IsSpotOf s a → IsSpotOf s b → held_cmp a.times a.texts b.times b.texts ≡ held_cmp (take s.shape.times a.times) (take s.shape.texts a.texts) (take s.shape.times b.times) (take s.shape.texts b.texts)
spots_cmp s a b p q = padded_cmp s a b p.times q.times p.texts q.texts

-- ---- orders

-- not greater, as a test
not_gt : (o : Ordering) → o ≢ Greater → is_gt o ≡ false
not_gt Less h = refl
not_gt Equal h = refl
not_gt Greater h = absurd (h refl)

-- and back
from_not_gt : (o : Ordering) → is_gt o ≡ false → o ≢ Greater
from_not_gt Less h e = less_greater e
from_not_gt Equal h e = equal_greater e
from_not_gt Greater h e = cc

-- one after the other
pub held_upto : (xs ys zs : List ℤ) (ns ms ks : List ℕ) → held_cmp xs ns ys ms ≢ Greater → held_cmp ys ms zs ks ≢ Greater → held_cmp xs ns zs ks ≢ Greater
held_upto xs ys zs ns ms ks h k = from_not_gt _ (upto pair_total (xs, ns) (ys, ms) (zs, ks) (not_gt _ h) (not_gt _ k))

-- of two spots one is not after the other
pub held_itself : (xs : List ℤ) (ns : List ℕ) → held_cmp xs ns xs ns ≢ Greater
held_itself xs ns e = equal_greater (sym (tied_itself pair_total (xs, ns)) ∙ e)

-- where one does not come before, the other does not come after
pub held_turned : (xs ys : List ℤ) (ns ms : List ℕ) → held_cmp xs ns ys ms ≢ Less → held_cmp ys ms xs ns ≢ Greater
held_turned xs ys ns ms h e = h (pair_total.antisymm (xs, ns) (ys, ms) ∙ ap ordering_reverse e)

-- before is not after
pub held_before : (o : Ordering) → o ≡ Less → o ≢ Greater
held_before o h e = less_greater (sym h ∙ e)

-- ---- the nearest tuple of a zone in a store

module _ (s : StoreView) (is : IsStore s) (cell : Cell) (proper : IsCellOf s.shape s.period cell) (t : Table) where
  -- its zone has a column for each time
  columns : columns_of (zone_of s cell t) ≡ s.shape.times
  columns = length-take-le s.shape.times cell.residues (let h : s.shape.times ≤ 8 = is.times in let l : length cell.residues ≡ 8 = proper.residues.size in omega arith)

  module _ (xs : List ℤ) (near : IsNearestTo (zone_of s cell t) s.shape.times xs) where
    -- the nearest values are those of a tuple
    fits : s.shape.times ≤ length xs
    fits = let h : s.shape.times ≤ 8 = is.times in let l : length xs ≡ 8 = near.padded.size in omega arith

    taken : take s.shape.times xs ≡ near.member
    taken =
        let count : length near.member ≡ s.shape.times = near.is.cell.count ∙ columns in
        let size : length (take s.shape.times xs) ≡ s.shape.times = length-take-le s.shape.times xs fits in
        ext_get_or (pos 0) (take s.shape.times xs) near.member (size ∙ sym count) (λ i h. get_or-take s.shape.times xs i (pos 0) (omega arith) ∙ sym (near.same i (omega arith)))

    -- with the cell's texts they are not after another tuple of the zone
    spot_first : (ys : List ℤ) → IsMember (zone_of s cell t) ys → IsNotAfter s (Some (record { times = xs; texts = cell.texts })) ys (take s.shape.texts cell.texts)
    spot_first ys h g =
        let c : length ys ≡ s.shape.times = h.cell.count ∙ columns in
        not_nearer_cmp s.shape.times xs ys fits c (near.first ys h)
        (last (times_cmp (take s.shape.times xs) ys) (slice_cmp nat_cmp (take s.shape.texts cell.texts) (take s.shape.texts cell.texts)) (tied_itself nat_list_cmp_total (take s.shape.texts cell.texts)) g)
      where
        last : (o p : Ordering) → p ≡ Equal → ordering_then o p ≡ Greater → o ≡ Greater
        last Less p e g = absurd (less_greater g)
        last Equal p e g = absurd (equal_greater (sym e ∙ g))
        last Greater p e g = refl

module _ (s : StoreView) (is : IsStore s) (cell : Cell) (t : Table) (held : Contains (tables_at s cell) t) where
  -- a cell that is held is of the store's shape and period
  proper : IsCellOf s.shape s.period cell
  proper = cell_held s is cell t held

  module _ (xs : List ℤ) (near : IsNearestTo (zone_of s cell t) (columns_of (zone_of s cell t)) xs) where
    -- the nearest values, for the store's number of times
    of_times : IsNearestTo (zone_of s cell t) s.shape.times xs
    of_times = subst (λ n. IsNearestTo (zone_of s cell t) n xs) (columns s is cell proper t) near

    -- with the cell's texts they are a spot of the store
    pub spot_is : IsSpotOf s (record { times = xs; texts = cell.texts })
    spot_is = record {
      times = of_times.padded;
      texts = proper.texts;
      held = record { cell = cell; table = t; held = held; named = refl; inside = subst (IsMember (zone_of s cell t)) (sym (taken s is cell proper t xs of_times)) of_times.is };
    }

    module _ (old : Option Spot) (found : IsFoundSpot s old) (new : Spot) (one : (old ≡ Some new) ⊎ (new ≡ record { times = xs; texts = cell.texts }))
        (before_old : IfSome old (λ o. held_cmp new.times new.texts o.times o.texts ≢ Greater)) (before_spot : held_cmp new.times new.texts xs cell.texts ≢ Greater) where
      -- the nearer one is a spot of the store
      pub found_more : IsSpotOf s new
      found_more = elim one [ inl e ↦ subst (IsFoundSpot s) e found | inr e ↦ subst (IsSpotOf s) (sym e) spot_is ]

      -- it is not after what the old one was not after
      pub kept_more : (ys : List ℤ) (ns : List ℕ) → IsNotAfter s old ys ns → IsNotAfter s (Some new) ys ns
      kept_more ys ns = by old found before_old
        where
          by : (o : Option Spot) → IsFoundSpot s o → IfSome o (λ p. held_cmp new.times new.texts p.times p.texts ≢ Greater) → IsNotAfter s o ys ns → IsNotAfter s (Some new) ys ns
          by None f b h = absurd h
          by (Some p) f b h = held_upto _ (take s.shape.times p.times) ys _ (take s.shape.texts p.texts) ns (subst (λ o. o ≢ Greater) (spots_cmp s new p found_more f) b) h

      -- and not after the tuples of the zone
      pub here_more : (ys : List ℤ) → IsMember (zone_of s cell t) ys → IsNotAfter s (Some new) ys (take s.shape.texts cell.texts)
      here_more ys h = held_upto _ (take s.shape.times xs) ys _ (take s.shape.texts cell.texts) _ (subst (λ o. o ≢ Greater) (spots_cmp s new (record { times = xs; texts = cell.texts }) found_more spot_is) before_spot) (spot_first s is cell proper t xs of_times ys h)

-- ---- a cell without its bounds

module _ (s : StoreView) (is : IsStore s) (cell : Cell) (proper : IsCellOf s.shape s.period cell) where
  -- each tuple of the cell is one of its zone without bounds
  unbound : (ys : List ℤ) (ns : List ℕ) → InCell s cell ys ns → IsMember (zone_of s cell (replicate 81 None)) ys
  unbound ys ns h =
      let n : columns_of (zone_of s cell (replicate 81 None)) ≡ s.shape.times = columns s is cell proper (replicate 81 None) in
      let few : s.shape.times ≤ 8 = is.times in
      record {
        cell = record { count = h.inside.cell.count; each = h.inside.cell.each };
        meets = λ i j il jl. let small : 9 * i + j < 81 = omega arith in subst (λ b. Within (node ys i -ℤ node ys j) b) (sym (get_or-replicate 81 (9 * i + j) None None small)) tt;
      }

  -- where the first of that zone does not come before a spot of the store, no tuple of the cell does
  front_after : (xs : List ℤ) → IsNearestTo (zone_of s cell (replicate 81 None)) s.shape.times xs → (old : Spot) → IsSpotOf s old → held_cmp xs cell.texts old.times old.texts ≢ Less
      → (ys : List ℤ) (ns : List ℕ) → InCell s cell ys ns → IsNotAfter s (Some old) ys ns
  front_after xs near old found after ys ns h =
      let same : held_cmp old.times old.texts xs cell.texts ≡ held_cmp (take s.shape.times old.times) (take s.shape.texts old.texts) (take s.shape.times xs) (take s.shape.texts cell.texts) = padded_cmp s old (record { times = xs; texts = cell.texts }) found.times near.padded found.texts proper.texts in
      subst (IsNotAfter s (Some old) ys) h.named
      (held_upto _ (take s.shape.times xs) ys _ (take s.shape.texts cell.texts) _ (subst (λ o. o ≢ Greater) same (held_turned xs old.times cell.texts old.texts after)) (spot_first s is cell proper (replicate 81 None) xs near ys (unbound ys ns h)))

  -- the same in the forms of a call's clauses
  pub front_test : (b : Bool) (xs : List ℤ) → IsNearestTo (zone_of s cell (replicate 81 None)) s.shape.times xs → (old : Spot) → IsSpotOf s old → IsTrue b ↔ (held_cmp xs cell.texts old.times old.texts ≡ Less)
      → b ≡ false → (ys : List ℤ) (ns : List ℕ) → InCell s cell ys ns → IsNotAfter s (Some old) ys ns
  front_test b xs near old found before e = front_after xs near old found (λ l. both_ways (sym e ∙ before.1 l))
    where
      both_ways : false ≡ true → ⊥
      both_ways e = cc

-- ---- one cell after the other

module _ (s : StoreView) (is : IsStore s) (cell : Cell) where
  -- a tuple of the cell is not before what was found, or its zone is still to come
  pub after_more : (t : Table) (rest list : List Table) → list ≡ t ∷ rest → (old : Option Spot) (new : Spot)
      → ((ys : List ℤ) (ns : List ℕ) → IsNotAfter s old ys ns → IsNotAfter s (Some new) ys ns) → ((ys : List ℤ) → IsMember (zone_of s cell t) ys → IsNotAfter s (Some new) ys (take s.shape.texts cell.texts))
      → ((u : Table) (ys : List ℤ) → Contains (tables_at s cell) u → IsMember (zone_of s cell u) ys → IsNotAfter s old ys (take s.shape.texts cell.texts) ⊎ Contains list u)
      → (u : Table) (ys : List ℤ) → Contains (tables_at s cell) u → IsMember (zone_of s cell u) ys → IsNotAfter s (Some new) ys (take s.shape.texts cell.texts) ⊎ Contains rest u
  after_more t rest list e old new kept here after u ys h k = elim (after u ys h k) [
    | inl n ↦ inl (kept ys (take s.shape.texts cell.texts) n)
    | inr c ↦ by_place (subst (λ l. Contains l u) e c)
  ]
    where
      by_place : Contains (t ∷ rest) u → IsNotAfter s (Some new) ys (take s.shape.texts cell.texts) ⊎ Contains rest u
      by_place (zero, l, q) = inl (here ys (subst (λ v. IsMember (zone_of s cell v) ys) (sym q) k))
      by_place (suc n, l, q) = inr (n, omega arith, q)

  -- with no zone to come, no tuple of the cell is before what was found
  pub cell_done : (found : Option Spot) → ((u : Table) (ys : List ℤ) → Contains (tables_at s cell) u → IsMember (zone_of s cell u) ys → IsNotAfter s found ys (take s.shape.texts cell.texts) ⊎ Contains [] u)
      → (ys : List ℤ) (ns : List ℕ) → InCell s cell ys ns → IsNotAfter s found ys ns
  cell_done found after ys ns h = elim (after h.table ys h.held h.inside) [
    | inl n ↦ subst (IsNotAfter s found ys) h.named n
    | inr c ↦ let l : c.0 < 0 = c.1 in absurd (omega arith)
  ]

module _ (s : StoreView) (is : IsStore s) where
  -- after one more cell
  pub cells_more : (cell : Cell) (rest list : List Cell) → list ≡ cell ∷ rest → (old new : Option Spot)
      → ((ys : List ℤ) (ns : List ℕ) → IsNotAfter s old ys ns → IsNotAfter s new ys ns) → ((ys : List ℤ) (ns : List ℕ) → InCell s cell ys ns → IsNotAfter s new ys ns)
      → ((ys : List ℤ) (ns : List ℕ) → (h : InStore s ys ns) → IsNotAfter s old ys ns ⊎ Contains list h.cell) → (ys : List ℤ) (ns : List ℕ) → (h : InStore s ys ns) → IsNotAfter s new ys ns ⊎ Contains rest h.cell
  cells_more cell rest list e old new kept here after ys ns h = elim (after ys ns h) [
    | inl n ↦ inl (kept ys ns n)
    | inr c ↦ by_place (subst (λ l. Contains l h.cell) e c)
  ]
    where
      by_place : Contains (cell ∷ rest) h.cell → IsNotAfter s new ys ns ⊎ Contains rest h.cell
      by_place (zero, l, q) = inl (here ys ns (record { table = h.table; held = subst (λ d. Contains (tables_at s d) h.table) (sym q) h.held; named = ap (λ d. take s.shape.texts d.texts) q ∙ h.named; inside = subst (λ d. IsMember (zone_of s d h.table) ys) (sym q) h.inside }))
      by_place (suc n, l, q) = inr (n, omega arith, q)

  -- with no cell to come, nothing is before what was found
  pub store_done : (found : Option Spot) → ((ys : List ℤ) (ns : List ℕ) → (h : InStore s ys ns) → IsNotAfter s found ys ns ⊎ Contains [] h.cell) → (ys : List ℤ) (ns : List ℕ) → InStore s ys ns → IsNotAfter s found ys ns
  store_done found after ys ns h = elim (after ys ns h) [
    | inl n ↦ n
    | inr c ↦ let l : c.0 < 0 = c.1 in absurd (omega arith)
  ]

-- the same in the forms of a call's clauses
pub done_none : (s : StoreView) (found : Option Spot) → ((ys : List ℤ) (ns : List ℕ) → InStore s ys ns → IsNotAfter s found ys ns) → IfNone found ((ys : List ℤ) (ns : List ℕ) → InStore s ys ns → ⊥)
done_none s None h = h
done_none s (Some spot) h = tt

pub done_some : (s : StoreView) (found : Option Spot) → ((ys : List ℤ) (ns : List ℕ) → InStore s ys ns → IsNotAfter s found ys ns) → IfSome found (λ spot. (ys : List ℤ) (ns : List ℕ) → InStore s ys ns → IsNotAfter s (Some spot) ys ns)
done_some s None h = tt
done_some s (Some spot) h = h
