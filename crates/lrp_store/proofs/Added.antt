-- What a call that adds one zone says of its tuples.
use Rattle.std.proofs.Common.{◌≡◌, ℕ, ◌+◌, ◌*◌, ◌<◌, ◌≤◌, List, [], ◌∷◌, ◌++◌, length, replicate, take, Bool, true, false, inl, inr, Option, ◌^◌, Some, None, Result, Ok, Err, OnOk, OnErr, IsSome, ◌↔◌, refl, sym, ap, subst, ◌∙◌, arith, Contains}
use Rattle.std.specs.Prelude.{ℤ, pos, slice_get, ◌-ℤ◌, IsTrue}
use Rattle.std.proofs.lemmas.Bool.{cases_lt}
use Rattle.std.specs.FinMap as finite
use Rattle.std.specs.FinMap.{get, len}
use Rattle.std.proofs.lemmas.List.{get_or-replicate, length-replicate, length-take-le}
use Rattle.lrp_theory.specs.Bounds.{Within}
use Rattle.lrp_theory.specs.Entries.{entry, node}
use Rattle.lrp_model.specs.declared.tuples.Cell.{Cell}
use Rattle.lrp_zone.specs.Zones.{ZoneView, IsZone, IsShape, IsTight, IsMember, IsResidue, greatest_of}
use Rattle.lrp_zone.specs.Pairs.{IsWithin}
use Rattle.lrp_zone.proofs.Members.{member_of_solution}
use Rattle.lrp_zone.proofs.Tables.{empty_free}
use Rattle.lrp_store.specs.Stores.{StoreView, IsStore, IsCellOf, IsPadded, InStore, zone_of, tables_at}
use Rattle.lrp_store.specs.Growing.{IsGrown, IsAdded, IsRefused, IsTupleOf, IsWhole}
use Rattle.lrp_store.specs.declared.store.StoreFault.{StoreFault}
use Rattle.lrp_store.specs.declared.store.StoreFault.TheVariants.{TooManyCells}
use Rattle.lrp_store.proofs.Held.{Table, Tables, node_take, zone_held, held_of, appended, Contains-from_get}
use Rattle.lrp_store.proofs.Grown.{Set, grown_same, grown_by, holds_new, inhabited_by, added, refused}

module _ (s : StoreView) (is : IsStore s) (c : Cell) (z : ZoneView) where
  -- the tuples of the zone, with the texts of the cell
  abbrev pub tuples : Set
  tuples = IsTupleOf z (take s.shape.texts c.texts)

  -- all are held where the zone lies within one of the cell
  pub held_within : (t : Table) → Contains (tables_at s c) t → (w : ZoneView) → w ≡ zone_of s c t → IsWithin z w → IsWhole tuples s
  held_within t h w e within = record {
    each = λ xs ns i. record { cell = c; table = t; held = h; named = i.same; inside = subst (λ v. IsMember v xs) e (within.each xs i.member) };
  }

  module _ {T : Type 0} (zone : IsZone z) (period : z.period ≡ s.period) (residues : z.residues ≡ take s.shape.times c.residues) (texts : IsPadded 0 s.shape.texts c.texts) (times : IsPadded (pos 0) s.shape.times c.residues)
      (cap : ℕ) (new : StoreView) (valid : IsStore new) (rest : new ≡ record s { tables = new.tables; spare = new.spare }) (r : Result T StoreFault) (exact : (r ≡ Err TooManyCells) ↔ ((get s.tables c ≡ None) × (cap ≤ len s.tables))) where
    -- each tuple of the zone is one of the set
    of : (xs : List ℤ) → IsMember z xs → tuples xs (take s.shape.texts c.texts)
    of xs m = record { member = m; same = refl }

    -- on success all were added
    pub zone_added : OnOk r (new.tables ≡ finite.insert s.tables c (tables_at s c ++ z.bounds ∷ [])) → OnOk r (IsAdded tuples cap (greatest_of z.bounds) s new)
    zone_added ok = by_result r (added s is c z zone period residues texts times cap (greatest_of z.bounds) tuples of (omega arith) new valid rest r exact ok)
      where
        by_result : (o : Result T StoreFault) → OnOk o (IsGrown tuples cap (greatest_of z.bounds) s new × ((xs : List ℤ) → IsMember z xs → InStore new xs (take s.shape.texts c.texts))) → OnOk o (IsAdded tuples cap (greatest_of z.bounds) s new)
        by_result (Ok x) h = record { grown = h.0; whole = record { each = λ xs ns i. subst (InStore new xs) i.same (h.1 xs i.member) } }
        by_result (Err x) h = tt

    -- on a refusal the cell is one too many
    pub zone_refused : OnErr r (new.tables ≡ s.tables) → r ≡ Err TooManyCells → IsRefused tuples cap (greatest_of z.bounds) s new
    zone_refused err e = refused s is c z zone period residues texts times cap (greatest_of z.bounds) tuples of (omega arith) new valid rest r exact err e

  -- where no fault tells of a cap, all were added on success
  pub zone_put : {T E : Type 0} → IsZone z → z.period ≡ s.period → z.residues ≡ take s.shape.times c.residues → IsPadded 0 s.shape.texts c.texts → IsPadded (pos 0) s.shape.times c.residues
      → (cap : ℕ) (new : StoreView) → IsStore new → new ≡ record s { tables = new.tables; spare = new.spare } → (r : Result T E) → OnOk r ((get s.tables c ≡ None) × (cap ≤ len s.tables) → ⊥)
      → OnOk r (new.tables ≡ finite.insert s.tables c (tables_at s c ++ z.bounds ∷ [])) → OnOk r (IsAdded tuples cap (greatest_of z.bounds) s new)
  zone_put zone period residues texts times cap new valid rest (Ok x) room ok = zone_added zone period residues texts times cap new valid rest (Ok x) ((λ e. absurd cc), (λ m. absurd (room m))) ok
  zone_put zone period residues texts times cap new valid rest (Err x) room ok = tt

-- the zone of a cell without bounds
module _ (s : StoreView) (is : IsStore s) (c : Cell) (proper : IsCellOf s.shape s.period c) where
  -- no bound stands at any place
  none_at : (i j : ℕ) → i < 9 → j < 9 → entry (replicate 81 None) i j ≡ None
  none_at i j il jl = let small : 9 * i + j < 81 = omega arith in get_or-replicate 81 (9 * i + j) None None small

  -- the columns are the times
  columns : length (take s.shape.times c.residues) ≡ s.shape.times
  columns = length-take-le s.shape.times c.residues (let t : s.shape.times ≤ 8 = is.times in let l : length c.residues ≡ 8 = proper.residues.size in omega arith)

  -- its parts
  free_shape : IsShape (zone_of s c (replicate 81 None))
  free_shape =
      let n : length (take s.shape.times c.residues) ≡ s.shape.times = columns in
      let t : s.shape.times ≤ 8 = is.times in record {
        period_low = is.period_low;
        period_high = is.period_high;
        columns = omega arith;
        residues = λ i h. subst (λ r. IsResidue s.period r) (sym (node_take s.shape.times c.residues i (omega arith))) (proper.range i (omega arith));
        tight = λ i j il jl. subst (λ b. IsTight (pos s.period) (node (take s.shape.times c.residues) i -ℤ node (take s.shape.times c.residues) j) b) (sym (none_at i j (omega arith) (omega arith))) tt;
        diagonal = λ i il. none_at i i (omega arith) (omega arith);
        outside = empty_free _ (replicate 81 None) refl;
      }

  -- it is a zone
  pub free_zone : IsZone (zone_of s c (replicate 81 None))
  free_zone =
      let n : length (take s.shape.times c.residues) ≡ s.shape.times = columns in
      let t : s.shape.times ≤ 8 = is.times in record {
        shape = free_shape;
        size = length-replicate {A = Option ℤ} 81 None;
        some = member_of_solution (zone_of s c (replicate 81 None)) free_shape (λ i. pos 0) (λ i j il jl. subst (λ b. Within (pos 0 -ℤ pos 0) b) (sym (none_at i j (omega arith) (omega arith))) tt);
      }

  -- its tuples with the cell's texts
  abbrev pub all : Set
  all = tuples s is c (zone_of s c (replicate 81 None))

  -- they were added
  pub free_added : (t : Table) → t ≡ replicate 81 None → (m : Tables) → m ≡ finite.insert s.tables c (tables_at s c ++ t ∷ []) → (cap n : ℕ) → cap < 2 ^ 32 → (get s.tables c ≡ None → len s.tables < cap) → IsAdded all cap 0 s (record { shape = s.shape; period = s.period; tables = m; spare = n })
  free_added t et m em cap n low room =
      let e : m ≡ finite.insert s.tables c (tables_at s c ++ replicate 81 None ∷ []) = em ∙ ap (λ u. finite.insert s.tables c (tables_at s c ++ u ∷ [])) et in
      subst (λ k. IsAdded all cap 0 s (record s { tables = k; spare = n })) (sym e) (record {
        grown = grown_by s is c (zone_of s c (replicate 81 None)) free_zone refl refl proper n cap 0 all (λ xs i. record { member = i; same = refl }) room (omega arith)
            (appended s s refl is c (zone_of s c (replicate 81 None)) free_zone refl refl proper.texts proper.residues (replicate 81 None) refl _ refl cap n low room);
        whole = record { each = λ xs ns i. subst (InStore (record s { tables = finite.insert s.tables c (tables_at s c ++ replicate 81 None ∷ []); spare = n }) xs) i.same (holds_new s is c (zone_of s c (replicate 81 None)) free_zone refl refl proper n xs i.member) };
      })

  -- the cell is one too many
  pub free_refused : (cap : ℕ) → get s.tables c ≡ None → cap ≤ len s.tables → IsRefused all cap 0 s s
  free_refused cap none full = record {
    grown = grown_same cap 0 all s is;
    more = record { cell = c; inhabited = inhabited_by s is c (zone_of s c (replicate 81 None)) free_zone refl refl proper s.spare all (λ xs i. record { member = i; same = refl }); apart = none; full = full };
  }

-- a cell that is not one too many has room
pub room_left : (s now : StoreView) → s ≡ now → (c : Cell) (cap : ℕ) (b : Bool) → IsTrue b ↔ ((get now.tables c ≡ None) × (cap ≤ len now.tables)) → b ≡ false → get s.tables c ≡ None → len s.tables < cap
room_left s now e c cap b both isnt none = elim (cases_lt (len s.tables) cap) [
  | inl low ↦ low
  | inr high ↦ let yes : b ≡ true = both.1 (ap (λ (v : StoreView). get v.tables c) (sym e) ∙ none, subst (λ (v : StoreView). cap ≤ len v.tables) e high) in cc
]

-- a store as it is seen has all tuples of a zone where one of its zones has
pub seen_within : (s now : StoreView) → s ≡ now → (is : IsStore now) → (c : Cell) (i : ℕ) (t : Table) (z : ZoneView) → z.period ≡ now.period → z.residues ≡ take now.shape.times c.residues → Some t ≡ slice_get (tables_at s c) i
    → (IsWithin z (record z { bounds = t })) → IsWhole (tuples now is c z) now
seen_within s now e is c i t z ep er at within =
    held_within now is c z t (Contains-from_get (tables_at now c) i t (ap (λ v. slice_get (tables_at v c) i) (sym e) ∙ sym at)) (record z { bounds = t })
    (ap (λ k. record { period = k; residues = z.residues; bounds = t }) ep ∙ ap (λ rs. record { period = now.period; residues = rs; bounds = t }) er) within

-- and that one is a zone of the cell
pub seen_zone : (s now : StoreView) → s ≡ now → IsStore now → (c : Cell) (i : ℕ) (t : Table) (z : ZoneView) → z.period ≡ now.period → z.residues ≡ take now.shape.times c.residues → Some t ≡ slice_get (tables_at s c) i → IsZone (record z { bounds = t })
seen_zone s now e is c i t z ep er at =
    subst (λ w. IsZone w) (sym (ap (λ k. record { period = k; residues = z.residues; bounds = t }) ep ∙ ap (λ rs. record { period = now.period; residues = rs; bounds = t }) er))
    (zone_held now is c t (Contains-from_get (tables_at now c) i t (ap (λ v. slice_get (tables_at v c) i) (sym e) ∙ sym at)))

-- and the cell is held
pub cell_seen : (s now : StoreView) → s ≡ now → (c : Cell) (i : ℕ) (t : Table) → Some t ≡ slice_get (tables_at s c) i → IsSome (get now.tables c)
cell_seen s now e c i t at = subst (λ (v : StoreView). IsSome (get v.tables c)) e (subst (λ o. IsSome o) (sym (held_of s.tables c t (Contains-from_get (tables_at s c) i t (sym at)))) refl)
