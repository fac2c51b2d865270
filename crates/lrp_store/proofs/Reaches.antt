-- The reach of a store, table by table.
use Rattle.std.proofs.Common.{◌≡◌, ◌⊎◌, inl, inr, ⊎_elim, ℕ, suc, ◌+◌, ◌<◌, ◌≤◌, ◌==◌, Bool, true, false, List, [], ◌∷◌, length, map, Contains, Option, Some, sym, ap, subst, arith, unwrap_or}
use Rattle.std.specs.Prelude.{ℤ, All, nat_abs, if◌then◌else◌}
use Rattle.std.specs.FinMap as finite
use Rattle.std.specs.List.{range_with_len}
use Rattle.std.proofs.lemmas.List.Elements.{All-contains}
use Rattle.lrp_model.specs.declared.tuples.Cell.{Cell}
use Rattle.lrp_model.specs.declared.relations.Bound.{Bound}
use Rattle.lrp_model.proofs.Decided.{cons_cases, contains_none}
use Rattle.lrp_zone.specs.Zones.{magnitude_of, greatest_of}
use Rattle.lrp_zone.specs.Given.{bound_at}
use Rattle.lrp_theory.proofs.Members.{below_or, from_map}
use Rattle.lrp_store.specs.declared.stored.Entry.{Entry}
use Rattle.lrp_store.specs.Reaching.{AreTablesWithin}
use Rattle.lrp_store.specs.Stored.{bounds_of, listed_at, table_of, table_place}
use Rattle.lrp_store.specs.Stores.{StoreView, HasReach, tables_at}
use Rattle.lrp_store.proofs.Held.{Table}
use Rattle.lrp_store.proofs.ZoneCounts.{key_is}

-- ---- what holds of all of a list, seen one after another

-- each of the list that is not left is seen to be so
pub record AreSeen {X : Type 0} (Q : X → Type 0) (all left : List X) : Type 0 where
  pub each : (x : X) → Contains all x → Contains left x ⊎ Q x

pub seen_none : {X : Type 0} (Q : X → Type 0) (all left : List X) → left ≡ all → AreSeen Q all left
seen_none Q all left e = record { each = λ x k. inl (subst (λ xs. Contains xs x) (sym e) k) }

pub seen_more : {X : Type 0} (Q : X → Type 0) (all left rest : List X) (first : X) → left ≡ first ∷ rest → AreSeen Q all left → Q first → AreSeen Q all rest
seen_more Q all left rest first e so own = record {
  each = λ x k. ⊎_elim
      (λ l. ⊎_elim (λ same. inr (subst Q same own)) (λ r. inl r) (cons_cases first x rest (subst (λ xs. Contains xs x) e l)))
      (λ d. inr d)
      (so.each x k);
}

pub seen_all : {X : Type 0} (Q : X → Type 0) (all left : List X) → left ≡ [] → AreSeen Q all left → (x : X) → Contains all x → Q x
seen_all Q all left e so x k = ⊎_elim (λ l. absurd (contains_none x (subst (λ xs. Contains xs x) e l))) (λ d. d) (so.each x k)

-- ---- the bounds of a table

-- the first n of the bounds have at most this magnitude
pub record AreSmall (reach : ℕ) (bs : List Bound) (n : ℕ) : Type 0 where
  pub each : (i : ℕ) → i < n → nat_abs (bound_at bs i).most ≤ reach

-- one more has it
pub small_more : (reach : ℕ) (entries : List Entry) (n : ℕ) → AreSmall reach (bounds_of entries) n → nat_abs (bound_at (bounds_of entries) n).most ≤ reach → AreSmall reach (bounds_of entries) (n + 1)
small_more reach entries n small own = record {
  each = λ i l. elim (below_or i n) [
    | inl a ↦ small.each i a
    | inr b ↦ (let e : i ≡ n = omega arith in subst (λ j. nat_abs (bound_at (bounds_of entries) j).most ≤ reach) (sym e) own)
  ];
}

-- where all have, the one that is listed for a place has
listed_small : (reach : ℕ) (bs : List Bound) → AreSmall reach bs (length bs) → (place : ℕ) → magnitude_of (listed_at bs place) ≤ reach
listed_small reach [] small place = omega arith
listed_small reach (b ∷ bs) small place = first (listed_small reach bs (record { each = λ i l. small.each (suc i) (omega (arith, l)) }) place) (table_place b == place)
  where
    first : magnitude_of (listed_at bs place) ≤ reach → (same : Bool) → magnitude_of (if same then Some b.most else listed_at bs place) ≤ reach
    first later true = small.each 0 (omega arith)
    first later false = later

-- and so has each of a table of such
greatest_small : (reach : ℕ) (f : ℕ → Option ℤ) → ((place : ℕ) → magnitude_of (f place) ≤ reach) → (places : List ℕ) → greatest_of (map f places) ≤ reach
greatest_small reach f small [] = omega arith
greatest_small reach f small (p ∷ ps) = let first = small p in let rest = greatest_small reach f small ps in omega (arith, first, rest)

-- the greatest magnitude of the table
pub table_small : (reach : ℕ) (bs : List Bound) → AreSmall reach bs (length bs) → greatest_of (table_of bs) ≤ reach
unfolding table_of
table_small reach bs small = greatest_small reach (listed_at bs) (listed_small reach bs small) (range_with_len 0 81)

-- ---- the tables of all cells

-- the tables of a cell have at most this reach
abbrev pub IsListWithin : ℕ → (Cell × List Table) → Type 0
IsListWithin reach entry = AreTablesWithin reach entry.1

pub all_within : (s : StoreView) (reach : ℕ) (lists : List (Cell × List Table)) → lists ≡ finite.entries s.tables → All (λ e. finite.get s.tables e.0 ≡ Some e.1) lists → ((entry : Cell × List Table) → Contains lists entry → IsListWithin reach entry) → HasReach s reach
all_within s reach lists all found each = record { each = λ cell t k. of cell t k (from_map (λ e. e.0) lists cell (subst (λ l. Contains (map (λ e. e.0) l) cell) (sym all) (key_is s cell t k))) }
  where
    of : (cell : Cell) (t : Table) → Contains (tables_at s cell) t → (entry : Cell × List Table) × Contains lists entry × (entry.0 ≡ cell) → greatest_of t ≤ reach
    of cell t k entry =
        let held : finite.get s.tables cell ≡ Some entry.0.1 = subst (λ c. finite.get s.tables c ≡ Some entry.0.1) entry.2 (All-contains (λ e. finite.get s.tables e.0 ≡ Some e.1) lists entry.0 found entry.1) in
        each entry.0 entry.1 t (subst (λ ts. Contains ts t) (ap (λ o. unwrap_or o []) held) k)
