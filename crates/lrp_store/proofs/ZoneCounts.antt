-- The cells of a store differ, each has a zone, and the zones are counted cell by cell.
use Rattle.std.proofs.Common.{◌≡◌, ◌≢◌, inl, inr, ◌≤◌, ◌+◌, ℕ, zero, suc, List, [], ◌∷◌, length, map, Option, Some, Bool, true, false, cond, unwrap_or, Contains, refl, sym, ap, ap₂, subst, ◌∙◌, arith}
use Rattle.std.specs.Prelude.{ℤ, AllPairs, is_some, sum_by}
use Rattle.std.specs.Bool.{Decides}
use Rattle.std.specs.FinMap as finite
use Rattle.std.specs.FinMap.{contains_key-keys, entries, find, get-entries, len-entries}
use Rattle.std.specs.Ordering.{eq_by_cmp, is_eq}
use Rattle.std.proofs.lemmas.Cmp.{tied_itself}
use Rattle.std.proofs.lemmas.List.{length-map}
use Rattle.std.proofs.lemmas.List.Sums.{sum_by-cons}
use Rattle.std.proofs.lemmas.Map.Keys.{IsDistinct-from_sorted}
use Rattle.std.proofs.lemmas.Map.Made.{AllPairs-from_IsDistinct}
use Rattle.std.proofs.lemmas.Map.Views.{Contains-from_any}
use Rattle.lrp_model.specs.declared.tuples.Cell.{Cell}
use Rattle.lrp_model.proofs.Decided.{cons_cases, contains_first, contains_later, contains_none}
use Rattle.lrp_zone.specs.Zones.{ZoneView}
use Rattle.lrp_slots.specs.Lists.{cell_cmp}
use Rattle.lrp_slots.proofs.Copying.{keys_ascend}
use Rattle.lrp_slots.proofs.Tables.{cells_total, same_cell}
use Rattle.lrp_store.specs.Stores.{StoreView, IsStore, tables_at, zone_count, zone_of, zones_at}
use Rattle.lrp_store.proofs.Counted.{key_held}
use Rattle.lrp_store.proofs.Held.{cell_or, held_of}

-- ---- the cells of a store

pub is_decided : (c d : Cell) → Decides (eq_by_cmp cell_cmp c d) (c ≡ d)
is_decided c d = elim (cell_or c d) [
  | inl e ↦ ((λ h. e.0), λ h. e.1)
  | inr e ↦ ((λ h. same_cell c d h), λ h. absurd (e.0 h))
]

-- they differ
pub keys_differ : (s : StoreView) → AllPairs ◌≢◌ (finite.keys s.tables)
keys_differ s = AllPairs-from_IsDistinct is_decided (finite.keys s.tables) (IsDistinct-from_sorted cell_cmp (finite.keys s.tables) (keys_ascend s.tables))

pub first_differs : (c : Cell) (cs : List Cell) → AllPairs ◌≢◌ (c ∷ cs) → (d : Cell) → Contains cs d → d ≢ c
first_differs c cs h d k e = h zero (suc k.0) d (omega arith) (omega (arith, k.1)) (sym (k.2 ∙ e))

pub rest_differ : (c : Cell) (cs : List Cell) → AllPairs ◌≢◌ (c ∷ cs) → AllPairs ◌≢◌ cs
rest_differ c cs h i j d lt below = h (suc i) (suc j) d (omega arith) (omega arith)

-- a cell with a zone is one of them
pub key_is : (s : StoreView) (cell : Cell) (t : List (Option ℤ)) → Contains (tables_at s cell) t → Contains (finite.keys s.tables) cell
key_is s cell t c = Contains-from_any same_cell cell (finite.keys s.tables) (sym (contains_key-keys s.tables cell) ∙ ap is_some (held_of s.tables cell t c))

-- and each of them has one
key_table : (s : StoreView) → IsStore s → (cell : Cell) → Contains (finite.keys s.tables) cell → (t : List (Option ℤ)) × (ts : List (List (Option ℤ))) × (tables_at s cell ≡ t ∷ ts)
key_table s is cell k = let h = key_held s is (λ xs ns. Unit {0}) 0 cell k in some h.0 h.1
  where
    some : (ts : List (List (Option ℤ))) → finite.get s.tables cell ≡ Some ts → (t : List (Option ℤ)) × (us : List (List (Option ℤ))) × (tables_at s cell ≡ t ∷ us)
    some [] e = absurd ((is.cells cell [] e).some refl)
    some (t ∷ ts) e = (t, ts, ap (λ o. unwrap_or o []) e)

pub key_zone : (s : StoreView) → IsStore s → (cell : Cell) → Contains (finite.keys s.tables) cell → (z : ZoneView) × Contains (zones_at s cell) z
key_zone s is cell k =
    let h = key_table s is cell k in
    (zone_of s cell h.0, subst (λ l. Contains (map (zone_of s cell) l) (zone_of s cell h.0)) (sym h.2) (contains_first (zone_of s cell h.0) (map (zone_of s cell) h.1)))

key_some : (s : StoreView) → IsStore s → (cell : Cell) → Contains (finite.keys s.tables) cell → 1 ≤ length (tables_at s cell)
key_some s is cell k = let h = key_table s is cell k in subst (λ l. 1 ≤ length l) (sym h.2) (let n : 1 ≤ suc (length h.1) = omega arith in n)

-- ---- sums of numbers that are not zero

module _ {X : Type 0} (f : X → ℕ) where
  at_least : (xs : List X) → ((x : X) → Contains xs x → 1 ≤ f x) → length xs ≤ sum_by f xs
  at_least [] some = omega arith
  at_least (x ∷ xs) some =
      let one : 1 ≤ f x = some x (contains_first x xs) in
      let rest : length xs ≤ sum_by f xs = at_least xs (λ y c. some y (contains_later x y xs c)) in
      omega (arith, sum_by-cons f x xs)

  at_most : (xs : List X) → ((x : X) → Contains xs x → 1 ≤ f x) → (x : X) → Contains xs x → f x + length xs ≤ sum_by f xs + 1
  at_most [] some x c = absurd (contains_none x c)
  at_most (y ∷ ys) some x c = elim (cons_cases y x ys c) [
    | inl e ↦ (let rest : length ys ≤ sum_by f ys = at_least ys (λ z d. some z (contains_later y z ys d)) in
        let same : f y ≡ f x = ap f e in omega (arith, sum_by-cons f y ys))
    | inr d ↦ (let one : 1 ≤ f y = some y (contains_first y ys) in
        let rest : f x + length ys ≤ sum_by f ys + 1 = at_most ys (λ z k. some z (contains_later y z ys k)) x d in
        omega (arith, sum_by-cons f y ys))
  ]

  -- where they come to no more than there are numbers, each is one
  single : (xs : List X) → ((x : X) → Contains xs x → 1 ≤ f x) → sum_by f xs ≡ length xs → (x : X) → Contains xs x → f x ≤ 1
  single xs some e x c = let m : f x + length xs ≤ sum_by f xs + 1 = at_most xs some x c in omega (arith, e)

-- ---- the zones of all cells

same_sum : {X : Type 0} (f g : X → ℕ) (xs : List X) → ((x : X) → Contains xs x → f x ≡ g x) → sum_by f xs ≡ sum_by g xs
same_sum f g [] h = refl
same_sum f g (x ∷ xs) h = sum_by-cons f x xs ∙ ap₂ (λ m n. m + n) (h x (contains_first x xs)) (same_sum f g xs (λ y c. h y (contains_later x y xs c))) ∙ sym (sum_by-cons g x xs)

module _ {V : Type 0} where
  abbrev size_in : List (Cell × List V) → Cell → ℕ
  size_in es k = length (unwrap_or (find cell_cmp k es) [])

  elsewhere : (e : Cell × List V) (es : List (Cell × List V)) (k : Cell) → k ≢ e.0 → size_in (e ∷ es) k ≡ size_in es k
  elsewhere e es k apart = by (eq_by_cmp cell_cmp k e.0) refl
    where
      by : (b : Bool) → eq_by_cmp cell_cmp k e.0 ≡ b → length (unwrap_or (cond (eq_by_cmp cell_cmp k e.0) (Some e.1) (find cell_cmp k es)) []) ≡ size_in es k
      by true t = absurd (apart (same_cell k e.0 t))
      by false t = ap (λ b. length (unwrap_or (cond b (Some e.1) (find cell_cmp k es)) [])) t

  sizes : (es : List (Cell × List V)) → AllPairs ◌≢◌ (map (λ f. f.0) es) → sum_by (size_in es) (map (λ f. f.0) es) ≡ sum_by (λ vs. length vs) (map (λ f. f.1) es)
  sizes [] apart = refl
  sizes (e ∷ es) apart =
      sum_by-cons (size_in (e ∷ es)) e.0 (map (λ f. f.0) es)
      ∙ ap₂ (λ m n. m + n) (ap (λ b. length (unwrap_or (cond b (Some e.1) (find cell_cmp e.0 es)) [])) (ap is_eq (tied_itself cells_total e.0)))
      (same_sum (size_in (e ∷ es)) (size_in es) (map (λ f. f.0) es) (λ k c. elsewhere e es k (first_differs e.0 (map (λ f. f.0) es) apart k c)) ∙ sizes es (rest_differ e.0 (map (λ f. f.0) es) apart))
      ∙ sym (sum_by-cons (λ vs. length vs) e.1 (map (λ f. f.1) es))

-- all zones are those of all cells
pub zones_by_cells : (s : StoreView) → sum_by (λ k. length (tables_at s k)) (finite.keys s.tables) ≡ zone_count s
zones_by_cells s = same_sum (λ k. length (tables_at s k)) (size_in (entries s.tables)) (finite.keys s.tables) (λ k c. ap (λ o. length (unwrap_or o [])) (get-entries s.tables k)) ∙ sizes (entries s.tables) (keys_differ s)

-- a store with as many zones as cells has one in each
pub single_zones : (s : StoreView) → IsStore s → zone_count s ≡ finite.len s.tables → (cell : Cell) → length (tables_at s cell) ≤ 1
single_zones s is e cell = by (tables_at s cell) refl
  where
    counted : length (finite.keys s.tables) ≡ finite.len s.tables
    counted = length-map (entries s.tables) (λ e. e.0) ∙ sym (len-entries s.tables)

    by : (ts : List (List (Option ℤ))) → tables_at s cell ≡ ts → length (tables_at s cell) ≤ 1
    by [] none = rw none (omega arith)
    by (t ∷ ts) first = single (λ k. length (tables_at s k)) (finite.keys s.tables) (key_some s is) (zones_by_cells s ∙ e ∙ sym counted) cell (key_is s cell t (subst (λ l. Contains l t) (sym first) (contains_first t ts)))
