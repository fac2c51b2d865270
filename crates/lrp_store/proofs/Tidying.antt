-- Zones that lie within another one are dropped from a list, one after the other.
use Rattle.std.proofs.Common.{◌≡◌, ◌≢◌, ℕ, zero, suc, ◌+◌, ◌-◌, ◌<◌, ◌≤◌, ◌⊎◌, inl, inr, List, [], ◌∷◌, Contains, length, take, drop, Option, Some, None, option_map, OnSome, cond, ltb, refl, sym, ap, subst, ◌∙◌, arith, get_or}
use Rattle.std.specs.Prelude.{slice_get, slice_index_or}
use Rattle.std.specs.List.{remove}
use Rattle.std.specs.FinMap as finite
use Rattle.std.proofs.lemmas.Bool.{cases_lt, cases_eq, lt-ltb, le-ltb}
use Rattle.std.proofs.lemmas.List.{length-append, length-take-le, length-drop, get_or_append_left, get_or-append_right, get_or-take, get_or-drop, drop_more}
use Rattle.std.proofs.lemmas.Option.{slice_get-map, slice_get-get_or}
use Rattle.lrp_model.specs.declared.tuples.Cell.{Cell}
use Rattle.lrp_slots.specs.Lists.{set_list, list_at}
use Rattle.lrp_zone.specs.Zones.{ZoneView}
use Rattle.lrp_zone.specs.Pairs.{IsWithin, IsOfCell}
use Rattle.lrp_store.specs.Stores.{StoreView, zone_of, tables_at, zones_at}
use Rattle.lrp_store.specs.Tidied.{nth_zone, IsCovered}
use Rattle.lrp_store.proofs.Held.{Table, get_set, list_set, Contains-from_get}
use Rattle.lrp_store.proofs.Aligning.{zone_read}

-- the old number of the element k once the element i is gone
abbrev pub skip : ℕ → ℕ → ℕ
skip i k = cond (ltb k i) k (suc k)

-- an element before i keeps its number, and one after it has the next
skip_or : (i k : ℕ) → ((k < i) × (skip i k ≡ k)) ⊎ ((i ≤ k) × (skip i k ≡ suc k))
skip_or i k = elim (cases_lt k i) [
  | inl less ↦ inl (less, ap (λ b. cond b k (suc k)) (lt-ltb k i less))
  | inr more ↦ inr (more, ap (λ b. cond b k (suc k)) (le-ltb k i more))
]

-- each element but i has a new number
unskip : (i j : ℕ) → j ≢ i → (k : ℕ) × (skip i k ≡ j) × (((k ≡ j) × (j < i)) ⊎ ((suc k ≡ j) × (i < j)))
unskip i j apart = elim (cases_lt j i) [
  | inl less ↦ (j, ap (λ b. cond b j (suc j)) (lt-ltb j i less), inl (refl, less))
  | inr more ↦ after i j apart more
]
  where
    after : (i j : ℕ) → j ≢ i → i ≤ j → (k : ℕ) × (skip i k ≡ j) × (((k ≡ j) × (j < i)) ⊎ ((suc k ≡ j) × (i < j)))
    after i zero apart more = let e : zero ≡ i = omega arith in absurd (apart e)
    after i (suc j) apart more = let le : i ≤ j = omega arith in (j, ap (λ b. cond b j (suc j)) (le-ltb j i le), inr (refl, omega arith))

module _ {X : Type 0} (xs : List X) (i : ℕ) (low : i < length xs) where
  -- so many stand before i
  taken : length (take i xs) ≡ i
  taken = length-take-le i xs (omega arith)

  -- a list without an element is one shorter
  pub length-remove : length (remove xs i) + 1 ≡ length xs
  length-remove = let l : length (remove xs i) ≡ length (take i xs) + length (drop (suc i) xs) = length-append (take i xs) (drop (suc i) xs) in let t : length (take i xs) ≡ i = taken in let d : length (drop (suc i) xs) ≡ length xs - suc i = length-drop (suc i) xs in omega arith

  -- and its elements are the others
  pub get_or-remove : (k : ℕ) (d : X) → get_or (remove xs i) k d ≡ get_or xs (skip i k) d
  get_or-remove k d = elim (skip_or i k) [
    | inl e ↦ get_or_append_left (take i xs) (drop (suc i) xs) d k (let t : length (take i xs) ≡ i = taken in let l : k < i = e.0 in omega arith) ∙ get_or-take i xs k d e.0 ∙ ap (λ n. get_or xs n d) (sym e.1)
    | inr e ↦ get_or-append_right (take i xs) (drop (suc i) xs) i k d taken e.0 ∙ get_or-drop (suc i) xs (k - i) d ∙ ap (λ n. get_or xs n d) (let l : i ≤ k = e.0 in let s : skip i k ≡ suc k = e.1 in omega arith)
  ]

-- the same as when all is done, but only the first i are known to lie within no other
pub record IsTidiedTo (s : StoreView) (cell : Cell) (old new : List Table) (i : ℕ) : Type 0 where
  pub place : ℕ → ℕ
  pub rising : (a b : ℕ) → a < b → place a < place b
  pub inside : (k : ℕ) → k < length new → place k < length old
  pub same : (k : ℕ) → k < length new → slice_index_or new k [] ≡ slice_index_or old (place k) []
  pub covered : (k : ℕ) → k < length old → (m : ℕ) × (m < length new) × IsWithin (nth_zone s cell old k) (nth_zone s cell new m)
  pub apart : (a b : ℕ) → a < i → a < length new → b < length new → a ≢ b → IsWithin (nth_zone s cell new a) (nth_zone s cell new b) → ⊥

module _ (s : StoreView) (cell : Cell) (old : List Table) where
  -- a zone lies within itself
  within_itself : (z : ZoneView) → IsWithin z z
  within_itself z = record { each = λ xs m. m }

  -- and within what one that holds it lies within
  within_further : (v w z : ZoneView) → IsWithin v w → IsWithin w z → IsWithin v z
  within_further v w z f g = record { each = λ xs m. g.each xs (f.each xs m) }

  -- at the start nothing was looked at
  pub none_tidied : IsTidiedTo s cell old old 0
  none_tidied = record {
    place = λ k. k;
    rising = λ a b h. h;
    inside = λ k h. h;
    same = λ k h. refl;
    covered = λ k h. (k, h, within_itself _);
    apart = λ a b h. absurd (omega arith);
  }

  -- the zone i stays, since it lies within no other
  pub one_stays : (new : List Table) (i : ℕ) → IsTidiedTo s cell old new i → ((j : ℕ) → j < length new → j ≢ i → IsWithin (nth_zone s cell new i) (nth_zone s cell new j) → ⊥) → IsTidiedTo s cell old new (i + 1)
  one_stays new i t none = record {
    place = t.place;
    rising = t.rising;
    inside = t.inside;
    same = t.same;
    covered = t.covered;
    apart = λ a b low al bl other w. elim (cases_lt a i) [
      | inl less ↦ t.apart a b less al bl other w
      | inr more ↦ let e : a ≡ i = omega arith in none b bl (λ f. other (e ∙ sym f)) (subst (λ n. IsWithin (nth_zone s cell new n) (nth_zone s cell new b)) e w)
    ];
  }

  -- the zone i goes, since it lies within another
  module _ (new : List Table) (i : ℕ) (low : i < length new) (t : IsTidiedTo s cell old new i) (j : ℕ) (jl : j < length new) (other : j ≢ i) (within : IsWithin (nth_zone s cell new i) (nth_zone s cell new j)) where
    shorter : length (remove new i) + 1 ≡ length new
    shorter = length-remove new i low

    skip_low : (k : ℕ) → k < length (remove new i) → skip i k < length new
    skip_low k h = let l : length (remove new i) + 1 ≡ length new = shorter in elim (skip_or i k) [ inl e ↦ (let f : skip i k ≡ k = e.1 in omega arith) | inr e ↦ (let f : skip i k ≡ suc k = e.1 in omega arith) ]

    zone_then : (k : ℕ) → nth_zone s cell (remove new i) k ≡ nth_zone s cell new (skip i k)
    zone_then k = ap (zone_of s cell) (get_or-remove new i low k [])

    skip_rises : (a b : ℕ) → a < b → skip i a < skip i b
    skip_rises a b h = elim (skip_or i a) [
      | inl e ↦ elim (skip_or i b) [
        | inl f ↦ (let g : skip i a ≡ a = e.1 in let k : skip i b ≡ b = f.1 in omega arith)
        | inr f ↦ (let g : skip i a ≡ a = e.1 in let k : skip i b ≡ suc b = f.1 in omega arith)
      ]
      | inr e ↦ elim (skip_or i b) [
        | inl f ↦ (let g : i ≤ a = e.0 in let k : b < i = f.0 in absurd (omega arith))
        | inr f ↦ (let g : skip i a ≡ suc a = e.1 in let k : skip i b ≡ suc b = f.1 in omega arith)
      ]
    ]

    left_of : (m : ℕ) → m < length new → m ≢ i → (k : ℕ) × (k < length (remove new i)) × (nth_zone s cell (remove new i) k ≡ nth_zone s cell new m)
    left_of m ml apart =
        let u = unskip i m apart in
        let l : length (remove new i) + 1 ≡ length new = shorter in
        (u.0, elim u.2 [ inl e ↦ (let a : u.0 ≡ m = e.0 in let b : m < i = e.1 in omega arith) | inr e ↦ (let a : suc u.0 ≡ m = e.0 in omega arith) ], zone_then u.0 ∙ ap (nth_zone s cell new) u.1)

    cover : (v : ZoneView) (m : ℕ) → m < length new → IsWithin v (nth_zone s cell new m) → (k : ℕ) × (k < length (remove new i)) × IsWithin v (nth_zone s cell (remove new i) k)
    cover v m ml w = elim (cases_eq m i) [
      | inl e ↦ let k = left_of j jl other in (k.0, k.1, subst (λ z. IsWithin v z) (sym k.2) (within_further v _ _ (subst (λ n. IsWithin v (nth_zone s cell new n)) e w) within))
      | inr apart ↦ let k = left_of m ml apart in (k.0, k.1, subst (λ z. IsWithin v z) (sym k.2) w)
    ]

    pub one_goes : IsTidiedTo s cell old (remove new i) i
    one_goes = record {
      place = λ k. t.place (skip i k);
      rising = λ a b h. t.rising (skip i a) (skip i b) (skip_rises a b h);
      inside = λ k h. t.inside (skip i k) (skip_low k h);
      same = λ k h. get_or-remove new i low k [] ∙ t.same (skip i k) (skip_low k h);
      covered = λ k h. let m = t.covered k h in cover (nth_zone s cell old k) m.0 m.1 m.2;
      apart = λ a b al ah bh apart w.
          t.apart (skip i a) (skip i b) (low_stays a al) (skip_low a ah) (skip_low b bh) (differ a b apart) (subst (λ z. IsWithin (nth_zone s cell new (skip i a)) z) (zone_then b) (subst (λ z. IsWithin z (nth_zone s cell (remove new i) b)) (zone_then a) w));
    }
      where
        low_stays : (a : ℕ) → a < i → skip i a < i
        low_stays a h = elim (skip_or i a) [ inl e ↦ (let f : skip i a ≡ a = e.1 in omega arith) | inr e ↦ (let f : i ≤ a = e.0 in absurd (omega arith)) ]

        differ : (a b : ℕ) → a ≢ b → skip i a ≢ skip i b
        differ a b apart e = elim (cases_lt a b) [
          | inl less ↦ let h : skip i a < skip i b = skip_rises a b less in absurd (omega arith)
          | inr more ↦ let less : b < a = omega arith in let h : skip i b < skip i a = skip_rises b a less in absurd (omega arith)
        ]

-- the zone that is read at a place
pub nth_is : (s : StoreView) (cell : Cell) (i : ℕ) (z : ZoneView) → i < length (tables_at s cell) → Some z ≡ slice_get (zones_at s cell) i → z ≡ nth_zone s cell (tables_at s cell) i
nth_is s cell i z low e = same_some _ _ (e ∙ slice_get-map (zone_of s cell) (tables_at s cell) i ∙ ap (option_map (zone_of s cell)) (slice_get-get_or (tables_at s cell) i [] low))
  where
    same_some : (a b : ZoneView) → Some a ≡ Some b → a ≡ b
    same_some a b e = cc

-- there is a zone at each place
pub nth_read : (s : StoreView) (cell : Cell) (i : ℕ) → i < length (tables_at s cell) → None ≡ slice_get (zones_at s cell) i → ⊥
nth_read s cell i low e = none_some _ (e ∙ slice_get-map (zone_of s cell) (tables_at s cell) i ∙ ap (option_map (zone_of s cell)) (slice_get-get_or (tables_at s cell) i [] low))
  where
    none_some : (a : ZoneView) → None ≡ Some a → ⊥
    none_some a e = cc

-- two zones of a cell are of that cell
pub of_one_cell : (s : StoreView) (cell : Cell) (ts : List Table) (a b : ℕ) (z w : ZoneView) → z ≡ nth_zone s cell ts a → w ≡ nth_zone s cell ts b → IsOfCell z w
of_one_cell s cell ts a b z w ez ew = record { period = ap (λ v. v.period) ew ∙ sym (ap (λ v. v.period) ez); residues = ap (λ v. v.residues) ew ∙ sym (ap (λ v. v.residues) ez) }

-- inclusion between zones that are read is inclusion between those of the cell
pub seen_within : (s : StoreView) (cell : Cell) (ts : List Table) (a b : ℕ) (z w : ZoneView) → z ≡ nth_zone s cell ts a → w ≡ nth_zone s cell ts b → IsWithin z w → IsWithin (nth_zone s cell ts a) (nth_zone s cell ts b)
seen_within s cell ts a b z w ez ew h = subst (λ y. IsWithin (nth_zone s cell ts a) y) ew (subst (λ y. IsWithin y w) ez h)

-- and the other way round
pub read_within : (s : StoreView) (cell : Cell) (ts : List Table) (a b : ℕ) (z w : ZoneView) → z ≡ nth_zone s cell ts a → w ≡ nth_zone s cell ts b → IsWithin (nth_zone s cell ts a) (nth_zone s cell ts b) → IsWithin z w
read_within s cell ts a b z w ez ew h = subst (λ y. IsWithin z y) (sym ew) (subst (λ y. IsWithin y (nth_zone s cell ts b)) (sym ez) h)

-- what is promised where a zone is given holds, since there is one
pub is_given : (s : StoreView) (cell : Cell) (i : ℕ) → i < length (tables_at s cell) → (o : Option ZoneView) (P : Type 0) → o ≡ slice_get (zones_at s cell) i → OnSome o P → P
is_given s cell i low None P e h = absurd (nth_read s cell i low e)
is_given s cell i low (Some z) P e h = h

-- the zones of a store that has other tables
pub nth_same : (s now : StoreView) → now ≡ record s { tables = now.tables; spare = now.spare } → (cell : Cell) (ts : List Table) (k : ℕ) → nth_zone now cell ts k ≡ nth_zone s cell ts k
nth_same s now rest cell ts k = ap (λ v. nth_zone v cell ts k) rest

module _ (s now new : StoreView) (cell : Cell) (i : ℕ) (low : i < length (tables_at now cell)) (rest : now ≡ record s { tables = now.tables; spare = now.spare }) where
  -- the shape and the period stay
  pub rest_then : new ≡ record now { tables = new.tables; spare = new.spare } → new ≡ record s { tables = new.tables; spare = new.spare }
  rest_then e = let f : StoreView → StoreView = λ v. record v { tables = new.tables; spare = new.spare } in e ∙ ap f rest

  -- a covered zone goes
  pub covered_then : IsCovered now cell i → IsTidiedTo s cell (tables_at s cell) (tables_at now cell) i → IsTidiedTo s cell (tables_at s cell) (remove (tables_at now cell) i) i
  covered_then h t = one_goes s cell (tables_at s cell) (tables_at now cell) i low t h.place h.low h.other (subst (λ z. IsWithin z (nth_zone s cell (tables_at now cell) h.place)) (nth_same s now rest cell (tables_at now cell) i)
      (subst (λ z. IsWithin (nth_zone now cell (tables_at now cell) i) z) (nth_same s now rest cell (tables_at now cell) h.place) h.within))

  -- another one stays
  pub stays_then : (IsCovered now cell i → ⊥) → IsTidiedTo s cell (tables_at s cell) (tables_at now cell) i → IsTidiedTo s cell (tables_at s cell) (tables_at now cell) (i + 1)
  stays_then none t = one_stays s cell (tables_at s cell) (tables_at now cell) i t (λ j jl other w. none (record {
    place = j;
    low = jl;
    other = other;
    within = subst (λ z. IsWithin (nth_zone now cell (tables_at now cell) i) z) (sym (nth_same s now rest cell (tables_at now cell) j)) (subst (λ z. IsWithin z (nth_zone s cell (tables_at now cell) j)) (sym (nth_same s now rest cell (tables_at now cell) i)) w);
  }))

  module _ (tables : new.tables ≡ set_list now.tables cell (remove (tables_at now cell) i)) where
    -- the list without the zone
    pub list_then : tables_at new cell ≡ remove (tables_at now cell) i
    list_then = ap (λ m. list_at m cell) tables ∙ (elim (list_set now.tables cell (remove (tables_at now cell) i) cell) [ inl e ↦ e.1 | inr e ↦ absurd (e.0 refl) ])

    -- the other cells keep theirs
    pub others_then : (q : Cell) → q ≢ cell → finite.get new.tables q ≡ finite.get now.tables q
    others_then q apart = ap (λ m. finite.get m q) tables ∙ (elim (get_set now.tables cell (remove (tables_at now cell) i) q) [ inl e ↦ absurd (apart e.0) | inr e ↦ e.1 ])

    -- it is one shorter
    pub length_then : length (tables_at new cell) + 1 ≡ length (tables_at now cell)
    length_then = ap (λ l. length l + 1) list_then ∙ length-remove (tables_at now cell) i low

-- the table that is read next, and those after it
pub read_next : (ts left new : List Table) (j : ℕ) (t : Table) → left ≡ drop j ts → j < length ts → left ≡ t ∷ new → (t ≡ get_or ts j []) × (new ≡ drop (j + 1) ts)
read_next ts left new j t e low s = both t (get_or ts j []) new (drop (j + 1) ts) (sym s ∙ e ∙ drop_more ts j [] low)
  where
    both : (x y : Table) (xs ys : List Table) → x ∷ xs ≡ y ∷ ys → (x ≡ y) × (xs ≡ ys)
    both x y xs ys h = (cc, cc)

-- there is one at each place
pub none_left : (ts left : List Table) (j : ℕ) → left ≡ drop j ts → j < length ts → left ≡ [] → ⊥
none_left ts left j e low s = empty (get_or ts j []) (drop (j + 1) ts) (sym s ∙ e ∙ drop_more ts j [] low)
  where
    empty : (x : Table) (xs : List Table) → [] ≡ x ∷ xs → ⊥
    empty x xs h = cc

-- it is one of the cell's
pub next_held : (ts left new : List Table) (j : ℕ) (t : Table) → left ≡ drop j ts → j < length ts → left ≡ t ∷ new → Contains ts t
next_held ts left new j t e low s = Contains-from_get ts j t (slice_get-get_or ts j [] low ∙ ap Some (sym (read_next ts left new j t e low s).0))

-- and its zone is that with the number
pub next_zone : (s now : StoreView) → s ≡ now → (c : Cell) (left new : List Table) (j : ℕ) (t : Table) (times : ℕ) (z : ZoneView) → left ≡ drop j (tables_at now c) → j < length (tables_at now c) → left ≡ t ∷ new → times ≡ s.shape.times
    → z ≡ record { period = s.period; residues = take times c.residues; bounds = t } → z ≡ nth_zone now c (tables_at now c) j
next_zone s now same c left new j t times z e low st et ez = zone_read s now same c t times z et ez ∙ ap (zone_of now c) (read_next (tables_at now c) left new j t e low st).0
