-- What a store keeps when one cell's zones change.
use Rattle.std.proofs.Common.{◌≡◌, ◌≢◌, ℕ, zero, suc, ◌+◌, ◌-◌, ◌<◌, ◌≤◌, ◌^◌, inl, inr, ◌⊎◌, List, [], ◌∷◌, ◌++◌, length, take, drop, Option, Some, None, true, false, cond, IsSome, refl, sym, ap, subst, ◌∙◌, arith, unwrap_or, option_map, All, Contains}
use Rattle.std.specs.Prelude.{ℤ, pos, is_some, slice_get}
use Rattle.std.specs.List.{remove}
use Rattle.std.specs.FinMap as finite
use Rattle.std.specs.FinMap.{FinMap, get, get-insert, get-remove, get-empty, len, len-insert, len-remove, len-empty}
use Rattle.std.specs.Ordering.{eq_by_cmp}
use Rattle.std.proofs.lemmas.List.{get_or-take, length-take-le}
use Rattle.std.proofs.lemmas.Option.{slice_get-map}
use Rattle.std.proofs.lemmas.List.Elements.{All-push, All-append, All-take, All-drop, All-contains}
use Rattle.lrp_theory.specs.Entries.{node}
use Rattle.lrp_model.specs.declared.tuples.Cell.{Cell}
use Rattle.lrp_model.specs.declared.tuples.Shape.{Shape}
use Rattle.lrp_slots.specs.Lists.{cell_cmp, list_at, set_list}
use Rattle.lrp_slots.proofs.Tables.{cells_total, same_cell, other_cell}
use Rattle.lrp_zone.specs.Zones.{ZoneView, IsZone, IsResidue}
use Rattle.lrp_store.specs.Stores.{StoreView, IsStore, IsHeld, IsCellOf, IsPadded, zone_of, tables_at, zones_at}

-- the stored bounds of a zone
abbrev pub Table : Type 0
Table = List (Option ℤ)

-- the tables of each cell
abbrev pub Tables : Type 0
Tables = FinMap cell_cmp (List Table)

-- the front of a list has the same nodes
pub node_take : (n : ℕ) (l : List ℤ) (p : ℕ) → p ≤ n → node (take n l) p ≡ node l p
node_take n l zero h = refl
node_take n l (suc p) h = get_or-take n l p (pos 0) (omega arith)

-- a cell, or another one
pub cell_or : (q c : Cell) → ((q ≡ c) × (eq_by_cmp cell_cmp q c ≡ true)) ⊎ ((q ≢ c) × (eq_by_cmp cell_cmp q c ≡ false))
cell_or q c =
    elim (eq_by_cmp cell_cmp q c) as (λ b. eq_by_cmp cell_cmp q c ≡ b → ((q ≡ c) × (b ≡ true)) ⊎ ((q ≢ c) × (b ≡ false))) [
      | true ↦ λ is. inl (same_cell q c is, refl)
      | false ↦ λ is. inr (other_cell q c is, refl)
    ] refl

-- the list of one cell was put in its place
pub get_put : (m : Tables) (c : Cell) (list : List Table) (q : Cell) → ((q ≡ c) × (get (finite.insert m c list) q ≡ Some list)) ⊎ ((q ≢ c) × (get (finite.insert m c list) q ≡ get m q))
get_put m c list q = elim (cell_or q c) [
  | inl e ↦ inl (e.0, get-insert cells_total m c list q ∙ ap (λ b. cond b (Some list) (get m q)) e.1)
  | inr e ↦ inr (e.0, get-insert cells_total m c list q ∙ ap (λ b. cond b (Some list) (get m q)) e.1)
]

-- the same of its list
pub list_put : (m : Tables) (c : Cell) (list : List Table) (q : Cell) → ((q ≡ c) × (list_at (finite.insert m c list) q ≡ list)) ⊎ ((q ≢ c) × (list_at (finite.insert m c list) q ≡ list_at m q))
list_put m c list q = elim (get_put m c list q) [
  | inl e ↦ inl (e.0, ap (λ o. unwrap_or o []) e.1)
  | inr e ↦ inr (e.0, ap (λ o. unwrap_or o []) e.1)
]

-- the list of one cell was set, or the cell went with its last
pub get_set : (m : Tables) (c : Cell) (list : List Table) (q : Cell) → ((q ≡ c) × (((list ≡ []) × (get (set_list m c list) q ≡ None)) ⊎ ((list ≢ []) × (get (set_list m c list) q ≡ Some list)))) ⊎ ((q ≢ c) × (get (set_list m c list) q ≡ get m q))
get_set m c [] q = elim (cell_or q c) [
  | inl e ↦ inl (e.0, inl (refl, get-remove cells_total m c q ∙ ap (λ b. cond b None (get m q)) e.1))
  | inr e ↦ inr (e.0, get-remove cells_total m c q ∙ ap (λ b. cond b None (get m q)) e.1)
]
get_set m c (t ∷ list) q = elim (get_put m c (t ∷ list) q) [
  | inl e ↦ inl (e.0, inr (λ no_such. some_empty t list no_such, e.1))
  | inr e ↦ inr (e.0, e.1)
]
  where
    some_empty : (t : Table) (list : List Table) → t ∷ list ≡ [] → ⊥
    some_empty t list e = cc

-- the same of its list
pub list_set : (m : Tables) (c : Cell) (list : List Table) (q : Cell) → ((q ≡ c) × (list_at (set_list m c list) q ≡ list)) ⊎ ((q ≢ c) × (list_at (set_list m c list) q ≡ list_at m q))
list_set m c list q = elim (get_set m c list q) [
  | inl e ↦ elim e.1 [
    | inl f ↦ inl (e.0, ap (λ o. unwrap_or o []) f.1 ∙ sym f.0)
    | inr f ↦ inl (e.0, ap (λ o. unwrap_or o []) f.1)
  ]
  | inr e ↦ inr (e.0, ap (λ o. unwrap_or o []) e.1)
]

-- a cell whose list is not empty is held
pub held_of : (m : Tables) (c : Cell) (t : Table) → Contains (list_at m c) t → get m c ≡ Some (list_at m c)
held_of m c t in_list = by_option (get m c) in_list
  where
    by_option : (o : Option (List Table)) → Contains (unwrap_or o []) t → o ≡ Some (unwrap_or o [])
    by_option None h = let l : h.0 < 0 = h.1 in absurd (omega arith)
    by_option (Some list) h = refl

-- each table of a store is that of a zone
pub zone_held : (s : StoreView) → IsStore s → (c : Cell) (t : Table) → Contains (tables_at s c) t → IsZone (zone_of s c t)
zone_held s is c t h = All-contains (λ table. IsZone (zone_of s c table)) (tables_at s c) t (is.cells c (tables_at s c) (held_of s.tables c t h)).zones h

-- each cell of a store is of its shape and period
pub cell_held : (s : StoreView) → IsStore s → (c : Cell) (t : Table) → Contains (tables_at s c) t → IsCellOf s.shape s.period c
cell_held s is c t h = (is.cells c (tables_at s c) (held_of s.tables c t h)).proper

-- a value is one value
pub some_is : {X : Type 0} (o : Option X) (x y : X) → o ≡ Some x → o ≡ Some y → x ≡ y
some_is o x y e f = cc

-- and not none
none_is : {X : Type 0} (o : Option X) (x : X) → o ≡ None → o ≡ Some x → ⊥
none_is o x e f = cc

-- the tables of a held cell and of one that is not are zones of the store
pub all_zones : (s : StoreView) → IsStore s → (c : Cell) → All (λ table. IsZone (zone_of s c table)) (tables_at s c)
all_zones s is c = by_option (get s.tables c) refl
  where
    by_option : (o : Option (List Table)) → get s.tables c ≡ o → All (λ table. IsZone (zone_of s c table)) (unwrap_or o [])
    by_option None e = λ k d h. absurd (omega arith)
    by_option (Some list) e = (is.cells c list e).zones

-- nothing is held in a new store
pub new_store : (shape : Shape) (period : ℕ) → shape.times ≤ 8 → shape.texts ≤ 8 → 0 < period → period ≤ 2 ^ 62 → IsStore (record { shape = shape; period = period; tables = finite.empty; spare = 0 })
new_store shape period times texts low high = record {
  times = times;
  texts = texts;
  period_low = low;
  period_high = high;
  few = let e : len (finite.empty {X = List Table} {R = cell_cmp}) ≡ 0 = len-empty cell_cmp (List Table) in omega arith;
  cells = λ c tables e. absurd (none_is _ tables (get-empty cell_cmp c) e);
}

-- only the number of spare slots is another
pub other_spare : (s : StoreView) (n : ℕ) → IsStore s → IsStore (record s { spare = n })
other_spare s n is = record {
  times = is.times;
  texts = is.texts;
  period_low = is.period_low;
  period_high = is.period_high;
  few = is.few;
  cells = λ c tables e. let h = is.cells c tables e in record { proper = h.proper; some = h.some; zones = h.zones };
}

module _ (s : StoreView) (is : IsStore s) (c : Cell) where
  -- a cell of a zone is of the store's shape and period
  pub cell_of : (z : ZoneView) → IsZone z → z.period ≡ s.period → z.residues ≡ take s.shape.times c.residues → IsPadded 0 s.shape.texts c.texts → IsPadded (pos 0) s.shape.times c.residues → IsCellOf s.shape s.period c
  cell_of z zone ep er texts times = record {
    texts = texts;
    residues = times;
    range = λ i h.
        subst (λ r. IsResidue s.period r) (ap (λ rs. node rs i) er ∙ node_take s.shape.times c.residues i h)
        (subst (λ k. IsResidue k (node z.residues i)) ep (zone.shape.residues i (within i h)));
  }
    where
      within : (i : ℕ) → i ≤ s.shape.times → i ≤ length z.residues
      within i h = let e : length z.residues ≡ s.shape.times = ap length er ∙ length-take-le s.shape.times c.residues (let t : s.shape.times ≤ 8 = is.times in let l : length c.residues ≡ 8 = times.size in omega arith) in omega arith

  -- a zone of the cell, as it is seen in the store
  pub zone_is : (z : ZoneView) → z.period ≡ s.period → z.residues ≡ take s.shape.times c.residues → z ≡ zone_of s c z.bounds
  zone_is z ep er = ap (λ k. record { period = k; residues = z.residues; bounds = z.bounds }) ep ∙ ap (λ rs. record { period = s.period; residues = rs; bounds = z.bounds }) er

  module _ (t : Table) (proper : IsCellOf s.shape s.period c) (zone : IsZone (zone_of s c t)) where
    abbrev pub added : Tables
    added = finite.insert s.tables c (tables_at s c ++ t ∷ [])

    not_empty : (list : List Table) → list ++ t ∷ [] ≢ []
    not_empty [] e = cc
    not_empty (x ∷ list) e = cc

    pub len_added : (cap : ℕ) → (get s.tables c ≡ None → len s.tables < cap) → len s.tables ≤ cap → len added ≤ cap
    len_added cap room le = by_option (get s.tables c) refl
      where
        by_option : (o : Option (List Table)) → get s.tables c ≡ o → len added ≤ cap
        by_option None e =
            let l : len added ≡ len s.tables + 1 = len-insert cells_total s.tables c _ ∙ ap (λ o. cond (is_some o) (len s.tables) (len s.tables + 1)) e in
            let r : len s.tables < cap = room e in omega arith
        by_option (Some list) e =
            let l : len added ≡ len s.tables = len-insert cells_total s.tables c _ ∙ ap (λ o. cond (is_some o) (len s.tables) (len s.tables + 1)) e in omega arith

    -- a zone was added to a cell
    pub store_added : (n : ℕ) → len added < 2 ^ 32 → IsStore (record s { tables = added; spare = n })
    store_added n few = record {
      times = is.times;
      texts = is.texts;
      period_low = is.period_low;
      period_high = is.period_high;
      few = few;
      cells = λ q tables e. elim (get_put s.tables c (tables_at s c ++ t ∷ []) q) [
        | inl f ↦ subst (λ d. IsHeld (record s { tables = added; spare = n }) d tables) (sym f.0)
            (subst (λ list. IsHeld (record s { tables = added; spare = n }) c list) (some_is _ _ _ f.1 e)
            (record { proper = proper; some = not_empty (tables_at s c); zones = All-push (λ table. IsZone (zone_of s c table)) (tables_at s c) t (all_zones s is c) zone }))
        | inr f ↦ let h = is.cells q tables (sym f.1 ∙ e) in record { proper = h.proper; some = h.some; zones = h.zones }
      ];
    }

  -- the store without a zone of the cell
  abbrev pub without : ℕ → ℕ → StoreView
  without i n = record s { tables = set_list s.tables c (remove (tables_at s c) i); spare = n }

  -- the number of cells does not grow when a held cell's list is set
  pub len_set : (list : List Table) → IsSome (get s.tables c) → len (set_list s.tables c list) ≤ len s.tables
  len_set [] held = let l : len (finite.remove s.tables c) ≡ len s.tables - 1 = len-remove cells_total s.tables c ∙ ap (λ b. cond b (len s.tables - 1) (len s.tables)) held in omega arith
  len_set (t ∷ list) held = let l : len (finite.insert s.tables c (t ∷ list)) ≡ len s.tables = len-insert cells_total s.tables c (t ∷ list) ∙ ap (λ b. cond b (len s.tables) (len s.tables + 1)) held in omega arith

  -- a zone of a cell was taken away
  pub store_removed : (i n : ℕ) (t : Table) → Contains (tables_at s c) t → IsStore (without i n)
  store_removed i n t held = record {
    times = is.times;
    texts = is.texts;
    period_low = is.period_low;
    period_high = is.period_high;
    few =
        let l : len (set_list s.tables c (remove (tables_at s c) i)) ≤ len s.tables = len_set (remove (tables_at s c) i) (subst (λ o. IsSome o) (sym (held_of s.tables c t held)) refl) in
        let f : len s.tables < 2 ^ 32 = is.few in omega arith;
    cells = λ q tables e. elim (get_set s.tables c (remove (tables_at s c) i) q) [
      | inl f ↦ elim f.1 [
        | inl g ↦ absurd (none_is _ tables g.1 e)
        | inr g ↦ subst (λ d. IsHeld (without i n) d tables) (sym f.0)
            (subst (λ list. IsHeld (without i n) c list) (some_is _ _ _ g.1 e)
            (record {
              proper = cell_held s is c t held;
              some = g.0;
              zones = All-append (λ table. IsZone (zone_of s c table)) (take i (tables_at s c)) (drop (suc i) (tables_at s c)) (All-take (λ table. IsZone (zone_of s c table)) i (tables_at s c) (all_zones s is c)) (All-drop (λ table. IsZone (zone_of s c table)) (suc i) (tables_at s c) (all_zones s is c));
            }))
      ]
      | inr f ↦ let h = is.cells q tables (sym f.1 ∙ e) in record { proper = h.proper; some = h.some; zones = h.zones }
    ];
  }

-- the element at a place is in the list
pub Contains-from_get : {X : Type 0} (xs : List X) (i : ℕ) (x : X) → slice_get xs i ≡ Some x → Contains xs x
Contains-from_get [] i x e = absurd (none_some x e)
  where
    none_some : {X : Type 0} (x : X) → None ≡ Some x → ⊥
    none_some x e = cc
Contains-from_get (y ∷ xs) zero x e = (0, omega arith, some_same y x e)
  where
    some_same : {X : Type 0} (y x : X) → Some y ≡ Some x → y ≡ x
    some_same y x e = cc
Contains-from_get (y ∷ xs) (suc i) x e = let h = Contains-from_get xs i x e in let l : h.0 < length xs = h.1 in (suc h.0, omega arith, h.2)

-- the same tables, and another number of spare slots
pub same_tables : (s : StoreView) (m : Tables) (n : ℕ) → IsStore s → m ≡ s.tables → IsStore (record { shape = s.shape; period = s.period; tables = m; spare = n })
same_tables s m n is e = subst (λ k. IsStore (record { shape = s.shape; period = s.period; tables = k; spare = n })) (sym e) (other_spare s n is)

-- a zone was appended to the list of a cell
pub appended : (s now : StoreView) → s ≡ now → IsStore s → (c : Cell) (z : ZoneView) → IsZone z → z.period ≡ now.period → z.residues ≡ take now.shape.times c.residues → IsPadded 0 now.shape.texts c.texts → IsPadded (pos 0) now.shape.times c.residues
    → (t : Table) → t ≡ z.bounds → (m : Tables) → m ≡ finite.insert s.tables c (tables_at s c ++ t ∷ []) → (cap n : ℕ) → cap < 2 ^ 32 → (get s.tables c ≡ None → len s.tables < cap) → IsStore (record { shape = s.shape; period = s.period; tables = m; spare = n })
appended s now e is c z zone ep er texts times t et m em cap n low room =
    let p : z.period ≡ s.period = ep ∙ ap (λ v. v.period) (sym e) in
    let r : z.residues ≡ take s.shape.times c.residues = er ∙ ap (λ v. take v.shape.times c.residues) (sym e) in
    let proper = cell_of s is c z zone p r (subst (λ v. IsPadded 0 v.shape.texts c.texts) (sym e) texts) (subst (λ v. IsPadded (pos 0) v.shape.times c.residues) (sym e) times) in
    let seen : IsZone (zone_of s c t) = subst (λ w. IsZone w) (zone_is s is c z p r ∙ ap (zone_of s c) (sym et)) zone in
    let few : len (finite.insert s.tables c (tables_at s c ++ t ∷ [])) < 2 ^ 32 = few_after s is c t proper seen cap low room in
    subst (λ k. IsStore (record { shape = s.shape; period = s.period; tables = k; spare = n })) (sym em) (store_added s is c t proper seen n few)
  where
    few_after : (s : StoreView) (is : IsStore s) (c : Cell) (t : Table) (proper : IsCellOf s.shape s.period c) (zone : IsZone (zone_of s c t)) (cap : ℕ) → cap < 2 ^ 32 → (get s.tables c ≡ None → len s.tables < cap) → len (finite.insert s.tables c (tables_at s c ++ t ∷ [])) < 2 ^ 32
    few_after s is c t proper zone cap low room = by_option (get s.tables c) refl
      where
        by_option : (o : Option (List Table)) → get s.tables c ≡ o → len (finite.insert s.tables c (tables_at s c ++ t ∷ [])) < 2 ^ 32
        by_option None e =
            let l : len (finite.insert s.tables c (tables_at s c ++ t ∷ [])) ≡ len s.tables + 1 = len-insert cells_total s.tables c _ ∙ ap (λ o. cond (is_some o) (len s.tables) (len s.tables + 1)) e in
            let r : len s.tables < cap = room e in omega arith
        by_option (Some list) e =
            let l : len (finite.insert s.tables c (tables_at s c ++ t ∷ [])) ≡ len s.tables = len-insert cells_total s.tables c _ ∙ ap (λ o. cond (is_some o) (len s.tables) (len s.tables + 1)) e in
            let f : len s.tables < 2 ^ 32 = is.few in omega arith

-- a zone was taken out of the list of a cell
pub taken_out : (s : StoreView) → IsStore s → (c : Cell) (i n : ℕ) (t : Table) → Some t ≡ slice_get (tables_at s c) i → (m : Tables) → m ≡ set_list s.tables c (remove (tables_at s c) i) → IsStore (record { shape = s.shape; period = s.period; tables = m; spare = n })
taken_out s is c i n t e m em = subst (λ k. IsStore (record { shape = s.shape; period = s.period; tables = k; spare = n })) (sym em) (store_removed s is c i n t (Contains-from_get (tables_at s c) i t (sym e)))

-- the zone of a table that stands at a place
pub zone_there : (s : StoreView) → IsStore s → (c : Cell) (i times : ℕ) (t : Table) → Some t ≡ slice_get (tables_at s c) i → times ≡ s.shape.times → IsZone (record { period = s.period; residues = take times c.residues; bounds = t })
zone_there s is c i times t e et = subst (λ n. IsZone (record { period = s.period; residues = take n c.residues; bounds = t })) (sym et) (zone_held s is c t (Contains-from_get (tables_at s c) i t (sym e)))

-- the zone that is read at a place is the one that is seen there
pub zone_seen : (s now : StoreView) → s ≡ now → (c : Cell) (i times : ℕ) (t : Table) (z : ZoneView) → Some t ≡ slice_get (tables_at s c) i → times ≡ s.shape.times → z ≡ record { period = s.period; residues = take times c.residues; bounds = t } → Some z ≡ slice_get (zones_at now c) i
zone_seen s now same c i times t z e et ez =
    ap Some (ez ∙ ap (λ n. record { period = s.period; residues = take n c.residues; bounds = t }) et) ∙ ap (option_map (zone_of s c)) e ∙ sym (slice_get-map (zone_of s c) (tables_at s c) i)
    ∙ ap (λ v. slice_get (zones_at v c) i) same
