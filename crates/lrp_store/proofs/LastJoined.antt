-- A store in which the last zone of a cell was joined with another one.
use Rattle.std.proofs.Common.{◌≡◌, ◌≢◌, ◌⊎◌, ℕ, zero, suc, ◌+◌, ◌-◌, ◌<◌, ◌≤◌, ◌^◌, inl, inr, List, [], ◌∷◌, ◌++◌, length, take, replicate, get_or, Option, Some, None, IsSome, unwrap_or, cond, max, refl, sym, ap, subst, ◌∙◌, arith, Contains}
use Rattle.std.specs.Prelude.{is_some, slice_get}
use Rattle.std.specs.FinMap as finite
use Rattle.std.specs.FinMap.{get, len, len-insert}
use Rattle.std.proofs.lemmas.Option.{slice_get-get_or, slice_get_within}
use Rattle.std.proofs.lemmas.List.Elements.{All-push, All-take, Contains-append_left, Contains-push, Contains-push_cases}
use Rattle.lrp_model.specs.declared.tuples.Cell.{Cell}
use Rattle.lrp_slots.specs.Lists.{with_last}
use Rattle.lrp_slots.proofs.Tables.{cells_total}
use Rattle.lrp_zone.specs.Zones.{ZoneView, IsZone, IsMember, greatest_of}
use Rattle.lrp_store.specs.Stores.{StoreView, IsStore, IsHeld, zone_of, tables_at}
use Rattle.lrp_store.specs.Growing.{IsAdded, IsTupleOf}
use Rattle.lrp_store.specs.Joined.{IsUnion, JoinsLast}
use Rattle.lrp_store.proofs.Held.{Table, Tables, all_zones, cell_held, get_put, held_of, list_put, some_is, Contains-from_get}

-- a list ends with its last element
ends_with : {X : Type 0} (xs : List X) (n : ℕ) (x : X) → length xs ≡ suc n → slice_get xs n ≡ Some x → xs ≡ take n xs ++ x ∷ []
ends_with [] n x e g = cc
ends_with (y ∷ []) zero x e g = let same : y ≡ x = cc in ap (λ v. v ∷ []) same
ends_with (y ∷ v ∷ xs) zero x e g = let l : suc (suc (length xs)) ≡ 1 = e in absurd (omega arith)
ends_with (y ∷ xs) (suc n) x e g = ap (λ l. y ∷ l) (ends_with xs n x (let l : suc (length xs) ≡ suc (suc n) = e in omega arith) g)

-- a list with an element at its end is not empty
not_empty : {X : Type 0} (xs : List X) (x : X) → xs ++ x ∷ [] ≢ []
not_empty [] x e = cc
not_empty (y ∷ xs) x e = cc

module _ (s : StoreView) (is : IsStore s) (c : Cell) (last t : Table) (at : slice_get (tables_at s c) (length (tables_at s c) - 1) ≡ Some last) where
  -- the store with another table in the place of the last one
  abbrev pub replaced : ℕ → StoreView
  replaced n = record s { tables = finite.insert s.tables c (with_last (tables_at s c) t); spare = n }

  abbrev front : List Table
  front = take (length (tables_at s c) - 1) (tables_at s c)

  list_is : tables_at s c ≡ front ++ last ∷ []
  list_is = ends_with (tables_at s c) (length (tables_at s c) - 1) last (let l : length (tables_at s c) - 1 < length (tables_at s c) = slice_get_within (tables_at s c) _ last at in omega arith) at

  pub last_held : Contains (tables_at s c) last
  last_held = Contains-from_get (tables_at s c) _ last at

  -- as many cells are held
  len_same : len (finite.insert s.tables c (with_last (tables_at s c) t)) ≡ len s.tables
  len_same = len-insert cells_total s.tables c _ ∙ ap (λ o. cond (is_some o) (len s.tables) (len s.tables + 1)) (held_of s.tables c last last_held)

  -- where the table is one of a zone, it is a store
  pub store_replaced : IsZone (zone_of s c t) → (n : ℕ) → IsStore (replaced n)
  store_replaced zone n = record {
    times = is.times;
    texts = is.texts;
    period_low = is.period_low;
    period_high = is.period_high;
    few = let f : len s.tables < 2 ^ 32 = is.few in omega (arith, len_same);
    cells = λ q tables e. elim (get_put s.tables c (with_last (tables_at s c) t) q) [
      | inl f ↦ subst (λ d. IsHeld (replaced n) d tables) (sym f.0)
          (subst (λ list. IsHeld (replaced n) c list) (some_is _ _ _ f.1 e)
          (record {
            proper = cell_held s is c last last_held;
            some = not_empty front t;
            zones = All-push (λ table. IsZone (zone_of s c table)) front t (All-take (λ table. IsZone (zone_of s c table)) (length (tables_at s c) - 1) (tables_at s c) (all_zones s is c)) zone;
          }))
      | inr f ↦ let h = is.cells q tables (sym f.1 ∙ e) in record { proper = h.proper; some = h.some; zones = h.zones }
    ];
  }

  -- what was held is held, or was the last one
  held_before : (n : ℕ) (q : Cell) (u : Table) → Contains (tables_at s q) u → Contains (tables_at (replaced n) q) u ⊎ ((q ≡ c) × (last ≡ u))
  held_before n q u h = elim (list_put s.tables c (with_last (tables_at s c) t) q) [
    | inl e ↦ elim (Contains-push_cases front last u (subst (λ list. Contains list u) list_is (subst (λ d. Contains (tables_at s d) u) e.0 h))) [
      | inl i ↦ inl (subst (λ list. Contains list u) (sym e.1) (Contains-append_left front (t ∷ []) u i))
      | inr i ↦ inr (e.0, i)
    ]
    | inr e ↦ inl (subst (λ list. Contains list u) (sym e.1) h)
  ]

  -- what is held was held, or is the new one
  held_after : (n : ℕ) (q : Cell) (u : Table) → Contains (tables_at (replaced n) q) u → Contains (tables_at s q) u ⊎ ((q ≡ c) × (t ≡ u))
  held_after n q u h = elim (list_put s.tables c (with_last (tables_at s c) t) q) [
    | inl e ↦ elim (Contains-push_cases front t u (subst (λ list. Contains list u) e.1 h)) [
      | inl i ↦ inl (subst (λ d. Contains (tables_at s d) u) (sym e.0) (subst (λ list. Contains list u) (sym list_is) (Contains-append_left front (last ∷ []) u i)))
      | inr i ↦ inr (e.0, i)
    ]
    | inr e ↦ inl (subst (λ list. Contains list u) e.1 h)
  ]

  -- the new one is held
  held_here : (n : ℕ) → Contains (tables_at (replaced n) c) t
  held_here n = elim (list_put s.tables c (with_last (tables_at s c) t) c) [
    | inl e ↦ subst (λ list. Contains list t) (sym e.1) (Contains-push front t)
    | inr e ↦ absurd (e.0 refl)
  ]

-- a zone was added where the last one has become both
module _ (s new : StoreView) (is : IsStore s) (valid : IsStore new) (c : Cell) (z : ZoneView) (t : Table) (j : JoinsLast s c z t) (made : new.tables ≡ finite.insert s.tables c (with_last (tables_at s c) t)) (rest : new ≡ record s { tables = new.tables }) where
  -- the new store
  abbrev made_store : StoreView
  made_store = replaced s is c j.last t j.is s.spare

  is_new : made_store ≡ new
  is_new = ap (λ m. record s { tables = m }) (sym made) ∙ sym rest

  pub last_joined : (cap : ℕ) → IsAdded (IsTupleOf z (take s.shape.texts c.texts)) cap (greatest_of z.bounds) s new
  last_joined cap = subst (λ v. IsAdded (IsTupleOf z (take s.shape.texts c.texts)) cap (greatest_of z.bounds) s v) is_new (record {
    grown = record {
      valid = subst (λ v. IsStore v) (sym is_new) valid;
      shape = refl;
      period = refl;
      kept = λ xs ns h. elim (held_before s is c j.last t j.is s.spare h.cell h.table h.held) [
        | inl i ↦ record { cell = h.cell; table = h.table; held = i; named = h.named; inside = h.inside }
        | inr i ↦ record {
          cell = c;
          table = t;
          held = held_here s is c j.last t j.is s.spare;
          named = ap (λ d. take s.shape.texts d.texts) (sym i.0) ∙ h.named;
          inside = j.union.left.each xs (subst (λ w. IsMember w xs) (ap (λ d. zone_of s d h.table) i.0 ∙ ap (zone_of s c) (sym i.1)) h.inside);
        }
      ];
      sound = λ xs ns h. elim (held_after s is c j.last t j.is s.spare h.cell h.table h.held) [
        | inl i ↦ inl (record { cell = h.cell; table = h.table; held = i; named = h.named; inside = h.inside })
        | inr i ↦
            let named : take s.shape.texts c.texts ≡ ns = ap (λ d. take s.shape.texts d.texts) (sym i.0) ∙ h.named in
            elim (j.union.one xs (subst (λ w. IsMember w xs) (ap (λ d. zone_of s d h.table) i.0 ∙ ap (zone_of s c) (sym i.1)) h.inside)) [
              | inl old ↦ inl (record { cell = c; table = j.last; held = last_held s is c j.last t j.is; named = named; inside = old })
              | inr added ↦ inr (record { member = added; same = named })
            ]
      ];
      few = λ le. let l : len (finite.insert s.tables c (with_last (tables_at s c) t)) ≡ len s.tables = len_same s is c j.last t j.is in omega arith;
      reach = λ h l r. record {
        each = λ q u i. elim (held_after s is c j.last t j.is s.spare q u i) [
          | inl old ↦ r.each q u old
          | inr both ↦
              let of_both : greatest_of t ≤ max (greatest_of j.last) (greatest_of z.bounds) = j.union.reach in
              let of_last : greatest_of j.last ≤ h = r.each c j.last (last_held s is c j.last t j.is) in
              subst (λ y. greatest_of y ≤ h) both.1 (omega arith)
        ];
      };
    };
    whole = record { each = λ xs ns i. record { cell = c; table = t; held = held_here s is c j.last t j.is s.spare; named = i.same; inside = j.union.right.each xs i.member } };
  })

-- ---- a store as it is seen

-- a list that is not empty has a last element
last_of : (ts : List Table) → ts ≢ [] → (last : Table) × (slice_get ts (length ts - 1) ≡ Some last)
last_of [] some = absurd (some refl)
last_of (t ∷ ts) some = (get_or (t ∷ ts) (length (t ∷ ts) - 1) t, slice_get-get_or (t ∷ ts) (length (t ∷ ts) - 1) t (omega arith))

has_last : (s : StoreView) → IsStore s → (c : Cell) → IsSome (get s.tables c) → (last : Table) × (slice_get (tables_at s c) (length (tables_at s c) - 1) ≡ Some last)
has_last s is c held = by_option (get s.tables c) refl held
  where
    by_option : (o : Option (List Table)) → get s.tables c ≡ o → IsSome o → (last : Table) × (slice_get (unwrap_or o []) (length (unwrap_or o []) - 1) ≡ Some last)
    by_option None e some = cc
    by_option (Some list) e some = last_of list (is.cells c list e).some

-- the last table of a cell that is held was replaced
pub held_replaced : (s now : StoreView) → s ≡ now → IsStore s → (c : Cell) (t : Table) → IsSome (get now.tables c) → IsZone (zone_of now c t) → (m : Tables) → m ≡ finite.insert s.tables c (with_last (tables_at s c) t) → (n : ℕ) → IsStore (record { shape = s.shape; period = s.period; tables = m; spare = n })
held_replaced s now e is c t held zone m em n =
    let last = has_last s is c (subst (λ (v : StoreView). IsSome (get v.tables c)) (sym e) held) in
    subst (λ k. IsStore (record { shape = s.shape; period = s.period; tables = k; spare = n })) (sym em)
    (store_replaced s is c last.0 t last.1 (subst (λ (v : StoreView). IsZone (zone_of v c t)) (sym e) zone) n)

-- the last zone of a cell and another one are one
pub seen_joined : (s now : StoreView) → s ≡ now → (c : Cell) (z : ZoneView) → z.period ≡ now.period → z.residues ≡ take now.shape.times c.residues → (first last both : Table) → slice_get (tables_at s c) 0 ≡ Some first → (first ≡ replicate 81 None → ⊥)
    → slice_get (tables_at s c) (length (tables_at s c) - 1) ≡ Some last → IsUnion (record z { bounds = last }) z (record z { bounds = both }) → JoinsLast now c z both
seen_joined s now e c z ep er first last both at_first not_free at_last union = record {
  last = last;
  is = ap (λ v. slice_get (tables_at v c) (length (tables_at v c) - 1)) (sym e) ∙ at_last;
  first = λ free. not_free (some_is _ first (replicate 81 None) at_first (ap (λ v. slice_get (tables_at v c) 0) e ∙ free));
  union = subst (λ w. IsUnion (zone_of now c last) z w) (seen both) (subst (λ w. IsUnion w z (record z { bounds = both })) (seen last) union);
}
  where
    seen : (t : Table) → record z { bounds = t } ≡ zone_of now c t
    seen t = ap (λ k. record { period = k; residues = z.residues; bounds = t }) ep ∙ ap (λ rs. record { period = now.period; residues = rs; bounds = t }) er
