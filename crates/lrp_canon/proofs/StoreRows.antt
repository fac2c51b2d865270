-- Rows that are put into a store, group after group.
use Rattle.std.proofs.Common.{◌≡◌, ◌≢◌, ℕ, ◌+◌, ◌<◌, ◌⊎◌, inl, inr, List, [], ◌∷◌, ◌++◌, Option, Some, None, true, unwrap_or, get_or, length, map, take, arith, refl, sym, subst, ap, ◌∙◌}
use Rattle.std.specs.Prelude.{ℤ, pos, ◌+ℤ◌, ◌<ℤ◌, AllPairs, Contains, is_some}
use Rattle.std.specs.FinMap as finite
use Rattle.std.specs.FinMap.{contains_key-keys, get-empty}
use Rattle.std.proofs.lemmas.Int.{ints}
use Rattle.std.proofs.lemmas.Cmp.{eq_by_cmp_equiv}
use Rattle.std.proofs.lemmas.List.{append_assoc, get_or_default, map-append, take_more}
use Rattle.std.proofs.lemmas.List.Elements.{Contains-append_cases, Contains-append_left, Contains-append_right}
use Rattle.std.proofs.lemmas.Map.Views.{list_any-from_Contains}
use Rattle.lrp_model.specs.declared.tuples.Cell.{Cell}
use Rattle.lrp_model.specs.declared.tuples.Shape.{Shape}
use Rattle.lrp_slots.specs.Lists.{cell_cmp, list_at}
use Rattle.lrp_slots.proofs.Tables.{cells_total}
use Rattle.lrp_zone.specs.Zones.{IsMember, IsZone, ZoneView, columns_of}
use Rattle.lrp_store.specs.Stores.{IsPadded, IsStore, StoreView, tables_at, zone_of, zones_at}
use Rattle.lrp_store.proofs.Held.{list_put, zone_held}
use Rattle.lrp_cutting.specs.Intervals.{IsFarBelow}
use Rattle.lrp_spans.specs.declared.spans.Span.{Span}
use Rattle.lrp_spans.specs.Groups.{SpanLists}
use Rattle.lrp_spans.specs.Spans.{AreMergedSpans, SpansHaveNumber}
use Rattle.lrp_spans.proofs.GroupLaws.{zone_column}
use Rattle.lrp_spans.proofs.Lists.{before, head_in, in_none, in_one, one_in, pairs_append, pairs_left, pairs_none, pairs_one}
use Rattle.lrp_canon.specs.declared.edges.Periods.{Periods}
use Rattle.lrp_canon.specs.declared.rows.MaximalRow.{MaximalRow}
use Rattle.lrp_canon.proofs.JoinedCounts.{pairs_across}
use Rattle.lrp_canon.specs.Making.{AddsRow, AddsRows, AreGroupCells, AreRowsOf, HasAtGroup, HasRowZone, HoldsGroups, IsInside, IsOfGroup, IsRowZone, IsZoneOf, LieApart, TakesRows, row_cell}
use Rattle.lrp_theory.proofs.Members.{from_map}

-- ---- one row
module _ (group : Cell) (row : MaximalRow) (old new : StoreView) (one : old.shape.times ≡ 1) (a : AddsRow group row old new) where
  abbrev cell : Cell
  cell = row_cell group row.residue

  -- the zones of the new store by its tables
  by_tables : (q : Cell) → zones_at new q ≡ map (zone_of old q) (list_at new.tables q)
  by_tables q = ap (λ s. zones_at s q) a.rest

  own_zone : zone_of old cell a.zone.bounds ≡ a.zone
  own_zone = by a.zone.period a.zone.residues a.is.same a.is.residues
    where
      by : (p : ℕ) (rs : List ℤ) → p ≡ old.period → rs ≡ pos row.residue ∷ [] → zone_of old cell a.zone.bounds ≡ record { period = p; residues = rs; bounds = a.zone.bounds }
      by p rs e f = rw (e, f) (ap (λ n. record { period = old.period; residues = take n cell.residues; bounds = a.zone.bounds }) one)

  pub row_added : (q : Cell) → ((q ≡ cell) × (zones_at new q ≡ zones_at old q ++ a.zone ∷ [])) ⊎ ((q ≢ cell) × (zones_at new q ≡ zones_at old q))
  row_added q = elim (list_put old.tables cell (tables_at old cell ++ a.zone.bounds ∷ []) q) [
    | inl e ↦ inl (e.0, subst (λ c. zones_at new c ≡ zones_at old c ++ a.zone ∷ []) (sym e.0) here)
    | inr e ↦ inr (e.0, by_tables q ∙ ap (λ m. map (zone_of old q) (list_at m q)) a.tables ∙ ap (map (zone_of old q)) e.1)
  ]
    where
      put_here : list_at (finite.insert old.tables cell (tables_at old cell ++ a.zone.bounds ∷ [])) cell ≡ tables_at old cell ++ a.zone.bounds ∷ []
      put_here = elim (list_put old.tables cell (tables_at old cell ++ a.zone.bounds ∷ []) cell) [ inl f ↦ f.1 | inr f ↦ absurd (f.0 refl) ]

      here : zones_at new cell ≡ zones_at old cell ++ a.zone ∷ []
      here = by_tables cell ∙ ap (λ m. map (zone_of old cell) (list_at m cell)) a.tables ∙ ap (map (zone_of old cell)) put_here
          ∙ map-append (zone_of old cell) (tables_at old cell) (a.zone.bounds ∷ []) ∙ ap (λ z. zones_at old cell ++ z ∷ []) own_zone

-- ---- the rows of a group
pub adds_none : (group : Cell) (s : StoreView) → AddsRows group [] s s
adds_none group s = record { rest = refl; valid = λ is. is; to = λ c z h. inl h; kept = λ c z h. h; from = λ r l. absurd (in_none r l); far = λ _ f. f }

module _ (group : Cell) (rows : List MaximalRow) (row : MaximalRow) (old now new : StoreView) (one : old.shape.times ≡ 1) (so : AddsRows group rows old now) (a : AddsRow group row now new) (across : (v : MaximalRow) → Contains rows v → LieApart old.period v row) where
  now_one : now.shape.times ≡ 1
  now_one = ap (λ (s : StoreView). s.shape.times) so.rest ∙ one

  now_period : now.period ≡ old.period
  now_period = ap (λ (s : StoreView). s.period) so.rest

  new_period : new.period ≡ old.period
  new_period = ap (λ (s : StoreView). s.period) a.rest ∙ now_period

  is : IsZoneOf old.period row a.zone
  is = subst (λ p. IsZoneOf p row a.zone) now_period a.is

  old_in : (c : Cell) (z : ZoneView) → Contains (zones_at now c) z → Contains (zones_at new c) z
  old_in c z h = elim (row_added group row now new now_one a c) [
    | inl e ↦ subst (λ l. Contains l z) (sym e.1) (Contains-append_left (zones_at now c) (a.zone ∷ []) z h)
    | inr e ↦ subst (λ l. Contains l z) (sym e.1) h
  ]

  new_in : Contains (zones_at new (row_cell group row.residue)) a.zone
  new_in = elim (row_added group row now new now_one a (row_cell group row.residue)) [
    | inl e ↦ subst (λ l. Contains l a.zone) (sym e.1) (Contains-append_right (zones_at now (row_cell group row.residue)) (a.zone ∷ []) a.zone (one_in a.zone))
    | inr e ↦ absurd (e.0 refl)
  ]

  either : (c : Cell) (z : ZoneView) → Contains (zones_at new c) z → Contains (zones_at now c) z ⊎ ((c ≡ row_cell group row.residue) × (a.zone ≡ z))
  either c z h = elim (row_added group row now new now_one a c) [
    | inl e ↦ elim (Contains-append_cases (zones_at now c) (a.zone ∷ []) z (subst (λ l. Contains l z) e.1 h)) [ inl k ↦ inl k | inr k ↦ inr (e.0, in_one a.zone z k) ]
    | inr e ↦ inl (subst (λ l. Contains l z) e.1 h)
  ]

  -- the residue of a row's cell
  same_residue : (q r : ℕ) → row_cell group q ≡ row_cell group r → q ≡ r
  same_residue q r e = let g : pos q ≡ pos r = ap (λ (c : Cell). get_or c.residues 0 (pos 0)) e in omega (arith, ints)

  more_rest : new ≡ record old { tables = new.tables; spare = new.spare }
  more_rest = a.rest ∙ ap (λ (s : StoreView). record s { tables = new.tables; spare = new.spare }) so.rest

  row_cases : (v : MaximalRow) → Contains (rows ++ row ∷ []) v → Contains rows v ⊎ (row ≡ v)
  row_cases v l = elim (Contains-append_cases rows (row ∷ []) v l) [ inl k ↦ inl k | inr k ↦ inr (in_one row v k) ]

  far : ((c : Cell) → c.texts ≡ group.texts → zones_at old c ≡ []) → ((c : Cell) → AllPairs IsFarBelow (zones_at old c)) → (c : Cell) → AllPairs IsFarBelow (zones_at new c)
  far empty all c = elim (row_added group row now new now_one a c) [
    | inl e ↦ subst (AllPairs IsFarBelow) (sym e.1) (pairs_append IsFarBelow (zones_at now c) (a.zone ∷ []) (so.far empty all c) (pairs_one IsFarBelow a.zone)
        (λ u w lu lw. subst (IsFarBelow u) (in_one a.zone w lw) (after e.0 u (so.to c u lu))))
    | inr e ↦ subst (AllPairs IsFarBelow) (sym e.1) (so.far empty all c)
  ]
    where
      after : c ≡ row_cell group row.residue → (u : ZoneView) → Contains (zones_at old c) u ⊎ IsRowZone group rows old.period c u → IsFarBelow u a.zone
      after ce u (inl h) = absurd (in_none u (subst (λ l. Contains l u) (empty c (ap (λ (d : Cell). d.texts) ce)) h))
      after ce u (inr h) = record {
        far = λ x y mx my. subst (λ p. (x +ℤ pos p) <ℤ y) (sym h.is.same)
            ((across h.row h.listed).far (same_residue h.row.residue row.residue (sym h.named ∙ ce)) x y (h.is.to x mx) (is.to y my));
      }

  pub adds_more : AddsRows group (rows ++ row ∷ []) old new
  adds_more = record {
    rest = more_rest;
    valid = λ _. a.valid;
    to = λ c z h. elim (either c z h) [
      | inl k ↦ elim (so.to c z k) [
        | inl o ↦ inl o
        | inr o ↦ inr (record { row = o.row; listed = Contains-append_left rows (row ∷ []) o.row o.listed; named = o.named; is = o.is })
      ]
      | inr k ↦ inr (record { row = row; listed = Contains-append_right rows (row ∷ []) row (one_in row); named = k.0; is = subst (IsZoneOf old.period row) k.1 is })
    ];
    kept = λ c z h. old_in c z (so.kept c z h);
    from = λ v l. elim (row_cases v l) [
      | inl k ↦ (let f = so.from v k in record { zone = f.zone; held = old_in (row_cell group v.residue) f.zone f.held; is = subst (λ p. IsZoneOf p v f.zone) (now_period ∙ sym new_period) f.is })
      | inr e ↦ subst (HasRowZone new group) e (record { zone = a.zone; held = new_in; is = subst (λ p. IsZoneOf p row a.zone) (sym new_period) is })
    ];
    far = far;
  }

-- ---- group after group
pub holds_none : (periods : Periods) (lists : SpanLists) (s : StoreView) → ((c : Cell) → zones_at s c ≡ []) → HoldsGroups periods lists [] s
holds_none periods lists s none = record {
  far = λ c. subst (AllPairs IsFarBelow) (sym (none c)) (pairs_none IsFarBelow);
  reach = λ c z h. absurd (in_none z (subst (λ l. Contains l z) (none c) h));
  to = λ c z x h m. absurd (in_none z (subst (λ l. Contains l z) (none c) h));
  from = λ g x l h. absurd (in_none g l);
}

module _ (periods : Periods) (lists : SpanLists) (done : List Cell) (group : Cell) (spans : List Span) (rows : List MaximalRow) (s new : StoreView) (is : IsStore s) (one : s.shape.times ≡ 1) (period : s.period ≡ periods.least) (holds : HoldsGroups periods lists done s)
    (merged : AreMergedSpans (list_at lists group) spans) (are : AreRowsOf (SpansHaveNumber periods.whole spans) periods.least rows) (a : AddsRows group rows s new)
    (apart : (g : Cell) (p q : Span) → Contains done g → Contains (list_at lists g) p → Contains (list_at lists group) q → g.texts ≡ group.texts → ⊥) (q : Span) (some : Contains (list_at lists group) q) where
  -- no zone has the texts of the group yet
  no_zone : (c : Cell) → c.texts ≡ group.texts → (zs : List ZoneView) → zones_at s c ≡ zs → zs ≡ []
  no_zone c e [] f = refl
  no_zone c e (z ∷ zs) f =
      let h : Contains (zones_at s c) z = subst (λ l. Contains l z) (sym f) (head_in z zs) in
      let t = from_map (zone_of s c) (tables_at s c) z h in
      let valid : IsZone z = subst IsZone t.2 (zone_held s is c t.0 t.1) in
      let col : columns_of z ≡ 1 = zone_column s is one c z h in
      absurd (at h valid.some.member valid.some.is (valid.some.is.cell.count ∙ col))
    where
      at : Contains (zones_at s c) z → (xs : List ℤ) → IsMember z xs → length xs ≡ 1 → ⊥
      at h [] m n = absurd (omega arith)
      at h (x ∷ []) m n = let o = holds.to c z x h m in apart o.group o.inside.inside.span q o.listed o.inside.inside.listed some (sym o.named ∙ e)
      at h (x ∷ y ∷ ys) m n = absurd (omega arith)

  number_to : (x : ℤ) → SpansHaveNumber periods.whole spans x → SpansHaveNumber periods.whole (list_at lists group) x
  number_to x h = record { residue = h.residue; turn = h.turn; is = h.is; inside = merged.to h.residue h.turn h.inside }

  number_from : (x : ℤ) → SpansHaveNumber periods.whole (list_at lists group) x → SpansHaveNumber periods.whole spans x
  number_from x h = record { residue = h.residue; turn = h.turn; is = h.is; inside = merged.from h.residue h.turn h.inside }

  abbrev more : List Cell
  more = done ++ group ∷ []

  wider : (c : Cell) (x : ℤ) → IsOfGroup periods.whole lists done c x → IsOfGroup periods.whole lists more c x
  wider c x o = record { group = o.group; listed = Contains-append_left done (group ∷ []) o.group o.listed; named = o.named; inside = o.inside }

  pub holds_more : HoldsGroups periods lists more new
  holds_more = record {
    far = a.far (λ c e. no_zone c e (zones_at s c) refl) holds.far;
    reach = λ c z h. elim (a.to c z h) [ inl k ↦ holds.reach c z k | inr k ↦ k.is.reach ];
    to = λ c z x h m. elim (a.to c z h) [
      | inl k ↦ wider c x (holds.to c z x k m)
      | inr k ↦ record {
        group = group;
        listed = Contains-append_right done (group ∷ []) group (one_in group);
        named = ap (λ (d : Cell). d.texts) k.named;
        inside = number_to x (are.to k.row x k.listed (subst (λ p. IsInside p k.row x) period (k.is.to x m)));
      }
    ];
    from = λ g x l h. elim (Contains-append_cases done (group ∷ []) g l) [
      | inl k ↦ (let f = holds.from g x k h in record { cell = f.cell; zone = f.zone; held = a.kept f.cell f.zone f.held; named = f.named; inside = f.inside })
      | inr k ↦ subst (λ d. HasAtGroup new d x) (in_one group g k) (here x (subst (λ d. SpansHaveNumber periods.whole (list_at lists d) x) (sym (in_one group g k)) h))
    ];
  }
    where
      new_period : new.period ≡ periods.least
      new_period = ap (λ (t : StoreView). t.period) a.rest ∙ period

      here : (x : ℤ) → SpansHaveNumber periods.whole (list_at lists group) x → HasAtGroup new group x
      here x h =
          let r = are.from x (number_from x h) in
          let f = a.from r.0 r.1 in
          record { cell = row_cell group r.0.residue; zone = f.zone; held = f.held; named = refl; inside = f.is.from x (subst (λ p. IsInside p r.0 x) (sym new_period) r.2) }

-- a key has a span, where no list is empty
pub key_some : (lists : SpanLists) → ((c : Cell) → finite.get lists c ≢ Some []) → (g : Cell) → Contains (finite.keys lists) g → (p : Span) × Contains (list_at lists g) p
key_some lists filled g h = at (finite.get lists g) refl
  where
    nothing : (o : Option (List Span)) → o ≡ None → is_some o ≡ true → ⊥
    nothing None e f = absurd (cc)
    nothing (Some l) e f = absurd (cc)

    at : (o : Option (List Span)) → finite.get lists g ≡ o → (p : Span) × Contains (list_at lists g) p
    at None e = (
        let f : is_some (finite.get lists g) ≡ true = contains_key-keys lists g ∙ list_any-from_Contains (eq_by_cmp_equiv cells_total) g (finite.keys lists) h in
        absurd (nothing (finite.get lists g) e f))
    at (Some []) e = absurd (filled g e)
    at (Some (p ∷ ps)) e = (p, subst (λ o. Contains (unwrap_or o []) p) (sym e) (head_in p ps))

-- the next of the keys is none of those before it, by its texts
pub next_apart : (shape : Shape) (lists : SpanLists) → AreGroupCells shape lists → AllPairs ◌≢◌ (finite.keys lists) → (done : List Cell) (group : Cell) (rest : List Cell) → done ++ group ∷ rest ≡ finite.keys lists
    → (g : Cell) (p q : Span) → Contains done g → Contains (list_at lists g) p → Contains (list_at lists group) q → g.texts ≡ group.texts → ⊥
next_apart shape lists are apart done group rest e g p q l lp lq t = pairs_across ◌≢◌ done group (pairs_left ◌≢◌ (done ++ group ∷ []) rest (subst (AllPairs ◌≢◌) (sym (append_assoc done (group ∷ []) rest ∙ e)) apart)) g l (are.apart g group p q lp lq t)

pub next_key : (lists : SpanLists) (done : List Cell) (group : Cell) (rest : List Cell) → done ++ group ∷ rest ≡ finite.keys lists → Contains (finite.keys lists) group
next_key lists done group rest e = subst (λ xs. Contains xs group) e (Contains-append_right done (group ∷ rest) group (head_in group rest))

-- one more of the rows
pub adds_next : (group : Cell) (period : ℕ) (rows : List MaximalRow) (i : ℕ) (d : MaximalRow) (old now new : StoreView) → i < length rows → old.period ≡ period → old.shape.times ≡ 1 → AllPairs (LieApart period) rows → AddsRow group (get_or rows i d) now new
    → AddsRows group (take i rows) old now → AddsRows group (take (i + 1) rows) old new
adds_next group period rows i d old now new l e one apart a so = subst (λ rs. AddsRows group rs old new) (sym (take_more rows i d l))
    (adds_more group (take i rows) (get_or rows i d) old now new one so a
    (λ v h. subst (λ p. LieApart p v (get_or rows i d)) (sym e) (before (LieApart period) rows i (get_or rows i d) apart l (get_or_default rows i d (get_or rows i d) l) v h)))

-- the store still takes rows
pub period_on : (group : Cell) (rows : List MaximalRow) (old now : StoreView) (period : ℕ) → old.period ≡ period → AddsRows group rows old now → now.period ≡ period
period_on group rows old now period e a = ap (λ (s : StoreView). s.period) a.rest ∙ e

pub takes_on : (group : Cell) (rows : List MaximalRow) (old now : StoreView) → TakesRows group old → AddsRows group rows old now → TakesRows group now
takes_on group rows old now t a = record {
  column = ap (λ (s : StoreView). s.shape.times) a.rest ∙ t.column;
  texts = subst (λ n. IsPadded 0 n group.texts) (sym (ap (λ (s : StoreView). s.shape.texts) a.rest)) t.texts;
}

-- an empty store has no zone
pub holds_begun : (periods : Periods) (lists : SpanLists) (s : StoreView) → s.tables ≡ finite.empty → HoldsGroups periods lists [] s
holds_begun periods lists s e = holds_none periods lists s (λ c. ap (λ m. map (zone_of s c) (list_at m c)) e ∙ ap (λ o. map (zone_of s c) (unwrap_or o [])) (get-empty cell_cmp c))

-- the rows of a key's group fit in the store
pub key_takes : (shape : Shape) (lists : SpanLists) → AreGroupCells shape lists → ((c : Cell) → finite.get lists c ≢ Some []) → (done : List Cell) (group : Cell) (rest left : List Cell) → left ≡ group ∷ rest → done ++ left ≡ finite.keys lists → (s : StoreView) → s.shape ≡ shape → TakesRows group s
key_takes shape lists are filled done group rest left el e s es =
    let p = key_some lists filled group (next_key lists done group rest (ap (λ xs. done ++ xs) (sym el) ∙ e)) in
    record {
      column = ap (λ (h : Shape). h.times) es ∙ are.column;
      texts = subst (λ n. IsPadded 0 n group.texts) (sym (ap (λ (h : Shape). h.texts) es)) (are.each group p.0 p.1);
    }

-- one more of the keys
pub holds_next : (periods : Periods) (shape : Shape) (lists : SpanLists) → AreGroupCells shape lists → AllPairs ◌≢◌ (finite.keys lists) → ((c : Cell) → finite.get lists c ≢ Some []) → (done : List Cell) (group : Cell) (rest left : List Cell) → left ≡ group ∷ rest → done ++ left ≡ finite.keys lists
    → (spans : List Span) (rows : List MaximalRow) (s new : StoreView) → IsStore s → s.shape ≡ shape → s.period ≡ periods.least → AreMergedSpans (list_at lists group) spans → AreRowsOf (SpansHaveNumber periods.whole spans) periods.least rows → AddsRows group rows s new
    → HoldsGroups periods lists done s → HoldsGroups periods lists (done ++ group ∷ []) new
holds_next periods shape lists are apart filled done group rest left el e spans rows s new is es ep merged of a holds =
    let f : done ++ group ∷ rest ≡ finite.keys lists = ap (λ xs. done ++ xs) (sym el) ∙ e in
    let p = key_some lists filled group (next_key lists done group rest f) in
    holds_more periods lists done group spans rows s new is (ap (λ (h : Shape). h.times) es ∙ are.column) ep holds merged of a (λ g u v l lu lv t. next_apart shape lists are apart done group rest f g u v l lu lv t) p.0 p.1

-- the shape and the period stay
pub same_shape : (group : Cell) (rows : List MaximalRow) (old new : StoreView) → AddsRows group rows old new → new.shape ≡ old.shape
same_shape group rows old new a = ap (λ (s : StoreView). s.shape) a.rest

pub same_period : (group : Cell) (rows : List MaximalRow) (old new : StoreView) → AddsRows group rows old new → new.period ≡ old.period
same_period group rows old new a = ap (λ (s : StoreView). s.period) a.rest
