-- Spans that are gathered by texts have just the numbers of the store with these texts.
use Rattle.std.proofs.Common.{◌≡◌, ℕ, ◌^◌, replicate, ◌<◌, ◌≤◌, ◌⊎◌, inl, inr, List, [], ◌∷◌, ◌++◌, Option, Some, cond, length, take, get_or, unwrap_or, arith, refl, sym, subst, ap, append_assoc, append-nil, ◌∙◌}
use Rattle.std.specs.Prelude.{ℤ, pos, ◌+ℤ◌, Contains, is_some}
use Rattle.std.specs.FinMap as finite
use Rattle.std.specs.FinMap.{contains_key-keys, get, get-empty, get-insert}
use Rattle.std.proofs.Math.IntN.{◌*ℤ◌}
use Rattle.std.proofs.lemmas.List.{get_or-take, ext_get_or}
use Rattle.std.proofs.lemmas.Map.Views.{Contains-from_any}
use Rattle.std.proofs.lemmas.List.Elements.{Contains-append_cases, Contains-append_left, Contains-append_right}
use Rattle.lrp_model.specs.declared.tuples.Cell.{Cell}
use Rattle.lrp_slots.specs.Lists.{cell_cmp, list_at}
use Rattle.lrp_slots.proofs.Tables.{cells_total, same_cell}
use Rattle.lrp_zone.specs.Zones.{IsMember, IsZone, ZoneView, columns_of}
use Rattle.lrp_store.specs.Stores.{IsCellOf, IsStore, StoreView, tables_at, zone_of, zones_at}
use Rattle.lrp_store.proofs.Held.{cell_held, cell_or, held_of, zone_held}
use Rattle.lrp_store.specs.Reading.{entries_of}
use Rattle.lrp_spans.specs.Groups.{AppendsSpans, AreGroups, AreNumbersOf, HasSpanAt, HoldsNumber, IsSpanAt, IsSpanIn, SpanLists, group_cell}
use Rattle.lrp_spans.specs.Spans.{AreMergedSpans, SpansHaveNumber, IsSpan, IsSpanOf}
use Rattle.lrp_spans.specs.declared.spans.Span.{Span}
use Rattle.lrp_spans.proofs.Lists.{below_or, head_in, in_cons, in_none, in_one, later, one_in}
use Rattle.lrp_theory.proofs.Members.{from_map, in_map}

-- the list of one cell was put in its place
put : (lists : SpanLists) (c : Cell) (list : List Span) (q : Cell) → ((q ≡ c) × (list_at (finite.insert lists c list) q ≡ list)) ⊎ (list_at (finite.insert lists c list) q ≡ list_at lists q)
put lists c list q = elim (cell_or q c) [
  | inl e ↦ inl (e.0, ap (λ o. unwrap_or o []) (get-insert cells_total lists c list q ∙ ap (λ b. cond b (Some list) (get lists q)) e.1))
  | inr e ↦ inr (ap (λ o. unwrap_or o []) (get-insert cells_total lists c list q ∙ ap (λ b. cond b (Some list) (get lists q)) e.1))
]

-- a zone of a store of one column has one
pub zone_column : (s : StoreView) → IsStore s → s.shape.times ≡ 1 → (cell : Cell) (z : ZoneView) → Contains (zones_at s cell) z → columns_of z ≡ 1
zone_column s is one cell z h =
    let t = from_map (zone_of s cell) (tables_at s cell) z h in
    let p : IsCellOf s.shape s.period cell = cell_held s is cell t.0 t.1 in
    let n : length (take 1 cell.residues) ≡ 1 = (let e : length cell.residues ≡ 8 = p.residues.size in length-take-one cell.residues (omega (arith, e))) in
    ap columns_of (sym t.2) ∙ ap (λ k. length (take k cell.residues)) one ∙ n
  where
    length-take-one : (xs : List ℤ) → 1 ≤ length xs → length (take 1 xs) ≡ 1
    length-take-one [] l = absurd (omega arith)
    length-take-one (x ∷ xs) l = refl

pub zone_period : (s : StoreView) (cell : Cell) (z : ZoneView) → Contains (zones_at s cell) z → z.period ≡ s.period
zone_period s cell z h = let t = from_map (zone_of s cell) (tables_at s cell) z h in ap (λ v. v.period) (sym t.2)

pub appends_none : (group : Cell) (lists : SpanLists) → AppendsSpans group [] lists lists
appends_none group lists = record { to = λ g p h. inl h; kept = λ g p h. h; from = λ z h. absurd (in_none z h) }

-- the span of one more zone
module _ (group : Cell) (done : List ZoneView) (z : ZoneView) (span : Span) (is : IsSpanOf z span) (old now new : SpanLists)
    (added : new ≡ finite.insert now group (list_at now group ++ span ∷ [])) where
  keep : (g : Cell) (p : Span) → Contains (list_at now g) p → Contains (list_at new g) p
  keep g p h = subst (λ m. Contains (list_at m g) p) (sym added) (elim (put now group (list_at now group ++ span ∷ []) g) [
    | inl q ↦ subst (λ l. Contains l p) (sym q.1) (Contains-append_left (list_at now group) (span ∷ []) p (subst (λ c. Contains (list_at now c) p) q.0 h))
    | inr q ↦ subst (λ l. Contains l p) (sym q) h
  ])

  fresh : (g : Cell) (p : Span) → Contains (list_at new g) p → Contains (list_at now g) p ⊎ IsSpanAt group (done ++ z ∷ []) g p
  fresh g p h = elim (put now group (list_at now group ++ span ∷ []) g) [
    | inl q ↦ elim (Contains-append_cases (list_at now group) (span ∷ []) p (subst (λ l. Contains l p) q.1 (subst (λ m. Contains (list_at m g) p) added h))) [
      | inl a ↦ inl (subst (λ c. Contains (list_at now c) p) (sym q.0) a)
      | inr a ↦ inr (record { grouped = q.0; zone = z; listed = Contains-append_right done (z ∷ []) z (one_in z); is = subst (IsSpanOf z) (in_one span p a) is })
    ]
    | inr q ↦ inl (subst (λ l. Contains l p) q (subst (λ m. Contains (list_at m g) p) added h))
  ]

  here : Contains (list_at new group) span
  here = subst (λ m. Contains (list_at m group) span) (sym added) (elim (put now group (list_at now group ++ span ∷ []) group) [
    | inl q ↦ subst (λ l. Contains l span) (sym q.1) (Contains-append_right (list_at now group) (span ∷ []) span (one_in span))
    | inr q ↦ absurd (other q)
  ])
    where
      other : list_at (finite.insert now group (list_at now group ++ span ∷ [])) group ≡ list_at now group → ⊥
      other q = elim (put now group (list_at now group ++ span ∷ []) group) [
        | inl r ↦ longer (list_at now group) (sym r.1 ∙ q)
        | inr r ↦ elim (cell_or group group) [
          | inl t ↦ longer (list_at now group) (sym (ap (λ o. unwrap_or o []) (get-insert cells_total now group (list_at now group ++ span ∷ []) group
              ∙ ap (λ b. cond b (Some (list_at now group ++ span ∷ [])) (get now group)) t.1)) ∙ q)
          | inr t ↦ t.0 refl
        ]
      ]
        where
          longer : (xs : List Span) → xs ++ span ∷ [] ≡ xs → ⊥
          longer [] k = cc
          longer (x ∷ xs) k = longer xs (let l : xs ++ span ∷ [] ≡ xs = cc in l)

  appends_more : AppendsSpans group done old now → AppendsSpans group (done ++ z ∷ []) old new
  appends_more a = record {
    to = λ g p h. elim (fresh g p h) [
      | inl b ↦ elim (a.to g p b) [
        | inl c ↦ inl c
        | inr c ↦ inr (record { grouped = c.grouped; zone = c.zone; listed = Contains-append_left done (z ∷ []) c.zone c.listed; is = c.is })
      ]
      | inr b ↦ inr b
    ];
    kept = λ g p h. keep g p (a.kept g p h);
    from = λ w h. elim (Contains-append_cases done (z ∷ []) w h) [
      | inl b ↦ (let f = a.from w b in record { span = f.span; listed = keep group f.span f.listed; is = f.is })
      | inr b ↦ record { span = span; listed = here; is = subst (λ v. IsSpanOf v span) (in_one z w b) is }
    ];
  }

-- the spans of the zones that are not left
pub record IsAppending (group : Cell) (zones left : List ZoneView) (old now : SpanLists) : Type 0 where
  pub done : List ZoneView
  pub whole : done ++ left ≡ zones
  pub appended : AppendsSpans group done old now

pub appending_none : (group : Cell) (zones left : List ZoneView) (lists : SpanLists) → left ≡ zones → IsAppending group zones left lists lists
appending_none group zones left lists e = record { done = []; whole = e; appended = appends_none group lists }

pub appending_more : (group : Cell) (zones left : List ZoneView) (z : ZoneView) (rest : List ZoneView) → left ≡ z ∷ rest → (span : Span) → IsSpanOf z span → (old now new : SpanLists)
    → new ≡ finite.insert now group (list_at now group ++ span ∷ []) → IsAppending group zones left old now → IsAppending group zones rest old new
appending_more group zones left z rest e span is old now new added a = record {
  done = a.done ++ z ∷ [];
  whole = append_assoc a.done (z ∷ []) rest ∙ ap (λ l. a.done ++ l) (sym e) ∙ a.whole;
  appended = appends_more group a.done z span is old now new added a.appended;
}

pub appending_end : (group : Cell) (zones left : List ZoneView) (old now : SpanLists) → left ≡ [] → IsAppending group zones left old now → AppendsSpans group zones old now
appending_end group zones left old now e a = subst (λ zs. AppendsSpans group zs old now) (sym (append-nil a.done) ∙ ap (λ l. a.done ++ l) (sym e) ∙ a.whole) a.appended

-- a zone that is left is one of all
pub left_zone : (group : Cell) (zones left : List ZoneView) (z : ZoneView) (rest : List ZoneView) → left ≡ z ∷ rest → (old now : SpanLists) → IsAppending group zones left old now → Contains zones z
left_zone group zones left z rest e old now a = subst (λ zs. Contains zs z) (ap (λ l. a.done ++ l) (sym e) ∙ a.whole) (Contains-append_right a.done (z ∷ rest) z (head_in z rest))

-- the spans of the cells that are not left
pub record AreGathering (s : StoreView) (left : List (Cell × List ZoneView)) (lists : SpanLists) : Type 0 where
  pub entries : (e : Cell × List ZoneView) → Contains left e → e.1 ≡ zones_at s e.0
  pub to : (group : Cell) (span : Span) → Contains (list_at lists group) span → IsSpanIn s group span
  pub from : (cell : Cell) (zone : ZoneView) → Contains (zones_at s cell) zone → Contains left (cell, zones_at s cell) ⊎ HasSpanAt lists (group_cell cell) zone

-- the zones of a cell that is left
pub entry_zones : (s : StoreView) (cell : Cell) (zones : List ZoneView) (rest left : List (Cell × List ZoneView)) (lists : SpanLists) → left ≡ (cell, zones) ∷ rest → AreGathering s left lists → zones ≡ zones_at s cell
entry_zones s cell zones rest left lists e g = g.entries (cell, zones) (subst (λ l. Contains l (cell, zones)) (sym e) (head_in (cell, zones) rest))

-- the zones of a cell that is gathered next
pub entry_columns : (s : StoreView) → IsStore s → s.shape.times ≡ 1 → (cell : Cell) (zones : List ZoneView) (rest left : List (Cell × List ZoneView)) (lists : SpanLists) → left ≡ (cell, zones) ∷ rest → AreGathering s left lists → (z : ZoneView) → Contains zones z → IsZone z × (columns_of z ≡ 1)
entry_columns s is one cell zones rest left lists e g z h =
    let there : Contains (zones_at s cell) z = subst (λ zs. Contains zs z) (entry_zones s cell zones rest left lists e g) h in
    let t = from_map (zone_of s cell) (tables_at s cell) z there in
    (subst IsZone t.2 (zone_held s is cell t.0 t.1), zone_column s is one cell z there)

module _ (s : StoreView) (cell : Cell) (zones : List ZoneView) (rest left : List (Cell × List ZoneView)) (e : left ≡ (cell, zones) ∷ rest) (group : Cell) (named : group ≡ group_cell cell) (now new : SpanLists) (a : AppendsSpans group zones now new) (g : AreGathering s left now) where
  same : zones ≡ zones_at s cell
  same = entry_zones s cell zones rest left now e g

  here_too : (c : Cell) → cell ≡ c → (z : ZoneView) → Contains (zones_at s c) z → HasSpanAt new (group_cell c) z
  here_too c f z h = subst (λ d. HasSpanAt new d z) (named ∙ ap group_cell f) (a.from z (subst (λ zs. Contains zs z) (sym (same ∙ ap (zones_at s) f)) h))

  pub gathering_more : AreGathering s rest new
  gathering_more = record {
    entries = λ d h. g.entries d (subst (λ l. Contains l d) (sym e) (later (cell, zones) rest d h));
    to = λ q p h. elim (a.to q p h) [
      | inl b ↦ g.to q p b
      | inr b ↦ record { cell = cell; zone = b.zone; held = subst (λ zs. Contains zs b.zone) same b.listed; grouped = b.grouped ∙ named; is = b.is }
    ];
    from = λ c z h. elim (g.from c z h) [
      | inl b ↦ elim (in_cons (cell, zones) rest (c, zones_at s c) (subst (λ l. Contains l (c, zones_at s c)) e b)) [
        | inl f ↦ inr (here_too c (ap (λ d. d.0) f) z h)
        | inr f ↦ inl f
      ]
      | inr b ↦ inr (record { span = b.span; listed = a.kept (group_cell c) b.span b.listed; is = b.is })
    ];
  }

pub gathering_end : (s : StoreView) (left : List (Cell × List ZoneView)) (lists : SpanLists) → left ≡ [] → AreGathering s left lists → AreGroups s lists
gathering_end s left lists e g = record {
  to = g.to;
  from = λ c z h. elim (g.from c z h) [ inl b ↦ absurd (in_none (c, zones_at s c) (subst (λ l. Contains l (c, zones_at s c)) e b)) | inr b ↦ b ];
}

-- ---- what the spans of a group are
module _ (s : StoreView) (is : IsStore s) (one : s.shape.times ≡ 1) (lists : SpanLists) (groups : AreGroups s lists) (group : Cell) where
  pub group_valid : (p : Span) → Contains (list_at lists group) p → IsSpan (2 ^ 62) p
  group_valid p h = (groups.to group p h).is.valid

  pub group_below : (p : Span) → Contains (list_at lists group) p → p.residue < s.period
  group_below p h = let i = groups.to group p h in subst (λ k. p.residue < k) (zone_period s i.cell i.zone i.held) i.is.below

  group_to : (x : ℤ) → SpansHaveNumber s.period (list_at lists group) x → HoldsNumber s x (take s.shape.texts group.texts)
  group_to x h =
      let i = groups.to group h.inside.span h.inside.listed in
      let t = from_map (zone_of s i.cell) (tables_at s i.cell) i.zone i.held in
      let m = i.is.to h.turn (record { residue = refl; low = h.inside.is.low; high = h.inside.is.high }) in
      let e : pos h.inside.span.residue +ℤ (pos i.zone.period *ℤ h.turn) ≡ x =
      ap (λ k. pos h.inside.span.residue +ℤ (pos k *ℤ h.turn)) (zone_period s i.cell i.zone i.held) ∙ ap (λ r. pos r +ℤ (pos s.period *ℤ h.turn)) h.inside.is.residue ∙ sym h.is in
      record {
        cell = i.cell;
        table = t.0;
        held = t.1;
        named = ap (λ (c : Cell). take s.shape.texts c.texts) (sym i.grouped);
        inside = subst (λ z. IsMember z (x ∷ [])) (sym t.2) (subst (λ y. IsMember i.zone (y ∷ [])) e m);
      }

  -- the cells of one group have the same texts
  same_texts : (c d : Cell) → IsCellOf s.shape s.period c → IsCellOf s.shape s.period d → take s.shape.texts c.texts ≡ take s.shape.texts d.texts → c.texts ≡ d.texts
  same_texts c d p q e = ext_get_or 0 c.texts d.texts (p.texts.size ∙ sym q.texts.size) (λ i h. elim (below_or i s.shape.texts) [
    | inl l ↦ sym (get_or-take s.shape.texts c.texts i 0 l) ∙ ap (λ ms. get_or ms i 0) e ∙ get_or-take s.shape.texts d.texts i 0 l
    | inr l ↦ p.texts.zeros i l ∙ sym (q.texts.zeros i l)
  ])

  group_from : (p : Span) → Contains (list_at lists group) p → (x : ℤ) → HoldsNumber s x (take s.shape.texts group.texts) → SpansHaveNumber s.period (list_at lists group) x
  group_from p l x h =
      let i = groups.to group p l in
      let t = from_map (zone_of s i.cell) (tables_at s i.cell) i.zone i.held in
      let held : Contains (zones_at s h.cell) (zone_of s h.cell h.table) = in_map (zone_of s h.cell) (tables_at s h.cell) h.table h.held in
      let f = groups.from h.cell (zone_of s h.cell h.table) held in
      let named : take s.shape.texts h.cell.texts ≡ take s.shape.texts i.cell.texts = h.named ∙ ap (λ (c : Cell). take s.shape.texts c.texts) i.grouped in
      let same : h.cell.texts ≡ i.cell.texts = same_texts h.cell i.cell (cell_held s is h.cell h.table h.held) (cell_held s is i.cell t.0 t.1) named in
      let here : group_cell h.cell ≡ group = ap (λ ns. record { texts = ns; residues = replicate 8 (pos 0) }) same ∙ sym i.grouped in
      let m = f.is.from x h.inside in
      record { residue = f.span.residue; turn = m.0; is = m.1; inside = record { span = f.span; listed = subst (λ c. Contains (list_at lists c) f.span) here f.listed; is = m.2 } }

  pub group_numbers : (p : Span) → Contains (list_at lists group) p → AreNumbersOf (HoldsNumber s) (take s.shape.texts group.texts) s.period (list_at lists group)
  group_numbers p l = record { to = group_to; from = group_from p l }

-- ---- merged spans
pub merged_below : (k high : ℕ) (old new : List Span) → AreMergedSpans old new → ((p : Span) → Contains old p → IsSpan high p) → ((p : Span) → Contains old p → p.residue < k) → (p : Span) → Contains new p → p.residue < k
merged_below k high old new m valid below p l =
    let v : IsSpan high p = m.each high valid p l in
    let i = m.to p.residue v.turn (record { span = p; listed = l; is = v.is }) in
    subst (λ r. r < k) i.is.residue (below i.span i.listed)

-- a cell that has a zone is one of the keys
held_key : (s : StoreView) (c : Cell) (t : List (Option ℤ)) → Contains (tables_at s c) t → Contains (finite.keys s.tables) c
held_key s c t h = Contains-from_any same_cell c (finite.keys s.tables) (sym (contains_key-keys s.tables c) ∙ ap is_some (held_of s.tables c t h))

-- before the first cell
pub gathering_none : (s : StoreView) (left : List (Cell × List ZoneView)) (lists : SpanLists) → left ≡ entries_of s → lists ≡ finite.empty → AreGathering s left lists
gathering_none s left lists all none = record {
  entries = λ e h. (let t = from_map (λ c. (c, zones_at s c)) (finite.keys s.tables) e (subst (λ l. Contains l e) all h) in ap (λ d. d.1) (sym t.2) ∙ ap (λ (d : Cell × List ZoneView). zones_at s d.0) t.2);
  to = λ g p h. absurd (in_none p (subst (λ l. Contains l p) (ap (λ m. list_at m g) none ∙ ap (λ o. unwrap_or o []) (get-empty cell_cmp g)) h));
  from = λ c z h. (
      let t = from_map (zone_of s c) (tables_at s c) z h in
      inl (subst (λ l. Contains l (c, zones_at s c)) (sym all) (in_map (λ d. (d, zones_at s d)) (finite.keys s.tables) c (held_key s c t.0 t.1))));
}
