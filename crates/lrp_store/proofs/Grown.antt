-- How the parts of a set that calls add to a store come together.
use Rattle.std.proofs.Common.{◌≡◌, ℕ, ◌<◌, ◌≤◌, inl, inr, ◌⊎◌, List, [], ◌∷◌, ◌++◌, length, take, None, Result, Ok, Err, OnOk, OnErr, ◌↔◌, refl, sym, ap, subst, ◌∙◌, arith, Contains}
use Rattle.std.specs.Prelude.{ℤ, pos, ◌-ℤ◌}
use Rattle.std.proofs.lemmas.Bool.{cases_lt}
use Rattle.std.proofs.lemmas.List.{length-take-le}
use Rattle.lrp_theory.specs.Divides.{Divides}
use Rattle.lrp_theory.specs.Entries.{node}
use Rattle.std.specs.FinMap as finite
use Rattle.std.specs.FinMap.{get, len}
use Rattle.std.proofs.lemmas.List.Elements.{Contains-append_left, Contains-push, Contains-push_cases}
use Rattle.lrp_model.specs.declared.tuples.Cell.{Cell}
use Rattle.lrp_zone.specs.Zones.{ZoneView, IsZone, IsMember, greatest_of}
use Rattle.lrp_store.specs.Stores.{StoreView, IsStore, IsCellOf, IsPadded, InStore, IsInhabitedCell, zone_of, tables_at}
use Rattle.lrp_store.specs.Growing.{IsGrown, HasOneMore, IsRefused}
use Rattle.lrp_store.specs.declared.store.StoreFault.{StoreFault}
use Rattle.lrp_store.specs.declared.store.StoreFault.TheVariants.{TooManyCells}
use Rattle.lrp_store.proofs.Held.{Table, node_take, list_put, len_added, cell_of}

-- a set of tuples of times and numbers of texts
abbrev pub Set : Type 1
Set = List ℤ → List ℕ → Type 0

module _ (cap reach : ℕ) where
  -- nothing was added
  pub grown_same : (set : Set) (s : StoreView) → IsStore s → IsGrown set cap reach s s
  grown_same set s is = record { valid = is; shape = refl; period = refl; kept = λ xs ns h. h; sound = λ xs ns h. inl h; few = λ h. h; reach = λ n l r. r }

  -- then a part of the set was added
  pub grown_on : (p q : Set) (s t u : StoreView) → ((xs : List ℤ) (ns : List ℕ) → p xs ns → q xs ns) → IsGrown q cap reach s t → IsGrown p cap reach t u → IsGrown q cap reach s u
  grown_on p q s t u f g h = record {
    valid = h.valid;
    shape = h.shape ∙ g.shape;
    period = h.period ∙ g.period;
    kept = λ xs ns i. h.kept xs ns (g.kept xs ns i);
    sound = λ xs ns i. elim (h.sound xs ns i) [ inl j ↦ g.sound xs ns j | inr j ↦ inr (f xs ns j) ];
    few = λ i. h.few (g.few i);
    reach = λ n l r. h.reach n l (g.reach n l r);
  }

-- zones of a lesser reach were added
pub grown_within : (cap low high : ℕ) (set : Set) (s t : StoreView) → low ≤ high → IsGrown set cap low s t → IsGrown set cap high s t
grown_within cap low high set s t le g = record {
  valid = g.valid;
  shape = g.shape;
  period = g.period;
  kept = g.kept;
  sound = g.sound;
  few = g.few;
  reach = λ n l r. g.reach n (omega arith) r;
}

-- a cell that a part inhabits is inhabited by the set
pub inhabited_more : (p q : Set) (s : StoreView) (c : Cell) → ((xs : List ℤ) (ns : List ℕ) → p xs ns → q xs ns) → IsInhabitedCell s.shape s.period p c → IsInhabitedCell s.shape s.period q c
inhabited_more p q s c f i = record { proper = i.proper; times = i.times; texts = i.texts; is = f i.times i.texts i.is; inside = i.inside }

-- one cell too many for a part is one too many for the set
pub one_more_of : (cap : ℕ) (p q : Set) (s : StoreView) → ((xs : List ℤ) (ns : List ℕ) → p xs ns → q xs ns) → HasOneMore p cap s → HasOneMore q cap s
one_more_of cap p q s f m = record { cell = m.cell; inhabited = inhabited_more p q s m.cell f m.inhabited; apart = m.apart; full = m.full }

-- one zone was added to a cell
module _ (s : StoreView) (is : IsStore s) (c : Cell) (z : ZoneView) (zone : IsZone z) (period : z.period ≡ s.period) (residues : z.residues ≡ take s.shape.times c.residues) (proper : IsCellOf s.shape s.period c) (n : ℕ) where
  -- the store with one zone more
  abbrev pub grown : StoreView
  grown = record s { tables = finite.insert s.tables c (tables_at s c ++ z.bounds ∷ []); spare = n }

  -- the zone as it is seen in the store
  is_seen : zone_of s c z.bounds ≡ z
  is_seen = ap (λ k. record { period = k; residues = take s.shape.times c.residues; bounds = z.bounds }) (sym period) ∙ ap (λ rs. record { period = z.period; residues = rs; bounds = z.bounds }) (sym residues)

  -- what was held is held
  held_before : (q : Cell) (t : Table) → Contains (tables_at s q) t → Contains (tables_at grown q) t
  held_before q t h = elim (list_put s.tables c (tables_at s c ++ z.bounds ∷ []) q) [
    | inl e ↦ subst (λ list. Contains list t) (sym e.1) (Contains-append_left (tables_at s c) (z.bounds ∷ []) t (subst (λ d. Contains (tables_at s d) t) e.0 h))
    | inr e ↦ subst (λ list. Contains list t) (sym e.1) h
  ]

  -- what is held was held, or is the zone
  held_after : (q : Cell) (t : Table) → Contains (tables_at grown q) t → Contains (tables_at s q) t ⊎ ((q ≡ c) × (z.bounds ≡ t))
  held_after q t h = elim (list_put s.tables c (tables_at s c ++ z.bounds ∷ []) q) [
    | inl e ↦ elim (Contains-push_cases (tables_at s c) z.bounds t (subst (λ list. Contains list t) e.1 h)) [
      | inl i ↦ inl (subst (λ d. Contains (tables_at s d) t) (sym e.0) i)
      | inr i ↦ inr (e.0, i)
    ]
    | inr e ↦ inl (subst (λ list. Contains list t) e.1 h)
  ]

  -- the zone is held
  held_here : Contains (tables_at grown c) z.bounds
  held_here = elim (list_put s.tables c (tables_at s c ++ z.bounds ∷ []) c) [
    | inl e ↦ subst (λ list. Contains list z.bounds) (sym e.1) (Contains-push (tables_at s c) z.bounds)
    | inr e ↦ absurd (e.0 refl)
  ]

  -- its tuples are held
  pub holds_new : (xs : List ℤ) → IsMember z xs → InStore grown xs (take s.shape.texts c.texts)
  holds_new xs m = record { cell = c; table = z.bounds; held = held_here; named = refl; inside = subst (λ w. IsMember w xs) (sym is_seen) m }

  -- and where they are of a set, a part of that set was added
  pub grown_by : (cap reach : ℕ) (set : Set) → ((xs : List ℤ) → IsMember z xs → set xs (take s.shape.texts c.texts)) → (get s.tables c ≡ None → len s.tables < cap) → greatest_of z.bounds ≤ reach → IsStore grown → IsGrown set cap reach s grown
  grown_by cap reach set f room low valid = record {
    valid = valid;
    shape = refl;
    period = refl;
    kept = λ xs ns h. record { cell = h.cell; table = h.table; held = held_before h.cell h.table h.held; named = h.named; inside = h.inside };
    sound = λ xs ns h. elim (held_after h.cell h.table h.held) [
      | inl i ↦ inl (record { cell = h.cell; table = h.table; held = i; named = h.named; inside = h.inside })
      | inr i ↦ inr (subst (λ ms. set xs ms) (ap (λ d. take s.shape.texts d.texts) (sym i.0) ∙ h.named) (f xs (member xs h.cell h.table i.0 i.1 h.inside)))
    ];
    few = len_added s is c z.bounds proper (subst (λ w. IsZone w) (sym is_seen) zone) cap room;
    reach = λ n l r. record { each = λ q t h. elim (held_after q t h) [ inl i ↦ r.each q t i | inr i ↦ subst (λ y. greatest_of y ≤ n) i.1 (omega arith) ] };
  }
    where
      member : (xs : List ℤ) (q : Cell) (t : Table) → q ≡ c → z.bounds ≡ t → IsMember (zone_of s q t) xs → IsMember z xs
      member xs q t e f m = subst (λ w. IsMember w xs) (ap (λ d. zone_of s d t) e ∙ ap (zone_of s c) (sym f) ∙ is_seen) m

  -- and the set inhabits the cell
  pub inhabited_by : (set : Set) → ((xs : List ℤ) → IsMember z xs → set xs (take s.shape.texts c.texts)) → IsInhabitedCell s.shape s.period set c
  inhabited_by set f = record {
    proper = proper;
    times = zone.some.member;
    texts = take s.shape.texts c.texts;
    is = f zone.some.member zone.some.is;
    inside = record {
      count = zone.some.is.cell.count ∙ columns;
      residues = λ i low.
          let e : length z.residues ≡ s.shape.times = columns in
          subst (λ r. Divides (pos s.period) (node zone.some.member i -ℤ r)) (ap (λ rs. node rs i) residues ∙ node_take s.shape.times c.residues i low)
          (subst (λ k. Divides (pos k) (node zone.some.member i -ℤ node z.residues i)) period (zone.some.is.cell.each i (omega arith)));
      named = refl;
    };
  }
    where
      columns : length z.residues ≡ s.shape.times
      columns = ap length residues ∙ length-take-le s.shape.times c.residues (let t : s.shape.times ≤ 8 = is.times in let l : length c.residues ≡ 8 = proper.residues.size in omega arith)

-- the number of spare slots alone changed
grown_spare : (set : Set) (cap high : ℕ) (s : StoreView) (n : ℕ) → IsStore (record s { spare = n }) → IsGrown set cap high s (record s { spare = n })
grown_spare set cap high s n valid = record {
  valid = valid;
  shape = refl;
  period = refl;
  kept = λ xs ns h. record { cell = h.cell; table = h.table; held = h.held; named = h.named; inside = h.inside };
  sound = λ xs ns h. inl (record { cell = h.cell; table = h.table; held = h.held; named = h.named; inside = h.inside });
  few = λ h. h;
  reach = λ n l r. record { each = λ c t h. r.each c t h };
}

-- what a call that adds one zone of a set gives
module _ {T : Type 0} (s : StoreView) (is : IsStore s) (c : Cell) (z : ZoneView) (zone : IsZone z) (period : z.period ≡ s.period) (residues : z.residues ≡ take s.shape.times c.residues) (texts : IsPadded 0 s.shape.texts c.texts) (times : IsPadded (pos 0) s.shape.times c.residues)
    (cap high : ℕ) (set : Set) (of : (xs : List ℤ) → IsMember z xs → set xs (take s.shape.texts c.texts)) (low : greatest_of z.bounds ≤ high)
    (new : StoreView) (valid : IsStore new) (rest : new ≡ record s { tables = new.tables; spare = new.spare }) (r : Result T StoreFault) (exact : (r ≡ Err TooManyCells) ↔ ((get s.tables c ≡ None) × (cap ≤ len s.tables))) where
  -- the cell is of the shape and the period
  proper : IsCellOf s.shape s.period c
  proper = cell_of s is c z zone period residues texts times

  -- on success a part of the set was added
  pub added : OnOk r (new.tables ≡ finite.insert s.tables c (tables_at s c ++ z.bounds ∷ [])) → OnOk r (IsGrown set cap high s new × ((xs : List ℤ) → IsMember z xs → InStore new xs (take s.shape.texts c.texts)))
  added ok = by_result r refl ok
    where
      is_new : new.tables ≡ finite.insert s.tables c (tables_at s c ++ z.bounds ∷ []) → grown s is c z zone period residues proper new.spare ≡ new
      is_new e = ap (λ m. record s { tables = m; spare = new.spare }) (sym e) ∙ sym rest

      not_err : (x : T) → r ≡ Ok x → r ≡ Err TooManyCells → ⊥
      not_err x e f = cc

      by_result : (o : Result T StoreFault) → r ≡ o → OnOk o (new.tables ≡ finite.insert s.tables c (tables_at s c ++ z.bounds ∷ [])) → OnOk o (IsGrown set cap high s new × ((xs : List ℤ) → IsMember z xs → InStore new xs (take s.shape.texts c.texts)))
      by_result (Ok x) e h = (
        subst (λ v. IsGrown set cap high s v) (is_new h) (grown_by s is c z zone period residues proper new.spare cap high set of (λ none. elim (cases_lt (len s.tables) cap) [ inl less ↦ less | inr more ↦ absurd (not_err x e (exact.1 (none, more))) ]) low (subst (λ v. IsStore v) (sym (is_new h)) valid)),
        λ xs m. subst (λ v. InStore v xs (take s.shape.texts c.texts)) (is_new h) (holds_new s is c z zone period residues proper new.spare xs m),
      )
      by_result (Err x) e h = tt

  -- on a refusal the cell is one too many
  pub refused : OnErr r (new.tables ≡ s.tables) → r ≡ Err TooManyCells → IsRefused set cap high s new
  refused err e =
      let same : record s { spare = new.spare } ≡ new = ap (λ m. record s { tables = m; spare = new.spare }) (sym (subst (λ o. OnErr o (new.tables ≡ s.tables)) e err)) ∙ sym rest in
      let full = exact.0 e in
      subst (λ v. IsRefused set cap high s v) same (record {
        grown = grown_spare set cap high s new.spare (subst (λ v. IsStore v) (sym same) valid);
        more = record { cell = c; inhabited = inhabited_by s is c z zone period residues proper new.spare set of; apart = full.0; full = full.1 };
      })
