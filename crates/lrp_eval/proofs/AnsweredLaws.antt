-- The settled store has the tuples of the last table.
use Rattle.std.proofs.Common.{◌≡◌, ◌↔◌, ◌≤◌, ◌<◌, ◌+◌, ◌*◌, ◌^◌, ℕ, zero, suc, List, [], ◌∷◌, length, take, Option, Some, None, IsSome, unwrap_or, Contains, refl, sym, ap, ap₂, subst, ◌∙◌, arith, to_z, of_z, w64}
use Rattle.std.proofs.Math.Nat.{pow-succ', mul-le-mul_right, mul-le-mul_left}
use Rattle.std.proofs.lemmas.Int.{ints}
use Rattle.std.proofs.lemmas.List.{length-take}
use Rattle.std.specs.Prelude.{ℤ, pos}
use Rattle.std.specs.FinMap as finite
use Rattle.lrp_model.specs.Texts.{Text}
use Rattle.lrp_model.specs.Rows.{Datum, times_of}
use Rattle.lrp_model.specs.Formulas.{Question}
use Rattle.lrp_model.specs.Domains.{constants}
use Rattle.lrp_model.specs.Satisfaction.{IsAnswer}
use Rattle.lrp_model.specs.Steps.{Steps}
use Rattle.lrp_model.specs.Plans.{query_reach}
use Rattle.lrp_model.specs.Sorts.{time_count}
use Rattle.lrp_model.specs.declared.relations.Column.{Column}
use Rattle.lrp_model.specs.declared.relations.Relation.{Relation}
use Rattle.lrp_model.specs.declared.plans.Plan.{Plan}
use Rattle.lrp_model.specs.declared.tuples.Cell.{Cell}
use Rattle.lrp_model.proofs.Decided.{contains_first, contains_none}
use Rattle.lrp_zone.specs.Zones.{ZoneView, IsMember, columns_of, reach_of}
use Rattle.lrp_zone.specs.Pairs.{IsOfCell}
use Rattle.lrp_store.specs.Stores.{StoreView, IsStore, InStore, HasReach, zone_of, tables_at, zones_at}
use Rattle.lrp_store.specs.Settled.{AreSettled, InSome}
use Rattle.lrp_store.specs.Tables.{AreNumbered, InAnswer}
use Rattle.lrp_tables.specs.declared.table.Table.{Table}
use Rattle.lrp_answers.specs.declared.answer.Answer.{Answer}
use Rattle.lrp_tables.proofs.HeadCounts.{columns_counted, times_counted}
use Rattle.lrp_cutting.specs.Settling.{IsSettlement, IsSmallZone}
use Rattle.lrp_cutting.specs.Differences.{greatest_reach}
use Rattle.lrp_cutting.proofs.LineLaws.{more_small}
use Rattle.lrp_cutting.proofs.Lists.{from_map, greatest_below, in_map}
use Rattle.lrp_eval.proofs.PlanEnds.{wide_last}
use Rattle.lrp_eval.specs.Counts.{HasCells}
use Rattle.lrp_eval.specs.Planned.{IsPlanOf, HasAnswers}
use Rattle.lrp_eval.specs.Settling.{CanSettle, IsSettledStore}
use Rattle.lrp_eval.specs.Answered.{IsAnswerOf}
use Rattle.lrp_eval.proofs.CellCounts.{no_fewer}

-- ---- bounds

pub fewer : {X : Type 0} (n : ℕ) (xs : List X) → length (take n xs) ≤ n
fewer n xs = omega (arith, length-take n xs)

power : (m : ℕ) → m + 1 ≤ 2 ^ (m + 1)
power zero = omega arith
power (suc m) = let r : m + 1 ≤ 2 ^ (m + 1) = power m in let e : 2 ^ (suc m + 1) ≡ 2 * 2 ^ (m + 1) = ap (λ i. 2 ^ i) (omega arith) ∙ pow-succ' 2 (m + 1) in omega arith

room : (c m r R K : ℕ) → c ≤ m → r ≤ R → K ≤ R → 2 ^ (m + 1) * R ≤ 2 ^ 62 → c * r + K ≤ 2 ^ 62
room c m r R K cm rR KR h =
    let a : c * r ≤ c * R = mul-le-mul_left c rR in
    let b : c * R ≤ m * R = mul-le-mul_right R cm in
    let d : (m + 1) * R ≤ 2 ^ (m + 1) * R = mul-le-mul_right R (power m) in
    omega arith

-- ---- the same cells

settled_as : (z w : ZoneView) (zs : List ZoneView) → IsOfCell z w → AreSettled z zs → AreSettled w zs
settled_as z w zs o h =
    let e : columns_of z ≡ columns_of w = ap length (sym o.residues) in
    record {
      none = λ k. h.none (e ∙ k);
      one = λ k. h.one (e ∙ k);
      more = λ lt.
          let m = h.more (subst (λ n. 1 < n) (sym e) lt) in (
            (λ l. let x = m.0 l in (x.0, record { period = x.1.period ∙ sym o.period; residues = x.1.residues ∙ sym o.residues }, x.2)),
            λ x. m.1 (x.0, record { period = x.1.period ∙ o.period; residues = x.1.residues ∙ o.residues }, x.2),
          );
      antichain = λ lt. h.antichain (subst (λ n. 1 < n) (sym e) lt);
    }

module _ (old new : StoreView) (h : IsSettledStore old new) where
  some_zone : (cell : Cell) (w : ZoneView) → Contains (zones_at new cell) w → (ts : List (List (Option ℤ))) → tables_at old cell ≡ ts → (z : ZoneView) × Contains (zones_at old cell) z
  some_zone cell w c [] e = absurd (let t = from_map (zone_of new cell) (tables_at new cell) w c in contains_none t.0 (subst (λ l. Contains l t.0) (h.only cell e) t.1))
  some_zone cell w c (t ∷ ts) e = (zone_of old cell t, in_map (zone_of old cell) (tables_at old cell) t (subst (λ l. Contains l t) (sym e) (contains_first t ts)))

  settlement : (cell : Cell) (w : ZoneView) → Contains (zones_at new cell) w → (z : ZoneView) × Contains (zones_at old cell) z × IsSettlement z (zones_at old cell) (zones_at new cell)
  settlement cell w c = let z = some_zone cell w c (tables_at old cell) refl in (z.0, z.1, h.cells cell z.0 z.1)

  to_old : (times : List ℤ) (texts : List ℕ) → InStore new times texts → InStore old times texts
  to_old times texts i =
      let w : Contains (zones_at new i.cell) (zone_of new i.cell i.table) = in_map (zone_of new i.cell) (tables_at new i.cell) i.table i.held in
      let s = settlement i.cell (zone_of new i.cell i.table) w in
      let x : InSome (zones_at old i.cell) times = s.2.to times (record { zone = zone_of new i.cell i.table; listed = w; inside = i.inside }) in
      let t = from_map (zone_of old i.cell) (tables_at old i.cell) x.zone x.listed in
      record { cell = i.cell; table = t.0; held = t.1; named = ap (λ sh. take sh.texts i.cell.texts) (sym h.shape) ∙ i.named; inside = subst (λ (z : ZoneView). IsMember z times) (sym t.2) x.inside }

  to_new : (times : List ℤ) (texts : List ℕ) → InStore old times texts → InStore new times texts
  to_new times texts i =
      let w : Contains (zones_at old i.cell) (zone_of old i.cell i.table) = in_map (zone_of old i.cell) (tables_at old i.cell) i.table i.held in
      let x : InSome (zones_at new i.cell) times = (h.cells i.cell (zone_of old i.cell i.table) w).from times (record { zone = zone_of old i.cell i.table; listed = w; inside = i.inside }) in
      let t = from_map (zone_of new i.cell) (tables_at new i.cell) x.zone x.listed in
      record { cell = i.cell; table = t.0; held = t.1; named = ap (λ sh. take sh.texts i.cell.texts) h.shape ∙ i.named; inside = subst (λ (z : ZoneView). IsMember z times) (sym t.2) x.inside }

  same_answers : (columns : List Column) (domain : List Text) (tuple : List Datum) → InAnswer columns domain new tuple ↔ InAnswer columns domain old tuple
  same_answers columns domain tuple = (
    (λ a. record { shape = a.shape; held = (a.held.0, a.held.1, to_old (times_of tuple) a.held.0 a.held.2) }),
    λ a. record { shape = a.shape; held = (a.held.0, a.held.1, to_new (times_of tuple) a.held.0 a.held.2) },
  )

  -- settled cells are as many as they were
  pub same_count : IsStore old → finite.len old.tables ≡ finite.len new.tables
  same_count is =
      let low : finite.len old.tables ≤ finite.len new.tables = no_fewer old new is h.valid h.shape h.period_is to_new in
      let high : finite.len new.tables ≤ finite.len old.tables = no_fewer new old h.valid is (sym h.shape) (sym h.period_is) to_old in
      omega arith

  held_in_old : (cell : Cell) (o p : Option (List (List (Option ℤ)))) → finite.get new.tables cell ≡ o → finite.get old.tables cell ≡ p → IsSome o → IsSome p
  held_in_old cell None p e f s = cc
  held_in_old cell (Some ts) (Some us) e f s = refl
  held_in_old cell (Some ts) None e f s = absurd ((h.valid.cells cell ts e).some (sym (ap (λ o. unwrap_or o []) e) ∙ h.only cell (ap (λ o. unwrap_or o []) f)))

  pub numbered_new : (domain : List Text) → AreNumbered domain old → AreNumbered domain new
  numbered_new domain n cell i s lt = n cell i (held_in_old cell (finite.get new.tables cell) (finite.get old.tables cell) refl refl s) (subst (λ sh. i < sh.texts) h.shape lt)

  pub settled_new : (cell : Cell) (w : ZoneView) → Contains (zones_at new cell) w → AreSettled w (zones_at new cell)
  settled_new cell w c = let s = settlement cell w c in settled_as s.0 w (zones_at new cell) (s.2.zones w c).1 s.2.settled

  small_new : (m R : ℕ) → old.shape.times ≡ m → HasReach old R → (cell : Cell) (w : ZoneView) → Contains (zones_at new cell) w → IsSmallZone w (m * R)
  small_new m R e r cell w c =
      let s = settlement cell w c in
      let t = from_map (zone_of old cell) (tables_at old cell) s.0 s.1 in
      let g : greatest_reach (zones_at old cell) ≤ R = greatest_below (zones_at old cell) R (λ z k. let u = from_map (zone_of old cell) (tables_at old cell) z k in subst (λ (v : ZoneView). reach_of v ≤ R) u.2 (r.each cell u.0 u.1)) in
      let f : columns_of s.0 ≤ m = subst (λ n. columns_of s.0 ≤ n) e (subst (λ (v : ZoneView). columns_of v ≤ old.shape.times) t.2 (fewer old.shape.times cell.residues)) in
      let a : columns_of s.0 * greatest_reach (zones_at old cell) ≤ columns_of s.0 * R = mul-le-mul_left (columns_of s.0) g in
      let b : columns_of s.0 * R ≤ m * R = mul-le-mul_right R f in
      more_small w (columns_of s.0 * greatest_reach (zones_at old cell)) (m * R) (omega arith) (s.2.small w c)

-- ---- the answer

module _ (planned : Steps) (db : List Relation) (q : Question) (p : Plan) (h : IsPlanOf planned db q p) (cap : ℕ) (table : Table) (a : HasAnswers planned db q cap table) (times : length table.vars.times ≡ table.store.shape.times) (texts : length table.vars.texts ≡ table.store.shape.texts) where
  times_are : time_count q.head ≡ table.store.shape.times
  times_are = times_counted q.head ∙ ap length (sym a.times) ∙ times

  pub can_settle : CanSettle table.store
  can_settle cell z k =
      let t = from_map (zone_of table.store cell) (tables_at table.store cell) z k in
      subst (λ (v : ZoneView). columns_of v * reach_of v + v.period ≤ 2 ^ 62) t.2
      (room (length (take table.store.shape.times cell.residues)) (time_count q.head) (reach_of (zone_of table.store cell t.0)) (query_reach planned) table.store.period
      (subst (λ n. length (take table.store.shape.times cell.residues) ≤ n) (sym times_are) (fewer table.store.shape.times cell.residues)) (a.reach.each cell t.0 t.1) (subst (λ k. k ≤ query_reach planned) (sym a.period) (wide_last h.sound)) h.reach)

  module _ (store : StoreView) (s : IsSettledStore table.store store) where
    pub head_times_are : time_count q.head ≡ store.shape.times
    head_times_are = times_are ∙ ap (λ sh. sh.times) (sym s.shape)

    pub head_columns_are : length q.head ≡ store.shape.times + store.shape.texts
    head_columns_are =
        columns_counted q.head ∙ ap₂ (λ m n. m + n) (ap length (sym a.times) ∙ times ∙ ap (λ sh. sh.times) (sym s.shape)) (ap length (sym a.texts) ∙ texts ∙ ap (λ sh. sh.texts) (sym s.shape))

    pub numbered_store : AreNumbered p.domain store
    numbered_store = subst (λ d. AreNumbered d store) (sym h.is.domain) (numbered_new table.store store s (constants db q) a.numbered)

    pub answer_of : IsStore table.store → (made : Answer) → made.head.columns ≡ q.head → made.domain ≡ constants db q → made.period ≡ pos store.period → made.store ≡ store → IsAnswerOf planned db q cap made
    answer_of is made head domain period same = record {
      head = head;
      domain = domain;
      period = period ∙ ap pos (s.period_is ∙ a.period);
      answers = λ tuple.
          subst (λ st. InAnswer made.head.columns made.domain st tuple ↔ IsAnswer db q tuple) (sym same)
          (subst (λ cs. InAnswer cs made.domain store tuple ↔ IsAnswer db q tuple) (sym head) (subst (λ d. InAnswer q.head d store tuple ↔ IsAnswer db q tuple) (sym domain)
          (let x = same_answers table.store store s q.head (constants db q) tuple in let y = a.answers tuple in ((λ i. y.0 (x.0 i)), λ i. x.1 (y.1 i)))));
      cells = subst (λ st. HasCells planned db q (length planned) (finite.len st.tables)) (sym same) (subst (HasCells planned db q (length planned)) (same_count table.store store s is) a.cells);
      settled = subst (λ st. (cell : Cell) (z : ZoneView) → Contains (zones_at st cell) z → AreSettled z (zones_at st cell)) (sym same) (settled_new table.store store s);
      small = subst (λ st. (cell : Cell) (z : ZoneView) → Contains (zones_at st cell) z → IsSmallZone z (time_count q.head * query_reach planned)) (sym same)
          (small_new table.store store s (time_count q.head) (query_reach planned) (sym times_are) a.reach);
      few = a.few;
    }

-- a period of 63 bits is its word
pub word_is : (p : ℕ) (z : ℤ) → z ≡ pos p → p ≤ 2 ^ 62 → to_z w64 (of_z w64 z) ≡ pos p
word_is p z e h = omega (arith, ints)
