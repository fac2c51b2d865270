-- Rows of one settled cell stand beside each other as they may: none where there is no time, apart with one, and else only where their cell is no zone and neither lies within the other.
use Rattle.std.proofs.Common.{◌≡◌, ◌<◌, ◌∙◌, ℕ, zero, suc, List, [], ◌∷◌, Option, refl, sym, ap, subst, arith, length, map, take, get_or}
use Rattle.std.specs.Prelude.{ℤ, pos, ◌-ℤ◌, ◌↔◌, Contains, AllPairs}
use Rattle.std.specs.Cmp.Lexicographic.{nat_list_cmp_total}
use Rattle.std.specs.List.{AllByRecursion}
use Rattle.std.proofs.lemmas.Cmp.{tied_itself}
use Rattle.std.proofs.lemmas.List.{length-map}
use Rattle.std.proofs.lemmas.List.Elements.{Contains-get_or}
use Rattle.std.proofs.lemmas.Map.Lookups.{exact_bytes}
use Rattle.lrp_theory.specs.Divides.{Divides}
use Rattle.lrp_theory.specs.Entries.{node}
use Rattle.lrp_model.specs.AnswerTexts.{IsApart, IsOneZone as IsOneZoneOf, LiesWithin, MayStandBeside, OfOneCell}
use Rattle.lrp_model.specs.Rows.{Datum, times_of, texts_of, IsOf, MeetsBound}
use Rattle.lrp_model.specs.Texts.{Text, Ascends}
use Rattle.lrp_model.specs.Tuples.{in_head_order}
use Rattle.lrp_model.specs.declared.tuples.Cell.{Cell}
use Rattle.lrp_zone.specs.Zones.{ZoneView, IsZone, IsInCell, IsMember, columns_of}
use Rattle.lrp_zone.specs.Pairs.{IsOfCell, IsWithin}
use Rattle.lrp_store.specs.Least.{HasRoom, IsRoom}
use Rattle.lrp_store.specs.Settled.{AreIncomparable, AreSettled, InSome, AreOneZone, IsAntichain}
use Rattle.lrp_store.specs.Stores.{IsStore, LiesInCell, StoreView, tables_at, zone_of, zones_at}
use Rattle.lrp_store.specs.Tables.{AreTexts, InAnswer}
use Rattle.lrp_answers.specs.declared.answer.Answer.{Answer}
use Rattle.lrp_store.proofs.Counted.{lies_in, one_cell}
use Rattle.lrp_store.proofs.Held.{cell_held, node_take}
use Rattle.lrp_answer_text.specs.AnswerText.{cell_rows, answer_row, answer_rows}
use Rattle.lrp_answer_text.proofs.AnswerHolds.{in_answer, pairs_of_rows}
use Rattle.lrp_answer_text.proofs.AnswerRows.{cell_texts as row_texts, columns_are, from_row, row, row_tuple, values_of, with_times, zone, zone_is}
use Rattle.lrp_answer_text.proofs.Apart.{far_apart, has_of}
use Rattle.lrp_answer_text.proofs.Hull.{hull, hull_meets, is_one}
use Rattle.lrp_answer_text.proofs.Lists.{from_map, head_in, in_map, in_none}
use Rattle.lrp_answers.proofs.Orders.{less_equal, numbers_cmp}
use Rattle.lrp_answers.proofs.Cells.{cell_texts as numbered_texts}
use Rattle.lrp_answer_text.proofs.Rows.{rows_count}

-- what a list is mapped to, read at a place
pub map_read : {X Y : Type 0} (f : X → Y) (xs : List X) (i : ℕ) (d : Y) (e : X) → i < length xs → get_or (map f xs) i d ≡ f (get_or xs i e)
map_read f [] i d e l = absurd (omega arith)
map_read f (x ∷ xs) zero d e l = refl
map_read f (x ∷ xs) (suc i) d e l = map_read f xs i d e (omega arith)

-- texts of a domain have one list of numbers
one_numbers : (domain : List Text) → Ascends domain → (ns ms : List ℕ) (ts us : List Text) → AreTexts domain ns ts → AreTexts domain ms us → us ≡ ts → ns ≡ ms
one_numbers domain a ns ms ts us h k e =
    let k_same : AreTexts domain ms ts = subst (AreTexts domain ms) e k in
    exact_bytes ns ms (numbers_cmp domain a ns ms ts ts h k_same ∙ sym (numbers_cmp domain a ns ns ts ts h h) ∙ tied_itself nat_list_cmp_total ns)

module _ (a : Answer) (store : IsStore a.store) (ascends : Ascends a.domain) (room : HasRoom a.store) (answers : List Datum → Type 0) (same : (tuple : List Datum) → InAnswer a.head.columns a.domain a.store tuple ↔ answers tuple) (cell : Cell)
    (settled : (z : ZoneView) → Contains (zones_at a.store cell) z → AreSettled z (zones_at a.store cell)) where
  abbrev tables : List (List (Option ℤ))
  tables = tables_at a.store cell

  abbrev zones : List ZoneView
  zones = zones_at a.store cell

  zones_count : length zones ≡ length tables
  zones_count = length-map tables (zone_of a.store cell)

  listed : (i : ℕ) → i < length tables → Contains tables (get_or tables i [])
  listed i l = Contains-get_or tables i [] l

  zone_listed : (table : List (Option ℤ)) → Contains tables table → Contains zones (zone_of a.store cell table)
  zone_listed table h = in_map (zone_of a.store cell) tables table h

  zone_at : (i : ℕ) → i < length tables → (d : ZoneView) → get_or zones i d ≡ zone_of a.store cell (get_or tables i [])
  zone_at i l d = map_read (zone_of a.store cell) tables i d [] l

  -- ---- one column

  apart : (i j : ℕ) → i < j → j < length tables → a.store.shape.times ≡ 1 → IsApart a.store.period (answer_row a.head.columns a.domain a.store cell (get_or tables i [])) (answer_row a.head.columns a.domain a.store cell (get_or tables j []))
  apart i j il jl one t u ht hu =
      let ti = get_or tables i [] in
      let tj = get_or tables j [] in
      let hi = listed i (omega arith) in
      let hj = listed j jl in
      let zi = zone a store ascends cell ti hi in
      let zj = zone a store ascends cell tj hj in
      let oi : columns_of zi ≡ 1 = columns_are a store ascends cell ti hi ∙ one in
      let oj : columns_of zj ≡ 1 = columns_are a store ascends cell tj hj ∙ one in
      let vi = zone_is a store ascends cell ti hi in
      let vj = zone_is a store ascends cell tj hj in
      let ri = room.each cell ti hi in
      let rj = room.each cell tj hj in
      let x = from_row a store ascends cell ti hi t ht in
      let y = from_row a store ascends cell tj hj u hu in
      far_apart zones ((settled zi (zone_listed ti hi)).one oi) zi zj i j il (subst (λ n. j < n) (sym zones_count) jl) (zone_at i (omega arith)) (zone_at j jl) vi vj oi oj (record { period = refl; residues = refl }) ri.0 rj.0 ri.1 rj.1
      (node (times_of t) 1) (node (times_of u) 1) (has_of zi vi oi (times_of t) x.times) (has_of zj vj oj (times_of u) y.times)

  -- ---- more columns

  module _ (table : List (Option ℤ)) (held : Contains tables table) where
    -- what a tuple of the answer in this cell is in
    in_some : (tuple : List Datum) → InAnswer a.head.columns a.domain a.store tuple → IsInCell (zone a store ascends cell table held) (times_of tuple) → texts_of tuple ≡ row_texts a store ascends cell table held → InSome zones (times_of tuple)
    in_some tuple h times texts =
        let i = h.held.2 in
        let numbers = take a.store.shape.texts cell.texts in
        let n = columns_are a store ascends cell table held in
        let named : numbers ≡ h.held.0 = one_numbers a.domain ascends numbers h.held.0 (row_texts a store ascends cell table held) (texts_of tuple) (numbered_texts a.store cell table held a.domain a.numbered) h.held.1 texts in
        let here : LiesInCell a.store.shape a.store.period cell (times_of tuple) h.held.0 = lies a.store (times_of tuple) numbers h.held.0 times n named in
        let e : i.cell ≡ cell = one_cell a.store.shape a.store.period i.cell cell (times_of tuple) h.held.0 (cell_held a.store store i.cell i.table i.held) (cell_held a.store store cell table held) (lies_in a.store store (times_of tuple) h.held.0 i) here in
        let there : Contains (zones_at a.store i.cell) (zone_of a.store i.cell i.table) = in_map (zone_of a.store i.cell) (tables_at a.store i.cell) i.table i.held in
        subst (λ c. InSome (zones_at a.store c) (times_of tuple)) e (record { zone = zone_of a.store i.cell i.table; listed = there; inside = i.inside })
      where
        lies : (s : StoreView) (xs : List ℤ) (numbers ns : List ℕ) → IsInCell (zone_of s cell table) xs → columns_of (zone_of s cell table) ≡ s.shape.times → take s.shape.texts cell.texts ≡ ns → LiesInCell s.shape s.period cell xs ns
        lies s xs numbers ns times n named = record {
          count = times.count ∙ n;
          residues = λ i low. subst (λ r. Divides (pos s.period) (node xs i -ℤ r)) (node_take s.shape.times cell.residues i low) (times.each i (omega (arith, n, low)));
          named = named;
        }

    -- the zones where the cell's answers are those of one row
    module _ (h : IsOneZoneOf answers (answer_row a.head.columns a.domain a.store cell table)) (z : ZoneView) (ys : List ZoneView) (e : zones ≡ z ∷ ys) where
      is_listed : (y : ZoneView) → Contains (z ∷ ys) y → (t : List (Option ℤ)) × Contains tables t × (zone_of a.store cell t ≡ y)
      is_listed y k = from_map (zone_of a.store cell) tables y (subst (λ zs. Contains zs y) (sym e) k)

      valid : (y : ZoneView) → Contains (z ∷ ys) y → IsZone y
      valid y k = let t = is_listed y k in subst IsZone t.2 (zone_is a store ascends cell t.0 t.1)

      first_listed : (t : List (Option ℤ)) × Contains tables t × (zone_of a.store cell t ≡ z)
      first_listed = is_listed z (head_in z ys)

      cells : (y : ZoneView) → Contains (z ∷ ys) y → IsOfCell z y
      cells y k = let t = is_listed y k in record { period = sym (ap (λ v. v.period) t.2) ∙ ap (λ v. v.period) first_listed.2; residues = sym (ap (λ v. v.residues) t.2) ∙ ap (λ v. v.residues) first_listed.2 }

      space : (y : ZoneView) → Contains (z ∷ ys) y → (n : ℕ) × IsRoom y n
      space y k = let t = is_listed y k in let r = room.each cell t.0 t.1 in (r.0, subst (λ v. IsRoom v r.0) t.2 r.1)

      met : (xs : List ℤ) → InSome (z ∷ ys) xs → AllByRecursion (MeetsBound xs) h.bounds
      met xs s =
          let t = is_listed s.zone s.listed in
          let r = row_tuple a store ascends cell t.0 t.1 xs (subst (λ v. IsMember v xs) (sym t.2) s.inside) in
          let in_it : InAnswer a.head.columns a.domain a.store r.0 = in_answer a store ascends r.0 cell (row a store ascends cell t.0 t.1) (record { table = t.0; held = t.1; is = refl }) r.1 in
          subst (λ zs. AllByRecursion (MeetsBound zs) h.bounds) r.2 (((h.same r.0 r.1.values).0 ((same r.0).0 in_it)).bounds)

      cell_here : (xs : List ℤ) → IsInCell z xs → IsInCell (zone a store ascends cell table held) xs
      cell_here xs c = let d : IsInCell (zone_of a.store cell first_listed.0) xs = subst (λ v. IsInCell v xs) (sym first_listed.2) c in record { count = d.count; each = d.each }

      whole : (xs : List ℤ) → IsMember (hull z ys valid cells space) xs → InSome (z ∷ ys) xs
      whole xs m =
          let here : IsInCell (zone a store ascends cell table held) xs = cell_here xs (record { count = m.cell.count; each = m.cell.each }) in
          let tuple = in_head_order a.head.columns xs (row_texts a store ascends cell table held) in
          let t = with_times a store ascends cell table held xs here.count in
          let times : IsInCell (zone a store ascends cell table held) (times_of tuple) = subst (λ zs. IsInCell (zone a store ascends cell table held) zs) (sym t.times) here in
          let values : IsOf (row a store ascends cell table held).values tuple = values_of a store ascends cell table held tuple t.shape times t.texts in
          let bounds : AllByRecursion (MeetsBound (times_of tuple)) h.bounds = subst (λ zs. AllByRecursion (MeetsBound zs) h.bounds) (sym t.times) (hull_meets z ys valid cells space h.bounds met xs m) in
          let answer : InAnswer a.head.columns a.domain a.store tuple = (same tuple).1 ((h.same tuple values).1 (record { values = values; bounds = bounds })) in
          subst (λ zs. InSome zs xs) e (subst (InSome zones) t.times (in_some tuple answer times t.texts))

      made_one : (w : ZoneView) × IsOfCell (zone a store ascends cell table held) w × AreOneZone zones w
      made_one =
          let w = is_one z ys valid cells space whole in
          (w.0, record { period = w.1.period ∙ sym (ap (λ v. v.period) first_listed.2); residues = w.1.residues ∙ sym (ap (λ v. v.residues) first_listed.2) }, subst (λ zs. AreOneZone zs w.0) (sym e) w.2)

    -- where the cell's answers are those of one row, its zones are one
    one_zone : IsOneZoneOf answers (answer_row a.head.columns a.domain a.store cell table) → (w : ZoneView) × IsOfCell (zone a store ascends cell table held) w × AreOneZone zones w
    one_zone h = by zones refl
      where
        by : (zs : List ZoneView) → zones ≡ zs → (w : ZoneView) × IsOfCell (zone a store ascends cell table held) w × AreOneZone zones w
        by [] e = absurd (in_none (zone_of a.store cell table) (subst (λ zs. Contains zs (zone_of a.store cell table)) e (zone_listed table held)))
        by (z ∷ ys) e = made_one h z ys e

  -- a row that lies within another one is of a zone that lies within the zone of that
  zone_within : (t u : List (Option ℤ)) (ht : Contains tables t) (hu : Contains tables u) → LiesWithin (answer_row a.head.columns a.domain a.store cell t) (answer_row a.head.columns a.domain a.store cell u) → IsWithin (zone a store ascends cell t ht) (zone a store ascends cell u hu)
  zone_within t u ht hu w = record {
    each = λ xs m.
        let r = row_tuple a store ascends cell t ht xs m in
        subst (IsMember (zone a store ascends cell u hu)) r.2 (from_row a store ascends cell u hu r.0 (w r.0 r.1)).times;
  }

  incomparable : (i j : ℕ) → i < j → j < length tables → IsAntichain zones → AreIncomparable (zone_of a.store cell (get_or tables i [])) (zone_of a.store cell (get_or tables j []))
  incomparable i j il jl apart =
      let d = zone_of a.store cell [] in
      subst (λ v. AreIncomparable v (zone_of a.store cell (get_or tables j []))) (zone_at i (omega arith) d)
      (subst (AreIncomparable (get_or zones i d)) (zone_at j jl d) (apart i j d il (subst (λ n. j < n) (sym zones_count) jl)))

  -- ---- two rows of the cell

  beside_at : (i j : ℕ) → i < j → j < length tables → (m : ℕ) → a.store.shape.times ≡ m → MayStandBeside answers a.store.period m (answer_row a.head.columns a.domain a.store cell (get_or tables i [])) (answer_row a.head.columns a.domain a.store cell (get_or tables j []))
  beside_at i j il jl zero e =
      let hi = listed i (omega arith) in
      let one : length zones ≡ 1 = (settled (zone a store ascends cell (get_or tables i []) hi) (zone_listed (get_or tables i []) hi)).none (columns_are a store ascends cell (get_or tables i []) hi ∙ e) in
      let n : length zones ≡ length tables = zones_count in
      absurd (omega arith)
  beside_at i j il jl (suc zero) e = apart i j il jl e
  beside_at i j il jl (suc (suc m)) e =
      let ti = get_or tables i [] in
      let tj = get_or tables j [] in
      let hi = listed i (omega arith) in
      let hj = listed j jl in
      let c : columns_of (zone a store ascends cell ti hi) ≡ suc (suc m) = columns_are a store ascends cell ti hi ∙ e in
      let s = settled (zone a store ascends cell ti hi) (zone_listed ti hi) in
      let both = incomparable i j il jl (s.antichain (omega arith)) in
      record {
        many = λ h. let one : length zones ≡ 1 = (s.more (omega arith)).1 (one_zone ti hi h) in let n : length zones ≡ length tables = zones_count in absurd (omega arith);
        forth = λ w. both.forth (zone_within ti tj hi hj w);
        back = λ w. both.back (zone_within tj ti hj hi w);
      }

  pub cell_beside : AllPairs (λ r s. OfOneCell r s → MayStandBeside answers a.store.period a.store.shape.times r s) (cell_rows a.head.columns a.domain a.store cell)
  cell_beside i j d il jl o =
      let f = answer_row a.head.columns a.domain a.store cell in
      let n : j < length tables = subst (λ k. j < k) (rows_count a.head.columns a.domain a.store cell) jl in
      let ri : get_or (cell_rows a.head.columns a.domain a.store cell) i d ≡ f (get_or tables i []) = map_read f tables i d [] (omega arith) in
      let rj : get_or (cell_rows a.head.columns a.domain a.store cell) j d ≡ f (get_or tables j []) = map_read f tables j d [] n in
      subst (λ r. MayStandBeside answers a.store.period a.store.shape.times r (get_or (cell_rows a.head.columns a.domain a.store cell) j d)) (sym ri)
      (subst (λ s. MayStandBeside answers a.store.period a.store.shape.times (f (get_or tables i [])) s) (sym rj) (beside_at i j il n a.store.shape.times refl))

-- two rows of the answer
pub answer_beside : (a : Answer) → IsStore a.store → Ascends a.domain → HasRoom a.store → (answers : List Datum → Type 0) → ((tuple : List Datum) → InAnswer a.head.columns a.domain a.store tuple ↔ answers tuple)
    → ((cell : Cell) (z : ZoneView) → Contains (zones_at a.store cell) z → AreSettled z (zones_at a.store cell))
    → AllPairs (λ r s. OfOneCell r s → MayStandBeside answers a.store.period a.store.shape.times r s) (answer_rows a.head.columns a.domain a.store)
answer_beside a store ascends room answers same settled =
    pairs_of_rows a store ascends (λ r s. OfOneCell r s → MayStandBeside answers a.store.period a.store.shape.times r s)
    (λ cell. cell_beside a store ascends room answers same cell (settled cell))
    (λ r s l o. absurd (less_equal (sym l ∙ o)))
