-- Scans of rows in groups by their periods.
use Rattle.std.proofs.Common.{◌≡◌, ◌⊎◌, inl, inr, ⊎_elim, ℕ, ◌+◌, ◌^◌, ◌<◌, ◌≤◌, List, [], ◌∷◌, ◌++◌, length, take, map, flat_map, max, Contains, get_or, refl, sym, subst, ◌∙◌, arith, to_z, of_z, w64}
use Rattle.std.specs.Prelude.{ℤ, pos, nat_abs, IfOk, Result, Ok, Err}
use Rattle.std.specs.List.{AllByRecursion, AllZip}
use Rattle.std.proofs.lemmas.Int.{ints}
use Rattle.lrp_theory.specs.Divides.{Divides}
use Rattle.std.proofs.lemmas.List.{take_all}
use Rattle.std.proofs.lemmas.List.Elements.{Contains-append_cases, Contains-append_left, Contains-append_right}
use Rattle.lrp_theory.proofs.Members.{from_flat, front_more, head_in, in_cons, in_flat, in_none, in_one, later, one_in}
use Rattle.lrp_theory.proofs.Modulo.{Divides-self}
use Rattle.lrp_theory.proofs.Multiples.{Divides-trans}
use Rattle.lrp_model.specs.declared.relations.RowPoint.{RowPoint}
use Rattle.lrp_model.specs.Reach.{greatest, scan_reach}
use Rattle.lrp_model.specs.Sorts.{FitsColumn, text_count, time_count}
use Rattle.lrp_model.specs.Texts.{Text}
use Rattle.lrp_model.specs.Satisfaction.{Assignment}
use Rattle.lrp_model.specs.declared.formulas.Term.{Term}
use Rattle.lrp_model.specs.declared.relations.Column.{Column}
use Rattle.lrp_model.specs.declared.relations.Relation.{Relation}
use Rattle.lrp_model.specs.declared.relations.Row.{Row}
use Rattle.lrp_model.specs.declared.relations.Value.{Value}
use Rattle.lrp_model.specs.declared.relations.Value.TheVariants.{Point, Const}
use Rattle.lrp_store.specs.Stores.{HasReach, IsStore}
use Rattle.lrp_tables.specs.declared.table.Table.{Table}
use Rattle.lrp_tables.specs.Calls.{CanBeRow, CanStand}
use Rattle.lrp_tables.specs.Columns.{scan_times, scan_texts}
use Rattle.lrp_tables.specs.Steps.{CanScan}
use Rattle.lrp_tables.specs.Tables.{IsScanned, IsTableOf}
use Rattle.lrp_steps.specs.Rows.{DividesPeriod}
use Rattle.lrp_plan_laws.proofs.Members.{all_by, all_of}
use Rattle.lrp_periods.specs.Combining.{AreAllParts}
use Rattle.lrp_periods.specs.Parts.{ArePartsAdded, ArePartsOf, HasSome, IsPartOfSet, IsSmallPeriod}
use Rattle.lrp_periods.specs.Periods.{RowHasPeriods, IsCommonPeriod, IsOwnPeriod, IsRowPeriod, IsValuePeriod}
use Rattle.lrp_periods.specs.Scanning.{CanScanRows, CanScanSource, IsScannedIn, IsSplitBy}
use Rattle.lrp_periods.specs.declared.scans.Source.{Source}
use Rattle.lrp_periods.specs.declared.scans.SplitRows.{SplitRows}
use Rattle.lrp_periods.specs.declared.parts.PartsFault.{PartsFault}
use Rattle.lrp_periods.proofs.Gathering.{Set, parts_made, some_none}
use Rattle.lrp_periods.proofs.PartLaws.{checked_part, if_part}
use Rattle.lrp_periods.proofs.PeriodLaws.{one_own, own_high, own_within, own_word}

-- ---- the greatest of fewer numbers is no greater

greatest_most : (ns : List ℕ) (h : ℕ) → ((n : ℕ) → Contains ns n → n ≤ h) → greatest ns ≤ h
greatest_most [] h each = omega arith
greatest_most (n ∷ ns) h each = let a : n ≤ h = each n (head_in n ns) in let b : greatest ns ≤ h = greatest_most ns h (λ m k. each m (later n ns m k)) in omega arith

greatest_has : (ns : List ℕ) (n : ℕ) → Contains ns n → n ≤ greatest ns
greatest_has [] n k = absurd (in_none n k)
greatest_has (m ∷ ns) n k = elim (in_cons m ns n k) [
  | inl e ↦ subst (λ x. x ≤ max m (greatest ns)) e (omega arith)
  | inr l ↦ (let b : n ≤ greatest ns = greatest_has ns n l in omega arith)
]

abbrev magnitudes : Row → List ℕ
magnitudes row = map (λ bound. nat_abs bound.most) row.bounds

fewer_rows : (rows all : List Row) → ((row : Row) → Contains rows row → Contains all row) → greatest (flat_map magnitudes rows) ≤ greatest (flat_map magnitudes all)
fewer_rows rows all among = greatest_most (flat_map magnitudes rows) _ (λ n k. let f = from_flat magnitudes rows n k in greatest_has (flat_map magnitudes all) n (in_flat magnitudes all f.0 n (among f.0 f.1) f.2))

-- ---- a row of a period

stands_at : (domain : List Text) (period own : ℤ) (columns : List Column) (values : List Value) → AllZip (CanStand domain period) columns values → AllByRecursion (DividesPeriod own) values → AllZip (CanStand domain own) columns values
stands_at domain period own [] [] all of = tt
stands_at domain period own [] (v ∷ vs) all of = absurd all
stands_at domain period own (c ∷ cs) [] all of = absurd all
stands_at domain period own (c ∷ cs) (Point at ∷ vs) all of = ((all.0.0, of.0.0, of.0.1), stands_at domain period own cs vs all.1 of.1)
stands_at domain period own (c ∷ cs) (Const t ∷ vs) all of = (all.0, stands_at domain period own cs vs all.1 of.1)

periods_of : (domain : List Text) (period : ℤ) (columns : List Column) (values : List Value) → AllZip (CanStand domain period) columns values → AllByRecursion (DividesPeriod period) values
periods_of domain period [] [] all = tt
periods_of domain period [] (v ∷ vs) all = absurd all
periods_of domain period (c ∷ cs) [] all = absurd all
periods_of domain period (c ∷ cs) (Point at ∷ vs) all = ((all.0.1, all.0.2), periods_of domain period cs vs all.1)
periods_of domain period (c ∷ cs) (Const t ∷ vs) all = (tt, periods_of domain period cs vs all.1)

-- the points of a relation's rows have periods that divide the step's
pub has_periods : {domain : List Text} {period : ℤ} {relation : Relation} {terms : List Term} → CanScan domain period relation terms → (row : Row) → Contains relation.rows row → RowHasPeriods period row
has_periods {domain} {period} {relation} {terms} can row k = periods_of domain period relation.columns row.values (all_of (CanBeRow domain period relation.columns) relation.rows row can.rows k).values

-- ---- some rows

module _ {domain : List Text} {source : Source} {rows : List Row} {own : ℤ} (can : CanScanRows domain source rows own) where
  scan_small : nat_abs own ≤ 2 ^ 56
  scan_small = own_high source.period own can.source_is.period_is can.own_is

  pub can_scan_rows : (relation : Relation) → relation.columns ≡ source.relation.now.columns → relation.rows ≡ rows → CanScan domain own relation source.terms.now
  can_scan_rows relation columns same =
      let scan = can.source_is.scan in record {
        low = can.own_is.low;
        high = (let s = scan_small in let l = can.own_is.low in omega (arith, ints));
        times = subst (λ cs. time_count cs ≤ 8) (sym columns) scan.times;
        texts = subst (λ cs. text_count cs ≤ 8) (sym columns) scan.texts;
        rows = subst (λ rs. AllByRecursion (CanBeRow domain own relation.columns) rs) (sym same) (subst (λ cs. AllByRecursion (CanBeRow domain own cs) rows) (sym columns) (all_by _ rows (λ row k. row_at row k)));
        terms_fit = subst (λ cs. AllZip FitsColumn cs source.terms.now) (sym columns) scan.terms_fit;
        terms_known = scan.terms_known;
        apart = scan.apart;
        reach = subst (λ rs. scan_reach rs source.terms.now (nat_abs own) ≤ 2 ^ 62) (sym same) (let f = fewer_rows rows source.relation.now.rows can.among in let w = own_within source.period own can.source_is.period_is can.own_is in let r = scan.reach in omega arith);
      }
    where
      row_at : (row : Row) → Contains rows row → CanBeRow domain own source.relation.now.columns row
      row_at row k =
          let whole = all_of (CanBeRow domain source.period source.relation.now.columns) source.relation.now.rows row can.source_is.scan.rows (can.among row k) in
          record { values = stands_at domain source.period own source.relation.now.columns row.values whole.values (can.periods row k).values; bounds = whole.bounds }

  pub scanned_rows : {k : ℤ} {relation : Relation} {made : Table} → k ≡ own → relation.rows ≡ rows → (r : Result Table PartsFault) → IsTableOf domain (scan_times source.terms.now) (scan_texts source.terms.now) (nat_abs k) (IsScanned domain relation source.terms.now) made
      → IfOk r (λ m. m ≡ made) → IfOk r (λ m. IsStore m.store) → IfOk r (λ m. HasReach m.store (2 ^ 59))
      → IfOk r (IsPartOfSet domain (scan_times source.terms.now) (scan_texts source.terms.now) source.period (IsScannedIn domain source rows))
  scanned_rows {k} {relation} {made} e same r table ok valid reach = if_part _ _ _ _ _ _ r
      (λ env h. record { known = h.known; row = h.row; listed = subst (λ rs. Contains rs h.row) same h.listed; is = h.is })
      (λ env h. record { known = h.known; row = h.row; listed = subst (λ rs. Contains rs h.row) (sym same) h.listed; is = h.is })
      (checked_part r (subst (λ z. IsTableOf domain (scan_times source.terms.now) (scan_texts source.terms.now) (nat_abs z) (IsScanned domain relation source.terms.now) made) e table) can.own_is.low can.own_is.divides ok valid reach)

-- ---- groups of rows

module _ {domain : List Text} {source : Source} (can : CanScanSource domain source) where
  abbrev pub Scans : Set
  Scans = IsScanned domain source.relation.now source.terms.now

  -- the parts have what the rows have that are no more left
  pub record IsGrouping (parts : List Table) (left : List Row) : Type 0 where
    pub few : length parts ≤ 16
    pub each : AreAllParts domain (scan_times source.terms.now) (scan_texts source.terms.now) source.period parts
    pub sound : (env : Assignment) → HasSome domain parts env → IsScanned domain source.relation.now source.terms.now env
    pub whole : (env : Assignment) → IsScanned domain source.relation.now source.terms.now env → HasSome domain parts env ⊎ IsScannedIn domain source left env
    pub among : (row : Row) → Contains left row → Contains source.relation.now.rows row

  pub grouping_none : {parts : List Table} {left : List Row} → parts ≡ [] → left ≡ source.relation.now.rows → IsGrouping parts left
  grouping_none {parts} {left} e f = subst (λ ps. IsGrouping ps left) (sym e) (record {
    few = omega arith;
    each = λ part k. absurd (in_none part k);
    sound = λ env h. absurd (some_none domain env h);
    whole = λ env h. inr (record { known = h.known; row = h.row; listed = subst (λ rs. Contains rs h.row) (sym f) h.listed; is = h.is });
    among = λ row k. subst (λ rs. Contains rs row) f k;
  })

  pub grouping_rows : {parts : List Table} {left : List Row} {own : ℤ} {split : SplitRows} → IsGrouping parts left → IsOwnPeriod source.period own → IsSplitBy source.period own left split → CanScanRows domain source split.same own
  grouping_rows g own s = record { source_is = can; own_is = own; among = λ row k. g.among row (s.same row k).0; periods = λ row k. (s.same row k).1 }

  pub grouping_more : {parts new : List Table} {left : List Row} {own : ℤ} {split : SplitRows} → IsGrouping parts left → IsSplitBy source.period own left split
      → ArePartsAdded domain (scan_times source.terms.now) (scan_texts source.terms.now) source.period (IsScannedIn domain source split.same) parts new → IsGrouping new split.others
  grouping_more {parts} {new} {left} {own} {split} g s a = record {
    few = a.few g.few;
    each = a.each g.each;
    sound = λ env h. ⊎_elim (λ o. g.sound env o) (λ n. record { known = n.known; row = n.row; listed = g.among n.row (s.same n.row n.listed).0; is = n.is }) (a.sound env h);
    whole = λ env h. ⊎_elim (λ o. inl (a.from_old env o)) (λ n. ⊎_elim (λ k. inl (a.from_set env (record { known = n.known; row = n.row; listed = k; is = n.is }))) (λ k. inr (record { known = n.known; row = n.row; listed = k; is = n.is })) (s.all n.row n.listed)) (g.whole env h);
    among = λ row k. g.among row (s.others row k);
  }

  pub grouping_done : {parts : List Table} {left : List Row} → left ≡ [] → 0 < length parts → IsGrouping parts left → ArePartsOf domain (scan_times source.terms.now) (scan_texts source.terms.now) source.period (IsScanned domain source.relation.now source.terms.now) parts
  grouping_done {parts} {left} e some g = parts_made (record {
    few = λ h. g.few;
    each = λ h. g.each;
    sound = λ env h. inr (g.sound env h);
    from_old = λ env h. absurd (some_none domain env h);
    from_set = λ env h. ⊎_elim (λ o. o) (λ n. absurd (in_none n.row (subst (λ rs. Contains rs n.row) e n.listed))) (g.whole env h);
  }) some

-- all rows are a group
pub all_rows : {domain : List Text} {source : Source} {own : ℤ} → CanScanSource domain source → IsOwnPeriod source.period own → ((row : Row) → Contains source.relation.now.rows row → IsRowPeriod source.period row own) → CanScanRows domain source source.relation.now.rows own
all_rows can own all = record { source_is = can; own_is = own; among = λ row k. k; periods = all }

-- ---- the period of a row

-- the period of the first values
pub record ArePeriodsOf (whole : ℤ) (values : List Value) (own : ℤ) : Type 0 where
  pub own_is : IsOwnPeriod whole own
  pub each : (value : Value) → Contains values value → DividesPeriod own value

divides_on : (own new : ℤ) (value : Value) → DividesPeriod own value → Divides own new → DividesPeriod new value
divides_on own new (Point at) h d = (h.0, Divides-trans at.period own new h.1 d)
divides_on own new (Const t) h d = tt

pub values_none : (whole own : ℤ) (values : List Value) (n : ℕ) → n ≡ 0 → own ≡ pos 1 → ArePeriodsOf whole (take n values) own
values_none whole own values n e f = subst (ArePeriodsOf whole (take n values)) (sym f) (record { own_is = one_own; each = λ value k. absurd (in_none value (subst (λ m. Contains (take m values) value) e k)) })

pub values_more : (whole own new : ℤ) (values : List Value) (n : ℕ) (value : Value) → n < length values → value ≡ get_or values n value → ArePeriodsOf whole (take n values) own → IsOwnPeriod whole new → Divides own new → DividesPeriod new value → ArePeriodsOf whole (take (n + 1) values) new
values_more whole own new values n value low at h is d v = subst (λ vs. ArePeriodsOf whole vs new) (sym (front_more values n value low at)) (record {
  own_is = is;
  each = λ other k. elim (Contains-append_cases (take n values) (value ∷ []) other k) [
    | inl a ↦ divides_on own new other (h.each other a) d
    | inr b ↦ subst (DividesPeriod new) (in_one value other b) v
  ];
})

-- a text adds nothing
pub values_text : (whole own : ℤ) (values : List Value) (n : ℕ) (value : Value) (t : Text) → n < length values → value ≡ get_or values n value → value ≡ Const t → ArePeriodsOf whole (take n values) own → ArePeriodsOf whole (take (n + 1) values) own
values_text whole own values n value t low at e h = values_more whole own own values n value low at h h.own_is (Divides-self own) (subst (DividesPeriod own) (sym e) tt)

pub values_all : (whole own : ℤ) (row : Row) (n : ℕ) → length row.values ≤ n → ArePeriodsOf whole (take n row.values) own → IsRowPeriod whole row own
values_all whole own row n high h = record { own = h.own_is; values = all_by (DividesPeriod own) row.values (λ value k. h.each value (subst (λ vs. Contains vs value) (sym (take_all n row.values high)) k)) }

-- a point of a row has a period that divides the step's
pub point_own : (whole : ℤ) (row : Row) (value : Value) (at : RowPoint) → RowHasPeriods whole row → Contains row.values value → value ≡ Point at → IsOwnPeriod whole at.period
point_own whole row value at has k e = let d : DividesPeriod whole (Point at) = subst (DividesPeriod whole) e (all_of (DividesPeriod whole) row.values value has k) in record { low = d.0; divides = d.1 }

-- ---- rows are split

pub split_none : (whole own : ℤ) (rows : List Row) (n : ℕ) (same others : List Row) → n ≡ 0 → same ≡ [] → others ≡ [] → IsSplitBy whole own (take n rows) (record { same = same; others = others })
split_none whole own rows n same others e f g = record {
  same = λ row k. absurd (in_none row (subst (λ rs. Contains rs row) f k));
  others = λ row k. absurd (in_none row (subst (λ rs. Contains rs row) g k));
  all = λ row k. absurd (in_none row (subst (λ m. Contains (take m rows) row) e k));
}

row_pushed : (xs : List Row) (x y : Row) → Contains (xs ++ x ∷ []) y → Contains xs y ⊎ (x ≡ y)
row_pushed xs x y k = elim (Contains-append_cases xs (x ∷ []) y k) [ inl a ↦ inl a | inr b ↦ inr (in_one x y b) ]

pub split_same : (whole own : ℤ) (rows : List Row) (n : ℕ) (row copy : Row) (same new others : List Row) → n < length rows → row ≡ get_or rows n row → copy ≡ row → IsRowPeriod whole row own → new ≡ same ++ copy ∷ []
    → IsSplitBy whole own (take n rows) (record { same = same; others = others }) → IsSplitBy whole own (take (n + 1) rows) (record { same = new; others = others })
split_same whole own rows n row copy same new others low at c is e s = subst (λ rs. IsSplitBy whole own rs (record { same = new; others = others })) (sym (front_more rows n row low at)) (record {
  same = λ r k. ⊎_elim (λ a. (Contains-append_left (take n rows) (row ∷ []) r (s.same r a).0, (s.same r a).1)) (λ b. (subst (Contains (take n rows ++ row ∷ [])) (sym c ∙ b) (Contains-append_right (take n rows) (row ∷ []) row (one_in row)), subst (λ x. IsRowPeriod whole x own) (sym c ∙ b) is)) (row_pushed same copy r (subst (λ rs. Contains rs r) e k));
  others = λ r k. Contains-append_left (take n rows) (row ∷ []) r (s.others r k);
  all = λ r k. ⊎_elim (λ a. ⊎_elim (λ x. inl (subst (λ rs. Contains rs r) (sym e) (Contains-append_left same (copy ∷ []) r x))) (λ y. inr y) (s.all r a)) (λ b. inl (subst (λ rs. Contains rs r) (sym e) (subst (Contains (same ++ copy ∷ [])) (c ∙ b) (Contains-append_right same (copy ∷ []) copy (one_in copy))))) (row_pushed (take n rows) row r k);
})

pub split_other : (whole own : ℤ) (rows : List Row) (n : ℕ) (row copy : Row) (same others new : List Row) → n < length rows → row ≡ get_or rows n row → copy ≡ row → new ≡ others ++ copy ∷ []
    → IsSplitBy whole own (take n rows) (record { same = same; others = others }) → IsSplitBy whole own (take (n + 1) rows) (record { same = same; others = new })
split_other whole own rows n row copy same others new low at c e s = subst (λ rs. IsSplitBy whole own rs (record { same = same; others = new })) (sym (front_more rows n row low at)) (record {
  same = λ r k. (Contains-append_left (take n rows) (row ∷ []) r (s.same r k).0, (s.same r k).1);
  others = λ r k. ⊎_elim (λ a. Contains-append_left (take n rows) (row ∷ []) r (s.others r a)) (λ b. subst (Contains (take n rows ++ row ∷ [])) (sym c ∙ b) (Contains-append_right (take n rows) (row ∷ []) row (one_in row))) (row_pushed others copy r (subst (λ rs. Contains rs r) e k));
  all = λ r k. ⊎_elim (λ a. ⊎_elim (λ x. inl x) (λ y. inr (subst (λ rs. Contains rs r) (sym e) (Contains-append_left others (copy ∷ []) r y))) (s.all r a)) (λ b. inr (subst (λ rs. Contains rs r) (sym e) (subst (Contains (others ++ copy ∷ [])) (c ∙ b) (Contains-append_right others (copy ∷ []) copy (one_in copy))))) (row_pushed (take n rows) row r k);
})

pub split_all : (whole own : ℤ) (rows : List Row) (n : ℕ) (made : SplitRows) → length rows ≤ n → IsSplitBy whole own (take n rows) made → IsSplitBy whole own rows made
split_all whole own rows n made high s = subst (λ rs. IsSplitBy whole own rs made) (take_all n rows high) s

-- ---- all rows have a period

pub have_none : (whole own : ℤ) (rows : List Row) (row : Row) → Contains (take 0 rows) row → IsRowPeriod whole row own
have_none whole own rows row k = absurd (in_none row k)

pub have_more : (whole own : ℤ) (rows : List Row) (n : ℕ) (row : Row) → n < length rows → row ≡ get_or rows n row → IsRowPeriod whole row own → ((r : Row) → Contains (take n rows) r → IsRowPeriod whole r own) → (r : Row) → Contains (take (n + 1) rows) r → IsRowPeriod whole r own
have_more whole own rows n row low at is first r k = ⊎_elim (λ a. first r a) (λ b. subst (λ x. IsRowPeriod whole x own) b is) (row_pushed (take n rows) row r (subst (λ rs. Contains rs r) (front_more rows n row low at) k))

pub have_all : (whole own : ℤ) (rows : List Row) (n : ℕ) → length rows ≤ n → ((r : Row) → Contains (take n rows) r → IsRowPeriod whole r own) → (r : Row) → Contains rows r → IsRowPeriod whole r own
have_all whole own rows n high first r k = first r (subst (λ rs. Contains rs r) (sym (take_all n rows high)) k)

-- a list of no rows
no_rows : (rows : List Row) → length rows ≡ 0 → rows ≡ []
no_rows [] e = refl
no_rows (row ∷ rows) e = absurd (omega arith)

pub grouping_ok : {domain : List Text} {source : Source} (can : CanScanSource domain source) {parts : List Table} {left : List Row} (r : Result (List Table) PartsFault) → IfOk r (λ made. made ≡ parts) → IfOk r (λ made. 0 < length made) → length left ≡ 0 → IsGrouping can parts left
    → IfOk r (ArePartsOf domain (scan_times source.terms.now) (scan_texts source.terms.now) source.period (IsScanned domain source.relation.now source.terms.now))
grouping_ok can {parts} {left} (Ok made) same some none g = grouping_done can (no_rows left none) some (subst (λ ps. IsGrouping can ps left) (sym same) g)
grouping_ok can (Err fault) same some none g = tt

-- the rows that are left have periods that divide the step's
pub left_periods : {domain : List Text} {source : Source} (can : CanScanSource domain source) {parts : List Table} {left : List Row} → IsGrouping can parts left → (row : Row) → Contains left row → RowHasPeriods source.period row
left_periods can g row k = has_periods can.scan row (g.among row k)

-- ---- values in the word of the period

pub point_is : {whole : ℤ} {value : Value} {at : RowPoint} → DividesPeriod whole value → value ≡ Point at → IsOwnPeriod whole at.period
point_is {whole} {value} {at} d e = let h : DividesPeriod whole (Point at) = subst (DividesPeriod whole) e d in record { low = h.0; divides = h.1 }

pub value_point : {whole own k : ℤ} {value : Value} {at : RowPoint} → DividesPeriod whole value → value ≡ Point at → IsCommonPeriod own at.period whole k → IsValuePeriod whole own value k
value_point {whole} {own} {k} {value} {at} d e is = record { own_is = is.own; of_own = is.of_left; of_value = subst (DividesPeriod k) (sym e) ((point_is d e).low, is.of_right) }

pub value_text : {whole own : ℤ} {value : Value} {t : Text} → value ≡ Const t → IsOwnPeriod whole own → IsValuePeriod whole own value own
value_text {whole} {own} {value} {t} e is = record { own_is = is; of_own = Divides-self own; of_value = subst (DividesPeriod own) (sym e) tt }

pub value_word : {whole own k : ℤ} {value : Value} → IsSmallPeriod whole → IsValuePeriod whole own value k → IsValuePeriod whole own value (to_z w64 (of_z w64 k))
value_word {whole} {own} {k} {value} small is = subst (IsValuePeriod whole own value) (sym (own_word small is.own_is)) is

pub row_word : {whole k : ℤ} {row : Row} → IsSmallPeriod whole → IsRowPeriod whole row k → IsRowPeriod whole row (to_z w64 (of_z w64 k))
row_word {whole} {k} {row} small is = subst (IsRowPeriod whole row) (sym (own_word small is.own)) is

-- a row whose period is the same word
pub row_same : {whole k own : ℤ} {row : Row} → IsSmallPeriod whole → IsRowPeriod whole row k → to_z w64 (of_z w64 k) ≡ own → IsRowPeriod whole row own
row_same {whole} {k} {own} {row} small is e = subst (IsRowPeriod whole row) e (row_word small is)
