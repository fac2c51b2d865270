-- What a written database without faults means is kept.
use Rattle.std.proofs.Common.{◌≡◌, ◌<◌, ◌≤◌, ◌+◌, ℕ, ℤ, Bool, true, false, not, ◌==◌, if◌then◌else◌, List, [], ◌∷◌, ◌++◌, length, map, refl, ap, subst, arith}
use Rattle.std.specs.Prelude.{◌≤ℤ◌, pos, neg_ℤ}
use Rattle.std.proofs.lemmas.Int.{ints}
use Rattle.std.specs.List.{flat_map, AllByRecursion}
use Rattle.std.specs.Str.{bytes_eq}
use Rattle.std.proofs.lemmas.Bool.Decides.{nat_tests}
use Rattle.lrp_model.specs.Texts.{Identifier, AreDistinct}
use Rattle.lrp_model.specs.Limits.{greatest_number}
use Rattle.lrp_model.specs.Sorts.{is_time, time_count}
use Rattle.lrp_model.specs.Databases.{FitsValue, FitsSide, FitsBound, FitsRow, FitsDatabase}
use Rattle.lrp_model.specs.Faults.{fault_if, repeated}
use Rattle.lrp_model.specs.DatabaseMeaning.{signed, integer_of, column_of, time_number, value_of, kept, value_bounds, instant_bounds, side_bounds, kept_bounds, row_of, relation_of, database_of}
use Rattle.lrp_model.specs.DatabaseFaults.{database_fault, suits, wrong_sorts, unknown, side_faults, row_faults, relation_faults, database_faults}
use Rattle.lrp_model.specs.declared.raw.RawColumn.{RawColumn}
use Rattle.lrp_model.specs.declared.relations.Bound.{Bound}
use Rattle.lrp_model.specs.declared.written.Located.{Located}
use Rattle.lrp_model.specs.declared.written.WrittenValue.{WrittenValue}
use Rattle.lrp_model.specs.declared.written.WrittenValue.TheVariants.{Constant, Instant, Point}
use Rattle.lrp_model.specs.declared.written.BoundOp.{BoundOp}
use Rattle.lrp_model.specs.declared.written.BoundOp.TheVariants.{AtMost, AtLeast, Equal}
use Rattle.lrp_model.specs.declared.written.Side.{Side}
use Rattle.lrp_model.specs.declared.written.Side.TheVariants.{Alone, Column as side_column, Shifted}
use Rattle.lrp_model.specs.declared.written.RawBound.{RawBound}
use Rattle.lrp_model.specs.declared.written.RawRow.{RawRow}
use Rattle.lrp_model.specs.declared.written.RawRelation.{RawRelation}
use Rattle.lrp_model.specs.declared.faults.DbKind.TheVariants.{Name, Arity, Sort, Column as column_kind}
use Rattle.lrp_model.specs.Kept.{IsValueOf, AreValuesOf, IsBoundOf, IsRowOf, IsKept, AreKept}
use Rattle.lrp_rel.specs.Times.{points_in, point_count, HasMeaning}
use Rattle.lrp_rel.proofs.FaultWalks.{bound_faults}
use Rattle.lrp_rel.proofs.NameLemmas.{IsNamedRelation}
use Rattle.lrp_rel.proofs.TreeTexts.{HasText, RowHasTexts, HasTexts}
use Rattle.lrp_rel.proofs.SoundLemmas.{first_empty, second_empty, no_fault_if, each_empty, differ, columns_differ, columns_few, rows_sound, row_many, row_suits, points_many, times_more, turned_false}

-- ---- values

-- a value that suits its column is one of it
one_kept : (v : WrittenValue) (c : RawColumn) → suits v c ≡ true → FitsValue v → HasText v → IsValueOf (column_of c) (value_of v)
one_kept (Constant t) c e fits text = (turned (is_time c.sort) e, record { fits = text.1 fits; utf8 = text.0 })
  where
    turned : (b : Bool) → not b ≡ true → b ≡ false
    turned false h = refl
    turned true h = absurd cc
one_kept (Instant i) c e fits text = (e, omega (arith, ints), omega (arith, ints))
one_kept (Point i k) c e fits text = (e, omega (arith, ints, fits.1), omega (arith, ints, fits.2))

-- values that suit their columns
values_kept : (cs : List RawColumn) (vs : List (Located WrittenValue)) → length vs ≡ length cs → wrong_sorts cs vs ≡ [] → AllByRecursion (λ v. FitsValue v.item) vs → AllByRecursion (λ v. HasText v.item) vs → AreValuesOf (map column_of cs) (map (λ v. value_of v.item) vs)
values_kept [] [] same e fits texts = tt
values_kept [] (v ∷ vs) same e fits texts = absurd (omega (arith, same))
values_kept (c ∷ cs) [] same e fits texts = absurd (omega (arith, same))
values_kept (c ∷ cs) (v ∷ vs) same e fits texts =
    let here = fault_if (not (suits v.item c)) (database_fault Sort v.place) in (
      one_kept v.item c (turned_false (suits v.item c) (no_fault_if (not (suits v.item c)) (database_fault Sort v.place) (first_empty here (wrong_sorts cs vs) e))) fits.0 texts.0,
      values_kept cs vs (omega (arith, same)) (second_empty here (wrong_sorts cs vs) e) fits.1 texts.1,
    )

-- ---- bounds

-- a lawful number with its sign
signed_within : (b : Bool) (n : ℕ) → n ≤ greatest_number → (neg_ℤ (pos greatest_number) ≤ℤ signed b n) × (signed b n ≤ℤ pos greatest_number)
signed_within true n le = (omega (arith, ints, le), omega (arith, ints, le))
signed_within false n le = (omega (arith, ints, le), omega (arith, ints, le))

-- what a comparison means is kept
kept_within : (times x y : ℕ) (a : ℤ) (op : BoundOp) → x ≤ times → y ≤ times → 0 < x + y → neg_ℤ (pos greatest_number) ≤ℤ a → a ≤ℤ pos greatest_number → AllByRecursion (IsBoundOf times) (kept op x y a)
kept_within times x y a AtMost le less some low high = (record { left = le; right = less; some = some; low = low; high = high }, tt)
kept_within times x y a AtLeast le less some low high = (record { left = less; right = le; some = omega (arith, some); low = omega (arith, ints, high); high = omega (arith, ints, low) }, tt)
kept_within times x y a Equal le less some low high =
    (record { left = le; right = less; some = some; low = low; high = high }, (record { left = less; right = le; some = omega (arith, some); low = omega (arith, ints, high); high = omega (arith, ints, low) }, tt))

-- what holds of the elements of two lists
all_join : {A : Type 0} (P : A → Type 0) (xs ys : List A) → AllByRecursion P xs → AllByRecursion P ys → AllByRecursion P (xs ++ ys)
all_join P [] ys h k = k
all_join P (x ∷ xs) ys h k = (h.0, all_join P xs ys h.1 k)

-- the bounds of a value, and then further ones
value_within : (times before : ℕ) (v : WrittenValue) (further : ℕ → List Bound) → before + point_count v ≤ times → FitsValue v → ((k : ℕ) → k ≡ before + point_count v → AllByRecursion (IsBoundOf times) (further k)) → AllByRecursion (IsBoundOf times) (value_bounds v before further)
value_within times before (Constant t) further le fits rest = rest before (omega arith)
value_within times before (Instant i) further le fits rest =
    let size = signed_within i.negative i.size fits in
    all_join (IsBoundOf times) (kept Equal (before + 1) 0 (integer_of i)) (further (before + 1)) (kept_within times (before + 1) 0 (integer_of i) Equal le (omega arith) (omega arith) size.0 size.1) (rest (before + 1) refl)
value_within times before (Point i k) further le fits rest = rest (before + 1) refl

-- the bounds of the instants of a row
instants_within : (times before : ℕ) (vs : List (Located WrittenValue)) → before + points_in vs ≤ times → AllByRecursion (λ v. FitsValue v.item) vs → AllByRecursion (IsBoundOf times) (instant_bounds vs before)
instants_within times before [] le fits = tt
instants_within times before (v ∷ vs) le fits =
    value_within times before v.item (instant_bounds vs) (omega (arith, le)) fits.0 (λ k e. instants_within times k vs (omega (arith, le, e)) fits.1)

-- the number of a time column is at most that of all
number_within : (before : ℕ) (cs : List RawColumn) (n : Identifier) → time_number before cs n ≤ before + time_count (map column_of cs)
number_within before [] n = omega arith
number_within before (c ∷ cs) n =
    let t = times_more c cs in
    let r = by (is_time c.sort) (number_within (before + 1) cs n) (number_within before cs n) in
    omega (arith, r, t)
  where
    named : (b : Bool) → time_number (before + 1) cs n ≤ before + 1 + time_count (map column_of cs) → (if b then before + 1 else time_number (before + 1) cs n) ≤ before + (1 + time_count (map column_of cs))
    named true h = omega arith
    named false h = omega (arith, h)

    by : (b : Bool) → time_number (before + 1) cs n ≤ before + 1 + time_count (map column_of cs) → time_number before cs n ≤ before + time_count (map column_of cs)
        → (if b then (if bytes_eq c.name n then before + 1 else time_number (before + 1) cs n) else time_number before cs n) ≤ before + ((if b then 1 else 0) + time_count (map column_of cs))
    by true h k = named (bytes_eq c.name n) h
    by false h k = omega (arith, k)

-- a name without a fault has a number
number_some : (cs : List RawColumn) (n : Located Identifier) → unknown cs n ≡ [] → 0 < time_number 0 cs n.item
number_some cs n e = above (time_number 0 cs n.item) (no_fault_if (time_number 0 cs n.item == 0) (database_fault column_kind n.place) e)
  where
    above : (k : ℕ) → (k == 0) ≡ false → 0 < k
    above k h = grind (arith, nat_tests)

-- what a bound means is kept
side_within : (cs : List RawColumn) (x : ℕ) (op : BoundOp) (s : Side) → 0 < x → x ≤ time_count (map column_of cs) → side_faults cs s ≡ [] → FitsSide s → AllByRecursion (IsBoundOf (time_count (map column_of cs))) (side_bounds cs op x s)
side_within cs x op (Alone i) some le e fits =
    let size = signed_within i.negative i.size fits in
    kept_within (time_count (map column_of cs)) x 0 (integer_of i) op le (omega arith) (omega (arith, some)) size.0 size.1
side_within cs x op (side_column n) some le e fits =
    let y = number_within 0 cs n.item in
    kept_within (time_count (map column_of cs)) x (time_number 0 cs n.item) (pos 0) op le (omega (arith, y)) (omega (arith, some)) (omega (arith, ints)) (omega (arith, ints))
side_within cs x op (Shifted n down k) some le e fits =
    let y = number_within 0 cs n.item in
    let size = signed_within down k fits in
    kept_within (time_count (map column_of cs)) x (time_number 0 cs n.item) (signed down k) op le (omega (arith, y)) (omega (arith, some)) size.0 size.1

-- what the bounds of a row mean is kept
bounds_within : (cs : List RawColumn) (bs : List RawBound) → AllByRecursion (λ b. bound_faults cs b ≡ []) bs → AllByRecursion FitsBound bs → AllByRecursion (IsBoundOf (time_count (map column_of cs))) (flat_map (kept_bounds cs) bs)
bounds_within cs [] e fits = tt
bounds_within cs (b ∷ bs) e fits =
    let x = number_within 0 cs b.left.item in
    let some = number_some cs b.left (first_empty (unknown cs b.left) (side_faults cs b.side) e.0) in
    all_join (IsBoundOf (time_count (map column_of cs))) (kept_bounds cs b) (flat_map (kept_bounds cs) bs)
    (side_within cs (time_number 0 cs b.left.item) b.op b.side some (omega (arith, x)) (second_empty (unknown cs b.left) (side_faults cs b.side) e.0) fits.0)
    (bounds_within cs bs e.1 fits.1)

-- ---- rows and relations

-- a row without faults is kept
pub row_kept : (cs : List RawColumn) (row : Located RawRow) → row_faults cs row ≡ [] → FitsRow row.item → RowHasTexts row → IsRowOf (map column_of cs) (row_of cs row.item)
row_kept cs row e fits texts =
    let arity = fault_if (not (length row.item.values == length cs)) (database_fault Arity row.place) in
    let sorts = wrong_sorts cs row.item.values in
    let names = flat_map (bound_faults cs) row.item.bounds in
    let many = points_many cs row.item.values (row_many cs row e) (row_suits cs row e) in
    record {
      values = values_kept cs row.item.values (row_many cs row e) (row_suits cs row e) fits.0 texts;
      bounds = all_join (IsBoundOf (time_count (map column_of cs))) (instant_bounds row.item.values 0) (flat_map (kept_bounds cs) row.item.bounds)
          (instants_within (time_count (map column_of cs)) 0 row.item.values (omega (arith, many)) fits.0)
          (bounds_within cs row.item.bounds (each_empty (bound_faults cs) row.item.bounds (second_empty (arity ++ sorts) names e)) fits.1);
    }

-- rows without faults are kept
rows_kept : (cs : List RawColumn) (rows : List (Located RawRow)) → AllByRecursion (λ row. row_faults cs row ≡ []) rows → AllByRecursion (λ row. FitsRow row.item) rows → AllByRecursion RowHasTexts rows → AllByRecursion (IsRowOf (map column_of cs)) (map (λ row. row_of cs row.item) rows)
rows_kept cs [] e fits texts = tt
rows_kept cs (row ∷ rows) e fits texts = (row_kept cs row e.0 fits.0 texts.0, rows_kept cs rows e.1 fits.1 texts.1)

-- the names of columns, without the places
plain_names : (cs : List RawColumn) → map (λ c. c.name) cs ≡ map (λ c. c.name) (map column_of cs)
plain_names [] = refl
plain_names (c ∷ cs) = ap (λ l. c.name ∷ l) (plain_names cs)

-- a relation without faults is kept
relation_kept : (r : RawRelation) → HasMeaning r → IsNamedRelation r → HasTexts r → IsKept (relation_of r)
relation_kept r h named texts =
    let few = columns_few r h.sound in
    record {
      name = named.name;
      columns = named.columns;
      differ = subst AreDistinct (plain_names r.columns) (columns_differ r h.sound);
      times = few.0;
      texts = few.1;
      rows = rows_kept r.columns r.rows (rows_sound r h.sound) h.fits texts;
    }

-- relations without faults are kept
relations_kept : (rs : List RawRelation) → AllByRecursion HasMeaning rs → AllByRecursion IsNamedRelation rs → AllByRecursion HasTexts rs → AllByRecursion IsKept (database_of rs)
relations_kept [] h named texts = tt
relations_kept (r ∷ rs) h named texts = (relation_kept r h.0 named.0 texts.0, relations_kept rs h.1 named.1 texts.1)

-- the names of relations, with their places and without
relation_names : (rs : List RawRelation) → map (λ n. n.item) (map (λ r. r.name) rs) ≡ map (λ r. r.name) (database_of rs)
relation_names [] = refl
relation_names (r ∷ rs) = ap (λ l. r.name.item ∷ l) (relation_names rs)

-- a lawful tree without faults has a meaning
pub tree_means : (rs : List RawRelation) → FitsDatabase rs → database_faults rs ≡ [] → AllByRecursion HasMeaning rs
tree_means rs fits e = both rs fits (each_empty relation_faults rs (second_empty (repeated (database_fault Name) [] (map (λ r. r.name) rs)) (flat_map relation_faults rs) e))
  where
    both : (ss : List RawRelation) → FitsDatabase ss → AllByRecursion (λ r. relation_faults r ≡ []) ss → AllByRecursion HasMeaning ss
    both [] f s = tt
    both (r ∷ ss) f s = (record { fits = f.0; sound = s.0 }, both ss f.1 s.1)

-- and the relations that it means are kept
pub tree_kept : (rs : List RawRelation) → FitsDatabase rs → database_faults rs ≡ [] → AllByRecursion IsNamedRelation rs → AllByRecursion HasTexts rs → AreKept (database_of rs)
tree_kept rs fits e named texts = record {
  each = relations_kept rs (tree_means rs fits e) named texts;
  differ = subst AreDistinct (relation_names rs) (differ (database_fault Name) (map (λ r. r.name) rs) (first_empty (repeated (database_fault Name) [] (map (λ r. r.name) rs)) (flat_map relation_faults rs) e));
}
