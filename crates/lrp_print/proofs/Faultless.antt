-- The tree of written relations is lawful and has no fault.
use Rattle.std.proofs.Common.{◌≡◌, ◌≢◌, ◌<◌, ◌≤◌, ◌+◌, ◌==◌, ℕ, ℤ, zero, suc, Bool, true, false, not, ◌||◌, if◌then◌else◌, List, [], ◌∷◌, ◌++◌, length, map, refl, ap, sym, subst, ◌∙◌, arith}
use Rattle.std.specs.Prelude.{pos, negsuc, neg_ℤ}
use Rattle.std.proofs.lemmas.Int.{ints}
use Rattle.std.proofs.lemmas.Bool.{eqb-true}
use Rattle.std.proofs.lemmas.Bool.Decides.{nat_tests}
use Rattle.std.proofs.lemmas.List.Sums.{sum_by-cons}
use Rattle.std.specs.Int.{int_rem_euclid}
use Rattle.std.specs.List.{flat_map, list_any, AllByRecursion}
use Rattle.std.specs.Str.{bytes_eq}
use Rattle.lrp_theory.proofs.Modulo.{rem_between}
use Rattle.lrp_model.specs.declared.tokens.Place.{Place}
use Rattle.lrp_model.specs.declared.relations.Column.{Column}
use Rattle.lrp_model.specs.declared.relations.Bound.{Bound}
use Rattle.lrp_model.specs.declared.relations.Value.{Value}
use Rattle.lrp_model.specs.declared.relations.Value.TheVariants.{Point, Const}
use Rattle.lrp_model.specs.declared.relations.Row.{Row}
use Rattle.lrp_model.specs.declared.relations.Relation.{Relation}
use Rattle.lrp_model.specs.declared.raw.RawColumn.{RawColumn}
use Rattle.lrp_model.specs.declared.written.Located.{Located}
use Rattle.lrp_model.specs.declared.written.RawBound.{RawBound}
use Rattle.lrp_model.specs.declared.faults.DbFault.{DbFault}
use Rattle.lrp_model.specs.declared.faults.DbKind.TheVariants.{Name, Arity, Sort, Column as column_kind, Wide}
use Rattle.lrp_model.specs.Texts.{Identifier, AreDistinct}
use Rattle.lrp_model.specs.Sorts.{is_time, is_data, time_count, text_count}
use Rattle.lrp_model.specs.Databases.{FitsValue, FitsSide, FitsBound, FitsRow, FitsRelation, FitsDatabase}
use Rattle.lrp_model.specs.Faults.{fault_if, repeated, ninth, is_named_in}
use Rattle.lrp_model.specs.DatabaseFaults.{database_fault, wrong_sorts, unknown, side_faults, row_faults, named_at, relation_faults, database_faults}
use Rattle.lrp_model.specs.DatabaseMeaning.{column_of, time_number}
use Rattle.lrp_model.specs.Printed.{time_name, value_bytes, bound_bytes, column_bytes, row_line, relation_bytes}
use Rattle.lrp_model.specs.Kept.{AreValuesOf, IsBoundOf, IsRowOf, IsKept, AreKept}
use Rattle.lrp_print.proofs.PieceLaws.{IsShort, short, trees, after_comma, after_piece}
use Rattle.lrp_print.proofs.Trees.{value_at, IsReadable, values_readable, times_cons, side_tree, lower_tree, upper_tree, between_tree, bound_tree, row_tree, row_at, relation_tree}
use Rattle.lrp_print.proofs.Meant.{trees_all, columns_mean, not_equal, numbered_as, above, period_is}

-- ---- lawful

-- a value is lawful
value_fits : (v : Value) (p : Place) → IsReadable v → FitsValue (value_at p v).item
value_fits (Point at) p h =
    let z = int_rem_euclid at.offset at.period in
    let b = rem_between at.period at.offset z h.0 refl in
    let k = period_is at.period h.0 in
    let low = h.0 in
    let high = h.1 in
    (short z (omega (arith, ints, b.0)) (omega (arith, ints, b.1, high)), omega (arith, ints, k, low), omega (arith, ints, k, high))
value_fits (Const t) p h = h.fits.short

-- the right side of a bound between columns is lawful
side_fits : (p : Place) (n : Identifier) (z : ℤ) → IsShort z → FitsSide (side_tree p n z)
side_fits p n (pos zero) h = tt
side_fits p n (pos (suc a)) h = h
side_fits p n (negsuc a) h = h

-- a bound is lawful
bound_fits : (cs : List Column) (b : Bound) (p : Place) → IsBoundOf (time_count cs) b → FitsBound (bound_tree cs p b)
bound_fits cs b p h = by (b.left == 0) (b.right == 0)
  where
    by : (x y : Bool) → FitsBound (if x then lower_tree p (time_name cs b.right) (neg_ℤ b.most) else if y then upper_tree p (time_name cs b.left) b.most else between_tree p (time_name cs b.left) (time_name cs b.right) b.most)
    by true y = let one = h.low in let two = h.high in short (neg_ℤ b.most) (omega (arith, ints)) (omega (arith, ints))
    by false true = short b.most h.low h.high
    by false false = side_fits _ (time_name cs b.right) b.most (short b.most h.low h.high)

-- a row is lawful
row_fits : (cs : List Column) (r : Row) (p : Place) → IsRowOf cs r → FitsRow (row_at cs p r).item
row_fits cs r p h = (
  trees_all (after_comma value_bytes) value_at IsReadable (λ v. FitsValue v.item) value_fits r.values _ (values_readable cs r.values h.values),
  trees_all (after_comma (bound_bytes cs)) (bound_tree cs) (IsBoundOf (time_count cs)) FitsBound (bound_fits cs) r.bounds _ h.bounds,
)

-- a relation is lawful
relation_fits : (r : Relation) (p : Place) → IsKept r → FitsRelation (relation_tree p r)
relation_fits r p k = trees_all (after_piece (row_line r.columns)) (row_at r.columns) (IsRowOf r.columns) (λ row. FitsRow row.item) (row_fits r.columns) r.rows _ k.rows

-- relations are lawful
pub relations_fit : (rs : List Relation) (p : Place) → AllByRecursion IsKept rs → FitsDatabase (trees (after_piece relation_bytes) relation_tree p rs)
relations_fit = trees_all (after_piece relation_bytes) relation_tree IsKept FitsRelation relation_fits

-- ---- names

-- each of some names differs from each of others
abbrev Apart : List Identifier → List Identifier → Type 0
Apart [] names = Unit {0}
Apart (b ∷ before) names = AllByRecursion (λ m. b ≢ m) names × Apart before names

-- a name that differs from others is none of them
not_named : (before : List Identifier) (n : Identifier) (names : List Identifier) → Apart before (n ∷ names) → is_named_in before n ≡ false
not_named [] n names h = refl
not_named (b ∷ before) n names h = ap (λ x. x || list_any (bytes_eq n) before) (not_equal n b (λ e. h.0.0 (sym e))) ∙ not_named before n names h.1

-- they differ from fewer
apart_rest : (before : List Identifier) (n : Identifier) (names : List Identifier) → Apart before (n ∷ names) → Apart before names
apart_rest [] n names h = tt
apart_rest (b ∷ before) n names h = (h.0.1, apart_rest before n names h.1)

-- names that differ are no fault
none_repeated : (f : Place → DbFault) (before : List Identifier) (ns : List (Located Identifier)) → Apart before (map (λ n. n.item) ns) → AreDistinct (map (λ n. n.item) ns) → repeated f before ns ≡ []
none_repeated f before [] h d = refl
none_repeated f before (n ∷ ns) h d =
    let names = map (λ k. k.item) ns in
    ap (λ b. fault_if b (f n.place) ++ repeated f (n.item ∷ before) ns) (not_named before n.item names h) ∙ none_repeated f (n.item ∷ before) ns (d.0, apart_rest before n.item names h) d.1

-- the names of columns at their places
column_names : (cs : List RawColumn) → map (λ n. n.item) (map named_at cs) ≡ map (λ c. c.name) (map column_of cs)
column_names [] = refl
column_names (c ∷ cs) = ap (λ l. c.name ∷ l) (column_names cs)

-- the names of relations at their places
relation_names : (next : Place → Relation → Place) (rs : List Relation) (p : Place) → map (λ n. n.item) (map (λ r. r.name) (trees next relation_tree p rs)) ≡ map (λ r. r.name) rs
relation_names next [] p = refl
relation_names next (r ∷ rs) p = ap (λ l. r.name ∷ l) (relation_names next rs (next p r))

-- ---- few columns

-- at most eight are no fault
none_ninth : (f : Place → DbFault) (times texts : ℕ) (cs : List RawColumn) → times + time_count (map column_of cs) ≤ 8 → texts + text_count (map column_of cs) ≤ 8 → ninth f times texts cs ≡ []
none_ninth f times texts [] le less = refl
none_ninth f times texts (c ∷ cs) le less = by (is_time c.sort) refl (λ m n. none_ninth f m n cs)
  where
    not_eight : (n : ℕ) → n < 8 → (n == 8) ≡ false
    not_eight n lt = grind (arith, nat_tests)

    ds : List Column
    ds = map column_of cs

    more_times : time_count (column_of c ∷ ds) ≡ (if is_time c.sort then 1 else 0) + time_count ds
    more_times = times_cons (column_of c) ds

    more_texts : text_count (column_of c ∷ ds) ≡ (if not (is_time c.sort) then 1 else 0) + text_count ds
    more_texts = sum_by-cons (λ x. if is_data x.sort then 1 else 0) (column_of c) ds

    by : (x : Bool) → is_time c.sort ≡ x → ((m n : ℕ) → m + time_count ds ≤ 8 → n + text_count ds ≤ 8 → ninth f m n cs ≡ []) → (if x then fault_if (times == 8) (f c.place) ++ ninth f (times + 1) texts cs else fault_if (texts == 8) (f c.place) ++ ninth f times (texts + 1) cs) ≡ []
    by true e again =
        let one : time_count (column_of c ∷ ds) ≡ 1 + time_count ds = more_times ∙ ap (λ b. (if b then 1 else 0) + time_count ds) e in
        let two : text_count (column_of c ∷ ds) ≡ 0 + text_count ds = more_texts ∙ ap (λ b. (if not b then 1 else 0) + text_count ds) e in
        ap (λ b. fault_if b (f c.place) ++ ninth f (times + 1) texts cs) (not_eight times (omega (arith, one, le))) ∙ again (times + 1) texts (omega (arith, one, le)) (omega (arith, two, less))
    by false e again =
        let one : time_count (column_of c ∷ ds) ≡ 0 + time_count ds = more_times ∙ ap (λ b. (if b then 1 else 0) + time_count ds) e in
        let two : text_count (column_of c ∷ ds) ≡ 1 + text_count ds = more_texts ∙ ap (λ b. (if not b then 1 else 0) + text_count ds) e in
        ap (λ b. fault_if b (f c.place) ++ ninth f times (texts + 1) cs) (not_eight texts (omega (arith, two, less))) ∙ again times (texts + 1) (omega (arith, one, le)) (omega (arith, two, less))

-- ---- rows

-- trees without faults have none together
none_together : {A B : Type 0} (next : Place → A → Place) (tree : Place → A → B) (f : B → List DbFault) (P : A → Type 0) → ((a : A) (p : Place) → P a → f (tree p a) ≡ []) → (all : List A) (p : Place) → AllByRecursion P all → flat_map f (trees next tree p all) ≡ []
none_together next tree f P one [] p h = refl
none_together next tree f P one (a ∷ all) p h = ap (λ l. l ++ flat_map f (trees next tree (next p a) all)) (one a p h.0) ∙ none_together next tree f P one all (next p a) h.1

-- values of columns suit them
none_wrong : (next : Place → Value → Place) (cs : List RawColumn) (vs : List Value) (p : Place) → AreValuesOf (map column_of cs) vs → wrong_sorts cs (trees next value_at p vs) ≡ []
none_wrong next [] [] p h = refl
none_wrong next [] (v ∷ vs) p h = absurd h
none_wrong next (c ∷ cs) [] p h = absurd h
none_wrong next (c ∷ cs) (Point at ∷ vs) p h =
    let q = next p (Point at) in
    ap (λ b. fault_if (not b) (database_fault Sort p) ++ wrong_sorts cs (trees next value_at q vs)) h.0.0 ∙ none_wrong next cs vs q h.1
none_wrong next (c ∷ cs) (Const t ∷ vs) p h =
    let q = next p (Const t) in
    ap (λ b. fault_if (not (not b)) (database_fault Sort p) ++ wrong_sorts cs (trees next value_at q vs)) h.0.0 ∙ none_wrong next cs vs q h.1

-- there are as many values as columns
as_many : (next : Place → Value → Place) (cs : List RawColumn) (vs : List Value) (p : Place) → AreValuesOf (map column_of cs) vs → length (trees next value_at p vs) ≡ length cs
as_many next [] [] p h = refl
as_many next [] (v ∷ vs) p h = absurd h
as_many next (c ∷ cs) [] p h = absurd h
as_many next (c ∷ cs) (Point at ∷ vs) p h = ap suc (as_many next cs vs (next p (Point at)) h.1)
as_many next (c ∷ cs) (Const t ∷ vs) p h = ap suc (as_many next cs vs (next p (Const t)) h.1)

-- numbers that are found one
same_number : (n m : ℕ) → n ≡ m → (n == m) ≡ true
same_number n m e = grind (arith, nat_tests)

-- a column with a number is known
known : (raw : List RawColumn) (n : Located Identifier) (i : ℕ) → time_number 0 raw n.item ≡ i → 0 < i → unknown raw n ≡ []
known raw n i e some = ap (λ b. fault_if b (database_fault column_kind n.place)) (not_zero (time_number 0 raw n.item) (omega (arith, e)))
  where
    not_zero : (k : ℕ) → 0 < k → (k == 0) ≡ false
    not_zero k h = grind (arith, nat_tests)

-- the right side of a bound between columns has no fault
side_known : (raw : List RawColumn) (p : Place) (n : Identifier) (z : ℤ) (i : ℕ) → time_number 0 raw n ≡ i → 0 < i → side_faults raw (side_tree p n z) ≡ []
side_known raw p n (pos zero) i e some = known raw (record { place = p; item = n }) i e some
side_known raw p n (pos (suc a)) i e some = known raw (record { place = p; item = n }) i e some
side_known raw p n (negsuc a) i e some = known raw (record { place = p; item = n }) i e some

-- a bound has no fault
bound_known : (raw : List RawColumn) (cs : List Column) → map column_of raw ≡ cs → AreDistinct (map (λ c. c.name) cs) → (b : Bound) (p : Place) → IsBoundOf (time_count cs) b → unknown raw (bound_tree cs p b).left ++ side_faults raw (bound_tree cs p b).side ≡ []
bound_known raw cs e differ b p h = by (b.left == 0) (b.right == 0) refl refl
  where
    some : 0 < b.left + b.right
    some = h.some

    names_of : RawBound → List DbFault
    names_of t = unknown raw t.left ++ side_faults raw t.side

    by : (x y : Bool) → (b.left == 0) ≡ x → (b.right == 0) ≡ y
        → (let t = if x then lower_tree p (time_name cs b.right) (neg_ℤ b.most) else if y then upper_tree p (time_name cs b.left) b.most else between_tree p (time_name cs b.left) (time_name cs b.right) b.most in unknown raw t.left ++ side_faults raw t.side ≡ [])
    by true y d c =
        let none : b.left ≡ 0 = eqb-true b.left 0 d in
        let right : 0 < b.right = omega (arith, some, none) in
        ap (λ l. l ++ []) (known raw (record { place = p; item = time_name cs b.right }) b.right (numbered_as raw cs b.right e differ right h.right) right)
    by false true d c =
        let left : 0 < b.left = above b.left d in
        ap (λ l. l ++ []) (known raw (record { place = p; item = time_name cs b.left }) b.left (numbered_as raw cs b.left e differ left h.left) left)
    by false false d c =
        let left : 0 < b.left = above b.left d in
        let right : 0 < b.right = above b.right c in
        let t = between_tree p (time_name cs b.left) (time_name cs b.right) b.most in
        ap (λ l. l ++ side_faults raw t.side) (known raw (record { place = p; item = time_name cs b.left }) b.left (numbered_as raw cs b.left e differ left h.left) left)
        ∙ side_known raw _ (time_name cs b.right) b.most b.right (numbered_as raw cs b.right e differ right h.right) right

-- a row has no fault
row_sound : (raw : List RawColumn) (cs : List Column) → map column_of raw ≡ cs → AreDistinct (map (λ c. c.name) cs) → (r : Row) (p : Place) → IsRowOf cs r → row_faults raw (row_at cs p r) ≡ []
row_sound raw cs e differ r p h =
    let tree = row_tree cs p r in
    let P : List Column → Type 0 = λ ds. AreValuesOf ds r.values in
    let values : AreValuesOf (map column_of raw) r.values = subst P (sym e) h.values in
    let sorts = wrong_sorts raw tree.values in
    let names = flat_map (λ b. unknown raw b.left ++ side_faults raw b.side) tree.bounds in
    let arity : (length tree.values == length raw) ≡ true = same_number (length tree.values) (length raw) (as_many (after_comma value_bytes) raw r.values _ values) in
    ap (λ b. fault_if (not b) (database_fault Arity (row_at cs p r).place) ++ sorts ++ names) arity ∙ ap (λ l. l ++ names) (none_wrong (after_comma value_bytes) raw r.values _ values)
    ∙ none_together (after_comma (bound_bytes cs)) (bound_tree cs) (λ b. unknown raw b.left ++ side_faults raw b.side) (IsBoundOf (time_count cs)) (bound_known raw cs e differ) r.bounds _ h.bounds

-- ---- relations

-- a relation has no fault
relation_sound : (r : Relation) (p : Place) → IsKept r → relation_faults (relation_tree p r) ≡ []
relation_sound r p k =
    let tree = relation_tree p r in
    let columns : map column_of tree.columns ≡ r.columns = columns_mean (after_comma column_bytes) r.columns _ in
    let wide = ninth (database_fault Wide) 0 0 tree.columns in
    let rows = flat_map (row_faults tree.columns) tree.rows in
    let names : map (λ n. n.item) (map named_at tree.columns) ≡ map (λ c. c.name) r.columns = column_names tree.columns ∙ ap (map (λ c. c.name)) columns in
    let few : (time_count (map column_of tree.columns) ≤ 8) × (text_count (map column_of tree.columns) ≤ 8) = subst (λ ds. (time_count ds ≤ 8) × (text_count ds ≤ 8)) (sym columns) (k.times, k.texts) in
    ap (λ l. l ++ wide ++ rows) (none_repeated (database_fault Name) [] (map named_at tree.columns) tt (subst AreDistinct (sym names) k.differ))
    ∙ ap (λ l. l ++ rows) (none_ninth (database_fault Wide) 0 0 tree.columns (omega (arith, few.0)) (omega (arith, few.1)))
    ∙ none_together (after_piece (row_line r.columns)) (row_at r.columns) (row_faults tree.columns) (IsRowOf r.columns) (row_sound tree.columns r.columns columns k.differ) r.rows _ k.rows

-- relations whose names differ have no fault
pub relations_sound : (rs : List Relation) (p : Place) → AreKept rs → database_faults (trees (after_piece relation_bytes) relation_tree p rs) ≡ []
relations_sound rs p k =
    let all = trees (after_piece relation_bytes) relation_tree p rs in
    let names : map (λ n. n.item) (map (λ r. r.name) all) ≡ map (λ r. r.name) rs = relation_names (after_piece relation_bytes) rs p in
    ap (λ l. l ++ flat_map relation_faults all) (none_repeated (database_fault Name) [] (map (λ r. r.name) all) tt (subst AreDistinct (sym names) k.differ))
    ∙ none_together (after_piece relation_bytes) relation_tree relation_faults IsKept relation_sound rs p k.each
