-- The tree of a written relation means the relation, with each offset taken modulo its period.
use Rattle.std.proofs.Common.{◌≡◌, ◌≢◌, ◌<◌, ◌≤◌, ◌+◌, ◌-◌, ◌==◌, ℕ, ℤ, zero, suc, Bool, true, false, if◌then◌else◌, List, [], ◌∷◌, ◌++◌, map, refl, ap, sym, subst, ◌∙◌, arith}
use Rattle.std.specs.Prelude.{◌≤ℤ◌, pos, negsuc, neg_ℤ, unsigned_abs}
use Rattle.std.proofs.lemmas.Int.{ints}
use Rattle.std.proofs.lemmas.Bool.{eqb-true}
use Rattle.std.proofs.lemmas.Bool.Decides.{nat_tests}
use Rattle.std.specs.Int.{int_rem_euclid}
use Rattle.std.specs.List.{flat_map, AllByRecursion}
use Rattle.std.specs.Str.{bytes_eq}
use Rattle.std.specs.Cmp.Lexicographic.{bytes_decides}
use Rattle.lrp_model.specs.declared.tokens.Place.{Place}
use Rattle.lrp_model.specs.declared.relations.Column.{Column}
use Rattle.lrp_model.specs.declared.relations.Bound.{Bound}
use Rattle.lrp_model.specs.declared.relations.Value.{Value}
use Rattle.lrp_model.specs.declared.relations.Value.TheVariants.{Point, Const}
use Rattle.lrp_model.specs.declared.relations.Row.{Row}
use Rattle.lrp_model.specs.declared.relations.Relation.{Relation}
use Rattle.lrp_model.specs.declared.raw.RawColumn.{RawColumn}
use Rattle.lrp_model.specs.declared.written.BoundOp.TheVariants.{AtMost}
use Rattle.lrp_model.specs.Texts.{Identifier, AreDistinct}
use Rattle.lrp_model.specs.Sorts.{is_time, time_count}
use Rattle.lrp_model.specs.Printed.{time_name, value_bytes, bound_bytes, column_bytes, row_line, relation_bytes}
use Rattle.lrp_model.specs.DatabaseMeaning.{integer_of, column_of, time_number, value_of, bound_of, instant_bounds, side_bounds, kept_bounds, row_of, relation_of, database_of}
use Rattle.lrp_model.specs.Kept.{IsBoundOf, IsRowOf, IsKept}
use Rattle.lrp_print.proofs.PieceLaws.{written, trees, after_comma, after_piece}
use Rattle.lrp_print.proofs.Trees.{value_at, IsReadable, values_readable, column_tree, times_cons, side_tree, lower_tree, upper_tree, between_tree, bound_tree, bound_trees, row_tree, row_at, relation_tree}

-- ---- what is meant

-- a point with its offset taken modulo its period, or the same text
abbrev pub reduced_value : Value → Value
reduced_value (Point p) = Point (record { offset = int_rem_euclid p.offset p.period; period = p.period })
reduced_value (Const t) = Const t

abbrev pub reduced_row : Row → Row
reduced_row r = record { values = map reduced_value r.values; bounds = r.bounds }

abbrev pub reduced : Relation → Relation
reduced r = record { name = r.name; columns = r.columns; rows = map reduced_row r.rows }

-- ---- lists of trees

-- what each tree means, of all of them
pub trees_map : {A B C : Type 0} (next : Place → A → Place) (tree : Place → A → B) (f : B → C) (g : A → C) (P : A → Type 0) → ((a : A) (p : Place) → P a → f (tree p a) ≡ g a) → (all : List A) (p : Place) → AllByRecursion P all → map f (trees next tree p all) ≡ map g all
trees_map next tree f g P one [] p h = refl
trees_map next tree f g P one (a ∷ all) p h = ap (λ x. x ∷ map f (trees next tree (next p a) all)) (one a p h.0) ∙ ap (λ l. g a ∷ l) (trees_map next tree f g P one all (next p a) h.1)

-- what holds of each tree, of all of them
pub trees_all : {A B : Type 0} (next : Place → A → Place) (tree : Place → A → B) (P : A → Type 0) (Q : B → Type 0) → ((a : A) (p : Place) → P a → Q (tree p a)) → (all : List A) (p : Place) → AllByRecursion P all → AllByRecursion Q (trees next tree p all)
trees_all next tree P Q one [] p h = tt
trees_all next tree P Q one (a ∷ all) p h = (one a p h.0, trees_all next tree P Q one all (next p a) h.1)

-- ---- values

-- an integer as it is written means itself
pub written_is : (z : ℤ) → integer_of (written z) ≡ z
written_is (pos n) = refl
written_is (negsuc n) = refl

-- a period as it is written
pub period_is : (k : ℤ) → pos 1 ≤ℤ k → pos (unsigned_abs k) ≡ k
period_is (pos n) h = refl
period_is (negsuc n) h = absurd (omega (arith, ints))

-- a value
value_means : (v : Value) (p : Place) → IsReadable v → value_of (value_at p v).item ≡ reduced_value v
value_means (Point at) p h =
    let z = int_rem_euclid at.offset at.period in
    ap (λ x. Point (record { offset = x; period = pos (unsigned_abs at.period) })) (written_is z) ∙ ap (λ k. Point (record { offset = z; period = k })) (period_is at.period h.0)
value_means (Const t) p h = refl

-- no value is an instant
no_instants : (next : Place → Value → Place) (vs : List Value) (p : Place) (before : ℕ) → instant_bounds (trees next value_at p vs) before ≡ []
no_instants next [] p before = refl
no_instants next (Point at ∷ vs) p before = no_instants next vs (next p (Point at)) (before + 1)
no_instants next (Const t ∷ vs) p before = no_instants next vs (next p (Const t)) before

-- ---- columns and their numbers

-- the columns
pub columns_mean : (next : Place → Column → Place) (cs : List Column) (p : Place) → map column_of (trees next column_tree p cs) ≡ cs
columns_mean next [] p = refl
columns_mean next (c ∷ cs) p = ap (λ l. c ∷ l) (columns_mean next cs (next p c))

-- what a test tells
not_one : (i : ℕ) → (i == 1) ≡ false → i ≢ 1
not_one i e = grind (arith, nat_tests)

-- a name that differs from those of all columns differs from that of a time column
other_name : (n : Identifier) (cs : List Column) (i : ℕ) → AllByRecursion (λ m. n ≢ m) (map (λ c. c.name) cs) → 0 < i → i ≤ time_count cs → n ≢ time_name cs i
other_name n [] i h some le = absurd (omega arith)
other_name n (c ∷ cs) i h some le = by (is_time c.sort) (i == 1) refl refl (λ k more_than few. other_name n cs k h.1 more_than few)
  where
    more : time_count (c ∷ cs) ≡ (if is_time c.sort then 1 else 0) + time_count cs
    more = times_cons c cs

    by : (x y : Bool) → is_time c.sort ≡ x → (i == 1) ≡ y → ((k : ℕ) → 0 < k → k ≤ time_count cs → n ≢ time_name cs k) → n ≢ (if x then (if y then c.name else time_name cs (i - 1)) else time_name cs i)
    by true true e d again = h.0
    by true false e d again =
        let one = not_one i d in
        let size : time_count (c ∷ cs) ≡ 1 + time_count cs = more ∙ ap (λ b. (if b then 1 else 0) + time_count cs) e in
        again (i - 1) (omega (arith, one, some)) (omega (arith, size, le, some))
    by false y e d again =
        let size : time_count (c ∷ cs) ≡ 0 + time_count cs = more ∙ ap (λ b. (if b then 1 else 0) + time_count cs) e in
        again i some (omega (arith, size, le))

-- two names that differ
pub not_equal : (n m : Identifier) → n ≢ m → bytes_eq n m ≡ false
not_equal n m ne = by (bytes_eq n m) refl
  where
    by : (b : Bool) → bytes_eq n m ≡ b → bytes_eq n m ≡ false
    by true e = absurd (ne ((bytes_decides n m).0 e))
    by false e = e

-- the name of a time column has its number
numbered : (cs : List RawColumn) (before i : ℕ) → AreDistinct (map (λ c. c.name) (map column_of cs)) → 0 < i → i ≤ time_count (map column_of cs) → time_number before cs (time_name (map column_of cs) i) ≡ before + i
numbered [] before i h some le = absurd (omega arith)
numbered (c ∷ cs) before i h some le = by (is_time c.sort) (i == 1) refl refl (λ from k more_than few. numbered cs from k h.1 more_than few)
  where
    more : time_count (map column_of (c ∷ cs)) ≡ (if is_time c.sort then 1 else 0) + time_count (map column_of cs)
    more = times_cons (column_of c) (map column_of cs)

    by : (x y : Bool) → is_time c.sort ≡ x → (i == 1) ≡ y → ((from k : ℕ) → 0 < k → k ≤ time_count (map column_of cs) → time_number from cs (time_name (map column_of cs) k) ≡ from + k)
        → (let n = if x then (if y then c.name else time_name (map column_of cs) (i - 1)) else time_name (map column_of cs) i in (if x then (if bytes_eq c.name n then before + 1 else time_number (before + 1) cs n) else time_number before cs n) ≡ before + i)
    by true true e d again =
        let one : i ≡ 1 = eqb-true i 1 d in
        ap (λ b. if b then before + 1 else time_number (before + 1) cs c.name) ((bytes_decides c.name c.name).1 refl) ∙ omega (arith, one)
    by true false e d again =
        let one = not_one i d in
        let n = time_name (map column_of cs) (i - 1) in
        let size : time_count (map column_of (c ∷ cs)) ≡ 1 + time_count (map column_of cs) = more ∙ ap (λ b. (if b then 1 else 0) + time_count (map column_of cs)) e in
        let another : c.name ≢ n = other_name c.name (map column_of cs) (i - 1) h.0 (omega (arith, one, some)) (omega (arith, size, le, some)) in
        let rest = again (before + 1) (i - 1) (omega (arith, one, some)) (omega (arith, size, le, some)) in
        ap (λ b. if b then before + 1 else time_number (before + 1) cs n) (not_equal c.name n another) ∙ rest ∙ omega (arith, some)
    by false y e d again =
        let size : time_count (map column_of (c ∷ cs)) ≡ 0 + time_count (map column_of cs) = more ∙ ap (λ b. (if b then 1 else 0) + time_count (map column_of cs)) e in
        again before i some (omega (arith, size, le))

-- the same by the columns that are meant
pub numbered_as : (raw : List RawColumn) (cs : List Column) (i : ℕ) → map column_of raw ≡ cs → AreDistinct (map (λ c. c.name) cs) → 0 < i → i ≤ time_count cs → time_number 0 raw (time_name cs i) ≡ i
numbered_as raw cs i e =
    let P : List Column → Type 0 = λ ds. AreDistinct (map (λ c. c.name) ds) → 0 < i → i ≤ time_count ds → time_number 0 raw (time_name ds i) ≡ i in
    subst P e (λ d some le. numbered raw 0 i d some le ∙ omega arith)

-- ---- bounds

-- a bound by its parts
bound_is : (b : Bound) (l r : ℕ) (z : ℤ) → l ≡ b.left → r ≡ b.right → z ≡ b.most → bound_of l r z ≡ b
bound_is b l r z e d c = ap (λ x. bound_of x r z) e ∙ ap (λ x. bound_of b.left x z) d ∙ ap (bound_of b.left b.right) c

-- a bound between columns, by its right side
side_means : (raw : List RawColumn) (x : ℕ) (p : Place) (n : Identifier) (z : ℤ) → side_bounds raw AtMost x (side_tree p n z) ≡ bound_of x (time_number 0 raw n) z ∷ []
side_means raw x p n (pos zero) = refl
side_means raw x p n (pos (suc a)) = refl
side_means raw x p n (negsuc a) = refl

-- what a column's number is not
pub above : (i : ℕ) → (i == 0) ≡ false → 0 < i
above i e = grind (arith, nat_tests)

-- a bound
bound_means : (raw : List RawColumn) (cs : List Column) → map column_of raw ≡ cs → AreDistinct (map (λ c. c.name) cs) → (b : Bound) (p : Place) → IsBoundOf (time_count cs) b → kept_bounds raw (bound_tree cs p b) ≡ b ∷ []
bound_means raw cs e differ b p h = by (b.left == 0) (b.right == 0) refl refl
  where
    some : 0 < b.left + b.right
    some = h.some

    by : (x y : Bool) → (b.left == 0) ≡ x → (b.right == 0) ≡ y
        → kept_bounds raw (if x then lower_tree p (time_name cs b.right) (neg_ℤ b.most) else if y then upper_tree p (time_name cs b.left) b.most else between_tree p (time_name cs b.left) (time_name cs b.right) b.most) ≡ b ∷ []
    by true y d c =
        let none : b.left ≡ 0 = eqb-true b.left 0 d in
        let number = numbered_as raw cs b.right e differ (omega (arith, some, none)) h.right in
        let most : neg_ℤ (integer_of (written (neg_ℤ b.most))) ≡ b.most = ap neg_ℤ (written_is (neg_ℤ b.most)) ∙ omega (arith, ints) in
        ap (λ x. x ∷ []) (bound_is b 0 _ _ (sym none) number most)
    by false true d c =
        let none : b.right ≡ 0 = eqb-true b.right 0 c in
        let number = numbered_as raw cs b.left e differ (above b.left d) h.left in
        ap (λ x. x ∷ []) (bound_is b _ 0 _ number (sym none) (written_is b.most))
    by false false d c =
        let left = numbered_as raw cs b.left e differ (above b.left d) h.left in
        let right = numbered_as raw cs b.right e differ (above b.right c) h.right in
        side_means raw _ _ _ b.most ∙ ap (λ x. x ∷ []) (bound_is b _ _ b.most left right refl)

-- bounds
bounds_mean : (raw : List RawColumn) (cs : List Column) → map column_of raw ≡ cs → AreDistinct (map (λ c. c.name) cs) → (bs : List Bound) (p : Place) → AllByRecursion (IsBoundOf (time_count cs)) bs → flat_map (kept_bounds raw) (bound_trees cs p bs) ≡ bs
bounds_mean raw cs e differ [] p h = refl
bounds_mean raw cs e differ (b ∷ bs) p h =
    let q = after_comma (bound_bytes cs) p b in
    ap (λ l. l ++ flat_map (kept_bounds raw) (bound_trees cs q bs)) (bound_means raw cs e differ b p h.0) ∙ ap (λ l. b ∷ l) (bounds_mean raw cs e differ bs q h.1)

-- ---- rows and relations

-- a row
row_means : (raw : List RawColumn) (cs : List Column) → map column_of raw ≡ cs → AreDistinct (map (λ c. c.name) cs) → (r : Row) (p : Place) → IsRowOf cs r → row_of raw (row_at cs p r).item ≡ reduced_row r
row_means raw cs e differ r p h =
    let tree = row_tree cs p r in
    let values : map (λ v. value_of v.item) tree.values ≡ map reduced_value r.values = trees_map (after_comma value_bytes) value_at (λ v. value_of v.item) reduced_value IsReadable value_means r.values _ (values_readable cs r.values h.values) in
    let instants : instant_bounds tree.values 0 ≡ [] = no_instants (after_comma value_bytes) r.values _ 0 in
    let bounds : flat_map (kept_bounds raw) tree.bounds ≡ r.bounds = bounds_mean raw cs e differ r.bounds _ h.bounds in
    let all : instant_bounds tree.values 0 ++ flat_map (kept_bounds raw) tree.bounds ≡ r.bounds = ap (λ l. l ++ flat_map (kept_bounds raw) tree.bounds) instants ∙ bounds in
    ap (λ (l : List Value). record { values = l; bounds = instant_bounds tree.values 0 ++ flat_map (kept_bounds raw) tree.bounds }) values ∙ ap (λ (l : List Bound). record { values = map reduced_value r.values; bounds = l }) all

-- a relation
relation_means : (r : Relation) (p : Place) → IsKept r → relation_of (relation_tree p r) ≡ reduced r
relation_means r p k =
    let tree = relation_tree p r in
    let columns : map column_of tree.columns ≡ r.columns = columns_mean (after_comma column_bytes) r.columns _ in
    let rows : map (λ row. row_of tree.columns row.item) tree.rows ≡ map reduced_row r.rows =
    trees_map (after_piece (row_line r.columns)) (row_at r.columns) (λ row. row_of tree.columns row.item) reduced_row (IsRowOf r.columns) (row_means tree.columns r.columns columns k.differ) r.rows _ k.rows in
    ap (λ (l : List Column). record { name = r.name; columns = l; rows = map (λ row. row_of tree.columns row.item) tree.rows }) columns ∙ ap (λ (l : List Row). record { name = r.name; columns = r.columns; rows = l }) rows

-- relations
pub relations_mean : (rs : List Relation) (p : Place) → AllByRecursion IsKept rs → database_of (trees (after_piece relation_bytes) relation_tree p rs) ≡ map reduced rs
relations_mean = trees_map (after_piece relation_bytes) relation_tree relation_of reduced IsKept relation_means
