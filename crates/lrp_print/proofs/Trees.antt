-- The tree of a written relation, and that its text spells it.
use Rattle.std.proofs.Common.{◌≡◌, ◌<◌, ◌≤◌, ◌+◌, ◌-◌, ◌==◌, ℕ, ℤ, zero, suc, Bool, true, false, ◌||◌, if◌then◌else◌, List, [], ◌∷◌, ◌++◌, refl, ap, ◌∙◌, codes, arith}
use Rattle.std.specs.Prelude.{◌≤ℤ◌, pos, negsuc, neg_ℤ, unsigned_abs, EachIndex, slice_index}
use Rattle.std.proofs.lemmas.Int.{ints}
use Rattle.std.proofs.lemmas.Bool.{eqb-true}
use Rattle.std.proofs.lemmas.Bool.Decides.{nat_tests}
use Rattle.std.proofs.lemmas.List.Sums.{sum_by-cons}
use Rattle.std.specs.Int.{int_rem_euclid}
use Rattle.std.specs.List.{flat_map, AllByRecursion}
use Rattle.std.specs.Fmt.{signed_decimal}
use Rattle.lrp_theory.proofs.Modulo.{rem_between}
use Rattle.lrp_model.specs.declared.tokens.Place.{Place}
use Rattle.lrp_model.specs.declared.tokens.Symbol.TheVariants.{Plus, Le, Ge}
use Rattle.lrp_model.specs.declared.tokens.Word.TheVariants.{Letter}
use Rattle.lrp_model.specs.declared.relations.Sort.{Sort}
use Rattle.lrp_model.specs.declared.relations.Sort.TheVariants.{Time, Data, Named}
use Rattle.lrp_model.specs.declared.relations.Column.{Column}
use Rattle.lrp_model.specs.declared.relations.Bound.{Bound}
use Rattle.lrp_model.specs.declared.relations.Value.{Value}
use Rattle.lrp_model.specs.declared.relations.Value.TheVariants.{Point, Const}
use Rattle.lrp_model.specs.declared.relations.Row.{Row}
use Rattle.lrp_model.specs.declared.relations.Relation.{Relation}
use Rattle.lrp_model.specs.declared.raw.RawColumn.{RawColumn}
use Rattle.lrp_model.specs.declared.written.Located.{Located}
use Rattle.lrp_model.specs.declared.written.WrittenValue.{WrittenValue}
use Rattle.lrp_model.specs.declared.written.WrittenValue.TheVariants.{Constant, Point as written_point}
use Rattle.lrp_model.specs.declared.written.BoundOp.TheVariants.{AtMost, AtLeast}
use Rattle.lrp_model.specs.declared.written.Side.{Side}
use Rattle.lrp_model.specs.declared.written.Side.TheVariants.{Alone, Column as side_column, Shifted}
use Rattle.lrp_model.specs.declared.written.RawBound.{RawBound}
use Rattle.lrp_model.specs.declared.written.RawRow.{RawRow}
use Rattle.lrp_model.specs.declared.written.RawRelation.{RawRelation}
use Rattle.lrp_model.specs.Texts.{Identifier}
use Rattle.lrp_model.specs.DataTexts.{IsDataText}
use Rattle.lrp_model.specs.Sorts.{is_time, time_count}
use Rattle.lrp_model.specs.Tokens.{from, located_text}
use Rattle.lrp_model.specs.Tokens.Token.{word_token, number_token, symbol_token}
use Rattle.lrp_model.specs.Tokens.Part.{at, any}
use Rattle.lrp_model.specs.Columns.{column_text, sort_token}
use Rattle.lrp_model.specs.Databases.{value_text, side_text, bound_text, bounds_text, row_text, relation_text}
use Rattle.lrp_model.specs.Lexing.{is_letter, is_name_byte, after}
use Rattle.std.specs.Char.{is_ascii_digit}
use Rattle.lrp_model.specs.Limits.{greatest_number}
use Rattle.lrp_model.specs.Printed.{joined_by, value_bytes, column_bytes, sort_bytes, time_name, offset_bytes, bound_bytes, bounds_bytes, row_line, relation_bytes}
use Rattle.lrp_model.specs.Names.{IsName, IsNamedSort, AreNamed}
use Rattle.lrp_model.specs.Kept.{AreValuesOf, IsBoundOf, IsRowOf, IsKept}
use Rattle.lrp_print.proofs.Spelling.{Spelled, nothing, both}
use Rattle.lrp_print.proofs.Scanned.{Stops, IsPlain}
use Rattle.lrp_print.proofs.PieceLaws.{space, feed, open_at, open_any, close, open_brace, close_brace, colon, semicolon, plus, minus, at_most, at_least, relation_word, where_word, letter_word, time_at, data_at, name_at, number_any, written, IsShort, short, integer_any, integer_at, text_at, trees, after_comma, after_piece, separated_spelled, joined_spelled}

-- ---- values

-- a value as it is written, with its offset taken modulo its period
abbrev pub value_tree : Value → WrittenValue
value_tree (Point p) = written_point (written (int_rem_euclid p.offset p.period)) (unsigned_abs p.period)
value_tree (Const t) = Constant t

-- a value at a place
abbrev pub value_at : Place → Value → Located WrittenValue
value_at p v = record { place = p; item = value_tree v }

-- a point whose period is from 1 to 2 ^ 62, or a data text
abbrev pub IsReadable : Value → Type 0
IsReadable (Point p) = (pos 1 ≤ℤ p.period) × (p.period ≤ℤ pos greatest_number)
IsReadable (Const t) = IsDataText t

-- bytes of a text are plain
plain_bytes : (t : List ℕ) → EachIndex t (λ i. (32 ≤ slice_index t i) × (slice_index t i ≡ 127 → ⊥)) → AllByRecursion IsPlain t
plain_bytes [] h = tt
plain_bytes (b ∷ t) h = (let k = h 0 (omega arith) in plain b k.0 k.1, plain_bytes t (λ i lt. h (suc i) (omega arith)))
  where
    plain : (b : ℕ) → 32 ≤ b → (b ≡ 127 → ⊥) → IsPlain b
    plain b le ne = grind (arith, nat_tests)

-- what follows no name follows no number
digit_stops : (rest : List ℕ) → Stops is_name_byte rest → Stops is_ascii_digit rest
digit_stops [] s = tt
digit_stops (b ∷ rest) s = by (is_letter b) (is_ascii_digit b) s
  where
    by : (x y : Bool) → (x || y) ≡ false → y ≡ false
    by false y e = e
    by true y e = absurd cc

-- the period of a point
period_spelled : (k : ℤ) (p : Place) (rest : List ℕ) → pos 1 ≤ℤ k → k ≤ℤ pos greatest_number → Stops is_name_byte rest
    → Spelled (any (symbol_token Plus) ∷ any (number_token (unsigned_abs k)) ∷ any (word_token Letter) ∷ []) p (codes "+" ++ (signed_decimal k ++ codes "n")) rest
period_spelled (pos k) p rest low high s =
    let q = after p (codes "+") in
    both (plus p ((signed_decimal (pos k) ++ codes "n") ++ rest)) (both (number_any k q (codes "n" ++ rest) (omega (arith, ints)) refl) (letter_word (after q (signed_decimal (pos k))) rest s))
period_spelled (negsuc k) p rest low high s = absurd (omega (arith, ints))

-- a point
point_spelled : (z k : ℤ) (p : Place) (rest : List ℕ) → IsShort z → pos 1 ≤ℤ k → k ≤ℤ pos greatest_number → Stops is_name_byte rest
    → Spelled (from p (value_text (written_point (written z) (unsigned_abs k)))) p (signed_decimal z ++ (codes "+" ++ (signed_decimal k ++ codes "n"))) rest
point_spelled (pos n) k p rest h low high s =
    both (integer_at (pos n) p (codes "+" ++ ((signed_decimal k ++ codes "n") ++ rest)) h refl) (period_spelled k (after p (signed_decimal (pos n))) rest low high s)
point_spelled (negsuc n) k p rest h low high s =
    both (integer_at (negsuc n) p (codes "+" ++ ((signed_decimal k ++ codes "n") ++ rest)) h refl) (period_spelled k (after p (signed_decimal (negsuc n))) rest low high s)

-- a value
value_spelled : (v : Value) (p : Place) (rest : List ℕ) → IsReadable v → Stops is_name_byte rest → Spelled (located_text value_text (value_at p v)) p (value_bytes v) rest
value_spelled (Point point) p rest h s =
    let z = int_rem_euclid point.offset point.period in
    let b = rem_between point.period point.offset z h.0 refl in
    point_spelled z point.period p rest (short z (omega (arith, ints, b.0)) (omega (arith, ints, b.1, h.1))) h.0 h.1 s
value_spelled (Const t) p rest h s = text_at t p rest (plain_bytes t h.fits.plain)

-- ---- columns

abbrev pub column_tree : Place → Column → RawColumn
column_tree p c = record { name = c.name; place = p; sort = c.sort; sort_place = after (after p c.name) (codes ": ") }

-- the name of a sort
sort_spelled : (sort : Sort) (p : Place) (rest : List ℕ) → IsNamedSort sort → Stops is_name_byte rest → Spelled (at p (sort_token sort) ∷ []) p (sort_bytes sort) rest
sort_spelled Time p rest h s = time_at p rest s
sort_spelled Data p rest h s = data_at p rest s
sort_spelled (Named n) p rest h s = name_at n p rest h s

-- a column
column_spelled : (c : Column) (p : Place) (rest : List ℕ) → IsName c.name × IsNamedSort c.sort → Stops is_name_byte rest → Spelled (column_text (column_tree p c)) p (column_bytes c) rest
column_spelled c p rest h s =
    let tail = sort_bytes c.sort ++ rest in
    let q = after p c.name in
    both (name_at c.name p (codes ": " ++ tail) h.0 refl) (both (both (colon q (32 ∷ tail)) (space (after q (58 ∷ [])) tail)) (sort_spelled c.sort (after q (codes ": ")) rest h.1 s))

-- ---- bounds

-- a column on the right side, with an offset
abbrev pub side_tree : Place → Identifier → ℤ → Side
side_tree p n (pos zero) = side_column (record { place = p; item = n })
side_tree p n (pos (suc a)) = Shifted (record { place = p; item = n }) false (suc a)
side_tree p n (negsuc a) = Shifted (record { place = p; item = n }) true (suc a)

-- X >= b
abbrev pub lower_tree : Place → Identifier → ℤ → RawBound
lower_tree p n z = record { left = record { place = p; item = n }; op = AtLeast; side = Alone (written z) }

-- X <= a
abbrev pub upper_tree : Place → Identifier → ℤ → RawBound
upper_tree p n z = record { left = record { place = p; item = n }; op = AtMost; side = Alone (written z) }

-- X <= Y, with an offset
abbrev pub between_tree : Place → Identifier → Identifier → ℤ → RawBound
between_tree p n m z = record { left = record { place = p; item = n }; op = AtMost; side = side_tree (after (after p n) (codes " <= ")) m z }

abbrev pub bound_tree : List Column → Place → Bound → RawBound
bound_tree cs p b =
    if b.left == 0 then lower_tree p (time_name cs b.right) (neg_ℤ b.most) else
    if b.right == 0 then upper_tree p (time_name cs b.left) b.most else
    between_tree p (time_name cs b.left) (time_name cs b.right) b.most

-- the right side of a bound between columns
side_spelled : (n : Identifier) (z : ℤ) (p : Place) (rest : List ℕ) → IsName n → IsShort z → Stops is_name_byte rest → Spelled (side_text (side_tree p n z)) p (n ++ offset_bytes z) rest
side_spelled n (pos zero) p rest h small s = both (name_at n p rest h s) (nothing (after p n) rest)
side_spelled n (pos (suc a)) p rest h small s =
    let q = after p n in
    let tail = signed_decimal (pos (suc a)) ++ rest in
    both (name_at n p (codes " + " ++ tail) h refl) (both (both (space q (43 ∷ 32 ∷ tail)) (both (plus (after q (32 ∷ [])) (32 ∷ tail)) (space (after (after q (32 ∷ [])) (43 ∷ [])) tail))) (number_any (suc a) (after q (codes " + ")) rest (omega (arith, small)) (digit_stops rest s)))
side_spelled n (negsuc a) p rest h small s =
    let q = after p n in
    let tail = signed_decimal (pos (suc a)) ++ rest in
    both (name_at n p (codes " - " ++ tail) h refl) (both (both (space q (45 ∷ 32 ∷ tail)) (both (minus (after q (32 ∷ [])) (32 ∷ tail)) (space (after (after q (32 ∷ [])) (45 ∷ [])) tail))) (number_any (suc a) (after q (codes " - ")) rest (omega (arith, small)) (digit_stops rest s)))

-- `>=` or `<=` between blanks
least_spelled : (p : Place) (rest : List ℕ) → Spelled (any (symbol_token Ge) ∷ []) p (codes " >= ") rest
least_spelled p rest =
    let q = after p (32 ∷ []) in
    both (space p (62 ∷ 61 ∷ 32 ∷ rest)) (both (at_least q (32 ∷ rest)) (space (after q (62 ∷ 61 ∷ [])) rest))

most_spelled : (p : Place) (rest : List ℕ) → Spelled (any (symbol_token Le) ∷ []) p (codes " <= ") rest
most_spelled p rest =
    let q = after p (32 ∷ []) in
    both (space p (60 ∷ 61 ∷ 32 ∷ rest)) (both (at_most q (32 ∷ rest)) (space (after q (60 ∷ 61 ∷ [])) rest))

-- one time column more, or none
pub times_cons : (c : Column) (cs : List Column) → time_count (c ∷ cs) ≡ (if is_time c.sort then 1 else 0) + time_count cs
times_cons c cs = sum_by-cons (λ x. if is_time x.sort then 1 else 0) c cs

-- a time column of a number has a name
time_named : (cs : List Column) (i : ℕ) → AreNamed cs → 0 < i → i ≤ time_count cs → IsName (time_name cs i)
time_named [] i h some le = absurd (omega arith)
time_named (c ∷ cs) i h some le = by (is_time c.sort) (i == 1) refl refl (λ k more_than few. time_named cs k h.1 more_than few)
  where
    more : time_count (c ∷ cs) ≡ (if is_time c.sort then 1 else 0) + time_count cs
    more = times_cons c cs

    other : (i : ℕ) → (i == 1) ≡ false → i ≡ 1 → ⊥
    other i d e = grind (arith, nat_tests)

    by : (x y : Bool) → is_time c.sort ≡ x → (i == 1) ≡ y → ((k : ℕ) → 0 < k → k ≤ time_count cs → IsName (time_name cs k)) → IsName (if x then (if y then c.name else time_name cs (i - 1)) else time_name cs i)
    by true true e d again = h.0.0
    by true false e d again =
        let one = other i d in
        let size : time_count (c ∷ cs) ≡ 1 + time_count cs = more ∙ ap (λ b. (if b then 1 else 0) + time_count cs) e in
        again (i - 1) (omega (arith, one, some)) (omega (arith, size, le, some))
    by false y e d again =
        let size : time_count (c ∷ cs) ≡ 0 + time_count cs = more ∙ ap (λ b. (if b then 1 else 0) + time_count cs) e in
        again i some (omega (arith, size, le))

-- a bound
bound_spelled : (cs : List Column) → AreNamed cs → (b : Bound) (p : Place) (rest : List ℕ) → IsBoundOf (time_count cs) b → Stops is_name_byte rest → Spelled (bound_text (bound_tree cs p b)) p (bound_bytes cs b) rest
bound_spelled cs names b p rest h s = by (b.left == 0) (b.right == 0) refl refl
  where
    low : IsShort (neg_ℤ b.most)
    low = let one = h.low in let two = h.high in short (neg_ℤ b.most) (omega (arith, ints)) (omega (arith, ints))

    high : IsShort b.most
    high = short b.most h.low h.high

    above : (i : ℕ) → (i == 0) ≡ false → 0 < i
    above i e = grind (arith, nat_tests)

    by : (x y : Bool) → (b.left == 0) ≡ x → (b.right == 0) ≡ y
        → Spelled (bound_text (if x then lower_tree p (time_name cs b.right) (neg_ℤ b.most) else if y then upper_tree p (time_name cs b.left) b.most else between_tree p (time_name cs b.left) (time_name cs b.right) b.most)) p
        (if x then time_name cs b.right ++ (codes " >= " ++ signed_decimal (neg_ℤ b.most)) else if y then time_name cs b.left ++ (codes " <= " ++ signed_decimal b.most) else time_name cs b.left ++ (codes " <= " ++ (time_name cs b.right ++ offset_bytes b.most))) rest
    by true y e d =
        let n = time_name cs b.right in
        let zero_left : b.left ≡ 0 = eqb-true b.left 0 e in
        let some = h.some in
        let named : IsName n = time_named cs b.right names (omega (arith, some, zero_left)) h.right in
        let tail = signed_decimal (neg_ℤ b.most) ++ rest in
        both (name_at n p (codes " >= " ++ tail) named refl) (both (least_spelled (after p n) tail) (integer_any (neg_ℤ b.most) (after (after p n) (codes " >= ")) rest low (digit_stops rest s)))
    by false true e d =
        let n = time_name cs b.left in
        let named : IsName n = time_named cs b.left names (above b.left e) h.left in
        let tail = signed_decimal b.most ++ rest in
        both (name_at n p (codes " <= " ++ tail) named refl) (both (most_spelled (after p n) tail) (integer_any b.most (after (after p n) (codes " <= ")) rest high (digit_stops rest s)))
    by false false e d =
        let n = time_name cs b.left in
        let m = time_name cs b.right in
        let tail = (m ++ offset_bytes b.most) ++ rest in
        both (name_at n p (codes " <= " ++ tail) (time_named cs b.left names (above b.left e) h.left) refl) (both (most_spelled (after p n) tail) (side_spelled m b.most (after (after p n) (codes " <= ")) rest (time_named cs b.right names (above b.right d) h.right) high s))

-- ---- rows

-- the bounds of a row, from the place of their first
abbrev pub bound_trees : List Column → Place → List Bound → List RawBound
bound_trees cs = trees (after_comma (bound_bytes cs)) (bound_tree cs)

-- after the values of a row whose line begins here
abbrev pub after_values : Place → Row → Place
after_values p r = after (after (after p (codes "  (")) (joined_by (codes ", ") value_bytes r.values)) (codes ")")

-- a row whose line begins at a place
abbrev pub row_tree : List Column → Place → Row → RawRow
row_tree cs p r = record {
  values = trees (after_comma value_bytes) value_at (after p (codes "  (")) r.values;
  bounds = bound_trees cs (after (after_values p r) (codes " where ")) r.bounds;
}

-- the same at the place of its parenthesis
abbrev pub row_at : List Column → Place → Row → Located RawRow
row_at cs p r = record { place = after (after p (32 ∷ [])) (32 ∷ []); item = row_tree cs p r }

-- the bounds after `where`
bounds_spelled : (cs : List Column) → AreNamed cs → (bs : List Bound) (p : Place) (rest : List ℕ) → AllByRecursion (IsBoundOf (time_count cs)) bs → Stops is_name_byte rest
    → Spelled (bounds_text (bound_trees cs (after p (codes " where ")) bs)) p (bounds_bytes cs bs) rest
bounds_spelled cs names [] p rest h s = nothing p rest
bounds_spelled cs names (b ∷ bs) p rest h s =
    let tail = joined_by (codes ", ") (bound_bytes cs) (b ∷ bs) ++ rest in
    let q = after p (32 ∷ []) in
    both (both (space p (codes "where" ++ (32 ∷ tail))) (both (where_word q (32 ∷ tail) refl) (space (after q (codes "where")) tail)))
    (separated_spelled bound_text (bound_tree cs) (bound_bytes cs) (IsBoundOf (time_count cs)) (bound_spelled cs names) (b ∷ bs) (after p (codes " where ")) rest h s)

-- values of columns can be read
pub values_readable : (cs : List Column) (vs : List Value) → AreValuesOf cs vs → AllByRecursion IsReadable vs
values_readable [] [] h = tt
values_readable [] (v ∷ vs) h = absurd h
values_readable (c ∷ cs) [] h = absurd h
values_readable (c ∷ cs) (Point p ∷ vs) h = ((h.0.1, h.0.2), values_readable cs vs h.1)
values_readable (c ∷ cs) (Const t ∷ vs) h = (h.0.1, values_readable cs vs h.1)

-- a row on its line
row_spelled : (cs : List Column) → AreNamed cs → (r : Row) (p : Place) (rest : List ℕ) → IsRowOf cs r → Spelled (located_text row_text (row_at cs p r)) p (row_line cs r) rest
row_spelled cs names r p rest h =
    let values = joined_by (codes ", ") value_bytes r.values in
    let bounds = bounds_bytes cs r.bounds in
    let last = (bounds ++ codes ";\n") ++ rest in
    let first = (values ++ (codes ")" ++ (bounds ++ codes ";\n"))) ++ rest in
    let one = after p (32 ∷ []) in
    let two = after one (32 ∷ []) in
    let inside = after p (codes "  (") in
    let after_piece = after inside values in
    let ended = after (after after_piece (codes ")")) bounds in
    both (both (space p (32 ∷ 40 ∷ first)) (both (space one (40 ∷ first)) (open_at two first)))
    (both (separated_spelled (located_text value_text) value_at value_bytes IsReadable value_spelled r.values inside (codes ")" ++ last) (values_readable cs r.values h.values) refl)
    (both (close after_piece last)
    (both (bounds_spelled cs names r.bounds (after after_piece (codes ")")) (codes ";\n" ++ rest) h.bounds refl)
    (both (semicolon ended (10 ∷ rest)) (feed (after ended (59 ∷ [])) rest)))))

-- ---- relations

-- after the name of a relation whose text begins here, and after the columns
abbrev pub after_name : Place → Relation → Place
after_name p r = after (after (after p (codes "relation ")) r.name) (codes "(")

abbrev pub after_columns : Place → Relation → Place
after_columns p r = after (after (after_name p r) (joined_by (codes ", ") column_bytes r.columns)) (codes ") {\n")

-- a relation whose text begins at a place
abbrev pub relation_tree : Place → Relation → RawRelation
relation_tree p r = record {
  name = record { place = after p (codes "relation "); item = r.name };
  columns = trees (after_comma column_bytes) column_tree (after_name p r) r.columns;
  rows = trees (after_piece (row_line r.columns)) (row_at r.columns) (after_columns p r) r.rows;
}

-- a relation
pub relation_spelled : (r : Relation) (p : Place) (rest : List ℕ) → IsKept r → Spelled (relation_text (relation_tree p r)) p (relation_bytes r) rest
relation_spelled r p rest k =
    let columns = joined_by (codes ", ") column_bytes r.columns in
    let rows = flat_map (row_line r.columns) r.rows in
    let body_bytes = rows ++ codes "}\n" in
    let last = body_bytes ++ rest in
    let first = (columns ++ (codes ") {\n" ++ body_bytes)) ++ rest in
    let whole = (r.name ++ (codes "(" ++ (columns ++ (codes ") {\n" ++ body_bytes)))) ++ rest in
    let named = after p (codes "relation ") in
    let opened = after named r.name in
    let inside = after_name p r in
    let closed = after inside columns in
    let body = after_columns p r in
    let ended = after body rows in
    both (both (relation_word p (32 ∷ whole) refl) (space (after p (codes "relation")) whole))
    (both (name_at r.name named (codes "(" ++ first) k.name refl)
    (both (open_any opened first)
    (both (separated_spelled column_text column_tree column_bytes (λ c. IsName c.name × IsNamedSort c.sort) column_spelled r.columns inside (codes ") {\n" ++ last) k.columns refl)
    (both (both (close closed (32 ∷ 123 ∷ 10 ∷ last)) (both (space (after closed (41 ∷ [])) (123 ∷ 10 ∷ last)) (both (open_brace (after (after closed (41 ∷ [])) (32 ∷ [])) (10 ∷ last)) (feed (after (after (after closed (41 ∷ [])) (32 ∷ [])) (123 ∷ [])) last))))
    (both (joined_spelled (located_text row_text) (row_at r.columns) (row_line r.columns) (IsRowOf r.columns) (row_spelled r.columns k.columns) r.rows body (codes "}\n" ++ rest) k.rows)
    (both (close_brace ended (10 ∷ rest)) (feed (after ended (125 ∷ [])) rest)))))))

-- relations, one after the other
pub relations_spelled : (rs : List Relation) (p : Place) (rest : List ℕ) → AllByRecursion IsKept rs → Spelled (flat_map relation_text (trees (after_piece relation_bytes) relation_tree p rs)) p (flat_map relation_bytes rs) rest
relations_spelled = joined_spelled relation_text relation_tree relation_bytes IsKept relation_spelled
