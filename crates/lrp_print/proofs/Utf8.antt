-- What is written of relations is UTF-8.
use Rattle.std.proofs.Common.{◌≡◌, ◌<◌, ◌+◌, ◌==◌, ℕ, ℤ, zero, suc, Bool, true, false, ◌||◌, ◌&&◌, if◌then◌else◌, List, [], ◌∷◌, ◌++◌, length, get_or, refl, sym, subst, codes, arith, append_assoc}
use Rattle.std.specs.Prelude.{◌-◌, pos, negsuc, neg_ℤ, nat_le}
use Rattle.std.proofs.lemmas.Int.{ints}
use Rattle.std.proofs.lemmas.Bool.{leb-true}
use Rattle.std.proofs.lemmas.Bool.Decides.{nat_tests}
use Rattle.std.proofs.lemmas.List.{length-append}
use Rattle.std.proofs.Math.Seq.{get_or-append_seam, take-append_seam, drop-append_seam}
use Rattle.std.specs.Int.{int_rem_euclid}
use Rattle.std.specs.List.{flat_map, AllByRecursion}
use Rattle.std.specs.Str.{IsUtf8, IsAscii, IsCharBoundary}
use Rattle.std.specs.Fmt.{decimal, signed_decimal}
use Rattle.std.proofs.lemmas.Fmt.{IsAscii-decimal}
use Rattle.std.proofs.lemmas.Str.{IsUtf8-append, IsUtf8-from_ascii, IsUtf8-nil, IsUtf8-take, IsUtf8-drop, IsCharBoundary-before_ascii}
use Rattle.lrp_theory.proofs.Modulo.{rem_between}
use Rattle.lrp_model.specs.declared.relations.Sort.{Sort}
use Rattle.lrp_model.specs.declared.relations.Sort.TheVariants.{Time, Data, Named}
use Rattle.lrp_model.specs.declared.relations.Column.{Column}
use Rattle.lrp_model.specs.declared.relations.Bound.{Bound}
use Rattle.lrp_model.specs.declared.relations.Value.{Value}
use Rattle.lrp_model.specs.declared.relations.Value.TheVariants.{Point, Const}
use Rattle.lrp_model.specs.declared.relations.Row.{Row}
use Rattle.lrp_model.specs.declared.relations.Relation.{Relation}
use Rattle.lrp_model.specs.Texts.{Identifier}
use Rattle.lrp_model.specs.Sorts.{is_time, time_count}
use Rattle.lrp_model.specs.Lexing.{is_name_byte, run}
use Rattle.lrp_model.specs.Printed.{joined_by, escaped, quoted, value_bytes, sort_bytes, column_bytes, time_name, offset_bytes, bound_bytes, bounds_bytes, row_line, relation_bytes}
use Rattle.lrp_model.specs.Names.{IsName, IsNamedSort, AreNamed}
use Rattle.lrp_model.specs.Kept.{IsBoundOf, IsRowOf, IsKept}
use Rattle.lrp_print.proofs.Scanned.{name_word}
use Rattle.lrp_print.proofs.PieceLaws.{IsShort, short}
use Rattle.lrp_print.proofs.Trees.{IsReadable, values_readable}

-- ---- names

-- bytes of names are ASCII
run_ascii : (w : List ℕ) → run is_name_byte w ≡ w → AllByRecursion (λ b. b < 128) w
unfolding run
run_ascii [] e = tt
run_ascii (b ∷ w) e = by (is_name_byte b) refl e (run_ascii w)
  where
    small : (b : ℕ) → is_name_byte b ≡ true → b < 128
    small b t = grind (arith, nat_tests)

    by : (c : Bool) → is_name_byte b ≡ c → (if c then b ∷ run is_name_byte w else []) ≡ b ∷ w → (run is_name_byte w ≡ w → AllByRecursion (λ b. b < 128) w) → (b < 128) × AllByRecursion (λ b. b < 128) w
    by true t d again = let tail : run is_name_byte w ≡ w = cc in (small b t, again tail)
    by false t d again = absurd cc

-- bytes of ASCII at each index
ascii_each : (w : List ℕ) → AllByRecursion (λ b. b < 128) w → IsAscii w
ascii_each [] h i = omega arith
ascii_each (b ∷ w) h zero = h.0
ascii_each (b ∷ w) h (suc i) = ascii_each w h.1 i

-- whether bytes are ASCII
abbrev all_plain : List ℕ → Bool
all_plain [] = true
all_plain (b ∷ w) = nat_le b 127 && all_plain w

-- bytes that are found to be ASCII are
plain_ascii : (w : List ℕ) → all_plain w ≡ true → AllByRecursion (λ b. b < 128) w
plain_ascii [] e = tt
plain_ascii (b ∷ w) e = by (nat_le b 127) refl e (plain_ascii w)
  where
    by : (c : Bool) → nat_le b 127 ≡ c → (c && all_plain w) ≡ true → (all_plain w ≡ true → AllByRecursion (λ b. b < 128) w) → (b < 128) × AllByRecursion (λ b. b < 128) w
    by true t d again = (let le = leb-true b 127 t in omega (arith, le), again d)
    by false t d again = absurd cc

-- and UTF-8
plain_utf8 : (w : List ℕ) → all_plain w ≡ true → IsUtf8 w
plain_utf8 w e = IsUtf8-from_ascii w (ascii_each w (plain_ascii w e))

-- a name
name_utf8 : (n : Identifier) → IsName n → IsUtf8 n
name_utf8 n h =
    let w = name_word n h in
    IsUtf8-from_ascii n (ascii_each n (subst (λ x. AllByRecursion (λ b. b < 128) x) (sym w.is) (run_ascii (w.first ∷ w.others) w.whole)))

-- the name of a time column, if there is one
time_name_utf8 : (cs : List Column) (i : ℕ) → AreNamed cs → IsUtf8 (time_name cs i)
time_name_utf8 [] i h = IsUtf8-nil
time_name_utf8 (c ∷ cs) i h = by (is_time c.sort) (i == 1) (λ k. time_name_utf8 cs k h.1)
  where
    by : (x y : Bool) → ((k : ℕ) → IsUtf8 (time_name cs k)) → IsUtf8 (if x then (if y then c.name else time_name cs (i - 1)) else time_name cs i)
    by true true again = name_utf8 c.name h.0.0
    by true false again = again (i - 1)
    by false y again = again i

-- ---- numbers

-- an integer
integer_utf8 : (z : ℤ) → IsShort z → IsUtf8 (signed_decimal z)
integer_utf8 (pos n) h = IsUtf8-from_ascii (decimal n) (IsAscii-decimal n (omega (arith, h)))
integer_utf8 (negsuc n) h = IsUtf8-append (codes "-") (decimal (suc n)) (plain_utf8 (codes "-") refl) (IsUtf8-from_ascii (decimal (suc n)) (IsAscii-decimal (suc n) (omega (arith, h))))

-- ---- data texts

-- bytes before one of ASCII, and that byte and those after it
cut_ascii : (front : List ℕ) (b : ℕ) (rest : List ℕ) → b < 128 → IsUtf8 (front ++ b ∷ rest) → IsUtf8 front × IsUtf8 (b ∷ rest)
cut_ascii front b rest small u =
    let here : get_or (front ++ b ∷ rest) (length front) 0 ≡ b = get_or-append_seam front b rest 0 in
    let all : length (front ++ b ∷ rest) ≡ length front + length (b ∷ rest) = length-append front (b ∷ rest) in
    let cut : IsCharBoundary (front ++ b ∷ rest) (length front) = IsCharBoundary-before_ascii (front ++ b ∷ rest) (length front) (omega arith) (omega (arith, here, small)) in
    (subst IsUtf8 (take-append_seam front (b ∷ rest)) (IsUtf8-take (front ++ b ∷ rest) (length front) u cut), subst IsUtf8 (drop-append_seam front (b ∷ rest)) (IsUtf8-drop (front ++ b ∷ rest) (length front) u cut))

-- a text with a backslash before each quote and backslash, after other bytes
escaped_utf8 : (front t : List ℕ) → IsUtf8 (front ++ t) → IsUtf8 (front ++ flat_map escaped t)
escaped_utf8 front [] u = u
escaped_utf8 front (b ∷ t) u = by ((b == 34) || (b == 92)) refl (λ before. escaped_utf8 before t)
  where
    small : (b : ℕ) → ((b == 34) || (b == 92)) ≡ true → b < 128
    small b e = grind (arith, nat_tests)

    by : (c : Bool) → ((b == 34) || (b == 92)) ≡ c → ((before : List ℕ) → IsUtf8 (before ++ t) → IsUtf8 (before ++ flat_map escaped t)) → IsUtf8 (front ++ ((if c then 92 ∷ b ∷ [] else b ∷ []) ++ flat_map escaped t))
    by true e again =
        let cut = cut_ascii front b t (small b e) u in
        let tail : IsUtf8 (b ∷ flat_map escaped t) = again (b ∷ []) cut.1 in
        IsUtf8-append front (92 ∷ b ∷ flat_map escaped t) cut.0 (IsUtf8-append (92 ∷ []) (b ∷ flat_map escaped t) (plain_utf8 (92 ∷ []) refl) tail)
    by false e again = subst IsUtf8 (append_assoc front (b ∷ []) (flat_map escaped t)) (again (front ++ b ∷ []) (subst IsUtf8 (sym (append_assoc front (b ∷ []) t)) u))

-- a text between quotes
quoted_utf8 : (t : List ℕ) → IsUtf8 t → IsUtf8 (quoted t)
quoted_utf8 t u =
    let quote : IsUtf8 (34 ∷ []) = plain_utf8 (34 ∷ []) refl in
    IsUtf8-append (34 ∷ []) (flat_map escaped t ++ 34 ∷ []) quote (IsUtf8-append (flat_map escaped t) (34 ∷ []) (escaped_utf8 [] t u) quote)

-- ---- lists

-- elements with commas between
joined_utf8 : {A : Type 0} (bytes : A → List ℕ) (P : A → Type 0) → ((a : A) → P a → IsUtf8 (bytes a)) → (all : List A) → AllByRecursion P all → IsUtf8 (joined_by (codes ", ") bytes all)
joined_utf8 bytes P one [] h = IsUtf8-nil
joined_utf8 bytes P one (a ∷ []) h = one a h.0
joined_utf8 bytes P one (a ∷ b ∷ all) h =
    IsUtf8-append (bytes a) (codes ", " ++ joined_by (codes ", ") bytes (b ∷ all)) (one a h.0)
    (IsUtf8-append (codes ", ") (joined_by (codes ", ") bytes (b ∷ all)) (plain_utf8 (codes ", ") refl) (joined_utf8 bytes P one (b ∷ all) h.1))

-- elements one after the other
flat_utf8 : {A : Type 0} (bytes : A → List ℕ) (P : A → Type 0) → ((a : A) → P a → IsUtf8 (bytes a)) → (all : List A) → AllByRecursion P all → IsUtf8 (flat_map bytes all)
flat_utf8 bytes P one [] h = IsUtf8-nil
flat_utf8 bytes P one (a ∷ all) h = IsUtf8-append (bytes a) (flat_map bytes all) (one a h.0) (flat_utf8 bytes P one all h.1)

-- ---- the parts of relations

-- a value
value_utf8 : (v : Value) → IsReadable v → IsUtf8 (value_bytes v)
value_utf8 (Point at) h =
    let z = int_rem_euclid at.offset at.period in
    let b = rem_between at.period at.offset z h.0 refl in
    let low = h.0 in
    let high = h.1 in
    IsUtf8-append (signed_decimal z) _ (integer_utf8 z (short z (omega (arith, ints, b.0)) (omega (arith, ints, b.1, high))))
    (IsUtf8-append (codes "+") (signed_decimal at.period ++ codes "n") (plain_utf8 (codes "+") refl)
    (IsUtf8-append (signed_decimal at.period) (codes "n") (integer_utf8 at.period (short at.period (omega (arith, ints, low)) high)) (plain_utf8 (codes "n") refl)))
value_utf8 (Const t) h = quoted_utf8 t h.utf8

-- a sort
sort_utf8 : (s : Sort) → IsNamedSort s → IsUtf8 (sort_bytes s)
sort_utf8 Time h = plain_utf8 (codes "time") refl
sort_utf8 Data h = plain_utf8 (codes "data") refl
sort_utf8 (Named n) h = name_utf8 n h

-- a column
column_utf8 : (c : Column) → IsName c.name × IsNamedSort c.sort → IsUtf8 (column_bytes c)
column_utf8 c h = IsUtf8-append c.name (codes ": " ++ sort_bytes c.sort) (name_utf8 c.name h.0) (IsUtf8-append (codes ": ") (sort_bytes c.sort) (plain_utf8 (codes ": ") refl) (sort_utf8 c.sort h.1))

-- an offset
offset_utf8 : (z : ℤ) → IsShort z → IsUtf8 (offset_bytes z)
offset_utf8 (pos zero) h = IsUtf8-nil
offset_utf8 (pos (suc a)) h = IsUtf8-append (codes " + ") (decimal (suc a)) (plain_utf8 (codes " + ") refl) (IsUtf8-from_ascii (decimal (suc a)) (IsAscii-decimal (suc a) (omega (arith, h))))
offset_utf8 (negsuc a) h = IsUtf8-append (codes " - ") (decimal (suc a)) (plain_utf8 (codes " - ") refl) (IsUtf8-from_ascii (decimal (suc a)) (IsAscii-decimal (suc a) (omega (arith, h))))

-- a bound
bound_utf8 : (cs : List Column) → AreNamed cs → (b : Bound) → IsBoundOf (time_count cs) b → IsUtf8 (bound_bytes cs b)
bound_utf8 cs names b h = by (b.left == 0) (b.right == 0)
  where
    low : IsShort (neg_ℤ b.most)
    low = let one = h.low in let two = h.high in short (neg_ℤ b.most) (omega (arith, ints)) (omega (arith, ints))

    high : IsShort b.most
    high = short b.most h.low h.high

    least : IsUtf8 (codes " >= ")
    least = plain_utf8 (codes " >= ") refl

    most : IsUtf8 (codes " <= ")
    most = plain_utf8 (codes " <= ") refl

    by : (x y : Bool) → IsUtf8 (if x then time_name cs b.right ++ (codes " >= " ++ signed_decimal (neg_ℤ b.most)) else if y then time_name cs b.left ++ (codes " <= " ++ signed_decimal b.most) else time_name cs b.left ++ (codes " <= " ++ (time_name cs b.right ++ offset_bytes b.most)))
    by true y = IsUtf8-append (time_name cs b.right) (codes " >= " ++ signed_decimal (neg_ℤ b.most)) (time_name_utf8 cs b.right names) (IsUtf8-append (codes " >= ") (signed_decimal (neg_ℤ b.most)) least (integer_utf8 (neg_ℤ b.most) low))
    by false true = IsUtf8-append (time_name cs b.left) (codes " <= " ++ signed_decimal b.most) (time_name_utf8 cs b.left names) (IsUtf8-append (codes " <= ") (signed_decimal b.most) most (integer_utf8 b.most high))
    by false false =
        IsUtf8-append (time_name cs b.left) (codes " <= " ++ (time_name cs b.right ++ offset_bytes b.most)) (time_name_utf8 cs b.left names)
        (IsUtf8-append (codes " <= ") (time_name cs b.right ++ offset_bytes b.most) most (IsUtf8-append (time_name cs b.right) (offset_bytes b.most) (time_name_utf8 cs b.right names) (offset_utf8 b.most high)))

-- the bounds of a row
bounds_utf8 : (cs : List Column) → AreNamed cs → (bs : List Bound) → AllByRecursion (IsBoundOf (time_count cs)) bs → IsUtf8 (bounds_bytes cs bs)
bounds_utf8 cs names [] h = IsUtf8-nil
bounds_utf8 cs names (b ∷ bs) h =
    IsUtf8-append (codes " where ") (joined_by (codes ", ") (bound_bytes cs) (b ∷ bs)) (plain_utf8 (codes " where ") refl) (joined_utf8 (bound_bytes cs) (IsBoundOf (time_count cs)) (bound_utf8 cs names) (b ∷ bs) h)

-- a row
row_utf8 : (cs : List Column) → AreNamed cs → (r : Row) → IsRowOf cs r → IsUtf8 (row_line cs r)
row_utf8 cs names r h =
    IsUtf8-append (codes "  (") _ (plain_utf8 (codes "  (") refl)
    (IsUtf8-append (joined_by (codes ", ") value_bytes r.values) _ (joined_utf8 value_bytes IsReadable value_utf8 r.values (values_readable cs r.values h.values))
    (IsUtf8-append (codes ")") _ (plain_utf8 (codes ")") refl)
    (IsUtf8-append (bounds_bytes cs r.bounds) (codes ";\n") (bounds_utf8 cs names r.bounds h.bounds) (plain_utf8 (codes ";\n") refl))))

-- a relation
relation_utf8 : (r : Relation) → IsKept r → IsUtf8 (relation_bytes r)
relation_utf8 r k =
    IsUtf8-append (codes "relation ") _ (plain_utf8 (codes "relation ") refl)
    (IsUtf8-append r.name _ (name_utf8 r.name k.name)
    (IsUtf8-append (codes "(") _ (plain_utf8 (codes "(") refl)
    (IsUtf8-append (joined_by (codes ", ") column_bytes r.columns) _ (joined_utf8 column_bytes (λ c. IsName c.name × IsNamedSort c.sort) column_utf8 r.columns k.columns)
    (IsUtf8-append (codes ") {\n") _ (plain_utf8 (codes ") {\n") refl)
    (IsUtf8-append (flat_map (row_line r.columns) r.rows) (codes "}\n") (flat_utf8 (row_line r.columns) (IsRowOf r.columns) (row_utf8 r.columns k.columns) r.rows k.rows) (plain_utf8 (codes "}\n") refl))))))

-- relations
pub relations_utf8 : (rs : List Relation) → AllByRecursion IsKept rs → IsUtf8 (flat_map relation_bytes rs)
relations_utf8 = flat_utf8 relation_bytes IsKept relation_utf8
