-- A text has fewer data texts than bytes.
use Rattle.std.proofs.Common.{◌≡◌, ◌<◌, ◌≤◌, ℕ, zero, suc, false, List, [], ◌∷◌, ◌++◌, length, length-append, map, refl, sym, ap, arith}
use Rattle.std.specs.List.{flat_map}
use Rattle.lrp_model.proofs.Everywhere.{map_count}
use Rattle.lrp_model.specs.Domains.{row_texts, database_texts}
use Rattle.lrp_model.specs.declared.tokens.Place.{Place}
use Rattle.lrp_model.specs.declared.tokens.Symbol.TheVariants.{Close, OpenBrace, CloseBrace, Semicolon, Plus}
use Rattle.lrp_model.specs.declared.tokens.Word.TheVariants.{Letter}
use Rattle.lrp_model.specs.declared.relations.Column.{Column}
use Rattle.lrp_model.specs.declared.relations.Value.{Value}
use Rattle.lrp_model.specs.declared.relations.Value.TheVariants.{Point as point, Const}
use Rattle.lrp_model.specs.declared.raw.RawColumn.{RawColumn}
use Rattle.lrp_model.specs.declared.written.Located.{Located}
use Rattle.lrp_model.specs.declared.written.Integer.{Integer}
use Rattle.lrp_model.specs.declared.written.WrittenValue.{WrittenValue}
use Rattle.lrp_model.specs.declared.written.WrittenValue.TheVariants.{Constant, Instant, Point}
use Rattle.lrp_model.specs.declared.written.RawRow.{RawRow}
use Rattle.lrp_model.specs.declared.written.RawRelation.{RawRelation}
use Rattle.lrp_model.specs.Tokens.{Token, Tokens, Part, Takes, Spells, separated, from, located_text}
use Rattle.lrp_model.specs.Tokens.Token.{name_token, word_token, number_token, text_token, symbol_token, end_token, bad_token, hole_token}
use Rattle.lrp_model.specs.Tokens.Part.{at, any}
use Rattle.lrp_model.specs.Lexing.{Scanned, scan, skip, after, headed, tokens_from, tokens, start, tokens_in_from}
use Rattle.lrp_model.specs.Columns.{column_text}
use Rattle.lrp_model.specs.Databases.{sign, integer_text, value_text, comma, bounds_text, row_text, relation_text, database_text}
use Rattle.lrp_model.specs.DatabaseMeaning.{column_of, value_of, row_of, database_of}

-- a token with those after it
headed_count : (p : Place) (s : Scanned) (k : Token) (rest : Tokens) (n : ℕ) → length rest ≤ n → length (headed p s k rest) ≤ suc n
headed_count p s (name_token m) rest n h = omega (arith, h)
headed_count p s (word_token w) rest n h = omega (arith, h)
headed_count p s (number_token m) rest n h = omega (arith, h)
headed_count p s (text_token t) rest n h = omega (arith, h)
headed_count p s (symbol_token x) rest n h = omega (arith, h)
headed_count p s end_token rest n h = omega arith
headed_count p s bad_token rest n h = omega arith
headed_count p s hole_token rest n h = omega (arith, h)

-- there are at most as many tokens as turns
pub tokens_count : (n : ℕ) (p : Place) (bs : List ℕ) → length (tokens_from n p bs) ≤ n
unfolding tokens_in_from
tokens_count zero p bs = omega arith
tokens_count (suc n) p bs =
    let a = skip false p bs in
    let s = scan a.bytes in
    headed_count a.place s s.token (tokens_from n (after a.place s.taken) s.left) n (tokens_count n (after a.place s.taken) s.left)

-- parts are as many as the tokens that they are
pub takes_count : (ps : List Part) (ts : Tokens) → Takes ps ts [] → length ps ≡ length ts
takes_count [] ts h = sym (ap length h)
takes_count (p ∷ ps) [] h = absurd h
takes_count (p ∷ ps) (t ∷ ts) h = ap suc (takes_count ps ts h.1)

-- a place makes no part more
from_count : (p : Place) (ps : List Part) → length (from p ps) ≡ length ps
from_count p [] = refl
from_count p (any k ∷ ps) = refl
from_count p (at q k ∷ ps) = refl

-- a value has a part at least
integer_count : (i : Integer) (ps : List Part) → 1 ≤ length (integer_text i ++ ps)
integer_count i ps =
    let a = length-append (integer_text i) ps in
    let b = length-append (sign i.negative) (any (number_token i.size) ∷ []) in
    omega (arith, a, b)

value_count : (v : WrittenValue) → 1 ≤ length (value_text v)
value_count (Constant t) = omega arith
value_count (Instant i) = let b = length-append (sign i.negative) (any (number_token i.size) ∷ []) in omega (arith, b)
value_count (Point i k) = integer_count i (any (symbol_token Plus) ∷ any (number_token k) ∷ any (word_token Letter) ∷ [])

-- values are at most as many as their parts
values_count : (vs : List (Located WrittenValue)) → length vs ≤ length (separated comma (located_text value_text) vs)
values_count [] = omega arith
values_count (v ∷ []) = let a = from_count v.place (value_text v.item) in let b = value_count v.item in omega (arith, a, b)
values_count (v ∷ w ∷ vs) =
    let a = from_count v.place (value_text v.item) in
    let b = value_count v.item in
    let c = length-append (located_text value_text v) (comma ∷ separated comma (located_text value_text) (w ∷ vs)) in
    let d = values_count (w ∷ vs) in
    omega (arith, a, b, c, d)

-- the texts of a row are at most as many as its values
texts_count : (cs : List Column) (vs : List Value) → length (row_texts cs vs) ≤ length vs
texts_count [] vs = omega arith
texts_count (c ∷ cs) [] = omega arith
texts_count (c ∷ cs) (point p ∷ vs) = let h = texts_count cs vs in omega (arith, h)
texts_count (c ∷ cs) (Const t ∷ vs) = let h = texts_count cs vs in omega (arith, h)

-- a row has more parts than texts
pub row_count : (ks : List Column) (cs : List RawColumn) (row : Located RawRow) → length (row_texts ks (row_of cs row.item).values) ≤ length (located_text row_text row)
row_count ks cs row =
    let r = row.item in
    let a = from_count row.place (row_text r) in
    let b = length-append (separated comma (located_text value_text) r.values) (any (symbol_token Close) ∷ (bounds_text r.bounds ++ any (symbol_token Semicolon) ∷ [])) in
    let c = values_count r.values in
    let d = texts_count ks (map (λ v. value_of v.item) r.values) in
    let e = map_count (λ v. value_of v.item) r.values in
    omega (arith, a, b, c, d, e)

-- the texts of all rows
rows_count : (cs : List RawColumn) (rows : List (Located RawRow)) → length (flat_map (λ row. row_texts (map column_of cs) row.values) (map (λ row. row_of cs row.item) rows)) ≤ length (flat_map (located_text row_text) rows)
rows_count cs [] = omega arith
rows_count cs (row ∷ rows) =
    let a = length-append (row_texts (map column_of cs) (row_of cs row.item).values) (flat_map (λ x. row_texts (map column_of cs) x.values) (map (λ x. row_of cs x.item) rows)) in
    let b = length-append (located_text row_text row) (flat_map (located_text row_text) rows) in
    let c = row_count (map column_of cs) cs row in
    let d = rows_count cs rows in
    omega (arith, a, b, c, d)

-- a relation has more parts than texts
relation_count : (r : RawRelation) → length (flat_map (λ row. row_texts (map column_of r.columns) row.values) (map (λ row. row_of r.columns row.item) r.rows)) < length (relation_text r)
relation_count r =
    let a = length-append (separated comma column_text r.columns) (any (symbol_token Close) ∷ any (symbol_token OpenBrace) ∷ (flat_map (located_text row_text) r.rows ++ any (symbol_token CloseBrace) ∷ [])) in
    let b = length-append (flat_map (located_text row_text) r.rows) (any (symbol_token CloseBrace) ∷ []) in
    let c = rows_count r.columns r.rows in
    omega (arith, a, b, c)

-- so has a database
relations_count : (rs : List RawRelation) → length (database_texts (database_of rs)) ≤ length (flat_map relation_text rs)
relations_count [] = omega arith
relations_count (r ∷ rs) =
    let a = length-append (flat_map (λ row. row_texts (map column_of r.columns) row.values) (map (λ row. row_of r.columns row.item) r.rows)) (database_texts (database_of rs)) in
    let b = length-append (relation_text r) (flat_map relation_text rs) in
    let c = relation_count r in
    let d = relations_count rs in
    omega (arith, a, b, c, d)

-- a database of at most n parts has fewer texts than that
fewer : (rs : List RawRelation) (n : ℕ) → 0 < n → length (flat_map relation_text rs) ≤ n → length (database_texts (database_of rs)) < n
fewer [] n some le = omega (arith, some)
fewer (r ∷ rs) n some le =
    let a = length-append (flat_map (λ row. row_texts (map column_of r.columns) row.values) (map (λ row. row_of r.columns row.item) r.rows)) (database_texts (database_of rs)) in
    let b = length-append (relation_text r) (flat_map relation_text rs) in
    let c = relation_count r in
    let d = relations_count rs in
    omega (arith, a, b, c, d, le)

-- a text of at most 2 ^ 24 bytes has fewer than 2 ^ 24 data texts
pub few_texts : (bytes : List ℕ) (tree : List RawRelation) → length bytes ≤ 16777216 → Spells (database_text tree) (tokens bytes) → length (database_texts (database_of tree)) < 16777216
few_texts bytes tree short h =
    let a = takes_count (database_text tree) (tokens bytes) h in
    let b = length-append (flat_map relation_text tree) (any end_token ∷ []) in
    let c = tokens_count (suc (length bytes)) start bytes in
    fewer tree 16777216 (omega arith) (omega (arith, a, b, c, short))
