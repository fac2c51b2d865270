-- The data texts in the tree of a text of UTF-8 are UTF-8, with no control characters.
use Rattle.std.proofs.Common.{◌≡◌, ◌≤◌, ◌-◌, ℕ, zero, suc, false, List, [], ◌∷◌, ◌++◌, length, refl, subst}
use Rattle.std.specs.List.{AllByRecursion, flat_map}
use Rattle.std.specs.Str.{IsUtf8}
use Rattle.std.proofs.lemmas.Str.{IsUtf8-drop}
use Rattle.lrp_model.specs.declared.tokens.Place.{Place}
use Rattle.lrp_model.specs.declared.tokens.Symbol.TheVariants.{Open, Close, OpenBrace, CloseBrace, Semicolon}
use Rattle.lrp_model.specs.declared.tokens.Word.TheVariants.{Relation}
use Rattle.lrp_model.specs.declared.written.Located.{Located}
use Rattle.lrp_model.specs.declared.written.WrittenValue.{WrittenValue}
use Rattle.lrp_model.specs.declared.written.WrittenValue.TheVariants.{Constant, Instant, Point}
use Rattle.lrp_model.specs.declared.written.RawRow.{RawRow}
use Rattle.lrp_model.specs.declared.written.RawRelation.{RawRelation}
use Rattle.lrp_model.specs.Texts.{FitsText}
use Rattle.lrp_model.specs.Tokens.{Token, Tokens, Part, Takes, Spells, separated, from, located_text}
use Rattle.lrp_model.specs.Tokens.Token.{name_token, word_token, number_token, text_token, symbol_token, end_token, bad_token, hole_token}
use Rattle.lrp_model.specs.Tokens.Part.{at, any}
use Rattle.lrp_model.specs.Lexing.{Scanned, scan, skip, after, headed, tokens_from, tokens, start, tokens_in_from}
use Rattle.lrp_model.specs.Columns.{column_text}
use Rattle.lrp_model.specs.Databases.{comma, value_text, name_part, bounds_text, row_text, relation_text, database_text}
use Rattle.lrp_text.proofs.Cuts.{skip_cut, skip_rest, scan_cut, scan_rest}
use Rattle.lrp_text.proofs.Meanings.{slice_fits, slice_utf8}
use Rattle.lrp_text.proofs.NameTokens.{all_front, all_after, all_tail}

-- a token of a text has a data text, if it is short enough
abbrev pub TextToken : Token → Type 0
TextToken (text_token t) = IsUtf8 t × (length t ≤ 255 → FitsText t)
TextToken _ = Unit {0}

-- the first token of bytes of UTF-8
pub scan_texted : (bs : List ℕ) → IsUtf8 bs → TextToken (scan bs).token
scan_texted bs u = by (scan bs).token refl
  where
    by : (k : Token) → (scan bs).token ≡ k → TextToken k
    by (text_token t) e = (slice_utf8 bs t e u, slice_fits bs t e)
    by (name_token n) e = tt
    by (word_token w) e = tt
    by (number_token n) e = tt
    by (symbol_token s) e = tt
    by end_token e = tt
    by bad_token e = tt
    by hole_token e = tt

-- a token with those after it
pub headed_texted : (p : Place) (s : Scanned) (k : Token) (rest : Tokens) → TextToken k → AllByRecursion (λ t. TextToken t.token) rest → AllByRecursion (λ t. TextToken t.token) (headed p s k rest)
headed_texted p s (name_token n) rest h r = (h, r)
headed_texted p s (word_token w) rest h r = (tt, r)
headed_texted p s (number_token n) rest h r = (tt, r)
headed_texted p s (text_token t) rest h r = (h, r)
headed_texted p s (symbol_token x) rest h r = (tt, r)
headed_texted p s end_token rest h r = (tt, tt)
headed_texted p s bad_token rest h r = (tt, tt)
headed_texted p s hole_token rest h r = (tt, r)

-- all tokens of bytes of UTF-8
pub tokens_texted : (n : ℕ) (p : Place) (bs : List ℕ) → IsUtf8 bs → AllByRecursion (λ t. TextToken t.token) (tokens_from n p bs)
unfolding tokens_in_from
tokens_texted zero p bs u = tt
tokens_texted (suc n) p bs u =
    let a = skip false p bs in
    let s = scan a.bytes in
    let here : IsUtf8 a.bytes = subst IsUtf8 (skip_rest p bs) (IsUtf8-drop bs (length bs - length a.bytes) u (skip_cut p bs u)) in
    let afterwards : IsUtf8 s.left = subst IsUtf8 (scan_rest a.bytes) (IsUtf8-drop a.bytes (length a.bytes - length s.left) here (scan_cut a.bytes here)) in
    headed_texted a.place s s.token (tokens_from n (after a.place s.taken) s.left) (scan_texted a.bytes here) (tokens_texted n (after a.place s.taken) s.left afterwards)

-- a part of a tree's text has a data text, if it is one
abbrev pub TextPart : Part → Type 0
TextPart (at p k) = TextToken k
TextPart (any k) = TextToken k

-- parts that are spelled by such tokens
pub takes_texted : (ps : List Part) (ts left : Tokens) → Takes ps ts left → AllByRecursion (λ t. TextToken t.token) ts → AllByRecursion TextPart ps
takes_texted [] ts left h texted = tt
takes_texted (p ∷ ps) [] left h texted = absurd h
takes_texted (at p k ∷ ps) (t ∷ ts) left h texted = (subst TextToken h.0.0 texted.0, takes_texted ps ts left h.1 texted.1)
takes_texted (any k ∷ ps) (t ∷ ts) left h texted = (subst TextToken h.0 texted.0, takes_texted ps ts left h.1 texted.1)

-- the text of a value is UTF-8, and a data text if it is short enough
abbrev pub HasText : WrittenValue → Type 0
HasText (Constant t) = IsUtf8 t × (length t ≤ 255 → FitsText t)
HasText (Instant i) = Unit {0}
HasText (Point i k) = Unit {0}

value_texted : (p : Place) (v : WrittenValue) → AllByRecursion TextPart (from p (value_text v)) → HasText v
value_texted p (Constant t) h = h.0
value_texted p (Instant i) h = tt
value_texted p (Point i k) h = tt

-- values with commas between
values_texted : (vs : List (Located WrittenValue)) → AllByRecursion TextPart (separated comma (located_text value_text) vs) → AllByRecursion (λ v. HasText v.item) vs
values_texted [] h = tt
values_texted (v ∷ []) h = (value_texted v.place v.item h, tt)
values_texted (v ∷ w ∷ vs) h =
    let first = located_text value_text v in
    let rest = separated comma (located_text value_text) (w ∷ vs) in
    (value_texted v.place v.item (all_front TextPart first (comma ∷ rest) h), values_texted (w ∷ vs) (all_tail TextPart comma rest (all_after TextPart first (comma ∷ rest) h)))

-- the texts of a row
abbrev pub RowHasTexts : Located RawRow → Type 0
RowHasTexts row = AllByRecursion (λ v. HasText v.item) row.item.values

pub row_texted : (row : Located RawRow) → AllByRecursion TextPart (located_text row_text row) → RowHasTexts row
row_texted row h =
    let values = separated comma (located_text value_text) row.item.values in
    let afterwards = any (symbol_token Close) ∷ (bounds_text row.item.bounds ++ any (symbol_token Semicolon) ∷ []) in
    values_texted row.item.values (all_front TextPart values afterwards (all_tail TextPart (at row.place (symbol_token Open)) (values ++ afterwards) h))

-- rows one after the other
rows_texted : (rows : List (Located RawRow)) → AllByRecursion TextPart (flat_map (located_text row_text) rows) → AllByRecursion RowHasTexts rows
rows_texted [] h = tt
rows_texted (row ∷ rows) h =
    let first = located_text row_text row in
    let rest = flat_map (located_text row_text) rows in
    (row_texted row (all_front TextPart first rest h), rows_texted rows (all_after TextPart first rest h))

-- the texts of a relation
abbrev pub HasTexts : RawRelation → Type 0
HasTexts r = AllByRecursion RowHasTexts r.rows

relation_texted : (r : RawRelation) → AllByRecursion TextPart (relation_text r) → HasTexts r
relation_texted r h =
    let rows = flat_map (located_text row_text) r.rows in
    let last = any (symbol_token CloseBrace) ∷ [] in
    let body = any (symbol_token OpenBrace) ∷ (rows ++ last) in
    let columns = separated comma column_text r.columns in
    let head = any (word_token Relation) ∷ name_part r.name ∷ any (symbol_token Open) ∷ [] in
    let inside = all_after TextPart head (columns ++ any (symbol_token Close) ∷ body) h in
    let closed = all_after TextPart columns (any (symbol_token Close) ∷ body) inside in
    rows_texted r.rows (all_front TextPart rows last (all_tail TextPart (any (symbol_token OpenBrace)) (rows ++ last) (all_tail TextPart (any (symbol_token Close)) body closed)))

-- relations one after the other
relations_texted : (rs : List RawRelation) → AllByRecursion TextPart (flat_map relation_text rs) → AllByRecursion HasTexts rs
relations_texted [] h = tt
relations_texted (r ∷ rs) h =
    let rest = flat_map relation_text rs in
    (relation_texted r (all_front TextPart (relation_text r) rest h), relations_texted rs (all_after TextPart (relation_text r) rest h))

-- the texts in a tree that bytes of UTF-8 spell
pub tree_texted : (bytes : List ℕ) (tree : List RawRelation) → IsUtf8 bytes → Spells (database_text tree) (tokens bytes) → AllByRecursion HasTexts tree
tree_texted bytes tree u h =
    relations_texted tree (all_front TextPart (flat_map relation_text tree) (any end_token ∷ []) (takes_texted (database_text tree) (tokens bytes) [] h (tokens_texted (suc (length bytes)) start bytes u)))
