-- The rule for relations: complete, sound and viable.
use Rattle.std.proofs.Common.{◌≡◌, ◌≤◌, ◌<◌, ◌+◌, ℕ, Bool, true, false, List, [], ◌∷◌, ◌++◌, refl, sym, subst, Ok, Err, length, arith, append-nil}
use Rattle.std.specs.List.{AllByRecursion, flat_map}
use Rattle.std.proofs.lemmas.List.{length-append}
use Rattle.lrp_model.specs.declared.tokens.Symbol.{Symbol}
use Rattle.lrp_model.specs.declared.tokens.Symbol.TheVariants.{Open, Close, OpenBrace, CloseBrace, Comma, Colon}
use Rattle.lrp_model.specs.declared.tokens.Word.{Word}
use Rattle.lrp_model.specs.declared.tokens.Word.TheVariants.{Relation}
use Rattle.lrp_model.specs.declared.tokens.Fault.{Fault}
use Rattle.lrp_model.specs.declared.raw.RawColumn.{RawColumn}
use Rattle.lrp_model.specs.declared.written.Located.{Located}
use Rattle.lrp_model.specs.declared.written.RawRow.{RawRow}
use Rattle.lrp_model.specs.declared.written.RawRelation.{RawRelation}
use Rattle.lrp_model.specs.Texts.{Identifier}
use Rattle.lrp_model.specs.Lexing.{start}
use Rattle.lrp_model.specs.Tokens.{Placed, Tokens, Part, Takes, Spells, located_text, separated}
use Rattle.lrp_model.specs.Tokens.Token.{name_token, symbol_token, word_token}
use Rattle.lrp_model.specs.Tokens.Part.{at, any}
use Rattle.lrp_model.specs.Refused.{Stops, TextOf}
use Rattle.lrp_model.specs.Columns.{sort_token, column_text}
use Rattle.lrp_model.specs.Databases.{name_part, comma, row_text, relation_text, FitsRow, FitsRelation}
use Rattle.lrp_text.specs.Parsers.{ParseOutcome, listed, until_from}
use Rattle.lrp_text.specs.Taking.{is_symbol, is_symbol_token, expect, expect_word, located}
use Rattle.lrp_text.specs.ColumnRule.{column}
use Rattle.lrp_text.proofs.Complete.{Answers, ReadsBack, answers_as, Anything, Sees, bind_back, then_back, pure_back, accepts_back, first_sees_any, first_sees_at, first_is_not, MemberBack, FollowsList, listed_back, MemberUntil, until_back, separated_long, joined_long}
use Rattle.lrp_text.proofs.Sound.{Sound, bind_ok, accept_sound, takes_join, takes_shorter, listed_sound, until_sound}
use Rattle.lrp_text.proofs.Viable.{Viable, One, accept_viable, sub_short, spells_join, always, listed_viable, until_viable}
use Rattle.lrp_text.proofs.TokenTests.{symbol_told, symbol_seen, word_expected, word_required, word_stops, expect_seen}
use Rattle.lrp_text.proofs.LocatedRule.{Leads, located_answers, located_sound, located_stops, takes_from}
use Rattle.lrp_text.proofs.ColumnRule.{column_back, column_sound, column_viable}
use Rattle.lrp_rel.specs.Rules.{label, row, relation}
use Rattle.lrp_rel.proofs.Labels.{label_back, label_sound, label_viable}
use Rattle.lrp_rel.proofs.RowRules.{row_answers, row_sound, row_viable, sym_part, symbol_sound, symbol_viable}

-- ---- complete

-- a column as a member of a list
columns_member : MemberBack column column_text (λ c. Unit {0}) Anything comma (is_symbol Comma)
columns_member = record { one = column_back; comma_follows = λ t ts h. tt; comma_seen = symbol_seen Comma }

-- a column does not begin with a parenthesis
column_sees : (c : RawColumn) (ts left : Tokens) → Takes (column_text c) ts left → Sees false (is_symbol Close) false ts
column_sees c ts left h = first_sees_at false (is_symbol_token Close) c.place (name_token c.name) (any (symbol_token Colon) ∷ at c.sort_place (sort_token c.sort) ∷ []) ts left h

-- every column is lawful
all_columns : (cs : List RawColumn) → AllByRecursion (λ c. Unit {0}) cs
all_columns [] = tt
all_columns (c ∷ cs) = (tt, all_columns cs)

-- after the columns stands a parenthesis, and they are few
pub record EndsColumns (n : ℕ) (cs : List RawColumn) (ts : Tokens) : Type 0 where
  pub closes : Sees false (is_symbol Close) true ts
  pub list : FollowsList Anything (is_symbol Comma) ts
  pub few : length cs ≤ n

-- the tokens of the columns of a relation are read back
columns_back : (n : ℕ) (cs : List RawColumn) (L : Type 0) → ReadsBack (listed column (is_symbol Comma) (is_symbol Close) n) (separated comma column_text cs) cs L (EndsColumns n cs)
columns_back n cs L = record { reads = λ ts left h g. answers_as _ cs left (AllByRecursion (λ c. Unit {0}) cs) L (λ l. all_columns cs) (listed_back columns_member (is_symbol Close) column_sees n cs g.few ts left h g.closes g.list) }

-- a parenthesis ends the columns
ends_columns : (n : ℕ) (cs : List RawColumn) (ps : List Part) (ts left : Tokens) → length cs ≤ n → Takes (any (symbol_token Close) ∷ ps) ts left → EndsColumns n cs ts
ends_columns n cs ps ts left few h = record {
  closes = first_sees_any false (is_symbol_token Close) (symbol_token Close) ps ts left h;
  list = record { member = tt; no_comma = first_is_not (is_symbol_token Comma) (symbol_token Close) ps ts left refl h };
  few = few;
}

-- a row begins with a token at any place
pub row_leads : (r : RawRow) → Leads (row_text r)
row_leads r = tt

-- what spells the rows of a relation
abbrev pub rows_text : List (Located RawRow) → List Part
rows_text = flat_map (located_text row_text)

-- a row as a member of a list
rows_member : (n : ℕ) → MemberUntil (located (row n)) (located_text row_text) (λ r. FitsRow r.item) Anything (is_symbol CloseBrace) n
rows_member n = record {
  one = λ a ts left lt h g. located_answers (row n) row_text a (FitsRow a.item) ts left tt h (λ k. row_answers n a.item ts left lt k);
  begins = λ a ts left h. (first_sees_any false (is_symbol_token CloseBrace) (symbol_token Open) _ ts left (takes_from a.place (row_text a.item) ts left tt h).0, tt);
}

-- after the rows stands a brace, and there is room for them
pub record EndsRows (n : ℕ) (rows : List (Located RawRow)) (ts : Tokens) : Type 0 where
  pub closes : Sees false (is_symbol CloseBrace) true ts
  pub room : length ts + length (rows_text rows) < n

-- a row has a token
row_has_token : (r : Located RawRow) → 0 < length (located_text row_text r)
row_has_token r = omega arith

-- the tokens of the rows of a relation are read back
rows_back : (n : ℕ) (rows : List (Located RawRow)) → ReadsBack (until_from (located (row n)) (is_symbol CloseBrace) n []) (rows_text rows) rows (AllByRecursion (λ r. FitsRow r.item) rows) (EndsRows n rows)
rows_back n rows = record {
  reads = λ ts left h g.
      let size : length left + length (rows_text rows) ≡ length ts = takes_shorter (rows_text rows) ts left h in
      let few : length rows ≤ length (rows_text rows) = joined_long (located_text row_text) row_has_token rows in
      let room = g.room in
      until_back (rows_member n) n [] rows (omega (arith, few, room)) ts left (omega (arith, size, room)) h g.closes tt;
}

-- there is room for the relation and what is left
abbrev pub Room : ℕ → RawRelation → Tokens → Type 0
Room n r left = length left + length (relation_text r) < n

-- the tokens of a relation are those of its columns and of its rows, and six more
relation_long : (r : RawRelation) → length (relation_text r) ≡ length (separated comma column_text r.columns) + length (rows_text r.rows) + 6
relation_long r =
    let ends : List Part = any (symbol_token CloseBrace) ∷ [] in
    let body : List Part = any (symbol_token Close) ∷ any (symbol_token OpenBrace) ∷ (rows_text r.rows ++ ends) in
    let size : length (separated comma column_text r.columns ++ body) ≡ length (separated comma column_text r.columns) + length body = length-append (separated comma column_text r.columns) body in
    let rest : length (rows_text r.rows ++ ends) ≡ length (rows_text r.rows) + length ends = length-append (rows_text r.rows) ends in
    omega (arith, size, rest)

-- a brace ends the rows
ends_rows : (n : ℕ) (r : RawRelation) (ts left : Tokens) → Takes (any (symbol_token CloseBrace) ∷ []) ts left → Room n r left → EndsRows n r.rows ts
ends_rows n r ts left h g =
    let size : length left + length {A = Part} (any (symbol_token CloseBrace) ∷ []) ≡ length ts = takes_shorter (any (symbol_token CloseBrace) ∷ []) ts left h in
    record {
      closes = first_sees_any false (is_symbol_token CloseBrace) (symbol_token CloseBrace) [] ts left h;
      room = omega (arith, size, relation_long r, g);
    }

-- the columns are fewer than the tokens
few_columns : (n : ℕ) (r : RawRelation) (left : Tokens) → Room n r left → length r.columns ≤ n
few_columns n r left g = omega (arith, relation_long r, separated_long comma column_text r.columns, g)

-- the tokens of a relation are read back
pub relation_back : (n : ℕ) (r : RawRelation) → ReadsBack (relation n) (relation_text r) r (FitsRelation r) (Room n r)
unfolding relation
relation_back n r =
    let L : Type 0 = FitsRelation r in
    then_back _ (accepts_back _ (any (word_token Relation)) tt L (word_required Relation))
    (then_back _ (label_back r.name L)
    (then_back _ (accepts_back _ (any (symbol_token Open)) tt L (expect_seen Open))
    (bind_back _ {P = separated comma column_text r.columns} {a = r.columns} {F = EndsColumns n r.columns} (columns_back n r.columns L)
    (then_back _ (accepts_back _ (any (symbol_token Close)) tt L (expect_seen Close))
    (then_back _ (accepts_back _ (any (symbol_token OpenBrace)) tt L (expect_seen OpenBrace))
    (bind_back _ {P = rows_text r.rows} {a = r.rows} {F = EndsRows n r.rows} (rows_back n r.rows)
    (then_back _ (accepts_back _ (any (symbol_token CloseBrace)) tt L (expect_seen CloseBrace)) (pure_back r L (Room n r)))
    (λ ts left h g. ends_rows n r ts left h g))))
    (λ ts left h g. ends_columns n r.columns (any (symbol_token OpenBrace) ∷ (rows_text r.rows ++ any (symbol_token CloseBrace) ∷ [])) ts left (few_columns n r left g) h))))

-- a relation that fewer tokens spell than the number of turns is read
pub relation_answers : (n : ℕ) (r : RawRelation) (ts left : Tokens) → length ts < n → Takes (relation_text r) ts left → Answers (relation n ts) r left (FitsRelation r)
relation_answers n r ts left lt h =
    let size : length left + length (relation_text r) ≡ length ts = takes_shorter (relation_text r) ts left h in
    (relation_back n r).reads ts left h (omega (arith, size, lt))

-- ---- sound

-- the columns of a relation that is read is spelled so, and is lawful
columns_sound : (n : ℕ) → Sound (listed column (is_symbol Comma) (is_symbol Close) n) (separated comma column_text) (AllByRecursion (λ c. Unit {0}))
columns_sound n = listed_sound column column_text (λ c. Unit {0}) comma (is_symbol Comma) (is_symbol Close) (symbol_told Comma) column_sound n

-- the rows of a relation that is read is spelled so, and is lawful
pub rows_sound : (n : ℕ) → Sound (until_from (located (row n)) (is_symbol CloseBrace) n []) rows_text (AllByRecursion (λ r. FitsRow r.item))
rows_sound n ts q e =
    let k = until_sound (located (row n)) (located_text row_text) (λ r. FitsRow r.item) (is_symbol CloseBrace) (located_sound (row n) row_text FitsRow row_leads (row_sound n)) n [] ts q e in
    let R : List (Located RawRow) → Type 0 = λ l. Takes (rows_text l) ts q.1 × AllByRecursion (λ r. FitsRow r.item) l in
    subst R (sym k.made) (k.spelled, k.fits)

-- the part that a reserved word is
abbrev word_part : Word → Unit {0} → Part
word_part w u = any (word_token w)

-- a reserved word that is read is spelled so, and is lawful
word_sound : (w : Word) → Sound (expect_word w) (One (word_part w)) (λ u. Unit {0})
word_sound w ts q e = (accept_sound _ (word_part w) (word_expected w) ts q e, tt)

-- the tokens before a fault of a reserved word begin one
word_viable : (w : Word) → Viable (expect_word w) (One (word_part w)) (λ u. Unit {0})
word_viable w = accept_viable _ (word_part w) (λ u. Unit {0}) (word_stops w)

-- the parts of a relation from its rows on, from its brace, its closing parenthesis, its columns, its opening parenthesis and its name
abbrev pub from_rows : List (Located RawRow) → List Part
from_rows rows = rows_text rows ++ any (symbol_token CloseBrace) ∷ []

-- from the opening brace on
abbrev pub from_brace : List (Located RawRow) → List Part
from_brace rows = any (symbol_token OpenBrace) ∷ from_rows rows

-- from the closing parenthesis on
abbrev pub from_close : List (Located RawRow) → List Part
from_close rows = any (symbol_token Close) ∷ from_brace rows

-- from the columns on
abbrev pub from_columns : List RawColumn → List (Located RawRow) → List Part
from_columns cs rows = separated comma column_text cs ++ from_close rows

-- from the opening parenthesis on
abbrev pub from_open : List RawColumn → List (Located RawRow) → List Part
from_open cs rows = any (symbol_token Open) ∷ from_columns cs rows

-- from the name on
abbrev pub from_name : Located Identifier → List RawColumn → List (Located RawRow) → List Part
from_name n cs rows = name_part n ∷ from_open cs rows

-- a relation of its parts
abbrev made_of : Located Identifier → List RawColumn → List (Located RawRow) → RawRelation
made_of n cs rows = record { name = n; columns = cs; rows = rows }

-- one outcome reads one thing
abbrev read_of : RawRelation × Tokens → ParseOutcome RawRelation
read_of p = Ok p

-- one outcome reads one thing
same_read : (p q : RawRelation × Tokens) → read_of p ≡ read_of q → p ≡ q
same_read p q e = cc

-- a relation that is read is spelled so, and is lawful
pub relation_sound : (n : ℕ) → Sound (relation n) relation_text FitsRelation
unfolding relation
relation_sound n ts q e =
    let w = bind_ok (expect_word Relation ts) _ q e in
    let name = bind_ok (label w.0.1) _ q w.2 in
    let o = bind_ok (expect Open name.0.1) _ q name.2 in
    let cs = bind_ok (listed column (is_symbol Comma) (is_symbol Close) n o.0.1) _ q o.2 in
    let c = bind_ok (expect Close cs.0.1) _ q cs.2 in
    let b = bind_ok (expect OpenBrace c.0.1) _ q c.2 in
    let rows = bind_ok (until_from (located (row n)) (is_symbol CloseBrace) n [] b.0.1) _ q b.2 in
    let end = bind_ok (expect CloseBrace rows.0.1) _ q rows.2 in
    let h : (made_of name.0.0 cs.0.0 rows.0.0, end.0.1) ≡ q = same_read (made_of name.0.0 cs.0.0 rows.0.0, end.0.1) q end.2 in
    let read = rows_sound n b.0.1 rows.0 rows.1 in
    let six = takes_join (rows_text rows.0.0) (any (symbol_token CloseBrace) ∷ []) b.0.1 rows.0.1 end.0.1 read.0 (symbol_sound CloseBrace rows.0.1 end.0 end.1).0 in
    let five = takes_join (One (sym_part OpenBrace) tt) (from_rows rows.0.0) c.0.1 b.0.1 end.0.1 (symbol_sound OpenBrace c.0.1 b.0 b.1).0 six in
    let four = takes_join (One (sym_part Close) tt) (from_brace rows.0.0) cs.0.1 c.0.1 end.0.1 (symbol_sound Close cs.0.1 c.0 c.1).0 five in
    let three = takes_join (separated comma column_text cs.0.0) (from_close rows.0.0) o.0.1 cs.0.1 end.0.1 (columns_sound n o.0.1 cs.0 cs.1).0 four in
    let two = takes_join (One (sym_part Open) tt) (from_columns cs.0.0 rows.0.0) name.0.1 o.0.1 end.0.1 (symbol_sound Open name.0.1 o.0 o.1).0 three in
    let one = takes_join (name_part name.0.0 ∷ []) (from_open cs.0.0 rows.0.0) w.0.1 name.0.1 end.0.1 (label_sound w.0.1 name.0 name.1).0 two in
    subst (λ y. Takes (relation_text y.0) ts y.1 × FitsRelation y.0) h
    (takes_join (One (word_part Relation) tt) (from_name name.0.0 cs.0.0 rows.0.0) ts w.0.1 end.0.1 (word_sound Relation ts w.0 w.1).0 one, read.1)

-- ---- viable

-- a symbol at the first place
abbrev symbol_at : Symbol → Placed
symbol_at s = record { token = symbol_token s; place = start }

-- the tokens that end it
abbrev ending : Tokens
ending = symbol_at CloseBrace ∷ []

-- tokens from the opening brace on
abbrev pub from_brace_on : Tokens
from_brace_on = symbol_at OpenBrace ∷ ending

-- tokens from the closing parenthesis on
abbrev pub from_close_on : Tokens
from_close_on = symbol_at Close ∷ from_brace_on

-- tokens from the opening parenthesis on
abbrev pub from_open_on : Tokens
from_open_on = symbol_at Open ∷ from_close_on

-- a name for what is not written yet
abbrev some_name : Located Identifier
some_name = record { place = start; item = [] }

-- tokens from the name on
abbrev pub from_name_on : Tokens
from_name_on = record { token = name_token []; place = start } ∷ from_open_on

-- the tokens before a fault of the rows of a relation begin one
rows_viable : (n : ℕ) (ts : Tokens) (e : Fault × Tokens) → length ts < n → until_from (located (row n)) (is_symbol CloseBrace) n [] ts ≡ Err e → Stops (TextOf rows_text (AllByRecursion (λ r. FitsRow r.item))) ts e
rows_viable n ts e lt h =
    until_viable (located (row n)) (located_text row_text) (λ r. FitsRow r.item) (is_symbol CloseBrace) n (located_sound (row n) row_text FitsRow row_leads (row_sound n))
    (λ us f short d. located_stops (row n) row_text FitsRow us f row_leads (λ r. row_viable n us f short r) d) row_has_token n [] ts e lt lt h

-- the parts of a relation up to the columns, spelled
spelled_columns : (n : Located Identifier) (cs : List RawColumn) (rows : List (Located RawRow)) (h1 h2 h3 h4 x : Tokens) → Spells (One (word_part Relation) tt) h1 → Spells (One name_part n) h2 → Spells (One (sym_part Open) tt) h3 → Spells (separated comma column_text cs) h4 → Spells (from_close rows) x → Spells (relation_text (made_of n cs rows)) (h1 ++ (h2 ++ (h3 ++ (h4 ++ x))))
spelled_columns n cs rows h1 h2 h3 h4 x s1 s2 s3 s4 r =
    spells_join (One (word_part Relation) tt) (from_name n cs rows) h1 (h2 ++ (h3 ++ (h4 ++ x))) s1
    (spells_join (One name_part n) (from_open cs rows) h2 (h3 ++ (h4 ++ x)) s2
    (spells_join (One (sym_part Open) tt) (from_columns cs rows) h3 (h4 ++ x) s3
    (spells_join (separated comma column_text cs) (from_close rows) h4 x s4 r)))

-- the tokens before a fault of a relation begin one
pub relation_viable : (n : ℕ) (ts : Tokens) (e : Fault × Tokens) → length ts < n → relation n ts ≡ Err e → Stops (TextOf relation_text FitsRelation) ts e
unfolding relation
relation_viable n ts e lt h =
    let R : Bool → Tokens → Type 0 = TextOf relation_text FitsRelation in
    let Fits : List (Located RawRow) → Type 0 = AllByRecursion (λ r. FitsRow r.item) in
    sub_short (expect_word Relation) _ (One (word_part Relation)) (λ u. Unit {0}) R ts e (word_sound Relation) (word_viable Relation ts e) h
    (λ c u x spelled fit. (from_name_on, (made_of some_name [] [], always (Unit {0}) c tt, spells_join (One (word_part Relation) u) (from_name some_name [] []) x from_name_on spelled ((refl, refl), (refl, (refl, (refl, (refl, refl))))))))
    (λ u h1 us s1 f1 l1 d1. sub_short label _ (One name_part) (λ m. Unit {0}) (λ c x. R c (h1 ++ x)) us e label_sound (label_viable us e) d1
    (λ c m x spelled fit. (from_open_on, (made_of m [] [], always (Unit {0}) c tt, spells_join (One (word_part Relation) tt) (from_name m [] []) h1 (x ++ from_open_on) s1 (spells_join (One name_part m) (from_open [] []) x from_open_on spelled (refl, (refl, (refl, (refl, refl))))))))
    (λ m h2 vs s2 f2 l2 d2. sub_short (expect Open) _ (One (sym_part Open)) (λ u. Unit {0}) (λ c x. R c (h1 ++ (h2 ++ x))) vs e (symbol_sound Open) (symbol_viable Open vs e) d2
    (λ c v x spelled fit. (from_close_on, (made_of m [] [], always (Unit {0}) c tt, spells_join (One (word_part Relation) tt) (from_name m [] []) h1 (h2 ++ (x ++ from_close_on)) s1 (spells_join (One name_part m) (from_open [] []) h2 (x ++ from_close_on) s2 (spells_join (One (sym_part Open) tt) (from_columns [] []) x from_close_on spelled (refl, (refl, (refl, refl))))))))
    (λ v h3 ws s3 f3 l3 d3. sub_short (listed column (is_symbol Comma) (is_symbol Close) n) _ (separated comma column_text) (AllByRecursion (λ k. Unit {0})) (λ c x. R c (h1 ++ (h2 ++ (h3 ++ x)))) ws e (columns_sound n) (λ d. listed_viable column column_text (λ k. Unit {0}) comma (is_symbol Comma) (is_symbol Close) (symbol_told Comma) column_sound column_viable n ws e (omega arith) d) d3
    (λ c cs x spelled fit. (from_close_on, (made_of m cs [], always (Unit {0}) c tt, spelled_columns m cs [] h1 h2 h3 x from_close_on s1 s2 s3 spelled (refl, (refl, (refl, refl))))))
    (λ cs h4 xs s4 f4 l4 d4. sub_short (expect Close) _ (One (sym_part Close)) (λ u. Unit {0}) (λ c x. R c (h1 ++ (h2 ++ (h3 ++ (h4 ++ x))))) xs e (symbol_sound Close) (symbol_viable Close xs e) d4
    (λ c w x spelled fit. (from_brace_on, (made_of m cs [], always (Unit {0}) c tt, spelled_columns m cs [] h1 h2 h3 h4 (x ++ from_brace_on) s1 s2 s3 s4 (spells_join (One (sym_part Close) tt) (from_brace []) x from_brace_on spelled (refl, (refl, refl))))))
    (λ w h5 ys s5 f5 l5 d5. sub_short (expect OpenBrace) _ (One (sym_part OpenBrace)) (λ u. Unit {0}) (λ c x. R c (h1 ++ (h2 ++ (h3 ++ (h4 ++ (h5 ++ x)))))) ys e (symbol_sound OpenBrace) (symbol_viable OpenBrace ys e) d5
    (λ c z x spelled fit. (ending, (made_of m cs [], always (Unit {0}) c tt, spelled_columns m cs [] h1 h2 h3 h4 (h5 ++ (x ++ ending)) s1 s2 s3 s4 (spells_join (One (sym_part Close) tt) (from_brace []) h5 (x ++ ending) s5 (spells_join (One (sym_part OpenBrace) tt) (from_rows []) x ending spelled (refl, refl))))))
    (λ z h6 zs s6 f6 l6 d6. sub_short (until_from (located (row n)) (is_symbol CloseBrace) n []) _ rows_text Fits (λ c x. R c (h1 ++ (h2 ++ (h3 ++ (h4 ++ (h5 ++ (h6 ++ x))))))) zs e (rows_sound n) (λ d. rows_viable n zs e (omega arith) d) d6
    (λ c rows x spelled fit. (ending, (made_of m cs rows, fit, spelled_columns m cs rows h1 h2 h3 h4 (h5 ++ (h6 ++ (x ++ ending))) s1 s2 s3 s4 (spells_join (One (sym_part Close) tt) (from_brace rows) h5 (h6 ++ (x ++ ending)) s5 (spells_join (One (sym_part OpenBrace) tt) (from_rows rows) h6 (x ++ ending) s6 (spells_join (rows_text rows) (any (symbol_token CloseBrace) ∷ []) x ending spelled (refl, refl)))))))
    (λ rows h7 last s7 f7 l7 d7. sub_short (expect CloseBrace) _ (One (sym_part CloseBrace)) (λ u. Unit {0}) (λ c x. R c (h1 ++ (h2 ++ (h3 ++ (h4 ++ (h5 ++ (h6 ++ (h7 ++ x)))))))) last e (symbol_sound CloseBrace) (symbol_viable CloseBrace last e) d7
    (λ c b x spelled fit. ([], (made_of m cs rows, always (Fits rows) c f7, spelled_columns m cs rows h1 h2 h3 h4 (h5 ++ (h6 ++ (h7 ++ (x ++ [])))) s1 s2 s3 s4 (spells_join (One (sym_part Close) tt) (from_brace rows) h5 (h6 ++ (h7 ++ (x ++ []))) s5 (spells_join (One (sym_part OpenBrace) tt) (from_rows rows) h6 (h7 ++ (x ++ [])) s6 (spells_join (rows_text rows) (any (symbol_token CloseBrace) ∷ []) h7 (x ++ []) s7 (subst (λ y. Spells (One (sym_part CloseBrace) b) y) (sym (append-nil x)) spelled)))))))
    (λ b h8 bs s8 f8 l8 d8. absurd cc))))))))
