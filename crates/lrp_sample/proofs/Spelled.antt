-- The tree of the sample's database, and that its text spells it.
use Rattle.std.proofs.Common.{ℕ, false, List, [], ◌∷◌, ◌++◌, refl, ◌∙◌, subst, codes, append-nil}
use Rattle.std.specs.Prelude.{pos}
use Rattle.std.specs.List.{flat_map, range_with_len, AllByRecursion}
use Rattle.std.specs.Fmt.{decimal}
use Rattle.lrp_model.specs.declared.tokens.Place.{Place}
use Rattle.lrp_model.specs.declared.tokens.Symbol.TheVariants.{Open, Close, OpenBrace, Plus, Equals}
use Rattle.lrp_model.specs.declared.tokens.Word.TheVariants.{Relation, Where, Letter}
use Rattle.lrp_model.specs.declared.relations.Sort.{Sort}
use Rattle.lrp_model.specs.declared.relations.Sort.TheVariants.{Time, Data}
use Rattle.lrp_model.specs.declared.raw.RawColumn.{RawColumn}
use Rattle.lrp_model.specs.declared.written.Located.{Located}
use Rattle.lrp_model.specs.declared.written.WrittenValue.{WrittenValue}
use Rattle.lrp_model.specs.declared.written.WrittenValue.TheVariants.{Constant, Point}
use Rattle.lrp_model.specs.declared.written.BoundOp.TheVariants.{Equal}
use Rattle.lrp_model.specs.declared.written.Side.TheVariants.{Shifted}
use Rattle.lrp_model.specs.declared.written.RawBound.{RawBound}
use Rattle.lrp_model.specs.declared.written.RawRow.{RawRow}
use Rattle.lrp_model.specs.declared.written.RawRelation.{RawRelation}
use Rattle.lrp_model.specs.Texts.{Identifier}
use Rattle.lrp_model.specs.Tokens.{Part, Spells, located_text, separated}
use Rattle.lrp_model.specs.Tokens.Token.{name_token, word_token, number_token, symbol_token, end_token}
use Rattle.lrp_model.specs.Tokens.Part.{at, any}
use Rattle.lrp_model.specs.Columns.{column_text}
use Rattle.lrp_model.specs.Databases.{comma, row_text, relation_text, database_text}
use Rattle.lrp_model.specs.Lexing.{is_name_byte, after, start, tokens, tokens_from, skip, scan, run, after_run, word_or_name, symbol_from, scan_in, symbol_in, tokens_in_from}
use Rattle.std.specs.Char.{is_ascii_digit}
use Rattle.lrp_model.specs.Printed.{quoted}
use Rattle.lrp_model.specs.Names.{IsName}
use Rattle.lrp_text.proofs.Sound.{takes_join}
use Rattle.lrp_print.proofs.Spelling.{Spelled, tokens_at, nothing, both, token_any}
use Rattle.lrp_print.proofs.Scanned.{Stops, digit_begins, number_scanned}
use Rattle.lrp_print.proofs.PieceLaws.{space, feed, open_at, open_any, close, open_brace, close_brace, colon, semicolon, plus, separator, relation_word, where_word, letter_word, time_at, data_at, name_at, number_at, number_any, written, text_at, trees, after_piece, joined_spelled}
use Rattle.lrp_sample.specs.Texts.{duration, departure, arrival, line, trip_line, heading, sample_database}
use Rattle.lrp_sample.proofs.Small.{departure_small, arrival_small, duration_small, line_plain}

-- ---- names

dep_named : IsName (codes "dep")
unfolding scan_in run after_run word_or_name
dep_named = refl

arr_named : IsName (codes "arr")
unfolding scan_in run after_run word_or_name
arr_named = refl

line_named : IsName (codes "line")
unfolding scan_in run after_run word_or_name
line_named = refl

trip_named : IsName (codes "trip")
unfolding scan_in run after_run word_or_name
trip_named = refl

-- ---- the tree

abbrev day : ℕ → WrittenValue
day minute = Point (written (pos minute)) 1440

abbrev located : {A : Type 0} → Place → A → Located A
located p a = record { place = p; item = a }

-- the places of a row's parts, where its line begins at a place
module _ (seed i : ℕ) (p : Place) where
  abbrev opened : Place
  opened = after (after p (32 ∷ [])) (32 ∷ [])

  abbrev first : Place
  first = after p (codes "  (")

  abbrev second : Place
  second = after (after first (decimal (departure seed i))) (codes "+1440n, ")

  abbrev third : Place
  third = after (after second (decimal (arrival seed i))) (codes "+1440n, ")

  abbrev bounded : Place
  bounded = after (after third (quoted (line i))) (codes ") where ")

  abbrev compared : Place
  compared = after (after bounded (codes "arr")) (codes " = ")

-- arr = dep + d
abbrev pub bound_tree : ℕ → ℕ → Place → RawBound
bound_tree seed i p = record {
  left = located (bounded seed i p) (codes "arr");
  op = Equal;
  side = Shifted (located (compared seed i p) (codes "dep")) false (duration i);
}

-- the row of a trip
abbrev pub trip_tree : ℕ → ℕ → Place → RawRow
trip_tree seed i p = record {
  values = located (first seed i p) (day (departure seed i)) ∷ located (second seed i p) (day (arrival seed i)) ∷ located (third seed i p) (Constant (line i)) ∷ [];
  bounds = bound_tree seed i p ∷ [];
}

-- the same at the place of its parenthesis
abbrev pub trip_at : ℕ → Place → ℕ → Located RawRow
trip_at seed p i = located (opened seed i p) (trip_tree seed i p)

abbrev column_tree : Place → Identifier → Sort → RawColumn
column_tree p name sort = record { name = name; place = p; sort = sort; sort_place = after (after p name) (codes ": ") }

-- the columns, where the text begins at a place
abbrev pub columns_tree : Place → List RawColumn
columns_tree p =
    let one = after (after (after p (codes "relation ")) (codes "trip")) (codes "(") in
    let two = after (after one (codes "dep: time")) (codes ", ") in
    let three = after (after two (codes "arr: time")) (codes ", ") in
    column_tree one (codes "dep") Time ∷ column_tree two (codes "arr") Time ∷ column_tree three (codes "line") Data ∷ []

-- the relation whose text begins at a place
abbrev pub relation_tree : ℕ → ℕ → Place → RawRelation
relation_tree seed size p = record {
  name = located (after p (codes "relation ")) (codes "trip");
  columns = columns_tree p;
  rows = trees (after_piece (trip_line seed)) (trip_at seed) (after p heading) (range_with_len 0 size);
}

-- ---- a row

-- two blanks and the parenthesis
begun : (p : Place) (rest : List ℕ) → Spelled (at (after (after p (32 ∷ [])) (32 ∷ [])) (symbol_token Open) ∷ []) p (codes "  (") rest
begun p rest =
    let one = after p (32 ∷ []) in
    let two = after one (32 ∷ []) in
    both (space p (32 ∷ 40 ∷ rest)) (both (space one (40 ∷ rest)) (open_at two rest))

-- the minutes of a day
minutes : (p : Place) (rest : List ℕ) → Stops is_ascii_digit rest → Spelled (any (number_token 1440) ∷ []) p (codes "1440") rest
unfolding run
minutes p rest s = token_any (number_token 1440) p 49 (codes "440") rest tt (digit_begins 49 refl) (number_scanned 49 (codes "440") rest refl refl s)

-- the period of a day, and a comma
each_day : (p : Place) (rest : List ℕ) → Spelled (any (symbol_token Plus) ∷ any (number_token 1440) ∷ any (word_token Letter) ∷ comma ∷ []) p (codes "+1440n, ") rest
each_day p rest =
    let q = after p (codes "+") in
    let r = after q (codes "1440") in
    both (plus p (codes "1440n, " ++ rest)) (both (minutes q (codes "n, " ++ rest) refl) (both (letter_word r (codes ", " ++ rest) refl) (separator (after r (codes "n")) rest)))

-- the parenthesis after the values, and the word after it
where_spelled : (p : Place) (rest : List ℕ) → Spelled (any (symbol_token Close) ∷ any (word_token Where) ∷ []) p (codes ") where ") rest
where_spelled p rest =
    let q = after (after p (codes ")")) (codes " ") in
    both (close p (codes " where " ++ rest)) (both (space (after p (codes ")")) (codes "where " ++ rest)) (both (where_word q (codes " " ++ rest) refl) (space (after q (codes "where")) rest)))

equals : (p : Place) (rest : List ℕ) → Spelled (any (symbol_token Equals) ∷ []) p (61 ∷ []) rest
unfolding scan_in symbol_in
equals p rest = token_any (symbol_token Equals) p 61 [] rest tt (record { plain = refl; dark = refl }) refl

-- `=` between blanks
equals_spelled : (p : Place) (rest : List ℕ) → Spelled (any (symbol_token Equals) ∷ []) p (codes " = ") rest
equals_spelled p rest =
    let q = after p (32 ∷ []) in
    both (space p (61 ∷ 32 ∷ rest)) (both (equals q (32 ∷ rest)) (space (after q (61 ∷ [])) rest))

-- `+` between blanks
plus_spelled : (p : Place) (rest : List ℕ) → Spelled (any (symbol_token Plus) ∷ []) p (codes " + ") rest
plus_spelled p rest =
    let q = after p (32 ∷ []) in
    both (space p (43 ∷ 32 ∷ rest)) (both (plus q (32 ∷ rest)) (space (after q (43 ∷ [])) rest))

-- the line of a trip
trip_spelled : (seed i : ℕ) (p : Place) (rest : List ℕ) → Spelled (located_text row_text (trip_at seed p i)) p (trip_line seed i) rest
trip_spelled seed i p rest =
    let end = codes ";\n" in
    let long = decimal (duration i) ++ end in
    let offset = codes " + " ++ long in
    let dep = codes "dep" ++ offset in
    let equal = codes " = " ++ dep in
    let arr = codes "arr" ++ equal in
    let bounds = codes ") where " ++ arr in
    let text = quoted (line i) ++ bounds in
    let daily_two = codes "+1440n, " ++ text in
    let two = decimal (arrival seed i) ++ daily_two in
    let daily_one = codes "+1440n, " ++ two in
    let one = decimal (departure seed i) ++ daily_one in
    let a = first seed i p in
    let b = second seed i p in
    let c = third seed i p in
    let d = bounded seed i p in
    let e = compared seed i p in
    let f = after e (codes "dep") in
    let g = after f (codes " + ") in
    both (begun p (one ++ rest))
    (both (number_at (departure seed i) a (daily_one ++ rest) (departure_small seed i) refl)
    (both (each_day (after a (decimal (departure seed i))) (two ++ rest))
    (both (number_at (arrival seed i) b (daily_two ++ rest) (arrival_small seed i) refl)
    (both (each_day (after b (decimal (arrival seed i))) (text ++ rest))
    (both (text_at (line i) c (bounds ++ rest) (line_plain i))
    (both (where_spelled (after c (quoted (line i))) (arr ++ rest))
    (both (name_at (codes "arr") d (equal ++ rest) arr_named refl)
    (both (equals_spelled (after d (codes "arr")) (dep ++ rest))
    (both (name_at (codes "dep") e (offset ++ rest) dep_named refl)
    (both (plus_spelled f (long ++ rest))
    (both (number_any (duration i) g (end ++ rest) (duration_small i) refl)
    (both (semicolon (after g (decimal (duration i))) (codes "\n" ++ rest)) (feed (after (after g (decimal (duration i))) (codes ";")) rest)))))))))))))

-- ---- the relation

-- a column of times
time_column : (name : Identifier) (p : Place) (rest : List ℕ) → IsName name → Stops is_name_byte rest → Spelled (column_text (column_tree p name Time)) p (name ++ codes ": time") rest
time_column name p rest h s =
    let q = after p name in
    both (name_at name p (codes ": time" ++ rest) h refl) (both (both (colon q (codes " time" ++ rest)) (space (after q (codes ":")) (codes "time" ++ rest))) (time_at (after q (codes ": ")) rest s))

-- a column of texts
data_column : (name : Identifier) (p : Place) (rest : List ℕ) → IsName name → Stops is_name_byte rest → Spelled (column_text (column_tree p name Data)) p (name ++ codes ": data") rest
data_column name p rest h s =
    let q = after p name in
    both (name_at name p (codes ": data" ++ rest) h refl) (both (both (colon q (codes " data" ++ rest)) (space (after q (codes ":")) (codes "data" ++ rest))) (data_at (after q (codes ": ")) rest s))

-- the parts of the first line
abbrev heading_parts : Place → List Part
heading_parts p = any (word_token Relation) ∷ at (after p (codes "relation ")) (name_token (codes "trip")) ∷ any (symbol_token Open) ∷ (separated comma column_text (columns_tree p) ++ any (symbol_token Close) ∷ any (symbol_token OpenBrace) ∷ [])

-- the first line
heading_spelled : (p : Place) (rest : List ℕ) → Spelled (heading_parts p) p heading rest
heading_spelled p rest =
    let named = after p (codes "relation ") in
    let opened = after named (codes "trip") in
    let one = after opened (codes "(") in
    let two = after (after one (codes "dep: time")) (codes ", ") in
    let three = after (after two (codes "arr: time")) (codes ", ") in
    let closed = after three (codes "line: data") in
    let brace = after (after closed (codes ")")) (codes " ") in
    both (both (relation_word p (codes " trip(dep: time, arr: time, line: data) {\n" ++ rest) refl) (space (after p (codes "relation")) (codes "trip(dep: time, arr: time, line: data) {\n" ++ rest)))
    (both (name_at (codes "trip") named (codes "(dep: time, arr: time, line: data) {\n" ++ rest) trip_named refl)
    (both (open_any opened (codes "dep: time, arr: time, line: data) {\n" ++ rest))
    (both (time_column (codes "dep") one (codes ", arr: time, line: data) {\n" ++ rest) dep_named refl)
    (both (separator (after one (codes "dep: time")) (codes "arr: time, line: data) {\n" ++ rest))
    (both (time_column (codes "arr") two (codes ", line: data) {\n" ++ rest) arr_named refl)
    (both (separator (after two (codes "arr: time")) (codes "line: data) {\n" ++ rest))
    (both (data_column (codes "line") three (codes ") {\n" ++ rest) line_named refl)
    (both (close closed (codes " {\n" ++ rest))
    (both (space (after closed (codes ")")) (codes "{\n" ++ rest))
    (both (open_brace brace (codes "\n" ++ rest)) (feed (after brace (codes "{")) rest)))))))))))

-- what holds of every number holds of each of a list
pub each : (xs : List ℕ) → AllByRecursion (λ i. Unit {0}) xs
each [] = tt
each (x ∷ xs) = (tt, each xs)

-- the relation
relation_spelled : (seed size : ℕ) (p : Place) (rest : List ℕ) → Spelled (relation_text (relation_tree seed size p)) p (sample_database seed size) rest
relation_spelled seed size p rest =
    let rows = flat_map (trip_line seed) (range_with_len 0 size) in
    let body = after p heading in
    let ended = after body rows in
    both (heading_spelled p ((rows ++ codes "}\n") ++ rest))
    (both (joined_spelled (located_text row_text) (trip_at seed) (trip_line seed) (λ i. Unit {0}) (λ i q more h. trip_spelled seed i q more) (range_with_len 0 size) body (codes "}\n" ++ rest) (each (range_with_len 0 size)))
    (both (close_brace ended (codes "\n" ++ rest)) (feed (after ended (codes "}")) rest)))

-- where no bytes are left stands the end
the_end : (p : Place) → Spells (any end_token ∷ []) (tokens_at p [])
unfolding tokens_in_from skip scan_in
the_end p = (refl, refl)

-- the text of the database spells its tree
pub database_spelled : (seed size : ℕ) → Spells (database_text (relation_tree seed size start ∷ [])) (tokens (sample_database seed size))
database_spelled seed size =
    let tree = relation_tree seed size start in
    let bytes = sample_database seed size in
    let parts = flat_map relation_text (tree ∷ []) in
    let whole : Spelled parts start (bytes ++ []) [] = both (relation_spelled seed size start []) (nothing (after start bytes) []) in
    let P : List ℕ → Type 0 = λ bs. Spells (database_text (tree ∷ [])) (tokens_at start bs) in
    subst P (append-nil (bytes ++ []) ∙ append-nil bytes) (takes_join parts (any end_token ∷ []) (tokens_at start ((bytes ++ []) ++ [])) (tokens_at (after start (bytes ++ [])) []) [] whole.takes (the_end (after start (bytes ++ []))))
