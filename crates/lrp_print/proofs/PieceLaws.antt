-- What the pieces of a written relation spell: symbols, words, names, numbers, data texts, and lists of pieces.
use Rattle.std.proofs.Common.{◌≡◌, ◌<◌, ◌≤◌, ◌^◌, ℕ, ℤ, suc, true, false, List, [], ◌∷◌, ◌++◌, refl, sym, subst, codes, arith}
use Rattle.std.specs.Prelude.{◌≤ℤ◌, pos, negsuc, neg_ℤ}
use Rattle.std.proofs.lemmas.Int.{ints}
use Rattle.std.specs.List.{flat_map, AllByRecursion}
use Rattle.std.specs.Fmt.{decimal, signed_decimal}
use Rattle.lrp_model.specs.declared.tokens.Place.{Place}
use Rattle.lrp_model.specs.declared.tokens.Symbol.{Symbol}
use Rattle.lrp_model.specs.declared.tokens.Symbol.TheVariants.{Open, Close, OpenBrace, CloseBrace, Comma, Colon, Semicolon, Plus, Minus, Le, Ge}
use Rattle.lrp_model.specs.declared.tokens.Word.{Word}
use Rattle.lrp_model.specs.declared.tokens.Word.TheVariants.{Relation, Where, Time, Data, Letter}
use Rattle.lrp_model.specs.declared.written.Integer.{Integer}
use Rattle.lrp_model.specs.Texts.{Identifier}
use Rattle.lrp_model.specs.Tokens.{Token, Part, from, separated}
use Rattle.lrp_model.specs.Tokens.Token.{name_token, word_token, number_token, text_token, symbol_token}
use Rattle.lrp_model.specs.Tokens.Part.{at, any}
use Rattle.lrp_model.specs.Databases.{comma, integer_text}
use Rattle.std.specs.Str.Parse.{digits_value}
use Rattle.lrp_model.specs.Lexing.{is_letter, is_name_byte, run, word_or_name, scan, symbol_from, after, scan_in, symbol_in}
use Rattle.std.specs.Char.{is_ascii_digit}
use Rattle.lrp_model.specs.Limits.{greatest_number}
use Rattle.lrp_model.specs.Printed.{joined_by, quoted, escaped}
use Rattle.lrp_model.specs.Names.{IsName}
use Rattle.lrp_print.proofs.Spelling.{Spelled, Begins, took, nothing, both, token_at, token_any, blank}
use Rattle.lrp_print.proofs.Scanned.{Stops, IsPlain, word_scanned, letter_begins, name_word, decimal_number, digit_begins, number_scanned, text_scanned_so}

-- ---- symbols and blanks

pub space : (p : Place) (rest : List ℕ) → Spelled [] p (32 ∷ []) rest
space p rest = blank p 32 rest refl refl

pub feed : (p : Place) (rest : List ℕ) → Spelled [] p (10 ∷ []) rest
feed p rest = blank p 10 rest refl refl

-- a symbol of one byte
one_symbol : (s : Symbol) (b : ℕ) (p : Place) (rest : List ℕ) → Begins b → scan (b ∷ rest) ≡ took (symbol_token s) (b ∷ []) rest → Spelled (any (symbol_token s) ∷ []) p (b ∷ []) rest
one_symbol s b p rest begins e = token_any (symbol_token s) p b [] rest tt begins e

pub open_at : (p : Place) (rest : List ℕ) → Spelled (at p (symbol_token Open) ∷ []) p (40 ∷ []) rest
unfolding scan_in symbol_in
open_at p rest = token_at (symbol_token Open) p 40 [] rest tt (record { plain = refl; dark = refl }) refl

pub open_any : (p : Place) (rest : List ℕ) → Spelled (any (symbol_token Open) ∷ []) p (40 ∷ []) rest
unfolding scan_in symbol_in
open_any p rest = one_symbol Open 40 p rest (record { plain = refl; dark = refl }) refl

pub close : (p : Place) (rest : List ℕ) → Spelled (any (symbol_token Close) ∷ []) p (41 ∷ []) rest
unfolding scan_in symbol_in
close p rest = one_symbol Close 41 p rest (record { plain = refl; dark = refl }) refl

pub open_brace : (p : Place) (rest : List ℕ) → Spelled (any (symbol_token OpenBrace) ∷ []) p (123 ∷ []) rest
unfolding scan_in symbol_in
open_brace p rest = one_symbol OpenBrace 123 p rest (record { plain = refl; dark = refl }) refl

pub close_brace : (p : Place) (rest : List ℕ) → Spelled (any (symbol_token CloseBrace) ∷ []) p (125 ∷ []) rest
unfolding scan_in symbol_in
close_brace p rest = one_symbol CloseBrace 125 p rest (record { plain = refl; dark = refl }) refl

pub comma_only : (p : Place) (rest : List ℕ) → Spelled (any (symbol_token Comma) ∷ []) p (44 ∷ []) rest
unfolding scan_in symbol_in
comma_only p rest = one_symbol Comma 44 p rest (record { plain = refl; dark = refl }) refl

pub colon : (p : Place) (rest : List ℕ) → Spelled (any (symbol_token Colon) ∷ []) p (58 ∷ []) rest
unfolding scan_in symbol_in
colon p rest = one_symbol Colon 58 p rest (record { plain = refl; dark = refl }) refl

pub semicolon : (p : Place) (rest : List ℕ) → Spelled (any (symbol_token Semicolon) ∷ []) p (59 ∷ []) rest
unfolding scan_in symbol_in
semicolon p rest = one_symbol Semicolon 59 p rest (record { plain = refl; dark = refl }) refl

pub plus : (p : Place) (rest : List ℕ) → Spelled (any (symbol_token Plus) ∷ []) p (43 ∷ []) rest
unfolding scan_in symbol_in
plus p rest = one_symbol Plus 43 p rest (record { plain = refl; dark = refl }) refl

pub minus : (p : Place) (rest : List ℕ) → Spelled (any (symbol_token Minus) ∷ []) p (45 ∷ []) rest
unfolding scan_in symbol_in
minus p rest = one_symbol Minus 45 p rest (record { plain = refl; dark = refl }) refl

pub minus_at : (p : Place) (rest : List ℕ) → Spelled (at p (symbol_token Minus) ∷ []) p (45 ∷ []) rest
unfolding scan_in symbol_in
minus_at p rest = token_at (symbol_token Minus) p 45 [] rest tt (record { plain = refl; dark = refl }) refl

pub at_most : (p : Place) (rest : List ℕ) → Spelled (any (symbol_token Le) ∷ []) p (60 ∷ 61 ∷ []) rest
unfolding scan_in symbol_in
at_most p rest = token_any (symbol_token Le) p 60 (61 ∷ []) rest tt (record { plain = refl; dark = refl }) refl

pub at_least : (p : Place) (rest : List ℕ) → Spelled (any (symbol_token Ge) ∷ []) p (62 ∷ 61 ∷ []) rest
unfolding scan_in symbol_in
at_least p rest = token_any (symbol_token Ge) p 62 (61 ∷ []) rest tt (record { plain = refl; dark = refl }) refl

-- a comma and a blank
pub separator : (p : Place) (rest : List ℕ) → Spelled (comma ∷ []) p (codes ", ") rest
separator p rest = both (comma_only p (32 ∷ rest)) (space (after p (44 ∷ [])) rest)

-- ---- words and names

-- a reserved word at its place
word_at : (w : Word) (b : ℕ) (bs : List ℕ) (p : Place) (rest : List ℕ) → is_letter b ≡ true → run is_name_byte (b ∷ bs) ≡ b ∷ bs → word_or_name (b ∷ bs) ≡ word_token w → Stops is_name_byte rest → Spelled (at p (word_token w) ∷ []) p (b ∷ bs) rest
word_at w b bs p rest e whole is s =
    let P : Token → Type 0 = λ k. scan (b ∷ (bs ++ rest)) ≡ took k (b ∷ bs) rest in
    token_at (word_token w) p b bs rest tt (letter_begins b e) (subst P is (word_scanned b bs rest e whole s))

-- a reserved word at any place
word_any : (w : Word) (b : ℕ) (bs : List ℕ) (p : Place) (rest : List ℕ) → is_letter b ≡ true → run is_name_byte (b ∷ bs) ≡ b ∷ bs → word_or_name (b ∷ bs) ≡ word_token w → Stops is_name_byte rest → Spelled (any (word_token w) ∷ []) p (b ∷ bs) rest
word_any w b bs p rest e whole is s =
    let P : Token → Type 0 = λ k. scan (b ∷ (bs ++ rest)) ≡ took k (b ∷ bs) rest in
    token_any (word_token w) p b bs rest tt (letter_begins b e) (subst P is (word_scanned b bs rest e whole s))

pub relation_word : (p : Place) (rest : List ℕ) → Stops is_name_byte rest → Spelled (any (word_token Relation) ∷ []) p (codes "relation") rest
unfolding run word_or_name
relation_word p rest s = word_any Relation 114 (codes "elation") p rest refl refl refl s

pub where_word : (p : Place) (rest : List ℕ) → Stops is_name_byte rest → Spelled (any (word_token Where) ∷ []) p (codes "where") rest
unfolding run word_or_name
where_word p rest s = word_any Where 119 (codes "here") p rest refl refl refl s

pub letter_word : (p : Place) (rest : List ℕ) → Stops is_name_byte rest → Spelled (any (word_token Letter) ∷ []) p (codes "n") rest
unfolding run word_or_name
letter_word p rest s = word_any Letter 110 [] p rest refl refl refl s

pub time_at : (p : Place) (rest : List ℕ) → Stops is_name_byte rest → Spelled (at p (word_token Time) ∷ []) p (codes "time") rest
unfolding run word_or_name
time_at p rest s = word_at Time 116 (codes "ime") p rest refl refl refl s

pub data_at : (p : Place) (rest : List ℕ) → Stops is_name_byte rest → Spelled (at p (word_token Data) ∷ []) p (codes "data") rest
unfolding run word_or_name
data_at p rest s = word_at Data 100 (codes "ata") p rest refl refl refl s

-- a name at its place
pub name_at : (n : Identifier) (p : Place) (rest : List ℕ) → IsName n → Stops is_name_byte rest → Spelled (at p (name_token n) ∷ []) p n rest
name_at n p rest h s =
    let w = name_word n h in
    let P : Token → Type 0 = λ k. scan (w.first ∷ (w.others ++ rest)) ≡ took k (w.first ∷ w.others) rest in
    let Q : Identifier → Type 0 = λ m. Spelled (at p (name_token m) ∷ []) p m rest in
    let scanned : scan (w.first ∷ (w.others ++ rest)) ≡ took (name_token (w.first ∷ w.others)) (w.first ∷ w.others) rest = subst P w.plain (word_scanned w.first w.others rest w.letter w.whole s) in
    subst Q (sym w.is) (token_at (name_token (w.first ∷ w.others)) p w.first w.others rest tt (letter_begins w.first w.letter) scanned)

-- ---- numbers

-- a number at its place
pub number_at : (n : ℕ) (p : Place) (rest : List ℕ) → n < 2 ^ 64 → Stops is_ascii_digit rest → Spelled (at p (number_token n) ∷ []) p (decimal n) rest
number_at n p rest lt s =
    let w = decimal_number n lt in
    let P : ℕ → Type 0 = λ m. Spelled (at p (number_token m) ∷ []) p (w.first ∷ w.others) rest in
    let Q : List ℕ → Type 0 = λ bs. Spelled (at p (number_token n) ∷ []) p bs rest in
    subst Q (sym w.is) (subst P w.value (token_at (number_token (digits_value 10 (w.first ∷ w.others))) p w.first w.others rest tt (digit_begins w.first w.digit) (number_scanned w.first w.others rest w.digit w.whole s)))

-- a number at any place
pub number_any : (n : ℕ) (p : Place) (rest : List ℕ) → n < 2 ^ 64 → Stops is_ascii_digit rest → Spelled (any (number_token n) ∷ []) p (decimal n) rest
number_any n p rest lt s =
    let w = decimal_number n lt in
    let P : ℕ → Type 0 = λ m. Spelled (any (number_token m) ∷ []) p (w.first ∷ w.others) rest in
    let Q : List ℕ → Type 0 = λ bs. Spelled (any (number_token n) ∷ []) p bs rest in
    subst Q (sym w.is) (subst P w.value (token_any (number_token (digits_value 10 (w.first ∷ w.others))) p w.first w.others rest tt (digit_begins w.first w.digit) (number_scanned w.first w.others rest w.digit w.whole s)))

-- an integer as it is written
abbrev pub written : ℤ → Integer
written (pos n) = record { negative = false; size = n }
written (negsuc n) = record { negative = true; size = suc n }

-- an integer of a magnitude of at most 2 ^ 62
abbrev pub IsShort : ℤ → Type 0
IsShort z = (written z).size ≤ greatest_number

-- between the limits an integer is short
pub short : (z : ℤ) → neg_ℤ (pos greatest_number) ≤ℤ z → z ≤ℤ pos greatest_number → IsShort z
short (pos n) low high = omega (arith, ints)
short (negsuc n) low high = omega (arith, ints)

-- an integer at any place
pub integer_any : (z : ℤ) (p : Place) (rest : List ℕ) → IsShort z → Stops is_ascii_digit rest → Spelled (integer_text (written z)) p (signed_decimal z) rest
integer_any (pos n) p rest h s = number_any n p rest (omega (arith, h)) s
integer_any (negsuc n) p rest h s = both (minus p (decimal (suc n) ++ rest)) (number_any (suc n) (after p (45 ∷ [])) rest (omega (arith, h)) s)

-- an integer at its place
pub integer_at : (z : ℤ) (p : Place) (rest : List ℕ) → IsShort z → Stops is_ascii_digit rest → Spelled (from p (integer_text (written z))) p (signed_decimal z) rest
integer_at (pos n) p rest h s = number_at n p rest (omega (arith, h)) s
integer_at (negsuc n) p rest h s = both (minus_at p (decimal (suc n) ++ rest)) (number_any (suc n) (after p (45 ∷ [])) rest (omega (arith, h)) s)

-- ---- data texts

-- a data text between quotes, at its place
pub text_at : (t : List ℕ) (p : Place) (rest : List ℕ) → AllByRecursion IsPlain t → Spelled (at p (text_token t) ∷ []) p (quoted t) rest
text_at t p rest h = token_at (text_token t) p 34 (flat_map escaped t ++ 34 ∷ []) rest tt (record { plain = refl; dark = refl }) (text_scanned_so t rest h)

-- ---- lists of pieces

-- the trees of some elements, each at the place where its bytes begin
abbrev pub trees : {A B : Type 0} → (Place → A → Place) → (Place → A → B) → Place → List A → List B
trees next tree p [] = []
trees next tree p (a ∷ all) = tree p a ∷ trees next tree (next p a) all

-- after an element and the separator
abbrev pub after_comma : {A : Type 0} → (A → List ℕ) → Place → A → Place
after_comma bytes p a = after (after p (bytes a)) (codes ", ")

-- after an element
abbrev pub after_piece : {A : Type 0} → (A → List ℕ) → Place → A → Place
after_piece bytes p a = after p (bytes a)

-- elements with commas between
pub separated_spelled : {A B : Type 0} (text : B → List Part) (tree : Place → A → B) (bytes : A → List ℕ) (P : A → Type 0)
    → ((a : A) (p : Place) (rest : List ℕ) → P a → Stops is_name_byte rest → Spelled (text (tree p a)) p (bytes a) rest)
    → (all : List A) (p : Place) (rest : List ℕ) → AllByRecursion P all → Stops is_name_byte rest → Spelled (separated comma text (trees (after_comma bytes) tree p all)) p (joined_by (codes ", ") bytes all) rest
separated_spelled text tree bytes P one [] p rest h s = nothing p rest
separated_spelled text tree bytes P one (a ∷ []) p rest h s = one a p rest h.0 s
separated_spelled text tree bytes P one (a ∷ b ∷ all) p rest h s =
    let tail = joined_by (codes ", ") bytes (b ∷ all) in
    let q = after p (bytes a) in
    both (one a p (codes ", " ++ (tail ++ rest)) h.0 refl) (both (separator q (tail ++ rest)) (separated_spelled text tree bytes P one (b ∷ all) (after q (codes ", ")) rest h.1 s))

-- elements one after the other
pub joined_spelled : {A B : Type 0} (text : B → List Part) (tree : Place → A → B) (bytes : A → List ℕ) (P : A → Type 0)
    → ((a : A) (p : Place) (rest : List ℕ) → P a → Spelled (text (tree p a)) p (bytes a) rest)
    → (all : List A) (p : Place) (rest : List ℕ) → AllByRecursion P all → Spelled (flat_map text (trees (after_piece bytes) tree p all)) p (flat_map bytes all) rest
joined_spelled text tree bytes P one [] p rest h = nothing p rest
joined_spelled text tree bytes P one (a ∷ all) p rest h =
    both (one a p (flat_map bytes all ++ rest) h.0) (joined_spelled text tree bytes P one all (after p (bytes a)) rest h.1)
