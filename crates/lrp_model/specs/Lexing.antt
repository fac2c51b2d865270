-- From bytes to tokens with their places.
use Rattle.std.specs.Prelude.{◌+◌, ℕ, zero, suc, Bool, true, false, ◌||◌, ◌&&◌, ◌==◌, nat_le, List, [], ◌∷◌, length, Result, Ok, Err, if◌then◌else◌, codes}
use Rattle.std.specs.Char.{is_ascii_digit, is_ascii_lowercase, is_ascii_uppercase}
use Rattle.std.specs.Str.{bytes_eq}
use Rattle.std.specs.Str.Parse.{digits_value}
use Rattle.lrp_model.specs.declared.tokens.Symbol.{Symbol}
use Rattle.lrp_model.specs.declared.tokens.Symbol.TheVariants.{Open, Close, OpenBrace, CloseBrace, Comma, Colon, Semicolon, Bar, Plus, Minus, Le, Ge, Lt, Gt, Equals, Star, Differs}
use Rattle.lrp_model.specs.declared.tokens.Word.TheVariants.{Relation, Where, Time, Data, Letter, Exists, Forall, Not, And, Or, Implies, In}
use Rattle.lrp_model.specs.declared.tokens.Place.{Place}
use Rattle.lrp_model.specs.Tokens.{Token, Tokens}
use Rattle.lrp_model.specs.Tokens.Token.{name_token, word_token, number_token, text_token, symbol_token, end_token, bad_token}

-- a to z, A to Z or _
abbrev pub is_letter : ℕ → Bool
is_letter b = is_ascii_lowercase b || is_ascii_uppercase b || (b == 95)

-- a letter or a digit
abbrev pub is_name_byte : ℕ → Bool
is_name_byte b = is_letter b || is_ascii_digit b

-- space, tab, carriage return or line feed
abbrev pub is_blank : ℕ → Bool
is_blank b = (b == 32) || (b == 9) || (b == 13) || (b == 10)

-- below space, or delete
abbrev pub is_forbidden : ℕ → Bool
is_forbidden b = nat_le b 31 || (b == 127)

-- the place after a byte: a line feed begins the next line
abbrev pub moved : Place → ℕ → Place
moved p b = if b == 10 then record { line = p.line + 1; column = 1 } else record { line = p.line; column = p.column + 1 }

-- the place after some bytes
unfoldable pub after : Place → List ℕ → Place
after p [] = p
after p (b ∷ bs) = after (moved p b) bs

-- the bytes that are left, and the place where they begin
pub record Remainder : Type 0 where
  pub place : Place
  pub bytes : List ℕ

-- after blanks and comments; the flag says that a comment has begun
unfoldable pub skip : Bool → Place → List ℕ → Remainder
skip comment p [] = record { place = p; bytes = [] }
skip true p (b ∷ bs) = if b == 10 then skip false (moved p b) bs else skip true (moved p b) bs
skip false p (b ∷ bs) = if b == 35 then skip true (moved p b) bs else if is_blank b then skip false (moved p b) bs else record { place = p; bytes = b ∷ bs }

-- the longest run of bytes with the test
unfoldable pub run : (ℕ → Bool) → List ℕ → List ℕ
run test [] = []
run test (b ∷ bs) = if test b then b ∷ run test bs else []

-- the bytes after that run
unfoldable pub after_run : (ℕ → Bool) → List ℕ → List ℕ
after_run test [] = []
after_run test (b ∷ bs) = if test b then after_run test bs else b ∷ bs

-- a token, the bytes that it takes, and those after it; at a bad byte, the bytes before it
pub record Scanned : Type 0 where
  pub token : Token
  pub taken : List ℕ
  pub left : List ℕ

-- a reserved word, or a name
unfoldable pub word_or_name : List ℕ → Token
word_or_name n =
    if bytes_eq n (codes "relation") then word_token Relation else
    if bytes_eq n (codes "where") then word_token Where else
    if bytes_eq n (codes "time") then word_token Time else
    if bytes_eq n (codes "data") then word_token Data else
    if bytes_eq n (codes "n") then word_token Letter else
    if bytes_eq n (codes "exists") then word_token Exists else
    if bytes_eq n (codes "forall") then word_token Forall else
    if bytes_eq n (codes "not") then word_token Not else
    if bytes_eq n (codes "and") then word_token And else
    if bytes_eq n (codes "or") then word_token Or else
    if bytes_eq n (codes "implies") then word_token Implies else
    if bytes_eq n (codes "in") then word_token In else
    name_token n

-- the text after an opening quote, the bytes up to and with the closing one, and those after
pub record QuotedText : Type 0 where
  pub meant : List ℕ
  pub taken : List ℕ
  pub left : List ℕ

-- a text, or what was read of one, with byte b in front, and the byte that is written for it
abbrev pub longer : ℕ → ℕ → Result QuotedText Scanned → Result QuotedText Scanned
longer written b (Ok t) = Ok (record { meant = b ∷ t.meant; taken = written ∷ t.taken; left = t.left })
longer written b (Err s) = Err (record { token = bad_token; taken = written ∷ s.taken; left = s.left })

-- the same with a byte in front that is written and means nothing by itself
abbrev pub more_taken : ℕ → Result QuotedText Scanned → Result QuotedText Scanned
more_taken b (Ok t) = Ok (record { meant = t.meant; taken = b ∷ t.taken; left = t.left })
more_taken b (Err s) = Err (record { token = bad_token; taken = b ∷ s.taken; left = s.left })

-- no text, at these bytes
abbrev pub bad_at : List ℕ → Result QuotedText Scanned
bad_at bs = Err (record { token = bad_token; taken = []; left = bs })

-- reads a text; the flag says that a backslash came before
unfoldable pub text_from : Bool → List ℕ → Result QuotedText Scanned
text_from true [] = bad_at (92 ∷ [])
text_from true (b ∷ bs) = if (b == 34) || (b == 92) then more_taken 92 (longer b b (text_from false bs)) else bad_at (92 ∷ b ∷ bs)
text_from false [] = bad_at []
text_from false (b ∷ bs) = if b == 34 then Ok (record { meant = []; taken = b ∷ []; left = bs }) else if b == 92 then text_from true bs else if is_forbidden b then bad_at (b ∷ bs) else longer b b (text_from false bs)

-- the token of a text after its opening quote, or the bad byte in it
abbrev pub text_scanned : Result QuotedText Scanned → Scanned
text_scanned (Ok t) = record { token = text_token t.meant; taken = 34 ∷ t.taken; left = t.left }
text_scanned (Err s) = record { token = bad_token; taken = 34 ∷ s.taken; left = s.left }

-- no symbol begins there
abbrev pub no_symbol : ℕ → List ℕ → Scanned
no_symbol b bs = record { token = bad_token; taken = []; left = b ∷ bs }

-- a symbol of one byte
abbrev pub one : Symbol → ℕ → List ℕ → Scanned
one s b bs = record { token = symbol_token s; taken = b ∷ []; left = bs }

-- the longer symbol where an equals sign follows
abbrev pub one_or_two : Symbol → Symbol → ℕ → List ℕ → Scanned
one_or_two s r b [] = one s b []
one_or_two s r b (c ∷ bs) = if c == 61 then record { token = symbol_token r; taken = b ∷ c ∷ []; left = bs } else one s b (c ∷ bs)

-- `*`, and `!` where an equals sign follows: symbols of the wide language alone
abbrev pub further_symbol : ℕ → List ℕ → Scanned
further_symbol b [] = if b == 42 then one Star b [] else no_symbol b []
further_symbol b (c ∷ bs) = if b == 42 then one Star b (c ∷ bs) else if (b == 33) && (c == 61) then record { token = symbol_token Differs; taken = b ∷ c ∷ []; left = bs } else no_symbol b (c ∷ bs)

-- the symbol that a byte and those after it begin with; the flag says that those of the wide language are among them
unfoldable pub symbol_in : Bool → ℕ → List ℕ → Scanned
symbol_in wide b bs =
    if b == 40 then one Open b bs else
    if b == 41 then one Close b bs else
    if b == 123 then one OpenBrace b bs else
    if b == 125 then one CloseBrace b bs else
    if b == 44 then one Comma b bs else
    if b == 58 then one Colon b bs else
    if b == 59 then one Semicolon b bs else
    if b == 124 then one Bar b bs else
    if b == 43 then one Plus b bs else
    if b == 45 then one Minus b bs else
    if b == 61 then one Equals b bs else
    if b == 60 then one_or_two Lt Le b bs else
    if b == 62 then one_or_two Gt Ge b bs else
    if wide then further_symbol b bs else no_symbol b bs

-- the token that the bytes begin with
unfoldable pub scan_in : Bool → List ℕ → Scanned
scan_in wide [] = record { token = end_token; taken = []; left = [] }
scan_in wide (b ∷ bs) =
    if is_letter b then record { token = word_or_name (run is_name_byte (b ∷ bs)); taken = run is_name_byte (b ∷ bs); left = after_run is_name_byte (b ∷ bs) } else
    if is_ascii_digit b then record { token = number_token (digits_value 10 (run is_ascii_digit (b ∷ bs))); taken = run is_ascii_digit (b ∷ bs); left = after_run is_ascii_digit (b ∷ bs) } else
    if b == 34 then text_scanned (text_from false bs) else
    symbol_in wide b bs

-- the first token, at its place, and those that follow it; none follows the end or a bad byte
abbrev pub headed : Place → Scanned → Token → Tokens → Tokens
headed p s end_token rest = record { token = end_token; place = p } ∷ []
headed p s bad_token rest = record { token = bad_token; place = after p s.taken } ∷ []
headed p s t rest = record { token = t; place = p } ∷ rest

-- the tokens of the bytes that are left; each turn takes a byte, so the turns don't run out before the bytes
unfoldable pub tokens_in_from : Bool → ℕ → Place → List ℕ → Tokens
tokens_in_from wide zero p bs = []
tokens_in_from wide (suc n) p bs =
    let a = skip false p bs in
    let s = scan_in wide a.bytes in
    headed a.place s s.token (tokens_in_from wide n (after a.place s.taken) s.left)

-- the place of the first byte
abbrev pub start : Place
start = record { line = 1; column = 1 }

-- the tokens of a text, the last one the end or a bad byte; the flag says that the symbols of the wide language are among them
abbrev pub tokens_in : Bool → List ℕ → Tokens
tokens_in wide bytes = tokens_in_from wide (suc (length bytes)) start bytes

-- ---- texts of the other languages, and of databases

abbrev pub symbol_from : ℕ → List ℕ → Scanned
symbol_from = symbol_in false

abbrev pub scan : List ℕ → Scanned
scan = scan_in false

abbrev pub tokens_from : ℕ → Place → List ℕ → Tokens
tokens_from = tokens_in_from false

abbrev pub tokens : List ℕ → Tokens
tokens = tokens_in false
