-- What a parser may take as its next token.
use Rattle.std.specs.Prelude.{◌≤◌, ℕ, Bool, true, false, List, [], Result, Ok, Err, length, nat_le, ◌==◌}
use Rattle.std.specs.Str.{bytes_eq}
use Rattle.lrp_model.specs.declared.tokens.Symbol.{Symbol}
use Rattle.lrp_model.specs.declared.tokens.Symbol.TheVariants.{Open, Close, OpenBrace, CloseBrace, Comma, Colon, Semicolon, Bar, Plus, Minus, Le, Ge, Lt, Gt, Equals, Star, Differs}
use Rattle.lrp_model.specs.declared.tokens.Word.{Word}
use Rattle.lrp_model.specs.declared.tokens.Word.TheVariants.{Relation, Where, Time, Data, Letter, Exists, Forall, Not, And, Or, Implies, In}
use Rattle.lrp_model.specs.declared.tokens.Place.{Place}
use Rattle.lrp_model.specs.declared.tokens.Fault.{Fault}
use Rattle.lrp_model.specs.declared.tokens.Fault.TheVariants.{Syntax, Number, TextTooLong, Period}
use Rattle.lrp_model.specs.declared.written.Located.{Located}
use Rattle.lrp_model.specs.Tokens.{Token, Placed, Tokens}
use Rattle.lrp_model.specs.Tokens.Token.{name_token, word_token, number_token, text_token, symbol_token, end_token}
use Rattle.lrp_model.specs.Lexing.{start}
use Rattle.lrp_model.specs.Limits.{greatest_number}
use Rattle.lrp_text.specs.Parsers.{Parser, accept, look, pure, ◌>>=◌}

-- whether two symbols are one
abbrev pub same_symbol : Symbol → Symbol → Bool
same_symbol Open Open = true
same_symbol Close Close = true
same_symbol OpenBrace OpenBrace = true
same_symbol CloseBrace CloseBrace = true
same_symbol Comma Comma = true
same_symbol Colon Colon = true
same_symbol Semicolon Semicolon = true
same_symbol Bar Bar = true
same_symbol Plus Plus = true
same_symbol Minus Minus = true
same_symbol Le Le = true
same_symbol Ge Ge = true
same_symbol Lt Lt = true
same_symbol Gt Gt = true
same_symbol Equals Equals = true
same_symbol Star Star = true
same_symbol Differs Differs = true
same_symbol _ _ = false

-- whether two reserved words are one
abbrev pub same_word : Word → Word → Bool
same_word Relation Relation = true
same_word Where Where = true
same_word Time Time = true
same_word Data Data = true
same_word Letter Letter = true
same_word Exists Exists = true
same_word Forall Forall = true
same_word Not Not = true
same_word And And = true
same_word Or Or = true
same_word Implies Implies = true
same_word In In = true
same_word _ _ = false

-- whether a token is this symbol
abbrev pub is_symbol_token : Symbol → Token → Bool
is_symbol_token s (symbol_token k) = same_symbol k s
is_symbol_token s _ = false

-- whether this symbol stands there
abbrev pub is_symbol : Symbol → Placed → Bool
is_symbol s t = is_symbol_token s t.token

-- whether a token is this reserved word
abbrev pub is_word_token : Word → Token → Bool
is_word_token w (word_token k) = same_word k w
is_word_token w _ = false

-- whether this reserved word stands there
abbrev pub is_word : Word → Placed → Bool
is_word w t = is_word_token w t.token

-- a syntax fault where a test fails
abbrev pub required : Bool → Result (Unit {0}) Fault
required true = Ok tt
required false = Err Syntax

-- takes this symbol
abbrev pub expect : Symbol → Parser (Unit {0})
expect s = accept (λ t. required (is_symbol s t))

-- takes this reserved word
abbrev pub expect_word : Word → Parser (Unit {0})
expect_word w = accept (λ t. required (is_word w t))

-- the name that a token is
abbrev pub name_of : Token → Result (List ℕ) Fault
name_of (name_token n) = Ok n
name_of _ = Err Syntax

-- a value, or a fault where it is out of bounds
abbrev pub limited : ℕ → Fault → Bool → Result ℕ Fault
limited n k true = Ok n
limited n k false = Err k

-- a number of at most 2 ^ 62
abbrev pub number_of : Token → Result ℕ Fault
number_of (number_token n) = limited n Number (nat_le n 4611686018427387904)
number_of _ = Err Syntax

-- a value and the place where it stands
abbrev pub with_place : {A : Type 0} → Place → Result A Fault → Result (A × Place) Fault
with_place p (Ok a) = Ok (a, p)
with_place p (Err k) = Err k

-- a name, and its place
abbrev pub name : Parser (List ℕ × Place)
name = accept (λ t. with_place t.place (name_of t.token))

-- takes a number of at most 2 ^ 62
abbrev pub number : Parser ℕ
number = accept (λ t. number_of t.token)

-- the place of the next token
abbrev pub here : Parser Place
here = look start (λ t. t.place)

-- with the place of its first token
abbrev pub located : {A : Type 0} → Parser A → Parser (Located A)
located p = do
  place ← here
  item ← p
  pure (record { place = place; item = item })

-- a text, or a fault where it is too long
abbrev pub short_enough : List ℕ → Bool → Result (List ℕ) Fault
short_enough t true = Ok t
short_enough t false = Err TextTooLong

-- a text of at most 255 bytes
abbrev pub text_of : Token → Result (List ℕ) Fault
text_of (text_token t) = short_enough t (nat_le (length t) 255)
text_of _ = Err Syntax

-- takes a text of at most 255 bytes
abbrev pub text : Parser (List ℕ)
text = accept (λ t. text_of t.token)

-- a period, where the flag says that it is 0
abbrev pub limited_period : ℕ → Bool → Result ℕ Fault
limited_period n true = Err Period
limited_period n false = limited n Number (nat_le n 4611686018427387904)

-- a period, which is not 0
abbrev pub period_of : Token → Result ℕ Fault
period_of (number_token n) = limited_period n (n == 0)
period_of _ = Err Syntax

-- a period is from 1 to 2 ^ 62
abbrev pub IsWrittenPeriod : ℕ → Type 0
IsWrittenPeriod n = (1 ≤ n) × (n ≤ greatest_number)

-- takes a period
abbrev pub period : Parser ℕ
period = accept (λ t. period_of t.token)

-- whether a token is a text
abbrev pub is_text_token : Token → Bool
is_text_token (text_token t) = true
is_text_token _ = false

-- whether a token is a name
abbrev pub is_name_token : Token → Bool
is_name_token (name_token n) = true
is_name_token _ = false

-- whether a text stands there
abbrev pub is_text : Placed → Bool
is_text t = is_text_token t.token

-- whether a name stands there
abbrev pub is_name : Placed → Bool
is_name t = is_name_token t.token

-- whether a token is this name
abbrev pub is_named_token : List ℕ → Token → Bool
is_named_token word (name_token n) = bytes_eq n word
is_named_token word _ = false

-- whether this name stands there
abbrev pub is_token_named : List ℕ → Placed → Bool
is_token_named word t = is_named_token word t.token

-- takes this name
abbrev pub expect_named : List ℕ → Parser (Unit {0})
expect_named word = accept (λ t. required (is_token_named word t))

-- whether a token is the end
abbrev pub is_end_token : Token → Bool
is_end_token end_token = true
is_end_token _ = false

-- whether the end stands there
abbrev pub is_end : Placed → Bool
is_end t = is_end_token t.token

-- takes the end
abbrev pub expect_end : Parser (Unit {0})
expect_end = accept (λ t. required (is_end t))

-- nothing is left after the end, and all where it was refused
abbrev pub after_end : Result (Unit {0}) Fault → Tokens → Tokens
after_end (Ok u) ts = []
after_end (Err k) ts = ts
