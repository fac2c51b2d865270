-- What a lexer gives: the tokens of a text in order, or where and why there is none.
use Rattle.std.specs.Prelude.{◌≡◌, ◌≤◌, ◌<◌, ℕ, List, [], ◌∷◌, ◌++◌, length, Result, Ok, Err, false}
use Rattle.lrp_model.specs.declared.tokens.Place.{Place}
use Rattle.lrp_model.specs.declared.tokens.Token.{Token as SourceToken}
use Rattle.lrp_model.specs.declared.tokens.TokenKind.{TokenKind}
use Rattle.lrp_model.specs.declared.tokens.TokenKind.TheVariants.{Name, Word, Number, Text, Symbol, End}
use Rattle.lrp_model.specs.declared.tokens.LexKind.{LexKind}
use Rattle.lrp_model.specs.declared.tokens.LexKind.TheVariants.{Number as LargeNumber, TextTooLong, BadByte}
use Rattle.lrp_model.specs.declared.tokens.LexFault.{LexFault}
use Rattle.lrp_model.specs.Tokens.{Token, Tokens}
use Rattle.lrp_model.specs.Tokens.Token.{name_token, word_token, number_token, text_token, symbol_token, end_token, bad_token}
use Rattle.lrp_model.specs.Lexing.{Remainder, after, scan}
use Rattle.lrp_model.specs.Limits.{greatest_number}
use Rattle.lrp_text.specs.declared.lexemes.Lexeme.{Lexeme}
use Rattle.lrp_text.specs.declared.lexemes.Lexeme.TheVariants.{Name as NameSeen, Word as WordSeen, Number as NumberSeen, LargeNumber as LargeNumberSeen, Text as TextSeen, LongText as LongTextSeen, Symbol as SymbolSeen, End as EndSeen, Bad as BadSeen}
use Rattle.lrp_text.specs.Sources.{next_at, next_of, after_next}

-- a lawful token of this kind
abbrev pub IsTokenOfKind : TokenKind → Token → Type 0
IsTokenOfKind Name (name_token n) = Unit {0}
IsTokenOfKind Word (word_token w) = Unit {0}
IsTokenOfKind Number (number_token n) = n ≤ greatest_number
IsTokenOfKind Text (text_token t) = length t ≤ 255
IsTokenOfKind Symbol (symbol_token s) = Unit {0}
IsTokenOfKind End end_token = Unit {0}
IsTokenOfKind _ _ = ⊥

-- a token with this fault
abbrev pub IsFaulty : LexKind → Token → Type 0
IsFaulty LargeNumber (number_token n) = greatest_number < n
IsFaulty TextTooLong (text_token t) = 255 < length t
IsFaulty BadByte bad_token = Unit {0}
IsFaulty _ _ = ⊥

-- the next token is given, with its slice and its place, and the lexer stands after it
pub record GivesToken (old new : Remainder) (kind : TokenKind) (slice : List ℕ) (place : Place) : Type 0 where
  pub kind_is : IsTokenOfKind kind (next_of false old).token
  pub slice_is : slice ≡ (next_of false old).taken
  pub place_is : place ≡ (next_at old).place
  pub goes_on : new ≡ after_next false old

-- the next token is faulty; the lexer stands after it, or at a bad byte where it was
pub record GivesFault (old new : Remainder) (kind : LexKind) (place at : Place) (next : Remainder) : Type 0 where
  pub kind_is : IsFaulty kind (next_of false old).token
  pub place_is : place ≡ at
  pub goes_on : new ≡ next

-- a fault, at its token or at its byte
abbrev pub FaultAt : Remainder → Remainder → LexKind → Place → Type 0
FaultAt old new BadByte place = GivesFault old new BadByte place (after (next_at old).place (next_of false old).taken) old
FaultAt old new kind place = GivesFault old new kind place (next_at old).place (after_next false old)

-- what the next token gives
abbrev pub GivesNext : Remainder → Remainder → Result SourceToken LexFault → Type 0
GivesNext old new (Ok t) = GivesToken old new t.kind t.slice.now t.place
GivesNext old new (Err f) = FaultAt old new f.kind f.place

-- a slice of what was left, after other bytes, with its place and the place after it
pub record IsSliceOf (old : Remainder) (slice : List ℕ) (place : Place) (new : Remainder) : Type 0 where
  pub skipped : List ℕ
  pub whole : old.bytes ≡ skipped ++ (slice ++ new.bytes)
  pub place_is : place ≡ after old.place skipped
  pub goes_on : new.place ≡ after place slice

-- the first of them is a lawful token of this kind
abbrev pub TokenFirst : TokenKind → Place → Tokens → Tokens → Type 0
TokenFirst End place ts us = (ts ≡ record { token = end_token; place = place } ∷ []) × (us ≡ ts)
TokenFirst kind place ts us = (k : Token) × IsTokenOfKind kind k × (ts ≡ record { token = k; place = place } ∷ us)

-- the first of them is a faulty one
abbrev pub FaultFirst : LexKind → Place → Tokens → Tokens → Type 0
FaultFirst BadByte place ts us = (ts ≡ record { token = bad_token; place = place } ∷ []) × (us ≡ ts)
FaultFirst kind place ts us = (k : Token) × IsFaulty kind k × (ts ≡ record { token = k; place = place } ∷ us)

-- the first of the tokens that were left, and those that are left after it; the end and a bad byte come again for ever
abbrev pub IsNextToken : Result SourceToken LexFault → Tokens → Tokens → Type 0
IsNextToken (Ok t) ts us = TokenFirst t.kind t.place ts us
IsNextToken (Err f) ts us = FaultFirst f.kind f.place ts us

-- the kind of a lexeme, or its fault
abbrev pub kind_of : Lexeme → Result TokenKind LexKind
kind_of NameSeen = Ok Name
kind_of (WordSeen w) = Ok Word
kind_of (NumberSeen n) = Ok Number
kind_of LargeNumberSeen = Err LargeNumber
kind_of TextSeen = Ok Text
kind_of LongTextSeen = Err TextTooLong
kind_of (SymbolSeen s) = Ok Symbol
kind_of EndSeen = Ok End
kind_of BadSeen = Err BadByte

-- a slice that is, by itself, a text of at most 255 bytes
pub record IsTextSlice (slice : List ℕ) : Type 0 where
  pub text : List ℕ
  pub token : (scan slice).token ≡ text_token text
  pub short : length text ≤ 255

-- a slice that is the text that stands next
abbrev pub IsNextText : Remainder → List ℕ → Type 0
IsNextText old slice = (s : IsTextSlice slice) × ((next_of false old).token ≡ text_token s.text)
