-- What a slice of the source says, against the token that the bytes begin with.
use Rattle.std.specs.Prelude.{◌≡◌, ◌≤◌, ◌<◌, ℕ, List, [], ◌∷◌, length, Result, Ok, Err, Option, Some, None, Bool, true, false, ◌++◌, ◌==◌, if◌then◌else◌}
use Rattle.std.specs.Option.{option_map}
use Rattle.lrp_model.specs.declared.tokens.Symbol.{Symbol as SymbolOf}
use Rattle.lrp_model.specs.declared.tokens.Word.{Word as WordOf}
use Rattle.lrp_model.specs.declared.tokens.Fault.{Fault}
use Rattle.lrp_model.specs.declared.tokens.Fault.TheVariants.{Syntax, Period, Number as TooLarge}
use Rattle.lrp_model.specs.Tokens.{Token}
use Rattle.lrp_model.specs.Tokens.Token.{name_token, word_token, number_token, text_token, symbol_token, end_token, bad_token}
use Rattle.lrp_model.specs.Lexing.{Scanned, QuotedText as TextRead, word_or_name, text_from}
use Rattle.lrp_model.specs.Limits.{greatest_number}
use Rattle.lrp_text.specs.Taking.{same_symbol, same_word}
use Rattle.lrp_text.specs.declared.lexemes.Lexeme.{Lexeme}
use Rattle.lrp_text.specs.declared.lexemes.Lexeme.TheVariants.{Name, Word, Number, LargeNumber, Text, LongText, Symbol, End, Bad}

-- the token that a lexeme says, with what it keeps: a lawful number or text, or one that isn't
abbrev pub IsSaid : Lexeme → List ℕ → Token → Type 0
IsSaid Name slice k = k ≡ name_token slice
IsSaid (Word w) slice k = k ≡ word_token w
IsSaid (Number n) slice k = (k ≡ number_token n) × (n ≤ greatest_number)
IsSaid LargeNumber slice k = (n : ℕ) × (k ≡ number_token n) × (greatest_number < n)
IsSaid Text slice k = (t : List ℕ) × (k ≡ text_token t) × (length t ≤ 255)
IsSaid LongText slice k = (t : List ℕ) × (k ≡ text_token t) × (255 < length t)
IsSaid (Symbol s) slice k = k ≡ symbol_token s
IsSaid End slice k = k ≡ end_token
IsSaid Bad slice k = k ≡ bad_token

-- a lexeme for the token that was scanned
abbrev pub IsLexeme : Lexeme → Scanned → Type 0
IsLexeme l s = IsSaid l s.taken s.token

-- a lexeme for a name or a reserved word
abbrev pub IsNamed : Lexeme → List ℕ → Type 0
IsNamed l name = IsSaid l name (word_or_name name)

-- a lexeme for a number
abbrev pub IsNumberLexeme : Lexeme → ℕ → Type 0
IsNumberLexeme l n = IsSaid l [] (number_token n)

-- no symbol begins so
abbrev pub bad_symbol : ℕ → List ℕ → Scanned
bad_symbol b bs = record { token = bad_token; taken = []; left = b ∷ bs }

-- what a text means, and what stands after it; none at a byte that may not stand in it, and the bytes from it on
abbrev pub read_of : Result TextRead Scanned → Option (List ℕ) × List ℕ
read_of (Ok t) = (Some t.meant, t.left)
read_of (Err s) = (None, s.left)

-- the same of the bytes after an opening quote
abbrev pub text_read : List ℕ → Option (List ℕ) × List ℕ
text_read bs = read_of (text_from false bs)

-- a text with these bytes in front
abbrev pub after_bytes : List ℕ → Option (List ℕ) × List ℕ → Option (List ℕ) × List ℕ
after_bytes front r = (option_map (λ t. front ++ t) r.0, r.1)

-- a text that a quote ends, or one that has no such end
abbrev pub ended : List ℕ → Option (List ℕ) × List ℕ
ended [] = (None, [])
ended (b ∷ bs) = if b == 34 then (Some [], bs) else (None, b ∷ bs)

-- whether a lexeme is this symbol
abbrev pub shows_symbol : SymbolOf → Lexeme → Bool
shows_symbol s (Symbol k) = same_symbol k s
shows_symbol s _ = false

-- whether it is this reserved word
abbrev pub shows_word : WordOf → Lexeme → Bool
shows_word w (Word k) = same_word k w
shows_word w _ = false

-- whether it is a name
abbrev pub shows_name : Lexeme → Bool
shows_name Name = true
shows_name _ = false

-- whether it is a text
abbrev pub shows_text : Lexeme → Bool
shows_text Text = true
shows_text LongText = true
shows_text _ = false

-- whether it is the end
abbrev pub shows_end : Lexeme → Bool
shows_end End = true
shows_end _ = false

-- the number that it is
abbrev pub shown_number : Lexeme → Result ℕ Fault
shown_number (Number n) = Ok n
shown_number LargeNumber = Err TooLarge
shown_number _ = Err Syntax

-- the period that it is
abbrev pub shown_period : Lexeme → Result ℕ Fault
shown_period (Number n) = if n == 0 then Err Period else Ok n
shown_period LargeNumber = Err TooLarge
shown_period _ = Err Syntax
