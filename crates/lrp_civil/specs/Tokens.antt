-- What stands after blanks and comments, and after a token.
use Rattle.std.specs.Prelude.{◌≡◌, ℕ, Bool, true, false, ◌==◌, List, [], ◌∷◌, Option, Some, None, MatchOption, Result, Ok, Err, if◌then◌else◌}
use Rattle.std.specs.Borrow.{Bor}
use Rattle.lrp_model.specs.Tokens.{Token}
use Rattle.lrp_model.specs.Tokens.Token.{end_token, bad_token}
use Rattle.lrp_model.specs.Lexing.{QuotedText, Scanned, scan_in, skip, start, symbol_in, text_from}

-- the bytes after the blanks and comments that come first
abbrev pub after_blanks : List ℕ → List ℕ
after_blanks bytes = (skip false start bytes).bytes

-- whether no token follows this one
abbrev pub is_last : Token → Bool
is_last end_token = true
is_last bad_token = true
is_last _ = false

-- a token that others follow stands at the front of the bytes, and these after it; the flag says that the symbols of the wide language are among the tokens
pub record IsAfterToken (wide : Bool) (bytes after : List ℕ) : Type 0 where
  pub goes_on : is_last (scan_in wide bytes).token ≡ false
  pub left : (scan_in wide bytes).left ≡ after

-- the same of a symbol
pub record IsAfterSymbol (wide : Bool) (first : ℕ) (rest after : List ℕ) : Type 0 where
  pub goes_on : is_last (symbol_in wide first rest).token ≡ false
  pub left : (symbol_in wide first rest).left ≡ after

-- what stands after the token at the front of the bytes, or none where no token follows it
abbrev pub FindsToken : Bool → List ℕ → Option (Bor (List ℕ)) → Type 0
FindsToken wide bytes found = MatchOption found (is_last (scan_in wide bytes).token ≡ true) (λ after. IsAfterToken wide bytes after.now)

-- the same of a symbol
abbrev pub FindsSymbol : Bool → ℕ → List ℕ → Option (Bor (List ℕ)) → Type 0
FindsSymbol wide first rest found = MatchOption found (is_last (symbol_in wide first rest).token ≡ true) (λ after. IsAfterSymbol wide first rest after.now)

-- the bytes after a text and its closing quote, if it has one
abbrev pub after_quoted : Result QuotedText Scanned → Option (List ℕ)
after_quoted (Ok t) = Some t.left
after_quoted (Err s) = None

-- the bytes after a closing quote, if it comes first
abbrev pub after_quote : List ℕ → Option (List ℕ)
after_quote [] = None
after_quote (b ∷ bytes) = if b == 34 then Some bytes else None

-- what stands after a byte of a text, or none where the text ends
abbrev pub FindsCharacter : List ℕ → Option (Bor (List ℕ)) → Type 0
FindsCharacter bytes found =
    let left = after_quoted (text_from false bytes) in
    MatchOption found (left ≡ after_quote bytes) (λ after. left ≡ after_quoted (text_from false after.now))

-- the bytes after an equals sign, or all
abbrev pub after_equals : List ℕ → List ℕ
after_equals [] = []
after_equals (b ∷ bytes) = if b == 61 then bytes else b ∷ bytes
