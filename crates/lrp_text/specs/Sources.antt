-- What stands next in a source, and the tokens that are left of it.
use Rattle.std.specs.Prelude.{◌≡◌, ◌<◌, ◌+◌, ◌^◌, ℕ, suc, Bool, false, List, [], ◌∷◌, length}
use Rattle.lrp_text.specs.declared.sources.Source.{Source}
use Rattle.lrp_model.specs.declared.tokens.Place.{Place}
use Rattle.lrp_model.specs.Tokens.{Token, Tokens}
use Rattle.lrp_model.specs.Tokens.Token.{text_token, end_token, bad_token}
use Rattle.lrp_model.specs.Lexing.{Remainder, Scanned, after, skip, scan_in, tokens_in_from}
use Rattle.lrp_text.specs.declared.lexemes.Lexeme.{Lexeme}
use Rattle.lrp_text.specs.declared.lexemes.Found.{Found}
use Rattle.lrp_text.specs.declared.lexemes.Lexeme.TheVariants.{Bad}
use Rattle.lrp_text.specs.Lexemes.{IsSaid}

-- where a source stands
abbrev pub at_of : Source → Remainder
at_of s = record { place = s.place; bytes = s.rest.now }

-- every place up to the end of what is left is below 2 ^ 32
pub record HasPlacesInRange (s : Remainder) : Type 0 where
  pub line : s.place.line + length s.bytes < 2 ^ 32
  pub column : s.place.column + length s.bytes < 2 ^ 32

-- after the blanks and comments that come first
abbrev pub next_at : Remainder → Remainder
next_at s = skip false s.place s.bytes

-- the token there, and the bytes that it takes; the flag says that the symbols of the wide language are among the tokens
abbrev pub next_of : Bool → Remainder → Scanned
next_of wide s = scan_in wide (next_at s).bytes

-- after that token
abbrev pub after_next : Bool → Remainder → Remainder
after_next wide s = record { place = after (next_at s).place (next_of wide s).taken; bytes = (next_of wide s).left }

-- the tokens of the bytes that are left, the last one the end or a bad byte
abbrev pub tokens_left : Bool → Remainder → Tokens
tokens_left wide s = tokens_in_from wide (suc (length s.bytes)) s.place s.bytes

-- what stands next is this lexeme, with its slice and its place, and the source goes on after it; at a bad byte it stays
abbrev pub IsFoundLexeme : Bool → Remainder → Lexeme → List ℕ → Place → Remainder → Type 0
IsFoundLexeme wide old Bad slice place new = ((next_of wide old).token ≡ bad_token) × (slice ≡ (next_of wide old).taken) × (place ≡ after (next_at old).place (next_of wide old).taken) × (new ≡ old)
IsFoundLexeme wide old l slice place new = IsSaid l slice (next_of wide old).token × (slice ≡ (next_of wide old).taken) × (place ≡ (next_at old).place) × (new ≡ after_next wide old)

-- the next token is what a lexeme says, at its place; where it is a text, the slice by itself is that text; after the end stands nothing
pub record Stands (ts : Tokens) (l : Lexeme) (slice : List ℕ) (place : Place) : Type 0 where
  pub token : Token
  pub left : Tokens
  pub whole : ts ≡ record { token = token; place = place } ∷ left
  pub said : IsSaid l slice token
  pub text : (t : List ℕ) → token ≡ text_token t → (scan_in false slice).token ≡ text_token t
  pub last : token ≡ end_token → left ≡ []

-- others follow this token
abbrev pub HasTokensAfter : Token → Type 0
HasTokensAfter end_token = ⊥
HasTokensAfter bad_token = ⊥
HasTokensAfter _ = Unit {0}

-- the next token is one that others follow
abbrev pub IsInnerToken : Tokens → Type 0
IsInnerToken [] = ⊥
IsInnerToken (t ∷ ts) = HasTokensAfter t.token

-- a cursor: what stands next where it is, and the source after that
pub record IsCursorAt (here : Source) (found : Found) (afterwards : Source) : Type 0 where
  pub next : IsFoundLexeme here.wide (at_of here) found.lexeme found.slice.now found.place (at_of afterwards)
  pub signs : afterwards.wide ≡ here.wide
  pub range : HasPlacesInRange (at_of afterwards)
