-- What stands next in a source, and what a cursor may take.
use Rattle.std.proofs.Common.{◌≡◌, ℕ, List, [], ◌∷◌, refl, ap, ◌∙◌, sym, subst, Bool}
use Rattle.lrp_model.specs.declared.tokens.Place.{Place}
use Rattle.lrp_model.specs.Tokens.{Token, Placed, Tokens}
use Rattle.lrp_model.specs.Tokens.Token.{name_token, word_token, number_token, text_token, symbol_token, end_token, bad_token, hole_token}
use Rattle.lrp_model.specs.Lexing.{Remainder, Scanned, scan_in, scan, headed}
use Rattle.lrp_text.specs.declared.lexemes.Lexeme.{Lexeme}
use Rattle.lrp_text.specs.declared.lexemes.Lexeme.TheVariants.{Name, Word, Number, LargeNumber, Text, LongText, Symbol, End, Bad}
use Rattle.lrp_text.specs.Lexemes.{IsSaid}
use Rattle.lrp_text.specs.Sources.{next_at, next_of, after_next, tokens_left, IsFoundLexeme, Stands, HasTokensAfter, IsInnerToken}
use Rattle.lrp_text.proofs.Following.{next_tokens}
use Rattle.lrp_text.proofs.Alone.{scan_alone}

-- a token that others follow
headed_goes : (p : Place) (s : Scanned) (k : Token) (rest : Tokens) → HasTokensAfter k → headed p s k rest ≡ record { token = k; place = p } ∷ rest
headed_goes p s (name_token n) rest g = refl
headed_goes p s (word_token w) rest g = refl
headed_goes p s (number_token n) rest g = refl
headed_goes p s (text_token t) rest g = refl
headed_goes p s (symbol_token y) rest g = refl
headed_goes p s hole_token rest g = refl
headed_goes p s end_token rest g = absurd g
headed_goes p s bad_token rest g = absurd g

-- the tokens that are left, where others follow the first
pub tokens_go : (wide : Bool) (old : Remainder) (place : Place) (k : Token) → (next_of wide old).token ≡ k → HasTokensAfter k → place ≡ (next_at old).place → tokens_left wide old ≡ record { token = k; place = place } ∷ tokens_left wide (after_next wide old)
tokens_go wide old place k e g d =
    let rest = tokens_left wide (after_next wide old) in
    next_tokens wide old ∙ ap (λ t. headed (next_at old).place (next_of wide old) t rest) e ∙ headed_goes (next_at old).place (next_of wide old) k rest g ∙ ap (λ p. record { token = k; place = p } ∷ rest) (sym d)

-- the slice of a text is that text
pub text_slice : (wide : Bool) (old : Remainder) (slice : List ℕ) (k : Token) → (next_of wide old).token ≡ k → slice ≡ (next_of wide old).taken → (t : List ℕ) → k ≡ text_token t → (scan slice).token ≡ text_token t
text_slice wide old slice k e d t is = ap (λ x. (scan x).token) d ∙ scan_alone wide (next_at old).bytes t (e ∙ is)

-- what stands next, where others follow it
stands_go : (wide : Bool) (old : Remainder) (l : Lexeme) (slice : List ℕ) (place : Place) (k : Token) → (next_of wide old).token ≡ k → HasTokensAfter k → IsSaid l slice k → slice ≡ (next_of wide old).taken → place ≡ (next_at old).place → Stands (tokens_left wide old) l slice place
stands_go wide old l slice place k e g said d p = record { token = k; left = tokens_left wide (after_next wide old); whole = tokens_go wide old place k e g p; said = said; text = text_slice wide old slice k e d; last = λ n. absurd (subst HasTokensAfter n g) }

-- what was found stands next
pub stands_next : (wide : Bool) (old : Remainder) (l : Lexeme) (slice : List ℕ) (place : Place) (new : Remainder) → IsFoundLexeme wide old l slice place new → Stands (tokens_left wide old) l slice place
stands_next wide old Name slice place new f = stands_go wide old Name slice place (name_token slice) f.0 tt refl f.1 f.2
stands_next wide old (Word w) slice place new f = stands_go wide old (Word w) slice place (word_token w) f.0 tt refl f.1 f.2
stands_next wide old (Number n) slice place new f = stands_go wide old (Number n) slice place (number_token n) f.0.0 tt (refl, f.0.1) f.1 f.2
stands_next wide old LargeNumber slice place new f = stands_go wide old LargeNumber slice place (number_token f.0.0) f.0.1 tt (f.0.0, refl, f.0.2) f.1 f.2
stands_next wide old Text slice place new f = stands_go wide old Text slice place (text_token f.0.0) f.0.1 tt (f.0.0, refl, f.0.2) f.1 f.2
stands_next wide old LongText slice place new f = stands_go wide old LongText slice place (text_token f.0.0) f.0.1 tt (f.0.0, refl, f.0.2) f.1 f.2
stands_next wide old (Symbol s) slice place new f = stands_go wide old (Symbol s) slice place (symbol_token s) f.0 tt refl f.1 f.2
stands_next wide old End slice place new f = record {
  token = end_token;
  left = [];
  last = λ e. refl;
  whole = next_tokens wide old ∙ ap (λ t. headed (next_at old).place (next_of wide old) t (tokens_left wide (after_next wide old))) f.0 ∙ ap (λ p. record { token = end_token; place = p } ∷ []) (sym f.2);
  said = refl;
  text = λ t e. absurd cc;
}
stands_next wide old Bad slice place new f = record {
  token = bad_token;
  left = [];
  last = λ e. refl;
  whole = next_tokens wide old ∙ ap (λ t. headed (next_at old).place (next_of wide old) t (tokens_left wide (after_next wide old))) f.0 ∙ ap (λ p. record { token = bad_token; place = p } ∷ []) (sym f.2);
  said = refl;
  text = λ t e. absurd cc;
}

-- after a token that others follow
goes_to : (wide : Bool) (old : Remainder) (place : Place) (new : Remainder) (k : Token) → (next_of wide old).token ≡ k → HasTokensAfter k → place ≡ (next_at old).place → new ≡ after_next wide old → (t : Placed) × (tokens_left wide old ≡ t ∷ tokens_left wide new)
goes_to wide old place new k e g p n = (record { token = k; place = place }, tokens_go wide old place k e g p ∙ ap (λ s. record { token = k; place = place } ∷ tokens_left wide s) (sym n))

-- where a token follows wide, what was found leaves the others
pub goes_after : (wide : Bool) (old : Remainder) (l : Lexeme) (slice : List ℕ) (place : Place) (new : Remainder) → IsFoundLexeme wide old l slice place new → IsInnerToken (tokens_left wide old) → (t : Placed) × (tokens_left wide old ≡ t ∷ tokens_left wide new)
unfolding stands_next
goes_after wide old Name slice place new f g = goes_to wide old place new (name_token slice) f.0 tt f.2 f.3
goes_after wide old (Word w) slice place new f g = goes_to wide old place new (word_token w) f.0 tt f.2 f.3
goes_after wide old (Number n) slice place new f g = goes_to wide old place new (number_token n) f.0.0 tt f.2 f.3
goes_after wide old LargeNumber slice place new f g = goes_to wide old place new (number_token f.0.0) f.0.1 tt f.2 f.3
goes_after wide old Text slice place new f g = goes_to wide old place new (text_token f.0.0) f.0.1 tt f.2 f.3
goes_after wide old LongText slice place new f g = goes_to wide old place new (text_token f.0.0) f.0.1 tt f.2 f.3
goes_after wide old (Symbol s) slice place new f g = goes_to wide old place new (symbol_token s) f.0 tt f.2 f.3
goes_after wide old End slice place new f g = absurd (subst IsInnerToken (stands_next wide old End slice place new f).whole g)
goes_after wide old Bad slice place new f g = absurd (subst IsInnerToken (stands_next wide old Bad slice place new f).whole g)
