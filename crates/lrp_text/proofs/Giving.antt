-- What a lexer gives of what it has found.
use Rattle.std.proofs.Common.{◌≡◌, ℕ, false, List, [], ◌∷◌, ◌++◌, refl, ap, ◌∙◌, sym, Result, Ok, Err}
use Rattle.lrp_model.specs.declared.tokens.Place.{Place}
use Rattle.lrp_model.specs.declared.tokens.TokenKind.{TokenKind}
use Rattle.lrp_model.specs.declared.tokens.TokenKind.TheVariants.{Text as TextKind}
use Rattle.lrp_model.specs.declared.tokens.LexKind.{LexKind}
use Rattle.lrp_model.specs.Tokens.{Token, Tokens}
use Rattle.lrp_model.specs.Tokens.Token.{name_token, word_token, number_token, text_token, symbol_token, end_token, bad_token}
use Rattle.lrp_model.specs.Lexing.{Remainder, after, skip, scan_in, headed, tokens_in_from}
use Rattle.lrp_text.specs.declared.lexemes.Lexeme.{Lexeme}
use Rattle.lrp_text.specs.declared.lexemes.Lexeme.TheVariants.{Name, Word, Number, LargeNumber, Text, LongText, Symbol, End, Bad}
use Rattle.lrp_text.specs.Sources.{next_at, next_of, after_next, tokens_left, IsFoundLexeme, HasTokensAfter}
use Rattle.lrp_text.specs.Stream.{TokenFirst, FaultFirst, IsSliceOf, IsNextText, kind_of}
use Rattle.lrp_text.proofs.Scans.{scan_taken_in}
use Rattle.lrp_text.proofs.Alone.{scan_end}
use Rattle.lrp_text.proofs.Cuts.{skipped}
use Rattle.lrp_text.proofs.Following.{next_tokens}
use Rattle.lrp_text.proofs.Standing.{tokens_go, text_slice}

-- what comes first of the tokens that are left
abbrev pub FirstKind : Result TokenKind LexKind → Place → Tokens → Tokens → Type 0
FirstKind (Ok kind) place ts us = TokenFirst kind place ts us
FirstKind (Err kind) place ts us = FaultFirst kind place ts us

-- a token that others follow comes first
first_go : (old new : Remainder) (place : Place) (k : Token) → (next_of false old).token ≡ k → HasTokensAfter k → place ≡ (next_at old).place → new ≡ after_next false old → tokens_left false old ≡ record { token = k; place = place } ∷ tokens_left false new
first_go old new place k e g p n = tokens_go false old place k e g p ∙ ap (λ s. record { token = k; place = place } ∷ tokens_left false s) (sym n)

-- after the end stands the end
end_again : (old : Remainder) → (next_of false old).token ≡ end_token → tokens_left false (after_next false old) ≡ record { token = end_token; place = (next_at old).place } ∷ []
unfolding tokens_in_from scan_in skip after
end_again old e =
    let none : (next_at old).bytes ≡ [] = scan_end false (next_at old).bytes e in
    let place = (next_at old).place in
    ap (λ bs. tokens_left false (record { place = after place (scan_in false bs).taken; bytes = (scan_in false bs).left })) none

-- what was found comes first
pub first_found : (old : Remainder) (l : Lexeme) (slice : List ℕ) (place : Place) (new : Remainder) → IsFoundLexeme false old l slice place new → FirstKind (kind_of l) place (tokens_left false old) (tokens_left false new)
first_found old Name slice place new f = (name_token slice, tt, first_go old new place (name_token slice) f.0 tt f.2 f.3)
first_found old (Word w) slice place new f = (word_token w, tt, first_go old new place (word_token w) f.0 tt f.2 f.3)
first_found old (Number n) slice place new f = (number_token n, f.0.1, first_go old new place (number_token n) f.0.0 tt f.2 f.3)
first_found old LargeNumber slice place new f = (number_token f.0.0, f.0.2, first_go old new place (number_token f.0.0) f.0.1 tt f.2 f.3)
first_found old Text slice place new f = (text_token f.0.0, f.0.2, first_go old new place (text_token f.0.0) f.0.1 tt f.2 f.3)
first_found old LongText slice place new f = (text_token f.0.0, f.0.2, first_go old new place (text_token f.0.0) f.0.1 tt f.2 f.3)
first_found old (Symbol s) slice place new f = (symbol_token s, tt, first_go old new place (symbol_token s) f.0 tt f.2 f.3)
first_found old End slice place new f =
    let is : tokens_left false old ≡ record { token = end_token; place = place } ∷ [] = next_tokens false old ∙ ap (λ t. headed (next_at old).place (next_of false old) t (tokens_left false (after_next false old))) f.0 ∙ ap (λ p. record { token = end_token; place = p } ∷ []) (sym f.2) in
    (is, ap (tokens_left false) f.3 ∙ end_again old f.0 ∙ ap (λ p. record { token = end_token; place = p } ∷ []) (sym f.2) ∙ sym is)
first_found old Bad slice place new f = (next_tokens false old ∙ ap (λ t. headed (next_at old).place (next_of false old) t (tokens_left false (after_next false old))) f.0 ∙ ap (λ p. record { token = bad_token; place = p } ∷ []) (sym f.2), ap (tokens_left false) f.3)

-- the slice of what stands next
slice_go : (old new : Remainder) (slice : List ℕ) (place : Place) → slice ≡ (next_of false old).taken → place ≡ (next_at old).place → new ≡ after_next false old → IsSliceOf old slice place new
slice_go old new slice place d p n =
    let k = skipped false old.place old.bytes in
    let s = next_of false old in
    let bytes : new.bytes ≡ s.left = ap (λ x. x.bytes) n in
    let inner : slice ++ new.bytes ≡ (next_at old).bytes = ap (λ x. x ++ new.bytes) d ∙ ap (λ x. s.taken ++ x) bytes ∙ (scan_taken_in false (next_at old).bytes).whole in
    record {
      skipped = k.front;
      whole = sym (ap (λ x. k.front ++ x) inner ∙ k.whole);
      place_is = p ∙ k.place;
      goes_on = ap (λ x. x.place) n ∙ ap (λ q. after q s.taken) (sym p) ∙ ap (after place) (sym d);
    }

-- a slice of what was left, where a token is given
abbrev pub SliceKind : Result TokenKind LexKind → Remainder → List ℕ → Place → Remainder → Type 0
SliceKind (Ok kind) old slice place new = IsSliceOf old slice place new
SliceKind (Err kind) old slice place new = Unit {0}

-- what was found is a slice
pub slice_found : (old : Remainder) (l : Lexeme) (slice : List ℕ) (place : Place) (new : Remainder) → IsFoundLexeme false old l slice place new → SliceKind (kind_of l) old slice place new
slice_found old Name slice place new f = slice_go old new slice place f.1 f.2 f.3
slice_found old (Word w) slice place new f = slice_go old new slice place f.1 f.2 f.3
slice_found old (Number n) slice place new f = slice_go old new slice place f.1 f.2 f.3
slice_found old LargeNumber slice place new f = tt
slice_found old Text slice place new f = slice_go old new slice place f.1 f.2 f.3
slice_found old LongText slice place new f = tt
slice_found old (Symbol s) slice place new f = slice_go old new slice place f.1 f.2 f.3
slice_found old End slice place new f = slice_go old new slice place f.1 f.2 f.3
slice_found old Bad slice place new f = tt

-- the slice of a text, where one is given
abbrev pub TextKindOf : Result TokenKind LexKind → Remainder → List ℕ → Type 0
TextKindOf (Ok kind) old slice = kind ≡ TextKind → IsNextText old slice
TextKindOf (Err kind) old slice = Unit {0}

-- the slice of a text that was found is that text
pub text_found : (old : Remainder) (l : Lexeme) (slice : List ℕ) (place : Place) (new : Remainder) → IsFoundLexeme false old l slice place new → TextKindOf (kind_of l) old slice
text_found old Text slice place new f = λ is. (record { text = f.0.0; token = text_slice false old slice (text_token f.0.0) f.0.1 f.1 f.0.0 refl; short = f.0.2 }, f.0.1)
text_found old Name slice place new f = λ is. absurd cc
text_found old (Word w) slice place new f = λ is. absurd cc
text_found old (Number n) slice place new f = λ is. absurd cc
text_found old LargeNumber slice place new f = tt
text_found old LongText slice place new f = tt
text_found old (Symbol s) slice place new f = λ is. absurd cc
text_found old End slice place new f = λ is. absurd cc
text_found old Bad slice place new f = tt
