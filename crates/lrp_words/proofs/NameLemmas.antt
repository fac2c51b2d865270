-- A text whose first token is the name that all of it spells is a name.
use Rattle.std.proofs.Common.{◌≡◌, ◌≤◌, ◌<◌, ◌∙◌, ℕ, arith, Bool, true, false, ◌&&◌, List, [], ◌∷◌, Ok, refl, sym, ap, subst, codes, length, suc}
use Rattle.std.specs.Prelude.{nat_le}
use Rattle.std.specs.List.{AllByRecursion}
use Rattle.std.specs.Str.{bytes_eq}
use Rattle.std.proofs.lemmas.Slice.Eq.{bytes_eq-Decides}
use Rattle.std.proofs.lemmas.Bool.{le-leb}
use Rattle.std.proofs.lemmas.Bool.Decides.{nat_tests}
use Rattle.lrp_model.specs.Texts.{Text}
use Rattle.lrp_model.specs.Tokens.{Token, Tokens}
use Rattle.lrp_model.specs.Tokens.Token.{name_token, word_token, number_token, text_token, symbol_token, end_token, bad_token, hole_token}
use Rattle.lrp_model.specs.Lexing.{tokens, start, scan_in, run, after_run, word_or_name}
use Rattle.lrp_model.specs.Limits.{most_bytes}
use Rattle.lrp_model.specs.Names.{IsName}
use Rattle.lrp_text.specs.Parsers.{look}
use Rattle.lrp_text.specs.Taking.{is_token_named, is_named_token}
use Rattle.lrp_text.proofs.NameTokens.{NamedToken, tokens_named}
use Rattle.lrp_words.specs.Commands.{is_name_of, spells_name}

-- what is seen of the first token
seen : (text : Text) (ts : Tokens) (b : Bool) → look false (is_token_named text) ts ≡ Ok (b, ts) → b ≡ spells_name text ts
unfolding look
seen text [] b e =
    let p : ◌≡◌ {A = Bool × Tokens} (false, []) (b, []) = cc in
    sym (ap (λ x. x.0) p)
seen text (t ∷ ts) b e =
    let p : ◌≡◌ {A = Bool × Tokens} (is_token_named text t, t ∷ ts) (b, t ∷ ts) = cc in
    sym (ap (λ x. x.0) p)

-- a name token that all of the text spells
named : (text : Text) (t : Token) → NamedToken t → is_named_token text t ≡ true → IsName text
named text (name_token n) h e = subst IsName ((bytes_eq-Decides n text).0 e) h
named text (word_token w) h e = absurd cc
named text (number_token n) h e = absurd cc
named text (text_token u) h e = absurd cc
named text (symbol_token s) h e = absurd cc
named text end_token h e = absurd cc
named text bad_token h e = absurd cc
named text hole_token h e = absurd cc

first_named : (text : Text) (ts : Tokens) → AllByRecursion (λ t. NamedToken t.token) ts → spells_name text ts ≡ true → IsName text
first_named text [] h e = absurd cc
first_named text (t ∷ ts) h e = named text t.token h.0 e

is_name : (text : Text) → spells_name text (tokens text) ≡ true → IsName text
is_name text e = first_named text (tokens text) (tokens_named false (suc (length text)) start text) e

-- a text that is short enough, and one that is too long
pub name_short : (text : Text) (ts : Tokens) (b : Bool) → ts ≡ tokens text → look false (is_token_named text) ts ≡ Ok (b, ts) → length text ≤ most_bytes → b ≡ is_name_of text
name_short text ts b e h le = seen text ts b h ∙ ap (spells_name text) e ∙ ap (λ c. c && spells_name text (tokens text)) (sym (le-leb (length text) 16777216 le))

beyond : (n m : ℕ) → m < n → nat_le n m ≡ false
beyond n m h = grind (arith, nat_tests, h)

pub name_long : (text : Text) → most_bytes < length text → nat_le (length text) most_bytes ≡ is_name_of text
name_long text h = beyond (length text) 16777216 h ∙ ap (λ c. c && spells_name text (tokens text)) (sym (beyond (length text) 16777216 h))

pub name_is : (text : Text) (ts : Tokens) (b : Bool) → ts ≡ tokens text → look false (is_token_named text) ts ≡ Ok (b, ts) → b ≡ true → IsName text
name_is text ts b e h t = is_name text (ap (spells_name text) (sym e) ∙ sym (seen text ts b h) ∙ t)

-- the name that a relation of answers has where none is given
pub answer_named : IsName (codes "answer")
unfolding scan_in run after_run word_or_name
answer_named = refl
