-- The tokens of bytes: at each of them something stands, and others do not follow all of them.
use Rattle.std.proofs.Common.{◌≡◌, ◌<◌, ◌≤◌, ◌⊎◌, inl, inr, ℕ, zero, suc, Bool, false, List, [], ◌∷◌, ◌++◌, refl, ◌∙◌, sym, subst, length, arith}
use Rattle.std.proofs.lemmas.Bool.{cases_lt}
use Rattle.std.specs.List.{AllByRecursion}
use Rattle.lrp_model.specs.declared.tokens.Place.{Place}
use Rattle.lrp_model.specs.Limits.{greatest_number}
use Rattle.lrp_model.specs.Tokens.{Token, Placed, Tokens}
use Rattle.lrp_model.specs.Tokens.Token.{name_token, word_token, number_token, text_token, symbol_token, end_token, bad_token, hole_token}
use Rattle.lrp_model.specs.Lexing.{Remainder, Scanned, after, skip, scan_in, headed, tokens_in_from, tokens_in, start}
use Rattle.lrp_text.specs.declared.lexemes.Lexeme.{Lexeme}
use Rattle.lrp_text.specs.declared.lexemes.Lexeme.TheVariants.{Name, Word, Number, LargeNumber, Text, LongText, Symbol, End, Bad}
use Rattle.lrp_text.specs.Lexemes.{IsSaid}
use Rattle.lrp_text.specs.Sources.{next_of, Stands, HasTokensAfter}
use Rattle.lrp_text.proofs.Cuts.{skip_shorter, scan_size}
use Rattle.lrp_text.proofs.Scans.{ends_some, scan_taken_in}
use Rattle.lrp_text.proofs.Standing.{text_slice}
use Rattle.lrp_query.specs.Rules.{is_hole_token}
use Rattle.lrp_query.proofs.Marks.{NoHoles}
use Rattle.lrp_query.proofs.HoleFree.{tokens_clean}

-- ---- what stands at a token

-- something stands at the first of the tokens
pub record Something (ts : Tokens) : Type 0 where
  pub lexeme : Lexeme
  pub slice : List ℕ
  pub place : Place
  pub stands : Stands ts lexeme slice place

-- a token at a place, and those that follow it
abbrev first : Token → Place → Tokens → Tokens
first k p rest = record { token = k; place = p } ∷ rest

-- at a token that is no text
no_text : (l : Lexeme) (slice : List ℕ) (k : Token) (p : Place) (rest : Tokens) → IsSaid l slice k → ((t : List ℕ) → k ≡ text_token t → ⊥) → (k ≡ end_token → rest ≡ []) → Something (first k p rest)
no_text l slice k p rest said other last = record {
  lexeme = l;
  slice = slice;
  place = p;
  stands = record { token = k; left = rest; whole = refl; said = said; text = λ t e. absurd (other t e); last = last };
}

-- at a number, which is lawful or too large
number_there : (n : ℕ) (p : Place) (rest : Tokens) → (greatest_number < n) ⊎ (n ≤ greatest_number) → Something (first (number_token n) p rest)
number_there n p rest (inl large) = no_text LargeNumber [] (number_token n) p rest (n, refl, large) (λ t e. cc) (λ e. cc)
number_there n p rest (inr fits) = no_text (Number n) [] (number_token n) p rest (refl, fits) (λ t e. cc) (λ e. cc)

-- at a text, whose slice by itself is that text
text_there : (wide : Bool) (old : Remainder) (t : List ℕ) (p : Place) (rest : Tokens) → (next_of wide old).token ≡ text_token t → (255 < length t) ⊎ (length t ≤ 255) → Something (first (text_token t) p rest)
text_there wide old t p rest e (inl long) = record {
  lexeme = LongText;
  slice = (next_of wide old).taken;
  place = p;
  stands = record { token = text_token t; left = rest; whole = refl; said = (t, refl, long); text = text_slice wide old (next_of wide old).taken (text_token t) e refl; last = λ d. cc };
}
text_there wide old t p rest e (inr fits) = record {
  lexeme = Text;
  slice = (next_of wide old).taken;
  place = p;
  stands = record { token = text_token t; left = rest; whole = refl; said = (t, refl, fits); text = text_slice wide old (next_of wide old).taken (text_token t) e refl; last = λ d. cc };
}

-- at any token that is no hole, where nothing follows the end
token_there : (wide : Bool) (old : Remainder) (k : Token) (p : Place) (rest : Tokens) → (next_of wide old).token ≡ k → is_hole_token k ≡ false → (k ≡ end_token → rest ≡ []) → Something (first k p rest)
token_there wide old (name_token n) p rest e real last = no_text Name n (name_token n) p rest refl (λ t d. cc) last
token_there wide old (word_token w) p rest e real last = no_text (Word w) [] (word_token w) p rest refl (λ t d. cc) last
token_there wide old (number_token n) p rest e real last = number_there n p rest (cases_lt greatest_number n)
token_there wide old (text_token t) p rest e real last = text_there wide old t p rest e (cases_lt 255 (length t))
token_there wide old (symbol_token s) p rest e real last = no_text (Symbol s) [] (symbol_token s) p rest refl (λ t d. cc) last
token_there wide old end_token p rest e real last = no_text End [] end_token p rest refl (λ t d. cc) last
token_there wide old bad_token p rest e real last = no_text Bad [] bad_token p rest refl (λ t d. cc) last
token_there wide old hole_token p rest e real last = absurd cc

-- ---- the tokens one after the other

-- the first token and what follows it: the others, or after the end and a bad byte nothing
record Headed (whole : Tokens) (k : Token) (rest : Tokens) : Type 0 where
  place : Place
  follow : Tokens
  is : whole ≡ first k place follow
  others : (follow ≡ rest) ⊎ (follow ≡ [])
  last : k ≡ end_token → follow ≡ []

goes : (k : Token) (p : Place) (rest : Tokens) → (k ≡ end_token → ⊥) → Headed (first k p rest) k rest
goes k p rest more = record { place = p; follow = rest; is = refl; others = inl refl; last = λ e. absurd (more e) }

ends : (k : Token) (p : Place) (rest : Tokens) → Headed (first k p []) k rest
ends k p rest = record { place = p; follow = []; is = refl; others = inr refl; last = λ e. refl }

headed_as : (p : Place) (s : Scanned) (k : Token) (rest : Tokens) → Headed (headed p s k rest) k rest
headed_as p s (name_token n) rest = goes (name_token n) p rest (λ e. cc)
headed_as p s (word_token w) rest = goes (word_token w) p rest (λ e. cc)
headed_as p s (number_token n) rest = goes (number_token n) p rest (λ e. cc)
headed_as p s (text_token t) rest = goes (text_token t) p rest (λ e. cc)
headed_as p s (symbol_token y) rest = goes (symbol_token y) p rest (λ e. cc)
headed_as p s hole_token rest = goes hole_token p rest (λ e. cc)
headed_as p s end_token rest = ends end_token p rest
headed_as p s bad_token rest = ends bad_token (after p s.taken) rest

-- nothing is left of nothing
nothing_left : (front us : Tokens) → [] ≡ front ++ us → us ≡ []
nothing_left [] us e = sym e
nothing_left (t ∷ front) us e = absurd cc

-- equal lists go on equally
tails : (a b : Placed) (xs ys : Tokens) → a ∷ xs ≡ b ∷ ys → xs ≡ ys
tails a b xs ys e = cc

-- what is left after some tokens begins at the first of them, or at one of the others
back_there : (wide : Bool) (old : Remainder) (k : Token) (whole rest : Tokens) → Headed whole k rest → (next_of wide old).token ≡ k → (front us : Tokens) → whole ≡ front ++ us → NoHoles us → (us ≡ [] → ⊥) → ((others : Tokens) → rest ≡ others ++ us → Something us) → Something us
back_there wide old k whole rest h token [] us e clean some again =
    let there : us ≡ first k h.place h.follow = sym e ∙ h.is in
    let real : is_hole_token k ≡ false = (subst NoHoles there clean).0 in
    subst Something (sym there) (token_there wide old k h.place h.follow token real h.last)
back_there wide old k whole rest h token (t ∷ front) us e clean some again =
    let follow : h.follow ≡ front ++ us = tails (record { token = k; place = h.place }) t h.follow (front ++ us) (sym h.is ∙ e) in
    elim h.others [
      | inl same ↦ again front (sym same ∙ follow)
      | inr none ↦ absurd (some (nothing_left front us (sym none ∙ follow)))
    ]

-- something stands wherever some of the tokens are left
left_there : (wide : Bool) (n : ℕ) (p : Place) (bs : List ℕ) (front us : Tokens) → tokens_in_from wide n p bs ≡ front ++ us → NoHoles us → (us ≡ [] → ⊥) → Something us
unfolding tokens_in_from
left_there wide zero p bs front us e clean some = absurd (some (nothing_left front us e))
left_there wide (suc n) p bs front us e clean some =
    let old : Remainder = record { place = p; bytes = bs } in
    let a = skip false p bs in
    let s = scan_in wide a.bytes in
    let rest = tokens_in_from wide n (after a.place s.taken) s.left in
    back_there wide old s.token (headed a.place s s.token rest) rest (headed_as a.place s s.token rest) refl front us e clean some (λ others d. left_there wide n (after a.place s.taken) s.left others us d clean some)

-- the holes of the tokens that are left
clean_back : (front us : Tokens) → NoHoles (front ++ us) → NoHoles us
clean_back [] us clean = clean
clean_back (t ∷ front) us clean = clean_back front us clean.1

pub something_left : (wide : Bool) (bytes : List ℕ) (front us : Tokens) → tokens_in wide bytes ≡ front ++ us → (us ≡ [] → ⊥) → Something us
something_left wide bytes front us e some = left_there wide (suc (length bytes)) start bytes front us e (clean_back front us (subst NoHoles e (tokens_clean wide bytes))) some

-- ---- the last token

-- others may follow each of them
abbrev pub AllGo : Tokens → Type 0
AllGo = AllByRecursion (λ t. HasTokensAfter t.token)

-- not after the end or a bad byte
ends_all : (p : Place) (s : Scanned) (k : Token) (rest : Tokens) → (k ≡ bad_token) ⊎ ((k ≡ end_token) ⊎ (AllGo rest → ⊥)) → AllGo (headed p s k rest) → ⊥
ends_all p s (name_token n) rest (inl e) all = absurd cc
ends_all p s (word_token w) rest (inl e) all = absurd cc
ends_all p s (number_token n) rest (inl e) all = absurd cc
ends_all p s (text_token t) rest (inl e) all = absurd cc
ends_all p s (symbol_token y) rest (inl e) all = absurd cc
ends_all p s hole_token rest (inl e) all = absurd cc
ends_all p s (name_token n) rest (inr (inl e)) all = absurd cc
ends_all p s (word_token w) rest (inr (inl e)) all = absurd cc
ends_all p s (number_token n) rest (inr (inl e)) all = absurd cc
ends_all p s (text_token t) rest (inr (inl e)) all = absurd cc
ends_all p s (symbol_token y) rest (inr (inl e)) all = absurd cc
ends_all p s hole_token rest (inr (inl e)) all = absurd cc
ends_all p s (name_token n) rest (inr (inr none)) all = none all.1
ends_all p s (word_token w) rest (inr (inr none)) all = none all.1
ends_all p s (number_token n) rest (inr (inr none)) all = none all.1
ends_all p s (text_token t) rest (inr (inr none)) all = none all.1
ends_all p s (symbol_token y) rest (inr (inr none)) all = none all.1
ends_all p s hole_token rest (inr (inr none)) all = none all.1
ends_all p s end_token rest e all = all.0
ends_all p s bad_token rest e all = all.0

-- more turns than bytes come to the last token
comes_to_end : (wide : Bool) (n : ℕ) (p : Place) (bs : List ℕ) → length bs < n → AllGo (tokens_in_from wide n p bs) → ⊥
unfolding tokens_in_from
comes_to_end wide zero p bs few all = absurd (omega (arith, few))
comes_to_end wide (suc n) p bs few all =
    let a = skip false p bs in
    let s = scan_in wide a.bytes in
    let rest = tokens_in_from wide n (after a.place s.taken) s.left in
    let short = skip_shorter p bs in
    let size = scan_size wide a.bytes in
    ends_all a.place s s.token rest (elim (scan_taken_in wide a.bytes).ends [
      | inl bad ↦ inl bad.0
      | inr (inl end) ↦ inr (inl end.0)
      | inr (inr plain) ↦ inr (inr (comes_to_end wide n (after a.place s.taken) s.left (omega (arith, few, short, size, ends_some s.taken plain))))
    ]) all

-- others do not follow all of the tokens of bytes
pub not_all_go : (wide : Bool) (bytes : List ℕ) → AllGo (tokens_in wide bytes) → ⊥
not_all_go wide bytes = comes_to_end wide (suc (length bytes)) start bytes (omega arith)

-- ---- the end

-- nothing follows the end
abbrev pub IsClosed : Tokens → Type 0
IsClosed [] = Unit {0}
IsClosed (t ∷ ts) = (t.token ≡ end_token → ts ≡ []) × IsClosed ts

closed_follow : (follow rest : Tokens) → (follow ≡ rest) ⊎ (follow ≡ []) → IsClosed rest → IsClosed follow
closed_follow follow rest (inl e) closed = subst IsClosed (sym e) closed
closed_follow follow rest (inr e) closed = subst IsClosed (sym e) tt

closed_head : (whole : Tokens) (k : Token) (rest : Tokens) → Headed whole k rest → IsClosed rest → IsClosed whole
closed_head whole k rest h closed = subst IsClosed (sym h.is) (h.last, closed_follow h.follow rest h.others closed)

closed_from : (wide : Bool) (n : ℕ) (p : Place) (bs : List ℕ) → IsClosed (tokens_in_from wide n p bs)
unfolding tokens_in_from
closed_from wide zero p bs = tt
closed_from wide (suc n) p bs =
    let a = skip false p bs in
    let s = scan_in wide a.bytes in
    let rest = tokens_in_from wide n (after a.place s.taken) s.left in
    closed_head (headed a.place s s.token rest) s.token rest (headed_as a.place s s.token rest) (closed_from wide n (after a.place s.taken) s.left)

pub closed_tokens : (wide : Bool) (bytes : List ℕ) → IsClosed (tokens_in wide bytes)
closed_tokens wide bytes = closed_from wide (suc (length bytes)) start bytes
