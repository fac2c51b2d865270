-- What the next token is told by its lexeme, and what is read where it is taken.
use Rattle.std.proofs.Common.{◌≡◌, ◌<◌, ◌≤◌, ℕ, Bool, true, false, ◌&&◌, List, [], ◌∷◌, refl, ap, ap₂, ◌∙◌, sym, subst, Ok, Err, Result, nat_le, ◌==◌, if◌then◌else◌, length, arith}
use Rattle.std.specs.Str.{bytes_eq}
use Rattle.std.proofs.lemmas.Bool.{le-leb, leb-true, eqb-true}
use Rattle.lrp_model.specs.declared.tokens.Symbol.{Symbol as SymbolOf}
use Rattle.lrp_model.specs.declared.tokens.Word.{Word as WordOf}
use Rattle.lrp_model.specs.declared.tokens.Place.{Place}
use Rattle.lrp_model.specs.declared.tokens.Fault.{Fault}
use Rattle.lrp_model.specs.declared.tokens.Fault.TheVariants.{Syntax, TextTooLong, Number as TooLarge, Period, Deep, Memory}
use Rattle.lrp_model.specs.Tokens.{Token, Placed, Tokens}
use Rattle.lrp_model.specs.Tokens.Token.{name_token, word_token, number_token, text_token, symbol_token, end_token, bad_token, hole_token}
use Rattle.lrp_model.specs.Lexing.{start, scan}
use Rattle.lrp_model.specs.Limits.{greatest_number}
use Rattle.lrp_model.specs.declared.relations.Sort.{Sort}
use Rattle.lrp_model.specs.declared.tokens.Word.TheVariants.{Time, Data}
use Rattle.lrp_text.specs.Parsers.{ParseOutcome, accept, taken, look, eat, eaten, Reads, IsResultOrMemory}
use Rattle.lrp_text.specs.ColumnRule.{sort_of, sort, word_sort, shown_sort}
use Rattle.lrp_text.specs.Taking.{is_symbol_token, is_word_token, is_name_token, is_named_token, is_text_token, is_end_token, required, name_of, number_of, limited, period_of, limited_period, text_of, short_enough, with_place, name, number, period, text, expect_end}
use Rattle.lrp_text.specs.declared.lexemes.Lexeme.{Lexeme}
use Rattle.lrp_text.specs.declared.lexemes.Lexeme.TheVariants.{Name, Word, Number, LargeNumber, Text, LongText, Symbol, End, Bad}
use Rattle.lrp_text.specs.Lexemes.{IsSaid, shows_symbol, shows_word, shows_name, shows_text, shows_end, shown_number, shown_period}
use Rattle.lrp_text.specs.Sources.{Stands, HasTokensAfter, IsInnerToken}

-- a test says of each token what is shown of the lexeme of a slice
pub record IsShown {A : Type 0} (test : Token → A) (slice : List ℕ) (shown : Lexeme → A) : Type 0 where
  pub name : test (name_token slice) ≡ shown Name
  pub word : (w : WordOf) → test (word_token w) ≡ shown (Word w)
  pub number : (n : ℕ) → n ≤ greatest_number → test (number_token n) ≡ shown (Number n)
  pub large : (n : ℕ) → greatest_number < n → test (number_token n) ≡ shown LargeNumber
  pub text : (t : List ℕ) → test (text_token t) ≡ shown Text
  pub long : (t : List ℕ) → test (text_token t) ≡ shown LongText
  pub symbol : (s : SymbolOf) → test (symbol_token s) ≡ shown (Symbol s)
  pub ended : test end_token ≡ shown End
  pub bad : test bad_token ≡ shown Bad

-- so a token is told by its lexeme
pub said : {A : Type 0} (test : Token → A) (slice : List ℕ) (shown : Lexeme → A) → IsShown test slice shown → (l : Lexeme) (k : Token) → IsSaid l slice k → test k ≡ shown l
said test slice shown is Name k e = ap test e ∙ is.name
said test slice shown is (Word w) k e = ap test e ∙ is.word w
said test slice shown is (Number n) k e = ap test e.0 ∙ is.number n e.1
said test slice shown is LargeNumber k e = ap test e.1 ∙ is.large e.0 e.2
said test slice shown is Text k e = ap test e.1 ∙ is.text e.0
said test slice shown is LongText k e = ap test e.1 ∙ is.long e.0
said test slice shown is (Symbol s) k e = ap test e ∙ is.symbol s
said test slice shown is End k e = ap test e ∙ is.ended
said test slice shown is Bad k e = ap test e ∙ is.bad

symbol_shown : (s : SymbolOf) (slice : List ℕ) → IsShown (is_symbol_token s) slice (shows_symbol s)
symbol_shown s slice = record { name = refl; word = λ _. refl; number = λ _ _. refl; large = λ _ _. refl; text = λ _. refl; long = λ _. refl; symbol = λ _. refl; ended = refl; bad = refl }

word_shown : (w : WordOf) (slice : List ℕ) → IsShown (is_word_token w) slice (shows_word w)
word_shown w slice = record { name = refl; word = λ _. refl; number = λ _ _. refl; large = λ _ _. refl; text = λ _. refl; long = λ _. refl; symbol = λ _. refl; ended = refl; bad = refl }

name_shown : (slice : List ℕ) → IsShown is_name_token slice shows_name
name_shown slice = record { name = refl; word = λ _. refl; number = λ _ _. refl; large = λ _ _. refl; text = λ _. refl; long = λ _. refl; symbol = λ _. refl; ended = refl; bad = refl }

named_shown : (word slice : List ℕ) → IsShown (is_named_token word) slice (λ l. shows_name l && bytes_eq slice word)
named_shown word slice = record { name = refl; word = λ _. refl; number = λ _ _. refl; large = λ _ _. refl; text = λ _. refl; long = λ _. refl; symbol = λ _. refl; ended = refl; bad = refl }

text_shown : (slice : List ℕ) → IsShown is_text_token slice shows_text
text_shown slice = record { name = refl; word = λ _. refl; number = λ _ _. refl; large = λ _ _. refl; text = λ _. refl; long = λ _. refl; symbol = λ _. refl; ended = refl; bad = refl }

end_shown : (slice : List ℕ) → IsShown is_end_token slice shows_end
end_shown slice = record { name = refl; word = λ _. refl; number = λ _ _. refl; large = λ _ _. refl; text = λ _. refl; long = λ _. refl; symbol = λ _. refl; ended = refl; bad = refl }

-- a number that is found at most the limit or not
above_at : (n : ℕ) (b : Bool) → nat_le n 4611686018427387904 ≡ b → greatest_number < n → b ≡ false
above_at n true e h = let k : n ≤ 4611686018427387904 = leb-true n 4611686018427387904 e in absurd (omega arith)
above_at n false e h = refl

-- a number above the limit
above : (n : ℕ) → greatest_number < n → nat_le n 4611686018427387904 ≡ false
above n h = above_at n (nat_le n 4611686018427387904) refl h

number_shown : (slice : List ℕ) → IsShown number_of slice shown_number
number_shown slice = record { name = refl; word = λ _. refl; number = λ n h. ap (limited n TooLarge) (le-leb n 4611686018427387904 h); large = λ n h. ap (limited n TooLarge) (above n h); text = λ _. refl; long = λ _. refl; symbol = λ _. refl; ended = refl; bad = refl }

-- a period within the limit, and one above it
counted_low : (n : ℕ) (b : Bool) → n ≤ greatest_number → limited_period n b ≡ (if b then Err Period else Ok n)
counted_low n true h = refl
counted_low n false h = ap (limited n TooLarge) (le-leb n 4611686018427387904 h)

-- a number above the limit is no period
counted_high : (n : ℕ) (b : Bool) → (n == 0) ≡ b → greatest_number < n → limited_period n b ≡ Err TooLarge
counted_high n true e h = let z : n ≡ 0 = eqb-true n 0 e in absurd (omega arith)
counted_high n false e h = ap (limited n TooLarge) (above n h)

period_shown : (slice : List ℕ) → IsShown period_of slice shown_period
period_shown slice = record { name = refl; word = λ _. refl; number = λ n h. counted_low n (n == 0) h; large = λ n h. counted_high n (n == 0) refl h; text = λ _. refl; long = λ _. refl; symbol = λ _. refl; ended = refl; bad = refl }

-- what is seen of the next token is what a test says of it
pub look_shown : {A : Type 0} (none : A) (test : Token → A) (ts : Tokens) (l : Lexeme) (slice : List ℕ) (place : Place) (st : Stands ts l slice place) (a : A) → test st.token ≡ a → look none (λ t. test t.token) ts ≡ Ok (a, ts)
unfolding look
look_shown none test ts l slice place st a e = ap (look none (λ t. test t.token)) st.whole ∙ ap (λ x. Ok (test st.token, x)) (sym st.whole) ∙ ap (λ x. Ok (x, ts)) e

-- whether a symbol is seen
pub look_symbol : (s : SymbolOf) (ts : Tokens) (l : Lexeme) (slice : List ℕ) (place : Place) → Stands ts l slice place → look false (λ t. is_symbol_token s t.token) ts ≡ Ok (shows_symbol s l, ts)
look_symbol s ts l slice place st = look_shown false (is_symbol_token s) ts l slice place st (shows_symbol s l) (said (is_symbol_token s) slice (shows_symbol s) (symbol_shown s slice) l st.token st.said)

-- whether a reserved word is seen
pub look_word : (w : WordOf) (ts : Tokens) (l : Lexeme) (slice : List ℕ) (place : Place) → Stands ts l slice place → look false (λ t. is_word_token w t.token) ts ≡ Ok (shows_word w l, ts)
look_word w ts l slice place st = look_shown false (is_word_token w) ts l slice place st (shows_word w l) (said (is_word_token w) slice (shows_word w) (word_shown w slice) l st.token st.said)

-- whether a name is seen
pub look_name : (ts : Tokens) (l : Lexeme) (slice : List ℕ) (place : Place) → Stands ts l slice place → look false (λ t. is_name_token t.token) ts ≡ Ok (shows_name l, ts)
look_name ts l slice place st = look_shown false is_name_token ts l slice place st (shows_name l) (said is_name_token slice shows_name (name_shown slice) l st.token st.said)

-- whether this name is seen
pub look_named : (word : List ℕ) (ts : Tokens) (l : Lexeme) (slice : List ℕ) (place : Place) (name same : Bool) → Stands ts l slice place → shows_name l ≡ name → bytes_eq slice word ≡ same → look false (λ t. is_named_token word t.token) ts ≡ Ok (name && same, ts)
look_named word ts l slice place name same st e f = look_shown false (is_named_token word) ts l slice place st (name && same) (said (is_named_token word) slice (λ k. shows_name k && bytes_eq slice word) (named_shown word slice) l st.token st.said ∙ ap₂ (λ a b. a && b) e f)

-- whether a text is seen
pub look_text : (ts : Tokens) (l : Lexeme) (slice : List ℕ) (place : Place) → Stands ts l slice place → look false (λ t. is_text_token t.token) ts ≡ Ok (shows_text l, ts)
look_text ts l slice place st = look_shown false is_text_token ts l slice place st (shows_text l) (said is_text_token slice shows_text (text_shown slice) l st.token st.said)

-- whether the end is seen
pub look_end : (ts : Tokens) (l : Lexeme) (slice : List ℕ) (place : Place) → Stands ts l slice place → look false (λ t. is_end_token t.token) ts ≡ Ok (shows_end l, ts)
look_end ts l slice place st = look_shown false is_end_token ts l slice place st (shows_end l) (said is_end_token slice shows_end (end_shown slice) l st.token st.said)

-- the place of the next token
pub look_place : (ts : Tokens) (l : Lexeme) (slice : List ℕ) (place : Place) → Stands ts l slice place → look start (λ t. t.place) ts ≡ Ok (place, ts)
unfolding look
look_place ts l slice place st = ap (look start (λ t. t.place)) st.whole ∙ ap (λ x. Ok (place, x)) (sym st.whole)

-- a token of a test goes on, where the end and a bad byte are none of it
goes_on : (test : Token → Bool) (k : Token) → test end_token ≡ false → test bad_token ≡ false → test k ≡ true → HasTokensAfter k
goes_on test (name_token n) e b h = tt
goes_on test (word_token w) e b h = tt
goes_on test (number_token n) e b h = tt
goes_on test (text_token t) e b h = tt
goes_on test (symbol_token y) e b h = tt
goes_on test hole_token e b h = tt
goes_on test end_token e b h = absurd cc
goes_on test bad_token e b h = absurd cc

-- whether others follow a lexeme
abbrev pub goes : Lexeme → Bool
goes End = false
goes Bad = false
goes _ = true

-- what a lexeme says goes on
said_goes : (l : Lexeme) (slice : List ℕ) (k : Token) → goes l ≡ true → IsSaid l slice k → HasTokensAfter k
said_goes Name slice k g e = subst HasTokensAfter (sym e) tt
said_goes (Word w) slice k g e = subst HasTokensAfter (sym e) tt
said_goes (Number n) slice k g e = subst HasTokensAfter (sym e.0) tt
said_goes LargeNumber slice k g e = subst HasTokensAfter (sym e.1) tt
said_goes Text slice k g e = subst HasTokensAfter (sym e.1) tt
said_goes LongText slice k g e = subst HasTokensAfter (sym e.1) tt
said_goes (Symbol y) slice k g e = subst HasTokensAfter (sym e) tt
said_goes End slice k g e = absurd cc
said_goes Bad slice k g e = absurd cc

-- where a lexeme stands that others follow, a cursor may advance
pub goes_shown : (ts : Tokens) (l : Lexeme) (slice : List ℕ) (place : Place) → Stands ts l slice place → goes l ≡ true → IsInnerToken ts
goes_shown ts l slice place st g = subst IsInnerToken (sym st.whole) (said_goes l slice st.token g st.said)

-- what is seen goes on
pub goes_seen : (test : Token → Bool) (ts us : Tokens) (r : Bool) → test end_token ≡ false → test bad_token ≡ false → look false (λ t. test t.token) ts ≡ Ok (r, us) → r ≡ true → IsInnerToken ts
unfolding look
goes_seen test [] us r e b h is =
    let p : ◌≡◌ {A = Bool × Tokens} (false, []) (r, us) = cc in
    let q : false ≡ true = ap (λ x. x.0) p ∙ is in
    absurd cc
goes_seen test (t ∷ ts) us r e b h is =
    let p : ◌≡◌ {A = Bool × Tokens} (test t.token, t ∷ ts) (r, us) = cc in
    let k : test t.token ≡ r = ap (λ x. x.0) p in
    goes_on test t.token e b (k ∙ is)

-- what is seen is eaten
pub eats_seen : (test : Placed → Bool) (ts us vs : Tokens) (r : Bool) (t : Placed) → look false test ts ≡ Ok (r, vs) → r ≡ true → ts ≡ t ∷ us → eat test ts ≡ Ok (true, us)
unfolding look eat
eats_seen test [] us vs r t h is w = absurd cc
eats_seen test (x ∷ ts) us vs r t h is w =
    let p : ◌≡◌ {A = Bool × Tokens} (test x, x ∷ ts) (r, vs) = cc in
    let k : test x ≡ r = ap (λ y. y.0) p in
    let same : ts ≡ us = cc in
    ap (λ b. eaten b x ts) (k ∙ is) ∙ ap (λ y. Ok (true, y)) same

-- what is not seen is not eaten
pub eats_unseen : (test : Placed → Bool) (ts vs : Tokens) (r : Bool) → look false test ts ≡ Ok (r, vs) → r ≡ false → eat test ts ≡ Ok (false, ts)
unfolding look eat
eats_unseen test [] vs r h is = refl
eats_unseen test (x ∷ ts) vs r h is =
    let p : ◌≡◌ {A = Bool × Tokens} (test x, x ∷ ts) (r, vs) = cc in
    let k : test x ≡ r = ap (λ y. y.0) p in
    ap (λ b. eaten b x ts) (k ∙ is)

-- what is eaten was expected
expected_at : (test : Placed → Bool) (t : Placed) (ts us : Tokens) (b r : Bool) → test t ≡ b → eaten b t ts ≡ Ok (r, us) → r ≡ true → taken (required b) t ts ≡ Ok (tt, us)
expected_at test t ts us true r e h is = let p : ◌≡◌ {A = Bool × Tokens} (true, ts) (r, us) = cc in ap (λ x. Ok (tt, x.1)) p
expected_at test t ts us false r e h is =
    let p : ◌≡◌ {A = Bool × Tokens} (false, t ∷ ts) (r, us) = cc in
    let q : false ≡ true = ap (λ x. x.0) p ∙ is in
    absurd cc

-- the same of all tokens
pub expects_eaten : (test : Placed → Bool) (ts us : Tokens) (r : Bool) → eat test ts ≡ Ok (r, us) → r ≡ true → accept (λ t. required (test t)) ts ≡ Ok (tt, us)
unfolding eat accept
expects_eaten test [] us r h is =
    let p : ◌≡◌ {A = Bool × Tokens} (false, []) (r, us) = cc in
    let q : false ≡ true = ap (λ x. x.0) p ∙ is in
    absurd cc
expects_eaten test (t ∷ ts) us r h is = expected_at test t ts us (test t) r refl h is

-- what is not eaten was not there
missed_at : (test : Placed → Bool) (t : Placed) (ts us : Tokens) (b r : Bool) → test t ≡ b → eaten b t ts ≡ Ok (r, us) → r ≡ false → taken (required b) t ts ≡ Err (Syntax, us)
missed_at test t ts us true r e h is =
    let p : ◌≡◌ {A = Bool × Tokens} (true, ts) (r, us) = cc in
    let q : true ≡ false = ap (λ x. x.0) p ∙ is in
    absurd cc
missed_at test t ts us false r e h is = let p : ◌≡◌ {A = Bool × Tokens} (false, t ∷ ts) (r, us) = cc in ap (λ x. Err (Syntax, x.1)) p

-- the same of all tokens
pub expects_missed : (test : Placed → Bool) (ts us : Tokens) (r : Bool) → eat test ts ≡ Ok (r, us) → r ≡ false → accept (λ t. required (test t)) ts ≡ Err (Syntax, us)
unfolding eat accept
expects_missed test [] us r h is = let p : ◌≡◌ {A = Bool × Tokens} (false, []) (r, us) = cc in ap (λ x. Err (Syntax, x.1)) p
expects_missed test (t ∷ ts) us r h is = missed_at test t ts us (test t) r refl h is

-- what is seen was expected, and what is not seen was not
pub expects_seen : (test : Placed → Bool) (ts us vs : Tokens) (r : Bool) (t : Placed) → look false test ts ≡ Ok (r, vs) → r ≡ true → ts ≡ t ∷ us → accept (λ x. required (test x)) ts ≡ Ok (tt, us)
expects_seen test ts us vs r t h is w = expects_eaten test ts us true (eats_seen test ts us vs r t h is w) refl

pub expects_unseen : (test : Placed → Bool) (ts vs : Tokens) (r : Bool) → look false test ts ≡ Ok (r, vs) → r ≡ false → accept (λ x. required (test x)) ts ≡ Err (Syntax, ts)
expects_unseen test ts vs r h is = expects_missed test ts ts false (eats_unseen test ts vs r h is) refl

-- a value that the next token gives is taken
pub accepts_next : {A : Type 0} (test : Placed → Result A Fault) (ts us : Tokens) (t u : Placed) (left : Tokens) (a : A) → ts ≡ t ∷ left → ts ≡ u ∷ us → test t ≡ Ok a → accept test ts ≡ Ok (a, us)
unfolding accept
accepts_next test ts us t u left a w v e =
    let same : left ≡ us = cc in
    ap (accept test) w ∙ ap (λ r. taken r t left) e ∙ ap (λ x. Ok (a, x)) same

-- a fault of the next token stands there
pub refuses_next : {A : Type 0} (test : Placed → Result A Fault) (ts : Tokens) (t : Placed) (left : Tokens) (k : Fault) → ts ≡ t ∷ left → test t ≡ Err k → accept test ts ≡ Err (k, ts)
unfolding accept
refuses_next test ts t left k w e = ap (accept test) w ∙ ap (λ r. taken r t left) e ∙ ap (λ x. Err (k, x)) (sym w)

-- a fault, and the tokens from it on
reads_fault : {A : Type 0} (o : ParseOutcome A) (k : Fault) (ts : Tokens) → o ≡ Err (k, ts) → Reads o (Err k) ts
reads_fault o Memory ts e = tt
reads_fault o Syntax ts e = e
reads_fault o TooLarge ts e = e
reads_fault o TextTooLong ts e = e
reads_fault o Period ts e = e
reads_fault o Deep ts e = e

-- a number is taken
pub number_read : (ts us : Tokens) (l : Lexeme) (slice : List ℕ) (place : Place) (u : Placed) (n : ℕ) → Stands ts l slice place → shown_number l ≡ Ok n → ts ≡ u ∷ us → number ts ≡ Ok (n, us)
number_read ts us l slice place u n st e w = accepts_next (λ t. number_of t.token) ts us (record { token = st.token; place = place }) u st.left n st.whole w (said number_of slice shown_number (number_shown slice) l st.token st.said ∙ e)

-- or it is refused
pub number_refused : (ts : Tokens) (l : Lexeme) (slice : List ℕ) (place : Place) (k : Fault) → Stands ts l slice place → shown_number l ≡ Err k → Reads (number ts) (Err k) ts
number_refused ts l slice place k st e = reads_fault (number ts) k ts (refuses_next (λ t. number_of t.token) ts (record { token = st.token; place = place }) st.left k st.whole (said number_of slice shown_number (number_shown slice) l st.token st.said ∙ e))

-- a period is taken
pub period_read : (ts us : Tokens) (l : Lexeme) (slice : List ℕ) (place : Place) (u : Placed) (n : ℕ) → Stands ts l slice place → shown_period l ≡ Ok n → ts ≡ u ∷ us → period ts ≡ Ok (n, us)
period_read ts us l slice place u n st e w = accepts_next (λ t. period_of t.token) ts us (record { token = st.token; place = place }) u st.left n st.whole w (said period_of slice shown_period (period_shown slice) l st.token st.said ∙ e)

-- or it is refused
pub period_refused : (ts : Tokens) (l : Lexeme) (slice : List ℕ) (place : Place) (k : Fault) → Stands ts l slice place → shown_period l ≡ Err k → Reads (period ts) (Err k) ts
period_refused ts l slice place k st e = reads_fault (period ts) k ts (refuses_next (λ t. period_of t.token) ts (record { token = st.token; place = place }) st.left k st.whole (said period_of slice shown_period (period_shown slice) l st.token st.said ∙ e))

-- the name of a token that is one
named : (l : Lexeme) (slice : List ℕ) (k : Token) → shows_name l ≡ true → IsSaid l slice k → name_of k ≡ Ok slice
named Name slice k e s = ap name_of s
named _ slice k e s = absurd cc

-- no other token is one
unnamed : (l : Lexeme) (slice : List ℕ) (k : Token) → shows_name l ≡ false → IsSaid l slice k → name_of k ≡ Err Syntax
unnamed Name slice k e s = absurd cc
unnamed (Word v) slice k e s = ap name_of s
unnamed (Number n) slice k e s = ap name_of s.0
unnamed LargeNumber slice k e s = ap name_of s.1
unnamed Text slice k e s = ap name_of s.1
unnamed LongText slice k e s = ap name_of s.1
unnamed (Symbol y) slice k e s = ap name_of s
unnamed End slice k e s = ap name_of s
unnamed Bad slice k e s = ap name_of s

-- a name is taken
pub name_read : (ts us : Tokens) (l : Lexeme) (slice : List ℕ) (place : Place) (u : Placed) → Stands ts l slice place → shows_name l ≡ true → ts ≡ u ∷ us → name ts ≡ Ok ((slice, place), us)
name_read ts us l slice place u st e w = accepts_next (λ t. with_place t.place (name_of t.token)) ts us (record { token = st.token; place = place }) u st.left (slice, place) st.whole w (ap (with_place place) (named l slice st.token e st.said))

-- or what stands there is refused
pub name_refused : (ts : Tokens) (l : Lexeme) (slice : List ℕ) (place : Place) → Stands ts l slice place → shows_name l ≡ false → name ts ≡ Err (Syntax, ts)
name_refused ts l slice place st e = refuses_next (λ t. with_place t.place (name_of t.token)) ts (record { token = st.token; place = place }) st.left Syntax st.whole (ap (with_place place) (unnamed l slice st.token e st.said))

-- the text that a slice is, of at most 255 bytes
short_text : (slice t : List ℕ) (k : Token) → k ≡ text_token t → length t ≤ 255 → text_of k ≡ Ok t
short_text slice t k e short = ap text_of e ∙ ap (short_enough t) (le-leb (length t) 255 short)

-- a longer one
long_at : (n : ℕ) (b : Bool) → nat_le n 255 ≡ b → 255 < n → b ≡ false
long_at n true e h = let k : n ≤ 255 = leb-true n 255 e in absurd (omega arith)
long_at n false e h = refl

-- such a text is refused
long_text : (t : List ℕ) (k : Token) → k ≡ text_token t → 255 < length t → text_of k ≡ Err TextTooLong
long_text t k e long = ap text_of e ∙ ap (short_enough t) (long_at (length t) (nat_le (length t) 255) refl long)

-- a text is taken, as its slice says it
pub text_read : (ts us : Tokens) (slice : List ℕ) (place : Place) (u : Placed) (made : List ℕ) → Stands ts Text slice place → (scan slice).token ≡ text_token made → ts ≡ u ∷ us → text ts ≡ Ok (made, us)
text_read ts us slice place u made st e w =
    let t = st.said.0 in
    let both : text_token t ≡ text_token made = sym (st.text t st.said.1) ∙ e in
    let same : t ≡ made = cc in
    accepts_next (λ x. text_of x.token) ts us (record { token = st.token; place = place }) u st.left made st.whole w (short_text slice t st.token st.said.1 st.said.2 ∙ ap Ok same)

-- a text that is too long is refused
pub text_too_long : (ts : Tokens) (slice : List ℕ) (place : Place) → Stands ts LongText slice place → text ts ≡ Err (TextTooLong, ts)
text_too_long ts slice place st = refuses_next (λ x. text_of x.token) ts (record { token = st.token; place = place }) st.left TextTooLong st.whole (long_text st.said.0 st.token st.said.1 st.said.2)

-- no other token is a text
untexted : (l : Lexeme) (slice : List ℕ) (k : Token) → (l ≡ Text → ⊥) → (l ≡ LongText → ⊥) → IsSaid l slice k → text_of k ≡ Err Syntax
untexted Name slice k a b s = ap text_of s
untexted (Word v) slice k a b s = ap text_of s
untexted (Number n) slice k a b s = ap text_of s.0
untexted LargeNumber slice k a b s = ap text_of s.1
untexted Text slice k a b s = absurd (a refl)
untexted LongText slice k a b s = absurd (b refl)
untexted (Symbol y) slice k a b s = ap text_of s
untexted End slice k a b s = ap text_of s
untexted Bad slice k a b s = ap text_of s

-- or what stands there is refused
pub text_refused : (ts : Tokens) (l : Lexeme) (slice : List ℕ) (place : Place) → (l ≡ Text → ⊥) → (l ≡ LongText → ⊥) → Stands ts l slice place → text ts ≡ Err (Syntax, ts)
text_refused ts l slice place a b st = refuses_next (λ x. text_of x.token) ts (record { token = st.token; place = place }) st.left Syntax st.whole (untexted l slice st.token a b st.said)

-- the token of an end
ended_token : (l : Lexeme) (slice : List ℕ) (k : Token) → shows_end l ≡ true → IsSaid l slice k → k ≡ end_token
ended_token End slice k e s = s
ended_token _ slice k e s = absurd cc

-- the end is taken, and nothing is left
pub end_read : (ts : Tokens) (l : Lexeme) (slice : List ℕ) (place : Place) → Stands ts l slice place → shows_end l ≡ true → expect_end ts ≡ Ok (tt, [])
end_read ts l slice place st e =
    let k : st.token ≡ end_token = ended_token l slice st.token e st.said in
    let w : ts ≡ record { token = st.token; place = place } ∷ [] = st.whole ∙ ap (λ us. record { token = st.token; place = place } ∷ us) (st.last k) in
    accepts_next (λ t. required (is_end_token t.token)) ts [] (record { token = st.token; place = place }) (record { token = st.token; place = place }) st.left tt st.whole w (ap required (ap is_end_token k))

-- or what stands before it is refused
pub end_refused : (ts : Tokens) (l : Lexeme) (slice : List ℕ) (place : Place) → Stands ts l slice place → shows_end l ≡ false → expect_end ts ≡ Err (Syntax, ts)
end_refused ts l slice place st e = refuses_next (λ t. required (is_end_token t.token)) ts (record { token = st.token; place = place }) st.left Syntax st.whole (ap required (said is_end_token slice shows_end (end_shown slice) l st.token st.said ∙ e))

-- the sort that a reserved word stands for
sort_word : (w : WordOf) → sort_of (word_token w) ≡ word_sort w
sort_word Time = refl
sort_word Data = refl
sort_word _ = refl

-- a sort is told by its lexeme
sort_shown : (slice : List ℕ) → IsShown sort_of slice (λ l. shown_sort l slice)
sort_shown slice = record { name = refl; word = sort_word; number = λ _ _. refl; large = λ _ _. refl; text = λ _. refl; long = λ _. refl; symbol = λ _. refl; ended = refl; bad = refl }

-- neither the end nor a bad byte is a sort
sort_going : (l : Lexeme) (slice : List ℕ) (a : Sort) → shown_sort l slice ≡ Ok a → goes l ≡ true
sort_going End slice a e = absurd cc
sort_going Bad slice a e = absurd cc
sort_going _ slice a e = refl

-- a sort goes on
pub sort_goes : (ts : Tokens) (l : Lexeme) (slice : List ℕ) (place : Place) (a : Sort) → Stands ts l slice place → shown_sort l slice ≡ Ok a → IsInnerToken ts
sort_goes ts l slice place a st e = goes_shown ts l slice place st (sort_going l slice a e)

-- a sort is taken
pub sort_read : (ts us : Tokens) (l : Lexeme) (slice : List ℕ) (place : Place) (u : Placed) (a : Sort) → Stands ts l slice place → shown_sort l slice ≡ Ok a → ts ≡ u ∷ us → sort ts ≡ Ok ((a, place), us)
sort_read ts us l slice place u a st e w = accepts_next (λ t. with_place t.place (sort_of t.token)) ts us (record { token = st.token; place = place }) u st.left (a, place) st.whole w (ap (with_place place) (said sort_of slice (λ k. shown_sort k slice) (sort_shown slice) l st.token st.said ∙ e))

-- or what stands there is refused
pub sort_refused : (ts : Tokens) (l : Lexeme) (slice : List ℕ) (place : Place) (k : Fault) → Stands ts l slice place → IsResultOrMemory (shown_sort l slice) (Err k) → Reads (sort ts) (Err k) ts
sort_refused ts l slice place Memory st e = tt
sort_refused ts l slice place k st e = reads_fault (sort ts) k ts (refuses_next (λ t. with_place t.place (sort_of t.token)) ts (record { token = st.token; place = place }) st.left k st.whole (ap (with_place place) (said sort_of slice (λ k. shown_sort k slice) (sort_shown slice) l st.token st.said ∙ e)))
