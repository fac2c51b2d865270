-- The tests of tokens, and what they say.
use Rattle.std.proofs.Common.{◌≡◌, ◌⊎◌, inl, inr, ◌≤◌, ℕ, zero, suc, Bool, true, false, List, [], refl, ap, ◌∙◌, sym, subst, Ok, Err, Result, arith, nat_le, ◌==◌, length}
use Rattle.lrp_model.specs.declared.tokens.Symbol.{Symbol}
use Rattle.lrp_model.specs.declared.tokens.Symbol.TheVariants.{Open, Close, OpenBrace, CloseBrace, Comma, Colon, Semicolon, Bar, Plus, Minus, Le, Ge, Lt, Gt, Equals, Star, Differs}
use Rattle.lrp_model.specs.declared.tokens.Word.{Word}
use Rattle.lrp_model.specs.declared.tokens.Word.TheVariants.{Relation, Where, Time, Data, Letter, Exists, Forall, Not, And, Or, Implies, In}
use Rattle.lrp_model.specs.declared.tokens.Place.{Place}
use Rattle.lrp_model.specs.declared.tokens.Fault.{Fault}
use Rattle.lrp_model.specs.declared.tokens.Fault.TheVariants.{Syntax, Number, TextTooLong, Period}
use Rattle.lrp_model.specs.Tokens.{Token, Placed, Part, IsPart}
use Rattle.lrp_model.specs.Tokens.Token.{name_token, word_token, number_token, text_token, symbol_token, end_token}
use Rattle.lrp_model.specs.Tokens.Part.{at, any}
use Rattle.lrp_text.specs.Taking.{same_symbol, same_word, is_symbol_token, is_symbol, is_word_token, is_word, is_end_token, is_end, required, name_of, number_of, limited, text_of, short_enough, period_of, limited_period, IsWrittenPeriod, with_place}
use Rattle.lrp_model.specs.Lexing.{start}
use Rattle.lrp_model.specs.Limits.{greatest_number}
use Rattle.std.proofs.lemmas.Bool.{leb-true, le-leb, eqb-true}
use borrow.Author.Tests.{leb-false}
use Rattle.lrp_model.specs.Refused.{IsCause}
use Rattle.std.proofs.Math.Dec.{eqb-suc-zero}
use Rattle.lrp_text.proofs.Complete.{Tells}
use Rattle.lrp_text.proofs.Viable.{TestStops}

-- symbols that are found the same are
same_symbol_is : (s t : Symbol) → same_symbol s t ≡ true → s ≡ t
same_symbol_is Open Open e = refl
same_symbol_is Close Close e = refl
same_symbol_is OpenBrace OpenBrace e = refl
same_symbol_is CloseBrace CloseBrace e = refl
same_symbol_is Comma Comma e = refl
same_symbol_is Colon Colon e = refl
same_symbol_is Semicolon Semicolon e = refl
same_symbol_is Bar Bar e = refl
same_symbol_is Plus Plus e = refl
same_symbol_is Minus Minus e = refl
same_symbol_is Le Le e = refl
same_symbol_is Ge Ge e = refl
same_symbol_is Lt Lt e = refl
same_symbol_is Gt Gt e = refl
same_symbol_is Equals Equals e = refl
same_symbol_is Star Star e = refl
same_symbol_is Differs Differs e = refl
same_symbol_is _ _ e = absurd cc

-- a symbol is found the same as itself
same_symbol_refl : (s : Symbol) → same_symbol s s ≡ true
same_symbol_refl Open = refl
same_symbol_refl Close = refl
same_symbol_refl OpenBrace = refl
same_symbol_refl CloseBrace = refl
same_symbol_refl Comma = refl
same_symbol_refl Colon = refl
same_symbol_refl Semicolon = refl
same_symbol_refl Bar = refl
same_symbol_refl Plus = refl
same_symbol_refl Minus = refl
same_symbol_refl Le = refl
same_symbol_refl Ge = refl
same_symbol_refl Lt = refl
same_symbol_refl Gt = refl
same_symbol_refl Equals = refl
same_symbol_refl Star = refl
same_symbol_refl Differs = refl

-- words that are found the same are
same_word_is : (s t : Word) → same_word s t ≡ true → s ≡ t
same_word_is Relation Relation e = refl
same_word_is Where Where e = refl
same_word_is Time Time e = refl
same_word_is Data Data e = refl
same_word_is Letter Letter e = refl
same_word_is Exists Exists e = refl
same_word_is Forall Forall e = refl
same_word_is Not Not e = refl
same_word_is And And e = refl
same_word_is Or Or e = refl
same_word_is Implies Implies e = refl
same_word_is In In e = refl
same_word_is _ _ e = absurd cc

-- a word is found the same as itself
same_word_refl : (s : Word) → same_word s s ≡ true
same_word_refl Relation = refl
same_word_refl Where = refl
same_word_refl Time = refl
same_word_refl Data = refl
same_word_refl Letter = refl
same_word_refl Exists = refl
same_word_refl Forall = refl
same_word_refl Not = refl
same_word_refl And = refl
same_word_refl Or = refl
same_word_refl Implies = refl
same_word_refl In = refl

-- a token that is found to be a symbol is it
symbol_is : (s : Symbol) (k : Token) → is_symbol_token s k ≡ true → k ≡ symbol_token s
symbol_is s (symbol_token t) e = ap symbol_token (same_symbol_is t s e)
symbol_is s _ e = absurd cc

-- the same of a token with its place
pub symbol_told : (s : Symbol) (t : Placed) → is_symbol s t ≡ true → IsPart (any (symbol_token s)) t
symbol_told s t e = symbol_is s t.token e

-- a symbol is found
pub symbol_seen : (s : Symbol) (t : Placed) → t.token ≡ symbol_token s → is_symbol s t ≡ true
symbol_seen s t e = ap (is_symbol_token s) e ∙ same_symbol_refl s

-- a token that is found to be a reserved word is it
word_is : (w : Word) (k : Token) → is_word_token w k ≡ true → k ≡ word_token w
word_is w (word_token t) e = ap word_token (same_word_is t w e)
word_is w _ e = absurd cc

-- the same of a token with its place
pub word_told : (w : Word) (t : Placed) → is_word w t ≡ true → IsPart (any (word_token w)) t
word_told w t e = word_is w t.token e

-- a reserved word is found
pub word_seen : (w : Word) (t : Placed) → t.token ≡ word_token w → is_word w t ≡ true
word_seen w t e = ap (is_word_token w) e ∙ same_word_refl w

-- what was required holds
required_is : (b : Bool) (u : Unit {0}) → required b ≡ Ok u → b ≡ true
required_is true u e = refl
required_is false u e = absurd cc

-- what is required fails for its syntax alone
required_err : (b : Bool) (k : Fault) → required b ≡ Err k → k ≡ Syntax
required_err true k e = absurd cc
required_err false k e = cc

-- an expected symbol stood there
pub expect_told : (s : Symbol) (t : Placed) (u : Unit {0}) → required (is_symbol s t) ≡ Ok u → IsPart (any (symbol_token s)) t
expect_told s t u e = symbol_told s t (required_is (is_symbol s t) u e)

-- a symbol that stands there is taken
pub expect_seen : (s : Symbol) (t : Placed) → IsPart (any (symbol_token s)) t → required (is_symbol s t) ≡ Ok tt
expect_seen s t h = ap required (symbol_seen s t h)

-- a symbol stops for its syntax alone
pub expect_stops : (s : Symbol) → TestStops (λ t. required (is_symbol s t)) (λ u. any (symbol_token s)) (λ u. Unit {0})
expect_stops s = record { token = record { token = symbol_token s; place = start }; value = tt; fits = tt; is = refl; fault = λ t k e. inl (required_err (is_symbol s t) k e) }

-- an expected word stood there
pub word_expected : (w : Word) (t : Placed) (u : Unit {0}) → required (is_word w t) ≡ Ok u → IsPart (any (word_token w)) t
word_expected w t u e = word_told w t (required_is (is_word w t) u e)

-- a word that stands there is taken
pub word_required : (w : Word) (t : Placed) → IsPart (any (word_token w)) t → required (is_word w t) ≡ Ok tt
word_required w t h = ap required (word_seen w t h)

-- a word stops for its syntax alone
pub word_stops : (w : Word) → TestStops (λ t. required (is_word w t)) (λ u. any (word_token w)) (λ u. Unit {0})
word_stops w = record { token = record { token = word_token w; place = start }; value = tt; fits = tt; is = refl; fault = λ t k e. inl (required_err (is_word w t) k e) }

-- a token that is found to be the end is it
end_is : (k : Token) → is_end_token k ≡ true → k ≡ end_token
end_is end_token e = refl
end_is _ e = absurd cc

-- a test for the end tells it
pub end_told : (t : Placed) → is_end t ≡ true → IsPart (any end_token) t
end_told t e = end_is t.token e

-- and the end is told
pub end_seen : (t : Placed) → t.token ≡ end_token → is_end t ≡ true
end_seen t e = ap is_end_token e

-- an expected end stood there
pub end_expected : (t : Placed) (u : Unit {0}) → required (is_end t) ≡ Ok u → IsPart (any end_token) t
end_expected t u e = end_told t (required_is (is_end t) u e)

-- an end that stands there is taken
pub end_required : (t : Placed) → IsPart (any end_token) t → required (is_end t) ≡ Ok tt
end_required t h = ap required (end_seen t h)

-- the end stops for its syntax alone
pub end_stops : TestStops (λ t. required (is_end t)) (λ u. any end_token) (λ u. Unit {0})
end_stops = record { token = record { token = end_token; place = start }; value = tt; fits = tt; is = refl; fault = λ t k e. inl (required_err (is_end t) k e) }

-- a token with its place
pub placed_is : {A : Type 0} (r : Result A Fault) (p : Place) (q : A × Place) → with_place p r ≡ Ok q → (r ≡ Ok q.0) × (p ≡ q.1)
placed_is (Ok a) p q e = let h : (a, p) ≡ q = cc in (ap (λ x. Ok x.0) h, ap (λ x. x.1) h)
placed_is (Err k) p q e = absurd cc

-- a fault of a token is the fault of its value
pub placed_err : {A : Type 0} (r : Result A Fault) (p : Place) (k : Fault) → with_place p r ≡ Err k → r ≡ Err k
placed_err (Ok a) p k e = absurd cc
placed_err (Err x) p k e = let h : x ≡ k = cc in ap Err h

-- what a name was read from
name_is : (k : Token) (n : List ℕ) → name_of k ≡ Ok n → k ≡ name_token n
name_is (name_token m) n e = let h : m ≡ n = cc in ap name_token h
name_is _ n e = absurd cc

-- a token that is no name is a syntax fault
name_err : (t : Token) (k : Fault) → name_of t ≡ Err k → k ≡ Syntax
name_err (name_token m) k e = absurd cc
name_err _ k e = cc

-- the part that a name with its place is
abbrev pub name_part : List ℕ × Place → Part
name_part q = at q.1 (name_token q.0)

-- a name that was read, with its place
pub name_told : (t : Placed) (q : List ℕ × Place) → with_place t.place (name_of t.token) ≡ Ok q → IsPart (name_part q) t
name_told t q e = let k = placed_is (name_of t.token) t.place q e in (name_is t.token q.0 k.0, k.1)

-- a name that stands there is taken
pub name_seen : (q : List ℕ × Place) (t : Placed) → IsPart (name_part q) t → with_place t.place (name_of t.token) ≡ Ok q
name_seen q t h = rw (h.0, h.1) refl

-- a name stops for its syntax alone
pub name_stops : TestStops (λ t. with_place t.place (name_of t.token)) name_part (λ q. Unit {0})
name_stops = record { token = record { token = name_token []; place = start }; value = ([], start); fits = tt; is = (refl, refl); fault = λ t k e. inl (name_err t.token k (placed_err (name_of t.token) t.place k e)) }

-- numbers up to the limit, and their fault
limited_is : (n : ℕ) (k : Fault) (b : Bool) (m : ℕ) → limited n k b ≡ Ok m → (n ≡ m) × (b ≡ true)
limited_is n k true m e = let h : n ≡ m = cc in (h, refl)
limited_is n k false m e = absurd cc

-- what a number was read from
number_is : (k : Token) (n : ℕ) → number_of k ≡ Ok n → (k ≡ number_token n) × (n ≤ greatest_number)
number_is (number_token m) n e =
    let h = limited_is m Number (nat_le m 4611686018427387904) n e in
    (ap number_token h.0, subst (λ x. x ≤ greatest_number) h.0 (leb-true m 4611686018427387904 h.1))
number_is _ n e = absurd cc

-- the part that a number is
abbrev pub number_part : ℕ → Part
number_part n = any (number_token n)

-- a number that was read stood there
pub number_told : (t : Placed) (n : ℕ) → number_of t.token ≡ Ok n → IsPart (number_part n) t
number_told t n e = (number_is t.token n e).0

-- and is at most the limit
pub number_fits : (t : Placed) (n : ℕ) → number_of t.token ≡ Ok n → n ≤ greatest_number
number_fits t n e = (number_is t.token n e).1

-- a number above the limit is the cause of its fault
limited_err : (n : ℕ) (b : Bool) (k : Fault) → nat_le n 4611686018427387904 ≡ b → limited n Number b ≡ Err k → IsCause k (number_token n)
limited_err n true k told e = absurd cc
limited_err n false k told e = let h : Number ≡ k = cc in subst (λ x. IsCause x (number_token n)) h (leb-false n 4611686018427387904 told)

-- a number fails for its syntax, or for its size
number_err : (t : Token) (k : Fault) → number_of t ≡ Err k → (k ≡ Syntax) ⊎ ((n : ℕ) × (t ≡ number_token n) × IsCause k t)
number_err (number_token m) k e = inr (m, refl, limited_err m (nat_le m 4611686018427387904) k refl e)
number_err _ k e = inl cc

-- a number stops for its syntax or its size
pub number_stops : TestStops (λ t. number_of t.token) number_part (λ n. n ≤ greatest_number)
number_stops = record { token = record { token = number_token 1; place = start }; value = 1; fits = omega arith; is = refl; fault = λ t k e. number_err t.token k e }

-- a number within the limit is told
limited_tells : (n : ℕ) (b : Bool) (L : Type 0) → (L → b ≡ true) → Tells (limited n Number b) n L
limited_tells n true L f = inl refl
limited_tells n false L f = inr ((λ l. let h : false ≡ true = f l in absurd cc), Number, refl, (λ e. absurd cc))

-- a number that stands there is taken where it is lawful
pub number_tells : (t : Placed) (n : ℕ) (L : Type 0) → (L → n ≤ greatest_number) → t.token ≡ number_token n → Tells (number_of t.token) n L
number_tells t n L f e = subst (λ x. Tells (number_of x) n L) (sym e) (limited_tells n (nat_le n 4611686018427387904) L (λ l. le-leb n 4611686018427387904 (f l)))

-- periods
counted_is : (n : ℕ) (b : Bool) (m : ℕ) → limited_period n b ≡ Ok m → (b ≡ false) × (number_of (number_token n) ≡ Ok m)
counted_is n true m e = absurd cc
counted_is n false m e = (refl, e)

-- a number that is found not to be 0
not_zero : (n : ℕ) → (n == 0) ≡ false → 1 ≤ n
not_zero zero e = absurd cc
not_zero (suc n) e = omega arith

-- what a period was read from
period_is : (k : Token) (n : ℕ) → period_of k ≡ Ok n → (k ≡ number_token n) × IsWrittenPeriod n
period_is (number_token m) n e =
    let h = counted_is m (m == 0) n e in
    let k = number_is (number_token m) n h.1 in
    let same : m ≡ n = cc in
    (k.0, (subst (λ x. 1 ≤ x) same (not_zero m h.0), k.1))
period_is _ n e = absurd cc

-- a period that was read stood there
pub period_told : (t : Placed) (n : ℕ) → period_of t.token ≡ Ok n → IsPart (number_part n) t
period_told t n e = (period_is t.token n e).0

-- and is lawful
pub period_fits : (t : Placed) (n : ℕ) → period_of t.token ≡ Ok n → IsWrittenPeriod n
period_fits t n e = (period_is t.token n e).1

-- a period of 0 or above the limit is the cause of its fault
counted_err : (n : ℕ) (b : Bool) (k : Fault) → (n == 0) ≡ b → limited_period n b ≡ Err k → IsCause k (number_token n)
counted_err n true k told e = let h : Period ≡ k = cc in subst (λ x. IsCause x (number_token n)) h (eqb-true n 0 told)
counted_err n false k told e = limited_err n (nat_le n 4611686018427387904) k refl e

-- a period fails for its syntax, or for what it is
period_err : (t : Token) (k : Fault) → period_of t ≡ Err k → (k ≡ Syntax) ⊎ ((n : ℕ) × (t ≡ number_token n) × IsCause k t)
period_err (number_token m) k e = inr (m, refl, counted_err m (m == 0) k refl e)
period_err _ k e = inl cc

-- a period stops for its syntax or for what it is
pub period_stops : TestStops (λ t. period_of t.token) number_part IsWrittenPeriod
period_stops = record { token = record { token = number_token 1; place = start }; value = 1; fits = (omega arith, omega arith); is = refl; fault = λ t k e. period_err t.token k e }

-- a lawful period is told
counted_tells : (n : ℕ) (b : Bool) (L : Type 0) → (L → b ≡ false) → (L → n ≤ greatest_number) → Tells (limited_period n b) n L
counted_tells n true L f g = inr ((λ l. let h : true ≡ false = f l in absurd cc), Period, refl, (λ e. absurd cc))
counted_tells n false L f g = limited_tells n (nat_le n 4611686018427387904) L (λ l. le-leb n 4611686018427387904 (g l))

-- a number from 1 on is found not to be 0
is_not_zero : (n : ℕ) → 1 ≤ n → (n == 0) ≡ false
is_not_zero zero h = absurd (omega arith)
is_not_zero (suc n) h = eqb-suc-zero n

-- a period that stands there is taken where it is lawful
pub period_tells : (t : Placed) (n : ℕ) (L : Type 0) → (L → IsWrittenPeriod n) → t.token ≡ number_token n → Tells (period_of t.token) n L
period_tells t n L f e = subst (λ x. Tells (period_of x) n L) (sym e) (counted_tells n (n == 0) L (λ l. is_not_zero n (f l).0) (λ l. (f l).1))

-- texts
short_is : (t : List ℕ) (b : Bool) (u : List ℕ) → short_enough t b ≡ Ok u → (t ≡ u) × (b ≡ true)
short_is t true u e = let h : t ≡ u = cc in (h, refl)
short_is t false u e = absurd cc

-- what a text was read from
text_is : (k : Token) (u : List ℕ) → text_of k ≡ Ok u → (k ≡ text_token u) × (length u ≤ 255)
text_is (text_token t) u e =
    let h = short_is t (nat_le (length t) 255) u e in
    (ap text_token h.0, subst (λ x. length x ≤ 255) h.0 (leb-true (length t) 255 h.1))
text_is _ u e = absurd cc

-- the part that a text is
abbrev pub text_part : List ℕ → Part
text_part t = any (text_token t)

-- a text that was read stood there
pub text_told : (t : Placed) (u : List ℕ) → text_of t.token ≡ Ok u → IsPart (text_part u) t
text_told t u e = (text_is t.token u e).0

-- and has at most 255 bytes
pub text_fits : (t : Placed) (u : List ℕ) → text_of t.token ≡ Ok u → length u ≤ 255
text_fits t u e = (text_is t.token u e).1

-- a long text is the cause of its fault
short_err : (t : List ℕ) (b : Bool) (k : Fault) → nat_le (length t) 255 ≡ b → short_enough t b ≡ Err k → IsCause k (text_token t)
short_err t true k told e = absurd cc
short_err t false k told e = let h : TextTooLong ≡ k = cc in subst (λ x. IsCause x (text_token t)) h (leb-false (length t) 255 told)

-- a text fails for its syntax, or for its length
text_err : (t : Token) (k : Fault) → text_of t ≡ Err k → (k ≡ Syntax) ⊎ ((u : List ℕ) × (t ≡ text_token u) × IsCause k t)
text_err (text_token u) k e = inr (u, refl, short_err u (nat_le (length u) 255) k refl e)
text_err _ k e = inl cc

-- a text stops for its syntax or its length
pub text_stops : TestStops (λ t. text_of t.token) text_part (λ u. length u ≤ 255)
text_stops = record { token = record { token = text_token []; place = start }; value = []; fits = omega arith; is = refl; fault = λ t k e. text_err t.token k e }

-- a text that is short enough is told
short_tells : (t : List ℕ) (b : Bool) (L : Type 0) → (L → b ≡ true) → Tells (short_enough t b) t L
short_tells t true L f = inl refl
short_tells t false L f = inr ((λ l. let h : false ≡ true = f l in absurd cc), TextTooLong, refl, (λ e. absurd cc))

-- a text that stands there is taken where it is lawful
pub text_tells : (t : Placed) (u : List ℕ) (L : Type 0) → (L → length u ≤ 255) → t.token ≡ text_token u → Tells (text_of t.token) u L
text_tells t u L f e = subst (λ x. Tells (text_of x) u L) (sym e) (short_tells u (nat_le (length u) 255) L (λ l. le-leb (length u) 255 (f l)))
