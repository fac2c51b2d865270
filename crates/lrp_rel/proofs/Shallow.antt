-- No rule of databases refuses for depth.
use Rattle.std.proofs.Common.{◌≡◌, ℕ, zero, suc, Bool, true, false, List, [], ◌∷◌, ◌++◌, ap, sym, subst, inl, inr, Ok, Err, Result, if◌then◌else◌, nat_le, length, ◌==◌}
use Rattle.lrp_model.specs.declared.tokens.Symbol.TheVariants.{Open, Close, OpenBrace, CloseBrace, Comma, Colon, Semicolon, Plus, Minus, Le, Ge, Equals}
use Rattle.lrp_model.specs.declared.tokens.Word.TheVariants.{Relation, Where, Time, Data, Letter}
use Rattle.lrp_model.specs.declared.tokens.Place.{Place}
use Rattle.lrp_model.specs.declared.tokens.Fault.{Fault}
use Rattle.lrp_model.specs.declared.tokens.Fault.TheVariants.{Syntax, Number, TextTooLong, Period, Deep}
use Rattle.lrp_model.specs.Tokens.{Token, Placed, Tokens}
use Rattle.lrp_model.specs.Tokens.Token.{name_token, word_token, number_token, text_token, symbol_token}
use Rattle.lrp_text.specs.Parsers.{Parser, ◌>>=◌, pure, fail, accept, taken, look, eat, listed, separated_from, until_from}
use Rattle.lrp_text.specs.Taking.{is_symbol, is_word, is_text, is_name, is_end, required, expect, expect_word, expect_end, name, name_of, with_place, number, number_of, limited, period, period_of, limited_period, text, text_of, short_enough, located, here}
use Rattle.lrp_text.specs.ColumnRule.{sort, sort_of, column}
use Rattle.lrp_text.proofs.Viable.{bind_err, eat_err, look_err}
use Rattle.lrp_text.specs.IntegerRule.{integer}
use Rattle.lrp_text.specs.OffsetRule.{offset}
use Rattle.lrp_rel.specs.Rules.{label, numeric, bare_value, value, named_side, side, bound_op_of, bound, bounds, row, relation, database}

-- the parser has no fault of this kind
abbrev pub Shallow : {A : Type 0} → Parser A → Type 0
Shallow p = (ts us : Tokens) → p ts ≡ Err (Deep, us) → ⊥

-- the test has no fault of this kind
abbrev NotDeep : {A : Type 0} → Result A Fault → Type 0
NotDeep r = r ≡ Err Deep → ⊥

-- the kind of a fault
abbrev kind_of : {A : Type 0} → Result A (Fault × Tokens) → Fault
kind_of (Ok a) = Syntax
kind_of (Err e) = e.0

-- which kind is that of depth
abbrev IsDeep : Fault → Type 0
IsDeep Deep = Unit {0}
IsDeep _ = ⊥

-- a kind that is that of depth
deep : (k : Fault) → k ≡ Deep → IsDeep k
deep k e = subst IsDeep (sym e) tt

-- reading nothing has no fault
pub pure_shallow : {A : Type 0} (a : A) → Shallow (pure a)
pure_shallow a ts us e = deep Syntax (ap kind_of e)

-- a syntax fault is none of depth
fail_shallow : {A : Type 0} → Shallow (fail {A = A} Syntax)
fail_shallow ts us e = deep Syntax (ap kind_of e)

-- one parser after the other
pub bind_shallow : {A B : Type 0} (p : Parser A) (f : A → Parser B) → Shallow p → ((a : A) → Shallow (f a)) → Shallow (p >>= f)
bind_shallow p f one two ts us e = elim (bind_err (p ts) f (Deep, us) e) [
  | inl d ↦ one ts us d
  | inr a ↦ two a.0.0 a.0.1 us a.2
]

-- one of two parsers
pub if_shallow : {A : Type 0} (b : Bool) (p q : Parser A) → Shallow p → Shallow q → Shallow (if b then p else q)
if_shallow true p q one two = one
if_shallow false p q one two = two

-- looking has no fault
look_shallow : {A : Type 0} (none : A) (test : Placed → A) → Shallow (look none test)
look_shallow none test ts us e = look_err none test ts (Deep, us) e

-- eating has no fault
pub eat_shallow : (test : Placed → Bool) → Shallow (eat test)
eat_shallow test ts us e = eat_err test ts (Deep, us) e

-- a token whose test has no fault of depth
taken_deep : {A : Type 0} (r : Result A Fault) (t : Placed) (ts us : Tokens) → NotDeep r → taken r t ts ≡ Err (Deep, us) → ⊥
taken_deep (Ok a) t ts us n e = deep Syntax (ap kind_of e)
taken_deep (Err k) t ts us n e = let h : k ≡ Deep = ap kind_of e in n (ap Err h)

-- taking a token
accept_shallow : {A : Type 0} (test : Placed → Result A Fault) → ((t : Placed) → NotDeep (test t)) → Shallow (accept test)
unfolding accept
accept_shallow test n [] us e = deep Syntax (ap kind_of e)
accept_shallow test n (t ∷ ts) us e = taken_deep (test t) t ts us (n t) e

-- a list with separators
separated_shallow : {A : Type 0} (p : Parser A) (comma : Placed → Bool) → Shallow p → (n : ℕ) (found : List A) → Shallow (separated_from p comma n found)
unfolding separated_from
separated_shallow p comma one zero found = fail_shallow
separated_shallow p comma one (suc n) found =
    bind_shallow p _ one (λ a. bind_shallow (eat comma) _ (eat_shallow comma) (λ more. if_shallow more _ _ (separated_shallow p comma one n (found ++ a ∷ [])) (pure_shallow _)))

-- a list up to a token that ends it
pub until_shallow : {A : Type 0} (p : Parser A) (stop : Placed → Bool) → Shallow p → (n : ℕ) (found : List A) → Shallow (until_from p stop n found)
unfolding until_from
until_shallow p stop one zero found = fail_shallow
until_shallow p stop one (suc n) found =
    bind_shallow (look false stop) _ (look_shallow false stop) (λ stops. if_shallow stops _ _ (pure_shallow found) (bind_shallow p _ one (λ a. until_shallow p stop one n (found ++ a ∷ []))))

-- a list with separators that may be empty
listed_shallow : {A : Type 0} (p : Parser A) (comma stop : Placed → Bool) → Shallow p → (n : ℕ) → Shallow (listed p comma stop n)
unfolding listed
listed_shallow p comma stop one n =
    bind_shallow (look false stop) _ (look_shallow false stop) (λ none. if_shallow none _ _ (pure_shallow []) (separated_shallow p comma one n []))

-- a thing with its place
pub located_shallow : {A : Type 0} (p : Parser A) → Shallow p → Shallow (located p)
located_shallow p one = bind_shallow here _ (look_shallow _ _) (λ place. bind_shallow p _ one (λ item. pure_shallow _))

-- ---- the tests of tokens

-- the kind of a test's fault
abbrev fault_of : {A : Type 0} → Result A Fault → Fault
fault_of (Ok a) = Syntax
fault_of (Err k) = k

-- what a test requires
required_shallow : (b : Bool) → NotDeep (required b)
required_shallow true e = deep Syntax (ap fault_of e)
required_shallow false e = deep Syntax (ap fault_of e)

-- a value with its place
placed_shallow : {A : Type 0} (p : Place) (r : Result A Fault) → NotDeep r → NotDeep (with_place p r)
placed_shallow p (Ok a) n e = deep Syntax (ap fault_of e)
placed_shallow p (Err k) n e = let h : k ≡ Deep = ap fault_of e in n (ap Err h)

-- a name
name_shallow : (k : Token) → NotDeep (name_of k)
name_shallow (name_token n) e = deep Syntax (ap fault_of e)
name_shallow _ e = deep Syntax (ap fault_of e)

-- a number within its limit
limited_shallow : (n : ℕ) (b : Bool) → NotDeep (limited n Number b)
limited_shallow n true e = deep Syntax (ap fault_of e)
limited_shallow n false e = deep Number (ap fault_of e)

-- a number
number_shallow : (k : Token) → NotDeep (number_of k)
number_shallow (number_token n) e = limited_shallow n (nat_le n 4611686018427387904) e
number_shallow _ e = deep Syntax (ap fault_of e)

-- a number that is not 0
counted_shallow : (n : ℕ) (b : Bool) → NotDeep (limited_period n b)
counted_shallow n true e = deep Period (ap fault_of e)
counted_shallow n false e = limited_shallow n (nat_le n 4611686018427387904) e

-- a period
period_shallow : (k : Token) → NotDeep (period_of k)
period_shallow (number_token n) e = counted_shallow n (n == 0) e
period_shallow _ e = deep Syntax (ap fault_of e)

-- a text that is not too long
short_shallow : (t : List ℕ) (b : Bool) → NotDeep (short_enough t b)
short_shallow t true e = deep Syntax (ap fault_of e)
short_shallow t false e = deep TextTooLong (ap fault_of e)

-- a text
text_shallow : (k : Token) → NotDeep (text_of k)
text_shallow (text_token t) e = short_shallow t (nat_le (length t) 255) e
text_shallow _ e = deep Syntax (ap fault_of e)

-- a comparison
op_shallow : (k : Token) → NotDeep (bound_op_of k)
op_shallow (symbol_token Le) e = deep Syntax (ap fault_of e)
op_shallow (symbol_token Ge) e = deep Syntax (ap fault_of e)
op_shallow (symbol_token Equals) e = deep Syntax (ap fault_of e)
op_shallow _ e = deep Syntax (ap fault_of e)

-- a sort
sort_shallow : (k : Token) → NotDeep (sort_of k)
sort_shallow (word_token Time) e = deep Syntax (ap fault_of e)
sort_shallow (word_token Data) e = deep Syntax (ap fault_of e)
sort_shallow (name_token n) e = deep Syntax (ap fault_of e)
sort_shallow _ e = deep Syntax (ap fault_of e)

-- ---- the rules

-- a token that is required
pub expects : (test : Placed → Bool) → Shallow (accept (λ t. required (test t)))
expects test = accept_shallow _ (λ t. required_shallow (test t))

-- taking a number
numbers : Shallow number
numbers = accept_shallow _ (λ t. number_shallow t.token)

-- taking a name
names : Shallow name
names = accept_shallow _ (λ t. placed_shallow t.place (name_of t.token) (name_shallow t.token))

-- a name with its place is not refused for depth
pub label_shallow : Shallow label
unfolding label
label_shallow = bind_shallow name _ names (λ n. pure_shallow _)

-- an integer is not refused for depth
integer_shallow : Shallow integer
unfolding integer
integer_shallow = bind_shallow (eat (is_symbol Minus)) _ (eat_shallow _) (λ negative. bind_shallow number _ numbers (λ n. pure_shallow _))

-- an instant or a point is not refused for depth
numeric_shallow : Shallow numeric
unfolding numeric
numeric_shallow =
    bind_shallow integer _ integer_shallow (λ i.
    bind_shallow (eat (is_symbol Plus)) _ (eat_shallow _) (λ more.
    if_shallow more _ _
    (bind_shallow period _ (accept_shallow _ (λ t. period_shallow t.token)) (λ k. bind_shallow (expect_word Letter) _ (expects (is_word Letter)) (λ u. pure_shallow _)))
    (pure_shallow _)))

-- a value is not refused for depth
bare_value_shallow : Shallow bare_value
unfolding bare_value
bare_value_shallow =
    bind_shallow (look false is_text) _ (look_shallow _ _) (λ quoted.
    if_shallow quoted _ _ (bind_shallow text _ (accept_shallow _ (λ t. text_shallow t.token)) (λ t. pure_shallow _)) numeric_shallow)

-- an offset is not refused for depth
offset_shallow : Shallow offset
unfolding offset
offset_shallow =
    bind_shallow (eat (is_symbol Plus)) _ (eat_shallow _) (λ up.
    if_shallow up _ _ (bind_shallow number _ numbers (λ k. pure_shallow _))
    (bind_shallow (eat (is_symbol Minus)) _ (eat_shallow _) (λ down.
    if_shallow down _ _ (bind_shallow number _ numbers (λ k. pure_shallow _)) (pure_shallow _))))

-- a side that names a column is not refused for depth
named_side_shallow : Shallow named_side
unfolding named_side
named_side_shallow = bind_shallow label _ label_shallow (λ n. bind_shallow offset _ offset_shallow (λ o. pure_shallow _))

-- a side is not refused for depth
side_shallow : Shallow side
unfolding side
side_shallow =
    bind_shallow (look false is_name) _ (look_shallow _ _) (λ named.
    if_shallow named _ _ named_side_shallow (bind_shallow integer _ integer_shallow (λ i. pure_shallow _)))

-- a bound is not refused for depth
bound_shallow : Shallow bound
unfolding bound
bound_shallow =
    bind_shallow label _ label_shallow (λ n.
    bind_shallow (accept (λ t. bound_op_of t.token)) _ (accept_shallow _ (λ t. op_shallow t.token)) (λ op.
    bind_shallow side _ side_shallow (λ s. pure_shallow _)))

-- the bounds of a row is not refused for depth
bounds_shallow : (n : ℕ) → Shallow (bounds n)
unfolding bounds
bounds_shallow n =
    bind_shallow (eat (is_word Where)) _ (eat_shallow _) (λ some.
    if_shallow some _ _ (separated_shallow bound _ bound_shallow n []) (pure_shallow _))

-- a row is not refused for depth
pub row_shallow : (n : ℕ) → Shallow (row n)
unfolding row
row_shallow n =
    bind_shallow (expect Open) _ (expects (is_symbol Open)) (λ u.
    bind_shallow (listed value (is_symbol Comma) (is_symbol Close) n) _ (listed_shallow value _ _ (located_shallow bare_value bare_value_shallow) n) (λ vs.
    bind_shallow (expect Close) _ (expects (is_symbol Close)) (λ v.
    bind_shallow (bounds n) _ (bounds_shallow n) (λ bs.
    bind_shallow (expect Semicolon) _ (expects (is_symbol Semicolon)) (λ w. pure_shallow _)))))

-- a column is not refused for depth
column_shallow : Shallow column
unfolding column
column_shallow =
    bind_shallow name _ names (λ n.
    bind_shallow (expect Colon) _ (expects (is_symbol Colon)) (λ u.
    bind_shallow sort _ (accept_shallow _ (λ t. placed_shallow t.place (sort_of t.token) (sort_shallow t.token))) (λ s. pure_shallow _)))

-- a relation is not refused for depth
relation_shallow : (n : ℕ) → Shallow (relation n)
unfolding relation
relation_shallow n =
    bind_shallow (expect_word Relation) _ (expects (is_word Relation)) (λ u.
    bind_shallow label _ label_shallow (λ who.
    bind_shallow (expect Open) _ (expects (is_symbol Open)) (λ v.
    bind_shallow (listed column (is_symbol Comma) (is_symbol Close) n) _ (listed_shallow column _ _ column_shallow n) (λ cs.
    bind_shallow (expect Close) _ (expects (is_symbol Close)) (λ w.
    bind_shallow (expect OpenBrace) _ (expects (is_symbol OpenBrace)) (λ x.
    bind_shallow (until_from (located (row n)) (is_symbol CloseBrace) n []) _ (until_shallow _ _ (located_shallow (row n) (row_shallow n)) n []) (λ rows.
    bind_shallow (expect CloseBrace) _ (expects (is_symbol CloseBrace)) (λ y. pure_shallow _))))))))

-- a database is not refused for depth
pub database_shallow : (n : ℕ) → Shallow (database n)
unfolding database
database_shallow n =
    bind_shallow (until_from (relation n) is_end n []) _ (until_shallow _ _ (relation_shallow n) n []) (λ rs.
    bind_shallow expect_end _ (expects (is_end)) (λ u. pure_shallow _))
