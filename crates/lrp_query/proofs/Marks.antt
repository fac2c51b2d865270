-- A reader that marks the token where a formula would be too deep: no hole stands before a mark, and it would mark each token there.
use Rattle.std.proofs.Common.{◌≡◌, ℕ, zero, suc, Bool, true, false, List, [], ◌∷◌, ◌++◌, refl, ap, sym, ◌∙◌, subst, Ok, Err, Result, if◌then◌else◌, append_assoc, nat_le, ◌==◌}
use Rattle.std.specs.List.{AllByRecursion}
use Rattle.std.proofs.lemmas.List.{append_cancel_right}
use Rattle.lrp_model.specs.Texts.{Identifier}
use Rattle.lrp_model.specs.declared.tokens.Symbol.{Symbol}
use Rattle.lrp_model.specs.declared.tokens.Symbol.TheVariants.{Open, Close, OpenBrace, CloseBrace, Comma, Colon, Bar, Plus, Minus, Le as le_sign, Ge as ge_sign, Lt as lt_sign, Gt as gt_sign, Equals}
use Rattle.lrp_model.specs.declared.tokens.Word.{Word}
use Rattle.lrp_model.specs.declared.tokens.Word.TheVariants.{Letter, Exists, Forall, Not, And, Or, Implies, In, Time, Data}
use Rattle.lrp_model.specs.declared.tokens.Place.{Place}
use Rattle.lrp_model.specs.declared.tokens.Fault.{Fault}
use Rattle.lrp_model.specs.declared.tokens.Fault.TheVariants.{Syntax, Number, Deep, Memory}
use Rattle.lrp_model.specs.declared.written.Integer.{Integer}
use Rattle.lrp_model.specs.Lexing.{start}
use Rattle.lrp_model.specs.Tokens.{Token, Placed, Tokens}
use Rattle.lrp_model.specs.Tokens.Token.{name_token, word_token, number_token, text_token, symbol_token, end_token}
use Rattle.lrp_model.specs.Refused.{Fitting}
use Rattle.lrp_text.specs.Parsers.{ParseOutcome, Parser, and_then, ◌>>=◌, pure, fail, accept, taken, look, eat, eaten, listed, separated_from}
use Rattle.lrp_text.specs.Taking.{same_symbol, same_word, is_symbol, is_symbol_token, is_word, is_word_token, required, expect, expect_word, name, name_of, with_place, number, number_of, limited, period_of, limited_period, text_of, short_enough, is_text, is_name, is_end, is_end_token, here}
use Rattle.lrp_text.specs.ColumnRule.{column, sort_of}
use Rattle.lrp_text.proofs.Local.{Local, IsLocal, left_of, onto, listed_local, separated_local}
use Rattle.lrp_text.proofs.Viable.{always}
use Rattle.lrp_text.proofs.TokenTests.{symbol_told, word_told}
use Rattle.lrp_text.proofs.ColumnRule.{column_local}
use Rattle.lrp_query.specs.declared.starts.Start.{Start}
use Rattle.lrp_query.specs.declared.starts.Start.TheVariants.{Not as by_not, Exists as by_exists, Forall as by_forall, Open as by_open, Name as by_name, Term as by_term}
use Rattle.lrp_text.specs.IntegerRule.{integer}
use Rattle.lrp_text.specs.OffsetRule.{unmoved, moved_by, offset}
use Rattle.lrp_query.specs.Rules.{Trees, AfterName, named_term, unnamed_term, bare_term, term, op_of, point, comparing, tested, atom_terms, after_name, named, unnamed, negated, existing, holding, implying, conjoined, disjoined, after_first, enclosed, start_of, is_hole_token, started, formula_over, formula_with, query_with, query_over}
use Rattle.lrp_text.proofs.IntegerRule.{integer_local}
use Rattle.lrp_text.proofs.OffsetRule.{offset_local}
use Rattle.lrp_query.proofs.LocalRules.{named_term_local, unnamed_term_local, bare_term_local, term_local, formula_local}

-- trees of which nothing is kept, where each token is marked at which a formula would be too deep
abbrev pub marking : Trees (Unit {0}) (Unit {0}) (Unit {0}) (Unit {0})
marking = record {
  terms = record { kind_of = λ t. tt; term_at = λ p k. tt };
  formulas = record {
    atom_of = λ p n ts. tt;
    comparison = λ l op r. tt;
    difference = λ l r. tt;
    membership = λ l i k. tt;
    negation = λ p f. tt;
    conjunction = λ p fs. tt;
    disjunction = λ p fs. tt;
    implication = λ p f g. tt;
    parenthesis = λ p f. tt;
    existential = λ p c f. tt;
    universal = λ p c f. tt;
    place_of = λ f. start;
    at_place = λ p f. f;
  };
  cut = λ t. Err Memory;
  question = λ cs f. tt;
}

-- a fault of a token alone
abbrev pub IsPlain : Fault → Type 0
IsPlain Deep = ⊥
IsPlain Memory = ⊥
IsPlain _ = Unit {0}

-- none of the tokens is a hole
abbrev pub NoHoles : Tokens → Type 0
NoHoles = AllByRecursion (λ t. is_hole_token t.token ≡ false)

-- some tokens are taken, and no hole is among them
pub record Took (ts left : Tokens) : Type 0 where
  pub front : Tokens
  pub whole : ts ≡ front ++ left
  pub clean : NoHoles front

-- some token
abbrev pub NotEmpty : Tokens → Type 0
NotEmpty [] = ⊥
NotEmpty (t ∷ ts) = Unit {0}

-- why a reader fails: a fault of a token, a hole where none may be, or a mark, with the flag after some token
pub data Why {A : Type 0} (late : Bool) (p : Parser A) (ts : Tokens) (e : Fault × Tokens) : Type 0 where
  plain : IsPlain e.0 → Why late p ts e
  at_hole : (t : Placed) (us : Tokens) → e.0 ≡ Deep → e.1 ≡ t ∷ us → is_hole_token t.token ≡ true → Why late p ts e
  mark : (front : Tokens) → Fitting late (NotEmpty front) → ts ≡ front ++ e.1 → NoHoles front → e.0 ≡ Memory → ((b : Placed) (y : Tokens) → p (front ++ b ∷ y) ≡ Err (Memory, b ∷ y)) → Why late p ts e

-- what a reader tells by its outcome
abbrev pub Told : {A : Type 0} → Bool → Parser A → Tokens → ParseOutcome A → Type 0
Told late p ts (Ok q) = Took ts q.1
Told late p ts (Err e) = Why late p ts e

-- the same of all tokens
abbrev pub Tells : {A : Type 0} → Bool → Parser A → Type 0
Tells late p = (ts : Tokens) → Told late p ts (p ts)

-- ---- lists of tokens

-- no hole in either
holes_join : (xs ys : Tokens) → NoHoles xs → NoHoles ys → NoHoles (xs ++ ys)
holes_join [] ys a b = b
holes_join (x ∷ xs) ys a b = (a.0, holes_join xs ys a.1 b)

-- some token after others
joined_not_empty : (xs : Tokens) (c : Placed) (cs : Tokens) → NotEmpty (xs ++ c ∷ cs)
joined_not_empty [] c cs = tt
joined_not_empty (x ∷ xs) c cs = tt

-- tokens that were taken one after the other
took_join : (ts us vs : Tokens) → Took ts us → Took us vs → Took ts vs
took_join ts us vs a b = record { front = a.front ++ b.front; whole = a.whole ∙ ap (λ x. a.front ++ x) b.whole ∙ sym (append_assoc a.front b.front vs); clean = holes_join a.front b.front a.clean b.clean }

-- equal lists have equal heads
heads : (a b : Placed) (xs ys : Tokens) → a ∷ xs ≡ b ∷ ys → a ≡ b
heads a b xs ys e = cc

-- ---- readers one after the other

-- nothing is read
pure_told : {A : Type 0} (late : Bool) (a : A) → Tells late (pure a)
pure_told late a ts = record { front = []; whole = refl; clean = tt }

-- nothing is kept
pub done : (late : Bool) → Tells late (pure {A = Unit {0}} tt)
done late = pure_told {A = Unit {0}} late tt

-- a syntax fault
pub fail_told : {A : Type 0} (late : Bool) → Tells late (fail {A = A} Syntax)
fail_told late ts = plain tt

-- a mark after some token is a mark
why_sooner : {A : Type 0} (p : Parser A) (ts : Tokens) (e : Fault × Tokens) → Why true p ts e → Why false p ts e
why_sooner p ts e (plain k) = plain k
why_sooner p ts e (at_hole t us d w h) = at_hole t us d w h
why_sooner p ts e (mark front ne w clean k all) = mark front tt w clean k all

-- the same by the outcome
told_sooner : {A : Type 0} (p : Parser A) (ts : Tokens) (o : ParseOutcome A) → Told true p ts o → Told false p ts o
told_sooner p ts (Ok q) t = t
told_sooner p ts (Err e) w = why_sooner p ts e w

-- the same of all tokens, whatever the flag
pub sooner : {A : Type 0} (late : Bool) (p : Parser A) → Tells late p → Tells false p
sooner true p t ts = told_sooner p ts (p ts) (t ts)
sooner false p t ts = t ts

-- the same for a flag that is not set
as_late : {A : Type 0} (late : Bool) (p : Parser A) → Tells true p → Tells late p
as_late true p t = t
as_late false p t = sooner true p t

-- a reader that reads on from the first token as another does
same_first : {A : Type 0} (g h : Parser A) (t : Placed) (ts : Tokens) (o : ParseOutcome A) → ((us : Tokens) → h (t ∷ us) ≡ g (t ∷ us)) → Told true g (t ∷ ts) o → Told true h (t ∷ ts) o
same_first g h t ts (Ok q) same w = w
same_first g h t ts (Err e) same (plain k) = plain k
same_first g h t ts (Err e) same (at_hole u us d w k) = at_hole u us d w k
same_first g h t ts (Err e) same (mark [] ne w clean k all) = absurd ne
same_first g h t ts (Err e) same (mark (c ∷ cs) ne w clean k all) =
    let one : t ≡ c = heads t c ts (cs ++ e.1) w in
    mark (c ∷ cs) ne w clean k (λ b y. subst (λ x. h (x ∷ (cs ++ b ∷ y)) ≡ g (x ∷ (cs ++ b ∷ y))) one (same (cs ++ b ∷ y)) ∙ all b y)

-- the same where no token stands
empty_first : {A : Type 0} (g h : Parser A) (o : ParseOutcome A) → Told true g [] o → Told true h [] o
empty_first g h (Ok q) w = w
empty_first g h (Err e) (plain k) = plain k
empty_first g h (Err e) (at_hole u us d w k) = at_hole u us d w k
empty_first g h (Err e) (mark [] ne w clean k all) = absurd ne
empty_first g h (Err e) (mark (c ∷ cs) ne w clean k all) = absurd cc

-- a token in front of what another reader tells
after_token : {A : Type 0} (g h : Parser A) (t : Placed) (ts : Tokens) (o : ParseOutcome A) → is_hole_token t.token ≡ false → ((us : Tokens) → h (t ∷ us) ≡ g us) → Told false g ts o → Told true h (t ∷ ts) o
after_token g h t ts (Ok q) n same w = record { front = t ∷ w.front; whole = ap (λ x. t ∷ x) w.whole; clean = (n, w.clean) }
after_token g h t ts (Err e) n same (plain k) = plain k
after_token g h t ts (Err e) n same (at_hole u us d w k) = at_hole u us d w k
after_token g h t ts (Err e) n same (mark front ne w clean k all) = mark (t ∷ front) tt (ap (λ x. t ∷ x) w) (n, clean) k (λ b y. same (front ++ b ∷ y) ∙ all b y)

-- what the test of a token tells: it takes no hole, and has a fault of the token alone
abbrev pub LeafAt : {A : Type 0} → Token → Result A Fault → Type 0
LeafAt k (Ok a) = is_hole_token k ≡ false
LeafAt k (Err j) = IsPlain j

-- a token of a test, or its fault
accept_at : {A B : Type 0} (test : Placed → Result A Fault) (f : A → Parser B) → ((a : A) → Tells false (f a)) → (t : Placed) (ts : Tokens) (r : Result A Fault) → test t ≡ r → LeafAt t.token r → Told true (accept test >>= f) (t ∷ ts) (and_then (taken r t ts) f)
unfolding accept
accept_at test f next t ts (Ok a) is l = after_token (f a) (accept test >>= f) t ts (f a ts) l (λ us. ap (λ r. and_then (taken r t us) f) is) (next a ts)
accept_at test f next t ts (Err k) is l = plain l

-- after a token of a test
pub accept_then : {A B : Type 0} (test : Placed → Result A Fault) (f : A → Parser B) → ((t : Placed) → LeafAt t.token (test t)) → ((a : A) → Tells false (f a)) → Tells true (accept test >>= f)
unfolding accept
accept_then test f leaf next [] = plain tt
accept_then test f leaf next (t ∷ ts) = accept_at test f next t ts (test t) refl (leaf t)

-- a token that is eaten or not
eat_at : {B : Type 0} (test : Placed → Bool) (f : Bool → Parser B) → ((t : Placed) → test t ≡ true → is_hole_token t.token ≡ false) → Tells false (f true) → Tells true (f false) → (t : Placed) (ts : Tokens) (b : Bool) → test t ≡ b → Told true (eat test >>= f) (t ∷ ts) (and_then (eaten b t ts) f)
unfolding eat
eat_at test f clean some none t ts true is = after_token (f true) (eat test >>= f) t ts (f true ts) (clean t is) (λ us. ap (λ r. and_then (eaten r t us) f) is) (some ts)
eat_at test f clean some none t ts false is = same_first (f false) (eat test >>= f) t ts (f false (t ∷ ts)) (λ us. ap (λ r. and_then (eaten r t us) f) is) (none (t ∷ ts))

-- after a token that may be eaten
pub eat_then : {B : Type 0} (test : Placed → Bool) (f : Bool → Parser B) → ((t : Placed) → test t ≡ true → is_hole_token t.token ≡ false) → Tells false (f true) → Tells true (f false) → Tells true (eat test >>= f)
unfolding eat
eat_then test f clean some none [] = empty_first (f false) (eat test >>= f) (f false []) (none [])
eat_then test f clean some none (t ∷ ts) = eat_at test f clean some none t ts (test t) refl

-- after a token that is looked at
pub look_then : {A B : Type 0} (none : A) (test : Placed → A) (f : A → Parser B) → ((a : A) → Tells true (f a)) → Tells true (look none test >>= f)
unfolding look
look_then none test f next [] = empty_first (f none) (look none test >>= f) (f none []) (next none [])
look_then none test f next (t ∷ ts) = same_first (f (test t)) (look none test >>= f) t ts (f (test t) (t ∷ ts)) (λ us. refl) (next (test t) (t ∷ ts))

-- after what was read, a reader that marks no token at once
second_at : {A B : Type 0} (late : Bool) (p : Parser A) (f : A → Parser B) (ts : Tokens) (q : A × Tokens) → p ts ≡ Ok q → Took ts q.1 → IsLocal p ts → (o : ParseOutcome B) → Told true (f q.0) q.1 o → Told late (p >>= f) ts o
second_at late p f ts q is took l (Ok r) w = took_join ts q.1 r.1 took w
second_at late p f ts q is took l (Err e) (plain k) = plain k
second_at late p f ts q is took l (Err e) (at_hole t us d w k) = at_hole t us d w k
second_at late p f ts q is took l (Err e) (mark [] ne w clean k all) = absurd ne
second_at {A} late p f ts q is took l (Err e) (mark (c ∷ cs) ne w clean k all) =
    let o : l.outcome ≡ Ok q = sym l.is ∙ is in
    let same_front : l.front ≡ took.front = append_cancel_right l.front took.front q.1 (sym (l.whole ∙ ap (λ x. l.front ++ left_of x) o) ∙ took.whole) in
    let again : (x : Tokens) → p (took.front ++ c ∷ x) ≡ Ok (q.0, c ∷ x) = λ x. ap (λ y. p (y ++ c ∷ x)) (sym same_front) ∙ l.same c (cs ++ e.1) x (ap left_of o ∙ w) ∙ ap (λ y. onto y (c ∷ x)) o in
    mark (took.front ++ c ∷ cs) (always (NotEmpty (took.front ++ c ∷ cs)) late (joined_not_empty took.front c cs)) (took.whole ∙ ap (λ x. took.front ++ x) w ∙ sym (append_assoc took.front (c ∷ cs) e.1)) (holes_join took.front (c ∷ cs) took.clean clean) k
    (λ b y. ap (λ x. and_then (p x) f) (append_assoc took.front (c ∷ cs) (b ∷ y)) ∙ ap (λ x. and_then x f) (again (cs ++ b ∷ y)) ∙ all b y)

-- one reader, and then one that marks no token at once
bind_at : {A B : Type 0} (late : Bool) (p : Parser A) (f : A → Parser B) (ts : Tokens) (o : ParseOutcome A) → p ts ≡ o → Told late p ts o → IsLocal p ts → ((a : A) → Tells true (f a)) → Told late (p >>= f) ts (and_then o f)
bind_at late p f ts (Ok q) is took l next = second_at late p f ts q is took l (f q.0 q.1) (next q.0 q.1)
bind_at late p f ts (Err e) is (plain k) l next = plain k
bind_at late p f ts (Err e) is (at_hole t us d w k) l next = at_hole t us d w k
bind_at late p f ts (Err e) is (mark front ne w clean k all) l next = mark front ne w clean k (λ b y. ap (λ x. and_then x f) (all b y))

-- the same of all tokens
pub bind_then : {A B : Type 0} (late : Bool) (p : Parser A) (f : A → Parser B) → Tells late p → Local p → ((a : A) → Tells true (f a)) → Tells late (p >>= f)
bind_then late p f told local next ts = bind_at late p f ts (p ts) refl (told ts) (local ts) next

-- one of two
pub choice_told : {A : Type 0} (late b : Bool) (p q : Parser A) → Tells late p → Tells late q → Tells late (if b then p else q)
choice_told late true p q one two = one
choice_told late false p q one two = two

-- a list with separators
separated_told : {A : Type 0} (late : Bool) (p : Parser A) (comma : Placed → Bool) → ((t : Placed) → comma t ≡ true → is_hole_token t.token ≡ false) → Tells late p → Local p → (n : ℕ) (found : List A) → Tells late (separated_from p comma n found)
unfolding separated_from
separated_told late p comma clean told local zero found = fail_told late
separated_told late p comma clean told local (suc n) found =
    bind_then late p _ told local (λ a.
    eat_then comma _ clean (sooner late (separated_from p comma n (found ++ a ∷ [])) (separated_told late p comma clean told local n (found ++ a ∷ []))) (pure_told true (found ++ a ∷ [])))

-- the same, which may be empty
listed_told : {A : Type 0} (p : Parser A) (comma stop : Placed → Bool) → ((t : Placed) → comma t ≡ true → is_hole_token t.token ≡ false) → Tells true p → Local p → (n : ℕ) → Tells true (listed p comma stop n)
unfolding listed
listed_told {A} p comma stop clean told local n = look_then false stop _ (λ none. choice_told true none _ _ (pure_told {A = List A} true []) (separated_told true p comma clean told local n []))

-- ---- readers whose answer depends on the tokens that they take alone

-- what is read, whatever stands after
pub record Fixed {A : Type 0} (p : Parser A) (ts : Tokens) (q : A × Tokens) : Type 0 where
  pub front : Tokens
  pub whole : ts ≡ front ++ q.1
  pub clean : NoHoles front
  pub same : (y : Tokens) → p (front ++ y) ≡ Ok (q.0, y)

-- the same by the outcome
abbrev pub FixedAt : {A : Type 0} → Parser A → Tokens → ParseOutcome A → Type 0
FixedAt p ts (Ok q) = Fixed p ts q
FixedAt p ts (Err e) = IsPlain e.0

-- the same of all tokens
abbrev pub IsFixed : {A : Type 0} → Parser A → Type 0
IsFixed p = (ts : Tokens) → FixedAt p ts (p ts)

-- a token
fixed_at : {A : Type 0} (test : Placed → Result A Fault) (t : Placed) (ts : Tokens) (r : Result A Fault) → test t ≡ r → LeafAt t.token r → FixedAt (accept test) (t ∷ ts) (taken r t ts)
unfolding accept
fixed_at test t ts (Ok a) is l = record { front = t ∷ []; whole = refl; clean = (l, tt); same = λ y. ap (λ r. taken r t y) is }
fixed_at test t ts (Err k) is l = l

-- the same of all tokens
pub fixed_accept : {A : Type 0} (test : Placed → Result A Fault) → ((t : Placed) → LeafAt t.token (test t)) → IsFixed (accept test)
unfolding accept
fixed_accept test leaf [] = tt
fixed_accept test leaf (t ∷ ts) = fixed_at test t ts (test t) refl (leaf t)

-- one after the other
fixed_second : {A B : Type 0} (p : Parser A) (f : A → Parser B) (ts : Tokens) (q : A × Tokens) → Fixed p ts q → (o : ParseOutcome B) → FixedAt (f q.0) q.1 o → FixedAt (p >>= f) ts o
fixed_second p f ts q a (Ok r) b = record {
  front = a.front ++ b.front;
  whole = a.whole ∙ ap (λ x. a.front ++ x) b.whole ∙ sym (append_assoc a.front b.front r.1);
  clean = holes_join a.front b.front a.clean b.clean;
  same = λ y. ap (λ x. and_then (p x) f) (append_assoc a.front b.front y) ∙ ap (λ x. and_then x f) (a.same (b.front ++ y)) ∙ b.same y;
}
fixed_second p f ts q a (Err e) b = b

-- the same by the first one's outcome
fixed_first : {A B : Type 0} (p : Parser A) (f : A → Parser B) (ts : Tokens) (o : ParseOutcome A) → FixedAt p ts o → ((a : A) → IsFixed (f a)) → FixedAt (p >>= f) ts (and_then o f)
fixed_first p f ts (Ok q) a next = fixed_second p f ts q a (f q.0 q.1) (next q.0 q.1)
fixed_first p f ts (Err e) a next = a

-- the same of all tokens
pub fixed_bind : {A B : Type 0} (p : Parser A) (f : A → Parser B) → IsFixed p → ((a : A) → IsFixed (f a)) → IsFixed (p >>= f)
fixed_bind p f one next ts = fixed_first p f ts (p ts) (one ts) next

-- nothing is read
pub fixed_pure : {A : Type 0} (a : A) → IsFixed (pure a)
fixed_pure a ts = record { front = []; whole = refl; clean = tt; same = λ y. refl }

-- it tells by its outcome
fixed_told : {A : Type 0} (late : Bool) (p : Parser A) (ts : Tokens) (o : ParseOutcome A) → FixedAt p ts o → Told late p ts o
fixed_told late p ts (Ok q) a = record { front = a.front; whole = a.whole; clean = a.clean }
fixed_told late p ts (Err e) a = plain a

-- after it
after_fixed : {A B : Type 0} (p : Parser A) (f : A → Parser B) (ts : Tokens) (q : A × Tokens) → Fixed p ts q → (o : ParseOutcome B) → Told false (f q.0) q.1 o → Told false (p >>= f) ts o
after_fixed p f ts q a (Ok r) w = took_join ts q.1 r.1 (record { front = a.front; whole = a.whole; clean = a.clean }) w
after_fixed p f ts q a (Err e) (plain k) = plain k
after_fixed p f ts q a (Err e) (at_hole t us d w k) = at_hole t us d w k
after_fixed p f ts q a (Err e) (mark front ne w clean k all) = mark (a.front ++ front) tt (a.whole ∙ ap (λ x. a.front ++ x) w ∙ sym (append_assoc a.front front e.1)) (holes_join a.front front a.clean clean) k (λ b y. ap (λ x. and_then (p x) f) (append_assoc a.front front (b ∷ y)) ∙ ap (λ x. and_then x f) (a.same (front ++ b ∷ y)) ∙ all b y)

-- the same by the outcome
fixed_then_at : {A B : Type 0} (p : Parser A) (f : A → Parser B) (ts : Tokens) (o : ParseOutcome A) → FixedAt p ts o → ((a : A) → Tells false (f a)) → Told false (p >>= f) ts (and_then o f)
fixed_then_at p f ts (Ok q) a next = after_fixed p f ts q a (f q.0 q.1) (next q.0 q.1)
fixed_then_at p f ts (Err e) a next = plain a

-- the same of all tokens
pub fixed_then : {A B : Type 0} (p : Parser A) (f : A → Parser B) → IsFixed p → ((a : A) → Tells false (f a)) → Tells false (p >>= f)
fixed_then p f one next ts = fixed_then_at p f ts (p ts) (one ts) next

-- ---- the tests of tokens

-- a token that is required
required_at : (k : Token) (b : Bool) → is_hole_token k ≡ false → LeafAt k (required b)
required_at k true n = n
required_at k false n = tt

-- a symbol
pub symbol_leaf : (s : Symbol) (k : Token) → LeafAt k (required (is_symbol_token s k))
symbol_leaf s (symbol_token y) = required_at (symbol_token y) (same_symbol y s) refl
symbol_leaf s _ = tt

-- a reserved word
pub word_leaf : (w : Word) (k : Token) → LeafAt k (required (is_word_token w k))
word_leaf w (word_token v) = required_at (word_token v) (same_word v w) refl
word_leaf w _ = tt

-- the end
pub end_leaf : (k : Token) → LeafAt k (required (is_end_token k))
end_leaf end_token = refl
end_leaf _ = tt

-- a name
pub name_leaf : (p : Place) (k : Token) → LeafAt k (with_place p (name_of k))
name_leaf p (name_token n) = refl
name_leaf p _ = tt

-- a number within its limit
limited_leaf : (n m : ℕ) (b : Bool) → LeafAt (number_token n) (limited m Number b)
limited_leaf n m true = refl
limited_leaf n m false = tt

-- a number
pub number_leaf : (k : Token) → LeafAt k (number_of k)
number_leaf (number_token n) = limited_leaf n n (nat_le n 4611686018427387904)
number_leaf _ = tt

-- a number that is not 0
counted_leaf : (n : ℕ) (b : Bool) → LeafAt (number_token n) (limited_period n b)
counted_leaf n true = tt
counted_leaf n false = limited_leaf n n (nat_le n 4611686018427387904)

-- a period
pub period_leaf : (k : Token) → LeafAt k (period_of k)
period_leaf (number_token n) = counted_leaf n (n == 0)
period_leaf _ = tt

-- a text that is short enough
short_leaf : (t : List ℕ) (b : Bool) → LeafAt (text_token t) (short_enough t b)
short_leaf t true = refl
short_leaf t false = tt

-- a text
pub text_leaf : (k : Token) → LeafAt k (text_of k)
text_leaf (text_token t) = short_leaf t _
text_leaf _ = tt

-- a comparison
pub op_leaf : (k : Token) → LeafAt k (op_of k)
op_leaf (symbol_token le_sign) = refl
op_leaf (symbol_token lt_sign) = refl
op_leaf (symbol_token ge_sign) = refl
op_leaf (symbol_token gt_sign) = refl
op_leaf (symbol_token Equals) = refl
op_leaf _ = tt

-- a sort
pub sort_leaf : (p : Place) (k : Token) → LeafAt k (with_place p (sort_of k))
sort_leaf p (word_token Time) = refl
sort_leaf p (word_token Data) = refl
sort_leaf p (name_token n) = refl
sort_leaf p _ = tt

-- a symbol that is eaten is no hole
pub symbol_clean : (s : Symbol) (t : Placed) → is_symbol s t ≡ true → is_hole_token t.token ≡ false
symbol_clean s t e = ap is_hole_token (symbol_told s t e)

-- nor is a reserved word
word_clean : (w : Word) (t : Placed) → is_word w t ≡ true → is_hole_token t.token ≡ false
word_clean w t e = ap is_hole_token (word_told w t e)

-- after a symbol that is expected
pub symbol_then : {B : Type 0} (s : Symbol) (f : Unit {0} → Parser B) → Tells false (f tt) → Tells true (expect s >>= f)
symbol_then s f next = accept_then (λ t. required (is_symbol s t)) f (λ t. symbol_leaf s t.token) (λ u. next)

-- after a reserved word that is expected
word_then : {B : Type 0} (w : Word) (f : Unit {0} → Parser B) → Tells false (f tt) → Tells true (expect_word w >>= f)
word_then w f next = accept_then (λ t. required (is_word w t)) f (λ t. word_leaf w t.token) (λ u. next)

-- after a name
pub name_then : {B : Type 0} (f : Identifier × Place → Parser B) → ((n : Identifier × Place) → Tells false (f n)) → Tells true (name >>= f)
name_then f next = accept_then (λ t. with_place t.place (name_of t.token)) f (λ t. name_leaf t.place t.token) next

-- after a number
number_then : {B : Type 0} (f : ℕ → Parser B) → ((n : ℕ) → Tells false (f n)) → Tells true (number >>= f)
number_then f next = accept_then (λ t. number_of t.token) f (λ t. number_leaf t.token) next

-- ---- the rules

-- a column
pub column_fixed : IsFixed column
unfolding column
column_fixed =
    fixed_bind name _ (fixed_accept _ (λ t. name_leaf t.place t.token)) (λ n.
    fixed_bind (expect Colon) _ (fixed_accept _ (λ t. symbol_leaf Colon t.token)) (λ u.
    fixed_bind (accept (λ t. with_place t.place (sort_of t.token))) _ (fixed_accept _ (λ t. sort_leaf t.place t.token)) (λ s. fixed_pure _)))

-- a column, by its outcome
column_told : Tells true column
column_told ts = fixed_told true column ts (column ts) (column_fixed ts)

-- an integer of this sign and size
abbrev signed : Bool → ℕ → Integer
signed b n = record { negative = b; size = n }

-- an integer without a minus, or the fault of its number
digits_at : (t : Placed) (ts : Tokens) (r : Result ℕ Fault) → is_symbol Minus t ≡ false → number_of t.token ≡ r → LeafAt t.token r → FixedAt integer (t ∷ ts) (integer (t ∷ ts))
unfolding integer eat accept
digits_at t ts (Ok n) none w leaf = rw (none, w) (record { front = t ∷ []; whole = refl; clean = (leaf, tt); same = λ y. rw (none, w) refl })
digits_at t ts (Err k) none w leaf = rw (none, w) leaf

-- one with a minus
minus_at : (t u : Placed) (us : Tokens) (r : Result ℕ Fault) → is_symbol Minus t ≡ true → number_of u.token ≡ r → LeafAt u.token r → FixedAt integer (t ∷ u ∷ us) (integer (t ∷ u ∷ us))
unfolding integer eat accept
minus_at t u us (Ok n) minus w leaf = rw (minus, w) (record { front = t ∷ u ∷ []; whole = refl; clean = (symbol_clean Minus t minus, (leaf, tt)); same = λ y. rw (minus, w) refl })
minus_at t u us (Err k) minus w leaf = rw (minus, w) leaf

-- one or the other
either_at : (t : Placed) (ts : Tokens) (b : Bool) → is_symbol Minus t ≡ b → FixedAt integer (t ∷ ts) (integer (t ∷ ts))
unfolding integer eat accept
either_at t ts false is = digits_at t ts (number_of t.token) is refl (number_leaf t.token)
either_at t (u ∷ us) true is = minus_at t u us (number_of u.token) is refl (number_leaf u.token)
either_at t [] true is = rw is tt

-- what an integer is depends on its tokens alone
pub integer_fixed : IsFixed integer
unfolding integer eat accept
integer_fixed [] = tt
integer_fixed (t ∷ ts) = either_at t ts (is_symbol Minus t) refl

-- an integer
pub integer_told : Tells true integer
unfolding integer
integer_told = eat_then (is_symbol Minus) _ (symbol_clean Minus) (sooner true _ (number_then _ (λ n. pure_told false (signed true n)))) (number_then _ (λ n. pure_told false (signed false n)))

-- an offset
offset_told : Tells true offset
unfolding offset
offset_told =
    eat_then (is_symbol Plus) _ (symbol_clean Plus) (sooner true _ (number_then _ (λ k. pure_told false (moved_by false k))))
    (eat_then (is_symbol Minus) _ (symbol_clean Minus) (sooner true _ (number_then _ (λ k. pure_told false (moved_by true k)))) (pure_told true unmoved))

-- a name with or without an offset
named_term_told : (n : Identifier) → Tells true (named_term marking.terms n)
unfolding named_term
named_term_told n = bind_then true offset _ offset_told offset_local (λ o. done true)

-- a text or an integer
unnamed_term_told : Tells true (unnamed_term marking.terms)
unfolding unnamed_term
unnamed_term_told =
    look_then false is_text _ (λ text_next. choice_told true text_next _ _
    (accept_then (λ t. text_of t.token) _ (λ t. text_leaf t.token) (λ t. done false))
    (bind_then true integer _ integer_told integer_local (λ i. done true)))

-- a term without its place
bare_term_told : Tells true (bare_term marking.terms)
unfolding bare_term
bare_term_told = look_then false is_name _ (λ name_next. choice_told true name_next _ _ (name_then _ (λ n. sooner true _ (named_term_told n.0))) unnamed_term_told)

-- a term
term_told : Tells true (term marking.terms)
unfolding term
term_told = look_then _ _ _ (λ p. bind_then true (bare_term marking.terms) _ bare_term_told (bare_term_local marking.terms) (λ k. done true))

-- a point
point_told : (l : Unit {0}) → Tells true (point marking l)
unfolding point
point_told l =
    bind_then true integer _ integer_told integer_local (λ i.
    symbol_then Plus _ (sooner true _ (accept_then (λ t. period_of t.token) _ (λ t. period_leaf t.token) (λ k. sooner true _ (word_then Letter _ (done false))))))

-- a comparison
comparing_told : (l : Unit {0}) → Tells true (comparing marking l)
unfolding comparing
comparing_told l = accept_then (λ t. op_of t.token) _ (λ t. op_leaf t.token) (λ op. bind_then false (term marking.terms) _ (sooner true _ term_told) (term_local marking.terms) (λ r. done true))

-- what stands after a first term
test_told : (l : Unit {0}) → Tells true (tested false marking l)
unfolding tested
test_told l = eat_then (is_word In) _ (word_clean In) (sooner true _ (point_told l)) (comparing_told l)

-- the terms of an atom
atom_terms_told : (turns : ℕ) (n : Identifier) (p : Place) → Tells true (atom_terms false marking turns n p)
unfolding atom_terms
atom_terms_told turns n p =
    bind_then true (listed (term marking.terms) (is_symbol Comma) (is_symbol Close) turns) _ (listed_told (term marking.terms) (is_symbol Comma) (is_symbol Close) (symbol_clean Comma) term_told (term_local marking.terms) turns) (listed_local (term marking.terms) _ _ (term_local marking.terms) turns) (λ ts.
    symbol_then Close _ (done false))

-- what stands after a name
pub after_name_told : (turns : ℕ) (n : Identifier) (p : Place) → Tells true (after_name false marking turns n p)
unfolding after_name
after_name_told turns n p =
    eat_then (is_symbol Open) _ (symbol_clean Open) (sooner true _ (atom_terms_told turns n p))
    (bind_then true (named_term marking.terms n) _ (named_term_told n) (named_term_local marking.terms n) (λ k. test_told tt))

-- what begins with another term
unnamed_told : (p : Place) → Tells true (unnamed false marking p)
unfolding unnamed
unnamed_told p = bind_then true (unnamed_term marking.terms) _ unnamed_term_told (unnamed_term_local marking.terms) (λ k. test_told tt)

module _ (inner : Parser (Unit {0})) (told : Tells false inner) (local : Local inner) (after : Identifier → Place → Parser (Unit {0})) (after_told : (n : Identifier) (p : Place) → Tells true (after n p)) (turns : ℕ) where
  -- a denied formula
  negated_told : (p : Place) → Tells true (negated marking inner p)
  unfolding negated
  negated_told p = word_then Not _ (bind_then false inner _ told local (λ f. done true))

  -- a formula after `exists`
  existing_told : (p : Place) → Tells true (existing marking inner p)
  unfolding existing
  existing_told p = word_then Exists _ (fixed_then column _ column_fixed (λ c. bind_then false inner _ told local (λ f. done true)))

  -- a formula after `forall`
  holding_told : (p : Place) → Tells true (holding marking inner p)
  unfolding holding
  holding_told p = word_then Forall _ (fixed_then column _ column_fixed (λ c. bind_then false inner _ told local (λ f. done true)))

  -- what stands after `implies`
  implying_told : (p : Place) (f : Unit {0}) → Tells false (implying marking inner p f)
  unfolding implying
  implying_told p f = bind_then false inner _ told local (λ g. symbol_then Close _ (done false))

  -- what stands after `and`
  conjoined_told : (p : Place) (f : Unit {0}) → Tells false (conjoined marking inner turns p f)
  unfolding conjoined
  conjoined_told p f = bind_then false (separated_from inner (is_word And) turns (f ∷ [])) _ (separated_told false inner (is_word And) (word_clean And) told local turns (f ∷ [])) (separated_local inner _ local turns (f ∷ [])) (λ fs. symbol_then Close _ (done false))

  -- what stands after `or`
  disjoined_told : (p : Place) (f : Unit {0}) → Tells false (disjoined marking inner turns p f)
  unfolding disjoined
  disjoined_told p f = bind_then false (separated_from inner (is_word Or) turns (f ∷ [])) _ (separated_told false inner (is_word Or) (word_clean Or) told local turns (f ∷ [])) (separated_local inner _ local turns (f ∷ [])) (λ fs. symbol_then Close _ (done false))

  -- what stands after a first formula
  after_first_told : (p : Place) (f : Unit {0}) → Tells true (after_first marking inner turns p f)
  unfolding after_first
  after_first_told p f =
      eat_then (is_word Implies) _ (word_clean Implies) (implying_told p f)
      (eat_then (is_word And) _ (word_clean And) (conjoined_told p f)
      (eat_then (is_word Or) _ (word_clean Or) (disjoined_told p f) (symbol_then Close _ (done false))))

  -- formulas in parentheses
  enclosed_told : (p : Place) → Tells true (enclosed marking inner turns p)
  unfolding enclosed
  enclosed_told p = symbol_then Open _ (bind_then false inner _ told local (λ f. after_first_told p f))

  -- what begins with a name
  named_told : Tells true (named after)
  unfolding named
  named_told = name_then _ (λ n. sooner true _ (after_told n.0 n.1))

  -- a formula that begins so
  started_told : (p : Place) (s : Start) → Tells true (started marking after inner turns p s)
  started_told p by_not = negated_told p
  started_told p by_exists = existing_told p
  started_told p by_forall = holding_told p
  started_told p by_open = enclosed_told p
  started_told p by_name = named_told
  started_told p by_term = unnamed_told p

  -- a formula that does not begin with a hole
  abbrev body : Parser (Unit {0})
  body = here >>= (λ p. look by_term (λ t. start_of t.token) >>= (λ s. started marking after inner turns p s))

  -- the same
  body_told : Tells true body
  body_told = look_then _ _ _ (λ p. look_then _ _ _ (λ s. started_told p s))

  -- a formula by its first token
  over_at : (t : Placed) (ts : Tokens) (b : Bool) → is_hole_token t.token ≡ b → Told true (formula_over marking after inner turns) (t ∷ ts) ((if b then fail Deep else body) (t ∷ ts))
  unfolding formula_over look
  over_at t ts true is = at_hole t ts refl refl is
  over_at t ts false is = same_first body (formula_over marking after inner turns) t ts (body (t ∷ ts)) (λ us. rw is refl) (body_told (t ∷ ts))

  -- a formula
  over_told : Tells true (formula_over marking after inner turns)
  unfolding formula_over look
  over_told [] = empty_first body (formula_over marking after inner turns) (body []) (body_told [])
  over_told (t ∷ ts) = over_at t ts (is_hole_token t.token) refl

-- what a grammar has after a name tells so
pub record AfterTells (after : AfterName (Unit {0})) : Type 0 where
  pub local : (inner : Parser (Unit {0})) → Local inner → (turns : ℕ) (n : Identifier) (p : Place) → Local (after inner turns n p)
  pub told : (inner : Parser (Unit {0})) → Tells false inner → Local inner → (turns : ℕ) (n : Identifier) (p : Place) → Tells true (after inner turns n p)

module _ (after : AfterName (Unit {0})) (b : AfterTells after) where
  -- a formula of any depth
  formula_told : (depth turns : ℕ) → Tells false (formula_with marking after depth turns)
  unfolding formula_with accept
  formula_told zero turns [] = plain tt
  formula_told zero turns (t ∷ ts) = mark [] tt refl tt refl (λ b y. refl)
  formula_told (suc depth) turns ts =
      let inner : Parser (Unit {0}) = formula_with marking after depth turns in
      let local : Local inner = formula_local marking after b.local depth turns in
      sooner true (formula_over marking (after inner turns) inner turns) (over_told inner (formula_told depth turns) local (after inner turns) (b.told inner (formula_told depth turns) local turns) turns) ts

  -- a query
  pub query_told : (turns : ℕ) → Tells true (query_with marking after turns)
  unfolding query_with query_over
  query_told turns =
      symbol_then OpenBrace _ (sooner true _ (bind_then true (listed column (is_symbol Comma) (is_symbol Bar) turns) _ (listed_told column (is_symbol Comma) (is_symbol Bar) (symbol_clean Comma) column_told column_local turns) (listed_local column _ _ column_local turns) (λ cs.
      symbol_then Bar _ (bind_then false (formula_with marking after 64 turns) _ (formula_told 64 turns) (formula_local marking after b.local 64 turns) (λ f.
      symbol_then CloseBrace _ (sooner true _ (accept_then (λ t. required (is_end t)) _ (λ t. end_leaf t.token) (λ u. done false))))))))
