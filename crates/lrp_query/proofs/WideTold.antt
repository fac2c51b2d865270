-- Parsers with any fault where a formula would be too deep: what they take of tokens, and where they stop.
use Rattle.std.proofs.Common.{◌≡◌, Bool, true, false, [], ◌∷◌, ◌++◌, refl, ap, sym, ◌∙◌, subst, Ok, Err, Result, if◌then◌else◌, append_assoc}
use Rattle.std.proofs.lemmas.List.{append_cancel_right}
use Rattle.lrp_model.specs.declared.tokens.Fault.{Fault}
use Rattle.lrp_model.specs.declared.tokens.Fault.TheVariants.{Syntax, Deep}
use Rattle.lrp_model.specs.Tokens.{Placed, Tokens}
use Rattle.lrp_model.specs.RawQueries.{RawForm}
use Rattle.lrp_model.specs.Refused.{Fitting}
use Rattle.lrp_text.specs.Parsers.{ParseOutcome, Parser, and_then, ◌>>=◌, pure, fail, accept, taken, look, eat, eaten}
use Rattle.lrp_text.proofs.Local.{Local, IsLocal, left_of, onto}
use Rattle.lrp_text.proofs.Viable.{always}
use Rattle.lrp_query.specs.Rules.{is_hole_token}
use Rattle.lrp_query.proofs.Marks.{NoHoles, NotEmpty, IsPlain, LeafAt, IsFixed, FixedAt}

-- what a token gives where a formula would be too deep
abbrev pub Cut : Type 0
Cut = Placed → Result RawForm Fault

-- what a parser with any cut tells of tokens: what it takes, where it refuses, or the token that the cut decides on; with the flag that one isn't the first
pub data Told {A : Type 0} (late : Bool) (p : Cut → Parser A) (ts : Tokens) : Type 0 where
  took : (a : A) (left front : Tokens) → ts ≡ front ++ left → NoHoles front → ((c : Cut) → p c ts ≡ Ok (a, left)) → Told late p ts
  refused : (k : Fault) (us : Tokens) → (k ≡ Deep → NoHoles ts → ⊥) → ((c : Cut) → p c ts ≡ Err (k, us)) → Told late p ts
  cut_off : (front : Tokens) (t : Placed) (us : Tokens) → Fitting late (NotEmpty front) → ts ≡ front ++ t ∷ us → NoHoles front → ((c : Cut) (k : Fault) (b : Placed) (y : Tokens) → c b ≡ Err k → p c (front ++ b ∷ y) ≡ Err (k, b ∷ y)) → Told late p ts

-- the same of all tokens
abbrev pub Tells : {A : Type 0} → Bool → (Cut → Parser A) → Type 0
Tells late p = (ts : Tokens) → Told late p ts

-- ---- lists of tokens

-- no hole in either of two lists
joined : (xs ys : Tokens) → NoHoles xs → NoHoles ys → NoHoles (xs ++ ys)
joined [] ys a b = b
joined (x ∷ xs) ys a b = (a.0, joined xs ys a.1 b)

-- nor in the second one
pub second_clean : (xs ys : Tokens) → NoHoles (xs ++ ys) → NoHoles ys
second_clean [] ys a = a
second_clean (x ∷ xs) ys a = second_clean xs ys a.1

-- some token after others
not_empty : (xs : Tokens) (c : Placed) (cs : Tokens) → NotEmpty (xs ++ c ∷ cs)
not_empty [] c cs = tt
not_empty (x ∷ xs) c cs = tt

-- equal lists have equal heads
heads : (a b : Placed) (xs ys : Tokens) → a ∷ xs ≡ b ∷ ys → a ≡ b
heads a b xs ys e = cc

-- a fault of a token alone is none of depth
pub not_deep : (k : Fault) → IsPlain k → k ≡ Deep → ⊥
not_deep k l d = subst IsPlain d l

-- ---- parsers

-- nothing is read
pub pure_tells : {A : Type 0} (late : Bool) (a : A) → Tells late (λ c. pure a)
pure_tells late a ts = took a ts [] refl tt (λ c. refl)

-- a fault at the next token
pub fail_tells : {A : Type 0} (late : Bool) (k : Fault) → IsPlain k → Tells late (λ c. fail {A = A} k)
fail_tells late k l ts = refused k ts (λ d n. not_deep k l d) (λ c. refl)

-- the cut itself
pub cut_tells : Tells false (λ c. accept c)
unfolding accept
cut_tells [] = refused Syntax [] (λ d n. absurd cc) (λ c. refl)
cut_tells (t ∷ ts) = cut_off [] t ts tt refl tt (λ c k b y e. ap (λ r. taken r b y) e)

-- a token that isn't the first
sooner_at : {A : Type 0} (p : Cut → Parser A) (ts : Tokens) → Told true p ts → Told false p ts
sooner_at p ts (took a left front w cl all) = took a left front w cl all
sooner_at p ts (refused k us never all) = refused k us never all
sooner_at p ts (cut_off front t us ne w cl all) = cut_off front t us tt w cl all

pub sooner : {A : Type 0} (late : Bool) (p : Cut → Parser A) → Tells late p → Tells false p
sooner true p t ts = sooner_at p ts (t ts)
sooner false p t ts = t ts

pub as_late : {A : Type 0} (late : Bool) (p : Cut → Parser A) → Tells true p → Tells late p
as_late true p t = t
as_late false p t = sooner true p t

-- parsers that answer alike tell alike
alike_at : {A : Type 0} (late : Bool) (p q : Cut → Parser A) → ((c : Cut) (ts : Tokens) → p c ts ≡ q c ts) → (ts : Tokens) → Told late q ts → Told late p ts
alike_at late p q same ts (took a left front w cl all) = took a left front w cl (λ c. same c ts ∙ all c)
alike_at late p q same ts (refused k us never all) = refused k us never (λ c. same c ts ∙ all c)
alike_at late p q same ts (cut_off front t us ne w cl all) = cut_off front t us ne w cl (λ c k b y e. same c (front ++ b ∷ y) ∙ all c k b y e)

pub alike_tells : {A : Type 0} (late : Bool) (p q : Cut → Parser A) → ((c : Cut) (ts : Tokens) → p c ts ≡ q c ts) → Tells late q → Tells late p
alike_tells late p q same t ts = alike_at late p q same ts (t ts)

-- those that answer alike from a first token on
first_at : {A : Type 0} (p q : Cut → Parser A) (t : Placed) (ts : Tokens) → ((c : Cut) (us : Tokens) → p c (t ∷ us) ≡ q c (t ∷ us)) → Told true q (t ∷ ts) → Told true p (t ∷ ts)
first_at p q t ts same (took a left front w cl all) = took a left front w cl (λ c. same c ts ∙ all c)
first_at p q t ts same (refused k us never all) = refused k us never (λ c. same c ts ∙ all c)
first_at p q t ts same (cut_off [] u us ne w cl all) = absurd ne
first_at p q t ts same (cut_off (x ∷ xs) u us ne w cl all) =
    let one : t ≡ x = heads t x ts (xs ++ u ∷ us) w in
    cut_off (x ∷ xs) u us ne w cl (λ c k b y e. subst (λ z. p c (z ∷ (xs ++ b ∷ y)) ≡ q c (z ∷ (xs ++ b ∷ y))) one (same c (xs ++ b ∷ y)) ∙ all c k b y e)

-- and where none stands
none_at : {A : Type 0} (p q : Cut → Parser A) → ((c : Cut) → p c [] ≡ q c []) → Told true q [] → Told true p []
none_at p q same (took a left front w cl all) = took a left front w cl (λ c. same c ∙ all c)
none_at p q same (refused k us never all) = refused k us never (λ c. same c ∙ all c)
none_at p q same (cut_off [] u us ne w cl all) = absurd ne
none_at p q same (cut_off (x ∷ xs) u us ne w cl all) = absurd cc

pub first_tells : {A : Type 0} (p q : Cut → Parser A) (t : Placed) (ts : Tokens) → ((c : Cut) (us : Tokens) → p c (t ∷ us) ≡ q c (t ∷ us)) → Tells true q → Told true p (t ∷ ts)
first_tells p q t ts same tells = first_at p q t ts same (tells (t ∷ ts))

pub none_tells : {A : Type 0} (p q : Cut → Parser A) → ((c : Cut) → p c [] ≡ q c []) → Tells true q → Told true p []
none_tells p q same tells = none_at p q same (tells [])

-- ---- a token, and then a parser

after_token : {A : Type 0} (p q : Cut → Parser A) (t : Placed) (ts : Tokens) → is_hole_token t.token ≡ false → ((c : Cut) (us : Tokens) → p c (t ∷ us) ≡ q c us) → Told false q ts → Told true p (t ∷ ts)
after_token p q t ts n same (took a left front w cl all) = took a left (t ∷ front) (ap (λ x. t ∷ x) w) (n, cl) (λ c. same c ts ∙ all c)
after_token p q t ts n same (refused k us never all) = refused k us (λ d h. never d h.1) (λ c. same c ts ∙ all c)
after_token p q t ts n same (cut_off front u us ne w cl all) = cut_off (t ∷ front) u us tt (ap (λ x. t ∷ x) w) (n, cl) (λ c k b y e. same c (front ++ b ∷ y) ∙ all c k b y e)

token_at : {A B : Type 0} (test : Placed → Result A Fault) (f : A → Cut → Parser B) → ((a : A) → Tells false (f a)) → (t : Placed) (ts : Tokens) (r : Result A Fault) → test t ≡ r → LeafAt t.token r → Told true (λ c. accept test >>= (λ a. f a c)) (t ∷ ts)
unfolding accept
token_at test f next t ts (Ok a) is l = after_token (λ c. accept test >>= (λ a. f a c)) (f a) t ts l (λ c us. ap (λ r. and_then (taken r t us) (λ a. f a c)) is) (next a ts)
token_at test f next t ts (Err k) is l = refused k (t ∷ ts) (λ d n. not_deep k l d) (λ c. ap (λ r. and_then (taken r t ts) (λ a. f a c)) is)

pub token_tells : {A B : Type 0} (test : Placed → Result A Fault) (f : A → Cut → Parser B) → ((t : Placed) → LeafAt t.token (test t)) → ((a : A) → Tells false (f a)) → Tells true (λ c. accept test >>= (λ a. f a c))
unfolding accept
token_tells test f leaf next [] = refused Syntax [] (λ d n. absurd cc) (λ c. refl)
token_tells test f leaf next (t ∷ ts) = token_at test f next t ts (test t) refl (leaf t)

-- a token that is eaten or not
eat_at : {B : Type 0} (test : Placed → Bool) (f : Bool → Cut → Parser B) → ((t : Placed) → test t ≡ true → is_hole_token t.token ≡ false) → Tells false (f true) → Tells true (f false) → (t : Placed) (ts : Tokens) (b : Bool) → test t ≡ b → Told true (λ c. eat test >>= (λ b. f b c)) (t ∷ ts)
unfolding eat
eat_at test f clean some none t ts true is = after_token (λ c. eat test >>= (λ b. f b c)) (f true) t ts (clean t is) (λ c us. ap (λ r. and_then (eaten r t us) (λ b. f b c)) is) (some ts)
eat_at test f clean some none t ts false is = first_tells (λ c. eat test >>= (λ b. f b c)) (f false) t ts (λ c us. ap (λ r. and_then (eaten r t us) (λ b. f b c)) is) none

pub eat_tells : {B : Type 0} (test : Placed → Bool) (f : Bool → Cut → Parser B) → ((t : Placed) → test t ≡ true → is_hole_token t.token ≡ false) → Tells false (f true) → Tells true (f false) → Tells true (λ c. eat test >>= (λ b. f b c))
unfolding eat
eat_tells test f clean some none [] = none_tells (λ c. eat test >>= (λ b. f b c)) (f false) (λ c. refl) none
eat_tells test f clean some none (t ∷ ts) = eat_at test f clean some none t ts (test t) refl

-- a token that is looked at
pub look_tells : {A B : Type 0} (none : A) (test : Placed → A) (f : A → Cut → Parser B) → ((a : A) → Tells true (f a)) → Tells true (λ c. look none test >>= (λ a. f a c))
unfolding look
look_tells none test f next [] = none_tells (λ c. look none test >>= (λ a. f a c)) (f none) (λ c. refl) (next none)
look_tells none test f next (t ∷ ts) = first_tells (λ c. look none test >>= (λ a. f a c)) (f (test t)) t ts (λ c us. refl) (next (test t))

-- ---- one parser, and then one whose cut doesn't decide on the first token

second_at : {A B : Type 0} (late : Bool) (p : Cut → Parser A) (f : A → Cut → Parser B) (ts : Tokens) (a : A) (left front : Tokens) → ts ≡ front ++ left → NoHoles front → ((c : Cut) → p c ts ≡ Ok (a, left)) → ((c : Cut) → IsLocal (p c) ts) → Told true (f a) left → Told late (λ c. p c >>= (λ a. f a c)) ts
second_at late p f ts a left front w cl all local (took b rest more w2 cl2 all2) = took b rest (front ++ more) (w ∙ ap (λ x. front ++ x) w2 ∙ sym (append_assoc front more rest)) (joined front more cl cl2) (λ c. ap (λ o. and_then o (λ a. f a c)) (all c) ∙ all2 c)
second_at late p f ts a left front w cl all local (refused k us never all2) = refused k us (λ d n. never d (second_clean front left (subst NoHoles w n))) (λ c. ap (λ o. and_then o (λ a. f a c)) (all c) ∙ all2 c)
second_at late p f ts a left front w cl all local (cut_off [] t us ne w2 cl2 all2) = absurd ne
second_at late p f ts a left front w cl all local (cut_off (g ∷ gs) t us ne w2 cl2 all2) =
    cut_off (front ++ g ∷ gs) t us (always (NotEmpty (front ++ g ∷ gs)) late (not_empty front g gs)) (w ∙ ap (λ x. front ++ x) w2 ∙ sym (append_assoc front (g ∷ gs) (t ∷ us))) (joined front (g ∷ gs) cl cl2)
    (λ c k b y e.
    let l = local c in
    let o : l.outcome ≡ Ok (a, left) = sym l.is ∙ all c in
    let same_front : l.front ≡ front = append_cancel_right l.front front left (sym (l.whole ∙ ap (λ x. l.front ++ left_of x) o) ∙ w) in
    let again : p c (front ++ g ∷ (gs ++ b ∷ y)) ≡ Ok (a, g ∷ (gs ++ b ∷ y)) = ap (λ x. p c (x ++ g ∷ (gs ++ b ∷ y))) (sym same_front) ∙ l.same g (gs ++ t ∷ us) (gs ++ b ∷ y) (ap left_of o ∙ w2) ∙ ap (λ x. onto x (g ∷ (gs ++ b ∷ y))) o in
    ap (λ x. and_then (p c x) (λ a. f a c)) (append_assoc front (g ∷ gs) (b ∷ y)) ∙ ap (λ x. and_then x (λ a. f a c)) again ∙ all2 c k b y e)

bind_at : {A B : Type 0} (late : Bool) (p : Cut → Parser A) (f : A → Cut → Parser B) (ts : Tokens) → ((c : Cut) → IsLocal (p c) ts) → ((a : A) → Tells true (f a)) → Told late p ts → Told late (λ c. p c >>= (λ a. f a c)) ts
bind_at late p f ts local next (took a left front w cl all) = second_at late p f ts a left front w cl all local (next a left)
bind_at late p f ts local next (refused k us never all) = refused k us never (λ c. ap (λ o. and_then o (λ a. f a c)) (all c))
bind_at late p f ts local next (cut_off front t us ne w cl all) = cut_off front t us ne w cl (λ c k b y e. ap (λ o. and_then o (λ a. f a c)) (all c k b y e))

pub bind_tells : {A B : Type 0} (late : Bool) (p : Cut → Parser A) (f : A → Cut → Parser B) → ((c : Cut) → Local (p c)) → Tells late p → ((a : A) → Tells true (f a)) → Tells late (λ c. p c >>= (λ a. f a c))
bind_tells late p f local told next ts = bind_at late p f ts (λ c. local c ts) next (told ts)

-- one of two
pub choice_tells : {A : Type 0} (late b : Bool) (p q : Cut → Parser A) → Tells late p → Tells late q → Tells late (λ c. if b then p c else q c)
choice_tells late true p q one two = one
choice_tells late false p q one two = two

-- what depends on its tokens alone
fixed_at : {A : Type 0} (late : Bool) (p : Parser A) (ts : Tokens) (o : ParseOutcome A) → p ts ≡ o → FixedAt p ts o → Told late (λ c. p) ts
fixed_at late p ts (Ok q) is f = took q.0 q.1 f.front f.whole f.clean (λ c. is)
fixed_at late p ts (Err e) is f = refused e.0 e.1 (λ d n. not_deep e.0 f d) (λ c. is)

pub fixed_tells : {A : Type 0} (late : Bool) (p : Parser A) → IsFixed p → Tells late (λ c. p)
fixed_tells late p f ts = fixed_at late p ts (p ts) refl (f ts)
