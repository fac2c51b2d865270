-- What a parser answers depends on the tokens that it takes and on the next one alone.
use Rattle.std.proofs.Common.{◌≡◌, ℕ, zero, suc, Bool, true, false, List, [], ◌∷◌, ◌++◌, refl, ap, ◌∙◌, sym, subst, Ok, Err, if◌then◌else◌, append_assoc, Result}
use Rattle.lrp_model.specs.declared.tokens.Fault.{Fault}
use Rattle.lrp_model.specs.declared.tokens.Fault.TheVariants.{Syntax}
use Rattle.lrp_model.specs.Tokens.{Placed, Tokens}
use Rattle.lrp_text.specs.Parsers.{ParseOutcome, Parser, and_then, ◌>>=◌, pure, fail, taken, accept, look, eaten, eat, separated_from, until_from, listed}

-- the outcome with other tokens left
abbrev pub onto : {A : Type 0} → ParseOutcome A → Tokens → ParseOutcome A
onto (Ok p) left = Ok (p.0, left)
onto (Err e) left = Err (e.0, left)

-- the tokens left, or those from the fault on
abbrev pub left_of : {A : Type 0} → ParseOutcome A → Tokens
left_of (Ok p) = p.1
left_of (Err e) = e.1

-- a front is taken, and with the same next token the outcome is the same
pub record IsLocal {A : Type 0} (p : Parser A) (ts : Tokens) : Type 0 where
  pub outcome : ParseOutcome A
  pub is : p ts ≡ outcome
  pub front : Tokens
  pub whole : ts ≡ front ++ left_of outcome
  pub same : (b : Placed) (tail other : Tokens) → left_of outcome ≡ b ∷ tail → p (front ++ b ∷ other) ≡ onto outcome (b ∷ other)

-- the same for all tokens
abbrev pub Local : {A : Type 0} → Parser A → Type 0
Local p = (ts : Tokens) → IsLocal p ts

-- equal lists have equal heads
heads : (a b : Placed) (xs ys : Tokens) → a ∷ xs ≡ b ∷ ys → a ≡ b
heads a b xs ys e = cc

-- reading nothing is local
pub pure_local : {A : Type 0} (a : A) → Local (pure a)
pure_local a ts = record { outcome = Ok (a, ts); is = refl; front = []; whole = refl; same = λ b tail other e. refl }

-- a fault at the next token is local
pub fail_local : {A : Type 0} (k : Fault) → Local (fail {A = A} k)
fail_local k ts = record { outcome = Err (k, ts); is = refl; front = []; whole = refl; same = λ b tail other e. refl }

-- one token that a test decides on
taken_at : {A : Type 0} (test : Placed → Result A Fault) (t : Placed) (ts : Tokens) (r : Result A Fault) → test t ≡ r → IsLocal (accept test) (t ∷ ts)
unfolding accept
taken_at test t ts (Ok a) told = record {
  outcome = Ok (a, ts);
  is = ap (λ r. taken r t ts) told;
  front = t ∷ [];
  whole = refl;
  same = λ b tail other e. ap (λ r. taken r t (b ∷ other)) told;
}
taken_at test t ts (Err k) told = record {
  outcome = Err (k, t ∷ ts);
  is = ap (λ r. taken r t ts) told;
  front = [];
  whole = refl;
  same = λ b tail other e. let P : Placed → Type 0 = λ x. taken (test x) x other ≡ Err (k, x ∷ other) in subst P (heads t b ts tail e) (ap (λ r. taken r t other) told);
}

-- taking a token is local
pub accept_local : {A : Type 0} (test : Placed → Result A Fault) → Local (accept test)
unfolding accept
accept_local test [] = record { outcome = Err (Syntax, []); is = refl; front = []; whole = refl; same = λ b tail other e. absurd cc }
accept_local test (t ∷ ts) = taken_at test t ts (test t) refl

-- looking at a token is local
pub look_local : {A : Type 0} (none : A) (test : Placed → A) → Local (look none test)
unfolding look
look_local none test [] = record { outcome = Ok (none, []); is = refl; front = []; whole = refl; same = λ b tail other e. absurd cc }
look_local none test (t ∷ ts) = record {
  outcome = Ok (test t, t ∷ ts);
  is = refl;
  front = [];
  whole = refl;
  same = λ b tail other e. ap (λ x. Ok (test x, b ∷ other)) (sym (heads t b ts tail e));
}

-- one token that may be eaten
eaten_at : (test : Placed → Bool) (t : Placed) (ts : Tokens) (r : Bool) → test t ≡ r → IsLocal (eat test) (t ∷ ts)
unfolding eat
eaten_at test t ts true told = record {
  outcome = Ok (true, ts);
  is = ap (λ r. eaten r t ts) told;
  front = t ∷ [];
  whole = refl;
  same = λ b tail other e. ap (λ r. eaten r t (b ∷ other)) told;
}
eaten_at test t ts false told = record {
  outcome = Ok (false, t ∷ ts);
  is = ap (λ r. eaten r t ts) told;
  front = [];
  whole = refl;
  same = λ b tail other e. let P : Placed → Type 0 = λ x. eaten (test x) x other ≡ Ok (false, x ∷ other) in subst P (heads t b ts tail e) (ap (λ r. eaten r t other) told);
}

-- eating a token is local
pub eat_local : (test : Placed → Bool) → Local (eat test)
unfolding eat
eat_local test [] = record { outcome = Ok (false, []); is = refl; front = []; whole = refl; same = λ b tail other e. absurd cc }
eat_local test (t ∷ ts) = eaten_at test t ts (test t) refl

-- one after the other
second : {A B : Type 0} (p : Parser A) (f : A → Parser B) (ts : Tokens) (a : A) (rest front : Tokens) (r : ParseOutcome B) (more : Tokens) → p ts ≡ Ok (a, rest) → ts ≡ front ++ rest → ((b : Placed) (tail other : Tokens) → rest ≡ b ∷ tail → p (front ++ b ∷ other) ≡ Ok (a, b ∷ other)) → f a rest ≡ r → rest ≡ more ++ left_of r → ((b : Placed) (tail other : Tokens) → left_of r ≡ b ∷ tail → f a (more ++ b ∷ other) ≡ onto r (b ∷ other)) → IsLocal (p >>= f) ts
second p f ts a rest front r [] is whole same is2 whole2 same2 = record {
  outcome = r;
  is = ap (λ x. and_then x f) is ∙ is2;
  front = front;
  whole = whole ∙ ap (λ x. front ++ x) whole2;
  same = λ b tail other e. ap (λ x. and_then x f) (same b tail other (whole2 ∙ e)) ∙ same2 b tail other e;
}
second p f ts a rest front r (c ∷ cs) is whole same is2 whole2 same2 = record {
  outcome = r;
  is = ap (λ x. and_then x f) is ∙ is2;
  front = front ++ c ∷ cs;
  whole = whole ∙ ap (λ x. front ++ x) whole2 ∙ sym (append_assoc front (c ∷ cs) (left_of r));
  same = λ b tail other e.
      ap (λ x. and_then (p x) f) (append_assoc front (c ∷ cs) (b ∷ other)) ∙ ap (λ x. and_then x f) (same c (cs ++ left_of r) (cs ++ b ∷ other) whole2) ∙ same2 b tail other e;
}

-- a parser that has failed, or another after it
first : {A B : Type 0} (p : Parser A) (f : A → Parser B) (ts : Tokens) (r : ParseOutcome A) (front : Tokens) → p ts ≡ r → ts ≡ front ++ left_of r → ((b : Placed) (tail other : Tokens) → left_of r ≡ b ∷ tail → p (front ++ b ∷ other) ≡ onto r (b ∷ other)) → ((a : A) → Local (f a)) → IsLocal (p >>= f) ts
first p f ts (Err e) front is whole same lf = record {
  outcome = Err e;
  is = ap (λ x. and_then x f) is;
  front = front;
  whole = whole;
  same = λ b tail other d. ap (λ x. and_then x f) (same b tail other d);
}
first p f ts (Ok q) front is whole same lf =
    let two = lf q.0 q.1 in
    second p f ts q.0 q.1 front two.outcome two.front is whole same two.is two.whole two.same

-- one local parser after another is local
pub bind_local : {A B : Type 0} (p : Parser A) (f : A → Parser B) → Local p → ((a : A) → Local (f a)) → Local (p >>= f)
bind_local p f lp lf ts = let one = lp ts in first p f ts one.outcome one.front one.is one.whole one.same lf

-- a choice of local parsers is local
pub if_local : {A : Type 0} (b : Bool) (p q : Parser A) → Local p → Local q → Local (if b then p else q)
if_local true p q lp lq = lp
if_local false p q lp lq = lq

-- a list with separators is local
pub separated_local : {A : Type 0} (p : Parser A) (comma : Placed → Bool) → Local p → (n : ℕ) (found : List A) → Local (separated_from p comma n found)
unfolding separated_from
separated_local p comma lp zero found = fail_local Syntax
separated_local p comma lp (suc n) found =
    bind_local p _ lp (λ a.
    bind_local (eat comma) _ (eat_local comma) (λ more.
    if_local more _ _ (separated_local p comma lp n (found ++ a ∷ [])) (pure_local (found ++ a ∷ []))))

-- a list up to a token is local
pub until_local : {A : Type 0} (p : Parser A) (stop : Placed → Bool) → Local p → (n : ℕ) (found : List A) → Local (until_from p stop n found)
unfolding until_from
until_local p stop lp zero found = fail_local Syntax
until_local p stop lp (suc n) found =
    bind_local (look false stop) _ (look_local false stop) (λ stops.
    if_local stops _ _ (pure_local found)
    (bind_local p _ lp (λ a. until_local p stop lp n (found ++ a ∷ []))))

-- a list with separators that may be empty is local
pub listed_local : {A : Type 0} (p : Parser A) (comma stop : Placed → Bool) → Local p → (n : ℕ) → Local (listed p comma stop n)
unfolding listed
listed_local p comma stop lp n =
    bind_local (look false stop) _ (look_local false stop) (λ none.
    if_local none _ _ (pure_local []) (separated_local p comma lp n []))
