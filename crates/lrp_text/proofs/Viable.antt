-- The tokens before a fault begin a lawful text, and with the token of a fault that is no syntax fault a text.
use Rattle.std.proofs.Common.{◌≡◌, ◌⊎◌, inl, inr, ◌<◌, ◌+◌, ℕ, zero, suc, Bool, true, false, List, [], ◌∷◌, ◌++◌, refl, ap, ◌∙◌, sym, subst, Ok, Err, if◌then◌else◌, append_assoc, append-nil, Result, length, arith}
use Rattle.std.specs.List.{AllByRecursion, flat_map}
use Rattle.lrp_model.specs.declared.tokens.Fault.{Fault}
use Rattle.lrp_model.specs.declared.tokens.Fault.TheVariants.{Syntax}
use Rattle.lrp_model.specs.Tokens.{Placed, Tokens, Part, IsPart, Spells, separated}
use Rattle.lrp_text.specs.Parsers.{ParseOutcome, Parser, and_then, ◌>>=◌, pure, taken, accept, look, eaten, eat, separated_from, until_from, listed}
use Rattle.lrp_model.specs.Refused.{IsCause, Through, GoesThrough, Stops, Fitting, TextOf}
use Rattle.lrp_text.proofs.Sound.{takes_join, eat_ok, Eaten, takes_onto, Sound, look_ok, Front, takes_front, takes_shorter}

-- a text that goes through, with tokens before it
through_after : (T R : Tokens → Type 0) (head front : Tokens) (k : Fault) (bad : Tokens) → ((x : Tokens) → T x → R (head ++ x)) → Through T front k bad → Through R (head ++ front) k bad
through_after T R head front Syntax bad into g = tt
through_after T R head front _ bad into g = record { token = g.token; cause = g.cause; tail = g.tail; at = g.at; more = g.more; begins = subst R (sym (append_assoc head front (g.token ∷ g.more))) (into (front ++ g.token ∷ g.more) g.begins) }

-- some tokens stand before a text
pub after_front : (T R : Bool → Tokens → Type 0) (head ts us : Tokens) (e : Fault × Tokens) → ts ≡ head ++ us → ((c : Bool) (x : Tokens) → T c x → R c (head ++ x)) → Stops T us e → Stops R ts e
after_front T R head ts us e is into s = record {
  front = head ++ s.front;
  whole = is ∙ ap (λ x. head ++ x) s.whole ∙ sym (append_assoc head s.front e.1);
  more = s.more;
  begins = subst (R true) (sym (append_assoc head s.front s.more)) (into true (s.front ++ s.more) s.begins);
  through = through_after (T false) (R false) head s.front e.0 e.1 (into false) s.through;
}

-- a text that goes through and goes on
through_before : (T R : Tokens → Type 0) (front : Tokens) (k : Fault) (bad : Tokens) → ((x : Tokens) → T x → (y : Tokens) × R (x ++ y)) → Through T front k bad → Through R front k bad
through_before T R front Syntax bad into g = tt
through_before T R front _ bad into g =
    let k = into (front ++ g.token ∷ g.more) g.begins in
    record { token = g.token; cause = g.cause; tail = g.tail; at = g.at; more = g.more ++ k.0; begins = subst R (append_assoc front (g.token ∷ g.more) k.0) k.1 }

-- a text goes on
pub before : (T R : Bool → Tokens → Type 0) (ts : Tokens) (e : Fault × Tokens) → ((c : Bool) (x : Tokens) → T c x → (y : Tokens) × R c (x ++ y)) → Stops T ts e → Stops R ts e
before T R ts e into s =
    let k = into true (s.front ++ s.more) s.begins in
    record {
      front = s.front;
      whole = s.whole;
      more = s.more ++ k.0;
      begins = subst (R true) (append_assoc s.front s.more k.0) k.1;
      through = through_before (T false) (R false) s.front e.0 e.1 (into false) s.through;
    }

-- the fault is at the first token, and is no token of the grammar
pub at_once : (T : Bool → Tokens → Type 0) (ts : Tokens) (more : Tokens) → T true more → Stops T ts (Syntax, ts)
at_once T ts more t = record { front = []; whole = refl; more = more; begins = t; through = tt }

-- the first parser failed, or the second after it
pub bind_err : {A B : Type 0} (o : ParseOutcome A) (f : A → Parser B) (e : Fault × Tokens) → and_then o f ≡ Err e → (o ≡ Err e) ⊎ ((q : A × Tokens) × (o ≡ Ok q) × (f q.0 q.1 ≡ Err e))
bind_err (Ok q) f e h = inr (q, refl, h)
bind_err (Err x) f e h = let k : x ≡ e = cc in inl (ap Err k)

-- both are lawful
pub fitting : (P R : Type 0) (c : Bool) → Fitting c P → Fitting c R → Fitting c (P × R)
fitting P R true p r = (p, r)
fitting P R false p r = tt

-- one of both is known to hold
pub both : (P R : Type 0) (c : Bool) → Fitting c P → R → Fitting c (P × R)
both P R true p r = (p, r)
both P R false p r = tt

-- what holds is lawful
pub always : (P : Type 0) (c : Bool) → P → Fitting c P
always P true p = p
always P false p = tt

-- what is lawful of a part
pub fits_as : (P R : Type 0) (c : Bool) → (P → R) → Fitting c P → Fitting c R
fits_as P R true f p = f p
fits_as P R false f p = tt

-- a text that goes through, whatever the fault
through_of : (T : Tokens → Type 0) (front : Tokens) (k : Fault) (bad : Tokens) → GoesThrough T k front bad → Through T front k bad
through_of T front Syntax bad g = tt
through_of T front _ bad g = g

-- what a test of tokens owes: a token that it takes, and that its faults other than syntax stand at tokens of the grammar
pub record TestStops {A : Type 0} (test : Placed → Result A Fault) (part : A → Part) (Fits : A → Type 0) : Type 0 where
  pub token : Placed
  pub value : A
  pub fits : Fits value
  pub is : IsPart (part value) token
  pub fault : (t : Placed) (k : Fault) → test t ≡ Err k → (k ≡ Syntax) ⊎ ((a : A) × IsPart (part a) t × IsCause k t.token)

-- one part
abbrev pub One : {A : Type 0} → (A → Part) → A → List Part
One part a = part a ∷ []

-- a token that was refused at once
accept_at : {A : Type 0} (test : Placed → Result A Fault) (part : A → Part) (Fits : A → Type 0) → TestStops test part Fits → (t : Placed) (ts : Tokens) (k : Fault) → (k ≡ Syntax) ⊎ ((a : A) × IsPart (part a) t × IsCause k t.token) → Stops (TextOf (One part) Fits) (t ∷ ts) (k, t ∷ ts)
accept_at test part Fits s t ts k (inl e) = record { front = []; whole = refl; more = s.token ∷ []; begins = (s.value, s.fits, (s.is, refl)); through = subst (λ x. Through (TextOf (One part) Fits false) [] x (t ∷ ts)) (sym e) tt }
accept_at test part Fits s t ts k (inr g) = record { front = []; whole = refl; more = s.token ∷ []; begins = (s.value, s.fits, (s.is, refl)); through = through_of (TextOf (One part) Fits false) [] k (t ∷ ts) (record { token = t; cause = g.2; tail = ts; at = refl; more = []; begins = (g.0, tt, (g.1, refl)) }) }

-- one token whose test gave a fault
taken_err : {A : Type 0} (test : Placed → Result A Fault) (part : A → Part) (Fits : A → Type 0) → TestStops test part Fits → (t : Placed) (ts : Tokens) (r : Result A Fault) (e : Fault × Tokens) → test t ≡ r → taken r t ts ≡ Err e → Stops (TextOf (One part) Fits) (t ∷ ts) e
taken_err test part Fits s t ts (Ok a) e told h = absurd cc
taken_err test part Fits s t ts (Err k) e told h = let d : (k, t ∷ ts) ≡ e = cc in subst (λ x. Stops (TextOf (One part) Fits) (t ∷ ts) x) d (accept_at test part Fits s t ts k (s.fault t k told))

-- a token stops where its test does
pub accept_viable : {A : Type 0} (test : Placed → Result A Fault) (part : A → Part) (Fits : A → Type 0) → TestStops test part Fits → (ts : Tokens) (e : Fault × Tokens) → accept test ts ≡ Err e → Stops (TextOf (One part) Fits) ts e
unfolding accept
accept_viable test part Fits s [] e h = let d : (Syntax, []) ≡ e = cc in subst (λ x. Stops (TextOf (One part) Fits) [] x) d (record { front = []; whole = refl; more = s.token ∷ []; begins = (s.value, s.fits, (s.is, refl)); through = tt })
accept_viable test part Fits s (t ∷ ts) e h = taken_err test part Fits s t ts (test t) e refl h

-- a token that may be eaten is never refused
eaten_err : (t : Placed) (ts : Tokens) (b : Bool) (e : Fault × Tokens) → eaten b t ts ≡ Err e → ⊥
eaten_err t ts true e h = absurd cc
eaten_err t ts false e h = absurd cc

-- eating never fails
pub eat_err : (test : Placed → Bool) (ts : Tokens) (e : Fault × Tokens) → eat test ts ≡ Err e → ⊥
unfolding eat
eat_err test [] e h = absurd cc
eat_err test (t ∷ ts) e h = eaten_err t ts (test t) e h

-- looking never fails
pub look_err : {A : Type 0} (none : A) (test : Placed → A) (ts : Tokens) (e : Fault × Tokens) → look none test ts ≡ Err e → ⊥
unfolding look
look_err none test [] e h = absurd cc
look_err none test (t ∷ ts) e h = absurd cc

-- the tokens before a fault of the parser begin a lawful text, and with the token of a fault that is none of syntax a text
abbrev pub Viable : {A : Type 0} → Parser A → (A → List Part) → (A → Type 0) → Type 0
Viable p spell Fits = (ts : Tokens) (e : Fault × Tokens) → p ts ≡ Err e → Stops (TextOf spell Fits) ts e

-- the same for fewer tokens than the size
abbrev pub ViableBelow : {A : Type 0} → ℕ → Parser A → (A → List Part) → (A → Type 0) → Type 0
ViableBelow size p spell Fits = (ts : Tokens) (e : Fault × Tokens) → length ts < size → p ts ≡ Err e → Stops (TextOf spell Fits) ts e

-- a list with one member at least
abbrev pub SomeText : {A : Type 0} → Part → (A → List Part) → (A → Type 0) → Bool → Tokens → Type 0
SomeText {A} comma spell Fits c ts = (a : A) × (all : List A) × Fitting c (AllByRecursion Fits (a ∷ all)) × Spells (separated comma spell (a ∷ all)) ts

-- a list of one member
one_text : {A : Type 0} (comma : Part) (spell : A → List Part) (Fits : A → Type 0) (c : Bool) (x : Tokens) → TextOf spell Fits c x → (y : Tokens) × SomeText comma spell Fits c (x ++ y)
one_text comma spell Fits c x t = ([], (t.0, [], both _ _ c t.1 tt, subst (λ z. Spells (spell t.0) z) (sym (append-nil x)) t.2))

-- one more member in front of a list
next_text : {A : Type 0} (comma : Part) (spell : A → List Part) (Fits : A → Type 0) (a : A) (head : Tokens) (t : Placed) → Fits a → Spells (spell a) head → IsPart comma t → (c : Bool) (x : Tokens) → SomeText comma spell Fits c x → SomeText comma spell Fits c ((head ++ t ∷ []) ++ x)
next_text comma spell Fits a head t fit spelled is c x s = (a, s.0 ∷ s.1, fits_as _ _ c (λ r. (fit, r)) s.2, subst (λ z. Spells (separated comma spell (a ∷ s.0 ∷ s.1)) z) (sym (append_assoc head (t ∷ []) x)) (takes_join (spell a) (comma ∷ separated comma spell (s.0 ∷ s.1)) (head ++ t ∷ x) (t ∷ x) [] (takes_onto (spell a) head (t ∷ x) spelled) (is, s.3)))

-- a separator, and the members that follow
separated_next : {A : Type 0} (p : Parser A) (spell : A → List Part) (Fits : A → Type 0) (comma : Part) (is_comma : Placed → Bool) (n : ℕ) → ((t : Placed) → is_comma t ≡ true → IsPart comma t) → ((found : List A) (us : Tokens) (e : Fault × Tokens) → length us < n → separated_from p is_comma n found us ≡ Err e → Stops (SomeText comma spell Fits) us e) → (found : List A) (a : A) (more : Bool) (ts us vs : Tokens) (e : Fault × Tokens) → (if more then separated_from p is_comma n (found ++ a ∷ []) else pure (found ++ a ∷ [])) vs ≡ Err e → length us < suc n → Front (spell a) ts us → Fits a → Eaten is_comma us more vs → Stops (SomeText comma spell Fits) ts e
separated_next p spell Fits comma is_comma n told again found a false ts us vs e h lt one fit eaten = absurd cc
separated_next p spell Fits comma is_comma n told again found a true ts us vs e h lt one fit eaten =
    let shorter : length us ≡ length (eaten.0 ∷ vs) = ap length eaten.1 in
    after_front (SomeText comma spell Fits) (SomeText comma spell Fits) (one.head ++ eaten.0 ∷ []) ts vs e
    (one.whole ∙ ap (λ x. one.head ++ x) eaten.1 ∙ sym (append_assoc one.head (eaten.0 ∷ []) vs))
    (next_text comma spell Fits a one.head eaten.0 fit one.spelled (told eaten.0 eaten.2))
    (again (found ++ a ∷ []) vs e (omega arith) h)

-- a list with separators stops where its members do
pub separated_viable : {A : Type 0} (p : Parser A) (spell : A → List Part) (Fits : A → Type 0) (comma : Part) (is_comma : Placed → Bool) → ((t : Placed) → is_comma t ≡ true → IsPart comma t) → Sound p spell Fits → Viable p spell Fits → (n : ℕ) (found : List A) (ts : Tokens) (e : Fault × Tokens) → length ts < n → separated_from p is_comma n found ts ≡ Err e → Stops (SomeText comma spell Fits) ts e
unfolding separated_from
separated_viable p spell Fits comma is_comma told sound viable zero found ts e lt h = absurd (omega arith)
separated_viable {A} p spell Fits comma is_comma told sound viable (suc n) found ts e lt h = elim (bind_err (p ts) _ e h) [
  | inl f ↦ before (TextOf spell Fits) (SomeText comma spell Fits) ts e (one_text comma spell Fits) (viable ts e f)
  | inr a ↦ elim (bind_err (eat is_comma a.0.1) _ e a.2) [
    | inl f ↦ absurd (eat_err is_comma a.0.1 e f)
    | inr b ↦
        let one = sound ts a.0 a.1 in
        let size : length a.0.1 + length (spell a.0.0) ≡ length ts = takes_shorter (spell a.0.0) ts a.0.1 one.0 in
        separated_next p spell Fits comma is_comma n told (separated_viable p spell Fits comma is_comma told sound viable n) found a.0.0 b.0.0 ts a.0.1 b.0.1 e b.2 (omega arith) (takes_front (spell a.0.0) ts a.0.1 one.0) one.1 (eat_ok is_comma a.0.1 b.0 b.1)
  ]
]

-- one more member in front
next_joined : {A : Type 0} (spell : A → List Part) (Fits : A → Type 0) (a : A) (head : Tokens) → Fits a → Spells (spell a) head → (c : Bool) (x : Tokens) → TextOf (flat_map spell) (AllByRecursion Fits) c x → TextOf (flat_map spell) (AllByRecursion Fits) c (head ++ x)
next_joined spell Fits a head fit spelled c x s = (a ∷ s.0, fits_as _ _ c (λ r. (fit, r)) s.1, takes_join (spell a) (flat_map spell s.0) (head ++ x) x [] (takes_onto (spell a) head x spelled) s.2)

-- a list of one member that a token ends
one_joined : {A : Type 0} (spell : A → List Part) (Fits : A → Type 0) (c : Bool) (x : Tokens) → TextOf spell Fits c x → (y : Tokens) × TextOf (flat_map spell) (AllByRecursion Fits) c (x ++ y)
one_joined spell Fits c x t = ([], (t.0 ∷ [], both _ _ c t.1 tt, subst (λ z. Spells (flat_map spell (t.0 ∷ [])) z) (sym (append-nil x)) (takes_join (spell t.0) [] x [] [] t.2 refl)))

-- one more member before the token that ends the list
until_next : {A : Type 0} (p : Parser A) (spell : A → List Part) (Fits : A → Type 0) (stop : Placed → Bool) (size : ℕ) → Sound p spell Fits → ViableBelow size p spell Fits → ((a : A) → 0 < length (spell a)) → (n : ℕ) → ((found : List A) (us : Tokens) (e : Fault × Tokens) → length us < n → length us < size → until_from p stop n found us ≡ Err e → Stops (TextOf (flat_map spell) (AllByRecursion Fits)) us e) → (found : List A) (stops : Bool) (ts : Tokens) (e : Fault × Tokens) → length ts < suc n → length ts < size → (if stops then pure found else (p >>= (λ a. until_from p stop n (found ++ a ∷ [])))) ts ≡ Err e → Stops (TextOf (flat_map spell) (AllByRecursion Fits)) ts e
until_next p spell Fits stop size sound viable some n again found true ts e lt short h = absurd cc
until_next p spell Fits stop size sound viable some n again found false ts e lt short h = elim (bind_err (p ts) _ e h) [
  | inl f ↦ before (TextOf spell Fits) (TextOf (flat_map spell) (AllByRecursion Fits)) ts e (one_joined spell Fits) (viable ts e short f)
  | inr a ↦
      let one = sound ts a.0 a.1 in
      let fewer : length a.0.1 + length (spell a.0.0) ≡ length ts = takes_shorter (spell a.0.0) ts a.0.1 one.0 in
      let nonempty : 0 < length (spell a.0.0) = some a.0.0 in
      let front = takes_front (spell a.0.0) ts a.0.1 one.0 in
      after_front (TextOf (flat_map spell) (AllByRecursion Fits)) (TextOf (flat_map spell) (AllByRecursion Fits)) front.head ts a.0.1 e front.whole (next_joined spell Fits a.0.0 front.head one.1 front.spelled) (again (found ++ a.0.0 ∷ []) a.0.1 e (omega arith) (omega arith) a.2)
]

-- a list up to the token that ends it stops where its members do; the size is a bound that members with lists of their own ask for
pub until_viable : {A : Type 0} (p : Parser A) (spell : A → List Part) (Fits : A → Type 0) (stop : Placed → Bool) (size : ℕ) → Sound p spell Fits → ViableBelow size p spell Fits → ((a : A) → 0 < length (spell a)) → (n : ℕ) (found : List A) (ts : Tokens) (e : Fault × Tokens) → length ts < n → length ts < size → until_from p stop n found ts ≡ Err e → Stops (TextOf (flat_map spell) (AllByRecursion Fits)) ts e
unfolding until_from
until_viable p spell Fits stop size sound viable some zero found ts e lt short h = absurd (omega arith)
until_viable p spell Fits stop size sound viable some (suc n) found ts e lt short h = elim (bind_err (look false stop ts) _ e h) [
  | inl f ↦ absurd (look_err false stop ts e f)
  | inr s ↦
      let same : ts ≡ s.0.1 = look_ok false stop ts s.0 s.1 in
      let length_same : length ts ≡ length s.0.1 = ap length same in
      subst (λ x. Stops (TextOf (flat_map spell) (AllByRecursion Fits)) x e) (sym same)
      (until_next p spell Fits stop size sound viable some n (until_viable p spell Fits stop size sound viable some n) found s.0.0 s.0.1 e (omega arith) (omega arith) s.2)
]

-- a list with a member is a list
some_listed : {A : Type 0} (comma : Part) (spell : A → List Part) (Fits : A → Type 0) (c : Bool) (x : Tokens) → SomeText comma spell Fits c x → (y : Tokens) × TextOf (separated comma spell) (AllByRecursion Fits) c (x ++ y)
some_listed comma spell Fits c x s = ([], (s.0 ∷ s.1, s.2, subst (λ z. Spells (separated comma spell (s.0 ∷ s.1)) z) (sym (append-nil x)) s.3))

-- an empty list never stops, and one with a member where its members do
listed_next : {A : Type 0} (p : Parser A) (spell : A → List Part) (Fits : A → Type 0) (comma : Part) (is_comma : Placed → Bool) → ((t : Placed) → is_comma t ≡ true → IsPart comma t) → Sound p spell Fits → Viable p spell Fits → (n : ℕ) (none : Bool) (ts : Tokens) (e : Fault × Tokens) → length ts < n → (if none then pure [] else separated_from p is_comma n []) ts ≡ Err e → Stops (TextOf (separated comma spell) (AllByRecursion Fits)) ts e
listed_next p spell Fits comma is_comma told sound viable n true ts e lt h = absurd cc
listed_next p spell Fits comma is_comma told sound viable n false ts e lt h = before (SomeText comma spell Fits) (TextOf (separated comma spell) (AllByRecursion Fits)) ts e (some_listed comma spell Fits) (separated_viable p spell Fits comma is_comma told sound viable n [] ts e lt h)

-- a list with separators that may be empty stops where its members do
pub listed_viable : {A : Type 0} (p : Parser A) (spell : A → List Part) (Fits : A → Type 0) (comma : Part) (is_comma stop : Placed → Bool) → ((t : Placed) → is_comma t ≡ true → IsPart comma t) → Sound p spell Fits → Viable p spell Fits → (n : ℕ) (ts : Tokens) (e : Fault × Tokens) → length ts < n → listed p is_comma stop n ts ≡ Err e → Stops (TextOf (separated comma spell) (AllByRecursion Fits)) ts e
unfolding listed
listed_viable {A} p spell Fits comma is_comma stop told sound viable n ts e lt h = elim (bind_err (look false stop ts) _ e h) [
  | inl f ↦ absurd (look_err false stop ts e f)
  | inr s ↦
      let same : ts ≡ s.0.1 = look_ok false stop ts s.0 s.1 in
      let size : length ts ≡ length s.0.1 = ap length same in
      subst (λ x. Stops (TextOf (separated comma spell) (AllByRecursion Fits)) x e) (sym same)
      (listed_next p spell Fits comma is_comma told sound viable n s.0.0 s.0.1 e (omega arith) s.2)
]

-- parts one after the other spell what follows one the other
pub spells_join : (P Q : List Part) (xs ys : Tokens) → Spells P xs → Spells Q ys → Spells (P ++ Q) (xs ++ ys)
spells_join P Q xs ys p q = takes_join P Q (xs ++ ys) ys [] (takes_onto P xs ys p) q

-- a parser, then another: the first one's fault where its texts go on, or the second one's after a text of the first
pub sub_step : {A B : Type 0} (p : Parser A) (f : A → Parser B) (spell : A → List Part) (Fits : A → Type 0) (R : Bool → Tokens → Type 0) (ts : Tokens) (e : Fault × Tokens) → Sound p spell Fits → Viable p spell Fits → (p >>= f) ts ≡ Err e
    → ((c : Bool) (a : A) (x : Tokens) → Spells (spell a) x → Fitting c (Fits a) → (y : Tokens) × R c (x ++ y))
    → ((a : A) (head us : Tokens) → Spells (spell a) head → Fits a → f a us ≡ Err e → Stops (λ c x. R c (head ++ x)) us e)
    → Stops R ts e
sub_step p f spell Fits R ts e sound viable h complete rest = elim (bind_err (p ts) f e h) [
  | inl d ↦ before (TextOf spell Fits) R ts e (λ c x t. complete c t.0 x t.2 t.1) (viable ts e d)
  | inr a ↦
      let one = sound ts a.0 a.1 in
      let front = takes_front (spell a.0.0) ts a.0.1 one.0 in
      after_front (λ c x. R c (front.head ++ x)) R front.head ts a.0.1 e front.whole (λ c x r. r) (rest a.0.0 front.head a.0.1 front.spelled one.1 a.2)
]

-- a token that was eaten or not, and then another parser
eat_step_told : {B : Type 0} (test : Placed → Bool) (f : Bool → Parser B) (R : Bool → Tokens → Type 0) (ts us : Tokens) (b : Bool) (e : Fault × Tokens) → Eaten test ts b us → f b us ≡ Err e
    → ((t : Placed) (vs : Tokens) → test t ≡ true → f true vs ≡ Err e → Stops (λ c x. R c (t ∷ x)) vs e)
    → (f false ts ≡ Err e → Stops R ts e)
    → Stops R ts e
eat_step_told test f R ts us true e k h some none = after_front (λ c x. R c (k.0 ∷ x)) R (k.0 ∷ []) ts us e k.1 (λ c x r. r) (some k.0 us k.2 h)
eat_step_told test f R ts us false e k h some none = none (ap (f false) k ∙ h)

-- a token that may be eaten, and then another parser
pub eat_step : {B : Type 0} (test : Placed → Bool) (f : Bool → Parser B) (R : Bool → Tokens → Type 0) (ts : Tokens) (e : Fault × Tokens) → (eat test >>= f) ts ≡ Err e
    → ((t : Placed) (vs : Tokens) → test t ≡ true → f true vs ≡ Err e → Stops (λ c x. R c (t ∷ x)) vs e)
    → (f false ts ≡ Err e → Stops R ts e)
    → Stops R ts e
eat_step test f R ts e h some none = elim (bind_err (eat test ts) f e h) [
  | inl d ↦ absurd (eat_err test ts e d)
  | inr b ↦ eat_step_told test f R ts b.0.1 b.0.0 e (eat_ok test ts b.0 b.1) b.2 some none
]

-- a token that was looked at, and then another parser
pub look_step : {A B : Type 0} (none : A) (test : Placed → A) (f : A → Parser B) (R : Bool → Tokens → Type 0) (ts : Tokens) (e : Fault × Tokens) → (look none test >>= f) ts ≡ Err e → ((a : A) → look none test ts ≡ Ok (a, ts) → f a ts ≡ Err e → Stops R ts e) → Stops R ts e
look_step none test f R ts e h go = elim (bind_err (look none test ts) f e h) [
  | inl d ↦ absurd (look_err none test ts e d)
  | inr a ↦
      let same : ts ≡ a.0.1 = look_ok none test ts a.0 a.1 in
      go a.0.0 (a.1 ∙ ap (λ x. Ok (a.0.0, x)) (sym same)) (ap (f a.0.0) same ∙ a.2)
]

-- the same with what is left being shorter, for rules with a bound on their turns
pub sub_short : {A B : Type 0} (p : Parser A) (f : A → Parser B) (spell : A → List Part) (Fits : A → Type 0) (R : Bool → Tokens → Type 0) (ts : Tokens) (e : Fault × Tokens) → Sound p spell Fits → (p ts ≡ Err e → Stops (TextOf spell Fits) ts e) → (p >>= f) ts ≡ Err e
    → ((c : Bool) (a : A) (x : Tokens) → Spells (spell a) x → Fitting c (Fits a) → (y : Tokens) × R c (x ++ y))
    → ((a : A) (head us : Tokens) → Spells (spell a) head → Fits a → length us + length (spell a) ≡ length ts → f a us ≡ Err e → Stops (λ c x. R c (head ++ x)) us e)
    → Stops R ts e
sub_short p f spell Fits R ts e sound viable h complete rest = elim (bind_err (p ts) f e h) [
  | inl d ↦ before (TextOf spell Fits) R ts e (λ c x t. complete c t.0 x t.2 t.1) (viable d)
  | inr a ↦
      let one = sound ts a.0 a.1 in
      let front = takes_front (spell a.0.0) ts a.0.1 one.0 in
      after_front (λ c x. R c (front.head ++ x)) R front.head ts a.0.1 e front.whole (λ c x r. r) (rest a.0.0 front.head a.0.1 front.spelled one.1 (takes_shorter (spell a.0.0) ts a.0.1 one.0) a.2)
]

-- a token that was eaten or not, and then another parser over fewer tokens
eat_short_told : {B : Type 0} (test : Placed → Bool) (f : Bool → Parser B) (R : Bool → Tokens → Type 0) (ts us : Tokens) (b : Bool) (e : Fault × Tokens) → Eaten test ts b us → f b us ≡ Err e
    → ((t : Placed) (vs : Tokens) → test t ≡ true → length vs < length ts → f true vs ≡ Err e → Stops (λ c x. R c (t ∷ x)) vs e)
    → (f false ts ≡ Err e → Stops R ts e)
    → Stops R ts e
eat_short_told test f R ts us true e k h some none =
    let size : length ts ≡ length (k.0 ∷ us) = ap length k.1 in
    after_front (λ c x. R c (k.0 ∷ x)) R (k.0 ∷ []) ts us e k.1 (λ c x r. r) (some k.0 us k.2 (omega arith) h)
eat_short_told test f R ts us false e k h some none = none (ap (f false) k ∙ h)

-- a token that may be eaten, and then another parser over fewer tokens
pub eat_short : {B : Type 0} (test : Placed → Bool) (f : Bool → Parser B) (R : Bool → Tokens → Type 0) (ts : Tokens) (e : Fault × Tokens) → (eat test >>= f) ts ≡ Err e
    → ((t : Placed) (vs : Tokens) → test t ≡ true → length vs < length ts → f true vs ≡ Err e → Stops (λ c x. R c (t ∷ x)) vs e)
    → (f false ts ≡ Err e → Stops R ts e)
    → Stops R ts e
eat_short test f R ts e h some none = elim (bind_err (eat test ts) f e h) [
  | inl d ↦ absurd (eat_err test ts e d)
  | inr b ↦ eat_short_told test f R ts b.0.1 b.0.0 e (eat_ok test ts b.0 b.1) b.2 some none
]
