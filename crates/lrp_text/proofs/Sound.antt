-- What is read is spelled so: inversion of the parsers that are done.
use Rattle.std.proofs.Common.{◌≡◌, ℕ, zero, suc, Bool, true, false, List, [], ◌∷◌, ◌++◌, refl, ap, ◌∙◌, sym, subst, Ok, Err, if◌then◌else◌, append_assoc, append-nil, Result, length, arith, ◌+◌}
use Rattle.std.specs.List.{AllByRecursion, flat_map}
use Rattle.lrp_model.specs.declared.tokens.Fault.{Fault}
use Rattle.lrp_model.specs.Tokens.{Placed, Tokens, Part, IsPart, Takes, Spells, separated}
use Rattle.lrp_text.specs.Parsers.{ParseOutcome, Parser, and_then, ◌>>=◌, pure, taken, accept, look, eaten, eat, separated_from, until_from, listed}

-- parts one after the other
pub takes_join : (P Q : List Part) (ts us vs : Tokens) → Takes P ts us → Takes Q us vs → Takes (P ++ Q) ts vs
takes_join [] Q ts us vs p q = subst (λ x. Takes Q x vs) (sym p) q
takes_join (a ∷ P) Q [] us vs p q = absurd p
takes_join (a ∷ P) Q (t ∷ ts) us vs p q = (p.0, takes_join P Q ts us vs p.1 q)

-- parts one after the other, taken apart
pub takes_split : (P Q : List Part) (ts vs : Tokens) → Takes (P ++ Q) ts vs → (us : Tokens) × Takes P ts us × Takes Q us vs
takes_split [] Q ts vs h = (ts, refl, h)
takes_split (a ∷ P) Q [] vs h = absurd h
takes_split (a ∷ P) Q (t ∷ ts) vs h = let k = takes_split P Q ts vs h.1 in (k.0, (h.0, k.1), k.2)

-- two parsers that are done, taken apart
pub bind_ok : {A B : Type 0} (o : ParseOutcome A) (f : A → Parser B) (y : B × Tokens) → and_then o f ≡ Ok y → (q : A × Tokens) × (o ≡ Ok q) × (f q.0 q.1 ≡ Ok y)
bind_ok (Ok q) f y e = (q, refl, e)
bind_ok (Err x) f y e = absurd cc

-- a token that was taken, and what its test gave
pub record Took {A : Type 0} (test : Placed → Result A Fault) (ts : Tokens) (q : A × Tokens) : Type 0 where
  pub t : Placed
  pub whole : ts ≡ t ∷ q.1
  pub told : test t ≡ Ok q.0

-- one token whose test gave a value
took_at : {A : Type 0} (test : Placed → Result A Fault) (t : Placed) (ts : Tokens) (r : Result A Fault) (q : A × Tokens) → test t ≡ r → taken r t ts ≡ Ok q → Took test (t ∷ ts) q
took_at test t ts (Ok a) q told e =
    let h : (a, ts) ≡ q = cc in
    record { t = t; whole = ap (λ p. t ∷ p.1) h; told = told ∙ ap (λ p. Ok p.0) h }
took_at test t ts (Err k) q told e = absurd cc

-- what was taken stood there
pub accept_ok : {A : Type 0} (test : Placed → Result A Fault) (ts : Tokens) (q : A × Tokens) → accept test ts ≡ Ok q → Took test ts q
unfolding accept
accept_ok test [] q e = absurd cc
accept_ok test (t ∷ ts) q e = took_at test t ts (test t) q refl e

-- a token was eaten, or none
abbrev pub Eaten : (Placed → Bool) → Tokens → Bool → Tokens → Type 0
Eaten test ts true us = (t : Placed) × (ts ≡ t ∷ us) × (test t ≡ true)
Eaten test ts false us = ts ≡ us

-- one token that may have been eaten
eaten_ok : (test : Placed → Bool) (t : Placed) (ts : Tokens) (r : Bool) (q : Bool × Tokens) → test t ≡ r → eaten r t ts ≡ Ok q → Eaten test (t ∷ ts) q.0 q.1
eaten_ok test t ts true q told e = let h : (true, ts) ≡ q = cc in subst (λ p. Eaten test (t ∷ ts) p.0 p.1) h (t, refl, told)
eaten_ok test t ts false q told e = let h : (false, t ∷ ts) ≡ q = cc in subst (λ p. Eaten test (t ∷ ts) p.0 p.1) h refl

-- what was eaten stood there
pub eat_ok : (test : Placed → Bool) (ts : Tokens) (q : Bool × Tokens) → eat test ts ≡ Ok q → Eaten test ts q.0 q.1
unfolding eat
eat_ok test [] q e = let h : (false, []) ≡ q = cc in subst (λ p. Eaten test [] p.0 p.1) h refl
eat_ok test (t ∷ ts) q e = eaten_ok test t ts (test t) q refl e

-- what was looked at is still there
pub look_ok : {A : Type 0} (none : A) (test : Placed → A) (ts : Tokens) (q : A × Tokens) → look none test ts ≡ Ok q → ts ≡ q.1
unfolding look
look_ok none test [] q e = let h : (none, []) ≡ q = cc in ap (λ p. p.1) h
look_ok none test (t ∷ ts) q e = let h : (test t, t ∷ ts) ≡ q = cc in ap (λ p. p.1) h

-- what was seen is the next token's
pub look_seen : {A : Type 0} (none : A) (test : Placed → A) (t : Placed) (ts : Tokens) (q : A × Tokens) → look none test (t ∷ ts) ≡ Ok q → test t ≡ q.0
unfolding look
look_seen none test t ts q e = let h : (test t, t ∷ ts) ≡ q = cc in ap (λ p. p.0) h

-- what a parser gives is lawful, and the tokens spell it
abbrev pub Sound : {A : Type 0} → Parser A → (A → List Part) → (A → Type 0) → Type 0
Sound {A} p spell Fits = (ts : Tokens) (q : A × Tokens) → p ts ≡ Ok q → Takes (spell q.0) ts q.1 × Fits q.0

-- a part that was eaten, or none
abbrev pub eaten_parts : Part → Bool → List Part
eaten_parts part true = part ∷ []
eaten_parts part false = []

-- a token of the test is this part
eat_told : (test : Placed → Bool) (part : Part) → ((t : Placed) → test t ≡ true → IsPart part t) → (ts : Tokens) (b : Bool) (us : Tokens) → Eaten test ts b us → Takes (eaten_parts part b) ts us
eat_told test part told ts true us e = subst (λ x. Takes (part ∷ []) x us) (sym e.1) (told e.0 e.2, refl)
eat_told test part told ts false us e = e

-- what was eaten is spelled so
pub eat_sound : (test : Placed → Bool) (part : Part) → ((t : Placed) → test t ≡ true → IsPart part t) → (ts : Tokens) (q : Bool × Tokens) → eat test ts ≡ Ok q → Takes (eaten_parts part q.0) ts q.1
eat_sound test part told ts q e = eat_told test part told ts q.0 q.1 (eat_ok test ts q e)

-- what was taken is spelled so
pub accept_sound : {A : Type 0} (test : Placed → Result A Fault) (part : A → Part) → ((t : Placed) (a : A) → test t ≡ Ok a → IsPart (part a) t) → (ts : Tokens) (q : A × Tokens) → accept test ts ≡ Ok q → Takes (part q.0 ∷ []) ts q.1
accept_sound test part told ts q e =
    let k = accept_ok test ts q e in
    subst (λ x. Takes (part q.0 ∷ []) x q.1) (sym k.whole) (told k.t q.0 k.told, refl)

-- the members that were read after those found
pub record ListRead {A : Type 0} (spells : List A → List Part) (Fits : A → Type 0) (found : List A) (ts : Tokens) (q : List A × Tokens) : Type 0 where
  pub all : List A
  pub made : q.0 ≡ found ++ all
  pub spelled : Takes (spells all) ts q.1
  pub fits : AllByRecursion Fits all

-- one member at least was read after those found
abbrev pub SomeRead : {A : Type 0} → Part → (A → List Part) → (A → Type 0) → List A → Tokens → List A × Tokens → Type 0
SomeRead {A} comma spell Fits found ts q = (a : A) × (all : List A) × (q.0 ≡ found ++ a ∷ all) × Takes (separated comma spell (a ∷ all)) ts q.1 × AllByRecursion Fits (a ∷ all)

-- one more member, or none
separated_more : {A : Type 0} (p : Parser A) (spell : A → List Part) (Fits : A → Type 0) (comma : Part) (is_comma : Placed → Bool) (n : ℕ) → ((found : List A) (us : Tokens) (q : List A × Tokens) → separated_from p is_comma n found us ≡ Ok q → SomeRead comma spell Fits found us q) → (found : List A) (a : A) (more : Bool) (ts us vs : Tokens) (q : List A × Tokens) → (if more then separated_from p is_comma n (found ++ a ∷ []) else pure (found ++ a ∷ [])) vs ≡ Ok q → Takes (spell a) ts us → Fits a → Takes (eaten_parts comma more) us vs → SomeRead comma spell Fits found ts q
separated_more p spell Fits comma is_comma n again found a false ts us vs q e one fit eaten =
    let h : (found ++ a ∷ [], vs) ≡ q = cc in
    (a, [], sym (ap (λ p. p.0) h), subst (λ x. Takes (spell a) ts x) (eaten ∙ ap (λ p. p.1) h) one, (fit, tt))
separated_more p spell Fits comma is_comma n again found a true ts us vs q e one fit eaten =
    let rest = again (found ++ a ∷ []) vs q e in
    (a, rest.0 ∷ rest.1, rest.2 ∙ append_assoc found (a ∷ []) (rest.0 ∷ rest.1), takes_join (spell a) (comma ∷ separated comma spell (rest.0 ∷ rest.1)) ts us q.1 one (takes_join (comma ∷ []) (separated comma spell (rest.0 ∷ rest.1)) us vs q.1 eaten rest.3), (fit, rest.4))

-- a list with separators is spelled so
pub separated_sound : {A : Type 0} (p : Parser A) (spell : A → List Part) (Fits : A → Type 0) (comma : Part) (is_comma : Placed → Bool) → ((t : Placed) → is_comma t ≡ true → IsPart comma t) → Sound p spell Fits → (n : ℕ) (found : List A) (ts : Tokens) (q : List A × Tokens) → separated_from p is_comma n found ts ≡ Ok q → SomeRead comma spell Fits found ts q
unfolding separated_from
separated_sound p spell Fits comma is_comma told sound zero found ts q e = absurd cc
separated_sound p spell Fits comma is_comma told sound (suc n) found ts q e =
    let a = bind_ok (p ts) _ q e in
    let b = bind_ok (eat is_comma a.0.1) _ q a.2 in
    let one = sound ts a.0 a.1 in
    separated_more p spell Fits comma is_comma n (separated_sound p spell Fits comma is_comma told sound n) found a.0.0 b.0.0 ts a.0.1 b.0.1 q b.2 one.0 one.1 (eat_sound is_comma comma told a.0.1 b.0 b.1)

-- one more member before the token that ends the list
until_more : {A : Type 0} (p : Parser A) (spell : A → List Part) (Fits : A → Type 0) (stop : Placed → Bool) → Sound p spell Fits → (n : ℕ) → ((found : List A) (us : Tokens) (q : List A × Tokens) → until_from p stop n found us ≡ Ok q → ListRead (flat_map spell) Fits found us q) → (found : List A) (stops : Bool) (ts : Tokens) (q : List A × Tokens) → (if stops then pure found else (p >>= (λ a. until_from p stop n (found ++ a ∷ [])))) ts ≡ Ok q → ListRead (flat_map spell) Fits found ts q
until_more p spell Fits stop sound n again found true ts q e =
    let h : (found, ts) ≡ q = cc in
    record { all = []; made = sym (ap (λ p. p.0) h) ∙ sym (append-nil found); spelled = ap (λ p. p.1) h; fits = tt }
until_more p spell Fits stop sound n again found false ts q e =
    let a = bind_ok (p ts) _ q e in
    let one = sound ts a.0 a.1 in
    let rest = again (found ++ a.0.0 ∷ []) a.0.1 q a.2 in
    record {
      all = a.0.0 ∷ rest.all;
      made = rest.made ∙ append_assoc found (a.0.0 ∷ []) rest.all;
      spelled = takes_join (spell a.0.0) (flat_map spell rest.all) ts a.0.1 q.1 one.0 rest.spelled;
      fits = (one.1, rest.fits);
    }

-- a list up to a token is spelled so
pub until_sound : {A : Type 0} (p : Parser A) (spell : A → List Part) (Fits : A → Type 0) (stop : Placed → Bool) → Sound p spell Fits → (n : ℕ) (found : List A) (ts : Tokens) (q : List A × Tokens) → until_from p stop n found ts ≡ Ok q → ListRead (flat_map spell) Fits found ts q
unfolding until_from
until_sound p spell Fits stop sound zero found ts q e = absurd cc
until_sound p spell Fits stop sound (suc n) found ts q e =
    let s = bind_ok (look false stop ts) _ q e in
    subst (λ x. ListRead (flat_map spell) Fits found x q) (sym (look_ok false stop ts s.0 s.1))
    (until_more p spell Fits stop sound n (until_sound p spell Fits stop sound n) found s.0.0 s.0.1 q s.2)

-- the tokens that the parts take
pub record Front (P : List Part) (ts us : Tokens) : Type 0 where
  pub head : Tokens
  pub whole : ts ≡ head ++ us
  pub spelled : Spells P head

-- what parts take stands in front
pub takes_front : (P : List Part) (ts us : Tokens) → Takes P ts us → Front P ts us
takes_front [] ts us h = record { head = []; whole = h; spelled = refl }
takes_front (a ∷ P) [] us h = absurd h
takes_front (a ∷ P) (t ∷ ts) us h = let k = takes_front P ts us h.1 in record { head = t ∷ k.head; whole = ap (λ x. t ∷ x) k.whole; spelled = (h.0, k.spelled) }

-- no token comes back
pub takes_shorter : (P : List Part) (ts us : Tokens) → Takes P ts us → length us + length P ≡ length ts
takes_shorter [] ts us h = let k : length ts ≡ length us = ap length h in omega arith
takes_shorter (a ∷ P) [] us h = absurd h
takes_shorter (a ∷ P) (t ∷ ts) us h = let k = takes_shorter P ts us h.1 in omega arith

-- other tokens after a text
pub takes_onto : (P : List Part) (head us : Tokens) → Spells P head → Takes P (head ++ us) us
takes_onto [] head us h = ap (λ x. x ++ us) h
takes_onto (a ∷ P) [] us h = absurd h
takes_onto (a ∷ P) (t ∷ head) us h = (h.0, takes_onto P head us h.1)

-- an empty list, or one with a member
listed_more : {A : Type 0} (p : Parser A) (spell : A → List Part) (Fits : A → Type 0) (comma : Part) (is_comma : Placed → Bool) → ((t : Placed) → is_comma t ≡ true → IsPart comma t) → Sound p spell Fits → (n : ℕ) (none : Bool) (ts : Tokens) (q : List A × Tokens) → (if none then pure [] else separated_from p is_comma n []) ts ≡ Ok q → Takes (separated comma spell q.0) ts q.1 × AllByRecursion Fits q.0
listed_more p spell Fits comma is_comma told sound n true ts q e = let h : ([], ts) ≡ q = cc in subst (λ y. Takes (separated comma spell y.0) ts y.1 × AllByRecursion Fits y.0) h (refl, tt)
listed_more {A} p spell Fits comma is_comma told sound n false ts q e =
    let s = separated_sound p spell Fits comma is_comma told sound n [] ts q e in
    let R : List A → Type 0 = λ l. Takes (separated comma spell l) ts q.1 × AllByRecursion Fits l in
    subst R (sym s.2) (s.3, s.4)

-- a list with separators that may be empty is spelled so
pub listed_sound : {A : Type 0} (p : Parser A) (spell : A → List Part) (Fits : A → Type 0) (comma : Part) (is_comma stop : Placed → Bool) → ((t : Placed) → is_comma t ≡ true → IsPart comma t) → Sound p spell Fits → (n : ℕ) → Sound (listed p is_comma stop n) (separated comma spell) (AllByRecursion Fits)
unfolding listed
listed_sound p spell Fits comma is_comma stop told sound n ts q e =
    let s = bind_ok (look false stop ts) _ q e in
    subst (λ x. Takes (separated comma spell q.0) x q.1 × AllByRecursion Fits q.0) (sym (look_ok false stop ts s.0 s.1))
    (listed_more p spell Fits comma is_comma told sound n s.0.0 s.0.1 q s.2)

-- a token that was taken, and what its value keeps
pub accept_gives : {A : Type 0} (test : Placed → Result A Fault) (part : A → Part) (Fits : A → Type 0) → ((t : Placed) (a : A) → test t ≡ Ok a → IsPart (part a) t) → ((t : Placed) (a : A) → test t ≡ Ok a → Fits a) → (ts : Tokens) (q : A × Tokens) → accept test ts ≡ Ok q → Takes (part q.0 ∷ []) ts q.1 × Fits q.0
accept_gives test part Fits told fits ts q e =
    let k = accept_ok test ts q e in
    (accept_sound test part told ts q e, fits k.t q.0 k.told)
