-- What a parser owes its texts: one record, which holds of parsers that are put together where it holds of their parts.
use Rattle.std.proofs.Common.{◌≡◌, ◌⊎◌, inl, inr, ◌≤◌, ◌<◌, ◌+◌, ℕ, zero, suc, Bool, true, false, List, [], ◌∷◌, ◌++◌, length, refl, ap, sym, ◌∙◌, subst, Ok, Err, Result, if◌then◌else◌, append_assoc, append-nil, arith}
use Rattle.std.proofs.lemmas.List.{length-append}
use Rattle.lrp_model.specs.declared.tokens.Fault.{Fault}
use Rattle.lrp_model.specs.declared.tokens.Fault.TheVariants.{Syntax}
use Rattle.lrp_model.specs.Tokens.{Token, Placed, Tokens, Part, IsPart, Takes, Spells}
use Rattle.lrp_model.specs.Refused.{Fitting, Stops, TextOf}
use Rattle.lrp_text.specs.Parsers.{Parser, and_then, ◌>>=◌, pure, accept, look, eat, eaten, separated_from}
use Rattle.lrp_text.proofs.Complete.{Answers, answers_then, answers_as, ReadsBack, IsNot, Sees, accept_back, eats_none, looks, Tells as TestTells}
use Rattle.lrp_text.proofs.Sound.{Sound, bind_ok, accept_ok, eat_ok, Eaten, look_ok, takes_onto, takes_front}
use Rattle.lrp_text.proofs.Viable.{Viable, One, TestStops, accept_viable, bind_err, before, after_front, always, eat_err, look_err}
use Rattle.lrp_text.proofs.Local.{Local, bind_local, accept_local, pure_local, fail_local, eat_local, look_local}
use Rattle.lrp_query.specs.Rules.{is_hole_token}
use Rattle.lrp_query.specs.Grammars.{meant}
use Rattle.lrp_query.proofs.Marks.{LeafAt}
use Rattle.lrp_query.proofs.WideTold.{Cut, Tells, pure_tells, fail_tells, sooner, alike_tells, token_tells, eat_tells, look_tells, bind_tells}

-- the cut of the program: a hole alone stands for a formula that is too deep
abbrev pub holes : Cut
holes = meant.cut

-- what is read of tokens, up to those left after it, where the flag is set the lawful
abbrev pub Language : Type 0 → Type 1
Language V = Bool → V → Tokens → Tokens → Type 0

-- the same of all tokens, whatever they mean
abbrev pub Texts : {V : Type 0} → Language V → Bool → Tokens → Type 0
Texts {V} T c x = (v : V) × T c v x []

-- the tokens before those left, which others may follow
pub record Front {V : Type 0} (T : Language V) (c : Bool) (v : V) (ts us : Tokens) : Type 0 where
  pub head : Tokens
  pub whole : ts ≡ head ++ us
  pub again : (x : Tokens) → T c v (head ++ x) x

-- what a parser owes texts below a size: it reads lawful texts and no others, where the next token may follow them, refuses an unlawful one for another cause than syntax, stops after the front of a lawful text, depends on the next token alone, and tells what its cut decides on
pub record Rule {V : Type 0} (size : ℕ) (late : Bool) (follow : Tokens → Type 0) (T : Language V) (p : Cut → Parser V) : Type 0 where
  pub weaker : (c : Bool) (v : V) (ts us : Tokens) → T true v ts us → T c v ts us
  pub front : (c : Bool) (v : V) (ts us : Tokens) → T c v ts us → Front T c v ts us
  pub sound : (ts : Tokens) (q : V × Tokens) → p holes ts ≡ Ok q → T true q.0 ts q.1
  pub complete : (c : Bool) (v : V) (ts left : Tokens) → length ts < size → T c v ts left → follow left → Answers (p holes ts) v left (c ≡ true)
  pub value : V
  pub tokens : Tokens
  pub some : T true value tokens []
  pub viable : (ts : Tokens) (e : Fault × Tokens) → length ts < size → p holes ts ≡ Err e → Stops (Texts T) ts e
  pub local : (c : Cut) → Local (p c)
  pub told : Tells late p

-- the same but for what its cut decides on
pub record Untold {V : Type 0} (size : ℕ) (follow : Tokens → Type 0) (T : Language V) (p : Cut → Parser V) : Type 0 where
  pub weaker : (c : Bool) (v : V) (ts us : Tokens) → T true v ts us → T c v ts us
  pub front : (c : Bool) (v : V) (ts us : Tokens) → T c v ts us → Front T c v ts us
  pub sound : (ts : Tokens) (q : V × Tokens) → p holes ts ≡ Ok q → T true q.0 ts q.1
  pub complete : (c : Bool) (v : V) (ts left : Tokens) → length ts < size → T c v ts left → follow left → Answers (p holes ts) v left (c ≡ true)
  pub value : V
  pub tokens : Tokens
  pub some : T true value tokens []
  pub viable : (ts : Tokens) (e : Fault × Tokens) → length ts < size → p holes ts ≡ Err e → Stops (Texts T) ts e
  pub local : (c : Cut) → Local (p c)

pub untold : {V : Type 0} {size : ℕ} {late : Bool} {F : Tokens → Type 0} {T : Language V} {p : Cut → Parser V} → Rule size late F T p → Untold size F T p
untold one = record { weaker = one.weaker; front = one.front; sound = one.sound; complete = one.complete; value = one.value; tokens = one.tokens; some = one.some; viable = one.viable; local = one.local }

-- ---- lists of tokens

left_shorter : (xs ys ts : Tokens) → ts ≡ xs ++ ys → length ys ≤ length ts
left_shorter xs ys ts e =
    let long : length ts ≡ length xs + length ys = ap length e ∙ length-append xs ys in
    omega (arith, long)

-- the left tokens are no more
pub fewer : {V : Type 0} (T : Language V) (c : Bool) (v : V) (ts us : Tokens) → Front T c v ts us → length us ≤ length ts
fewer T c v ts us f = left_shorter f.head us ts f.whole

-- other tokens after a text
pub onto : {V : Type 0} (T : Language V) (c : Bool) (v : V) (x y : Tokens) → Front T c v x [] → T c v (x ++ y) y
onto T c v x y f = subst (λ h. T c v (h ++ y) y) (sym (f.whole ∙ append-nil f.head)) (f.again y)

-- what is lawful where the flag is set
pub fit_if : (P : Type 0) (c : Bool) → Fitting c P → c ≡ true → P
fit_if P true f e = f
fit_if P false f e = absurd cc

-- parts that are one token
pub one_token : (q : Part) (x : Tokens) → Takes (q ∷ []) x [] → (t : Placed) × (x ≡ t ∷ []) × IsPart q t
one_token q [] h = absurd h
one_token q (t ∷ ts) h = (t, ap (λ y. t ∷ y) h.1, h.0)

-- ---- other texts, sizes and tokens that follow

pub as_rule : {V : Type 0} {size : ℕ} {late : Bool} {F : Tokens → Type 0} {T : Language V} (U : Language V) {p : Cut → Parser V} → Rule size late F T p → ((c : Bool) (v : V) (ts us : Tokens) → T c v ts us → U c v ts us) → ((c : Bool) (v : V) (ts us : Tokens) → U c v ts us → T c v ts us) → Rule size late F U p
as_rule {V} {size} {late} {F} {T} U one there back = record {
  weaker = λ c v ts us t. there c v ts us (one.weaker c v ts us (back true v ts us t));
  front = λ c v ts us t. let f = one.front c v ts us (back c v ts us t) in record { head = f.head; whole = f.whole; again = λ x. there c v (f.head ++ x) x (f.again x) };
  sound = λ ts q e. there true q.0 ts q.1 (one.sound ts q e);
  complete = λ c v ts left lt t g. one.complete c v ts left lt (back c v ts left t) g;
  value = one.value;
  tokens = one.tokens;
  some = there true one.value one.tokens [] one.some;
  viable = λ ts e lt h. after_front (Texts T) (Texts U) [] ts ts e refl (λ c x t. (t.0, there c t.0 x [] t.1)) (one.viable ts e lt h);
  local = one.local;
  told = one.told;
}

pub below_rule : {V : Type 0} {size : ℕ} {late : Bool} {F : Tokens → Type 0} {T : Language V} {p : Cut → Parser V} (n : ℕ) → n ≤ size → Rule size late F T p → Rule n late F T p
below_rule n low one = record {
  weaker = one.weaker;
  front = one.front;
  sound = one.sound;
  complete = λ c v ts left lt t g. one.complete c v ts left (omega (arith, lt, low)) t g;
  value = one.value;
  tokens = one.tokens;
  some = one.some;
  viable = λ ts e lt h. one.viable ts e (omega (arith, lt, low)) h;
  local = one.local;
  told = one.told;
}

pub sooner_rule : {V : Type 0} {size : ℕ} (late : Bool) {F : Tokens → Type 0} {T : Language V} {p : Cut → Parser V} → Rule size late F T p → Rule size false F T p
sooner_rule late {p = p} one = record { weaker = one.weaker; front = one.front; sound = one.sound; complete = one.complete; value = one.value; tokens = one.tokens; some = one.some; viable = one.viable; local = one.local; told = sooner late p one.told }

pub follow_rule : {V : Type 0} {size : ℕ} {late : Bool} {F : Tokens → Type 0} (G : Tokens → Type 0) {T : Language V} {p : Cut → Parser V} → ((left : Tokens) → G left → F left) → Rule size late F T p → Rule size late G T p
follow_rule G may one = record { weaker = one.weaker; front = one.front; sound = one.sound; complete = λ c v ts left lt t g. one.complete c v ts left lt t (may left g); value = one.value; tokens = one.tokens; some = one.some; viable = one.viable; local = one.local; told = one.told }

-- a parser that answers alike
pub alike_rule : {V : Type 0} {size : ℕ} {late : Bool} {F : Tokens → Type 0} {T : Language V} {p : Cut → Parser V} (q : Cut → Parser V) → ((c : Cut) (ts : Tokens) → q c ts ≡ p c ts) → Rule size late F T p → Rule size late F T q
alike_rule {late = late} {p = p} q same one = record {
  weaker = one.weaker;
  front = one.front;
  sound = λ ts r e. one.sound ts r (sym (same holes ts) ∙ e);
  complete = λ c v ts left lt t g. subst (λ o. Answers o v left (c ≡ true)) (sym (same holes ts)) (one.complete c v ts left lt t g);
  value = one.value;
  tokens = one.tokens;
  some = one.some;
  viable = λ ts e lt h. one.viable ts e lt (sym (same holes ts) ∙ h);
  local = λ c ts. let l = one.local c ts in record { outcome = l.outcome; is = same c ts ∙ l.is; front = l.front; whole = l.whole; same = λ b tail other e. same c (l.front ++ b ∷ other) ∙ l.same b tail other e };
  told = alike_tells late q p same one.told;
}

-- ---- nothing is read

abbrev pub Nothing : {V : Type 0} → V → Language V
Nothing a c v ts us = (v ≡ a) × (ts ≡ us)

pub pure_rule : {V : Type 0} (size : ℕ) (late : Bool) (G : Tokens → Type 0) (a : V) → Rule size late G (Nothing a) (λ c. pure a)
pure_rule {V} size late G a = record {
  weaker = λ c v ts us t. t;
  front = λ c v ts us t. record { head = []; whole = t.1; again = λ x. (t.0, refl) };
  sound = λ ts q e. let h : (a, ts) ≡ q = cc in (sym (ap (λ p. p.0) h), ap (λ p. p.1) h);
  complete = λ c v ts left lt t g. inl (ap (λ y. Ok (a, y)) t.1 ∙ ap (λ w. Ok (w, left)) (sym t.0));
  value = a;
  tokens = [];
  some = (refl, refl);
  viable = λ ts e lt h. absurd cc;
  local = λ c. pure_local a;
  told = pure_tells late a;
}

-- ---- one parser, then another

abbrev pub Then : {A B : Type 0} → Language A → (A → Language B) → Language B
Then {A} T U c v ts us = (a : A) × (ms : Tokens) × T c a ts ms × U a c v ms us

pub bind_with : {A B : Type 0} {size : ℕ} {late : Bool} {F G : Tokens → Type 0} {T : Language A} {U : A → Language B} {p : Cut → Parser A} (f : A → Cut → Parser B) → Rule size late F T p → ((a : A) → Untold size G (U a) (f a)) → ((a : A) (c : Bool) (v : B) (ms left : Tokens) → U a c v ms left → G left → F ms) → Tells late (λ c. p c >>= (λ a. f a c)) → Rule size late G (Then T U) (λ c. p c >>= (λ a. f a c))
bind_with {A} {B} {size} {late} {F} {G} {T} {U} {p} f one two may told = record {
  weaker = λ c v ts us t. (t.0, t.1, one.weaker c t.0 ts t.1 t.2, (two t.0).weaker c v t.1 us t.3);
  front = λ c v ts us t.
      let m = one.front c t.0 ts t.1 t.2 in
      let n = (two t.0).front c v t.1 us t.3 in
      record {
        head = m.head ++ n.head;
        whole = m.whole ∙ ap (λ x. m.head ++ x) n.whole ∙ sym (append_assoc m.head n.head us);
        again = λ x. subst (λ y. Then T U c v y x) (sym (append_assoc m.head n.head x)) (t.0, n.head ++ x, m.again (n.head ++ x), n.again x);
      };
  sound = λ ts q e.
      let a = bind_ok (p holes ts) (λ a. f a holes) q e in
      (a.0.0, a.0.1, one.sound ts a.0 a.1, (two a.0.0).sound a.0.1 q a.2);
  complete = λ c v ts left lt t g.
      let less : length t.1 ≤ length ts = fewer T c t.0 ts t.1 (one.front c t.0 ts t.1 t.2) in
      answers_then (p holes ts) (λ a. f a holes) t.0 t.1 v left (c ≡ true) (one.complete c t.0 ts t.1 lt t.2 (may t.0 c v t.1 left t.3 g)) ((two t.0).complete c v t.1 left (omega (arith, lt, less)) t.3 g);
  value = (two one.value).value;
  tokens = one.tokens ++ (two one.value).tokens;
  some = (one.value, (two one.value).tokens, onto T true one.value one.tokens (two one.value).tokens (one.front true one.value one.tokens [] one.some), (two one.value).some);
  viable = λ ts e lt h. elim (bind_err (p holes ts) (λ a. f a holes) e h) [
    | inl d ↦ before (Texts T) (Texts (Then T U)) ts e (λ c x t. let s = two t.0 in (s.tokens, (s.value, (t.0, s.tokens, onto T c t.0 x s.tokens (one.front c t.0 x [] t.1), s.weaker c s.value s.tokens [] s.some)))) (one.viable ts e lt d)
    | inr a ↦
        let m = one.front true a.0.0 ts a.0.1 (one.sound ts a.0 a.1) in
        let less : length a.0.1 ≤ length ts = fewer T true a.0.0 ts a.0.1 m in
        after_front (Texts (U a.0.0)) (Texts (Then T U)) m.head ts a.0.1 e m.whole (λ c x t. (t.0, (a.0.0, x, one.weaker c a.0.0 (m.head ++ x) x (m.again x), t.1))) ((two a.0.0).viable a.0.1 e (omega (arith, lt, less)) a.2)
  ];
  local = λ c. bind_local (p c) (λ a. f a c) (one.local c) (λ a. (two a).local c);
  told = told;
}

-- where the cut doesn't decide on the second one's first token
pub bind_rule : {A B : Type 0} {size : ℕ} {late : Bool} {F G : Tokens → Type 0} {T : Language A} {U : A → Language B} {p : Cut → Parser A} (f : A → Cut → Parser B) → Rule size late F T p → ((a : A) → Rule size true G (U a) (f a)) → ((a : A) (c : Bool) (v : B) (ms left : Tokens) → U a c v ms left → G left → F ms) → Rule size late G (Then T U) (λ c. p c >>= (λ a. f a c))
bind_rule {late = late} {p = p} f one two may = bind_with f one (λ a. untold (two a)) may (bind_tells late p f one.local one.told (λ a. (two a).told))

-- what was read is put together
abbrev pub Made : {A B : Type 0} → (A → B) → Language A → Language B
Made {A} h T c v ts us = (a : A) × (v ≡ h a) × T c a ts us

pub map_rule : {A B : Type 0} {size : ℕ} {late : Bool} {F : Tokens → Type 0} {T : Language A} {p : Cut → Parser A} (h : A → B) → Rule size late F T p → Rule size late F (Made h T) (λ c. p c >>= (λ a. pure (h a)))
map_rule {size = size} {F = F} {T = T} h one =
    as_rule (Made h T) (bind_rule (λ a c. pure (h a)) one (λ a. pure_rule size true F (h a)) (λ a c v ms left u g. subst F (sym u.1) g))
    (λ c v ts us t. (t.0, t.3.0, subst (T c t.0 ts) t.3.1 t.2))
    (λ c v ts us t. (t.0, us, t.2, (t.1, refl)))

-- ---- tokens

-- what a test of tokens tells
pub record TokenRule {A : Type 0} (test : Placed → Result A Fault) (part : A → Part) (Fits : A → Type 0) : Type 1 where
  pub told : (t : Placed) (a : A) → test t ≡ Ok a → IsPart (part a) t
  pub fits : (t : Placed) (a : A) → test t ≡ Ok a → Fits a
  pub tells : (t : Placed) (a : A) (L : Type 0) → (L → Fits a) → IsPart (part a) t → TestTells (test t) a L
  pub stops : TestStops test part Fits
  pub leaf : (t : Placed) → LeafAt t.token (test t)

-- a token, and then what another parser reads
abbrev pub After : {A B : Type 0} → (A → Part) → (A → Type 0) → (A → Language B) → Language B
After part Fits U c v [] us = ⊥
After {A} part Fits U c v (t ∷ ts) us = (a : A) × (IsPart (part a) t × Fitting c (Fits a)) × U a c v ts us

-- what follows has a token less
pub token_less_rule : {A B : Type 0} {size n : ℕ} {G : Tokens → Type 0} {U : A → Language B} {test : Placed → Result A Fault} {part : A → Part} {Fits : A → Type 0} (f : A → Cut → Parser B) → TokenRule test part Fits → size ≤ suc n → ((a : A) → Rule n false G (U a) (f a)) → Rule size true G (After part Fits U) (λ c. accept test >>= (λ a. f a c))
token_less_rule {A} {B} {size} {n} {G} {U} {test} {part} {Fits} f token low next = record {
  weaker = weak;
  front = fronts;
  sound = λ ts q e.
      let a = bind_ok (accept test ts) (λ a. f a holes) q e in
      let k = accept_ok test ts a.0 a.1 in
      subst (λ x. After part Fits U true q.0 x q.1) (sym k.whole) (a.0.0, (token.told k.t a.0.0 k.told, token.fits k.t a.0.0 k.told), (next a.0.0).sound a.0.1 q a.2);
  complete = answers;
  value = (next token.stops.value).value;
  tokens = token.stops.token ∷ (next token.stops.value).tokens;
  some = (token.stops.value, (token.stops.is, token.stops.fits), (next token.stops.value).some);
  viable = λ ts e lt h. elim (bind_err (accept test ts) (λ a. f a holes) e h) [
    | inl d ↦ before (TextOf (One part) Fits) (Texts (After part Fits U)) ts e (λ c x r.
        let o = one_token (part r.0) x r.2 in
        let s = next r.0 in
        (s.tokens, (s.value, subst (λ y. After part Fits U c s.value (y ++ s.tokens) []) (sym o.1) (r.0, (o.2, r.1), s.weaker c s.value s.tokens [] s.some)))) (accept_viable test part Fits token.stops ts e d)
    | inr a ↦
        let k = accept_ok test ts a.0 a.1 in
        let long : length ts ≡ length (k.t ∷ a.0.1) = ap length k.whole in
        after_front (Texts (U a.0.0)) (Texts (After part Fits U)) (k.t ∷ []) ts a.0.1 e k.whole (λ c x r. (r.0, (a.0.0, (token.told k.t a.0.0 k.told, always (Fits a.0.0) c (token.fits k.t a.0.0 k.told)), r.1))) ((next a.0.0).viable a.0.1 e (omega (arith, lt, long, low)) a.2)
  ];
  local = λ c. bind_local (accept test) (λ a. f a c) (accept_local test) (λ a. (next a).local c);
  told = token_tells test f token.leaf (λ a. (next a).told);
}
  where
    weak : (c : Bool) (v : B) (ts us : Tokens) → After part Fits U true v ts us → After part Fits U c v ts us
    weak c v [] us t = absurd t
    weak c v (u ∷ ts) us t = (t.0, (t.1.0, always (Fits t.0) c t.1.1), (next t.0).weaker c v ts us t.2)

    fronts : (c : Bool) (v : B) (ts us : Tokens) → After part Fits U c v ts us → Front (After part Fits U) c v ts us
    fronts c v [] us t = absurd t
    fronts c v (u ∷ ts) us t = let m = (next t.0).front c v ts us t.2 in record { head = u ∷ m.head; whole = ap (λ x. u ∷ x) m.whole; again = λ x. (t.0, t.1, m.again x) }

    answers : (c : Bool) (v : B) (ts left : Tokens) → length ts < size → After part Fits U c v ts left → G left → Answers (and_then (accept test ts) (λ a. f a holes)) v left (c ≡ true)
    answers c v [] left lt t g = absurd t
    answers c v (u ∷ ts) left lt t g =
        answers_then (accept test (u ∷ ts)) (λ a. f a holes) t.0 ts v left (c ≡ true)
        ((accept_back test (part t.0) t.0 (c ≡ true) (λ w is. token.tells w t.0 (c ≡ true) (fit_if (Fits t.0) c t.1.1) is)).reads (u ∷ ts) ts (t.1.0, refl) tt)
        ((next t.0).complete c v ts left (omega (arith, lt, low)) t.2 g)

pub token_rule : {A B : Type 0} {size : ℕ} {G : Tokens → Type 0} {U : A → Language B} {test : Placed → Result A Fault} {part : A → Part} {Fits : A → Type 0} (f : A → Cut → Parser B) → TokenRule test part Fits → ((a : A) → Rule size false G (U a) (f a)) → Rule size true G (After part Fits U) (λ c. accept test >>= (λ a. f a c))
token_rule f token next = token_less_rule f token (omega arith) next

-- a test of one kind of tokens
pub record KindRule (test : Placed → Bool) (k : Token) : Type 0 where
  pub told : (t : Placed) → test t ≡ true → t.token ≡ k
  pub seen : (t : Placed) → t.token ≡ k → test t ≡ true
  pub clean : is_hole_token k ≡ false

-- such a token, and what follows it
abbrev pub AfterToken : Token → (Tokens → Type 0) → Tokens → Type 0
AfterToken k R [] = ⊥
AfterToken k R (t ∷ ts) = (t.token ≡ k) × R ts

-- it is eaten
eats_one : (test : Placed → Bool) (t : Placed) (us : Tokens) → test t ≡ true → eat test (t ∷ us) ≡ Ok (true, us)
unfolding eat
eats_one test t us is = ap (λ r. eaten r t us) is

-- what is read after such a token, or where none stands
abbrev pub Eats : {B : Type 0} → Token → Language B → Language B → Language B
Eats k T U c v ts us = AfterToken k (λ ms. T c v ms us) ts ⊎ U c v ts us

pub eat_rule : {B : Type 0} {size n : ℕ} {G : Tokens → Type 0} {T U : Language B} {test : Placed → Bool} {k : Token} (f : Bool → Cut → Parser B) → KindRule test k → size ≤ suc n → Rule n false G T (f true) → Rule size true G U (f false) → ((c : Bool) (v : B) (ts left : Tokens) → U c v ts left → G left → IsNot test ts) → Rule size true G (Eats k T U) (λ c. eat test >>= (λ b. f b c))
eat_rule {B} {size} {n} {G} {T} {U} {test} {k} f kind low one two apart = record {
  weaker = weak;
  front = fronts;
  sound = λ ts q e. let a = bind_ok (eat test ts) (λ b. f b holes) q e in read ts a.0.1 a.0.0 q (eat_ok test ts a.0 a.1) a.2;
  complete = answers;
  value = two.value;
  tokens = two.tokens;
  some = inr two.some;
  viable = λ ts e lt h. elim (bind_err (eat test ts) (λ b. f b holes) e h) [
    | inl d ↦ absurd (eat_err test ts e d)
    | inr a ↦ stops ts a.0.1 a.0.0 e lt (eat_ok test ts a.0 a.1) a.2
  ];
  local = λ c. bind_local (eat test) (λ b. f b c) (eat_local test) (λ b. either_local c b);
  told = eat_tells test f (λ t e. ap is_hole_token (kind.told t e) ∙ kind.clean) one.told two.told;
}
  where
    weak : (c : Bool) (v : B) (ts us : Tokens) → Eats k T U true v ts us → Eats k T U c v ts us
    weak c v [] us (inl t) = absurd t
    weak c v (u ∷ ts) us (inl t) = inl (t.0, one.weaker c v ts us t.1)
    weak c v ts us (inr t) = inr (two.weaker c v ts us t)

    fronts : (c : Bool) (v : B) (ts us : Tokens) → Eats k T U c v ts us → Front (Eats k T U) c v ts us
    fronts c v [] us (inl t) = absurd t
    fronts c v (u ∷ ts) us (inl t) = let m = one.front c v ts us t.1 in record { head = u ∷ m.head; whole = ap (λ x. u ∷ x) m.whole; again = λ x. inl (t.0, m.again x) }
    fronts c v ts us (inr t) = let m = two.front c v ts us t in record { head = m.head; whole = m.whole; again = λ x. inr (m.again x) }

    answers : (c : Bool) (v : B) (ts left : Tokens) → length ts < size → Eats k T U c v ts left → G left → Answers (and_then (eat test ts) (λ b. f b holes)) v left (c ≡ true)
    answers c v [] left lt (inl t) g = absurd t
    answers c v (u ∷ ts) left lt (inl t) g = answers_then (eat test (u ∷ ts)) (λ b. f b holes) true ts v left (c ≡ true) (inl (eats_one test u ts (kind.seen u t.0))) (one.complete c v ts left (omega (arith, lt, low)) t.1 g)
    answers c v ts left lt (inr t) g = answers_then (eat test ts) (λ b. f b holes) false ts v left (c ≡ true) (inl (eats_none test ts ts refl (apart c v ts left t g))) (two.complete c v ts left lt t g)

    read : (ts us : Tokens) (b : Bool) (q : B × Tokens) → Eaten test ts b us → f b holes us ≡ Ok q → Eats k T U true q.0 ts q.1
    read ts us true q w e = subst (λ x. Eats k T U true q.0 x q.1) (sym w.1) (inl (kind.told w.0 w.2, one.sound us q e))
    read ts us false q w e = subst (λ x. Eats k T U true q.0 x q.1) (sym w) (inr (two.sound us q e))

    stops : (ts us : Tokens) (b : Bool) (e : Fault × Tokens) → length ts < size → Eaten test ts b us → f b holes us ≡ Err e → Stops (Texts (Eats k T U)) ts e
    stops ts us true e lt w h =
        let long : length ts ≡ length (w.0 ∷ us) = ap length w.1 in
        after_front (Texts T) (Texts (Eats k T U)) (w.0 ∷ []) ts us e w.1 (λ c x r. (r.0, inl (kind.told w.0 w.2, r.1))) (one.viable us e (omega (arith, lt, long, low)) h)
    stops ts us false e lt w h =
        let long : length ts ≡ length us = ap length w in
        after_front (Texts U) (Texts (Eats k T U)) [] ts us e w (λ c x r. (r.0, inr r.1)) (two.viable us e (omega (arith, lt, long)) h)

    either_local : (c : Cut) (b : Bool) → Local (f b c)
    either_local c true = one.local c
    either_local c false = two.local c

-- what either of two parsers reads
abbrev pub Either : {B : Type 0} → Language B → Language B → Language B
Either T U c v ts us = T c v ts us ⊎ U c v ts us

-- a token that is looked at decides
pub look_rule : {B : Type 0} {size : ℕ} {G : Tokens → Type 0} {T U : Language B} {test : Placed → Bool} (f : Bool → Cut → Parser B) → Rule size true G T (f true) → Rule size true G U (f false) → ((c : Bool) (v : B) (ts left : Tokens) → T c v ts left → G left → Sees false test true ts) → ((c : Bool) (v : B) (ts left : Tokens) → U c v ts left → G left → Sees false test false ts) → Rule size true G (Either T U) (λ c. look false test >>= (λ b. f b c))
look_rule {B} {size} {G} {T} {U} {test} f one two sees misses = record {
  weaker = weak;
  front = fronts;
  sound = λ ts q e. let a = bind_ok (look false test ts) (λ b. f b holes) q e in subst (λ x. Either T U true q.0 x q.1) (sym (look_ok false test ts a.0 a.1)) (read a.0.1 a.0.0 q a.2);
  complete = answers;
  value = two.value;
  tokens = two.tokens;
  some = inr two.some;
  viable = λ ts e lt h. elim (bind_err (look false test ts) (λ b. f b holes) e h) [
    | inl d ↦ absurd (look_err false test ts e d)
    | inr a ↦ stops ts a.0.1 a.0.0 e lt (look_ok false test ts a.0 a.1) a.2
  ];
  local = λ c. bind_local (look false test) (λ b. f b c) (look_local false test) (λ b. either_local c b);
  told = look_tells false test f (λ b. either_tells b);
}
  where
    weak : (c : Bool) (v : B) (ts us : Tokens) → Either T U true v ts us → Either T U c v ts us
    weak c v ts us (inl t) = inl (one.weaker c v ts us t)
    weak c v ts us (inr t) = inr (two.weaker c v ts us t)

    fronts : (c : Bool) (v : B) (ts us : Tokens) → Either T U c v ts us → Front (Either T U) c v ts us
    fronts c v ts us (inl t) = let m = one.front c v ts us t in record { head = m.head; whole = m.whole; again = λ x. inl (m.again x) }
    fronts c v ts us (inr t) = let m = two.front c v ts us t in record { head = m.head; whole = m.whole; again = λ x. inr (m.again x) }

    answers : (c : Bool) (v : B) (ts left : Tokens) → length ts < size → Either T U c v ts left → G left → Answers (and_then (look false test ts) (λ b. f b holes)) v left (c ≡ true)
    answers c v ts left lt (inl t) g = answers_then (look false test ts) (λ b. f b holes) true ts v left (c ≡ true) (inl (looks false test true ts ts refl (sees c v ts left t g))) (one.complete c v ts left lt t g)
    answers c v ts left lt (inr t) g = answers_then (look false test ts) (λ b. f b holes) false ts v left (c ≡ true) (inl (looks false test false ts ts refl (misses c v ts left t g))) (two.complete c v ts left lt t g)

    read : (us : Tokens) (b : Bool) (q : B × Tokens) → f b holes us ≡ Ok q → Either T U true q.0 us q.1
    read us true q e = inl (one.sound us q e)
    read us false q e = inr (two.sound us q e)

    stops : (ts us : Tokens) (b : Bool) (e : Fault × Tokens) → length ts < size → ts ≡ us → f b holes us ≡ Err e → Stops (Texts (Either T U)) ts e
    stops ts us true e lt w h =
        let long : length ts ≡ length us = ap length w in
        after_front (Texts T) (Texts (Either T U)) [] ts us e w (λ c x r. (r.0, inl r.1)) (one.viable us e (omega (arith, lt, long)) h)
    stops ts us false e lt w h =
        let long : length ts ≡ length us = ap length w in
        after_front (Texts U) (Texts (Either T U)) [] ts us e w (λ c x r. (r.0, inr r.1)) (two.viable us e (omega (arith, lt, long)) h)

    either_local : (c : Cut) (b : Bool) → Local (f b c)
    either_local c true = one.local c
    either_local c false = two.local c

    either_tells : (b : Bool) → Tells true (f b)
    either_tells true = one.told
    either_tells false = two.told

-- ---- parsers whose laws are known

abbrev pub Leaf : {A : Type 0} → (A → List Part) → (A → Type 0) → Language A
Leaf text Fits c v ts us = Fitting c (Fits v) × Takes (text v) ts us

pub leaf_rule : {A : Type 0} (size : ℕ) (p : Parser A) (text : A → List Part) (Fits : A → Type 0) (F : Tokens → Type 0) → Sound p text Fits → ((a : A) → ReadsBack p (text a) a (Fits a) F) → Viable p text Fits → Local p → Tells true (λ c. p) → (a : A) (x : Tokens) → Fits a → Spells (text a) x → Rule size true F (Leaf text Fits) (λ c. p)
leaf_rule size p text Fits F sound back viable local told a x fits spelled = record {
  weaker = λ c v ts us t. (always (Fits v) c t.0, t.1);
  front = λ c v ts us t. let f = takes_front (text v) ts us t.1 in record { head = f.head; whole = f.whole; again = λ y. (t.0, takes_onto (text v) f.head y f.spelled) };
  sound = λ ts q e. let r = sound ts q e in (r.1, r.0);
  complete = λ c v ts left lt t g. answers_as (p ts) v left (Fits v) (c ≡ true) (fit_if (Fits v) c t.0) ((back v).reads ts left t.1 g);
  value = a;
  tokens = x;
  some = (fits, spelled);
  viable = λ ts e lt h. after_front (TextOf text Fits) (Texts (Leaf text Fits)) [] ts ts e refl (λ c y t. (t.0, (t.1, t.2))) (viable ts e h);
  local = λ c. local;
  told = told;
}

-- ---- lists with separators

-- one or more, with a separator between
abbrev pub Separated : {V : Type 0} → (V → Tokens → Tokens → Type 0) → Token → List V → Tokens → Tokens → Type 0
Separated T k [] ts us = ⊥
Separated T k (v ∷ []) ts us = T v ts us
Separated T k (v ∷ w ∷ vs) ts us = (ms : Tokens) × T v ts ms × AfterToken k (λ ns. Separated T k (w ∷ vs) ns us) ms

-- those that are read after others
abbrev pub Members : {V : Type 0} → Language V → Token → List V → Language (List V)
Members {V} T k found c r ts us = (vs : List V) × (r ≡ found ++ vs) × Separated (T c) k vs ts us

module _ {V : Type 0} (size : ℕ) (late : Bool) (F : Tokens → Type 0) (T : Language V) (p : Cut → Parser V) (one : Rule size late F T p) (test : Placed → Bool) (k : Token) (kind : KindRule test k) (comma_follows : (t : Placed) (ts : Tokens) → t.token ≡ k → F (t ∷ ts)) where
  -- what may follow a list
  abbrev pub Ends : Tokens → Type 0
  Ends left = F left × IsNot test left

  -- one more, and those after it
  abbrev Next : List V → V → Language (List V)
  Next found a = Eats k (Members T k (found ++ a ∷ [])) (Nothing (found ++ a ∷ []))

  follows : (found : List V) (a : V) (c : Bool) (r : List V) (ms left : Tokens) → Next found a c r ms left → Ends left → F ms
  follows found a c r [] left (inl m) g = absurd m
  follows found a c r (t ∷ ts) left (inl m) g = comma_follows t ts m.0
  follows found a c r ms left (inr m) g = subst F (sym m.1) g.0

  there : (found : List V) (c : Bool) (r : List V) (ts us : Tokens) → Then T (Next found) c r ts us → Members T k found c r ts us
  there found c r ts us (a, [], t, inl m) = absurd m
  there found c r ts us (a, u ∷ ms, t, inl (is, ([], f, s))) = absurd s
  there found c r ts us (a, u ∷ ms, t, inl (is, (v ∷ vs, f, s))) = (a ∷ v ∷ vs, f ∙ append_assoc found (a ∷ []) (v ∷ vs), (u ∷ ms, t, (is, s)))
  there found c r ts us (a, ms, t, inr (f, d)) = (a ∷ [], f, subst (T c a ts) d t)

  back : (found : List V) (c : Bool) (r : List V) (ts us : Tokens) → Members T k found c r ts us → Then T (Next found) c r ts us
  back found c r ts us ([], f, s) = absurd s
  back found c r ts us (a ∷ [], f, s) = (a, us, s, inr (f, refl))
  back found c r ts us (a ∷ v ∷ vs, f, ([], s, m)) = absurd m
  back found c r ts us (a ∷ v ∷ vs, f, (t ∷ ms, s, (is, rest))) = (a, t ∷ ms, s, inl (is, (v ∷ vs, f ∙ sym (append_assoc found (a ∷ []) (v ∷ vs)), rest)))

  weaken : (c : Bool) (vs : List V) (ts us : Tokens) → Separated (T true) k vs ts us → Separated (T c) k vs ts us
  weaken c [] ts us s = absurd s
  weaken c (v ∷ []) ts us s = one.weaker c v ts us s
  weaken c (v ∷ w ∷ vs) ts us ([], s, m) = absurd m
  weaken c (v ∷ w ∷ vs) ts us (t ∷ ms, s, (is, rest)) = (t ∷ ms, one.weaker c v ts (t ∷ ms) s, (is, weaken c (w ∷ vs) ms us rest))

  fronts : (c : Bool) (vs : List V) (ts us : Tokens) → Separated (T c) k vs ts us → Front (λ d ws. Separated (T d) k ws) c vs ts us
  fronts c [] ts us s = absurd s
  fronts c (v ∷ []) ts us s = let m = one.front c v ts us s in record { head = m.head; whole = m.whole; again = m.again }
  fronts c (v ∷ w ∷ vs) ts us ([], s, m) = absurd m
  fronts c (v ∷ w ∷ vs) ts us (t ∷ ms, s, (is, rest)) =
      let m = one.front c v ts (t ∷ ms) s in
      let n = fronts c (w ∷ vs) ms us rest in
      record {
        head = m.head ++ t ∷ n.head;
        whole = m.whole ∙ ap (λ x. m.head ++ t ∷ x) n.whole ∙ sym (append_assoc m.head (t ∷ n.head) us);
        again = λ x. subst (λ y. Separated (T c) k (v ∷ w ∷ vs) y x) (sym (append_assoc m.head (t ∷ n.head) x)) (t ∷ (n.head ++ x), m.again (t ∷ (n.head ++ x)), (is, n.again x));
      }

  pub separated_rule : (n : ℕ) → n ≤ size → (found : List V) → Rule n late Ends (Members T k found) (λ c. separated_from (p c) test n found)
  unfolding separated_from
  separated_rule zero low found = record {
    weaker = λ c r ts us t. (t.0, t.1, weaken c t.0 ts us t.2);
    front = λ c r ts us t. let m = fronts c t.0 ts us t.2 in record { head = m.head; whole = m.whole; again = λ x. (t.0, t.1, m.again x) };
    sound = λ ts q e. absurd cc;
    complete = λ c r ts left lt t g. absurd (omega (arith, lt));
    value = found ++ one.value ∷ [];
    tokens = one.tokens;
    some = (one.value ∷ [], refl, one.some);
    viable = λ ts e lt h. absurd (omega (arith, lt));
    local = λ c. fail_local Syntax;
    told = fail_tells late Syntax tt;
  }
  separated_rule (suc n) low found =
      as_rule (Members T k found) (bind_rule (λ a c. eat test >>= (λ more. if more then separated_from (p c) test n (found ++ a ∷ []) else pure (found ++ a ∷ []))) (below_rule (suc n) low one)
      (λ a. eat_rule (λ more c. if more then separated_from (p c) test n (found ++ a ∷ []) else pure (found ++ a ∷ [])) kind (omega arith) (sooner_rule late (separated_rule n (omega (arith, low)) (found ++ a ∷ []))) (pure_rule (suc n) true Ends (found ++ a ∷ [])) (λ c v ts left u g. subst (IsNot test) (sym u.1) g.1))
      (follows found)) (there found) (back found)
