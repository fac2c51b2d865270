-- What is read of single tokens, terms and the arguments of atoms in the wide language.
use Rattle.std.proofs.Common.{◌≡◌, inl, inr, ◌≤◌, ◌<◌, ℕ, Bool, true, false, List, [], ◌∷◌, ◌++◌, length, refl, ap, sym, ◌∙◌, subst, Ok, Err, if◌then◌else◌, arith}
use Rattle.lrp_model.specs.Texts.{Identifier}
use Rattle.lrp_model.specs.declared.tokens.Symbol.{Symbol}
use Rattle.lrp_model.specs.declared.tokens.Symbol.TheVariants.{Close, Comma, Plus, Minus, Star}
use Rattle.lrp_model.specs.declared.tokens.Word.{Word}
use Rattle.lrp_model.specs.declared.tokens.Place.{Place}
use Rattle.lrp_model.specs.declared.tokens.Fault.{Fault}
use Rattle.lrp_model.specs.declared.written.Integer.{Integer}
use Rattle.lrp_model.specs.declared.written.Located.{Located}
use Rattle.lrp_model.specs.declared.raw.RawTerm.{RawTerm}
use Rattle.lrp_model.specs.declared.raw.RawTermKind.{RawTermKind}
use Rattle.lrp_model.specs.Lexing.{start}
use Rattle.lrp_model.specs.Limits.{greatest_number}
use Rattle.lrp_model.specs.Tokens.{Token, Placed, Tokens, Takes, from, located_text}
use Rattle.lrp_model.specs.Tokens.Token.{name_token, word_token, number_token, text_token, symbol_token, end_token}
use Rattle.lrp_model.specs.Tokens.Part.{at, any}
use Rattle.lrp_model.specs.Databases.{integer_text, shift}
use Rattle.lrp_model.specs.Refused.{Fitting}
use Rattle.lrp_model.specs.Queries.{WrittenTerm, WrittenArgument, term_text, argument_text, FitsTerm, FitsArgument}
use Rattle.lrp_model.specs.Queries.Language.{wide}
use Rattle.lrp_model.specs.Queries.WrittenTerm.{integer as integer_term, text_term, variable, shifted}
use Rattle.lrp_model.specs.Queries.WrittenArgument.{argument as argument_term, star}
use Rattle.lrp_model.specs.QueryMeaning.{term_kind, raw_term, raw_argument, star_name}
use Rattle.lrp_text.specs.Parsers.{Parser, ◌>>=◌, pure, accept, look, eat, listed, separated_from}
use Rattle.lrp_text.specs.Taking.{is_symbol, is_symbol_token, is_word, is_name, is_name_token, is_text, is_text_token, required, expect, name, name_of, number, number_of, text, text_of, period_of, with_place, here, is_end, IsWrittenPeriod}
use Rattle.lrp_text.specs.IntegerRule.{integer}
use Rattle.lrp_text.specs.OffsetRule.{unmoved, moved_by, offset}
use Rattle.lrp_text.proofs.Complete.{Answers, answers_then, accepts_back, Anything, Sees, IsNot, first_sees_any}
use Rattle.lrp_text.proofs.Sound.{bind_ok}
use Rattle.lrp_text.proofs.Viable.{One, always, fits_as, bind_err, after_front}
use Rattle.lrp_text.proofs.Local.{accept_local, bind_local, look_local, pure_local}
use Rattle.lrp_text.proofs.TokenTests.{symbol_told, symbol_seen, word_told, word_seen, expect_told, expect_seen, expect_stops, word_expected, word_required, word_stops, name_part, name_told, name_seen, name_stops, text_part, text_told, text_fits, text_stops, text_tells, number_part, period_told, period_fits, period_stops, period_tells, end_expected, end_required, end_stops}
use Rattle.lrp_text.proofs.IntegerRule.{integer_back, integer_sound, integer_viable, integer_local, no_quote, no_name}
use Rattle.lrp_text.proofs.OffsetRule.{NoShift, offset_text, FitsOffset, offset_back, offset_sound, offset_viable, offset_local}
use Rattle.lrp_text.proofs.LocatedRule.{from_place, takes_from}
use Rattle.lrp_query.specs.Rules.{with_offset, named_term, unnamed_term, bare_term, term, star_or_term, raw_terms}
use Rattle.lrp_query.proofs.Marks.{symbol_leaf, word_leaf, name_leaf, text_leaf, period_leaf, number_leaf, end_leaf, symbol_clean, fixed_accept, integer_fixed}
use Rattle.lrp_query.proofs.TermRules.{with_offset_text, with_offset_fits, term_leads, placed_text}
use Rattle.lrp_query.proofs.TestRules.{sym_part, symbol_sound, symbol_viable, symbol_at, empty_leads}
use Rattle.lrp_query.proofs.WideTold.{Cut, Tells, pure_tells, sooner, token_tells, eat_tells, look_tells, fixed_tells}
use Rattle.lrp_query.proofs.WideRule.{holes, Language, Texts, Front, Rule, as_rule, follow_rule, sooner_rule, alike_rule, Nothing, pure_rule, Made, map_rule, TokenRule, After, token_rule, KindRule, Either, look_rule, Leaf, leaf_rule, Separated, Members, separated_rule}

-- ---- tokens

pub symbol_rule : (s : Symbol) → TokenRule (λ t. required (is_symbol s t)) (λ u. any (symbol_token s)) (λ u. Unit {0})
symbol_rule s = record { told = expect_told s; fits = λ t a e. tt; tells = λ t a L f is. inl (expect_seen s t is); stops = expect_stops s; leaf = λ t. symbol_leaf s t.token }

pub word_rule : (w : Word) → TokenRule (λ t. required (is_word w t)) (λ u. any (word_token w)) (λ u. Unit {0})
word_rule w = record { told = word_expected w; fits = λ t a e. tt; tells = λ t a L f is. inl (word_required w t is); stops = word_stops w; leaf = λ t. word_leaf w t.token }

pub name_rule : TokenRule (λ t. with_place t.place (name_of t.token)) name_part (λ q. Unit {0})
name_rule = record { told = name_told; fits = λ t a e. tt; tells = λ t a L f is. inl (name_seen a t is); stops = name_stops; leaf = λ t. name_leaf t.place t.token }

pub text_rule : TokenRule (λ t. text_of t.token) text_part (λ u. length u ≤ 255)
text_rule = record { told = text_told; fits = text_fits; tells = λ t a L f is. text_tells t a L f is; stops = text_stops; leaf = λ t. text_leaf t.token }

pub period_rule : TokenRule (λ t. period_of t.token) number_part IsWrittenPeriod
period_rule = record { told = period_told; fits = period_fits; tells = λ t a L f is. period_tells t a L f is; stops = period_stops; leaf = λ t. period_leaf t.token }

pub end_rule : TokenRule (λ t. required (is_end t)) (λ u. any end_token) (λ u. Unit {0})
end_rule = record { told = end_expected; fits = λ t a e. tt; tells = λ t a L f is. inl (end_required t is); stops = end_stops; leaf = λ t. end_leaf t.token }

pub symbol_kind : (s : Symbol) → KindRule (is_symbol s) (symbol_token s)
symbol_kind s = record { told = symbol_told s; seen = symbol_seen s; clean = refl }

pub word_kind : (w : Word) → KindRule (is_word w) (word_token w)
word_kind w = record { told = word_told w; seen = word_seen w; clean = refl }

-- ---- offsets and integers

offset_tells : Tells true (λ c. offset)
unfolding offset
offset_tells =
    eat_tells (is_symbol Plus) (λ up c. if up then (number >>= (λ k. pure (moved_by false k))) else (eat (is_symbol Minus) >>= (λ down. if down then (number >>= (λ k. pure (moved_by true k))) else pure unmoved))) (symbol_clean Plus)
    (sooner true (λ c. number >>= (λ k. pure (moved_by false k))) (token_tells (λ t. number_of t.token) (λ k c. pure (moved_by false k)) (λ t. number_leaf t.token) (λ k. pure_tells false (moved_by false k))))
    (eat_tells (is_symbol Minus) (λ down c. if down then (number >>= (λ k. pure (moved_by true k))) else pure unmoved) (symbol_clean Minus)
    (sooner true (λ c. number >>= (λ k. pure (moved_by true k))) (token_tells (λ t. number_of t.token) (λ k c. pure (moved_by true k)) (λ t. number_leaf t.token) (λ k. pure_tells false (moved_by true k))))
    (pure_tells true unmoved))

offset_rule : (size : ℕ) → Rule size true NoShift (Leaf offset_text FitsOffset) (λ c. offset)
offset_rule size = leaf_rule size offset offset_text FitsOffset NoShift offset_sound offset_back offset_viable offset_local offset_tells unmoved [] tt refl

abbrev pub IntegerText : Language Integer
IntegerText = Leaf integer_text (λ i. i.size ≤ greatest_number)

pub integer_rule : (size : ℕ) → Rule size true Anything IntegerText (λ c. integer)
integer_rule size = leaf_rule size integer integer_text (λ i. i.size ≤ greatest_number) Anything integer_sound integer_back integer_viable integer_local (fixed_tells true integer integer_fixed) (record { negative = false; size = 0 }) (record { token = number_token 0; place = start } ∷ []) (omega arith) (refl, refl)

-- ---- terms without places

-- a written term of a kind
pub record BareTerm (Is : WrittenTerm → Type 0) (c : Bool) (k : RawTermKind) (ts us : Tokens) : Type 0 where
  pub item : WrittenTerm
  pub is : Is item
  pub means : k ≡ term_kind item
  pub fits : Fitting c (FitsTerm item)
  pub spelled : Takes (term_text item) ts us

abbrev IsUnnamed : WrittenTerm → Type 0
IsUnnamed (integer_term i) = Unit {0}
IsUnnamed (text_term t) = Unit {0}
IsUnnamed _ = ⊥

abbrev pub Unnamed : Language RawTermKind
Unnamed = BareTerm IsUnnamed

abbrev TextText : Language RawTermKind
TextText = After text_part (λ u. length u ≤ 255) (λ t. Nothing (term_kind (text_term t)))

abbrev NumberText : Language RawTermKind
NumberText = Made (λ i. term_kind (integer_term i)) IntegerText

text_sees : (c : Bool) (k : RawTermKind) (ts left : Tokens) → TextText c k ts left → Anything left → Sees false is_text true ts
text_sees c k [] left a g = absurd a
text_sees c k (t ∷ ts) left a g = ap is_text_token a.1.0

unnamed_there : (c : Bool) (k : RawTermKind) (ts us : Tokens) → Either TextText NumberText c k ts us → Unnamed c k ts us
unnamed_there c k [] us (inl a) = absurd a
unnamed_there c k (t ∷ ts) us (inl a) = record { item = text_term a.0; is = tt; means = a.2.0; fits = a.1.1; spelled = (a.1.0, a.2.1) }
unnamed_there c k ts us (inr a) = record { item = integer_term a.0; is = tt; means = a.1; fits = a.2.0; spelled = a.2.1 }

unnamed_of : (c : Bool) (k : RawTermKind) (item : WrittenTerm) (ts us : Tokens) → IsUnnamed item → k ≡ term_kind item → Fitting c (FitsTerm item) → Takes (term_text item) ts us → Either TextText NumberText c k ts us
unnamed_of c k (variable n) ts us is e f s = absurd is
unnamed_of c k (shifted n down j) ts us is e f s = absurd is
unnamed_of c k (integer_term i) ts us is e f s = inr (i, e, (f, s))
unnamed_of c k (text_term t) [] us is e f s = absurd s
unnamed_of c k (text_term t) (u ∷ ts) us is e f s = inl (t, (s.0, f), (e, s.1))

pub unnamed_rule : (size : ℕ) → Rule size true Anything Unnamed (λ c. unnamed_term raw_terms)
unfolding unnamed_term
unnamed_rule size =
    as_rule Unnamed
    (look_rule (λ text_next c. if text_next then (text >>= (λ t. pure (term_kind (text_term t)))) else (integer >>= (λ i. pure (term_kind (integer_term i)))))
    (token_rule (λ t c. pure (term_kind (text_term t))) text_rule (λ t. pure_rule size false Anything (term_kind (text_term t))))
    (map_rule (λ i. term_kind (integer_term i)) (integer_rule size))
    text_sees (λ c k ts left a g. no_quote a.0 ts left a.2.1))
    unnamed_there (λ c k ts us b. unnamed_of c k b.item ts us b.is b.means b.fits b.spelled)

-- after a name
abbrev pub Named : Identifier → Language RawTermKind
Named n = Made (λ o. term_kind (with_offset n o)) (Leaf offset_text FitsOffset)

pub named_rule : (size : ℕ) (n : Identifier) → Rule size true NoShift (Named n) (λ c. named_term raw_terms n)
unfolding named_term
named_rule size n = map_rule (λ o. term_kind (with_offset n o)) (offset_rule size)

abbrev NameText : Language RawTermKind
NameText = After name_part (λ q. Unit {0}) (λ n. Named n.0)

-- each term
abbrev pub AnyTerm : Language RawTermKind
AnyTerm = BareTerm (λ w. Unit {0})

name_sees : (c : Bool) (k : RawTermKind) (ts left : Tokens) → NameText c k ts left → NoShift left → Sees false is_name true ts
name_sees c k [] left a g = absurd a
name_sees c k (t ∷ ts) left a g = ap is_name_token a.1.0.0

unnamed_misses : (item : WrittenTerm) (ts left : Tokens) → IsUnnamed item → Takes (term_text item) ts left → Sees false is_name false ts
unnamed_misses (variable n) ts left is s = absurd is
unnamed_misses (shifted n down j) ts left is s = absurd is
unnamed_misses (integer_term i) ts left is s = no_name i.negative i.size ts left s
unnamed_misses (text_term t) ts left is s = first_sees_any false is_name_token (text_token t) [] ts left s

bare_there : (c : Bool) (k : RawTermKind) (ts us : Tokens) → Either NameText Unnamed c k ts us → AnyTerm c k ts us
bare_there c k [] us (inl a) = absurd a
bare_there c k (t ∷ ts) us (inl a) =
    record {
      item = with_offset a.0.0 a.2.0;
      is = tt;
      means = a.2.1;
      fits = fits_as (FitsOffset a.2.0) (FitsTerm (with_offset a.0.0 a.2.0)) c (with_offset_fits a.0.0 a.2.0) a.2.2.0;
      spelled = subst (λ ps. Takes ps (t ∷ ts) us) (sym (with_offset_text a.0.0 a.2.0)) (a.1.0.0, a.2.2.1);
    }
bare_there c k ts us (inr b) = record { item = b.item; is = tt; means = b.means; fits = b.fits; spelled = b.spelled }

bare_of : (c : Bool) (k : RawTermKind) (item : WrittenTerm) (ts us : Tokens) → k ≡ term_kind item → Fitting c (FitsTerm item) → Takes (term_text item) ts us → Either NameText Unnamed c k ts us
bare_of c k (variable n) [] us e f s = absurd s
bare_of c k (shifted n down j) [] us e f s = absurd s
bare_of c k (variable n) (t ∷ ts) us e f s = inl ((n, t.place), ((s.0, refl), always (Unit {0}) c tt), (unmoved, e, (f, s.1)))
bare_of c k (shifted n down j) (t ∷ ts) us e f s = inl ((n, t.place), ((s.0, refl), always (Unit {0}) c tt), (moved_by down j, e, (f, s.1)))
bare_of c k (integer_term i) ts us e f s = inr (record { item = integer_term i; is = tt; means = e; fits = f; spelled = s })
bare_of c k (text_term t) ts us e f s = inr (record { item = text_term t; is = tt; means = e; fits = f; spelled = s })

bare_rule : (size : ℕ) → Rule size true NoShift AnyTerm (λ c. bare_term raw_terms)
unfolding bare_term
bare_rule size =
    as_rule AnyTerm
    (look_rule (λ name_next c. if name_next then (name >>= (λ n. named_term raw_terms n.0)) else unnamed_term raw_terms)
    (token_rule (λ n c. named_term raw_terms n.0) name_rule (λ n. sooner_rule true (named_rule size n.0)))
    (follow_rule NoShift (λ left g. tt) (unnamed_rule size))
    name_sees (λ c k ts left b g. unnamed_misses b.item ts left b.is b.spelled))
    bare_there (λ c k ts us b. bare_of c k b.item ts us b.means b.fits b.spelled)

-- ---- what is read at the place of its first token

-- the first token stands at this place
abbrev pub Begins : Place → Tokens → Type 0
Begins p [] = ⊥
Begins p (t ∷ ts) = t.place ≡ p

abbrev pub AtPlace : {A B : Type 0} → (Place → A → B) → Language A → Language B
AtPlace {A} h T c v ts us = (a : A) × (p : Place) × (v ≡ h p a) × Begins p ts × T c a ts us

module _ {A B : Type 0} (size : ℕ) (F : Tokens → Type 0) (T : Language A) (p : Cut → Parser A) (one : Rule size true F T p) (h : Place → A → B) (consumes : (c : Bool) (a : A) → T c a [] [] → ⊥) where
  -- the place of the first token
  abbrev first_place : Tokens → Place
  first_place [] = start
  first_place (t ∷ ts) = t.place

  -- some token is taken
  begun : (c : Bool) (a : A) (ts us : Tokens) → T c a ts us → Begins (first_place ts) ts
  begun c a [] us t =
      let f = one.front c a [] us t in
      let none : length us ≤ 0 = at_most us f in
      absurd (consumes c a (subst (T c a []) (empty us none) t))
    where
      fewer_than : (us head : Tokens) → [] ≡ head ++ us → length us ≤ 0
      fewer_than us [] e = let k : length us ≡ 0 = ap length (sym e) in omega (arith, k)
      fewer_than us (x ∷ xs) e = absurd cc

      at_most : (us : Tokens) → Front T c a [] us → length us ≤ 0
      at_most us f = fewer_than us f.head f.whole

      empty : (us : Tokens) → length us ≤ 0 → us ≡ []
      empty [] e = refl
      empty (x ∷ xs) e = absurd (omega (arith, e))
  begun c a (t ∷ ts) us k = refl

  begun_head : (c : Bool) (a : A) (head us : Tokens) (q : Place) → ((x : Tokens) → T c a (head ++ x) x) → Begins q (head ++ us) → (x : Tokens) → Begins q (head ++ x)
  begun_head c a [] us q all b x = absurd (consumes c a (all []))
  begun_head c a (t ∷ ts) us q all b x = b

  pub placed_rule : Rule size true F (AtPlace h T) (λ c. here >>= (λ q. p c >>= (λ a. pure (h q a))))
  unfolding look
  placed_rule = record {
    weaker = λ c v ts us t. (t.0, t.1, t.2, t.3, one.weaker c t.0 ts us t.4);
    front = λ c v ts us t. let f = one.front c t.0 ts us t.4 in record { head = f.head; whole = f.whole; again = λ x. (t.0, t.1, t.2, begun_head c t.0 f.head us t.1 f.again (subst (Begins t.1) f.whole t.3) x, f.again x) };
    sound = sounds;
    complete = answers;
    value = h (first_place one.tokens) one.value;
    tokens = one.tokens;
    some = (one.value, first_place one.tokens, refl, begun true one.value one.tokens [] one.some, one.some);
    viable = λ ts e lt g. after_front (Texts T) (Texts (AtPlace h T)) [] ts ts e refl (λ c x t. (h (first_place x) t.0, (t.0, first_place x, refl, begun c t.0 x [] t.1, t.1))) (one.viable ts e lt (fails ts e g));
    local = λ c. bind_local here (λ q. p c >>= (λ a. pure (h q a))) (look_local start (λ t. t.place)) (λ q. bind_local (p c) (λ a. pure (h q a)) (one.local c) (λ a. pure_local (h q a)));
    told = look_tells start (λ t. t.place) (λ q c. p c >>= (λ a. pure (h q a))) (λ q. (map_rule (h q) one).told);
  }
    where
      sounds : (ts : Tokens) (q : B × Tokens) → (here >>= (λ q. p holes >>= (λ a. pure (h q a)))) ts ≡ Ok q → AtPlace h T true q.0 ts q.1
      sounds [] q e =
          let a = bind_ok (p holes []) (λ a. pure (h start a)) q e in
          let t = one.sound [] a.0 a.1 in
          absurd (begun true a.0.0 [] a.0.1 t)
      sounds (u ∷ ts) q e =
          let a = bind_ok (p holes (u ∷ ts)) (λ a. pure (h u.place a)) q e in
          let t = one.sound (u ∷ ts) a.0 a.1 in
          let k : (h u.place a.0.0, a.0.1) ≡ q = cc in
          subst (λ y. AtPlace h T true y.0 (u ∷ ts) y.1) k (a.0.0, u.place, refl, refl, t)

      answers : (c : Bool) (v : B) (ts left : Tokens) → length ts < size → AtPlace h T c v ts left → F left → Answers ((here >>= (λ q. p holes >>= (λ a. pure (h q a)))) ts) v left (c ≡ true)
      answers c v [] left lt t g = absurd t.3
      answers c v (u ∷ ts) left lt t g =
          answers_then (p holes (u ∷ ts)) (λ a. pure (h u.place a)) t.0 left v left (c ≡ true) (one.complete c t.0 (u ∷ ts) left lt t.4 g) (inl (ap (λ x. Ok (x, left)) (ap (λ q. h q t.0) t.3 ∙ sym t.2)))

      fails : (ts : Tokens) (e : Fault × Tokens) → (here >>= (λ q. p holes >>= (λ a. pure (h q a)))) ts ≡ Err e → p holes ts ≡ Err e
      fails [] e g = elim (bind_err (p holes []) (λ a. pure (h start a)) e g) [
        | inl d ↦ d
        | inr a ↦ absurd cc
      ]
      fails (u ∷ ts) e g = elim (bind_err (p holes (u ∷ ts)) (λ a. pure (h u.place a)) e g) [
        | inl d ↦ d
        | inr a ↦ absurd cc
      ]

-- ---- terms

-- a written term
pub record TermText (c : Bool) (v : RawTerm) (ts us : Tokens) : Type 0 where
  pub item : Located WrittenTerm
  pub means : v ≡ raw_term item
  pub fits : Fitting c (FitsTerm item.item)
  pub spelled : Takes (placed_text item) ts us

-- a kind at its place
abbrev pub term_of : Place → RawTermKind → RawTerm
term_of p k = record { kind = k; place = p }

bare_consumes : (item : WrittenTerm) → Takes (term_text item) [] [] → ⊥
bare_consumes item s = empty_leads (term_text item) [] (term_leads item) s

term_there : (c : Bool) (v : RawTerm) (ts us : Tokens) → AtPlace term_of AnyTerm c v ts us → TermText c v ts us
term_there c v [] us t = absurd t.3
term_there c v (u ∷ ts) us (k, p, e, b, w) = record { item = record { item = w.item; place = p }; means = e ∙ ap (term_of p) w.means; fits = w.fits; spelled = from_place p (term_text w.item) u ts us (term_leads w.item) b w.spelled }

term_begins : (l : Located WrittenTerm) (ts us : Tokens) → Takes (placed_text l) ts us → Sees start (λ t. t.place) l.place ts → Takes (term_text l.item) ts us → Begins l.place ts
term_begins l [] us s b bare = empty_leads (term_text l.item) us (term_leads l.item) bare
term_begins l (t ∷ ts) us s b bare = b

term_back : (c : Bool) (v : RawTerm) (ts us : Tokens) → TermText c v ts us → AtPlace term_of AnyTerm c v ts us
term_back c v ts us t =
    let b = takes_from t.item.place (term_text t.item.item) ts us (term_leads t.item.item) t.spelled in
    (term_kind t.item.item, t.item.place, t.means, term_begins t.item ts us t.spelled b.1 b.0, record { item = t.item.item; is = tt; means = refl; fits = t.fits; spelled = b.0 })

pub term_rule : (size : ℕ) → Rule size true NoShift TermText (λ c. term raw_terms)
unfolding term
term_rule size = as_rule TermText (placed_rule size NoShift AnyTerm (λ c. bare_term raw_terms) (bare_rule size) term_of (λ c k w. bare_consumes w.item w.spelled)) term_there term_back

-- ---- arguments of atoms

pub record ArgumentText (c : Bool) (v : RawTerm) (ts us : Tokens) : Type 0 where
  pub item : Located (WrittenArgument wide)
  pub means : v ≡ raw_argument item
  pub fits : Fitting c (FitsArgument item.item)
  pub spelled : Takes (located_text argument_text item) ts us

abbrev StarText : Language (Unit {0})
StarText = Leaf (One (sym_part Star)) (λ u. Unit {0})

star_rule : (size : ℕ) → Rule size true Anything StarText (λ c. expect Star)
star_rule size = leaf_rule size (expect Star) (One (sym_part Star)) (λ u. Unit {0}) Anything (symbol_sound Star) (λ u. accepts_back _ (any (symbol_token Star)) tt (Unit {0}) (expect_seen Star)) (symbol_viable Star) (accept_local _) (fixed_tells true (expect Star) (fixed_accept _ (λ t. symbol_leaf Star t.token))) tt (symbol_at Star ∷ []) tt (refl, refl)

abbrev star_at : Place → Unit {0} → RawTerm
star_at p u = term_of p (term_kind (variable star_name))

-- a `*`, or a term, by the first token
abbrev either_argument : Bool → Cut → Parser RawTerm
either_argument starred c = if starred then (here >>= (λ p. expect Star >>= (λ u. pure (star_at p u)))) else term raw_terms

same_argument : (c : Cut) (ts : Tokens) → star_or_term raw_terms ts ≡ (look false (is_symbol Star) >>= (λ b. either_argument b c)) ts
unfolding star_or_term look eat accept
same_argument c [] = refl
same_argument c (t ∷ ts) = by (is_symbol Star t) refl
  where
    by : (b : Bool) → is_symbol Star t ≡ b → star_or_term raw_terms (t ∷ ts) ≡ (look false (is_symbol Star) >>= (λ b. either_argument b c)) (t ∷ ts)
    by true e = let f : required (is_symbol_token Star t.token) ≡ Ok tt = ap required e in rw (e, f) refl
    by false e = rw e refl

star_sees : (c : Bool) (v : RawTerm) (ts left : Tokens) → AtPlace star_at StarText c v ts left → NoShift left → Sees false (is_symbol Star) true ts
star_sees c v [] left t g = absurd t.3
star_sees c v (u ∷ ts) left t g = ap (is_symbol_token Star) t.4.1.0

integer_misses : (s : Symbol) (negative : Bool) (n : ℕ) (ts left : Tokens) → is_symbol_token s (symbol_token Minus) ≡ false → Takes (integer_text (record { negative = negative; size = n })) ts left → Sees false (is_symbol s) false ts
integer_misses s true n ts left e h = subst (λ b. Sees false (is_symbol s) b ts) e (first_sees_any false (is_symbol_token s) (symbol_token Minus) (any (number_token n) ∷ []) ts left h)
integer_misses s false n ts left e h = first_sees_any false (is_symbol_token s) (number_token n) [] ts left h

-- no term begins with this symbol
pub term_misses : (s : Symbol) (k : WrittenTerm) (ts left : Tokens) → is_symbol_token s (symbol_token Minus) ≡ false → Takes (term_text k) ts left → Sees false (is_symbol s) false ts
term_misses s (variable n) ts left e h = first_sees_any false (is_symbol_token s) (name_token n) [] ts left h
term_misses s (shifted n down k) ts left e h = first_sees_any false (is_symbol_token s) (name_token n) (any (symbol_token (shift down)) ∷ any (number_token k) ∷ []) ts left h
term_misses s (text_term t) ts left e h = first_sees_any false (is_symbol_token s) (text_token t) [] ts left h
term_misses s (integer_term i) ts left e h = integer_misses s i.negative i.size ts left e h

placed_misses : (s : Symbol) (l : Located WrittenTerm) (ts left : Tokens) → is_symbol_token s (symbol_token Minus) ≡ false → Takes (placed_text l) ts left → Sees false (is_symbol s) false ts
placed_misses s l ts left e h = term_misses s l.item ts left e (takes_from l.place (term_text l.item) ts left (term_leads l.item) h).0

argument_there : (c : Bool) (v : RawTerm) (ts us : Tokens) → Either (AtPlace star_at StarText) TermText c v ts us → ArgumentText c v ts us
argument_there c v [] us (inl a) = absurd a.3
argument_there c v (t ∷ ts) us (inl (u, p, e, b, s)) = record { item = record { item = star refl; place = p }; means = e; fits = always (Unit {0}) c tt; spelled = ((s.1.0, b), s.1.1) }
argument_there c v ts us (inr a) = record { item = record { item = argument_term a.item.item; place = a.item.place }; means = a.means; fits = a.fits; spelled = a.spelled }

argument_of : (c : Bool) (v : RawTerm) (item : WrittenArgument wide) (p : Place) (ts us : Tokens) → v ≡ raw_argument (record { item = item; place = p }) → Fitting c (FitsArgument item) → Takes (from p (argument_text item)) ts us → Either (AtPlace star_at StarText) TermText c v ts us
argument_of c v (argument_term w) p ts us e f s = inr (record { item = record { item = w; place = p }; means = e; fits = f; spelled = s })
argument_of c v (star w) p [] us e f s = absurd s
argument_of c v (star w) p (t ∷ ts) us e f s = inl (tt, p, e, s.0.1, (always (Unit {0}) c tt, (s.0.0, s.1)))

argument_rule : (size : ℕ) → Rule size true NoShift ArgumentText (λ c. star_or_term raw_terms)
argument_rule size =
    alike_rule (λ c. star_or_term raw_terms) same_argument
    (as_rule ArgumentText
    (look_rule either_argument
    (placed_rule size NoShift StarText (λ c. expect Star) (follow_rule NoShift (λ left g. tt) (star_rule size)) star_at (λ c u s. s.1))
    (term_rule size) star_sees (λ c v ts left t g. placed_misses Star t.item ts left refl t.spelled))
    argument_there (λ c v ts us a. argument_of c v a.item.item a.item.place ts us a.means a.fits a.spelled))

-- ---- lists that may be empty

abbrev pub Lists : {V : Type 0} → Language V → Token → Language (List V)
Lists T k c [] ts us = ts ≡ us
Lists T k c (v ∷ vs) ts us = Separated (T c) k (v ∷ vs) ts us

module _ {V : Type 0} (size : ℕ) (F : Tokens → Type 0) (T : Language V) (p : Cut → Parser V) (one : Rule size true F T p) (test stop : Placed → Bool) (k : Token) (kind : KindRule test k) (comma_follows : (t : Placed) (ts : Tokens) → t.token ≡ k → F (t ∷ ts)) (misses : (c : Bool) (v : V) (ts us : Tokens) → T c v ts us → Sees false stop false ts) where
  -- what may follow: the token that stops the list
  pub record Stopped (left : Tokens) : Type 0 where
    pub ends : F left × IsNot test left
    pub stops : Sees false stop true left

  first_misses : (c : Bool) (vs : List V) (ts us : Tokens) → Separated (T c) k vs ts us → Sees false stop false ts
  first_misses c [] ts us s = absurd s
  first_misses c (v ∷ []) ts us s = misses c v ts us s
  first_misses c (v ∷ w ∷ vs) ts us s = misses c v ts s.0 s.1

  listed_there : (c : Bool) (vs : List V) (ts us : Tokens) → Either (Nothing []) (Members T k []) c vs ts us → Lists T k c vs ts us
  listed_there c vs ts us (inl (e, d)) = subst (λ l. Lists T k c l ts us) (sym e) d
  listed_there c vs ts us (inr ([], e, s)) = absurd s
  listed_there c vs ts us (inr (v ∷ ws, e, s)) = subst (λ l. Lists T k c l ts us) (sym e) s

  listed_back : (c : Bool) (vs : List V) (ts us : Tokens) → Lists T k c vs ts us → Either (Nothing []) (Members T k []) c vs ts us
  listed_back c [] ts us s = inl (refl, s)
  listed_back c (v ∷ vs) ts us s = inr (v ∷ vs, refl, s)

  pub listed_rule : Rule size true Stopped (Lists T k) (λ c. listed (p c) test stop size)
  unfolding listed
  listed_rule =
      as_rule (Lists T k)
      (look_rule (λ none c. if none then pure [] else separated_from (p c) test size [])
      (pure_rule size true Stopped [])
      (follow_rule Stopped (λ left g. g.ends) (separated_rule size true F T p one test k kind comma_follows size (omega arith) []))
      (λ c v ts left n g. subst (Sees false stop true) (sym n.1) g.stops) (λ c vs ts left m g. first_misses c m.0 ts left m.2))
      listed_there listed_back

-- a comma before a term
comma_shift : (t : Placed) (ts : Tokens) → t.token ≡ symbol_token Comma → NoShift (t ∷ ts)
comma_shift t ts e = (ap (is_symbol_token Plus) e, ap (is_symbol_token Minus) e)

argument_misses : (c : Bool) (v : RawTerm) (ts us : Tokens) → ArgumentText c v ts us → Sees false (is_symbol Close) false ts
argument_misses c v ts us a = by a.item.item a.item.place a.spelled
  where
    by : (item : WrittenArgument wide) (p : Place) → Takes (from p (argument_text item)) ts us → Sees false (is_symbol Close) false ts
    by (argument_term w) p s = placed_misses Close (record { item = w; place = p }) ts us refl s
    by (star w) p s = star_misses ts s
      where
        star_misses : (ts : Tokens) → Takes (at p (symbol_token Star) ∷ []) ts us → Sees false (is_symbol Close) false ts
        star_misses [] s = absurd s
        star_misses (t ∷ ts) s = ap (is_symbol_token Close) s.0.0

abbrev pub Arguments : Language (List RawTerm)
Arguments = Lists ArgumentText (symbol_token Comma)

abbrev pub ClosesArguments : Tokens → Type 0
ClosesArguments left = (NoShift left × IsNot (is_symbol Comma) left) × Sees false (is_symbol Close) true left

pub arguments_rule : (size : ℕ) → Rule size true ClosesArguments Arguments (λ c. listed (star_or_term raw_terms) (is_symbol Comma) (is_symbol Close) size)
arguments_rule size = follow_rule ClosesArguments (λ left g. record { ends = g.0; stops = g.1 }) (listed_rule size NoShift ArgumentText (λ c. star_or_term raw_terms) (argument_rule size) (is_symbol Comma) (is_symbol Close) (symbol_token Comma) (symbol_kind Comma) comma_shift argument_misses)
