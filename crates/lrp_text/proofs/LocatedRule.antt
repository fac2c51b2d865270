-- Something with the place of its first token.
use Rattle.std.proofs.Common.{◌≡◌, inl, inr, Bool, List, [], ◌∷◌, refl, ap, ◌∙◌, sym, subst, Ok, Err, append-nil}
use Rattle.lrp_model.specs.declared.tokens.Place.{Place}
use Rattle.lrp_model.specs.declared.tokens.Fault.{Fault}
use Rattle.lrp_model.specs.Tokens.{Placed, Tokens, Part, Takes, Spells, from, located_text}
use Rattle.lrp_model.specs.declared.written.Located.{Located}
use Rattle.lrp_model.specs.Lexing.{start}
use Rattle.lrp_model.specs.Tokens.Part.{at, any}
use Rattle.lrp_text.specs.Parsers.{Parser, ◌>>=◌, pure}
use Rattle.lrp_model.specs.Refused.{Stops, TextOf, Fitting}
use Rattle.lrp_text.specs.Taking.{here, located}
use Rattle.lrp_text.proofs.Local.{Local, bind_local, look_local, pure_local}
use Rattle.lrp_text.proofs.Complete.{Answers, ReadsBack, Sees, looks, answers_then}
use Rattle.lrp_text.proofs.Sound.{Sound, bind_ok, look_ok, look_seen}
use Rattle.lrp_text.proofs.Viable.{Viable, before, bind_err, look_err}

-- the parts begin with a token at any place
abbrev pub Leads : List Part → Type 0
Leads [] = ⊥
Leads (any k ∷ ps) = Unit {0}
Leads (at p k ∷ ps) = ⊥

-- parts whose first token stands at a place
pub from_place : (p : Place) (ps : List Part) (t : Placed) (ts us : Tokens) → Leads ps → t.place ≡ p → Takes ps (t ∷ ts) us → Takes (from p ps) (t ∷ ts) us
from_place p [] t ts us l e h = absurd l
from_place p (any k ∷ ps) t ts us l e h = ((h.0, e), h.1)
from_place p (at q k ∷ ps) t ts us l e h = absurd l

-- the first token stands at the place
pub takes_from : (p : Place) (ps : List Part) (ts us : Tokens) → Leads ps → Takes (from p ps) ts us → Takes ps ts us × Sees start (λ t. t.place) p ts
takes_from p [] ts us l h = absurd l
takes_from p (at q k ∷ ps) ts us l h = absurd l
takes_from p (any k ∷ ps) [] us l h = absurd h
takes_from p (any k ∷ ps) (t ∷ ts) us l h = ((h.0.0, h.1), h.0.1)

-- parts that begin with a token take one
empty_leads : (ps : List Part) (us : Tokens) → Leads ps → Takes ps [] us → ⊥
empty_leads [] us l h = l
empty_leads (any k ∷ ps) us l h = h
empty_leads (at q k ∷ ps) us l h = l

-- with its place a thing is local
pub located_local : {A : Type 0} (p : Parser A) → Local p → Local (located p)
located_local p lp =
    bind_local here _ (look_local start (λ t. t.place)) (λ place.
    bind_local p _ lp (λ item. pure_local (record { place = place; item = item })))

-- what is read after a place is read with it
pub located_answers : {A : Type 0} (p : Parser A) (spell : A → List Part) (l : Located A) (L : Type 0) (ts left : Tokens) → Leads (spell l.item) → Takes (located_text spell l) ts left → (Takes (spell l.item) ts left → Answers (p ts) l.item left L) → Answers (located p ts) l left L
located_answers {A} p spell l L ts left leads h reads =
    let k = takes_from l.place (spell l.item) ts left leads h in
    let seen : here ts ≡ Ok (l.place, ts) = looks start (λ t. t.place) l.place ts ts refl k.1 in
    let f : Place → Parser (Located A) = λ place. p >>= (λ item. pure (record { place = place; item = item })) in
    answers_then (here ts) f l.place ts l left L (inl seen) (answers_then (p ts) (λ item. pure (record { place = l.place; item = item })) l.item left l left L (reads k.0) (inl refl))

-- the same as a law of all tokens
pub located_back : {A : Type 0} (p : Parser A) (spell : A → List Part) (l : Located A) (L : Type 0) (G : Tokens → Type 0) → Leads (spell l.item) → ReadsBack p (spell l.item) l.item L G → ReadsBack (located p) (located_text spell l) l L G
located_back p spell l L G leads r = record { reads = λ ts left h g. located_answers p spell l L ts left leads h (λ k. r.reads ts left k g) }

-- the place that was seen is that of the first token
located_found : {A : Type 0} (spell : A → List Part) (place : Place) (item : A) (ts us : Tokens) → Leads (spell item) → Takes (spell item) ts us → here ts ≡ Ok (place, ts) → Takes (from place (spell item)) ts us
located_found spell place item [] us leads h e = absurd (empty_leads (spell item) us leads h)
located_found spell place item (t ∷ ts) us leads h e = from_place place (spell item) t ts us leads (look_seen start (λ x. x.place) t ts (place, t ∷ ts) e) h

-- with its place a thing is spelled so
pub located_sound : {A : Type 0} (p : Parser A) (spell : A → List Part) (Fits : A → Type 0) → ((a : A) → Leads (spell a)) → Sound p spell Fits → Sound (located p) (located_text spell) (λ l. Fits l.item)
located_sound {A} p spell Fits leads sound ts q e =
    let a = bind_ok (here ts) _ q e in
    let b = bind_ok (p a.0.1) _ q a.2 in
    let same : ts ≡ a.0.1 = look_ok start (λ t. t.place) ts a.0 a.1 in
    let one = sound a.0.1 b.0 b.1 in
    let made : Located A = record { place = a.0.0; item = b.0.0 } in
    let h : (made, b.0.1) ≡ q = cc in
    let seen : here ts ≡ Ok (a.0.0, ts) = a.1 ∙ ap (λ x. Ok (a.0.0, x)) (sym same) in
    let spelled : Takes (spell b.0.0) ts b.0.1 = subst (λ x. Takes (spell b.0.0) x b.0.1) (sym same) one.0 in
    subst (λ y. Takes (located_text spell y.0) ts y.1 × Fits y.0.item) h (located_found spell a.0.0 b.0.0 ts b.0.1 (leads b.0.0) spelled seen, one.1)

-- a text of a thing is a text of it at its place
at_its_place : {A : Type 0} (spell : A → List Part) (Fits : A → Type 0) → ((a : A) → Leads (spell a)) → (c : Bool) (x : Tokens) (a : A) → Fitting c (Fits a) → Spells (spell a) x → TextOf (located_text spell) (λ l. Fits l.item) c x
at_its_place spell Fits leads c [] a fit h = absurd (empty_leads (spell a) [] (leads a) h)
at_its_place spell Fits leads c (t ∷ x) a fit h = (record { place = t.place; item = a }, fit, from_place t.place (spell a) t x [] (leads a) refl h)

-- with its place a thing stops where it stops
pub located_stops : {A : Type 0} (p : Parser A) (spell : A → List Part) (Fits : A → Type 0) (ts : Tokens) (e : Fault × Tokens) → ((a : A) → Leads (spell a)) → (p ts ≡ Err e → Stops (TextOf spell Fits) ts e) → located p ts ≡ Err e → Stops (TextOf (located_text spell) (λ l. Fits l.item)) ts e
located_stops {A} p spell Fits ts e leads viable h = elim (bind_err (here ts) _ e h) [
  | inl d ↦ absurd (look_err start (λ t. t.place) ts e d)
  | inr a ↦ elim (bind_err (p a.0.1) _ e a.2) [
    | inl d ↦
        let same : ts ≡ a.0.1 = look_ok start (λ t. t.place) ts a.0 a.1 in
        let s : Stops (TextOf spell Fits) ts e = viable (ap p same ∙ d) in
        before (TextOf spell Fits) (TextOf (located_text spell) (λ l. Fits l.item)) ts e (λ c x t. ([], subst (TextOf (located_text spell) (λ l. Fits l.item) c) (sym (append-nil x)) (at_its_place spell Fits leads c x t.0 t.1 t.2))) s
    | inr b ↦ absurd cc
  ]
]

-- the same as a law of all tokens
pub located_viable : {A : Type 0} (p : Parser A) (spell : A → List Part) (Fits : A → Type 0) → ((a : A) → Leads (spell a)) → Viable p spell Fits → Viable (located p) (located_text spell) (λ l. Fits l.item)
located_viable p spell Fits leads viable ts e h = located_stops p spell Fits ts e leads (viable ts e) h
