-- The rules for terms: complete, sound and viable.
use Rattle.std.proofs.Common.{◌≡◌, ◌≤◌, ℕ, Bool, true, false, List, [], ◌∷◌, ◌++◌, refl, sym, subst, if◌then◌else◌, length, append-nil}
use Rattle.lrp_model.specs.Texts.{Identifier}
use Rattle.lrp_model.specs.declared.tokens.Place.{Place}
use Rattle.lrp_model.specs.declared.written.Located.{Located}
use Rattle.lrp_model.specs.declared.written.Integer.{Integer}
use Rattle.lrp_model.specs.Tokens.{Tokens, Part, Takes, Spells, located_text}
use Rattle.lrp_model.specs.Tokens.Token.{name_token, text_token}
use Rattle.lrp_model.specs.Tokens.Part.{at, any}
use Rattle.lrp_model.specs.Limits.{greatest_number}
use Rattle.lrp_model.specs.Refused.{TextOf, Fitting}
use Rattle.lrp_model.specs.Databases.{integer_text}
use Rattle.lrp_model.specs.Queries.{WrittenTerm, term_text, FitsTerm}
use Rattle.lrp_model.specs.Queries.WrittenTerm.{integer as integer_term, text_term, variable, shifted}
use Rattle.lrp_text.specs.Parsers.{◌>>=◌, pure, look}
use Rattle.lrp_text.specs.Taking.{is_text, is_name, text, text_of, is_text_token, is_name_token, name, name_of, with_place}
use Rattle.lrp_text.proofs.Complete.{ReadsBack, Answers, Anything, bind_back, then_back, pure_back, accept_back, accepts_back, look_back, first_sees_any, first_sees_at, last_back}
use Rattle.lrp_text.proofs.Sound.{Sound, bind_ok, accept_gives, accept_sound, takes_join, look_ok}
use Rattle.lrp_text.proofs.Viable.{Viable, One, accept_viable, sub_step, look_step, spells_join, always, fits_as}
use Rattle.lrp_text.proofs.TokenTests.{text_part, text_told, text_fits, text_stops, text_tells, name_part, name_told, name_seen, name_stops}
use Rattle.lrp_text.proofs.IntegerRule.{integer_back, integer_sound, integer_viable, no_quote, no_name, integer_leads}
use Rattle.lrp_text.proofs.OffsetRule.{NoShift, offset_text, FitsOffset, offset_back, offset_sound, offset_viable}
use Rattle.lrp_text.proofs.LocatedRule.{Leads, located_back, located_sound, located_viable}
use Rattle.lrp_text.specs.IntegerRule.{integer}
use Rattle.lrp_text.specs.OffsetRule.{Offset, unmoved, moved_by, offset}
use Rattle.lrp_query.specs.Rules.{TermTrees, with_offset, named_term, unnamed_term, bare_term, term}

-- terms as they are written
abbrev pub written_terms : TermTrees WrittenTerm (Located WrittenTerm)
written_terms = record { kind_of = λ t. t; term_at = λ p t. record { place = p; item = t } }

-- a term with an offset is spelled by its name and the offset
pub with_offset_text : (n : Identifier) (o : Offset) → term_text (with_offset n o) ≡ any (name_token n) ∷ offset_text o
with_offset_text n unmoved = refl
with_offset_text n (moved_by down k) = refl

-- and it is lawful where the offset is
pub with_offset_fits : (n : Identifier) (o : Offset) → FitsOffset o → FitsTerm (with_offset n o)
with_offset_fits n unmoved f = f
with_offset_fits n (moved_by down k) f = f

-- the same where it may be unlawful
pub offset_fits : (n : Identifier) (o : Offset) (c : Bool) → Fitting c (FitsOffset o) → Fitting c (FitsTerm (with_offset n o))
offset_fits n o c fit = fits_as (FitsOffset o) (FitsTerm (with_offset n o)) c (with_offset_fits n o) fit

-- ---- terms without names

-- the tokens of a text are read back
pub quoted_back : (t : List ℕ) → ReadsBack (unnamed_term written_terms) (term_text (text_term t)) (text_term t) (FitsTerm (text_term t)) Anything
unfolding unnamed_term
quoted_back t =
    bind_back _ (look_back false is_text true (length t ≤ 255))
    (then_back _ (accept_back (λ t. text_of t.token) (any (text_token t)) t (length t ≤ 255) (λ u h. text_tells u t (length t ≤ 255) (λ l. l) h)) (pure_back (text_term t) _ Anything))
    (λ ts left h g. first_sees_any false is_text_token (text_token t) [] ts left h)

-- the tokens of an integer are read back as a term
pub integer_term_back : (i : Integer) → ReadsBack (unnamed_term written_terms) (term_text (integer_term i)) (integer_term i) (FitsTerm (integer_term i)) Anything
unfolding unnamed_term
integer_term_back i =
    bind_back _ {G = Anything} (look_back false is_text false (i.size ≤ greatest_number))
    (last_back integer integer_term (integer_text i) i (i.size ≤ greatest_number) Anything (integer_back i))
    (λ ts left h g. no_quote i ts left h)

-- a text or an integer is spelled so
either_sound : (text_next : Bool) → Sound (if text_next then (text >>= (λ t. pure (text_term t))) else (integer >>= (λ i. pure (integer_term i)))) term_text FitsTerm
either_sound true = λ ts q e.
    let t = bind_ok (text ts) _ q e in
    let h : (text_term t.0.0, t.0.1) ≡ q = cc in
    subst (λ y. Takes (term_text y.0) ts y.1 × FitsTerm y.0) h (accept_gives _ text_part (λ u. length u ≤ 255) text_told text_fits ts t.0 t.1)
either_sound false = λ ts q e.
    let i = bind_ok (integer ts) _ q e in
    let h : (integer_term i.0.0, i.0.1) ≡ q = cc in
    subst (λ y. Takes (term_text y.0) ts y.1 × FitsTerm y.0) h (integer_sound ts i.0 i.1)

-- a text or an integer that is read is spelled so, and is lawful
pub unnamed_term_sound : Sound (unnamed_term written_terms) term_text FitsTerm
unfolding unnamed_term
unnamed_term_sound ts q e =
    let s = bind_ok (look false is_text ts) _ q e in
    subst (λ x. Takes (term_text q.0) x q.1 × FitsTerm q.0) (sym (look_ok false is_text ts s.0 s.1)) (either_sound s.0.0 s.0.1 q s.2)

-- a text or an integer stops where it says
either_viable : (text_next : Bool) → Viable (if text_next then (text >>= (λ t. pure (text_term t))) else (integer >>= (λ i. pure (integer_term i)))) term_text FitsTerm
either_viable true = λ ts e h.
    sub_step text _ (One text_part) (λ u. length u ≤ 255) (TextOf term_text FitsTerm) ts e (accept_gives _ text_part (λ u. length u ≤ 255) text_told text_fits) (accept_viable _ text_part (λ u. length u ≤ 255) text_stops) h
    (λ c t x spelled fit. ([], (text_term t, fit, subst (λ y. Spells (One text_part t) y) (sym (append-nil x)) spelled)))
    (λ t h2 us s2 f2 d2. absurd cc)
either_viable false = λ ts e h.
    sub_step integer _ integer_text (λ i. i.size ≤ greatest_number) (TextOf term_text FitsTerm) ts e integer_sound integer_viable h
    (λ c i x spelled fit. ([], (integer_term i, fit, subst (λ y. Spells (integer_text i) y) (sym (append-nil x)) spelled)))
    (λ i h2 us s2 f2 d2. absurd cc)

-- the tokens before a fault of a text or an integer begin one
pub unnamed_term_viable : Viable (unnamed_term written_terms) term_text FitsTerm
unfolding unnamed_term
unnamed_term_viable ts e h = look_step false is_text _ (TextOf term_text FitsTerm) ts e h (λ text_next seen d. either_viable text_next ts e d)

-- ---- terms

-- a name wherever it stands
pub any_place : (p : Place) (n : Identifier) (ps : List Part) (ts left : Tokens) → Takes (at p (name_token n) ∷ ps) ts left → Takes (any (name_token n) ∷ ps) ts left
any_place p n ps [] left h = h
any_place p n ps (t ∷ ts) left h = (h.0.0, h.1)

-- the tokens of a name with or without an offset are read back
name_reads : (n : Identifier) (o : Offset) (ts left : Tokens) → Takes (any (name_token n) ∷ offset_text o) ts left → NoShift left → Answers (bare_term written_terms ts) (with_offset n o) left (FitsOffset o)
unfolding bare_term named_term
name_reads n o [] left h g = absurd h
name_reads n o (t ∷ ts) left h g =
    (bind_back _ {G = NoShift} (look_back false is_name true (FitsOffset o))
    (then_back _ (accepts_back (λ t. with_place t.place (name_of t.token)) (at t.place (name_token n)) (n, t.place) (FitsOffset o) (name_seen (n, t.place)))
    (last_back offset (λ x. with_offset n x) (offset_text o) o (FitsOffset o) NoShift (offset_back o)))
    (λ us vs k f. first_sees_at false is_name_token t.place (name_token n) (offset_text o) us vs k)).reads (t ∷ ts) left ((h.0, refl), h.1) g

-- anything may follow what needs no more
pub more_follows : (ts : Tokens) → NoShift ts → Anything ts
more_follows ts g = tt

-- the tokens of a term without its place are read back
pub bare_term_back : (k : WrittenTerm) → ReadsBack (bare_term written_terms) (term_text k) k (FitsTerm k) NoShift
unfolding bare_term
bare_term_back (variable n) = record { reads = λ ts left h g. name_reads n unmoved ts left h g }
bare_term_back (shifted n down k) = record { reads = λ ts left h g. name_reads n (moved_by down k) ts left h g }
bare_term_back (text_term t) =
    bind_back _ {G = NoShift} (look_back false is_name false (length t ≤ 255)) (record { reads = λ ts left h g. (quoted_back t).reads ts left h tt })
    (λ ts left h g. first_sees_any false is_name_token (text_token t) [] ts left h)
bare_term_back (integer_term i) =
    bind_back _ {G = NoShift} (look_back false is_name false (i.size ≤ greatest_number)) (record { reads = λ ts left h g. (integer_term_back i).reads ts left h tt })
    (λ ts left h g. no_name i.negative i.size ts left h)

-- a name with or without an offset is spelled so
name_then_sound : Sound (name >>= (λ n. named_term written_terms n.0)) term_text FitsTerm
unfolding named_term
name_then_sound ts q e =
    let n = bind_ok (name ts) _ q e in
    let o = bind_ok (offset n.0.1) _ q n.2 in
    let h : (with_offset n.0.0.0 o.0.0, o.0.1) ≡ q = cc in
    let read = offset_sound n.0.1 o.0 o.1 in
    let named : Takes (any (name_token n.0.0.0) ∷ []) ts n.0.1 = any_place n.0.0.1 n.0.0.0 [] ts n.0.1 (accept_sound _ name_part name_told ts n.0 n.1) in
    subst (λ y. Takes (term_text y.0) ts y.1 × FitsTerm y.0) h (
      subst (λ ps. Takes ps ts o.0.1) (sym (with_offset_text n.0.0.0 o.0.0)) (takes_join (any (name_token n.0.0.0) ∷ []) (offset_text o.0.0) ts n.0.1 o.0.1 named read.0),
      with_offset_fits n.0.0.0 o.0.0 read.1,
    )

-- a term with or without a name is spelled so
either_named_sound : (name_next : Bool) → Sound (if name_next then (name >>= (λ n. named_term written_terms n.0)) else unnamed_term written_terms) term_text FitsTerm
either_named_sound true = name_then_sound
either_named_sound false = unnamed_term_sound

-- a term without its place that is read is spelled so, and is lawful
pub bare_term_sound : Sound (bare_term written_terms) term_text FitsTerm
unfolding bare_term
bare_term_sound ts q e =
    let s = bind_ok (look false is_name ts) _ q e in
    subst (λ x. Takes (term_text q.0) x q.1 × FitsTerm q.0) (sym (look_ok false is_name ts s.0 s.1)) (either_named_sound s.0.0 s.0.1 q s.2)

-- the parts of a name and an offset after it, as those of a term
pub name_spelled : (p : Place) (n : Identifier) (o : Offset) (head x : Tokens) → Spells (at p (name_token n) ∷ []) head → Spells (offset_text o) x → Spells (term_text (with_offset n o)) (head ++ x)
name_spelled p n o head x one two = subst (λ ps. Spells ps (head ++ x)) (sym (with_offset_text n o)) (any_place p n (offset_text o) (head ++ x) [] (spells_join (at p (name_token n) ∷ []) (offset_text o) head x one two))

-- a name with or without an offset stops where it says
name_then_viable : Viable (name >>= (λ n. named_term written_terms n.0)) term_text FitsTerm
unfolding named_term
name_then_viable ts e h =
    let R : Bool → Tokens → Type 0 = TextOf term_text FitsTerm in
    sub_step name _ (One name_part) (λ n. Unit {0}) R ts e (λ us q d. (accept_sound _ name_part name_told us q d, tt)) (accept_viable _ name_part (λ n. Unit {0}) name_stops) h
    (λ c n x spelled fit. ([], (variable n.0, always (Unit {0}) c tt, name_spelled n.1 n.0 unmoved x [] spelled refl)))
    (λ n h1 us s1 f1 d1. sub_step offset _ offset_text FitsOffset (λ c x. R c (h1 ++ x)) us e offset_sound offset_viable d1
    (λ c o x spelled fit. ([], (with_offset n.0 o, offset_fits n.0 o c fit, subst (λ y. Spells (term_text (with_offset n.0 o)) (h1 ++ y)) (sym (append-nil x)) (name_spelled n.1 n.0 o h1 x s1 spelled))))
    (λ o h2 vs s2 f2 d2. absurd cc))

-- a term with or without a name stops where it says
either_named_viable : (name_next : Bool) → Viable (if name_next then (name >>= (λ n. named_term written_terms n.0)) else unnamed_term written_terms) term_text FitsTerm
either_named_viable true = name_then_viable
either_named_viable false = unnamed_term_viable

-- the tokens before a fault of a term without its place begin one
pub bare_term_viable : Viable (bare_term written_terms) term_text FitsTerm
unfolding bare_term
bare_term_viable ts e h = look_step false is_name _ (TextOf term_text FitsTerm) ts e h (λ name_next seen d. either_named_viable name_next ts e d)

-- a term begins with a token at any place
pub term_leads : (k : WrittenTerm) → Leads (term_text k)
term_leads (variable n) = tt
term_leads (shifted n down k) = tt
term_leads (text_term t) = tt
term_leads (integer_term i) = integer_leads i

-- what spells a term with its place
abbrev pub placed_text : Located WrittenTerm → List Part
placed_text = located_text term_text

-- a term with its place is lawful where it is
abbrev pub FitsPlaced : Located WrittenTerm → Type 0
FitsPlaced l = FitsTerm l.item

-- the tokens of a term are read back
pub term_back : (l : Located WrittenTerm) → ReadsBack (term written_terms) (placed_text l) l (FitsPlaced l) NoShift
unfolding term
term_back l = located_back (bare_term written_terms) term_text l (FitsTerm l.item) NoShift (term_leads l.item) (bare_term_back l.item)

-- a term that is read is spelled so, and is lawful
pub term_sound : Sound (term written_terms) placed_text FitsPlaced
unfolding term
term_sound = located_sound (bare_term written_terms) term_text FitsTerm term_leads bare_term_sound

-- the tokens before a fault of a term begin one
pub term_viable : Viable (term written_terms) placed_text FitsPlaced
unfolding term
term_viable = located_viable (bare_term written_terms) term_text FitsTerm term_leads bare_term_viable
