-- The rule for values: complete, sound and viable.
use Rattle.lrp_model.specs.declared.written.Located.{Located}
use Rattle.lrp_model.specs.declared.written.Integer.{Integer}
use Rattle.lrp_model.specs.declared.written.WrittenValue.{WrittenValue}
use Rattle.lrp_model.specs.declared.written.WrittenValue.TheVariants.{Constant, Instant, Point}
use Rattle.lrp_model.specs.Lexing.{start}
use Rattle.lrp_model.specs.Databases.{integer_text, value_text, FitsValue}
use Rattle.lrp_model.specs.Tokens.{located_text}
use Rattle.std.proofs.Common.{◌≡◌, ◌≤◌, ℕ, Bool, true, false, [], ◌∷◌, ◌++◌, refl, sym, subst, Ok, if◌then◌else◌, length, append-nil}
use Rattle.lrp_model.specs.declared.tokens.Symbol.TheVariants.{Plus}
use Rattle.lrp_model.specs.declared.tokens.Word.TheVariants.{Letter}
use Rattle.lrp_model.specs.Tokens.{Placed, Tokens, Part, IsPart, Takes, Spells}
use Rattle.lrp_model.specs.Tokens.Token.{number_token, text_token, symbol_token, word_token}
use Rattle.lrp_model.specs.Tokens.Part.{any}
use Rattle.lrp_text.specs.Parsers.{◌>>=◌, pure, look, eat}
use Rattle.lrp_model.specs.Refused.{TextOf}
use Rattle.lrp_model.specs.Limits.{greatest_number}
use Rattle.lrp_text.specs.Taking.{is_text, is_symbol, expect_word, number, period, period_of, text, text_of, is_text_token}
use Rattle.lrp_text.proofs.Complete.{ReadsBack, back_as, IsNot, bind_back, then_back, pure_back, accept_back, accepts_back, eat_back, eat_none, look_back, first_sees_any, same_next}
use Rattle.lrp_text.proofs.Sound.{Sound, bind_ok, accept_gives, accept_sound, eat_sound, eaten_parts, takes_join, look_ok}
use Rattle.lrp_text.proofs.Viable.{Viable, One, accept_viable, sub_step, eat_step, look_step, spells_join, fits_as, always}
use Rattle.lrp_text.specs.Taking.{IsWrittenPeriod}
use Rattle.lrp_text.proofs.TokenTests.{symbol_told, symbol_seen, word_expected, word_required, word_stops, number_part, period_told, period_fits, period_stops, period_tells, text_part, text_told, text_fits, text_stops, text_tells}
use Rattle.lrp_text.proofs.IntegerRule.{integer_back, integer_sound, integer_viable, no_quote, no_quote_before, sign_leads, integer_leads}
use Rattle.lrp_text.proofs.LocatedRule.{Leads, located_back, located_sound, located_viable}
use Rattle.lrp_text.specs.IntegerRule.{integer}
use Rattle.lrp_rel.specs.Rules.{numeric, bare_value, value}

-- no plus comes next
abbrev pub NoPlus : Tokens → Type 0
NoPlus = IsNot (is_symbol Plus)

-- the tokens of an instant are read back
pub instant_back : (i : Integer) → ReadsBack numeric (integer_text i) (Instant i) (i.size ≤ greatest_number) NoPlus
unfolding numeric
instant_back i = record {
  reads = λ ts left h g.
      (bind_back _ {Q = []} (integer_back i) (bind_back _ {Q = []} (eat_none (is_symbol Plus) (i.size ≤ greatest_number)) (pure_back (Instant i) (i.size ≤ greatest_number) NoPlus) (same_next NoPlus)) (λ us vs e d. tt)).reads ts left (subst (λ x. Takes x ts left) (sym (append-nil (integer_text i))) h) g;
}

-- the tokens of a point are read back
pub point_back : (i : Integer) (k : ℕ) → ReadsBack numeric (value_text (Point i k)) (Point i k) (FitsValue (Point i k)) NoPlus
unfolding numeric
point_back i k =
    then_back _ (back_as (i.size ≤ greatest_number) (FitsValue (Point i k)) (λ l. l.0) (integer_back i))
    (then_back _ (eat_back (is_symbol Plus) (any (symbol_token Plus)) (FitsValue (Point i k)) (symbol_seen Plus))
    (then_back _ (accept_back (λ t. period_of t.token) (any (number_token k)) k (FitsValue (Point i k)) (λ t h. period_tells t k (FitsValue (Point i k)) (λ l. (l.1, l.2)) h))
    (then_back _ (accepts_back _ (any (word_token Letter)) tt (FitsValue (Point i k)) (word_required Letter)) (pure_back _ _ NoPlus))))

-- the tokens of a value are read back
pub bare_value_back : (k : WrittenValue) → ReadsBack bare_value (value_text k) k (FitsValue k) NoPlus
unfolding bare_value
bare_value_back (Constant t) =
    bind_back _ (look_back false is_text true (length t ≤ 255))
    (then_back _ (accept_back (λ t. text_of t.token) (any (text_token t)) t (length t ≤ 255) (λ u h. text_tells u t (length t ≤ 255) (λ l. l) h)) (pure_back (Constant t) _ NoPlus))
    (λ ts left h g. first_sees_any false is_text_token (text_token t) [] ts left h)
bare_value_back (Instant i) =
    bind_back _ (look_back false is_text false (i.size ≤ greatest_number)) (instant_back i)
    (λ ts left h g. no_quote i ts left h)
bare_value_back (Point i k) =
    bind_back _ (look_back false is_text false (FitsValue (Point i k))) (point_back i k)
    (λ ts left h g. no_quote_before i.negative i.size _ ts left h)

-- a value begins with a token at any place
pub bare_value_leads : (k : WrittenValue) → Leads (value_text k)
bare_value_leads (Constant t) = tt
bare_value_leads (Instant i) = integer_leads i
bare_value_leads (Point i k) = sign_leads i.negative i.size _

-- the tokens of a value with its place are read back
pub value_back : (v : Located WrittenValue) → ReadsBack value ((located_text value_text) v) v (FitsValue v.item) NoPlus
value_back v = located_back bare_value value_text v (FitsValue v.item) NoPlus (bare_value_leads v.item) (bare_value_back v.item)

-- after an integer, with or without a period
after_plus_sound : (i : Integer) (more : Bool) (ts us vs : Tokens) (q : WrittenValue × Tokens) → (if more then (period >>= (λ k. expect_word Letter >>= (λ u. pure (Point i k)))) else pure (Instant i)) vs ≡ Ok q → Takes (integer_text i) ts us → i.size ≤ greatest_number → Takes (eaten_parts (any (symbol_token Plus)) more) us vs → Takes (value_text q.0) ts q.1 × FitsValue q.0
after_plus_sound i false ts us vs q e one fit eaten =
    let h : (Instant i, vs) ≡ q = cc in
    subst (λ y. Takes (value_text y.0) ts y.1 × FitsValue y.0) h (subst (λ x. Takes (integer_text i) ts x) eaten one, fit)
after_plus_sound i true ts us vs q e one fit eaten =
    let k = bind_ok (period vs) _ q e in
    let l = bind_ok (expect_word Letter k.0.1) _ q k.2 in
    let h : (Point i k.0.0, l.0.1) ≡ q = cc in
    let counts = accept_gives _ number_part IsWrittenPeriod period_told period_fits vs k.0 k.1 in
    let letter : Takes (any (word_token Letter) ∷ []) k.0.1 l.0.1 = accept_sound _ (λ u. any (word_token Letter)) (word_expected Letter) k.0.1 l.0 l.1 in
    subst (λ y. Takes (value_text y.0) ts y.1 × FitsValue y.0) h (
      takes_join (integer_text i) (any (symbol_token Plus) ∷ any (number_token k.0.0) ∷ any (word_token Letter) ∷ []) ts us l.0.1 one
          (takes_join (any (symbol_token Plus) ∷ []) (any (number_token k.0.0) ∷ any (word_token Letter) ∷ []) us vs l.0.1 eaten
          (takes_join (any (number_token k.0.0) ∷ []) (any (word_token Letter) ∷ []) vs k.0.1 l.0.1 counts.0 letter)),
      (fit, counts.1.0, counts.1.1),
    )

-- an instant or a point that is read is spelled so, and is lawful
pub numeric_sound : Sound numeric value_text FitsValue
unfolding numeric
numeric_sound ts q e =
    let i = bind_ok (integer ts) _ q e in
    let m = bind_ok (eat (is_symbol Plus) i.0.1) _ q i.2 in
    let one = integer_sound ts i.0 i.1 in
    after_plus_sound i.0.0 m.0.0 ts i.0.1 m.0.1 q m.2 one.0 one.1 (eat_sound (is_symbol Plus) (any (symbol_token Plus)) (symbol_told Plus) i.0.1 m.0 m.1)

-- a text, or an instant or a point
quoted_sound : (quoted : Bool) → Sound (if quoted then (text >>= (λ t. pure (Constant t))) else numeric) value_text FitsValue
quoted_sound false = numeric_sound
quoted_sound true = λ ts q e.
    let t = bind_ok (text ts) _ q e in
    let h : (Constant t.0.0, t.0.1) ≡ q = cc in
    let k = accept_gives _ text_part (λ u. length u ≤ 255) text_told text_fits ts t.0 t.1 in
    subst (λ y. Takes (value_text y.0) ts y.1 × FitsValue y.0) h k

-- a value that is read is spelled so, and is lawful
pub bare_value_sound : Sound bare_value value_text FitsValue
unfolding bare_value
bare_value_sound ts q e =
    let s = bind_ok (look false is_text ts) _ q e in
    subst (λ x. Takes (value_text q.0) x q.1 × FitsValue q.0) (sym (look_ok false is_text ts s.0 s.1)) (quoted_sound s.0.0 s.0.1 q s.2)

-- a value with its place that is read is spelled so, and is lawful
pub value_sound : Sound value (located_text value_text) (λ v. FitsValue v.item)
value_sound = located_sound bare_value value_text FitsValue bare_value_leads bare_value_sound

-- the part that a plus is
abbrev plus_part : Part
plus_part = any (symbol_token Plus)

-- the part that the letter of a point is
abbrev letter_part : Unit {0} → Part
letter_part u = any (word_token Letter)

-- that letter at the first place
abbrev letter : Placed
letter = record { token = word_token Letter; place = start }

-- the parts of a point, one after the other
point_spelled : (i : Integer) (k : ℕ) (head : Tokens) (t : Placed) (x y : Tokens) → Spells (integer_text i) head → IsPart plus_part t → Spells (One number_part k) x → Spells (One letter_part tt) y → Spells (value_text (Point i k)) (head ++ t ∷ (x ++ y))
point_spelled i k head t x y one plus number letters = spells_join (integer_text i) (plus_part ∷ number_part k ∷ letter_part tt ∷ []) head (t ∷ (x ++ y)) one (plus, spells_join (One number_part k) (One letter_part tt) x y number letters)

-- the tokens before a fault of an instant or a point begin one
pub numeric_viable : Viable numeric value_text FitsValue
unfolding numeric
numeric_viable ts e h =
    let R : Bool → Tokens → Type 0 = TextOf value_text FitsValue in
    sub_step integer _ integer_text (λ i. i.size ≤ greatest_number) R ts e integer_sound integer_viable h
    (λ c i x spelled fit. ([], (Instant i, fit, subst (λ y. Spells (integer_text i) y) (sym (append-nil x)) spelled)))
    (λ i head us one fit d. eat_step (is_symbol Plus) _ (λ c x. R c (head ++ x)) us e d
    (λ t vs told d2. sub_step period _ (One number_part) IsWrittenPeriod (λ c x. R c (head ++ t ∷ x)) vs e (accept_gives _ number_part IsWrittenPeriod period_told period_fits) (accept_viable _ number_part IsWrittenPeriod period_stops) d2
    (λ c k x spelled fits. (letter ∷ [], (Point i k, fits_as (IsWrittenPeriod k) (FitsValue (Point i k)) c (λ p. (fit, p.0, p.1)) fits, point_spelled i k head t x (letter ∷ []) one (symbol_told Plus t told) spelled (refl, refl))))
    (λ k h3 ws s3 f3 d3. sub_step (expect_word Letter) _ (One letter_part) (λ u. Unit {0}) (λ c x. R c (head ++ t ∷ (h3 ++ x))) ws e (λ xs q r. (accept_sound _ letter_part (word_expected Letter) xs q r, tt)) (accept_viable _ letter_part (λ u. Unit {0}) (word_stops Letter)) d3
    (λ c u x spelled fits. ([], (Point i k, always (FitsValue (Point i k)) c (fit, f3.0, f3.1), point_spelled i k head t h3 (x ++ []) one (symbol_told Plus t told) s3 (subst (λ y. Spells (One letter_part tt) y) (sym (append-nil x)) spelled))))
    (λ u h4 xs s4 f4 d4. absurd cc)))
    (λ d2. absurd cc))

-- a text, or an instant or a point, stops where it says
quoted_viable : (quoted : Bool) → Viable (if quoted then (text >>= (λ t. pure (Constant t))) else numeric) value_text FitsValue
quoted_viable false = numeric_viable
quoted_viable true = λ ts e h.
    sub_step text _ (One text_part) (λ u. length u ≤ 255) (TextOf value_text FitsValue) ts e (accept_gives _ text_part (λ u. length u ≤ 255) text_told text_fits) (accept_viable _ text_part (λ u. length u ≤ 255) text_stops) h
    (λ c t x spelled fit. ([], (Constant t, fit, subst (λ y. Spells (One text_part t) y) (sym (append-nil x)) spelled)))
    (λ t h2 us s2 f2 d2. absurd cc)

-- the tokens before a fault of a value begin one
pub bare_value_viable : Viable bare_value value_text FitsValue
unfolding bare_value
bare_value_viable ts e h = look_step false is_text _ (TextOf value_text FitsValue) ts e h (λ quoted seen d. quoted_viable quoted ts e d)

-- the tokens before a fault of a value with its place begin one
pub value_viable : Viable value (located_text value_text) (λ v. FitsValue v.item)
value_viable = located_viable bare_value value_text FitsValue bare_value_leads bare_value_viable
