-- The rules for rows: complete, sound and viable.
use Rattle.lrp_model.specs.declared.written.Located.{Located}
use Rattle.lrp_model.specs.declared.written.WrittenValue.{WrittenValue}
use Rattle.lrp_model.specs.declared.written.WrittenValue.TheVariants.{Constant, Instant, Point}
use Rattle.lrp_model.specs.declared.written.RawBound.{RawBound}
use Rattle.lrp_model.specs.declared.written.RawRow.{RawRow}
use Rattle.lrp_model.specs.Lexing.{start}
use Rattle.lrp_model.specs.Databases.{sign, integer_text, value_text, bound_text, comma, bounds_text, row_text, FitsValue, FitsBound, FitsRow}
use Rattle.lrp_model.specs.Tokens.{located_text}
use Rattle.std.proofs.Common.{◌≡◌, ◌≤◌, ◌<◌, ◌+◌, ℕ, Bool, true, false, List, [], ◌∷◌, ◌++◌, refl, ap, sym, subst, Ok, Err, if◌then◌else◌, length, arith, append-nil}
use Rattle.std.specs.List.{AllByRecursion}
use Rattle.lrp_model.specs.declared.tokens.Symbol.{Symbol}
use Rattle.lrp_model.specs.declared.tokens.Symbol.TheVariants.{Open, Close, Comma, Semicolon, Plus, Minus}
use Rattle.lrp_model.specs.declared.tokens.Word.TheVariants.{Where}
use Rattle.lrp_model.specs.declared.tokens.Fault.{Fault}
use Rattle.lrp_model.specs.Tokens.{Placed, Tokens, Part, IsPart, Takes, Spells, separated}
use Rattle.lrp_model.specs.Tokens.Token.{number_token, symbol_token, word_token, text_token}
use Rattle.lrp_model.specs.Tokens.Part.{any}
use Rattle.lrp_text.specs.Parsers.{pure, eat, listed, separated_from}
use Rattle.lrp_model.specs.Refused.{Stops, TextOf}
use Rattle.lrp_text.specs.Taking.{is_symbol, is_symbol_token, is_word, is_word_token, expect, required}
use Rattle.lrp_text.proofs.Complete.{Answers, separated_long, ReadsBack, back_as, answers_as, Anything, IsNot, Sees, bind_back, then_back, pure_back, accepts_back, eat_back, eat_none, first_sees_any, first_is_not, same_next, MemberBack, FollowsList, separated_back, listed_back}
use Rattle.std.proofs.lemmas.List.{length-append}
use Rattle.lrp_text.proofs.Sound.{takes_shorter, Sound, bind_ok, accept_sound, eat_sound, eaten_parts, takes_join, separated_sound, listed_sound}
use Rattle.lrp_text.proofs.Viable.{Viable, One, accept_viable, sub_short, eat_short, spells_join, both, fits_as, always, after_front, SomeText, separated_viable, listed_viable}
use Rattle.lrp_text.proofs.TokenTests.{symbol_told, symbol_seen, word_told, word_seen, expect_told, expect_seen, expect_stops}
use Rattle.lrp_text.proofs.LocatedRule.{takes_from}
use Rattle.lrp_rel.specs.Rules.{value, bound, bounds, row}
use Rattle.lrp_rel.proofs.ValueRules.{NoPlus, value_back, value_sound, value_viable, bare_value_leads}
use Rattle.lrp_text.proofs.OffsetRule.{NoShift}
use Rattle.lrp_rel.proofs.BoundRules.{bound_back, bound_sound, bound_viable}

-- what a comma is among symbols
comma_token : (t : Placed) (s : Symbol) → IsPart comma t → is_symbol s t ≡ is_symbol_token s (symbol_token Comma)
comma_token t s h = ap (is_symbol_token s) h

-- a value as a member of a list
values_member : MemberBack value (located_text value_text) (λ v. FitsValue v.item) NoPlus comma (is_symbol Comma)
values_member = record {
  one = value_back;
  comma_follows = λ t ts h. comma_token t Plus h;
  comma_seen = symbol_seen Comma;
}

-- a bound as a member of a list
bounds_member : MemberBack bound bound_text FitsBound NoShift comma (is_symbol Comma)
bounds_member = record {
  one = bound_back;
  comma_follows = λ t ts h. (comma_token t Plus h, comma_token t Minus h);
  comma_seen = symbol_seen Comma;
}

-- an integer does not begin with this symbol
sign_sees : (s : Symbol) (negative : Bool) (n : ℕ) (ps : List Part) (ts left : Tokens) → is_symbol_token s (symbol_token Minus) ≡ false → Takes ((sign negative ++ any (number_token n) ∷ []) ++ ps) ts left → Sees false (is_symbol s) false ts
sign_sees s true n ps ts left e h = subst (λ b. Sees false (is_symbol s) b ts) e (first_sees_any false (is_symbol_token s) (symbol_token Minus) (any (number_token n) ∷ ps) ts left h)
sign_sees s false n ps ts left e h = first_sees_any false (is_symbol_token s) (number_token n) ps ts left h

-- a value does not begin with a parenthesis
bare_value_sees : (k : WrittenValue) (ts left : Tokens) → Takes (value_text k) ts left → Sees false (is_symbol Close) false ts
bare_value_sees (Constant t) ts left h = first_sees_any false (is_symbol_token Close) (text_token t) [] ts left h
bare_value_sees (Instant i) ts left h = sign_sees Close i.negative i.size [] ts left refl (subst (λ x. Takes x ts left) (sym (append-nil (integer_text i))) h)
bare_value_sees (Point i k) ts left h = sign_sees Close i.negative i.size _ ts left refl h

-- the same of a value with its place
value_sees : (v : Located WrittenValue) (ts left : Tokens) → Takes ((located_text value_text) v) ts left → Sees false (is_symbol Close) false ts
value_sees v ts left h = bare_value_sees v.item ts left (takes_from v.place (value_text v.item) ts left (bare_value_leads v.item) h).0

-- a closing parenthesis comes next
abbrev pub Closes : Tokens → Type 0
Closes ts = Sees false (is_symbol Close) true ts × FollowsList NoPlus (is_symbol Comma) ts

-- a parenthesis ends the values
closes : (ps : List Part) (ts left : Tokens) → Takes (any (symbol_token Close) ∷ ps) ts left → Closes ts
closes ps ts left h = (
  first_sees_any false (is_symbol_token Close) (symbol_token Close) ps ts left h,
  record {
    member = first_is_not (is_symbol_token Plus) (symbol_token Close) ps ts left refl h;
    no_comma = first_is_not (is_symbol_token Comma) (symbol_token Close) ps ts left refl h;
  },
)

-- what may follow bounds
pub record FollowsBounds (ts : Tokens) : Type 0 where
  pub no_where : IsNot (is_word Where) ts
  pub list : FollowsList NoShift (is_symbol Comma) ts

-- a semicolon ends the bounds
ends_bounds : (ps : List Part) (ts left : Tokens) → Takes (any (symbol_token Semicolon) ∷ ps) ts left → FollowsBounds ts
ends_bounds ps ts left h = record {
  no_where = first_is_not (is_word_token Where) (symbol_token Semicolon) ps ts left refl h;
  list = record {
    member = (first_is_not (is_symbol_token Plus) (symbol_token Semicolon) ps ts left refl h, first_is_not (is_symbol_token Minus) (symbol_token Semicolon) ps ts left refl h);
    no_comma = first_is_not (is_symbol_token Comma) (symbol_token Semicolon) ps ts left refl h;
  };
}

-- the tokens of the bounds of a row are read back
pub bounds_back : (n : ℕ) (bs : List RawBound) → length bs ≤ n → ReadsBack (bounds n) (bounds_text bs) bs (AllByRecursion FitsBound bs) FollowsBounds
unfolding bounds
bounds_back n [] lt = bind_back _ {G = FollowsBounds} (eat_none (is_word Where) (Unit {0})) (pure_back [] (Unit {0}) FollowsBounds) (λ ts left h g. (same_next FollowsBounds ts left h g).no_where)
bounds_back n (b ∷ bs) lt =
    then_back _ (eat_back (is_word Where) (any (word_token Where)) (AllByRecursion FitsBound (b ∷ bs)) (word_seen Where))
    (record { reads = λ ts left h g. separated_back bounds_member n [] b bs (omega arith) ts left h g.list })

-- the tokens of a row are read back
pub row_back : (n : ℕ) (r : RawRow) → length r.values ≤ n → length r.bounds ≤ n → ReadsBack (row n) (row_text r) r (FitsRow r) Anything
unfolding row
row_back n r few less =
    let L : Type 0 = FitsRow r in
    then_back _ (accepts_back _ (any (symbol_token Open)) tt L (expect_seen Open))
    (bind_back _ {P = separated comma (located_text value_text) r.values} {a = r.values} {F = Closes} (record { reads = λ ts left h g. answers_as _ r.values left (AllByRecursion (λ v. FitsValue v.item) r.values) L (λ l. l.0) (listed_back values_member (is_symbol Close) value_sees n r.values few ts left h g.0 g.1) })
    (then_back _ (accepts_back _ (any (symbol_token Close)) tt L (expect_seen Close))
    (bind_back _ (back_as (AllByRecursion FitsBound r.bounds) L (λ l. l.1) (bounds_back n r.bounds less))
    (then_back _ (accepts_back _ (any (symbol_token Semicolon)) tt L (expect_seen Semicolon)) (pure_back r L Anything))
    (λ ts left h g. ends_bounds [] ts left h)))
    (λ ts left h g. closes (bounds_text r.bounds ++ any (symbol_token Semicolon) ∷ []) ts left h))

-- each bound has a token
bounds_long : (bs : List RawBound) → length bs ≤ length (bounds_text bs)
bounds_long [] = omega arith
bounds_long (b ∷ bs) = let k = separated_long comma bound_text (b ∷ bs) in omega (arith, k)

-- each value but the first has a comma before it, and each bound has a token
row_long : (r : RawRow) → (length r.values ≤ length (row_text r)) × (length r.bounds ≤ length (row_text r))
row_long r =
    let v = separated_long comma (located_text value_text) r.values in
    let b = bounds_long r.bounds in
    let tail = bounds_text r.bounds ++ any (symbol_token Semicolon) ∷ [] in
    let size : length (separated comma (located_text value_text) r.values ++ any (symbol_token Close) ∷ tail) ≡ length (separated comma (located_text value_text) r.values) + length (any (symbol_token Close) ∷ tail) = length-append (separated comma (located_text value_text) r.values) (any (symbol_token Close) ∷ tail) in
    let rest : length tail ≡ length (bounds_text r.bounds) + length (any (symbol_token Semicolon) ∷ []) = length-append (bounds_text r.bounds) (any (symbol_token Semicolon) ∷ []) in
    (omega (arith, v, size, rest), omega (arith, b, size, rest))

-- a row that fewer tokens spell than the number of turns is read
pub row_answers : (n : ℕ) (r : RawRow) (ts left : Tokens) → length ts < n → Takes (row_text r) ts left → Answers (row n ts) r left (FitsRow r)
row_answers n r ts left lt h =
    let size : length left + length (row_text r) ≡ length ts = takes_shorter (row_text r) ts left h in
    let long = row_long r in
    (row_back n r (omega (arith, long.0, size, lt)) (omega (arith, long.1, size, lt))).reads ts left h tt

-- soundness
after_where_sound : (n : ℕ) (some : Bool) (ts us : Tokens) (q : List RawBound × Tokens) → (if some then separated_from bound (is_symbol Comma) n [] else pure []) us ≡ Ok q → Takes (eaten_parts (any (word_token Where)) some) ts us → Takes (bounds_text q.0) ts q.1 × AllByRecursion FitsBound q.0
after_where_sound n false ts us q e eaten = let h : ([], us) ≡ q = cc in subst (λ y. Takes (bounds_text y.0) ts y.1 × AllByRecursion FitsBound y.0) h (eaten, tt)
after_where_sound n true ts us q e eaten =
    let s = separated_sound bound bound_text FitsBound comma (is_symbol Comma) (symbol_told Comma) bound_sound n [] us q e in
    let R : List RawBound → Type 0 = λ l. Takes (bounds_text l) ts q.1 × AllByRecursion FitsBound l in
    subst R (sym s.2) (takes_join (any (word_token Where) ∷ []) (separated comma bound_text (s.0 ∷ s.1)) ts us q.1 eaten s.3, s.4)

-- the bounds of a row that is read is spelled so, and is lawful
pub bounds_sound : (n : ℕ) → Sound (bounds n) bounds_text (AllByRecursion FitsBound)
unfolding bounds
bounds_sound n ts q e =
    let w = bind_ok (eat (is_word Where) ts) _ q e in
    after_where_sound n w.0.0 ts w.0.1 q w.2 (eat_sound (is_word Where) (any (word_token Where)) (word_told Where) ts w.0 w.1)

-- the part that a symbol is
abbrev pub sym_part : Symbol → Unit {0} → Part
sym_part s u = any (symbol_token s)

-- a symbol that is read is spelled so, and is lawful
pub symbol_sound : (s : Symbol) → Sound (expect s) (One (sym_part s)) (λ u. Unit {0})
symbol_sound s ts q e = (accept_sound _ (sym_part s) (expect_told s) ts q e, tt)

-- the tokens before a fault of a symbol begin one
pub symbol_viable : (s : Symbol) → Viable (expect s) (One (sym_part s)) (λ u. Unit {0})
symbol_viable s = accept_viable (λ t. required (is_symbol s t)) (sym_part s) (λ u. Unit {0}) (expect_stops s)

-- the values of a row that is read is spelled so, and is lawful
pub values_sound : (n : ℕ) → Sound (listed value (is_symbol Comma) (is_symbol Close) n) (separated comma (located_text value_text)) (AllByRecursion (λ v. FitsValue v.item))
values_sound n = listed_sound value (located_text value_text) (λ v. FitsValue v.item) comma (is_symbol Comma) (is_symbol Close) (symbol_told Comma) value_sound n

-- a row that is read is spelled so, and is lawful
pub row_sound : (n : ℕ) → Sound (row n) row_text FitsRow
unfolding row
row_sound n ts q e =
    let o = bind_ok (expect Open ts) _ q e in
    let vs = bind_ok (listed value (is_symbol Comma) (is_symbol Close) n o.0.1) _ q o.2 in
    let c = bind_ok (expect Close vs.0.1) _ q vs.2 in
    let bs = bind_ok (bounds n c.0.1) _ q c.2 in
    let s = bind_ok (expect Semicolon bs.0.1) _ q bs.2 in
    let made : RawRow = record { values = vs.0.0; bounds = bs.0.0 } in
    let h : (made, s.0.1) ≡ q = cc in
    let values = values_sound n o.0.1 vs.0 vs.1 in
    let limits = bounds_sound n c.0.1 bs.0 bs.1 in
    subst (λ y. Takes (row_text y.0) ts y.1 × FitsRow y.0) h (
      takes_join (One (sym_part Open) tt) (separated comma (located_text value_text) vs.0.0 ++ any (symbol_token Close) ∷ (bounds_text bs.0.0 ++ any (symbol_token Semicolon) ∷ [])) ts o.0.1 s.0.1 (symbol_sound Open ts o.0 o.1).0
          (takes_join (separated comma (located_text value_text) vs.0.0) (any (symbol_token Close) ∷ (bounds_text bs.0.0 ++ any (symbol_token Semicolon) ∷ [])) o.0.1 vs.0.1 s.0.1 values.0
          (takes_join (One (sym_part Close) tt) (bounds_text bs.0.0 ++ any (symbol_token Semicolon) ∷ []) vs.0.1 c.0.1 s.0.1 (symbol_sound Close vs.0.1 c.0 c.1).0
          (takes_join (bounds_text bs.0.0) (any (symbol_token Semicolon) ∷ []) c.0.1 bs.0.1 s.0.1 limits.0 (symbol_sound Semicolon bs.0.1 s.0 s.1).0))),
      (values.1, limits.1),
    )

-- viability
some_bounds : (c : Bool) (x : Tokens) → SomeText comma bound_text FitsBound c x → (t : Placed) → IsPart (any (word_token Where)) t → TextOf bounds_text (AllByRecursion FitsBound) c (t ∷ x)
some_bounds c x s t is = (s.0 ∷ s.1, s.2, (is, s.3))

-- the tokens before a fault of the bounds of a row begin one
pub bounds_viable : (n : ℕ) (ts : Tokens) (e : Fault × Tokens) → length ts < n → bounds n ts ≡ Err e → Stops (TextOf bounds_text (AllByRecursion FitsBound)) ts e
unfolding bounds
bounds_viable n ts e lt h =
    let R : Bool → Tokens → Type 0 = TextOf bounds_text (AllByRecursion FitsBound) in
    eat_short (is_word Where) _ R ts e h
    (λ t vs told shorter d. after_front (SomeText comma bound_text FitsBound) (λ c x. R c (t ∷ x)) [] vs vs e refl (λ c x s. some_bounds c x s t (word_told Where t told))
    (separated_viable bound bound_text FitsBound comma (is_symbol Comma) (symbol_told Comma) bound_sound bound_viable n [] vs e (omega arith) d))
    (λ d. absurd cc)

-- the tokens that end a row after its values
abbrev close_tokens : Tokens
close_tokens = record { token = symbol_token Close; place = start } ∷ record { token = symbol_token Semicolon; place = start } ∷ []

-- the token that ends a row
abbrev semicolon_tokens : Tokens
semicolon_tokens = record { token = symbol_token Semicolon; place = start } ∷ []

-- the parts of a row after its values
abbrev rest_of_row : List RawBound → List Part
rest_of_row bs = bounds_text bs ++ any (symbol_token Semicolon) ∷ []

-- the parts of a row, one after the other
row_spelled : (vs : List (Located WrittenValue)) (bs : List RawBound) (h1 h2 h3 x : Tokens) → Spells (One (sym_part Open) tt) h1 → Spells (separated comma (located_text value_text) vs) h2 → Spells (One (sym_part Close) tt) h3 → Spells (rest_of_row bs) x → Spells (row_text (record { values = vs; bounds = bs })) (h1 ++ (h2 ++ (h3 ++ x)))
row_spelled vs bs h1 h2 h3 x o v c r =
    spells_join (One (sym_part Open) tt) (separated comma (located_text value_text) vs ++ any (symbol_token Close) ∷ rest_of_row bs) h1 (h2 ++ (h3 ++ x)) o
    (spells_join (separated comma (located_text value_text) vs) (any (symbol_token Close) ∷ rest_of_row bs) h2 (h3 ++ x) v
    (spells_join (One (sym_part Close) tt) (rest_of_row bs) h3 x c r))

-- the tokens before a fault of a row begin one
pub row_viable : (n : ℕ) (ts : Tokens) (e : Fault × Tokens) → length ts < n → row n ts ≡ Err e → Stops (TextOf row_text FitsRow) ts e
unfolding row
row_viable n ts e lt h =
    let R : Bool → Tokens → Type 0 = TextOf row_text FitsRow in
    let V : List (Located WrittenValue) → Type 0 = AllByRecursion (λ v. FitsValue v.item) in
    let B : List RawBound → Type 0 = AllByRecursion FitsBound in
    sub_short (expect Open) _ (One (sym_part Open)) (λ u. Unit {0}) R ts e (symbol_sound Open) (symbol_viable Open ts e) h
    (λ c u x spelled fit. (close_tokens, (record { values = []; bounds = [] }, always (FitsRow (record { values = []; bounds = [] })) c (tt, tt), row_spelled [] [] x [] (record { token = symbol_token Close; place = start } ∷ []) semicolon_tokens spelled refl (refl, refl) (refl, refl))))
    (λ u h1 us s1 f1 l1 d1. sub_short (listed value (is_symbol Comma) (is_symbol Close) n) _ (separated comma (located_text value_text)) V (λ c x. R c (h1 ++ x)) us e (values_sound n) (λ d. listed_viable value (located_text value_text) (λ v. FitsValue v.item) comma (is_symbol Comma) (is_symbol Close) (symbol_told Comma) value_sound value_viable n us e (omega arith) d) d1
    (λ c vs x spelled fit. (close_tokens, (record { values = vs; bounds = [] }, both (V vs) (Unit {0}) c fit tt, row_spelled vs [] h1 x (record { token = symbol_token Close; place = start } ∷ []) semicolon_tokens s1 spelled (refl, refl) (refl, refl))))
    (λ vs h2 ws s2 f2 l2 d2. sub_short (expect Close) _ (One (sym_part Close)) (λ u. Unit {0}) (λ c x. R c (h1 ++ (h2 ++ x))) ws e (symbol_sound Close) (symbol_viable Close ws e) d2
    (λ c v x spelled fit. (semicolon_tokens, (record { values = vs; bounds = [] }, always (V vs × Unit {0}) c (f2, tt), row_spelled vs [] h1 h2 x semicolon_tokens s1 s2 spelled (refl, refl))))
    (λ v h3 xs s3 f3 l3 d3. sub_short (bounds n) _ bounds_text B (λ c x. R c (h1 ++ (h2 ++ (h3 ++ x)))) xs e (bounds_sound n) (λ d. bounds_viable n xs e (omega arith) d) d3
    (λ c bs x spelled fit. (semicolon_tokens, (record { values = vs; bounds = bs }, fits_as (B bs) (V vs × B bs) c (λ b. (f2, b)) fit, row_spelled vs bs h1 h2 h3 (x ++ semicolon_tokens) s1 s2 s3 (spells_join (bounds_text bs) (any (symbol_token Semicolon) ∷ []) x semicolon_tokens spelled (refl, refl)))))
    (λ bs h4 ys s4 f4 l4 d4. sub_short (expect Semicolon) _ (One (sym_part Semicolon)) (λ u. Unit {0}) (λ c x. R c (h1 ++ (h2 ++ (h3 ++ (h4 ++ x))))) ys e (symbol_sound Semicolon) (symbol_viable Semicolon ys e) d4
    (λ c w x spelled fit. ([], (record { values = vs; bounds = bs }, always (V vs × B bs) c (f2, f4), row_spelled vs bs h1 h2 h3 (h4 ++ (x ++ [])) s1 s2 s3 (spells_join (bounds_text bs) (any (symbol_token Semicolon) ∷ []) h4 (x ++ []) s4 (subst (λ y. Spells (any (symbol_token Semicolon) ∷ []) y) (sym (append-nil x)) spelled)))))
    (λ w h5 zs s5 f5 l5 d5. absurd cc)))))
