-- The rules for atoms, comparisons and memberships: complete, sound and viable.
use Rattle.std.proofs.Common.{◌≡◌, inl, inr, ◌≤◌, ◌<◌, ℕ, suc, Bool, true, false, List, [], ◌∷◌, ◌++◌, refl, ap, sym, ◌∙◌, subst, Ok, Err, if◌then◌else◌, length, append-nil, arith}
use Rattle.std.specs.List.{AllByRecursion}
use Rattle.lrp_model.specs.Texts.{Identifier}
use Rattle.lrp_model.specs.declared.tokens.Symbol.{Symbol}
use Rattle.lrp_model.specs.declared.tokens.Symbol.TheVariants.{Open, Close, Comma, Plus, Minus, Le as le_sign, Ge as ge_sign, Lt as lt_sign, Gt as gt_sign, Equals}
use Rattle.lrp_model.specs.declared.tokens.Word.{Word}
use Rattle.lrp_model.specs.declared.tokens.Word.TheVariants.{Letter, In}
use Rattle.lrp_model.specs.declared.tokens.Fault.{Fault}
use Rattle.lrp_model.specs.declared.tokens.Fault.TheVariants.{Syntax}
use Rattle.lrp_model.specs.declared.tokens.Place.{Place}
use Rattle.lrp_model.specs.declared.formulas.Op.{Op}
use Rattle.lrp_model.specs.declared.formulas.Op.TheVariants.{Le, Lt, Ge, Gt, Eq}
use Rattle.lrp_model.specs.declared.written.Located.{Located}
use Rattle.lrp_model.specs.declared.written.Integer.{Integer}
use Rattle.lrp_model.specs.Tokens.{Token, Placed, Tokens, Part, IsPart, Takes, Spells, separated}
use Rattle.lrp_model.specs.Tokens.Token.{name_token, word_token, number_token, text_token, symbol_token}
use Rattle.lrp_model.specs.Tokens.Part.{at, any}
use Rattle.lrp_model.specs.Lexing.{start}
use Rattle.lrp_model.specs.Limits.{greatest_number}
use Rattle.lrp_model.specs.Refused.{Stops, TextOf, Fitting}
use Rattle.lrp_model.specs.Databases.{sign, integer_text, shift, comma}
use Rattle.lrp_model.specs.Queries.{WrittenTerm, term_text, op_symbol, FitsTerm}
use Rattle.lrp_model.specs.Queries.WrittenTerm.{integer as integer_term, text_term, variable, shifted}
use Rattle.lrp_text.specs.Parsers.{Parser, ParseOutcome, and_then, ◌>>=◌, pure, accept, eat, listed}
use Rattle.lrp_text.specs.Taking.{is_symbol, is_symbol_token, is_word, is_word_token, expect, expect_word, required, period, period_of, is_name_token, IsWrittenPeriod}
use Rattle.lrp_text.proofs.Complete.{ReadsBack, back_as, IsNot, Sees, bind_back, then_back, pure_back, accept_back, accepts_back, eat_back, eat_none, first_sees_any, first_is_not, last_back, MemberBack, FollowsList, listed_back}
use Rattle.lrp_text.proofs.Sound.{Sound, bind_ok, accept_gives, accept_sound, eat_sound, eaten_parts, takes_join, takes_front, listed_sound}
use Rattle.lrp_text.proofs.Viable.{Viable, One, TestStops, accept_viable, bind_err, after_front, before, sub_step, sub_short, eat_step, eat_short, spells_join, always, fits_as, listed_viable}
use Rattle.lrp_text.proofs.TokenTests.{symbol_told, symbol_seen, word_told, word_seen, word_expected, word_required, word_stops, expect_told, expect_seen, expect_stops, number_part, period_told, period_fits, period_stops, period_tells}
use Rattle.lrp_text.proofs.LocatedRule.{Leads, from_place, takes_from}
use Rattle.lrp_text.specs.IntegerRule.{integer}
use Rattle.lrp_text.specs.OffsetRule.{Offset, unmoved, moved_by, offset}
use Rattle.lrp_query.specs.Rules.{with_offset, named_term, unnamed_term, term, op_of, point, comparing, tested, atom_terms, after_name, unnamed}
use Rattle.lrp_text.proofs.IntegerRule.{integer_back, integer_sound, integer_viable}
use Rattle.lrp_query.proofs.Layers.{atom, compared, member, Grammar, trees, text_of, FitsLayer, LayerTexts, IsFormula, read_layer}
use Rattle.lrp_text.proofs.OffsetRule.{NoShift, offset_text, FitsOffset, offset_back, offset_sound, offset_viable}
use Rattle.lrp_query.proofs.TermRules.{written_terms, with_offset_fits, unnamed_term_sound, unnamed_term_viable, term_leads, placed_text, FitsPlaced, term_back, term_sound, term_viable}

-- ---- single tokens

-- the part that a symbol is
abbrev pub sym_part : Symbol → Unit {0} → Part
sym_part s u = any (symbol_token s)

-- a symbol that is read is spelled so, and is lawful
pub symbol_sound : (s : Symbol) → Sound (expect s) (One (sym_part s)) (λ u. Unit {0})
symbol_sound s ts q e = (accept_sound _ (sym_part s) (expect_told s) ts q e, tt)

-- the tokens before a fault of a symbol begin one
pub symbol_viable : (s : Symbol) → Viable (expect s) (One (sym_part s)) (λ u. Unit {0})
symbol_viable s = accept_viable (λ t. required (is_symbol s t)) (sym_part s) (λ u. Unit {0}) (expect_stops s)

-- the part that a reserved word is
abbrev pub word_part : Word → Unit {0} → Part
word_part w u = any (word_token w)

-- a reserved word that is read is spelled so, and is lawful
pub word_sound : (w : Word) → Sound (expect_word w) (One (word_part w)) (λ u. Unit {0})
word_sound w ts q e = (accept_sound _ (word_part w) (word_expected w) ts q e, tt)

-- the tokens before a fault of a reserved word begin one
pub word_viable : (w : Word) → Viable (expect_word w) (One (word_part w)) (λ u. Unit {0})
word_viable w = accept_viable _ (word_part w) (λ u. Unit {0}) (word_stops w)

-- a name at its place
abbrev pub name_at : Identifier → Place → Placed
name_at n p = record { token = name_token n; place = p }

-- a symbol at the first place
abbrev pub symbol_at : Symbol → Placed
symbol_at s = record { token = symbol_token s; place = start }

-- ---- comparisons

-- the symbols of comparisons
abbrev pub op_part : Op → Part
op_part op = any (symbol_token (op_symbol op))

-- the token of a comparison that was read
op_is : (k : Token) (op : Op) → op_of k ≡ Ok op → k ≡ symbol_token (op_symbol op)
op_is (symbol_token le_sign) op e = let h : Le ≡ op = cc in ap (λ x. symbol_token (op_symbol x)) h
op_is (symbol_token lt_sign) op e = let h : Lt ≡ op = cc in ap (λ x. symbol_token (op_symbol x)) h
op_is (symbol_token ge_sign) op e = let h : Ge ≡ op = cc in ap (λ x. symbol_token (op_symbol x)) h
op_is (symbol_token gt_sign) op e = let h : Gt ≡ op = cc in ap (λ x. symbol_token (op_symbol x)) h
op_is (symbol_token Equals) op e = let h : Eq ≡ op = cc in ap (λ x. symbol_token (op_symbol x)) h
op_is _ op e = absurd cc

-- a comparison is read from its symbol
op_again : (op : Op) → op_of (symbol_token (op_symbol op)) ≡ Ok op
op_again Le = refl
op_again Lt = refl
op_again Ge = refl
op_again Gt = refl
op_again Eq = refl

-- a token that is no comparison is a syntax fault
op_err : (t : Token) (k : Fault) → op_of t ≡ Err k → k ≡ Syntax
op_err (symbol_token le_sign) k e = absurd cc
op_err (symbol_token lt_sign) k e = absurd cc
op_err (symbol_token ge_sign) k e = absurd cc
op_err (symbol_token gt_sign) k e = absurd cc
op_err (symbol_token Equals) k e = absurd cc
op_err _ k e = cc

-- the part of a comparison that was read
pub op_told : (t : Placed) (op : Op) → op_of t.token ≡ Ok op → IsPart (op_part op) t
op_told t op e = op_is t.token op e

-- the comparison of a part
pub op_seen : (op : Op) (t : Placed) → IsPart (op_part op) t → op_of t.token ≡ Ok op
op_seen op t h = ap op_of h ∙ op_again op

-- a comparison stops for its syntax alone
pub op_stops : TestStops (λ t. op_of t.token) op_part (λ op. Unit {0})
op_stops = record { token = record { token = symbol_token le_sign; place = start }; value = Le; fits = tt; is = refl; fault = λ t k e. inl (op_err t.token k e) }

-- what spells a point after `in`
abbrev pub point_text : Integer → ℕ → List Part
point_text i k = integer_text i ++ any (symbol_token Plus) ∷ any (number_token k) ∷ any (word_token Letter) ∷ []

-- a token that goes on neither a term nor an atom, and is no name
pub record Ends (k : Token) : Type 0 where
  pub no_plus : is_symbol_token Plus k ≡ false
  pub no_minus : is_symbol_token Minus k ≡ false
  pub no_open : is_symbol_token Open k ≡ false
  pub no_name : is_name_token k ≡ false

-- it is no offset
ends_shift : (k : Token) (ps : List Part) (ts left : Tokens) → Ends k → Takes (any k ∷ ps) ts left → NoShift ts
ends_shift k ps ts left e h = (first_is_not (is_symbol_token Plus) k ps ts left e.no_plus h, first_is_not (is_symbol_token Minus) k ps ts left e.no_minus h)

-- nor a parenthesis, before it or where an offset stands
no_open : (o : Offset) (k : Token) (ps : List Part) (ts left : Tokens) → Ends k → Takes (offset_text o ++ any k ∷ ps) ts left → IsNot (is_symbol Open) ts
no_open unmoved k ps ts left e h = first_is_not (is_symbol_token Open) k ps ts left e.no_open h
no_open (moved_by true n) k ps ts left e h = first_is_not (is_symbol_token Open) (symbol_token Minus) (any (number_token n) ∷ any k ∷ ps) ts left refl h
no_open (moved_by false n) k ps ts left e h = first_is_not (is_symbol_token Open) (symbol_token Plus) (any (number_token n) ∷ any k ∷ ps) ts left refl h

-- what a comma is among symbols
comma_token : (t : Placed) (s : Symbol) → IsPart comma t → is_symbol s t ≡ is_symbol_token s (symbol_token Comma)
comma_token t s h = ap (is_symbol_token s) h

-- a term as a member of a list
terms_member : MemberBack (term written_terms) placed_text FitsPlaced NoShift comma (is_symbol Comma)
terms_member = record {
  one = term_back;
  comma_follows = λ t ts h. (comma_token t Plus h, comma_token t Minus h);
  comma_seen = symbol_seen Comma;
}

-- an integer does not begin with a parenthesis
sign_sees : (negative : Bool) (n : ℕ) (ts left : Tokens) → Takes (sign negative ++ any (number_token n) ∷ []) ts left → Sees false (is_symbol Close) false ts
sign_sees true n ts left h = first_sees_any false (is_symbol_token Close) (symbol_token Minus) (any (number_token n) ∷ []) ts left h
sign_sees false n ts left h = first_sees_any false (is_symbol_token Close) (number_token n) [] ts left h

-- nor does a term
bare_sees : (k : WrittenTerm) (ts left : Tokens) → Takes (term_text k) ts left → Sees false (is_symbol Close) false ts
bare_sees (variable n) ts left h = first_sees_any false (is_symbol_token Close) (name_token n) [] ts left h
bare_sees (shifted n down k) ts left h = first_sees_any false (is_symbol_token Close) (name_token n) (any (symbol_token (shift down)) ∷ any (number_token k) ∷ []) ts left h
bare_sees (text_term t) ts left h = first_sees_any false (is_symbol_token Close) (text_token t) [] ts left h
bare_sees (integer_term i) ts left h = sign_sees i.negative i.size ts left h

-- the same of a term with its place
term_sees : (l : Located WrittenTerm) (ts left : Tokens) → Takes (placed_text l) ts left → Sees false (is_symbol Close) false ts
term_sees l ts left h = bare_sees l.item ts left (takes_from l.place (term_text l.item) ts left (term_leads l.item) h).0

-- a closing parenthesis comes next
abbrev Closes : Tokens → Type 0
Closes ts = Sees false (is_symbol Close) true ts × FollowsList NoShift (is_symbol Comma) ts

-- a parenthesis ends the terms
closes : (ps : List Part) (ts left : Tokens) → Takes (any (symbol_token Close) ∷ ps) ts left → Closes ts
closes ps ts left h = (
  first_sees_any false (is_symbol_token Close) (symbol_token Close) ps ts left h,
  record {
    member = (first_is_not (is_symbol_token Plus) (symbol_token Close) ps ts left refl h, first_is_not (is_symbol_token Minus) (symbol_token Close) ps ts left refl h);
    no_comma = first_is_not (is_symbol_token Comma) (symbol_token Close) ps ts left refl h;
  },
)

-- the terms of an atom that are read are spelled so, and lawful
terms_sound : (turns : ℕ) → Sound (listed (term written_terms) (is_symbol Comma) (is_symbol Close) turns) (separated comma placed_text) (AllByRecursion FitsPlaced)
terms_sound turns = listed_sound (term written_terms) placed_text FitsPlaced comma (is_symbol Comma) (is_symbol Close) (symbol_told Comma) term_sound turns

-- the parts of a name with an offset, at its place
pub placed_offset : (p : Place) (n : Identifier) (o : Offset) → placed_text (record { place = p; item = with_offset n o }) ≡ at p (name_token n) ∷ offset_text o
placed_offset p n unmoved = refl
placed_offset p n (moved_by down k) = refl

-- the rest of a point after its plus
abbrev one_more : Tokens
one_more = record { token = number_token 1; place = start } ∷ record { token = word_token Letter; place = start } ∷ []

-- the number zero as a term
abbrev pub zero_term : Located WrittenTerm
zero_term = record { place = start; item = integer_term (record { negative = false; size = 0 }) }

-- its tokens
abbrev pub zero_tokens : Tokens
zero_tokens = record { token = number_token 0; place = start } ∷ []

-- the tokens after the name of an atom without terms
abbrev no_terms : Tokens
no_terms = symbol_at Open ∷ symbol_at Close ∷ []

-- what is put together of what was read, and read on
through_pure : {A B C : Type 0} (o : ParseOutcome A) (h : A → B) (f : B → Parser C) → and_then (and_then o (λ a. pure (h a))) f ≡ and_then o (λ a. f (h a))
through_pure (Ok q) h f = refl
through_pure (Err e) h f = refl

-- parts that begin with a token take one
pub empty_leads : (ps : List Part) (us : Tokens) → Leads ps → Takes ps [] us → ⊥
empty_leads [] us l h = l
empty_leads (any k ∷ ps) us l h = h
empty_leads (at q k ∷ ps) us l h = l

module _ {F X Q : Type 0} (grammar : Grammar F X Q) (d : ℕ) where
  -- ---- what stands after a first term: complete

  -- the tokens of a point are read back
  point_back : (l : Located WrittenTerm) (i : Integer) (k : ℕ) → ReadsBack (point (trees grammar) l) (point_text i k) (grammar.roll (member l i k)) (FitsLayer grammar d (member l i k)) NoShift
  unfolding point
  point_back l i k =
      let L : Type 0 = FitsLayer grammar d (member l i k) in
      then_back _ (back_as (i.size ≤ greatest_number) L (λ f. f.1) (integer_back i))
      (then_back _ (accepts_back _ (any (symbol_token Plus)) tt L (expect_seen Plus))
      (then_back _ (accept_back (λ t. period_of t.token) (any (number_token k)) k L (λ t h. period_tells t k L (λ f. (f.2, f.3)) h))
      (then_back _ (accepts_back _ (any (word_token Letter)) tt L (word_required Letter)) (pure_back _ _ NoShift))))

  -- the tokens of a comparison after its left side are read back
  comparing_back : (l : Located WrittenTerm) (op : Op) (r : Located WrittenTerm) → ReadsBack (comparing (trees grammar) l) (op_part op ∷ placed_text r) (grammar.roll (compared l op r)) (FitsLayer grammar d (compared l op r)) NoShift
  unfolding comparing
  comparing_back l op r =
      let L : Type 0 = FitsLayer grammar d (compared l op r) in
      then_back _ (accepts_back (λ t. op_of t.token) (op_part op) op L (op_seen op))
      (last_back (term written_terms) (λ x. grammar.roll (compared l op x)) (placed_text r) r L NoShift (back_as (FitsPlaced r) L (λ f. f.1) (term_back r)))

  -- after a term, `in` and a point are read back
  pub test_point_back : (l : Located WrittenTerm) (i : Integer) (k : ℕ) → ReadsBack (tested false (trees grammar) l) (any (word_token In) ∷ point_text i k) (grammar.roll (member l i k)) (FitsLayer grammar d (member l i k)) NoShift
  unfolding tested
  test_point_back l i k = then_back _ (eat_back (is_word In) (any (word_token In)) (FitsLayer grammar d (member l i k)) (word_seen In)) (point_back l i k)

  -- after a term, a comparison and a term are read back
  pub test_compared_back : (l : Located WrittenTerm) (op : Op) (r : Located WrittenTerm) → ReadsBack (tested false (trees grammar) l) (op_part op ∷ placed_text r) (grammar.roll (compared l op r)) (FitsLayer grammar d (compared l op r)) NoShift
  unfolding tested
  test_compared_back l op r = bind_back _ {G = NoShift} (eat_none (is_word In) (FitsLayer grammar d (compared l op r))) (comparing_back l op r) (λ ts left h g. first_is_not (is_word_token In) (symbol_token (op_symbol op)) (placed_text r) ts left refl h)

  -- ---- what begins with a name: complete

  -- after a name, an offset or none, and what stands after it
  pub name_test_back : (turns : ℕ) (p : Place) (n : Identifier) (o : Offset) (k : Token) (ps : List Part) (f : F) (L : Type 0) → Ends k → (L → FitsOffset o) → ReadsBack (tested false (trees grammar) (record { place = p; item = with_offset n o })) (any k ∷ ps) f L NoShift → ReadsBack (after_name false (trees grammar) turns n p) (offset_text o ++ any k ∷ ps) f L NoShift
  unfolding after_name named_term
  name_test_back turns p n o k ps f L ends fit back =
      bind_back _ {G = NoShift} (eat_none (is_symbol Open) L)
      (bind_back _ {F = NoShift} (last_back offset (λ x. with_offset n x) (offset_text o) o L NoShift (back_as (FitsOffset o) L fit (offset_back o))) back (λ ts left h g. ends_shift k ps ts left ends h))
      (λ ts left h g. no_open o k ps ts left ends h)

  -- the terms of an atom are read back
  atom_terms_back : (turns : ℕ) (p : Place) (n : Identifier) (ts : List (Located WrittenTerm)) → length ts ≤ turns → ReadsBack (atom_terms false (trees grammar) turns n p) (separated comma placed_text ts ++ any (symbol_token Close) ∷ []) (grammar.roll (atom p n ts)) (FitsLayer grammar d (atom p n ts)) NoShift
  unfolding atom_terms
  atom_terms_back turns p n ts few =
      let L : Type 0 = FitsLayer grammar d (atom p n ts) in
      bind_back _ {P = separated comma placed_text ts} {a = ts} {F = Closes} (record { reads = λ us left h g. listed_back terms_member (is_symbol Close) term_sees turns ts few us left h g.0 g.1 })
      (then_back _ (accepts_back _ (any (symbol_token Close)) tt L (expect_seen Close)) (pure_back (grammar.roll (atom p n ts)) L NoShift))
      (λ us left h g. closes [] us left h)

  -- after a name, the terms of an atom in parentheses are read back
  pub name_atom_back : (turns : ℕ) (p : Place) (n : Identifier) (ts : List (Located WrittenTerm)) → length ts ≤ turns → ReadsBack (after_name false (trees grammar) turns n p) (any (symbol_token Open) ∷ (separated comma placed_text ts ++ any (symbol_token Close) ∷ [])) (grammar.roll (atom p n ts)) (FitsLayer grammar d (atom p n ts)) NoShift
  unfolding after_name
  name_atom_back turns p n ts few = then_back _ (eat_back (is_symbol Open) (any (symbol_token Open)) (FitsLayer grammar d (atom p n ts)) (symbol_seen Open)) (atom_terms_back turns p n ts few)

  -- ---- sound

  -- a point after a term and `in` is spelled so
  point_sound : (l : Located WrittenTerm) (ts us vs : Tokens) (q : F × Tokens) → Takes (placed_text l) ts us → FitsPlaced l → Takes (any (word_token In) ∷ []) us vs → point (trees grammar) l vs ≡ Ok q → IsFormula grammar (suc d) ts q
  unfolding point
  point_sound l ts us vs q one fit inside e =
      let i = bind_ok (integer vs) _ q e in
      let u = bind_ok (expect Plus i.0.1) _ q i.2 in
      let k = bind_ok (period u.0.1) _ q u.2 in
      let v = bind_ok (expect_word Letter k.0.1) _ q k.2 in
      let h : (grammar.roll (member l i.0.0 k.0.0), v.0.1) ≡ q = cc in
      let whole = integer_sound vs i.0 i.1 in
      let counts = accept_gives _ number_part IsWrittenPeriod period_told period_fits u.0.1 k.0 k.1 in
      subst (λ y. IsFormula grammar (suc d) ts y) h (read_layer grammar d (member l i.0.0 k.0.0) ts v.0.1
      (takes_join (placed_text l) (any (word_token In) ∷ point_text i.0.0 k.0.0) ts us v.0.1 one
      (takes_join (any (word_token In) ∷ []) (point_text i.0.0 k.0.0) us vs v.0.1 inside
      (takes_join (integer_text i.0.0) (any (symbol_token Plus) ∷ any (number_token k.0.0) ∷ any (word_token Letter) ∷ []) vs i.0.1 v.0.1 whole.0
      (takes_join (any (symbol_token Plus) ∷ []) (any (number_token k.0.0) ∷ any (word_token Letter) ∷ []) i.0.1 u.0.1 v.0.1 (symbol_sound Plus i.0.1 u.0 u.1).0
      (takes_join (any (number_token k.0.0) ∷ []) (any (word_token Letter) ∷ []) u.0.1 k.0.1 v.0.1 counts.0 (word_sound Letter k.0.1 v.0 v.1).0)))))
      (fit, whole.1, counts.1.0, counts.1.1))

  -- a comparison after its left side is spelled so
  comparing_sound : (l : Located WrittenTerm) (ts us : Tokens) (q : F × Tokens) → Takes (placed_text l) ts us → FitsPlaced l → comparing (trees grammar) l us ≡ Ok q → IsFormula grammar (suc d) ts q
  unfolding comparing
  comparing_sound l ts us q one fit e =
      let o = bind_ok (accept (λ t. op_of t.token) us) _ q e in
      let r = bind_ok (term written_terms o.0.1) _ q o.2 in
      let h : (grammar.roll (compared l o.0.0 r.0.0), r.0.1) ≡ q = cc in
      let right = term_sound o.0.1 r.0 r.1 in
      subst (λ y. IsFormula grammar (suc d) ts y) h (read_layer grammar d (compared l o.0.0 r.0.0) ts r.0.1
      (takes_join (placed_text l) (op_part o.0.0 ∷ placed_text r.0.0) ts us r.0.1 one
      (takes_join (op_part o.0.0 ∷ []) (placed_text r.0.0) us o.0.1 r.0.1 (accept_sound _ op_part op_told us o.0 o.1) right.0))
      (fit, right.1))

  -- one or the other
  either_sound : (l : Located WrittenTerm) (inside : Bool) (ts us vs : Tokens) (q : F × Tokens) → Takes (placed_text l) ts us → FitsPlaced l → Takes (eaten_parts (any (word_token In)) inside) us vs → (if inside then point (trees grammar) l else comparing (trees grammar) l) vs ≡ Ok q → IsFormula grammar (suc d) ts q
  either_sound l true ts us vs q one fit eaten e = point_sound l ts us vs q one fit eaten e
  either_sound l false ts us vs q one fit eaten e = comparing_sound l ts vs q (subst (λ x. Takes (placed_text l) ts x) eaten one) fit e

  -- a first term and what is read after it are spelled so, and lawful
  pub test_sound : (l : Located WrittenTerm) (ts us : Tokens) (q : F × Tokens) → Takes (placed_text l) ts us → FitsPlaced l → tested false (trees grammar) l us ≡ Ok q → IsFormula grammar (suc d) ts q
  unfolding tested
  test_sound l ts us q one fit e =
      let i = bind_ok (eat (is_word In) us) _ q e in
      either_sound l i.0.0 ts us i.0.1 q one fit (eat_sound (is_word In) (any (word_token In)) (word_told In) us i.0 i.1) i.2

  -- after a name, with or without a parenthesis
  after_name_sound : (turns : ℕ) (n : Identifier) (p : Place) (opens : Bool) (ts us vs : Tokens) (q : F × Tokens) → Takes (at p (name_token n) ∷ []) ts us → Takes (eaten_parts (any (symbol_token Open)) opens) us vs → (if opens then atom_terms false (trees grammar) turns n p else (named_term written_terms n >>= (λ k. tested false (trees grammar) (record { place = p; item = k })))) vs ≡ Ok q → IsFormula grammar (suc d) ts q
  unfolding atom_terms named_term
  after_name_sound turns n p true ts us vs q one eaten e =
      let l = bind_ok (listed (term written_terms) (is_symbol Comma) (is_symbol Close) turns vs) _ q e in
      let c = bind_ok (expect Close l.0.1) _ q l.2 in
      let h : (grammar.roll (atom p n l.0.0), c.0.1) ≡ q = cc in
      let all = terms_sound turns vs l.0 l.1 in
      subst (λ y. IsFormula grammar (suc d) ts y) h (read_layer grammar d (atom p n l.0.0) ts c.0.1
      (takes_join (at p (name_token n) ∷ []) (any (symbol_token Open) ∷ (separated comma placed_text l.0.0 ++ any (symbol_token Close) ∷ [])) ts us c.0.1 one
      (takes_join (any (symbol_token Open) ∷ []) (separated comma placed_text l.0.0 ++ any (symbol_token Close) ∷ []) us vs c.0.1 eaten
      (takes_join (separated comma placed_text l.0.0) (any (symbol_token Close) ∷ []) vs l.0.1 c.0.1 all.0 (symbol_sound Close l.0.1 c.0 c.1).0)))
      all.1)
  after_name_sound turns n p false ts us vs q one eaten e =
      let k = bind_ok (named_term written_terms n vs) _ q e in
      let o = bind_ok (offset vs) _ k.0 k.1 in
      let h : (with_offset n o.0.0, o.0.1) ≡ k.0 = cc in
      let read = offset_sound vs o.0 o.1 in
      let left : Located WrittenTerm = record { place = p; item = with_offset n o.0.0 } in
      let named_left : Takes (placed_text left) ts o.0.1 = subst (λ ps. Takes ps ts o.0.1) (sym (placed_offset p n o.0.0)) (takes_join (at p (name_token n) ∷ []) (offset_text o.0.0) ts vs o.0.1 (subst (λ x. Takes (at p (name_token n) ∷ []) ts x) eaten one) read.0) in
      let R : WrittenTerm × Tokens → Type 0 = λ y. tested false (trees grammar) (record { place = p; item = y.0 }) y.1 ≡ Ok q in
      test_sound left ts o.0.1 q named_left (with_offset_fits n o.0.0 read.1) (subst R (sym h) k.2)

  -- what is read after a name is spelled so with it, and lawful
  pub after_name_is_sound : (turns : ℕ) (n : Identifier) (p : Place) (us : Tokens) (q : F × Tokens) → after_name false (trees grammar) turns n p us ≡ Ok q → IsFormula grammar (suc d) (name_at n p ∷ us) q
  unfolding after_name
  after_name_is_sound turns n p us q e =
      let o = bind_ok (eat (is_symbol Open) us) _ q e in
      after_name_sound turns n p o.0.0 (name_at n p ∷ us) us o.0.1 q ((refl, refl), refl) (eat_sound (is_symbol Open) (any (symbol_token Open)) (symbol_told Open) us o.0 o.1) o.2

  -- what begins with another term and is read is spelled so, and is lawful
  pub unnamed_sound : (t : Placed) (us : Tokens) (q : F × Tokens) → unnamed false (trees grammar) t.place (t ∷ us) ≡ Ok q → IsFormula grammar (suc d) (t ∷ us) q
  unfolding unnamed
  unnamed_sound t us q e =
      let k = bind_ok (unnamed_term written_terms (t ∷ us)) _ q e in
      let read = unnamed_term_sound (t ∷ us) k.0 k.1 in
      test_sound (record { place = t.place; item = k.0.0 }) (t ∷ us) k.0.1 q (from_place t.place (term_text k.0.0) t us k.0.1 (term_leads k.0.0) refl read.0) read.1 k.2

  -- ---- viable

  -- the parts of a membership, one after the other
  member_spelled : (l : Located WrittenTerm) (i : Integer) (k : ℕ) (head : Tokens) (t : Placed) (x y : Tokens) → Spells (placed_text l) head → IsPart (any (word_token In)) t → Spells (integer_text i) x → Spells (any (symbol_token Plus) ∷ any (number_token k) ∷ any (word_token Letter) ∷ []) y → Spells (text_of grammar (member l i k)) (head ++ t ∷ (x ++ y))
  member_spelled l i k head t x y one is whole rest = spells_join (placed_text l) (any (word_token In) ∷ point_text i k) head (t ∷ (x ++ y)) one (is, spells_join (integer_text i) (any (symbol_token Plus) ∷ any (number_token k) ∷ any (word_token Letter) ∷ []) x y whole rest)

  -- the tokens before a fault of a point begin a membership
  point_stops : (l : Located WrittenTerm) (head : Tokens) (t : Placed) (us : Tokens) (e : Fault × Tokens) → Spells (placed_text l) head → FitsPlaced l → IsPart (any (word_token In)) t → point (trees grammar) l us ≡ Err e → Stops (λ c x. LayerTexts grammar d c (head ++ t ∷ x)) us e
  unfolding point
  point_stops l head t us e one fit is h =
      let R : Bool → Tokens → Type 0 = λ c x. LayerTexts grammar d c (head ++ t ∷ x) in
      sub_step integer _ integer_text (λ i. i.size ≤ greatest_number) R us e integer_sound integer_viable h
      (λ c i x spelled small. (symbol_at Plus ∷ one_more, (member l i 1, fits_as (i.size ≤ greatest_number) (FitsLayer grammar d (member l i 1)) c (λ s. (fit, s, omega arith, omega arith)) small, member_spelled l i 1 head t x (symbol_at Plus ∷ one_more) one is spelled (refl, (refl, (refl, refl))))))
      (λ i h1 vs s1 f1 d1. sub_step (expect Plus) _ (One (sym_part Plus)) (λ u. Unit {0}) (λ c x. R c (h1 ++ x)) vs e (symbol_sound Plus) (symbol_viable Plus) d1
      (λ c u x spelled fits. (one_more, (member l i 1, always (FitsLayer grammar d (member l i 1)) c (fit, f1, omega arith, omega arith), member_spelled l i 1 head t h1 (x ++ one_more) one is s1 (spells_join (One (sym_part Plus) u) (any (number_token 1) ∷ any (word_token Letter) ∷ []) x one_more spelled (refl, (refl, refl))))))
      (λ u h2 ws s2 f2 d2. sub_step period _ (One number_part) IsWrittenPeriod (λ c x. R c (h1 ++ (h2 ++ x))) ws e (accept_gives _ number_part IsWrittenPeriod period_told period_fits) (accept_viable _ number_part IsWrittenPeriod period_stops) d2
      (λ c k x spelled fits. (record { token = word_token Letter; place = start } ∷ [], (member l i k, fits_as (IsWrittenPeriod k) (FitsLayer grammar d (member l i k)) c (λ p. (fit, f1, p.0, p.1)) fits, member_spelled l i k head t h1 (h2 ++ (x ++ record { token = word_token Letter; place = start } ∷ [])) one is s1 (spells_join (One (sym_part Plus) u) (any (number_token k) ∷ any (word_token Letter) ∷ []) h2 (x ++ record { token = word_token Letter; place = start } ∷ []) s2 (spells_join (One number_part k) (any (word_token Letter) ∷ []) x (record { token = word_token Letter; place = start } ∷ []) spelled (refl, refl))))))
      (λ k h3 xs s3 f3 d3. sub_step (expect_word Letter) _ (One (word_part Letter)) (λ v. Unit {0}) (λ c x. R c (h1 ++ (h2 ++ (h3 ++ x)))) xs e (word_sound Letter) (word_viable Letter) d3
      (λ c v x spelled fits. ([], (member l i k, always (FitsLayer grammar d (member l i k)) c (fit, f1, f3.0, f3.1), member_spelled l i k head t h1 (h2 ++ (h3 ++ (x ++ []))) one is s1 (spells_join (One (sym_part Plus) u) (any (number_token k) ∷ any (word_token Letter) ∷ []) h2 (h3 ++ (x ++ [])) s2 (spells_join (One number_part k) (any (word_token Letter) ∷ []) h3 (x ++ []) s3 (subst (λ y. Spells (One (word_part Letter) v) y) (sym (append-nil x)) spelled))))))
      (λ v h4 ys s4 f4 d4. absurd cc))))

  -- the parts of a comparison, one after the other
  compared_spelled : (l : Located WrittenTerm) (op : Op) (r : Located WrittenTerm) (head x y : Tokens) → Spells (placed_text l) head → Spells (One op_part op) x → Spells (placed_text r) y → Spells (text_of grammar (compared l op r)) (head ++ (x ++ y))
  compared_spelled l op r head x y one sign_of right = spells_join (placed_text l) (op_part op ∷ placed_text r) head (x ++ y) one (spells_join (One op_part op) (placed_text r) x y sign_of right)

  -- the tokens before a fault of a comparison begin one
  comparing_stops : (l : Located WrittenTerm) (head us : Tokens) (e : Fault × Tokens) → Spells (placed_text l) head → FitsPlaced l → comparing (trees grammar) l us ≡ Err e → Stops (λ c x. LayerTexts grammar d c (head ++ x)) us e
  unfolding comparing
  comparing_stops l head us e one fit h =
      let R : Bool → Tokens → Type 0 = λ c x. LayerTexts grammar d c (head ++ x) in
      sub_step (accept (λ t. op_of t.token)) _ (One op_part) (λ op. Unit {0}) R us e (λ vs q r. (accept_sound _ op_part op_told vs q r, tt)) (accept_viable _ op_part (λ op. Unit {0}) op_stops) h
      (λ c op x spelled fits. (zero_tokens, (compared l op zero_term, always (FitsLayer grammar d (compared l op zero_term)) c (fit, omega arith), compared_spelled l op zero_term head x zero_tokens one spelled ((refl, refl), refl))))
      (λ op h1 vs s1 f1 d1. sub_step (term written_terms) _ placed_text FitsPlaced (λ c x. R c (h1 ++ x)) vs e term_sound term_viable d1
      (λ c r x spelled fits. ([], (compared l op r, fits_as (FitsPlaced r) (FitsLayer grammar d (compared l op r)) c (λ f. (fit, f)) fits, compared_spelled l op r head h1 (x ++ []) one s1 (subst (λ y. Spells (placed_text r) y) (sym (append-nil x)) spelled))))
      (λ r h2 ws s2 f2 d2. absurd cc))

  -- the tokens before a fault after a first term begin a formula with it
  pub test_stops : (l : Located WrittenTerm) (head us : Tokens) (e : Fault × Tokens) → Spells (placed_text l) head → FitsPlaced l → tested false (trees grammar) l us ≡ Err e → Stops (λ c x. LayerTexts grammar d c (head ++ x)) us e
  unfolding tested
  test_stops l head us e one fit h =
      eat_step (is_word In) _ (λ c x. LayerTexts grammar d c (head ++ x)) us e h
      (λ t vs told k. point_stops l head t vs e one fit (word_told In t told) k)
      (λ k. comparing_stops l head us e one fit k)

  -- the tokens before a fault of the terms of an atom begin one
  atom_stops : (turns : ℕ) (n : Identifier) (p : Place) (head : Tokens) (t : Placed) (us : Tokens) (e : Fault × Tokens) → Spells (at p (name_token n) ∷ []) head → IsPart (any (symbol_token Open)) t → length us < turns → atom_terms false (trees grammar) turns n p us ≡ Err e → Stops (λ c x. LayerTexts grammar d c (head ++ t ∷ x)) us e
  unfolding atom_terms
  atom_stops turns n p head t us e one is lt h =
      let R : Bool → Tokens → Type 0 = λ c x. LayerTexts grammar d c (head ++ t ∷ x) in
      let All : List (Located WrittenTerm) → Type 0 = AllByRecursion FitsPlaced in
      sub_short (listed (term written_terms) (is_symbol Comma) (is_symbol Close) turns) _ (separated comma placed_text) All R us e (terms_sound turns) (λ k. listed_viable (term written_terms) placed_text FitsPlaced comma (is_symbol Comma) (is_symbol Close) (symbol_told Comma) term_sound term_viable turns us e lt k) h
      (λ c ts x spelled fits. (symbol_at Close ∷ [], (atom p n ts, fits_as (All ts) (FitsLayer grammar d (atom p n ts)) c (λ f. f) fits, spells_join (at p (name_token n) ∷ []) (any (symbol_token Open) ∷ (separated comma placed_text ts ++ any (symbol_token Close) ∷ [])) head (t ∷ (x ++ symbol_at Close ∷ [])) one (is, spells_join (separated comma placed_text ts) (any (symbol_token Close) ∷ []) x (symbol_at Close ∷ []) spelled (refl, refl)))))
      (λ ts h1 vs s1 f1 l1 d1. sub_step (expect Close) _ (One (sym_part Close)) (λ u. Unit {0}) (λ c x. R c (h1 ++ x)) vs e (symbol_sound Close) (symbol_viable Close) d1
      (λ c u x spelled fits. ([], (atom p n ts, always (FitsLayer grammar d (atom p n ts)) c f1, spells_join (at p (name_token n) ∷ []) (any (symbol_token Open) ∷ (separated comma placed_text ts ++ any (symbol_token Close) ∷ [])) head (t ∷ (h1 ++ (x ++ []))) one (is, spells_join (separated comma placed_text ts) (any (symbol_token Close) ∷ []) h1 (x ++ []) s1 (subst (λ y. Spells (One (sym_part Close) u) y) (sym (append-nil x)) spelled)))))
      (λ u h2 ws s2 f2 d2. absurd cc))

  -- the tokens before a fault after a name begin a formula with it
  pub after_name_stops : (turns : ℕ) (n : Identifier) (p : Place) (us : Tokens) (e : Fault × Tokens) → length us < turns → after_name false (trees grammar) turns n p us ≡ Err e → Stops (λ c x. LayerTexts grammar d c (name_at n p ∷ x)) us e
  unfolding after_name named_term
  after_name_stops turns n p us e lt h =
      let head : Tokens = name_at n p ∷ [] in
      let R : Bool → Tokens → Type 0 = λ c x. LayerTexts grammar d c (name_at n p ∷ x) in
      let named : Spells (at p (name_token n) ∷ []) head = ((refl, refl), refl) in
      eat_short (is_symbol Open) _ R us e h
      (λ t vs told less d2. atom_stops turns n p head t vs e named (symbol_told Open t told) (omega arith) d2)
      (λ d2. sub_step offset _ offset_text FitsOffset R us e offset_sound offset_viable (sym (through_pure (offset us) (λ o. with_offset n o) (λ k. tested false (trees grammar) (record { place = p; item = k }))) ∙ d2)
      (λ c o x spelled fits. (
        symbol_at Equals ∷ zero_tokens,
        (
          compared (record { place = p; item = with_offset n o }) Eq zero_term,
          fits_as (FitsOffset o) (FitsLayer grammar d (compared (record { place = p; item = with_offset n o }) Eq zero_term)) c (λ f. (with_offset_fits n o f, omega arith)) fits,
          subst (λ ps. Spells (ps ++ op_part Eq ∷ placed_text zero_term) (head ++ (x ++ symbol_at Equals ∷ zero_tokens))) (sym (placed_offset p n o)) (spells_join (at p (name_token n) ∷ []) (offset_text o ++ op_part Eq ∷ placed_text zero_term) head (x ++ symbol_at Equals ∷ zero_tokens) named (spells_join (offset_text o) (op_part Eq ∷ placed_text zero_term) x (symbol_at Equals ∷ zero_tokens) spelled (refl, ((refl, refl), refl)))),
        ),
      ))
      (λ o h2 vs s2 f2 d3.
      let l : Located WrittenTerm = record { place = p; item = with_offset n o } in
      test_stops l (head ++ h2) vs e (subst (λ ps. Spells ps (head ++ h2)) (sym (placed_offset p n o)) (spells_join (at p (name_token n) ∷ []) (offset_text o) head h2 named s2)) (with_offset_fits n o f2) d3))

  -- a term without its place is one of a comparison at the place where its tokens begin
  term_goes_on : (c : Bool) (x : Tokens) (k : WrittenTerm) → Fitting c (FitsTerm k) → Spells (term_text k) x → (y : Tokens) × LayerTexts grammar d c (x ++ y)
  term_goes_on c [] k fit h = absurd (empty_leads (term_text k) [] (term_leads k) h)
  term_goes_on c (t ∷ x) k fit h =
      let l : Located WrittenTerm = record { place = t.place; item = k } in
      let placed : Spells (placed_text l) (t ∷ x) = from_place t.place (term_text k) t x [] (term_leads k) refl h in
      (symbol_at Equals ∷ zero_tokens, (compared l Eq zero_term, fits_as (FitsTerm k) (FitsLayer grammar d (compared l Eq zero_term)) c (λ f. (f, omega arith)) fit, spells_join (placed_text l) (op_part Eq ∷ placed_text zero_term) (t ∷ x) (symbol_at Equals ∷ zero_tokens) placed (refl, ((refl, refl), refl))))

  -- the tokens before a fault of what begins with another term begin one
  pub unnamed_stops : (t : Placed) (us : Tokens) (e : Fault × Tokens) → unnamed false (trees grammar) t.place (t ∷ us) ≡ Err e → Stops (LayerTexts grammar d) (t ∷ us) e
  unfolding unnamed
  unnamed_stops t us e h = elim (bind_err (unnamed_term written_terms (t ∷ us)) _ e h) [
    | inl f ↦ before (TextOf term_text FitsTerm) (LayerTexts grammar d) (t ∷ us) e (λ c x r. term_goes_on c x r.0 r.1 r.2) (unnamed_term_viable (t ∷ us) e f)
    | inr k ↦
        let read = unnamed_term_sound (t ∷ us) k.0 k.1 in
        let l : Located WrittenTerm = record { place = t.place; item = k.0.0 } in
        let front = takes_front (placed_text l) (t ∷ us) k.0.1 (from_place t.place (term_text k.0.0) t us k.0.1 (term_leads k.0.0) refl read.0) in
        after_front (λ c x. LayerTexts grammar d c (front.head ++ x)) (LayerTexts grammar d) front.head (t ∷ us) k.0.1 e front.whole (λ c x r. r) (test_stops l front.head k.0.1 e front.spelled read.1 k.2)
  ]
