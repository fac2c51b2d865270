-- The rule for formulas over others: complete, sound and viable where the rule of the others is.
use Rattle.std.proofs.Common.{◌≡◌, inl, inr, ◌<◌, ◌≤◌, ◌+◌, ℕ, zero, suc, Bool, true, false, List, [], ◌∷◌, ◌++◌, refl, ap, sym, subst, length, arith}
use Rattle.std.specs.List.{AllByRecursion}
use Rattle.lrp_model.specs.Texts.{Identifier}
use Rattle.lrp_model.specs.declared.tokens.Symbol.TheVariants.{Open, Close, Plus, Minus, Equals}
use Rattle.lrp_model.specs.declared.tokens.Word.{Word}
use Rattle.lrp_model.specs.declared.tokens.Word.TheVariants.{Exists, Forall, Not, And, Or, Implies, In}
use Rattle.lrp_model.specs.declared.tokens.Fault.TheVariants.{Deep}
use Rattle.lrp_model.specs.declared.tokens.Place.{Place}
use Rattle.lrp_model.specs.declared.formulas.Op.{Op}
use Rattle.lrp_model.specs.declared.formulas.Op.TheVariants.{Le, Lt, Ge, Gt, Eq}
use Rattle.lrp_model.specs.declared.raw.RawColumn.{RawColumn}
use Rattle.lrp_model.specs.declared.written.Located.{Located}
use Rattle.lrp_model.specs.Tokens.{Token, Placed, Tokens, Part, Takes, Spells, from, separated}
use Rattle.lrp_model.specs.Tokens.Token.{name_token, word_token, number_token, text_token, symbol_token, hole_token}
use Rattle.lrp_model.specs.Tokens.Part.{at, any}
use Rattle.lrp_model.specs.Lexing.{start}
use Rattle.lrp_model.specs.Columns.{column_text}
use Rattle.lrp_model.specs.Databases.{sign, comma}
use Rattle.lrp_model.specs.Queries.{WrittenTerm, term_text, op_symbol, FitsTerm}
use Rattle.lrp_model.specs.Queries.WrittenTerm.{integer as integer_term, text_term, variable, shifted}
use Rattle.lrp_text.specs.Parsers.{Parser, accept, look, eat, separated_from}
use Rattle.lrp_text.specs.Taking.{is_symbol_token, is_word, is_word_token, is_name, is_name_token, expect, expect_word}
use Rattle.lrp_text.specs.ColumnRule.{column}
use Rattle.lrp_text.proofs.Complete.{ReadsBack, IsNot, Answers, answers_then, answers_as, Anything, bind_back, then_back, pure_back, accepts_back, eat_back, eat_none, eats_none, first_is_not, separated_long}
use Rattle.lrp_text.proofs.Sound.{takes_split, takes_shorter}
use Rattle.lrp_text.proofs.TokenTests.{word_seen, word_required, expect_seen}
use Rattle.lrp_text.proofs.LocatedRule.{takes_from}
use Rattle.lrp_text.proofs.ColumnRule.{column_back}
use Rattle.lrp_text.specs.OffsetRule.{Offset, unmoved, moved_by}
use Rattle.lrp_query.specs.Rules.{unnamed_term, tested, unnamed, negated, existing, holding, implying, conjoined, disjoined, after_first, enclosed, start_of, is_hole_token, started, named, after_name, formula_over}
use Rattle.lrp_query.proofs.Layers.{Layer, atom, compared, member, denied, all_of, any_of, implied, group, some, every, hole, other, Grammar, trees, text_of, FitsLayer, AfterRules, back_unrolled, takes_unrolled}
use Rattle.lrp_text.proofs.OffsetRule.{NoShift, offset_text}
use Rattle.lrp_query.proofs.TermRules.{written_terms, quoted_back, integer_term_back, term_leads, placed_text}
use Rattle.lrp_query.proofs.Below.{separated_below}
use Rattle.lrp_query.proofs.TestRules.{symbol_at, point_text, test_point_back, test_compared_back, Ends, name_test_back, name_atom_back, zero_term, zero_tokens}

-- ---- the first token

-- a token that may end a formula
closing : Ends (symbol_token Close)
closing = record { no_plus = refl; no_minus = refl; no_open = refl; no_name = refl }

-- a reserved word goes on no term
word_ends : (w : Word) → Ends (word_token w)
word_ends w = record { no_plus = refl; no_minus = refl; no_open = refl; no_name = refl }

-- neither does a comparison
op_ends : (op : Op) → Ends (symbol_token (op_symbol op))
op_ends Le = record { no_plus = refl; no_minus = refl; no_open = refl; no_name = refl }
op_ends Lt = record { no_plus = refl; no_minus = refl; no_open = refl; no_name = refl }
op_ends Ge = record { no_plus = refl; no_minus = refl; no_open = refl; no_name = refl }
op_ends Gt = record { no_plus = refl; no_minus = refl; no_open = refl; no_name = refl }
op_ends Eq = record { no_plus = refl; no_minus = refl; no_open = refl; no_name = refl }

-- after a formula
ends : (k : Token) (ps : List Part) (ts left : Tokens) → Ends k → Takes (any k ∷ ps) ts left → NoShift ts
ends k ps ts left e h = (first_is_not (is_symbol_token Plus) k ps ts left e.no_plus h, first_is_not (is_symbol_token Minus) k ps ts left e.no_minus h)

module _ {F X Q : Type 0} (grammar : Grammar F X Q) where
  -- a lawful formula that stands for what is not written yet: `0 = 0`, or a hole
  abbrev pub some_formula : ℕ → F
  some_formula zero = grammar.roll (hole start)
  some_formula (suc d) = grammar.roll (compared zero_term Eq zero_term)

  -- its tokens
  abbrev pub some_tokens : ℕ → Tokens
  some_tokens zero = record { token = hole_token; place = start } ∷ []
  some_tokens (suc d) = record { token = number_token 0; place = start } ∷ symbol_at Equals ∷ zero_tokens

  -- a layer's tokens spell its formula
  pub spelled_as : (l : Layer F X) (x : Tokens) → Spells (text_of grammar l) x → Spells (grammar.text (grammar.roll l)) x
  spelled_as l x h = subst (λ ps. Spells ps x) (sym (grammar.text_is l)) h

  -- they spell it
  pub some_spelled : (d : ℕ) → Spells (grammar.text (some_formula d)) (some_tokens d)
  some_spelled zero = spelled_as (hole start) (some_tokens zero) ((refl, refl), refl)
  some_spelled (suc d) = spelled_as (compared zero_term Eq zero_term) (some_tokens (suc d)) ((refl, refl), (refl, ((refl, refl), refl)))

  -- it is lawful
  pub some_fits : (d : ℕ) → grammar.Fits d (some_formula d)
  some_fits zero = grammar.hole_fits start
  some_fits (suc d) = (grammar.fits_is d (compared zero_term Eq zero_term)).1 (omega arith, omega arith)

-- no name stands after a name where an offset or the end of a term does
no_name : (o : Offset) (k : Token) (ps : List Part) (ts left : Tokens) → Ends k → Takes (offset_text o ++ any k ∷ ps) ts left → IsNot is_name ts
no_name unmoved k ps ts left e h = first_is_not is_name_token k ps ts left e.no_name h
no_name (moved_by true n) k ps ts left e h = first_is_not is_name_token (symbol_token Minus) (any (number_token n) ∷ any k ∷ ps) ts left refl h
no_name (moved_by false n) k ps ts left e h = first_is_not is_name_token (symbol_token Plus) (any (number_token n) ∷ any k ∷ ps) ts left refl h

-- ---- complete

module _ {F X Q : Type 0} (grammar : Grammar F X Q) (inner : Parser F) (after_it : Identifier → Place → Parser F) (d turns : ℕ) (after : AfterRules grammar d turns after_it) (inner_back : (w : F) (ts left : Tokens) → length ts < turns → Takes (grammar.text w) ts left → NoShift left → Answers (inner ts) w left (grammar.Fits d w)) where
  -- a formula is read by its first token, which is no hole
  over_at : (t : Placed) (us : Tokens) (k : Token) (p : Place) → t.token ≡ k → t.place ≡ p → is_hole_token k ≡ false → formula_over (trees grammar) after_it inner turns (t ∷ us) ≡ started (trees grammar) after_it inner turns p (start_of k) (t ∷ us)
  unfolding formula_over look
  over_at t us k p e d h = rw (e, d, h) refl

  -- what is read by the first token is read
  started_as : (t : Placed) (us : Tokens) (k : Token) (p : Place) (w : F) (left : Tokens) (L : Type 0) → t.token ≡ k → t.place ≡ p → is_hole_token k ≡ false → Answers (started (trees grammar) after_it inner turns p (start_of k) (t ∷ us)) w left L → Answers (formula_over (trees grammar) after_it inner turns (t ∷ us)) w left L
  started_as t us k p w left L e d h a = subst (λ o. Answers o w left L) (sym (over_at t us k p e d h)) a

  -- what is read after a name is read
  named_as : (t : Placed) (us : Tokens) (n : Identifier) (p : Place) (w : F) (left : Tokens) (L : Type 0) → t.token ≡ name_token n → t.place ≡ p → Answers (after_it n p us) w left L → Answers (formula_over (trees grammar) after_it inner turns (t ∷ us)) w left L
  unfolding named accept
  named_as t us n p w left L e d a = started_as t us (name_token n) p w left L e d refl (rw (e, d) a)

  -- the same where no other name follows
  plain_as : (t : Placed) (us : Tokens) (n : Identifier) (p : Place) (w : F) (left : Tokens) (L : Type 0) → t.token ≡ name_token n → t.place ≡ p → IsNot is_name us → Answers (after_name false (trees grammar) turns n p us) w left L → Answers (formula_over (trees grammar) after_it inner turns (t ∷ us)) w left L
  plain_as t us n p w left L e d alone a = named_as t us n p w left L e d (subst (λ o. Answers o w left L) (sym (after.plain n p us alone)) a)

  -- a denied formula is read back
  negated_answers : (p : Place) (f : F) (ts left : Tokens) → length ts < turns → Takes (text_of grammar (denied p f)) ts left → NoShift left → Answers (negated (trees grammar) inner p ts) (grammar.roll (denied p f)) left (grammar.Fits d f)
  unfolding negated
  negated_answers p f ts left lt h g =
      let L : Type 0 = grammar.Fits d f in
      let first : List Part = at p (word_token Not) ∷ [] in
      let k = takes_split first (grammar.text f) ts left h in
      let size : length k.0 + length first ≡ length ts = takes_shorter first ts k.0 k.1 in
      answers_then (expect_word Not ts) _ tt k.0 (grammar.roll (denied p f)) left L ((accepts_back _ (at p (word_token Not)) tt L (λ t r. word_required Not t r.0)).reads ts k.0 k.1 tt)
      (answers_then (inner k.0) _ f left (grammar.roll (denied p f)) left L (inner_back f k.0 left (omega arith) k.2 g) (inl refl))

  -- a formula after `exists` is read back
  existing_answers : (p : Place) (c : RawColumn) (f : F) (ts left : Tokens) → length ts < turns → Takes (text_of grammar (some p c f)) ts left → NoShift left → Answers (existing (trees grammar) inner p ts) (grammar.roll (some p c f)) left (grammar.Fits d f)
  unfolding existing
  existing_answers p c f ts left lt h g =
      let L : Type 0 = grammar.Fits d f in
      let first : List Part = at p (word_token Exists) ∷ [] in
      let k = takes_split first (column_text c ++ grammar.text f) ts left h in
      let size : length k.0 + length first ≡ length ts = takes_shorter first ts k.0 k.1 in
      let m = takes_split (column_text c) (grammar.text f) k.0 left k.2 in
      let less : length m.0 + length (column_text c) ≡ length k.0 = takes_shorter (column_text c) k.0 m.0 m.1 in
      answers_then (expect_word Exists ts) _ tt k.0 (grammar.roll (some p c f)) left L ((accepts_back _ (at p (word_token Exists)) tt L (λ t r. word_required Exists t r.0)).reads ts k.0 k.1 tt)
      (answers_then (column k.0) _ c m.0 (grammar.roll (some p c f)) left L (answers_as _ c m.0 (Unit {0}) L (λ l. tt) ((column_back c).reads k.0 m.0 m.1 tt))
      (answers_then (inner m.0) _ f left (grammar.roll (some p c f)) left L (inner_back f m.0 left (omega arith) m.2 g) (inl refl)))

  -- a formula after `forall` is read back
  holding_answers : (p : Place) (c : RawColumn) (f : F) (ts left : Tokens) → length ts < turns → Takes (text_of grammar (every p c f)) ts left → NoShift left → Answers (holding (trees grammar) inner p ts) (grammar.roll (every p c f)) left (grammar.Fits d f)
  unfolding holding
  holding_answers p c f ts left lt h g =
      let L : Type 0 = grammar.Fits d f in
      let first : List Part = at p (word_token Forall) ∷ [] in
      let k = takes_split first (column_text c ++ grammar.text f) ts left h in
      let size : length k.0 + length first ≡ length ts = takes_shorter first ts k.0 k.1 in
      let m = takes_split (column_text c) (grammar.text f) k.0 left k.2 in
      let less : length m.0 + length (column_text c) ≡ length k.0 = takes_shorter (column_text c) k.0 m.0 m.1 in
      answers_then (expect_word Forall ts) _ tt k.0 (grammar.roll (every p c f)) left L ((accepts_back _ (at p (word_token Forall)) tt L (λ t r. word_required Forall t r.0)).reads ts k.0 k.1 tt)
      (answers_then (column k.0) _ c m.0 (grammar.roll (every p c f)) left L (answers_as _ c m.0 (Unit {0}) L (λ l. tt) ((column_back c).reads k.0 m.0 m.1 tt))
      (answers_then (inner m.0) _ f left (grammar.roll (every p c f)) left L (inner_back f m.0 left (omega arith) m.2 g) (inl refl)))

  -- what stands after `implies` is read back
  implying_answers : (p : Place) (f g : F) (us left : Tokens) → length us < turns → Takes (grammar.text g ++ any (symbol_token Close) ∷ []) us left → Answers (implying (trees grammar) inner p f us) (grammar.roll (implied p f g)) left (FitsLayer grammar d (implied p f g))
  unfolding implying
  implying_answers p f g us left lt h =
      let L : Type 0 = FitsLayer grammar d (implied p f g) in
      let k = takes_split (grammar.text g) (any (symbol_token Close) ∷ []) us left h in
      answers_then (inner us) _ g k.0 (grammar.roll (implied p f g)) left L (answers_as _ g k.0 (grammar.Fits d g) L (λ l. l.1) (inner_back g us k.0 lt k.1 (ends (symbol_token Close) [] k.0 left closing k.2)))
      (answers_then (expect Close k.0) _ tt left (grammar.roll (implied p f g)) left L ((accepts_back _ (any (symbol_token Close)) tt L (expect_seen Close)).reads k.0 left k.2 tt) (inl refl))

  -- the members after `and` are read back
  conjoined_answers : (p : Place) (f g : F) (gs : List F) (us left : Tokens) → length us < turns → Takes (separated (any (word_token And)) grammar.text (g ∷ gs) ++ any (symbol_token Close) ∷ []) us left → Answers (conjoined (trees grammar) inner turns p f us) (grammar.roll (all_of p f g gs)) left (FitsLayer grammar d (all_of p f g gs))
  unfolding conjoined
  conjoined_answers p f g gs us left lt h =
      let w : F = grammar.roll (all_of p f g gs) in
      let L : Type 0 = FitsLayer grammar d (all_of p f g gs) in
      let text : List Part = separated (any (word_token And)) grammar.text (g ∷ gs) in
      let k = takes_split text (any (symbol_token Close) ∷ []) us left h in
      let size : length k.0 + length text ≡ length us = takes_shorter text us k.0 k.1 in
      let long : length (g ∷ gs) ≤ length text + 1 = separated_long (any (word_token And)) grammar.text (g ∷ gs) in
      answers_then (separated_from inner (is_word And) turns (f ∷ []) us) _ (f ∷ g ∷ gs) k.0 w left L
      (answers_as _ (f ∷ g ∷ gs) k.0 (AllByRecursion (grammar.Fits d) (g ∷ gs)) L (λ l. l.1)
      (separated_below inner grammar.text (grammar.Fits d) NoShift (any (word_token And)) (is_word And) turns inner_back (λ t ts r. (ap (is_symbol_token Plus) r, ap (is_symbol_token Minus) r)) (word_seen And) turns (f ∷ []) g gs (omega (arith, size, long, lt)) us k.0 lt k.1
      (record { member = ends (symbol_token Close) [] k.0 left closing k.2; no_comma = first_is_not (is_word_token And) (symbol_token Close) [] k.0 left refl k.2 })))
      (answers_then (expect Close k.0) _ tt left w left L ((accepts_back _ (any (symbol_token Close)) tt L (expect_seen Close)).reads k.0 left k.2 tt) (inl refl))

  -- the members after `or` are read back
  disjoined_answers : (p : Place) (f g : F) (gs : List F) (us left : Tokens) → length us < turns → Takes (separated (any (word_token Or)) grammar.text (g ∷ gs) ++ any (symbol_token Close) ∷ []) us left → Answers (disjoined (trees grammar) inner turns p f us) (grammar.roll (any_of p f g gs)) left (FitsLayer grammar d (any_of p f g gs))
  unfolding disjoined
  disjoined_answers p f g gs us left lt h =
      let w : F = grammar.roll (any_of p f g gs) in
      let L : Type 0 = FitsLayer grammar d (any_of p f g gs) in
      let text : List Part = separated (any (word_token Or)) grammar.text (g ∷ gs) in
      let k = takes_split text (any (symbol_token Close) ∷ []) us left h in
      let size : length k.0 + length text ≡ length us = takes_shorter text us k.0 k.1 in
      let long : length (g ∷ gs) ≤ length text + 1 = separated_long (any (word_token Or)) grammar.text (g ∷ gs) in
      answers_then (separated_from inner (is_word Or) turns (f ∷ []) us) _ (f ∷ g ∷ gs) k.0 w left L
      (answers_as _ (f ∷ g ∷ gs) k.0 (AllByRecursion (grammar.Fits d) (g ∷ gs)) L (λ l. l.1)
      (separated_below inner grammar.text (grammar.Fits d) NoShift (any (word_token Or)) (is_word Or) turns inner_back (λ t ts r. (ap (is_symbol_token Plus) r, ap (is_symbol_token Minus) r)) (word_seen Or) turns (f ∷ []) g gs (omega (arith, size, long, lt)) us k.0 lt k.1
      (record { member = ends (symbol_token Close) [] k.0 left closing k.2; no_comma = first_is_not (is_word_token Or) (symbol_token Close) [] k.0 left refl k.2 })))
      (answers_then (expect Close k.0) _ tt left w left L ((accepts_back _ (any (symbol_token Close)) tt L (expect_seen Close)).reads k.0 left k.2 tt) (inl refl))

  -- a formula and members after `and`
  all_of_answers : (p : Place) (f g : F) (gs : List F) (us left : Tokens) → length us < turns → Takes (any (word_token And) ∷ (separated (any (word_token And)) grammar.text (g ∷ gs) ++ any (symbol_token Close) ∷ [])) us left → Answers (after_first (trees grammar) inner turns p f us) (grammar.roll (all_of p f g gs)) left (FitsLayer grammar d (all_of p f g gs))
  unfolding after_first
  all_of_answers p f g gs us left lt h =
      let w : F = grammar.roll (all_of p f g gs) in
      let L : Type 0 = FitsLayer grammar d (all_of p f g gs) in
      let rest : List Part = separated (any (word_token And)) grammar.text (g ∷ gs) ++ any (symbol_token Close) ∷ [] in
      let first : List Part = any (word_token And) ∷ [] in
      let k = takes_split first rest us left h in
      let size : length k.0 + length first ≡ length us = takes_shorter first us k.0 k.1 in
      answers_then (eat (is_word Implies) us) _ false us w left L (inl (eats_none (is_word Implies) us us refl (first_is_not (is_word_token Implies) (word_token And) rest us left refl h)))
      (answers_then (eat (is_word And) us) _ true k.0 w left L ((eat_back (is_word And) (any (word_token And)) L (word_seen And)).reads us k.0 k.1 tt) (conjoined_answers p f g gs k.0 left (omega arith) k.2))

  -- a formula and members after `or`
  any_of_answers : (p : Place) (f g : F) (gs : List F) (us left : Tokens) → length us < turns → Takes (any (word_token Or) ∷ (separated (any (word_token Or)) grammar.text (g ∷ gs) ++ any (symbol_token Close) ∷ [])) us left → Answers (after_first (trees grammar) inner turns p f us) (grammar.roll (any_of p f g gs)) left (FitsLayer grammar d (any_of p f g gs))
  unfolding after_first
  any_of_answers p f g gs us left lt h =
      let w : F = grammar.roll (any_of p f g gs) in
      let L : Type 0 = FitsLayer grammar d (any_of p f g gs) in
      let rest : List Part = separated (any (word_token Or)) grammar.text (g ∷ gs) ++ any (symbol_token Close) ∷ [] in
      let first : List Part = any (word_token Or) ∷ [] in
      let k = takes_split first rest us left h in
      let size : length k.0 + length first ≡ length us = takes_shorter first us k.0 k.1 in
      answers_then (eat (is_word Implies) us) _ false us w left L (inl (eats_none (is_word Implies) us us refl (first_is_not (is_word_token Implies) (word_token Or) rest us left refl h)))
      (answers_then (eat (is_word And) us) _ false us w left L (inl (eats_none (is_word And) us us refl (first_is_not (is_word_token And) (word_token Or) rest us left refl h)))
      (answers_then (eat (is_word Or) us) _ true k.0 w left L ((eat_back (is_word Or) (any (word_token Or)) L (word_seen Or)).reads us k.0 k.1 tt) (disjoined_answers p f g gs k.0 left (omega arith) k.2)))

  -- a formula alone in parentheses
  group_back : (p : Place) (f : F) (L : Type 0) → ReadsBack (after_first (trees grammar) inner turns p f) (any (symbol_token Close) ∷ []) (grammar.roll (group p f)) L NoShift
  unfolding after_first
  group_back p f L =
      bind_back _ {G = NoShift} (eat_none (is_word Implies) L)
      (bind_back _ {G = NoShift} (eat_none (is_word And) L)
      (bind_back _ {G = NoShift} (eat_none (is_word Or) L)
      (then_back _ (accepts_back _ (any (symbol_token Close)) tt L (expect_seen Close)) (pure_back (grammar.roll (group p f)) L NoShift))
      (λ ts left h g. first_is_not (is_word_token Or) (symbol_token Close) [] ts left refl h))
      (λ ts left h g. first_is_not (is_word_token And) (symbol_token Close) [] ts left refl h))
      (λ ts left h g. first_is_not (is_word_token Implies) (symbol_token Close) [] ts left refl h)

  -- a formula, `implies` and another one
  implied_answers : (p : Place) (f g : F) (us left : Tokens) → length us < turns → Takes (any (word_token Implies) ∷ (grammar.text g ++ any (symbol_token Close) ∷ [])) us left → Answers (after_first (trees grammar) inner turns p f us) (grammar.roll (implied p f g)) left (FitsLayer grammar d (implied p f g))
  unfolding after_first
  implied_answers p f g us left lt h =
      let L : Type 0 = FitsLayer grammar d (implied p f g) in
      let first : List Part = any (word_token Implies) ∷ [] in
      let k = takes_split first (grammar.text g ++ any (symbol_token Close) ∷ []) us left h in
      let size : length k.0 + length first ≡ length us = takes_shorter first us k.0 k.1 in
      answers_then (eat (is_word Implies) us) _ true k.0 (grammar.roll (implied p f g)) left L ((eat_back (is_word Implies) (any (word_token Implies)) L (word_seen Implies)).reads us k.0 k.1 tt) (implying_answers p f g k.0 left (omega arith) k.2)

  -- after a parenthesis and a formula
  enclosed_answers : (p : Place) (f : F) (k : Token) (ps : List Part) (w : F) (L : Type 0) → Ends k → (L → grammar.Fits d f) → (ts left : Tokens) → length ts < turns → Takes (at p (symbol_token Open) ∷ (grammar.text f ++ any k ∷ ps)) ts left → ((us : Tokens) → length us < turns → Takes (any k ∷ ps) us left → Answers (after_first (trees grammar) inner turns p f us) w left L) → Answers (enclosed (trees grammar) inner turns p ts) w left L
  unfolding enclosed
  enclosed_answers p f k ps w L e fit ts left lt h onward =
      let first : List Part = at p (symbol_token Open) ∷ [] in
      let a = takes_split first (grammar.text f ++ any k ∷ ps) ts left h in
      let size : length a.0 + length first ≡ length ts = takes_shorter first ts a.0 a.1 in
      let b = takes_split (grammar.text f) (any k ∷ ps) a.0 left a.2 in
      let less : length b.0 + length (grammar.text f) ≡ length a.0 = takes_shorter (grammar.text f) a.0 b.0 b.1 in
      answers_then (expect Open ts) _ tt a.0 w left L ((accepts_back _ (at p (symbol_token Open)) tt L (λ t r. expect_seen Open t r.0)).reads ts a.0 a.1 tt)
      (answers_then (inner a.0) _ f b.0 w left L (answers_as _ f b.0 (grammar.Fits d f) L fit (inner_back f a.0 b.0 (omega arith) b.1 (ends k ps b.0 left e b.2))) (onward b.0 (omega arith) b.2))

  -- the whole in its parentheses
  all_of_enclosed : (p : Place) (f g : F) (gs : List F) (ts left : Tokens) → length ts < turns → Takes (text_of grammar (all_of p f g gs)) ts left → Answers (enclosed (trees grammar) inner turns p ts) (grammar.roll (all_of p f g gs)) left (FitsLayer grammar d (all_of p f g gs))
  all_of_enclosed p f g gs ts left lt h =
      enclosed_answers p f (word_token And) (separated (any (word_token And)) grammar.text (g ∷ gs) ++ any (symbol_token Close) ∷ []) (grammar.roll (all_of p f g gs)) (FitsLayer grammar d (all_of p f g gs)) (word_ends And) (λ l. l.0) ts left lt h (λ vs less k. all_of_answers p f g gs vs left less k)

  -- the whole in its parentheses
  any_of_enclosed : (p : Place) (f g : F) (gs : List F) (ts left : Tokens) → length ts < turns → Takes (text_of grammar (any_of p f g gs)) ts left → Answers (enclosed (trees grammar) inner turns p ts) (grammar.roll (any_of p f g gs)) left (FitsLayer grammar d (any_of p f g gs))
  any_of_enclosed p f g gs ts left lt h =
      enclosed_answers p f (word_token Or) (separated (any (word_token Or)) grammar.text (g ∷ gs) ++ any (symbol_token Close) ∷ []) (grammar.roll (any_of p f g gs)) (FitsLayer grammar d (any_of p f g gs)) (word_ends Or) (λ l. l.0) ts left lt h (λ vs less k. any_of_answers p f g gs vs left less k)

  -- a text or an integer at its place, and what stands after it
  unnamed_answers : (p : Place) (item : WrittenTerm) (ps : List Part) (f : F) (L : Type 0) → (L → FitsTerm item) → ReadsBack (unnamed_term written_terms) (term_text item) item (FitsTerm item) Anything → ReadsBack (tested false (trees grammar) (record { place = p; item = item })) ps f L NoShift → (ts left : Tokens) → Takes (placed_text (record { place = p; item = item }) ++ ps) ts left → NoShift left → Answers (unnamed false (trees grammar) p ts) f left L
  unfolding unnamed
  unnamed_answers p item ps f L fit item_back back ts left h g =
      let l : Located WrittenTerm = record { place = p; item = item } in
      let k = takes_split (placed_text l) ps ts left h in
      let bare = takes_from p (term_text item) ts k.0 (term_leads item) k.1 in
      answers_then (unnamed_term written_terms ts) _ item k.0 f left L (answers_as _ item k.0 (FitsTerm item) L fit (item_back.reads ts k.0 bare.0 tt)) (back.reads k.0 left k.2 g)

  -- an integer at its place, by its sign
  integer_answers : (p : Place) (negative : Bool) (n : ℕ) (ps : List Part) (f : F) (L : Type 0) → (ts left : Tokens) → Takes (from p (sign negative ++ any (number_token n) ∷ []) ++ ps) ts left → Answers (unnamed false (trees grammar) p ts) f left L → Answers (formula_over (trees grammar) after_it inner turns ts) f left L
  integer_answers p true n ps f L [] left h a = absurd h
  integer_answers p false n ps f L [] left h a = absurd h
  integer_answers p true n ps f L (t ∷ us) left h a = started_as t us (symbol_token Minus) p f left L h.0.0 h.0.1 refl a
  integer_answers p false n ps f L (t ∷ us) left h a = started_as t us (number_token n) p f left L h.0.0 h.0.1 refl a

  -- a formula that begins with a term is read back
  side_answers : (p : Place) (item : WrittenTerm) (k : Token) (ps : List Part) (f : F) (L : Type 0) → Ends k → (L → FitsTerm item) → ReadsBack (tested false (trees grammar) (record { place = p; item = item })) (any k ∷ ps) f L NoShift → (ts left : Tokens) → Takes (placed_text (record { place = p; item = item }) ++ any k ∷ ps) ts left → NoShift left → Answers (formula_over (trees grammar) after_it inner turns ts) f left L
  side_answers p (variable n) k ps f L e fit back [] left h g = absurd h
  side_answers p (shifted n down j) k ps f L e fit back [] left h g = absurd h
  side_answers p (text_term s) k ps f L e fit back [] left h g = absurd h
  side_answers p (integer_term i) k ps f L e fit back ts left h g = integer_answers p i.negative i.size (any k ∷ ps) f L ts left h (unnamed_answers p (integer_term i) (any k ∷ ps) f L fit (integer_term_back i) back ts left h g)
  side_answers p (variable n) k ps f L e fit back (t ∷ us) left h g = plain_as t us n p f left L h.0.0 h.0.1 (no_name unmoved k ps us left e h.1) ((name_test_back grammar d turns p n unmoved k ps f L e fit back).reads us left h.1 g)
  side_answers p (shifted n down j) k ps f L e fit back (t ∷ us) left h g = plain_as t us n p f left L h.0.0 h.0.1 (no_name (moved_by down j) k ps us left e h.1) ((name_test_back grammar d turns p n (moved_by down j) k ps f L e fit back).reads us left h.1 g)
  side_answers p (text_term s) k ps f L e fit back (t ∷ us) left h g = started_as t us (text_token s) p f left L h.0.0 h.0.1 refl (unnamed_answers p (text_term s) (any k ∷ ps) f L fit (quoted_back s) back (t ∷ us) left h g)

  -- an atom has fewer terms than tokens
  few_terms : (p : Place) (n : Identifier) (all : List (Located WrittenTerm)) (ts left : Tokens) → length ts < turns → Takes (text_of grammar (atom p n all)) ts left → length all ≤ turns
  few_terms p n all ts left lt h =
      let k = takes_split (at p (name_token n) ∷ any (symbol_token Open) ∷ []) (separated comma placed_text all ++ any (symbol_token Close) ∷ []) ts left h in
      let m = takes_split (separated comma placed_text all) (any (symbol_token Close) ∷ []) k.0 left k.2 in
      let less : length k.0 + length {A = Part} (at p (name_token n) ∷ any (symbol_token Open) ∷ []) ≡ length ts = takes_shorter (at p (name_token n) ∷ any (symbol_token Open) ∷ []) ts k.0 k.1 in
      let size : length m.0 + length (separated comma placed_text all) ≡ length k.0 = takes_shorter (separated comma placed_text all) k.0 m.0 m.1 in
      let long : length all ≤ length (separated comma placed_text all) + 1 = separated_long comma placed_text all in
      omega (arith, long, size, less, lt)

  -- a layer whose formulas are read back is read back, or refused for another cause than syntax where it is not lawful
  layer_answers : (w : Layer F X) (ts left : Tokens) → length ts < turns → Takes (text_of grammar w) ts left → NoShift left → Answers (formula_over (trees grammar) after_it inner turns ts) (grammar.roll w) left (FitsLayer grammar d w)
  unfolding formula_over look
  layer_answers (compared l op r) ts left lt h g = side_answers l.place l.item (symbol_token (op_symbol op)) (placed_text r) (grammar.roll (compared l op r)) (FitsLayer grammar d (compared l op r)) (op_ends op) (λ f. f.0) (test_compared_back grammar d l op r) ts left h g
  layer_answers (member l i k) ts left lt h g = side_answers l.place l.item (word_token In) (point_text i k) (grammar.roll (member l i k)) (FitsLayer grammar d (member l i k)) (word_ends In) (λ f. f.0) (test_point_back grammar d l i k) ts left h g
  layer_answers (atom p n all) [] left lt h g = absurd h
  layer_answers (denied p f) [] left lt h g = absurd h
  layer_answers (all_of p f q qs) [] left lt h g = absurd h
  layer_answers (any_of p f q qs) [] left lt h g = absurd h
  layer_answers (implied p f q) [] left lt h g = absurd h
  layer_answers (group p f) [] left lt h g = absurd h
  layer_answers (some p c f) [] left lt h g = absurd h
  layer_answers (every p c f) [] left lt h g = absurd h
  layer_answers (hole p) [] left lt h g = absurd h
  layer_answers (other x) [] left lt h g = absurd h
  layer_answers (atom p n all) (t ∷ us) left lt h g =
      plain_as t us n p (grammar.roll (atom p n all)) left (FitsLayer grammar d (atom p n all)) h.0.0 h.0.1 (first_is_not is_name_token (symbol_token Open) (separated comma placed_text all ++ any (symbol_token Close) ∷ []) us left refl h.1)
      ((name_atom_back grammar d turns p n all (few_terms p n all (t ∷ us) left lt h)).reads us left h.1 g)
  layer_answers (denied p f) (t ∷ us) left lt h g = started_as t us (word_token Not) p (grammar.roll (denied p f)) left (FitsLayer grammar d (denied p f)) h.0.0 h.0.1 refl (negated_answers p f (t ∷ us) left lt h g)
  layer_answers (some p c f) (t ∷ us) left lt h g = started_as t us (word_token Exists) p (grammar.roll (some p c f)) left (FitsLayer grammar d (some p c f)) h.0.0 h.0.1 refl (existing_answers p c f (t ∷ us) left lt h g)
  layer_answers (every p c f) (t ∷ us) left lt h g = started_as t us (word_token Forall) p (grammar.roll (every p c f)) left (FitsLayer grammar d (every p c f)) h.0.0 h.0.1 refl (holding_answers p c f (t ∷ us) left lt h g)
  layer_answers (group p f) (t ∷ us) left lt h g =
      let L : Type 0 = FitsLayer grammar d (group p f) in
      started_as t us (symbol_token Open) p (grammar.roll (group p f)) left L h.0.0 h.0.1 refl (enclosed_answers p f (symbol_token Close) [] (grammar.roll (group p f)) L closing (λ l. l) (t ∷ us) left lt h (λ vs less k. (group_back p f L).reads vs left k g))
  layer_answers (implied p f q) (t ∷ us) left lt h g =
      let L : Type 0 = FitsLayer grammar d (implied p f q) in
      started_as t us (symbol_token Open) p (grammar.roll (implied p f q)) left L h.0.0 h.0.1 refl (enclosed_answers p f (word_token Implies) (grammar.text q ++ any (symbol_token Close) ∷ []) (grammar.roll (implied p f q)) L (word_ends Implies) (λ l. l.0) (t ∷ us) left lt h (λ vs less k. implied_answers p f q vs left less k))
  layer_answers (all_of p f q qs) (t ∷ us) left lt h g = started_as t us (symbol_token Open) p (grammar.roll (all_of p f q qs)) left (FitsLayer grammar d (all_of p f q qs)) h.0.0 h.0.1 refl (all_of_enclosed p f q qs (t ∷ us) left lt h)
  layer_answers (any_of p f q qs) (t ∷ us) left lt h g = started_as t us (symbol_token Open) p (grammar.roll (any_of p f q qs)) left (FitsLayer grammar d (any_of p f q qs)) h.0.0 h.0.1 refl (any_of_enclosed p f q qs (t ∷ us) left lt h)
  layer_answers (hole p) (t ∷ us) left lt h g = inr (record { unlawful = λ l. l; fault = (Deep, t ∷ us); is = rw h.0.0 refl; kind = λ e. absurd cc })
  layer_answers (other x) (t ∷ us) left lt h g = named_as t us (grammar.others.word x) (grammar.others.place x) (grammar.roll (other x)) left (grammar.others.Fits d x) h.0.0 h.0.1 (after.back x us left (omega arith) h.1 g)

  -- a formula whose inner ones are read back is read back, or refused for another cause than syntax where it is not lawful
  pub over_answers : (w : F) (ts left : Tokens) → length ts < turns → Takes (grammar.text w) ts left → NoShift left → Answers (formula_over (trees grammar) after_it inner turns ts) w left (grammar.Fits (suc d) w)
  over_answers w ts left lt h g = back_unrolled grammar d (formula_over (trees grammar) after_it inner turns ts) w left (layer_answers (grammar.unroll w) ts left lt (takes_unrolled grammar w ts left h) g)
