-- The rules of operators: complete, sound and viable where the rule of the formulas inside is.
use Rattle.std.proofs.Common.{◌≡◌, inl, ◌≤◌, ◌<◌, ◌+◌, ℕ, suc, Bool, false, List, [], ◌∷◌, ◌++◌, refl, ap, sym, subst, Ok, Err, length, append-nil, arith}
use Rattle.lrp_model.specs.Texts.{Identifier}
use Rattle.lrp_model.specs.declared.tokens.Symbol.TheVariants.{Open, Close, Comma, Plus, Minus}
use Rattle.lrp_model.specs.declared.tokens.Place.{Place}
use Rattle.lrp_model.specs.declared.tokens.Fault.{Fault}
use Rattle.lrp_model.specs.declared.written.Integer.{Integer}
use Rattle.lrp_model.specs.Lexing.{start}
use Rattle.lrp_model.specs.Limits.{greatest_number}
use Rattle.lrp_model.specs.Tokens.{Token, Tokens, Part, Takes, Spells}
use Rattle.lrp_model.specs.Tokens.Token.{name_token, number_token, symbol_token}
use Rattle.lrp_model.specs.Tokens.Part.{at, any}
use Rattle.lrp_model.specs.Databases.{integer_text}
use Rattle.lrp_model.specs.Refused.{Stops, TextOf}
use Rattle.lrp_model.specs.RawQueries.{Operator, operator_at}
use Rattle.lrp_model.specs.Queries.{WrittenFormula, formula_text, interval_text, ranged_word, paired_word}
use Rattle.lrp_model.specs.Queries.Language.{temporal}
use Rattle.lrp_model.specs.declared.raw.Ranged.{Ranged}
use Rattle.lrp_model.specs.declared.raw.Paired.{Paired}
use Rattle.lrp_text.specs.Parsers.{ParseOutcome, Parser}
use Rattle.lrp_text.specs.Taking.{is_symbol_token, expect, name, name_of, with_place}
use Rattle.lrp_text.specs.IntegerRule.{integer}
use Rattle.lrp_text.proofs.Complete.{ReadsBack, Answers, Anything, answers_then, answers_as, back_as, then_back, pure_back, accepts_back, first_is_not}
use Rattle.lrp_text.proofs.Sound.{Sound, bind_ok, accept_sound, takes_join, takes_split, takes_shorter}
use Rattle.lrp_text.proofs.Viable.{Viable, One, accept_viable, sub_step, sub_short, spells_join, always, fits_as}
use Rattle.lrp_text.proofs.TokenTests.{expect_seen, name_part, name_told, name_seen, name_stops}
use Rattle.lrp_text.proofs.IntegerRule.{integer_back, integer_sound, integer_viable}
use Rattle.lrp_query.specs.OperatorRules.{ends, ranged, paired}
use Rattle.lrp_query.proofs.Layers.{Layer, other, FormulaRules, text_of, FitsLayer, LayerTexts, IsFormula, read_layer}
use Rattle.lrp_text.proofs.OffsetRule.{NoShift}
use Rattle.lrp_query.proofs.TestRules.{sym_part, symbol_sound, symbol_viable, symbol_at, name_at}
use Rattle.lrp_query.proofs.OverRules.{some_formula, some_tokens, some_spelled, some_fits}
use Rattle.lrp_query.proofs.Languages.{OperatorOver, over_range, over_pair, FitsAt, FitsOperator, written_ranged, written_paired, written_operators, ranged_rest, paired_rest, temporal_grammar}

-- one outcome gives one value
one_read : {A : Type 0} (p q : A × Tokens) → ◌≡◌ {A = ParseOutcome A} (Ok p) (Ok q) → p ≡ q
one_read p q e = cc

-- ---- intervals

-- what is read of an interval
abbrev pub Ends : Type 0
Ends = Integer × Integer

-- numbers within the limit
abbrev pub FitsEnds : Ends → Type 0
FitsEnds e = (e.0.size ≤ greatest_number) × (e.1.size ≤ greatest_number)

abbrev pub ends_text : Ends → List Part
ends_text e = interval_text e.0 e.1

abbrev written_ends : Parser Ends
written_ends = ends (λ i. i)

-- the tokens of an interval are read back
ends_back : (a b : Integer) → ReadsBack written_ends (interval_text a b) (a, b) (FitsEnds (a, b)) Anything
unfolding ends
ends_back a b =
    let L : Type 0 = FitsEnds (a, b) in
    then_back _ (back_as (a.size ≤ greatest_number) L (λ l. l.0) (integer_back a))
    (then_back _ (accepts_back _ (any (symbol_token Comma)) tt L (expect_seen Comma))
    (then_back _ (back_as (b.size ≤ greatest_number) L (λ l. l.1) (integer_back b))
    (then_back _ (accepts_back _ (any (symbol_token Close)) tt L (expect_seen Close)) (pure_back (a, b) L Anything))))

-- an interval that is read is spelled so, and is lawful
ends_sound : Sound written_ends ends_text FitsEnds
unfolding ends
ends_sound ts q e =
    let a = bind_ok (integer ts) _ q e in
    let c = bind_ok (expect Comma a.0.1) _ q a.2 in
    let b = bind_ok (integer c.0.1) _ q c.2 in
    let d = bind_ok (expect Close b.0.1) _ q b.2 in
    let h : ◌≡◌ {A = Ends × Tokens} ((a.0.0, b.0.0), d.0.1) q = cc in
    let one = integer_sound ts a.0 a.1 in
    let two = integer_sound c.0.1 b.0 b.1 in
    subst (λ y. Takes (ends_text y.0) ts y.1 × FitsEnds y.0) h (
      takes_join (integer_text a.0.0) (any (symbol_token Comma) ∷ (integer_text b.0.0 ++ any (symbol_token Close) ∷ [])) ts a.0.1 d.0.1 one.0
          (takes_join (any (symbol_token Comma) ∷ []) (integer_text b.0.0 ++ any (symbol_token Close) ∷ []) a.0.1 c.0.1 d.0.1 (symbol_sound Comma a.0.1 c.0 c.1).0
          (takes_join (integer_text b.0.0) (any (symbol_token Close) ∷ []) c.0.1 b.0.1 d.0.1 two.0 (symbol_sound Close b.0.1 d.0 d.1).0)),
      (one.1, two.1),
    )

-- the number 0
abbrev zero_integer : Integer
zero_integer = record { negative = false; size = 0 }

abbrev zero_tokens : Tokens
zero_tokens = record { token = number_token 0; place = start } ∷ []

-- `, 0)`
abbrev comma_zero : Tokens
comma_zero = symbol_at Comma ∷ record { token = number_token 0; place = start } ∷ symbol_at Close ∷ []

-- the parts of an interval, one after the other
ends_spelled : (a b : Integer) (h1 h2 h3 h4 : Tokens) → Spells (integer_text a) h1 → Spells (One (sym_part Comma) tt) h2 → Spells (integer_text b) h3 → Spells (One (sym_part Close) tt) h4 → Spells (interval_text a b) (h1 ++ (h2 ++ (h3 ++ h4)))
ends_spelled a b h1 h2 h3 h4 s1 s2 s3 s4 =
    spells_join (integer_text a) (any (symbol_token Comma) ∷ (integer_text b ++ any (symbol_token Close) ∷ [])) h1 (h2 ++ (h3 ++ h4)) s1
    (spells_join (One (sym_part Comma) tt) (integer_text b ++ any (symbol_token Close) ∷ []) h2 (h3 ++ h4) s2 (spells_join (integer_text b) (any (symbol_token Close) ∷ []) h3 h4 s3 s4))

-- the tokens before a fault of an interval begin one
ends_viable : Viable written_ends ends_text FitsEnds
unfolding ends
ends_viable ts e h =
    let R : Bool → Tokens → Type 0 = TextOf ends_text FitsEnds in
    sub_step integer _ integer_text (λ i. i.size ≤ greatest_number) R ts e integer_sound integer_viable h
    (λ c a x spelled fit. (comma_zero, ((a, zero_integer), fits_as (a.size ≤ greatest_number) (FitsEnds (a, zero_integer)) c (λ k. (k, omega arith)) fit, ends_spelled a zero_integer x (symbol_at Comma ∷ []) zero_tokens (symbol_at Close ∷ []) spelled (refl, refl) (refl, refl) (refl, refl))))
    (λ a h1 us s1 f1 d1. sub_step (expect Comma) _ (One (sym_part Comma)) (λ u. Unit {0}) (λ c x. R c (h1 ++ x)) us e (symbol_sound Comma) (symbol_viable Comma) d1
    (λ c u x spelled fit. (zero_tokens ++ symbol_at Close ∷ [], ((a, zero_integer), always (FitsEnds (a, zero_integer)) c (f1, omega arith), ends_spelled a zero_integer h1 x zero_tokens (symbol_at Close ∷ []) s1 spelled (refl, refl) (refl, refl))))
    (λ u h2 vs s2 f2 d2. sub_step integer _ integer_text (λ i. i.size ≤ greatest_number) (λ c x. R c (h1 ++ (h2 ++ x))) vs e integer_sound integer_viable d2
    (λ c b x spelled fit. (symbol_at Close ∷ [], ((a, b), fits_as (b.size ≤ greatest_number) (FitsEnds (a, b)) c (λ k. (f1, k)) fit, ends_spelled a b h1 h2 x (symbol_at Close ∷ []) s1 s2 spelled (refl, refl))))
    (λ b h3 ws s3 f3 d3. sub_step (expect Close) _ (One (sym_part Close)) (λ u. Unit {0}) (λ c x. R c (h1 ++ (h2 ++ (h3 ++ x)))) ws e (symbol_sound Close) (symbol_viable Close) d3
    (λ c v x spelled fit. ([], ((a, b), always (FitsEnds (a, b)) c (f1, f3), ends_spelled a b h1 h2 h3 (x ++ []) s1 s2 s3 (subst (λ y. Spells (One (sym_part Close) tt) y) (sym (append-nil x)) spelled))))
    (λ v h4 xs s4 f4 d4. absurd cc))))

-- ---- operators over formulas

module _ (inner : Parser (WrittenFormula temporal)) (d turns : ℕ) (rules : FormulaRules temporal_grammar d turns inner) where
  -- the rule of an operator with an interval, and of one over two formulas
  abbrev range_rule : Ranged → Place → Parser (WrittenFormula temporal)
  range_rule = ranged written_operators inner

  abbrev pair_rule : Paired → Place → Parser (WrittenFormula temporal)
  pair_rule = paired written_operators inner

  -- ---- complete

  -- a token that may end a formula inside
  no_shift : (k : Token) (ps : List Part) (ts left : Tokens) → is_symbol_token Plus k ≡ false → is_symbol_token Minus k ≡ false → Takes (any k ∷ ps) ts left → NoShift ts
  no_shift k ps ts left p m h = (first_is_not (is_symbol_token Plus) k ps ts left p h, first_is_not (is_symbol_token Minus) k ps ts left m h)

  -- an operator with an interval is read back
  pub ranged_answers : (word : Ranged) (o : Operator) (a b : Integer) (f : (WrittenFormula temporal)) (us left : Tokens) → length us < turns → Takes (ranged_rest o a b f) us left → NoShift left → Answers (range_rule word o.place us) (written_ranged word o a b f) left (FitsOperator d (over_range tt word o a b f))
  unfolding ranged
  ranged_answers word o a b f us left lt h g =
      let L : Type 0 = FitsOperator d (over_range tt word o a b f) in
      let w : (WrittenFormula temporal) = written_ranged word o a b f in
      let first : List Part = at o.name_place (name_token o.name) ∷ [] in
      let opening : List Part = any (symbol_token Open) ∷ [] in
      let k = takes_split first (any (symbol_token Open) ∷ (interval_text a b ++ formula_text f)) us left h in
      let size_k : length k.0 + length first ≡ length us = takes_shorter first us k.0 k.1 in
      let m = takes_split opening (interval_text a b ++ formula_text f) k.0 left k.2 in
      let size_m : length m.0 + length opening ≡ length k.0 = takes_shorter opening k.0 m.0 m.1 in
      let e = takes_split (interval_text a b) (formula_text f) m.0 left m.2 in
      let size_e : length e.0 + length (interval_text a b) ≡ length m.0 = takes_shorter (interval_text a b) m.0 e.0 e.1 in
      answers_then (name us) _ (o.name, o.name_place) k.0 w left L ((accepts_back (λ t. with_place t.place (name_of t.token)) (at o.name_place (name_token o.name)) (o.name, o.name_place) L (name_seen (o.name, o.name_place))).reads us k.0 k.1 tt)
      (answers_then (expect Open k.0) _ tt m.0 w left L ((accepts_back _ (any (symbol_token Open)) tt L (expect_seen Open)).reads k.0 m.0 m.1 tt)
      (answers_then (written_ends m.0) _ (a, b) e.0 w left L (answers_as _ (a, b) e.0 (FitsEnds (a, b)) L (λ l. l.0) ((ends_back a b).reads m.0 e.0 e.1 tt))
      (answers_then (inner e.0) _ f left w left L (answers_as _ f left (FitsAt d f) L (λ l. l.1) (rules.back f e.0 left (omega arith) e.2 g)) (inl refl))))

  -- an operator over two formulas is read back
  pub paired_answers : (word : Paired) (o : Operator) (f g : (WrittenFormula temporal)) (us left : Tokens) → length us < turns → Takes (paired_rest o f g) us left → Answers (pair_rule word o.place us) (written_paired word o f g) left (FitsOperator d (over_pair tt word o f g))
  unfolding paired
  paired_answers word o f g us left lt h =
      let L : Type 0 = FitsOperator d (over_pair tt word o f g) in
      let w : (WrittenFormula temporal) = written_paired word o f g in
      let first : List Part = at o.name_place (name_token o.name) ∷ [] in
      let opening : List Part = any (symbol_token Open) ∷ [] in
      let comma_part : List Part = any (symbol_token Comma) ∷ [] in
      let last : List Part = formula_text g ++ any (symbol_token Close) ∷ [] in
      let k = takes_split first (any (symbol_token Open) ∷ (formula_text f ++ any (symbol_token Comma) ∷ last)) us left h in
      let size_k : length k.0 + length first ≡ length us = takes_shorter first us k.0 k.1 in
      let m = takes_split opening (formula_text f ++ any (symbol_token Comma) ∷ last) k.0 left k.2 in
      let size_m : length m.0 + length opening ≡ length k.0 = takes_shorter opening k.0 m.0 m.1 in
      let n = takes_split (formula_text f) (any (symbol_token Comma) ∷ last) m.0 left m.2 in
      let size_n : length n.0 + length (formula_text f) ≡ length m.0 = takes_shorter (formula_text f) m.0 n.0 n.1 in
      let p = takes_split comma_part last n.0 left n.2 in
      let size_p : length p.0 + length comma_part ≡ length n.0 = takes_shorter comma_part n.0 p.0 p.1 in
      let q = takes_split (formula_text g) (any (symbol_token Close) ∷ []) p.0 left p.2 in
      answers_then (name us) _ (o.name, o.name_place) k.0 w left L ((accepts_back (λ t. with_place t.place (name_of t.token)) (at o.name_place (name_token o.name)) (o.name, o.name_place) L (name_seen (o.name, o.name_place))).reads us k.0 k.1 tt)
      (answers_then (expect Open k.0) _ tt m.0 w left L ((accepts_back _ (any (symbol_token Open)) tt L (expect_seen Open)).reads k.0 m.0 m.1 tt)
      (answers_then (inner m.0) _ f n.0 w left L (answers_as _ f n.0 (FitsAt d f) L (λ l. l.0) (rules.back f m.0 n.0 (omega arith) n.1 (no_shift (symbol_token Comma) last n.0 left refl refl n.2)))
      (answers_then (expect Comma n.0) _ tt p.0 w left L ((accepts_back _ (any (symbol_token Comma)) tt L (expect_seen Comma)).reads n.0 p.0 p.1 tt)
      (answers_then (inner p.0) _ g q.0 w left L (answers_as _ g q.0 (FitsAt d g) L (λ l. l.1) (rules.back g p.0 q.0 (omega arith) q.1 (no_shift (symbol_token Close) [] q.0 left refl refl q.2)))
      (answers_then (expect Close q.0) _ tt left w left L ((accepts_back _ (any (symbol_token Close)) tt L (expect_seen Close)).reads q.0 left q.2 tt) (inl refl))))))

  -- ---- sound

  -- an operator with an interval that is read is spelled so, and is lawful
  pub ranged_sound : (word : Ranged) (n : Identifier) (p : Place) → n ≡ ranged_word word → (us : Tokens) (q : (WrittenFormula temporal) × Tokens) → range_rule word p us ≡ Ok q → IsFormula temporal_grammar (suc d) (name_at n p ∷ us) q
  unfolding ranged
  ranged_sound word n p is us q e =
      let v = bind_ok (name us) _ q e in
      let o = bind_ok (expect Open v.0.1) _ q v.2 in
      let i = bind_ok (written_ends o.0.1) _ q o.2 in
      let f = bind_ok (inner i.0.1) _ q i.2 in
      let op : Operator = operator_at p v.0.0.0 v.0.0.1 in
      let h = one_read (written_ranged word op i.0.0.0 i.0.0.1 f.0.0, f.0.1) q f.2 in
      let read = rules.sound i.0.1 f.0 f.1 in
      let interval = ends_sound o.0.1 i.0 i.1 in
      let rest : List Part = interval_text i.0.0.0 i.0.0.1 ++ formula_text f.0.0 in
      subst (λ y. IsFormula temporal_grammar (suc d) (name_at n p ∷ us) y) h (read_layer temporal_grammar d (other (over_range tt word op i.0.0.0 i.0.0.1 f.0.0)) (name_at n p ∷ us) f.0.1 (
        (ap name_token is, refl),
        takes_join (at v.0.0.1 (name_token v.0.0.0) ∷ []) (any (symbol_token Open) ∷ rest) us v.0.1 f.0.1 (accept_sound _ name_part name_told us v.0 v.1)
            (takes_join (any (symbol_token Open) ∷ []) rest v.0.1 o.0.1 f.0.1 (symbol_sound Open v.0.1 o.0 o.1).0
            (takes_join (interval_text i.0.0.0 i.0.0.1) (formula_text f.0.0) o.0.1 i.0.1 f.0.1 interval.0 read.0)),
      )
      (interval.1, read.1))

  -- an operator over two formulas that is read is spelled so, and is lawful
  pub paired_sound : (word : Paired) (n : Identifier) (p : Place) → n ≡ paired_word word → (us : Tokens) (q : (WrittenFormula temporal) × Tokens) → pair_rule word p us ≡ Ok q → IsFormula temporal_grammar (suc d) (name_at n p ∷ us) q
  unfolding paired
  paired_sound word n p is us q e =
      let v = bind_ok (name us) _ q e in
      let o = bind_ok (expect Open v.0.1) _ q v.2 in
      let f = bind_ok (inner o.0.1) _ q o.2 in
      let m = bind_ok (expect Comma f.0.1) _ q f.2 in
      let g = bind_ok (inner m.0.1) _ q m.2 in
      let c = bind_ok (expect Close g.0.1) _ q g.2 in
      let op : Operator = operator_at p v.0.0.0 v.0.0.1 in
      let h = one_read (written_paired word op f.0.0 g.0.0, c.0.1) q c.2 in
      let one = rules.sound o.0.1 f.0 f.1 in
      let two = rules.sound m.0.1 g.0 g.1 in
      let last : List Part = formula_text g.0.0 ++ any (symbol_token Close) ∷ [] in
      subst (λ y. IsFormula temporal_grammar (suc d) (name_at n p ∷ us) y) h (read_layer temporal_grammar d (other (over_pair tt word op f.0.0 g.0.0)) (name_at n p ∷ us) c.0.1 (
        (ap name_token is, refl),
        takes_join (at v.0.0.1 (name_token v.0.0.0) ∷ []) (any (symbol_token Open) ∷ (formula_text f.0.0 ++ any (symbol_token Comma) ∷ last)) us v.0.1 c.0.1 (accept_sound _ name_part name_told us v.0 v.1)
            (takes_join (any (symbol_token Open) ∷ []) (formula_text f.0.0 ++ any (symbol_token Comma) ∷ last) v.0.1 o.0.1 c.0.1 (symbol_sound Open v.0.1 o.0 o.1).0
            (takes_join (formula_text f.0.0) (any (symbol_token Comma) ∷ last) o.0.1 f.0.1 c.0.1 one.0
            (takes_join (any (symbol_token Comma) ∷ []) last f.0.1 m.0.1 c.0.1 (symbol_sound Comma f.0.1 m.0 m.1).0
            (takes_join (formula_text g.0.0) (any (symbol_token Close) ∷ []) m.0.1 g.0.1 c.0.1 two.0 (symbol_sound Close g.0.1 c.0 c.1).0)))),
      )
      (one.1, two.1))

  -- ---- viable

  -- some formula for what is not written yet
  abbrev something : (WrittenFormula temporal)
  something = some_formula temporal_grammar d

  abbrev its_tokens : Tokens
  its_tokens = some_tokens temporal_grammar d

  -- `0, 0)`
  abbrev zero_ends : Tokens
  zero_ends = zero_tokens ++ comma_zero

  -- the parts of an operator with an interval, one after the other
  ranged_spelled : (word : Ranged) (n : Identifier) (p : Place) → n ≡ ranged_word word → (v : Identifier × Place) (e : Ends) (f : (WrittenFormula temporal)) (h1 h2 h3 h4 : Tokens) → Spells (One name_part v) h1 → Spells (One (sym_part Open) tt) h2 → Spells (ends_text e) h3 → Spells (formula_text f) h4 → Spells (text_of temporal_grammar (other (over_range tt word (operator_at p v.0 v.1) e.0 e.1 f))) (name_at n p ∷ (h1 ++ (h2 ++ (h3 ++ h4))))
  ranged_spelled word n p is v e f h1 h2 h3 h4 s1 s2 s3 s4 =
      ((ap name_token is, refl), spells_join (One name_part v) (any (symbol_token Open) ∷ (ends_text e ++ formula_text f)) h1 (h2 ++ (h3 ++ h4)) s1 (spells_join (One (sym_part Open) tt) (ends_text e ++ formula_text f) h2 (h3 ++ h4) s2 (spells_join (ends_text e) (formula_text f) h3 h4 s3 s4)))

  -- the tokens before a fault of an operator with an interval begin one
  pub ranged_stops : (word : Ranged) (n : Identifier) (p : Place) → n ≡ ranged_word word → (us : Tokens) (e : Fault × Tokens) → length us < turns → range_rule word p us ≡ Err e → Stops (λ c x. LayerTexts temporal_grammar d c (name_at n p ∷ x)) us e
  unfolding ranged
  ranged_stops word n p is us e lt h =
      let R : Bool → Tokens → Type 0 = λ c x. LayerTexts temporal_grammar d c (name_at n p ∷ x) in
      let made : Identifier × Place → Ends → (WrittenFormula temporal) → Layer (WrittenFormula temporal) (OperatorOver temporal) = λ v i f. other (over_range tt word (operator_at p v.0 v.1) i.0 i.1 f) in
      let zero : Ends = (zero_integer, zero_integer) in
      let zeros : FitsEnds zero = (omega arith, omega arith) in
      sub_short name _ (One name_part) (λ v. Unit {0}) R us e (λ vs q k. (accept_sound _ name_part name_told vs q k, tt)) (accept_viable _ name_part (λ v. Unit {0}) name_stops us e) h
      (λ c v x spelled fit. (symbol_at Open ∷ (zero_ends ++ its_tokens), (made v zero something, always (FitsLayer temporal_grammar d (made v zero something)) c (zeros, some_fits temporal_grammar d), ranged_spelled word n p is v zero something x (symbol_at Open ∷ []) zero_ends its_tokens spelled (refl, refl) (refl, (refl, (refl, (refl, refl)))) (some_spelled temporal_grammar d))))
      (λ v h1 vs s1 f1 l1 d1. sub_short (expect Open) _ (One (sym_part Open)) (λ u. Unit {0}) (λ c x. R c (h1 ++ x)) vs e (symbol_sound Open) (symbol_viable Open vs e) d1
      (λ c u x spelled fit. (zero_ends ++ its_tokens, (made v zero something, always (FitsLayer temporal_grammar d (made v zero something)) c (zeros, some_fits temporal_grammar d), ranged_spelled word n p is v zero something h1 x zero_ends its_tokens s1 spelled (refl, (refl, (refl, (refl, refl)))) (some_spelled temporal_grammar d))))
      (λ u h2 ws s2 f2 l2 d2. sub_short written_ends _ ends_text FitsEnds (λ c x. R c (h1 ++ (h2 ++ x))) ws e ends_sound (ends_viable ws e) d2
      (λ c i x spelled fit. (its_tokens, (made v i something, fits_as (FitsEnds i) (FitsLayer temporal_grammar d (made v i something)) c (λ k. (k, some_fits temporal_grammar d)) fit, ranged_spelled word n p is v i something h1 h2 x its_tokens s1 s2 spelled (some_spelled temporal_grammar d))))
      (λ i h3 xs s3 f3 l3 d3. sub_short inner _ formula_text (FitsAt d) (λ c x. R c (h1 ++ (h2 ++ (h3 ++ x)))) xs e rules.sound (rules.viable xs e (omega arith)) d3
      (λ c f x spelled fit. ([], (made v i f, fits_as (FitsAt d f) (FitsLayer temporal_grammar d (made v i f)) c (λ k. (f3, k)) fit, ranged_spelled word n p is v i f h1 h2 h3 (x ++ []) s1 s2 s3 (subst (λ y. Spells (formula_text f) y) (sym (append-nil x)) spelled))))
      (λ f h4 ys s4 f4 l4 d4. absurd cc))))

  -- the parts of an operator over two formulas, one after the other
  paired_spelled : (word : Paired) (n : Identifier) (p : Place) → n ≡ paired_word word → (v : Identifier × Place) (f g : (WrittenFormula temporal)) (h1 h2 h3 h4 h5 h6 : Tokens) → Spells (One name_part v) h1 → Spells (One (sym_part Open) tt) h2 → Spells (formula_text f) h3 → Spells (One (sym_part Comma) tt) h4 → Spells (formula_text g) h5 → Spells (One (sym_part Close) tt) h6 → Spells (text_of temporal_grammar (other (over_pair tt word (operator_at p v.0 v.1) f g))) (name_at n p ∷ (h1 ++ (h2 ++ (h3 ++ (h4 ++ (h5 ++ h6))))))
  paired_spelled word n p is v f g h1 h2 h3 h4 h5 h6 s1 s2 s3 s4 s5 s6 =
      let last : List Part = formula_text g ++ any (symbol_token Close) ∷ [] in (
        (ap name_token is, refl),
        spells_join (One name_part v) (any (symbol_token Open) ∷ (formula_text f ++ any (symbol_token Comma) ∷ last)) h1 (h2 ++ (h3 ++ (h4 ++ (h5 ++ h6)))) s1
            (spells_join (One (sym_part Open) tt) (formula_text f ++ any (symbol_token Comma) ∷ last) h2 (h3 ++ (h4 ++ (h5 ++ h6))) s2
            (spells_join (formula_text f) (any (symbol_token Comma) ∷ last) h3 (h4 ++ (h5 ++ h6)) s3
            (spells_join (One (sym_part Comma) tt) last h4 (h5 ++ h6) s4 (spells_join (formula_text g) (any (symbol_token Close) ∷ []) h5 h6 s5 s6)))),
      )

  -- the tokens before a fault of an operator over two formulas begin one
  pub paired_stops : (word : Paired) (n : Identifier) (p : Place) → n ≡ paired_word word → (us : Tokens) (e : Fault × Tokens) → length us < turns → pair_rule word p us ≡ Err e → Stops (λ c x. LayerTexts temporal_grammar d c (name_at n p ∷ x)) us e
  unfolding paired
  paired_stops word n p is us e lt h =
      let R : Bool → Tokens → Type 0 = λ c x. LayerTexts temporal_grammar d c (name_at n p ∷ x) in
      let made : Identifier × Place → (WrittenFormula temporal) → (WrittenFormula temporal) → Layer (WrittenFormula temporal) (OperatorOver temporal) = λ v f g. other (over_pair tt word (operator_at p v.0 v.1) f g) in
      let some : FitsAt d something = some_fits temporal_grammar d in
      let spelled_some : Spells (formula_text something) its_tokens = some_spelled temporal_grammar d in
      let close : Tokens = symbol_at Close ∷ [] in
      let comma : Tokens = symbol_at Comma ∷ [] in
      sub_short name _ (One name_part) (λ v. Unit {0}) R us e (λ vs q k. (accept_sound _ name_part name_told vs q k, tt)) (accept_viable _ name_part (λ v. Unit {0}) name_stops us e) h
      (λ c v x spelled fit. (symbol_at Open ∷ (its_tokens ++ (comma ++ (its_tokens ++ close))), (made v something something, always (FitsLayer temporal_grammar d (made v something something)) c (some, some), paired_spelled word n p is v something something x (symbol_at Open ∷ []) its_tokens comma its_tokens close spelled (refl, refl) spelled_some (refl, refl) spelled_some (refl, refl))))
      (λ v h1 vs s1 f1 l1 d1. sub_short (expect Open) _ (One (sym_part Open)) (λ u. Unit {0}) (λ c x. R c (h1 ++ x)) vs e (symbol_sound Open) (symbol_viable Open vs e) d1
      (λ c u x spelled fit. (its_tokens ++ (comma ++ (its_tokens ++ close)), (made v something something, always (FitsLayer temporal_grammar d (made v something something)) c (some, some), paired_spelled word n p is v something something h1 x its_tokens comma its_tokens close s1 spelled spelled_some (refl, refl) spelled_some (refl, refl))))
      (λ u h2 ws s2 f2 l2 d2. sub_short inner _ formula_text (FitsAt d) (λ c x. R c (h1 ++ (h2 ++ x))) ws e rules.sound (rules.viable ws e (omega arith)) d2
      (λ c f x spelled fit. (comma ++ (its_tokens ++ close), (made v f something, fits_as (FitsAt d f) (FitsLayer temporal_grammar d (made v f something)) c (λ k. (k, some)) fit, paired_spelled word n p is v f something h1 h2 x comma its_tokens close s1 s2 spelled (refl, refl) spelled_some (refl, refl))))
      (λ f h3 xs s3 f3 l3 d3. sub_short (expect Comma) _ (One (sym_part Comma)) (λ u. Unit {0}) (λ c x. R c (h1 ++ (h2 ++ (h3 ++ x)))) xs e (symbol_sound Comma) (symbol_viable Comma xs e) d3
      (λ c u x spelled fit. (its_tokens ++ close, (made v f something, always (FitsLayer temporal_grammar d (made v f something)) c (f3, some), paired_spelled word n p is v f something h1 h2 h3 x its_tokens close s1 s2 s3 spelled spelled_some (refl, refl))))
      (λ u h4 ys s4 f4 l4 d4. sub_short inner _ formula_text (FitsAt d) (λ c x. R c (h1 ++ (h2 ++ (h3 ++ (h4 ++ x))))) ys e rules.sound (rules.viable ys e (omega arith)) d4
      (λ c g x spelled fit. (close, (made v f g, fits_as (FitsAt d g) (FitsLayer temporal_grammar d (made v f g)) c (λ k. (f3, k)) fit, paired_spelled word n p is v f g h1 h2 h3 h4 x close s1 s2 s3 s4 spelled (refl, refl))))
      (λ g h5 zs s5 f5 l5 d5. sub_short (expect Close) _ (One (sym_part Close)) (λ u. Unit {0}) (λ c x. R c (h1 ++ (h2 ++ (h3 ++ (h4 ++ (h5 ++ x)))))) zs e (symbol_sound Close) (symbol_viable Close zs e) d5
      (λ c u x spelled fit. ([], (made v f g, always (FitsLayer temporal_grammar d (made v f g)) c (f3, f5), paired_spelled word n p is v f g h1 h2 h3 h4 h5 (x ++ []) s1 s2 s3 s4 s5 (subst (λ y. Spells (One (sym_part Close) tt) y) (sym (append-nil x)) spelled))))
      (λ u h6 rs s6 f6 l6 d6. absurd cc))))))
