-- The rule for formulas over others: sound where the rule of the others is.
use Rattle.std.proofs.Common.{◌≡◌, ℕ, suc, Bool, true, false, List, [], ◌∷◌, ◌++◌, refl, ap, sym, ◌∙◌, subst, Ok, if◌then◌else◌}
use Rattle.lrp_model.specs.declared.tokens.Symbol.TheVariants.{Open, Close}
use Rattle.lrp_model.specs.declared.tokens.Word.TheVariants.{Exists, Forall, Not, And, Or, Implies}
use Rattle.lrp_model.specs.declared.tokens.Place.{Place}
use Rattle.lrp_model.specs.Tokens.{Token, Placed, Tokens, Part, Takes, separated}
use Rattle.lrp_model.specs.Tokens.Token.{name_token, word_token, symbol_token, hole_token}
use Rattle.lrp_model.specs.Tokens.Part.{any}
use Rattle.lrp_model.specs.Columns.{column_text}
use Rattle.lrp_model.specs.Texts.{Identifier}
use Rattle.lrp_text.specs.Parsers.{Parser, ◌>>=◌, pure, accept, look, eat, separated_from}
use Rattle.lrp_text.specs.Taking.{is_word, expect}
use Rattle.lrp_text.specs.ColumnRule.{column}
use Rattle.lrp_text.proofs.Sound.{Sound, bind_ok, eat_sound, eaten_parts, takes_join, separated_sound}
use Rattle.lrp_text.proofs.TokenTests.{word_told}
use Rattle.lrp_text.proofs.ColumnRule.{column_sound}
use Rattle.lrp_text.specs.IntegerRule.{integer}
use Rattle.lrp_query.specs.Rules.{unnamed_term, unnamed, named, negated, existing, holding, implying, conjoined, disjoined, after_first, enclosed, formula_over}
use Rattle.lrp_query.proofs.Layers.{denied, all_of, any_of, implied, group, some, every, many_members, Grammar, trees, IsFormula, read_layer, AfterRules}
use Rattle.lrp_query.proofs.TestRules.{symbol_sound, unnamed_sound}

module _ {F X Q : Type 0} (grammar : Grammar F X Q) (inner : Parser F) (after_it : Identifier → Place → Parser F) (d turns : ℕ) (after : AfterRules grammar d turns after_it) (inner_sound : Sound inner grammar.text (grammar.Fits d)) where
  -- a parenthesis at its place
  abbrev opening : Place → Placed
  opening p = record { token = symbol_token Open; place = p }

  -- after `implies`
  implying_sound : (p : Place) (f : F) (us vs ws : Tokens) (q : F × Tokens) → Takes (grammar.text f) us vs → grammar.Fits d f → Takes (any (word_token Implies) ∷ []) vs ws → implying (trees grammar) inner p f ws ≡ Ok q → IsFormula grammar (suc d) (opening p ∷ us) q
  unfolding implying
  implying_sound p f us vs ws q one fit eaten e =
      let g = bind_ok (inner ws) _ q e in
      let c = bind_ok (expect Close g.0.1) _ q g.2 in
      let h : (grammar.roll (implied p f g.0.0), c.0.1) ≡ q = cc in
      let read = inner_sound ws g.0 g.1 in
      let rest : List Part = grammar.text g.0.0 ++ any (symbol_token Close) ∷ [] in
      subst (λ y. IsFormula grammar (suc d) (opening p ∷ us) y) h (read_layer grammar d (implied p f g.0.0) (opening p ∷ us) c.0.1 (
        (refl, refl),
        takes_join (grammar.text f) (any (word_token Implies) ∷ rest) us vs c.0.1 one
            (takes_join (any (word_token Implies) ∷ []) rest vs ws c.0.1 eaten
            (takes_join (grammar.text g.0.0) (any (symbol_token Close) ∷ []) ws g.0.1 c.0.1 read.0 (symbol_sound Close g.0.1 c.0 c.1).0)),
      )
      (fit, read.1))

  -- after `and`
  conjoined_sound : (p : Place) (f : F) (us vs ws : Tokens) (q : F × Tokens) → Takes (grammar.text f) us vs → grammar.Fits d f → Takes (any (word_token And) ∷ []) vs ws → conjoined (trees grammar) inner turns p f ws ≡ Ok q → IsFormula grammar (suc d) (opening p ∷ us) q
  unfolding conjoined
  conjoined_sound p f us vs ws q one fit eaten e =
      let fs = bind_ok (separated_from inner (is_word And) turns (f ∷ []) ws) _ q e in
      let c = bind_ok (expect Close fs.0.1) _ q fs.2 in
      let s = separated_sound inner grammar.text (grammar.Fits d) (any (word_token And)) (is_word And) (word_told And) inner_sound turns (f ∷ []) ws fs.0 fs.1 in
      let made : (grammar.roll (many_members all_of p fs.0.0), c.0.1) ≡ q = cc in
      let h : (grammar.roll (all_of p f s.0 s.1), c.0.1) ≡ q = ap (λ l. (grammar.roll (many_members all_of p l), c.0.1)) (sym s.2) ∙ made in
      let text : List Part = separated (any (word_token And)) grammar.text (s.0 ∷ s.1) in
      subst (λ y. IsFormula grammar (suc d) (opening p ∷ us) y) h (read_layer grammar d (all_of p f s.0 s.1) (opening p ∷ us) c.0.1 (
        (refl, refl),
        takes_join (grammar.text f) (any (word_token And) ∷ (text ++ any (symbol_token Close) ∷ [])) us vs c.0.1 one
            (takes_join (any (word_token And) ∷ []) (text ++ any (symbol_token Close) ∷ []) vs ws c.0.1 eaten
            (takes_join text (any (symbol_token Close) ∷ []) ws fs.0.1 c.0.1 s.3 (symbol_sound Close fs.0.1 c.0 c.1).0)),
      )
      (fit, s.4))

  -- after `or`
  disjoined_sound : (p : Place) (f : F) (us vs ws : Tokens) (q : F × Tokens) → Takes (grammar.text f) us vs → grammar.Fits d f → Takes (any (word_token Or) ∷ []) vs ws → disjoined (trees grammar) inner turns p f ws ≡ Ok q → IsFormula grammar (suc d) (opening p ∷ us) q
  unfolding disjoined
  disjoined_sound p f us vs ws q one fit eaten e =
      let fs = bind_ok (separated_from inner (is_word Or) turns (f ∷ []) ws) _ q e in
      let c = bind_ok (expect Close fs.0.1) _ q fs.2 in
      let s = separated_sound inner grammar.text (grammar.Fits d) (any (word_token Or)) (is_word Or) (word_told Or) inner_sound turns (f ∷ []) ws fs.0 fs.1 in
      let made : (grammar.roll (many_members any_of p fs.0.0), c.0.1) ≡ q = cc in
      let h : (grammar.roll (any_of p f s.0 s.1), c.0.1) ≡ q = ap (λ l. (grammar.roll (many_members any_of p l), c.0.1)) (sym s.2) ∙ made in
      let text : List Part = separated (any (word_token Or)) grammar.text (s.0 ∷ s.1) in
      subst (λ y. IsFormula grammar (suc d) (opening p ∷ us) y) h (read_layer grammar d (any_of p f s.0 s.1) (opening p ∷ us) c.0.1 (
        (refl, refl),
        takes_join (grammar.text f) (any (word_token Or) ∷ (text ++ any (symbol_token Close) ∷ [])) us vs c.0.1 one
            (takes_join (any (word_token Or) ∷ []) (text ++ any (symbol_token Close) ∷ []) vs ws c.0.1 eaten
            (takes_join text (any (symbol_token Close) ∷ []) ws fs.0.1 c.0.1 s.3 (symbol_sound Close fs.0.1 c.0 c.1).0)),
      )
      (fit, s.4))

  -- a parenthesis that closes, or none of the words
  group_sound : (p : Place) (f : F) (us vs : Tokens) (q : F × Tokens) → Takes (grammar.text f) us vs → grammar.Fits d f → (expect Close >>= (λ u. pure (grammar.roll (group p f)))) vs ≡ Ok q → IsFormula grammar (suc d) (opening p ∷ us) q
  group_sound p f us vs q one fit e =
      let c = bind_ok (expect Close vs) _ q e in
      let h : (grammar.roll (group p f), c.0.1) ≡ q = cc in
      subst (λ y. IsFormula grammar (suc d) (opening p ∷ us) y) h (read_layer grammar d (group p f) (opening p ∷ us) c.0.1 ((refl, refl), takes_join (grammar.text f) (any (symbol_token Close) ∷ []) us vs c.0.1 one (symbol_sound Close vs c.0 c.1).0) fit)

  -- after a formula, with `or` or without
  or_sound : (p : Place) (f : F) (ors : Bool) (us vs ws : Tokens) (q : F × Tokens) → Takes (grammar.text f) us vs → grammar.Fits d f → Takes (eaten_parts (any (word_token Or)) ors) vs ws → (if ors then disjoined (trees grammar) inner turns p f else (expect Close >>= (λ u. pure (grammar.roll (group p f))))) ws ≡ Ok q → IsFormula grammar (suc d) (opening p ∷ us) q
  or_sound p f true us vs ws q one fit eaten e = disjoined_sound p f us vs ws q one fit eaten e
  or_sound p f false us vs ws q one fit eaten e = group_sound p f us ws q (subst (λ x. Takes (grammar.text f) us x) eaten one) fit e

  -- with `and` or without
  and_sound : (p : Place) (f : F) (ands : Bool) (us vs ws : Tokens) (q : F × Tokens) → Takes (grammar.text f) us vs → grammar.Fits d f → Takes (eaten_parts (any (word_token And)) ands) vs ws → (if ands then conjoined (trees grammar) inner turns p f else (eat (is_word Or) >>= (λ ors. if ors then disjoined (trees grammar) inner turns p f else (expect Close >>= (λ u. pure (grammar.roll (group p f))))))) ws ≡ Ok q → IsFormula grammar (suc d) (opening p ∷ us) q
  and_sound p f true us vs ws q one fit eaten e = conjoined_sound p f us vs ws q one fit eaten e
  and_sound p f false us vs ws q one fit eaten e =
      let o = bind_ok (eat (is_word Or) ws) _ q e in
      or_sound p f o.0.0 us ws o.0.1 q (subst (λ x. Takes (grammar.text f) us x) eaten one) fit (eat_sound (is_word Or) (any (word_token Or)) (word_told Or) ws o.0 o.1) o.2

  -- with `implies` or without
  implies_sound : (p : Place) (f : F) (implies : Bool) (us vs ws : Tokens) (q : F × Tokens) → Takes (grammar.text f) us vs → grammar.Fits d f → Takes (eaten_parts (any (word_token Implies)) implies) vs ws → (if implies then implying (trees grammar) inner p f else (eat (is_word And) >>= (λ ands. if ands then conjoined (trees grammar) inner turns p f else (eat (is_word Or) >>= (λ ors. if ors then disjoined (trees grammar) inner turns p f else (expect Close >>= (λ u. pure (grammar.roll (group p f))))))))) ws ≡ Ok q → IsFormula grammar (suc d) (opening p ∷ us) q
  implies_sound p f true us vs ws q one fit eaten e = implying_sound p f us vs ws q one fit eaten e
  implies_sound p f false us vs ws q one fit eaten e =
      let o = bind_ok (eat (is_word And) ws) _ q e in
      and_sound p f o.0.0 us ws o.0.1 q (subst (λ x. Takes (grammar.text f) us x) eaten one) fit (eat_sound (is_word And) (any (word_token And)) (word_told And) ws o.0 o.1) o.2

  -- after a parenthesis
  enclosed_sound : (p : Place) (us : Tokens) (q : F × Tokens) → enclosed (trees grammar) inner turns p (opening p ∷ us) ≡ Ok q → IsFormula grammar (suc d) (opening p ∷ us) q
  unfolding enclosed after_first accept
  enclosed_sound p us q e =
      let f = bind_ok (inner us) _ q e in
      let i = bind_ok (eat (is_word Implies) f.0.1) _ q f.2 in
      let read = inner_sound us f.0 f.1 in
      implies_sound p f.0.0 i.0.0 us f.0.1 i.0.1 q read.0 read.1 (eat_sound (is_word Implies) (any (word_token Implies)) (word_told Implies) f.0.1 i.0 i.1) i.2

  -- after `not`
  negated_sound : (p : Place) (us : Tokens) (q : F × Tokens) → negated (trees grammar) inner p (record { token = word_token Not; place = p } ∷ us) ≡ Ok q → IsFormula grammar (suc d) (record { token = word_token Not; place = p } ∷ us) q
  unfolding negated accept
  negated_sound p us q e =
      let f = bind_ok (inner us) _ q e in
      let h : (grammar.roll (denied p f.0.0), f.0.1) ≡ q = cc in
      let read = inner_sound us f.0 f.1 in
      subst (λ y. IsFormula grammar (suc d) (record { token = word_token Not; place = p } ∷ us) y) h (read_layer grammar d (denied p f.0.0) (record { token = word_token Not; place = p } ∷ us) f.0.1 ((refl, refl), read.0) read.1)

  -- after `exists`
  existing_sound : (p : Place) (us : Tokens) (q : F × Tokens) → existing (trees grammar) inner p (record { token = word_token Exists; place = p } ∷ us) ≡ Ok q → IsFormula grammar (suc d) (record { token = word_token Exists; place = p } ∷ us) q
  unfolding existing accept
  existing_sound p us q e =
      let c = bind_ok (column us) _ q e in
      let f = bind_ok (inner c.0.1) _ q c.2 in
      let h : (grammar.roll (some p c.0.0 f.0.0), f.0.1) ≡ q = cc in
      let read = inner_sound c.0.1 f.0 f.1 in
      subst (λ y. IsFormula grammar (suc d) (record { token = word_token Exists; place = p } ∷ us) y) h (read_layer grammar d (some p c.0.0 f.0.0) (record { token = word_token Exists; place = p } ∷ us) f.0.1 ((refl, refl), takes_join (column_text c.0.0) (grammar.text f.0.0) us c.0.1 f.0.1 (column_sound us c.0 c.1).0 read.0) read.1)

  -- after `forall`
  holding_sound : (p : Place) (us : Tokens) (q : F × Tokens) → holding (trees grammar) inner p (record { token = word_token Forall; place = p } ∷ us) ≡ Ok q → IsFormula grammar (suc d) (record { token = word_token Forall; place = p } ∷ us) q
  unfolding holding accept
  holding_sound p us q e =
      let c = bind_ok (column us) _ q e in
      let f = bind_ok (inner c.0.1) _ q c.2 in
      let h : (grammar.roll (every p c.0.0 f.0.0), f.0.1) ≡ q = cc in
      let read = inner_sound c.0.1 f.0 f.1 in
      subst (λ y. IsFormula grammar (suc d) (record { token = word_token Forall; place = p } ∷ us) y) h (read_layer grammar d (every p c.0.0 f.0.0) (record { token = word_token Forall; place = p } ∷ us) f.0.1 ((refl, refl), takes_join (column_text c.0.0) (grammar.text f.0.0) us c.0.1 f.0.1 (column_sound us c.0 c.1).0 read.0) read.1)

  -- a formula by its first token
  token_sound : (k : Token) (p : Place) (us : Tokens) (q : F × Tokens) → formula_over (trees grammar) after_it inner turns (record { token = k; place = p } ∷ us) ≡ Ok q → IsFormula grammar (suc d) (record { token = k; place = p } ∷ us) q
  unfolding formula_over look named accept
  token_sound hole_token p us q e = absurd cc
  token_sound (word_token Not) p us q e = negated_sound p us q e
  token_sound (word_token Exists) p us q e = existing_sound p us q e
  token_sound (word_token Forall) p us q e = holding_sound p us q e
  token_sound (symbol_token Open) p us q e = enclosed_sound p us q e
  token_sound (name_token n) p us q e = after.sound n p us q e
  token_sound k p us q e = unnamed_sound grammar d (record { token = k; place = p }) us q e

  -- a formula whose inner ones are spelled so is spelled so, and lawful
  pub over_sound : Sound (formula_over (trees grammar) after_it inner turns) grammar.text (grammar.Fits (suc d))
  unfolding formula_over look unnamed unnamed_term integer eat accept
  over_sound [] q e = absurd cc
  over_sound (t ∷ us) q e = token_sound t.token t.place us q e
