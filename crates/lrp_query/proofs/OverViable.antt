-- The rule for formulas over others: viable where the rule of the others is.
use Rattle.std.proofs.Common.{◌≡◌, inl, inr, ◌<◌, ℕ, suc, Bool, List, [], ◌∷◌, ◌++◌, refl, sym, subst, Err, length, append-nil, arith}
use Rattle.std.specs.List.{AllByRecursion}
use Rattle.lrp_model.specs.declared.tokens.Symbol.TheVariants.{Open, Close}
use Rattle.lrp_model.specs.declared.tokens.Word.TheVariants.{Exists, Forall, Not, And, Or, Implies}
use Rattle.lrp_model.specs.declared.tokens.Fault.{Fault}
use Rattle.lrp_model.specs.declared.tokens.Fault.TheVariants.{Syntax, Deep}
use Rattle.lrp_model.specs.declared.tokens.Place.{Place}
use Rattle.lrp_model.specs.Tokens.{Token, Placed, Tokens, IsPart, Spells, separated}
use Rattle.lrp_model.specs.Tokens.Token.{name_token, word_token, symbol_token, hole_token}
use Rattle.lrp_model.specs.Tokens.Part.{any}
use Rattle.lrp_model.specs.Columns.{column_text}
use Rattle.lrp_model.specs.Refused.{Stops}
use Rattle.lrp_model.specs.Texts.{Identifier}
use Rattle.lrp_text.specs.Parsers.{Parser, accept, look, eat, separated_from}
use Rattle.lrp_text.specs.Taking.{is_word, expect}
use Rattle.lrp_text.specs.ColumnRule.{column}
use Rattle.lrp_text.proofs.Sound.{Sound, takes_front, separated_sound}
use Rattle.lrp_text.proofs.Viable.{ViableBelow, One, SomeText, bind_err, after_front, before, at_once, sub_short, eat_short, spells_join, always, fits_as}
use Rattle.lrp_text.proofs.TokenTests.{word_told}
use Rattle.lrp_text.proofs.ColumnRule.{column_sound, column_viable}
use Rattle.lrp_text.specs.IntegerRule.{integer}
use Rattle.lrp_query.specs.Rules.{unnamed_term, unnamed, named, negated, existing, holding, implying, conjoined, disjoined, after_first, enclosed, formula_over}
use Rattle.lrp_query.proofs.Layers.{denied, all_of, any_of, implied, group, some, every, hole, Grammar, trees, text_of, FitsLayer, LayerTexts, FormulaTexts, rolled_stops, AfterRules}
use Rattle.lrp_query.proofs.Below.{separated_stops}
use Rattle.lrp_query.proofs.TestRules.{sym_part, symbol_sound, symbol_viable, symbol_at, unnamed_stops}
use Rattle.lrp_query.proofs.OverRules.{some_formula, some_tokens, some_spelled, some_fits, spelled_as}

-- the token that closes
abbrev close : Tokens
close = symbol_at Close ∷ []

module _ {F X Q : Type 0} (grammar : Grammar F X Q) (inner : Parser F) (after_it : Identifier → Place → Parser F) (d turns : ℕ) (after : AfterRules grammar d turns after_it) (inner_sound : Sound inner grammar.text (grammar.Fits d)) (inner_viable : ViableBelow turns inner grammar.text (grammar.Fits d)) where
  -- a parenthesis at its place
  abbrev opening : Place → Placed
  opening p = record { token = symbol_token Open; place = p }

  -- after a parenthesis and a formula
  abbrev After : Place → Tokens → Bool → Tokens → Type 0
  After p head c x = LayerTexts grammar d c (opening p ∷ (head ++ x))

  -- after `implies`
  implying_stops : (p : Place) (f : F) (head : Tokens) (t : Placed) (ws : Tokens) (e : Fault × Tokens) → Spells (grammar.text f) head → grammar.Fits d f → IsPart (any (word_token Implies)) t → length ws < turns → implying (trees grammar) inner p f ws ≡ Err e → Stops (λ c x. After p head c (t ∷ x)) ws e
  unfolding implying
  implying_stops p f head t ws e one fit is lt h =
      let R : Bool → Tokens → Type 0 = λ c x. After p head c (t ∷ x) in
      let spell : (g : F) (x y : Tokens) → Spells (grammar.text g) x → Spells (any (symbol_token Close) ∷ []) y → Spells (text_of grammar (implied p f g)) (opening p ∷ (head ++ t ∷ (x ++ y))) = λ g x y s c. ((refl, refl), spells_join (grammar.text f) (any (word_token Implies) ∷ (grammar.text g ++ any (symbol_token Close) ∷ [])) head (t ∷ (x ++ y)) one (is, spells_join (grammar.text g) (any (symbol_token Close) ∷ []) x y s c)) in
      sub_short inner _ grammar.text (grammar.Fits d) R ws e inner_sound (inner_viable ws e lt) h
      (λ c g x spelled fits. (close, (implied p f g, fits_as (grammar.Fits d g) (FitsLayer grammar d (implied p f g)) c (λ k. (fit, k)) fits, spell g x close spelled (refl, refl))))
      (λ g h1 xs s1 f1 l1 d1. sub_short (expect Close) _ (One (sym_part Close)) (λ u. Unit {0}) (λ c x. R c (h1 ++ x)) xs e (symbol_sound Close) (symbol_viable Close xs e) d1
      (λ c u x spelled fits. ([], (implied p f g, always (FitsLayer grammar d (implied p f g)) c (fit, f1), spell g h1 (x ++ []) s1 (subst (λ y. Spells (One (sym_part Close) u) y) (sym (append-nil x)) spelled))))
      (λ u h2 ys s2 f2 l2 d2. absurd cc))

  -- after `and`
  conjoined_stops : (p : Place) (f : F) (head : Tokens) (t : Placed) (ws : Tokens) (e : Fault × Tokens) → Spells (grammar.text f) head → grammar.Fits d f → IsPart (any (word_token And)) t → length ws < turns → conjoined (trees grammar) inner turns p f ws ≡ Err e → Stops (λ c x. After p head c (t ∷ x)) ws e
  unfolding conjoined
  conjoined_stops p f head t ws e one fit is lt h =
      let R : Bool → Tokens → Type 0 = λ c x. After p head c (t ∷ x) in
      let Some : Bool → Tokens → Type 0 = SomeText (any (word_token And)) grammar.text (grammar.Fits d) in
      let spell : (g : F) (gs : List F) (x y : Tokens) → Spells (separated (any (word_token And)) grammar.text (g ∷ gs)) x → Spells (any (symbol_token Close) ∷ []) y → Spells (text_of grammar (all_of p f g gs)) (opening p ∷ (head ++ t ∷ (x ++ y))) = λ g gs x y s c.
      ((refl, refl), spells_join (grammar.text f) (any (word_token And) ∷ (separated (any (word_token And)) grammar.text (g ∷ gs) ++ any (symbol_token Close) ∷ [])) head (t ∷ (x ++ y)) one (is, spells_join (separated (any (word_token And)) grammar.text (g ∷ gs)) (any (symbol_token Close) ∷ []) x y s c)) in
      elim (bind_err (separated_from inner (is_word And) turns (f ∷ []) ws) _ e h) [
        | inl k ↦
            before Some R ws e (λ c x s. (close, (all_of p f s.0 s.1, fits_as (AllByRecursion (grammar.Fits d) (s.0 ∷ s.1)) (FitsLayer grammar d (all_of p f s.0 s.1)) c (λ a. (fit, a)) s.2, spell s.0 s.1 x close s.3 (refl, refl))))
            (separated_stops inner grammar.text (grammar.Fits d) (any (word_token And)) (is_word And) turns (word_told And) inner_sound inner_viable turns (f ∷ []) ws e lt lt k)
        | inr fs ↦
            let s = separated_sound inner grammar.text (grammar.Fits d) (any (word_token And)) (is_word And) (word_told And) inner_sound turns (f ∷ []) ws fs.0 fs.1 in
            let front = takes_front (separated (any (word_token And)) grammar.text (s.0 ∷ s.1)) ws fs.0.1 s.3 in
            after_front (λ c x. R c (front.head ++ x)) R front.head ws fs.0.1 e front.whole (λ c x r. r)
            (sub_short (expect Close) _ (One (sym_part Close)) (λ u. Unit {0}) (λ c x. R c (front.head ++ x)) fs.0.1 e (symbol_sound Close) (symbol_viable Close fs.0.1 e) fs.2
            (λ c u x spelled fits. ([], (all_of p f s.0 s.1, always (FitsLayer grammar d (all_of p f s.0 s.1)) c (fit, s.4), spell s.0 s.1 front.head (x ++ []) front.spelled (subst (λ y. Spells (One (sym_part Close) u) y) (sym (append-nil x)) spelled))))
            (λ u h2 ys s2 f2 l2 d2. absurd cc))
      ]

  -- after `or`
  disjoined_stops : (p : Place) (f : F) (head : Tokens) (t : Placed) (ws : Tokens) (e : Fault × Tokens) → Spells (grammar.text f) head → grammar.Fits d f → IsPart (any (word_token Or)) t → length ws < turns → disjoined (trees grammar) inner turns p f ws ≡ Err e → Stops (λ c x. After p head c (t ∷ x)) ws e
  unfolding disjoined
  disjoined_stops p f head t ws e one fit is lt h =
      let R : Bool → Tokens → Type 0 = λ c x. After p head c (t ∷ x) in
      let Some : Bool → Tokens → Type 0 = SomeText (any (word_token Or)) grammar.text (grammar.Fits d) in
      let spell : (g : F) (gs : List F) (x y : Tokens) → Spells (separated (any (word_token Or)) grammar.text (g ∷ gs)) x → Spells (any (symbol_token Close) ∷ []) y → Spells (text_of grammar (any_of p f g gs)) (opening p ∷ (head ++ t ∷ (x ++ y))) = λ g gs x y s c.
      ((refl, refl), spells_join (grammar.text f) (any (word_token Or) ∷ (separated (any (word_token Or)) grammar.text (g ∷ gs) ++ any (symbol_token Close) ∷ [])) head (t ∷ (x ++ y)) one (is, spells_join (separated (any (word_token Or)) grammar.text (g ∷ gs)) (any (symbol_token Close) ∷ []) x y s c)) in
      elim (bind_err (separated_from inner (is_word Or) turns (f ∷ []) ws) _ e h) [
        | inl k ↦
            before Some R ws e (λ c x s. (close, (any_of p f s.0 s.1, fits_as (AllByRecursion (grammar.Fits d) (s.0 ∷ s.1)) (FitsLayer grammar d (any_of p f s.0 s.1)) c (λ a. (fit, a)) s.2, spell s.0 s.1 x close s.3 (refl, refl))))
            (separated_stops inner grammar.text (grammar.Fits d) (any (word_token Or)) (is_word Or) turns (word_told Or) inner_sound inner_viable turns (f ∷ []) ws e lt lt k)
        | inr fs ↦
            let s = separated_sound inner grammar.text (grammar.Fits d) (any (word_token Or)) (is_word Or) (word_told Or) inner_sound turns (f ∷ []) ws fs.0 fs.1 in
            let front = takes_front (separated (any (word_token Or)) grammar.text (s.0 ∷ s.1)) ws fs.0.1 s.3 in
            after_front (λ c x. R c (front.head ++ x)) R front.head ws fs.0.1 e front.whole (λ c x r. r)
            (sub_short (expect Close) _ (One (sym_part Close)) (λ u. Unit {0}) (λ c x. R c (front.head ++ x)) fs.0.1 e (symbol_sound Close) (symbol_viable Close fs.0.1 e) fs.2
            (λ c u x spelled fits. ([], (any_of p f s.0 s.1, always (FitsLayer grammar d (any_of p f s.0 s.1)) c (fit, s.4), spell s.0 s.1 front.head (x ++ []) front.spelled (subst (λ y. Spells (One (sym_part Close) u) y) (sym (append-nil x)) spelled))))
            (λ u h2 ys s2 f2 l2 d2. absurd cc))
      ]

  -- after a formula in parentheses
  after_stops : (p : Place) (f : F) (head vs : Tokens) (e : Fault × Tokens) → Spells (grammar.text f) head → grammar.Fits d f → length vs < turns → after_first (trees grammar) inner turns p f vs ≡ Err e → Stops (After p head) vs e
  unfolding after_first
  after_stops p f head vs e one fit lt h =
      eat_short (is_word Implies) _ (After p head) vs e h
      (λ t ws told less k. implying_stops p f head t ws e one fit (word_told Implies t told) (omega arith) k)
      (λ a. eat_short (is_word And) _ (After p head) vs e a
      (λ t ws told less k. conjoined_stops p f head t ws e one fit (word_told And t told) (omega arith) k)
      (λ b. eat_short (is_word Or) _ (After p head) vs e b
      (λ t ws told less k. disjoined_stops p f head t ws e one fit (word_told Or t told) (omega arith) k)
      (λ k. sub_short (expect Close) _ (One (sym_part Close)) (λ u. Unit {0}) (After p head) vs e (symbol_sound Close) (symbol_viable Close vs e) k
      (λ c u x spelled fits. ([], (group p f, always (FitsLayer grammar d (group p f)) c fit, ((refl, refl), spells_join (grammar.text f) (any (symbol_token Close) ∷ []) head (x ++ []) one (subst (λ y. Spells (One (sym_part Close) u) y) (sym (append-nil x)) spelled)))))
      (λ u h2 ys s2 f2 l2 d2. absurd cc))))

  -- after a parenthesis
  enclosed_stops : (p : Place) (us : Tokens) (e : Fault × Tokens) → length us < turns → enclosed (trees grammar) inner turns p (opening p ∷ us) ≡ Err e → Stops (LayerTexts grammar d) (opening p ∷ us) e
  unfolding enclosed accept
  enclosed_stops p us e lt h =
      let R : Bool → Tokens → Type 0 = λ c x. LayerTexts grammar d c (opening p ∷ x) in
      after_front R (LayerTexts grammar d) (opening p ∷ []) (opening p ∷ us) us e refl (λ c x r. r)
      (sub_short inner _ grammar.text (grammar.Fits d) R us e inner_sound (inner_viable us e lt) h
      (λ c f x spelled fits. (close, (group p f, fits, ((refl, refl), spells_join (grammar.text f) (any (symbol_token Close) ∷ []) x close spelled (refl, refl)))))
      (λ f h1 vs s1 f1 l1 d1. after_stops p f h1 vs e s1 f1 (omega arith) d1))

  -- after `not`
  negated_stops : (p : Place) (us : Tokens) (e : Fault × Tokens) → length us < turns → negated (trees grammar) inner p (record { token = word_token Not; place = p } ∷ us) ≡ Err e → Stops (LayerTexts grammar d) (record { token = word_token Not; place = p } ∷ us) e
  unfolding negated accept
  negated_stops p us e lt h =
      let t : Placed = record { token = word_token Not; place = p } in
      let R : Bool → Tokens → Type 0 = λ c x. LayerTexts grammar d c (t ∷ x) in
      after_front R (LayerTexts grammar d) (t ∷ []) (t ∷ us) us e refl (λ c x r. r)
      (sub_short inner _ grammar.text (grammar.Fits d) R us e inner_sound (inner_viable us e lt) h
      (λ c f x spelled fits. ([], (denied p f, fits, ((refl, refl), subst (λ y. Spells (grammar.text f) y) (sym (append-nil x)) spelled))))
      (λ f h1 vs s1 f1 l1 d1. absurd cc))

  -- after `exists`
  existing_stops : (p : Place) (us : Tokens) (e : Fault × Tokens) → length us < turns → existing (trees grammar) inner p (record { token = word_token Exists; place = p } ∷ us) ≡ Err e → Stops (LayerTexts grammar d) (record { token = word_token Exists; place = p } ∷ us) e
  unfolding existing accept
  existing_stops p us e lt h =
      let t : Placed = record { token = word_token Exists; place = p } in
      let R : Bool → Tokens → Type 0 = λ c x. LayerTexts grammar d c (t ∷ x) in
      after_front R (LayerTexts grammar d) (t ∷ []) (t ∷ us) us e refl (λ c x r. r)
      (sub_short column _ column_text (λ k. Unit {0}) R us e column_sound (column_viable us e) h
      (λ c k x spelled fits. (some_tokens grammar d, (some p k (some_formula grammar d), always (grammar.Fits d (some_formula grammar d)) c (some_fits grammar d), ((refl, refl), spells_join (column_text k) (grammar.text (some_formula grammar d)) x (some_tokens grammar d) spelled (some_spelled grammar d)))))
      (λ k h1 vs s1 f1 l1 d1. sub_short inner _ grammar.text (grammar.Fits d) (λ c x. R c (h1 ++ x)) vs e inner_sound (inner_viable vs e (omega arith)) d1
      (λ c f x spelled fits. ([], (some p k f, fits, ((refl, refl), spells_join (column_text k) (grammar.text f) h1 (x ++ []) s1 (subst (λ y. Spells (grammar.text f) y) (sym (append-nil x)) spelled)))))
      (λ f h2 ws s2 f2 l2 d2. absurd cc)))

  -- after `forall`
  holding_stops : (p : Place) (us : Tokens) (e : Fault × Tokens) → length us < turns → holding (trees grammar) inner p (record { token = word_token Forall; place = p } ∷ us) ≡ Err e → Stops (LayerTexts grammar d) (record { token = word_token Forall; place = p } ∷ us) e
  unfolding holding accept
  holding_stops p us e lt h =
      let t : Placed = record { token = word_token Forall; place = p } in
      let R : Bool → Tokens → Type 0 = λ c x. LayerTexts grammar d c (t ∷ x) in
      after_front R (LayerTexts grammar d) (t ∷ []) (t ∷ us) us e refl (λ c x r. r)
      (sub_short column _ column_text (λ k. Unit {0}) R us e column_sound (column_viable us e) h
      (λ c k x spelled fits. (some_tokens grammar d, (every p k (some_formula grammar d), always (grammar.Fits d (some_formula grammar d)) c (some_fits grammar d), ((refl, refl), spells_join (column_text k) (grammar.text (some_formula grammar d)) x (some_tokens grammar d) spelled (some_spelled grammar d)))))
      (λ k h1 vs s1 f1 l1 d1. sub_short inner _ grammar.text (grammar.Fits d) (λ c x. R c (h1 ++ x)) vs e inner_sound (inner_viable vs e (omega arith)) d1
      (λ c f x spelled fits. ([], (every p k f, fits, ((refl, refl), spells_join (column_text k) (grammar.text f) h1 (x ++ []) s1 (subst (λ y. Spells (grammar.text f) y) (sym (append-nil x)) spelled)))))
      (λ f h2 ws s2 f2 l2 d2. absurd cc)))

  -- a formula by its first token
  token_stops : (k : Token) (p : Place) (us : Tokens) (e : Fault × Tokens) → suc (length us) < turns → formula_over (trees grammar) after_it inner turns (record { token = k; place = p } ∷ us) ≡ Err e → Stops (FormulaTexts grammar (suc d)) (record { token = k; place = p } ∷ us) e
  unfolding formula_over look named accept
  token_stops hole_token p us e lt h =
      let t : Placed = record { token = hole_token; place = p } in
      let k : (Deep, t ∷ us) ≡ e = cc in
      subst (λ x. Stops (FormulaTexts grammar (suc d)) (t ∷ us) x) k (record {
        front = [];
        whole = refl;
        more = some_tokens grammar (suc d);
        begins = (some_formula grammar (suc d), some_fits grammar (suc d), some_spelled grammar (suc d));
        through = record { token = t; cause = tt; tail = us; at = refl; more = []; begins = (grammar.roll (hole p), tt, spelled_as grammar (hole p) (t ∷ []) ((refl, refl), refl)) };
      })
  token_stops (word_token Not) p us e lt h = rolled_stops grammar d [] (record { token = word_token Not; place = p } ∷ us) e (negated_stops p us e (omega arith) h)
  token_stops (word_token Exists) p us e lt h = rolled_stops grammar d [] (record { token = word_token Exists; place = p } ∷ us) e (existing_stops p us e (omega arith) h)
  token_stops (word_token Forall) p us e lt h = rolled_stops grammar d [] (record { token = word_token Forall; place = p } ∷ us) e (holding_stops p us e (omega arith) h)
  token_stops (symbol_token Open) p us e lt h = rolled_stops grammar d [] (record { token = symbol_token Open; place = p } ∷ us) e (enclosed_stops p us e (omega arith) h)
  token_stops (name_token n) p us e lt h =
      let t : Placed = record { token = name_token n; place = p } in
      after_front (λ c x. FormulaTexts grammar (suc d) c (t ∷ x)) (FormulaTexts grammar (suc d)) (t ∷ []) (t ∷ us) us e refl (λ c x r. r) (after.viable n p us e (omega arith) h)
  token_stops k p us e lt h = rolled_stops grammar d [] (record { token = k; place = p } ∷ us) e (unnamed_stops grammar d (record { token = k; place = p }) us e h)

  -- the tokens before a fault of a formula begin one
  pub over_stops : ViableBelow turns (formula_over (trees grammar) after_it inner turns) grammar.text (grammar.Fits (suc d))
  unfolding formula_over look named unnamed unnamed_term integer eat accept
  over_stops [] e lt h = let k : (Syntax, []) ≡ e = cc in subst (λ x. Stops (FormulaTexts grammar (suc d)) [] x) k (at_once (FormulaTexts grammar (suc d)) [] (some_tokens grammar (suc d)) (some_formula grammar (suc d), some_fits grammar (suc d), some_spelled grammar (suc d)))
  over_stops (t ∷ us) e lt h = token_stops t.token t.place us e lt h
