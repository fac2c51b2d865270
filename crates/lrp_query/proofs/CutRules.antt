-- Where a formula would be too deep, a hole alone is read: complete, sound and viable.
use Rattle.std.proofs.Common.{◌≡◌, ◌≢◌, inr, ℕ, Bool, true, false, List, [], ◌∷◌, ◌++◌, refl, ap, sym, ◌∙◌, subst, Ok, Err, nat_le}
use borrow.Author.Tests.{leb-false}
use Rattle.lrp_model.specs.declared.tokens.Symbol.TheVariants.{Open, Minus, Equals}
use Rattle.lrp_model.specs.declared.tokens.Word.TheVariants.{Exists, Forall, Not}
use Rattle.lrp_model.specs.declared.tokens.Word.TheVariants.{Time as time_word}
use Rattle.lrp_model.specs.declared.tokens.Symbol.TheVariants.{Close, Colon}
use Rattle.lrp_model.specs.declared.relations.Sort.TheVariants.{Time as time_sort}
use Rattle.lrp_model.specs.declared.raw.RawColumn.{RawColumn}
use Rattle.lrp_model.specs.declared.tokens.Fault.{Fault}
use Rattle.lrp_model.specs.declared.tokens.Fault.TheVariants.{Syntax, Deep}
use Rattle.lrp_model.specs.declared.tokens.Place.{Place}
use Rattle.lrp_model.specs.declared.formulas.Op.TheVariants.{Eq}
use Rattle.lrp_model.specs.Tokens.{Token, Placed, Tokens, Part, Takes, Spells, from}
use Rattle.lrp_model.specs.Tokens.Token.{name_token, word_token, number_token, text_token, symbol_token, end_token, bad_token, hole_token}
use Rattle.lrp_model.specs.Tokens.Part.{at, any}
use Rattle.lrp_model.specs.Lexing.{start}
use Rattle.lrp_model.specs.Limits.{greatest_number}
use Rattle.lrp_model.specs.Databases.{sign}
use Rattle.lrp_model.specs.Refused.{GoesThrough, Through, Stops}
use Rattle.lrp_model.specs.Queries.{WrittenTerm, term_text}
use Rattle.lrp_model.specs.Queries.WrittenTerm.{integer as integer_term, text_term, variable, shifted}
use Rattle.lrp_text.specs.Parsers.{Parser, accept, taken}
use Rattle.lrp_text.proofs.Complete.{Answers, answers_as, accepts_back}
use Rattle.lrp_text.proofs.Sound.{Sound, accept_ok}
use Rattle.lrp_text.proofs.Viable.{Viable, at_once, spells_join}
use Rattle.lrp_query.specs.Rules.{too_deep, deep_or_number, cut_at, is_hole_token}
use Rattle.lrp_query.proofs.Shown.{cut_told}
use Rattle.lrp_query.proofs.Layers.{Layer, atom, compared, member, denied, all_of, any_of, implied, group, some, every, hole, other, IsHole, Grammar, trees, text_of, FormulaTexts, IsFormula, takes_unrolled}
use Rattle.lrp_query.proofs.TestRules.{symbol_at, zero_term, zero_tokens}
use Rattle.lrp_query.proofs.OverRules.{some_formula, some_tokens, some_spelled, some_fits, spelled_as}

-- a number is refused for its value or its depth
number_kind : (b : Bool) → deep_or_number b ≢ Syntax
number_kind true e = absurd cc
number_kind false e = absurd cc

-- `0`, with `= 0` after it
abbrev equals_zero : Tokens
equals_zero = symbol_at Equals ∷ zero_tokens

-- `0 = 0`
abbrev zero_is_zero : Tokens
zero_is_zero = record { token = number_token 0; place = start } ∷ equals_zero

-- a binder
abbrev some_binder : RawColumn
some_binder = record { name = []; place = start; sort = time_sort; sort_place = start }

-- what stands after a quantifier
abbrev bound_tokens : Tokens
bound_tokens = record { token = name_token []; place = start } ∷ symbol_at Colon ∷ record { token = word_token time_word; place = start } ∷ zero_is_zero

module _ {F X Q : Type 0} (grammar : Grammar F X Q) where
  -- the rule at depth 0
  abbrev pub cut_rule : Parser F
  cut_rule = accept (trees grammar).cut

  -- a hole alone gives something
  cut_is : (f g : F) (k : Token) → cut_at f k ≡ Ok g → (k ≡ hole_token) × (f ≡ g)
  cut_is f g hole_token e = (refl, cc)
  cut_is f g (name_token n) e = absurd cc
  cut_is f g (word_token w) e = absurd cc
  cut_is f g (number_token n) e = absurd cc
  cut_is f g (text_token t) e = absurd cc
  cut_is f g (symbol_token s) e = absurd cc
  cut_is f g end_token e = absurd cc
  cut_is f g bad_token e = absurd cc

  -- ---- complete

  -- another token is refused for its fault
  refused_cut : (t : Placed) (us left : Tokens) (k : Token) (w : F) (L : Type 0) → t.token ≡ k → is_hole_token k ≡ false → too_deep k ≢ Syntax → (L → ⊥) → Answers (cut_rule (t ∷ us)) w left L
  unfolding accept
  refused_cut t us left k w L e n ne bad =
      let told : cut_at (grammar.roll (hole t.place)) t.token ≡ Err (too_deep k) = ap (cut_at (grammar.roll (hole t.place))) e ∙ cut_told (grammar.roll (hole t.place)) k n in
      inr (record { unlawful = bad; fault = (too_deep k, t ∷ us); is = ap (λ r. taken r t us) told; kind = ne })

  -- an integer there
  integer_cut : (p : Place) (negative : Bool) (n : ℕ) (ps : List Part) (w : F) (L : Type 0) → (L → ⊥) → (ts left : Tokens) → Takes (from p (sign negative ++ any (number_token n) ∷ []) ++ ps) ts left → Answers (cut_rule ts) w left L
  integer_cut p true n ps w L bad [] left h = absurd h
  integer_cut p false n ps w L bad [] left h = absurd h
  integer_cut p true n ps w L bad (t ∷ us) left h = refused_cut t us left (symbol_token Minus) w L h.0.0 refl (λ e. absurd cc) bad
  integer_cut p false n ps w L bad (t ∷ us) left h = refused_cut t us left (number_token n) w L h.0.0 refl (number_kind (nat_le n 4611686018427387904)) bad

  -- a term there
  side_cut : (p : Place) (item : WrittenTerm) (ps : List Part) (w : F) (L : Type 0) → (L → ⊥) → (ts left : Tokens) → Takes (from p (term_text item) ++ ps) ts left → Answers (cut_rule ts) w left L
  side_cut p (integer_term i) ps w L bad ts left h = integer_cut p i.negative i.size ps w L bad ts left h
  side_cut p (variable n) ps w L bad [] left h = absurd h
  side_cut p (shifted n down j) ps w L bad [] left h = absurd h
  side_cut p (text_term s) ps w L bad [] left h = absurd h
  side_cut p (variable n) ps w L bad (t ∷ us) left h = refused_cut t us left (name_token n) w L h.0.0 refl (λ e. absurd cc) bad
  side_cut p (shifted n down j) ps w L bad (t ∷ us) left h = refused_cut t us left (name_token n) w L h.0.0 refl (λ e. absurd cc) bad
  side_cut p (text_term s) ps w L bad (t ∷ us) left h = refused_cut t us left (text_token s) w L h.0.0 refl (λ e. absurd cc) bad

  -- a hole is read back, and each layer is refused for another cause than syntax
  layer_cut : (l : Layer F X) (ts left : Tokens) → Takes (text_of grammar l) ts left → Answers (cut_rule ts) (grammar.roll l) left (IsHole l)
  layer_cut (compared l op r) ts left h = side_cut l.place l.item _ (grammar.roll (compared l op r)) ⊥ (λ a. a) ts left h
  layer_cut (member l i k) ts left h = side_cut l.place l.item _ (grammar.roll (member l i k)) ⊥ (λ a. a) ts left h
  layer_cut (hole p) ts left h = (accepts_back (trees grammar).cut (at p hole_token) (grammar.roll (hole p)) (Unit {0}) (λ t r. rw (r.0, r.1) refl)).reads ts left h tt
  layer_cut (atom p n all) [] left h = absurd h
  layer_cut (denied p f) [] left h = absurd h
  layer_cut (all_of p f g gs) [] left h = absurd h
  layer_cut (any_of p f g gs) [] left h = absurd h
  layer_cut (implied p f g) [] left h = absurd h
  layer_cut (group p f) [] left h = absurd h
  layer_cut (some p c f) [] left h = absurd h
  layer_cut (every p c f) [] left h = absurd h
  layer_cut (other x) [] left h = absurd h
  layer_cut (atom p n all) (t ∷ us) left h = refused_cut t us left (name_token n) (grammar.roll (atom p n all)) ⊥ h.0.0 refl (λ e. absurd cc) (λ a. a)
  layer_cut (denied p f) (t ∷ us) left h = refused_cut t us left (word_token Not) (grammar.roll (denied p f)) ⊥ h.0.0 refl (λ e. absurd cc) (λ a. a)
  layer_cut (all_of p f g gs) (t ∷ us) left h = refused_cut t us left (symbol_token Open) (grammar.roll (all_of p f g gs)) ⊥ h.0.0 refl (λ e. absurd cc) (λ a. a)
  layer_cut (any_of p f g gs) (t ∷ us) left h = refused_cut t us left (symbol_token Open) (grammar.roll (any_of p f g gs)) ⊥ h.0.0 refl (λ e. absurd cc) (λ a. a)
  layer_cut (implied p f g) (t ∷ us) left h = refused_cut t us left (symbol_token Open) (grammar.roll (implied p f g)) ⊥ h.0.0 refl (λ e. absurd cc) (λ a. a)
  layer_cut (group p f) (t ∷ us) left h = refused_cut t us left (symbol_token Open) (grammar.roll (group p f)) ⊥ h.0.0 refl (λ e. absurd cc) (λ a. a)
  layer_cut (some p c f) (t ∷ us) left h = refused_cut t us left (word_token Exists) (grammar.roll (some p c f)) ⊥ h.0.0 refl (λ e. absurd cc) (λ a. a)
  layer_cut (every p c f) (t ∷ us) left h = refused_cut t us left (word_token Forall) (grammar.roll (every p c f)) ⊥ h.0.0 refl (λ e. absurd cc) (λ a. a)
  layer_cut (other x) (t ∷ us) left h = refused_cut t us left (name_token (grammar.others.word x)) (grammar.roll (other x)) ⊥ h.0.0 refl (λ e. absurd cc) (λ a. a)

  -- a hole is read back, and each formula is refused for another cause than syntax
  pub cut_answers : (w : F) (ts left : Tokens) → Takes (grammar.text w) ts left → Answers (cut_rule ts) w left (grammar.Fits 0 w)
  cut_answers w ts left h =
      let l : Layer F X = grammar.unroll w in
      let R : F → Type 0 = λ f. Answers (cut_rule ts) f left (grammar.Fits 0 f) in
      subst R (grammar.unrolled w) (answers_as (cut_rule ts) (grammar.roll l) left (IsHole l) (grammar.Fits 0 (grammar.roll l)) (grammar.only_hole l) (layer_cut l ts left (takes_unrolled grammar w ts left h)))

  -- ---- sound

  -- a hole that is read is spelled so
  pub cut_sound : Sound cut_rule grammar.text (grammar.Fits 0)
  cut_sound ts q e =
      let k = accept_ok (trees grammar).cut ts q e in
      let is = cut_is (grammar.roll (hole k.t.place)) q.0 k.t.token k.told in
      subst (λ f. IsFormula grammar 0 ts (f, q.1)) is.1
      (subst (λ ps. Takes ps ts q.1) (sym (grammar.text_is (hole k.t.place))) (subst (λ x. Takes (at k.t.place hole_token ∷ []) x q.1) (sym k.whole) ((is.0, refl), refl)), grammar.hole_fits k.t.place)

  -- ---- viable

  -- the formula of `0 = 0`
  abbrev zero_equal : F
  zero_equal = grammar.roll (compared zero_term Eq zero_term)

  -- its tokens
  zero_spelled : Spells (grammar.text zero_equal) zero_is_zero
  zero_spelled = spelled_as grammar (compared zero_term Eq zero_term) zero_is_zero ((refl, refl), (refl, ((refl, refl), refl)))

  -- at depth 0 a hole may stand, and a text goes through the token there
  cut_through : (k : Token) (p : Place) (us : Tokens) (e : Fault × Tokens) (fault : Fault) → (fault, record { token = k; place = p } ∷ us) ≡ e → Through (FormulaTexts grammar 0 false) [] fault (record { token = k; place = p } ∷ us) → Stops (FormulaTexts grammar 0) (record { token = k; place = p } ∷ us) e
  cut_through k p us e fault is through = subst (λ x. Stops (FormulaTexts grammar 0) (record { token = k; place = p } ∷ us) x) is (record { front = []; whole = refl; more = some_tokens grammar 0; begins = (some_formula grammar 0, some_fits grammar 0, some_spelled grammar 0); through = through })

  -- a text goes through a token that begins a layer
  deep_through : (k : Token) (p : Place) (us more : Tokens) (l : Layer F X) → Spells (text_of grammar l) (record { token = k; place = p } ∷ more) → GoesThrough (FormulaTexts grammar 0 false) Deep [] (record { token = k; place = p } ∷ us)
  deep_through k p us more l h = record { token = record { token = k; place = p }; cause = tt; tail = us; at = refl; more = more; begins = (grammar.roll l, tt, spelled_as grammar l (record { token = k; place = p } ∷ more) h) }

  -- a number there
  number_cut : (n : ℕ) (p : Place) (us : Tokens) (b : Bool) → nat_le n 4611686018427387904 ≡ b → Through (FormulaTexts grammar 0 false) [] (deep_or_number b) (record { token = number_token n; place = p } ∷ us)
  number_cut n p us true e = deep_through (number_token n) p us equals_zero (compared (record { place = p; item = integer_term (record { negative = false; size = n }) }) Eq zero_term) ((refl, refl), (refl, ((refl, refl), refl)))
  number_cut n p us false e =
      let l : Layer F X = compared (record { place = p; item = integer_term (record { negative = false; size = n }) }) Eq zero_term in
      record { token = record { token = number_token n; place = p }; cause = leb-false n greatest_number e; tail = us; at = refl; more = equals_zero; begins = (grammar.roll l, tt, spelled_as grammar l (record { token = number_token n; place = p } ∷ equals_zero) ((refl, refl), (refl, ((refl, refl), refl)))) }

  -- the tokens before a fault at depth 0 begin a hole
  token_cut : (k : Token) (p : Place) (us : Tokens) (e : Fault × Tokens) → cut_rule (record { token = k; place = p } ∷ us) ≡ Err e → Stops (FormulaTexts grammar 0) (record { token = k; place = p } ∷ us) e
  unfolding accept
  token_cut hole_token p us e h = absurd cc
  token_cut (number_token n) p us e h = cut_through (number_token n) p us e (deep_or_number (nat_le n 4611686018427387904)) (cc) (number_cut n p us (nat_le n 4611686018427387904) refl)
  token_cut (name_token n) p us e h = cut_through (name_token n) p us e Deep (cc) (deep_through (name_token n) p us equals_zero (compared (record { place = p; item = variable n }) Eq zero_term) ((refl, refl), (refl, ((refl, refl), refl))))
  token_cut (text_token t) p us e h = cut_through (text_token t) p us e Deep (cc) (deep_through (text_token t) p us equals_zero (compared (record { place = p; item = text_term t }) Eq zero_term) ((refl, refl), (refl, ((refl, refl), refl))))
  token_cut (word_token Not) p us e h = cut_through (word_token Not) p us e Deep (cc) (deep_through (word_token Not) p us zero_is_zero (denied p zero_equal) ((refl, refl), zero_spelled))
  token_cut (word_token Exists) p us e h = cut_through (word_token Exists) p us e Deep (cc) (deep_through (word_token Exists) p us bound_tokens (some p some_binder zero_equal) ((refl, refl), ((refl, refl), (refl, ((refl, refl), zero_spelled)))))
  token_cut (word_token Forall) p us e h = cut_through (word_token Forall) p us e Deep (cc) (deep_through (word_token Forall) p us bound_tokens (every p some_binder zero_equal) ((refl, refl), ((refl, refl), (refl, ((refl, refl), zero_spelled)))))
  token_cut (symbol_token Open) p us e h = cut_through (symbol_token Open) p us e Deep (cc) (deep_through (symbol_token Open) p us (zero_is_zero ++ symbol_at Close ∷ []) (group p zero_equal) ((refl, refl), spells_join (grammar.text zero_equal) (any (symbol_token Close) ∷ []) zero_is_zero (symbol_at Close ∷ []) zero_spelled (refl, refl)))
  token_cut (symbol_token Minus) p us e h = cut_through (symbol_token Minus) p us e Deep (cc) (deep_through (symbol_token Minus) p us zero_is_zero (compared (record { place = p; item = integer_term (record { negative = true; size = 0 }) }) Eq zero_term) ((refl, refl), (refl, (refl, ((refl, refl), refl)))))
  token_cut k p us e h = cut_through k p us e Syntax (cc) tt

  -- the tokens before a fault at depth 0 begin a hole, and with the token there a text
  pub cut_viable : Viable cut_rule grammar.text (grammar.Fits 0)
  unfolding accept
  cut_viable [] e h = let k : (Syntax, []) ≡ e = cc in subst (λ x. Stops (FormulaTexts grammar 0) [] x) k (at_once (FormulaTexts grammar 0) [] (some_tokens grammar 0) (some_formula grammar 0, some_fits grammar 0, some_spelled grammar 0))
  cut_viable (t ∷ us) e h = token_cut t.token t.place us e h
