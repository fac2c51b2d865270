-- After a name that begins a formula: what the rule reads by what follows the name.
use Rattle.std.proofs.Common.{◌≡◌, ◌∙◌, ℕ, Bool, true, false, [], ◌∷◌, Option, Some, None, ap, sym, refl, Ok, Err, if◌then◌else◌}
use Rattle.lrp_model.specs.Texts.{Identifier}
use Rattle.lrp_model.specs.declared.tokens.Place.{Place}
use Rattle.lrp_model.specs.declared.tokens.Symbol.TheVariants.{Open, Close, Comma}
use Rattle.lrp_model.specs.declared.tokens.Fault.TheVariants.{Syntax}
use Rattle.lrp_model.specs.Tokens.{Token, Tokens}
use Rattle.lrp_model.specs.Tokens.Token.{name_token, word_token, number_token, text_token, symbol_token, end_token, bad_token, hole_token}
use Rattle.lrp_text.specs.Parsers.{ParseOutcome, Parser, and_then, accept, look, eat}
use Rattle.lrp_text.specs.Taking.{is_name, is_name_token, expect, name}
use Rattle.lrp_query.specs.declared.words.Leading.{Leading}
use Rattle.lrp_query.specs.declared.words.Leading.TheVariants.{OfRange, OfPair}
use Rattle.lrp_text.specs.OffsetRule.{offset}
use Rattle.lrp_query.specs.Rules.{Trees, named_term, comparing, tested, after_name}
use Rattle.lrp_query.specs.OperatorRules.{OperatorTrees, ranged, paired, operator, with_operators, variable, closed_by, ranged_parts, paired_parts}

-- ---- part by part

-- one parser after two others is one after the other two
in_turn : {A B C : Type 0} (o : ParseOutcome A) (f : A → Parser B) (g : B → Parser C) → and_then (and_then o f) g ≡ and_then o (λ a ts. and_then (f a ts) g)
in_turn (Ok q) f g = refl
in_turn (Err e) f g = refl

-- parsers that go on alike
pub alike : {A B : Type 0} (o : ParseOutcome A) (f g : A → Parser B) → ((a : A) (ts : Tokens) → f a ts ≡ g a ts) → and_then o f ≡ and_then o g
alike (Ok q) f g h = h q.0 q.1
alike (Err e) f g h = refl

module _ {R P N F : Type 0} (make : OperatorTrees R P N F) (inner : Parser F) where
  pub ranged_same : (word : R) (p : Place) (ts : Tokens) → ranged_parts make inner word p ts ≡ ranged make inner word p ts
  unfolding ranged_parts variable ranged
  ranged_same word p ts = in_turn (name ts) _ _ ∙ alike (name ts) _ _ (λ v us. in_turn (expect Open us) _ _)

  pub paired_same : (word : P) (p : Place) (ts : Tokens) → paired_parts make inner word p ts ≡ paired make inner word p ts
  unfolding paired_parts variable closed_by paired
  paired_same word p ts =
      in_turn (name ts) _ _ ∙ alike (name ts) _ _ (λ v us.
      in_turn (expect Open us) _ _ ∙ alike (expect Open us) _ _ (λ a vs.
      in_turn (inner vs) _ _ ∙ alike (inner vs) _ _ (λ f ws.
      in_turn (expect Comma ws) _ _ ∙ alike (expect Comma ws) _ _ (λ b xs.
      in_turn (inner xs) _ _ ∙ alike (inner xs) _ _ (λ g ys. in_turn (expect Close ys) _ _)))))

-- ---- after a name

module _ {K T F Q R P N : Type 0} (make : Trees K T F Q) (operators : OperatorTrees R P N F) (inner : Parser F) (turns : ℕ) (n : Identifier) (p : Place) (ts : Tokens) where
  -- what stands there without operators, where no other name follows
  pub plainly_after : look false is_name ts ≡ Ok (false, ts) → with_operators make operators inner turns n p ts ≡ after_name false make turns n p ts
  unfolding with_operators
  plainly_after e = rw e refl

  -- and else an operator
  pub operator_after : (o : Option (Leading R P)) → look false is_name ts ≡ Ok (true, ts) → o ≡ operators.word_of n → with_operators make operators inner turns n p ts ≡ operator operators inner p o ts
  unfolding with_operators
  operator_after o e w = rw e (ap (λ k. operator operators inner p k ts) (sym w))

  -- of which the parts are read after its first word
  pub range_after : (word : R) → look false is_name ts ≡ Ok (true, ts) → Some (OfRange word) ≡ operators.word_of n → with_operators make operators inner turns n p ts ≡ ranged_parts operators inner word p ts
  range_after word e w = operator_after (Some (OfRange word)) e w ∙ sym (ranged_same operators inner word p ts)

  pub pair_after : (word : P) → look false is_name ts ≡ Ok (true, ts) → Some (OfPair word) ≡ operators.word_of n → with_operators make operators inner turns n p ts ≡ paired_parts operators inner word p ts
  pair_after word e w = operator_after (Some (OfPair word)) e w ∙ sym (paired_same operators inner word p ts)

-- ---- where no name is the first word of an operator

module _ {K T F Q R P N : Type 0} (make : Trees K T F Q) (operators : OperatorTrees R P N F) (inner : Parser F) (turns : ℕ) (n : Identifier) (p : Place) where
  -- no atom, comparison or `in` has a name after its own
  no_name : (k : Token) (q : Place) (us : Tokens) → is_name_token k ≡ true → after_name false make turns n p (record { token = k; place = q } ∷ us) ≡ Err (Syntax, record { token = k; place = q } ∷ us)
  unfolding after_name named_term offset tested comparing eat accept
  no_name (name_token m) q us e = refl
  no_name (word_token w) q us e = absurd cc
  no_name (number_token k) q us e = absurd cc
  no_name (text_token t) q us e = absurd cc
  no_name (symbol_token s) q us e = absurd cc
  no_name end_token q us e = absurd cc
  no_name bad_token q us e = absurd cc
  no_name hole_token q us e = absurd cc

  either_way : (again : Bool) (us : Tokens) → operators.word_of n ≡ None → (again ≡ true → after_name false make turns n p us ≡ Err (Syntax, us)) → (if again then operator operators inner p (operators.word_of n) else after_name false make turns n p) us ≡ after_name false make turns n p us
  either_way true us none stops = ap (λ o. operator operators inner p o us) none ∙ sym (stops refl)
  either_way false us none stops = refl

  pub wordless : (ts : Tokens) → operators.word_of n ≡ None → with_operators make operators inner turns n p ts ≡ after_name false make turns n p ts
  unfolding with_operators look
  wordless [] none = refl
  wordless (t ∷ us) none = either_way (is_name t) (t ∷ us) none (no_name t.token t.place us)
