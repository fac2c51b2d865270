-- The readers of the languages: what each owes after a name that begins a formula.
use Rattle.std.proofs.Common.{◌≡◌, ◌<◌, ℕ, suc, Bool, true, false, [], ◌∷◌, refl, ap, sym, subst, Ok, Err, Option, Some, None, length, if◌then◌else◌}
use Rattle.std.specs.Prelude.{codes}
use Rattle.lrp_model.specs.Texts.{Identifier}
use Rattle.lrp_model.specs.declared.tokens.Symbol.TheVariants.{Open, Close}
use Rattle.lrp_model.specs.declared.tokens.Place.{Place}
use Rattle.lrp_model.specs.declared.tokens.Fault.{Fault}
use Rattle.lrp_model.specs.declared.tokens.Fault.TheVariants.{Syntax}
use Rattle.lrp_model.specs.Tokens.{Placed, Tokens, Takes}
use Rattle.lrp_model.specs.Refused.{Stops}
use Rattle.lrp_model.specs.Queries.{WrittenFormula, ranged_word, paired_word}
use Rattle.lrp_model.specs.Queries.Language.{first_order, temporal}
use Rattle.lrp_text.specs.Parsers.{Parser, look}
use Rattle.lrp_text.specs.Taking.{is_name, is_name_token}
use Rattle.lrp_text.proofs.Complete.{Answers, IsNot}
use Rattle.lrp_text.proofs.Viable.{at_once}
use Rattle.lrp_query.specs.declared.words.Leading.{Leading}
use Rattle.lrp_query.specs.declared.words.Leading.TheVariants.{OfRange, OfPair}
use Rattle.lrp_query.specs.Rules.{AfterName, after_name, plainly}
use Rattle.lrp_query.specs.OperatorRules.{operator, with_operators}
use Rattle.lrp_query.proofs.Layers.{atom, other, trees, FormulaRules, AfterRules, LayerTexts, IsFormula, rolled_stops}
use Rattle.lrp_query.proofs.OperatorLaws.{after_local, marked_operators, after_told, after_same}
use Rattle.lrp_query.proofs.LocalRules.{after_name_local}
use Rattle.lrp_query.proofs.Marks.{marking, after_name_told}
use Rattle.lrp_query.proofs.Natural.{after_name_same}
use Rattle.lrp_query.proofs.Readers.{Reader, forget, marks_of}
use Rattle.lrp_text.proofs.OffsetRule.{NoShift}
use Rattle.lrp_query.proofs.TestRules.{name_at, symbol_at, after_name_is_sound, after_name_stops}
use Rattle.lrp_query.specs.Grammars.{word_of}
use Rattle.lrp_model.specs.declared.raw.Ranged.{Ranged}
use Rattle.lrp_model.specs.declared.raw.Ranged.TheVariants.{Once, Always}
use Rattle.lrp_model.specs.declared.raw.Paired.{Paired}
use Rattle.lrp_model.specs.declared.raw.Paired.TheVariants.{Since, Until}
use Rattle.lrp_query.proofs.Languages.{Narrow, plain, tense, OperatorOver, over_range, over_pair, written_operators, after_first, grammar, temporal_grammar, none_taken, FitsOperator}
use Rattle.lrp_query.proofs.OperatorReader.{ranged_answers, paired_answers, ranged_sound, paired_sound, ranged_stops, paired_stops}
use Rattle.lrp_model.proofs.Logic.{choose}

-- ---- first words

-- the name is the first word of this operator
abbrev HasWord : Identifier → Option (Leading Ranged Paired) → Type 0
HasWord n (Some (OfRange word)) = n ≡ ranged_word word
HasWord n (Some (OfPair word)) = n ≡ paired_word word
HasWord n None = Unit {0}

word_told : (n : Identifier) → HasWord n (word_of n)
word_told n =
    choose (HasWord n) n (codes "once") _ _ (λ e. e) (λ a.
    choose (HasWord n) n (codes "always") _ _ (λ e. e) (λ b.
    choose (HasWord n) n (codes "since") _ _ (λ e. e) (λ c.
    choose (HasWord n) n (codes "until") _ _ (λ e. e) (λ d. tt))))

ranged_again : (word : Ranged) → word_of (ranged_word word) ≡ Some (OfRange word)
ranged_again Once = refl
ranged_again Always = refl

paired_again : (word : Paired) → word_of (paired_word word) ≡ Some (OfPair word)
paired_again Since = refl
paired_again Until = refl

-- ---- complete, sound and viable

-- the rule after a name
abbrev pub written_after : AfterName (WrittenFormula temporal)
written_after = with_operators (trees temporal_grammar) written_operators

module _ (inner : Parser (WrittenFormula temporal)) (d turns : ℕ) (rules : FormulaRules temporal_grammar d turns inner) where
  -- where no name follows it is that of queries
  plainly_read : (n : Identifier) (p : Place) (us : Tokens) → IsNot is_name us → written_after inner turns n p us ≡ after_name false (trees temporal_grammar) turns n p us
  unfolding with_operators look
  plainly_read n p [] alone = refl
  plainly_read n p (u ∷ us) alone = rw alone refl

  -- where one follows it is that of operators
  operator_read : (n : Identifier) (p : Place) (u : Placed) (us : Tokens) (o : Option (Leading Ranged Paired)) → is_name u ≡ true → word_of n ≡ o → written_after inner turns n p (u ∷ us) ≡ operator written_operators inner p o (u ∷ us)
  unfolding with_operators look
  operator_read n p u us o e w = rw (e, w) refl

  back : (x : OperatorOver temporal) (us left : Tokens) → length us < turns → Takes (after_first x) us left → NoShift left → Answers (written_after inner turns (temporal_grammar.others.word x) (temporal_grammar.others.place x) us) (temporal_grammar.roll (other x)) left (FitsOperator d x)
  back (over_range tt word o a b f) [] left lt h g = absurd h
  back (over_pair tt word o f k) [] left lt h g = absurd h
  back (over_range tt word o a b f) (u ∷ us) left lt h g =
      subst (λ r. Answers r (temporal_grammar.roll (other (over_range tt word o a b f))) left (FitsOperator d (over_range tt word o a b f))) (sym (operator_read (ranged_word word) o.place u us (Some (OfRange word)) (ap is_name_token h.0.0) (ranged_again word)))
      (ranged_answers inner d turns rules word o a b f (u ∷ us) left lt h g)
  back (over_pair tt word o f k) (u ∷ us) left lt h g =
      subst (λ r. Answers r (temporal_grammar.roll (other (over_pair tt word o f k))) left (FitsOperator d (over_pair tt word o f k))) (sym (operator_read (paired_word word) o.place u us (Some (OfPair word)) (ap is_name_token h.0.0) (paired_again word)))
      (paired_answers inner d turns rules word o f k (u ∷ us) left lt h)

  operator_sound : (n : Identifier) (p : Place) (o : Option (Leading Ranged Paired)) → HasWord n o → (us : Tokens) (q : (WrittenFormula temporal) × Tokens) → operator written_operators inner p o us ≡ Ok q → IsFormula temporal_grammar (suc d) (name_at n p ∷ us) q
  operator_sound n p (Some (OfRange word)) is us q e = ranged_sound inner d turns rules word n p is us q e
  operator_sound n p (Some (OfPair word)) is us q e = paired_sound inner d turns rules word n p is us q e
  operator_sound n p None is us q e = absurd cc

  either_sound : (n : Identifier) (p : Place) (again : Bool) (us : Tokens) (q : (WrittenFormula temporal) × Tokens) → (if again then operator written_operators inner p (word_of n) else after_name false (trees temporal_grammar) turns n p) us ≡ Ok q → IsFormula temporal_grammar (suc d) (name_at n p ∷ us) q
  either_sound n p true us q e = operator_sound n p (word_of n) (word_told n) us q e
  either_sound n p false us q e = after_name_is_sound temporal_grammar d turns n p us q e

  sound : (n : Identifier) (p : Place) (us : Tokens) (q : (WrittenFormula temporal) × Tokens) → written_after inner turns n p us ≡ Ok q → IsFormula temporal_grammar (suc d) (name_at n p ∷ us) q
  unfolding with_operators look
  sound n p [] q e = either_sound n p false [] q e
  sound n p (u ∷ us) q e = either_sound n p (is_name u) (u ∷ us) q e

  -- the tokens after the name of an atom without terms
  abbrev no_terms : Tokens
  no_terms = symbol_at Open ∷ symbol_at Close ∷ []

  operator_stops : (n : Identifier) (p : Place) (o : Option (Leading Ranged Paired)) → HasWord n o → (us : Tokens) (e : Fault × Tokens) → length us < turns → operator written_operators inner p o us ≡ Err e → Stops (λ c x. LayerTexts temporal_grammar d c (name_at n p ∷ x)) us e
  operator_stops n p (Some (OfRange word)) is us e lt h = ranged_stops inner d turns rules word n p is us e lt h
  operator_stops n p (Some (OfPair word)) is us e lt h = paired_stops inner d turns rules word n p is us e lt h
  operator_stops n p None is us e lt h =
      let R : Bool → Tokens → Type 0 = λ c x. LayerTexts temporal_grammar d c (name_at n p ∷ x) in
      let k : (Syntax, us) ≡ e = cc in
      subst (λ x. Stops R us x) k (at_once R us no_terms (atom p n [], tt, ((refl, refl), (refl, (refl, refl)))))

  either_stops : (n : Identifier) (p : Place) (again : Bool) (us : Tokens) (e : Fault × Tokens) → length us < turns → (if again then operator written_operators inner p (word_of n) else after_name false (trees temporal_grammar) turns n p) us ≡ Err e → Stops (λ c x. LayerTexts temporal_grammar d c (name_at n p ∷ x)) us e
  either_stops n p true us e lt h = operator_stops n p (word_of n) (word_told n) us e lt h
  either_stops n p false us e lt h = after_name_stops temporal_grammar d turns n p us e lt h

  stops : (n : Identifier) (p : Place) (us : Tokens) (e : Fault × Tokens) → length us < turns → written_after inner turns n p us ≡ Err e → Stops (λ c x. LayerTexts temporal_grammar d c (name_at n p ∷ x)) us e
  unfolding with_operators look
  stops n p [] e lt h = either_stops n p false [] e lt h
  stops n p (u ∷ us) e lt h = either_stops n p (is_name u) (u ∷ us) e lt h

  pub written_rules : AfterRules temporal_grammar d turns (written_after inner turns)
  written_rules = record {
    plain = plainly_read;
    back = back;
    sound = sound;
    viable = λ n p us e lt h. rolled_stops temporal_grammar d (name_at n p ∷ []) us e (stops n p us e lt h);
  }

-- ---- the readers

-- of temporal operators
abbrev pub temporal_reader : Reader temporal_grammar
temporal_reader = record {
  after = written_after;
  rules = λ inner d turns r. written_rules inner d turns r;
  local = λ inner l turns n p. after_local written_operators inner l (trees temporal_grammar) turns n p;
  marks = with_operators marking (marked_operators word_of);
  tells = record { local = λ inner l turns n p. after_local (marked_operators word_of) inner l marking turns n p; told = λ inner t l turns n p. after_told word_of inner t l turns n p };
  same = λ inner other_inner s turns n p ts. after_same (Unit {0}) (trees temporal_grammar) marking (marks_of temporal_grammar) written_operators (marked_operators word_of) forget (λ k. refl) (λ i. refl) (λ word o a b f. refl) (λ word o f g. refl) inner other_inner s turns n p ts;
}

-- in first-order logic nothing stands after a name but an atom or a term
pub plain_after : (inner : Parser (WrittenFormula first_order)) (d turns : ℕ) → FormulaRules (grammar plain) d turns inner → AfterRules (grammar plain) d turns (plainly (trees (grammar plain)) inner turns)
plain_after inner d turns r = record {
  plain = λ n p us alone. refl;
  back = λ x us left lt h g. absurd (none_taken x);
  sound = after_name_is_sound (grammar plain) d turns;
  viable = λ n p us e lt h. rolled_stops (grammar plain) d (name_at n p ∷ []) us e (after_name_stops (grammar plain) d turns n p us e lt h);
}

abbrev pub plain_reader : Reader (grammar plain)
plain_reader = record {
  after = plainly (trees (grammar plain));
  rules = plain_after;
  local = λ inner l turns. after_name_local (trees (grammar plain)) turns;
  marks = plainly marking;
  tells = record { local = λ inner l turns. after_name_local marking turns; told = λ inner t l turns. after_name_told turns };
  same = λ inner other s turns. after_name_same (Unit {0}) (trees (grammar plain)) marking (marks_of (grammar plain)) turns;
}

-- of each language
abbrev pub reader : (n : Narrow) → Reader (grammar n)
reader plain = plain_reader
reader tense = temporal_reader
