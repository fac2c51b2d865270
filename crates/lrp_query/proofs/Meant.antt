-- The reader that makes raw queries reads what the written tree means.
use Rattle.std.proofs.Common.{◌≡◌, ℕ, inl, List, [], ◌∷◌, map, refl, ap, sym, subst, false}
use Rattle.lrp_model.specs.Texts.{Identifier}
use Rattle.lrp_model.specs.declared.tokens.Place.{Place}
use Rattle.lrp_model.specs.DatabaseMeaning.{integer_of}
use Rattle.lrp_model.specs.Tokens.{Tokens}
use Rattle.lrp_model.specs.Queries.{Language, WrittenFormula, WrittenTerm}
use Rattle.lrp_model.specs.declared.written.Located.{Located}
use Rattle.lrp_model.specs.Queries.Language.{first_order, temporal}
use Rattle.lrp_model.specs.Queries.WrittenFormula.{hole}
use Rattle.lrp_model.specs.QueryMeaning.{term_kind, raw_argument, raw_term, raw_form, raw_forms, raw_question}
use Rattle.lrp_model.specs.RawQueries.{RawForm, raw, raw_atom, no_raws, raw_and, raw_or}
use Rattle.lrp_text.specs.Parsers.{Parser}
use Rattle.lrp_query.specs.Rules.{raws, after_name, plainly, query_with, query_over}
use Rattle.lrp_query.specs.Grammars.{meant, operators_in, after_in, query_in}
use Rattle.lrp_query.proofs.Layers.{trees}
use Rattle.lrp_query.proofs.Languages.{Narrow, plain, tense, language_of, arguments, further, grammar, written_operators}
use Rattle.lrp_query.proofs.LanguageReaders.{written_after, reader}
use Rattle.lrp_query.proofs.Natural.{mapped, Same, Mapping, cut_same, unmarked, after_name_same, query_same}
use Rattle.lrp_query.proofs.OperatorLaws.{after_same}
use Rattle.lrp_query.proofs.After.{wordless}

-- the further members as a list
further_raws : {l : Language} (g : WrittenFormula l) (gs : List (WrittenFormula l)) → raws (map raw_form (g ∷ gs)) ≡ raw_forms (further g gs)
further_raws g [] = refl
further_raws g (h ∷ gs) = ap (raw (raw_form g)) (further_raws h gs)

-- arguments that are terms mean what these do
arguments_meant : (l : Language) (ts : List (Located WrittenTerm)) → map (raw_argument {l = l}) (arguments {l = l} ts) ≡ map raw_term ts
arguments_meant l [] = refl
arguments_meant l (t ∷ ts) = ap (λ rest. raw_term t ∷ rest) (arguments_meant l ts)

-- raw queries are made from written ones
abbrev meaning : (n : Narrow) → Mapping ⊥ (trees (grammar n)) meant
meaning n = record {
  kind = term_kind;
  term = raw_term;
  formula = raw_form;
  question = raw_question;
  kind_is = λ t. refl;
  term_is = λ p k. refl;
  atom_is = λ p r ts. ap (raw_atom p r) (sym (arguments_meant (language_of n) ts));
  comparison_is = λ l op r. refl;
  membership_is = λ l i k. refl;
  negation_is = λ p f. refl;
  conjunction_is = λ p f g fs. ap (λ x. raw_and p (raw (raw_form f) x)) (further_raws g fs);
  disjunction_is = λ p f g fs. ap (λ x. raw_or p (raw (raw_form f) x)) (further_raws g fs);
  implication_is = λ p f g. refl;
  parenthesis_is = λ p f. refl;
  existential_is = λ p c f. refl;
  universal_is = λ p c f. refl;
  question_is = λ cs f. refl;
  cut_is = λ t. inl (cut_same raw_form (hole t.place) (raw_or t.place no_raws) refl t.token);
}

-- in first-order logic both read alike after a name, since none is the first word of an operator
after_meant : (inner : Parser RawForm) (turns : ℕ) (n : Identifier) (p : Place) (ts : Tokens) → Same ⊥ (trees (grammar plain)).cut raw_form (after_name false (trees (grammar plain)) turns n p ts) (after_in first_order inner turns n p ts)
after_meant inner turns n p ts =
    subst (Same ⊥ (trees (grammar plain)).cut raw_form (after_name false (trees (grammar plain)) turns n p ts)) (sym (wordless meant (operators_in first_order) inner turns n p ts refl)) (after_name_same ⊥ (trees (grammar plain)) meant (meaning plain) turns n p ts)

-- a query is read as the raw one that it means
pub query_meant : (n : Narrow) (turns : ℕ) (ts : Tokens) → query_in (language_of n) turns ts ≡ mapped raw_question (query_with (trees (grammar n)) (reader n).after turns ts)
unfolding query_with query_over
query_meant plain turns ts = unmarked raw_question (query_with (trees (grammar plain)) (plainly (trees (grammar plain))) turns ts) (query_in first_order turns ts) (query_same ⊥ (trees (grammar plain)) meant (meaning plain) (plainly (trees (grammar plain))) (after_in first_order) (λ inner other same n p q us. after_meant other n p q us) turns ts)
query_meant tense turns ts =
    unmarked raw_question (query_with (trees (grammar tense)) written_after turns ts) (query_in temporal turns ts)
    (query_same ⊥ (trees (grammar tense)) meant (meaning tense) written_after (after_in temporal) (λ inner other same n p i us. after_same ⊥ (trees (grammar tense)) meant (meaning tense) written_operators (operators_in temporal) integer_of (λ k. refl) (λ i. refl) (λ word o a b f. refl) (λ word o f g. refl) inner other same n p i us) turns ts)
