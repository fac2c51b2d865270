-- What the reader of a grammar owes: the rule after a name that begins a formula, and the same rule of the reader that marks.
use Rattle.std.proofs.Common.{ℕ, inr, refl}
use Rattle.lrp_model.specs.Texts.{Identifier}
use Rattle.lrp_model.specs.declared.tokens.Place.{Place}
use Rattle.lrp_model.specs.Tokens.{Tokens}
use Rattle.lrp_text.specs.Parsers.{Parser}
use Rattle.lrp_text.proofs.Local.{Local}
use Rattle.lrp_query.specs.Rules.{AfterName}
use Rattle.lrp_query.proofs.Layers.{Grammar, trees, FormulaRules, AfterRules}
use Rattle.lrp_query.proofs.Natural.{Same, Mapping}
use Rattle.lrp_query.proofs.Marks.{marking, AfterTells}

-- nothing is kept
abbrev pub forget : {A : Type 0} → A → Unit {0}
forget a = tt

-- the reader that marks, against the one that makes written trees
abbrev pub marks_of : {F X Q : Type 0} → (grammar : Grammar F X Q) → Mapping (Unit {0}) (trees grammar) marking
marks_of grammar = record {
  kind = forget;
  term = forget;
  formula = forget;
  question = forget;
  kind_is = λ t. refl;
  term_is = λ p k. refl;
  atom_is = λ p n ts. refl;
  comparison_is = λ l op r. refl;
  membership_is = λ l i k. refl;
  negation_is = λ p f. refl;
  conjunction_is = λ p f g fs. refl;
  disjunction_is = λ p f g fs. refl;
  implication_is = λ p f g. refl;
  parenthesis_is = λ p f. refl;
  existential_is = λ p c f. refl;
  universal_is = λ p c f. refl;
  question_is = λ cs f. refl;
  cut_is = λ t. inr (tt, refl);
}

-- the reader of a grammar
pub record Reader {F X Q : Type 0} (grammar : Grammar F X Q) : Type 0 where
  pub after : AfterName F
  pub rules : (inner : Parser F) (d turns : ℕ) → FormulaRules grammar d turns inner → AfterRules grammar d turns (after inner turns)
  pub local : (inner : Parser F) → Local inner → (turns : ℕ) (n : Identifier) (p : Place) → Local (after inner turns n p)
  pub marks : AfterName (Unit {0})
  pub tells : AfterTells marks
  pub same : (inner : Parser F) (other : Parser (Unit {0})) → ((ts : Tokens) → Same (Unit {0}) (trees grammar).cut forget (inner ts) (other ts)) → (turns : ℕ) (n : Identifier) (p : Place) (ts : Tokens) → Same (Unit {0}) (trees grammar).cut forget (after inner turns n p ts) (marks other turns n p ts)
