-- Grammars of queries: formulas by their outermost layer, so that what holds of the rules is said once for each grammar.
use Rattle.std.proofs.Common.{◌≡◌, ◌↔◌, ◌≤◌, ◌<◌, ℕ, suc, Bool, List, [], ◌∷◌, ◌++◌, length, refl, sym, subst, Ok, Err, false}
use Rattle.std.specs.List.{AllByRecursion}
use Rattle.lrp_model.specs.Texts.{Identifier}
use Rattle.lrp_model.specs.declared.tokens.Symbol.TheVariants.{Open, Close, Plus}
use Rattle.lrp_model.specs.declared.tokens.Word.TheVariants.{Letter, Exists, Forall, Not, And, Or, Implies, In}
use Rattle.lrp_model.specs.declared.tokens.Place.{Place}
use Rattle.lrp_model.specs.declared.written.Located.{Located}
use Rattle.lrp_model.specs.declared.written.Integer.{Integer}
use Rattle.lrp_model.specs.declared.formulas.Op.{Op}
use Rattle.lrp_model.specs.declared.formulas.Op.TheVariants.{Eq}
use Rattle.lrp_model.specs.Lexing.{start}
use Rattle.lrp_model.specs.declared.raw.RawColumn.{RawColumn}
use Rattle.lrp_model.specs.Tokens.{Tokens, Part, Takes, Spells, located_text, separated}
use Rattle.lrp_model.specs.Tokens.Token.{name_token, word_token, number_token, symbol_token, hole_token}
use Rattle.lrp_model.specs.Tokens.Part.{at, any}
use Rattle.lrp_model.specs.declared.tokens.Fault.{Fault}
use Rattle.lrp_model.specs.Refused.{Stops, TextOf}
use Rattle.lrp_model.specs.Limits.{greatest_number}
use Rattle.lrp_model.specs.Columns.{column_text}
use Rattle.lrp_model.specs.Databases.{integer_text, comma}
use Rattle.lrp_model.specs.Queries.{WrittenTerm, term_text, op_symbol, FitsTerm}
use Rattle.lrp_text.specs.Parsers.{Parser, ParseOutcome}
use Rattle.lrp_text.proofs.Complete.{Answers, answers_as, IsNot}
use Rattle.lrp_text.proofs.Sound.{Sound}
use Rattle.lrp_text.proofs.Viable.{ViableBelow, after_front, fits_as}
use Rattle.lrp_text.specs.Taking.{is_name}
use Rattle.lrp_query.specs.Rules.{Trees, cut_at, after_name}
use Rattle.lrp_text.proofs.OffsetRule.{NoShift}
use Rattle.lrp_query.proofs.TermRules.{written_terms}

-- ---- layers

-- a formula over others; `other` is what a grammar has beyond that of queries
pub data Layer (F X : Type 0) : Type 0 where
  atom : Place → Identifier → List (Located WrittenTerm) → Layer F X
  compared : Located WrittenTerm → Op → Located WrittenTerm → Layer F X
  member : Located WrittenTerm → Integer → ℕ → Layer F X
  denied : Place → F → Layer F X
  all_of : Place → F → F → List F → Layer F X
  any_of : Place → F → F → List F → Layer F X
  implied : Place → F → F → Layer F X
  group : Place → F → Layer F X
  some : Place → RawColumn → F → Layer F X
  every : Place → RawColumn → F → Layer F X
  hole : Place → Layer F X
  other : X → Layer F X

-- two members or more
abbrev pub many_members : {F X : Type 0} → (Place → F → F → List F → Layer F X) → Place → List F → Layer F X
many_members make p (f ∷ g ∷ gs) = make p f g gs
many_members make p _ = hole p

-- the trees of a grammar whose formulas are made of layers; no rule of such a grammar asks for a `!=` or for a formula's place
abbrev pub layered : {F X Q : Type 0} → (Layer F X → F) → (List RawColumn → F → Q) → Trees WrittenTerm (Located WrittenTerm) F Q
layered roll question = record {
  terms = written_terms;
  formulas = record {
    atom_of = λ p n ts. roll (atom p n ts);
    comparison = λ l op r. roll (compared l op r);
    difference = λ l r. roll (denied l.place (roll (compared l Eq r)));
    membership = λ t i k. roll (member t i k);
    negation = λ p f. roll (denied p f);
    conjunction = λ p fs. roll (many_members all_of p fs);
    disjunction = λ p fs. roll (many_members any_of p fs);
    implication = λ p f g. roll (implied p f g);
    parenthesis = λ p f. roll (group p f);
    existential = λ p c f. roll (some p c f);
    universal = λ p c f. roll (every p c f);
    place_of = λ f. start;
    at_place = λ p f. f;
  };
  cut = λ t. cut_at (roll (hole t.place)) t.token;
  question = question;
}

-- ---- grammars

-- what a grammar has beyond that of queries: it begins with a name, and is lawful with so much depth left for the formulas inside
pub record Others (X : Type 0) : Type 1 where
  pub place : X → Place
  pub word : X → Identifier
  pub rest : X → List Part
  pub Fits : ℕ → X → Type 0

-- what spells a layer
abbrev pub layer_text : {F X : Type 0} → Others X → (F → List Part) → Layer F X → List Part
layer_text others text (atom p n ts) = at p (name_token n) ∷ any (symbol_token Open) ∷ (separated comma (located_text term_text) ts ++ any (symbol_token Close) ∷ [])
layer_text others text (compared l op r) = located_text term_text l ++ any (symbol_token (op_symbol op)) ∷ located_text term_text r
layer_text others text (member t i k) = located_text term_text t ++ any (word_token In) ∷ (integer_text i ++ any (symbol_token Plus) ∷ any (number_token k) ∷ any (word_token Letter) ∷ [])
layer_text others text (denied p f) = at p (word_token Not) ∷ text f
layer_text others text (all_of p f g gs) = at p (symbol_token Open) ∷ (text f ++ any (word_token And) ∷ (separated (any (word_token And)) text (g ∷ gs) ++ any (symbol_token Close) ∷ []))
layer_text others text (any_of p f g gs) = at p (symbol_token Open) ∷ (text f ++ any (word_token Or) ∷ (separated (any (word_token Or)) text (g ∷ gs) ++ any (symbol_token Close) ∷ []))
layer_text others text (implied p f g) = at p (symbol_token Open) ∷ (text f ++ any (word_token Implies) ∷ (text g ++ any (symbol_token Close) ∷ []))
layer_text others text (group p f) = at p (symbol_token Open) ∷ (text f ++ any (symbol_token Close) ∷ [])
layer_text others text (some p c f) = at p (word_token Exists) ∷ (column_text c ++ text f)
layer_text others text (every p c f) = at p (word_token Forall) ∷ (column_text c ++ text f)
layer_text others text (hole p) = at p hole_token ∷ []
layer_text others text (other x) = at (others.place x) (name_token (others.word x)) ∷ others.rest x

-- which layers are lawful over formulas with so much depth left
abbrev pub LayerFits : {F X : Type 0} → Others X → (ℕ → F → Type 0) → ℕ → Layer F X → Type 0
LayerFits others Fits d (atom p n ts) = AllByRecursion (λ t. FitsTerm t.item) ts
LayerFits others Fits d (compared l op r) = FitsTerm l.item × FitsTerm r.item
LayerFits others Fits d (member t i k) = FitsTerm t.item × (i.size ≤ greatest_number) × (1 ≤ k) × (k ≤ greatest_number)
LayerFits others Fits d (denied p f) = Fits d f
LayerFits others Fits d (all_of p f g gs) = Fits d f × AllByRecursion (Fits d) (g ∷ gs)
LayerFits others Fits d (any_of p f g gs) = Fits d f × AllByRecursion (Fits d) (g ∷ gs)
LayerFits others Fits d (implied p f g) = Fits d f × Fits d g
LayerFits others Fits d (group p f) = Fits d f
LayerFits others Fits d (some p c f) = Fits d f
LayerFits others Fits d (every p c f) = Fits d f
LayerFits others Fits d (hole p) = ⊥
LayerFits others Fits d (other x) = others.Fits d x

-- a hole
abbrev pub IsHole : {F X : Type 0} → Layer F X → Type 0
IsHole (hole p) = Unit {0}
IsHole _ = ⊥

-- a grammar: its formulas are rolled layers, and with no depth left holes alone are lawful
pub record Grammar (F X Q : Type 0) : Type 1 where
  pub others : Others X
  pub roll : Layer F X → F
  pub unroll : F → Layer F X
  pub unrolled : (f : F) → roll (unroll f) ≡ f
  pub text : F → List Part
  pub text_is : (l : Layer F X) → text (roll l) ≡ layer_text others text l
  pub Fits : ℕ → F → Type 0
  pub fits_is : (d : ℕ) (l : Layer F X) → Fits (suc d) (roll l) ↔ LayerFits others Fits d l
  pub hole_fits : (p : Place) → Fits 0 (roll (hole p))
  pub only_hole : (l : Layer F X) → Fits 0 (roll l) → IsHole l
  pub question : List RawColumn → F → Q
  pub head : Q → List RawColumn
  pub body : Q → F
  pub whole : (q : Q) → question (head q) (body q) ≡ q
  pub head_is : (cs : List RawColumn) (f : F) → head (question cs f) ≡ cs
  pub body_is : (cs : List RawColumn) (f : F) → body (question cs f) ≡ f
  pub FitsQuery : Q → Type 0
  pub query_fits : (q : Q) → FitsQuery q ↔ Fits 64 (body q)

-- the trees of a grammar
abbrev pub trees : {F X Q : Type 0} → Grammar F X Q → Trees WrittenTerm (Located WrittenTerm) F Q
trees g = layered g.roll g.question

-- a rule for formulas with so much depth left: complete below a number of tokens, sound, and viable below it
pub record FormulaRules {F X Q : Type 0} (g : Grammar F X Q) (d turns : ℕ) (p : Parser F) : Type 0 where
  pub back : (w : F) (ts left : Tokens) → length ts < turns → Takes (g.text w) ts left → NoShift left → Answers (p ts) w left (g.Fits d w)
  pub sound : Sound p g.text (g.Fits d)
  pub viable : ViableBelow turns p g.text (g.Fits d)

-- ---- layers as formulas

module _ {F X Q : Type 0} (g : Grammar F X Q) where
  -- what spells a layer of the grammar
  abbrev pub text_of : Layer F X → List Part
  text_of = layer_text g.others g.text

  -- which are lawful over formulas with so much depth left
  abbrev pub FitsLayer : ℕ → Layer F X → Type 0
  FitsLayer = LayerFits g.others g.Fits

  -- the texts of layers
  abbrev pub LayerTexts : ℕ → Bool → Tokens → Type 0
  LayerTexts d = TextOf text_of (FitsLayer d)

  -- the texts of formulas
  abbrev pub FormulaTexts : ℕ → Bool → Tokens → Type 0
  FormulaTexts d = TextOf g.text (g.Fits d)

  -- what is read is spelled by the tokens, and lawful
  abbrev pub IsFormula : ℕ → Tokens → F × Tokens → Type 0
  IsFormula d ts q = Takes (g.text q.0) ts q.1 × g.Fits d q.0

  -- a layer that is spelled and lawful is such a formula
  pub read_layer : (d : ℕ) (l : Layer F X) (ts us : Tokens) → Takes (text_of l) ts us → FitsLayer d l → IsFormula (suc d) ts (g.roll l, us)
  read_layer d l ts us h fit = (subst (λ ps. Takes ps ts us) (sym (g.text_is l)) h, (g.fits_is d l).1 fit)

  -- a text of a layer is one of a formula
  pub rolled : (d : ℕ) (c : Bool) (x : Tokens) → LayerTexts d c x → FormulaTexts (suc d) c x
  rolled d c x t = (g.roll t.0, fits_as (FitsLayer d t.0) (g.Fits (suc d) (g.roll t.0)) c (g.fits_is d t.0).1 t.1, subst (λ ps. Spells ps x) (sym (g.text_is t.0)) t.2)

  -- what stops as a layer stops as a formula
  pub rolled_stops : (d : ℕ) (head ts : Tokens) (e : Fault × Tokens) → Stops (λ c x. LayerTexts d c (head ++ x)) ts e → Stops (λ c x. FormulaTexts (suc d) c (head ++ x)) ts e
  rolled_stops d head ts e s = after_front (λ c x. LayerTexts d c (head ++ x)) (λ c x. FormulaTexts (suc d) c (head ++ x)) [] ts ts e refl (λ c x r. rolled d c (head ++ x) r) s

  -- a formula is read back where its layer is
  pub back_unrolled : (d : ℕ) (o : ParseOutcome F) (w : F) (left : Tokens) → Answers o (g.roll (g.unroll w)) left (FitsLayer d (g.unroll w)) → Answers o w left (g.Fits (suc d) w)
  back_unrolled d o w left a =
      let R : F → Type 0 = λ f. Answers o f left (g.Fits (suc d) f) in
      subst R (g.unrolled w) (answers_as o (g.roll (g.unroll w)) left (FitsLayer d (g.unroll w)) (g.Fits (suc d) (g.roll (g.unroll w))) (g.fits_is d (g.unroll w)).0 a)

  -- the tokens of a formula are those of its layer
  pub takes_unrolled : (w : F) (ts us : Tokens) → Takes (g.text w) ts us → Takes (text_of (g.unroll w)) ts us
  takes_unrolled w ts us h = subst (λ ps. Takes ps ts us) (g.text_is (g.unroll w)) (subst (λ f. Takes (g.text f) ts us) (sym (g.unrolled w)) h)

  -- what stands after a name that begins a formula: as in each grammar where no other name follows, and else what this one has beyond it
  pub record AfterRules (d turns : ℕ) (after_it : Identifier → Place → Parser F) : Type 0 where
    pub plain : (n : Identifier) (p : Place) (us : Tokens) → IsNot is_name us → after_it n p us ≡ after_name false (trees g) turns n p us
    pub back : (x : X) (us left : Tokens) → length us < turns → Takes (g.others.rest x) us left → NoShift left → Answers (after_it (g.others.word x) (g.others.place x) us) (g.roll (other x)) left (g.others.Fits d x)
    pub sound : (n : Identifier) (p : Place) (us : Tokens) (q : F × Tokens) → after_it n p us ≡ Ok q → IsFormula (suc d) (record { token = name_token n; place = p } ∷ us) q
    pub viable : (n : Identifier) (p : Place) (us : Tokens) (e : Fault × Tokens) → length us < turns → after_it n p us ≡ Err e → Stops (λ c x. FormulaTexts (suc d) c (record { token = name_token n; place = p } ∷ x)) us e
