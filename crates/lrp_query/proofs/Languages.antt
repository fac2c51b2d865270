-- The languages of queries: their formulas as layers.
use Rattle.std.proofs.Common.{◌≡◌, ◌↔◌, ◌≤◌, ℕ, suc, List, [], ◌∷◌, ◌++◌, refl, ap}
use Rattle.std.specs.List.{AllByRecursion}
use Rattle.lrp_model.specs.Texts.{Identifier}
use Rattle.lrp_model.specs.declared.tokens.Symbol.TheVariants.{Open, Close, Comma}
use Rattle.lrp_model.specs.declared.tokens.Word.{Word}
use Rattle.lrp_model.specs.declared.tokens.Word.TheVariants.{And, Or}
use Rattle.lrp_model.specs.declared.tokens.Place.{Place}
use Rattle.lrp_model.specs.declared.written.Integer.{Integer}
use Rattle.lrp_model.specs.declared.raw.Ranged.{Ranged}
use Rattle.lrp_model.specs.declared.raw.Paired.{Paired}
use Rattle.lrp_model.specs.Limits.{greatest_number}
use Rattle.lrp_model.specs.Tokens.{Part, located_text, separated}
use Rattle.lrp_model.specs.Tokens.Token.{name_token, word_token, symbol_token}
use Rattle.lrp_model.specs.Tokens.Part.{at, any}
use Rattle.lrp_model.specs.RawQueries.{Operator}
use Rattle.lrp_model.specs.Queries.{Language, TakesOperators, TakesWide, IsFormula, WrittenArgument, WrittenTerm, argument_text, term_text, FitsArgument, FitsTerm, WrittenFormula, FurtherMembers, WrittenQuery, formula_text, members_text, interval_text, ranged_word, paired_word, FitsSizes, FitSizes, FitsDepth, FitDepth, FitsQuery}
use Rattle.lrp_model.specs.Queries.Language.{first_order, temporal, wide}
use Rattle.lrp_model.specs.Queries.WrittenArgument.{argument, star}
use Rattle.lrp_model.specs.declared.written.Located.{Located}
use Rattle.lrp_model.specs.Databases.{comma}
use Rattle.lrp_model.specs.Queries.WrittenFormula.{atom_formula as written_atom, compared as written_compared, member as written_member, denied as written_denied, all_of as written_all, any_of as written_any, implied as written_implied, group as written_group, some as written_some, every as written_every, ranged as written_range, paired as written_pair, differing as written_differing, several as written_several, bare_all as written_bare_all, bare_any as written_bare_any, bare_chain as written_bare_chain, chain as written_chain, hole as written_hole}
use Rattle.lrp_model.specs.Queries.FurtherMembers.{last, more}
use Rattle.lrp_query.specs.OperatorRules.{OperatorTrees}
use Rattle.lrp_query.specs.Grammars.{word_of, opened_operator}
use Rattle.lrp_query.proofs.Layers.{Layer, atom, compared, member, denied, all_of, any_of, implied, group, some, every, hole, other, IsHole, Others, Grammar, layer_text, LayerFits}

-- ---- members

-- the members after the first one
abbrev pub further : {l : Language} → WrittenFormula l → List (WrittenFormula l) → FurtherMembers l
further f [] = last f
further f (g ∷ gs) = more f (further g gs)

-- as a list: the first one, and those after it
abbrev pub first_of : {l : Language} → FurtherMembers l → WrittenFormula l
first_of (last f) = f
first_of (more f fs) = f

abbrev pub rest_of : {l : Language} → FurtherMembers l → List (WrittenFormula l)
rest_of (last f) = []
rest_of (more f fs) = first_of fs ∷ rest_of fs

listed_again : {l : Language} (fs : FurtherMembers l) → further (first_of fs) (rest_of fs) ≡ fs
listed_again (last f) = refl
listed_again (more f fs) = ap (more f) (listed_again fs)

-- they are spelled as a list
members_spell : {l : Language} (w : Word) (g : WrittenFormula l) (gs : List (WrittenFormula l)) → members_text w (further g gs) ≡ any (word_token w) ∷ separated (any (word_token w)) formula_text (g ∷ gs)
members_spell w g [] = refl
members_spell w g (h ∷ gs) = ap (λ ps. any (word_token w) ∷ (formula_text g ++ ps)) (members_spell w h gs)

-- lawful with so much depth left
abbrev pub FitsAt : {l : Language} → ℕ → WrittenFormula l → Type 0
FitsAt d f = FitsSizes f × FitsDepth f d

-- they are lawful where each of them is
members_fit : {l : Language} (d : ℕ) (g : WrittenFormula l) (gs : List (WrittenFormula l)) → AllByRecursion (FitsAt d) (g ∷ gs) → FitSizes (further g gs) × FitDepth (further g gs) d
members_fit d g [] a = (a.0.0, a.0.1)
members_fit d g (h ∷ gs) a = let k = members_fit d h gs a.1 in ((a.0.0, k.0), (a.0.1, k.1))

-- and each of them is where they are
each_fits : {l : Language} (d : ℕ) (g : WrittenFormula l) (gs : List (WrittenFormula l)) → FitSizes (further g gs) → FitDepth (further g gs) d → AllByRecursion (FitsAt d) (g ∷ gs)
each_fits d g [] s k = ((s, k), tt)
each_fits d g (h ∷ gs) s k = ((s.0, k.0), each_fits d h gs s.1 k.1)

-- ---- arguments

-- where no `*` is taken, arguments of an atom are terms
abbrev pub term_in : {l : Language} → (TakesWide l → ⊥) → WrittenArgument l → WrittenTerm
term_in narrow (argument t) = t
term_in narrow (star t) = absurd (narrow t)

abbrev pub terms_in : {l : Language} → (TakesWide l → ⊥) → List (Located (WrittenArgument l)) → List (Located WrittenTerm)
terms_in narrow [] = []
terms_in narrow (b ∷ bs) = record { item = term_in narrow b.item; place = b.place } ∷ terms_in narrow bs

abbrev pub arguments : {l : Language} → List (Located WrittenTerm) → List (Located (WrittenArgument l))
arguments [] = []
arguments (t ∷ ts) = record { item = argument t.item; place = t.place } ∷ arguments ts

argument_again : {l : Language} (narrow : TakesWide l → ⊥) (a : WrittenArgument l) → argument (term_in narrow a) ≡ a
argument_again narrow (argument t) = refl
argument_again narrow (star t) = absurd (narrow t)

arguments_again : {l : Language} (narrow : TakesWide l → ⊥) (bs : List (Located (WrittenArgument l))) → arguments (terms_in narrow bs) ≡ bs
arguments_again narrow [] = refl
arguments_again narrow (b ∷ bs) = rw (argument_again narrow b.item, arguments_again narrow bs) refl

arguments_spell : (l : Language) (ts : List (Located WrittenTerm)) → separated comma (located_text (argument_text {l = l})) (arguments {l = l} ts) ≡ separated comma (located_text term_text) ts
arguments_spell l [] = refl
arguments_spell l (t ∷ []) = refl
arguments_spell l (t ∷ (u ∷ ts)) = ap (λ ps. located_text term_text t ++ comma ∷ ps) (arguments_spell l (u ∷ ts))

arguments_fit : (l : Language) (ts : List (Located WrittenTerm)) → AllByRecursion (λ a. FitsArgument a.item) (arguments {l = l} ts) ↔ AllByRecursion (λ t. FitsTerm t.item) ts
arguments_fit l [] = ((λ h. h), λ h. h)
arguments_fit l (t ∷ ts) = let k = arguments_fit l ts in ((λ h. (h.0, k.0 h.1)), λ h. (h.0, k.1 h.1))

-- each formula of these languages is one of the grammar
pub plain_formula : (l : Language) → (TakesWide l → ⊥) → (f : WrittenFormula l) → IsFormula l f
plain_formula first_order narrow f = tt
plain_formula temporal narrow f = tt
plain_formula wide narrow f = absurd (narrow refl)

pub one_formula : (l : Language) → (TakesWide l → ⊥) → (f : WrittenFormula l) → (a b : IsFormula l f) → a ≡ b
one_formula first_order narrow f a b = refl
one_formula temporal narrow f a b = refl
one_formula wide narrow f a b = absurd (narrow refl)

-- ---- operators

-- an operator over formulas, in a language that takes operators
pub data OperatorOver (l : Language) : Type 0 where
  over_range : TakesOperators l → Ranged → Operator → Integer → Integer → WrittenFormula l → OperatorOver l
  over_pair : TakesOperators l → Paired → Operator → WrittenFormula l → WrittenFormula l → OperatorOver l

abbrev pub rolled_operator : {l : Language} → OperatorOver l → WrittenFormula l
rolled_operator (over_range t word o from to f) = written_range t word o from to f
rolled_operator (over_pair t word o f g) = written_pair t word o f g

abbrev pub written_ranged : Ranged → Operator → Integer → Integer → WrittenFormula temporal → WrittenFormula temporal
written_ranged word o from to f = written_range tt word o from to f

abbrev pub written_paired : Paired → Operator → WrittenFormula temporal → WrittenFormula temporal → WrittenFormula temporal
written_paired word o f g = written_pair tt word o f g

abbrev pub written_operators : OperatorTrees Ranged Paired Integer (WrittenFormula temporal)
written_operators = record { word_of = word_of; number_of = λ i. i; ranged = λ word o. written_ranged word (opened_operator o); paired = λ word o. written_paired word (opened_operator o) }

-- no formula of first-order logic is one
pub none_taken : OperatorOver first_order → ⊥
none_taken (over_range t word o from to f) = t
none_taken (over_pair t word o f g) = t

-- where it begins
abbrev pub place_of : {l : Language} → OperatorOver l → Place
place_of (over_range t word o from to f) = o.place
place_of (over_pair t word o f g) = o.place

abbrev pub first_word : {l : Language} → OperatorOver l → Identifier
first_word (over_range t word o from to f) = ranged_word word
first_word (over_pair t word o f g) = paired_word word

-- what stands after its first word
abbrev pub ranged_rest : {l : Language} → Operator → Integer → Integer → WrittenFormula l → List Part
ranged_rest o from to f = at o.name_place (name_token o.name) ∷ any (symbol_token Open) ∷ (interval_text from to ++ formula_text f)

abbrev pub paired_rest : {l : Language} → Operator → WrittenFormula l → WrittenFormula l → List Part
paired_rest o f g = at o.name_place (name_token o.name) ∷ any (symbol_token Open) ∷ (formula_text f ++ any (symbol_token Comma) ∷ (formula_text g ++ any (symbol_token Close) ∷ []))

abbrev pub after_first : {l : Language} → OperatorOver l → List Part
after_first (over_range t word o from to f) = ranged_rest o from to f
after_first (over_pair t word o f g) = paired_rest o f g

-- when it is lawful over formulas with so much depth left
abbrev pub FitsOperator : {l : Language} → ℕ → OperatorOver l → Type 0
FitsOperator d (over_range t word o from to f) = ((from.size ≤ greatest_number) × (to.size ≤ greatest_number)) × FitsAt d f
FitsOperator d (over_pair t word o f g) = FitsAt d f × FitsAt d g

abbrev pub operators : {l : Language} → Others (OperatorOver l)
operators = record { place = place_of; word = first_word; rest = after_first; Fits = FitsOperator }

-- ---- the grammar

-- a formula of a layer
abbrev pub roll : {l : Language} → Layer (WrittenFormula l) (OperatorOver l) → WrittenFormula l
roll (atom p n ts) = written_atom p n (arguments ts)
roll (compared l op r) = written_compared l op r
roll (member t i k) = written_member t i k
roll (denied p f) = written_denied p f
roll (all_of p f g gs) = written_all p f (further g gs)
roll (any_of p f g gs) = written_any p f (further g gs)
roll (implied p f g) = written_implied p f g
roll (group p f) = written_group p f
roll (some p c f) = written_some p c f
roll (every p c f) = written_every p c f
roll (hole p) = written_hole p
roll (other x) = rolled_operator x

-- the layer of a formula
abbrev pub unroll : {l : Language} → (TakesWide l → ⊥) → WrittenFormula l → Layer (WrittenFormula l) (OperatorOver l)
unroll narrow (written_atom p n ts) = atom p n (terms_in narrow ts)
unroll narrow (written_compared l op r) = compared l op r
unroll narrow (written_member t i k) = member t i k
unroll narrow (written_denied p f) = denied p f
unroll narrow (written_all p f fs) = all_of p f (first_of fs) (rest_of fs)
unroll narrow (written_any p f fs) = any_of p f (first_of fs) (rest_of fs)
unroll narrow (written_implied p f g) = implied p f g
unroll narrow (written_group p f) = group p f
unroll narrow (written_some p c f) = some p c f
unroll narrow (written_every p c f) = every p c f
unroll narrow (written_range t word o from to f) = other (over_range t word o from to f)
unroll narrow (written_pair t word o f g) = other (over_pair t word o f g)
unroll narrow (written_hole p) = hole p
unroll narrow (written_differing t l r) = absurd (narrow t)
unroll narrow (written_several t q p ns c f) = absurd (narrow t)
unroll narrow (written_bare_all t f fs) = absurd (narrow t)
unroll narrow (written_bare_any t f fs) = absurd (narrow t)
unroll narrow (written_bare_chain t f fs) = absurd (narrow t)
unroll narrow (written_chain t p f g fs) = absurd (narrow t)

pub unrolled : {l : Language} (narrow : TakesWide l → ⊥) (f : WrittenFormula l) → roll (unroll narrow f) ≡ f
unrolled narrow (written_atom p n ts) = ap (written_atom p n) (arguments_again narrow ts)
unrolled narrow (written_compared l op r) = refl
unrolled narrow (written_member t i k) = refl
unrolled narrow (written_denied p f) = refl
unrolled narrow (written_all p f fs) = ap (written_all p f) (listed_again fs)
unrolled narrow (written_any p f fs) = ap (written_any p f) (listed_again fs)
unrolled narrow (written_implied p f g) = refl
unrolled narrow (written_group p f) = refl
unrolled narrow (written_some p c f) = refl
unrolled narrow (written_every p c f) = refl
unrolled narrow (written_range t word o from to f) = refl
unrolled narrow (written_pair t word o f g) = refl
unrolled narrow (written_hole p) = refl
unrolled narrow (written_differing t l r) = absurd (narrow t)
unrolled narrow (written_several t q p ns c f) = absurd (narrow t)
unrolled narrow (written_bare_all t f fs) = absurd (narrow t)
unrolled narrow (written_bare_any t f fs) = absurd (narrow t)
unrolled narrow (written_bare_chain t f fs) = absurd (narrow t)
unrolled narrow (written_chain t p f g fs) = absurd (narrow t)

pub text_is : {l : Language} (x : Layer (WrittenFormula l) (OperatorOver l)) → formula_text (roll x) ≡ layer_text operators formula_text x
text_is {l = l} (atom p n ts) = ap (λ ps. at p (name_token n) ∷ any (symbol_token Open) ∷ (ps ++ any (symbol_token Close) ∷ [])) (arguments_spell l ts)
text_is (compared l op r) = refl
text_is (member t i k) = refl
text_is (denied p f) = refl
text_is (all_of p f g gs) = ap (λ ps. at p (symbol_token Open) ∷ (formula_text f ++ (ps ++ any (symbol_token Close) ∷ []))) (members_spell And g gs)
text_is (any_of p f g gs) = ap (λ ps. at p (symbol_token Open) ∷ (formula_text f ++ (ps ++ any (symbol_token Close) ∷ []))) (members_spell Or g gs)
text_is (implied p f g) = refl
text_is (group p f) = refl
text_is (some p c f) = refl
text_is (every p c f) = refl
text_is (hole p) = refl
text_is (other (over_range t word o from to f)) = refl
text_is (other (over_pair t word o f g)) = refl

pub fits_is : {l : Language} (d : ℕ) (x : Layer (WrittenFormula l) (OperatorOver l)) → FitsAt (suc d) (roll x) ↔ LayerFits operators FitsAt d x
fits_is {l = l} d (atom p n ts) = let k = arguments_fit l ts in ((λ f. k.0 f.0), λ f. (k.1 f, tt))
fits_is d (compared l op r) = ((λ f. f.0), λ f. (f, tt))
fits_is d (member t i k) = ((λ f. f.0), λ f. (f, tt))
fits_is d (denied p f) = ((λ k. k), λ k. k)
fits_is d (all_of p f g gs) = ((λ k. ((k.0.0, k.1.0), each_fits d g gs k.0.1 k.1.1)), λ k. let m = members_fit d g gs k.1 in ((k.0.0, m.0), (k.0.1, m.1)))
fits_is d (any_of p f g gs) = ((λ k. ((k.0.0, k.1.0), each_fits d g gs k.0.1 k.1.1)), λ k. let m = members_fit d g gs k.1 in ((k.0.0, m.0), (k.0.1, m.1)))
fits_is d (implied p f g) = ((λ k. ((k.0.0, k.1.0), (k.0.1, k.1.1))), λ k. ((k.0.0, k.1.0), (k.0.1, k.1.1)))
fits_is d (group p f) = ((λ k. k), λ k. k)
fits_is d (some p c f) = ((λ k. k), λ k. k)
fits_is d (every p c f) = ((λ k. k), λ k. k)
fits_is d (hole p) = ((λ k. k.1), λ k. absurd k)
fits_is d (other (over_range t word o from to f)) = ((λ k. ((k.0.0, k.0.1), (k.0.2, k.1))), λ k. ((k.0.0, k.0.1, k.1.0), k.1.1))
fits_is d (other (over_pair t word o f g)) = ((λ k. ((k.0.0, k.1.0), (k.0.1, k.1.1))), λ k. ((k.0.0, k.1.0), (k.0.1, k.1.1)))

pub only_hole : {l : Language} (x : Layer (WrittenFormula l) (OperatorOver l)) → FitsAt 0 (roll x) → IsHole x
only_hole (hole p) f = tt
only_hole (atom p n ts) f = f.1
only_hole (compared l op r) f = f.1
only_hole (member t i k) f = f.1
only_hole (denied p g) f = f.1
only_hole (all_of p g h hs) f = f.1
only_hole (any_of p g h hs) f = f.1
only_hole (implied p g h) f = f.1
only_hole (group p g) f = f.1
only_hole (some p c g) f = f.1
only_hole (every p c g) f = f.1
only_hole (other (over_range t word o from to g)) f = f.1
only_hole (other (over_pair t word o g h)) f = f.1

-- the languages without wide formulas
pub data Narrow : Type 0 where
  plain : Narrow
  tense : Narrow

abbrev pub language_of : Narrow → Language
language_of plain = first_order
language_of tense = temporal

pub not_wide : (n : Narrow) → TakesWide (language_of n) → ⊥
not_wide plain t = absurd cc
not_wide tense t = absurd cc

-- the grammar of such a language
abbrev pub grammar : (n : Narrow) → Grammar (WrittenFormula (language_of n)) (OperatorOver (language_of n)) (WrittenQuery (language_of n))
grammar n = record {
  others = operators;
  roll = roll;
  unroll = unroll (not_wide n);
  unrolled = unrolled (not_wide n);
  text = formula_text;
  text_is = text_is;
  Fits = FitsAt;
  fits_is = fits_is;
  hole_fits = λ p. (tt, tt);
  only_hole = only_hole;
  question = λ cs f. record { head = cs; body = f; formula = plain_formula (language_of n) (not_wide n) f };
  head = λ q. q.head;
  body = λ q. q.body;
  whole = λ q. ap (λ h. record { head = q.head; body = q.body; formula = h }) (one_formula (language_of n) (not_wide n) q.body (plain_formula (language_of n) (not_wide n) q.body) q.formula);
  head_is = λ cs f. refl;
  body_is = λ cs f. refl;
  FitsQuery = FitsQuery;
  query_fits = λ q. ((λ l. (l.sizes, l.depth)), λ k. record { sizes = k.0; depth = k.1 });
}

abbrev pub temporal_grammar : Grammar (WrittenFormula temporal) (OperatorOver temporal) (WrittenQuery temporal)
temporal_grammar = grammar tense
