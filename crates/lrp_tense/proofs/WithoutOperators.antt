-- A text of the grammar without operators is one of the grammar with them, and says the same.
use Rattle.std.proofs.Common.{◌≡◌, ℕ, zero, suc, List, [], ◌∷◌, ◌++◌, map, refl, ap, ap₂, sym, subst, ◌∙◌}
use Rattle.lrp_model.specs.declared.tokens.Symbol.TheVariants.{Open, Close, OpenBrace, CloseBrace, Bar}
use Rattle.lrp_model.specs.declared.tokens.Word.{Word}
use Rattle.lrp_model.specs.declared.tokens.Word.TheVariants.{Exists, Forall, Not, And, Or, Implies}
use Rattle.lrp_model.specs.Tokens.{Part, Spells, from, located_text, separated}
use Rattle.lrp_model.specs.Tokens.Token.{name_token, word_token, symbol_token, end_token}
use Rattle.lrp_model.specs.Tokens.Part.{at, any}
use Rattle.lrp_model.specs.Lexing.{tokens}
use Rattle.lrp_model.specs.Columns.{column_text}
use Rattle.lrp_model.specs.Databases.{comma}
use Rattle.lrp_model.specs.Queries.{WrittenArgument, argument_text, FitsArgument, WrittenFormula, FurtherMembers, WrittenQuery, formula_text, members_text, query_text, FitsSizes, FitSizes, FitsDepth, FitDepth}
use Rattle.lrp_model.specs.Queries.Language.{first_order, temporal}
use Rattle.lrp_model.specs.Queries.WrittenFormula.{atom_formula, compared, member, denied, all_of, any_of, implied, group, some, every, ranged, paired, differing, several, bare_all, bare_any, bare_chain, chain, hole}
use Rattle.lrp_model.specs.Queries.FurtherMembers.{last, more}
use Rattle.lrp_model.specs.QueryMeaning.{argument_kind, raw_argument, raw_form, raw_forms, raw_question}
use Rattle.lrp_model.specs.QueryReading.{IsQuery}
use Rattle.lrp_model.specs.RawQueries.{RawQuestion, raw_atom, raw_not, raw_and, raw_or, raw_implies, raw_group, raw_exists, raw_forall, raw, no_raws}
use Rattle.lrp_tense.specs.TenseReading.{IsTenseQuery}
use Rattle.lrp_tense.specs.Expanding.{expanded_question}
use Rattle.lrp_tense.proofs.Unchanged.{unchanged_query}
use Rattle.lrp_query.proofs.LanguageTexts.{one_query}
use Rattle.lrp_query.proofs.Languages.{tense}
use Rattle.lrp_model.specs.Queries.WrittenArgument.{argument, star}
use Rattle.lrp_model.specs.declared.written.Located.{Located}
use Rattle.lrp_model.specs.declared.raw.RawTerm.{RawTerm}
use Rattle.lrp_model.specs.declared.raw.RawTermKind.{RawTermKind}
use Rattle.std.specs.List.{AllByRecursion}
use Rattle.lrp_query.proofs.LawfulQueries.{narrow_first, plain_query}

-- the same arguments
abbrev same_argument : WrittenArgument first_order → WrittenArgument temporal
same_argument (argument t) = argument t
same_argument (star t) = absurd (narrow_first t)

abbrev same_arguments : List (Located (WrittenArgument first_order)) → List (Located (WrittenArgument temporal))
same_arguments [] = []
same_arguments (a ∷ rest) = record { item = same_argument a.item; place = a.place } ∷ same_arguments rest

argument_spelled : (a : WrittenArgument first_order) → argument_text (same_argument a) ≡ argument_text a
argument_spelled (argument t) = refl
argument_spelled (star t) = absurd (narrow_first t)

argument_fits : (a : WrittenArgument first_order) → FitsArgument a → FitsArgument (same_argument a)
argument_fits (argument t) h = h
argument_fits (star t) h = absurd (narrow_first t)

argument_means : (a : WrittenArgument first_order) → argument_kind (same_argument a) ≡ argument_kind a
argument_means (argument t) = refl
argument_means (star t) = absurd (narrow_first t)

same_arguments_text : (ts : List (Located (WrittenArgument first_order))) → separated comma (located_text argument_text) (same_arguments ts) ≡ separated comma (located_text argument_text) ts
same_arguments_text [] = refl
same_arguments_text (a ∷ []) = ap (from a.place) (argument_spelled a.item)
same_arguments_text (a ∷ (b ∷ rest)) = ap₂ (λ x y. from a.place x ++ comma ∷ y) (argument_spelled a.item) (same_arguments_text (b ∷ rest))

same_arguments_sizes : (ts : List (Located (WrittenArgument first_order))) → AllByRecursion (λ t. FitsArgument t.item) ts → AllByRecursion (λ t. FitsArgument t.item) (same_arguments ts)
same_arguments_sizes [] h = tt
same_arguments_sizes (a ∷ rest) h = (argument_fits a.item h.0, same_arguments_sizes rest h.1)

same_arguments_form : (ts : List (Located (WrittenArgument first_order))) → map raw_argument (same_arguments ts) ≡ map raw_argument ts
same_arguments_form [] = refl
same_arguments_form (a ∷ rest) = ap₂ (λ (k : RawTermKind) (y : List RawTerm). record { kind = k; place = a.place } ∷ y) (argument_means a.item) (same_arguments_form rest)

-- the same tree
abbrev mutual
  same : WrittenFormula first_order → WrittenFormula temporal
  same (atom_formula p n ts) = atom_formula p n (same_arguments ts)
  same (compared l op r) = compared l op r
  same (member t i k) = member t i k
  same (denied p f) = denied p (same f)
  same (all_of p f fs) = all_of p (same f) (sames fs)
  same (any_of p f fs) = any_of p (same f) (sames fs)
  same (implied p f g) = implied p (same f) (same g)
  same (group p f) = group p (same f)
  same (some p c f) = some p c (same f)
  same (every p c f) = every p c (same f)
  same (ranged t word o a b f) = absurd t
  same (paired t word o f g) = absurd t
  same (differing t l r) = absurd (narrow_first t)
  same (several t q p ns c f) = absurd (narrow_first t)
  same (bare_all t f fs) = absurd (narrow_first t)
  same (bare_any t f fs) = absurd (narrow_first t)
  same (bare_chain t f fs) = absurd (narrow_first t)
  same (chain t p f g fs) = absurd (narrow_first t)
  same (hole p) = hole p

  sames : FurtherMembers first_order → FurtherMembers temporal
  sames (last f) = last (same f)
  sames (more f fs) = more (same f) (sames fs)

abbrev closing : List Part
closing = any (symbol_token Close) ∷ []

-- it is spelled alike
mutual
  same_text : (w : WrittenFormula first_order) → formula_text (same w) ≡ formula_text w
  same_text (atom_formula p n ts) = ap (λ x. at p (name_token n) ∷ any (symbol_token Open) ∷ (x ++ closing)) (same_arguments_text ts)
  same_text (compared l op r) = refl
  same_text (member t i k) = refl
  same_text (denied p f) = ap (λ x. at p (word_token Not) ∷ x) (same_text f)
  same_text (all_of p f fs) = ap₂ (λ x y. at p (symbol_token Open) ∷ (x ++ (y ++ closing))) (same_text f) (same_texts And fs)
  same_text (any_of p f fs) = ap₂ (λ x y. at p (symbol_token Open) ∷ (x ++ (y ++ closing))) (same_text f) (same_texts Or fs)
  same_text (implied p f g) = ap₂ (λ x y. at p (symbol_token Open) ∷ (x ++ any (word_token Implies) ∷ (y ++ closing))) (same_text f) (same_text g)
  same_text (group p f) = ap (λ x. at p (symbol_token Open) ∷ (x ++ closing)) (same_text f)
  same_text (some p c f) = ap (λ x. at p (word_token Exists) ∷ (column_text c ++ x)) (same_text f)
  same_text (every p c f) = ap (λ x. at p (word_token Forall) ∷ (column_text c ++ x)) (same_text f)
  same_text (ranged t word o a b f) = absurd t
  same_text (paired t word o f g) = absurd t
  same_text (differing t l r) = absurd (narrow_first t)
  same_text (several t q p ns c f) = absurd (narrow_first t)
  same_text (bare_all t f fs) = absurd (narrow_first t)
  same_text (bare_any t f fs) = absurd (narrow_first t)
  same_text (bare_chain t f fs) = absurd (narrow_first t)
  same_text (chain t p f g fs) = absurd (narrow_first t)
  same_text (hole p) = refl

  same_texts : (w : Word) (fs : FurtherMembers first_order) → members_text w (sames fs) ≡ members_text w fs
  same_texts w (last f) = ap (λ x. any (word_token w) ∷ x) (same_text f)
  same_texts w (more f fs) = ap₂ (λ x y. any (word_token w) ∷ (x ++ y)) (same_text f) (same_texts w fs)

-- it is lawful alike
mutual
  same_sizes : (w : WrittenFormula first_order) → FitsSizes w → FitsSizes (same w)
  same_sizes (atom_formula p n ts) h = same_arguments_sizes ts h
  same_sizes (compared l op r) h = h
  same_sizes (member t i k) h = h
  same_sizes (denied p f) h = same_sizes f h
  same_sizes (all_of p f fs) h = (same_sizes f h.0, sames_sizes fs h.1)
  same_sizes (any_of p f fs) h = (same_sizes f h.0, sames_sizes fs h.1)
  same_sizes (implied p f g) h = (same_sizes f h.0, same_sizes g h.1)
  same_sizes (group p f) h = same_sizes f h
  same_sizes (some p c f) h = same_sizes f h
  same_sizes (every p c f) h = same_sizes f h
  same_sizes (ranged t word o a b f) h = absurd t
  same_sizes (paired t word o f g) h = absurd t
  same_sizes (differing t l r) h = absurd (narrow_first t)
  same_sizes (several t q p ns c f) h = absurd (narrow_first t)
  same_sizes (bare_all t f fs) h = absurd (narrow_first t)
  same_sizes (bare_any t f fs) h = absurd (narrow_first t)
  same_sizes (bare_chain t f fs) h = absurd (narrow_first t)
  same_sizes (chain t p f g fs) h = absurd (narrow_first t)
  same_sizes (hole p) h = h

  sames_sizes : (fs : FurtherMembers first_order) → FitSizes fs → FitSizes (sames fs)
  sames_sizes (last f) h = same_sizes f h
  sames_sizes (more f fs) h = (same_sizes f h.0, sames_sizes fs h.1)

mutual
  same_depth : (w : WrittenFormula first_order) (d : ℕ) → FitsDepth w d → FitsDepth (same w) d
  same_depth (atom_formula p n ts) d h = h
  same_depth (compared l op r) d h = h
  same_depth (member t i k) d h = h
  same_depth (denied p f) zero h = h
  same_depth (denied p f) (suc d) h = same_depth f d h
  same_depth (all_of p f fs) zero h = h
  same_depth (all_of p f fs) (suc d) h = (same_depth f d h.0, sames_depth fs d h.1)
  same_depth (any_of p f fs) zero h = h
  same_depth (any_of p f fs) (suc d) h = (same_depth f d h.0, sames_depth fs d h.1)
  same_depth (implied p f g) zero h = h
  same_depth (implied p f g) (suc d) h = (same_depth f d h.0, same_depth g d h.1)
  same_depth (group p f) zero h = h
  same_depth (group p f) (suc d) h = same_depth f d h
  same_depth (some p c f) zero h = h
  same_depth (some p c f) (suc d) h = same_depth f d h
  same_depth (every p c f) zero h = h
  same_depth (every p c f) (suc d) h = same_depth f d h
  same_depth (ranged t word o a b f) d h = absurd t
  same_depth (paired t word o f g) d h = absurd t
  same_depth (differing t l r) d h = absurd (narrow_first t)
  same_depth (several t q p ns c f) d h = absurd (narrow_first t)
  same_depth (bare_all t f fs) d h = absurd (narrow_first t)
  same_depth (bare_any t f fs) d h = absurd (narrow_first t)
  same_depth (bare_chain t f fs) d h = absurd (narrow_first t)
  same_depth (chain t p f g fs) d h = absurd (narrow_first t)
  same_depth (hole p) d h = h

  sames_depth : (fs : FurtherMembers first_order) (d : ℕ) → FitDepth fs d → FitDepth (sames fs) d
  sames_depth (last f) d h = same_depth f d h
  sames_depth (more f fs) d h = (same_depth f d h.0, sames_depth fs d h.1)

-- it means the same
mutual
  same_form : (w : WrittenFormula first_order) → raw_form (same w) ≡ raw_form w
  same_form (atom_formula p n ts) = ap (raw_atom p n) (same_arguments_form ts)
  same_form (compared l op r) = refl
  same_form (member t i k) = refl
  same_form (denied p f) = ap (raw_not p) (same_form f)
  same_form (all_of p f fs) = ap₂ (λ x y. raw_and p (raw x y)) (same_form f) (same_forms fs)
  same_form (any_of p f fs) = ap₂ (λ x y. raw_or p (raw x y)) (same_form f) (same_forms fs)
  same_form (implied p f g) = ap₂ (raw_implies p) (same_form f) (same_form g)
  same_form (group p f) = ap (raw_group p) (same_form f)
  same_form (some p c f) = ap (raw_exists p c) (same_form f)
  same_form (every p c f) = ap (raw_forall p c) (same_form f)
  same_form (ranged t word o a b f) = absurd t
  same_form (paired t word o f g) = absurd t
  same_form (differing t l r) = absurd (narrow_first t)
  same_form (several t q p ns c f) = absurd (narrow_first t)
  same_form (bare_all t f fs) = absurd (narrow_first t)
  same_form (bare_any t f fs) = absurd (narrow_first t)
  same_form (bare_chain t f fs) = absurd (narrow_first t)
  same_form (chain t p f g fs) = absurd (narrow_first t)
  same_form (hole p) = refl

  same_forms : (fs : FurtherMembers first_order) → raw_forms (sames fs) ≡ raw_forms fs
  same_forms (last f) = ap (λ x. raw x no_raws) (same_form f)
  same_forms (more f fs) = ap₂ raw (same_form f) (same_forms fs)

abbrev same_query : WrittenQuery first_order → WrittenQuery temporal
same_query q = record { head = q.head; body = same q.body; formula = tt }

same_query_text : (q : WrittenQuery first_order) → query_text (same_query q) ≡ query_text q
same_query_text q = ap (λ x. any (symbol_token OpenBrace) ∷ (separated comma column_text q.head ++ any (symbol_token Bar) ∷ (x ++ any (symbol_token CloseBrace) ∷ any end_token ∷ []))) (same_text q.body)

same_question : (q : WrittenQuery first_order) → raw_question (same_query q) ≡ raw_question q
same_question q = ap (λ f. record { head = q.head; body = f }) (same_form q.body)

-- a text without operators is read as the query that it is
pub plain_text : (bytes : List ℕ) (q : RawQuestion) → IsQuery bytes q → IsTenseQuery bytes q
plain_text bytes q t = record {
  tree = same_query t.tree;
  text = record { utf8 = t.text.utf8; spelled = subst (λ ps. Spells ps (tokens bytes)) (sym (same_query_text t.tree)) t.text.spelled; lawful = record { sizes = same_sizes t.tree.body t.text.lawful.sizes; depth = same_depth t.tree.body 64 t.text.lawful.depth } };
  meant = t.meant ∙ sym (same_question t.tree);
}

-- and its expansion is that query
pub plain_expansion : (bytes : List ℕ) (q t : RawQuestion) → IsQuery bytes q → IsTenseQuery bytes t → expanded_question t ≡ q
plain_expansion bytes q t h k = ap expanded_question (one_query tense bytes t q k (plain_text bytes q h)) ∙ unchanged_query q (plain_query bytes q h)
