-- The variables of a file that was read begin with a letter.
use Rattle.std.proofs.Common.{ℕ, true, List, [], ◌∷◌, ◌++◌, map, sym, subst}
use Rattle.std.specs.Prelude.{flat_map}
use Rattle.std.specs.List.{AllByRecursion}
use Rattle.lrp_model.specs.Texts.{Identifier}
use Rattle.lrp_model.specs.declared.tokens.Place.{Place}
use Rattle.lrp_model.specs.declared.tokens.Symbol.TheVariants.{Close, CloseBrace, Comma, Semicolon, Bar, Plus, Differs}
use Rattle.lrp_model.specs.declared.tokens.Word.{Word}
use Rattle.lrp_model.specs.declared.tokens.Word.TheVariants.{And, Or, Implies, In, Letter}
use Rattle.lrp_model.specs.declared.raw.RawColumn.{RawColumn}
use Rattle.lrp_model.specs.declared.written.Located.{Located}
use Rattle.lrp_model.specs.Tokens.{Part, Spells, from, located_text, separated}
use Rattle.lrp_model.specs.Tokens.Token.{number_token, symbol_token, word_token, name_token, end_token}
use Rattle.lrp_model.specs.Tokens.Part.{any}
use Rattle.lrp_model.specs.Lexing.{tokens_in}
use Rattle.lrp_model.specs.Columns.{column_text}
use Rattle.lrp_model.specs.Databases.{integer_text, comma}
use Rattle.lrp_model.specs.Queries.{Quantifier, WrittenArgument, argument_text, names_text, WrittenTerm, WrittenFormula, FurtherMembers, WrittenQuery, WrittenDefinition, WrittenFile, term_text, op_symbol, formula_text, members_text, interval_text, as_word, definition_text, query_text, file_text}
use Rattle.lrp_model.specs.Queries.Language.{wide}
use Rattle.lrp_model.specs.Queries.Quantifier.{existential, universal}
use Rattle.lrp_model.specs.Queries.WrittenArgument.{argument, star}
use Rattle.lrp_model.specs.Queries.WrittenTerm.{integer, text_term, variable, shifted}
use Rattle.lrp_model.specs.Queries.WrittenFormula.{atom_formula, compared, member, denied, all_of, any_of, implied, group, some, every, ranged, paired, differing, several, bare_all, bare_any, bare_chain, chain, hole}
use Rattle.lrp_model.specs.Queries.FurtherMembers.{last, more}
use Rattle.lrp_model.specs.QueryMeaning.{star_name, term_kind, argument_kind, raw_argument, raw_several, raw_form, raw_forms, raw_chain, raw_definition, raw_file}
use Rattle.lrp_model.specs.QueryReading.{IsFile}
use Rattle.lrp_model.specs.RawQueries.{RawForm, RawDefinitionView, RawFileView, place_of}
use Rattle.lrp_text.proofs.NameTokens.{NamedPart, all_front, all_after, spelled_named_in}
use Rattle.lrp_tense.proofs.Scoping.{own_name}
use Rattle.lrp_wide.specs.Meaning.{is_star_kind}
use Rattle.lrp_wide.proofs.SatisfyNotions.{Unless}
use Rattle.lrp_wide.proofs.FreshLetters.{HasLetter, letter_name}
use Rattle.lrp_wide.proofs.FreshTexts.{HasLetterKind, HasLetterOrStar, HasLetters, HaveLetters, unless}

-- each name token of a part is a name
abbrev NamedParts : List Part → Type 0
NamedParts = AllByRecursion NamedPart

front : (xs ys : List Part) → NamedParts (xs ++ ys) → NamedParts xs
front = all_front NamedPart

back : (xs ys : List Part) → NamedParts (xs ++ ys) → NamedParts ys
back = all_after NamedPart

abbrev closing : List Part
closing = any (symbol_token Close) ∷ []

kind_from : (p : Place) (k : WrittenTerm) → NamedParts (from p (term_text k)) → HasLetterKind (term_kind k)
kind_from p (integer i) h = tt
kind_from p (text_term t) h = tt
kind_from p (variable n) h = letter_name n h.0
kind_from p (shifted n down k) h = letter_name n h.0

argument_from : (p : Place) (k : WrittenArgument wide) → NamedParts (from p (argument_text k)) → Unless (is_star_kind (argument_kind k)) (HasLetterKind (argument_kind k))
argument_from p (argument t) h = unless (is_star_kind (term_kind t)) (kind_from p t h)
argument_from p (star t) h = subst (λ b. Unless b (HasLetter star_name)) (sym (own_name star_name)) tt

arguments_from : (ts : List (Located (WrittenArgument wide))) → NamedParts (separated comma (located_text argument_text) ts) → AllByRecursion HasLetterOrStar (map raw_argument ts)
arguments_from [] h = tt
arguments_from (t ∷ []) h = (argument_from t.place t.item h, tt)
arguments_from (t ∷ u ∷ ts) h =
    let rest : List Part = comma ∷ separated comma (located_text argument_text) (u ∷ ts) in
    (argument_from t.place t.item (front (located_text argument_text t) rest h), arguments_from (u ∷ ts) (back (located_text argument_text t) rest h).1)

-- quantifiers of several names
several_from : (q : Quantifier) (p : Place) (ns : List (Located Identifier)) (c : RawColumn) (f : RawForm) → NamedParts (names_text ns) → HasLetter c.name → HasLetters f → HasLetters (raw_several q p ns c f)
several_from existential p [] c f k h l = (h, l)
several_from universal p [] c f k h l = (h, l)
several_from existential p (n ∷ ns) c f k h l = (letter_name n.item k.0, several_from existential p ns c f k.1.1 h l)
several_from universal p (n ∷ ns) c f k h l = (letter_name n.item k.0, several_from universal p ns c f k.1.1 h l)

mutual
  letters_from : (w : WrittenFormula wide) → NamedParts (formula_text w) → HasLetters (raw_form w)
  letters_from (atom_formula p n ts) h = arguments_from ts (front (separated comma (located_text argument_text) ts) closing h.1.1)
  letters_from (compared l op r) h =
      let rest : List Part = any (symbol_token (op_symbol op)) ∷ located_text term_text r in
      (kind_from l.place l.item (front (located_text term_text l) rest h), kind_from r.place r.item (back (located_text term_text l) rest h).1)
  letters_from (member t i k) h = kind_from t.place t.item (front (located_text term_text t) (any (word_token In) ∷ (integer_text i ++ any (symbol_token Plus) ∷ any (number_token k) ∷ any (word_token Letter) ∷ [])) h)
  letters_from (denied p f) h = letters_from f h.1
  letters_from (all_of p f fs) h = (letters_from f (front (formula_text f) (members_text And fs ++ closing) h.1), members_from And fs (front (members_text And fs) closing (back (formula_text f) (members_text And fs ++ closing) h.1)))
  letters_from (any_of p f fs) h = (letters_from f (front (formula_text f) (members_text Or fs ++ closing) h.1), members_from Or fs (front (members_text Or fs) closing (back (formula_text f) (members_text Or fs ++ closing) h.1)))
  letters_from (implied p f g) h =
      let rest : List Part = any (word_token Implies) ∷ (formula_text g ++ closing) in
      (letters_from f (front (formula_text f) rest h.1), letters_from g (front (formula_text g) closing (back (formula_text f) rest h.1).1))
  letters_from (group p f) h = letters_from f (front (formula_text f) closing h.1)
  letters_from (some p b f) h = (letter_name b.name h.1.0, letters_from f (back (column_text b) (formula_text f) h.1))
  letters_from (every p b f) h = (letter_name b.name h.1.0, letters_from f (back (column_text b) (formula_text f) h.1))
  letters_from (ranged t word o a b f) h = (letter_name o.name h.1.0, letters_from f (back (interval_text a b) (formula_text f) h.1.1.1))
  letters_from (paired t word o f g) h =
      let rest : List Part = any (symbol_token Comma) ∷ (formula_text g ++ closing) in
      (letter_name o.name h.1.0, (letters_from f (front (formula_text f) rest h.1.1.1), letters_from g (front (formula_text g) closing (back (formula_text f) rest h.1.1.1).1)))
  letters_from (differing t l r) h =
      let rest : List Part = any (symbol_token Differs) ∷ located_text term_text r in
      (kind_from l.place l.item (front (located_text term_text l) rest h), kind_from r.place r.item (back (located_text term_text l) rest h).1)
  letters_from (several t q p ns c f) h =
      let names : List Part = names_text (ns.first ∷ ns.others) in
      let rest = back names (column_text c ++ formula_text f) h.1 in
      several_from q p (ns.first ∷ ns.others) c (raw_form f) (front names (column_text c ++ formula_text f) h.1) (letter_name c.name rest.0) (letters_from f (back (column_text c) (formula_text f) rest))
  letters_from (bare_all t f fs) h = (letters_from f (front (formula_text f) (members_text And fs) h), members_from And fs (back (formula_text f) (members_text And fs) h))
  letters_from (bare_any t f fs) h = (letters_from f (front (formula_text f) (members_text Or fs) h), members_from Or fs (back (formula_text f) (members_text Or fs) h))
  letters_from (bare_chain t f fs) h = chain_from (place_of (raw_form f)) (raw_form f) fs (letters_from f (front (formula_text f) (members_text Implies fs) h)) (back (formula_text f) (members_text Implies fs) h)
  letters_from (chain t p f g fs) h =
      let further : List Part = members_text Implies fs ++ closing in
      let rest : List Part = any (word_token Implies) ∷ (formula_text g ++ further) in
      let after = (back (formula_text f) rest h.1).1 in
      (letters_from f (front (formula_text f) rest h.1), chain_from (place_of (raw_form g)) (raw_form g) fs (letters_from g (front (formula_text g) further after)) (front (members_text Implies fs) closing (back (formula_text g) further after)))
  letters_from (hole p) h = tt

  -- a formula and what it implies in turn
  chain_from : (p : Place) (f : RawForm) (fs : FurtherMembers wide) → HasLetters f → NamedParts (members_text Implies fs) → HasLetters (raw_chain p f fs)
  chain_from p f (last g) l h = (l, letters_from g h.1)
  chain_from p f (more g gs) l h =
      (l, chain_from (place_of (raw_form g)) (raw_form g) gs (letters_from g (front (formula_text g) (members_text Implies gs) h.1)) (back (formula_text g) (members_text Implies gs) h.1))

  members_from : (w : Word) (fs : FurtherMembers wide) → NamedParts (members_text w fs) → HaveLetters (raw_forms fs)
  members_from w (last f) h = (letters_from f h.1, tt)
  members_from w (more f fs) h = (letters_from f (front (formula_text f) (members_text w fs) h.1), members_from w fs (back (formula_text f) (members_text w fs) h.1))

-- ---- files

abbrev pub DefinesLetters : RawDefinitionView → Type 0
DefinesLetters d = HasLetters d.body

-- each text of a file
pub record FileLetters (f : RawFileView) : Type 0 where
  pub definitions : AllByRecursion DefinesLetters f.definitions
  pub query : HasLetters f.query.body

query_from : (q : WrittenQuery wide) → NamedParts (query_text q) → HasLetters (raw_form q.body)
query_from q h =
    let after : List Part = any (symbol_token Bar) ∷ (formula_text q.body ++ any (symbol_token CloseBrace) ∷ any end_token ∷ []) in
    letters_from q.body (front (formula_text q.body) (any (symbol_token CloseBrace) ∷ any end_token ∷ []) (back (separated comma column_text q.head) after h.1).1)

definition_from : (d : WrittenDefinition wide) → NamedParts (definition_text d) → DefinesLetters (raw_definition d)
definition_from d h =
    let after : List Part = any (symbol_token Close) ∷ any (name_token as_word) ∷ (formula_text d.body ++ any (symbol_token Semicolon) ∷ []) in
    letters_from d.body (front (formula_text d.body) (any (symbol_token Semicolon) ∷ []) (back (separated comma column_text d.columns) after h.1.1.1).1.1)

definitions_from : (ds : List (WrittenDefinition wide)) → NamedParts (flat_map definition_text ds) → AllByRecursion DefinesLetters (map raw_definition ds)
definitions_from [] h = tt
definitions_from (d ∷ ds) h = (definition_from d (front (definition_text d) (flat_map definition_text ds) h), definitions_from ds (back (definition_text d) (flat_map definition_text ds) h))

file_from : (bytes : List ℕ) (f : WrittenFile wide) → Spells (file_text f) (tokens_in true bytes) → FileLetters (raw_file f)
file_from bytes f spelled =
    let h : NamedParts (file_text f) = spelled_named_in true bytes (file_text f) spelled in
    record {
      definitions = definitions_from f.definitions (front (flat_map definition_text f.definitions) (query_text f.query) h);
      query = query_from f.query (back (flat_map definition_text f.definitions) (query_text f.query) h);
    }

pub file_letters : (bytes : List ℕ) (f : RawFileView) → IsFile bytes f → FileLetters f
file_letters bytes f t = subst FileLetters (sym t.meant) (file_from bytes t.tree t.text.spelled)
