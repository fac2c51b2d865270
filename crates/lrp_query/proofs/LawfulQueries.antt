-- What holds of each query that is read.
use Rattle.std.proofs.Common.{◌≡◌, ◌≤◌, ◌<◌, ◌+◌, ◌≤ℤ◌, ℕ, pos, zero, suc, Bool, true, false, List, [], ◌∷◌, ◌++◌, map, refl, sym, subst, length, arith, Result, Ok, Err, IfOk}
use Rattle.std.proofs.lemmas.Int.{ints}
use Rattle.std.proofs.lemmas.List.Sums.{count_by-le-length}
use Rattle.std.specs.List.{AllByRecursion}
use Rattle.std.proofs.lemmas.List.{length-append}
use Rattle.lrp_model.specs.declared.tokens.Place.{Place}
use Rattle.lrp_model.specs.declared.tokens.Symbol.TheVariants.{Close, Comma, OpenBrace, Plus, Differs}
use Rattle.lrp_model.specs.declared.tokens.Word.{Word}
use Rattle.lrp_model.specs.declared.tokens.Word.TheVariants.{And, Or, Implies, In, Letter}
use Rattle.lrp_model.specs.declared.raw.RawQuery.{RawQuery}
use Rattle.lrp_model.specs.declared.faults.QueryRead.{QueryRead}
use Rattle.lrp_model.specs.declared.written.Located.{Located}
use Rattle.lrp_model.specs.Tokens.{Token, Placed, Tokens, Part, Spells, from, located_text, separated}
use Rattle.lrp_model.specs.Tokens.Token.{number_token, symbol_token, word_token, name_token, text_token, end_token, bad_token, hole_token}
use Rattle.lrp_model.specs.Tokens.Part.{any}
use Rattle.lrp_model.specs.Lexing.{start, Scanned, scan, skip, after, headed, tokens_from, tokens, tokens_in_from}
use Rattle.lrp_model.specs.Limits.{greatest_number}
use Rattle.lrp_model.specs.Columns.{column_text}
use Rattle.lrp_model.specs.Databases.{sign, integer_text, comma}
use Rattle.lrp_model.specs.DatabaseMeaning.{signed, column_of}
use Rattle.lrp_model.specs.Names.{AreNamed}
use Rattle.lrp_model.specs.Queries.{Language, TakesWide, Quantifier, WrittenArgument, argument_text, names_text, FitsArgument, WrittenTerm, WrittenFormula, FurtherMembers, WrittenQuery, term_text, op_symbol, formula_text, members_text, interval_text, query_text, FitsTerm, FitsSizes, FitSizes, FitsDepth, FitDepth}
use Rattle.lrp_model.specs.Queries.WrittenTerm.{integer as integer_term, text_term, variable, shifted}
use Rattle.lrp_model.specs.Queries.WrittenFormula.{atom_formula, compared, member, denied, all_of, any_of, implied, group, some, every, ranged, paired, differing, several, bare_all, bare_any, bare_chain, chain, hole}
use Rattle.lrp_model.specs.Queries.Language.{first_order, temporal}
use Rattle.lrp_model.specs.Queries.FurtherMembers.{last, more}
use Rattle.lrp_model.specs.Queries.Quantifier.{existential, universal}
use Rattle.lrp_model.specs.Queries.WrittenArgument.{argument, star}
use Rattle.lrp_model.specs.Texts.{Identifier}
use Rattle.lrp_model.specs.declared.raw.RawColumn.{RawColumn}
use Rattle.lrp_model.specs.QueryMeaning.{term_kind, argument_kind, raw_argument, raw_several, raw_chain, raw_term, raw_form, raw_forms, raw_question}
use Rattle.lrp_model.specs.RawQueries.{RawForm, RawQuestion, place_of, HasNoOperator, HaveNoOperator, raw, raw_form_of, raw_question_of}
use Rattle.lrp_model.specs.QueryReading.{IsQuery}
use Rattle.lrp_text.proofs.Sound.{takes_shorter}
use Rattle.lrp_text.proofs.Complete.{separated_long}
use Rattle.lrp_text.proofs.NameTokens.{NamedPart, all_front, all_tail, columns_named, spelled_named}
use Rattle.lrp_query.specs.Lawful.{HasMagnitude, FitsRawTerm, HasTwo, FitsRaw, FitRaws, IsShallow, AreShallow, formulas_in, formulas_of, is_raw_text, text_total, formula_texts, texts_of, IsLawful}
use Rattle.lrp_query.proofs.Whole.{Whole, Wholes, after_head, ends_query, whole_body}
use Rattle.lrp_query.proofs.HoleFree.{tokens_clean}
use Rattle.lrp_query.proofs.TermRules.{placed_text}

-- ---- sizes

-- a size within the limit, with any sign
pub within : (b : Bool) (n : ℕ) → n ≤ greatest_number → HasMagnitude (signed b n)
within true n h = (omega (arith, ints), omega (arith, ints))
within false n h = (omega (arith, ints), omega (arith, ints))

-- a term
pub term_fits : (t : WrittenTerm) → FitsTerm t → FitsRawTerm (term_kind t)
term_fits (integer_term i) h = within i.negative i.size h
term_fits (text_term t) h = tt
term_fits (variable n) h = tt
term_fits (shifted n down k) h = within down k h

-- several
pub terms_fit : (ts : List (Located WrittenTerm)) → AllByRecursion (λ t. FitsTerm t.item) ts → AllByRecursion (λ t. FitsRawTerm t.kind) (map raw_term ts)
terms_fit [] h = tt
terms_fit (t ∷ ts) h = (term_fits t.item h.0, terms_fit ts h.1)

-- what an atom has for a column, and several
argument_fits : {l : Language} (t : WrittenArgument l) → FitsArgument t → FitsRawTerm (argument_kind t)
argument_fits (argument t) h = term_fits t h
argument_fits (star t) h = tt

pub arguments_fit : {l : Language} (ts : List (Located (WrittenArgument l))) → AllByRecursion (λ t. FitsArgument t.item) ts → AllByRecursion (λ t. FitsRawTerm t.kind) (map raw_argument ts)
arguments_fit [] h = tt
arguments_fit (t ∷ ts) h = (argument_fits t.item h.0, arguments_fit ts h.1)

-- quantifiers of several names over a formula
several_fit : (q : Quantifier) (p : Place) (ns : List (Located Identifier)) (c : RawColumn) (f : RawForm) → FitsRaw f → FitsRaw (raw_several q p ns c f)
several_fit existential p [] c f h = h
several_fit universal p [] c f h = h
several_fit existential p (n ∷ ns) c f h = several_fit existential p ns c f h
several_fit universal p (n ∷ ns) c f h = several_fit universal p ns c f h

-- a first member and further ones are two at least
two : {l : Language} (f : RawForm) (fs : FurtherMembers l) → HasTwo (raw f (raw_forms fs))
two f (last g) = tt
two f (more g gs) = tt

-- a period from 1 to the limit
pub period_fits : (k : ℕ) → 1 ≤ k → k ≤ greatest_number → (pos 1 ≤ℤ pos k) × (pos k ≤ℤ pos greatest_number)
period_fits k one most = (omega (arith, ints), omega (arith, ints))

mutual
  -- a formula
  pub fits_raw : {l : Language} (w : WrittenFormula l) → Whole w → FitsSizes w → FitsRaw (raw_form w)
  fits_raw (atom_formula p n ts) o h = arguments_fit ts h
  fits_raw (compared l op r) o h = (term_fits l.item h.0, term_fits r.item h.1)
  fits_raw (member t i k) o h = let p = period_fits k h.2 h.3 in let w = within i.negative i.size h.1 in (term_fits t.item h.0, ((w.0, w.1), p.0, p.1))
  fits_raw (denied p f) o h = fits_raw f o h
  fits_raw (all_of p f fs) o h = (two (raw_form f) fs, (fits_raw f o.0 h.0, fit_raws fs o.1 h.1))
  fits_raw (any_of p f fs) o h = (two (raw_form f) fs, (fits_raw f o.0 h.0, fit_raws fs o.1 h.1))
  fits_raw (implied p f g) o h = (fits_raw f o.0 h.0, fits_raw g o.1 h.1)
  fits_raw (group p f) o h = fits_raw f o h
  fits_raw (some p c f) o h = fits_raw f o h
  fits_raw (every p c f) o h = fits_raw f o h
  fits_raw (ranged t word a from to f) o h = (within from.negative from.size h.0, within to.negative to.size h.1, fits_raw f o h.2)
  fits_raw (paired t word a f g) o h = (fits_raw f o.0 h.0, fits_raw g o.1 h.1)
  fits_raw (differing t l r) o h = (term_fits l.item h.0, term_fits r.item h.1)
  fits_raw (several t q p ns c f) o h = several_fit q p (ns.first ∷ ns.others) c (raw_form f) (fits_raw f o h)
  fits_raw (bare_all t f fs) o h = (two (raw_form f) fs, (fits_raw f o.0 h.0, fit_raws fs o.1 h.1))
  fits_raw (bare_any t f fs) o h = (two (raw_form f) fs, (fits_raw f o.0 h.0, fit_raws fs o.1 h.1))
  fits_raw (bare_chain t f fs) o h = fits_chain (place_of (raw_form f)) (raw_form f) fs o.1 (fits_raw f o.0 h.0) h.1
  fits_raw (chain t p f g fs) o h = (fits_raw f o.0 h.0, fits_chain (place_of (raw_form g)) (raw_form g) fs o.2 (fits_raw g o.1 h.1) h.2)
  fits_raw (hole p) o h = absurd o

  -- a formula and what it implies in turn
  fits_chain : {l : Language} (p : Place) (f : RawForm) (fs : FurtherMembers l) → Wholes fs → FitsRaw f → FitSizes fs → FitsRaw (raw_chain p f fs)
  fits_chain p f (last g) o a h = (a, fits_raw g o h)
  fits_chain p f (more g gs) o a h = (a, fits_chain (place_of (raw_form g)) (raw_form g) gs o.1 (fits_raw g o.0 h.0) h.1)

  -- members
  fit_raws : {l : Language} (fs : FurtherMembers l) → Wholes fs → FitSizes fs → FitRaws (raw_forms fs)
  fit_raws (last f) o h = (fits_raw f o h, tt)
  fit_raws (more f fs) o h = (fits_raw f o.0 h.0, fit_raws fs o.1 h.1)

-- ---- depth, where no formula is wide

mutual
  -- a formula
  shallow : {l : Language} → (TakesWide l → ⊥) → (w : WrittenFormula l) (d : ℕ) → Whole w → FitsDepth w d → IsShallow (raw_form w) d
  shallow narrow (atom_formula p n ts) d o h = h
  shallow narrow (compared l op r) d o h = h
  shallow narrow (member t i k) d o h = h
  shallow narrow (denied p f) zero o h = absurd h
  shallow narrow (denied p f) (suc d) o h = shallow narrow f d o h
  shallow narrow (all_of p f fs) zero o h = absurd h
  shallow narrow (all_of p f fs) (suc d) o h = (shallow narrow f d o.0 h.0, shallows narrow fs d o.1 h.1)
  shallow narrow (any_of p f fs) zero o h = absurd h
  shallow narrow (any_of p f fs) (suc d) o h = (shallow narrow f d o.0 h.0, shallows narrow fs d o.1 h.1)
  shallow narrow (implied p f g) zero o h = absurd h
  shallow narrow (implied p f g) (suc d) o h = (shallow narrow f d o.0 h.0, shallow narrow g d o.1 h.1)
  shallow narrow (group p f) zero o h = absurd h
  shallow narrow (group p f) (suc d) o h = shallow narrow f d o h
  shallow narrow (some p c f) zero o h = absurd h
  shallow narrow (some p c f) (suc d) o h = shallow narrow f d o h
  shallow narrow (every p c f) zero o h = absurd h
  shallow narrow (every p c f) (suc d) o h = shallow narrow f d o h
  shallow narrow (ranged t word a from to f) zero o h = absurd h
  shallow narrow (ranged t word a from to f) (suc d) o h = shallow narrow f d o h
  shallow narrow (paired t word a f g) zero o h = absurd h
  shallow narrow (paired t word a f g) (suc d) o h = (shallow narrow f d o.0 h.0, shallow narrow g d o.1 h.1)
  shallow narrow (differing t l r) d o h = absurd (narrow t)
  shallow narrow (several t q p ns c f) d o h = absurd (narrow t)
  shallow narrow (bare_all t f fs) d o h = absurd (narrow t)
  shallow narrow (bare_any t f fs) d o h = absurd (narrow t)
  shallow narrow (bare_chain t f fs) d o h = absurd (narrow t)
  shallow narrow (chain t p f g fs) d o h = absurd (narrow t)
  shallow narrow (hole p) d o h = absurd o

  -- members
  shallows : {l : Language} → (TakesWide l → ⊥) → (fs : FurtherMembers l) (d : ℕ) → Wholes fs → FitDepth fs d → AreShallow (raw_forms fs) d
  shallows narrow (last f) d o h = (shallow narrow f d o h, tt)
  shallows narrow (more f fs) d o h = (shallow narrow f d o.0 h.0, shallows narrow fs d o.1 h.1)

-- languages without wide formulas
pub narrow_first : TakesWide first_order → ⊥
narrow_first t = let e : false ≡ true = t in cc

pub narrow_tense : TakesWide temporal → ⊥
narrow_tense t = let e : false ≡ true = t in cc

-- ---- formulas of first-order logic

mutual
  -- a formula of its language has no operator
  plain : (w : WrittenFormula first_order) → HasNoOperator (raw_form w)
  plain (atom_formula p n ts) = tt
  plain (compared l op r) = tt
  plain (member t i k) = tt
  plain (denied p f) = plain f
  plain (all_of p f fs) = (plain f, plains fs)
  plain (any_of p f fs) = (plain f, plains fs)
  plain (implied p f g) = (plain f, plain g)
  plain (group p f) = plain f
  plain (some p c f) = plain f
  plain (every p c f) = plain f
  plain (ranged t word o from to f) = t
  plain (paired t word o f g) = t
  plain (differing t l r) = absurd (narrow_first t)
  plain (several t q p ns c f) = absurd (narrow_first t)
  plain (bare_all t f fs) = absurd (narrow_first t)
  plain (bare_any t f fs) = absurd (narrow_first t)
  plain (bare_chain t f fs) = absurd (narrow_first t)
  plain (chain t p f g fs) = absurd (narrow_first t)
  plain (hole p) = tt

  plains : (fs : FurtherMembers first_order) → HaveNoOperator (raw_forms fs)
  plains (last f) = (plain f, tt)
  plains (more f fs) = (plain f, plains fs)

-- ---- how many

-- as many terms as are written
pub map_length : (ts : List (Located WrittenTerm)) → length (map raw_term ts) ≡ length ts
map_length [] = refl
map_length (t ∷ ts) = let k = map_length ts in omega (arith, k)

pub argument_count : {l : Language} (ts : List (Located (WrittenArgument l))) → length (map raw_argument ts) ≡ length ts
argument_count [] = refl
argument_count (t ∷ ts) = let k = argument_count ts in omega (arith, k)

-- a formula more for each name of a quantifier, and no text
several_formulas : (q : Quantifier) (p : Place) (ns : List (Located Identifier)) (c : RawColumn) (f : RawForm) → formulas_in (raw_several q p ns c f) ≡ suc (length ns) + formulas_in f
several_formulas existential p [] c f = omega arith
several_formulas universal p [] c f = omega arith
several_formulas existential p (n ∷ ns) c f = let k = several_formulas existential p ns c f in omega (arith, k)
several_formulas universal p (n ∷ ns) c f = let k = several_formulas universal p ns c f in omega (arith, k)

several_texts : (q : Quantifier) (p : Place) (ns : List (Located Identifier)) (c : RawColumn) (f : RawForm) → formula_texts (raw_several q p ns c f) ≡ formula_texts f
several_texts existential p [] c f = refl
several_texts universal p [] c f = refl
several_texts existential p (n ∷ ns) c f = several_texts existential p ns c f
several_texts universal p (n ∷ ns) c f = several_texts universal p ns c f

-- a name and a comma each
names_long : (ns : List (Located Identifier)) → length (names_text ns) ≡ length ns + length ns
names_long [] = refl
names_long (n ∷ ns) = let k = names_long ns in omega (arith, k)

-- an integer has a token
sign_some : (p : Place) (b : Bool) (n : ℕ) → 0 < length (from p (sign b ++ any (number_token n) ∷ []))
sign_some p true n = omega arith
sign_some p false n = omega arith

-- so has each term
pub term_some : (p : Place) (k : WrittenTerm) → 0 < length (from p (term_text k))
term_some p (integer_term i) = sign_some p i.negative i.size
term_some p (text_term t) = omega arith
term_some p (variable n) = omega arith
term_some p (shifted n down k) = omega arith

-- both counts are at most the number of tokens
abbrev Counted : ℕ → ℕ → List Part → Type 0
Counted formulas texts ps = (formulas ≤ length ps) × (texts ≤ length ps)

mutual
  -- of a formula
  counted : {l : Language} (w : WrittenFormula l) → Counted (formulas_in (raw_form w)) (formula_texts (raw_form w)) (formula_text w)
  counted (atom_formula p n ts) =
      let texts : text_total (map raw_argument ts) ≤ length (map raw_argument ts) = count_by-le-length (λ t. is_raw_text t.kind) (map raw_argument ts) in
      let all : List Part = separated comma (located_text argument_text) ts in
      let size : length (all ++ any (symbol_token Close) ∷ []) ≡ length all + length {A = Part} (any (symbol_token Close) ∷ []) = length-append all (any (symbol_token Close) ∷ []) in
      let long : length ts ≤ length all + 1 = separated_long comma (located_text argument_text) ts in
      (omega (arith, size), omega (arith, texts, argument_count ts, size, long))
  counted (compared l op r) =
      let texts : text_total (raw_term l ∷ raw_term r ∷ []) ≤ length (raw_term l ∷ raw_term r ∷ []) = count_by-le-length (λ t. is_raw_text t.kind) (raw_term l ∷ raw_term r ∷ []) in
      let size : length (placed_text l ++ any (symbol_token (op_symbol op)) ∷ placed_text r) ≡ length (placed_text l) + length (any (symbol_token (op_symbol op)) ∷ placed_text r) = length-append (placed_text l) (any (symbol_token (op_symbol op)) ∷ placed_text r) in
      let left = term_some l.place l.item in
      let right = term_some r.place r.item in
      (omega (arith, size, left, right), omega (arith, texts, size, left, right))
  counted (member t i k) =
      let texts : text_total (raw_term t ∷ []) ≤ length (raw_term t ∷ []) = count_by-le-length (λ t. is_raw_text t.kind) (raw_term t ∷ []) in
      let rest : List Part = integer_text i ++ any (symbol_token Plus) ∷ any (number_token k) ∷ any (word_token Letter) ∷ [] in
      let size : length (placed_text t ++ any (word_token In) ∷ rest) ≡ length (placed_text t) + length (any (word_token In) ∷ rest) = length-append (placed_text t) (any (word_token In) ∷ rest) in
      let left = term_some t.place t.item in
      (omega (arith, size, left), omega (arith, texts, size, left))
  counted (denied p f) = let k = counted f in (omega (arith, k.0), omega (arith, k.1))
  counted (all_of p f fs) =
      let a = counted f in
      let b = counted_members And fs in
      let rest : List Part = members_text And fs ++ any (symbol_token Close) ∷ [] in
      let size : length (formula_text f ++ rest) ≡ length (formula_text f) + length rest = length-append (formula_text f) rest in
      let more : length rest ≡ length (members_text And fs) + length {A = Part} (any (symbol_token Close) ∷ []) = length-append (members_text And fs) (any (symbol_token Close) ∷ []) in
      (omega (arith, a.0, b.0, size, more), omega (arith, a.1, b.1, size, more))
  counted (any_of p f fs) =
      let a = counted f in
      let b = counted_members Or fs in
      let rest : List Part = members_text Or fs ++ any (symbol_token Close) ∷ [] in
      let size : length (formula_text f ++ rest) ≡ length (formula_text f) + length rest = length-append (formula_text f) rest in
      let more : length rest ≡ length (members_text Or fs) + length {A = Part} (any (symbol_token Close) ∷ []) = length-append (members_text Or fs) (any (symbol_token Close) ∷ []) in
      (omega (arith, a.0, b.0, size, more), omega (arith, a.1, b.1, size, more))
  counted (implied p f g) =
      let a = counted f in
      let b = counted g in
      let rest : List Part = formula_text g ++ any (symbol_token Close) ∷ [] in
      let size : length (formula_text f ++ any (word_token Implies) ∷ rest) ≡ length (formula_text f) + length (any (word_token Implies) ∷ rest) = length-append (formula_text f) (any (word_token Implies) ∷ rest) in
      let more : length rest ≡ length (formula_text g) + length {A = Part} (any (symbol_token Close) ∷ []) = length-append (formula_text g) (any (symbol_token Close) ∷ []) in
      (omega (arith, a.0, b.0, size, more), omega (arith, a.1, b.1, size, more))
  counted (group p f) =
      let a = counted f in
      let size : length (formula_text f ++ any (symbol_token Close) ∷ []) ≡ length (formula_text f) + length {A = Part} (any (symbol_token Close) ∷ []) = length-append (formula_text f) (any (symbol_token Close) ∷ []) in
      (omega (arith, a.0, size), omega (arith, a.1, size))
  counted (some p c f) =
      let a = counted f in
      let size : length (column_text c ++ formula_text f) ≡ length (column_text c) + length (formula_text f) = length-append (column_text c) (formula_text f) in
      (omega (arith, a.0, size), omega (arith, a.1, size))
  counted (every p c f) =
      let a = counted f in
      let size : length (column_text c ++ formula_text f) ≡ length (column_text c) + length (formula_text f) = length-append (column_text c) (formula_text f) in
      (omega (arith, a.0, size), omega (arith, a.1, size))
  counted (ranged t word o from to f) =
      let a = counted f in
      let size : length (interval_text from to ++ formula_text f) ≡ length (interval_text from to) + length (formula_text f) = length-append (interval_text from to) (formula_text f) in
      (omega (arith, a.0, size), omega (arith, a.1, size))
  counted (paired t word o f g) =
      let a = counted f in
      let b = counted g in
      let rest : List Part = formula_text g ++ any (symbol_token Close) ∷ [] in
      let size : length (formula_text f ++ any (symbol_token Comma) ∷ rest) ≡ length (formula_text f) + length (any (symbol_token Comma) ∷ rest) = length-append (formula_text f) (any (symbol_token Comma) ∷ rest) in
      let more : length rest ≡ length (formula_text g) + length {A = Part} (any (symbol_token Close) ∷ []) = length-append (formula_text g) (any (symbol_token Close) ∷ []) in
      (omega (arith, a.0, b.0, size, more), omega (arith, a.1, b.1, size, more))
  counted (differing t l r) =
      let texts : text_total (raw_term l ∷ raw_term r ∷ []) ≤ length (raw_term l ∷ raw_term r ∷ []) = count_by-le-length (λ t. is_raw_text t.kind) (raw_term l ∷ raw_term r ∷ []) in
      let size : length (placed_text l ++ any (symbol_token Differs) ∷ placed_text r) ≡ length (placed_text l) + length (any (symbol_token Differs) ∷ placed_text r) = length-append (placed_text l) (any (symbol_token Differs) ∷ placed_text r) in
      let left = term_some l.place l.item in
      let right = term_some r.place r.item in
      (omega (arith, size, left, right), omega (arith, texts, size, left, right))
  counted (several t q p ns c f) =
      let a = counted f in
      let names : List (Located Identifier) = ns.first ∷ ns.others in
      let rest : List Part = column_text c ++ formula_text f in
      let size : length (names_text names ++ rest) ≡ length (names_text names) + length rest = length-append (names_text names) rest in
      let more : length rest ≡ length (column_text c) + length (formula_text f) = length-append (column_text c) (formula_text f) in
      let long = names_long names in
      let forms = several_formulas q p names c (raw_form f) in
      let texts = several_texts q p names c (raw_form f) in
      (omega (arith, a.0, size, more, long, forms), omega (arith, a.1, size, more, texts))
  counted (bare_all t f fs) =
      let a = counted f in
      let b = counted_members And fs in
      let size : length (formula_text f ++ members_text And fs) ≡ length (formula_text f) + length (members_text And fs) = length-append (formula_text f) (members_text And fs) in
      (omega (arith, a.0, b.0, size), omega (arith, a.1, b.1, size))
  counted (bare_any t f fs) =
      let a = counted f in
      let b = counted_members Or fs in
      let size : length (formula_text f ++ members_text Or fs) ≡ length (formula_text f) + length (members_text Or fs) = length-append (formula_text f) (members_text Or fs) in
      (omega (arith, a.0, b.0, size), omega (arith, a.1, b.1, size))
  counted (bare_chain t f fs) =
      let a = counted f in
      let b = counted_chain (place_of (raw_form f)) (raw_form f) fs in
      let size : length (formula_text f ++ members_text Implies fs) ≡ length (formula_text f) + length (members_text Implies fs) = length-append (formula_text f) (members_text Implies fs) in
      (omega (arith, a.0, b.0, size), omega (arith, a.1, b.1, size))
  counted (chain t p f g fs) =
      let a = counted f in
      let b = counted g in
      let c = counted_chain (place_of (raw_form g)) (raw_form g) fs in
      let further : List Part = members_text Implies fs ++ any (symbol_token Close) ∷ [] in
      let rest : List Part = formula_text g ++ further in
      let size : length (formula_text f ++ any (word_token Implies) ∷ rest) ≡ length (formula_text f) + length (any (word_token Implies) ∷ rest) = length-append (formula_text f) (any (word_token Implies) ∷ rest) in
      let more : length rest ≡ length (formula_text g) + length further = length-append (formula_text g) further in
      let last : length further ≡ length (members_text Implies fs) + length {A = Part} (any (symbol_token Close) ∷ []) = length-append (members_text Implies fs) (any (symbol_token Close) ∷ []) in
      (omega (arith, a.0, b.0, c.0, size, more, last), omega (arith, a.1, b.1, c.1, size, more, last))
  counted (hole p) = (omega arith, omega arith)

  -- of a formula and what it implies in turn, beyond those of the formula
  counted_chain : {l : Language} (p : Place) (f : RawForm) (fs : FurtherMembers l) → (formulas_in (raw_chain p f fs) ≤ formulas_in f + length (members_text Implies fs)) × (formula_texts (raw_chain p f fs) ≤ formula_texts f + length (members_text Implies fs))
  counted_chain p f (last g) = let b = counted g in (omega (arith, b.0), omega (arith, b.1))
  counted_chain p f (more g gs) =
      let b = counted g in
      let c = counted_chain (place_of (raw_form g)) (raw_form g) gs in
      let size : length (formula_text g ++ members_text Implies gs) ≡ length (formula_text g) + length (members_text Implies gs) = length-append (formula_text g) (members_text Implies gs) in
      (omega (arith, b.0, c.0, size), omega (arith, b.1, c.1, size))

  -- of members, each of which has a word before it
  counted_members : {l : Language} (w : Word) (fs : FurtherMembers l) → Counted (suc (formulas_of (raw_forms fs))) (texts_of (raw_forms fs)) (members_text w fs)
  counted_members w (last f) = let a = counted f in (omega (arith, a.0), omega (arith, a.1))
  counted_members w (more f fs) =
      let a = counted f in
      let b = counted_members w fs in
      let size : length (formula_text f ++ members_text w fs) ≡ length (formula_text f) + length (members_text w fs) = length-append (formula_text f) (members_text w fs) in
      (omega (arith, a.0, b.0, size), omega (arith, a.1, b.1, size))

-- a token and those that follow it
headed_long : (p : Place) (s : Scanned) (k : Token) (rest : Tokens) → length (headed p s k rest) ≤ suc (length rest)
headed_long p s (name_token n) rest = omega arith
headed_long p s (word_token w) rest = omega arith
headed_long p s (number_token n) rest = omega arith
headed_long p s (text_token t) rest = omega arith
headed_long p s (symbol_token y) rest = omega arith
headed_long p s hole_token rest = omega arith
headed_long p s end_token rest = omega arith
headed_long p s bad_token rest = omega arith

-- each turn gives a token
from_long : (n : ℕ) (p : Place) (bs : List ℕ) → length (tokens_from n p bs) ≤ n
unfolding tokens_in_from
from_long zero p bs = omega arith
from_long (suc n) p bs =
    let a = skip false p bs in
    let s = scan a.bytes in
    let rest = tokens_from n (after a.place s.taken) s.left in
    let k : length (headed a.place s s.token rest) ≤ suc (length rest) = headed_long a.place s s.token rest in
    let m : length rest ≤ n = from_long n (after a.place s.taken) s.left in
    omega (arith, k, m)

-- a text has at most a token more than bytes
pub tokens_long : (bytes : List ℕ) → length (tokens bytes) ≤ suc (length bytes)
tokens_long bytes = from_long (suc (length bytes)) start bytes

-- ---- queries

-- the body has four tokens fewer than the query
pub body_short : {l : Language} (t : WrittenQuery l) → length (formula_text t.body) + 4 ≤ length (query_text t)
body_short t =
    let size : length (separated comma column_text t.head ++ after_head t.body) ≡ length (separated comma column_text t.head) + length (after_head t.body) = length-append (separated comma column_text t.head) (after_head t.body) in
    let rest : length (formula_text t.body ++ ends_query) ≡ length (formula_text t.body) + length ends_query = length-append (formula_text t.body) ends_query in
    omega (arith, size, rest)

-- the names in the head are names
head_named : {l : Language} (bytes : List ℕ) (t : WrittenQuery l) → Spells (query_text t) (tokens bytes) → AreNamed (map column_of t.head)
head_named bytes t spelled =
    let columns : List Part = separated comma column_text t.head in
    columns_named t.head (all_front NamedPart columns (after_head t.body) (all_tail NamedPart (any (symbol_token OpenBrace)) (columns ++ after_head t.body) (spelled_named bytes (query_text t) spelled)))

-- the query that a written one means
lawful_tree : {l : Language} → (TakesWide l → ⊥) → (bytes : List ℕ) (t : WrittenQuery l) → length bytes ≤ 16777216 → Spells (query_text t) (tokens bytes) → FitsSizes t.body → FitsDepth t.body 64 → IsLawful (raw_question t)
lawful_tree narrow bytes t small spelled sizes depth =
    let o = whole_body t (tokens bytes) spelled (tokens_clean false bytes) in
    let size : length {A = Placed} [] + length (query_text t) ≡ length (tokens bytes) = takes_shorter (query_text t) (tokens bytes) [] spelled in
    let long = tokens_long bytes in
    let short = body_short t in
    let k = counted t.body in
    record {
      names = head_named bytes t spelled;
      sizes = fits_raw t.body o sizes;
      depth = shallow narrow t.body 64 o depth;
      formulas = omega (arith, size, long, short, k.0, small);
      texts = omega (arith, size, long, short, k.1, small);
    }

-- each query of a text of at most 16,777,216 bytes
pub lawful_query : (bytes : List ℕ) (q : RawQuestion) → length bytes ≤ 16777216 → IsQuery bytes q → IsLawful q
lawful_query bytes q small t = subst IsLawful (sym t.meant) (lawful_tree narrow_first bytes t.tree small t.text.spelled t.text.lawful.sizes t.text.lawful.depth)

-- and each that is read
pub lawful_read : (bytes : List ℕ) (r : Result RawQuery QueryRead) → length bytes ≤ 16777216 → IfOk r (λ q. IsQuery bytes (raw_question_of q)) → IfOk r (λ q. IsLawful (raw_question_of q))
lawful_read bytes (Ok q) small t = lawful_query bytes (raw_question_of q) small t
lawful_read bytes (Err e) small t = t

-- none of its operators is left, since it has none
pub plain_query : (bytes : List ℕ) (q : RawQuestion) → IsQuery bytes q → HasNoOperator q.body
plain_query bytes q t = subst (λ r. HasNoOperator r.body) (sym t.meant) (plain t.tree.body)

pub plain_read : (bytes : List ℕ) (r : Result RawQuery QueryRead) → IfOk r (λ q. IsQuery bytes (raw_question_of q)) → IfOk r (λ q. HasNoOperator (raw_form_of q.body))
plain_read bytes (Ok q) t = plain_query bytes (raw_question_of q) t
plain_read bytes (Err e) t = t
