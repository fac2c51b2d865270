-- What holds of each query with operators that is read, and of what it is expanded to.
use Rattle.std.proofs.Common.{◌≡◌, ◌∙◌, ◌≤◌, ◌+◌, ◌*◌, ℕ, List, [], ◌∷◌, ◌++◌, map, refl, ap, sym, subst, length, append-nil, append_assoc, arith, false, Result, Ok, Err, IfOk}
use Rattle.std.proofs.lemmas.List.Sums.{count_by-le-length}
use Rattle.std.specs.List.{AllByRecursion}
use Rattle.std.proofs.lemmas.List.{length-append}
use Rattle.lrp_model.specs.declared.tokens.Place.{Place}
use Rattle.lrp_model.specs.declared.tokens.Symbol.TheVariants.{Open, Close, CloseBrace, Comma, Bar, Plus, Differs}
use Rattle.lrp_model.specs.declared.tokens.Word.{Word}
use Rattle.lrp_model.specs.declared.tokens.Word.TheVariants.{And, Or, Implies, In, Letter}
use Rattle.lrp_model.specs.declared.raw.RawColumn.{RawColumn}
use Rattle.lrp_model.specs.declared.raw.RawTerm.{RawTerm}
use Rattle.lrp_model.specs.declared.raw.RawTermKind.{RawTermKind}
use Rattle.lrp_model.specs.declared.raw.RawTermKind.TheVariants.{Int, Text, Var, Shifted}
use Rattle.lrp_model.specs.declared.faults.QueryRead.{QueryRead}
use Rattle.lrp_model.specs.declared.written.Located.{Located}
use Rattle.lrp_model.specs.Tokens.{located_text, Placed, Tokens, Part, Takes, Spells, from, separated}
use Rattle.lrp_model.specs.Tokens.Token.{number_token, symbol_token, word_token, end_token}
use Rattle.lrp_model.specs.Tokens.Part.{at, any}
use Rattle.lrp_model.specs.Lexing.{tokens}
use Rattle.lrp_model.specs.Columns.{column_text}
use Rattle.lrp_model.specs.Databases.{integer_text, comma}
use Rattle.lrp_model.specs.Queries.{WrittenArgument, argument_text, WrittenTerm, WrittenFormula, FurtherMembers, WrittenQuery, term_text, op_symbol, formula_text, members_text, interval_text, query_text, FitsSizes, FitSizes}
use Rattle.lrp_model.specs.Queries.WrittenArgument.{argument, star}
use Rattle.lrp_model.specs.Queries.{Language, Quantifier, names_text}
use Rattle.lrp_model.specs.Queries.Language.{temporal}
use Rattle.lrp_model.specs.Queries.Quantifier.{existential, universal}
use Rattle.lrp_model.specs.Queries.WrittenFormula.{atom_formula, compared, member, denied, all_of, any_of, implied, group, some, every, ranged, paired, differing, several, bare_all, bare_any, bare_chain, chain, hole}
use Rattle.lrp_model.specs.Queries.FurtherMembers.{last, more}
use Rattle.lrp_model.specs.declared.raw.Ranged.TheVariants.{Once, Always}
use Rattle.lrp_model.specs.declared.raw.Paired.TheVariants.{Since, Until}
use Rattle.lrp_model.specs.Queries.WrittenTerm.{integer as integer_term, text_term, variable, shifted}
use Rattle.lrp_model.specs.QueryMeaning.{argument_kind, raw_argument, term_kind, raw_term, raw_form, raw_forms, raw_question, raw_chain, raw_quantified, raw_several}
use Rattle.lrp_model.specs.Texts.{Identifier}
use Rattle.lrp_model.specs.RawQueries.{raw, RawForm, RawQuestion, place_of, raw_question_of}
use Rattle.lrp_text.proofs.Sound.{takes_shorter}
use Rattle.lrp_text.proofs.Complete.{separated_long}
use Rattle.lrp_text.proofs.NameTokens.{NamedPart, columns_named, spelled_named}
use Rattle.lrp_query.specs.Lawful.{FitsRawTerm, HasTwo, FitsRaw, FitRaws, formulas_in, formulas_of, is_raw_text, text_total, formula_texts, texts_of}
use Rattle.lrp_query.proofs.Whole.{Whole, Wholes, closing, front_of, back_of, after_head, ends_query, body_parts, whole_body}
use Rattle.lrp_query.proofs.HoleFree.{tokens_clean}
use Rattle.lrp_query.proofs.TermRules.{placed_text}
use Rattle.lrp_query.proofs.LawfulQueries.{narrow_tense, arguments_fit, argument_count, within, term_fits, terms_fit, period_fits, map_length, term_some, tokens_long, body_short}
use Rattle.lrp_model.specs.declared.raw.RawQuery.{RawQuery}
use Rattle.lrp_tense.specs.TenseReading.{IsTenseQuery}
use Rattle.lrp_tense.specs.Expanding.{Naming, renamed, renamed_kind, renamed_to, moment_of, between_of, operators, operators_each, operator_number, expanded, expanded_each, expanded_question, IsPlain, IsPlainKind, IsPlainTerm, HasPlainNames, HavePlainNames, IsExpandable}
use Rattle.lrp_tense.specs.Lawful.{IsLawfulExpansion}
use Rattle.lrp_tense.proofs.TokenPlaces.{plain_name, Rises, place_at, tokens_rise, risen_differ, Some, past, kept, some_rise, some_none, some_join}

-- ---- sizes

renamed_fits : (names : Naming) (k : RawTermKind) → FitsRawTerm k → FitsRawTerm (renamed_kind names k)
renamed_fits names (Int x) h = h
renamed_fits names (Text t) h = h
renamed_fits names (Var v) h = h
renamed_fits names (Shifted v plus) h = h

renamed_fit : (names : Naming) (ts : List RawTerm) → AllByRecursion (λ t. FitsRawTerm t.kind) ts → AllByRecursion (λ t. FitsRawTerm t.kind) (map (renamed names) ts)
renamed_fit names [] h = tt
renamed_fit names (t ∷ ts) h = (renamed_fits names t.kind h.0, renamed_fit names ts h.1)

mutual
  fits_expanded : (w : WrittenFormula temporal) → Whole w → FitsSizes w → (number : Place → ℕ) (names : Naming) → FitsRaw (expanded (raw_form w) number names)
  fits_expanded (atom_formula p n ts) o h number names = renamed_fit names (map raw_argument ts) (arguments_fit ts h)
  fits_expanded (compared l op r) o h number names = (renamed_fits names (term_kind l.item) (term_fits l.item h.0), renamed_fits names (term_kind r.item) (term_fits r.item h.1))
  fits_expanded (member t i k) o h number names = let p = period_fits k h.2 h.3 in let w = within i.negative i.size h.1 in (renamed_fits names (term_kind t.item) (term_fits t.item h.0), ((w.0, w.1), p.0, p.1))
  fits_expanded (denied p f) o h number names = fits_expanded f o h number names
  fits_expanded (all_of p f fs) o h number names = (two_members f fs number names, (fits_expanded f o.0 h.0 number names, fit_expanded fs o.1 h.1 number names))
  fits_expanded (any_of p f fs) o h number names = (two_members f fs number names, (fits_expanded f o.0 h.0 number names, fit_expanded fs o.1 h.1 number names))
  fits_expanded (implied p f g) o h number names = (fits_expanded f o.0 h.0 number names, fits_expanded g o.1 h.1 number names)
  fits_expanded (group p f) o h number names = fits_expanded f o h number names
  fits_expanded (some p c f) o h number names = fits_expanded f o h number (renamed_to c.name c.name ∷ names)
  fits_expanded (every p c f) o h number names = fits_expanded f o h number (renamed_to c.name c.name ∷ names)
  fits_expanded (ranged t Once o a b f) w h number names =
      let low = within a.negative a.size h.0 in
      let high = within b.negative b.size h.1 in
      (tt, ((tt, (low.0, low.1)), ((tt, (high.0, high.1)), (fits_expanded f w h.2 number (renamed_to o.name (moment_of number o) ∷ names), tt))))
  fits_expanded (ranged t Always o a b f) w h number names =
      let low = within a.negative a.size h.0 in
      let high = within b.negative b.size h.1 in
      ((tt, ((tt, (low.0, low.1)), ((tt, (high.0, high.1)), tt))), fits_expanded f w h.2 number (renamed_to o.name (moment_of number o) ∷ names))
  fits_expanded (paired t Since o f g) w h number names =
      (tt, ((tt, tt), (fits_expanded g w.1 h.1 number (renamed_to o.name (moment_of number o) ∷ names), (((tt, ((tt, tt), ((tt, tt), tt))), fits_expanded f w.0 h.0 number (renamed_to o.name (between_of number o) ∷ names)), tt))))
  fits_expanded (paired t Until o f g) w h number names =
      (tt, ((tt, tt), (fits_expanded g w.1 h.1 number (renamed_to o.name (moment_of number o) ∷ names), (((tt, ((tt, tt), ((tt, tt), tt))), fits_expanded f w.0 h.0 number (renamed_to o.name (between_of number o) ∷ names)), tt))))
  fits_expanded (differing t l r) o h number names = absurd (narrow_tense t)
  fits_expanded (several t q p ns c f) o h number names = absurd (narrow_tense t)
  fits_expanded (bare_all t f fs) o h number names = absurd (narrow_tense t)
  fits_expanded (bare_any t f fs) o h number names = absurd (narrow_tense t)
  fits_expanded (bare_chain t f fs) o h number names = absurd (narrow_tense t)
  fits_expanded (chain t p f g fs) o h number names = absurd (narrow_tense t)
  fits_expanded (hole p) o h number names = absurd o

  fit_expanded : (fs : FurtherMembers temporal) → Wholes fs → FitSizes fs → (number : Place → ℕ) (names : Naming) → FitRaws (expanded_each (raw_forms fs) number names)
  fit_expanded (last f) o h number names = (fits_expanded f o h number names, tt)
  fit_expanded (more f fs) o h number names = (fits_expanded f o.0 h.0 number names, fit_expanded fs o.1 h.1 number names)

  -- a first member and further ones are two at least
  two_members : (f : WrittenFormula temporal) (fs : FurtherMembers temporal) (number : Place → ℕ) (names : Naming) → HasTwo (raw (expanded (raw_form f) number names) (expanded_each (raw_forms fs) number names))
  two_members f (last g) number names = tt
  two_members f (more g gs) number names = tt

-- ---- how many

-- as many texts as are written
renamed_texts : (names : Naming) (ts : List RawTerm) → text_total (map (renamed names) ts) ≤ length ts
renamed_texts names ts = let k : text_total (map (renamed names) ts) ≤ length (map (renamed names) ts) = count_by-le-length (λ t. is_raw_text t.kind) (map (renamed names) ts) in let l : length (map (renamed names) ts) ≡ length ts = same_length ts in omega (arith, k, l)
  where
    same_length : (xs : List RawTerm) → length (map (renamed names) xs) ≡ length xs
    same_length [] = refl
    same_length (x ∷ xs) = let k = same_length xs in omega (arith, k)

-- the formulas are at most twice as many as the tokens, and the texts at most as many
abbrev Counted : ℕ → ℕ → List Part → Type 0
Counted formulas texts ps = (formulas ≤ 2 * length ps) × (texts ≤ length ps)

-- of a first member and further ones in parentheses
listed : (w : Word) (p : Place) (f : WrittenFormula temporal) (fs : FurtherMembers temporal) (m n k l : ℕ) → Counted m k (formula_text f) → Counted n l (members_text w fs) → Counted ((m + n) + 1) (k + l) (at p (symbol_token Open) ∷ (formula_text f ++ (members_text w fs ++ closing)))
listed w p f fs m n k l a b =
    let rest : List Part = members_text w fs ++ closing in
    let size : length (formula_text f ++ rest) ≡ length (formula_text f) + length rest = length-append (formula_text f) rest in
    let more : length rest ≡ length (members_text w fs) + length closing = length-append (members_text w fs) closing in
    (omega (arith, a.0, b.0, size, more), omega (arith, a.1, b.1, size, more))

mutual
  counted : (w : WrittenFormula temporal) (number : Place → ℕ) (names : Naming) → Counted (formulas_in (expanded (raw_form w) number names)) (formula_texts (expanded (raw_form w) number names)) (formula_text w)
  counted (atom_formula p n ts) number names =
      let texts : text_total (map (renamed names) (map raw_argument ts)) ≤ length (map raw_argument ts) = renamed_texts names (map raw_argument ts) in
      let all : List Part = separated comma (located_text argument_text) ts in
      let size : length (all ++ closing) ≡ length all + length closing = length-append all closing in
      let long : length ts ≤ length all + 1 = separated_long comma (located_text argument_text) ts in
      (omega (arith, size), omega (arith, texts, argument_count ts, size, long))
  counted (compared l op r) number names =
      let two : List RawTerm = raw_term l ∷ raw_term r ∷ [] in
      let texts : text_total (map (renamed names) two) ≤ length two = renamed_texts names two in
      let size : length (placed_text l ++ any (symbol_token (op_symbol op)) ∷ placed_text r) ≡ length (placed_text l) + length (any (symbol_token (op_symbol op)) ∷ placed_text r) = length-append (placed_text l) (any (symbol_token (op_symbol op)) ∷ placed_text r) in
      let left = term_some l.place l.item in
      let right = term_some r.place r.item in
      (omega (arith, size, left, right), omega (arith, texts, size, left, right))
  counted (member t i k) number names =
      let one : List RawTerm = raw_term t ∷ [] in
      let texts : text_total (map (renamed names) one) ≤ length one = renamed_texts names one in
      let rest : List Part = integer_text i ++ any (symbol_token Plus) ∷ any (number_token k) ∷ any (word_token Letter) ∷ [] in
      let size : length (placed_text t ++ any (word_token In) ∷ rest) ≡ length (placed_text t) + length (any (word_token In) ∷ rest) = length-append (placed_text t) (any (word_token In) ∷ rest) in
      let left = term_some t.place t.item in
      (omega (arith, size, left), omega (arith, texts, size, left))
  counted (denied p f) number names = let k = counted f number names in (omega (arith, k.0), omega (arith, k.1))
  counted (all_of p f fs) number names = listed And p f fs _ _ _ _ (counted f number names) (counted_members And fs number names)
  counted (any_of p f fs) number names = listed Or p f fs _ _ _ _ (counted f number names) (counted_members Or fs number names)
  counted (implied p f g) number names =
      let a = counted f number names in
      let b = counted g number names in
      let rest : List Part = formula_text g ++ closing in
      let size : length (formula_text f ++ any (word_token Implies) ∷ rest) ≡ length (formula_text f) + length (any (word_token Implies) ∷ rest) = length-append (formula_text f) (any (word_token Implies) ∷ rest) in
      let more : length rest ≡ length (formula_text g) + length closing = length-append (formula_text g) closing in
      (omega (arith, a.0, b.0, size, more), omega (arith, a.1, b.1, size, more))
  counted (group p f) number names =
      let a = counted f number names in
      let size : length (formula_text f ++ closing) ≡ length (formula_text f) + length closing = length-append (formula_text f) closing in
      (omega (arith, a.0, size), omega (arith, a.1, size))
  counted (some p c f) number names =
      let a = counted f number (renamed_to c.name c.name ∷ names) in
      let size : length (column_text c ++ formula_text f) ≡ length (column_text c) + length (formula_text f) = length-append (column_text c) (formula_text f) in
      (omega (arith, a.0, size), omega (arith, a.1, size))
  counted (every p c f) number names =
      let a = counted f number (renamed_to c.name c.name ∷ names) in
      let size : length (column_text c ++ formula_text f) ≡ length (column_text c) + length (formula_text f) = length-append (column_text c) (formula_text f) in
      (omega (arith, a.0, size), omega (arith, a.1, size))
  counted (ranged t Once o low high f) number names =
      let a = counted f number (renamed_to o.name (moment_of number o) ∷ names) in
      let size : length (interval_text low high ++ formula_text f) ≡ length (interval_text low high) + length (formula_text f) = length-append (interval_text low high) (formula_text f) in
      (omega (arith, a.0, size), omega (arith, a.1, size))
  counted (ranged t Always o low high f) number names =
      let a = counted f number (renamed_to o.name (moment_of number o) ∷ names) in
      let size : length (interval_text low high ++ formula_text f) ≡ length (interval_text low high) + length (formula_text f) = length-append (interval_text low high) (formula_text f) in
      (omega (arith, a.0, size), omega (arith, a.1, size))
  counted (paired t Since o f g) number names =
      let a = counted f number (renamed_to o.name (between_of number o) ∷ names) in
      let b = counted g number (renamed_to o.name (moment_of number o) ∷ names) in
      let rest : List Part = formula_text g ++ closing in
      let size : length (formula_text f ++ any (symbol_token Comma) ∷ rest) ≡ length (formula_text f) + length (any (symbol_token Comma) ∷ rest) = length-append (formula_text f) (any (symbol_token Comma) ∷ rest) in
      let more : length rest ≡ length (formula_text g) + length closing = length-append (formula_text g) closing in
      (omega (arith, a.0, b.0, size, more), omega (arith, a.1, b.1, size, more))
  counted (paired t Until o f g) number names =
      let a = counted f number (renamed_to o.name (between_of number o) ∷ names) in
      let b = counted g number (renamed_to o.name (moment_of number o) ∷ names) in
      let rest : List Part = formula_text g ++ closing in
      let size : length (formula_text f ++ any (symbol_token Comma) ∷ rest) ≡ length (formula_text f) + length (any (symbol_token Comma) ∷ rest) = length-append (formula_text f) (any (symbol_token Comma) ∷ rest) in
      let more : length rest ≡ length (formula_text g) + length closing = length-append (formula_text g) closing in
      (omega (arith, a.0, b.0, size, more), omega (arith, a.1, b.1, size, more))
  counted (differing t l r) number names = absurd (narrow_tense t)
  counted (several t q p ns c f) number names = absurd (narrow_tense t)
  counted (bare_all t f fs) number names = absurd (narrow_tense t)
  counted (bare_any t f fs) number names = absurd (narrow_tense t)
  counted (bare_chain t f fs) number names = absurd (narrow_tense t)
  counted (chain t p f g fs) number names = absurd (narrow_tense t)
  counted (hole p) number names = (omega arith, omega arith)

  counted_members : (w : Word) (fs : FurtherMembers temporal) (number : Place → ℕ) (names : Naming) → Counted (formulas_of (expanded_each (raw_forms fs) number names)) (texts_of (expanded_each (raw_forms fs) number names)) (members_text w fs)
  counted_members w (last f) number names = let a = counted f number names in (omega (arith, a.0), omega (arith, a.1))
  counted_members w (more f fs) number names =
      let a = counted f number names in
      let b = counted_members w fs number names in
      let size : length (formula_text f ++ members_text w fs) ≡ length (formula_text f) + length (members_text w fs) = length-append (formula_text f) (members_text w fs) in
      (omega (arith, a.0, b.0, size), omega (arith, a.1, b.1, size))

-- ---- names

-- a name token of a part has no `~`
abbrev pub PlainParts : List Part → Type 0
PlainParts = AllByRecursion NamedPart

plain_kind : (p : Place) (k : WrittenTerm) → PlainParts (from p (term_text k)) → IsPlainKind (term_kind k)
plain_kind p (integer_term i) h = tt
plain_kind p (text_term t) h = tt
plain_kind p (variable n) h = plain_name n h.0
plain_kind p (shifted n down k) h = plain_name n h.0

plain_argument : {l : Language} (p : Place) (k : WrittenArgument l) → PlainParts (from p (argument_text k)) → IsPlainKind (argument_kind k)
plain_argument p (argument t) h = plain_kind p t h
plain_argument p (star t) h = ((λ e. grind (arith, e)), tt)

plain_arguments : {l : Language} (ts : List (Located (WrittenArgument l))) → PlainParts (separated comma (located_text argument_text) ts) → AllByRecursion IsPlainTerm (map raw_argument ts)
plain_arguments [] h = tt
plain_arguments (t ∷ []) h = (plain_argument t.place t.item h, tt)
plain_arguments (t ∷ u ∷ ts) h =
    let rest : List Part = comma ∷ separated comma (located_text argument_text) (u ∷ ts) in
    (plain_argument t.place t.item (front_of NamedPart (located_text argument_text t) rest h), plain_arguments (u ∷ ts) (back_of NamedPart (located_text argument_text t) rest h).1)

plain_binder : (c : RawColumn) (ps : List Part) → PlainParts (column_text c ++ ps) → IsPlain c.name
plain_binder c ps h = plain_name c.name h.0

-- names that a quantifier has before its last
plain_listed : (ns : List (Located Identifier)) (ps : List Part) → PlainParts (names_text ns ++ ps) → AllByRecursion (λ n. IsPlain n.item) ns × PlainParts ps
plain_listed [] ps h = (tt, h)
plain_listed (n ∷ ns) ps h = let rest = plain_listed ns ps h.1.1 in ((plain_name n.item h.0, rest.0), rest.1)

plain_quantified : (q : Quantifier) (p : Place) (c : RawColumn) (f : RawForm) → IsPlain c.name → HasPlainNames f → HasPlainNames (raw_quantified q p c f)
plain_quantified existential p c f n h = (n, h)
plain_quantified universal p c f n h = (n, h)

plain_several : (q : Quantifier) (p : Place) (ns : List (Located Identifier)) (c : RawColumn) (f : RawForm) → AllByRecursion (λ n. IsPlain n.item) ns → IsPlain c.name → HasPlainNames f → HasPlainNames (raw_several q p ns c f)
plain_several q p [] c f ns n h = plain_quantified q p c f n h
plain_several q p (m ∷ ms) c f ns n h = plain_quantified q p _ (raw_several q p ms c f) ns.0 (plain_several q p ms c f ns.1 n h)

-- in a text of any language no name has a `~`
mutual
  pub plain_names : {l : Language} (w : WrittenFormula l) → PlainParts (formula_text w) → HasPlainNames (raw_form w)
  plain_names (atom_formula p n ts) h = plain_arguments ts (front_of NamedPart (separated comma (located_text argument_text) ts) closing h.1.1)
  plain_names (compared l op r) h =
      let rest : List Part = any (symbol_token (op_symbol op)) ∷ placed_text r in
      (plain_kind l.place l.item (front_of NamedPart (placed_text l) rest h), plain_kind r.place r.item (back_of NamedPart (placed_text l) rest h).1)
  plain_names (member t i k) h = plain_kind t.place t.item (front_of NamedPart (placed_text t) (any (word_token In) ∷ (integer_text i ++ any (symbol_token Plus) ∷ any (number_token k) ∷ any (word_token Letter) ∷ [])) h)
  plain_names (denied p f) h = plain_names f h.1
  plain_names (all_of p f fs) h = (plain_names f (front_of NamedPart (formula_text f) (members_text And fs ++ closing) h.1), plain_members And fs (front_of NamedPart (members_text And fs) closing (back_of NamedPart (formula_text f) (members_text And fs ++ closing) h.1)))
  plain_names (any_of p f fs) h = (plain_names f (front_of NamedPart (formula_text f) (members_text Or fs ++ closing) h.1), plain_members Or fs (front_of NamedPart (members_text Or fs) closing (back_of NamedPart (formula_text f) (members_text Or fs ++ closing) h.1)))
  plain_names (implied p f g) h =
      let rest : List Part = any (word_token Implies) ∷ (formula_text g ++ closing) in
      (plain_names f (front_of NamedPart (formula_text f) rest h.1), plain_names g (front_of NamedPart (formula_text g) closing (back_of NamedPart (formula_text f) rest h.1).1))
  plain_names (group p f) h = plain_names f (front_of NamedPart (formula_text f) closing h.1)
  plain_names (some p b f) h = (plain_binder b (formula_text f) h.1, plain_names f (back_of NamedPart (column_text b) (formula_text f) h.1))
  plain_names (every p b f) h = (plain_binder b (formula_text f) h.1, plain_names f (back_of NamedPart (column_text b) (formula_text f) h.1))
  plain_names (ranged t word o a b f) h = (plain_name o.name h.1.0, plain_names f (back_of NamedPart (interval_text a b) (formula_text f) h.1.1.1))
  plain_names (paired t word o f g) h =
      let rest : List Part = any (symbol_token Comma) ∷ (formula_text g ++ closing) in
      (plain_name o.name h.1.0, plain_names f (front_of NamedPart (formula_text f) rest h.1.1.1), plain_names g (front_of NamedPart (formula_text g) closing (back_of NamedPart (formula_text f) rest h.1.1.1).1))
  plain_names (differing t l r) h =
      let rest : List Part = any (symbol_token Differs) ∷ placed_text r in
      (plain_kind l.place l.item (front_of NamedPart (placed_text l) rest h), plain_kind r.place r.item (back_of NamedPart (placed_text l) rest h).1)
  plain_names (several t q p ns c f) h =
      let names = plain_listed (ns.first ∷ ns.others) (column_text c ++ formula_text f) h.1 in
      plain_several q p (ns.first ∷ ns.others) c (raw_form f) names.0 (plain_binder c (formula_text f) names.1) (plain_names f (back_of NamedPart (column_text c) (formula_text f) names.1))
  plain_names (bare_all t f fs) h = (plain_names f (front_of NamedPart (formula_text f) (members_text And fs) h), plain_members And fs (back_of NamedPart (formula_text f) (members_text And fs) h))
  plain_names (bare_any t f fs) h = (plain_names f (front_of NamedPart (formula_text f) (members_text Or fs) h), plain_members Or fs (back_of NamedPart (formula_text f) (members_text Or fs) h))
  plain_names (bare_chain t f fs) h =
      plain_chain (place_of (raw_form f)) (raw_form f) fs (plain_names f (front_of NamedPart (formula_text f) (members_text Implies fs) h)) (back_of NamedPart (formula_text f) (members_text Implies fs) h)
  plain_names (chain t p f g fs) h =
      let afterwards : List Part = members_text Implies fs ++ closing in
      let rest : List Part = any (word_token Implies) ∷ (formula_text g ++ afterwards) in
      let after : PlainParts (formula_text g ++ afterwards) = (back_of NamedPart (formula_text f) rest h.1).1 in (
        plain_names f (front_of NamedPart (formula_text f) rest h.1),
        plain_chain (place_of (raw_form g)) (raw_form g) fs (plain_names g (front_of NamedPart (formula_text g) afterwards after)) (front_of NamedPart (members_text Implies fs) closing (back_of NamedPart (formula_text g) afterwards after)),
      )
  plain_names (hole p) h = tt

  plain_chain : {l : Language} (p : Place) (f : RawForm) (fs : FurtherMembers l) → HasPlainNames f → PlainParts (members_text Implies fs) → HasPlainNames (raw_chain p f fs)
  plain_chain p f (last g) k h = (k, plain_names g h.1)
  plain_chain p f (more g gs) k h =
      (k, plain_chain (place_of (raw_form g)) (raw_form g) gs (plain_names g (front_of NamedPart (formula_text g) (members_text Implies gs) h.1)) (back_of NamedPart (formula_text g) (members_text Implies gs) h.1))

  plain_members : {l : Language} (w : Word) (fs : FurtherMembers l) → PlainParts (members_text w fs) → HavePlainNames (raw_forms fs)
  plain_members w (last f) h = (plain_names f h.1, tt)
  plain_members w (more f fs) h = (plain_names f (front_of NamedPart (formula_text f) (members_text w fs) h.1), plain_members w fs (back_of NamedPart (formula_text f) (members_text w fs) h.1))

-- ---- places of operators

-- the places that parts have
abbrev pub at_places : List Part → List Place
at_places [] = []
at_places (at p k ∷ ps) = p ∷ at_places ps
at_places (any k ∷ ps) = at_places ps

pub places_join : (ps qs : List Part) → at_places (ps ++ qs) ≡ at_places ps ++ at_places qs
places_join [] qs = refl
places_join (at p k ∷ ps) qs = ap (λ l. p ∷ l) (places_join ps qs)
places_join (any k ∷ ps) qs = places_join ps qs

-- they are some of those of the tokens
pub places_taken : (ps : List Part) (ts left : Tokens) → Takes ps ts left → Some (at_places ps) (map place_at ts)
places_taken [] ts left h = some_none (map place_at ts)
places_taken (p ∷ ps) [] left h = absurd h
places_taken (at p k ∷ ps) (t ∷ ts) left h = subst (λ x. Some (x ∷ at_places ps) (t.place ∷ map place_at ts)) h.0.1 (kept t.place (at_places ps) (map place_at ts) (places_taken ps ts left h.1))
places_taken (any k ∷ ps) (t ∷ ts) left h = past t.place (at_places ps) (map place_at ts) (places_taken ps ts left h.1)

-- of one list of parts and of another after it
pub both_some : (xs us : List Place) (ps qs : List Part) → Some xs (at_places ps) → Some us (at_places qs) → Some (xs ++ us) (at_places (ps ++ qs))
both_some xs us ps qs s t = subst (Some (xs ++ us)) (sym (places_join ps qs)) (some_join xs (at_places ps) us (at_places qs) s t)

-- of the first of two lists alone, and of the second
pub first_some : (xs : List Place) (ps qs : List Part) → Some xs (at_places ps) → Some xs (at_places (ps ++ qs))
first_some xs ps qs s = subst (λ x. Some x (at_places (ps ++ qs))) (append-nil xs) (both_some xs [] ps qs s (some_none (at_places qs)))

pub second_some : (us : List Place) (ps qs : List Part) → Some us (at_places qs) → Some us (at_places (ps ++ qs))
second_some us ps qs t = both_some [] us ps qs (some_none (at_places ps)) t

-- quantifiers have none but those of their formula
quantified_operators : (q : Quantifier) (p : Place) (c : RawColumn) (f : RawForm) → operators (raw_quantified q p c f) ≡ operators f
quantified_operators existential p c f = refl
quantified_operators universal p c f = refl

several_operators : (q : Quantifier) (p : Place) (ns : List (Located Identifier)) (c : RawColumn) (f : RawForm) → operators (raw_several q p ns c f) ≡ operators f
several_operators q p [] c f = quantified_operators q p c f
several_operators q p (n ∷ ns) c f = quantified_operators q p _ (raw_several q p ns c f) ∙ several_operators q p ns c f

-- in a text of any language
mutual
  pub operators_some : {l : Language} (w : WrittenFormula l) → Some (operators (raw_form w)) (at_places (formula_text w))
  operators_some {l = l} (atom_formula p n ts) = some_none (at_places (formula_text {l = l} (atom_formula p n ts)))
  operators_some {l = l} (compared x op y) = some_none (at_places (formula_text {l = l} (compared x op y)))
  operators_some {l = l} (member t i k) = some_none (at_places (formula_text {l = l} (member t i k)))
  operators_some (denied p f) = past p _ _ (operators_some f)
  operators_some (all_of p f fs) = past p _ _ (both_some (operators (raw_form f)) (operators_each (raw_forms fs)) (formula_text f) (members_text And fs ++ closing) (operators_some f) (first_some (operators_each (raw_forms fs)) (members_text And fs) closing (members_some And fs)))
  operators_some (any_of p f fs) = past p _ _ (both_some (operators (raw_form f)) (operators_each (raw_forms fs)) (formula_text f) (members_text Or fs ++ closing) (operators_some f) (first_some (operators_each (raw_forms fs)) (members_text Or fs) closing (members_some Or fs)))
  operators_some (implied p f g) = past p _ _ (both_some (operators (raw_form f)) (operators (raw_form g)) (formula_text f) (any (word_token Implies) ∷ (formula_text g ++ closing)) (operators_some f) (first_some (operators (raw_form g)) (formula_text g) closing (operators_some g)))
  operators_some (group p f) = past p _ _ (first_some (operators (raw_form f)) (formula_text f) closing (operators_some f))
  operators_some (some p c f) = past p _ _ (second_some (operators (raw_form f)) (column_text c) (formula_text f) (operators_some f))
  operators_some (every p c f) = past p _ _ (second_some (operators (raw_form f)) (column_text c) (formula_text f) (operators_some f))
  operators_some (ranged t word o a b f) = kept o.place _ _ (past o.name_place _ _ (second_some (operators (raw_form f)) (interval_text a b) (formula_text f) (operators_some f)))
  operators_some (paired t word o f g) = kept o.place _ _ (past o.name_place _ _ (both_some (operators (raw_form f)) (operators (raw_form g)) (formula_text f) (any (symbol_token Comma) ∷ (formula_text g ++ closing)) (operators_some f) (first_some (operators (raw_form g)) (formula_text g) closing (operators_some g))))
  operators_some {l = l} (differing t x y) = some_none (at_places (formula_text {l = l} (differing t x y)))
  operators_some (several t q p ns c f) =
      past p _ _ (subst (λ x. Some x (at_places (names_text (ns.first ∷ ns.others) ++ (column_text c ++ formula_text f)))) (sym (several_operators q p (ns.first ∷ ns.others) c (raw_form f)))
      (second_some (operators (raw_form f)) (names_text (ns.first ∷ ns.others)) (column_text c ++ formula_text f) (second_some (operators (raw_form f)) (column_text c) (formula_text f) (operators_some f))))
  operators_some (bare_all t f fs) = both_some (operators (raw_form f)) (operators_each (raw_forms fs)) (formula_text f) (members_text And fs) (operators_some f) (members_some And fs)
  operators_some (bare_any t f fs) = both_some (operators (raw_form f)) (operators_each (raw_forms fs)) (formula_text f) (members_text Or fs) (operators_some f) (members_some Or fs)
  operators_some (bare_chain t f fs) = chain_some (place_of (raw_form f)) (raw_form f) (formula_text f) fs (operators_some f)
  operators_some (chain t p f g fs) =
      let made : RawForm = raw_chain (place_of (raw_form g)) (raw_form g) fs in
      let both : Some (operators made) (at_places (formula_text g ++ members_text Implies fs)) = chain_some (place_of (raw_form g)) (raw_form g) (formula_text g) fs (operators_some g) in
      past p _ _ (both_some (operators (raw_form f)) (operators made) (formula_text f) (any (word_token Implies) ∷ (formula_text g ++ (members_text Implies fs ++ closing))) (operators_some f)
      (subst (λ x. Some (operators made) (at_places x)) (append_assoc (formula_text g) (members_text Implies fs) closing) (first_some (operators made) (formula_text g ++ members_text Implies fs) closing both)))
  operators_some {l = l} (hole p) = some_none (at_places (formula_text {l = l} (hole p)))

  -- a formula spelled by some parts, and what it implies in turn
  chain_some : {l : Language} (p : Place) (f : RawForm) (ps : List Part) (fs : FurtherMembers l) → Some (operators f) (at_places ps) → Some (operators (raw_chain p f fs)) (at_places (ps ++ members_text Implies fs))
  chain_some p f ps (last g) h = both_some (operators f) (operators (raw_form g)) ps (any (word_token Implies) ∷ formula_text g) h (operators_some g)
  chain_some p f ps (more g gs) h =
      both_some (operators f) (operators (raw_chain (place_of (raw_form g)) (raw_form g) gs)) ps (any (word_token Implies) ∷ (formula_text g ++ members_text Implies gs)) h
      (chain_some (place_of (raw_form g)) (raw_form g) (formula_text g) gs (operators_some g))

  members_some : {l : Language} (w : Word) (fs : FurtherMembers l) → Some (operators_each (raw_forms fs)) (at_places (members_text w fs))
  members_some w (last f) = subst (λ x. Some x (at_places (formula_text f))) (sym (append-nil (operators (raw_form f)))) (operators_some f)
  members_some w (more f fs) = both_some (operators (raw_form f)) (operators_each (raw_forms fs)) (formula_text f) (members_text w fs) (operators_some f) (members_some w fs)

-- ---- queries

-- the places of the operators are some of those of the tokens
query_places : (t : WrittenQuery temporal) → Some (operators (raw_form t.body)) (at_places (query_text t))
query_places t = second_some (operators (raw_form t.body)) (separated comma column_text t.head) (after_head t.body) (first_some (operators (raw_form t.body)) (formula_text t.body) ends_query (operators_some t.body))

-- of some places of which others are some
pub some_through : (xs ys zs : List Place) → Some xs ys → Rises zs → Some ys zs → Rises xs
some_through xs ys zs s r t = some_rise xs ys s (some_rise ys zs t r)

-- each query that is read can be expanded
expandable_tree : (bytes : List ℕ) (t : WrittenQuery temporal) → Spells (query_text t) (tokens bytes) → IsExpandable (raw_question t)
expandable_tree bytes t spelled = record {
  names = plain_names t.body (body_parts NamedPart t (spelled_named bytes (query_text t) spelled));
  places = risen_differ (operators (raw_form t.body)) (some_through (operators (raw_form t.body)) (at_places (query_text t)) (map place_at (tokens bytes)) (query_places t) (tokens_rise bytes) (places_taken (query_text t) (tokens bytes) [] spelled));
}

pub expandable_query : (bytes : List ℕ) (q : RawQuestion) → IsTenseQuery bytes q → IsExpandable q
expandable_query bytes q t = subst IsExpandable (sym t.meant) (expandable_tree bytes t.tree t.text.spelled)

-- and is lawful then
lawful_tree : (bytes : List ℕ) (t : WrittenQuery temporal) → length bytes ≤ 16777216 → Spells (query_text t) (tokens bytes) → FitsSizes t.body → IsLawfulExpansion (expanded_question (raw_question t))
lawful_tree bytes t small spelled sizes =
    let o = whole_body t (tokens bytes) spelled (tokens_clean false bytes) in
    let size : length {A = Placed} [] + length (query_text t) ≡ length (tokens bytes) = takes_shorter (query_text t) (tokens bytes) [] spelled in
    let long = tokens_long bytes in
    let short = body_short t in
    let number : Place → ℕ = operator_number (operators (raw_form t.body)) in
    let k = counted t.body number [] in
    record {
      names = columns_named t.head (front_of NamedPart (separated comma column_text t.head) (after_head t.body) (spelled_named bytes (query_text t) spelled).1);
      sizes = fits_expanded t.body o sizes number [];
      formulas = omega (arith, size, long, short, k.0, small);
      texts = omega (arith, size, long, short, k.1, small);
    }

pub lawful_query : (bytes : List ℕ) (q : RawQuestion) → length bytes ≤ 16777216 → IsTenseQuery bytes q → IsLawfulExpansion (expanded_question q)
lawful_query bytes q small t = subst (λ x. IsLawfulExpansion (expanded_question x)) (sym t.meant) (lawful_tree bytes t.tree small t.text.spelled t.text.lawful.sizes)

-- the same of each result
pub expandable_read : (bytes : List ℕ) (r : Result RawQuery QueryRead) → IfOk r (λ q. IsTenseQuery bytes (raw_question_of q)) → IfOk r (λ q. IsExpandable (raw_question_of q))
expandable_read bytes (Ok q) t = expandable_query bytes (raw_question_of q) t
expandable_read bytes (Err e) t = t

pub lawful_read : (bytes : List ℕ) (r : Result RawQuery QueryRead) → length bytes ≤ 16777216 → IfOk r (λ q. IsTenseQuery bytes (raw_question_of q)) → IfOk r (λ q. IsLawfulExpansion (expanded_question (raw_question_of q)))
lawful_read bytes (Ok q) small t = lawful_query bytes (raw_question_of q) small t
lawful_read bytes (Err e) small t = t
