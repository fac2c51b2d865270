-- The texts of a query are data texts, and those of its expansion are the same.
use Rattle.std.proofs.Common.{◌&&◌, ℕ, suc, List, [], ◌∷◌, ◌++◌, length, map, reverse, sym, subst}
use Rattle.std.specs.List.{AllByRecursion}
use Rattle.lrp_model.specs.Checked.{plain, plain_each, plain_question, term_of}
use Rattle.lrp_model.specs.RawTerms.{data_of, is_equality, time_of}
use Rattle.lrp_model.specs.Columns.{column_text}
use Rattle.lrp_model.specs.DatabaseMeaning.{column_of}
use Rattle.lrp_model.specs.DatabaseReading.{IsDatabase}
use Rattle.lrp_model.specs.DataTexts.{IsDataText}
use Rattle.lrp_model.specs.Databases.{comma}
use Rattle.lrp_model.specs.Domains.{all_texts, database_texts, form_texts, forms_texts, term_texts}
use Rattle.lrp_model.specs.Rows.{columns_in, relation_named}
use Rattle.lrp_model.specs.Lexing.{tokens, start}
use Rattle.lrp_model.specs.Queries.{Language, Quantifier, WrittenArgument, WrittenTerm, WrittenFormula, FurtherMembers, FitsTerm, FitsSizes, FitSizes, op_symbol, term_text, argument_text, names_text, formula_text, members_text, interval_text, query_text}
use Rattle.lrp_model.specs.Queries.Language.{first_order, temporal}
use Rattle.lrp_model.specs.Queries.Quantifier.{existential, universal}
use Rattle.lrp_model.specs.Queries.WrittenArgument.{argument, star}
use Rattle.lrp_model.specs.Queries.WrittenFormula.{atom_formula, compared, member, denied, all_of, any_of, implied, group, some, every, ranged, paired, differing, several, bare_all, bare_any, bare_chain, chain, hole}
use Rattle.lrp_model.specs.Queries.FurtherMembers.{last, more}
use Rattle.lrp_model.specs.QueryReading.{IsQuery, IsQueryIn}
use Rattle.lrp_model.specs.declared.raw.Ranged.TheVariants.{Once, Always}
use Rattle.lrp_model.specs.declared.raw.Paired.TheVariants.{Since, Until}
use Rattle.lrp_model.specs.Queries.WrittenTerm.{integer, text_term, variable, shifted}
use Rattle.lrp_model.specs.QueryMeaning.{raw_term, raw_argument, raw_several, raw_chain, raw_form, raw_forms, term_kind, argument_kind}
use Rattle.lrp_model.specs.RawQueries.{place_of, RawForm, RawForms, RawQuestion, raw_atom, raw_compare, raw_member, raw_not, raw_and, raw_or, raw_implies, raw_group, raw_exists, raw_forall, raw_ranged, raw_paired, no_raws, raw}
use Rattle.lrp_model.specs.Sorting.{Binders, is_data_term, term_sort}
use Rattle.lrp_model.specs.Texts.{Identifier}
use Rattle.lrp_model.specs.Tokens.{located_text, separated}
use Rattle.lrp_model.specs.Tokens.Token.{word_token, symbol_token, end_token}
use Rattle.lrp_model.specs.Tokens.Part.{any}
use Rattle.lrp_model.specs.declared.raw.RawColumn.{RawColumn}
use Rattle.lrp_model.specs.declared.raw.RawTerm.{RawTerm}
use Rattle.lrp_model.specs.declared.raw.RawTermKind.{RawTermKind}
use Rattle.lrp_model.specs.declared.raw.RawTermKind.TheVariants.{Int, Text, Var, Shifted}
use Rattle.lrp_model.specs.declared.relations.Column.{Column}
use Rattle.lrp_model.specs.declared.relations.Relation.{Relation}
use Rattle.lrp_model.specs.declared.tokens.Place.{Place}
use Rattle.lrp_model.specs.declared.tokens.Symbol.TheVariants.{Close, Comma, Bar, CloseBrace, Differs}
use Rattle.lrp_model.specs.declared.tokens.Word.{Word}
use Rattle.lrp_model.specs.declared.tokens.Word.TheVariants.{And, Or, Implies}
use Rattle.lrp_model.specs.declared.written.Located.{Located}
use Rattle.lrp_tense.specs.Expanding.{Naming, renamed, renamed_kind, expanded, expanded_each, expanded_question, moment_of, between_of, renamed_to, operator_number, operators}
use Rattle.lrp_tense.specs.TenseReading.{IsTenseQuery}
use Rattle.lrp_text.proofs.NameTokens.{all_front, all_after}
use Rattle.lrp_reading_laws.proofs.DataTextLemmas.{TextPart, takes_texted, tokens_texted, IsGood, IsGoodArgument, term_good, arguments_good, IsGoodData, nothing_good, IsEntry, both, term_entry, test_entries, database_entries}

-- ---- terms

-- a text among the kinds of terms is a data text
abbrev pub IsGoodKind : RawTermKind → Type 0
IsGoodKind (Text t) = IsDataText t
IsGoodKind (Int x) = Unit {0}
IsGoodKind (Var v) = Unit {0}
IsGoodKind (Shifted v plus) = Unit {0}

abbrev pub IsGoodTerm : RawTerm → Type 0
IsGoodTerm t = IsGoodKind t.kind

kind_good : (t : WrittenTerm) → IsGood t → IsGoodKind (term_kind t)
kind_good (text_term t) h = h
kind_good (integer i) h = tt
kind_good (variable n) h = tt
kind_good (shifted n down k) h = tt

argument_good : {l : Language} (t : WrittenArgument l) → IsGoodArgument t → IsGoodKind (argument_kind t)
argument_good (argument t) h = kind_good t h
argument_good (star t) h = tt

kinds_good : {l : Language} (ts : List (Located (WrittenArgument l))) → AllByRecursion (λ t. IsGoodArgument t.item) ts → AllByRecursion IsGoodTerm (map raw_argument ts)
kinds_good [] h = tt
kinds_good (t ∷ ts) h = (argument_good t.item h.0, kinds_good ts h.1)

-- a written term stands with its place
located_good : (t : Located WrittenTerm) → AllByRecursion TextPart (located_text term_text t) → FitsTerm t.item → IsGoodTerm (raw_term t)
located_good t h short = kind_good t.item (term_good t.place t.item h short)

renamed_good : (names : Naming) (k : RawTermKind) → IsGoodKind k → IsGoodKind (renamed_kind names k)
renamed_good names (Text t) h = h
renamed_good names (Int x) h = tt
renamed_good names (Var v) h = tt
renamed_good names (Shifted v plus) h = tt

renamed_each : (names : Naming) (ts : List RawTerm) → AllByRecursion IsGoodTerm ts → AllByRecursion IsGoodTerm (map (renamed names) ts)
renamed_each names [] h = tt
renamed_each names (t ∷ ts) h = (renamed_good names t.kind h.0, renamed_each names ts h.1)

data_good : (k : RawTermKind) → IsGoodKind k → IsGoodData (data_of k)
data_good (Text t) h = h
data_good (Int x) h = nothing_good
data_good (Var v) h = tt
data_good (Shifted v plus) h = nothing_good

-- ---- formulas

abbrev mutual
  pub HasGoodTexts : RawForm → Type 0
  HasGoodTexts (raw_atom p n ts) = AllByRecursion IsGoodTerm ts
  HasGoodTexts (raw_compare p l op r) = IsGoodTerm l × IsGoodTerm r
  HasGoodTexts (raw_member p t point) = Unit {0}
  HasGoodTexts (raw_not p f) = HasGoodTexts f
  HasGoodTexts (raw_and p fs) = HaveGoodTexts fs
  HasGoodTexts (raw_or p fs) = HaveGoodTexts fs
  HasGoodTexts (raw_implies p f g) = HasGoodTexts f × HasGoodTexts g
  HasGoodTexts (raw_group p f) = HasGoodTexts f
  HasGoodTexts (raw_exists p c f) = HasGoodTexts f
  HasGoodTexts (raw_forall p c f) = HasGoodTexts f
  HasGoodTexts (raw_ranged word o from to f) = HasGoodTexts f
  HasGoodTexts (raw_paired word o f g) = HasGoodTexts f × HasGoodTexts g

  pub HaveGoodTexts : RawForms → Type 0
  HaveGoodTexts no_raws = Unit {0}
  HaveGoodTexts (raw f fs) = HasGoodTexts f × HaveGoodTexts fs

raw_entries : (cs : List Column) (bs : Binders) (ts : List RawTerm) → AllByRecursion IsGoodTerm ts → AllByRecursion IsEntry (term_texts cs (map (term_of bs) ts))
raw_entries [] bs [] h = tt
raw_entries [] bs (t ∷ ts) h = tt
raw_entries (c ∷ cs) bs [] h = tt
raw_entries (c ∷ cs) bs (t ∷ ts) h =
    term_entry (is_data_term (term_sort bs t)) (data_of t.kind) (time_of t.kind) c cs (map (term_of bs) ts) (data_good t.kind h.0) (raw_entries cs bs ts h.1)

mutual
  pub good_entries : (f : RawForm) → HasGoodTexts f → (bs : Binders) (db : List Relation) (binders : List Column) → AllByRecursion IsEntry (form_texts (plain f bs) db binders)
  good_entries (raw_atom p n ts) h bs db binders = raw_entries (columns_in (relation_named db n)) bs ts h
  good_entries (raw_compare p l op r) h bs db binders =
      test_entries (is_equality op && is_data_term (term_sort bs l) && is_data_term (term_sort bs r)) binders (data_of l.kind) (data_of r.kind) (time_of l.kind) (time_of r.kind) op (data_good l.kind h.0) (data_good r.kind h.1)
  good_entries (raw_member p t point) h bs db binders = tt
  good_entries (raw_not p f) h bs db binders = good_entries f h bs db binders
  good_entries (raw_and p fs) h bs db binders = each_entries fs h bs db binders
  good_entries (raw_or p fs) h bs db binders = each_entries fs h bs db binders
  good_entries (raw_implies p f g) h bs db binders =
      both (form_texts (plain f bs) db binders) (form_texts (plain g bs) db binders) (good_entries f h.0 bs db binders) (good_entries g h.1 bs db binders)
  good_entries (raw_group p f) h bs db binders = good_entries f h bs db binders
  good_entries (raw_exists p c f) h bs db binders = good_entries f h (c ∷ bs) db (record { name = c.name; sort = c.sort } ∷ binders)
  good_entries (raw_forall p c f) h bs db binders = good_entries f h (c ∷ bs) db (record { name = c.name; sort = c.sort } ∷ binders)
  good_entries (raw_ranged word o from to f) h bs db binders = good_entries f h bs db binders
  good_entries (raw_paired word o f g) h bs db binders = good_entries g h.1 bs db binders

  each_entries : (fs : RawForms) → HaveGoodTexts fs → (bs : Binders) (db : List Relation) (binders : List Column) → AllByRecursion IsEntry (forms_texts (plain_each fs bs) db binders)
  each_entries no_raws h bs db binders = tt
  each_entries (raw f fs) h bs db binders =
      both (form_texts (plain f bs) db binders) (forms_texts (plain_each fs bs) db binders) (good_entries f h.0 bs db binders) (each_entries fs h.1 bs db binders)

-- to write operators out brings no text
mutual
  pub expanded_good : (f : RawForm) → HasGoodTexts f → (number : Place → ℕ) (names : Naming) → HasGoodTexts (expanded f number names)
  expanded_good (raw_atom p n ts) h number names = renamed_each names ts h
  expanded_good (raw_compare p l op r) h number names = (renamed_good names l.kind h.0, renamed_good names r.kind h.1)
  expanded_good (raw_member p t point) h number names = tt
  expanded_good (raw_not p f) h number names = expanded_good f h number names
  expanded_good (raw_and p fs) h number names = each_good fs h number names
  expanded_good (raw_or p fs) h number names = each_good fs h number names
  expanded_good (raw_implies p f g) h number names = (expanded_good f h.0 number names, expanded_good g h.1 number names)
  expanded_good (raw_group p f) h number names = expanded_good f h number names
  expanded_good (raw_exists p c f) h number names = expanded_good f h number (renamed_to c.name c.name ∷ names)
  expanded_good (raw_forall p c f) h number names = expanded_good f h number (renamed_to c.name c.name ∷ names)
  expanded_good (raw_ranged Once o from to f) h number names =
      ((tt, tt), ((tt, tt), (expanded_good f h number (renamed_to o.name (moment_of number o) ∷ names), tt)))
  expanded_good (raw_ranged Always o from to f) h number names =
      (((tt, tt), ((tt, tt), tt)), expanded_good f h number (renamed_to o.name (moment_of number o) ∷ names))
  expanded_good (raw_paired Since o f g) h number names =
      ((tt, tt), (expanded_good g h.1 number (renamed_to o.name (moment_of number o) ∷ names), ((((tt, tt), ((tt, tt), tt)), expanded_good f h.0 number (renamed_to o.name (between_of number o) ∷ names)), tt)))
  expanded_good (raw_paired Until o f g) h number names =
      ((tt, tt), (expanded_good g h.1 number (renamed_to o.name (moment_of number o) ∷ names), ((((tt, tt), ((tt, tt), tt)), expanded_good f h.0 number (renamed_to o.name (between_of number o) ∷ names)), tt)))

  each_good : (fs : RawForms) → HaveGoodTexts fs → (number : Place → ℕ) (names : Naming) → HaveGoodTexts (expanded_each fs number names)
  each_good no_raws h number names = tt
  each_good (raw f fs) h number names = (expanded_good f h.0 number names, each_good fs h.1 number names)

-- ---- what is written

-- quantifiers of several names
several_good : (q : Quantifier) (p : Place) (ns : List (Located Identifier)) (c : RawColumn) (f : RawForm) → HasGoodTexts f → HasGoodTexts (raw_several q p ns c f)
several_good existential p [] c f h = h
several_good universal p [] c f h = h
several_good existential p (n ∷ ns) c f h = several_good existential p ns c f h
several_good universal p (n ∷ ns) c f h = several_good universal p ns c f h

mutual
  pub written_good : {l : Language} (f : WrittenFormula l) → AllByRecursion TextPart (formula_text f) → FitsSizes f → HasGoodTexts (raw_form f)
  written_good (atom_formula p n ts) h short = kinds_good ts (arguments_good ts (all_front TextPart (separated comma (located_text argument_text) ts) (any (symbol_token Close) ∷ []) h.1.1) short)
  written_good (compared l op r) h short = (
    located_good l (all_front TextPart (located_text term_text l) (any (symbol_token (op_symbol op)) ∷ located_text term_text r) h) short.0,
    located_good r (all_after TextPart (located_text term_text l) (any (symbol_token (op_symbol op)) ∷ located_text term_text r) h).1 short.1,
  )
  written_good (member t i k) h short = tt
  written_good (denied p f) h short = written_good f h.1 short
  written_good (all_of p f fs) h short =
      let after = members_text And fs ++ any (symbol_token Close) ∷ [] in
      (written_good f (all_front TextPart (formula_text f) after h.1) short.0, members_good fs And (all_front TextPart (members_text And fs) (any (symbol_token Close) ∷ []) (all_after TextPart (formula_text f) after h.1)) short.1)
  written_good (any_of p f fs) h short =
      let after = members_text Or fs ++ any (symbol_token Close) ∷ [] in
      (written_good f (all_front TextPart (formula_text f) after h.1) short.0, members_good fs Or (all_front TextPart (members_text Or fs) (any (symbol_token Close) ∷ []) (all_after TextPart (formula_text f) after h.1)) short.1)
  written_good (implied p f g) h short =
      let end = any (symbol_token Close) ∷ [] in
      let after = any (word_token Implies) ∷ (formula_text g ++ end) in
      (written_good f (all_front TextPart (formula_text f) after h.1) short.0, written_good g (all_front TextPart (formula_text g) end (all_after TextPart (formula_text f) after h.1).1) short.1)
  written_good (group p f) h short = written_good f (all_front TextPart (formula_text f) (any (symbol_token Close) ∷ []) h.1) short
  written_good (some p c f) h short = written_good f (all_after TextPart (column_text c) (formula_text f) h.1) short
  written_good (every p c f) h short = written_good f (all_after TextPart (column_text c) (formula_text f) h.1) short
  written_good (ranged t word o from to f) h short = written_good f (all_after TextPart (interval_text from to) (formula_text f) h.1.1.1) short.2
  written_good (paired t word o f g) h short =
      let end = any (symbol_token Close) ∷ [] in
      let after = any (symbol_token Comma) ∷ (formula_text g ++ end) in
      (written_good f (all_front TextPart (formula_text f) after h.1.1.1) short.0, written_good g (all_front TextPart (formula_text g) end (all_after TextPart (formula_text f) after h.1.1.1).1) short.1)
  written_good (differing t l r) h short = (
    located_good l (all_front TextPart (located_text term_text l) (any (symbol_token Differs) ∷ located_text term_text r) h) short.0,
    located_good r (all_after TextPart (located_text term_text l) (any (symbol_token Differs) ∷ located_text term_text r) h).1 short.1,
  )
  written_good (several t q p ns c f) h short =
      let names = names_text (ns.first ∷ ns.others) in
      several_good q p (ns.first ∷ ns.others) c (raw_form f) (written_good f (all_after TextPart (column_text c) (formula_text f) (all_after TextPart names (column_text c ++ formula_text f) h.1)) short)
  written_good (bare_all t f fs) h short = (written_good f (all_front TextPart (formula_text f) (members_text And fs) h) short.0, members_good fs And (all_after TextPart (formula_text f) (members_text And fs) h) short.1)
  written_good (bare_any t f fs) h short = (written_good f (all_front TextPart (formula_text f) (members_text Or fs) h) short.0, members_good fs Or (all_after TextPart (formula_text f) (members_text Or fs) h) short.1)
  written_good (bare_chain t f fs) h short =
      chain_good (place_of (raw_form f)) (raw_form f) fs (written_good f (all_front TextPart (formula_text f) (members_text Implies fs) h) short.0) (all_after TextPart (formula_text f) (members_text Implies fs) h) short.1
  written_good (chain t p f g fs) h short =
      let further = members_text Implies fs ++ any (symbol_token Close) ∷ [] in
      let after = any (word_token Implies) ∷ (formula_text g ++ further) in
      let last = (all_after TextPart (formula_text f) after h.1).1 in (
        written_good f (all_front TextPart (formula_text f) after h.1) short.0,
        chain_good (place_of (raw_form g)) (raw_form g) fs (written_good g (all_front TextPart (formula_text g) further last) short.1) (all_front TextPart (members_text Implies fs) (any (symbol_token Close) ∷ []) (all_after TextPart (formula_text g) further last)) short.2,
      )
  written_good (hole p) h short = tt

  -- a formula and what it implies in turn
  chain_good : {l : Language} (p : Place) (f : RawForm) (fs : FurtherMembers l) → HasGoodTexts f → AllByRecursion TextPart (members_text Implies fs) → FitSizes fs → HasGoodTexts (raw_chain p f fs)
  chain_good p f (last g) k h short = (k, written_good g h.1 short)
  chain_good p f (more g gs) k h short =
      (k, chain_good (place_of (raw_form g)) (raw_form g) gs (written_good g (all_front TextPart (formula_text g) (members_text Implies gs) h.1) short.0) (all_after TextPart (formula_text g) (members_text Implies gs) h.1) short.1)

  members_good : {l : Language} (fs : FurtherMembers l) (w : Word) → AllByRecursion TextPart (members_text w fs) → FitSizes fs → HaveGoodTexts (raw_forms fs)
  members_good (last f) w h short = (written_good f h.1 short, tt)
  members_good (more f fs) w h short = (written_good f (all_front TextPart (formula_text f) (members_text w fs) h.1) short.0, members_good fs w (all_after TextPart (formula_text f) (members_text w fs) h.1) short.1)

-- ---- a query

-- the texts of the written query's body are data texts
body_good : (l : Language) (bytes : List ℕ) (q : RawQuestion) → IsQueryIn l bytes q → HasGoodTexts q.body
body_good l bytes q is =
    let tree = is.tree in
    let body = formula_text tree.body in
    let end = any (symbol_token CloseBrace) ∷ any end_token ∷ [] in
    let columns = separated comma column_text tree.head in
    let parts = takes_texted (query_text tree) (tokens bytes) [] is.text.spelled (tokens_texted (suc (length bytes)) start bytes is.text.utf8) in
    let inside = all_after TextPart columns (any (symbol_token Bar) ∷ (body ++ end)) parts.1 in
    subst (λ (r : RawQuestion). HasGoodTexts r.body) (sym is.meant) (written_good tree.body (all_front TextPart body end inside.1) is.text.lawful.sizes)

-- and so are those of a database and the query
pub all_entries : (bytes query : List ℕ) (db : List Relation) (q : RawQuestion) → IsDatabase bytes db → IsQuery query q → AllByRecursion IsEntry (all_texts db (plain_question q))
all_entries bytes query db q d is =
    both (database_texts db) (form_texts (plain_question q).body db (plain_question q).head) (database_entries bytes db d)
    (good_entries q.body (body_good first_order query q is) (reverse q.head) db (map column_of q.head))

-- of a database and the expanded query
pub tense_entries : (bytes query : List ℕ) (db : List Relation) (q : RawQuestion) → IsDatabase bytes db → IsTenseQuery query q → AllByRecursion IsEntry (all_texts db (plain_question (expanded_question q)))
tense_entries bytes query db q d is =
    let good = expanded_good q.body (body_good temporal query q is) (operator_number (operators q.body)) [] in
    both (database_texts db) (form_texts (plain_question (expanded_question q)).body db (plain_question (expanded_question q)).head) (database_entries bytes db d)
    (good_entries (expanded_question q).body good (reverse q.head) db (map column_of q.head))
