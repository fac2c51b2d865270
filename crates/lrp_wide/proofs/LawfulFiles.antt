-- Of each file that was read the operators can be written out, and its expanded query can be planned.
use Rattle.std.proofs.Common.{◌≡◌, ℕ, ◌≤◌, true, List, [], ◌∷◌, ◌++◌, map, sym, subst, arith}
use Rattle.std.specs.Prelude.{reverse, flat_map}
use Rattle.std.specs.List.{AllByRecursion}
use Rattle.lrp_model.specs.Kept.{AreKept}
use Rattle.lrp_model.specs.declared.tokens.Place.{Place}
use Rattle.lrp_model.specs.declared.tokens.Symbol.TheVariants.{Close, CloseBrace, Semicolon, Bar}
use Rattle.lrp_model.specs.declared.relations.Relation.{Relation}
use Rattle.lrp_model.specs.Tokens.{Part, Spells, separated}
use Rattle.lrp_model.specs.Tokens.Token.{symbol_token, name_token, end_token}
use Rattle.lrp_model.specs.Tokens.Part.{any}
use Rattle.lrp_model.specs.Lexing.{tokens_in}
use Rattle.lrp_model.specs.Columns.{column_text}
use Rattle.lrp_model.specs.Databases.{comma}
use Rattle.lrp_model.specs.Queries.{WrittenFormula, WrittenQuery, WrittenDefinition, WrittenFile, FitsDefinition, FitsFile, as_word, formula_text, definition_text, query_text, file_text}
use Rattle.lrp_model.specs.Queries.Language.{wide}
use Rattle.lrp_model.specs.QueryMeaning.{raw_form, raw_definition, raw_file}
use Rattle.lrp_model.specs.QueryReading.{IsFile}
use Rattle.lrp_model.specs.Names.{AreNamed}
use Rattle.lrp_model.specs.DatabaseMeaning.{column_of}
use Rattle.lrp_model.specs.Sorting.{IsWellSorted, query_faults}
use Rattle.lrp_model.specs.RawQueries.{RawForm, RawForms, RawDefinitionView, RawFileView, HasNoOperator, raw_atom, raw_compare, raw_member, raw_not, raw_and, raw_or, raw_implies, raw_group, raw_exists, raw_forall, raw_ranged, raw_paired, no_raws, raw}
use Rattle.lrp_model.specs.declared.faults.QueryFault.{QueryFault}
use Rattle.lrp_text.proofs.NameTokens.{NamedPart, all_front, all_after, columns_named, spelled_named_in}
use Rattle.lrp_query.specs.Lawful.{FitsRaw, formulas_in}
use Rattle.lrp_query.proofs.HoleFree.{tokens_clean}
use Rattle.lrp_query.proofs.Whole.{CleanPart, clean_parts, whole}
use Rattle.lrp_query.proofs.LawfulQueries.{fits_raw}
use Rattle.lrp_tense.specs.Expanding.{operators, operator_number, expanded_question}
use Rattle.lrp_tense.specs.Lawful.{IsLawfulExpansion}
use Rattle.lrp_tense.proofs.LawfulTense.{at_places, plain_names, places_taken, first_some, second_some, operators_some}
use Rattle.lrp_tense.proofs.NoOperators.{none_left}
use Rattle.lrp_tense.proofs.TokenPlaces.{Rises, place_at, tokens_rise_in, risen_differ, Some, past, kept, some_rise, some_none}
use Rattle.lrp_wide.specs.Inlining.{Known, UseSetting, counted_from, counted_in, own_setting, plain_definition, known_of, expanded_file}
use Rattle.lrp_wide.specs.Limits.{IsSmallFile}
use Rattle.lrp_wide.specs.Outcomes.{IsExpandableDefinition, IsExpandableFile}
use Rattle.lrp_wide.specs.Stars.{BindsNoStar, BindNoStar, DefinesNoStar, NamesNoStar}
use Rattle.lrp_wide.specs.WideSorting.{IsWellSortedFile, faults_or_later, own_faults}
use Rattle.lrp_wide.proofs.FreshLetters.{no_star}
use Rattle.lrp_wide.proofs.FreshTexts.{HasLetters, HaveLetters}
use Rattle.lrp_wide.proofs.FreshWritten.{DefinesLetters, FileLetters, file_letters}
use Rattle.lrp_wide.proofs.LawfulForms.{fits_expanded, fits_inlined, none_inlined, known_forms, texts_few, few_columns, few_texts, at_most}
use Rattle.lrp_wide.proofs.SatisfyFresh.{body_sorted}

-- ---- the parts of a file

abbrev after_columns : WrittenFormula wide → List Part
after_columns w = any (symbol_token Close) ∷ any (name_token as_word) ∷ (formula_text w ++ any (symbol_token Semicolon) ∷ [])

abbrev after_head : WrittenFormula wide → List Part
after_head w = any (symbol_token Bar) ∷ (formula_text w ++ any (symbol_token CloseBrace) ∷ any end_token ∷ [])

module _ (P : Part → Type 0) where
  definition_body : (d : WrittenDefinition wide) → AllByRecursion P (definition_text d) → AllByRecursion P (formula_text d.body)
  definition_body d h = all_front P (formula_text d.body) (any (symbol_token Semicolon) ∷ []) (all_after P (separated comma column_text d.columns) (after_columns d.body) h.1.1.1).1.1

  query_body : (q : WrittenQuery wide) → AllByRecursion P (query_text q) → AllByRecursion P (formula_text q.body)
  query_body q h = all_front P (formula_text q.body) (any (symbol_token CloseBrace) ∷ any end_token ∷ []) (all_after P (separated comma column_text q.head) (after_head q.body) h.1).1

-- ---- operators

definition_places : (d : WrittenDefinition wide) → Some (operators (raw_form d.body)) (at_places (definition_text d))
definition_places d =
    past d.name.place _ _ (second_some (operators (raw_form d.body)) (separated comma column_text d.columns) (after_columns d.body)
    (first_some (operators (raw_form d.body)) (formula_text d.body) (any (symbol_token Semicolon) ∷ []) (operators_some d.body)))

query_places : (q : WrittenQuery wide) → Some (operators (raw_form q.body)) (at_places (query_text q))
query_places q =
    second_some (operators (raw_form q.body)) (separated comma column_text q.head) (after_head q.body)
    (first_some (operators (raw_form q.body)) (formula_text q.body) (any (symbol_token CloseBrace) ∷ any end_token ∷ []) (operators_some q.body))

some_itself : (ps : List Place) → Some ps ps
some_itself [] = some_none []
some_itself (p ∷ ps) = kept p ps ps (some_itself ps)

-- the second of two texts whose places rise
later_rise : (ps qs : List Part) → Rises (at_places (ps ++ qs)) → Rises (at_places qs)
later_rise ps qs r = some_rise (at_places qs) (at_places (ps ++ qs)) (second_some (at_places qs) ps qs (some_itself (at_places qs))) r

definitions_expandable : (ds : List (WrittenDefinition wide)) → AllByRecursion NamedPart (flat_map definition_text ds) → Rises (at_places (flat_map definition_text ds)) → AllByRecursion IsExpandableDefinition (map raw_definition ds)
definitions_expandable [] h r = tt
definitions_expandable (d ∷ ds) h r = (
  record {
    names = plain_names d.body (definition_body NamedPart d (all_front NamedPart (definition_text d) (flat_map definition_text ds) h));
    places = risen_differ (operators (raw_form d.body)) (some_rise (operators (raw_form d.body)) (at_places (definition_text d ++ flat_map definition_text ds)) (first_some (operators (raw_form d.body)) (definition_text d) (flat_map definition_text ds) (definition_places d)) r);
  },
  definitions_expandable ds (all_after NamedPart (definition_text d) (flat_map definition_text ds) h) (later_rise (definition_text d) (flat_map definition_text ds) r),
)

-- ---- `*`

mutual
  no_stars : (f : RawForm) → HasLetters f → BindsNoStar f
  no_stars (raw_atom p n ts) h = tt
  no_stars (raw_compare p l op r) h = tt
  no_stars (raw_member p t point) h = tt
  no_stars (raw_not p f) h = no_stars f h
  no_stars (raw_and p fs) h = no_stars_each fs h
  no_stars (raw_or p fs) h = no_stars_each fs h
  no_stars (raw_implies p f g) h = (no_stars f h.0, no_stars g h.1)
  no_stars (raw_group p f) h = no_stars f h
  no_stars (raw_exists p c f) h = (no_star c.name h.0, no_stars f h.1)
  no_stars (raw_forall p c f) h = (no_star c.name h.0, no_stars f h.1)
  no_stars (raw_ranged word o from to f) h = (no_star o.name h.0, no_stars f h.1)
  no_stars (raw_paired word o f g) h = (no_star o.name h.0, (no_stars f h.1.0, no_stars g h.1.1))

  no_stars_each : (fs : RawForms) → HaveLetters fs → BindNoStar fs
  no_stars_each no_raws h = tt
  no_stars_each (raw f fs) h = (no_stars f h.0, no_stars_each fs h.1)

definitions_no_star : (ds : List RawDefinitionView) → AllByRecursion DefinesLetters ds → AllByRecursion DefinesNoStar ds
definitions_no_star [] h = tt
definitions_no_star (d ∷ ds) h = (no_stars d.body h.0, definitions_no_star ds h.1)

pub file_no_star : (f : RawFileView) → FileLetters f → NamesNoStar f
file_no_star f h = record { definitions = definitions_no_star f.definitions h.definitions; query = no_stars f.query.body h.query }

expandable_tree : (bytes : List ℕ) (f : WrittenFile wide) → Spells (file_text f) (tokens_in true bytes) → FileLetters (raw_file f) → IsExpandableFile (raw_file f)
expandable_tree bytes f spelled letters =
    let named : AllByRecursion NamedPart (file_text f) = spelled_named_in true bytes (file_text f) spelled in
    let rises : Rises (at_places (file_text f)) = some_rise (at_places (file_text f)) (map place_at (tokens_in true bytes)) (places_taken (file_text f) (tokens_in true bytes) [] spelled) (tokens_rise_in true bytes) in
    let before : List Part = flat_map definition_text f.definitions in
    record {
      definitions = definitions_expandable f.definitions (all_front NamedPart before (query_text f.query) named) (some_rise (at_places before) (at_places (file_text f)) (first_some (at_places before) before (query_text f.query) (some_itself (at_places before))) rises);
      query = record {
        names = plain_names f.query.body (query_body NamedPart f.query (all_after NamedPart before (query_text f.query) named));
        places = risen_differ (operators (raw_form f.query.body)) (some_rise (operators (raw_form f.query.body)) (at_places (query_text f.query)) (query_places f.query) (later_rise before (query_text f.query) rises));
      };
      stars = file_no_star (raw_file f) letters;
    }

pub expandable_file : (bytes : List ℕ) (f : RawFileView) → IsFile bytes f → IsExpandableFile f
expandable_file bytes f t = subst IsExpandableFile (sym t.meant) (expandable_tree bytes t.tree t.text.spelled (subst FileLetters t.meant (file_letters bytes f t)))

-- ---- numbers within the limits

abbrev DefinitionFits : RawDefinitionView → Type 0
DefinitionFits d = FitsRaw d.body

record FileFits (f : RawFileView) : Type 0 where
  definitions : AllByRecursion DefinitionFits f.definitions
  query : FitsRaw f.query.body
  head : AreNamed (map column_of f.query.head)

definitions_fit : (ds : List (WrittenDefinition wide)) → AllByRecursion CleanPart (flat_map definition_text ds) → AllByRecursion FitsDefinition ds → AllByRecursion DefinitionFits (map raw_definition ds)
definitions_fit [] c h = tt
definitions_fit (d ∷ ds) c h = (
  fits_raw d.body (whole d.body (definition_body CleanPart d (all_front CleanPart (definition_text d) (flat_map definition_text ds) c))) h.0.sizes,
  definitions_fit ds (all_after CleanPart (definition_text d) (flat_map definition_text ds) c) h.1,
)

fits_tree : (bytes : List ℕ) (f : WrittenFile wide) → Spells (file_text f) (tokens_in true bytes) → FitsFile f → FileFits (raw_file f)
fits_tree bytes f spelled sizes =
    let before : List Part = flat_map definition_text f.definitions in
    let clean : AllByRecursion CleanPart (file_text f) = clean_parts (file_text f) (tokens_in true bytes) [] spelled (tokens_clean true bytes) in
    let named : AllByRecursion NamedPart (file_text f) = spelled_named_in true bytes (file_text f) spelled in
    record {
      definitions = definitions_fit f.definitions (all_front CleanPart before (query_text f.query) clean) sizes.definitions;
      query = fits_raw f.query.body (whole f.query.body (query_body CleanPart f.query (all_after CleanPart before (query_text f.query) clean))) sizes.query.sizes;
      head = columns_named f.query.head (all_front NamedPart (separated comma column_text f.query.head) (after_head f.query.body) (all_after NamedPart before (query_text f.query) named).1);
    }

file_fits : (bytes : List ℕ) (f : RawFileView) → IsFile bytes f → FileFits f
file_fits bytes f t = subst FileFits (sym t.meant) (fits_tree bytes t.tree t.text.spelled t.text.lawful)

-- ---- the expanded query

no_others : (own others : List QueryFault) → faults_or_later own others ≡ [] → others ≡ []
no_others [] others e = e
no_others (f ∷ fs) others e = cc

pub expanded_sorted : (db : List Relation) (f : RawFileView) → IsWellSortedFile db f → IsWellSorted db (expanded_file db f)
expanded_sorted db f e = no_others (own_faults db f) (query_faults db (expanded_file db f)) e

module _ (db : List Relation) (f : RawFileView) where
  abbrev known : List Known
  known = known_of db [] f.definitions

  abbrev setting : UseSetting
  setting = own_setting (counted_from 1 (counted_in db known f.query.body))

  pub nothing_left : HasNoOperator (expanded_file db f).body
  nothing_left =
      none_inlined db known (known_forms HasNoOperator db (λ d. Unit {0}) (λ ks d h q s. none_inlined db ks h (plain_definition d).body s (none_left d.body (operator_number (operators d.body)) [])) f.definitions [] (all_units f.definitions) tt)
      (expanded_question f.query).body setting (none_left f.query.body (operator_number (operators f.query.body)) [])
    where
      all_units : (ds : List RawDefinitionView) → AllByRecursion (λ d. Unit {0}) ds
      all_units [] = tt
      all_units (d ∷ ds) = (tt, all_units ds)

  within_limits : FileFits f → FitsRaw (expanded_file db f).body
  within_limits h =
      fits_inlined db known (known_forms FitsRaw db DefinitionFits (λ ks d g q s. fits_inlined db ks g (plain_definition d).body s (none_left d.body (operator_number (operators d.body)) []) (fits_expanded d.body (operator_number (operators d.body)) [] q)) f.definitions [] h.definitions tt)
      (expanded_question f.query).body setting (none_left f.query.body (operator_number (operators f.query.body)) []) (fits_expanded f.query.body (operator_number (operators f.query.body)) [] h.query)

pub lawful_file : (bytes : List ℕ) (db : List Relation) (f : RawFileView) → IsFile bytes f → AreKept db → IsSmallFile db f → IsWellSortedFile db f → IsLawfulExpansion (expanded_file db f)
lawful_file bytes db f t all small sorted =
    let fits = file_fits bytes f t in
    let few : formulas_in (expanded_file db f).body ≤ 1000000 = at_most 1000000 (formulas_in (expanded_file db f).body) small.few in
    record {
      names = fits.head;
      sizes = within_limits db f fits;
      formulas = omega (arith, few);
      texts = few_texts _ _ (texts_few db (few_columns db all) (expanded_file db f).body (reverse f.query.head) (nothing_left db f) (body_sorted db (expanded_file db f) (expanded_sorted db f sorted))) few;
    }
