-- The texts of each data sort, in a database and a query with operators as it is written.
use Rattle.std.specs.Prelude.{List, [], ◌∷◌, ◌++◌, map, filter, reverse}
use Rattle.lrp_model.specs.Texts.{Text, in_order}
use Rattle.lrp_model.specs.Rows.{relation_named, columns_in}
use Rattle.lrp_model.specs.Sorts.{same_sort}
use Rattle.lrp_model.specs.DatabaseMeaning.{column_of}
use Rattle.lrp_model.specs.Domains.{database_texts, term_texts, test_texts}
use Rattle.lrp_model.specs.Satisfaction.{Structure}
use Rattle.lrp_model.specs.Sorting.{Binders}
use Rattle.lrp_model.specs.Checked.{term_of, compare_of}
use Rattle.lrp_model.specs.RawQueries.{RawForm, RawForms, RawQuestion, raw_atom, raw_compare, raw_member, raw_not, raw_and, raw_or, raw_implies, raw_group, raw_exists, raw_forall, raw_ranged, raw_paired, no_raws, raw}
use Rattle.lrp_model.specs.declared.relations.Sort.{Sort}
use Rattle.lrp_model.specs.declared.relations.Relation.{Relation}
use Rattle.lrp_tense.specs.Meaning.{operator_variable}

-- the data texts of a formula within binders, each with its sort: that of its column in an atom
abbrev mutual
  pub written_texts : RawForm → List Relation → Binders → List (Sort × Text)
  written_texts (raw_atom p n ts) db bs = term_texts (columns_in (relation_named db n)) (map (term_of bs) ts)
  written_texts (raw_compare p l op r) db bs = test_texts (map column_of bs) (compare_of bs l op r)
  written_texts (raw_member p t point) db bs = []
  written_texts (raw_not p f) db bs = written_texts f db bs
  written_texts (raw_and p fs) db bs = written_texts_each fs db bs
  written_texts (raw_or p fs) db bs = written_texts_each fs db bs
  written_texts (raw_implies p f g) db bs = written_texts f db bs ++ written_texts g db bs
  written_texts (raw_group p f) db bs = written_texts f db bs
  written_texts (raw_exists p c f) db bs = written_texts f db (c ∷ bs)
  written_texts (raw_forall p c f) db bs = written_texts f db (c ∷ bs)
  written_texts (raw_ranged word o from to f) db bs = written_texts f db (operator_variable o ∷ bs)
  written_texts (raw_paired word o f g) db bs = written_texts g db (operator_variable o ∷ bs) ++ written_texts f db (operator_variable o ∷ bs)

  pub written_texts_each : RawForms → List Relation → Binders → List (Sort × Text)
  written_texts_each no_raws db bs = []
  written_texts_each (raw f fs) db bs = written_texts f db bs ++ written_texts_each fs db bs

-- all data texts of a database and a query, each with its sort
abbrev pub tense_texts : List Relation → RawQuestion → List (Sort × Text)
tense_texts db q = database_texts db ++ written_texts q.body db (reverse q.head)

-- the texts of a data sort, each once, in order of bytes
abbrev pub tense_domain : List Relation → RawQuestion → Sort → List Text
tense_domain db q s = in_order (map (λ entry. entry.1) (filter (λ entry. same_sort entry.0 s) (tense_texts db q)))

-- a database as a structure for a query as it is written
abbrev pub tense_structure : List Relation → RawQuestion → Structure
tense_structure db q = record { relations = db; domain = tense_domain db q }
