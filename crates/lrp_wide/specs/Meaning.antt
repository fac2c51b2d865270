-- The meaning of a file of the wide language by its own words, without any expansion.
use Rattle.std.specs.Prelude.{◌≡◌, ℤ, ◌+ℤ◌, Bool, true, false, cond, Option, Some, None, List, [], ◌∷◌, ◌++◌, map, filter, flat_map, reverse}
use Rattle.std.specs.Str.{bytes_eq}
use Rattle.std.specs.List.{AllZip}
use Rattle.lrp_model.specs.Texts.{Text, Identifier, in_order}
use Rattle.lrp_model.specs.Rows.{Datum, Tuple, time, Holds, relation_named, columns_in}
use Rattle.lrp_model.specs.Sorts.{same_sort}
use Rattle.lrp_model.specs.Faults.{is_named_in}
use Rattle.lrp_model.specs.Sorting.{Binders}
use Rattle.lrp_model.specs.Checked.{term_of, compare_of}
use Rattle.lrp_model.specs.RawTerms.{time_of}
use Rattle.lrp_model.specs.DatabaseMeaning.{column_of}
use Rattle.lrp_model.specs.Domains.{database_texts, term_texts, test_texts}
use Rattle.lrp_model.specs.Satisfaction.{Structure, Assignment, with_value, term_value, assignment, Passes, IsOfSort, Either, ForSome}
use Rattle.lrp_model.specs.QueryMeaning.{star_name}
use Rattle.lrp_model.specs.RawQueries.{RawForm, RawForms, RawDefinitionView, RawFileView, raw_atom, raw_compare, raw_member, raw_not, raw_and, raw_or, raw_implies, raw_group, raw_exists, raw_forall, raw_ranged, raw_paired, no_raws, raw}
use Rattle.lrp_model.specs.declared.relations.Sort.{Sort}
use Rattle.lrp_model.specs.declared.relations.Column.{Column}
use Rattle.lrp_model.specs.declared.relations.Relation.{Relation}
use Rattle.lrp_model.specs.declared.raw.RawTerm.{RawTerm}
use Rattle.lrp_model.specs.declared.raw.RawTermKind.{RawTermKind}
use Rattle.lrp_model.specs.declared.raw.RawTermKind.TheVariants.{Int, Text as text_kind, Var, Shifted}
use Rattle.lrp_model.specs.declared.formulas.Test.TheVariants.{Member}
use Rattle.lrp_tense.specs.Meaning.{operator_variable, InRange, InPair}

-- ---- what names stand for

-- the columns and the meaning of each name: of relations of the database, and of definitions
pub record Interpretation : Type 1 where
  pub columns : Identifier → List Column
  pub holds : Identifier → List Datum → Type 0

abbrev pub of_database : List Relation → Interpretation
of_database db = record { columns = λ n. columns_in (relation_named db n); holds = Holds db }

abbrev pub columns_where : Bool → List Column → List Column → List Column
columns_where true cs ds = cs
columns_where false cs ds = ds

abbrev pub Where : Bool → Type 0 → Type 0 → Type 0
Where true P Q = P
Where false P Q = Q

-- a `*` in an atom
abbrev pub is_star_kind : RawTermKind → Bool
is_star_kind (Int x) = false
is_star_kind (text_kind t) = false
is_star_kind (Var n) = bytes_eq n star_name
is_star_kind (Shifted n plus) = false

abbrev pub is_star : RawTerm → Bool
is_star t = is_star_kind t.kind

-- some value of the column's sort where the term is a `*`, and else the term's own value
abbrev pub ForValue : Structure → Column → Datum → Bool → (Datum → Type 0) → Type 0
ForValue M c d true P = ForSome (λ e. IsOfSort M c.sort e × P e)
ForValue M c d false P = P d

-- the values of an atom's terms have the property, with some value of its column's sort for each `*`; a well-sorted atom has a term for each column
abbrev pub HoldsOf : Structure → Binders → Assignment → (List Datum → Type 0) → List Column → List RawTerm → Type 0
HoldsOf M bs env P (c ∷ cs) (t ∷ ts) = ForValue M c (term_value env (term_of bs t)) (is_star t) (λ d. HoldsOf M bs env (λ ds. P (d ∷ ds)) cs ts)
HoldsOf M bs env P _ _ = P []

-- ---- satisfaction

-- within binders, the assignment satisfies the formula in the structure, where names stand for this
abbrev mutual
  pub WideSatisfies : RawForm → Interpretation → Binders → Structure → Assignment → Type 0
  WideSatisfies (raw_atom p n ts) I bs M env = HoldsOf M bs env (I.holds n) (I.columns n) ts
  WideSatisfies (raw_compare p l op r) I bs M env = Passes env (compare_of bs l op r)
  WideSatisfies (raw_member p t point) I bs M env = Passes env (Member (time_of t.kind) point)
  WideSatisfies (raw_not p f) I bs M env = WideSatisfies f I bs M env → ⊥
  WideSatisfies (raw_and p fs) I bs M env = WideSatisfiesAll fs I bs M env
  WideSatisfies (raw_or p fs) I bs M env = WideSatisfiesSome fs I bs M env
  WideSatisfies (raw_implies p f g) I bs M env = WideSatisfies f I bs M env → WideSatisfies g I bs M env
  WideSatisfies (raw_group p f) I bs M env = WideSatisfies f I bs M env
  WideSatisfies (raw_exists p c f) I bs M env = ForSome (λ d. IsOfSort M c.sort d × WideSatisfies f I (c ∷ bs) M (with_value c.name d env))
  WideSatisfies (raw_forall p c f) I bs M env = (d : Datum) → IsOfSort M c.sort d → WideSatisfies f I (c ∷ bs) M (with_value c.name d env)
  WideSatisfies (raw_ranged word o from to f) I bs M env =
      InRange word (env.times o.name +ℤ from) (env.times o.name +ℤ to) (λ x. WideSatisfies f I (operator_variable o ∷ bs) M (with_value o.name (time x) env))
  WideSatisfies (raw_paired word o f g) I bs M env =
      InPair word (env.times o.name) (λ y. WideSatisfies f I (operator_variable o ∷ bs) M (with_value o.name (time y) env)) (λ x. WideSatisfies g I (operator_variable o ∷ bs) M (with_value o.name (time x) env))

  pub WideSatisfiesAll : RawForms → Interpretation → Binders → Structure → Assignment → Type 0
  WideSatisfiesAll no_raws I bs M env = Unit {0}
  WideSatisfiesAll (raw f fs) I bs M env = WideSatisfies f I bs M env × WideSatisfiesAll fs I bs M env

  pub WideSatisfiesSome : RawForms → Interpretation → Binders → Structure → Assignment → Type 0
  WideSatisfiesSome no_raws I bs M env = ⊥
  WideSatisfiesSome (raw f fs) I bs M env = Either (WideSatisfies f I bs M env) (WideSatisfiesSome fs I bs M env)

-- ---- definitions

-- one definition more: its body is satisfied by the assignment that gives each column its value
abbrev pub with_definition : Structure → Interpretation → RawDefinitionView → Interpretation
with_definition M I d = record {
  columns = λ n. columns_where (bytes_eq d.name n) (map column_of d.columns) (I.columns n);
  holds = λ n ds. Where (bytes_eq d.name n) (WideSatisfies d.body I (reverse d.columns) M (assignment (map column_of d.columns) ds)) (I.holds n ds);
}

-- each names those before it
abbrev pub interpretation : Structure → Interpretation → List RawDefinitionView → Interpretation
interpretation M I [] = I
interpretation M I (d ∷ ds) = interpretation M (with_definition M I d) ds

-- ---- the texts of each data sort

-- the columns of each name, without its meaning
abbrev pub Signature : Type 0
Signature = Identifier → List Column

abbrev pub signature : List Relation → List RawDefinitionView → Signature
signature db [] n = columns_in (relation_named db n)
signature db (d ∷ ds) n = columns_where (bytes_eq d.name n) (map column_of d.columns) (signature db ds n)

-- the data texts of a formula within binders, each with its sort: that of its column in an atom
abbrev mutual
  pub own_texts : RawForm → Signature → Binders → List (Sort × Text)
  own_texts (raw_atom p n ts) columns bs = term_texts (columns n) (map (term_of bs) ts)
  own_texts (raw_compare p l op r) columns bs = test_texts (map column_of bs) (compare_of bs l op r)
  own_texts (raw_member p t point) columns bs = []
  own_texts (raw_not p f) columns bs = own_texts f columns bs
  own_texts (raw_and p fs) columns bs = own_texts_each fs columns bs
  own_texts (raw_or p fs) columns bs = own_texts_each fs columns bs
  own_texts (raw_implies p f g) columns bs = own_texts f columns bs ++ own_texts g columns bs
  own_texts (raw_group p f) columns bs = own_texts f columns bs
  own_texts (raw_exists p c f) columns bs = own_texts f columns (c ∷ bs)
  own_texts (raw_forall p c f) columns bs = own_texts f columns (c ∷ bs)
  own_texts (raw_ranged word o from to f) columns bs = own_texts f columns (operator_variable o ∷ bs)
  own_texts (raw_paired word o f g) columns bs = own_texts f columns (operator_variable o ∷ bs) ++ own_texts g columns (operator_variable o ∷ bs)

  pub own_texts_each : RawForms → Signature → Binders → List (Sort × Text)
  own_texts_each no_raws columns bs = []
  own_texts_each (raw f fs) columns bs = own_texts f columns bs ++ own_texts_each fs columns bs

-- the names of a formula's atoms
abbrev mutual
  pub atom_names : RawForm → List Identifier
  atom_names (raw_atom p n ts) = n ∷ []
  atom_names (raw_compare p l op r) = []
  atom_names (raw_member p t point) = []
  atom_names (raw_not p f) = atom_names f
  atom_names (raw_and p fs) = atom_names_each fs
  atom_names (raw_or p fs) = atom_names_each fs
  atom_names (raw_implies p f g) = atom_names f ++ atom_names g
  atom_names (raw_group p f) = atom_names f
  atom_names (raw_exists p c f) = atom_names f
  atom_names (raw_forall p c f) = atom_names f
  atom_names (raw_ranged word o from to f) = atom_names f
  atom_names (raw_paired word o f g) = atom_names f ++ atom_names g

  pub atom_names_each : RawForms → List Identifier
  atom_names_each no_raws = []
  atom_names_each (raw f fs) = atom_names f ++ atom_names_each fs

-- the definitions that these names name, directly or by others; the last one first, as a definition names those before it
abbrev pub named_by : List RawDefinitionView → List Identifier → List RawDefinitionView
named_by [] names = []
named_by (d ∷ before) names = cond (is_named_in names d.name) (d ∷ named_by before (names ++ atom_names d.body)) (named_by before names)

-- the texts of the database, of the query, and of the definitions that it names
abbrev pub file_texts : List Relation → RawFileView → List (Sort × Text)
file_texts db f =
    let columns = signature db f.definitions in
    database_texts db ++ (own_texts f.query.body columns (reverse f.query.head) ++ flat_map (λ d. own_texts d.body columns (reverse d.columns)) (named_by (reverse f.definitions) (atom_names f.query.body)))

abbrev pub wide_domain : List Relation → RawFileView → Sort → List Text
wide_domain db f s = in_order (map (λ entry. entry.1) (filter (λ entry. same_sort entry.0 s) (file_texts db f)))

abbrev pub wide_structure : List Relation → RawFileView → Structure
wide_structure db f = record { relations = db; domain = wide_domain db f }

-- ---- answers

-- what names stand for in a file
abbrev pub meant_in : List Relation → RawFileView → Interpretation
meant_in db f = interpretation (wide_structure db f) (of_database db) f.definitions

-- the tuple has a value of its sort in each column, and its assignment satisfies the body
pub record IsWideAnswer (db : List Relation) (f : RawFileView) (tuple : Tuple) : Type 0 where
  pub fits : AllZip (λ c d. IsOfSort (wide_structure db f) c.sort d) f.query.head tuple
  pub satisfies : WideSatisfies f.query.body (meant_in db f) (reverse f.query.head) (wide_structure db f) (assignment (map column_of f.query.head) tuple)
