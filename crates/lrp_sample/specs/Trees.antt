-- The relation and the query that the sample's texts mean.
use Rattle.std.specs.Prelude.{ℕ, pos, neg_ℤ, List, [], ◌∷◌, map, codes}
use Rattle.std.specs.List.{range_with_len}
use Rattle.lrp_model.specs.Texts.{Identifier}
use Rattle.lrp_model.specs.Formulas.{Form, Question, atom, test, negation, conjunction, exists, no_forms, form}
use Rattle.lrp_model.specs.RawQueries.{RawForm, RawQuestion, raw_atom, raw_compare, raw_not, raw_and, raw_exists, no_raws, raw}
use Rattle.lrp_model.specs.declared.tokens.Place.{Place}
use Rattle.lrp_model.specs.declared.relations.Sort.{Sort}
use Rattle.lrp_model.specs.declared.relations.Sort.TheVariants.{Time, Data}
use Rattle.lrp_model.specs.declared.relations.Column.{Column}
use Rattle.lrp_model.specs.declared.relations.Value.{Value}
use Rattle.lrp_model.specs.declared.relations.Value.TheVariants.{Point, Const}
use Rattle.lrp_model.specs.declared.relations.Row.{Row}
use Rattle.lrp_model.specs.declared.relations.Relation.{Relation}
use Rattle.lrp_model.specs.declared.raw.RawColumn.{RawColumn}
use Rattle.lrp_model.specs.declared.raw.RawTerm.{RawTerm}
use Rattle.lrp_model.specs.declared.raw.RawTermKind.TheVariants.{Var, Shifted}
use Rattle.lrp_model.specs.declared.formulas.Op.TheVariants.{Ge, Le}
use Rattle.lrp_model.specs.declared.formulas.TimeTerm.{TimeTerm}
use Rattle.lrp_model.specs.declared.formulas.TimeTerm.TheVariants.{Var as time_var}
use Rattle.lrp_model.specs.declared.formulas.DataTerm.TheVariants.{Var as data_var}
use Rattle.lrp_model.specs.declared.formulas.Term.TheVariants.{Time as time_term, Data as data_term}
use Rattle.lrp_model.specs.declared.formulas.Test.TheVariants.{Compare}
use Rattle.lrp_sample.specs.Texts.{duration, departure, arrival, line}

-- ---- the relation

abbrev pub column : Identifier → Sort → Column
column name sort = record { name = name; sort = sort }

-- every day at this minute
abbrev pub daily : ℕ → Value
daily minute = Point (record { offset = pos minute; period = pos 1440 })

-- trip i: when it leaves and arrives, and its line; it arrives just so long after it leaves
abbrev pub trip : ℕ → ℕ → Row
trip seed i = record {
  values = daily (departure seed i) ∷ daily (arrival seed i) ∷ Const (line i) ∷ [];
  bounds = record { left = 2; right = 1; most = pos (duration i) } ∷ record { left = 1; right = 2; most = neg_ℤ (pos (duration i)) } ∷ [];
}

-- the trips 0 to size - 1
abbrev pub trips : ℕ → ℕ → Relation
trips seed size = record {
  name = codes "trip";
  columns = column (codes "dep") Time ∷ column (codes "arr") Time ∷ column (codes "line") Data ∷ [];
  rows = map (trip seed) (range_with_len 0 size);
}

-- the database
abbrev pub sample_relations : ℕ → ℕ → List Relation
sample_relations seed size = trips seed size ∷ []

-- ---- the query

-- a time variable, with an offset
abbrev pub time : Identifier → ℕ → TimeTerm
time name plus = time_var name (pos plus)

-- trip(D, A, L)
abbrev pub trip_atom : Identifier → Identifier → Identifier → Form
trip_atom d a l = atom (codes "trip") (time_term (time d 0) ∷ time_term (time a 0) ∷ data_term (data_var l) ∷ [])

-- some trip leaves at u or within 15 minutes after it
abbrev pub some_leaves : Form
some_leaves =
    exists (codes "v") Time (exists (codes "w") Time (exists (codes "k") Data (conjunction (
    form (trip_atom (codes "v") (codes "w") (codes "k")) (
    form (test (Compare (time (codes "v") 0) Ge (time (codes "u") 0))) (
    form (test (Compare (time (codes "v") 0) Le (time (codes "u") 15))) no_forms))))))

-- the departures after whose arrival none does
abbrev pub sample_question : Question
sample_question = record {
  head = column (codes "t") Time ∷ column (codes "l") Data ∷ [];
  body = exists (codes "u") Time (conjunction (form (trip_atom (codes "t") (codes "u") (codes "l")) (form (negation some_leaves) no_forms)));
}

-- ---- the query with its places, all of them in the first line

abbrev pub place : ℕ → Place
place column = record { line = 1; column = column }

abbrev pub binder : Identifier → ℕ → Sort → ℕ → RawColumn
binder name at sort sort_at = record { name = name; place = place at; sort = sort; sort_place = place sort_at }

abbrev variable : Identifier → ℕ → RawTerm
variable name at = record { kind = Var name; place = place at }

abbrev pub raw_some_leaves : RawForm
raw_some_leaves =
    raw_exists (place 60) (binder (codes "v") 67 Time 70) (raw_exists (place 75) (binder (codes "w") 82 Time 85) (raw_exists (place 90) (binder (codes "k") 97 Data 100) (raw_and (place 105) (
    raw (raw_atom (place 106) (codes "trip") (variable (codes "v") 111 ∷ variable (codes "w") 114 ∷ variable (codes "k") 117 ∷ [])) (
    raw (raw_compare (place 124) (variable (codes "v") 124) Ge (variable (codes "u") 129)) (
    raw (raw_compare (place 135) (variable (codes "v") 135) Le (record { kind = Shifted (codes "u") (pos 15); place = place 140 })) no_raws))))))

abbrev pub raw_sample : RawQuestion
raw_sample = record {
  head = binder (codes "t") 3 Time 6 ∷ binder (codes "l") 12 Data 15 ∷ [];
  body = raw_exists (place 22) (binder (codes "u") 29 Time 32) (raw_and (place 37) (
      raw (raw_atom (place 38) (codes "trip") (variable (codes "t") 43 ∷ variable (codes "u") 46 ∷ variable (codes "l") 49 ∷ [])) (
      raw (raw_not (place 56) raw_some_leaves) no_raws)));
}
