-- One row or relation more of those whose meaning is kept.
use Rattle.std.proofs.Common.{◌≡◌, ◌≤◌, List, [], ◌∷◌, ◌++◌, length, map, append-nil, append_assoc, Option, Some, None, refl, sym, ap, ◌∙◌, arith}
use Rattle.std.specs.List.{flat_map}
use Rattle.std.specs.Str.{bytes_eq}
use Rattle.std.proofs.lemmas.List.{map-append, flat_map_more}
use Rattle.indexmap.specs.IndexSet.{keys, insert_key}
use Rattle.lrp_model.specs.Texts.{Identifier}
use Rattle.lrp_model.specs.Lexing.{start}
use Rattle.lrp_model.specs.Databases.{FitsRow}
use Rattle.lrp_model.specs.Faults.{earliest, fault_if, repeated, ninth, is_named_in}
use Rattle.lrp_model.specs.DatabaseMeaning.{column_of, row_of, relation_of, database_of}
use Rattle.lrp_model.specs.DatabaseFaults.{database_standing, database_fault, named_at, row_faults, relation_faults, database_faults}
use Rattle.lrp_model.specs.declared.tokens.Place.{Place}
use Rattle.lrp_model.specs.declared.faults.DbFault.{DbFault}
use Rattle.lrp_model.specs.declared.faults.DbKind.TheVariants.{Name, Wide}
use Rattle.lrp_model.specs.declared.raw.RawColumn.{RawColumn}
use Rattle.lrp_model.specs.declared.relations.Column.{Column}
use Rattle.lrp_model.specs.declared.relations.Row.{Row}
use Rattle.lrp_model.specs.declared.relations.Relation.{Relation}
use Rattle.lrp_model.specs.declared.written.Located.{Located}
use Rattle.lrp_model.specs.declared.written.RawRow.{RawRow}
use Rattle.lrp_model.specs.declared.written.RawRelation.{RawRelation}
use Rattle.lrp_model.specs.Sooner.{sooner}
use Rattle.lrp_rel.specs.Times.{AreTimesOf, AreTimePlaces, HasRowMeaning}
use Rattle.lrp_rel.specs.Gathered.{IsHeading, IsBodyOf, IsMeaningOf, AreRelationsGathered}
use Rattle.lrp_rel.specs.Reading.{IsSoundTree}
use Rattle.lrp_rel.specs.declared.gathering.Heading.{Heading}
use Rattle.lrp_rel.specs.declared.gathering.Body.{Body}
use Rattle.lrp_rel.specs.declared.gathering.Meaning.{Meaning}
use Rattle.lrp_rel.specs.declared.gathering.Gathered.{Gathered}
use Rattle.lrp_model.proofs.FirstFault.{first_of_both, none_of_both, none_is_empty, sooner_than_none}
use Rattle.lrp_rel.proofs.FaultWalks.{names_walk}
use Rattle.lrp_rel.proofs.SoundLemmas.{second_empty, columns_few, times_few, times_numbered, points_many, row_many, row_suits}

-- ---- columns without faults

-- the faults of columns
abbrev pub column_faults : List RawColumn → List DbFault
column_faults cs = repeated (database_fault Name) [] (map named_at cs) ++ ninth (database_fault Wide) 0 0 cs

-- columns with the names of their time columns and their first fault
pub heading_of : (heading : Heading) (names wide : Option DbFault) → AreTimesOf heading.columns (keys heading.times) → names ≡ earliest database_standing (repeated (database_fault Name) [] (map named_at heading.columns)) → wide ≡ earliest database_standing (ninth (database_fault Wide) 0 0 heading.columns) → heading.fault ≡ sooner database_standing names wide → IsHeading heading
heading_of heading names wide are e d is =
    let again = repeated (database_fault Name) [] (map named_at heading.columns) in
    let ninths = ninth (database_fault Wide) 0 0 heading.columns in
    record { times = are; fault = is ∙ ap (λ x. sooner database_standing x wide) e ∙ ap (sooner database_standing (earliest database_standing again)) d ∙ sym (first_of_both database_standing again ninths) }

-- a relation of these columns and no rows
abbrev bare : List RawColumn → RawRelation
bare cs = record { name = record { place = start; item = [] }; columns = cs; rows = [] }

-- it has the faults of its columns
bare_sound : (heading : Heading) → IsHeading heading → heading.fault ≡ None → relation_faults (bare heading.columns) ≡ []
bare_sound heading is none = append-nil (column_faults heading.columns) ∙ none_is_empty database_standing (column_faults heading.columns) (sym is.fault ∙ none)

-- columns without faults have at most 8 time columns
pub heading_few : (heading : Heading) → IsHeading heading → heading.fault ≡ None → length (keys heading.times) ≤ 8
heading_few heading is none = times_few (bare heading.columns) (keys heading.times) (bare_sound heading is none) is.times

-- whose places are their numbers
pub heading_numbered : (heading : Heading) → IsHeading heading → heading.fault ≡ None → AreTimePlaces heading.columns (keys heading.times)
heading_numbered heading is none = times_numbered (bare heading.columns) (keys heading.times) (bare_sound heading is none) is.times

-- ---- rows

-- a row has a meaning where neither it nor the columns have a fault
pub row_means : (heading : Heading) (row : Located RawRow) → IsHeading heading → heading.fault ≡ None → earliest database_standing (row_faults heading.columns row) ≡ None → FitsRow row.item → HasRowMeaning row.item
row_means heading row is none sound fits =
    let cs = heading.columns in
    let empty : row_faults cs row ≡ [] = none_is_empty database_standing (row_faults cs row) sound in
    let few = columns_few (bare cs) (bare_sound heading is none) in
    let many = points_many cs row.item.values (row_many cs row empty) (row_suits cs row empty) in
    record { fits = fits; few = omega (arith, few.0, many) }

-- the first fault of some things and one more
pub first_more : {A : Type 0} (f : A → List DbFault) (xs : List A) (x : A) (old new found : Option DbFault) → old ≡ earliest database_standing (flat_map f xs) → found ≡ earliest database_standing (f x) → new ≡ sooner database_standing old found → new ≡ earliest database_standing (flat_map f (xs ++ x ∷ []))
first_more f xs x old new found e d is =
    is ∙ ap (λ y. sooner database_standing y found) e ∙ ap (sooner database_standing (earliest database_standing (flat_map f xs))) d ∙ sym (first_of_both database_standing (flat_map f xs) (f x)) ∙ ap (earliest database_standing) (flat_map_more f [] xs x)

-- what is none is no fault
pub none_or_some : {A : Type 0} (o : Option DbFault) (f : DbFault) → o ≡ None → o ≡ Some f → A
none_or_some o f e d = absurd cc

-- what is kept of rows and one more
pub body_more : (heading : Heading) (rows : List (Located RawRow)) (row : Located RawRow) (old new : Body) (found : Option DbFault) → IsBodyOf heading rows old → found ≡ earliest database_standing (row_faults heading.columns row) → new.fault ≡ sooner database_standing old.fault found
    → (heading.fault ≡ None → new.fault ≡ None → new.rows ≡ old.rows ++ row_of heading.columns row.item ∷ []) → IsBodyOf heading (rows ++ row ∷ []) new
body_more heading rows row old new found h e is kept = record {
  fault = first_more (row_faults heading.columns) rows row old.fault new.fault found h.fault e is;
  meant = λ sound none.
      let before = none_of_both database_standing old.fault found (sym is ∙ none) in
      kept sound none ∙ ap (λ l. l ++ row_of heading.columns row.item ∷ []) (h.meant sound before.0) ∙ sym (map-append (λ r. row_of heading.columns r.item) rows (row ∷ []));
}

-- ---- relations

-- a relation by its parts
abbrev pub written_with : Located Identifier → List RawColumn → List (Located RawRow) → RawRelation
written_with n cs rows = record { name = n; columns = cs; rows = rows }

-- the first fault of a relation is the sooner one of those of its columns and of its rows
meaning_fault : (n : Located Identifier) (heading : Heading) (rows : List (Located RawRow)) (body : Body) (f : Option DbFault) → IsHeading heading → IsBodyOf heading rows body → f ≡ sooner database_standing heading.fault body.fault → f ≡ earliest database_standing (relation_faults (written_with n heading.columns rows))
meaning_fault n heading rows body f is h e =
    e ∙ ap (λ x. sooner database_standing x body.fault) is.fault ∙ ap (sooner database_standing (earliest database_standing (column_faults heading.columns))) h.fault ∙ sym (first_of_both database_standing (column_faults heading.columns) (flat_map (row_faults heading.columns) rows))

-- a relation that is meant, by its parts
abbrev meant_with : Identifier → List Column → List Row → Relation
meant_with n cs rows = record { name = n; columns = cs; rows = rows }

-- what is kept of a relation, by its parts
abbrev kept_with : Place → Relation → Option DbFault → Meaning
kept_with p r f = record { place = p; relation = r; fault = f }

-- a relation is kept by its name, its columns and what is kept of its rows
pub meaning_of : (n : Located Identifier) (heading : Heading) (rows : List (Located RawRow)) (body : Body) (columns : List Column) (f : Option DbFault) → IsHeading heading → IsBodyOf heading rows body → f ≡ sooner database_standing heading.fault body.fault → columns ≡ map column_of heading.columns
    → IsMeaningOf (written_with n heading.columns rows) (kept_with n.place (meant_with n.item columns body.rows) f)
meaning_of n heading rows body columns f is h e d = record {
  place = refl;
  name = refl;
  fault = meaning_fault n heading rows body f is h e;
  meant = λ none.
      let both = none_of_both database_standing heading.fault body.fault (sym e ∙ none) in
      ap (λ cs. meant_with n.item cs body.rows) d ∙ ap (meant_with n.item (map column_of heading.columns)) (h.meant both.0 both.1);
}

-- what is kept of relations and one more
pub gathered_more : (tree : List RawRelation) (raw : RawRelation) (meaning : Meaning) (old new : Gathered) (found : Option DbFault) → IsMeaningOf raw meaning → AreRelationsGathered tree old
    → found ≡ earliest database_standing (fault_if (is_named_in (keys old.names) meaning.relation.name) (database_fault Name meaning.place)) → keys new.names ≡ insert_key bytes_eq (keys old.names) meaning.relation.name
    → new.repeated ≡ sooner database_standing old.repeated found → new.within ≡ sooner database_standing old.within meaning.fault → new.relations ≡ old.relations ++ meaning.relation ∷ [] → AreRelationsGathered (tree ++ raw ∷ []) new
gathered_more tree raw meaning old new found m g e put again inner kept = record {
  names = λ further.
      let all = earliest database_standing (repeated (database_fault Name) [] (map (λ r. r.name) tree ++ raw.name ∷ further)) in
      names_walk raw.name further (keys old.names) (keys new.names) old.repeated new.repeated found all (g.names (raw.name ∷ further))
      (e ∙ ap (λ n. earliest database_standing (fault_if (is_named_in (keys old.names) n) (database_fault Name meaning.place))) m.name ∙ ap (λ p. earliest database_standing (fault_if (is_named_in (keys old.names) raw.name.item) (database_fault Name p))) m.place)
      (put ∙ ap (insert_key bytes_eq (keys old.names)) m.name) again
      ∙ ap (λ l. earliest database_standing (repeated (database_fault Name) [] l)) (sym (append_assoc (map (λ r. r.name) tree) (raw.name ∷ []) further) ∙ ap (λ l. l ++ further) (sym (map-append (λ r. r.name) tree (raw ∷ []))));
  within = first_more relation_faults tree raw old.within new.within meaning.fault g.within m.fault inner;
  meant = λ none.
      let before = none_of_both database_standing old.within meaning.fault (sym inner ∙ none) in
      kept ∙ ap (λ l. l ++ meaning.relation ∷ []) (g.meant before.0) ∙ ap (λ r. database_of tree ++ r ∷ []) (m.meant before.1) ∙ sym (map-append relation_of tree (raw ∷ []));
}

-- the first fault of all is the sooner one of a name that stands twice and of those within relations
pub gathered_fault : (tree : List RawRelation) (g : Gathered) (f : Option DbFault) → AreRelationsGathered tree g → f ≡ sooner database_standing g.repeated g.within → f ≡ earliest database_standing (database_faults tree)
gathered_fault tree g f h e =
    let names = map (λ r. r.name) tree in
    let again : g.repeated ≡ earliest database_standing (repeated (database_fault Name) [] names) = sym (sooner_than_none database_standing g.repeated) ∙ h.names [] ∙ ap (λ l. earliest database_standing (repeated (database_fault Name) [] l)) (append-nil names) in
    e ∙ ap (λ x. sooner database_standing x g.within) again ∙ ap (sooner database_standing (earliest database_standing (repeated (database_fault Name) [] names))) h.within ∙ sym (first_of_both database_standing (repeated (database_fault Name) [] names) (flat_map relation_faults tree))

-- what is gathered without a fault is what the tree means
pub gathered_sound : (tree : List RawRelation) (g : Gathered) → AreRelationsGathered tree g → earliest database_standing (database_faults tree) ≡ None → IsSoundTree tree g.relations
gathered_sound tree g h none =
    let again = repeated (database_fault Name) [] (map (λ r. r.name) tree) in
    let empty : database_faults tree ≡ [] = none_is_empty database_standing (database_faults tree) none in
    record { sound = empty; meant = h.meant (h.within ∙ ap (earliest database_standing) (second_empty again (flat_map relation_faults tree) empty)) }
