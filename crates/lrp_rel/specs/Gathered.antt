-- What a reader keeps of the rows and relations that it has read: what they mean, and the first of their faults.
use Rattle.std.specs.Prelude.{◌≡◌, List, [], ◌++◌, map, None, Result, Ok, Err}
use Rattle.std.specs.List.{flat_map}
use Rattle.indexmap.specs.IndexSet.{keys}
use Rattle.lrp_model.specs.Texts.{Identifier}
use Rattle.lrp_model.specs.Tokens.{Tokens}
use Rattle.lrp_model.specs.Faults.{earliest, repeated, ninth}
use Rattle.lrp_model.specs.DatabaseFaults.{database_standing, database_fault, named_at, row_faults, relation_faults}
use Rattle.lrp_model.specs.DatabaseMeaning.{row_of, relation_of, database_of}
use Rattle.lrp_model.specs.declared.tokens.Fault.{Fault}
use Rattle.lrp_model.specs.declared.faults.DbKind.TheVariants.{Name, Wide}
use Rattle.lrp_model.specs.declared.written.Located.{Located}
use Rattle.lrp_model.specs.declared.written.RawRow.{RawRow}
use Rattle.lrp_model.specs.declared.written.RawRelation.{RawRelation}
use Rattle.lrp_text.specs.Parsers.{ParseOutcome, Reads}
use Rattle.lrp_model.specs.Sooner.{sooner}
use Rattle.lrp_rel.specs.Times.{AreTimesOf}
use Rattle.lrp_rel.specs.declared.gathering.Heading.{Heading}
use Rattle.lrp_rel.specs.declared.gathering.Body.{Body}
use Rattle.lrp_rel.specs.declared.gathering.Meaning.{Meaning}
use Rattle.lrp_rel.specs.declared.gathering.Gathered.{Gathered}

-- the rule reads a value, and what is kept stands for it
pub record IsReadInto {A B : Type 0} (Stands : A → B → Type 0) (outcome : ParseOutcome A) (kept : B) (left : Tokens) : Type 0 where
  pub value : A
  pub read : outcome ≡ Ok (value, left)
  pub stands : Stands value kept

-- what a function ensures that keeps something in place of what the rule reads: that it stands for it, or the rule's fault, unless memory ran out
abbrev pub ReadsInto : {A B : Type 0} → (A → B → Type 0) → ParseOutcome A → Result B Fault → Tokens → Type 0
ReadsInto Stands outcome (Ok kept) left = IsReadInto Stands outcome kept left
ReadsInto Stands outcome (Err k) left = Reads outcome (Err k) left

-- the names are those of the time columns, and the fault is the first that columns have
pub record IsHeading (heading : Heading) : Type 0 where
  pub times : AreTimesOf heading.columns (keys heading.times)
  pub fault : heading.fault ≡ earliest database_standing (repeated (database_fault Name) [] (map named_at heading.columns) ++ ninth (database_fault Wide) 0 0 heading.columns)

-- the first fault of the rows, and the rows that they mean where neither they nor the columns have one
pub record IsBodyOf (heading : Heading) (rows : List (Located RawRow)) (body : Body) : Type 0 where
  pub fault : body.fault ≡ earliest database_standing (flat_map (row_faults heading.columns) rows)
  pub meant : heading.fault ≡ None → body.fault ≡ None → body.rows ≡ map (λ row. row_of heading.columns row.item) rows

-- the place and the name of a relation, its first fault, and the relation that it means where it has none
pub record IsMeaningOf (raw : RawRelation) (meaning : Meaning) : Type 0 where
  pub place : meaning.place ≡ raw.name.place
  pub name : meaning.relation.name ≡ raw.name.item
  pub fault : meaning.fault ≡ earliest database_standing (relation_faults raw)
  pub meant : meaning.fault ≡ None → meaning.relation ≡ relation_of raw

-- the names of relations and the first that stands twice, whatever names follow; the first fault of their own, and the relations that they mean where they have none
pub record AreRelationsGathered (tree : List RawRelation) (gathered : Gathered) : Type 0 where
  pub names : (further : List (Located Identifier)) → sooner database_standing gathered.repeated (earliest database_standing (repeated (database_fault Name) (keys gathered.names) further)) ≡ earliest database_standing (repeated (database_fault Name) [] (map (λ r. r.name) tree ++ further))
  pub within : gathered.within ≡ earliest database_standing (flat_map relation_faults tree)
  pub meant : gathered.within ≡ None → gathered.relations ≡ database_of tree
