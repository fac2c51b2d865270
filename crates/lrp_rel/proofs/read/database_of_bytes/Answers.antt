-- What is made of what a text says is its database, and a refusal of it is one of the text.
use Rattle.std.proofs.Common.{ℕ, Result, Ok, Err, IfOk, IfErr, List}
use Rattle.lrp_model.specs.DatabaseReading.{IsDatabase}
use Rattle.lrp_model.specs.declared.relations.Relation.{Relation}
use Rattle.lrp_model.specs.declared.written.RawRelation.{RawRelation}
use Rattle.lrp_rel.specs.declared.trees.ReadFault.{ReadFault}
use Rattle.lrp_rel.specs.declared.gathering.Gathered.{Gathered}
use Rattle.lrp_rel.specs.Gathered.{AreRelationsGathered}
use Rattle.lrp_rel.specs.Reading.{IsGatheredFrom, IsSoundTree, IsRefusedBy, IsTreeRefusal}
use Rattle.lrp_rel.proofs.WholeFault.{tree_refused}
use Rattle.lrp_rel.proofs.read.database_of_bytes.Goals as goal

-- the database of a text, from what was gathered
is_database : (bytes : List ℕ) (g : Gathered) (r : Result (List Relation) ReadFault) → IsGatheredFrom bytes g → IfOk r (λ db. (tree : List RawRelation) → AreRelationsGathered tree g → IsSoundTree tree db) → IfOk r (IsDatabase bytes)
is_database bytes g (Ok db) from h = let sound = h from.tree from.are in record { tree = from.tree; text = from.text; sound = sound.sound; meant = sound.meant }
is_database bytes g (Err e) from h = tt

-- the refusal of a text, from what was gathered
is_refused : (bytes : List ℕ) (g : Gathered) (r : Result (List Relation) ReadFault) → IsGatheredFrom bytes g → IfErr r (λ e. (tree : List RawRelation) → AreRelationsGathered tree g → IsTreeRefusal tree e) → IfErr r (IsRefusedBy bytes)
is_refused bytes g (Ok db) from h = tt
is_refused bytes g (Err e) from h = tree_refused bytes from.tree e from.text (h from.tree from.are)

pub returns-clause-read : goal.returns-clause-read
returns-clause-read c = is_database c.args.bytes.now c.in_ok-gathered.gathered c.database_of.result c.in_ok-gathered.ensures.gathered c.database_of.ensures.read

pub returns-clause-refused : goal.returns-clause-refused
returns-clause-refused c = is_refused c.args.bytes.now c.in_ok-gathered.gathered c.database_of.result c.in_ok-gathered.ensures.gathered c.database_of.ensures.refused
