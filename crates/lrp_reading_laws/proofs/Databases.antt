-- A text is of one database at most, and one that is has no fault; every other has one.
use Rattle.std.proofs.Common.{◌≡◌, ℕ, List, Ok, Err}
use Rattle.lrp_model.specs.DatabaseReading.{IsDatabase, IsDatabaseFault}
use Rattle.lrp_model.specs.declared.faults.DbFault.{DbFault}
use Rattle.lrp_model.specs.declared.relations.Relation.{Relation}
use Rattle.lrp_rel.specs.declared.trees.ReadFault.TheVariants.{Fault}
use Rattle.lrp_rel.proofs.WholeFault.{every_database, every_fault}

-- what is read of a text is each database that the text is of
pub one_database : (bytes : List ℕ) (db other : List Relation) → IsDatabase bytes db → IsDatabase bytes other → db ≡ other
one_database bytes db other a b = every_database bytes (Ok db) a tt other b

-- and where it has a fault, nothing is read
pub no_database_fault : (bytes : List ℕ) (db : List Relation) (fault : DbFault) → IsDatabase bytes db → IsDatabaseFault bytes fault → ⊥
no_database_fault bytes db fault a f = every_fault bytes (Ok db) a tt fault f

-- nothing is read of a text with a fault, for each fault that it has
pub one_database_fault : (bytes : List ℕ) (fault other : DbFault) → IsDatabaseFault bytes fault → IsDatabaseFault bytes other → fault ≡ other
one_database_fault bytes fault other f g = every_fault bytes (Err (Fault fault)) tt f other g
