use Rattle.lrp_reading_laws.proofs.Databases.{no_database_fault}
use Rattle.lrp_reading_laws.proofs.laws.databases_have_no_fault.Goals as goal

pub returns : goal.returns
returns c = λ bytes relations fault d h. no_database_fault bytes relations fault d h
