use Rattle.lrp_reading_laws.proofs.Databases.{one_database_fault}
use Rattle.lrp_reading_laws.proofs.laws.databases_have_one_fault.Goals as goal

pub returns : goal.returns
returns c = λ bytes fault other f g. one_database_fault bytes fault other f g
