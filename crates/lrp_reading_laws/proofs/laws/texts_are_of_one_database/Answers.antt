use Rattle.lrp_reading_laws.proofs.Databases.{one_database}
use Rattle.lrp_reading_laws.proofs.laws.texts_are_of_one_database.Goals as goal

pub returns : goal.returns
returns c = λ bytes relations other a b. one_database bytes relations other a b
