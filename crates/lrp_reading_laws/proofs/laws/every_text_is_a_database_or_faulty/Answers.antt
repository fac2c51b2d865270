use Rattle.lrp_reading_laws.proofs.EveryDatabase.{every_database}
use Rattle.lrp_reading_laws.proofs.laws.every_text_is_a_database_or_faulty.Goals as goal

pub returns : goal.returns
returns c = λ bytes. every_database bytes
