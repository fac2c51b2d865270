use Rattle.lrp_reading_laws.proofs.EveryFile.{every_file}
use Rattle.lrp_reading_laws.proofs.laws.every_text_is_a_file_or_faulty.Goals as goal

pub returns : goal.returns
returns c = λ bytes. every_file bytes
