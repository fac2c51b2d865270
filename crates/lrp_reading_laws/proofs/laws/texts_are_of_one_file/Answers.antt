use Rattle.lrp_query.proofs.FileTexts.{one_file}
use Rattle.lrp_reading_laws.proofs.laws.texts_are_of_one_file.Goals as goal

pub returns : goal.returns
returns c = λ bytes f other a b. one_file bytes f other a b
