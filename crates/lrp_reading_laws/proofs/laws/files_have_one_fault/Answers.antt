use Rattle.lrp_query.proofs.FileTexts.{one_file_fault}
use Rattle.lrp_reading_laws.proofs.laws.files_have_one_fault.Goals as goal

pub returns : goal.returns
returns c = λ bytes fault other a b. one_file_fault bytes fault other a b
