use Rattle.lrp_query.proofs.FileTexts.{no_file_fault}
use Rattle.lrp_reading_laws.proofs.laws.files_have_no_fault.Goals as goal

pub returns : goal.returns
returns c = λ bytes f fault text refused. no_file_fault bytes f fault text refused
