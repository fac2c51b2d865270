use Rattle.lrp_reading_laws.proofs.FileTexts.{file_entries}
use Rattle.lrp_reading_laws.proofs.laws.expanded_files_have_data_texts.Goals as goal

pub returns : goal.returns
returns c = λ database file relations f d is. file_entries database file relations f d is
