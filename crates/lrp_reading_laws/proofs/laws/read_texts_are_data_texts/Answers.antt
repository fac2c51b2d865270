use Rattle.lrp_reading_laws.proofs.FormulaTexts.{all_entries}
use Rattle.lrp_reading_laws.proofs.laws.read_texts_are_data_texts.Goals as goal

pub returns : goal.returns
returns c = λ database query relations q d is. all_entries database query relations q d is
