use Rattle.lrp_reading_laws.proofs.FormulaTexts.{tense_entries}
use Rattle.lrp_reading_laws.proofs.laws.expanded_texts_are_data_texts.Goals as goal

pub returns : goal.returns
returns c = λ database query relations q d is. tense_entries database query relations q d is
