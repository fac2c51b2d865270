use Rattle.lrp_query.proofs.Languages.{tense}
use Rattle.lrp_query.proofs.LanguageTexts.{one_fault}
use Rattle.lrp_reading_laws.proofs.laws.tense_queries_have_one_fault.Goals as goal

pub returns : goal.returns
returns c = λ bytes fault other f g. one_fault tense bytes fault other f g
