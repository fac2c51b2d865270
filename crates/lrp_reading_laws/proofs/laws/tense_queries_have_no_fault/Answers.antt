use Rattle.lrp_query.proofs.Languages.{tense}
use Rattle.lrp_query.proofs.LanguageTexts.{no_fault}
use Rattle.lrp_reading_laws.proofs.laws.tense_queries_have_no_fault.Goals as goal

pub returns : goal.returns
returns c = λ bytes q fault a f. no_fault tense bytes q fault a f
