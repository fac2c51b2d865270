use Rattle.lrp_query.proofs.Languages.{tense}
use Rattle.lrp_query.proofs.LanguageTexts.{one_query}
use Rattle.lrp_tense.proofs.LawfulTense.{expandable_query}
use Rattle.lrp_tense.proofs.laws.texts_are_one_query.Goals as goal

pub returns-clause-one : goal.returns-clause-one
returns-clause-one c = λ bytes q other a b. one_query tense bytes q other a b

pub returns-clause-expandable : goal.returns-clause-expandable
returns-clause-expandable c = λ bytes q a. expandable_query bytes q a
