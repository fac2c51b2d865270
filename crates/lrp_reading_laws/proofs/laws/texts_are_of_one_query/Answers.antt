use Rattle.lrp_query.proofs.Languages.{plain}
use Rattle.lrp_query.proofs.LanguageTexts.{one_query}
use Rattle.lrp_reading_laws.proofs.laws.texts_are_of_one_query.Goals as goal

pub returns : goal.returns
returns c = λ bytes q other a b. one_query plain bytes q other a b
