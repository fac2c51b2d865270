use Rattle.lrp_query.proofs.Languages.{plain}
use Rattle.lrp_query.proofs.LanguageTexts.{one_fault}
use Rattle.lrp_reading_laws.proofs.laws.queries_have_one_fault.Goals as goal

pub returns : goal.returns
returns c = λ bytes fault other f g. one_fault plain bytes fault other f g
