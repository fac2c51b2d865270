use Rattle.lrp_query.proofs.Languages.{tense}
use Rattle.lrp_reading_laws.proofs.EveryQuery.{every_query}
use Rattle.lrp_reading_laws.proofs.laws.every_text_is_a_tense_query_or_faulty.Goals as goal

pub returns : goal.returns
returns c = λ bytes. every_query tense bytes
