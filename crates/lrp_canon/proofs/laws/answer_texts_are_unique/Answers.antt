use Rattle.lrp_canon.proofs.TextLaws.{one_text}
use Rattle.lrp_canon.proofs.laws.answer_texts_are_unique.Goals as goal

pub returns : goal.returns
returns c = λ K called db other_db q other bytes other_bytes heads one same text other_text. one_text K db other_db q other heads one same bytes other_bytes text other_text
