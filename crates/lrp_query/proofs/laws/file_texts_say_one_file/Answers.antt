use Rattle.lrp_query.proofs.FileTexts.{one_said}
use Rattle.lrp_query.proofs.laws.file_texts_say_one_file.Goals as goal

pub returns : goal.returns
returns c = λ tree other tokens lawful spelled again. one_said tree other tokens lawful spelled again
