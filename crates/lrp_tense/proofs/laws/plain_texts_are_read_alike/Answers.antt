use Rattle.lrp_tense.proofs.WithoutOperators.{plain_text, plain_expansion}
use Rattle.lrp_tense.proofs.laws.plain_texts_are_read_alike.Goals as goal

pub returns-clause-read : goal.returns-clause-read
returns-clause-read c = λ bytes q h. plain_text bytes q h

pub returns-clause-expanded : goal.returns-clause-expanded
returns-clause-expanded c = λ bytes q t h k. plain_expansion bytes q t h k
