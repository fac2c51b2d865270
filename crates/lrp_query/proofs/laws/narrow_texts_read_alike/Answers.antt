use Rattle.lrp_query.proofs.FileNarrow.{narrow_alike}
use Rattle.lrp_query.proofs.laws.narrow_texts_read_alike.Goals as goal

pub returns : goal.returns
returns c = λ l bytes q narrow said. narrow_alike narrow bytes q said
