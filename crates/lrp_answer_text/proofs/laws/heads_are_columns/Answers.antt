use Rattle.lrp_answer_text.proofs.HeadColumns.{head_columns}
use Rattle.lrp_answer_text.proofs.laws.heads_are_columns.Goals as goal

pub returns : goal.returns
returns c = head_columns
