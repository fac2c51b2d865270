-- A set has one number of rows.
use Rattle.lrp_canon.specs.Answers.{HasNumber}
use Rattle.lrp_canon.proofs.CountLaws.{one_row_count}
use Rattle.lrp_canon.proofs.laws.answers_have_one_row_count.Goals as goal

pub returns : goal.returns
returns c = λ db q. one_row_count (HasNumber db q)
