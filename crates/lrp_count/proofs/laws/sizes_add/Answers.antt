-- The one time of an answer lies in one of the two windows.
use Rattle.lrp_model.specs.Satisfaction.{IsAnswer}
use Rattle.lrp_count.proofs.WindowLaws.{one_time, sizes_added}
use Rattle.lrp_count.proofs.laws.sizes_add.Goals as goal

pub returns : goal.returns
returns c = λ db q from middle to size other one low high a b. sizes_added (IsAnswer db q) from middle to (one_time db q one) low high size other a b
